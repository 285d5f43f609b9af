-- States are sound at the start, and stay so when a part changes that the invariant doesn't look at.
use Rattle.std.specs.Prelude.{ℕ, true, false, List, [], ◌∷◌, All, Option, None, Some}
use Rattle.std.specs.List.{AllByRecursion}
use Rattle.std.proofs.lemmas.List.Elements.{All-nil, All-append, All-from_recursion, recursion_from_All}
use Rattle.hph_php.specs.Values.{Value}
use Rattle.hph_php.specs.State.{Name, Variables, Heap, Class, Frame, State, folded, on_core, on_heap, frames_with, with_constant, with_function, enter}
use Rattle.hph_php.specs.Declarations.{Codes, Code, a_body, a_value, initial_values, code_numbered}
use Rattle.hph_php.specs.Invariants.{IsFunctionOf, IsClassOf, FitsCode, IsSound}
use Rattle.hph_sound.specs.Laws.{StartIsSound, RulesKeepSoundness}

pub start_is_sound : StartIsSound
start_is_sound program = record {
  declared = record { functions = All-nil _; classes = All-nil _; objects = All-nil _ };
  frames = All-nil _;
}

abbrev Fits : Codes → Heap → Frame → Type 0
Fits program heap f = FitsCode heap f (code_numbered program f.code)

all_by : {A : Type 0} (P Q : A → Type 0) → ((a : A) → P a → Q a) → (xs : List A) → All P xs → All Q xs
all_by {A = A} P Q go xs all = All-from_recursion Q xs (each xs (recursion_from_All P xs all))
  where
    each : (xs : List A) → AllByRecursion P xs → AllByRecursion Q xs
    each [] h = tt
    each (x ∷ xs) h = (go x h.0, each xs h.1)

-- what fits doesn't hang on the variables of a frame
variables_kept : (heap : Heap) (f : Frame) (variables : Variables) (code : Option Code) →
    FitsCode heap f code → FitsCode heap (record f { variables = variables }) code
variables_kept heap f variables (Some (a_body g (Some class) false)) fits = fits
variables_kept heap f variables (Some (a_body g (Some class) true)) fits = fits
variables_kept heap f variables (Some (a_body g None is_static)) fits = fits
variables_kept heap f variables (Some (a_value x class)) fits = fits
variables_kept heap f variables (Some (initial_values properties class)) fits = fits
variables_kept heap f variables None fits = fits

-- a heap with the same objects and classes
abbrev remade : List (Name × ℕ) → List (Name × Value) → List ℕ → Heap → Heap
remade functions constants entered heap = record heap { functions = functions; constants = constants; entered = entered }

fits_kept : (heap : Heap) (functions : List (Name × ℕ)) (constants : List (Name × Value)) (entered : List ℕ) (f : Frame) (code : Option Code) →
    FitsCode heap f code → FitsCode (remade functions constants entered heap) f code
fits_kept heap functions constants entered f (Some (a_body g (Some class) false)) fits = fits
fits_kept heap functions constants entered f (Some (a_body g (Some class) true)) fits = fits
fits_kept heap functions constants entered f (Some (a_body g None is_static)) fits = fits
fits_kept heap functions constants entered f (Some (a_value x class)) fits = fits
fits_kept heap functions constants entered f (Some (initial_values properties class)) fits = fits
fits_kept heap functions constants entered f None fits = fits

module _ (program : Codes) where
  class_kept : (heap : Heap) (functions : List (Name × ℕ)) (constants : List (Name × Value)) (entered : List ℕ) (c : Class) →
      IsClassOf program heap c → IsClassOf program (remade functions constants entered heap) c
  class_kept heap functions constants entered c is =
      record { placed = is.placed; numbered = is.numbered; members = is.members; parent = is.parent }

  heap_kept : (st : State) (functions : List (Name × ℕ)) (constants : List (Name × Value)) (entered : List ℕ) →
      All (IsFunctionOf program) functions → IsSound program st → IsSound program (on_core (on_heap (remade functions constants entered)) st)
  heap_kept st functions constants entered all sound = record {
    declared = record {
      functions = all;
      classes = all_by (IsClassOf program st.core.heap) (IsClassOf program (remade functions constants entered st.core.heap))
          (class_kept st.core.heap functions constants entered) st.core.heap.classes sound.declared.classes;
      objects = sound.declared.objects;
    };
    frames = all_by (Fits program st.core.heap) (Fits program (remade functions constants entered st.core.heap))
        (λ f. fits_kept st.core.heap functions constants entered f (code_numbered program f.code)) st.frames sound.frames;
  }

  first_kept : (heap : Heap) (variables : Variables) (fs : List Frame) → All (Fits program heap) fs → All (Fits program heap) (frames_with variables fs)
  first_kept heap variables [] all = all
  first_kept heap variables (f ∷ fs) all = All-from_recursion (Fits program heap) (record f { variables = variables } ∷ fs) (
    variables_kept heap f variables (code_numbered program f.code) (recursion_from_All (Fits program heap) (f ∷ fs) all).0,
    (recursion_from_All (Fits program heap) (f ∷ fs) all).1,
  )

pub rules_keep_soundness : (program : Codes) → RulesKeepSoundness program
rules_keep_soundness program = record {
  printing = λ bytes st sound. record { declared = sound.declared; frames = sound.frames };
  places = λ go st sound. record { declared = sound.declared; frames = sound.frames };
  variables = λ variables st sound. record { declared = sound.declared; frames = first_kept program st.core.heap variables st.frames sound.frames };
  constants = λ name value st sound. heap_kept program st st.core.heap.functions (with_constant name value st.core.heap).constants st.core.heap.entered
      sound.declared.functions sound;
  entries = λ file st sound. heap_kept program st st.core.heap.functions st.core.heap.constants (enter file st.core.heap).entered sound.declared.functions sound;
  functions = λ name code is st sound. heap_kept program st (with_function name code st.core.heap).functions st.core.heap.constants st.core.heap.entered
      (All-append (IsFunctionOf program) st.core.heap.functions ((folded name, code) ∷ []) sound.declared.functions
      (All-from_recursion (IsFunctionOf program) ((folded name, code) ∷ []) (is, tt))) sound;
}
