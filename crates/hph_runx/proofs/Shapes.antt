-- What an expression is to the node around it: a value, a variable, or a path with its base and steps; and paths as a whole.
use Rattle.std.proofs.Common.{◌≡◌, ℕ, suc, ◌+◌, ◌≤◌, List, [], ◌∷◌, ◌++◌, length, map, refl, sym, ap, ◌∙◌, subst, arith, append_assoc, Option, Some, None}
use Rattle.std.proofs.lemmas.List.{append-nil}
use Rattle.std.specs.Prelude.{Bool, true, false, IfSome, bytes_eq, if◌then◌else◌, slice_get}
use Rattle.std.specs.List.{list_any}
use Rattle.std.specs.Option.{unwrap_or, option_map_or}
use Rattle.hph_wasm.specs.declared.instr.Instr.{Instr}
use Rattle.hph_wasm.specs.declared.value.Value.{Value as Word}
use Rattle.hph_php.specs.Values.{Value, Null}
use Rattle.hph_php.specs.State.{State, Name, variable_value}
use Rattle.hph_php.specs.Answers.{Means, Answer, Gets, Ends, More, proceed, bind, give, look, each}
use Rattle.hph_php.specs.Paths.{PathStep, unless_null}
use Rattle.hph_php.specs.Targets.{Reading, Form, plain_variable, a_path, from_directory, another, Base, a_variable, variable_base, read_from, try_from, try_by, try}
use Rattle.hph_php.specs.Targets as target
use Rattle.hph_effects.specs.declared.row.Row.TheVariants as r
use Rattle.hph_effects.specs.Hosts.{Item, a_value, a_place, a_step}
use Rattle.hph_effects.specs.Paths.{is_writable, is_mere_value}
use Rattle.hph_plan.specs.Plan.{Plan}
use Rattle.hph_lowering.specs.Code.{Code, with_both, all, plain, call, number, Scope, slot_of, by_number}
use Rattle.hph_lowering.specs.Expressions.{Lowered, Step, valued, slot_code, step_code, step_binds, binds_of, codes_of, is_bound, along, depth, try_code}
use Rattle.hph_seqv.specs.Simulates.{Setup, Situation, Runs, Everywhere, no_words, one_value, Values}
use Rattle.hph_seqv.proofs.Joins.{then_on, more, over, narrowed, meant, makes}
use Rattle.hph_forms.specs.Bases.{stacked, IsBase}
use Rattle.hph_forms.proofs.Lists.{Each, each_none, each_more, then_each}
use Rattle.hph_forms.proofs.PathRows.{is_there, if_there, reads, tries}
use Rattle.hph_forms.proofs.Pins.{from_variable, from_value}
use Rattle.hph_forms.proofs.Tries.{Tries}
use Rattle.hph_runx.specs.Covers.{Cover}
use Rattle.hph_runx.specs.Runs.{Planned, setup}
use Rattle.hph_runx.proofs.Codes.{with_both_holds, one_holds, by_number_holds, holds_more}

-- a form that is no path
abbrev pub IsMere : Form → Type 0
IsMere (plain_variable name) = ⊥
IsMere a_path = ⊥
IsMere _ = Unit {0}

abbrev pub is_place : Item → Bool
is_place (a_place l) = true
is_place _ = false

pub placed_writable : (item : Item) (steps : List PathStep) → is_place item ≡ true → is_writable item steps ≡ true
placed_writable (a_place l) steps e = refl
placed_writable (a_value v) steps e = absurd (none e)
  where
    none : false ≡ true → ⊥
    none e = cc
placed_writable _ steps e = refl

pub placed_whole : (item : Item) (steps : List PathStep) → is_place item ≡ true → is_mere_value item steps ≡ false
placed_whole (a_place l) steps e = refl
placed_whole (a_value v) steps e = absurd (none e)
  where
    none : false ≡ true → ⊥
    none e = cc
placed_whole _ steps e = refl

-- what holds no `=&` binds nothing
pub unbound : (root : Option Name) (A : Type 0) (x y : A) → (if is_bound root [] then x else y) ≡ y
unbound None A x y = refl
unbound (Some name) A x y = refl

module _ (plan : Plan) (scope : Scope) (planned : Planned plan scope) (d : ℕ) where
  abbrev s : Setup
  s = setup plan scope planned

  abbrev Within : ℕ → Code → Means Value → Type 0
  Within b code mean = IfSome code (λ code. Values s d Everywhere b code mean)

  -- the base of a path, by its root, its code, and whether what is behind it may be written
  pub data Based (b : ℕ) : Means Base → Option Name → Code → Bool → Type 0 where
    on_variable : (name : Name) → Based b (variable_base name) (Some name) (slot_code plan scope name (call r.Ref)) true
    on_value : (mean : Means Value) (code : Code) → Within b code mean → Based b (bind mean (λ v. give (target.a_value v))) None code false

  -- steps that are evaluated one after the other
  pub record StepsRun (b : ℕ) (ms : List (Means PathStep)) (ss : List Step) : Type 0 where
    pub binds : step_binds ss ≡ []
    pub long : length ms ≡ length ss
    pub run : IfSome (all (map step_code ss)) (λ code. Each s d Everywhere a_step b code ms)

  pub no_steps : (b : ℕ) → StepsRun b [] []
  no_steps b = record {
    binds = refl;
    long = refl;
    run = more s d Everywhere [] [] no_words (stacked a_step) 0 b (omega arith) (each_none s d Everywhere a_step);
  }

  pub data Shape (b : ℕ) : Reading → Lowered → Cover → Type 0 where
    mere_value : (form : Form) → IsMere form → (mean : Means Value) (binds : List Name) → binds ≡ [] → (code : Code) (runs : Bool) → Within b code mean →
        Shape b (record { form = form; value = mean; base = bind mean (λ v. give (target.a_value v)); steps = give [] }) (valued binds code)
        (record { runs = runs; target = false })
    whole_variable : (name : Name) (runs target : Bool) → Within b (slot_code plan scope name (call r.Get)) (look (λ st. unwrap_or (variable_value name st) Null)) →
        Shape b (record { form = plain_variable name; value = look (λ st. unwrap_or (variable_value name st) Null); base = variable_base name; steps = give [] })
        (record {
          variable = Some name;
          root = Some name;
          is_path = true;
          base = slot_code plan scope name (call r.Ref);
          steps = [];
          value = slot_code plan scope name (call r.Get);
          binds = [];
        })
        (record { runs = runs; target = target })
    behind : (b1 b2 : ℕ) → b1 + (b2 + 64) ≤ b → (base : Means Base) (root : Option Name) (code : Code) (rooted : Bool) → Based b1 base root code rooted →
        (ms : List (Means PathStep)) (ss : List Step) → StepsRun b2 ms ss → (mean : Means Value) (value : Code) → Within b value mean →
        (binds : List Name) → binds ≡ [] → (runs target : Bool) → (target ≡ true → rooted ≡ true) →
        Shape b (record { form = a_path; value = mean; base = base; steps = each ms })
        (record { variable = None; root = root; is_path = true; base = code; steps = ss; value = value; binds = binds })
        (record { runs = runs; target = target })

  -- ---- what a shape tells

  pub value_of : (b : ℕ) (x : Reading) (l : Lowered) (c : Cover) → Shape b x l c → Within b l.value x.value
  value_of b x l c (mere_value form is mean binds e code runs p) = p
  value_of b x l c (whole_variable name runs target p) = p
  value_of b x l c (behind b1 b2 le base root code rooted based ms ss steps mean value p binds e runs target into) = p

  pub binds_none : (b : ℕ) (x : Reading) (l : Lowered) (c : Cover) → Shape b x l c → l.binds ≡ []
  binds_none b x l c (mere_value form is mean binds e code runs p) = e
  binds_none b x l c (whole_variable name runs target p) = refl
  binds_none b x l c (behind b1 b2 le base root code rooted based ms ss steps mean value p binds e runs target into) = e
