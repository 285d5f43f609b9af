-- Variables, which the program has by names and the host by slots: a change of one is the same change of the other.
use Rattle.std.proofs.Common.{◌≡◌, ◌≢◌, ℕ, zero, suc, List, [], ◌∷◌, refl, sym, ap, ◌∙◌, subst, Option, Some, None}
use Rattle.std.specs.Prelude.{Bool, true, false, bytes_eq, cond, nat_eq}
use Rattle.std.specs.Option.{option_map, option_map_or, unwrap_or}
use Rattle.std.proofs.lemmas.Slice.Eq.{bytes_eq-Decides}
use Rattle.std.proofs.lemmas.Bool.{eqb-true, eqb-false}
use Rattle.hph_wasm.specs.declared.value.Value.{Value as Word}
use Rattle.hph_wasm.specs.declared.value.Value.TheVariants as word
use Rattle.hph_php.specs.Values.{Value, Null}
use Rattle.hph_php.specs.State.{State, Core, Heap, Name, Variables, Places as Cells, Located, named, with_named, joined, by_name, next_location, with_location, value_at, write_at, on_places, variables_in, variables, globals_with, frames_with, with_variables, placed, variable_value, set_variable, place_variable, location_in}
use Rattle.hph_php.specs.State as state
use Rattle.hph_php.specs.Declarations.{Codes}
use Rattle.hph_php.specs.Answers.{change, look}
use Rattle.hph_effects.specs.declared.row.Row.TheVariants as r
use Rattle.hph_effects.specs.Hosts.{Item, Held, Slots, HostFrame, done, push, only_if}
use Rattle.hph_effects.specs.Slots.{with_slot, by_slot, slots_in, has_slot, slots_of, at_slot}
use Rattle.hph_effects.specs.Slots as slots
use Rattle.hph_sound.proofs.Soundness.{rules_keep_soundness}
use Rattle.hph_seqv.specs.Simulates.{Setup, call, Situation, Around, Places, current, located, SameVariables, Keeps, IsSound, Fits, host_of, Runs, no_words, no_items, one_value, Values}
use Rattle.hph_seqv.proofs.Rows.{by_row}
use Rattle.hph_seqv.proofs.Values.{number}

-- ---- slots

pub slot_with : (slots : Slots) (s l : ℕ) → located (with_slot slots s l) s ≡ Some l
slot_with [] zero l = refl
slot_with [] (suc s) l = slot_with [] s l
slot_with (x ∷ xs) zero l = refl
slot_with (x ∷ xs) (suc s) l = slot_with xs s l

pub other_slot : (slots : Slots) (s t l : ℕ) → (s ≢ t) → located (with_slot slots s l) t ≡ located slots t
other_slot [] zero zero l apart = absurd (apart refl)
other_slot [] zero (suc t) l apart = refl
other_slot [] (suc s) zero l apart = refl
other_slot [] (suc s) (suc t) l apart = other_slot [] s t l (λ e. apart (ap suc e))
other_slot (x ∷ xs) zero zero l apart = absurd (apart refl)
other_slot (x ∷ xs) zero (suc t) l apart = refl
other_slot (x ∷ xs) (suc s) zero l apart = refl
other_slot (x ∷ xs) (suc s) (suc t) l apart = other_slot xs s t l (λ e. apart (ap suc e))

-- ---- names

same_name : (a b : Name) → bytes_eq a b ≡ true → a ≡ b
same_name a b e = (bytes_eq-Decides a b).0 e

itself : (a : Name) → bytes_eq a a ≡ true
itself a = (bytes_eq-Decides a a).1 refl

pub named_with : (pairs : Variables) (name : Name) (l : ℕ) → named name (with_named pairs name l) ≡ Some l
named_with [] name l = rw (itself name) refl
named_with (p ∷ ps) name l = by (bytes_eq name p.0) refl (named_with ps name l)
  where
    by : (t : Bool) → bytes_eq name p.0 ≡ t → named name (with_named ps name l) ≡ Some l → named name (with_named (p ∷ ps) name l) ≡ Some l
    by true e rest = rw (e, e) refl
    by false e rest = rw (e, e) rest

apart_test : (a b : Name) → (a ≢ b) → bytes_eq a b ≡ false
apart_test a b apart = by (bytes_eq a b) refl
  where
    by : (t : Bool) → bytes_eq a b ≡ t → t ≡ false
    by true e = absurd (apart (same_name a b e))
    by false e = refl

pub other_named : (pairs : Variables) (name other : Name) (l : ℕ) → (name ≢ other) → named other (with_named pairs name l) ≡ named other pairs
other_named [] name other l apart = rw (apart_test other name (λ e. apart (sym e))) refl
other_named (p ∷ ps) name other l apart = by (bytes_eq name p.0) refl (other_named ps name other l apart)
  where
    by : (t : Bool) → bytes_eq name p.0 ≡ t → named other (with_named ps name l) ≡ named other ps →
        named other (with_named (p ∷ ps) name l) ≡ named other (p ∷ ps)
    by true e rest =
        let differs : bytes_eq other p.0 ≡ false = apart_test other p.0 (λ e2. apart (same_name name p.0 e ∙ sym e2)) in
        rw (e, differs) refl
    by false e rest = rw e (ap (λ o. cond (bytes_eq other p.0) (Some p.1) o) rest)

pub some_same : (a b : ℕ) → ◌≡◌ {A = Option ℕ} (Some a) (Some b) → a ≡ b
some_same a b e = ap (λ o. unwrap_or o 0) e

none_some : (l : ℕ) → ◌≡◌ {A = Option ℕ} None (Some l) → ⊥
none_some l e = cc

-- ---- the same change of both

-- a slot that gets a location leaves those of others
pub keeps_bound : (slots : Slots) (i l : ℕ) → located slots i ≡ None → Keeps slots (with_slot slots i l)
keeps_bound slots i l none t k e = by (nat_eq i t) refl
  where
    by : (b : Bool) → nat_eq i t ≡ b → located (with_slot slots i l) t ≡ Some k
    by true same = absurd (none_some k (sym none ∙ ap (located slots) (eqb-true i t same) ∙ e))
    by false differs = other_slot slots i t l (λ same. eqb-false i t differs same) ∙ e

pub keeps_on : (a b c : Slots) → Keeps a b → Keeps b c → Keeps a c
keeps_on a b c p q i l e = q i l (p i l e)

module _ (slot : Name → Option ℕ) (one : (a b : Name) (i : ℕ) → slot a ≡ Some i → slot b ≡ Some i → a ≡ b) where
  -- a name's location and that of its slot
  pub same_bound : (slots : Slots) (variables : Variables) (name : Name) (i l : ℕ) → slot name ≡ Some i → SameVariables slot slots variables →
      SameVariables slot (with_slot slots i l) (with_named variables name l)
  same_bound slots variables name i l at each other t e = by (nat_eq i t) refl
    where
      by : (b : Bool) → nat_eq i t ≡ b → located (with_slot slots i l) t ≡ named other (with_named variables name l)
      by true same =
          let here : i ≡ t = eqb-true i t same in
          let is : name ≡ other = one name other i at (e ∙ ap Some (sym here)) in
          subst (λ t. located (with_slot slots i l) t ≡ named other (with_named variables name l)) here
          (slot_with slots i l ∙ sym (named_with variables name l) ∙ ap (λ n. named n (with_named variables name l)) is)
      by false differs =
          let apart : (i ≢ t) = (λ same. eqb-false i t differs same) in
          let names : (name ≢ other) = (λ same. apart (some_same i t (sym at ∙ ap slot same ∙ e))) in
          other_slot slots i t l apart ∙ each other t e ∙ sym (other_named variables name other l names)

  -- the slots and the variables after a change
  pub record Alike (before : Slots) (host : Located Slots) (program : Located Variables) : Type 0 where
    pub places : host.places ≡ program.places
    pub each : SameVariables slot host.variables program.variables
    pub kept : Keeps before host.variables

  module _ (slots : Slots) (variables : Variables) (cells : Cells) (each : SameVariables slot slots variables)
      (name : Name) (i : ℕ) (at : slot name ≡ Some i) where
    abbrev host : Located Slots
    host = record { variables = slots; places = cells }

    abbrev program : Located Variables
    program = record { variables = variables; places = cells }

    abbrev host_placed : Option ℕ → Located Slots
    host_placed o = record {
      variables = option_map_or (λ _. slots) o (with_slot slots i (next_location cells));
      places = option_map_or (λ _. cells) o (with_location None cells);
    }

    abbrev program_placed : Option ℕ → Located Variables
    program_placed o = record {
      variables = option_map_or (λ _. variables) o (with_named variables name (next_location cells));
      places = option_map_or (λ _. cells) o (with_location None cells);
    }

    pub place_alike : Alike slots (state.place by_slot i host) (state.place by_name name program)
    place_alike = subst (λ o. Alike slots (host_placed o) (program_placed (named name variables))) (sym (each name i at)) (by (named name variables) refl)
      where
        by : (o : Option ℕ) → named name variables ≡ o → Alike slots (host_placed o) (program_placed o)
        by (Some l) e = record { places = refl; each = each; kept = λ i l e. e }
        by None e = record {
          places = refl;
          each = same_bound slots variables name i (next_location cells) at each;
          kept = keeps_bound slots i (next_location cells) (each name i at ∙ e);
        }

    -- the slot has a location then
    pub is_placed : located (state.place by_slot i host).variables i ≡ Some (location_in by_slot i (state.place by_slot i host).variables)
    is_placed = by (located slots i) refl
      where
        by : (o : Option ℕ) → located slots i ≡ o → located (host_placed o).variables i ≡ Some (unwrap_or (located (host_placed o).variables i) 0)
        by (Some l) e = e ∙ ap (λ o. Some (unwrap_or o 0)) (sym e)
        by None e = slot_with slots i (next_location cells) ∙ ap (λ o. Some (unwrap_or o 0)) (sym (slot_with slots i (next_location cells)))

    pub set_alike : (v : Value) → Alike slots (state.set by_slot i v host) (state.set by_name name v program)
    set_alike v =
        let a = place_alike in
        record {
          places = ap (λ (o : Option ℕ). write_at (unwrap_or o 0) v (state.place by_slot i host).places) (a.each name i at)
              ∙ ap (λ cells. write_at (location_in by_name name (state.place by_name name program).variables) v cells) a.places;
          each = a.each;
          kept = a.kept;
        }

-- ---- a host and a program

-- the slots of the function that runs
pub slots_are : (hosts : List HostFrame) (p : Places) → slots_in (slots.frames_with p.own hosts) p.globals ≡ current hosts p
slots_are [] p = refl
slots_are (f ∷ fs) p = refl

pub has_as_many : (i : ℕ) (hosts : List HostFrame) (own : Slots) → has_slot i (slots.frames_with own hosts) ≡ has_slot i hosts
has_as_many i [] own = refl
has_as_many i (f ∷ fs) own = refl

-- with other slots of the function that runs
abbrev pub replaced : List HostFrame → Places → Slots → Places
replaced [] p slots = record p { globals = slots }
replaced (f ∷ fs) p slots = record p { own = slots }

host_changed : (hosts : List HostFrame) (core : Core) (stack : List Item) (holds : List Held) (p : Places) (l : Located Slots) →
    slots.with_located l (record { core = core; stack = stack; holds = holds; globals = p.globals; frames = slots.frames_with p.own hosts; declaring = None })
    ≡ record {
      core = on_places (λ _. l.places) core;
      stack = stack;
      holds = holds;
      globals = (replaced hosts p l.variables).globals;
      frames = slots.frames_with (replaced hosts p l.variables).own hosts;
      declaring = None;
    }
host_changed [] core stack holds p l = refl
host_changed (f ∷ fs) core stack holds p l = refl

frames_sound : (program : Codes) (heap : Heap) (frames : List state.Frame) (variables : Variables) → IsSound program heap frames →
    IsSound program heap (frames_with variables frames)
frames_sound program heap frames variables sound =
    let st : State = record { core = record { out = []; places = state.empty_places; heap = heap }; globals = []; frames = frames; called = [] } in
    let after = (rules_keep_soundness program).variables variables st (record { declared = sound.declared; frames = sound.fit }) in
    record { declared = sound.declared; fit = after.frames }

module _ (s : Setup) where
  -- what fits still does with other variables
  fits_by : (front behind : List Word) (hosts : List HostFrame) (since since_globals : Slots) (p : Places) (frames : List state.Frame)
      (globals : Variables) (heap : Heap) (slots : Slots) (variables : Variables) →
      Fits s (record { front = front; behind = behind; hosts = hosts; since = since; since_globals = since_globals }) p frames globals heap →
      SameVariables s.slot slots variables → Keeps (current hosts p) slots →
      Fits s (record { front = front; behind = behind; hosts = hosts; since = since; since_globals = since_globals })
      (replaced hosts p slots) (frames_with variables frames) (globals_with variables frames globals) heap
  fits_by front behind [] since since_globals p [] globals heap slots variables fits each kept = record {
    stays = fits.stays;
    same = tt;
    own = each;
    global = λ name i at. each name i (fits.stays.names name ∙ at);
    kept = keeps_on since p.globals slots fits.kept kept;
    kept_globals = tt;
    sound = frames_sound s.program heap [] variables fits.sound;
  }
  fits_by front behind [] since since_globals p (f ∷ fs) globals heap slots variables fits each kept = absurd fits.same
  fits_by front behind (h ∷ hs) since since_globals p [] globals heap slots variables fits each kept = absurd fits.same
  fits_by front behind (h ∷ hs) since since_globals p (f ∷ fs) globals heap slots variables fits each kept = record {
    stays = fits.stays;
    same = fits.same;
    own = each;
    global = fits.global;
    kept = keeps_on since p.own slots fits.kept kept;
    kept_globals = fits.kept_globals;
    sound = frames_sound s.program heap (f ∷ fs) variables fits.sound;
  }

  pub fits_with : (w : Situation) (p : Places) (frames : List state.Frame) (globals : Variables) (heap : Heap) (slots : Slots) (variables : Variables) →
      Fits s w p frames globals heap → SameVariables s.slot slots variables → Keeps (current w.hosts p) slots →
      Fits s w (replaced w.hosts p slots) (frames_with variables frames) (globals_with variables frames globals) heap
  fits_with w p frames globals heap slots variables fits each kept =
      fits_by w.front w.behind w.hosts w.since w.since_globals p frames globals heap slots variables fits each kept

  module _ (k : Around) (p : Places) (stack : List Item) (st : State) (before : Fits s k.situation p st.frames st.globals st.core.heap) where
    abbrev pub host_variables : Located Slots
    host_variables = record { variables = current k.situation.hosts p; places = st.core.places }

    abbrev pub program_variables : Located Variables
    program_variables = record { variables = variables st; places = st.core.places }

    -- what a change of variables comes to on the host
    pub record Changed (host : Located Slots → Located Slots) (program : Located Variables → Located Variables) : Type 0 where
      pub places : Places
      pub own : current k.situation.hosts places ≡ (host host_variables).variables
      pub fits : Fits s k.situation places (state.on_located program st).frames (state.on_located program st).globals (state.on_located program st).core.heap
      pub is : slots.on_located host (host_of k p stack st) ≡ host_of k places stack (state.on_located program st)

    current_replaced : (hosts : List HostFrame) (slots : Slots) → current hosts (replaced hosts p slots) ≡ slots
    current_replaced [] slots = refl
    current_replaced (f ∷ fs) slots = refl

    pub changed : (host : Located Slots → Located Slots) (program : Located Variables → Located Variables) →
        Alike s.slot s.one_slot (current k.situation.hosts p) (host host_variables) (program program_variables) → Changed host program
    changed host program a = record {
      places = replaced k.situation.hosts p (host host_variables).variables;
      own = current_replaced k.situation.hosts (host host_variables).variables;
      fits = fits_with k.situation p st.frames st.globals st.core.heap (host host_variables).variables (program program_variables).variables before a.each a.kept;
      is = ap (λ variables. slots.with_located (host (record { variables = variables; places = st.core.places })) (host_of k p stack st)) (slots_are k.situation.hosts p)
          ∙ host_changed k.situation.hosts st.core stack k.holds p (host host_variables)
          ∙ ap (λ cells. host_of k (replaced k.situation.hosts p (host host_variables).variables) stack (record st { core = on_places (λ _. cells) st.core })) a.places;
    }

    -- the slot of a name is one of the frame
    pub in_frame : (name : Name) (i : ℕ) → s.slot name ≡ Some i → has_slot i (slots.frames_with p.own k.situation.hosts) ≡ true
    in_frame name i at = has_as_many i k.situation.hosts p.own ∙ before.stays.roomy name i at

    -- it has the location of the name
    pub found_same : (name : Name) (i : ℕ) → s.slot name ≡ Some i → located (slots_of (host_of k p stack st)) i ≡ named name (variables st)
    found_same name i at = ap (λ slots. located slots i) (slots_are k.situation.hosts p) ∙ before.own name i at

-- ---- rows

module _ (s : Setup) (depth : ℕ) (Where : Situation → Type 0) (name : Name) (i : ℕ) (at : s.slot name ≡ Some i) where
  abbrev pub value_of : State → Value
  value_of st = unwrap_or (variable_value name st) Null

  pub gets : Values s depth Where 3 (number i ∷ call r.Get ∷ []) (look value_of)
  gets = by_row s depth Where r.Get (number i ∷ []) 1 [] (word.I32 i ∷ []) [] no_words one_value (look value_of)
      (λ rest below w. (word.I32 i ∷ below, refl, refl)) (λ n st k p here fits. (
        refl,
        record {
          places = p;
          result = None;
          fits = fits;
          is = ap (λ t. only_if t (host_of k p k.stack st) (done (push (unwrap_or (joined (option_map (value_at st.core.places)
              (located (slots_of (host_of k p k.stack st)) i))) Null) (host_of k p k.stack st)))) (in_frame s k p k.stack st fits name i at)
              ∙ ap (λ o. done (push (unwrap_or (joined (option_map (value_at st.core.places) o)) Null) (host_of k p k.stack st))) (found_same s k p k.stack st fits name i at);
          typed = refl;
        },
      ))

  pub sets : (v : Value) → Runs s depth Where [] (one_value v) no_words no_items 3 (number i ∷ call r.Set ∷ []) (change (set_variable name v))
  sets v = by_row s depth Where r.Set (number i ∷ []) 1 [] (word.I32 i ∷ []) (one_value v) no_words no_items (change (set_variable name v))
      (λ rest below w. (word.I32 i ∷ below, refl, refl)) (λ n st k p here fits.
      let c = changed s k p k.stack st fits (state.set by_slot i v) (state.set by_name name v)
      (set_alike s.slot s.one_slot (current k.situation.hosts p) (variables st) st.core.places fits.own name i at v) in (
        refl,
        record {
          places = c.places;
          result = None;
          fits = c.fits;
          is = ap (λ t. only_if t (host_of k p k.stack st) (done (slots.on_located (state.set by_slot i v) (host_of k p k.stack st))))
              (in_frame s k p k.stack st fits name i at) ∙ ap done c.is;
          typed = refl;
        },
      ))
