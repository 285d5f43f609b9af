-- Paths as a whole: the base, the steps, what else is evaluated, and the row that walks.
use Rattle.std.proofs.Common.{◌≡◌, ℕ, suc, ◌+◌, ◌≤◌, List, [], ◌∷◌, ◌++◌, length, map, refl, sym, ap, ◌∙◌, subst, arith, append_assoc, Option, Some, None}
use Rattle.std.specs.Prelude.{Bool, true, false, IfSome, if◌then◌else◌}
use Rattle.hph_wasm.specs.declared.instr.Instr.{Instr}
use Rattle.hph_wasm.specs.declared.value.Value.{Value as Word}
use Rattle.hph_php.specs.Values.{Value}
use Rattle.hph_php.specs.State.{State, Name}
use Rattle.hph_php.specs.Answers.{Means, Answer, Gets, Ends, More, bind, give, each, nothing}
use Rattle.hph_php.specs.Paths.{PathStep, unless_null}
use Rattle.hph_php.specs.Targets.{Reading, Form, plain_variable, a_path, from_directory, another, Base, a_variable, variable_base, read_from, try_from, try_by, try}
use Rattle.hph_php.specs.Targets as target
use Rattle.hph_effects.specs.declared.row.Row.TheVariants as r
use Rattle.hph_effects.specs.Hosts.{Item, a_value, a_place, a_step}
use Rattle.hph_plan.specs.Plan.{Plan}
use Rattle.hph_lowering.specs.Code.{Code, all, plain, call, number, Scope, slot_of, by_number}
use Rattle.hph_lowering.specs.Expressions.{Lowered, Step, valued, slot_code, step_code, step_binds, binds_of, codes_of, is_bound, along, depth, try_code, key_code, held_step_code, keys_in, repeated, taken, set_code, assign_code, assign_with, assign_unset, update_code}
use Rattle.hph_seqv.specs.Simulates.{Setup, Situation, Runs, Everywhere, no_words, no_items, one_value, Values}
use Rattle.hph_seqv.proofs.Joins.{then_on, more, narrowed, meant, makes, at_once}
use Rattle.hph_forms.specs.Bases.{stacked, IsBase}
use Rattle.hph_forms.proofs.Lists.{Each, Told, then_known, then_each}
use Rattle.hph_forms.proofs.PathRows.{is_there, if_there, reads, tries}
use Rattle.hph_forms.proofs.Pins.{from_variable, from_value}
use Rattle.hph_forms.proofs.Tries.{Tries}
use Rattle.hph_runx.specs.Covers.{Cover}
use Rattle.hph_runx.specs.Runs.{Planned, setup}
use Rattle.hph_runx.proofs.Codes.{four_hold, one_holds, two_hold, three_hold, alone_holds, with_code_holds, by_number_holds, holds_more}
use Rattle.hph_runx.proofs.Shapes.{IsMere, is_place, unbound, Based, on_variable, on_value, StepsRun, no_steps, Shape, mere_value, whole_variable, behind}

-- where nothing binds by `=&`, the base comes first, then the steps, then what else is evaluated
pub along_is : (l : Lowered) (ys : List Lowered) → step_binds l.steps ≡ [] → binds_of ys ≡ [] →
    along l ys ≡ all (l.base ∷ all (map step_code l.steps) ∷ all (codes_of ys) ∷ [])
along_is l ys e f =
    let held : Code = all (l.base ∷ plain (call r.Drop ∷ []) ∷ all (map key_code l.steps) ∷ all (codes_of ys)
    ∷ plain (repeated (keys_in l.steps + length ys) (call r.Hold ∷ [])) ∷ l.base ∷ all (map held_step_code l.steps) ∷ plain (repeated (length ys) taken) ∷ []) in
    let straight : Code = all (l.base ∷ all (map step_code l.steps) ∷ all (codes_of ys) ∷ []) in
    ap (λ binds. if is_bound l.root (binds ++ binds_of ys) then held else straight) e
    ∙ ap (λ binds. if is_bound l.root binds then held else straight) f
    ∙ unbound l.root Code held straight

untold : {A : Type 0} (x : Answer A) → Told (λ (a : A). Unit {0}) x
untold (Gets a n st) = tt
untold (Ends stop st) = tt
untold (More st) = tt

module _ (plan : Plan) (scope : Scope) (planned : Planned plan scope) (d : ℕ) where
  abbrev s : Setup
  s = setup plan scope planned

  module _ {A : Type 0} (leaves : A → List Word) (gives : A → List Item) where
    -- code that goes on from the item of a base, which is a location where the base is rooted
    abbrev pub GoesOn : Bool → ℕ → List Instr → (Base → Means A) → Type 0
    GoesOn rooted b code go = (item : Item) (base : Base) → (rooted ≡ true → is_place item ≡ true) →
        Runs s d (IsBase s item base) [] (item ∷ []) leaves gives b code (go base)

    -- the code of a base, before all code that goes on
    abbrev pub Begins : ℕ → Means Base → Bool → List Instr → Type 0
    Begins b mean rooted code = (bk : ℕ) (ck : List Instr) (go : Base → Means A) → GoesOn rooted bk ck go →
        Runs s d Everywhere [] [] leaves gives ((b + 3) + bk) (code ++ ck) (bind mean go)

    pub begins : (b : ℕ) (mean : Means Base) (root : Option Name) (code : Code) (rooted : Bool) → Based plan scope planned d b mean root code rooted →
        IfSome code (Begins b mean rooted)
    begins b mean root code rooted (on_variable name) = by_number_holds _ (slot_of scope name) (λ i. number i ∷ call r.Ref ∷ []) (λ i at bk ck go runs.
        more s d Everywhere [] [] leaves gives (3 + bk) ((b + 3) + bk) (omega arith)
        (from_variable s d leaves gives bk ck go name i at (λ l. runs (a_place l) (a_variable name) (λ e. refl))))
    begins b mean root code rooted (on_value value vcode p) = holds_more _ _ vcode p (λ cv v bk ck go runs.
        more s d Everywhere [] [] leaves gives (b + bk) ((b + 3) + bk) (omega arith)
        (from_value s d leaves gives bk ck go b cv value v (λ w. runs (a_value w) (target.a_value w) (λ e. e))))

    -- the whole path: what is evaluated behind the steps has items of its own
    pub along_runs : {B : Type 0} (items : B → List Item) (P : B → Type 0) (b1 b2 b3 b4 : ℕ) (base : Means Base) (root : Option Name) (code : Code) (rooted : Bool) →
        Based plan scope planned d b1 base root code rooted → (ms : List (Means PathStep)) (ss : List Step) → StepsRun plan scope planned d b2 ms ss →
        (mid : Means B) (other : Code) → ((n : ℕ) (st : State) → Told P (mid n st)) → IfSome other (λ code. Runs s d Everywhere [] [] no_words items b3 code mid) →
        (end : List Instr) (go : Base → List PathStep → B → Means A) →
        ((item : Item) (base : Base) (steps : List PathStep) (v : B) → (rooted ≡ true → is_place item ≡ true) → length steps ≡ length ss → P v →
        Runs s d (IsBase s item base) [] (items v ++ (stacked a_step steps ++ (item ∷ []))) leaves gives b4 end (go base steps v)) →
        IfSome (all (all (code ∷ all (map step_code ss) ∷ other ∷ []) ∷ plain end ∷ [])) (λ code.
        Runs s d Everywhere [] [] leaves gives ((b1 + 3) + (b2 + (b3 + b4))) code (bind base (λ base. bind (each ms) (λ steps. bind mid (go base steps)))))
    along_runs items P b1 b2 b3 b4 base root code rooted based ms ss steps mid other told p end go runs =
        four_hold _ _ _ _ code (all (map step_code ss)) other end (begins b1 base root code rooted based) steps.run p (λ ca cb cc a b c.
        a (b2 + (b3 + b4)) (cb ++ (cc ++ end)) (λ base. bind (each ms) (λ steps. bind mid (go base steps))) (λ item base placed.
        then_each s d (IsBase s item base) leaves gives a_step (item ∷ []) b2 (b3 + b4) cb (cc ++ end) ms (λ steps. bind mid (go base steps))
        (narrowed s d Everywhere (IsBase s item base) (λ w _. tt) [] [] no_words (stacked a_step) b2 cb (each ms) b) (λ xs long.
        then_known s d (IsBase s item base) leaves gives items P (stacked a_step xs ++ (item ∷ [])) b3 b4 cc end mid (go base xs) told
        (narrowed s d Everywhere (IsBase s item base) (λ w _. tt) [] [] no_words items b3 cc mid c) (λ v known.
        runs item base xs v placed (long ∙ steps.long) known))))

  -- ---- an expression as a path

  pub record PathOf (b : ℕ) (x : Reading) (l : Lowered) (target : Bool) : Type 0 where
    pub b1 : ℕ
    pub b2 : ℕ
    pub few : b1 + (b2 + 64) ≤ b
    pub rooted : Bool
    pub is_rooted : target ≡ true → rooted ≡ true
    pub based : Based plan scope planned d b1 x.base l.root l.base rooted
    pub means : List (Means PathStep)
    pub same : x.steps ≡ each means
    pub steps : StepsRun plan scope planned d b2 means l.steps

  pub as_path : (b : ℕ) (x : Reading) (l : Lowered) (c : Cover) → 64 ≤ b → Shape plan scope planned d b x l c → l.is_path ≡ true → PathOf b x l c.target
  as_path b x l c large (mere_value form is mean binds e code runs p) path = absurd (none path)
    where
      none : false ≡ true → ⊥
      none e = cc
  as_path b x l c large (whole_variable name runs target p) path = record {
    b1 = 0;
    b2 = 0;
    few = large;
    rooted = true;
    is_rooted = λ e. refl;
    based = on_variable name;
    means = [];
    same = refl;
    steps = no_steps plan scope planned d 0;
  }
  as_path b x l c large (behind b1 b2 le base root code rooted based ms ss steps mean value p binds e runs target into) path = record {
    b1 = b1;
    b2 = b2;
    few = le;
    rooted = rooted;
    is_rooted = into;
    based = based;
    means = ms;
    same = refl;
    steps = steps;
  }

  -- what may be written is a path
  pub target_path : (b : ℕ) (x : Reading) (l : Lowered) (c : Cover) → Shape plan scope planned d b x l c → c.target ≡ true → l.is_path ≡ true
  target_path b x l c (mere_value form is mean binds e code runs p) t = t
  target_path b x l c (whole_variable name runs target p) t = refl
  target_path b x l c (behind b1 b2 le base root code rooted based ms ss steps mean value p binds e runs target into) t = refl

  module _ {A : Type 0} (leaves : A → List Word) (gives : A → List Item) (b : ℕ) (x : Reading) (l : Lowered) (target : Bool) (p : PathOf b x l target) where
    -- a row behind the steps and what else is evaluated
    pub row_with : {B : Type 0} (items : B → List Item) (P : B → Type 0) (by : ℕ) (ys : List Lowered) (mid : Means B) → binds_of ys ≡ [] →
        ((n : ℕ) (st : State) → Told P (mid n st)) → IfSome (all (codes_of ys)) (λ code. Runs s d Everywhere [] [] no_words items by code mid) →
        (b4 most : ℕ) → b + (by + b4) ≤ most + 16 → (end : List Instr) (go : Base → List PathStep → B → Means A) →
        ((item : Item) (base : Base) (steps : List PathStep) (v : B) → (target ≡ true → is_place item ≡ true) → length steps ≡ length l.steps → P v →
        Runs s d (IsBase s item base) [] (items v ++ (stacked a_step steps ++ (item ∷ []))) leaves gives b4 end (go base steps v)) →
        IfSome (all (along l ys ∷ plain end ∷ [])) (λ code. Runs s d Everywhere [] [] leaves gives most code
        (bind x.base (λ base. bind x.steps (λ steps. bind mid (go base steps)))))
    row_with items P by ys mid e told q b4 most few end go runs =
        subst (λ k. IfSome (all (k ∷ plain end ∷ [])) (λ code. Runs s d Everywhere [] [] leaves gives most code (bind x.base (λ base. bind x.steps (λ steps. bind mid (go base steps))))))
        (sym (along_is l ys p.steps.binds e))
        (subst (λ steps. IfSome (all (all (l.base ∷ all (map step_code l.steps) ∷ all (codes_of ys) ∷ []) ∷ plain end ∷ []))
        (λ code. Runs s d Everywhere [] [] leaves gives most code (bind x.base (λ base. bind steps (λ steps. bind mid (go base steps)))))) (sym p.same)
        (holds_more _ _ (all (all (l.base ∷ all (map step_code l.steps) ∷ all (codes_of ys) ∷ []) ∷ plain end ∷ []))
        (along_runs leaves gives items P p.b1 p.b2 by b4 x.base l.root l.base p.rooted p.based p.means l.steps p.steps mid (all (codes_of ys)) told q end go
        (λ item base steps v placed long known. runs item base steps v (λ e. placed (p.is_rooted e)) long known))
        (λ code runs. more s d Everywhere [] [] leaves gives ((p.b1 + 3) + (p.b2 + (by + b4))) most (omega (arith, p.few, few)) runs)))

    -- a row behind the steps alone
    pub row_runs : (b4 : ℕ) → b4 ≤ 16 → (end : List Instr) (go : Base → List PathStep → Means A) →
        ((item : Item) (base : Base) (steps : List PathStep) → (target ≡ true → is_place item ≡ true) → length steps ≡ length l.steps →
        Runs s d (IsBase s item base) [] (stacked a_step steps ++ (item ∷ [])) leaves gives b4 end (go base steps)) →
        IfSome (all (along l [] ∷ plain end ∷ [])) (λ code. Runs s d Everywhere [] [] leaves gives (b + 0) code (bind x.base (λ base. bind x.steps (go base))))
    row_runs b4 few end go runs = row_with (λ (u : Unit {0}). []) (λ u. Unit {0}) 0 [] nothing refl (λ n st. tt) (at_once s d Everywhere no_words no_items tt) b4 (b + 0) (omega (arith, few)) end
        (λ base steps u. go base steps) (λ item base steps u placed long known. runs item base steps placed long)

    -- a row behind the steps and a value
    pub row_with_value : (by : ℕ) (y : Lowered) (m : Means Value) → y.binds ≡ [] → IfSome y.value (λ code. Values s d Everywhere by code m) →
        (b4 : ℕ) → b4 ≤ 16 → (end : List Instr) (go : Base → List PathStep → Value → Means A) →
        ((item : Item) (base : Base) (steps : List PathStep) (v : Value) → (target ≡ true → is_place item ≡ true) → length steps ≡ length l.steps →
        Runs s d (IsBase s item base) [] (a_value v ∷ (stacked a_step steps ++ (item ∷ []))) leaves gives b4 end (go base steps v)) →
        IfSome (all (along l (y ∷ []) ∷ plain end ∷ [])) (λ code. Runs s d Everywhere [] [] leaves gives (b + by) code
        (bind x.base (λ base. bind x.steps (λ steps. bind m (go base steps)))))
    row_with_value by y m e q b4 few end go runs = row_with one_value (λ v. Unit {0}) by (y ∷ []) m (ap (λ binds. binds ++ []) e) (λ n st. untold (m n st))
        (alone_holds (λ code. Values s d Everywhere by code m) y.value q) b4 (b + by) (omega (arith, few)) end go (λ item base steps v placed long known. runs item base steps v placed long)
