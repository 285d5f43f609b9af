-- Statements, loops and switches keep that answers stay.
use Rattle.std.proofs.Common.{◌+◌, ◌≤◌, ℕ, zero, suc, List, [], ◌∷◌, map, arith, refl}
use Rattle.std.specs.Prelude.{Bool, true, is_some, Option}
use Rattle.std.specs.Option.{option_map_or}
use Rattle.hph_array.specs.declared.key.Key.{Key}
use Rattle.hph_php.specs.Values.{Value, Null}
use Rattle.hph_php.specs.Conversions.{to_bool}
use Rattle.hph_php.specs.Comparison.{loosely_equal}
use Rattle.hph_php.specs.State.{Name, by_name, set, bind_static, unbind_variable, set_variable, static_variable, with_constant}
use Rattle.hph_php.specs.Answers.{Means, bind, nothing, change}
use Rattle.hph_php.specs.Targets.{Reading, Form, plain_variable, a_path, from_directory, another}
use Rattle.hph_php.specs.Statements.{Way, Next, Breaks, Continues, Returns, goes_on, next_by, both, block, truth, choose, branches, after_turn, turn, turn_if, lacking, turns, loop, loop_after, tests, dropped, all_dropped, for_loop, set_element, each_pair, turns_of, foreach_in, foreach, Case, bodies, default_bodies, pick_if, pick, switch, static_variable_with, unset_by, define_constant, return_with}
use Rattle.hph_growth.specs.Growth.{Grows}
use Rattle.hph_growth.proofs.GrowthLaws.{EachGrows, none, one_more, before_itself, give_grows, nothing_grows, settle_grows, bind_grows, first_grows, by_state_grows, spend_grows, lacking_grows, in_order_grows, if_grows}
use Rattle.hph_growth.proofs.StateLaws.{same_grows, located_grows, change_heap_grows, set_element_same}
use Rattle.hph_growth.proofs.WriteLaws.{unset_from_grows}
use Rattle.hph_growth.proofs.TargetLaws.{ReadingGrows, alike, formed, along_grows}
use Rattle.hph_growth.proofs.CallLaws.{OptionGrows, neither, each_one}

pub goes_on_grows : {m m' : Means (Unit {0})} → Grows m m' → Grows (goes_on m) (goes_on m')
goes_on_grows p = bind_grows p (λ _. give_grows Next)

-- ---- one after the other

next_grows : {rest later : Means Way} → Grows rest later → (w : Way) → Grows (next_by rest w) (next_by later w)
next_grows p Next = p
next_grows p (Breaks level) = give_grows (Breaks level)
next_grows p (Continues level) = give_grows (Continues level)
next_grows p (Returns value) = give_grows (Returns value)

pub both_grows : {m m' rest later : Means Way} → Grows m m' → Grows rest later → Grows (both m rest) (both m' later)
both_grows p q = bind_grows p (next_grows q)

pub block_grows : {ms laters : List (Means Way)} → EachGrows ms laters → Grows (block ms) (block laters)
block_grows none = give_grows Next
block_grows (one_more p ps) = both_grows p (block_grows ps)

-- ---- choices

pub truth_grows : {m m' : Means Value} → Grows m m' → Grows (truth m) (truth m')
truth_grows p = bind_grows p (λ v. give_grows (to_bool v))

choose_grows : {t t' : Means Value} {m m' other other' : Means Way} → Grows t t' → Grows m m' → Grows other other' →
    Grows (choose t m other) (choose t' m' other')
choose_grows p q r = bind_grows (truth_grows p) (λ t. if_grows t q r)

pub data BranchesGrow : List (Means Value × Means Way) → List (Means Value × Means Way) → Type 0 where
  no_branch : BranchesGrow [] []
  one_branch : {b b' : Means Value × Means Way} {bs bs' : List (Means Value × Means Way)} → Grows b.0 b'.0 → Grows b.1 b'.1 →
      BranchesGrow bs bs' → BranchesGrow (b ∷ bs) (b' ∷ bs')

pub branches_grow : {bs bs' : List (Means Value × Means Way)} {other other' : Means Way} → BranchesGrow bs bs' → Grows other other' →
    Grows (branches bs other) (branches bs' other')
branches_grow no_branch q = q
branches_grow (one_branch p r ps) q = choose_grows p r (branches_grow ps q)

-- ---- loops

after_turn_grows : {again later : Means Way} → Grows again later → (w : Way) → Grows (after_turn again w) (after_turn later w)
after_turn_grows p Next = p
after_turn_grows p (Breaks zero) = give_grows Next
after_turn_grows p (Breaks (suc level)) = give_grows (Breaks level)
after_turn_grows p (Continues zero) = p
after_turn_grows p (Continues (suc level)) = give_grows (Continues level)
after_turn_grows p (Returns value) = give_grows (Returns value)

turn_grows : {body body' again again' : Means Way} → Grows body body' → Grows again again' → Grows (turn body again) (turn body' again')
turn_grows p q = spend_grows (bind_grows p (after_turn_grows q))

turn_if_grows : {body body' again again' : Means Way} → Grows body body' → Grows again again' → (t : Bool) →
    Grows (turn_if body again t) (turn_if body' again' t)
turn_if_grows p q t = if_grows t (turn_grows p q) (give_grows Next)

none_lacks : Grows {A = Way} lacking lacking
none_lacks = lacking_grows (λ n st. before_itself st)

module _ {test test' : Means Bool} {step step' : Means (Unit {0})} {body body' : Means Way} (p : Grows test test')
    (q : Grows step step') (r : Grows body body') where
  -- what lacks turns comes before any turns
  turns_from_none : (u : ℕ) → Grows (turns zero test step body) (turns u test' step' body')
  turns_from_none zero = bind_grows p (turn_if_grows r none_lacks)
  turns_from_none (suc u) = bind_grows p (turn_if_grows r (lacking_grows (first_grows q (turns_from_none u)).later_comes))

  turns_grow : (t u : ℕ) → t ≤ u → Grows (turns t test step body) (turns u test' step' body')
  turns_grow zero u h = turns_from_none u
  turns_grow (suc t) zero h = absurd (omega (arith, h))
  turns_grow (suc t) (suc u) h = bind_grows p (turn_if_grows r (first_grows q (turns_grow t u (omega (arith, h)))))

  pub loop_grows : Grows (loop test step body) (loop test' step' body')
  loop_grows = record {
    comes = λ n st. (turns_grow n n (omega arith)).comes n st;
    later_comes = λ n st. (turns_grow n n (omega arith)).later_comes n st;
    stays = λ n extra st. (turns_grow n (n + extra) (omega arith)).stays n extra st;
  }

pub loop_after_grows : {test test' : Means Bool} {body body' : Means Way} → Grows test test' → Grows body body' →
    Grows (loop_after test body) (loop_after test' body')
loop_after_grows p r = record {
  comes = λ n st. (turn_grows r (turns_grow p nothing_grows r n n (omega arith))).comes n st;
  later_comes = λ n st. (turn_grows r (turns_grow p nothing_grows r n n (omega arith))).later_comes n st;
  stays = λ n extra st. (turn_grows r (turns_grow p nothing_grows r n (n + extra) (omega arith))).stays n extra st;
}

tests_step : {m m' : Means Value} {ms laters : List (Means Value)} → Grows m m' → EachGrows ms laters →
    Grows (tests ms) (tests laters) → Grows (tests (m ∷ ms)) (tests (m' ∷ laters))
tests_step p none rest = truth_grows p
tests_step p (one_more q ps) rest = bind_grows p (λ _. rest)

pub tests_grow : {ms laters : List (Means Value)} → EachGrows ms laters → Grows (tests ms) (tests laters)
tests_grow none = give_grows true
tests_grow (one_more p ps) = tests_step p ps (tests_grow ps)

pub dropped_grows : {m m' : Means Value} → Grows m m' → Grows (dropped m) (dropped m')
dropped_grows p = bind_grows p (λ _. nothing_grows)

each_dropped : {ms laters : List (Means Value)} → EachGrows ms laters → EachGrows (map dropped ms) (map dropped laters)
each_dropped none = none
each_dropped (one_more p ps) = one_more (dropped_grows p) (each_dropped ps)

all_dropped_grow : {ms laters : List (Means Value)} → EachGrows ms laters → Grows (all_dropped ms) (all_dropped laters)
all_dropped_grow ps = in_order_grows (each_dropped ps)

pub for_grows : {init init' test test' step step' : List (Means Value)} {body body' : Means Way} → EachGrows init init' →
    EachGrows test test' → EachGrows step step' → Grows body body' →
    Grows (for_loop init test step body) (for_loop init' test' step' body')
for_grows p q r s = first_grows (all_dropped_grow p) (loop_grows (tests_grow q) (all_dropped_grow r) s)

-- ---- foreach

pairs_grow : (key : Option Name) (value : Name) {body body' : Means Way} → Grows body body' → (ps : List (Key × Value)) →
    Grows (each_pair key value body ps) (each_pair key value body' ps)
pairs_grow key value p [] = give_grows Next
pairs_grow key value p (e ∷ ps) = spend_grows (bind_grows
    (first_grows (same_grows (set_element key value e) (set_element_same key value e)) p) (after_turn_grows (pairs_grow key value p ps)))

foreach_in_grows : (key : Option Name) (value : Name) {body body' : Means Way} → Grows body body' → (v : Value) →
    Grows (foreach_in key value body v) (foreach_in key value body' v)
foreach_in_grows key value p v = bind_grows (settle_grows (turns_of v)) (pairs_grow key value p)

pub foreach_grows : (key : Option Name) (value : Name) {m m' : Means Value} {body body' : Means Way} → Grows m m' → Grows body body' →
    Grows (foreach m key value body) (foreach m' key value body')
foreach_grows key value p q = bind_grows p (foreach_in_grows key value q)

-- ---- switch

pub record CaseGrows (c d : Case) : Type 0 where
  pub test : OptionGrows c.test d.test
  pub body : Grows c.body d.body

pub data CasesGrow : List Case → List Case → Type 0 where
  no_case : CasesGrow [] []
  one_case : {o o' : Option (Means Value)} {body body' : Means Way} {cs ds : List Case} → OptionGrows o o' → Grows body body' →
      CasesGrow cs ds → CasesGrow (record { test = o; body = body } ∷ cs) (record { test = o'; body = body' } ∷ ds)

bodies_grow : {cs ds : List Case} → CasesGrow cs ds → Grows (bodies cs) (bodies ds)
bodies_grow no_case = give_grows Next
bodies_grow (one_case o p ps) = both_grows p (bodies_grow ps)

defaults_grow : {cs ds : List Case} → CasesGrow cs ds → Grows (default_bodies cs) (default_bodies ds)
defaults_grow no_case = give_grows Next
defaults_grow (one_case neither p ps) = both_grows p (bodies_grow ps)
defaults_grow (one_case (each_one q) p ps) = defaults_grow ps

pick_if_grows : (v : Value) {found found' others others' : Means Way} {test test' : Means Value} → Grows found found' →
    Grows others others' → Grows test test' → Grows (pick_if v found others test) (pick_if v found' others' test')
pick_if_grows v p q r = bind_grows r (λ w. bind_grows (settle_grows (loosely_equal v w)) (λ same. if_grows same p q))

pick_grows : (v : Value) {cs ds : List Case} {other other' : Means Way} → CasesGrow cs ds → Grows other other' →
    Grows (pick v cs other) (pick v ds other')
pick_grows v no_case q = q
pick_grows v (one_case neither p ps) q = pick_grows v ps q
pick_grows v (one_case (each_one r) p ps) q = pick_if_grows v (both_grows p (bodies_grow ps)) (pick_grows v ps q) r

pub switch_grows : {m m' : Means Value} {cs ds : List Case} → Grows m m' → CasesGrow cs ds → Grows (switch m cs) (switch m' ds)
switch_grows p ps =
    bind_grows (bind_grows p (λ v. pick_grows v ps (defaults_grow ps))) (λ w. after_turn_grows (give_grows Next) w)

-- ---- variables

new_static_value : (name : Name) {o o' : Option (Means Value)} → OptionGrows o o' →
    Grows (option_map_or (λ (m : Means Value). bind m (λ v. change (set_variable name v))) o nothing)
    (option_map_or (λ (m : Means Value). bind m (λ v. change (set_variable name v))) o' nothing)
new_static_value name neither = nothing_grows
new_static_value name (each_one p) = bind_grows p (λ v. located_grows (set by_name name v))

pub static_grows : (number : ℕ) (name : Name) {o o' : Option (Means Value)} → OptionGrows o o' →
    Grows (static_variable_with number name o) (static_variable_with number name o')
static_grows number name p = by_state_grows (λ st. first_grows (located_grows (bind_static by_name name number))
    (if_grows (is_some (static_variable number st.core.places)) nothing_grows (new_static_value name p)))

unset_by_grows : (within : Option ℕ) (form : Form) {x y : Reading} → ReadingGrows x y → Grows (unset_by within form x) (unset_by within form y)
unset_by_grows within (plain_variable name) p = same_grows (unbind_variable name) (λ st. record { out = refl; called = refl })
unset_by_grows within a_path p = along_grows p (unset_from_grows within)
unset_by_grows within from_directory p = along_grows p (unset_from_grows within)
unset_by_grows within another p = along_grows p (unset_from_grows within)

pub unset_grows : (within : Option ℕ) {x y : Reading} → ReadingGrows x y → Grows (unset_by within x.form x) (unset_by within y.form y)
unset_grows within {x} p = alike p (λ z. Grows (unset_by within x.form x) (unset_by within z.form z)) (unset_by_grows within x.form (formed p))

pub define_grows : (name : Name) {m m' : Means Value} → Grows m m' → Grows (define_constant name m) (define_constant name m')
define_grows name p = bind_grows p (λ v. change_heap_grows (with_constant name v))

pub return_grows : {o o' : Option (Means Value)} → OptionGrows o o' → Grows (return_with o) (return_with o')
return_grows neither = give_grows (Returns Null)
return_grows (each_one p) = bind_grows p (λ v. give_grows (Returns v))
