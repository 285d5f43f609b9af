-- What a path reads, tests, writes and unsets keeps that answers stay.
use Rattle.std.proofs.Common.{◌≡◌, ℕ, List, [], ◌∷◌, refl, subst}
use Rattle.std.specs.Prelude.{true, false, Option, None, Some, Result}
use Rattle.std.specs.Option.{option_map_or}
use Rattle.hph_php.specs.declared.fatal.Fatal.{Fatal}
use Rattle.hph_php.specs.Values.{Value, Boolean}
use Rattle.hph_php.specs.State.{Name, place, set, by_name}
use Rattle.hph_php.specs.Answers.{Means}
use Rattle.hph_php.specs.Paths.{PathStep, read_path, try_path, unless_null, old_value, operate_at, update_at}
use Rattle.hph_php.specs.Targets.{Base, a_variable, a_value, Form, plain_variable, a_path, from_directory, another, Reading, valued, variable_base, at_base, along, value_or, read_from, try_from, read, try_by, try, assign_by, assign, assign_with, assign_if_unset, update, all_set}
use Rattle.hph_growth.specs.Growth.{Grows}
use Rattle.hph_growth.proofs.GrowthLaws.{give_grows, look_grows, settle_grows, bind_grows, first_grows, by_state_grows, option_grows}
use Rattle.hph_growth.proofs.StateLaws.{located_grows}
use Rattle.hph_growth.proofs.WriteLaws.{store_grows, write_to_grows}

-- an expression that means one thing and another
pub record ReadingGrows (x y : Reading) : Type 0 where
  pub form : x.form ≡ y.form
  pub value : Grows x.value y.value
  pub base : Grows x.base y.base
  pub steps : Grows x.steps y.steps

pub data AllGrow : List Reading → List Reading → Type 0 where
  no_reading : AllGrow [] []
  one_reading : {x y : Reading} {xs ys : List Reading} → ReadingGrows x y → AllGrow xs ys → AllGrow (x ∷ xs) (y ∷ ys)

-- the other one has the same form
pub alike : {x y : Reading} (p : ReadingGrows x y) (Q : Reading → Type 0) → Q (record y { form = x.form }) → Q y
alike {y = y} p Q q = subst (λ f. Q (record y { form = f })) p.form q

pub formed : {x y : Reading} → ReadingGrows x y → ReadingGrows x (record y { form = x.form })
formed p = record { form = refl; value = p.value; base = p.base; steps = p.steps }

pub valued_grows : {m later : Means Value} → Grows m later → ReadingGrows (valued m) (valued later)
valued_grows p = record { form = refl; value = p; base = bind_grows p (λ v. give_grows (a_value v)); steps = give_grows [] }

pub variable_base_grows : (name : Name) → Grows (variable_base name) (variable_base name)
variable_base_grows name = first_grows (located_grows (place by_name name)) (give_grows (a_variable name))

pub along_grows : {A : Type 0} {x y : Reading} {go go' : Base → List PathStep → Means A} → ReadingGrows x y →
    ((base : Base) (steps : List PathStep) → Grows (go base steps) (go' base steps)) → Grows (along x go) (along y go')
along_grows p g = bind_grows p.base (λ base. bind_grows p.steps (g base))

pub value_or_grows : (v : Option Value) {m later : Means Value} → Grows m later → Grows (value_or v m) (value_or v later)
value_or_grows None p = p
value_or_grows (Some v) p = give_grows v

module _ (within : Option ℕ) where
  pub read_from_grows : (base : Base) (steps : List PathStep) → Grows (read_from within base steps) (read_from within base steps)
  read_from_grows base steps = by_state_grows (λ st. settle_grows (read_path st.core.heap within (old_value (at_base base st)) steps))

  pub try_from_grows : (base : Base) (steps : List PathStep) → Grows (try_from within base steps) (try_from within base steps)
  try_from_grows base steps = look_grows (λ st. option_map_or (λ v. try_path st.core.heap within v steps) (at_base base st) None)

  pub read_grows : {x y : Reading} → ReadingGrows x y → Grows (read within x) (read within y)
  read_grows p = along_grows p read_from_grows

  try_by_grows : (form : Form) {x y : Reading} → ReadingGrows x y → Grows (try_by within form x) (try_by within form y)
  try_by_grows (plain_variable name) p = along_grows p try_from_grows
  try_by_grows a_path p = along_grows p try_from_grows
  try_by_grows from_directory p = bind_grows p.value (λ v. give_grows (unless_null v))
  try_by_grows another p = bind_grows p.value (λ v. give_grows (unless_null v))

  pub try_grows : {x y : Reading} → ReadingGrows x y → Grows (try within x) (try within y)
  try_grows {x} p = alike p (λ z. Grows (try within x) (try within z)) (try_by_grows x.form (formed p))

  assign_by_grows : (form : Form) {x y : Reading} {m later : Means Value} → ReadingGrows x y → Grows m later →
      Grows (assign_by within form x m) (assign_by within form y later)
  assign_by_grows (plain_variable name) p q =
      bind_grows q (λ v. first_grows (located_grows (set by_name name v)) (give_grows v))
  assign_by_grows a_path p q = along_grows p (λ base steps. bind_grows q (λ v. write_to_grows within base steps v))
  assign_by_grows from_directory p q = along_grows p (λ base steps. bind_grows q (λ v. write_to_grows within base steps v))
  assign_by_grows another p q = along_grows p (λ base steps. bind_grows q (λ v. write_to_grows within base steps v))

  pub assign_grows : {x y : Reading} {m later : Means Value} → ReadingGrows x y → Grows m later →
      Grows (assign within x m) (assign within y later)
  assign_grows {x} {y} {m} {later} p q =
      alike p (λ z. Grows (assign within x m) (assign within z later)) (assign_by_grows x.form (formed p) q)

  pub assign_with_grows : (op : Value → Value → Result Value Fatal) {x y : Reading} {m later : Means Value} → ReadingGrows x y →
      Grows m later → Grows (assign_with within op x m) (assign_with within op y later)
  assign_with_grows op p q = along_grows p (λ base steps. bind_grows q (λ v. store_grows base (operate_at within op steps v)))

  pub assign_if_unset_grows : {x y : Reading} {m later : Means Value} → ReadingGrows x y → Grows m later →
      Grows (assign_if_unset within x m) (assign_if_unset within y later)
  assign_if_unset_grows p q = along_grows p (λ base steps. bind_grows (try_from_grows base steps) (λ old.
      value_or_grows old (bind_grows q (λ v. write_to_grows within base steps v))))

  pub update_grows : (move : Value → Result Value Fatal) (which : Value → Value → Value) {x y : Reading} → ReadingGrows x y →
      Grows (update within move which x) (update within move which y)
  update_grows move which p = along_grows p (λ base steps. store_grows base (update_at within move which steps))

  pub all_set_grows : {xs ys : List Reading} → AllGrow xs ys → Grows (all_set within xs) (all_set within ys)
  all_set_grows no_reading = give_grows (Boolean true)
  all_set_grows (one_reading p ps) =
      bind_grows (try_grows p) (λ v. option_grows v (λ _. all_set_grows ps) (give_grows (Boolean false)))
