-- Operators, assignments, casts, constants, variables and includes keep that answers stay.
use Rattle.std.proofs.Common.{ℕ, List, [], ◌∷◌, ◌++◌, refl}
use Rattle.std.specs.Prelude.{pos, Bool, true, false, ◌&&◌, Option, None, Some, if◌then◌else◌}
use Rattle.std.specs.Option.{unwrap_or}
use Rattle.hph_ast.specs.declared.operator.Binary.{Binary}
use Rattle.hph_ast.specs.declared.operator.Binary.TheVariants as binary
use Rattle.hph_ast.specs.declared.operator.Prefix.{Prefix}
use Rattle.hph_ast.specs.declared.operator.Prefix.TheVariants as sign
use Rattle.hph_ast.specs.declared.operator.IncludeForm.{IncludeForm}
use Rattle.hph_ast.specs.declared.operator.Assignment.{Assignment}
use Rattle.hph_ast.specs.declared.operator.Assignment.TheVariants as setting
use Rattle.hph_ast.specs.declared.expr.Update.{Update}
use Rattle.hph_ast.specs.declared.expr.Update.TheVariants as update
use Rattle.hph_php.specs.declared.operator.BinOp.{BinOp}
use Rattle.hph_php.specs.declared.operator.UnOp.{UnOp}
use Rattle.hph_php.specs.declared.operator.UnOp.TheVariants as unary
use Rattle.hph_php.specs.Values.{Value, Null, Boolean, Int}
use Rattle.hph_php.specs.Conversions.{to_bool, to_text}
use Rattle.hph_php.specs.Operators.{binary_of, unary_of, incremented, decremented}
use Rattle.hph_php.specs.Arrays.{Array, append}
use Rattle.hph_php.specs.State.{Name, share, by_name, variable_value, is_entered, enter}
use Rattle.hph_php.specs.Answers.{Means, Exits}
use Rattle.hph_php.specs.World.{Context}
use Rattle.hph_php.specs.Targets.{Reading, Form, plain_variable}
use Rattle.hph_php.specs.Classes.{ClassChoice}
use Rattle.hph_php.specs.Includes.{enter_file, include, is_once, file_at, normalised, from_folder, directory_of}
use Rattle.hph_php.specs.Operations.{constant_in, constant_named, is_this, this_value, variable, share_forms, strict, truth_of, and_also, or_other, operated, operate, run, pair, ternary, short_ternary, apply, cast_of, echo, exit_of, exit_with, prefix, instances, compound, assigned, assignment, moved_by, add_last, with_key, add_keyed, text_of}
use Rattle.hph_growth.specs.Growth.{Grows}
use Rattle.hph_growth.proofs.GrowthLaws.{give_grows, nothing_grows, end_grows, look_grows, settle_grows, heap_grows, print_grows, bind_grows, first_grows, by_state_grows, if_grows, option_grows}
use Rattle.hph_growth.proofs.StateLaws.{located_grows, change_heap_grows}
use Rattle.hph_growth.proofs.TargetLaws.{ReadingGrows, AllGrow, no_reading, one_reading, alike, valued_grows, variable_base_grows, value_or_grows, try_grows, assign_grows, assign_with_grows, assign_if_unset_grows, update_grows}
use Rattle.hph_growth.proofs.Worlds.{Worlds, earlier, later}
use Rattle.hph_growth.proofs.ClassLaws.{ChoicesGrow, no_choice, one_choice, instance_grows}

-- ---- includes

module _ (ws : Worlds) where
  enter_file_grows : (once : Bool) (file : ℕ) → Grows (enter_file (earlier ws) once file) (enter_file (later ws) once file)
  enter_file_grows once file = by_state_grows (λ st. if_grows (once && is_entered file st.core.heap) nothing_grows
      (first_grows (change_heap_grows (enter file)) (ws.enters file)))

  pub include_grows : (context : Context) (form : IncludeForm) {x y : Reading} → ReadingGrows x y →
      Grows (include (earlier ws) context form x) (include (later ws) context form y)
  include_grows context form {x} {y} p = alike p (λ z. Grows (include (earlier ws) context form x) (include (later ws) context form z))
      (bind_grows p.value (λ v. bind_grows (settle_grows (to_text v)) (λ text. first_grows
      (option_grows (file_at context.program (normalised (from_folder x.form (directory_of context.program context.file) text)))
      (enter_file_grows (is_once form)) nothing_grows)
      (give_grows Null))))

-- ---- constants and variables

pub constant_grows : (name : Name) → Grows (constant_named name) (constant_named name)
constant_grows name = heap_grows (constant_in name)

if_reads : (b : Bool) {x x' y y' : Reading} → ReadingGrows x x' → ReadingGrows y y' →
    ReadingGrows (if b then x else y) (if b then x' else y')
if_reads true p q = p
if_reads false p q = q

pub variable_grows : (name : Name) → ReadingGrows (variable name) (variable name)
variable_grows name = if_reads (is_this name) (valued_grows (look_grows this_value)) (record {
  form = refl;
  value = look_grows (λ st. unwrap_or (variable_value name st) Null);
  base = variable_base_grows name;
  steps = give_grows [];
})

forms_grow : (f g : Form) → Grows (share_forms f g) (share_forms f g)
forms_grow (plain_variable x) (plain_variable y) =
    first_grows (located_grows (share by_name x y)) (look_grows (λ st. unwrap_or (variable_value x st) Null))
forms_grow _ _ = give_grows Null

pub share_grows : {x x' y y' : Reading} → ReadingGrows x x' → ReadingGrows y y' → Grows (share_forms x.form y.form) (share_forms x'.form y'.form)
share_grows {x} {x'} {y} {y'} p q = alike p (λ z. Grows (share_forms x.form y.form) (share_forms z.form y'.form))
    (alike q (λ z. Grows (share_forms x.form y.form) (share_forms x.form z.form)) (forms_grow x.form y.form))

-- ---- operators

truth_of_grows : {m m' : Means Value} → Grows m m' → Grows (truth_of m) (truth_of m')
truth_of_grows p = bind_grows p (λ v. give_grows (Boolean (to_bool v)))

operated_grows : (o : Option BinOp) (v : Value) {m m' : Means Value} → Grows m m' → Grows (operated o v m) (operated o v m')
operated_grows None v p = p
operated_grows (Some op) v p = bind_grows p (λ w. settle_grows (binary_of op v w))

and_also_grows : (v : Value) {m m' : Means Value} → Grows m m' → Grows (and_also v m) (and_also v m')
and_also_grows v p = if_grows (to_bool v) (truth_of_grows p) (give_grows (Boolean false))

or_other_grows : (v : Value) {m m' : Means Value} → Grows m m' → Grows (or_other v m) (or_other v m')
or_other_grows v p = if_grows (to_bool v) (give_grows (Boolean true)) (truth_of_grows p)

operate_grows : (op : Binary) (v : Value) {m m' : Means Value} → Grows m m' → Grows (operate op v m) (operate op v m')
operate_grows binary.BooleanAnd v p = and_also_grows v p
operate_grows binary.LogicalAnd v p = and_also_grows v p
operate_grows binary.BooleanOr v p = or_other_grows v p
operate_grows binary.LogicalOr v p = or_other_grows v p
operate_grows op v p = operated_grows (strict op) v p

pub data RunGrows : List (Binary × Reading) → List (Binary × Reading) → Type 0 where
  no_operator : RunGrows [] []
  one_operator : (op : Binary) {x y : Reading} {more more' : List (Binary × Reading)} → ReadingGrows x y → RunGrows more more' →
      RunGrows ((op, x) ∷ more) ((op, y) ∷ more')

pub run_grows : {more more' : List (Binary × Reading)} → RunGrows more more' → (v : Value) → Grows (run v more) (run v more')
run_grows no_operator v = give_grows v
run_grows (one_operator op p ps) v = bind_grows (operate_grows op v p.value) (run_grows ps)

pub pair_grows : (within : Option ℕ) (op : Binary) {x x' y y' : Reading} → ReadingGrows x x' → ReadingGrows y y' →
    Grows (pair within op x y) (pair within op x' y')
pair_grows within binary.Coalesce p q = bind_grows (try_grows within p) (λ v. value_or_grows v q.value)
pair_grows within op p q = bind_grows p.value (λ v. operate_grows op v q.value)

pub ternary_grows : {x x' y y' z z' : Means Value} → Grows x x' → Grows y y' → Grows z z' → Grows (ternary x y z) (ternary x' y' z')
ternary_grows p q r = bind_grows p (λ v. if_grows (to_bool v) q r)

pub short_ternary_grows : {xs ys : List Reading} → AllGrow xs ys → (v : Value) → Grows (short_ternary v xs) (short_ternary v ys)
short_ternary_grows no_reading v = give_grows v
short_ternary_grows (one_reading p ps) v = bind_grows (if_grows (to_bool v) (give_grows v) p.value) (short_ternary_grows ps)

apply_grows : (op : UnOp) {m m' : Means Value} → Grows m m' → Grows (apply op m) (apply op m')
apply_grows op p = bind_grows p (λ v. settle_grows (unary_of op v))

pub echo_grows : {m m' : Means Value} → Grows m m' → Grows (echo m) (echo m')
echo_grows p = bind_grows p (λ v. bind_grows (settle_grows (to_text v)) print_grows)

pub exit_grows : (v : Value) → Grows (exit_with v) (exit_with v)
exit_grows v = bind_grows (settle_grows (exit_of v)) (λ e. first_grows (print_grows e.0) (end_grows (Exits e.1)))

pub prefix_grows : (ws : Worlds) (context : Context) (op : Prefix) {x y : Reading} → ReadingGrows x y →
    Grows (prefix (earlier ws) context op x) (prefix (later ws) context op y)
prefix_grows ws context sign.Plus r = apply_grows unary.Plus r.value
prefix_grows ws context sign.Minus r = apply_grows unary.Minus r.value
prefix_grows ws context sign.BitNot r = apply_grows unary.BitNot r.value
prefix_grows ws context sign.Silence r = r.value
prefix_grows ws context (sign.Cast type) r = apply_grows (cast_of type) r.value
prefix_grows ws context sign.Not r = apply_grows unary.Not r.value
prefix_grows ws context sign.Print r = first_grows (echo_grows r.value) (give_grows (Int (pos 1)))
prefix_grows ws context (sign.Include form) r = include_grows ws context form r

pub instances_grow : {cs ds : List ClassChoice} → ChoicesGrow cs ds → (v : Value) → Grows (instances v cs) (instances v ds)
instances_grow no_choice v = give_grows v
instances_grow (one_choice p ps) v = bind_grows (instance_grows v p) (instances_grow ps)

-- ---- assignments

assigned_grows : (within : Option ℕ) (o : Option BinOp) {x x' y y' : Reading} → ReadingGrows x x' → ReadingGrows y y' →
    Grows (assigned within o x y) (assigned within o x' y')
assigned_grows within None p q = assign_grows within p q.value
assigned_grows within (Some op) p q = assign_with_grows within (binary_of op) p q.value

pub assignment_grows : (within : Option ℕ) (op : Assignment) {x x' y y' : Reading} → ReadingGrows x x' → ReadingGrows y y' →
    Grows (assignment within op x y) (assignment within op x' y')
assignment_grows within setting.Coalesce p q = assign_if_unset_grows within p q.value
assignment_grows within op p q = assigned_grows within (compound op) p q

pub moved_grows : (within : Option ℕ) (form : Update) {x y : Reading} → ReadingGrows x y →
    Grows (moved_by within form x) (moved_by within form y)
moved_grows within update.PreIncrement p = update_grows within incremented (λ old new. new) p
moved_grows within update.PreDecrement p = update_grows within decremented (λ old new. new) p
moved_grows within update.PostIncrement p = update_grows within incremented (λ old new. old) p
moved_grows within update.PostDecrement p = update_grows within decremented (λ old new. old) p

-- ---- arrays and strings

pub add_last_grows : (v : Value) (elements : Array Value) → Grows (add_last v elements) (add_last v elements)
add_last_grows v elements = settle_grows (append elements v)

pub add_keyed_grows : (key v : Value) (elements : Array Value) → Grows (add_keyed key v elements) (add_keyed key v elements)
add_keyed_grows key v elements = settle_grows (with_key key v elements)

pub text_grows : {m m' : Means Value} → Grows m m' → (before : List ℕ) → Grows (text_of m before) (text_of m' before)
text_grows p before = bind_grows p (λ v. bind_grows (settle_grows (to_text v)) (λ text. give_grows (before ++ text)))
