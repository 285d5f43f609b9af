-- One form of expressions after the other: its code does what it means if the code of its parts does.
use Rattle.std.proofs.Common.{◌≡◌, ℕ, zero, suc, ◌+◌, ◌^◌, ◌≤◌, List, [], ◌∷◌, ◌++◌, length, map, refl, sym, ap, ◌∙◌, subst, arith, append_assoc, Option, Some, None}
use Rattle.std.proofs.lemmas.List.{append-nil}
use Rattle.std.specs.Prelude.{pos, ℤ, Bool, true, false, Result, Ok, Err, nat_lt, if◌then◌else◌, IfSome}
use Rattle.std.specs.Option.{option_map, option_map_or, unwrap_or, ok_or}
use Rattle.hph_wasm.specs.declared.instr.Instr.{Instr, I64Const, Eqz, Br, BrIf, Unreachable}
use Rattle.hph_wasm.specs.declared.instr.Instr.TheViews as view
use Rattle.hph_wasm.specs.declared.types.ValType.TheVariants.{I32}
use Rattle.hph_wasm.specs.declared.value.Value.{Value as Word}
use Rattle.hph_wasm.specs.declared.value.Value.TheVariants as word
use Rattle.hph_wasm.specs.Integers.{signed}
use Rattle.hph_ast.specs.declared.operator.Binary.{Binary}
use Rattle.hph_ast.specs.declared.operator.Binary.TheVariants as b
use Rattle.hph_ast.specs.declared.operator.Prefix.{Prefix}
use Rattle.hph_ast.specs.declared.operator.Prefix.TheVariants as p
use Rattle.hph_ast.specs.declared.operator.Assignment.{Assignment}
use Rattle.hph_ast.specs.declared.operator.Assignment.TheVariants as a
use Rattle.hph_ast.specs.declared.expr.Update.{Update}
use Rattle.hph_ast.specs.declared.expr.Update.TheVariants as update
use Rattle.hph_php.specs.declared.fatal.Fatal.{Fatal}
use Rattle.hph_php.specs.declared.fatal.Fatal.TheVariants.{UndefinedConstant}
use Rattle.hph_php.specs.declared.operator.BinOp.{BinOp}
use Rattle.hph_php.specs.declared.operator.UnOp.{UnOp}
use Rattle.hph_php.specs.declared.operator.UnOp.TheVariants as unary
use Rattle.hph_php.specs.Codes.{binary_code, fatal_code, fatal_with}
use Rattle.hph_php.proofs.CodeLaws.{fatal_inverse}
use Rattle.hph_php.specs.Values.{Value, Null, Boolean, Int, Str, Arr, Obj}
use Rattle.hph_php.specs.Conversions.{map_ok, to_bool, to_text}
use Rattle.hph_php.specs.Operators.{binary_of, unary_of}
use Rattle.hph_php.specs.State.{State, Name, named, folded, variable_value, set_variable, on_core, printed}
use Rattle.hph_php.specs.Answers.{Means, Answer, Gets, Ends, More, Exits, proceed, bind, give, look, first, change, settle, fail, end_with, print, by_state}
use Rattle.hph_php.specs.World.{World, Context}
use Rattle.hph_php.specs.Targets.{Reading, try, value_or, is_empty_value}
use Rattle.hph_php.specs.Operations.{words, predefined, or_else, constant_in, constant_named, strict, truth_of, and_also, or_other, operated, operate, pair, ternary, apply, cast_of, echo, exit_of, exit_with, prefix}
use Rattle.hph_effects.specs.declared.row.Row.TheVariants as r
use Rattle.hph_effects.specs.Hosts.{Item, a_value, found, fails}
use Rattle.hph_plan.specs.Plan.{Plan, place_in}
use Rattle.hph_lowering.specs.Code.{Code, with_code, with_both, all, plain, call, number, no_value, Scope, slot_of, by_number, int_code, text_code}
use Rattle.hph_lowering.specs.Expressions.{Lowered, slot_code, word_code, constant_code, apply_code, prefix_code, strict_code, operate_code, choice, boolean, op1, op2, null, otherwise_code, unless, fatal}
use Rattle.hph_seqv.specs.Simulates.{Conf, Follows, Setup, Situation, Around, Stands, host_of, Runs, Everywhere, no_words, no_items, one_value, Values, After}
use Rattle.hph_seqv.proofs.Rows.{by_row}
use Rattle.hph_seqv.proofs.Joins.{then_on, more, over, meant, makes, at_once, before, first_part}
use Rattle.hph_seqv.proofs.Values.{echoed, values_null, values_boolean, values_int, values_text, operates, operates_on, echoes, gets_constant, exits, duplicates}
use Rattle.hph_seqv.proofs.Variables.{gets, sets}
use Rattle.hph_seqv.proofs.Choices.{chooses_by}
use Rattle.hph_forms.proofs.Lists.{then_known}
use Rattle.hph_forms.proofs.Tries.{after_otherwise}
use Rattle.hph_runx.specs.Runs.{Planned, setup}
use Rattle.hph_runx.proofs.Codes.{with_code_holds, with_both_holds, two_hold, one_holds, between_holds, by_number_holds, holds_more}

small : (n : ℕ) → nat_lt n (2 ^ 63) ≡ true → signed 64 n ≡ pos n
unfolding signed
small n e = rw e refl

one : signed 64 1 ≡ pos 1
unfolding signed
one = refl

zero_signed : signed 64 0 ≡ pos 0
unfolding signed
zero_signed = refl

-- what goes on from what goes on
pub regrouped : {A B C : Type 0} (x : Answer A) (f : A → Means B) (g : B → Means C) → proceed x (λ v. bind (f v) g) ≡ proceed (proceed x f) g
regrouped (Gets v n st) f g = refl
regrouped (Ends stop st) f g = refl
regrouped (More st) f g = refl

module _ (plan : Plan) (scope : Scope) (planned : Planned plan scope) (d : ℕ) where
  abbrev s : Setup
  s = setup plan scope planned

  abbrev pub Within : ℕ → Code → Means Value → Type 0
  Within b code mean = IfSome code (λ code. Values s d Everywhere b code mean)

  abbrev pub WithinAfter : ℕ → Code → (Value → Means Value) → Type 0
  WithinAfter b code mean = IfSome code (λ code. After s d Everywhere b code mean)

  pub within_more : (code : Code) (mean : Means Value) (a b : ℕ) → a ≤ b → Within a code mean → Within b code mean
  within_more code mean a b le p = holds_more _ _ code p (λ code p. more s d Everywhere [] [] no_words one_value a b le p)

  pub after_more : (code : Code) (mean : Value → Means Value) (a b : ℕ) → a ≤ b → WithinAfter a code mean → WithinAfter b code mean
  after_more code mean a b le p = holds_more _ _ code p (λ code p v. more s d Everywhere [] (one_value v) no_words one_value a b le (p v))

  pub then_value : (a b : ℕ) (ca cb : List Instr) (x : Means Value) (f : Value → Means Value) → Values s d Everywhere a ca x → After s d Everywhere b cb f →
      Values s d Everywhere (a + b) (ca ++ cb) (bind x f)
  then_value a b ca cb x f p q = then_on s d Everywhere [] [] no_words one_value no_words one_value a b ca cb x f p q

  -- ---- leaves

  pub int_runs : (n : ℕ) → Within 3 (int_code n) (give (Int (pos n)))
  int_runs n = by (nat_lt n (2 ^ 63)) refl
    where
      by : (t : Bool) → nat_lt n (2 ^ 63) ≡ t → Within 3 (if t then Some (I64Const (pos n) ∷ call r.Int ∷ []) else None) (give (Int (pos n)))
      by true e = values_int s d Everywhere n (small n e)
      by false e = tt

  pub text_runs : (bytes : List ℕ) → Within 4 (text_code plan bytes) (give (Str bytes))
  text_runs bytes = by_number_holds _ (place_in plan.texts 0 bytes) (λ p. number p ∷ number (length bytes) ∷ call r.Str ∷ []) (λ p at. values_text s d Everywhere bytes p at)

  -- what goes on from a text that is known
  pub then_text : {A : Type 0} {leaves : A → List Word} {gives : A → List Item} (b : ℕ) (text : List ℕ) (ca cb : List Instr) (mean : Means A) →
      Values s d Everywhere 4 ca (give (Str text)) → Runs s d Everywhere [] (one_value (Str text)) leaves gives b cb mean →
      Runs s d Everywhere [] [] leaves gives (4 + b) (ca ++ cb) mean
  then_text {leaves} {gives} b text ca cb mean p q = then_known s d Everywhere leaves gives one_value (λ v. v ≡ Str text) [] 4 b ca cb (give (Str text)) (λ v. mean)
      (λ n st. refl) p (λ v e. subst (λ v. Runs s d Everywhere [] (one_value v) leaves gives b cb mean) (sym e) q)

  pub get_runs : (name : Name) → Within 3 (slot_code plan scope name (call r.Get)) (look (λ st. unwrap_or (variable_value name st) Null))
  get_runs name = by_number_holds _ (slot_of scope name) (λ i. number i ∷ call r.Get ∷ []) (λ i at. gets s d Everywhere name i at)

  pub constant_runs : (name : Name) → Within 6 (constant_code plan scope name) (constant_named name)
  constant_runs name = by (named (folded name) words) refl
    where
      of_word : (v : Value) → constant_named name ≡ give v → Within 6 (word_code plan scope v) (constant_named name)
      of_word Null e = subst (λ m. Values s d Everywhere 6 null m) (sym e) (more s d Everywhere [] [] no_words one_value 2 6 (omega arith) (values_null s d Everywhere))
      of_word (Boolean t) e = subst (λ m. Values s d Everywhere 6 (boolean t) m) (sym e) (more s d Everywhere [] [] no_words one_value 3 6 (omega arith) (values_boolean s d Everywhere t))
      of_word (Int z) e = tt
      of_word (Str bytes) e = tt
      of_word (Arr pairs next_key) e = tt
      of_word (Obj object) e = tt

      by : (o : Option Value) → named (folded name) words ≡ o → Within 6 (option_map_or (word_code plan scope) o (all (text_code plan name ∷ plain (call r.ConstGet ∷ []) ∷ []))) (constant_named name)
      by None e = one_holds _ _ (text_code plan name) (call r.ConstGet ∷ []) (text_runs name) (λ code p.
          then_text 2 name code (call r.ConstGet ∷ []) (constant_named name) p (gets_constant s d Everywhere name))
      by (Some v) e = of_word v (ap (λ o. by_state (λ st. settle (ok_or (or_else o (or_else (named name predefined) (named name st.core.heap.constants))) UndefinedConstant))) e)

  -- ---- operators

  pub unary_runs : (op : UnOp) (b : ℕ) (code : Code) (m : Means Value) → Within b code m → Within (b + 3) (apply_code op code) (apply op m)
  unary_runs op b code m p = with_code_holds _ _ code (λ code. code ++ op1 op) p (λ code q.
      then_value b 3 code (op1 op) m (λ v. settle (unary_of op v)) q (operates_on s d Everywhere op))

  print_runs : (b : ℕ) (code : List Instr) (m : Means Value) → Values s d Everywhere b code m →
      Values s d Everywhere (b + 5) (code ++ (call r.Echo ∷ I64Const (pos 1) ∷ call r.Int ∷ [])) (first (echo m) (give (Int (pos 1))))
  print_runs b code m p = meant s d Everywhere [] [] no_words one_value (b + 5) (code ++ (call r.Echo ∷ I64Const (pos 1) ∷ call r.Int ∷ []))
      (bind m (λ v. first (echoed v) (give (Int (pos 1))))) (first (echo m) (give (Int (pos 1)))) (λ n st. regrouped (m n st) echoed (λ u. give (Int (pos 1))))
      (then_value b 5 code (call r.Echo ∷ I64Const (pos 1) ∷ call r.Int ∷ []) m (λ v. first (echoed v) (give (Int (pos 1)))) p (λ v.
      then_on s d Everywhere [] (one_value v) no_words no_items no_words one_value 2 3 (call r.Echo ∷ []) (I64Const (pos 1) ∷ call r.Int ∷ []) (echoed v)
      (λ u. give (Int (pos 1))) (echoes s d Everywhere v) (λ u. values_int s d Everywhere 1 one)))

  pub prefix_runs : (world : World) (context : Context) (op : Prefix) (b : ℕ) (code : Code) (x : Reading) → Within b code x.value →
      Within (b + 5) (prefix_code op code) (prefix world context op x)
  prefix_runs world context p.Plus b code x q = within_more (apply_code unary.Plus code) (apply unary.Plus x.value) (b + 3) (b + 5) (omega arith) (unary_runs unary.Plus b code x.value q)
  prefix_runs world context p.Minus b code x q = within_more (apply_code unary.Minus code) (apply unary.Minus x.value) (b + 3) (b + 5) (omega arith) (unary_runs unary.Minus b code x.value q)
  prefix_runs world context p.BitNot b code x q = within_more (apply_code unary.BitNot code) (apply unary.BitNot x.value) (b + 3) (b + 5) (omega arith) (unary_runs unary.BitNot b code x.value q)
  prefix_runs world context p.Silence b code x q = within_more code x.value b (b + 5) (omega arith) q
  prefix_runs world context (p.Cast type) b code x q = within_more (apply_code (cast_of type) code) (apply (cast_of type) x.value) (b + 3) (b + 5) (omega arith) (unary_runs (cast_of type) b code x.value q)
  prefix_runs world context p.Not b code x q = within_more (apply_code unary.Not code) (apply unary.Not x.value) (b + 3) (b + 5) (omega arith) (unary_runs unary.Not b code x.value q)
  prefix_runs world context p.Print b code x q = with_code_holds _ _ code (λ code. code ++ call r.Echo ∷ I64Const (pos 1) ∷ call r.Int ∷ []) q (λ code v. print_runs b code x.value v)
  prefix_runs world context (p.Include form) b code x q = tt

  -- what follows the left operand
  strict_runs : (o : Option BinOp) (b : ℕ) (code : Code) (m : Means Value) → Within b code m → WithinAfter (b + 10) (strict_code o code) (λ v. operated o v m)
  strict_runs None b code m p = tt
  strict_runs (Some op) b code m p = with_code_holds _ _ code (λ code. code ++ op2 op) p (λ code q v.
      more s d Everywhere [] (one_value v) no_words one_value (b + 3) (b + 10) (omega arith)
      (then_on s d Everywhere [] (one_value v) no_words (λ w. a_value w ∷ a_value v ∷ []) no_words one_value b 3 code (op2 op) m (λ w. settle (binary_of op v w))
      (over s d Everywhere [] [] no_words one_value [] (one_value v) b code m q) (λ w. operates s d Everywhere op v w)))

  truth_runs : (b : ℕ) (code : List Instr) (m : Means Value) → Values s d Everywhere b code m → Values s d Everywhere (b + 3) (code ++ op1 unary.ToBool) (truth_of m)
  truth_runs b code m q = then_value b 3 code (op1 unary.ToBool) m (λ v. give (Boolean (to_bool v))) q (operates_on s d Everywhere unary.ToBool)

  and_runs : (b : ℕ) (code : Code) (m : Means Value) → Within b code m →
      WithinAfter (b + 10) (with_code code (λ code. choice (code ++ op1 unary.ToBool) (boolean false))) (λ v. and_also v m)
  and_runs b code m p = with_code_holds _ _ code (λ code. choice (code ++ op1 unary.ToBool) (boolean false)) p (λ code q v.
      more s d Everywhere [] (one_value v) no_words one_value (2 + ((b + 3) + (3 + 2))) (b + 10) (omega arith)
      (chooses_by s d Everywhere (b + 3) 3 (code ++ op1 unary.ToBool) (boolean false) (truth_of m) (give (Boolean false)) (truth_runs b code m q) (values_boolean s d Everywhere false) v))

  or_runs : (b : ℕ) (code : Code) (m : Means Value) → Within b code m →
      WithinAfter (b + 10) (with_code code (λ code. choice (boolean true) (code ++ op1 unary.ToBool))) (λ v. or_other v m)
  or_runs b code m p = with_code_holds _ _ code (λ code. choice (boolean true) (code ++ op1 unary.ToBool)) p (λ code q v.
      more s d Everywhere [] (one_value v) no_words one_value (2 + (3 + ((b + 3) + 2))) (b + 10) (omega arith)
      (chooses_by s d Everywhere 3 (b + 3) (boolean true) (code ++ op1 unary.ToBool) (give (Boolean true)) (truth_of m) (values_boolean s d Everywhere true) (truth_runs b code m q) v))

  pub operate_runs : (op : Binary) (b : ℕ) (code : Code) (m : Means Value) → Within b code m → WithinAfter (b + 10) (operate_code op code) (λ v. operate op v m)
  operate_runs b.BooleanAnd n code m p = and_runs n code m p
  operate_runs b.LogicalAnd n code m p = and_runs n code m p
  operate_runs b.BooleanOr n code m p = or_runs n code m p
  operate_runs b.LogicalOr n code m p = or_runs n code m p
  operate_runs op n code m p = strict_runs (strict op) n code m p

  pub two_run : (a b : ℕ) (left right : Code) (m : Means Value) (f : Value → Means Value) → Within a left m → WithinAfter b right f →
      Within (a + b) (all (left ∷ right ∷ [])) (bind m f)
  two_run a b left right m f p q = two_hold _ _ _ left right p q (λ left right p q. then_value a b left right m f p q)

  pub ternary_runs : (a b e : ℕ) (x y z : Code) (m f g : Means Value) → Within a x m → Within b y f → Within e z g →
      Within (a + (b + (e + 4))) (all (x ∷ with_both y z choice ∷ [])) (ternary m f g)
  ternary_runs a b e x y z m f g p q r = two_run a (b + (e + 4)) x (with_both y z choice) m (λ v. if to_bool v then f else g) p
      (with_both_holds _ _ _ y z choice q r (λ y z q r v. more s d Everywhere [] (one_value v) no_words one_value (2 + (b + (e + 2))) (b + (e + 4)) (omega arith)
      (chooses_by s d Everywhere b e y z f g q r v)))

  pub otherwise_runs : (b : ℕ) (code : Code) (m : Means Value) → Within b code m → WithinAfter (b + 9) (otherwise_code code) (λ v. if to_bool v then give v else m)
  otherwise_runs b code m p = with_code_holds _ _ code (λ code. call r.Dup ∷ call r.Truth ∷ unless (call r.Drop ∷ code)) p (λ code q. after_otherwise s d Everywhere b code m q)

  -- ---- ends

  -- nothing runs behind an end
  dead : {A : Type 0} (b n : ℕ) (c : Conf) (G H : A → State → Conf → Type 0) (e : Result (List ℕ × ℤ) Fatal) (st : State) →
      Follows s.m s.u G b n c (bind (settle e) (λ e. first (print e.0) (end_with (Exits e.1))) n st) → Follows s.m s.u H b n c (bind (settle e) (λ e. first (print e.0) (end_with (Exits e.1))) n st)
  dead b n c G H (Ok e) st f = f
  dead b n c G H (Err kind) st f = f

  pub exits_then : After s d Everywhere 2 (call r.Exit ∷ Unreachable ∷ []) exit_with
  exits_then v = record {
    by = λ n le st k c w t.
        dead 2 n c (λ a st c. Stands s (before (Unreachable ∷ []) k) [] [] (one_value a ++ k.stack) st c) (λ a st c. Stands s k [] [] (one_value a ++ k.stack) st c) (exit_of v) st
        ((exits s d Everywhere v).by n le st (before (Unreachable ∷ []) k) c w (first_part s d Everywhere k (call r.Exit ∷ []) (Unreachable ∷ []) [] (one_value v ++ k.stack) st c t));
  }

  pub exit_runs : Values s d Everywhere 5 (I64Const (pos 0) ∷ call r.Int ∷ call r.Exit ∷ Unreachable ∷ []) (end_with (Exits (pos 0)))
  exit_runs = meant s d Everywhere [] [] no_words one_value 5 (I64Const (pos 0) ∷ call r.Int ∷ call r.Exit ∷ Unreachable ∷ [])
      (bind (give (Int (pos 0))) exit_with) (end_with (Exits (pos 0)))
      (λ n st. ap (λ out. Ends (Exits (pos 0)) (record st { core = record st.core { out = out } })) (append-nil st.core.out))
      (then_value 3 2 (I64Const (pos 0) ∷ call r.Int ∷ []) (call r.Exit ∷ Unreachable ∷ []) (give (Int (pos 0))) exit_with (values_int s d Everywhere 0 zero_signed) exits_then)

  pub fatal_runs : {A : Type 0} (Where : Situation → Type 0) (items : List Item) (leaves : A → List Word) (gives : A → List Item) (kind : Fatal) →
      Runs s d Where [] items leaves gives 3 (fatal kind) (fail kind)
  fatal_runs {A} Where items leaves gives kind = record {
    by = λ n le st k c w t.
        (by_row s d Where {A = A} r.Fatal (number (fatal_code kind) ∷ []) 1 [] (word.I32 (fatal_code kind) ∷ []) items leaves gives (fail kind)
        (λ rest below at. (word.I32 (fatal_code kind) ∷ below, refl, refl)) (λ n st k p here fits. ap (λ o. found o (host_of k p (items ++ k.stack) st) (λ kind. fails kind (host_of k p (items ++ k.stack) st))) (fatal_inverse kind))).by
        n le st (before (Unreachable ∷ []) k) c w (first_part s d Where k (number (fatal_code kind) ∷ call r.Fatal ∷ []) (Unreachable ∷ []) [] (items ++ k.stack) st c t);
  }
