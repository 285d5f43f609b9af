-- The code of expressions, one clause a form, by the names that their meanings have. It leaves one item on the host's operand stack,
-- and nothing on the module's. What is refused has no code. This project's own.
use Rattle.std.specs.Prelude.{ℕ, suc, pos, ◌+◌, Bool, true, false, ◌++◌, List, [], ◌∷◌, length, map, flat_map, filter_map, replicate, Option, None, Some, if◌then◌else◌, bytes_eq, codes}
use Rattle.std.specs.List.{list_any}
use Rattle.std.specs.Option.{option_map_or, unwrap_or}
use Rattle.hph_wasm.specs.declared.instr.Instr.{Instr, I64Const, Br, BrIf, Eqz, CallIndirect, LocalGet, LocalTee, Unreachable}
use Rattle.hph_wasm.specs.declared.instr.Instr.TheViews as view
use Rattle.hph_wasm.specs.declared.types.ValType.TheVariants.{I32}
use Rattle.hph_ast.specs.declared.operator.Binary.{Binary}
use Rattle.hph_ast.specs.declared.operator.Binary.TheVariants as b
use Rattle.hph_ast.specs.declared.operator.Prefix.{Prefix}
use Rattle.hph_ast.specs.declared.operator.Prefix.TheVariants as p
use Rattle.hph_ast.specs.declared.operator.Assignment.{Assignment}
use Rattle.hph_ast.specs.declared.operator.Assignment.TheVariants as a
use Rattle.hph_ast.specs.declared.expr.Update.{Update}
use Rattle.hph_ast.specs.declared.expr.Update.TheVariants as update
use Rattle.hph_ast.specs.declared.expr.Expr.{Expr}
use Rattle.hph_ast.specs.declared.expr.ClassReference.TheOpen.{ClassReference-F, Expr-F, Item-F, MemberName-F, Step-F, StringPart-F}
use Rattle.hph_ast.specs.declared.expr.ClassReference.TheFolds.{fold-Expr}
use Rattle.hph_php.specs.declared.fatal.Fatal.{Fatal}
use Rattle.hph_php.specs.declared.fatal.Fatal.TheVariants.{TooFewArguments, BadArgument}
use Rattle.hph_php.specs.declared.operator.BinOp.{BinOp}
use Rattle.hph_php.specs.declared.operator.BinOp.TheVariants as binary
use Rattle.hph_php.specs.declared.operator.UnOp.{UnOp}
use Rattle.hph_php.specs.declared.operator.UnOp.TheVariants as unary
use Rattle.hph_php.specs.declared.builtin.Builtin.{Builtin}
use Rattle.hph_php.specs.declared.builtin.Builtin.TheVariants as f
use Rattle.hph_php.specs.Values.{Value, Null, Boolean}
use Rattle.hph_php.specs.State.{Name, folded, named}
use Rattle.hph_php.specs.Codes.{binary_code, unary_code, fatal_code, builtin_code, builtin_named}
use Rattle.hph_php.specs.Declarations.{takes_reference}
use Rattle.hph_php.specs.Includes.{directory_of}
use Rattle.hph_php.specs.Operations.{words, strict, cast_of, compound, is_this}
use Rattle.hph_effects.specs.declared.row.Row.TheVariants as r
use Rattle.hph_plan.specs.Plan.{Plan}
use Rattle.hph_lowering.specs.Code.{Code, with_code, with_both, call, plain, all, no_value, number, Scope, slot_of, by_number, int_code, text_code}

-- ---- what the lowering tells of an expression and of its parts

-- The name is of the variables to which `=&` in it may give another location.
pub record Piece : Type 0 where
  pub code : Code
  pub binds : List Name

-- a step of a path: the code of its key, if it has one, and what makes the step of it
pub record Step : Type 0 where
  pub key : Option Code
  pub step : Code
  pub binds : List Name

-- The variable that it is; the variable that it is a path from; and whether it is a path, with its base and steps.
pub record Lowered : Type 0 where
  pub variable : Option Name
  pub root : Option Name
  pub is_path : Bool
  pub base : Code
  pub steps : List Step
  pub value : Code
  pub binds : List Name

-- a class: its item, what `instanceof` takes, and whether a call by it passes on the late static class
pub record ClassCode : Type 0 where
  pub item : Code
  pub tested : Code
  pub forwards : ℕ

abbrev pub valued : List Name → Code → Lowered
valued binds code = record { variable = None; root = None; is_path = false; base = code; steps = []; value = code; binds = binds }

abbrev pub binds_of : List Lowered → List Name
binds_of xs = flat_map (λ (x : Lowered). x.binds) xs

abbrev pub codes_of : List Lowered → List Code
codes_of xs = map (λ (x : Lowered). x.value) xs

abbrev pub pieces : List Piece → List Code
pieces xs = map (λ (x : Piece). x.code) xs

abbrev pub piece_binds : List Piece → List Name
piece_binds xs = flat_map (λ (x : Piece). x.binds) xs

-- ---- choices

abbrev pub choice : List Instr → List Instr → List Instr
choice first second = call r.Truth ∷ view.If no_value first (Some second) ∷ []

abbrev pub when : List Instr → List Instr
when code = view.If no_value code None ∷ []

abbrev pub unless : List Instr → List Instr
unless code = Eqz I32 ∷ view.If no_value code None ∷ []

-- ---- paths

abbrev pub key_code : Step → Code
key_code s = unwrap_or s.key (plain [])

abbrev pub step_code : Step → Code
step_code s = all (key_code s ∷ s.step ∷ [])

-- a step whose key is on the hold stack
abbrev pub taken : List Instr
taken = call r.Held ∷ call r.Unhold ∷ []

abbrev pub held_step_code : Step → Code
held_step_code s = all (option_map_or (λ _. plain taken) s.key (plain []) ∷ s.step ∷ [])

abbrev pub repeated : ℕ → List Instr → List Instr
repeated n code = flat_map (λ c. c) (replicate n code)

-- how many keys are evaluated
abbrev pub keys_in : List Step → ℕ
keys_in ss = length (filter_map (λ (s : Step). s.key) ss)

abbrev pub is_bound : Option Name → List Name → Bool
is_bound name names = option_map_or (λ n. list_any (bytes_eq n) names) name false

abbrev pub step_binds : List Step → List Name
step_binds ss = flat_map (λ (s : Step). s.binds) ss

-- A base and its steps, then values. Where the variable may get another location by these, they are held, and its location is
-- taken after them; it is made before them all the same.
abbrev pub along : Lowered → List Lowered → Code
along x ys = if is_bound x.root (step_binds x.steps ++ binds_of ys)
    then all (x.base ∷ plain (call r.Drop ∷ []) ∷ all (map key_code x.steps) ∷ all (codes_of ys) ∷ plain (repeated (keys_in x.steps + length ys) (call r.Hold ∷ []))
    ∷ x.base ∷ all (map held_step_code x.steps) ∷ plain (repeated (length ys) taken) ∷ [])
    else all (x.base ∷ all (map step_code x.steps) ∷ all (codes_of ys) ∷ [])

abbrev pub depth : Lowered → Instr
depth x = number (length x.steps)

-- leaves 1 with the value, or 0
abbrev pub try_code : Lowered → Code
try_code x = if x.is_path then all (along x [] ∷ plain (depth x ∷ call r.PathTry ∷ []) ∷ [])
    else all (x.value ∷ plain (number 0 ∷ call r.PathTry ∷ []) ∷ [])

-- ---- operators

abbrev pub op2 : BinOp → List Instr
op2 op = number (binary_code op) ∷ call r.Op2 ∷ []

abbrev pub op1 : UnOp → List Instr
op1 op = number (unary_code op) ∷ call r.Op1 ∷ []

abbrev pub null : List Instr
null = call r.Null ∷ []

abbrev pub boolean : Bool → List Instr
boolean t = number (if t then 1 else 0) ∷ call r.Bool ∷ []

abbrev pub strict_code : Option BinOp → Code → Code
strict_code None right = None
strict_code (Some op) right = with_code right (λ code. code ++ op2 op)

-- what follows the left operand
abbrev pub operate_code : Binary → Code → Code
operate_code b.BooleanAnd right = with_code right (λ code. choice (code ++ op1 unary.ToBool) (boolean false))
operate_code b.LogicalAnd right = with_code right (λ code. choice (code ++ op1 unary.ToBool) (boolean false))
operate_code b.BooleanOr right = with_code right (λ code. choice (boolean true) (code ++ op1 unary.ToBool))
operate_code b.LogicalOr right = with_code right (λ code. choice (boolean true) (code ++ op1 unary.ToBool))
operate_code op right = strict_code (strict op) right

abbrev pub pair_code : Binary → Lowered → Lowered → Code
pair_code b.Coalesce x y = all (try_code x ∷ with_code y.value unless ∷ [])
pair_code op x y = all (x.value ∷ operate_code op y.value ∷ [])

abbrev pub apply_code : UnOp → Code → Code
apply_code op x = with_code x (λ code. code ++ op1 op)

-- an include is a statement
abbrev pub prefix_code : Prefix → Code → Code
prefix_code p.Plus x = apply_code unary.Plus x
prefix_code p.Minus x = apply_code unary.Minus x
prefix_code p.BitNot x = apply_code unary.BitNot x
prefix_code p.Silence x = x
prefix_code (p.Cast type) x = apply_code (cast_of type) x
prefix_code p.Not x = apply_code unary.Not x
prefix_code p.Print x = with_code x (λ code. code ++ call r.Echo ∷ I64Const (pos 1) ∷ call r.Int ∷ [])
prefix_code (p.Include form) x = None

-- what follows the first operand of `a ?: b ?: c`
abbrev pub otherwise_code : Code → Code
otherwise_code x = with_code x (λ code. call r.Dup ∷ call r.Truth ∷ unless (call r.Drop ∷ code))

abbrev pub update_code : Update → ℕ
update_code update.PreIncrement = 0
update_code update.PreDecrement = 1
update_code update.PostIncrement = 2
update_code update.PostDecrement = 3

-- ---- isset, empty, strings

abbrev pub isset_code : List Lowered → Code
isset_code [] = Some []
isset_code (x ∷ xs) = all (try_code x ∷ plain (Eqz I32 ∷ BrIf 0 ∷ call r.Drop ∷ []) ∷ isset_code xs ∷ [])

abbrev pub isset_blocks : List Instr → List Instr
isset_blocks tests =
    view.Block no_value (view.Block no_value (tests ++ boolean true ++ Br 1 ∷ []) ∷ boolean false) ∷ []

abbrev pub empty_code : Lowered → Code
empty_code x = with_code (try_code x) (λ code. code ++ view.If no_value (op1 unary.Not) (Some (boolean true)) ∷ [])

abbrev pub joined_pieces : List Code → Code
joined_pieces [] = Some []
joined_pieces (c ∷ cs) = all (c ∷ plain (op2 binary.Concat) ∷ joined_pieces cs ∷ [])

abbrev pub fatal : Fatal → List Instr
fatal kind = number (fatal_code kind) ∷ call r.Fatal ∷ Unreachable ∷ []

module _ (plan : Plan) (scope : Scope) where
  abbrev pub text : List ℕ → Code
  text bytes = text_code plan bytes

  -- ---- words and variables

  -- the words true, false and null alone
  abbrev pub word_code : Value → Code
  word_code Null = Some null
  word_code (Boolean t) = Some (boolean t)
  word_code _ = None

  abbrev pub constant_code : Name → Code
  constant_code name = option_map_or word_code (named (folded name) words) (all (text name ∷ plain (call r.ConstGet ∷ []) ∷ []))

  abbrev pub slot_code : Name → Instr → Code
  slot_code name row = by_number (slot_of scope name) (λ s. number s ∷ row ∷ [])

  abbrev pub variable_of : Name → Lowered
  variable_of name = if is_this name then valued [] (plain (call r.This ∷ [])) else record {
    variable = Some name;
    root = Some name;
    is_path = true;
    base = slot_code name (call r.Ref);
    steps = [];
    value = slot_code name (call r.Get);
    binds = [];
  }

  abbrev pub interpolated_code : List Code → Code
  interpolated_code [] = text []
  interpolated_code (c ∷ cs) = all (c ∷ joined_pieces cs ∷ [])

  -- ---- paths

  abbrev pub path : Lowered → List Step → Lowered
  path x steps = with_value (record {
    variable = None;
    root = x.root;
    is_path = true;
    base = x.base;
    steps = steps;
    value = None;
    binds = x.binds ++ step_binds steps;
  })
    where
      with_value : Lowered → Lowered
      with_value x = record x { value = all (along x [] ∷ plain (depth x ∷ call r.PathGet ∷ []) ∷ []) }

  abbrev pub location_code : ClassCode → Name → Code
  location_code class name = all (class.item ∷ text name ∷ plain (call r.Sprop ∷ LocalTee scope.scratch
      ∷ when (LocalGet scope.scratch ∷ CallIndirect 0 ∷ call r.LocInit ∷ [])) ∷ [])

  abbrev pub static_path : ClassCode → Name → Lowered
  static_path class name = record {
    variable = None;
    root = None;
    is_path = true;
    base = location_code class name;
    steps = [];
    value = all (location_code class name ∷ plain (number 0 ∷ call r.PathGet ∷ []) ∷ []);
    binds = [];
  }

  -- ---- assignments

  abbrev pub set_code : Name → Code → Code
  set_code name value = all (value ∷ plain (call r.Dup ∷ []) ∷ slot_code name (call r.Set) ∷ [])

  abbrev pub assign_code : Lowered → Lowered → Code
  assign_code x y = option_map_or (λ name. set_code name y.value) x.variable
      (all (along x (y ∷ []) ∷ plain (depth x ∷ call r.PathSet ∷ []) ∷ []))

  abbrev pub assign_with : Option BinOp → Lowered → Lowered → Code
  assign_with None x y = assign_code x y
  assign_with (Some op) x y = all (along x (y ∷ []) ∷ plain (depth x ∷ number (binary_code op) ∷ call r.PathOp ∷ []) ∷ [])

  -- the base anew, below the steps and the value that are there
  abbrev pub based_anew : Lowered → Code
  based_anew x = all (plain (repeated (suc (length x.steps)) (call r.Hold ∷ []) ++ call r.Drop ∷ []) ∷ x.base
      ∷ plain (repeated (suc (length x.steps)) taken) ∷ [])

  abbrev pub assign_unset : Lowered → Lowered → Code
  assign_unset x y = all (along x [] ∷ plain (depth x ∷ call r.PathKeep ∷ []) ∷ with_code (all (y.value
      ∷ (if is_bound x.root y.binds then based_anew x else plain []) ∷ plain (depth x ∷ call r.PathSet ∷ []) ∷ [])) unless ∷ [])

  abbrev pub assignment_code : Assignment → Lowered → Lowered → Code
  assignment_code a.Coalesce x y = assign_unset x y
  assignment_code op x y = assign_with (compound op) x y

  abbrev pub share_code : Option Name → Option Name → Code
  share_code (Some x) (Some y) = with_both (by_number (slot_of scope x) (λ s. number s ∷ []))
      (by_number (slot_of scope y) (λ t. number t ∷ call r.Bind ∷ [])) (λ s t. s ++ t)
  share_code _ _ = None

  abbrev pub bound_name : Option Name → List Name
  bound_name name = option_map_or (λ n. n ∷ []) name []

  abbrev pub share : Lowered → Lowered → Lowered
  share x y = valued (bound_name x.variable) (all (share_code x.variable y.variable ∷ x.value ∷ []))

  -- ---- calls

  abbrev pub argument_code : Bool → Option Name → Code → Code
  argument_code true (Some name) value = slot_code name (call r.Ref)
  argument_code _ _ value = value

  abbrev pub arguments_from : ℕ → (ℕ → Bool) → List Lowered → List Code
  arguments_from position by_ref [] = []
  arguments_from position by_ref (x ∷ xs) = argument_code (by_ref position) x.variable x.value ∷ arguments_from (suc position) by_ref xs

  abbrev pub arguments : Bool → Name → List Lowered → Code
  arguments method name xs = all (arguments_from 0 (takes_reference plan.program method name) xs)

  -- the number of arguments and that of the function lie on the module's stack until the call
  abbrev pub called : ℕ → Code → Code → Code
  called n function args = all (plain (number n ∷ []) ∷ function ∷ args ∷ plain (CallIndirect 1 ∷ []) ∷ [])

  abbrev pub function_code : Name → List Lowered → Code
  function_code name xs = called (length xs) (all (text name ∷ plain (call r.FnFind ∷ []) ∷ [])) (arguments false name xs)

  abbrev pub push_code : List Lowered → Code
  push_code [] = plain (fatal TooFewArguments)
  push_code (x ∷ xs) = all (along x xs ∷ plain (depth x ∷ number (length xs) ∷ call r.PathPush ∷ []) ∷ [])

  abbrev pub popped_code : Lowered → List Lowered → List Instr
  popped_code x [] = depth x ∷ call r.PathPop ∷ []
  popped_code x (y ∷ ys) = fatal BadArgument

  abbrev pub pop_code : List Lowered → Code
  pop_code [] = plain (fatal TooFewArguments)
  pop_code (x ∷ xs) = all (along x xs ∷ plain (popped_code x xs) ∷ [])

  abbrev pub builtin_call : Builtin → List Lowered → Code
  builtin_call f.ArrayPush xs = push_code xs
  builtin_call f.ArrayPop xs = pop_code xs
  builtin_call function xs = all (all (codes_of xs) ∷ plain (number (builtin_code function) ∷ number (length xs) ∷ call r.Builtin ∷ []) ∷ [])

  abbrev pub call_code : Name → List Lowered → Code
  call_code name xs = option_map_or (λ function. builtin_call function xs) (builtin_named name) (function_code name xs)

  -- ---- classes

  abbrev pub method_code : Code → Name → List Lowered → Code
  method_code x name xs = called (length xs) (all (x ∷ text name ∷ plain (call r.Method ∷ []) ∷ [])) (arguments true name xs)

  abbrev pub static_call_code : ClassCode → Name → List Lowered → Code
  static_call_code c name xs =
      called (length xs) (all (c.item ∷ text name ∷ plain (number c.forwards ∷ call r.Smethod ∷ []) ∷ [])) (arguments true name xs)

  abbrev pub construct_code : ℕ → List Instr
  construct_code n = LocalTee scope.scratch ∷ view.If no_value
      (number n ∷ LocalGet scope.scratch ∷ CallIndirect 1 ∷ call r.Drop ∷ [])
      (Some (repeated n (call r.Drop ∷ []) ++ call r.Drop ∷ [])) ∷ []

  abbrev pub new_code : ClassCode → List Lowered → Code
  new_code c xs = all (c.item
      ∷ plain (call r.ClassNew ∷ CallIndirect 0 ∷ call r.Ctor ∷ []) ∷ arguments true (codes "__construct") xs ∷ plain (construct_code (length xs)) ∷ [])

  abbrev pub class_item : Code → ℕ → ClassCode
  class_item item forwards = record { item = item; tested = item; forwards = forwards }

  abbrev pub class_by : ClassReference-F ClassCode Lowered Piece Name Step Piece → ClassCode
  class_by (ClassReference-F.ByName at name) =
      record { item = all (text name ∷ plain (call r.Class ∷ []) ∷ []); tested = text name; forwards = 0 }
  class_by (ClassReference-F.SelfClass at) = class_item (by_number scope.class (λ k. number k ∷ call r.ClassDecl ∷ [])) 1
  class_by (ClassReference-F.Parent at) = class_item (by_number scope.class (λ k. number k ∷ call r.ClassParent ∷ [])) 1
  class_by (ClassReference-F.Static at) = class_item (plain (call r.ClassStatic ∷ [])) 1
  class_by (ClassReference-F.ByExpression at x) = class_item None 0

  abbrev pub instance_code : ClassCode → Code
  instance_code c = all (c.tested ∷ plain (call r.Instance ∷ []) ∷ [])

  -- ---- nodes

  abbrev pub item_by : Item-F ClassCode Lowered Piece Name Step Piece → Piece
  item_by (Item-F.Plain at x) = record { code = all (x.value ∷ plain (call r.Elem ∷ []) ∷ []); binds = x.binds }
  item_by (Item-F.Keyed at k x) =
      record { code = all (k.value ∷ x.value ∷ plain (call r.ElemKey ∷ []) ∷ []); binds = k.binds ++ x.binds }
  item_by _ = record { code = None; binds = [] }

  abbrev pub member_by : MemberName-F ClassCode Lowered Piece Name Step Piece → Name
  member_by (MemberName-F.Named name) = name
  member_by (MemberName-F.Computed x) = []

  abbrev pub step_by : Step-F ClassCode Lowered Piece Name Step Piece → Step
  step_by (Step-F.Index at x) = record { key = Some x.value; step = plain (call r.StepKey ∷ []); binds = x.binds }
  step_by (Step-F.Append at) = record { key = None; step = plain (call r.StepAppend ∷ []); binds = [] }
  step_by (Step-F.Property at name) = record { key = None; step = all (text name ∷ plain (call r.StepProp ∷ []) ∷ []); binds = [] }

  abbrev pub part_by : StringPart-F ClassCode Lowered Piece Name Step Piece → Piece
  part_by (StringPart-F.Piece at bytes) = record { code = text bytes; binds = [] }
  part_by (StringPart-F.Interpolation x) = record { code = apply_code unary.ToString x.value; binds = x.binds }

  -- each is given the code of its parts
  abbrev pub lowered_by : Expr-F ClassCode Lowered Piece Name Step Piece → Lowered
  lowered_by (Expr-F.Int at n) = valued [] (int_code n)
  lowered_by (Expr-F.Text at bytes) = valued [] (text bytes)
  lowered_by (Expr-F.Interpolated at parts) = valued (piece_binds parts) (interpolated_code (pieces parts))
  lowered_by (Expr-F.Variable at name) = variable_of name
  lowered_by (Expr-F.Constant at name) = valued [] (constant_code name)
  lowered_by (Expr-F.Directory at) = valued [] (text (directory_of plan.program scope.file))
  lowered_by (Expr-F.Array at form items) = valued (piece_binds items) (all (plain (call r.Arr ∷ []) ∷ pieces items))
  lowered_by (Expr-F.Call at name xs) = valued (binds_of xs) (call_code name xs)
  lowered_by (Expr-F.StaticCall at class name xs) = valued (binds_of xs) (static_call_code class name xs)
  lowered_by (Expr-F.MethodCall at x name xs) = valued (x.binds ++ binds_of xs) (method_code x.value name xs)
  lowered_by (Expr-F.New at class xs) = valued (binds_of xs) (new_code class xs)
  lowered_by (Expr-F.ClassConstant at class name) = valued [] (all (class.item ∷ text name ∷ plain (call r.ConstFind ∷ CallIndirect 0 ∷ []) ∷ []))
  lowered_by (Expr-F.StaticProperty at class name) = static_path class name
  lowered_by (Expr-F.Paren at x) = valued x.binds x.value
  lowered_by (Expr-F.Isset at xs) = valued (binds_of xs) (with_code (isset_code xs) isset_blocks)
  lowered_by (Expr-F.Empty at x) = valued x.binds (empty_code x)
  lowered_by (Expr-F.Exit at) = valued [] (plain (I64Const (pos 0) ∷ call r.Int ∷ call r.Exit ∷ Unreachable ∷ []))
  lowered_by (Expr-F.ExitWith at x) = valued x.binds (all (x.value ∷ plain (call r.Exit ∷ Unreachable ∷ []) ∷ []))
  lowered_by (Expr-F.Path at x steps) = path x steps
  lowered_by (Expr-F.Update at form x) =
      valued x.binds (all (along x [] ∷ plain (depth x ∷ number (update_code form) ∷ call r.PathInc ∷ []) ∷ []))
  lowered_by (Expr-F.Prefix at op x) = valued x.binds (prefix_code op x.value)
  lowered_by (Expr-F.InstanceOf at x classes) = valued x.binds (all (x.value ∷ map instance_code classes))
  lowered_by (Expr-F.Run at x more) =
      valued (x.binds ++ flat_map (λ o. o.1.binds) more) (all (x.value ∷ map (λ o. operate_code o.0 o.1.value) more))
  lowered_by (Expr-F.Pair at op x y) = valued (x.binds ++ y.binds) (pair_code op x y)
  lowered_by (Expr-F.Ternary at x y z) =
      valued (x.binds ++ y.binds ++ z.binds) (all (x.value ∷ with_both y.value z.value choice ∷ []))
  lowered_by (Expr-F.ShortTernary at x more) =
      valued (x.binds ++ binds_of more) (all (x.value ∷ map otherwise_code (codes_of more)))
  lowered_by (Expr-F.Assign at op x y) = valued (x.binds ++ y.binds) (assignment_code op x y)
  lowered_by (Expr-F.AssignReference at x y ampersand) = share x y
  -- the last forms are refused
  lowered_by (Expr-F.DynamicCall at x xs) = valued [] None
  lowered_by (Expr-F.ClassName at class colons) = valued [] None
  lowered_by (Expr-F.Destructure at items x) = valued [] None
  lowered_by (Expr-F.NamedArgument at name x) = valued [] None

  unfoldable pub lowered : Expr → Lowered
  lowered = fold-Expr ClassCode Lowered Piece Name Step Piece class_by lowered_by item_by member_by step_by part_by

  abbrev pub value_code : Expr → Code
  value_code x = (lowered x).value
