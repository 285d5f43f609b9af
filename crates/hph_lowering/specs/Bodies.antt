-- The code of whole functions: bodies of functions and methods, values of constants and properties, and files. This project's own.
use Rattle.std.specs.Prelude.{ℕ, zero, suc, Bool, true, false, List, [], ◌∷◌, ◌++◌, map, length, slice_get, replicate, Option, None, Some, if◌then◌else◌}
use Rattle.std.specs.Option.{option_map, option_map_or}
use Rattle.hph_wasm.specs.declared.types.ValType.{ValType}
use Rattle.hph_wasm.specs.declared.types.ValType.TheVariants.{I32}
use Rattle.hph_wasm.specs.declared.instr.Instr.{Instr, Call, CallIndirect, LocalGet, LocalTee, Compare}
use Rattle.hph_wasm.specs.declared.instr.Instr as instr
use Rattle.hph_wasm.specs.declared.instr.Sign.TheVariants.{Unsigned}
use Rattle.hph_wasm.specs.declared.instr.Comparison.TheVariants.{Le}
use Rattle.hph_wasm.specs.declared.module.Func.{Func}
use Rattle.hph_ast.specs.declared.token.Identifier.{Identifier}
use Rattle.hph_ast.specs.declared.expr.Expr.{Expr}
use Rattle.hph_ast.specs.declared.function.Function.{Function, out-Function}
use Rattle.hph_ast.specs.declared.function.Param.{Param}
use Rattle.hph_ast.specs.declared.class.Class.{Class, out-Class}
use Rattle.hph_ast.specs.declared.stmt.Statement.{Statement, out-Statement}
use Rattle.hph_ast.specs.declared.program.File.{File}
use Rattle.hph_php.specs.State.{Name}
use Rattle.hph_php.specs.Declarations.{PlacedClass, Placed, a_body, a_value, initial_values, numbered_from}
use Rattle.hph_php.specs.Declarations as declared
use Rattle.hph_php.specs.Files.{top_functions, top_classes, Kind, of_function, of_class, of_neither, kind_at}
use Rattle.hph_effects.specs.declared.row.Row.TheVariants as r
use Rattle.hph_plan.specs.Plan.{Plan, body_names}
use Rattle.hph_lowering.specs.Code.{Code, with_code, all, plain, call, number, Scope, text_code}
use Rattle.hph_lowering.specs.Expressions.{value_code, slot_code, null, when, unless}
use Rattle.hph_lowering.specs.Statements.{lowers, all_code, function_statement, class_statement, function_of_file}

abbrev pub function_with : (type : ℕ) → (locals : List ValType) → Code → Option Func
function_with type locals code = option_map (λ body. record { ty = type; locals = locals; body = body }) code

-- type 0 takes nothing, type 1 the number of arguments
abbrev pub of_file : ℕ
of_file = 0

abbrev pub of_body : ℕ
of_body = 1

module _ (plan : Plan) where
  -- ---- bodies of functions and methods

  abbrev pub body_scope : ℕ → Function → Option ℕ → Scope
  body_scope file f class = record { file = file; names = body_names f; class = class; in_function = true; scratch = 1 }

  -- a parameter is required if it or a later one has no default
  abbrev pub required : List Param → ℕ
  required [] = 0
  required (p ∷ ps) = from_rest (required ps)
    where
      from_rest : ℕ → ℕ
      from_rest zero = option_map_or (λ _. 0) p.default 1
      from_rest (suc n) = suc (suc n)

  abbrev pub enter_code : Option ℕ → ℕ → ℕ → ℕ → List Instr
  enter_code None k p m = number k ∷ number p ∷ number m ∷ LocalGet 0 ∷ call r.Enter ∷ []
  enter_code (Some class) k p m = number k ∷ number p ∷ number m ∷ LocalGet 0 ∷ number class ∷ call r.EnterM ∷ []

  -- the default of the parameter at a position, where there is no argument
  abbrev pub default_code : Scope → ℕ → Param → Code
  default_code scope i p = option_map_or (λ x. with_code
      (all (value_code plan scope x ∷ slot_code plan scope p.name.spelled (call r.Set) ∷ []))
      (λ code. LocalGet 0 ∷ number i ∷ Compare I32 (Le Unsigned) ∷ when code)) p.default (plain [])

  -- from a position on, those of the parameters behind the required ones
  abbrev pub defaults_code : Scope → ℕ → ℕ → List Param → Code
  defaults_code scope m i [] = Some []
  defaults_code scope zero i (p ∷ ps) = all (default_code scope i p ∷ defaults_code scope zero (suc i) ps ∷ [])
  defaults_code scope (suc m) i (p ∷ ps) = defaults_code scope m (suc i) ps

  -- what follows the last statement returns null
  abbrev pub body_code : Scope → Option ℕ → Function → Code
  body_code scope class f = all (
      plain (enter_code class (length scope.names) (length (out-Function f).params) (required (out-Function f).params))
      ∷ defaults_code scope (required (out-Function f).params) 0 (out-Function f).params
      ∷ all_code plan scope (out-Function f).body ∷ plain (call r.Null ∷ call r.Leave ∷ []) ∷ [])

  -- ---- values of a class, in a frame of the class

  abbrev pub value_scope : ℕ → ℕ → Scope
  value_scope file class = record { file = file; names = []; class = Some class; in_function = false; scratch = 0 }

  abbrev pub in_class : ℕ → Code → Code
  in_class class code = with_code code (λ code. number class ∷ call r.ClassDecl ∷ number 0 ∷ number 0 ∷ number 0 ∷ number 0
      ∷ number class ∷ call r.EnterM ∷ code ++ call r.Leave ∷ [])

  abbrev pub initial_code : Scope → Name × Option Expr → Code
  initial_code scope q = all (text_code plan q.0
      ∷ option_map_or (value_code plan scope) q.1 (plain null) ∷ plain (call r.PropInit ∷ []) ∷ [])

  -- those of the parent first
  abbrev pub parent_code : ℕ → List Instr
  parent_code class = number class ∷ call r.ParentInit ∷ CallIndirect 0 ∷ []

  abbrev pub has_parent : ℕ → Bool
  has_parent class = option_map_or (λ (c : PlacedClass). option_map_or (λ _. true) (out-Class c.class).parent false)
      (slice_get plan.program.classes class) false

  -- a piece of code of the program; local 0 or 1 is the scratch
  abbrev pub coded : ℕ → declared.Code → Option Func
  coded file (a_body f class is_static) = function_with of_body (I32 ∷ []) (body_code (body_scope file f class) class f)
  coded file (a_value x class) = function_with of_file (I32 ∷ []) (in_class class (value_code plan (value_scope file class) x))
  coded file (initial_values properties class) = function_with of_file (I32 ∷ []) (in_class class (all (
      plain (if has_parent class then parent_code class else []) ∷ map (initial_code (value_scope file class)) properties)))

  -- ---- files

  abbrev pub file_scope : ℕ → Scope
  file_scope file = record { file = file; names = plan.globals; class = None; in_function = false; scratch = 0 }

  -- for each class directly at the top level the local that is its flag: none for a class without a parent, which is always made
  abbrev pub class_flags : ℕ → List Class → List (Option ℕ)
  class_flags next [] = []
  class_flags next (c ∷ cs) =
      option_map_or (λ _. Some next ∷ class_flags (suc next) cs) (out-Class c).parent (None ∷ class_flags next cs)

  abbrev pub flags_in : List (Option ℕ) → ℕ
  flags_in [] = 0
  flags_in (None ∷ flags) = flags_in flags
  flags_in (Some flag ∷ flags) = suc (flags_in flags)

  abbrev pub made_function : Scope → Function → Code
  made_function scope f = function_statement plan scope (record { name = (out-Function f).name.spelled; offset = (out-Function f).at.start })

  -- a class with a parent is made if that is known, and its flag says whether
  abbrev pub made_class : Scope → Option ℕ → Class → Code
  made_class scope None c = class_statement plan scope (out-Class c).at.start
  made_class scope (Some flag) c = all (option_map_or (λ (parent : Identifier). text_code plan parent.spelled) (out-Class c).parent None
      ∷ plain (call r.ClassKnown ∷ LocalTee flag ∷ []) ∷ with_code (class_statement plan scope (out-Class c).at.start) when ∷ [])

  abbrev pub classes_made : Scope → List (Option ℕ) → List Class → Code
  classes_made scope [] cs = Some []
  classes_made scope (flag ∷ flags) [] = Some []
  classes_made scope (flag ∷ flags) (c ∷ cs) = all (made_class scope flag c ∷ classes_made scope flags cs ∷ [])

  -- the class that the next flag tells of is made at its statement unless it was at the entry
  abbrev pub unless_made : List (Option ℕ) → Code → Code
  unless_made (Some flag ∷ flags) code = with_code code (λ code. LocalGet flag ∷ unless code)
  unless_made _ code = plain []

  abbrev pub flags_behind : Kind → List (Option ℕ) → List (Option ℕ)
  flags_behind of_class (flag ∷ flags) = flags
  flags_behind _ flags = flags

  -- the code of a statement directly in a file, of which some functions and classes were made at the entry
  abbrev pub at_entry : Kind → List (Option ℕ) → Code → Code
  at_entry of_function flags code = plain []
  at_entry of_class flags code = unless_made flags code
  at_entry of_neither flags code = code

  abbrev pub top_code : Scope → List (Option ℕ) → List Statement → Code
  top_code scope flags [] = Some []
  top_code scope flags (s ∷ ss) = all (at_entry (kind_at (out-Statement s)) flags (lowers plan scope s [])
      ∷ top_code scope (flags_behind (kind_at (out-Statement s)) flags) ss ∷ [])

  abbrev pub file_code : Scope → List Statement → Code
  file_code scope ss = all (all (map (made_function scope) (top_functions ss))
      ∷ classes_made scope (class_flags 1 (top_classes ss)) (top_classes ss)
      ∷ top_code scope (class_flags 1 (top_classes ss)) ss ∷ [])

  abbrev pub file_function : ℕ × File → Option Func
  file_function f = function_with of_file (replicate (suc (flags_in (class_flags 1 (top_classes f.1.tree.statements)))) I32)
      (file_code (file_scope f.0) f.1.tree.statements)

  -- the first file may include itself, so it isn't the function that is run first
  abbrev pub main_code : List Instr
  main_code = number 0 ∷ call r.Once ∷ instr.Drop ∷ Call (function_of_file plan 0) ∷ []

  -- ---- the whole

  abbrev pub gathered : List (Option Func) → Option (List Func)
  gathered [] = Some []
  gathered (f ∷ fs) = with_rest f (gathered fs)
    where
      with_rest : Option Func → Option (List Func) → Option (List Func)
      with_rest (Some f) (Some fs) = Some (f ∷ fs)
      with_rest _ _ = None

  -- the code of the program by its numbers, then its files, then what is run first
  abbrev pub functions_of : List File → Option (List Func)
  functions_of files = gathered (map (λ (c : Placed). coded c.site.file c.code) plan.program.codes
      ++ map file_function (numbered_from 0 files) ++ function_with of_file [] (plain main_code) ∷ [])
