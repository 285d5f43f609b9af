-- What happens when a file is entered (PHP manual, include): its unconditional declarations are made, and then its statements
-- are run. A declaration is conditional unless it stands directly at the top level. This project's own.
use Rattle.std.specs.Prelude.{ℕ, Bool, true, false, List, [], ◌∷◌, map, is_some, Option, None, Some, if◌then◌else◌}
use Rattle.std.specs.List.{filter_map}
use Rattle.std.specs.Option.{option_map_or}
use Rattle.hph_ast.specs.declared.function.Function.{Function, out-Function}
use Rattle.hph_ast.specs.declared.class.Class.{Class, out-Class}
use Rattle.hph_ast.specs.declared.class.Member.{Member}
use Rattle.hph_ast.specs.declared.class.Member.TheOpen.{Statement-F}
use Rattle.hph_ast.specs.declared.stmt.Statement.{Statement, out-Statement}
use Rattle.hph_ast.specs.declared.stmt.Case.{Case}
use Rattle.hph_ast.specs.declared.stmt.ElseIf.{ElseIf}
use Rattle.hph_ast.specs.declared.program.File.{File}
use Rattle.hph_php.specs.State.{Heap, class_named}
use Rattle.hph_php.specs.Answers.{Means, bind, first, give, nothing, by_state}
use Rattle.hph_php.specs.Declarations.{Codes, site_at, code_number}
use Rattle.hph_php.specs.World.{World, Context}
use Rattle.hph_php.specs.Statements.{Way, Next, both}
use Rattle.hph_php.specs.Executions.{declare_function, declare_class_at, execute}

-- ---- the declarations that stand directly at the top level

abbrev pub function_at : Statement-F Member Statement Class Function Case ElseIf → Option Function
function_at (Statement-F.Function f) = Some f
function_at _ = None

abbrev pub class_at : Statement-F Member Statement Class Function Case ElseIf → Option Class
class_at (Statement-F.Class c) = Some c
class_at _ = None

abbrev pub top_functions : List Statement → List Function
top_functions ss = filter_map (λ s. function_at (out-Statement s)) ss

abbrev pub top_classes : List Statement → List Class
top_classes ss = filter_map (λ s. class_at (out-Statement s)) ss

-- ---- entering a file

-- all functions
abbrev pub make_functions : Codes → ℕ → List Function → Means (Unit {0})
make_functions program file [] = nothing
make_functions program file (f ∷ fs) =
    first (declare_function (out-Function f).name.spelled (code_number program (site_at file (out-Function f).at.start)))
    (make_functions program file fs)

-- a class without a parent, or whose parent is declared
abbrev pub is_ready : Class → Heap → Bool
is_ready c heap = option_map_or (λ parent. is_some (class_named parent.spelled heap)) (out-Class c).parent true

-- whether a class is made
abbrev pub make_class : Codes → ℕ → Class → Means Bool
make_class program file c = by_state (λ st. if is_ready c st.core.heap
    then first (declare_class_at program (site_at file (out-Class c).at.start)) (give true)
    else give false)

-- the classes in order, with a flag for each: whether it was made
abbrev pub make_classes : Codes → ℕ → List Class → Means (List Bool)
make_classes program file [] = give []
make_classes program file (c ∷ cs) =
    bind (make_class program file c) (λ made. bind (make_classes program file cs) (λ more. give (made ∷ more)))

-- ---- the statements directly in a file

-- what a statement is to the declarations that were made at the entry
pub data Kind : Type 0 where
  of_function : Kind
  of_class : Kind
  of_neither : Kind

abbrev pub kind_at : Statement-F Member Statement Class Function Case ElseIf → Kind
kind_at (Statement-F.Function f) = of_function
kind_at (Statement-F.Class c) = of_class
kind_at _ = of_neither

-- a statement with what it means elsewhere
pub record TopStatement : Type 0 where
  pub kind : Kind
  pub means : Means Way

-- a function was made at the entry, and a class if its flag says so, which is the next one
abbrev pub is_made : Kind → List Bool → Bool
is_made of_function flags = true
is_made of_class (made ∷ flags) = made
is_made _ _ = false

abbrev pub flags_after : Kind → List Bool → List Bool
flags_after of_class (made ∷ flags) = flags
flags_after _ flags = flags

-- what was made is passed
abbrev pub at_top : List Bool → List TopStatement → Means Way
at_top flags [] = give Next
at_top flags (s ∷ ss) =
    if is_made s.kind flags then at_top (flags_after s.kind flags) ss else both s.means (at_top (flags_after s.kind flags) ss)

abbrev pub top_statements : List Statement → List (Means Way) → List TopStatement
top_statements [] ms = []
top_statements (s ∷ ss) [] = []
top_statements (s ∷ ss) (m ∷ ms) = record { kind = kind_at (out-Statement s); means = m } ∷ top_statements ss ms

abbrev pub top_level : Codes → ℕ → Context
top_level program file = record { program = program; file = file; class = None; in_function = false }

-- statements, by what they mean elsewhere, that are run after their declarations were made
abbrev pub entering : Codes → ℕ → List Statement → (Context → List (Means Way)) → Means (Unit {0})
entering program file ss meanings =
    first (make_functions program file (top_functions ss)) (bind (make_classes program file (top_classes ss)) (λ made.
    bind (at_top made (top_statements ss (meanings (top_level program file)))) (λ _. nothing)))

-- a return at the top level ends the file
abbrev pub run_file : Codes → World → ℕ → File → Means (Unit {0})
run_file program world file f =
    entering program file f.tree.statements (λ context. map (execute world context) f.tree.statements)
