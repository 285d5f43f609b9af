-- What is collected from an expression or statement: what each node in it gives, nested functions and classes left out.
-- This project's own.
use Rattle.std.specs.Prelude.{◌==◌, ℕ, Bool, true, false, List, [], ◌∷◌, ◌++◌, flat_map, Option, nat_lt, if◌then◌else◌}
use Rattle.std.specs.Option.{option_map_or}
use Rattle.hph_ast.specs.declared.expr.Expr.{Expr}
use Rattle.hph_ast.specs.declared.expr.ClassReference.{ClassReference}
use Rattle.hph_ast.specs.declared.expr.Item.{Item}
use Rattle.hph_ast.specs.declared.expr.MemberName.{MemberName}
use Rattle.hph_ast.specs.declared.expr.Step.{Step}
use Rattle.hph_ast.specs.declared.expr.StringPart.{StringPart}
use Rattle.hph_ast.specs.declared.expr.ClassReference.TheOpen.{ClassReference-F, Expr-F, Item-F, MemberName-F, Step-F, StringPart-F}
use Rattle.hph_ast.specs.declared.expr.ClassReference.TheFolds.{para-Expr}
use Rattle.hph_ast.specs.declared.class.Member.{Member}
use Rattle.hph_ast.specs.declared.class.Class.{Class}
use Rattle.hph_ast.specs.declared.class.ConstantItem.{ConstantItem}
use Rattle.hph_ast.specs.declared.function.Function.{Function}
use Rattle.hph_ast.specs.declared.class.Member.TheOpen.{Statement-F, Case-F, ElseIf-F}
use Rattle.hph_ast.specs.declared.class.Member.TheFolds.{para-Statement}
use Rattle.hph_ast.specs.declared.stmt.Statement.{Statement}
use Rattle.hph_ast.specs.declared.stmt.Case.{Case}
use Rattle.hph_ast.specs.declared.stmt.ElseIf.{ElseIf}
use Rattle.hph_ast.specs.declared.stmt.StaticVariable.{StaticVariable}

-- a part with what is collected from it
abbrev pub With : Type 0 → Type 0 → Type 0
With A T = T × List A

abbrev pub all_of : {A T : Type 0} → List (With A T) → List A
all_of xs = flat_map (λ x. x.1) xs

abbrev pub one : {A T : Type 0} → Option (With A T) → List A
one x = option_map_or (λ y. y.1) x []

-- a node that is given its parts
abbrev pub Layer : Type 0 → Type 0
Layer A = Expr-F (With A ClassReference) (With A Expr) (With A Item) (With A MemberName) (With A Step) (With A StringPart)

abbrev pub StatementLayer : Type 0 → Type 0
StatementLayer A = Statement-F (With A Member) (With A Statement) (With A Class) (With A Function) (With A Case) (With A ElseIf)

-- ---- the parts of expressions

abbrev pub in_class : {A : Type 0} → ClassReference-F (With A ClassReference) (With A Expr) (With A Item) (With A MemberName) (With A Step) (With A StringPart) → List A
in_class (ClassReference-F.ByExpression at x) = x.1
in_class _ = []

abbrev pub in_item : {A : Type 0} → Item-F (With A ClassReference) (With A Expr) (With A Item) (With A MemberName) (With A Step) (With A StringPart) → List A
in_item (Item-F.Plain at x) = x.1
in_item (Item-F.Keyed at x y) = x.1 ++ y.1
in_item (Item-F.Reference at x) = x.1
in_item (Item-F.KeyedReference at x y ampersand) = x.1 ++ y.1
in_item (Item-F.Hole at) = []

abbrev pub in_name : {A : Type 0} → MemberName-F (With A ClassReference) (With A Expr) (With A Item) (With A MemberName) (With A Step) (With A StringPart) → List A
in_name (MemberName-F.Named name) = []
in_name (MemberName-F.Computed x) = x.1

abbrev pub in_step : {A : Type 0} → Step-F (With A ClassReference) (With A Expr) (With A Item) (With A MemberName) (With A Step) (With A StringPart) → List A
in_step (Step-F.Index at x) = x.1
in_step (Step-F.Append at) = []
in_step (Step-F.Property at name) = name.1

abbrev pub in_part : {A : Type 0} → StringPart-F (With A ClassReference) (With A Expr) (With A Item) (With A MemberName) (With A Step) (With A StringPart) → List A
in_part (StringPart-F.Piece at bytes) = []
in_part (StringPart-F.Interpolation x) = x.1

abbrev pub in_parts : {A : Type 0} → Layer A → List A
in_parts (Expr-F.Interpolated at parts) = all_of parts
in_parts (Expr-F.Array at form items) = all_of items
in_parts (Expr-F.Call at name xs) = all_of xs
in_parts (Expr-F.DynamicCall at x xs) = x.1 ++ all_of xs
in_parts (Expr-F.StaticCall at class name xs) = class.1 ++ (name.1 ++ all_of xs)
in_parts (Expr-F.MethodCall at x name xs) = x.1 ++ (name.1 ++ all_of xs)
in_parts (Expr-F.New at class xs) = class.1 ++ all_of xs
in_parts (Expr-F.ClassConstant at class name) = class.1
in_parts (Expr-F.ClassName at class colons) = class.1
in_parts (Expr-F.StaticProperty at class name) = class.1
in_parts (Expr-F.Paren at x) = x.1
in_parts (Expr-F.Isset at xs) = all_of xs
in_parts (Expr-F.Empty at x) = x.1
in_parts (Expr-F.ExitWith at x) = x.1
in_parts (Expr-F.Path at x steps) = x.1 ++ all_of steps
in_parts (Expr-F.Update at form x) = x.1
in_parts (Expr-F.Prefix at op x) = x.1
in_parts (Expr-F.InstanceOf at x classes) = x.1 ++ all_of classes
in_parts (Expr-F.Run at x more) = x.1 ++ flat_map (λ o. o.1.1) more
in_parts (Expr-F.Pair at op x y) = x.1 ++ y.1
in_parts (Expr-F.Ternary at x y z) = x.1 ++ (y.1 ++ z.1)
in_parts (Expr-F.ShortTernary at x more) = x.1 ++ all_of more
in_parts (Expr-F.Assign at op x y) = x.1 ++ y.1
in_parts (Expr-F.AssignReference at x y ampersand) = x.1 ++ y.1
in_parts (Expr-F.Destructure at items x) = all_of items ++ x.1
in_parts (Expr-F.NamedArgument at name x) = x.1
in_parts _ = []

-- what all nodes in an expression give
unfoldable pub collected : {A : Type 0} → (Layer A → List A) → Expr → List A
collected {A} gives = para-Expr (List A) (List A) (List A) (List A) (List A) (List A)
    in_class (λ x. gives x ++ in_parts x) in_item in_name in_step in_part

-- ---- the parts of statements

module _ {A : Type 0} (of_expression : Expr → List A) where
  abbrev pub maybe : Option Expr → List A
  maybe x = option_map_or of_expression x []

  abbrev pub in_statement_parts : StatementLayer A → List A
  in_statement_parts (Statement-F.Block at body) = all_of body
  in_statement_parts (Statement-F.Expression at x) = of_expression x
  in_statement_parts (Statement-F.If at x body more other) = of_expression x ++ (body.1 ++ (all_of more ++ one other))
  in_statement_parts (Statement-F.While at x body) = of_expression x ++ body.1
  in_statement_parts (Statement-F.DoWhile at body x) = body.1 ++ of_expression x
  in_statement_parts (Statement-F.For at init test step body) =
      flat_map of_expression init ++ (flat_map of_expression test ++ (flat_map of_expression step ++ body.1))
  in_statement_parts (Statement-F.Foreach at x key value body) = of_expression x ++ body.1
  in_statement_parts (Statement-F.Switch at x cases) = of_expression x ++ all_of cases
  in_statement_parts (Statement-F.Return at value) = maybe value
  in_statement_parts (Statement-F.Echo at xs) = flat_map of_expression xs
  in_statement_parts (Statement-F.Static at variables) = flat_map (λ (v : StaticVariable). maybe v.value) variables
  in_statement_parts (Statement-F.Unset at paths) = flat_map of_expression paths
  in_statement_parts (Statement-F.Const at items) = flat_map (λ (i : ConstantItem). of_expression i.value) items
  in_statement_parts _ = []

  abbrev pub in_case : Case-F (With A Member) (With A Statement) (With A Class) (With A Function) (With A Case) (With A ElseIf) → List A
  in_case c = maybe c.test ++ all_of c.body

  abbrev pub in_else_if : ElseIf-F (With A Member) (With A Statement) (With A Class) (With A Function) (With A Case) (With A ElseIf) → List A
  in_else_if b = of_expression b.test ++ b.body.1

  -- what all nodes in a statement give, and all expressions in it
  unfoldable pub collected_statement : (StatementLayer A → List A) → Statement → List A
  collected_statement gives = para-Statement (List A) (List A) (List A) (List A) (List A) (List A)
      (λ m. []) (λ s. gives s ++ in_statement_parts s) (λ c. []) (λ f. []) in_case in_else_if

-- ---- order

-- whether one list of numbers comes before another, by the first that differs
abbrev pub comes_before : List ℕ → List ℕ → Bool
comes_before [] [] = false
comes_before [] (b ∷ bs) = true
comes_before (a ∷ more) [] = false
comes_before (a ∷ more) (b ∷ bs) = if a == b then comes_before more bs else nat_lt a b

-- in order of keys; what has one key stays in its order
abbrev pub inserted : {A : Type 0} → (A → List ℕ) → A → List A → List A
inserted key x [] = x ∷ []
inserted key x (y ∷ ys) = if comes_before (key y) (key x) then y ∷ inserted key x ys else x ∷ y ∷ ys

abbrev pub ordered : {A : Type 0} → (A → List ℕ) → List A → List A
ordered key [] = []
ordered key (x ∷ xs) = inserted key x (ordered key xs)
