-- How deep a node is nested, as the laws of the library of trees say it: what the proofs here take from them.
use Rattle.std.specs.Prelude.{◌≡◌, ℕ, suc, max, List}
use Rattle.hph_ast.specs.declared.token.At.{At}
use Rattle.hph_ast.specs.declared.operator.Binary.{Binary}
use Rattle.hph_ast.specs.declared.operator.Prefix.{Prefix}
use Rattle.hph_ast.specs.declared.operator.Assignment.{Assignment}
use Rattle.hph_ast.specs.declared.expr.Update.{Update}
use Rattle.hph_ast.specs.declared.expr.ArrayForm.{ArrayForm}
use Rattle.hph_ast.specs.declared.expr.Expr.{Expr}
use Rattle.hph_ast.specs.declared.expr.Expr.TheVariants as e
use Rattle.hph_ast.specs.declared.expr.ClassReference.{ClassReference}
use Rattle.hph_ast.specs.declared.expr.ClassReference.TheVariants as c
use Rattle.hph_ast.specs.declared.expr.Item.{Item}
use Rattle.hph_ast.specs.declared.expr.Item.TheVariants as item
use Rattle.hph_ast.specs.declared.expr.MemberName.{MemberName}
use Rattle.hph_ast.specs.declared.expr.MemberName.TheVariants as member
use Rattle.hph_ast.specs.declared.expr.Step.{Step}
use Rattle.hph_ast.specs.declared.expr.Step.TheVariants as s
use Rattle.hph_ast.specs.declared.expr.StringPart.{StringPart}
use Rattle.hph_ast.specs.declared.expr.StringPart.TheVariants as part
use Rattle.hph_ast.specs.Nesting.{greatest, nesting, class_nesting, item_nesting, member_nesting, step_nesting, part_nesting}

pub record NestingLaws : Type 0 where
  pub int : (at : At) (n : ℕ) → nesting (e.Int at n) ≡ 1
  pub text : (at : At) (bytes : List ℕ) → nesting (e.Text at bytes) ≡ 1
  pub interpolated : (at : At) (parts : List StringPart) → nesting (e.Interpolated at parts) ≡ suc (greatest part_nesting parts)
  pub variable : (at : At) (name : List ℕ) → nesting (e.Variable at name) ≡ 1
  pub constant : (at : At) (name : List ℕ) → nesting (e.Constant at name) ≡ 1
  pub directory : (at : At) → nesting (e.Directory at) ≡ 1
  pub array : (at : At) (form : ArrayForm) (items : List Item) → nesting (e.Array at form items) ≡ suc (greatest item_nesting items)
  pub call : (at : At) (name : List ℕ) (xs : List Expr) → nesting (e.Call at name xs) ≡ suc (greatest nesting xs)
  pub dynamic_call : (at : At) (x : Expr) (xs : List Expr) → nesting (e.DynamicCall at x xs) ≡ suc (max (nesting x) (greatest nesting xs))
  pub static_call : (at : At) (class : ClassReference) (name : MemberName) (xs : List Expr) →
      nesting (e.StaticCall at class name xs) ≡ suc (max (class_nesting class) (max (member_nesting name) (greatest nesting xs)))
  pub method_call : (at : At) (x : Expr) (name : MemberName) (xs : List Expr) →
      nesting (e.MethodCall at x name xs) ≡ suc (max (nesting x) (max (member_nesting name) (greatest nesting xs)))
  pub new : (at : At) (class : ClassReference) (xs : List Expr) →
      nesting (e.New at class xs) ≡ suc (max (class_nesting class) (greatest nesting xs))
  pub class_constant : (at : At) (class : ClassReference) (name : List ℕ) →
      nesting (e.ClassConstant at class name) ≡ suc (class_nesting class)
  pub class_name : (at : At) (class : ClassReference) (colons : ℕ) → nesting (e.ClassName at class colons) ≡ suc (class_nesting class)
  pub static_property : (at : At) (class : ClassReference) (name : List ℕ) →
      nesting (e.StaticProperty at class name) ≡ suc (class_nesting class)
  pub paren : (at : At) (x : Expr) → nesting (e.Paren at x) ≡ suc (nesting x)
  pub isset : (at : At) (xs : List Expr) → nesting (e.Isset at xs) ≡ suc (greatest nesting xs)
  pub empty : (at : At) (x : Expr) → nesting (e.Empty at x) ≡ suc (nesting x)
  pub exit : (at : At) → nesting (e.Exit at) ≡ 1
  pub exit_with : (at : At) (x : Expr) → nesting (e.ExitWith at x) ≡ suc (nesting x)
  pub path : (at : At) (x : Expr) (steps : List Step) → nesting (e.Path at x steps) ≡ suc (max (nesting x) (greatest step_nesting steps))
  pub update : (at : At) (form : Update) (x : Expr) → nesting (e.Update at form x) ≡ suc (nesting x)
  pub prefix : (at : At) (op : Prefix) (x : Expr) → nesting (e.Prefix at op x) ≡ suc (nesting x)
  pub instance_of : (at : At) (x : Expr) (classes : List ClassReference) →
      nesting (e.InstanceOf at x classes) ≡ suc (max (nesting x) (greatest class_nesting classes))
  pub run : (at : At) (x : Expr) (more : List (Binary × Expr)) →
      nesting (e.Run at x more) ≡ suc (max (nesting x) (greatest (λ o. nesting o.1) more))
  pub pair : (at : At) (op : Binary) (x y : Expr) → nesting (e.Pair at op x y) ≡ suc (max (nesting x) (nesting y))
  pub ternary : (at : At) (x y z : Expr) → nesting (e.Ternary at x y z) ≡ suc (max (nesting x) (max (nesting y) (nesting z)))
  pub short_ternary : (at : At) (x : Expr) (more : List Expr) →
      nesting (e.ShortTernary at x more) ≡ suc (max (nesting x) (greatest nesting more))
  pub assign : (at : At) (op : Assignment) (x y : Expr) → nesting (e.Assign at op x y) ≡ suc (max (nesting x) (nesting y))
  pub assign_reference : (at : At) (x y : Expr) (ampersand : ℕ) →
      nesting (e.AssignReference at x y ampersand) ≡ suc (max (nesting x) (nesting y))
  pub destructure : (at : At) (items : List Item) (x : Expr) →
      nesting (e.Destructure at items x) ≡ suc (max (greatest item_nesting items) (nesting x))
  pub named_argument : (at : At) (name : List ℕ) (x : Expr) → nesting (e.NamedArgument at name x) ≡ suc (nesting x)
  pub class_by_expression : (at : At) (x : Expr) → class_nesting (c.ByExpression at x) ≡ suc (nesting x)
  pub item_plain : (at : At) (x : Expr) → item_nesting (item.Plain at x) ≡ suc (nesting x)
  pub item_keyed : (at : At) (x y : Expr) → item_nesting (item.Keyed at x y) ≡ suc (max (nesting x) (nesting y))
  pub item_reference : (at : At) (x : Expr) → item_nesting (item.Reference at x) ≡ suc (nesting x)
  pub item_keyed_reference : (at : At) (x y : Expr) (ampersand : ℕ) →
      item_nesting (item.KeyedReference at x y ampersand) ≡ suc (max (nesting x) (nesting y))
  pub member_computed : (x : Expr) → member_nesting (member.Computed x) ≡ nesting x
  pub step_index : (at : At) (x : Expr) → step_nesting (s.Index at x) ≡ nesting x
  pub step_property : (at : At) (name : MemberName) → step_nesting (s.Property at name) ≡ member_nesting name
  pub part_interpolation : (x : Expr) → part_nesting (part.Interpolation x) ≡ nesting x
