-- What the proofs here take from the laws of the parser of expressions and of the library of trees.
use Rattle.std.specs.Prelude.{◌≡◌, ◌≤◌, ℕ, suc, max, Bool, List, Option, Some}
use Rattle.hph_ast.specs.declared.token.At.{At}
use Rattle.hph_ast.specs.declared.token.Token.{Token}
use Rattle.hph_ast.specs.declared.token.Identifier.{Identifier}
use Rattle.hph_ast.specs.declared.token.Mark.TheVariants.{CloseBracket}
use Rattle.hph_ast.specs.declared.expr.Expr.{Expr}
use Rattle.hph_ast.specs.declared.expr.Item.{Item}
use Rattle.hph_ast.specs.declared.function.DeclaredType.{DeclaredType}
use Rattle.hph_ast.specs.declared.function.Function.{Function, out-Function}
use Rattle.hph_ast.specs.declared.class.Class.{Class, out-Class}
use Rattle.hph_ast.specs.declared.class.ConstantItem.{ConstantItem}
use Rattle.hph_ast.specs.declared.class.Modifiers.{Modifiers}
use Rattle.hph_ast.specs.declared.class.PropertyItem.{PropertyItem}
use Rattle.hph_ast.specs.declared.class.Member.TheVariants as member
use Rattle.hph_ast.specs.declared.stmt.Statement.{Statement}
use Rattle.hph_ast.specs.declared.stmt.Statement.TheVariants as s
use Rattle.hph_ast.specs.declared.stmt.Case.{Case, out-Case}
use Rattle.hph_ast.specs.declared.stmt.ElseIf.{ElseIf, out-ElseIf}
use Rattle.hph_ast.specs.declared.stmt.ForeachTarget.{ForeachTarget}
use Rattle.hph_ast.specs.declared.stmt.StaticVariable.{StaticVariable}
use Rattle.hph_ast.specs.Levels.{top}
use Rattle.hph_ast.specs.Nesting.{greatest, nesting, item_nesting}
use Rattle.hph_ast.specs.Places.{on}
use Rattle.hph_ast.specs.Shapes.{has_targets}
use Rattle.hph_ast.specs.Expressions.{IsPostfix, IsPaths, IsTargets}
use Rattle.hph_ast.specs.StatementNesting.{maybe, type_nesting, param_nesting, target_nesting, member_nesting, statement_nesting, class_nesting, function_nesting, case_nesting, else_if_nesting}
use Rattle.hph_fexpr.specs.declared.form.Form.TheVariants.{Level, Postfix}
use Rattle.hph_fexpr.specs.declared.elements.Elements.{Elements}
use Rattle.hph_fexpr.specs.Endings.{Whole, Ends}
use Rattle.hph_fexpr.specs.Lists.{paths}
use Rattle.hph_fexpr.specs.Arrays.{elements}
use Rattle.hph_fexpr.specs.Parser.{parse}

-- the parser of expressions
pub record ExpressionLaws : Type 0 where
  pub level_sound : (depth level : ℕ) (tokens : List Token) (x : Expr) (rest : List Token) →
      parse depth (Level level) tokens ≡ Some (x, rest) → Whole level tokens x rest
  pub level_complete : (depth level : ℕ) (tokens : List Token) (x : Expr) (rest : List Token) → level ≤ top → Whole level tokens x rest →
      nesting x ≤ depth → parse depth (Level level) tokens ≡ Some (x, rest)
  pub postfix_sound : (depth : ℕ) (tokens : List Token) (x : Expr) (rest : List Token) → parse depth Postfix tokens ≡ Some (x, rest) →
      IsPostfix tokens x rest
  pub postfix_complete : (depth : ℕ) (tokens : List Token) (x : Expr) (rest : List Token) → IsPostfix tokens x rest → nesting x ≤ depth →
      Ends rest → parse depth Postfix tokens ≡ Some (x, rest)
  pub paths_sound : (depth : ℕ) (test : Expr → Bool) (tokens : List Token) (xs : List Expr) (last : At) (rest : List Token) →
      paths (parse depth) test tokens ≡ Some ((xs, last), rest) → (c : Token) × (last ≡ on c) × IsPaths test tokens xs c rest
  pub paths_complete : (depth : ℕ) (test : Expr → Bool) (tokens : List Token) (xs : List Expr) (c : Token) (rest : List Token) →
      IsPaths test tokens xs c rest → greatest nesting xs ≤ depth → paths (parse depth) test tokens ≡ Some ((xs, on c), rest)
  pub targets_sound : (depth : ℕ) (tokens : List Token) (found : Elements) (rest : List Token) →
      elements (parse depth) CloseBracket tokens ≡ Some (found, rest) → (c : Token) × IsTargets tokens found.items c rest
  pub targets_complete : (depth : ℕ) (tokens : List Token) (items : List Item) (c : Token) (rest : List Token) → IsTargets tokens items c rest →
      greatest item_nesting items ≤ depth →
      elements (parse depth) CloseBracket tokens ≡ Some (record { items = items; targets = has_targets items; close = on c }, rest)

-- how deep a statement is nested
pub record NestingLaws : Type 0 where
  pub empty : (at : At) → statement_nesting (s.Empty at) ≡ 1
  pub inline_text : (at : At) (bytes : List ℕ) → statement_nesting (s.InlineText at bytes) ≡ 1
  pub block : (at : At) (body : List Statement) → statement_nesting (s.Block at body) ≡ suc (greatest statement_nesting body)
  pub expression : (at : At) (x : Expr) → statement_nesting (s.Expression at x) ≡ suc (nesting x)
  pub of_function : (f : Function) → statement_nesting (s.Function f) ≡ function_nesting f
  pub of_class : (class : Class) → statement_nesting (s.Class class) ≡ class_nesting class
  pub if_statement : (at : At) (x : Expr) (body : Statement) (more : List ElseIf) (other : Option Statement) →
      statement_nesting (s.If at x body more other)
      ≡ suc (max (nesting x) (max (statement_nesting body) (max (greatest else_if_nesting more) (maybe statement_nesting other))))
  pub while_loop : (at : At) (x : Expr) (body : Statement) → statement_nesting (s.While at x body) ≡ suc
      (max (nesting x) (statement_nesting body))
  pub do_while_loop : (at : At) (body : Statement) (x : Expr) →
      statement_nesting (s.DoWhile at body x) ≡ suc (max (statement_nesting body) (nesting x))
  pub for_loop : (at : At) (init test step : List Expr) (body : Statement) →
      statement_nesting (s.For at init test step body)
      ≡ suc (max (greatest nesting init) (max (greatest nesting test) (max (greatest nesting step) (statement_nesting body))))
  pub foreach_loop : (at : At) (x : Expr) (key : Option Identifier) (value : ForeachTarget) (body : Statement) →
      statement_nesting (s.Foreach at x key value body) ≡ suc (max (nesting x) (max (target_nesting value) (statement_nesting body)))
  pub switch_statement : (at : At) (x : Expr) (cases : List Case) →
      statement_nesting (s.Switch at x cases) ≡ suc (max (nesting x) (greatest case_nesting cases))
  pub break_statement : (at : At) (levels : Option ℕ) → statement_nesting (s.Break at levels) ≡ 1
  pub continue_statement : (at : At) (levels : Option ℕ) → statement_nesting (s.Continue at levels) ≡ 1
  pub return_statement : (at : At) (value : Option Expr) → statement_nesting (s.Return at value) ≡ suc (maybe nesting value)
  pub echo : (at : At) (values : List Expr) → statement_nesting (s.Echo at values) ≡ suc (greatest nesting values)
  pub global : (at : At) (names : List Identifier) → statement_nesting (s.Global at names) ≡ 1
  pub static_variables : (at : At) (variables : List StaticVariable) →
      statement_nesting (s.Static at variables) ≡ suc (greatest (λ v. maybe nesting v.value) variables)
  pub unset : (at : At) (paths : List Expr) → statement_nesting (s.Unset at paths) ≡ suc (greatest nesting paths)
  pub constants : (at : At) (items : List ConstantItem) → statement_nesting (s.Const at items) ≡ suc (greatest (λ i. nesting i.value) items)
  pub class_constants : (at : At) (mods : Modifiers) (items : List ConstantItem) →
      member_nesting (member.Constants at mods items) ≡ suc (greatest (λ i. nesting i.value) items)
  pub properties : (at : At) (mods : Modifiers) (ty : Option DeclaredType) (items : List PropertyItem) →
      member_nesting (member.Properties at mods ty items) ≡ suc (max (maybe type_nesting ty) (greatest (λ i. maybe nesting i.value) items))
  pub method : (at : At) (mods : Modifiers) (f : Function) → member_nesting (member.Method at mods f) ≡ suc (function_nesting f)
  pub function : (f : Function) →
      function_nesting f
      ≡ suc (max (greatest param_nesting (out-Function f).params)
      (max (maybe type_nesting (out-Function f).result) (greatest statement_nesting (out-Function f).body)))
  pub class : (class : Class) → class_nesting class ≡ suc (greatest member_nesting (out-Class class).members)
  pub case : (x : Case) → case_nesting x ≡ suc (max (maybe nesting (out-Case x).test) (greatest statement_nesting (out-Case x).body))
  pub else_if : (x : ElseIf) → else_if_nesting x ≡ max (nesting (out-ElseIf x).test) (statement_nesting (out-ElseIf x).body)

pub record Laws : Type 0 where
  pub of_expressions : ExpressionLaws
  pub of_nesting : NestingLaws
