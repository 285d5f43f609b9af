-- The literals of the includes in each statement, in terms of its parts.
use Rattle.std.specs.Prelude.{◌≡◌, ℕ, List, [], ◌∷◌, ◌++◌, flat_map, Option, Some, None, Result, Ok, Err, OnOk}
use Rattle.std.specs.Option.{option_map_or}
use Rattle.std.proofs.Common.{inl, inr, ◌⊎◌, ap, sym, ◌∙◌, length, take, get_or, ◌+◌, ◌<◌}
use Rattle.std.proofs.lemmas.List.{append-nil, append_assoc, flat_map_more, take_more}
use Rattle.hph_ast.specs.declared.token.At.{At}
use Rattle.hph_ast.specs.declared.token.Identifier.{Identifier}
use Rattle.hph_ast.specs.declared.expr.Expr.{Expr, out-Expr}
use Rattle.hph_ast.specs.declared.function.Function.{Function}
use Rattle.hph_ast.specs.declared.class.Class.{Class}
use Rattle.hph_ast.specs.declared.class.ConstantItem.{ConstantItem}
use Rattle.hph_ast.specs.declared.class.Member.{Member}
use Rattle.hph_ast.specs.declared.class.Member.TheOpen.{Statement-F}
use Rattle.hph_ast.specs.declared.class.Member.TheFolds.{fold-Member, fold-Class, fold-Function, fold-roll-Statement, fold_out-Case, fold_out-ElseIf, map-Statement}
use Rattle.hph_ast.specs.declared.stmt.Statement.{Statement, roll-Statement}
use Rattle.hph_ast.specs.declared.stmt.Statement.TheVariants as s
use Rattle.hph_ast.specs.declared.stmt.Case.{Case, out-Case}
use Rattle.hph_ast.specs.declared.stmt.ElseIf.{ElseIf, out-ElseIf}
use Rattle.hph_ast.specs.declared.stmt.ForeachTarget.{ForeachTarget}
use Rattle.hph_ast.specs.declared.stmt.StaticVariable.{StaticVariable}
use Rattle.hph_ast.specs.RefusedExpressions.{Shape}
use Rattle.hph_accept.proofs.ExpressionParts.{flat_map-map}
use Rattle.hph_program.specs.Sources.{includes_in, include_at, statement_includes, member_includes, class_includes, function_includes, case_includes, else_if_includes}
use Rattle.hph_included.specs.Literals.{in_case, in_branch}

unfoldable in_member : Member → Unit {0}
in_member = fold-Member (Unit {0}) (List Shape) (Unit {0}) (Unit {0}) (List Shape) (List Shape) member_includes statement_includes class_includes function_includes case_includes else_if_includes

unfoldable in_class : Class → Unit {0}
in_class = fold-Class (Unit {0}) (List Shape) (Unit {0}) (Unit {0}) (List Shape) (List Shape) member_includes statement_includes class_includes function_includes case_includes else_if_includes

unfoldable in_function : Function → Unit {0}
in_function = fold-Function (Unit {0}) (List Shape) (Unit {0}) (Unit {0}) (List Shape) (List Shape) member_includes statement_includes class_includes function_includes case_includes else_if_includes

-- one level of a statement
rolled : (d : Statement-F Member Statement Class Function Case ElseIf) → includes_in (roll-Statement d) ≡ statement_includes (map-Statement Member Statement Class Function Case ElseIf (Unit {0}) (List Shape) (Unit {0}) (Unit {0}) (List Shape) (List Shape) in_member includes_in in_class in_function in_case in_branch d)
unfolding in_member includes_in in_class in_function in_case in_branch
rolled d = fold-roll-Statement (Unit {0}) (List Shape) (Unit {0}) (Unit {0}) (List Shape) (List Shape) member_includes statement_includes class_includes function_includes case_includes else_if_includes d

pub in-Empty : (at : At) → includes_in (s.Empty at) ≡ []
in-Empty at = ap includes_in (sym (s.rolls-Empty at)) ∙ rolled (Statement-F.Empty at)

pub in-InlineText : (at : At) (bytes : List ℕ) → includes_in (s.InlineText at bytes) ≡ []
in-InlineText at bytes = ap includes_in (sym (s.rolls-InlineText at bytes)) ∙ rolled (Statement-F.InlineText at bytes)

pub in-Block : (at : At) (body : List Statement) → includes_in (s.Block at body) ≡ flat_map includes_in body
in-Block at body = ap includes_in (sym (s.rolls-Block at body)) ∙ rolled (Statement-F.Block at body) ∙ flat_map-map (λ s. s) includes_in body

pub in-Expression : (at : At) (x : Expr) → includes_in (s.Expression at x) ≡ include_at (out-Expr x)
in-Expression at x = ap includes_in (sym (s.rolls-Expression at x)) ∙ rolled (Statement-F.Expression at x)

pub in-Function : (f : Function) → includes_in (s.Function f) ≡ []
in-Function f = ap includes_in (sym (s.rolls-Function f)) ∙ rolled (Statement-F.Function f)

pub in-Class : (declared : Class) → includes_in (s.Class declared) ≡ []
in-Class declared = ap includes_in (sym (s.rolls-Class declared)) ∙ rolled (Statement-F.Class declared)

pub in-While : (at : At) (x : Expr) (body : Statement) → includes_in (s.While at x body) ≡ includes_in body
in-While at x body = ap includes_in (sym (s.rolls-While at x body)) ∙ rolled (Statement-F.While at x body)

pub in-DoWhile : (at : At) (body : Statement) (x : Expr) → includes_in (s.DoWhile at body x) ≡ includes_in body
in-DoWhile at body x = ap includes_in (sym (s.rolls-DoWhile at body x)) ∙ rolled (Statement-F.DoWhile at body x)

pub in-For : (at : At) (init : List Expr) (test : List Expr) (step : List Expr) (body : Statement) → includes_in (s.For at init test step body) ≡ includes_in body
in-For at init test step body = ap includes_in (sym (s.rolls-For at init test step body)) ∙ rolled (Statement-F.For at init test step body)

pub in-Foreach : (at : At) (x : Expr) (key : Option Identifier) (value : ForeachTarget) (body : Statement) → includes_in (s.Foreach at x key value body) ≡ includes_in body
in-Foreach at x key value body = ap includes_in (sym (s.rolls-Foreach at x key value body)) ∙ rolled (Statement-F.Foreach at x key value body)

pub in-Switch : (at : At) (x : Expr) (cases : List Case) → includes_in (s.Switch at x cases) ≡ flat_map in_case cases
in-Switch at x cases = ap includes_in (sym (s.rolls-Switch at x cases)) ∙ rolled (Statement-F.Switch at x cases) ∙ flat_map-map (λ s. s) in_case cases

pub in-Break : (at : At) (levels : Option ℕ) → includes_in (s.Break at levels) ≡ []
in-Break at levels = ap includes_in (sym (s.rolls-Break at levels)) ∙ rolled (Statement-F.Break at levels)

pub in-Continue : (at : At) (levels : Option ℕ) → includes_in (s.Continue at levels) ≡ []
in-Continue at levels = ap includes_in (sym (s.rolls-Continue at levels)) ∙ rolled (Statement-F.Continue at levels)

pub in-Return : (at : At) (value : Option Expr) → includes_in (s.Return at value) ≡ []
in-Return at value = ap includes_in (sym (s.rolls-Return at value)) ∙ rolled (Statement-F.Return at value)

pub in-Echo : (at : At) (values : List Expr) → includes_in (s.Echo at values) ≡ []
in-Echo at values = ap includes_in (sym (s.rolls-Echo at values)) ∙ rolled (Statement-F.Echo at values)

pub in-Global : (at : At) (names : List Identifier) → includes_in (s.Global at names) ≡ []
in-Global at names = ap includes_in (sym (s.rolls-Global at names)) ∙ rolled (Statement-F.Global at names)

pub in-Static : (at : At) (variables : List StaticVariable) → includes_in (s.Static at variables) ≡ []
in-Static at variables = ap includes_in (sym (s.rolls-Static at variables)) ∙ rolled (Statement-F.Static at variables)

pub in-Unset : (at : At) (paths : List Expr) → includes_in (s.Unset at paths) ≡ []
in-Unset at paths = ap includes_in (sym (s.rolls-Unset at paths)) ∙ rolled (Statement-F.Unset at paths)

pub in-Const : (at : At) (items : List ConstantItem) → includes_in (s.Const at items) ≡ []
in-Const at items = ap includes_in (sym (s.rolls-Const at items)) ∙ rolled (Statement-F.Const at items)

pub in-If : (at : At) (x : Expr) (body : Statement) (more : List ElseIf) (other : Option Statement) →
    includes_in (s.If at x body more other) ≡ includes_in body ++ (flat_map in_branch more ++ option_map_or includes_in other [])
in-If at x body more None = ap includes_in (sym (s.rolls-If at x body more None)) ∙ rolled (Statement-F.If at x body more None)
    ∙ ap (λ l. includes_in body ++ (l ++ [])) (flat_map-map (λ b. b) in_branch more)
in-If at x body more (Some other) = ap includes_in (sym (s.rolls-If at x body more (Some other))) ∙ rolled (Statement-F.If at x body more (Some other))
    ∙ ap (λ l. includes_in body ++ (l ++ includes_in other)) (flat_map-map (λ b. b) in_branch more)

-- a case and a branch are seen by their fields
pub case_body : (x : Case) → in_case x ≡ flat_map includes_in (out-Case x).body
unfolding in_member includes_in in_class in_function in_case in_branch
case_body x = fold_out-Case (Unit {0}) (List Shape) (Unit {0}) (Unit {0}) (List Shape) (List Shape) member_includes statement_includes class_includes function_includes case_includes else_if_includes x
    ∙ flat_map-map (λ s. s) includes_in (out-Case x).body

pub branch_body : (x : ElseIf) → in_branch x ≡ includes_in (out-ElseIf x).body
unfolding in_member includes_in in_class in_function in_case in_branch
branch_body x = fold_out-ElseIf (Unit {0}) (List Shape) (Unit {0}) (Unit {0}) (List Shape) (List Shape) member_includes statement_includes class_includes function_includes case_includes else_if_includes x

-- a statement that holds no includes, and one more item
abbrev pub IsPlain : Statement → Type 0
IsPlain x =
    ((at : At) × (x ≡ s.Empty at)) ⊎ (
    ((at : At) × (bytes : List ℕ) × (x ≡ s.InlineText at bytes)) ⊎ (
    ((f : Function) × (x ≡ s.Function f)) ⊎ (
    ((declared : Class) × (x ≡ s.Class declared)) ⊎ (
    ((at : At) × (levels : Option ℕ) × (x ≡ s.Break at levels)) ⊎ (
    ((at : At) × (levels : Option ℕ) × (x ≡ s.Continue at levels)) ⊎ (
    ((at : At) × (value : Option Expr) × (x ≡ s.Return at value)) ⊎ (
    ((at : At) × (values : List Expr) × (x ≡ s.Echo at values)) ⊎ (
    ((at : At) × (names : List Identifier) × (x ≡ s.Global at names)) ⊎ (
    ((at : At) × (variables : List StaticVariable) × (x ≡ s.Static at variables)) ⊎ (
    ((at : At) × (paths : List Expr) × (x ≡ s.Unset at paths)) ⊎ (
    ((at : At) × (items : List ConstantItem) × (x ≡ s.Const at items)))))))))))))

no_includes : (x : Statement) → IsPlain x → includes_in x ≡ []
no_includes x (inl w) = ap includes_in w.1 ∙ in-Empty w.0
no_includes x (inr (inl w)) = ap includes_in w.2 ∙ in-InlineText w.0 w.1
no_includes x (inr (inr (inl w))) = ap includes_in w.1 ∙ in-Function w.0
no_includes x (inr (inr (inr (inl w)))) = ap includes_in w.1 ∙ in-Class w.0
no_includes x (inr (inr (inr (inr (inl w))))) = ap includes_in w.2 ∙ in-Break w.0 w.1
no_includes x (inr (inr (inr (inr (inr (inl w)))))) = ap includes_in w.2 ∙ in-Continue w.0 w.1
no_includes x (inr (inr (inr (inr (inr (inr (inl w))))))) = ap includes_in w.2 ∙ in-Return w.0 w.1
no_includes x (inr (inr (inr (inr (inr (inr (inr (inl w)))))))) = ap includes_in w.2 ∙ in-Echo w.0 w.1
no_includes x (inr (inr (inr (inr (inr (inr (inr (inr (inl w))))))))) = ap includes_in w.2 ∙ in-Global w.0 w.1
no_includes x (inr (inr (inr (inr (inr (inr (inr (inr (inr (inl w)))))))))) = ap includes_in w.2 ∙ in-Static w.0 w.1
no_includes x (inr (inr (inr (inr (inr (inr (inr (inr (inr (inr (inl w))))))))))) = ap includes_in w.2 ∙ in-Unset w.0 w.1
no_includes x (inr (inr (inr (inr (inr (inr (inr (inr (inr (inr (inr w))))))))))) = ap includes_in w.2 ∙ in-Const w.0 w.1

pub nothing_more : (found : List Shape) (x : Statement) → IsPlain x → found ≡ found ++ includes_in x
nothing_more found x plain = sym (ap (λ l. found ++ l) (no_includes x plain) ∙ append-nil found)

pub one_more : {A : Type 0} (f : A → List Shape) (xs : List A) (i : ℕ) (x : A) (start found after : List Shape) → i < length xs → x ≡ get_or xs i x →
    found ≡ start ++ flat_map f (take i xs) → after ≡ found ++ f x → after ≡ start ++ flat_map f (take (i + 1) xs)
one_more f xs i x start found after inside at before now =
    now ∙ ap (λ l. l ++ f x) before ∙ flat_map_more f start (take i xs) x ∙ ap (λ l. start ++ flat_map f l) (sym (take_more xs i x inside ∙ ap (λ y. take i xs ++ y ∷ []) (sym at)))

-- three parts in turn
pub ends : {E : Type 0} (r : Result (Unit {0}) E) (P Q : Type 0) → (P → Q) → OnOk r P → OnOk r Q
ends (Ok u) P Q f p = f p
ends (Err x) P Q f p = tt

pub three_in_turn : (start a b c first second third : List Shape) → first ≡ start ++ a → second ≡ first ++ b → third ≡ second ++ c → third ≡ start ++ (a ++ (b ++ c))
three_in_turn start a b c first second third e f g =
    g ∙ ap (λ l. l ++ c) (f ∙ ap (λ l. l ++ b) e) ∙ append_assoc (start ++ a) b c ∙ append_assoc start a (b ++ c)

pub ruleset the_includes = (in-Empty, in-InlineText, in-Block, in-Expression, in-Function, in-Class, in-While, in-DoWhile, in-For, in-Foreach, in-Switch, in-Break, in-Continue, in-Return, in-Echo, in-Global, in-Static, in-Unset, in-Const, in-If, case_body, branch_body)
