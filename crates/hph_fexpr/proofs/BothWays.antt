-- The parser reads what is in the grammar and nothing else, and so tokens spell one expression.
use Rattle.std.specs.Prelude.{◌≡◌, ◌≤◌, ℕ, max, Bool, List, Some, refl}
use Rattle.std.proofs.Common.{sym, subst, ◌∙◌, arith}
use Rattle.hph_ast.specs.declared.token.At.{At}
use Rattle.hph_ast.specs.declared.token.Token.{Token}
use Rattle.hph_ast.specs.declared.token.Mark.TheVariants.{CloseBracket}
use Rattle.hph_ast.specs.declared.expr.Expr.{Expr}
use Rattle.hph_ast.specs.declared.expr.Item.{Item}
use Rattle.hph_ast.specs.Levels.{top}
use Rattle.hph_ast.specs.Nesting.{nesting, item_nesting, greatest}
use Rattle.hph_ast.specs.Places.{on}
use Rattle.hph_ast.specs.Shapes.{has_targets}
use Rattle.hph_ast.specs.Expressions.{IsPostfix, IsPaths, IsTargets}
use Rattle.hph_fexpr.specs.declared.form.Form.TheVariants.{Level, Postfix}
use Rattle.hph_fexpr.specs.declared.elements.Elements.{Elements}
use Rattle.hph_fexpr.specs.NestingLaws.{NestingLaws}
use Rattle.hph_fexpr.specs.Endings.{Whole, Ends}
use Rattle.hph_fexpr.specs.Lists.{paths}
use Rattle.hph_fexpr.specs.Arrays.{elements}
use Rattle.hph_fexpr.specs.Parser.{parse}
use Rattle.hph_fexpr.proofs.Tools.{given, some_inj, Closed}
use Rattle.hph_fexpr.proofs.ListsSound.{paths_ok}
use Rattle.hph_fexpr.proofs.ArraysSound.{Found, elements_ok}
use Rattle.hph_fexpr.proofs.Sound.{parse_ok}
use Rattle.hph_fexpr.proofs.ListsComplete.{paths_is}
use Rattle.hph_fexpr.proofs.ArraysComplete.{targets_is}
use Rattle.hph_fexpr.proofs.Completeness.{parse_is}

pub level_sound : (depth level : ℕ) (tokens : List Token) (x : Expr) (rest : List Token) →
    parse depth (Level level) tokens ≡ Some (x, rest) → Whole level tokens x rest
level_sound depth level tokens x rest h = given (Whole level tokens) (parse_ok depth (Level level) tokens) h

pub postfix_sound : (depth : ℕ) (tokens : List Token) (x : Expr) (rest : List Token) → parse depth Postfix tokens ≡ Some (x, rest) →
    IsPostfix tokens x rest
postfix_sound depth tokens x rest h = given (IsPostfix tokens) (parse_ok depth Postfix tokens) h

pub level_complete : (laws : NestingLaws) → (depth level : ℕ) (tokens : List Token) (x : Expr) (rest : List Token) → level ≤ top →
    Whole level tokens x rest →
    nesting x ≤ depth → parse depth (Level level) tokens ≡ Some (x, rest)
level_complete laws depth level tokens x rest high w small = (parse_is laws depth).level level tokens rest x high w.is small w.stops

pub postfix_complete : (laws : NestingLaws) → (depth : ℕ) (tokens : List Token) (x : Expr) (rest : List Token) → IsPostfix tokens x rest →
    nesting x ≤ depth →
    Ends rest → parse depth Postfix tokens ≡ Some (x, rest)
postfix_complete laws depth tokens x rest d small ends = (parse_is laws depth).postfix tokens rest x d small ends

-- the deeper of two trees bounds both
pub one : (laws : NestingLaws) → (level : ℕ) (tokens : List Token) (x y : Expr) (rest other : List Token) → level ≤ top →
    Whole level tokens x rest →
    Whole level tokens y other → ◌≡◌ {A = Expr × List Token} (x, rest) (y, other)
one laws level tokens x y rest other high v w =
    some_inj (sym (level_complete laws (max (nesting x) (nesting y)) level tokens x rest high v (omega arith))
    ∙ level_complete laws (max (nesting x) (nesting y)) level tokens y other high w (omega arith))

pub paths_sound : (depth : ℕ) (test : Expr → Bool) (tokens : List Token) (xs : List Expr) (last : At) (rest : List Token) →
    paths (parse depth) test tokens ≡ Some ((xs, last), rest) →
    (c : Token) × (last ≡ on c) × IsPaths test tokens xs c rest
paths_sound depth test tokens xs last rest h =
    let r = given (Closed (IsPaths test) _ tokens) (paths_ok (parse depth) (parse_ok depth) test tokens) h in
    (r.close, r.is_close, subst (λ xs. IsPaths test tokens xs r.close rest) (sym r.is_all) r.is)

pub paths_complete : (laws : NestingLaws) →
    (depth : ℕ) (test : Expr → Bool) (tokens : List Token) (xs : List Expr) (c : Token) (rest : List Token) →
    IsPaths test tokens xs c rest → greatest nesting xs ≤ depth →
    paths (parse depth) test tokens ≡ Some ((xs, on c), rest)
paths_complete laws depth test tokens xs c rest d small = paths_is laws depth (parse depth) (parse_is laws depth) test d small

pub targets_sound : (depth : ℕ) (tokens : List Token) (found : Elements) (rest : List Token) →
    elements (parse depth) CloseBracket tokens ≡ Some (found, rest) → (c : Token) × IsTargets tokens found.items c rest
targets_sound depth tokens found rest h =
    let r = given (Found CloseBracket _ _ tokens) (elements_ok (parse depth) (parse_ok depth) CloseBracket tokens) h in
    (r.close, subst (λ xs. IsTargets tokens xs r.close rest) (sym r.is_all) (r.as_targets refl))

pub targets_complete : (laws : NestingLaws) → (depth : ℕ) (tokens : List Token) (items : List Item) (c : Token) (rest : List Token) →
    IsTargets tokens items c rest →
    greatest item_nesting items ≤ depth →
    elements (parse depth) CloseBracket tokens ≡ Some (record { items = items; targets = has_targets items; close = on c }, rest)
targets_complete laws depth tokens items c rest d small = targets_is laws depth (parse depth) (parse_is laws depth) d small
