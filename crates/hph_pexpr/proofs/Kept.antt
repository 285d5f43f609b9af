-- A parser that keeps what is nested no deeper than a number, by what it reads.
use Rattle.std.specs.Prelude.{◌≡◌, ◌-◌, ◌<◌, ℕ, zero, suc, Bool, true, false, List, Option, Some, None, if◌then◌else◌, nat_le, refl}
use Rattle.std.proofs.Common.{ap, sym, arith, ◌∙◌}
use Rattle.hph_ast.specs.declared.token.Token.{Token}
use Rattle.hph_ast.specs.declared.expr.Expr.{Expr}
use Rattle.hph_ast.specs.Nesting.{nesting}
use Rattle.hph_fexpr.specs.declared.form.Form.{Form}
use Rattle.hph_cursor.specs.Steps.{Parser, Outcome, and_then, pure_if}
use Rattle.hph_fexpr.specs.Parser.{one_form, kept, parse}

at_depth : (depth : ℕ) (form : Form) (ts : List Token) → 0 < depth →
    parse depth form ts ≡ kept depth (one_form (depth - 1) (parse (depth - 1)) form) ts
unfolding parse
at_depth zero form ts h = absurd (omega (arith, h))
at_depth (suc n) form ts h = let e : n ≡ suc n - 1 = omega arith in ap (λ m. kept (suc n) (one_form m (parse m) form) ts) e

kept_as : (depth : ℕ) {o : Outcome Expr} {x : Expr} {new : List Token} → o ≡ Some (x, new) →
    and_then o (λ y. pure_if (nat_le (nesting y) depth) y) ≡ pure_if (nat_le (nesting x) depth) x new
kept_as depth h = ap (λ o. and_then o (λ y. pure_if (nat_le (nesting y) depth) y)) h

pub reads_at : (depth : ℕ) (form : Form) (ts new : List Token) (x : Expr) → 0 < depth →
    one_form (depth - 1) (parse (depth - 1)) form ts ≡ Some (x, new) → nat_le (nesting x) depth ≡ true → parse depth form ts ≡ Some (x, new)
reads_at depth form ts new x h read fits = at_depth depth form ts h ∙ kept_as depth read ∙ ap (λ (b : Bool). pure_if b x new) fits

pub too_deep_at : (depth : ℕ) (form : Form) (ts new : List Token) (x : Expr) → 0 < depth →
    one_form (depth - 1) (parse (depth - 1)) form ts ≡ Some (x, new) → nat_le (nesting x) depth ≡ false → parse depth form ts ≡ None
too_deep_at depth form ts new x h read deep = at_depth depth form ts h ∙ kept_as depth read ∙ ap (λ (b : Bool). pure_if b x new) deep

pub none_at : (depth : ℕ) (form : Form) (ts : List Token) → 0 < depth → one_form (depth - 1) (parse (depth - 1)) form ts ≡ None →
    parse depth form ts ≡ None
none_at depth form ts h none = at_depth depth form ts h ∙ ap (λ o. and_then o (λ y. pure_if (nat_le (nesting y) depth) y)) none
