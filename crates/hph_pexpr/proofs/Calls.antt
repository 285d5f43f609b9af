-- The call answers what the tokens spell, and nothing else.
use Rattle.std.specs.Prelude.{◌≡◌, ℕ, List, Some, Result, Ok, Err, IfOk, refl}
use Rattle.std.proofs.Common.{sym, ◌∙◌}
use Rattle.hph_ast.specs.declared.token.Token.{Token}
use Rattle.hph_ast.specs.declared.expr.Expr.{Expr}
use Rattle.hph_cursor.specs.declared.error.ParseFault.{ParseFault}
use Rattle.hph_cursor.specs.declared.error.ParseFault.TheVariants.{Syntax, NoMemory}
use Rattle.hph_fexpr.specs.Public.{SpellsAt, expr_at}
use Rattle.hph_pexpr.specs.Results.{Answers, IsAnswer}

some_inj : {A : Type 0} {a b : A} → Some a ≡ Some b → a ≡ b
some_inj h = cc

abbrev pub Sound : Type 0
Sound = (tokens : List Token) (at : ℕ) (x : Expr) (k : ℕ) → expr_at tokens at ≡ Some (x, k) → SpellsAt tokens at x k

abbrev pub Complete : Type 0
Complete = (tokens : List Token) (at : ℕ) (x : Expr) (k : ℕ) → SpellsAt tokens at x k → expr_at tokens at ≡ Some (x, k)

pub found_of : Sound → (tokens : List Token) (at : ℕ) (r : Result (Expr × ℕ) ParseFault) → Answers (expr_at tokens at) r → IfOk r (λ r. SpellsAt tokens at r.0 r.1)
found_of sound tokens at (Ok r) h = sound tokens at r.0 r.1 h
found_of sound tokens at (Err e) h = tt

pub only_of : Complete → (tokens : List Token) (at : ℕ) (r : Result (Expr × ℕ) ParseFault) → Answers (expr_at tokens at) r →
    (x : Expr) (k : ℕ) → SpellsAt tokens at x k → IsAnswer {A = Expr × ℕ} (x, k) r
only_of complete tokens at (Ok b) h x k s = some_inj (sym h ∙ complete tokens at x k s)
only_of complete tokens at (Err (Syntax n)) h x k s = let e = complete tokens at x k s in let f = h (λ q. absurd (cc)) in absurd (cc)
only_of complete tokens at (Err NoMemory) h x k s = refl
