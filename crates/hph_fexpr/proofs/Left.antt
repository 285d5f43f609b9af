-- Levels at which an expression does not go on are left.
use Rattle.std.specs.Prelude.{◌≡◌, ℕ, zero, suc, ◌<◌, ◌≤◌, true, false, List, Some, nat_le, nat_lt, ◌==◌, refl}
use Rattle.std.proofs.Common.{ap, inl, inr, arith}
use Rattle.std.proofs.lemmas.Bool.Decides.{nat_tests, leb_tells}
use Rattle.hph_ast.specs.declared.token.Token.{Token}
use Rattle.hph_ast.specs.declared.expr.Expr.{Expr}
use Rattle.hph_ast.specs.Levels.{next}
use Rattle.hph_fexpr.specs.declared.form.Form.{Form}
use Rattle.hph_cursor.specs.Steps.{Parser}
use Rattle.hph_fexpr.specs.Terms.{stopped}
use Rattle.hph_fexpr.specs.Climb as p
use Rattle.hph_fexpr.proofs.Tools.{if_true, if_false}

pub stopped_is : {A : Type 0} (n : ℕ) (x : A) (rest : List Token) → next rest < n → stopped n x rest ≡ Some (x, rest)
stopped_is n x rest h = let test : nat_lt (next rest) n ≡ true = grind (arith, nat_tests, h) in if_true _ _ test refl

module _ (below : Form → Parser Expr) where
  pub skip : (least n l : ℕ) (x : Expr) (rest : List Token) → l ≤ n → least ≤ l → next rest < l →
      p.climb below least n x rest ≡ p.climb below least l x rest
  unfolding p.climb
  skip least zero l x rest le low h = absurd (omega arith)
  skip least (suc n) l x rest le low h = elim (leb_tells l n) [
    | inl f ↦
        let test : nat_le least n ≡ true = grind (arith, nat_tests, low, f.1) in
        let other : (next rest == n) ≡ false = grind (arith, nat_tests, h, f.1) in
        if_true _ _ test (if_false _ _ other (skip least n l x rest f.1 low h))
    | inr f ↦ let same : suc n ≡ l = omega (arith, f.1) in ap (λ k. p.climb below least k x rest) same
  ]

  pub reached : (least n : ℕ) (x : Expr) (rest : List Token) → least ≤ suc n → next rest < least → p.climb below least n x rest ≡ Some (x, rest)
  unfolding p.climb
  reached least zero x rest le h = stopped_is least x rest h
  reached least (suc n) x rest le h = elim (leb_tells least n) [
    | inl f ↦ let other : (next rest == n) ≡ false = grind (arith, nat_tests, h, f.1) in
        if_true _ _ f.0 (if_false _ _ other (reached least n x rest (omega (arith, f.1)) h))
    | inr f ↦ if_false _ _ f.0 (stopped_is least x rest h)
  ]
