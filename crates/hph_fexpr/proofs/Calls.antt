-- What is read from a place on is what the tokens spell there, and nothing else.
use Rattle.std.specs.Prelude.{◌≡◌, ℕ, ◌+◌, ◌-◌, Bool, true, false, ◌&&◌, List, [], ◌∷◌, length, drop, Option, Some, None, if◌then◌else◌, nat_le, refl}
use Rattle.std.proofs.Common.{ap, sym, subst, ◌∙◌, arith, length-append, length-drop}
use Rattle.std.proofs.lemmas.Bool.Decides.{nat_tests}
use Rattle.std.proofs.lemmas.List.{drop-drop}
use Rattle.std.proofs.Math.Seq.{drop-append_seam}
use Rattle.hph_ast.specs.declared.token.Token.{Token}
use Rattle.hph_ast.specs.declared.token.Kind.{Kind}
use Rattle.hph_ast.specs.declared.token.Kind.TheVariants as k
use Rattle.hph_ast.specs.declared.token.Mark.TheVariants as m
use Rattle.hph_ast.specs.declared.keyword.Keyword.TheVariants as w
use Rattle.hph_ast.specs.declared.expr.Expr.{Expr}
use Rattle.hph_ast.specs.Fronts.{UsesFront}
use Rattle.hph_ast.specs.Levels.{binds, Stops}
use Rattle.hph_ast.specs.Nesting.{nesting}
use Rattle.hph_ast.specs.Expressions.{IsExpression}
use Rattle.hph_cursor.specs.Steps.{Outcome}
use Rattle.hph_fexpr.specs.declared.form.Form.TheVariants.{Level}
use Rattle.hph_fexpr.specs.NestingLaws.{NestingLaws}
use Rattle.hph_fexpr.specs.Parser.{parse}
use Rattle.hph_fexpr.specs.Public.{ends_kind, ends, limit, SpellsAt, checked, expr_at}
use Rattle.hph_fexpr.proofs.Tools.{some_inj, if_true}
use Rattle.hph_cursor.proofs.Shorter.{expression_shorter}
use Rattle.hph_fexpr.proofs.BothWays.{level_sound, level_complete}

ends_binds : (kind : Kind) → ends_kind kind ≡ true → binds kind ≡ 0
ends_binds (k.Mark m.Semicolon) h = refl
ends_binds (k.Mark m.Comma) h = refl
ends_binds (k.Mark m.CloseParen) h = refl
ends_binds (k.Mark m.CloseBracket) h = refl
ends_binds (k.Mark m.CloseBrace) h = refl
ends_binds (k.Mark m.Colon) h = refl
ends_binds (k.Mark m.DoubleArrow) h = refl
ends_binds (k.Keyword w.As) h = refl
ends_binds _ h = absurd (cc)

ends_stops : (ts : List Token) → ends ts ≡ true → Stops 1 ts
ends_stops [] h = record { below = omega arith }
ends_stops (t ∷ ts) h = let e = ends_binds t.kind h in record { below = omega arith }

-- the tokens that spell an expression are a front
abbrev pub Fronts : Type 0
Fronts = (level : ℕ) (tokens : List Token) (x : Expr) (rest : List Token) → IsExpression level tokens x rest → UsesFront tokens rest

-- where the tokens behind an expression stand
place_of : Fronts → (tokens : List Token) (at : ℕ) (x : Expr) (rest : List Token) → IsExpression 1 (drop at tokens) x rest → drop (length tokens - length rest) tokens ≡ rest
place_of fronts tokens at x rest d =
    let l = fronts 1 (drop at tokens) x rest d in
    let n : length (drop at tokens) ≡ length l.front + length rest = ap length l.splits ∙ length-append l.front rest in
    let here : length tokens - length rest ≡ at + length l.front = omega (arith, n, length-drop at tokens, expression_shorter d) in
    ap (λ k. drop k tokens) here ∙ sym (drop-drop (length l.front) at tokens) ∙ ap (drop (length l.front)) l.splits ∙ drop-append_seam l.front rest

checked_some : Fronts → (tokens : List Token) (at : ℕ) (o : Outcome Expr) → parse limit (Level 1) (drop at tokens) ≡ o → (x : Expr) (k : ℕ) →
    checked (length tokens) o ≡ Some (x, k) → SpellsAt tokens at x k
checked_some fronts tokens at None e x k h = absurd (cc)
checked_some fronts tokens at (Some r) e x k h = go (ends r.1) (nat_le (nesting r.0) limit) refl refl h
  where
    go : (a b : Bool) → ends r.1 ≡ a → nat_le (nesting r.0) limit ≡ b →
        if◌then◌else◌ {A = Option (Expr × ℕ)} (a && b) (Some (r.0, length tokens - length r.1)) None ≡ Some (x, k) → SpellsAt tokens at x k
    go true true a b h =
        let p = level_sound limit 1 (drop at tokens) r.0 r.1 e in
        let q = place_of fronts tokens at r.0 r.1 p.is in
        subst (λ (y : Expr × ℕ). SpellsAt tokens at y.0 y.1) (some_inj h) (record {
          within = omega arith;
          is = subst (λ rest. IsExpression 1 (drop at tokens) r.0 rest) (sym q) p.is;
          nests = grind (arith, nat_tests, b);
          ends_at = ap ends q ∙ a;
        })
    go false b _ _ h = absurd (cc)
    go true false _ _ h = absurd (cc)

pub at_some : Fronts → (tokens : List Token) (at : ℕ) (x : Expr) (k : ℕ) → expr_at tokens at ≡ Some (x, k) → SpellsAt tokens at x k
unfolding expr_at
at_some fronts tokens at x k h = checked_some fronts tokens at (parse limit (Level 1) (drop at tokens)) refl x k h

pub at_is : NestingLaws → (tokens : List Token) (at : ℕ) (x : Expr) (k : ℕ) → SpellsAt tokens at x k → expr_at tokens at ≡ Some (x, k)
unfolding expr_at
at_is laws tokens at x k s =
    let small = s.nests in
    let test : nat_le (nesting x) limit ≡ true = grind (arith, nat_tests, small) in
    let both : (ends (drop k tokens) && nat_le (nesting x) limit) ≡ true = cc (s.ends_at, test) in
    let within = s.within in
    let place : length tokens - length (drop k tokens) ≡ k = omega (arith, length-drop k tokens) in
    ap (checked (length tokens)) (level_complete laws limit 1 (drop at tokens) x (drop k tokens) (omega arith) (record { is = s.is; stops = ends_stops _ s.ends_at }) s.nests)
    ∙ if_true _ _ both (ap (λ k. Some (x, k)) place)

-- Tokens from a place on spell at most one expression that ends there, up to at most one place.
pub one_at : NestingLaws → (tokens : List Token) (at : ℕ) (x y : Expr) (k n : ℕ) → SpellsAt tokens at x k → SpellsAt tokens at y n → ◌≡◌ {A = Expr × ℕ} (x, k) (y, n)
one_at laws tokens at x y k n s t = some_inj (sym (at_is laws tokens at x k s) ∙ at_is laws tokens at y n t)
