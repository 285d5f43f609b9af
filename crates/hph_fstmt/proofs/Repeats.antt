-- Lists with commas between, and lists up to a token that ends them: what the parser answers is such a list, and the other way.
use Rattle.std.specs.Prelude.{◌≡◌, ℕ, zero, suc, ◌<◌, ◌≤◌, Bool, true, false, List, [], ◌∷◌, ◌++◌, length, Some, refl}
use Rattle.std.proofs.Common.{ap, sym, ◌∙◌, arith, append_assoc, append-nil}
use Rattle.hph_ast.specs.declared.token.Token.{Token}
use Rattle.hph_ast.specs.declared.token.Kind.{Kind}
use Rattle.hph_ast.specs.declared.token.Kind.TheVariants as k
use Rattle.hph_ast.specs.declared.token.Mark.{Mark}
use Rattle.hph_ast.specs.declared.token.Mark.TheVariants as m
use Rattle.hph_ast.specs.Levels.{binds}
use Rattle.hph_ast.specs.Nesting.{greatest}
use Rattle.hph_ast.specs.Terminals.{IsMark}
use Rattle.hph_cursor.specs.Steps.{Parser, is_mark}
use Rattle.hph_fstmt.specs.Repeats.{separated_from, separated, at_end, many_from, many}
use Rattle.hph_fstmt.proofs.Tools.{Gives, none, some, then_ok, map_ok, if_ok, sees_with, expect_with, More, no_more, one_more, all_more, Closed, closes_behind, one_closed, all_closed, then_is, if_true, if_false, mark_is, expect_is}

pub data Separated {A : Type 0} (One : List Token → A → List Token → Type 0) (closing : Mark) : List Token → List A → Token →
    List Token → Type 0 where
  last : {ts rest : List Token} {c : Token} {x : A} → One ts x (c ∷ rest) → IsMark closing c → Separated One closing ts (x ∷ []) c rest
  more : {ts mid rest : List Token} {t c : Token} {x : A} {xs : List A} →
      One ts x (t ∷ mid) → IsMark m.Comma t → Separated One closing mid xs c rest → Separated One closing ts (x ∷ xs) c rest

pub data Many {A : Type 0} (ends : Kind → Bool) (One : List Token → A → List Token → Type 0) : List Token → List A → List Token →
    Type 0 where
  many_end : {ts : List Token} → at_end ends ts ≡ true → Many ends One ts [] ts
  many_more : {ts mid rest : List Token} {x : A} {xs : List A} → One ts x mid → Many ends One mid xs rest → Many ends One ts (x ∷ xs) rest

-- ---- what the parser answers

module _ {A : Type 0} (One : List Token → A → List Token → Type 0) (one : Parser A) (ok : (ts : List Token) → Gives (One ts) (one ts)) where
  separated_from_ok : (closing : Mark) (n : ℕ) (found : List A) (ts : List Token) →
      Gives (Closed (Separated One closing) found ts) (separated_from one closing n found ts)
  unfolding separated_from
  separated_from_ok closing zero found ts = none
  separated_from_ok closing (suc n) found ts = then_ok (ok ts) (λ x us d. sees_with (One ts x) m.Comma us d
      (λ t vs comma d. map_ok (separated_from_ok closing n (found ++ x ∷ []) vs) (λ all rest r. one_closed r (λ xs c a. more d comma a)))
      (λ _. expect_with (One ts x) closing us d (λ c rest mark d. some (closes_behind x (last d mark)))))

  pub separated_ok : (closing : Mark) (ts : List Token) →
      Gives (λ all. Separated One closing ts all.0 all.1) (separated one closing ts)
  separated_ok closing ts = map_ok (separated_from_ok closing (length ts) [] ts) (λ all rest r. all_closed r)

-- the same up to a token that ends the list, which none of them begins with
module _ {A : Type 0} (One : List Token → A → List Token → Type 0) (one : Parser A) (ends : Kind → Bool)
    (ok : (ts : List Token) → at_end ends ts ≡ false → Gives (One ts) (one ts)) where
  many_from_ok : (n : ℕ) (found : List A) (ts : List Token) → Gives (More (Many ends One) found ts) (many_from ends one n found ts)
  unfolding many_from
  many_from_ok zero found ts = if_ok (at_end ends ts) (λ e. some (no_more (many_end e))) (λ _. none)
  many_from_ok (suc n) found ts = if_ok (at_end ends ts) (λ e. some (no_more (many_end e)))
      (λ e. then_ok (ok ts e) (λ x us d. map_ok (many_from_ok n (found ++ x ∷ []) us) (λ all rest r. one_more r (λ xs a. many_more d a))))

  pub many_ok : (ts : List Token) → Gives (Many ends One ts) (many ends one ts)
  many_ok ts = map_ok (many_from_ok (length ts) [] ts) (λ all rest r. all_more r)

-- ---- what makes it answer

-- a mark that ends what stands between commas
pub record Ending (t : Token) : Type 0 where
  pub mark : Mark
  pub loose : binds (k.Mark mark) ≡ 0
  pub is : IsMark mark t

pub ending : (m : Mark) → binds (k.Mark m) ≡ 0 → {t : Token} → IsMark m t → Ending t
ending m h is = record { mark = m; loose = h; is = is }

module _ {A : Type 0} (One : List Token → A → List Token → Type 0) (one : Parser A) (size : A → ℕ) (limit : ℕ) where
  pub separated_is : (closing : Mark) → binds (k.Mark closing) ≡ 0 → is_mark m.Comma (k.Mark closing) ≡ false →
      ((ts rest : List Token) (x : A) (c : Token) → One ts x (c ∷ rest) → Ending c → size x ≤ limit → one ts ≡ Some (x, c ∷ rest)) →
      ((ts rest : List Token) (x : A) → One ts x rest → length rest ≤ length ts) →
      (n : ℕ) (found : List A) {ts rest : List Token} {xs : List A} {c : Token} → Separated One closing ts xs c rest → length ts ≤ n →
      greatest size xs ≤ limit → separated_from one closing n found ts ≡ Some ((found ++ xs, c), rest)
  unfolding separated_from
  separated_is closing loose other is shorter zero found (last d mark) short small = absurd (omega (arith, shorter _ _ _ d))
  separated_is closing loose other is shorter zero found (more d mark a) short small = absurd (omega (arith, shorter _ _ _ d))
  separated_is closing loose other is shorter (suc n) found (last d mark) short small =
      then_is _ (is _ _ _ _ d (ending closing loose mark) (omega arith))
      (if_false _ _ (ap (is_mark m.Comma) mark ∙ other) (then_is _ (expect_is mark) refl))
  separated_is closing loose other is shorter (suc n) found (more {rest = rest} {c = c} {x = x} {xs = xs} d mark a) short small =
      then_is _ (is _ _ _ _ d (ending m.Comma refl mark) (omega arith)) (if_true _ _ (mark_is m.Comma mark)
      (separated_is closing loose other is shorter n (found ++ x ∷ []) a (omega (arith, shorter _ _ _ d)) (omega arith)
      ∙ ap (λ xs. Some ((xs, c), rest)) (append_assoc found (x ∷ []) xs)))

  pub many_is : (ends : Kind → Bool) →
      ((ts rest : List Token) (x : A) → One ts x rest → size x ≤ limit → one ts ≡ Some (x, rest)) →
      ((ts rest : List Token) (x : A) → One ts x rest → at_end ends ts ≡ false) →
      ((ts rest : List Token) (x : A) → One ts x rest → length rest < length ts) →
      (n : ℕ) (found : List A) {ts rest : List Token} {xs : List A} → Many ends One ts xs rest → length ts ≤ n → greatest size xs ≤ limit →
      many_from ends one n found ts ≡ Some (found ++ xs, rest)
  unfolding many_from
  many_is ends is begins shorter zero found (many_end {ts = ts} e) short small = if_true _ _ e
      (ap (λ xs. Some (xs, ts)) (sym (append-nil found)))
  many_is ends is begins shorter zero found (many_more d a) short small = absurd (omega (arith, shorter _ _ _ d))
  many_is ends is begins shorter (suc n) found (many_end {ts = ts} e) short small = if_true _ _ e
      (ap (λ xs. Some (xs, ts)) (sym (append-nil found)))
  many_is ends is begins shorter (suc n) found (many_more {rest = rest} {x = x} {xs = xs} d a) short small =
      if_false _ _ (begins _ _ _ d) (then_is _ (is _ _ _ d (omega arith)) (many_is ends is begins shorter n (found ++ x ∷ []) a
      (omega (arith, shorter _ _ _ d)) (omega arith)
      ∙ ap (λ xs. Some (xs, rest)) (append_assoc found (x ∷ []) xs)))
