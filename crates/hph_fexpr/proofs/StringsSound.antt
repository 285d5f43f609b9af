-- Strings with interpolations: what the parser answers is in the grammar.
use Rattle.std.specs.Prelude.{◌≡◌, ℕ, zero, suc, true, List, [], ◌∷◌, ◌++◌, length, Some, refl}
use Rattle.std.proofs.Common.{ap, sym, subst, ◌∙◌, append_assoc}
use Rattle.hph_ast.specs.declared.token.Token.{Token}
use Rattle.hph_ast.specs.declared.token.Kind.{Kind}
use Rattle.hph_ast.specs.declared.token.Kind.TheVariants as k
use Rattle.hph_ast.specs.declared.token.Mark.TheVariants as m
use Rattle.hph_ast.specs.declared.expr.Expr.{Expr}
use Rattle.hph_ast.specs.declared.expr.Expr.TheVariants as e
use Rattle.hph_ast.specs.declared.expr.StringPart.{StringPart}
use Rattle.hph_ast.specs.declared.expr.StringPart.TheVariants as part
use Rattle.hph_ast.specs.Places.{on, span}
use Rattle.hph_ast.specs.Terminals as g1
use Rattle.hph_ast.specs.Terminals.{IsMark, IsKey}
use Rattle.hph_ast.specs.Expressions as g
use Rattle.hph_ast.specs.Expressions.{IsExpression, IsInterpolation, IsParts, IsPrimary}
use Rattle.hph_fexpr.specs.declared.form.Form.{Form}
use Rattle.hph_fexpr.specs.declared.form.Form.TheVariants.{Level}
use Rattle.hph_cursor.specs.Steps.{Parser}
use Rattle.hph_cursor.specs.Next.{is_variable}
use Rattle.hph_fexpr.specs.Strings as p
use Rattle.hph_fexpr.proofs.Tools.{some_inj, Gives, none, some, then_ok, map_ok, choose_ok, if_ok, sees_at, take_at, take_with, expect_at, expect_with, Sound, Closed}

key_by_ok : (t : Token) (kind : Kind) (x : Expr) → t.kind ≡ kind → p.key_by t kind ≡ Some x → IsKey t x
key_by_ok t (k.Name name) x is h = subst (IsKey t) (some_inj h) (g1.key_name is)
key_by_ok t (k.Variable name) x is h = subst (IsKey t) (some_inj h) (g1.key_variable is)
key_by_ok t (k.Int v) x is h = subst (IsKey t) (some_inj h) (g1.key_int is)
key_by_ok t _ x is h = absurd (cc)

data KeyAt : List Token → Expr → List Token → Type 0 where
  key_at : {q : Token} {rest : List Token} {x : Expr} → IsKey q x → KeyAt (q ∷ rest) x rest

key_ok : (ts : List Token) → Gives (KeyAt ts) (p.key ts)
unfolding p.key
key_ok ts = take_at KeyAt ts (λ q us. choose_ok (p.key_by q q.kind) (λ _. none) (λ x e. some (key_at (key_by_ok q q.kind x refl e))))

index_closed : (t o : Token) (name : List ℕ) (us vs : List Token) (x : Expr) → t.kind ≡ k.Variable name → IsMark m.OpenBracket o →
    KeyAt us x vs →
    Gives (IsInterpolation (t ∷ o ∷ us)) (p.index_of t name o x vs)
index_closed t o name us vs x is opens (key_at {q = q} d) =
    expect_at (λ vs. IsInterpolation (t ∷ o ∷ q ∷ vs)) m.CloseBracket vs (λ c rest mark. some (g.with_key is opens d mark))

property_ok : (t o q : Token) (name : List ℕ) (kind : Kind) (us : List Token) → t.kind ≡ k.Variable name → IsMark m.Arrow o →
    q.kind ≡ kind →
    Gives (IsInterpolation (t ∷ o ∷ q ∷ us)) (p.simple_property_by t name o q kind us)
property_ok t o q name (k.Name property) us is arrow e = some (g.with_property is arrow e)
property_ok t o q name _ us is arrow e = none

simple_ok : (t : Token) (name : List ℕ) → t.kind ≡ k.Variable name → (ts : List Token) →
    Gives (IsInterpolation (t ∷ ts)) (p.simple t name ts)
unfolding p.simple p.simple_index p.simple_property
simple_ok t name is ts = sees_at (λ ts. IsInterpolation (t ∷ ts)) m.OpenBracket ts
    (λ o us opens. then_ok (key_ok us) (λ x vs d. index_closed t o name us vs x is opens d))
    (λ _. sees_at (λ ts. IsInterpolation (t ∷ ts)) m.Arrow ts
    (λ o us arrow. take_at (λ us. IsInterpolation (t ∷ o ∷ us)) us (λ q vs. property_ok t o q name q.kind vs is arrow refl))
    (λ _. some (g.plain_variable is)))

middle_ok : (kind : Kind) (bytes : List ℕ) → p.text_middle kind ≡ Some bytes → kind ≡ k.TextMiddle bytes
middle_ok (k.TextMiddle found) bytes h = ap k.TextMiddle (some_inj h)
middle_ok _ bytes h = absurd (cc)

tail_ok : (kind : Kind) (bytes : List ℕ) → p.text_tail kind ≡ Some bytes → kind ≡ k.TextTail bytes
tail_ok (k.TextTail found) bytes h = ap k.TextTail (some_inj h)
tail_ok _ bytes h = absurd (cc)

-- a token that is a variable
record Named (t : Token) : Type 0 where
  name : List ℕ
  is : t.kind ≡ k.Variable name

named_ok : (t : Token) (kind : Kind) → t.kind ≡ kind → is_variable kind ≡ true → Named t
named_ok t (k.Variable name) is h = record { name = name; is = is }
named_ok t _ is h = absurd (cc)

module _ (below : Form → Parser Expr) (ok : Sound below) where
  in_braces_ok : (o : Token) → IsMark m.OpenInterpolation o → (ts : List Token) → Gives (IsInterpolation (o ∷ ts)) (p.in_braces below ts)
  unfolding p.in_braces
  in_braces_ok o opens [] = none
  in_braces_ok o opens (t ∷ ts) = if_ok (is_variable t.kind)
      (λ h. let n = named_ok t t.kind refl h in
      then_ok (ok (Level 1) (t ∷ ts)) (λ x us d. expect_with (IsExpression 1 (t ∷ ts) x) m.CloseBrace us d.is
      (λ c rest mark d. some (g.in_braces opens n.is d mark))))
      (λ _. none)

  interpolation_by_ok : (t : Token) (kind : Kind) → t.kind ≡ kind → (ts : List Token) →
      Gives (IsInterpolation (t ∷ ts)) (p.interpolation_by below t kind ts)
  interpolation_by_ok t (k.Variable name) is ts = simple_ok t name is ts
  interpolation_by_ok t (k.Mark m.OpenInterpolation) is ts = in_braces_ok t is ts
  interpolation_by_ok t _ is ts = none

  interpolation_ok : (ts : List Token) → Gives (IsInterpolation ts) (p.interpolation below ts)
  unfolding p.interpolation
  interpolation_ok ts = take_at IsInterpolation ts (λ t us. interpolation_by_ok t t.kind refl us)

  last_part : (found : List StringPart) (ts rest : List Token) (x : Expr) (c : Token) (bytes : List ℕ) → IsInterpolation ts x (c ∷ rest) →
      c.kind ≡ k.TextTail bytes →
      Closed IsParts found ts (found ++ part.Interpolation x ∷ part.Piece (on c) bytes ∷ [], on c) rest
  last_part found ts rest x c bytes d is =
      record { xs = part.Interpolation x ∷ part.Piece (on c) bytes ∷ []; close = c; is_all = refl; is_close = refl; is = g.parts_last d is }

  two_parts : (found : List StringPart) (ts us rest : List Token) (x : Expr) (t : Token) (bytes : List ℕ) (all : _) →
      IsInterpolation ts x (t ∷ us) → t.kind ≡ k.TextMiddle bytes →
      Closed IsParts (found ++ part.Interpolation x ∷ part.Piece (on t) bytes ∷ []) us all rest → Closed IsParts found ts all rest
  two_parts found ts us rest x t bytes all d is r = record {
    xs = part.Interpolation x ∷ part.Piece (on t) bytes ∷ r.xs;
    close = r.close;
    is_all = r.is_all ∙ append_assoc found (part.Interpolation x ∷ part.Piece (on t) bytes ∷ []) r.xs;
    is_close = r.is_close;
    is = g.parts_more d is r.is;
  }

  parts_from_ok : (n : ℕ) (found : List StringPart) (ts : List Token) → Gives (Closed IsParts found ts) (p.parts_from below n found ts)
  unfolding p.parts_from
  parts_from_ok zero found ts = none
  parts_from_ok (suc n) found ts =
      then_ok (interpolation_ok ts) (λ x us d. take_with (IsInterpolation ts x) us d (λ t vs d. choose_ok (p.text_tail t.kind)
      (λ _. choose_ok (p.text_middle t.kind) (λ _. none) (λ bytes e.
      map_ok (parts_from_ok n (found ++ part.Interpolation x ∷ part.Piece (on t) bytes ∷ []) vs)
      (λ all rest r. two_parts found ts vs rest x t bytes all d (middle_ok t.kind bytes e) r)))
      (λ bytes e. some (last_part found ts vs x t bytes d (tail_ok t.kind bytes e)))))

  string_is : (t : Token) (bytes : List ℕ) (ts rest : List Token) (all : _) → t.kind ≡ k.TextHead bytes →
      Closed IsParts (part.Piece (on t) bytes ∷ []) ts all rest →
      IsPrimary (t ∷ ts) (e.Interpolated (span (on t) all.1) all.0) rest
  string_is t bytes ts rest all is r = subst (λ xs. IsPrimary (t ∷ ts) (e.Interpolated (span (on t) all.1) xs) rest) (sym r.is_all)
      (subst (λ last. IsPrimary (t ∷ ts) (e.Interpolated (span (on t) last) (part.Piece (on t) bytes ∷ r.xs)) rest) (sym r.is_close)
      (g.interpolated is r.is))

  pub interpolated_ok : (t : Token) (bytes : List ℕ) → t.kind ≡ k.TextHead bytes → (ts : List Token) →
      Gives (IsPrimary (t ∷ ts)) (p.interpolated below t bytes ts)
  unfolding p.interpolated
  interpolated_ok t bytes is ts =
      then_ok (parts_from_ok (length ts) (part.Piece (on t) bytes ∷ []) ts) (λ all rest r. some (string_is t bytes ts rest all is r))
