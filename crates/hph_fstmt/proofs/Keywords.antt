-- What the test of a keyword tells.
use Rattle.std.specs.Prelude.{◌≡◌, ℕ, Bool, true, false, List, [], ◌∷◌, Some, if◌then◌else◌, refl}
use Rattle.std.proofs.Common.{ap, ◌∙◌}
use denote.Enum.Bare.{same_true, true_same}
use Rattle.hph_ast.specs.contracts.keyword.Keyword.{the_type}
use Rattle.hph_ast.specs.declared.token.Token.{Token}
use Rattle.hph_ast.specs.declared.token.Kind.{Kind}
use Rattle.hph_ast.specs.declared.token.Kind.TheVariants as k
use Rattle.hph_ast.specs.declared.keyword.Keyword.{Keyword}
use Rattle.hph_ast.specs.Places.{identifier}
use Rattle.hph_ast.specs.Terminals.{IsKeyword}
use Rattle.hph_cursor.specs.Steps.{Outcome, Parser, and_then, take_token}
use Rattle.hph_fstmt.specs.Words.{is_keyword, sees_keyword, expect_kind, variable_by, variable, name_by, name}
use Rattle.hph_fstmt.proofs.Tools.{Gives, if_ok, if_true}

pub keyword_true : (w : Keyword) (kind : Kind) → is_keyword w kind ≡ true → kind ≡ k.Keyword w
keyword_true w (k.Keyword v) h = ap k.Keyword (same_true the_type _ v w h)
keyword_true w _ h = absurd (cc)

pub keyword_is : (w : Keyword) {kind : Kind} → kind ≡ k.Keyword w → is_keyword w kind ≡ true
keyword_is w h = ap (is_keyword w) h ∙ true_same the_type w w refl

pub not_keyword : (w : Keyword) (kind : Kind) → (kind ≡ k.Keyword w → ⊥) → is_keyword w kind ≡ false
not_keyword w kind h = go (is_keyword w kind) refl
  where
    go : (b : Bool) → is_keyword w kind ≡ b → is_keyword w kind ≡ false
    go true e = absurd (h (keyword_true w kind e))
    go false e = e

-- whether a keyword comes next
pub keyword_at : {A : Type 0} (P : List Token → A → List Token → Type 0) (w : Keyword) (ts : List Token) {f : Token →
    Parser A} {y : Outcome A} →
    ((t : Token) (us : List Token) → IsKeyword w t → Gives (P (t ∷ us)) (f t us)) → (sees_keyword w ts ≡ false → Gives (P ts) y) →
    Gives (P ts) (if sees_keyword w ts then and_then (take_token ts) f else y)
keyword_at P w [] h g = g refl
keyword_at P w (t ∷ ts) h g = if_ok (is_keyword w t.kind) (λ e. h t ts (keyword_true w t.kind e)) g

pub kind_is : (test : Kind → Bool) {t : Token} {ts : List Token} {kind : Kind} → t.kind ≡ kind → test kind ≡ true →
    expect_kind test (t ∷ ts) ≡ Some (t, ts)
kind_is test is h = if_true _ _ (ap test is ∙ h) refl

pub name_is : {t : Token} {ts : List Token} {spelled : List ℕ} → t.kind ≡ k.Name spelled → name (t ∷ ts) ≡ Some (identifier t spelled, ts)
unfolding name
name_is {t = t} {ts = ts} is = ap (λ kind. name_by t kind ts) is

pub variable_is : {t : Token} {ts : List Token} {spelled : List ℕ} → t.kind ≡ k.Variable spelled →
    variable (t ∷ ts) ≡ Some (identifier t spelled, ts)
unfolding variable
variable_is {t = t} {ts = ts} is = ap (λ kind. variable_by t kind ts) is
