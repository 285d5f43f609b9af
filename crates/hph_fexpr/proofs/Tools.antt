-- What a step of a parser that answers something tells, and what makes it answer.
use Rattle.std.specs.Prelude.{◌≡◌, Bool, true, false, ◌&&◌, ◌||◌, List, [], ◌∷◌, ◌++◌, refl}
use Rattle.std.proofs.Common.{sym, subst, append-nil}
use Rattle.hph_ast.specs.declared.token.At.{At}
use Rattle.hph_ast.specs.declared.token.Token.{Token}
use Rattle.hph_ast.specs.declared.token.Kind.{Kind}
use Rattle.hph_ast.specs.declared.token.Kind.TheVariants as k
use Rattle.hph_ast.specs.declared.token.Mark.TheVariants as m
use Rattle.hph_ast.specs.declared.expr.Expr.{Expr}
use Rattle.hph_ast.specs.Levels.{opens, is_open_paren}
use Rattle.hph_ast.specs.Places.{on}
use Rattle.hph_ast.specs.Expressions.{IsPostfix}
use Rattle.hph_fexpr.specs.declared.form.Form.{Form}
use Rattle.hph_fexpr.specs.declared.form.Form.TheVariants.{Level, Postfix, Element}
use Rattle.hph_fexpr.specs.Endings.{Whole, WholeValue}
use Rattle.hph_cursor.specs.Steps.{Parser, is_mark, sees}
pub use Rattle.hph_cursor.proofs.Tools.{both_true, some_inj, Gives, then_ok, map_ok, choose_ok, if_ok, given, is_mark_true, sees_at, sees_with, choose_at, choose_with, next_at, next_with, take_at, take_with, expect_at, expect_with, shift, More, no_more, one_more, then_is, if_true, if_false, choose_some, choose_none, mark_is, expect_is, not_mark, none, some}

pub both_false : (x y : Bool) → (x || y) ≡ false → (x ≡ false) × (y ≡ false)
both_false false y h = (refl, h)
both_false true y h = absurd (cc)

pub never : {x : Bool} → x ≡ true → x ≡ false → ⊥
never h f = cc

pub or_assoc : (x y z : Bool) → ((x || y) || z) ≡ (x || (y || z))
or_assoc true y z = refl
or_assoc false y z = refl

pub or_false : (x : Bool) → (x || false) ≡ x
or_false true = refl
or_false false = refl

pub or_true : (x : Bool) → (x || true) ≡ true
or_true true = refl
or_true false = refl

pub and_none : (x : Bool) → (x && false) ≡ false
and_none true = refl
and_none false = refl

-- "(" comes next
pub opens_sees : (ts : List Token) → opens ts ≡ sees m.OpenParen ts
opens_sees [] = refl
opens_sees (t ∷ ts) = go t.kind
  where
    go : (kind : Kind) → is_open_paren kind ≡ is_mark m.OpenParen kind
    go (k.Mark m.OpenParen) = refl
    go _ = refl

abbrev pub Reading : Form → List Token → Expr → List Token → Type 0
Reading (Level l) ts = Whole l ts
Reading Postfix ts = IsPostfix ts
Reading Element ts = WholeValue ts

abbrev pub Sound : (Form → Parser Expr) → Type 0
Sound below = (form : Form) (ts : List Token) → Gives (Reading form ts) (below form ts)

-- the same with a token that closes
pub record Closed {A : Type 0} (R : List Token → List A → Token → List Token → Type 0) (found : List A) (ts : List Token)
    (all : List A × At) (rest : List Token) : Type 0 where
  pub xs : List A
  pub close : Token
  pub is_all : all.0 ≡ found ++ xs
  pub is_close : all.1 ≡ on close
  pub is : R ts xs close rest

pub closes : {A : Type 0} {R : List Token → List A → Token → List Token → Type 0} {found : List A} {ts rest : List Token} (c : Token) →
    R ts [] c rest → Closed R found ts (found, on c) rest
closes {found = found} c d = record { xs = []; close = c; is_all = sym (append-nil found); is_close = refl; is = d }

pub closes_behind : {A : Type 0} {R : List Token → List A → Token → List Token → Type 0} {found : List A} {ts rest : List Token} (x : A)
    (c : Token) →
    R ts (x ∷ []) c rest → Closed R found ts (found ++ x ∷ [], on c) rest
closes_behind x c d = record { xs = x ∷ []; close = c; is_all = refl; is_close = refl; is = d }

pub one_closed : {A : Type 0} {R : List Token → List A → Token → List Token →
    Type 0} {found : List A} {x : A} {ts us rest : List Token} {all : List A × At} →
    Closed R (found ++ x ∷ []) us all rest → ((xs : List A) (c : Token) → R us xs c rest → R ts (x ∷ xs) c rest) →
    Closed R found ts all rest
one_closed {found = found} {x = x} r h =
    record { xs = x ∷ r.xs; close = r.close; is_all = shift found x r.xs r.is_all; is_close = r.is_close; is = h r.xs r.close r.is }

-- what is said of all items and the token that closes
pub closed_as : {A : Type 0} {R : List Token → List A → Token → List Token → Type 0} {ts rest : List Token} {all : List A × At}
    (P : List A → At → Type 0) →
    Closed R [] ts all rest → ((xs : List A) (c : Token) → R ts xs c rest → P xs (on c)) → P all.0 all.1
closed_as {all = all} P r h = subst (λ xs. P xs all.1) (sym r.is_all) (subst (λ last. P r.xs last) (sym r.is_close) (h r.xs r.close r.is))
