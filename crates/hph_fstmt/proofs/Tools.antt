-- What a step of a parser that answers something tells, and what makes it answer.
use Rattle.std.specs.Prelude.{◌≡◌, ℕ, Bool, true, false, List, [], ◌∷◌, ◌++◌, Some, None, if◌then◌else◌, refl}
use Rattle.std.proofs.Common.{sym, subst}
use Rattle.hph_ast.specs.declared.token.At.{At}
use Rattle.hph_ast.specs.declared.token.Token.{Token}
use Rattle.hph_ast.specs.declared.token.Identifier.{Identifier}
use Rattle.hph_ast.specs.declared.token.Kind.{Kind}
use Rattle.hph_ast.specs.declared.token.Kind.TheVariants as k
use Rattle.hph_ast.specs.Places.{on, identifier}
use Rattle.hph_cursor.specs.Steps.{Outcome, Parser, and_then}
use Rattle.hph_fstmt.specs.Words.{expect_kind, here, variable_by, variable, name_by, name}
pub use Rattle.hph_cursor.proofs.Tools.{both_true, some_inj, Gives, then_ok, map_ok, choose_ok, if_ok, given, is_mark_true, sees_at, sees_with, choose_at, choose_with, next_at, next_with, take_at, take_with, expect_at, expect_with, shift, More, no_more, one_more, then_is, if_true, if_false, choose_some, choose_none, mark_is, expect_is, not_mark, none, some}

-- the same with a token that closes
pub record Closed {A : Type 0} (R : List Token → List A → Token → List Token → Type 0) (found : List A) (ts : List Token)
    (all : List A × Token) (rest : List Token) : Type 0 where
  pub xs : List A
  pub is_all : all.0 ≡ found ++ xs
  pub is : R ts xs all.1 rest

pub closes_behind : {A : Type 0} {R : List Token → List A → Token → List Token → Type 0} {found : List A} {ts rest : List Token} (x : A)
    {c : Token} →
    R ts (x ∷ []) c rest → Closed R found ts (found ++ x ∷ [], c) rest
closes_behind x d = record { xs = x ∷ []; is_all = refl; is = d }

pub one_closed : {A : Type 0} {R : List Token → List A → Token → List Token → Type 0} {found : List A} {x : A} {ts us rest : List Token}
    {all : List A × Token} →
    Closed R (found ++ x ∷ []) us all rest → ((xs : List A) (c : Token) → R us xs c rest → R ts (x ∷ xs) c rest) →
    Closed R found ts all rest
one_closed {found = found} {x = x} {all = all} r h = record { xs = x ∷ r.xs; is_all = shift found x r.xs r.is_all; is = h r.xs all.1 r.is }

pub all_closed : {A : Type 0} {R : List Token → List A → Token → List Token → Type 0} {ts rest : List Token} {all : List A × Token} →
    Closed R [] ts all rest → R ts all.0 all.1 rest
all_closed {R = R} {ts = ts} {rest = rest} {all = all} r = subst (λ xs. R ts xs all.1 rest) (sym r.is_all) r.is

pub all_more : {A : Type 0} {R : List Token → List A → List Token → Type 0} {ts rest : List Token} {all : List A} →
    More R [] ts all rest → R ts all rest
all_more {R = R} {ts = ts} {rest = rest} r = subst (λ xs. R ts xs rest) (sym r.is_all) r.is

-- a token of a kind is taken
pub kind_at : {A : Type 0} (P : List Token → A → List Token → Type 0) (test : Kind → Bool) (ts : List Token) {f : Token → Parser A} →
    ((t : Token) (us : List Token) → test t.kind ≡ true → Gives (P (t ∷ us)) (f t us)) → Gives (P ts) (and_then (expect_kind test ts) f)
kind_at P test [] h = none
kind_at P test (t ∷ ts) {f = f} h = go (test t.kind) refl
  where
    go : (b : Bool) → test t.kind ≡ b → Gives (P (t ∷ ts)) (and_then (if b then Some (t, ts) else None) f)
    go true e = h t ts e
    go false e = none

pub kind_with : {A : Type 0} {P : A → List Token → Type 0} (Q : List Token → Type 0) (test : Kind → Bool) (ts : List Token) {f : Token →
    Parser A} →
    Q ts → ((t : Token) (us : List Token) → test t.kind ≡ true → Q (t ∷ us) → Gives P (f t us)) → Gives P (and_then (expect_kind test ts) f)
kind_with Q test [] d h = none
kind_with {P = P} Q test (t ∷ ts) {f = f} d h = go (test t.kind) refl
  where
    go : (b : Bool) → test t.kind ≡ b → Gives P (and_then (if b then Some (t, ts) else None) f)
    go true e = h t ts e d
    go false e = none

-- a name and a variable are taken
pub name_at : {A : Type 0} (P : List Token → A → List Token → Type 0) (ts : List Token) (f : Identifier → Parser A) →
    ((t : Token) (us : List Token) (spelled : List ℕ) → t.kind ≡ k.Name spelled → Gives (P (t ∷ us)) (f (identifier t spelled) us)) →
    Gives (P ts) (and_then (name ts) f)
unfolding name
name_at P [] f h = none
name_at P (t ∷ ts) f h = go t.kind refl
  where
    go : (kind : Kind) → t.kind ≡ kind → Gives (P (t ∷ ts)) (and_then (name_by t kind ts) f)
    go (k.Name spelled) e = h t ts spelled e
    go _ e = none

pub variable_at : {A : Type 0} (P : List Token → A → List Token → Type 0) (ts : List Token) (f : Identifier → Parser A) →
    ((t : Token) (us : List Token) (spelled : List ℕ) → t.kind ≡ k.Variable spelled → Gives (P (t ∷ us)) (f (identifier t spelled) us)) →
    Gives (P ts) (and_then (variable ts) f)
unfolding variable
variable_at P [] f h = none
variable_at P (t ∷ ts) f h = go t.kind refl
  where
    go : (kind : Kind) → t.kind ≡ kind → Gives (P (t ∷ ts)) (and_then (variable_by t kind ts) f)
    go (k.Variable spelled) e = h t ts spelled e
    go _ e = none

pub variable_with : {A : Type 0} {P : A → List Token → Type 0} (Q : List Token → Type 0) (ts : List Token) (f : Identifier → Parser A) →
    Q ts → ((t : Token) (us : List Token) (spelled : List ℕ) → t.kind ≡ k.Variable spelled → Q (t ∷ us) →
    Gives P (f (identifier t spelled) us)) →
    Gives P (and_then (variable ts) f)
unfolding variable
variable_with Q [] f d h = none
variable_with {P = P} Q (t ∷ ts) f d h = go t.kind refl
  where
    go : (kind : Kind) → t.kind ≡ kind → Gives P (and_then (variable_by t kind ts) f)
    go (k.Variable spelled) e = h t ts spelled e d
    go _ e = none

-- the place of the next token
pub here_at : {A : Type 0} (P : List Token → A → List Token → Type 0) (ts : List Token) (f : At → Parser A) →
    ((t : Token) (us : List Token) → Gives (P (t ∷ us)) (f (on t) (t ∷ us))) → Gives (P ts) (and_then (here ts) f)
here_at P [] f h = none
here_at P (t ∷ ts) f h = h t ts

-- an answer of which something is known
pub gives : {A : Type 0} {P : A → List Token → Type 0} (o : Outcome A) → ((a : A) (rest : List Token) → o ≡ Some (a, rest) → P a rest) →
    Gives P o
gives None h = none
gives (Some r) h = some (h r.0 r.1 refl)
