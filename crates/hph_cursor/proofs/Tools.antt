-- What a step of a parser that answers something tells, and what makes it answer: for the parsers on lists of tokens.
use Rattle.std.specs.Prelude.{◌≡◌, Bool, true, false, ◌&&◌, List, [], ◌∷◌, ◌++◌, Option, Some, None, if◌then◌else◌, refl}
use Rattle.std.proofs.Common.{ap, sym, subst, ◌∙◌, append_assoc, append-nil}
use denote.Enum.Bare.{same_true, true_same}
use Rattle.hph_ast.specs.contracts.token.Mark.{the_type}
use Rattle.hph_ast.specs.declared.token.Token.{Token}
use Rattle.hph_ast.specs.declared.token.Kind.{Kind}
use Rattle.hph_ast.specs.declared.token.Kind.TheVariants as k
use Rattle.hph_ast.specs.declared.token.Mark.{Mark}
use Rattle.hph_ast.specs.Terminals.{IsMark}
use Rattle.hph_cursor.specs.Next.{of_next, is_next}
use Rattle.hph_cursor.specs.Steps.{choose, Outcome, Parser, and_then, is_mark, sees, take_token, expect}

pub both_true : (x y : Bool) → (x && y) ≡ true → (x ≡ true) × (y ≡ true)
both_true true y h = (refl, h)
both_true false y h = absurd (cc)

pub some_inj : {A : Type 0} {a b : A} → Some a ≡ Some b → a ≡ b
some_inj h = cc

-- where it is a value and tokens, they are so related
pub data Gives {A : Type 0} (P : A → List Token → Type 0) : Outcome A → Type 0 where
  none : Gives P None
  some : {a : A} {rest : List Token} → P a rest → Gives P (Some (a, rest))

pub then_ok : {A B : Type 0} {Q : A → List Token → Type 0} {P : B → List Token → Type 0} {o : Outcome A} {f : A → Parser B} →
    Gives Q o → ((a : A) (mid : List Token) → Q a mid → Gives P (f a mid)) → Gives P (and_then o f)
then_ok none h = none
then_ok (some q) h = h _ _ q

pub map_ok : {A : Type 0} {Q P : A → List Token → Type 0} {o : Outcome A} → Gives Q o →
    ((a : A) (rest : List Token) → Q a rest → P a rest) → Gives P o
map_ok none h = none
map_ok (some q) h = some (h _ _ q)

pub choose_ok : {A X : Type 0} {P : A → List Token → Type 0} (o : Option X) {x : Outcome A} {f : X → Outcome A} →
    (o ≡ None → Gives P x) → ((v : X) → o ≡ Some v → Gives P (f v)) → Gives P (choose o x f)
choose_ok None h g = h refl
choose_ok (Some v) h g = g v refl

pub if_ok : {A : Type 0} {P : A → List Token → Type 0} {x y : Outcome A} (b : Bool) → (b ≡ true → Gives P x) → (b ≡ false → Gives P y) →
    Gives P (if b then x else y)
if_ok true h g = h refl
if_ok false h g = g refl

pub given : {A : Type 0} (P : A → List Token → Type 0) {o : Outcome A} {a : A} {rest : List Token} → Gives P o → o ≡ Some (a, rest) →
    P a rest
given P none e = absurd (cc)
given {A} P {a = a} {rest = rest} (some {a = b} {rest = r} q) e = let e : ◌≡◌ {A = A × List Token} (b, r) (a, rest) =
    cc in subst (λ (y : A × List Token). P y.0 y.1) e q

pub is_mark_true : (m : Mark) (kind : Kind) → is_mark m kind ≡ true → kind ≡ k.Mark m
is_mark_true m (k.Mark n) h = ap k.Mark (same_true the_type _ n m h)
is_mark_true m _ h = absurd (cc)

-- whether a mark comes next, where what is shown is of the tokens
pub sees_at : {A : Type 0} (P : List Token → A → List Token → Type 0) (m : Mark) (ts : List Token) {f : Token → Parser A} {y : Outcome A} →
    ((t : Token) (us : List Token) → IsMark m t → Gives (P (t ∷ us)) (f t us)) → (sees m ts ≡ false → Gives (P ts) y) →
    Gives (P ts) (if sees m ts then and_then (take_token ts) f else y)
sees_at P m [] h g = g refl
sees_at P m (t ∷ ts) h g = if_ok (is_mark m t.kind) (λ e. h t ts (is_mark_true m t.kind e)) g

-- the same where something is known of the tokens
pub sees_with : {A : Type 0} {P : A → List Token → Type 0} (Q : List Token → Type 0) (m : Mark) (ts : List Token) {f : Token →
    Parser A} {y : Outcome A} → Q ts →
    ((t : Token) (us : List Token) → IsMark m t → Q (t ∷ us) → Gives P (f t us)) → (sees m ts ≡ false → Gives P y) →
    Gives P (if sees m ts then and_then (take_token ts) f else y)
sees_with Q m [] d h g = g refl
sees_with Q m (t ∷ ts) d h g = if_ok (is_mark m t.kind) (λ e. h t ts (is_mark_true m t.kind e) d) g

-- what the kind of the next token gives
pub choose_at : {A X : Type 0} (P : List Token → A → List Token → Type 0) (f : Kind → Option X) (ts : List Token) {x : Outcome A} {y : X →
    Token → Parser A} →
    Gives (P ts) x → ((v : X) (t : Token) (us : List Token) → f t.kind ≡ Some v → Gives (P (t ∷ us)) (y v t us)) →
    Gives (P ts) (choose (of_next f ts) x (λ v. and_then (take_token ts) (y v)))
choose_at P f [] g h = g
choose_at P f (t ∷ ts) g h = choose_ok (f t.kind) (λ _. g) (λ v e. h v t ts e)

pub choose_with : {A X : Type 0} {P : A → List Token → Type 0} (Q : List Token → Type 0) (f : Kind → Option X)
    (ts : List Token) {x : Outcome A} {y : X → Token → Parser A} → Q ts →
    Gives P x → ((v : X) (t : Token) (us : List Token) → f t.kind ≡ Some v → Q (t ∷ us) → Gives P (y v t us)) →
    Gives P (choose (of_next f ts) x (λ v. and_then (take_token ts) (y v)))
choose_with Q f [] d g h = g
choose_with Q f (t ∷ ts) d g h = choose_ok (f t.kind) (λ _. g) (λ v e. h v t ts e d)

pub next_at : {A : Type 0} (P : List Token → A → List Token → Type 0) (f : Kind → Bool) (ts : List Token) {x : Token →
    Parser A} {y : Outcome A} →
    ((t : Token) (us : List Token) → f t.kind ≡ true → Gives (P (t ∷ us)) (x t us)) → Gives (P ts) y →
    Gives (P ts) (if is_next f ts then and_then (take_token ts) x else y)
next_at P f [] h g = g
next_at P f (t ∷ ts) h g = if_ok (f t.kind) (λ e. h t ts e) (λ _. g)

pub next_with : {A : Type 0} {P : A → List Token → Type 0} (Q : List Token → Type 0) (f : Kind → Bool) (ts : List Token) {x : Token →
    Parser A} {y : Outcome A} → Q ts →
    ((t : Token) (us : List Token) → f t.kind ≡ true → Q (t ∷ us) → Gives P (x t us)) → Gives P y →
    Gives P (if is_next f ts then and_then (take_token ts) x else y)
next_with Q f [] d h g = g
next_with Q f (t ∷ ts) d h g = if_ok (f t.kind) (λ e. h t ts e d) (λ _. g)

-- a token is taken
pub take_at : {A : Type 0} (P : List Token → A → List Token → Type 0) (ts : List Token) {f : Token → Parser A} →
    ((t : Token) (us : List Token) → Gives (P (t ∷ us)) (f t us)) → Gives (P ts) (and_then (take_token ts) f)
take_at P [] h = none
take_at P (t ∷ ts) h = h t ts

pub take_with : {A : Type 0} {P : A → List Token → Type 0} (Q : List Token → Type 0) (ts : List Token) {f : Token → Parser A} → Q ts →
    ((t : Token) (us : List Token) → Q (t ∷ us) → Gives P (f t us)) → Gives P (and_then (take_token ts) f)
take_with Q [] d h = none
take_with Q (t ∷ ts) d h = h t ts d

-- a mark is taken
pub expect_at : {A : Type 0} (P : List Token → A → List Token → Type 0) (m : Mark) (ts : List Token) {f : Token → Parser A} →
    ((t : Token) (us : List Token) → IsMark m t → Gives (P (t ∷ us)) (f t us)) → Gives (P ts) (and_then (expect m ts) f)
expect_at P m [] h = none
expect_at P m (t ∷ ts) {f = f} h = go (is_mark m t.kind) refl
  where
    go : (b : Bool) → is_mark m t.kind ≡ b → Gives (P (t ∷ ts)) (and_then (if b then Some (t, ts) else None) f)
    go true e = h t ts (is_mark_true m t.kind e)
    go false e = none

pub expect_with : {A : Type 0} {P : A → List Token → Type 0} (Q : List Token → Type 0) (m : Mark) (ts : List Token) {f : Token → Parser A} →
    Q ts →
    ((t : Token) (us : List Token) → IsMark m t → Q (t ∷ us) → Gives P (f t us)) → Gives P (and_then (expect m ts) f)
expect_with {P = P} Q m [] d h = none
expect_with {P = P} Q m (t ∷ ts) {f = f} d h = go (is_mark m t.kind) refl
  where
    go : (b : Bool) → is_mark m t.kind ≡ b → Gives P (and_then (if b then Some (t, ts) else None) f)
    go true e = h t ts (is_mark_true m t.kind e) d
    go false e = none

-- an item at the end and then more is one list
pub shift : {A : Type 0} (found : List A) (x : A) (xs : List A) {ys : List A} → ys ≡ (found ++ x ∷ []) ++ xs → ys ≡ found ++ x ∷ xs
shift found x xs h = h ∙ append_assoc found (x ∷ []) xs

-- a list that goes on a list that was found
pub record More {A : Type 0} (R : List Token → List A → List Token → Type 0) (found : List A) (ts : List Token) (all : List A)
    (rest : List Token) : Type 0 where
  pub xs : List A
  pub is_all : all ≡ found ++ xs
  pub is : R ts xs rest

pub no_more : {A : Type 0} {R : List Token → List A → List Token → Type 0} {found : List A} {ts rest : List Token} → R ts [] rest →
    More R found ts found rest
no_more {found = found} d = record { xs = []; is_all = sym (append-nil found); is = d }

pub one_more : {A : Type 0} {R : List Token → List A → List Token →
    Type 0} {found : List A} {x : A} {ts us rest : List Token} {all : List A} →
    More R (found ++ x ∷ []) us all rest → ((xs : List A) → R us xs rest → R ts (x ∷ xs) rest) → More R found ts all rest
one_more {found = found} {x = x} r h = record { xs = x ∷ r.xs; is_all = shift found x r.xs r.is_all; is = h r.xs r.is }

pub then_is : {A B : Type 0} {o : Outcome A} (f : A → Parser B) {a : A} {mid : List Token} {z : Outcome B} → o ≡ Some (a, mid) →
    f a mid ≡ z → and_then o f ≡ z
then_is f e h = ap (λ o. and_then o f) e ∙ h

pub if_true : {A : Type 0} (x y : A) {z : A} {b : Bool} → b ≡ true → x ≡ z → (if b then x else y) ≡ z
if_true x y e h = ap (λ b. if b then x else y) e ∙ h

pub if_false : {A : Type 0} (x y : A) {z : A} {b : Bool} → b ≡ false → y ≡ z → (if b then x else y) ≡ z
if_false x y e h = ap (λ b. if b then x else y) e ∙ h

pub choose_some : {A X : Type 0} (x : A) (f : X → A) {o : Option X} {v : X} {z : A} → o ≡ Some v → f v ≡ z → choose o x f ≡ z
choose_some x f e h = ap (λ o. choose o x f) e ∙ h

pub choose_none : {A X : Type 0} (x : A) (f : X → A) {o : Option X} {z : A} → o ≡ None → x ≡ z → choose o x f ≡ z
choose_none x f e h = ap (λ o. choose o x f) e ∙ h

pub mark_is : (m : Mark) {kind : Kind} → kind ≡ k.Mark m → is_mark m kind ≡ true
mark_is m h = ap (is_mark m) h ∙ true_same the_type m m refl

pub expect_is : {m : Mark} {t : Token} {ts : List Token} → IsMark m t → expect m (t ∷ ts) ≡ Some (t, ts)
expect_is {m = m} {t = t} h = if_true _ _ (mark_is m h) refl

pub not_mark : (m : Mark) (kind : Kind) → (kind ≡ k.Mark m → ⊥) → is_mark m kind ≡ false
not_mark m kind h = go (is_mark m kind) refl
  where
    go : (b : Bool) → is_mark m kind ≡ b → is_mark m kind ≡ false
    go true e = absurd (h (is_mark_true m kind e))
    go false e = e
