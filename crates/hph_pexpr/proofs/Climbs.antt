-- One turn of the loop over levels, and of the one over classes.
use Rattle.std.specs.Prelude.{◌≡◌, ◌≢◌, ℕ, zero, suc, ◌-◌, ◌<◌, ◌≤◌, Bool, true, false, List, [], ◌∷◌, ◌++◌, Some, if◌then◌else◌, nat_le, ◌==◌, refl}
use Rattle.std.proofs.Common.{ap, sym, ◌∙◌, arith}
use Rattle.std.proofs.lemmas.Bool.Decides.{nat_tests}
use Rattle.hph_ast.specs.declared.token.Token.{Token}
use Rattle.hph_ast.specs.declared.expr.Expr.{Expr}
use Rattle.hph_ast.specs.declared.expr.ClassReference.{ClassReference}
use Rattle.hph_ast.specs.Levels.{next}
use Rattle.hph_cursor.specs.Steps.{Outcome, Parser, and_then, take_token}
use Rattle.hph_cursor.specs.Next.{is_next, is_instance_of}
use Rattle.hph_fexpr.specs.declared.form.Form.{Form}
use Rattle.hph_fexpr.specs.Classes.{class_reference}
use Rattle.hph_fexpr.specs.Terms.{stopped}
use Rattle.hph_fexpr.specs.Climb as p
use Rattle.hph_cursor.proofs.Turns.{deeper}

if_true : {A : Type 0} (x y : A) {z : A} {b : Bool} → b ≡ true → x ≡ z → (if b then x else y) ≡ z
if_true x y e h = ap (λ b. if b then x else y) e ∙ h

if_false : {A : Type 0} (x y : A) {z : A} {b : Bool} → b ≡ false → y ≡ z → (if b then x else y) ≡ z
if_false x y e h = ap (λ b. if b then x else y) e ∙ h

turn_here : (below : Form → Parser Expr) (least n : ℕ) (x : Expr) (ts : List Token) → least ≤ n → next ts ≡ n →
    p.climb below least (suc n) x ts ≡ and_then (p.longer below n x ts) (p.climb below least n)
unfolding p.climb
turn_here below least n x ts low at =
    let test : nat_le least n ≡ true = grind (arith, nat_tests, low) in
    let same : (next ts == n) ≡ true = grind (arith, nat_tests, at) in
    if_true _ _ test (if_true _ _ same refl)

turn_past : (below : Form → Parser Expr) (least n : ℕ) (x : Expr) (ts : List Token) → least ≤ n → next ts ≢ n →
    p.climb below least (suc n) x ts ≡ p.climb below least n x ts
unfolding p.climb
turn_past below least n x ts low at =
    let test : nat_le least n ≡ true = grind (arith, nat_tests, low) in
    let other : (next ts == n) ≡ false = grind (arith, nat_tests, at) in
    if_true _ _ test (if_false _ _ other refl)

pub climb_here : (below : Form → Parser Expr) (least n : ℕ) (x : Expr) (ts : List Token) → least < n → next ts ≡ n - 1 →
    p.climb below least n x ts ≡ and_then (p.longer below (n - 1) x ts) (p.climb below least (n - 1))
climb_here below least n x ts low at = deeper (λ n. p.climb below least n x ts) n (omega arith) ∙ turn_here below least (n - 1) x ts (omega arith) at

pub climb_past : (below : Form → Parser Expr) (least n : ℕ) (x : Expr) (ts : List Token) → least < n → next ts ≢ n - 1 →
    p.climb below least n x ts ≡ p.climb below least (n - 1) x ts
climb_past below least n x ts low at = deeper (λ n. p.climb below least n x ts) n (omega arith) ∙ turn_past below least (n - 1) x ts (omega arith) at

pub climb_stops : (below : Form → Parser Expr) (least n : ℕ) (x : Expr) (ts : List Token) → n ≤ least → p.climb below least n x ts ≡ stopped least x ts
unfolding p.climb
climb_stops below least zero x ts h = refl
climb_stops below least (suc n) x ts h = let test : nat_le least n ≡ false = grind (arith, nat_tests, h) in if_false _ _ test refl

some_then : {A B : Type 0} {o : Outcome A} {a : A} {ts : List Token} (f : A → Parser B) → o ≡ Some (a, ts) → and_then o f ≡ f a ts
some_then f h = ap (λ o. and_then o f) h

pub class_turn : (below : Form → Parser Expr) (n : ℕ) (found : List ClassReference) (ts : List Token)
    {more : List ClassReference} {us vs : List Token} {t : Token} {class : ClassReference} →
    is_next is_instance_of ts ≡ true → take_token ts ≡ Some (t, us) → class_reference below us ≡ Some (class, vs) → more ≡ found ++ class ∷ [] →
    p.classes_from below (suc n) found ts ≡ p.classes_from below n more vs
unfolding p.classes_from
class_turn below n found ts {vs = vs} test take class all =
    if_true _ _ test (some_then _ take ∙ some_then _ class ∙ ap (λ more. p.classes_from below n more vs) (sym all))
