-- Formats that can be read in one way: no spelling begins another, and each spells one thing.
use Rattle.std.proofs.Common.{◌≡◌, ◌∙◌, ℕ, List, [], ◌∷◌, ◌++◌, refl, sym, ap, append_assoc}
pub use Rattle.hph_wasm.specs.OneWay.{Alike, OneForm, BeginsWith}
use Rattle.hph_wasm.specs.Grammar.{Grammar, Exactly, ◌⊳◌}

-- bytes spell at most one thing
pub one_thing : {X : Type 0} {P : X → Grammar} → OneForm P → (x y : X) (f : List ℕ) → P x f → P y f → x ≡ y
one_thing o x y f p q = (o.alike x y f f [] [] p q refl).thing

-- what is made of things that are alike is alike
pub map-Alike : {X Y : Type 0} {x y : X} {f g r s : List ℕ} (h : X → Y) → Alike x y f g r s → Alike (h x) (h y) f g r s
map-Alike h a = record { thing = ap h a.thing; spelling = a.spelling; behind = a.behind }

-- a front that two lists share can be taken from both
pub append-cancel : {X : Type 0} (f r s : List X) → f ++ r ≡ f ++ s → r ≡ s
append-cancel [] r s e = e
append-cancel (x ∷ f) r s e = let tails : f ++ r ≡ f ++ s = cc in append-cancel f r s tails

-- the first thing's bytes, the second's, and those behind them
pub split-append : {P Q : Grammar} (f r : List ℕ) (p : (P ⊳ Q) f) → f ++ r ≡ p.front ++ (p.rest ++ r)
split-append f r p = ap (λ l. l ++ r) p.split ∙ append_assoc p.front p.rest r

-- Two pairs are alike if their first things are and, where those are the same, their second things are.
pub pairs_alike : {X Y : Type 0} {x x' : X} {y y' : Y} {P P' Q Q' : Grammar} (f g r s : List ℕ) (p : (P ⊳ Q) f) (q : (P' ⊳ Q') g) → f ++
    r ≡ g ++ s →
    (p.front ++ (p.rest ++ r) ≡ q.front ++ (q.rest ++ s) → Alike x x' p.front q.front (p.rest ++ r) (q.rest ++ s)) →
    (x ≡ x' → p.rest ++ r ≡ q.rest ++ s → Alike y y' p.rest q.rest r s) →
    Alike {X = X × Y} (x, y) (x', y') f g r s
pairs_alike f g r s p q e first second =
    let a = first (sym (split-append f r p) ∙ e ∙ split-append g s q) in
    let b = second a.thing a.behind in
    record {
      thing = λ i. (a.thing i, b.thing i);
      spelling = p.split ∙ (λ i. a.spelling i ++ b.spelling i) ∙ sym q.split;
      behind =
          b.behind;
    }

-- fixed bytes
pub exactly_form : (these : List ℕ) → OneForm {X = Unit {0}} (λ _. Exactly these)
exactly_form these = record {
  alike = λ x y f g r s p q e. record {
    thing = refl;
    spelling = p ∙ sym q;
    behind =
        append-cancel these r s (ap (λ l. l ++ r) (sym p) ∙ e ∙ ap (λ l. l ++ s) q);
  };
}

-- one byte
pub byte_form : OneForm (λ b. Exactly (b ∷ []))
byte_form = record {
  alike = λ b c f g r s p q e.
      let flat : b ∷ r ≡ c ∷ s = ap (λ l. l ++ r) (sym p) ∙ e ∙ ap (λ l. l ++ s) q in
      let bytes : b ≡ c = cc in
      record { thing = bytes; spelling = p ∙ ap (λ b. b ∷ []) bytes ∙ sym q; behind = cc };
}

-- one thing, and another behind it
pub pair_form : {X Y : Type 0} {P : X → Grammar} {Q : Y → Grammar} → OneForm P → OneForm Q →
    OneForm {X = X × Y} (λ pair. P pair.0 ⊳ Q pair.1)
pair_form first second = record {
  alike = λ x y f g r s p q e. pairs_alike f g r s p q e
      (first.alike x.0 y.0 p.front q.front (p.rest ++ r) (q.rest ++ s) p.first q.first)
      (λ _. second.alike x.1 y.1 p.rest q.rest r s p.second q.second);
}

-- a thing that is spelled as another is, which determines it
pub along_form : {X Y : Type 0} {P : X → Grammar} (h : Y → X) → ((x y : Y) → h x ≡ h y → x ≡ y) → OneForm P → OneForm (λ y. P (h y))
along_form h determines o = record {
  alike = λ x y f g r s p q e. let a = o.alike (h x) (h y) f g r s p q e in
      record { thing = determines x y a.thing; spelling = a.spelling; behind = a.behind };
}

-- things behind the same fixed bytes are alike if they are by themselves
pub behind_alike : {X : Type 0} {x y : X} {P Q : Grammar} (these f g r s : List ℕ) (p : (Exactly these ⊳ P) f)
    (q : (Exactly these ⊳ Q) g) → f ++ r ≡ g ++ s →
    (p.rest ++ r ≡ q.rest ++ s → Alike x y p.rest q.rest r s) → Alike x y f g r s
behind_alike these f g r s p q e things = map-Alike (λ pair. pair.1) (pairs_alike f g r s p q e
    ((exactly_form these).alike tt tt p.front q.front (p.rest ++ r) (q.rest ++ s) p.first q.first)
    (λ _. things))

-- a thing behind fixed bytes
pub behind_form : {X : Type 0} {P : X → Grammar} (these : List ℕ) → OneForm P → OneForm (λ x. Exactly these ⊳ P x)
behind_form these o = record {
  alike = λ x y f g r s p q e. behind_alike these f g r s p q e
      (o.alike x y p.rest q.rest r s p.second q.second);
}

-- fewer spellings
pub narrow_form : {X : Type 0} {P Q : X → Grammar} → ((x : X) (f : List ℕ) → Q x f → P x f) → OneForm P → OneForm Q
narrow_form narrow o = record { alike = λ x y f g r s p q e. o.alike x y f g r s (narrow x f p) (narrow y g q) e }

-- two things in a row begin as the first does
pub BeginsWith-first : {P Q : Grammar} (b : ℕ) (f : List ℕ) (p : (P ⊳ Q) f) → BeginsWith b p.front → BeginsWith b f
BeginsWith-first b f p begins = (begins.0 ++ p.rest, p.split ∙ ap (λ l. l ++ p.rest) begins.1)

-- the same bytes begin with the same byte
pub first_bytes_same : (b c : ℕ) (f g r s : List ℕ) → BeginsWith b f → BeginsWith c g → f ++ r ≡ g ++ s → b ≡ c
first_bytes_same b c f g r s (rest, is) (rest', is') e = let flat : b ∷ (rest ++ r) ≡ c ∷ (rest' ++ s) = ap (λ l. l ++ r) (sym is) ∙ e ∙
    ap (λ l. l ++ s) is' in cc
