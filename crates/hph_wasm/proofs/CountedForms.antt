-- Things behind their counts can be read in one way: vectors, bytes, and what stands behind its size.
use Rattle.std.proofs.Common.{◌≡◌, ◌∙◌, ℕ, List, [], ◌∷◌, ◌++◌, length, refl, sym, ap, arith}
use Rattle.hph_wasm.specs.Leb128.{Unsigned}
use Rattle.hph_wasm.specs.Grammar.{Grammar, ◌⊳◌, Each, Vector, Bytes, Named, Sized}
use Rattle.hph_wasm.proofs.OneForm.{Alike, OneForm, map-Alike, pairs_alike, narrow_form}
use Rattle.hph_wasm.proofs.Leb128Laws.{unsigned_form}

-- as many things, in order
each_alike : {X : Type 0} {P : X → Grammar} → OneForm P → (xs ys : List X) (f g r s : List ℕ) → length xs ≡ length ys →
    Each P xs f → Each P ys g → f ++ r ≡ g ++ s → Alike xs ys f g r s
each_alike o [] [] f g r s count p q e = record
    { thing = refl; spelling = p ∙ sym q; behind = ap (λ l. l ++ r) (sym p) ∙ e ∙ ap (λ l. l ++ s) q }
each_alike o [] (y ∷ ys) f g r s count p q e = absurd (omega arith)
each_alike o (x ∷ xs) [] f g r s count p q e = absurd (omega arith)
each_alike o (x ∷ xs) (y ∷ ys) f g r s count p q e = map-Alike (λ pair. pair.0 ∷ pair.1) (pairs_alike f g r s p q e
    (o.alike x y p.front q.front (p.rest ++ r) (q.rest ++ s) p.first q.first)
    (λ _. each_alike o xs ys p.rest q.rest r s (omega arith) p.second q.second))

-- a vector
pub vector_form : {X : Type 0} {P : X → Grammar} → OneForm P → OneForm (Vector P)
vector_form o = record {
  alike = λ xs ys f g r s p q e. map-Alike (λ pair. pair.1) (pairs_alike f g r s p q e
      ((unsigned_form 32).alike (length xs) (length ys) p.front q.front (p.rest ++ r) (q.rest ++ s) p.first q.first)
      (λ count. each_alike o xs ys p.rest q.rest r s count p.second q.second));
}

-- as many bytes
bytes_alike : (f g r s : List ℕ) → length f ≡ length g → f ++ r ≡ g ++ s → Alike f g f g r s
bytes_alike [] [] r s count e = record { thing = refl; spelling = refl; behind = e }
bytes_alike [] (c ∷ g) r s count e = absurd (omega arith)
bytes_alike (b ∷ f) [] r s count e = absurd (omega arith)
bytes_alike (b ∷ f) (c ∷ g) r s count e =
    let same : b ≡ c = cc in
    let tails : f ++ r ≡ g ++ s = cc in
    let a = bytes_alike f g r s (omega arith) tails in
    record { thing = λ i. same i ∷ a.thing i; spelling = λ i. same i ∷ a.spelling i; behind = a.behind }

-- a vector of bytes
pub bytes_form : OneForm Bytes
bytes_form = record {
  alike = λ x y f g r s p q e. map-Alike (λ pair. pair.1) (pairs_alike f g r s p q e
      ((unsigned_form 32).alike (length x) (length y) p.front q.front (p.rest ++ r) (q.rest ++ s) p.first q.first)
      (λ count e. let a = bytes_alike p.rest q.rest r s (ap length p.second ∙ count ∙ sym (ap length q.second)) e in
      record { thing = sym p.second ∙ a.thing ∙ q.second; spelling = a.spelling; behind = a.behind }));
}

-- a name
pub name_form : OneForm Named
name_form = narrow_form (λ name f p. p.1) bytes_form

-- the size of a thing, and the thing
abbrev size_then : {P : Grammar} (f : List ℕ) (p : Sized P f) → (Unsigned 32 (length p.body) ⊳ P) f
size_then f p = record { front = p.size; rest = p.body; split = p.split; first = p.counted; second = p.inside }

-- a thing behind its size
pub sized_form : {X : Type 0} {P : X → Grammar} → OneForm P → OneForm (λ x. Sized (P x))
sized_form o = record {
  alike = λ x y f g r s p q e. map-Alike (λ pair. pair.1) (pairs_alike f g r s (size_then f p) (size_then g q) e
      ((unsigned_form 32).alike (length p.body) (length q.body) p.size q.size (p.body ++ r) (q.body ++ s) p.counted q.counted)
      (λ count e. let a = bytes_alike p.body q.body r s count e in
      record {
        thing = (o.alike x y p.body q.body [] [] p.inside q.inside (ap (λ l. l ++ []) a.spelling)).thing;
        spelling =
            a.spelling;
        behind = a.behind;
      }));
}
