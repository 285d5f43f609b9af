-- The next key is above each int key.
use Rattle.std.proofs.Common.{◌≡◌, ℕ, ◌+◌, ◌≤◌, ◌^◌, Bool, true, false, cond, List, [], ◌∷◌, ◌++◌, ap}
use Rattle.std.proofs.Common.{sym, arith, ◌∙◌, true≢false, pos, negsuc, inl, inr, subst}
use Rattle.std.specs.List.{list_any}
use Rattle.std.specs.Set.{remove_key}
use Rattle.std.proofs.lemmas.Bool.{or_cases, or_parts, cases_Bool, cases_eq, eq-eqb, ne_eqb}
use Rattle.std.proofs.lemmas.Int.{to_z_pos}
use mir.Val.{to_z}
use mir.Syntax.{w64}
use Rattle.hph_array.specs.declared.key.Key.{Key}
use Rattle.hph_array.specs.declared.key.Key.TheVariants.{Int, Str}
use Rattle.hph_array.specs.Key.{key_eq, key_eq_decides, number_after}
use Rattle.hph_array.specs.Array.{AreBelow, fallen}

-- A key below the next key may come last.
pub AreBelow-push : (next : ℕ) (ks : List Key) (k : Key) → AreBelow next ks → number_after k ≤ next
    → AreBelow next (ks ++ k ∷ [])
AreBelow-push next [] k b p = (p, tt)
AreBelow-push next (x ∷ ks) k b p = (b.0, AreBelow-push next ks k b.1 p)

-- The next key may rise.
pub AreBelow-rise : (next more : ℕ) (ks : List Key) → AreBelow next ks → next ≤ more → AreBelow more ks
AreBelow-rise next more [] b p = tt
AreBelow-rise next more (k ∷ ks) b p = (omega (arith, b.0), AreBelow-rise next more ks b.1 p)

-- What is said of a key is said of one that is equal to it.
AreBelow-here : (next : ℕ) (k x : Key) → key_eq k x ≡ true → number_after x ≤ next → number_after k ≤ next
AreBelow-here next k x e p = rw ((key_eq_decides k x).0 e) p

-- A key that is there is below the next key.
pub AreBelow-there : (next : ℕ) (ks : List Key) (k : Key) → AreBelow next ks → list_any (key_eq k) ks ≡ true
    → number_after k ≤ next
AreBelow-there next [] k b e = absurd (true≢false (sym e))
AreBelow-there next (x ∷ ks) k b e =
    elim (or_cases (key_eq k x) (list_any (key_eq k) ks) e) [
      | inl here ↦ AreBelow-here next k x here b.0
      | inr later ↦ AreBelow-there next ks k b.1 later
    ]

-- The next key isn't there.
pub next_key_is_new : (next : ℕ) (ks : List Key) → AreBelow next ks → list_any (key_eq (Int (pos next))) ks ≡ false
next_key_is_new next ks b =
    elim (cases_Bool (list_any (key_eq (Int (pos next))) ks)) [
      | inl there ↦ absurd (omega (arith, AreBelow-there next ks (Int (pos next)) b there))
      | inr absent ↦ absent
    ]

-- Below 2^63 a number is the int of its bits.
pub int_key : (n : ℕ) → n ≤ 2 ^ 63 → (n ≡ 2 ^ 63 → ⊥) → Int (to_z w64 n) ≡ Int (pos n)
int_key n p q = ap Int (to_z_pos w64 n (omega (arith, p, q)))

-- A choice of keys that are below the next key.
AreBelow-cond : (next : ℕ) (b : Bool) (ks js : List Key) → AreBelow next ks → AreBelow next js
    → AreBelow next (cond b ks js)
AreBelow-cond next true ks js p q = p
AreBelow-cond next false ks js p q = q

-- A key may be removed.
pub AreBelow-remove : (next : ℕ) (test : Key → Bool) (ks : List Key) → AreBelow next ks
    → AreBelow next (remove_key test ks)
AreBelow-remove next test [] b = b
AreBelow-remove next test (k ∷ ks) b =
    AreBelow-cond next (test k) ks (k ∷ remove_key test ks) b.1 (b.0, AreBelow-remove next test ks b.1)

-- The last key may be removed.
pub AreBelow-front : (next : ℕ) (ks : List Key) (k : Key) → AreBelow next (ks ++ k ∷ []) → AreBelow next ks
AreBelow-front next [] k b = tt
AreBelow-front next (x ∷ ks) k b = (b.0, AreBelow-front next ks k b.1)

-- Another key below n + 1 is below n.
lower : (x : Key) (n : ℕ) → key_eq (Int (pos n)) x ≡ false → number_after x ≤ n + 1 → number_after x ≤ n
lower (Str bytes) n e p = omega arith
lower (Int (negsuc m)) n e p = omega arith
lower (Int (pos m)) n e p =
    let other : n ≡ m → ⊥ =
    λ q. true≢false (sym ((key_eq_decides (Int (pos n)) (Int (pos m))).1 (ap (λ i. Int (pos i)) q)) ∙ e) in
    omega (arith, p, other)

-- Other keys below n + 1 are below n.
lowered : (n : ℕ) (ks : List Key) → list_any (key_eq (Int (pos n))) ks ≡ false → AreBelow (n + 1) ks → AreBelow n ks
lowered n [] absent b = tt
lowered n (x ∷ ks) absent b =
    let parts = or_parts (key_eq (Int (pos n)) x) (list_any (key_eq (Int (pos n))) ks) absent in
    (lower x n parts.0 b.0, lowered n ks parts.1 b.1)

-- The next key that falls to a popped key is above the others.
pub AreBelow-fallen : (next : ℕ) (ks : List Key) (k : Key) → AreBelow next ks → list_any (key_eq k) ks ≡ false
    → AreBelow (fallen next k) ks
AreBelow-fallen next ks (Str bytes) b absent = b
AreBelow-fallen next ks (Int (negsuc n)) b absent = b
AreBelow-fallen next ks (Int (pos n)) b absent =
    elim (cases_eq next (n + 1)) [
      | inl e ↦ rw (eq-eqb next (n + 1) e) (lowered n ks absent (subst (λ m. AreBelow m ks) e b))
      | inr ne ↦ rw (ne_eqb next (n + 1) ne) b
    ]

-- The next key doesn't rise at a pop.
pub fallen-at_most : (next : ℕ) (k : Key) → fallen next k ≤ next
fallen-at_most next (Str bytes) = omega arith
fallen-at_most next (Int (negsuc n)) = omega arith
fallen-at_most next (Int (pos n)) =
    elim (cases_eq next (n + 1)) [
      | inl e ↦ rw (eq-eqb next (n + 1) e) (omega (arith, e))
      | inr ne ↦ rw (ne_eqb next (n + 1) ne) (omega arith)
    ]
