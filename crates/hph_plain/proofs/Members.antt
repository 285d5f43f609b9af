-- Members of lists, one further.
use Rattle.std.proofs.Common.{◌≡◌, ◌<◌, ◌≤◌, ◌+◌, ◌⊎◌, ℕ, zero, suc, List, [], ◌∷◌, ◌++◌, length, take, get_or, inl, inr, refl, sym, subst, arith}
use Rattle.std.proofs.lemmas.List.{take_more, take_all}
use Rattle.hph_sys.specs.Typings.{In}

module _ {A : Type 0} where
  pub in_get : (xs : List A) (i : ℕ) (d : A) → i < length xs → In (get_or xs i d) xs
  in_get [] i d h = absurd (let c : ⊥ = omega arith in c)
  in_get (x ∷ xs) zero d h = inl refl
  in_get (x ∷ xs) (suc i) d h = inr (in_get xs i d (omega arith))

  -- A member of a list with one more is a member or the last.
  in_snoc : (x : A) (xs : List A) (y : A) → In x (xs ++ y ∷ []) → In x xs ⊎ (x ≡ y)
  in_snoc x [] y (inl e) = inr e
  in_snoc x [] y (inr h) = absurd h
  in_snoc x (z ∷ xs) y (inl e) = inl (inl e)
  in_snoc x (z ∷ xs) y (inr h) = elim (in_snoc x xs y h) [ inl k ↦ inl (inr k) | inr e ↦ inr e ]

  pub in_more : (xs : List A) (i : ℕ) (x d : A) → i < length xs → In x (take (i + 1) xs)
      → In x (take i xs) ⊎ (x ≡ get_or xs i d)
  in_more xs i x d h k = in_snoc x (take i xs) (get_or xs i d) (subst (In x) (take_more xs i d h) k)

  -- and the other way round
  snoc_in : (x : A) (xs : List A) (y : A) → In x xs ⊎ (x ≡ y) → In x (xs ++ y ∷ [])
  snoc_in x [] y (inl h) = absurd h
  snoc_in x [] y (inr e) = inl e
  snoc_in x (z ∷ xs) y (inl (inl e)) = inl e
  snoc_in x (z ∷ xs) y (inl (inr h)) = inr (snoc_in x xs y (inl h))
  snoc_in x (z ∷ xs) y (inr e) = inr (snoc_in x xs y (inr e))

  pub more_in : (xs : List A) (i : ℕ) (x d : A) → i < length xs → In x (take i xs) ⊎ (x ≡ get_or xs i d)
      → In x (take (i + 1) xs)
  more_in xs i x d h k = subst (In x) (sym (take_more xs i d h)) (snoc_in x (take i xs) (get_or xs i d) k)

  -- After the last member all were seen.
  pub in_whole : (xs : List A) (i : ℕ) (x : A) → length xs ≤ i → In x xs → In x (take i xs)
  in_whole xs i x h k = subst (In x) (sym (take_all i xs h)) k

  -- What a loop reads at a place stands in the list.
  pub in_item : (xs : List A) (i : ℕ) (x : A) → i < length xs → x ≡ get_or xs i x → In x xs
  in_item xs i x within is = subst (λ y. In y xs) (sym is) (in_get xs i x within)
