-- Membership by tests, and lists without some of their members, one member further.
use Rattle.std.proofs.Common.{◌≡◌, ℕ, zero, suc, ◌<◌, ◌≤◌, ◌+◌, eqb, ◌||◌, Bool, true, false, if◌then◌else◌, List, [], ◌∷◌, ◌++◌, length, get_or, take, drop, map, sym, refl, ap, subst, ◌∙◌, inl, inr, ◌⊎◌, ⊎_elim, eq-eqb, arith, true≢false}
use denote.Bor.{Bor}
use Rattle.std.specs.List.{list_any}
use Rattle.std.proofs.lemmas.List.{take_more, take_all, map-append}
use Rattle.hph_sys.specs.Typings.{In}
use Rattle.hph_core.specs.State.{keep_if}
use Rattle.hph_core.proofs.Lists.{eqb_true}
use Rattle.hph_core.proofs.Sums.{in_append}

or_true : (b : Bool) → (b || true) ≡ true
or_true true = refl
or_true false = refl

any_in-at : (x y : ℕ) (ys : List ℕ) (b : Bool) → eqb y x ≡ b → (b || list_any (λ y. eqb y x) ys) ≡ true → (list_any (λ y. eqb y x) ys ≡ true → In x ys) → In x (y ∷ ys)
any_in-at x y ys true h e ih = inl (sym (eqb_true y x h))
any_in-at x y ys false h e ih = inr (ih e)

-- a number that passes the test is a member
pub any_in : (x : ℕ) (ys : List ℕ) → list_any (λ y. eqb y x) ys ≡ true → In x ys
any_in x [] e = absurd (true≢false (sym e))
any_in x (y ∷ ys) e = any_in-at x y ys (eqb y x) refl e (any_in x ys)

-- a member passes the test
pub in_any : (x : ℕ) (ys : List ℕ) → In x ys → list_any (λ y. eqb y x) ys ≡ true
in_any x [] h = absurd h
in_any x (y ∷ ys) (inl e) = ap (λ b. b || list_any (λ y. eqb y x) ys) (eq-eqb y x (sym e))
in_any x (y ∷ ys) (inr h) = ap (λ l. eqb y x || l) (in_any x ys h) ∙ or_true (eqb y x)

module _ {A : Type 0} where
  pub in_get : (xs : List A) (i : ℕ) (d : A) → i < length xs → In (get_or xs i d) xs
  in_get [] i d h = absurd (let c : ⊥ = omega arith in c)
  in_get (x ∷ xs) zero d h = inl refl
  in_get (x ∷ xs) (suc i) d h = inr (in_get xs i d (omega arith))

  -- a member of one more is the last of these or one before
  pub in_more : (xs : List A) (i : ℕ) (x d : A) → i < length xs → In x (take (i + 1) xs) → In x (take i xs) ⊎ (x ≡ get_or xs i d)
  in_more xs i x d h k = ⊎_elim inl (λ e. ⊎_elim inr (λ n. absurd n) e) (in_append x (take i xs) (get_or xs i d ∷ []) (subst (In x) (take_more xs i d h) k))

  -- after the last member, all were seen
  pub in_whole : (xs : List A) (i : ℕ) (x : A) → length xs ≤ i → In x xs → In x (take i xs)
  in_whole xs i x h k = subst (In x) (sym (take_all i xs h)) k

  pub in_dropped : (xs : List A) (i : ℕ) (x : A) → In x (drop i xs) → In x xs
  in_dropped xs zero x h = h
  in_dropped [] (suc i) x h = h
  in_dropped (y ∷ xs) (suc i) x h = inr (in_dropped xs i x h)

module _ {A : Type 0} (p : A → Bool) where
  kept_one : (x : A) (b : Bool) → p x ≡ b → keep_if p (x ∷ []) ≡ (if b then x ∷ [] else [])
  kept_one x b e = ap (λ (b : Bool). if b then x ∷ [] else []) e

  kept_append-at : (x : A) (b : Bool) (xs ys zs : List A) → zs ≡ xs ++ ys → (if b then x ∷ zs else zs) ≡ (if b then x ∷ xs else xs) ++ ys
  kept_append-at x true xs ys zs e = ap (λ l. x ∷ l) e
  kept_append-at x false xs ys zs e = e

  kept_append : (xs ys : List A) → keep_if p (xs ++ ys) ≡ keep_if p xs ++ keep_if p ys
  kept_append [] ys = refl
  kept_append (x ∷ xs) ys = kept_append-at x (p x) (keep_if p xs) (keep_if p ys) (keep_if p (xs ++ ys)) (kept_append xs ys)

  nil_right : (xs : List A) → xs ++ [] ≡ xs
  nil_right [] = refl
  nil_right (x ∷ xs) = ap (λ l. x ∷ l) (nil_right xs)

  seen : (ys : List (Bor A)) (y : Bor A) → keep_if p (map (λ b. b.now) (ys ++ y ∷ [])) ≡ keep_if p (map (λ b. b.now) ys) ++ keep_if p (y.now ∷ [])
  seen ys y = ap (keep_if p) (map-append (λ (b : Bor A). b.now) ys (y ∷ [])) ∙ kept_append (map (λ b. b.now) ys) (y.now ∷ [])

  -- one more is seen, and is kept
  pub seen_kept : (kept after : List A) (ys : List (Bor A)) (y : Bor A) → kept ≡ keep_if p (map (λ b. b.now) ys) → p y.now ≡ true → after ≡ kept ++ y.now ∷ [] → after ≡ keep_if p (map (λ b. b.now) (ys ++ y ∷ []))
  seen_kept kept after ys y was e is = is ∙ (ap (λ l. l ++ y.now ∷ []) was ∙ sym (seen ys y ∙ ap (λ l. keep_if p (map (λ b. b.now) ys) ++ l) (kept_one y.now true e)))

  -- one more is seen, and is not kept
  pub seen_left : (kept : List A) (ys : List (Bor A)) (y : Bor A) → kept ≡ keep_if p (map (λ b. b.now) ys) → p y.now ≡ false → kept ≡ keep_if p (map (λ b. b.now) (ys ++ y ∷ []))
  seen_left kept ys y was e = was ∙ sym (seen ys y ∙ (ap (λ l. keep_if p (map (λ b. b.now) ys) ++ l) (kept_one y.now false e) ∙ nil_right (keep_if p (map (λ b. b.now) ys))))

-- an item that a loop reads is a member
pub in_item : {A : Type 0} (xs : List A) (i : ℕ) (x : A) → i < length xs → x ≡ get_or xs i x → In x xs
in_item xs i x h e = subst (λ y. In y xs) (sym e) (in_get xs i x h)

-- inside a list the default doesn't matter
pub get_any : {A : Type 0} (xs : List A) (i : ℕ) (d e : A) → i < length xs → get_or xs i d ≡ get_or xs i e
get_any [] i d e h = absurd (let c : ⊥ = omega arith in c)
get_any (x ∷ xs) zero d e h = refl
get_any (x ∷ xs) (suc i) d e h = get_any xs i d e (omega arith)
