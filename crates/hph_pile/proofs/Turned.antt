-- A list and the list the other way round.
use Rattle.std.proofs.Common.{◌≡◌, ◌≤◌, ◌+◌, ◌-◌, ℕ, List, [], ◌∷◌, ◌++◌, length, reverse, take, drop, sym, ap, subst, ◌∙◌, arith}
use Rattle.std.proofs.lemmas.List.{reverse-append, length-reverse, reverse-reverse, take-append-drop, length-drop, get_or-reverse}
use Rattle.std.specs.Prelude.{slice_get, Some, None}
use Rattle.std.proofs.Common.{get_or, ◌<◌}
use Rattle.std.proofs.lemmas.Option.{slice_get-get_or, slice_get_past}
use Rattle.std.proofs.Math.Seq.{drop-append_seam, take-append_seam}

pub more_turned : {A : Type 0} (xs : List A) (x : A) → reverse (xs ++ x ∷ []) ≡ x ∷ reverse xs
more_turned xs x = reverse-append xs (x ∷ [])

pub same_length : {A : Type 0} (xs : List A) → length (reverse xs) ≡ length xs
same_length xs = length-reverse xs

-- The front of a list is what is left of its reverse.
pub front_turned : {A : Type 0} (xs : List A) (k gone : ℕ) → k + gone ≡ length xs → reverse (take k xs) ≡ drop gone (reverse xs)
front_turned xs k gone e =
    let split : reverse xs ≡ reverse (drop k xs) ++ reverse (take k xs) =
    ap reverse (sym (take-append-drop k xs)) ∙ reverse-append (take k xs) (drop k xs) in
    let size : length (reverse (drop k xs)) ≡ gone = length-reverse (drop k xs) ∙ (length-drop k xs ∙ omega arith) in
    sym (ap (drop gone) split ∙ subst (λ n. drop n (reverse (drop k xs) ++ reverse (take k xs)) ≡ reverse (take k xs)) size
    (drop-append_seam (reverse (drop k xs)) (reverse (take k xs))))

pub left_turned : {A : Type 0} (xs ys rs ss : List A) (len gone : ℕ) → ys ≡ take (len - gone) xs → len ≡ length ss → ss ≡ xs → reverse xs ≡ rs →
    gone ≤ length rs → reverse ys ≡ drop gone rs
left_turned xs ys rs ss len gone e n0 same r h =
    let n : len ≡ length xs = n0 ∙ ap length same in
    let h2 : gone ≤ length xs = subst (λ z. gone ≤ z) (ap length (sym r) ∙ length-reverse xs) h in
    let k : (len - gone) + gone ≡ length xs = omega arith in
    ap reverse e ∙ (front_turned xs (len - gone) gone k ∙ ap (drop gone) r)

-- The top of a stack, the lowest first, is the end of the list that it is kept in.
pub top_turned : {A : Type 0} (xs rs : List A) (len count : ℕ) → len ≡ length xs → reverse xs ≡ rs → count ≤ length rs →
    drop (len - count) xs ≡ reverse (take count rs)
top_turned xs rs len count n r h =
    let h2 : count ≤ length xs = subst (λ z. count ≤ z) (ap length (sym r) ∙ length-reverse xs) h in
    let split : rs ≡ reverse (drop (len - count) xs) ++ reverse (take (len - count) xs) =
    sym r ∙ (ap reverse (sym (take-append-drop (len - count) xs)) ∙ reverse-append (take (len - count) xs) (drop (len - count) xs)) in
    let size : length (reverse (drop (len - count) xs)) ≡ count =
    length-reverse (drop (len - count) xs) ∙ (length-drop (len - count) xs ∙ omega arith) in
    let front : take count rs ≡ reverse (drop (len - count) xs) =
    ap (take count) split ∙ subst (λ n. take n (reverse (drop (len - count) xs) ++ reverse (take (len - count) xs)) ≡ reverse (drop (len - count) xs)) size
    (take-append_seam (reverse (drop (len - count) xs)) (reverse (take (len - count) xs))) in
    sym (ap reverse front ∙ reverse-reverse (drop (len - count) xs))

turned_at : {A : Type 0} (xs : List A) (d : A) (k : ℕ) → k < length xs → slice_get xs (length xs - 1 - k) ≡ slice_get (reverse xs) k
turned_at xs d k h =
    let same = length-reverse xs in
    let here : slice_get xs (length xs - 1 - k) ≡ Some (get_or xs (length xs - 1 - k) d) = slice_get-get_or xs (length xs - 1 - k) d (omega (arith, h)) in
    here ∙ ap Some (sym (get_or-reverse xs k d h)) ∙ sym (slice_get-get_or (reverse xs) k d (omega (arith, h, same)))

-- The last element is the first one of the reverse.
pub element_turned : {A : Type 0} (xs : List A) (k : ℕ) → k < length xs → slice_get xs (length xs - 1 - k) ≡ slice_get (reverse xs) k
element_turned [] k h = absurd (omega arith)
element_turned (x ∷ xs) k h = turned_at (x ∷ xs) x k h

pub none_past : {A : Type 0} (xs : List A) (k : ℕ) → length xs ≤ k → slice_get (reverse xs) k ≡ None
none_past xs k h = let same = length-reverse xs in slice_get_past (reverse xs) k (omega (arith, h, same))
