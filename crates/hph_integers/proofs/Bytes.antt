-- Numbers as bytes.
use Rattle.std.proofs.Common.{◌≡◌, ◌∙◌, ◌≤◌, ◌<◌, ◌+◌, ◌*◌, ◌/◌, ◌%◌, ◌^◌, ℕ, zero, suc, List, [], ◌∷◌, ◌++◌, length, take, drop, Some, None, refl, sym, ap, subst, arith, append_assoc}
use Rattle.std.specs.Prelude.{slice_get}
use Rattle.std.proofs.lemmas.Bool.{le-leb, lt-leb}
use Rattle.std.proofs.lemmas.List.{drop-drop, length-drop, length-take-le}
use Rattle.std.proofs.Common.{length-append}
use Rattle.std.proofs.Math.Seq.{take-append_seam, drop-append_seam}
use Rattle.hph_wasm.specs.Memory.{number_in, bytes_of, loaded, stored}
use Rattle.hph_integers.specs.Writes.{written}

-- ---- loads

number_front : (c d : ℕ) (bytes : List ℕ) → c ≤ length bytes → number_in (take (c + d) bytes) ≡ number_in (take c bytes) + 256 ^ c * number_in (take d (drop c bytes))
number_front zero d bytes h =
    let e : 0 + d ≡ d = omega arith in
    let p : 256 ^ 0 ≡ 1 = refl in
    ap (λ n. number_in (take n bytes)) e ∙ plain (number_in (take d bytes))
  where
    plain : (n : ℕ) → n ≡ 0 + 1 * n
    plain n = omega arith
number_front (suc c) d [] h = absurd (omega arith)
number_front (suc c) d (b ∷ bytes) h =
    let e : suc c + d ≡ suc (c + d) = omega arith in
    let rest = number_front c d bytes (omega arith) in
    let p : 256 ^ suc c ≡ 256 * 256 ^ c = omega arith in
    ap (λ n. number_in (take n (b ∷ bytes))) e ∙ (ap (λ n. b + 256 * n) rest ∙
    scaled b (number_in (take c bytes)) (256 ^ c) (number_in (take d (drop c bytes))) (256 ^ suc c) p)
  where
    scaled : (b x p y q : ℕ) → q ≡ 256 * p → b + 256 * (x + p * y) ≡ (b + 256 * x) + q * y
    scaled b x p y q e = ap (λ q. b + 256 * (x + p * y)) e ∙ (spread b x p y ∙ ap (λ q. (b + 256 * x) + q * y) (sym e))
      where
        spread : (b x p y : ℕ) → b + 256 * (x + p * y) ≡ (b + 256 * x) + 256 * p * y
        spread b x p y = omega arith

-- A number of bytes in two parts.
pub joined : (c d : ℕ) (at : ℕ) (memory : List ℕ) (low high p : ℕ) → at + (c + d) ≤ length memory → 256 ^ c ≡ p →
    low ≡ number_in (take c (drop at memory)) → high ≡ number_in (take d (drop (at + c) memory)) →
    low + p * high ≡ number_in (take (c + d) (drop at memory))
joined c d at memory low high p h e f g =
    let there : c ≤ length (drop at memory) = let n = length-drop at memory in omega arith in
    let next : drop c (drop at memory) ≡ drop (at + c) memory = drop-drop c at memory in
    let g2 : high ≡ number_in (take d (drop c (drop at memory))) = g ∙ ap (λ l. number_in (take d l)) (sym next) in
    ap (λ n. n + p * high) f ∙ (ap (λ n. number_in (take c (drop at memory)) + p * n) g2 ∙
    (ap (λ q. number_in (take c (drop at memory)) + q * number_in (take d (drop c (drop at memory)))) (sym e) ∙
    sym (number_front c d (drop at memory) there)))

pub one_loaded : (memory : List ℕ) (at b : ℕ) → slice_get memory at ≡ Some b → b ≡ number_in (take 1 (drop at memory))
one_loaded [] at b e = let no : ⊥ = cc in absurd no
one_loaded (c ∷ memory) zero b e = let same : c ≡ b = cc in sym same ∙ omega arith
one_loaded (c ∷ memory) (suc at) b e = one_loaded memory at b e

pub loaded_there : (memory : List ℕ) (at address count n : ℕ) → address + count ≤ length memory → at ≡ address →
    n ≡ number_in (take count (drop at memory)) → Some n ≡ loaded address count memory
unfolding loaded
loaded_there memory at address count n h e f =
    ap Some (f ∙ ap (λ k. number_in (take count (drop k memory))) e) ∙ sym (rw (le-leb (address + count) (length memory) h) refl)

pub loaded_past : (memory : List ℕ) (address count : ℕ) → length memory < address + count → None ≡ loaded address count memory
unfolding loaded
loaded_past memory address count h = sym (rw (lt-leb (address + count) (length memory) h) refl)

-- ---- stores

pub stored_there : (memory new : List ℕ) (at address count n : ℕ) → address + count ≤ length memory → at ≡ address →
    new ≡ written at count n memory → stored address count n memory ≡ Some new
unfolding stored
stored_there memory new at address count n h e f =
    rw (le-leb (address + count) (length memory) h) (ap Some (sym (f ∙ ap (λ k. written k count n memory) e)))

pub stored_past : (memory : List ℕ) (address count n : ℕ) → length memory < address + count → stored address count n memory ≡ None
unfolding stored
stored_past memory address count n h = rw (lt-leb (address + count) (length memory) h) refl

-- The number without its lowest bytes, so many.
abbrev pub shifted : ℕ → ℕ → ℕ
shifted zero n = n
shifted (suc c) n = shifted c (n / 256)

bytes_front : (c d n : ℕ) → bytes_of (c + d) n ≡ bytes_of c n ++ bytes_of d (shifted c n)
bytes_front zero d n = let e : 0 + d ≡ d = omega arith in ap (λ k. bytes_of k n) e
bytes_front (suc c) d n =
    let e : suc c + d ≡ suc (c + d) = omega arith in
    ap (λ k. bytes_of k n) e ∙ ap (λ l. n % 256 ∷ l) (bytes_front c d (n / 256))

length_bytes : (c n : ℕ) → length (bytes_of c n) ≡ c
length_bytes zero n = refl
length_bytes (suc c) n = ap suc (length_bytes c (n / 256))

again : (at c d n q : ℕ) (memory : List ℕ) → at + (c + d) ≤ length memory → q ≡ shifted c n →
    written (at + c) d q (written at c n memory) ≡ written at (c + d) n memory
again at c d n q memory h e =
    let front : List ℕ = take at memory ++ bytes_of c n in
    let rest : List ℕ = drop (at + c) memory in
    let whole : written at c n memory ≡ front ++ rest = sym (append_assoc (take at memory) (bytes_of c n) rest) in
    let size : length front ≡ at + c =
    length-append (take at memory) (bytes_of c n) ∙ (ap (λ k. k + length (bytes_of c n)) (length-take-le at memory (omega arith)) ∙
    ap (λ k. at + k) (length_bytes c n)) in
    let taken : take (at + c) (front ++ rest) ≡ front = subst (λ k. take k (front ++ rest) ≡ front) size (take-append_seam front rest) in
    let left : drop (at + c) (front ++ rest) ≡ rest = subst (λ k. drop k (front ++ rest) ≡ rest) size (drop-append_seam front rest) in
    let behind : drop (at + c + d) (front ++ rest) ≡ drop (at + (c + d)) memory =
    sym (drop-drop d (at + c) (front ++ rest)) ∙ (ap (drop d) left ∙ (drop-drop d (at + c) memory ∙ same)) in
    ap (written (at + c) d q) whole ∙
    (ap (λ l. l ++ (bytes_of d q ++ drop (at + c + d) (front ++ rest))) taken ∙
    (ap (λ l. front ++ (bytes_of d q ++ l)) behind ∙
    (ap (λ n. front ++ (bytes_of d n ++ drop (at + (c + d)) memory)) e ∙
    (append_assoc (take at memory) (bytes_of c n) (bytes_of d (shifted c n) ++ drop (at + (c + d)) memory) ∙
    ap (λ l. take at memory ++ l) (sym (append_assoc (bytes_of c n) (bytes_of d (shifted c n)) (drop (at + (c + d)) memory)) ∙
    ap (λ l. l ++ drop (at + (c + d)) memory) (sym (bytes_front c d n)))))))
  where
    same : drop (at + c + d) memory ≡ drop (at + (c + d)) memory
    same = let e : at + c + d ≡ at + (c + d) = omega arith in ap (λ k. drop k memory) e

-- A number of bytes is written in two parts.
pub in_parts : (at c d n q : ℕ) (memory middle new : List ℕ) → at + (c + d) ≤ length memory → q ≡ shifted c n →
    middle ≡ written at c n memory → new ≡ written (at + c) d q middle → new ≡ written at (c + d) n memory
in_parts at c d n q memory middle new h e f g = g ∙ (ap (written (at + c) d q) f ∙ again at c d n q memory h e)

pub shifted_1 : (n : ℕ) → n / 256 ≡ shifted 1 n
shifted_1 n = refl

pub shifted_2 : (n : ℕ) → n / 65536 ≡ shifted 2 n
shifted_2 n = omega arith

pub shifted_4 : (n : ℕ) → n / 4294967296 ≡ shifted 4 n
shifted_4 n = omega arith

pub same_length : (at c n : ℕ) (memory middle : List ℕ) → at + c ≤ length memory → middle ≡ written at c n memory → length middle ≡ length memory
same_length at c n memory middle h e =
    ap length e ∙ (length-append (take at memory) (bytes_of c n ++ drop (at + c) memory) ∙
    (ap (λ k. k + length (bytes_of c n ++ drop (at + c) memory)) (length-take-le at memory (omega arith)) ∙
    (ap (λ k. at + k) (length-append (bytes_of c n) (drop (at + c) memory)) ∙
    (ap (λ k. at + (k + length (drop (at + c) memory))) (length_bytes c n) ∙
    (ap (λ k. at + (c + k)) (length-drop (at + c) memory) ∙ omega arith)))))
