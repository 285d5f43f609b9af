-- Reading fixed bytes one by one.
use Rattle.std.proofs.Common.{◌≡◌, ◌<◌, ◌∙◌, ℕ, suc, ◌+◌, List, [], ◌∷◌, ◌++◌, length, take, drop, get_or, sym, ap, arith, append_assoc, length-append, take-append-drop, drop-cons}
use Rattle.std.proofs.lemmas.List.{take_more}
use Rattle.hph_wasm.specs.Grammar.{Exactly, Byte}
use Rattle.hph_wasm.specs.Unsupported.{Nowhere}
use Rattle.hph_wread.specs.declared.fault.Fault.{Fault}
use Rattle.hph_wread.specs.declared.fault.Fault.TheVariants.{Malformed, Unsupported, NoMemory}
use Rattle.hph_wread.specs.Reading.{Took, Fails}
use Rattle.hph_wread.proofs.Tagged.{took_byte, is_byte}

-- what stands behind the same bytes
same_behind : (xs ys zs : List ℕ) → xs ++ ys ≡ xs ++ zs → ys ≡ zs
same_behind [] ys zs e = e
same_behind (x ∷ xs) ys zs e = let tails : xs ++ ys ≡ xs ++ zs = cc in same_behind xs ys zs tails

-- one more of them is read
pub prefix_more : (these : List ℕ) (i : ℕ) {bytes mid rest : List ℕ} → i < length these → bytes ≡ take i these ++ mid → Took (Byte (get_or these i 0)) mid rest →
    bytes ≡ take (i + 1) these ++ rest
prefix_more these i {bytes} {mid} {rest} few so_far p =
    so_far ∙ ap (λ l. take i these ++ l) (is_byte (get_or these i 0) p) ∙ sym (append_assoc (take i these) (get_or these i 0 ∷ []) rest) ∙
    ap (λ l. l ++ rest) (sym (take_more these i 0 few))

-- the next one isn't there
pub prefix_fails : (these : List ℕ) (i : ℕ) {bytes mid : List ℕ} → i < length these → bytes ≡ take i these ++ mid → (e : Fault) →
    Fails (Byte (get_or these i 0)) Nowhere mid e → Fails (Exactly these) Nowhere bytes e
prefix_fails these i {bytes} {mid} few so_far (Malformed left) f = record {
  reason = (
    omega (arith, f.reason.0, ap length so_far, length-append (take i these) mid),
    record {
      none = λ after p.
          let more : take i these ++ drop i these ≡ these = take-append-drop i these in
          let whole : bytes ≡ (take i these ++ drop i these) ++ after = p.split ∙ ap (λ l. l ++ after) (p.spelled ∙ sym more) in
          let both : take i these ++ mid ≡ take i these ++ (drop i these ++ after) = sym so_far ∙ whole ∙ append_assoc (take i these) (drop i these) after in
          let there : mid ≡ drop i these ++ after = same_behind (take i these) mid (drop i these ++ after) both in
          let next : mid ≡ get_or these i 0 ∷ (drop (suc i) these ++ after) = there ∙ ap (λ l. l ++ after) (drop-cons these i 0 few) in
          f.reason.1.none (drop (suc i) these ++ after) (took_byte (get_or these i 0) next);
      nowhere = λ place feature n. n;
    },
  );
}
prefix_fails these i few so_far (Unsupported left feature) f = absurd f.reason.stops
prefix_fails these i few so_far NoMemory f = record { reason = tt }
