-- The pieces of a string, joined by the separator, are the string.
use Rattle.std.proofs.Common.{◌≡◌, ◌<◌, ◌-◌, ◌++◌, ℕ, zero, suc, Bool, true, false, ◌&&◌, ◌==◌, cond, List, [], ◌∷◌, length, drop, arith}
use Rattle.std.proofs.Common.{refl, ap, sym, ◌∙◌, eqb-true, true≢false}
use Rattle.std.specs.List.{flat_map}
use mathlib.Core.List.{append_assoc}
use Rattle.hph_ast.specs.Bytes.{begins}
use Rattle.hph_php.specs.StringFunctions.{implode, explode, pieces, onto_first}

-- ---- there is a piece

of_either : (t : Bool) (x y : List (List ℕ)) → 0 < length x → 0 < length y → 0 < length (cond t x y)
of_either true x y h k = h
of_either false x y h k = k

of_more : (b : ℕ) (ps : List (List ℕ)) → 0 < length (onto_first b ps)
of_more b [] = omega arith
of_more b (p ∷ ps) = omega arith

has_piece : (sep : List ℕ) (n : ℕ) (bytes : List ℕ) → 0 < length (pieces sep n bytes)
has_piece sep n [] = omega arith
has_piece sep (suc n) (b ∷ bs) = has_piece sep n bs
has_piece sep zero (b ∷ bs) = of_either (begins sep (b ∷ bs)) _ _ (omega arith) (of_more b (pieces sep zero bs))

-- ---- joining

-- Behind a separator stand the other pieces, joined.
behind_first : (sep : List ℕ) (ps : List (List ℕ)) → 0 < length ps → flat_map (λ text. sep ++ text) ps ≡ sep ++ implode sep ps
behind_first sep [] h = absurd (omega (arith, h))
behind_first sep (p ∷ ps) h = append_assoc sep p (flat_map (λ text. sep ++ text) ps)

joined_onto_first : (sep : List ℕ) (b : ℕ) (ps : List (List ℕ)) → implode sep (onto_first b ps) ≡ b ∷ implode sep ps
joined_onto_first sep b [] = refl
joined_onto_first sep b (p ∷ ps) = refl

both : (a b : Bool) → (a && b) ≡ true → (a ≡ true) × (b ≡ true)
both true b h = (refl, h)
both false b h = absurd (true≢false (sym h))

none_dropped : (n : ℕ) → ◌≡◌ {A = List ℕ} (drop n []) []
none_dropped zero = refl
none_dropped (suc n) = refl

-- What bytes begin with, and the rest.
begun : (sep bs : List ℕ) → begins sep bs ≡ true → sep ++ drop (length sep) bs ≡ bs
begun [] bs h = refl
begun (s ∷ sep) [] h = absurd (true≢false (sym h))
begun (s ∷ sep) (b ∷ bs) h =
    let parts : ((s == b) ≡ true) × (begins sep bs ≡ true) = both (s == b) (begins sep bs) h in
    ap (λ c. c ∷ (sep ++ drop (length sep) bs)) (eqb-true s b parts.0) ∙ ap (λ l. b ∷ l) (begun sep bs parts.1)

module _ (s : ℕ) (sep : List ℕ) where
  one_fewer : length (s ∷ sep) - 1 ≡ length sep
  one_fewer = omega arith

  by_test : (t : Bool) (b : ℕ) (bs : List ℕ) (ps : List (List ℕ)) → begins (s ∷ sep) (b ∷ bs) ≡ t
      → implode (s ∷ sep) (pieces (s ∷ sep) (length (s ∷ sep) - 1) bs) ≡ drop (length (s ∷ sep) - 1) bs
      → implode (s ∷ sep) ps ≡ bs
      → implode (s ∷ sep) (cond t ([] ∷ pieces (s ∷ sep) (length (s ∷ sep) - 1) bs) (onto_first b ps)) ≡ b ∷ bs
  by_test true b bs ps e skipped here =
      behind_first (s ∷ sep) (pieces (s ∷ sep) (length (s ∷ sep) - 1) bs) (has_piece (s ∷ sep) (length (s ∷ sep) - 1) bs)
      ∙ ap (λ l. s ∷ (sep ++ l)) (skipped ∙ ap (λ n. drop n bs) one_fewer)
      ∙ begun (s ∷ sep) (b ∷ bs) e
  by_test false b bs ps e skipped here = joined_onto_first (s ∷ sep) b ps ∙ ap (λ l. b ∷ l) here

  from_piece : (n : ℕ) (bytes : List ℕ) → implode (s ∷ sep) (pieces (s ∷ sep) n bytes) ≡ drop n bytes
  from_piece n [] = sym (none_dropped n)
  from_piece (suc n) (b ∷ bs) = from_piece n bs
  from_piece zero (b ∷ bs) =
      by_test (begins (s ∷ sep) (b ∷ bs)) b bs (pieces (s ∷ sep) zero bs) refl (from_piece (length (s ∷ sep) - 1) bs) (from_piece zero bs)

  -- implode(sep, explode(sep, bytes)) is bytes
  pub joined_pieces : (bytes : List ℕ) → implode (s ∷ sep) (explode (s ∷ sep) bytes) ≡ bytes
  joined_pieces bytes = from_piece zero bytes
