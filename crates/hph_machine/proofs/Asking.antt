-- What pairs ask of a cell, one pair further, from the last one on.
use Rattle.std.proofs.Common.{◌≡◌, ◌≢◌, ℕ, ◌<◌, ◌+◌, eqb, List, ◌∷◌, length, get_or, drop, sym, ap, subst, ◌∙◌, eq-eqb, ne_eqb}
use Rattle.std.proofs.lemmas.Bool.{cond-true, cond-false}
use Rattle.std.proofs.lemmas.List.{drop_more}
use Rattle.hph_type.specs.Types.{PhpType}
use Rattle.hph_type.specs.Classes.{Parents}
use Rattle.hph_type.specs.Order.{IsOf, join}
use Rattle.hph_sys.specs.Typings.{In}
use Rattle.hph_sys.specs.Shape.{asked_in}
use Rattle.hph_sys.specs.AskedLaws.{asked-of}
use Rattle.hph_machine.proofs.Members.{in_dropped}

module _ (tree : Parents) (pairs : List (ℕ × PhpType)) (cell k m : ℕ) (p d : ℕ × PhpType) (inside : k < length pairs) (next : m ≡ k + 1) (is_p : p ≡ get_or pairs k d) where
  from : drop k pairs ≡ p ∷ drop m pairs
  from = subst (λ (q : ℕ × PhpType). drop k pairs ≡ q ∷ drop m pairs) (sym is_p) (subst (λ (j : ℕ). drop k pairs ≡ get_or pairs k d ∷ drop j pairs) (sym next) (drop_more pairs k d inside))

  -- a pair of the cell
  pub asked_hit : (t r : PhpType) → p.0 ≡ cell → t ≡ asked_in tree (drop m pairs) cell → r ≡ join tree p.1 t → r ≡ asked_in tree (drop k pairs) cell
  asked_hit t r hit was is = is ∙ (ap (join tree p.1) was ∙ (sym (cond-true (eqb p.0 cell) _ _ (eq-eqb p.0 cell hit)) ∙ sym (ap (λ l. asked_in tree l cell) from)))

  -- a pair of another cell
  pub asked_miss : (t : PhpType) → p.0 ≢ cell → t ≡ asked_in tree (drop m pairs) cell → t ≡ asked_in tree (drop k pairs) cell
  asked_miss t miss was = was ∙ (sym (cond-false (eqb p.0 cell) _ _ (ne_eqb p.0 cell miss)) ∙ sym (ap (λ l. asked_in tree l cell) from))

-- what is asked is of the tree
pub asked_typed : (tree : Parents) (pairs : List (ℕ × PhpType)) (cell k : ℕ) (t : PhpType) → ((pair : ℕ × PhpType) → In pair pairs → IsOf tree pair.1) → t ≡ asked_in tree (drop k pairs) cell → IsOf tree t
asked_typed tree pairs cell k t each e = subst (IsOf tree) (sym e) (asked-of tree (drop k pairs) cell (λ pair h. each pair (in_dropped pairs k pair h)))
