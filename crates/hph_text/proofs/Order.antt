-- Texts in order.
use Rattle.std.specs.Prelude.{◌≡◌, ◌<◌, ◌+◌, ℕ, suc, List, [], ◌∷◌, ◌++◌, length, Result, Ok, Err, refl}
use Rattle.std.proofs.Common.{ap, sym, ◌∙◌, drop, get_or, drop-cons, add-one, append_assoc}
use Rattle.hph_text.specs.Texts.{Texts, behind, in_order}

pub behind-assoc : (old : List (List ℕ)) (a b : Texts) → behind (Ok old) (behind a b) ≡ behind (behind (Ok old) a) b
behind-assoc old (Err at) b = refl
behind-assoc old (Ok texts) (Err at) = refl
behind-assoc old (Ok texts) (Ok more) = ap Ok (sym (append_assoc old texts more))

-- one item more
pub in_order-drop : {A : Type 0} (old : List (List ℕ)) (f : A → Texts) (xs : List A) (i : ℕ) (d : A) → i < length xs →
    behind (Ok old) (in_order f (drop i xs)) ≡ behind (behind (Ok old) (f (get_or xs i d))) (in_order f (drop (i + 1) xs))
in_order-drop old f xs i d h = rw (add-one, drop-cons xs i d h) (behind-assoc old (f (get_or xs i d)) (in_order f (drop (suc i) xs)))

pub nothing_before : (a : Texts) → behind (Ok []) a ≡ a
nothing_before (Ok texts) = refl
nothing_before (Err at) = refl

pub ruleset order = (in_order-drop, nothing_before)
