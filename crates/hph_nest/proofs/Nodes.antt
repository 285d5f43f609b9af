-- The nesting of a node and of a list, as a test.
use Rattle.std.specs.Prelude.{◌≡◌, ◌<◌, ◌≤◌, ◌-◌, ℕ, suc, max, Bool, true, false, ◌&&◌, List, length, refl, nat_le}
use Rattle.std.proofs.Common.{drop, get_or, drop-cons, add-one, arith}
use Rattle.std.proofs.lemmas.Bool.Decides.{nat_tests}
use Rattle.hph_ast.specs.Nesting.{greatest}

pub nat_le-max : (a b l : ℕ) → nat_le (max a b) l ≡ (nat_le a l && nat_le b l)
nat_le-max a b l = grind (arith, nat_tests)

pub nat_le-node : (n l : ℕ) → 0 < l → nat_le (suc n) l ≡ nat_le n (l - 1)
nat_le-node n l h = grind (arith, nat_tests)

pub greatest-drop : {A : Type 0} (f : A → ℕ) (xs : List A) (i : ℕ) (d : A) → i < length xs → greatest f (drop i xs) ≡ max (f (get_or xs i d)) (greatest f (drop (suc i) xs))
greatest-drop f xs i d h = rw (drop-cons xs i d) refl

pub ruleset nodes = (greatest-drop, nat_le-max, nat_le-node, nat_tests)
