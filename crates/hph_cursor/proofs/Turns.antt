-- One turn of a loop, as one step of a recursion on the turns that are left.
use Rattle.std.specs.Prelude.{◌≡◌, ℕ, suc, ◌+◌, ◌-◌, ◌<◌, ◌≤◌}
use Rattle.std.proofs.Common.{ap, ◌∙◌, arith}

pub deeper : {A : Type 0} (f : ℕ → A) (n : ℕ) → 0 < n → f n ≡ f (suc (n - 1))
deeper f n h = let e : n ≡ suc (n - 1) = omega arith in ap f e

-- at a turn, one is left more than behind it
pub one_more : {A : Type 0} (f : ℕ → A) (end turn : ℕ) {z : A} → turn < end → z ≡ f (end - turn) → z ≡ f (suc (end - (turn + 1)))
one_more f end turn h e = let same : end - turn ≡ suc (end - (turn + 1)) = omega arith in e ∙ ap f same

-- behind the last turn none is left
pub no_more : {A : Type 0} (f : ℕ → A) (end turn : ℕ) {z : A} → end ≤ turn → z ≡ f (end - turn) → z ≡ f 0
no_more f end turn h e = let same : end - turn ≡ 0 = omega arith in e ∙ ap f same
