use Rattle.std.proofs.Common.{ℕ, take}
use Rattle.hph_sys.specs.Typings.{In}
use Rattle.hph_machine.proofs.lists.has_one.Given as goal

-- nothing seen so far is in the list
abbrev pub invariant-loop-x : goal.invariant-loop-x
invariant-loop-x l = (x : ℕ) → In x (take l.x-index l.xs) → ¬ In x l.list
