use Rattle.std.proofs.Common.{◌≡◌, ℕ, ◌<◌, false, drop}
use Rattle.hph_lex.specs.Classes.{ends}
use Rattle.hph_lex.proofs.ending.Ending.first.Given as goal

abbrev pub invariant-loop-at : goal.invariant-loop-at
invariant-loop-at l = (k : ℕ) → k < l.at → ends l.self (drop k l.bytes) ≡ false
