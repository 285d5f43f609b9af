use Rattle.std.proofs.Common.{◌≤◌, ◌++◌, length}
use Rattle.hph_ast.specs.Strings.{Single}
use Rattle.hph_scan.specs.Fronts.{Spells}
use Rattle.hph_scan.proofs.single.scan_single_quoted.Given as goal

-- the bytes so far spell the text so far
abbrev pub invariant-loop-rest : goal.invariant-loop-rest
invariant-loop-rest l = record {
  spells : Spells Single l.bytes l.rest (λ more. l.text ++ more);
  within : length l.rest ≤ length l.bytes;
}

abbrev pub decreases-loop-rest : goal.decreases-loop-rest
decreases-loop-rest l = length l.rest
