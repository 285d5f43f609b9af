use Rattle.std.proofs.Common.{◌≤◌, length}
use Rattle.hph_ast.specs.Strings.{Piece}
use Rattle.hph_scan.specs.Fronts.{Spells}
use Rattle.hph_scan.specs.Pieces.{joined, text_told}
use Rattle.hph_scan.proofs.piece.scan_quoted_piece.Given as goal

-- the bytes so far spell what is read
abbrev pub invariant-loop-rest : goal.invariant-loop-rest
invariant-loop-rest l = record {
  spells : Spells Piece l.bytes l.rest (joined (text_told l.read));
  within : length l.rest ≤ length l.bytes;
}

abbrev pub decreases-loop-rest : goal.decreases-loop-rest
decreases-loop-rest l = length l.rest
