use Rattle.hph_scan.proofs.PieceSteps as laws
use Rattle.hph_scan.proofs.laws.one_piece.Goals as goal

pub returns : goal.returns
returns c = laws.one_piece
