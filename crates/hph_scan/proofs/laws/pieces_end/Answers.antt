use Rattle.hph_scan.proofs.PieceSteps as laws
use Rattle.hph_scan.proofs.laws.pieces_end.Goals as goal

pub returns : goal.returns
returns c = laws.pieces_end
