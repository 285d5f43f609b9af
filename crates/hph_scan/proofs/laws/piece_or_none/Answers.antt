use Rattle.hph_scan.proofs.PieceSteps as laws
use Rattle.hph_scan.proofs.laws.piece_or_none.Goals as goal

pub returns : goal.returns
returns c = laws.piece_or_none
