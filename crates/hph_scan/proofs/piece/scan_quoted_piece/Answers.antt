use Rattle.std.proofs.Common.{◌≡◌, true, sym, ◌∙◌, subst}
use Rattle.hph_scan.specs.Pieces.{IsPiece, ends_piece}
use Rattle.hph_scan.proofs.PieceSteps.{piece_read}
use Rattle.hph_scan.proofs.piece.scan_quoted_piece.Goals as goal

pub returns : goal.returns
returns c =
    let ends : ends_piece c.loop-rest.rest.now ≡ true = sym c.ends_piece.ensures ∙ c.loop-rest-test.false in
    let read = piece_read c.args.bytes.now c.loop-rest.rest.now c.loop-rest.read ends c.loop-rest.invariant.spells in
    subst (IsPiece c.args.bytes.now) (sym c.up_to.ensures) read
