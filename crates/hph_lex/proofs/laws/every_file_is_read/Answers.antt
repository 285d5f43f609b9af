use Rattle.hph_lex.proofs.EveryFile.{ScanSome, every_file}
use Rattle.hph_lex.proofs.laws.every_file_is_read.Goals as goal

pub returns : goal.returns
returns c =
    let scan : ScanSome = record {
      number = c.number_or_none.ensures;
      single = c.single_quoted_or_none.ensures;
      piece = c.piece_or_none.ensures;
      ends = c.pieces_end.ensures;
    } in
    every_file scan
