use Rattle.std.proofs.Common.{Ok, Err}
use Rattle.hph_ast.specs.Tokens.{beginning}
use Rattle.hph_lex.proofs.OneReading.{OneScan, one_reading, ok_inj, err_inj, same_fault, ok_no_err}
use Rattle.hph_lex.proofs.laws.one_reading.Goals as goal

pub returns : goal.returns
returns c =
    let one : OneScan = record { number = c.one_number.ensures; single = c.one_single_quoted.ensures; piece = c.one_piece.ensures } in
    record {
      reading = one_reading one;
      tokens = λ bytes ts us d e. ok_inj (one_reading one beginning 0 bytes (Ok ts) (Ok us) d e);
      fault = λ bytes why other at place d e. same_fault why other at place (err_inj (one_reading one beginning 0 bytes (Err
          (why, at)) (Err (other, place)) d e));
      never_both = λ bytes ts why at d e. ok_no_err (one_reading one beginning 0 bytes (Ok ts) (Err (why, at)) d e);
    }
