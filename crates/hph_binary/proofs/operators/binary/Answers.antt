use Rattle.std.specs.Int.{w64, int_bit_and, int_bit_or, int_bit_xor}
use Rattle.hph_value.specs.Shown.{value_of}
use Rattle.hph_binary.proofs.Told.{bits_tell}
use Rattle.hph_binary.proofs.operators.binary.Goals as goal

pub returns-in-BitAnd-clause-answer : goal.returns-in-BitAnd-clause-answer
returns-in-BitAnd-clause-answer c =
    rw c.in-BitAnd.is
    (bits_tell (int_bit_and w64) (value_of c.args.x.now) (value_of c.args.y.now) c.bit_and.result c.bits_answer.result c.bit_and.ensures c.bits_answer.ensures.answer)

pub returns-in-BitOr-clause-answer : goal.returns-in-BitOr-clause-answer
returns-in-BitOr-clause-answer c =
    rw c.in-BitOr.is
    (bits_tell (int_bit_or w64) (value_of c.args.x.now) (value_of c.args.y.now) c.bit_or.result c.bits_answer-in-BitOr.result c.bit_or.ensures c.bits_answer-in-BitOr.ensures.answer)

pub returns-in-BitXor-clause-answer : goal.returns-in-BitXor-clause-answer
returns-in-BitXor-clause-answer c =
    rw c.in-BitXor.is
    (bits_tell (int_bit_xor w64) (value_of c.args.x.now) (value_of c.args.y.now) c.bit_xor.result c.bits_answer-in-BitXor.result c.bit_xor.ensures c.bits_answer-in-BitXor.ensures.answer)
