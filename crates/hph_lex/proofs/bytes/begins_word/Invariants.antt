use Rattle.std.proofs.Common.{◌≡◌, drop}
use Rattle.hph_ast.specs.Bytes.{begins_word}
use Rattle.hph_lex.proofs.bytes.begins_word.Given as goal

abbrev pub invariant-loop-letter : goal.invariant-loop-letter
invariant-loop-letter l = begins_word (drop l.letter-index l.word) l.rest ≡ begins_word l.word l.bytes
