use Rattle.std.proofs.Common.{◌≡◌, drop, map}
use Rattle.hph_ast.specs.Words.{kind_in}
use Rattle.hph_lex.specs.Tables.{word_row}
use Rattle.hph_lex.proofs.word.word_in.Given as goal

abbrev pub invariant-loop-text : goal.invariant-loop-text
invariant-loop-text l = kind_in (map word_row (drop l.text-index l.table)) l.name ≡ kind_in (map word_row l.table) l.name
