use Rattle.std.proofs.Common.{◌≡◌, drop, map}
use Rattle.hph_ast.specs.Marks.{mark_in}
use Rattle.hph_lex.specs.Tables.{row}
use Rattle.hph_lex.proofs.mark.mark_in.Given as goal

abbrev pub invariant-loop-text : goal.invariant-loop-text
invariant-loop-text l = mark_in (map row (drop l.text-index l.table)) l.bytes ≡ mark_in (map row l.table) l.bytes
