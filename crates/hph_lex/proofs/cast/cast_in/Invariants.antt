use Rattle.std.proofs.Common.{◌≡◌, drop, map}
use Rattle.hph_ast.specs.Marks.{cast_in}
use Rattle.hph_lex.specs.Tables.{row}
use Rattle.hph_lex.proofs.cast.cast_in.Given as goal

abbrev pub invariant-loop-text : goal.invariant-loop-text
invariant-loop-text l = cast_in (map row (drop l.text-index l.table)) l.name ≡ cast_in (map row l.table) l.name
