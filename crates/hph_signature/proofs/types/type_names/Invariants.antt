use Rattle.std.proofs.Common.{◌≡◌, ◌-◌, length, []}
use Rattle.hph_fstmt.specs.Declarations as declarations
use Rattle.hph_signature.proofs.types.type_names.Given as goal

abbrev pub invariant-loop-turn : goal.invariant-loop-turn
invariant-loop-turn l = declarations.type_names_from (length l.fn.cursor) [] l.fn.cursor ≡ declarations.type_names_from (l._turn-end - l._turn) l.found l.cursor
