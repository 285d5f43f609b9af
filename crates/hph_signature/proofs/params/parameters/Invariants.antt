use Rattle.std.proofs.Common.{◌≡◌, ◌-◌, length, []}
use Rattle.hph_fstmt.specs.Declarations as declarations
use Rattle.hph_fstmt.specs.Parser as spec
use Rattle.hph_signature.proofs.params.parameters.Given as goal

abbrev pub invariant-loop-turn : goal.invariant-loop-turn
invariant-loop-turn g l = declarations.params_from spec.expressions (length l.fn.cursor) [] l.fn.cursor ≡ declarations.params_from spec.expressions (l._turn-end - l._turn) l.found l.cursor
