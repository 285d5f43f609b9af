use Rattle.std.proofs.Common.{◌≡◌, ◌-◌, length, []}
use Rattle.hph_fstmt.specs.Repeats as repeats
use Rattle.hph_repeats.proofs.commas.separated.Given as goal

abbrev pub invariant-loop-turn : goal.invariant-loop-turn
invariant-loop-turn g l = repeats.separated_from (g.R.Rule.grammar l.rule) l.fn.closing (length l.fn.cursor) [] l.fn.cursor ≡ repeats.separated_from (g.R.Rule.grammar l.rule) l.fn.closing (l._turn-end - l._turn) l.found l.cursor
