use Rattle.std.proofs.Common.{◌≡◌, ◌-◌, length, []}
use Rattle.hph_fstmt.specs.Repeats as repeats
use Rattle.hph_repeats.proofs.lists.many.Given as goal

abbrev pub invariant-loop-turn : goal.invariant-loop-turn
invariant-loop-turn g l = repeats.many_from g.R.Ends.ends (g.R.Rule.grammar l.rule) (length l.fn.cursor) [] l.fn.cursor ≡ repeats.many_from g.R.Ends.ends (g.R.Rule.grammar l.rule) (l._turn-end - l._turn) l.found l.cursor
