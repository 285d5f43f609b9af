use Rattle.std.specs.List.{sum_by}
use Rattle.hph_value.specs.Weights.{weight}
use Rattle.hph_value.proofs.value.+letting_go.Given as goal

abbrev pub invariant-let_go-loop-value : goal.invariant-let_go-loop-value
invariant-let_go-loop-value l = goal.no_deeper-let_go-loop-value l

abbrev pub decreases-let_go-loop-value : goal.decreases-let_go-loop-value
decreases-let_go-loop-value l = sum_by weight l.values.items
