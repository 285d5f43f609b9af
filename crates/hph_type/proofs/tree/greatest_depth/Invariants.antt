use Rattle.std.proofs.Common.{ℕ, ◌≡◌, ◌<◌, ◌≤◌, ◌^◌, vec_len}
use Rattle.std.specs.Prelude.{slice_index}
use Rattle.hph_type.specs.Classes.{depth, deepest_below}
use Rattle.hph_type.proofs.tree.greatest_depth.Given as goal

abbrev pub invariant-loop-parent : goal.invariant-loop-parent
invariant-loop-parent l =
    (vec_len l.depths ≡ l.parent-index)
    × ((k : ℕ) → k < l.parent-index → slice_index l.depths.items k ≡ depth l.parents k)
    × (l.deepest ≡ deepest_below l.parents l.parent-index)
    × (l.deepest ≤ 2 ^ 32)
