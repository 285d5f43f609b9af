use Rattle.std.proofs.Common.{◌≡◌, drop}
use Rattle.hph_wasm.specs.Instantiation.{with_segments}
use Rattle.hph_winstance.proofs.tables.put_segments.Given as goal

abbrev pub invariant-loop-segment : goal.invariant-loop-segment
invariant-loop-segment l = with_segments l.globals l.segment-items l.fn.memory ≡
    with_segments l.globals (drop l.segment-index l.segment-items) l.memory
