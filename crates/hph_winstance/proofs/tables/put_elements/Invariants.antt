use Rattle.std.proofs.Common.{◌≡◌, drop}
use Rattle.hph_wasm.specs.Instantiation.{with_elements}
use Rattle.hph_winstance.proofs.tables.put_elements.Given as goal

abbrev pub invariant-loop-element : goal.invariant-loop-element
invariant-loop-element l = with_elements l.globals l.element-items l.fn.table ≡
    with_elements l.globals (drop l.element-index l.element-items) l.table
