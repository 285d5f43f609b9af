use Rattle.std.proofs.Common.{◌≡◌, ◌+◌, take}
use Rattle.hph_wasm.specs.Place.{size_outside}
use Rattle.hph_wasm.specs.Rows.{list_size}
use Rattle.hph_wstate.specs.Machine.{core}
use Rattle.hph_wrun.proofs.place.opcodes_left.Given as goal

abbrev pub invariant-loop-k : goal.invariant-loop-k
invariant-loop-k l = l.left ≡ list_size (core l.machine).code + size_outside (take l.k (core l.machine).labels)
