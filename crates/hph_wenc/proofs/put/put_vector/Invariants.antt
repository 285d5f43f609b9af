use Rattle.std.proofs.Common.{◌≡◌, ◌++◌, take, flat_map, length}
use Rattle.std.specs.List.{AllByRecursion}
use Rattle.hph_wasm.specs.Leb128.{u32_bytes}
use Rattle.hph_wenc.proofs.put.put_vector.Given as goal

abbrev pub invariant-loop-item : goal.invariant-loop-item
invariant-loop-item g l = record {
  put : l.out.items ≡ l.fn.out.items ++ (u32_bytes (length l.items) ++ flat_map g.T.Put.spelling (take l.item-index l.items));
  fit : AllByRecursion g.T.Put.fits (take l.item-index l.items);
}
