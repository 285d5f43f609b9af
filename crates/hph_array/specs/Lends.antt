-- What an owner ends as, where its value is lent to be written.
use Rattle.std.specs.Prelude.{ℕ, List, Option}
use Rattle.std.specs.Borrow.{LendsIf, Fml, RattleType, MutBor, u8}
use Rattle.std.specs.declared.vec.Vec.{Vec}
use Rattle.std.specs.declared.alloc.Global.{Global}
use Rattle.std.specs.contracts.vec.Vec as vec
use Rattle.std.specs.contracts.alloc.Global as global
use Rattle.std.specs.contracts.impls.GlobalAllocator.TheImpl.{ghosts}
use Rattle.hph_array.specs.contracts.shared.Shared as shared
use Rattle.hph_array.specs.contracts.bytes.Bytes as bytes

-- Once the borrow r ends, the owner has the last value written through r. At `None` it is as it was.
abbrev pub lends_value : (T : RattleType) → MutBor T.Denot → Option (MutBor T.Denot) → Fml
lends_value T owner r = LendsIf (shared.the_row T) T owner r (λ value. value) owner.now

-- Once the borrow r ends, the byte string has the last bytes written through r. At `None` it is as it was.
abbrev pub lends_buffer : MutBor (List ℕ) → Option (MutBor (Vec ℕ Global)) → Fml
lends_buffer string r = LendsIf bytes.the_row (vec.the_row u8 global.the_row ghosts) string r (λ buffer. buffer.items) string.now
