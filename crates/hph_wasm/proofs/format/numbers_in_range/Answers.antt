use Rattle.hph_wasm.proofs.Leb128Laws.{Unsigned-below, Signed-within}
use Rattle.hph_wasm.proofs.format.numbers_in_range.Goals as goal

pub returns-clause-unsigned : goal.returns-clause-unsigned
returns-clause-unsigned c = Unsigned-below

pub returns-clause-signed_least : goal.returns-clause-signed_least
returns-clause-signed_least c = λ bits z bytes p. (Signed-within bits z bytes p).0

pub returns-clause-signed_greatest : goal.returns-clause-signed_greatest
returns-clause-signed_greatest c = λ bits z bytes p. (Signed-within bits z bytes p).1
