use Rattle.hph_wasm.specs.Leb128.{Unsigned}
use Rattle.hph_wread.proofs.Heads.{took_none}
use Rattle.hph_wread.proofs.numbers.unsigned.Goals as goal

pub returns-in_default-clause-stopped : goal.returns-in_default-clause-stopped
returns-in_default-clause-stopped c = took_none (Unsigned 32) c.args.bytes.now (c.in_default.ensures)
