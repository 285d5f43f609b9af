use Rattle.std.proofs.Common.{arith}
use Rattle.std.proofs.lemmas.Int.{to_z-of_z}
use Rattle.hph_wasm.specs.Leb128.{Signed}
use Rattle.hph_wread.proofs.Heads.{took_count, took_none}
use Rattle.hph_wread.proofs.numbers.signed_32.Goals as goal

pub returns-in_default-clause-stopped : goal.returns-in_default-clause-stopped
returns-in_default-clause-stopped c = took_none (Signed 32) c.args.bytes.now (c.in_default.ensures)

pub returns-clause-read : goal.returns-clause-read
returns-clause-read c = let read = took_count (Signed 32) c.in-Some.value c.args.bytes.now c.in-Some.length c.in-Some.ensures in grind (arith, to_z-of_z, read)
