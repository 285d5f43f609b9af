use Rattle.std.proofs.Common.{arith}
use Rattle.std.proofs.lemmas.Int.{to_z-of_z}
use Rattle.hph_wasm.specs.InstructionGrammar.{Instruction}
use Rattle.hph_wasm.specs.declared.instr.Instr.{I64Const}
use Rattle.hph_wread.specs.Reading.{Took}
use Rattle.hph_wread.proofs.PlainInstructions.{long_fails}
use Rattle.hph_wread.proofs.Combinators.{took_then, handed_on}
use Rattle.hph_wread.proofs.Tagged.{took_byte}
use Rattle.hph_wread.proofs.plain.constant_64.Goals as goal

pub returns-in_err-value-clause-stopped : goal.returns-in_err-value-clause-stopped
returns-in_err-value-clause-stopped c =
    let e = c.in_err-value.field-0.0 in
    let f = c.in_err-value.ensures.stopped in
    handed_on _ c.from_residual.result e c.from_residual.ensures.1 (long_fails c.opcodes_are_the_tables.ensures.apart c.requires e f)

pub returns-clause-read : goal.returns-clause-read
returns-clause-read c =
    let read : Took (Instruction (I64Const c.in_ok-value.value)) c.args.bytes.now c.in_ok-value.rest.now = took_then (took_byte 0x42 c.requires) c.in_ok-value.ensures.read in
    grind (arith, to_z-of_z, read)
