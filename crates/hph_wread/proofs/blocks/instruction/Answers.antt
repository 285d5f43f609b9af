use Rattle.hph_wread.proofs.BlockStops.{plain_inside}
use Rattle.hph_wread.proofs.Combinators.{handed_on}
use Rattle.hph_wread.proofs.NestReading.{instruction_shorter}
use Rattle.hph_wread.proofs.SequenceFaults.{byte_goes_on, nest_fails}
use Rattle.hph_wread.proofs.blocks.instruction.Goals as goal

pub returns-in_err-instr-in-None-clause-stopped : goal.returns-in_err-instr-in-None-clause-stopped
returns-in_err-instr-in-None-clause-stopped c =
    let e = c.in_err-instr-in-None.field-0.0 in
    handed_on _ c.from_residual.result e c.from_residual.ensures.1
    (λ whole p. nest_fails c.instruction_laws.ensures c.args.nest.now p (byte_goes_on c.args.code c.requires.first c.requires.inside) e
    (λ room has. plain_inside c.args.code room c.in-None.ensures c.requires.first e c.in_err-instr-in-None.ensures.stopped))

pub returns-in_ok-push_instruction-in-None-clause-shorter :
    goal.returns-in_ok-push_instruction-in-None-clause-shorter
returns-in_ok-push_instruction-in-None-clause-shorter c = instruction_shorter c.in_ok-instr-in-None.instr c.in_ok-instr-in-None.ensures.read
