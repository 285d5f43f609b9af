use Rattle.hph_wread.specs.Forms.{block_code}
use Rattle.hph_wread.proofs.Combinators.{took_then, handed_on}
use Rattle.hph_wread.proofs.Tagged.{took_byte}
use Rattle.hph_wread.proofs.SequenceFaults.{type_fails}
use Rattle.hph_wread.proofs.blocks.head.Goals as goal

pub returns-in_err-ty-clause-stopped : goal.returns-in_err-ty-clause-stopped
returns-in_err-ty-clause-stopped c =
    let e = c.in_err-ty.field-0.0 in
    handed_on _ c.from_residual.result e c.from_residual.ensures.1 (λ room. type_fails c.instruction_laws.ensures.apart c.args.form room c.requires e c.in_err-ty.ensures.stopped)

pub returns-clause-read : goal.returns-clause-read
returns-clause-read c = took_then (took_byte (block_code c.args.form) c.requires) c.in_ok-ty.ensures.read
