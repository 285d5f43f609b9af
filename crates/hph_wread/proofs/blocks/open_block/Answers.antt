use Rattle.hph_wread.proofs.Combinators.{handed_on}
use Rattle.hph_wread.proofs.SequenceFaults.{full_fails, head_fails, may_open}
use Rattle.hph_wread.proofs.blocks.open_block.Goals as goal

pub returns-then-is_full-clause-stopped : goal.returns-then-is_full-clause-stopped
returns-then-is_full-clause-stopped c = λ whole p. full_fails c.instruction_laws.ensures c.args.nest.now p c.args.form c.requires c.if-is_full.ensures

pub returns-in_err-ty-clause-stopped : goal.returns-in_err-ty-clause-stopped
returns-in_err-ty-clause-stopped c =
    let e = c.in_err-ty.field-0.0 in
    handed_on _ c.from_residual.result e c.from_residual.ensures.1
    (λ whole p. head_fails c.instruction_laws.ensures c.args.nest.now p c.args.form c.requires c.if-is_full.ensures e c.in_err-ty.ensures.stopped)

pub returns-clause-read : goal.returns-clause-read
returns-clause-read c = λ whole p.
    c.in_ok-begin_block.ensures whole c.args.bytes.now c.in_ok-ty.rest.now p c.in_ok-ty.ensures.read
    (may_open c.args.nest.now c.args.form c.in_ok-ty.ty p c.if-is_full.ensures)
