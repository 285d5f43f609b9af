use Rattle.std.proofs.Common.{refl}
use Rattle.hph_wread.specs.declared.nest.Nest.{Nest}
use Rattle.hph_wread.proofs.NestReading.{on_ok, nest_more}
use Rattle.hph_wread.proofs.nest.push_instruction.Goals as goal

pub returns : goal.returns
returns c =
    let after : Nest = record { around = c.args.nest.now.around; body = c.push.new.self } in
    on_ok c.push.result (λ pushed whole bytes rest p q shallow. nest_more c.args.nest.now after c.args.instr refl pushed p q shallow) c.push.ensures.ok
