use Rattle.std.proofs.Common.{◌≡◌, []}
use Rattle.hph_wread.specs.declared.nest.Frame.{Frame}
use Rattle.hph_wread.specs.declared.nest.Nest.{Nest}
use Rattle.hph_wread.proofs.NestReading.{on_ok, nest_deeper}
use Rattle.hph_wread.proofs.nest.begin_block.Goals as goal

pub returns : goal.returns
returns c =
    let after : Nest = record { around = c.push.new.self; body = c.replace-before.new.dest } in
    let frame : Frame = record { before = c.replace-before.result; opening = c.args.opening } in
    let before : frame.before ≡ c.args.nest.now.body = cc c.replace-before.ensures.value in
    let body : after.body ≡ [] = cc (c.replace-before.ensures.after, c.new.ensures) in
    on_ok c.push.result (λ pushed whole bytes rest p q may. nest_deeper c.args.nest.now after frame pushed before body p q may) c.push.ensures.ok
