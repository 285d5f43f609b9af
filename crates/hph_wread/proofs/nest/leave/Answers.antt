use Rattle.std.proofs.Common.{◌≡◌}
use Rattle.hph_wread.specs.declared.nest.Nest.{Nest}
use Rattle.hph_wread.proofs.NestReading.{nest_left}
use Rattle.hph_wread.proofs.nest.leave.Goals as goal

pub returns : goal.returns
returns c =
    let after : Nest = record { around = c.pop.new.self; body = c.replace-body.new.dest } in
    let frame = c.in_ok-before.field-0 in
    let before : frame.before ≡ after.body = cc c.replace-body.ensures.after in
    let inside : c.replace-body.result ≡ c.args.nest.now.body = cc c.replace-body.ensures.value in
    λ whole rest p. nest_left c.args.nest.now after frame c.replace-body.result c.in_ok-before.ensures before inside p
