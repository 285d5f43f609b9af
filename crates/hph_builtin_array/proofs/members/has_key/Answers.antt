use Rattle.hph_php.specs.Conversions.{to_key}
use Rattle.hph_value.specs.Shown.{value_of}
use Rattle.hph_builtin_array.proofs.Steps.{has_shown}
use Rattle.hph_builtin_array.proofs.members.has_key.Goals as goal

pub returns-in-Ok : goal.returns-in-Ok
returns-in-Ok c =
    has_shown _ c.is_some.result c.in-Ok.key (to_key (value_of c.args.value.now)) c.args.array.now c.in-Ok.ensures c.get.ensures c.is_some.ensures
