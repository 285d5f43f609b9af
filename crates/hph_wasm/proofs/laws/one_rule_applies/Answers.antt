use Rattle.hph_wasm.proofs.OneWay.{rewrites_one_way}
use Rattle.hph_wasm.proofs.laws.one_rule_applies.Goals as goal

pub returns : goal.returns
returns g c = rewrites_one_way
