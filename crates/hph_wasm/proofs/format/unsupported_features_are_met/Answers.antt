use Rattle.hph_wasm.proofs.MetFeatures.{read_or_met}
use Rattle.hph_wasm.proofs.format.unsupported_features_are_met.Goals as goal

pub returns : goal.returns
returns c = read_or_met
