use Rattle.hph_wasm.proofs.OneModule.{one_module}
use Rattle.hph_wasm.proofs.format.one_module.Goals as goal

pub returns : goal.returns
returns c = one_module
