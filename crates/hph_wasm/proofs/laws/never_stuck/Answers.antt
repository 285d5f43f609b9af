use Rattle.hph_wasm.proofs.Safety.{never_stuck}
use Rattle.hph_wasm.proofs.laws.never_stuck.Goals as goal

pub returns : goal.returns
returns g c host state m valid linked by_type = never_stuck m host valid linked by_type state
