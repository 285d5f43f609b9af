use Rattle.hph_wasm.proofs.Printed.{puts_are_printed}
use Rattle.hph_wasm.proofs.laws.puts_are_printed.Goals as goal

pub returns : goal.returns
returns c = puts_are_printed
