use Rattle.hph_wasm.proofs.Ends.{ends_leave_values, stops_are_replies}
use Rattle.hph_wasm.proofs.laws.ends_are_by_rule.Goals as goal

pub returns : goal.returns
returns g c = record { left = ends_leave_values; stopped = stops_are_replies }
