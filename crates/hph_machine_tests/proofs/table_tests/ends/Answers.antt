use Rattle.hph_machine_tests.proofs.Ended.{pushed_two, all_done, is_least}
use Rattle.hph_machine_tests.proofs.table_tests.ends.Goals as goal

pub close-requires-clause-all : goal.close-requires-clause-all
close-requires-clause-all c =
    let are = pushed_two c.new-seats.result.items c.push.new.self.items c.push-2.new.self.items c.args.first c.args.second c.new-seats.ensures.items c.in_ok-push.ensures.items c.in_ok-push-2.ensures.items in
    all_done c.args.shared.0 c.args.first c.args.second c.requires.first.0 c.requires.first.1 c.requires.second.0 c.requires.second.1 c.args.shared.1.workers c.push-2.new.self.items c.requires.workers are

pub returns : goal.returns
returns c =
    let are = pushed_two c.new-seats.result.items c.push.new.self.items c.push-2.new.self.items c.args.first c.args.second c.new-seats.ensures.items c.in_ok-push.ensures.items c.in_ok-push-2.ensures.items in
    is_least c.args.shared.0 c.args.first c.args.second c.requires.first.0 c.requires.first.1 c.requires.second.0 c.requires.second.1 c.push-2.new.self.items c.in_ok-cells.cells.items are c.in_ok-cells.ensures
