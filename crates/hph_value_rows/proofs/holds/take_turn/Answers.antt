use Rattle.hph_value_rows.proofs.Pairs.{turn_taken}
use Rattle.hph_value_rows.proofs.holds.take_turn.Goals as goal

pub returns : goal.returns
returns c = λ k is out.
    turn_taken c.args.state.now c.put.new.self c.put-2.new.self c.args.rest c.push.new.self c.args.key c.args.value k out
    c.in_ok-push.ensures.ok (c.in_ok-put.ensures out) (c.in_ok-put-2.ensures out) is
