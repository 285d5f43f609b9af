use Rattle.std.proofs.Common.{sym}
use Rattle.hph_equal.proofs.Steps.{loose_end, loose_values, loose_missing}
use Rattle.hph_equal.proofs.frame.Frame.facing_loosely.Goals as goal

pub returns-in_default : goal.returns-in_default
returns-in_default c = loose_end c.args.self.now.x.now c.args.self.now.y.now c.args.self.now.at (sym c.in_default.ensures)

pub returns-in-Some-get : goal.returns-in-Some-get
returns-in-Some-get c =
    loose_values c.args.self.now.x.now c.args.self.now.y.now c.args.self.now.at c.in-Some.key.now c.in-Some.value.now c.in-Some-get.other.now (sym c.in-Some.ensures) (sym c.in-Some-get.ensures)

pub returns-in-None : goal.returns-in-None
returns-in-None c =
    loose_missing c.args.self.now.x.now c.args.self.now.y.now c.args.self.now.at c.in-Some.key.now c.in-Some.value.now (sym c.in-Some.ensures) (sym c.in-None.ensures)
