use Rattle.std.proofs.Common.{sym}
use Rattle.hph_equal.proofs.Steps.{strict_values, strict_other_key, strict_shorter, strict_longer, strict_end}
use Rattle.hph_equal.proofs.frame.Frame.facing_strictly.Goals as goal

pub returns-in-Some-at : goal.returns-in-Some-at
returns-in-Some-at c =
    strict_longer c.args.self.now.x.now c.args.self.now.y.now c.args.self.now.at (c.in-Some-at.field-0.0.now, c.in-Some-at.field-0.1.now) (sym c.in_default.ensures) (sym c.in-Some-at.ensures)

pub returns-in-None : goal.returns-in-None
returns-in-None c = strict_end c.args.self.now.x.now c.args.self.now.y.now c.args.self.now.at (sym c.in_default.ensures) (sym c.in-None.ensures)

pub returns-in_default-at : goal.returns-in_default-at
returns-in_default-at c =
    strict_shorter c.args.self.now.x.now c.args.self.now.y.now c.args.self.now.at (c.in-Some.key.now, c.in-Some.value.now) (sym c.in-Some.ensures) (sym c.in_default-at.ensures)

pub returns-then-eq : goal.returns-then-eq
returns-then-eq c =
    strict_values c.args.self.now.x.now c.args.self.now.y.now c.args.self.now.at c.in-Some.key.now c.in-Some-at-2.other_key.now c.in-Some.value.now c.in-Some-at-2.other.now
    (sym c.in-Some.ensures) (sym c.in-Some-at-2.ensures) (sym c.if-eq.ensures)

pub returns-else-eq : goal.returns-else-eq
returns-else-eq c =
    strict_other_key c.args.self.now.x.now c.args.self.now.y.now c.args.self.now.at c.in-Some.key.now c.in-Some-at-2.other_key.now c.in-Some.value.now c.in-Some-at-2.other.now
    (sym c.in-Some.ensures) (sym c.in-Some-at-2.ensures) (sym c.if-eq.ensures)
