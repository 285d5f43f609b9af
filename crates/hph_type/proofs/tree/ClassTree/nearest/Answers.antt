use Rattle.std.proofs.Common.{◌≡◌, ◌<◌, ◌∙◌, sym, ap, arith, rules, Some, None}
use Rattle.hph_type.specs.Classes.{parent_of, nearest}
use Rattle.hph_type.proofs.ClassLaws.{parent-lt, within-refl, within-other, nearest-common, nearest-some, nearest-none, nearest-lower, nearest-root}
use Rattle.hph_type.proofs.tree.ClassTree.nearest.Goals as goal

pub returns-in_err-left : goal.returns-in_err-left
returns-in_err-left c =
    let root : parent_of c.args.self.now c.loop-left.left ≡ None = search rules in
    let answer : c.from_residual.result ≡ None = search rules in
    answer
    ∙ sym (c.loop-left.invariant.2
    ∙ nearest-none c.args.self.now _ _ (within-other c.args.self.now _ _ c.if-left-right.true) root)

pub loop-left-smaller-then-left-right : goal.loop-left-smaller-then-left-right
loop-left-smaller-then-left-right c =
    let up : parent_of c.args.self.now c.loop-left.left ≡ Some c.in_ok-left.left = search rules in
    let lower : c.in_ok-left.left < c.loop-left.left = parent-lt c.args.self.now _ _ up in
    omega arith

pub loop-left-preserved-then-left-right : goal.loop-left-preserved-then-left-right
loop-left-preserved-then-left-right c =
    let up : parent_of c.args.self.now c.loop-left.left ≡ Some c.in_ok-left.left = search rules in
    let lower : c.in_ok-left.left < c.loop-left.left = parent-lt c.args.self.now _ _ up in (
      omega arith,
      c.loop-left.invariant.1,
      c.loop-left.invariant.2
          ∙ nearest-some c.args.self.now _ _ _ (within-other c.args.self.now _ _ c.if-left-right.true) up,
    )

pub returns-in_err-right : goal.returns-in_err-right
returns-in_err-right c =
    let root : parent_of c.args.self.now c.loop-left.right ≡ None = search rules in
    let answer : c.from_residual-in_err-right.result ≡ None = search rules in
    let less : c.loop-left.left < c.loop-left.right = omega arith in
    answer ∙ sym (c.loop-left.invariant.2 ∙ nearest-root c.args.self.now _ _ less root)

pub loop-left-smaller : goal.loop-left-smaller
loop-left-smaller c =
    let up : parent_of c.args.self.now c.loop-left.right ≡ Some c.in_ok-right.right = search rules in
    let lower : c.in_ok-right.right < c.loop-left.right = parent-lt c.args.self.now _ _ up in
    omega arith

pub loop-left-preserved : goal.loop-left-preserved
loop-left-preserved c =
    let up : parent_of c.args.self.now c.loop-left.right ≡ Some c.in_ok-right.right = search rules in
    let lower : c.in_ok-right.right < c.loop-left.right = parent-lt c.args.self.now _ _ up in
    let less : c.loop-left.left < c.loop-left.right = omega arith in (
      c.loop-left.invariant.0,
      omega arith,
      c.loop-left.invariant.2 ∙ nearest-lower c.args.self.now _ _ _ less up,
    )

pub returns : goal.returns
returns c =
    let same : c.loop-left.left ≡ c.loop-left.right = omega arith in
    sym (c.loop-left.invariant.2 ∙ ap (nearest c.args.self.now c.loop-left.left) (sym same)
    ∙ nearest-common c.args.self.now _ _ (within-refl c.args.self.now _))
