use Rattle.std.proofs.Common.{◌≡◌, true, false, [], drop, length, arith, ap, ◌∙◌, rules, inl, inr}
use Rattle.std.proofs.lemmas.Bool.{cases_lt}
use Rattle.std.proofs.lemmas.Grind.{common_steps}
use Rattle.std.proofs.Math.ListN.{drop_of_length-le}
use borrow.Author.Count.{below_more}
use Rattle.hph_lex.specs.Classes.{ends}
use Rattle.hph_lex.proofs.EndingLaws.{first_from, never_from}
use Rattle.hph_lex.proofs.ending.Ending.first.Goals as goal

pub returns-then-ends : goal.returns-then-ends
returns-then-ends c =
    let holds : ends c.args.self (drop c.loop-at.at c.args.bytes.now) ≡ true = first_of (search rules, grind (arith, common_steps)) in
    first_from (ends c.args.self) c.args.bytes.now c.loop-at.at (omega arith) c.loop-at.invariant holds

pub loop-at-preserved : goal.loop-at-preserved
loop-at-preserved c =
    let fails : ends c.args.self (drop c.loop-at.at c.args.bytes.now) ≡ false = first_of (search rules, grind (arith, common_steps)) in
    below_more _ _ c.loop-at.invariant fails

pub returns-then-ends-2 : goal.returns-then-ends-2
returns-then-ends-2 c =
    let bytes = c.args.bytes.now in
    let at : c.loop-at.at ≡ length bytes = omega arith in
    let at_end : ends c.args.self [] ≡ true = first_of (search rules, grind (arith, common_steps)) in
    let holds : ends c.args.self (drop (length bytes) bytes) ≡ true = ap (ends c.args.self) (drop_of_length-le bytes (omega arith))
    ∙ at_end in
    first_from (ends c.args.self) bytes (length bytes) (omega arith) (λ k below. c.loop-at.invariant k (omega arith)) holds

pub returns-else-ends-2 : goal.returns-else-ends-2
returns-else-ends-2 c =
    let bytes = c.args.bytes.now in
    let at_end : ends c.args.self [] ≡ false = first_of (search rules, grind (arith, common_steps)) in
    never_from (ends c.args.self) bytes (λ k within. elim (cases_lt k (length bytes)) [
      | inl below ↦ c.loop-at.invariant k (omega arith)
      | inr past ↦ ap (ends c.args.self) (drop_of_length-le bytes past) ∙ at_end
    ])
