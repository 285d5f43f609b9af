use Rattle.std.proofs.Common.{subst, ◌+◌, length, arith}
use Rattle.hph_lex.specs.Answers.{ComesBehind}
use Rattle.hph_lex.proofs.Places.{simple_place, no_simple_place}
use Rattle.hph_lex.proofs.interpolation.simple.Goals as goal

pub returns-in-None : goal.returns-in-None
returns-in-None c = λ at.
    let none = subst (ComesBehind c.split.result.1.now) c.in-None.is c.in_ok-what_follows.ensures.is in
    no_simple_place at c.args.bytes.now c.after.result.now c.split.result.0.now c.split.result.1.now c.requires c.after.ensures
    c.split.ensures.front
    c.split.ensures.dropped none

pub returns-in_ok-name-in-Some : goal.returns-in_ok-name-in-Some
returns-in_ok-name-in-Some c = λ at.
    let follows = subst (ComesBehind c.split.result.1.now) c.in-Some.is c.in_ok-what_follows.ensures.is in
    simple_place at c.args.bytes.now c.after.result.now c.split.result.0.now c.in_ok-name-in-Some.name c.split.result.1.now
    c.in-Some.behind c.in-Some.more
    (1 + length c.split.result.0.now + c.in-Some.more) _ c.requires c.after.ensures c.split.ensures.front c.in_ok-name-in-Some.ensures
    c.split.ensures.dropped follows (omega arith) (c.interpolated.ensures at)
