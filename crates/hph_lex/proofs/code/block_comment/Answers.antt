use Rattle.std.proofs.Common.{codes, refl, length-drop, ap, length, arith}
use Rattle.hph_ast.specs.declared.lexical.Start.TheVariants as s
use Rattle.hph_lex.specs.Answers.{is_member}
use Rattle.hph_lex.proofs.Starts.{starts}
use Rattle.hph_lex.proofs.Places.{block_comment_place, unclosed_comment_place, two_bytes, block_within}
use Rattle.hph_lex.proofs.code.block_comment.Goals as goal

pub after-requires : goal.after-requires
after-requires c = two_bytes (codes "/*") c.args.bytes.now (starts s.BlockComment c.args.bytes.now c.requires) refl

pub overflow_add-inside : goal.overflow_add-inside
overflow_add-inside c =
    let two = two_bytes (codes "/*") c.args.bytes.now (starts s.BlockComment c.args.bytes.now c.requires) refl in
    let within = block_within c.after.result.now c.in-Some.inside c.in-Some.ensures in
    let rest = ap length c.after.ensures in
    omega (arith, length-drop 2 c.args.bytes.now)

pub returns-in-Some : goal.returns-in-Some
returns-in-Some c = λ at.
    block_comment_place c.args.mode (is_member c.args.mode) at c.args.bytes.now _ _ _ c.requires c.after.ensures c.in-Some.ensures
    (c.skipped.ensures at)

pub returns-in-None : goal.returns-in-None
returns-in-None c = λ at.
    unclosed_comment_place c.args.mode
    (is_member c.args.mode) at c.args.bytes.now c.after.result.now c.requires c.after.ensures c.in-None.ensures
