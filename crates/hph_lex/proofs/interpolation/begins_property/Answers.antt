use Rattle.std.proofs.Common.{◌≡◌, true, rules, arith}
use Rattle.std.proofs.lemmas.Grind.{common_steps}
use Rattle.hph_ast.specs.Bytes.{begins}
use Rattle.hph_lex.proofs.ByteLaws.{begins_within}
use Rattle.hph_lex.proofs.interpolation.begins_property.Goals as goal

pub after-requires : goal.after-requires
after-requires c =
    let is : begins c.args.arrow.now c.args.bytes.now ≡ true = first_of (search rules, grind (arith, common_steps)) in
    begins_within c.args.arrow.now c.args.bytes.now is
