use Rattle.std.proofs.Common.{◌≡◌, true, rules, arith, sym, ◌∙◌}
use Rattle.std.proofs.lemmas.Grind.{common_steps}
use Rattle.hph_ast.specs.Tokens.{in_string}
use Rattle.hph_lex.proofs.ReadSoFar.{open_here}
use Rattle.hph_lex.proofs.reader.string_is_open.Goals as goal

pub returns : goal.returns
returns c =
    let here : in_string c.loop-outer.here ≡ true = first_of (search rules, grind (arith, common_steps)) in
    sym (open_here c.loop-outer.here c.loop-outer.outer here) ∙ c.loop-outer.invariant
