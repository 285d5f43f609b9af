use Rattle.std.proofs.Common.{◌≡◌}
use Rattle.std.specs.Prelude.{Some}
use Rattle.hph_parse.specs.Public.{deep_from}
use Rattle.hph_parse.proofs.Files.{first_deep}
use Rattle.hph_parse.proofs.file.parse_with.Goals as goal

pub returns-in-Some : goal.returns-in-Some
returns-in-Some g c =
    let found = c.first_deep.ensures in
    let is = c.in-Some.is in
    let deep : deep_from 0 0 c.args.tokens.now ≡ Some c.in-Some.index = cc in
    first_deep c.args.tokens.now c.in-Some.index deep
