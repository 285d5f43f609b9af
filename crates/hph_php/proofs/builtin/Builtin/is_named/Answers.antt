-- The name's bytes are those of the function.
use Rattle.std.proofs.Common.{◌≡◌, ◌∙◌, ap, map}
use Rattle.std.specs.Str.{bytes_eq}
use Rattle.std.specs.Char.{to_ascii_lowercase}
use Rattle.hph_php.specs.Codes.{builtin_name}
use Rattle.hph_php.proofs.CodeLaws.{lower_test}
use Rattle.hph_php.proofs.builtin.Builtin.is_named.Goals as goal

pub returns : goal.returns
returns c =
    let same : c.as_bytes.result.now ≡ builtin_name c.args.self = c.as_bytes.ensures.value ∙ c.name.ensures in
    lower_test c.eq_ignore_ascii_case.result c.as_bytes.result.now c.args.name.now c.eq_ignore_ascii_case.ensures.test
    ∙ ap (λ bytes. bytes_eq (map to_ascii_lowercase bytes) (map to_ascii_lowercase c.args.name.now)) same
