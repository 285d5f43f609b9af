use Rattle.std.proofs.Common.{◌-◌, ◌∙◌, ap, length, take}
use Rattle.hph_ast.specs.Bytes.{is_digit}
use Rattle.hph_value.proofs.Fronts.{take-front}
use Rattle.hph_value.proofs.decimal.digits.Goals as goal

pub returns : goal.returns
returns c =
    let bytes = c.args.bytes.now in
    ap (λ rest. take (length bytes - length rest) bytes) c.behind_digits-rest.ensures.behind ∙ take-front is_digit bytes
