use Rattle.std.proofs.Common.{◌-◌, ◌∙◌, ap, length, take}
use Rattle.hph_scan.specs.Bytes.{contains}
use Rattle.hph_scan.proofs.Runs.{take-front}
use Rattle.hph_scan.proofs.byte.ByteClass.front.Goals as goal

pub returns-clause-front : goal.returns-clause-front
returns-clause-front c =
    let bs = c.args.bytes.now in
    ap (λ rest. take (length bs - length rest) bs) c.behind-rest.ensures.behind ∙ take-front (contains c.args.self) bs
