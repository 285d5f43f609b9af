use Rattle.hph_wdec.proofs.FaultLaws.{fault_spells, fault_unsupported}
use Rattle.hph_wdec.proofs.module.read.Goals as goal

pub returns-in-Ok-clause-spells : goal.returns-in-Ok-clause-spells
returns-in-Ok-clause-spells c m spells supported = c.one_module.ensures c.args.bytes.now c.in-Ok.m m c.in-Ok.ensures.spelled spells

pub returns-in-Ok-clause-unsupported : goal.returns-in-Ok-clause-unsupported
returns-in-Ok-clause-unsupported c at name u =
    c.one_unsupported_feature.ensures.supported c.args.bytes.now c.in-Ok.m at name c.in-Ok.ensures.spelled c.in-Ok.ensures.supported u

pub returns-in-Err-clause-spells : goal.returns-in-Err-clause-spells
returns-in-Err-clause-spells c =
    fault_spells c.one_unsupported_feature.ensures.supported c.args.bytes.now c.counted_from_the_front.result c.counted_from_the_front.ensures

pub returns-in-Err-clause-unsupported : goal.returns-in-Err-clause-unsupported
returns-in-Err-clause-unsupported c =
    let law = c.one_unsupported_feature.ensures in
    fault_unsupported law.offset law.name c.args.bytes.now c.counted_from_the_front.result c.counted_from_the_front.ensures
