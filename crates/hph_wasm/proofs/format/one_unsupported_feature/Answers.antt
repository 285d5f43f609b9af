use Rattle.hph_wasm.proofs.StopModule.{one_unsupported, supported_apart}
use Rattle.hph_wasm.proofs.format.one_unsupported_feature.Goals as goal

pub returns-clause-offset : goal.returns-clause-offset
returns-clause-offset c = λ bytes n k f g p q. (one_unsupported bytes n k f g p q).place

pub returns-clause-name : goal.returns-clause-name
returns-clause-name c = λ bytes n k f g p q. (one_unsupported bytes n k f g p q).named

pub returns-clause-supported : goal.returns-clause-supported
returns-clause-supported c = supported_apart
