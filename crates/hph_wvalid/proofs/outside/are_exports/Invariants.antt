use Rattle.std.proofs.Common.{◌≡◌, drop}
use Rattle.hph_wvalid.specs.Outside.{every, is_export}
use Rattle.hph_wvalid.proofs.outside.are_exports.Given as goal

abbrev pub invariant-loop-export : goal.invariant-loop-export
invariant-loop-export l = every (λ export. is_export l.spaces export.desc) (drop l.export-index l.exports) ≡ every (λ export. is_export l.spaces export.desc) l.exports
