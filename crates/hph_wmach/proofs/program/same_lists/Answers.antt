use Rattle.std.proofs.Common.{◌∙◌, refl}
use Rattle.hph_wasm.specs.contracts.types.ValTypePartialEq.TheImpl.{ghosts}
use Rattle.hph_wmach.proofs.Entries.{compared}
use Rattle.hph_wmach.proofs.program.same_lists.Goals as goal

pub returns : goal.returns
returns c = c.eq.ensures ∙ compared ghosts.eq refl refl refl refl c.args.types.now c.args.others.now
