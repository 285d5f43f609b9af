use Rattle.std.proofs.Common.{◌≡◌, drop}
use Rattle.hph_wvalid.specs.Outside.{every, is_import}
use Rattle.hph_wvalid.proofs.outside.are_imports.Given as goal

abbrev pub invariant-loop-import : goal.invariant-loop-import
invariant-loop-import l = every (λ import. is_import l.types import.desc) (drop l.import-index l.imports) ≡ every (λ import. is_import l.types import.desc) l.imports
