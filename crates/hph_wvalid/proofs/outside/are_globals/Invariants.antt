use Rattle.std.proofs.Common.{◌≡◌, drop}
use Rattle.hph_wvalid.specs.Outside.{every, is_global}
use Rattle.hph_wvalid.proofs.outside.are_globals.Given as goal

abbrev pub invariant-loop-global : goal.invariant-loop-global
invariant-loop-global l = every (is_global l.types) (drop l.global-index l.globals) ≡ every (is_global l.types) l.globals
