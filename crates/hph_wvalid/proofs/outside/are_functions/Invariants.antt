use Rattle.std.proofs.Common.{◌≡◌, drop}
use Rattle.std.specs.Prelude.{nat_lt}
use Rattle.hph_wvalid.specs.Outside.{every}
use Rattle.hph_wvalid.proofs.outside.are_functions.Given as goal

abbrev pub invariant-loop-func : goal.invariant-loop-func
invariant-loop-func l = every (λ f. nat_lt f l.functions) (drop l.func-index l.funcs) ≡ every (λ f. nat_lt f l.functions) l.funcs
