use Rattle.std.proofs.Common.{◌≡◌, drop}
use Rattle.std.specs.Prelude.{nat_lt}
use Rattle.hph_wvalid.specs.Outside.{every}
use Rattle.hph_wvalid.proofs.outside.have_types.Given as goal

abbrev pub invariant-loop-func : goal.invariant-loop-func
invariant-loop-func l = every (λ func. nat_lt func.ty l.types) (drop l.func-index l.funcs) ≡ every (λ func. nat_lt func.ty l.types) l.funcs
