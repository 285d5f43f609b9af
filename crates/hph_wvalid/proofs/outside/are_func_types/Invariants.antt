use Rattle.std.proofs.Common.{◌≡◌, drop}
use Rattle.hph_wvalid.specs.Outside.{every, is_func_type}
use Rattle.hph_wvalid.proofs.outside.are_func_types.Given as goal

abbrev pub invariant-loop-ty : goal.invariant-loop-ty
invariant-loop-ty l = every is_func_type (drop l.ty-index l.tys) ≡ every is_func_type l.tys
