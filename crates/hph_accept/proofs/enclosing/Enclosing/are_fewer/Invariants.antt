-- Those that are left decide.
use Rattle.std.proofs.Common.{◌≡◌, ◌-◌}
use Rattle.std.specs.Prelude.{nat_lt}
use Rattle.hph_accept.specs.Enclosed.{count}
use Rattle.hph_accept.proofs.enclosing.Enclosing.are_fewer.Given as goal

abbrev pub invariant-loop : goal.invariant-loop
invariant-loop l = nat_lt (count l.self) l.levels ≡ nat_lt (count l.around) (l.levels - l.counter)
