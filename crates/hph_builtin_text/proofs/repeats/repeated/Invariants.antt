use Rattle.std.proofs.Common.{◌≡◌}
use Rattle.hph_php.specs.StringFunctions.{str_repeat}
use Rattle.hph_builtin_text.proofs.repeats.repeated.Given as goal

abbrev pub invariant-times : goal.invariant-times
invariant-times l = l.all.items ≡ str_repeat l.bytes l.counter
