-- Which unary operators may take memory. Source: this project's own.
use Rattle.std.specs.Prelude.{Bool, true, false}
use Rattle.hph_php.specs.declared.operator.UnOp.{UnOp}
use Rattle.hph_php.specs.declared.operator.UnOp.TheVariants.{Plus, Minus, BitNot, Not, ToInt, ToBool, ToString, ToArray}

-- The casts to a string and to an array make one.
abbrev pub may_take_memory : UnOp → Bool
may_take_memory Plus = false
may_take_memory Minus = false
may_take_memory BitNot = false
may_take_memory Not = false
may_take_memory ToInt = false
may_take_memory ToBool = false
may_take_memory ToString = true
may_take_memory ToArray = true
