-- Which binary operators may take memory. Source: this project's own.
use Rattle.std.specs.Prelude.{Bool, true, false}
use Rattle.hph_php.specs.declared.operator.BinOp.{BinOp}
use Rattle.hph_php.specs.declared.operator.BinOp.TheVariants.{Add, Sub, Mul, Div, Rem, Pow, ShiftLeft, ShiftRight, BitAnd, BitOr, BitXor, Concat}
use Rattle.hph_php.specs.declared.operator.BinOp.TheVariants.{Less, LessEqual, Greater, GreaterEqual, Equal, NotEqual, Identical, NotIdentical}
use Rattle.hph_php.specs.declared.operator.BinOp.TheVariants.{Spaceship, LogicalXor}

-- The union of arrays and `.` make a value, and the equality of arrays keeps a list of the arrays that it is in.
abbrev pub may_take_memory : BinOp → Bool
may_take_memory Add = true
may_take_memory Sub = false
may_take_memory Mul = false
may_take_memory Div = false
may_take_memory Rem = false
may_take_memory Pow = false
may_take_memory ShiftLeft = false
may_take_memory ShiftRight = false
may_take_memory BitAnd = false
may_take_memory BitOr = false
may_take_memory BitXor = false
may_take_memory Concat = true
may_take_memory Less = false
may_take_memory LessEqual = false
may_take_memory Greater = false
may_take_memory GreaterEqual = false
may_take_memory Equal = true
may_take_memory NotEqual = true
may_take_memory Identical = true
may_take_memory NotIdentical = true
may_take_memory Spaceship = false
may_take_memory LogicalXor = false
