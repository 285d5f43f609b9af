-- The stack of kinds, as contracts see it.
use Rattle.std.specs.Prelude.{List, Bool}
use Rattle.hph_wvalid.specs.declared.stack.Kind.{Kind}

-- The kinds of the values of a block, the last one first; where it is free, anything is below them.
pub record Stack : Type 0 where
  pub kinds : List Kind
  pub free : Bool
