-- The value that a walk sees.
use Rattle.std.specs.Prelude.{[], ◌∷◌}
use Rattle.hph_php.specs.Values.{Value, Null, Str}
use Rattle.hph_value.specs.Shown.{value_of}
use Rattle.hph_walk.specs.declared.seen.Seen.{Seen}
use Rattle.hph_walk.specs.declared.seen.Seen.TheVariants.{Held, Byte, NoByte, Unset}

abbrev pub seen_value : Seen → Value
seen_value (Held value) = value_of value.now
seen_value (Byte byte) = Str (byte ∷ [])
seen_value NoByte = Str []
seen_value Unset = Null
