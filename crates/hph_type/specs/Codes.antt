-- Numbers for types: the kinds in bits 0 to 4, the object part in bits 5 and 6, the class in bits 8 to 39.
-- Source: this project's own.
use Rattle.std.specs.Prelude.{◌+◌, ◌*◌, ◌/◌, ◌%◌, ◌^◌, ◌==◌, ℕ, Option, None, Some, if◌then◌else◌}
use Rattle.hph_type.specs.declared.object.ObjPart.{ObjPart}
use Rattle.hph_type.specs.declared.object.ObjPart.TheVariants.{NoObj, Of, AnyObj}
use Rattle.hph_type.specs.Kinds.{bits_of, kinds_of}
use Rattle.hph_type.specs.Types.{PhpType}

-- the bits from bit 5 on: 0 for no object, 1 for a class, 2 for any object, with the class three bits further
abbrev pub part_code : ObjPart → ℕ
part_code NoObj = 0
part_code (Of class) = 1 + 8 * class
part_code AnyObj = 2

-- the number of a type
unfoldable pub code : PhpType → ℕ
code t = bits_of t.kinds + 32 * part_code t.obj

-- the object part that bits 5 and 6 and a class tell
abbrev pub part_from : ℕ → ℕ → ObjPart
part_from tag class = if tag == 0 then NoObj else (if tag == 1 then Of class else AnyObj)

-- the type that the bits of a number tell
abbrev pub decoded : ℕ → PhpType
decoded number =
    record { kinds = kinds_of (number % 32); obj = part_from (number / 32 % 4) (number / 256 % 2 ^ 32) }

-- the type with this code; None where the number has a bit that no type's code has
unfoldable pub of_code : ℕ → Option PhpType
of_code number = if code (decoded number) == number then Some (decoded number) else None
