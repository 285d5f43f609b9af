-- Operands that an operator refuses.
use Rattle.std.specs.Prelude.{◌≡◌, Result, Ok, Err, codes}
use Rattle.std.proofs.Common.{refl}
use Rattle.hph_php.specs.declared.fatal.Fatal.{Fatal}
use Rattle.hph_php.specs.declared.fatal.Fatal.TheVariants.{BadOperand}
use Rattle.hph_php.specs.Values.{Value, Null, Str}

-- an answer, unless both operands are strings
abbrev pub unless_strings : Value → Value → Result Value Fatal → Result Value Fatal
unless_strings (Str x) (Str y) answer = Err BadOperand
unless_strings x y answer = answer

-- "a" and "b", "a" and null
strings_alone : (unless_strings (Str (codes "a")) (Str (codes "b")) (Ok Null) ≡ Err BadOperand)
    × (unless_strings (Str (codes "a")) Null (Ok Null) ≡ Ok Null)
strings_alone = (refl, refl)
