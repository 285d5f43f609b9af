-- Codes and names of kinds of fatal errors, operators and built-in functions. The codes are this project's own and those of
-- the case tables; the functions' names are PHP's, and a call of one ignores ASCII case (PHP manual, User-defined functions).
use Rattle.std.specs.Prelude.{◌≡◌, ℕ, ◌==◌, Bool, List, [], ◌∷◌, map, find, Option, None, Some, bytes_eq, codes}
use Rattle.std.specs.Char.{to_ascii_lowercase}
use Rattle.std.proofs.Common.{refl}
use Rattle.hph_php.specs.declared.fatal.Fatal.{Fatal}
use Rattle.hph_php.specs.declared.fatal.Fatal.TheVariants as k
use Rattle.hph_php.specs.declared.operator.BinOp.{BinOp}
use Rattle.hph_php.specs.declared.operator.BinOp.TheVariants as b
use Rattle.hph_php.specs.declared.operator.UnOp.{UnOp}
use Rattle.hph_php.specs.declared.operator.UnOp.TheVariants as u
use Rattle.hph_php.specs.declared.builtin.Builtin.{Builtin}
use Rattle.hph_php.specs.declared.builtin.Builtin.TheVariants as f

-- ---- kinds of fatal errors

abbrev pub fatal_code : Fatal → ℕ
fatal_code k.Overflow = 1
fatal_code k.Float = 2
fatal_code k.DivZero = 3
fatal_code k.NegativeShift = 4
fatal_code k.BadOperand = 5
fatal_code k.ObjectUse = 6
fatal_code k.StringIncrement = 7
fatal_code k.ArrayOrder = 8
fatal_code k.ObjectCompare = 9
fatal_code k.IllegalOffset = 10
fatal_code k.AppendFull = 11
fatal_code k.StringOffset = 12
fatal_code k.ScalarWrite = 13
fatal_code k.TooFewArguments = 14
fatal_code k.BadArgument = 15
fatal_code k.UndefinedFunction = 16
fatal_code k.UndefinedClass = 17
fatal_code k.UndefinedMethod = 18
fatal_code k.UndefinedProperty = 19
fatal_code k.UndefinedConstant = 20
fatal_code k.Redeclare = 21
fatal_code k.NotObject = 22
fatal_code k.Inaccessible = 23
fatal_code k.StaticCall = 24
fatal_code k.Misuse = 25

abbrev pub fatal_name : Fatal → List ℕ
fatal_name k.Overflow = codes "Overflow"
fatal_name k.Float = codes "Float"
fatal_name k.DivZero = codes "DivZero"
fatal_name k.NegativeShift = codes "NegativeShift"
fatal_name k.BadOperand = codes "BadOperand"
fatal_name k.ObjectUse = codes "ObjectUse"
fatal_name k.StringIncrement = codes "StringIncrement"
fatal_name k.ArrayOrder = codes "ArrayOrder"
fatal_name k.ObjectCompare = codes "ObjectCompare"
fatal_name k.IllegalOffset = codes "IllegalOffset"
fatal_name k.AppendFull = codes "AppendFull"
fatal_name k.StringOffset = codes "StringOffset"
fatal_name k.ScalarWrite = codes "ScalarWrite"
fatal_name k.TooFewArguments = codes "TooFewArguments"
fatal_name k.BadArgument = codes "BadArgument"
fatal_name k.UndefinedFunction = codes "UndefinedFunction"
fatal_name k.UndefinedClass = codes "UndefinedClass"
fatal_name k.UndefinedMethod = codes "UndefinedMethod"
fatal_name k.UndefinedProperty = codes "UndefinedProperty"
fatal_name k.UndefinedConstant = codes "UndefinedConstant"
fatal_name k.Redeclare = codes "Redeclare"
fatal_name k.NotObject = codes "NotObject"
fatal_name k.Inaccessible = codes "Inaccessible"
fatal_name k.StaticCall = codes "StaticCall"
fatal_name k.Misuse = codes "Misuse"

-- all kinds, in the order of their codes
unfoldable pub all_fatals : List Fatal
all_fatals =
    k.Overflow ∷ k.Float ∷ k.DivZero ∷ k.NegativeShift ∷ k.BadOperand ∷ k.ObjectUse ∷ k.StringIncrement ∷
    k.ArrayOrder ∷ k.ObjectCompare ∷ k.IllegalOffset ∷ k.AppendFull ∷ k.StringOffset ∷ k.ScalarWrite ∷
    k.TooFewArguments ∷ k.BadArgument ∷ k.UndefinedFunction ∷ k.UndefinedClass ∷ k.UndefinedMethod ∷
    k.UndefinedProperty ∷ k.UndefinedConstant ∷ k.Redeclare ∷ k.NotObject ∷ k.Inaccessible ∷ k.StaticCall ∷ k.Misuse ∷ []

-- ---- operators

abbrev pub binary_code : BinOp → ℕ
binary_code b.Add = 1
binary_code b.Sub = 2
binary_code b.Mul = 3
binary_code b.Div = 4
binary_code b.Rem = 5
binary_code b.Pow = 6
binary_code b.ShiftLeft = 7
binary_code b.ShiftRight = 8
binary_code b.BitAnd = 9
binary_code b.BitOr = 10
binary_code b.BitXor = 11
binary_code b.Concat = 12
binary_code b.Less = 13
binary_code b.LessEqual = 14
binary_code b.Greater = 15
binary_code b.GreaterEqual = 16
binary_code b.Equal = 17
binary_code b.NotEqual = 18
binary_code b.Identical = 19
binary_code b.NotIdentical = 20
binary_code b.Spaceship = 21
binary_code b.LogicalXor = 22

unfoldable pub binary_operators : List BinOp
binary_operators =
    b.Add ∷ b.Sub ∷ b.Mul ∷ b.Div ∷ b.Rem ∷ b.Pow ∷ b.ShiftLeft ∷ b.ShiftRight ∷ b.BitAnd ∷ b.BitOr ∷ b.BitXor ∷
    b.Concat ∷ b.Less ∷ b.LessEqual ∷ b.Greater ∷ b.GreaterEqual ∷ b.Equal ∷ b.NotEqual ∷ b.Identical ∷
    b.NotIdentical ∷ b.Spaceship ∷ b.LogicalXor ∷ []

abbrev pub unary_code : UnOp → ℕ
unary_code u.Plus = 1
unary_code u.Minus = 2
unary_code u.BitNot = 3
unary_code u.Not = 4
unary_code u.ToInt = 5
unary_code u.ToBool = 6
unary_code u.ToString = 7
unary_code u.ToArray = 8

unfoldable pub unary_operators : List UnOp
unary_operators =
    u.Plus ∷ u.Minus ∷ u.BitNot ∷ u.Not ∷ u.ToInt ∷ u.ToBool ∷ u.ToString ∷ u.ToArray ∷ []

-- ---- built-in functions

abbrev pub builtin_code : Builtin → ℕ
builtin_code f.Strlen = 1
builtin_code f.Count = 2
builtin_code f.Intdiv = 3
builtin_code f.Abs = 4
builtin_code f.Ord = 5
builtin_code f.Chr = 6
builtin_code f.Substr = 7
builtin_code f.Strpos = 8
builtin_code f.StrRepeat = 9
builtin_code f.Strrev = 10
builtin_code f.Strtolower = 11
builtin_code f.Strtoupper = 12
builtin_code f.Trim = 13
builtin_code f.Implode = 14
builtin_code f.Explode = 15
builtin_code f.ArrayKeys = 16
builtin_code f.ArrayValues = 17
builtin_code f.ArrayPush = 18
builtin_code f.ArrayPop = 19
builtin_code f.InArray = 20
builtin_code f.ArrayKeyExists = 21
builtin_code f.IsInt = 22
builtin_code f.IsString = 23
builtin_code f.IsBool = 24
builtin_code f.IsArray = 25
builtin_code f.IsNull = 26
builtin_code f.IsObject = 27
builtin_code f.VarDump = 28

abbrev pub builtin_name : Builtin → List ℕ
builtin_name f.Strlen = codes "strlen"
builtin_name f.Count = codes "count"
builtin_name f.Intdiv = codes "intdiv"
builtin_name f.Abs = codes "abs"
builtin_name f.Ord = codes "ord"
builtin_name f.Chr = codes "chr"
builtin_name f.Substr = codes "substr"
builtin_name f.Strpos = codes "strpos"
builtin_name f.StrRepeat = codes "str_repeat"
builtin_name f.Strrev = codes "strrev"
builtin_name f.Strtolower = codes "strtolower"
builtin_name f.Strtoupper = codes "strtoupper"
builtin_name f.Trim = codes "trim"
builtin_name f.Implode = codes "implode"
builtin_name f.Explode = codes "explode"
builtin_name f.ArrayKeys = codes "array_keys"
builtin_name f.ArrayValues = codes "array_values"
builtin_name f.ArrayPush = codes "array_push"
builtin_name f.ArrayPop = codes "array_pop"
builtin_name f.InArray = codes "in_array"
builtin_name f.ArrayKeyExists = codes "array_key_exists"
builtin_name f.IsInt = codes "is_int"
builtin_name f.IsString = codes "is_string"
builtin_name f.IsBool = codes "is_bool"
builtin_name f.IsArray = codes "is_array"
builtin_name f.IsNull = codes "is_null"
builtin_name f.IsObject = codes "is_object"
builtin_name f.VarDump = codes "var_dump"

unfoldable pub all_builtins : List Builtin
all_builtins =
    f.Strlen ∷ f.Count ∷ f.Intdiv ∷ f.Abs ∷ f.Ord ∷ f.Chr ∷ f.Substr ∷ f.Strpos ∷ f.StrRepeat ∷ f.Strrev ∷
    f.Strtolower ∷ f.Strtoupper ∷ f.Trim ∷ f.Implode ∷ f.Explode ∷ f.ArrayKeys ∷ f.ArrayValues ∷ f.ArrayPush ∷
    f.ArrayPop ∷ f.InArray ∷ f.ArrayKeyExists ∷ f.IsInt ∷ f.IsString ∷ f.IsBool ∷ f.IsArray ∷ f.IsNull ∷ f.IsObject ∷
    f.VarDump ∷ []

-- the function of a name in any case
abbrev pub is_named : Builtin → List ℕ → Bool
is_named f name = bytes_eq (map to_ascii_lowercase (builtin_name f)) (map to_ascii_lowercase name)

abbrev pub builtin_named : List ℕ → Option Builtin
builtin_named name = find (λ f. is_named f name) all_builtins

-- ---- look-ups by code

abbrev pub fatal_with : ℕ → Option Fatal
fatal_with code = find (λ k. fatal_code k == code) all_fatals

abbrev pub binary_with : ℕ → Option BinOp
binary_with code = find (λ o. binary_code o == code) binary_operators

abbrev pub unary_with : ℕ → Option UnOp
unary_with code = find (λ o. unary_code o == code) unary_operators

abbrev pub builtin_with : ℕ → Option Builtin
builtin_with code = find (λ f. builtin_code f == code) all_builtins

-- ---- examples

in_any_case : (builtin_named (codes "Var_Dump") ≡ Some f.VarDump) × (builtin_named (codes "strlen2") ≡ None)
unfolding all_builtins
in_any_case = (refl, refl)

last_codes : (fatal_with 25 ≡ Some k.Misuse) × ((binary_with 22 ≡ Some b.LogicalXor) × ((unary_with 9 ≡ None) × (builtin_with 0 ≡ None)))
unfolding all_fatals binary_operators unary_operators all_builtins
last_codes = (refl, (refl, (refl, refl)))
