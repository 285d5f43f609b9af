-- Each kind, operator and function is the one of its code, and each function that of its name.
use Rattle.std.proofs.Common.{◌≡◌, ◌↔◌, ℕ, Bool, true, false, List, map, Some, IsTrue, refl, sym, true≢false}
use Rattle.std.specs.Str.{bytes_eq}
use Rattle.std.specs.Char.{to_ascii_lowercase}
use Rattle.std.specs.Cmp.Lexicographic.{bytes_decides}
use Rattle.hph_php.specs.declared.fatal.Fatal.{Fatal}
use Rattle.hph_php.specs.declared.fatal.Fatal.TheVariants as k
use Rattle.hph_php.specs.declared.operator.BinOp.{BinOp}
use Rattle.hph_php.specs.declared.operator.BinOp.TheVariants as b
use Rattle.hph_php.specs.declared.operator.UnOp.{UnOp}
use Rattle.hph_php.specs.declared.operator.UnOp.TheVariants as u
use Rattle.hph_php.specs.declared.builtin.Builtin.{Builtin}
use Rattle.hph_php.specs.declared.builtin.Builtin.TheVariants as f
use Rattle.hph_php.specs.Codes.{fatal_code, fatal_with, all_fatals, binary_code, binary_with, binary_operators}
use Rattle.hph_php.specs.Codes.{unary_code, unary_with, unary_operators, builtin_code, builtin_name, builtin_with, builtin_named}
use Rattle.hph_php.specs.Codes.{all_builtins}

pub fatal_inverse : (x : Fatal) → fatal_with (fatal_code x) ≡ Some x
unfolding all_fatals
fatal_inverse k.Overflow = refl
fatal_inverse k.Float = refl
fatal_inverse k.DivZero = refl
fatal_inverse k.NegativeShift = refl
fatal_inverse k.BadOperand = refl
fatal_inverse k.ObjectUse = refl
fatal_inverse k.StringIncrement = refl
fatal_inverse k.ArrayOrder = refl
fatal_inverse k.ObjectCompare = refl
fatal_inverse k.IllegalOffset = refl
fatal_inverse k.AppendFull = refl
fatal_inverse k.StringOffset = refl
fatal_inverse k.ScalarWrite = refl
fatal_inverse k.TooFewArguments = refl
fatal_inverse k.BadArgument = refl
fatal_inverse k.UndefinedFunction = refl
fatal_inverse k.UndefinedClass = refl
fatal_inverse k.UndefinedMethod = refl
fatal_inverse k.UndefinedProperty = refl
fatal_inverse k.UndefinedConstant = refl
fatal_inverse k.Redeclare = refl
fatal_inverse k.NotObject = refl
fatal_inverse k.Inaccessible = refl
fatal_inverse k.StaticCall = refl
fatal_inverse k.Misuse = refl

pub binary_inverse : (x : BinOp) → binary_with (binary_code x) ≡ Some x
unfolding binary_operators
binary_inverse b.Add = refl
binary_inverse b.Sub = refl
binary_inverse b.Mul = refl
binary_inverse b.Div = refl
binary_inverse b.Rem = refl
binary_inverse b.Pow = refl
binary_inverse b.ShiftLeft = refl
binary_inverse b.ShiftRight = refl
binary_inverse b.BitAnd = refl
binary_inverse b.BitOr = refl
binary_inverse b.BitXor = refl
binary_inverse b.Concat = refl
binary_inverse b.Less = refl
binary_inverse b.LessEqual = refl
binary_inverse b.Greater = refl
binary_inverse b.GreaterEqual = refl
binary_inverse b.Equal = refl
binary_inverse b.NotEqual = refl
binary_inverse b.Identical = refl
binary_inverse b.NotIdentical = refl
binary_inverse b.Spaceship = refl
binary_inverse b.LogicalXor = refl

pub unary_inverse : (x : UnOp) → unary_with (unary_code x) ≡ Some x
unfolding unary_operators
unary_inverse u.Plus = refl
unary_inverse u.Minus = refl
unary_inverse u.BitNot = refl
unary_inverse u.Not = refl
unary_inverse u.ToInt = refl
unary_inverse u.ToBool = refl
unary_inverse u.ToString = refl
unary_inverse u.ToArray = refl

pub builtin_inverse : (x : Builtin) → builtin_with (builtin_code x) ≡ Some x
unfolding all_builtins
builtin_inverse f.Strlen = refl
builtin_inverse f.Count = refl
builtin_inverse f.Intdiv = refl
builtin_inverse f.Abs = refl
builtin_inverse f.Ord = refl
builtin_inverse f.Chr = refl
builtin_inverse f.Substr = refl
builtin_inverse f.Strpos = refl
builtin_inverse f.StrRepeat = refl
builtin_inverse f.Strrev = refl
builtin_inverse f.Strtolower = refl
builtin_inverse f.Strtoupper = refl
builtin_inverse f.Trim = refl
builtin_inverse f.Implode = refl
builtin_inverse f.Explode = refl
builtin_inverse f.ArrayKeys = refl
builtin_inverse f.ArrayValues = refl
builtin_inverse f.ArrayPush = refl
builtin_inverse f.ArrayPop = refl
builtin_inverse f.InArray = refl
builtin_inverse f.ArrayKeyExists = refl
builtin_inverse f.IsInt = refl
builtin_inverse f.IsString = refl
builtin_inverse f.IsBool = refl
builtin_inverse f.IsArray = refl
builtin_inverse f.IsNull = refl
builtin_inverse f.IsObject = refl
builtin_inverse f.VarDump = refl

pub name_inverse : (x : Builtin) → builtin_named (builtin_name x) ≡ Some x
unfolding all_builtins
name_inverse f.Strlen = refl
name_inverse f.Count = refl
name_inverse f.Intdiv = refl
name_inverse f.Abs = refl
name_inverse f.Ord = refl
name_inverse f.Chr = refl
name_inverse f.Substr = refl
name_inverse f.Strpos = refl
name_inverse f.StrRepeat = refl
name_inverse f.Strrev = refl
name_inverse f.Strtolower = refl
name_inverse f.Strtoupper = refl
name_inverse f.Trim = refl
name_inverse f.Implode = refl
name_inverse f.Explode = refl
name_inverse f.ArrayKeys = refl
name_inverse f.ArrayValues = refl
name_inverse f.ArrayPush = refl
name_inverse f.ArrayPop = refl
name_inverse f.InArray = refl
name_inverse f.ArrayKeyExists = refl
name_inverse f.IsInt = refl
name_inverse f.IsString = refl
name_inverse f.IsBool = refl
name_inverse f.IsArray = refl
name_inverse f.IsNull = refl
name_inverse f.IsObject = refl
name_inverse f.VarDump = refl

-- Two tests of one fact are one.
same_test : {P : Type 0} (r s : Bool) → IsTrue r ↔ P → IsTrue s ↔ P → r ≡ s
same_test true true h k = refl
same_test true false h k = absurd (true≢false (sym (k.1 (h.0 refl))))
same_test false true h k = absurd (true≢false (sym (h.1 (k.0 refl))))
same_test false false h k = refl

-- A test of texts in any case is that of their bytes in lower case.
pub lower_test : (r : Bool) (x y : List ℕ) → IsTrue r ↔ (map to_ascii_lowercase x ≡ map to_ascii_lowercase y)
    → r ≡ bytes_eq (map to_ascii_lowercase x) (map to_ascii_lowercase y)
lower_test r x y h = same_test r _ h (bytes_decides (map to_ascii_lowercase x) (map to_ascii_lowercase y))
