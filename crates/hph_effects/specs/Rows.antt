-- The functions that a module imports from `php1`, as rows with their numbers. Names and types are those of the imports' table.
use Rattle.std.specs.Prelude.{◌≡◌, ℕ, ◌==◌, List, [], ◌∷◌, find, slice_get, Option, None, Some, codes}
use Rattle.std.proofs.Common.{refl}
use Rattle.hph_php.specs.Imports.{Import, import, imports, words, word}
use Rattle.hph_effects.specs.declared.row.Row.{Row}
use Rattle.hph_effects.specs.declared.row.Row.TheVariants as r

abbrev pub row_number : Row → ℕ
row_number r.Write = 0
row_number r.Null = 1
row_number r.Bool = 2
row_number r.Int = 3
row_number r.Str = 4
row_number r.Arr = 5
row_number r.Drop = 6
row_number r.Dup = 7
row_number r.Get = 8
row_number r.Set = 9
row_number r.Ref = 10
row_number r.This = 11
row_number r.Bind = 12
row_number r.BindGlobal = 13
row_number r.BindStatic = 14
row_number r.Unset = 15
row_number r.Op2 = 16
row_number r.Op1 = 17
row_number r.Truth = 18
row_number r.PopInt = 19
row_number r.PopBool = 20
row_number r.StepKey = 21
row_number r.StepAppend = 22
row_number r.StepProp = 23
row_number r.PathGet = 24
row_number r.PathSet = 25
row_number r.PathOp = 26
row_number r.PathInc = 27
row_number r.PathTry = 28
row_number r.PathKeep = 29
row_number r.PathUnset = 30
row_number r.PathPush = 31
row_number r.PathPop = 32
row_number r.Elem = 33
row_number r.ElemKey = 34
row_number r.Hold = 35
row_number r.Held = 36
row_number r.Unhold = 37
row_number r.Iter = 38
row_number r.Next = 39
row_number r.Echo = 40
row_number r.FnDeclare = 41
row_number r.FnFind = 42
row_number r.Builtin = 43
row_number r.Enter = 44
row_number r.EnterM = 45
row_number r.Leave = 46
row_number r.ClassBegin = 47
row_number r.ClassMethod = 48
row_number r.ClassProp = 49
row_number r.ClassConst = 50
row_number r.ClassEnd = 51
row_number r.ClassKnown = 52
row_number r.Class = 53
row_number r.ClassDecl = 54
row_number r.ClassParent = 55
row_number r.ClassStatic = 56
row_number r.ClassNew = 57
row_number r.ParentInit = 58
row_number r.PropInit = 59
row_number r.Ctor = 60
row_number r.Method = 61
row_number r.Smethod = 62
row_number r.ConstFind = 63
row_number r.Sprop = 64
row_number r.LocInit = 65
row_number r.Instance = 66
row_number r.ConstSet = 67
row_number r.ConstGet = 68
row_number r.Once = 69
row_number r.Exit = 70
row_number r.Fatal = 71

-- all rows, in the order of their numbers
abbrev pub all_rows : List Row
all_rows =
    r.Write ∷ r.Null ∷ r.Bool ∷ r.Int ∷ r.Str ∷ r.Arr ∷ r.Drop ∷ r.Dup ∷ r.Get ∷ r.Set ∷ r.Ref ∷ r.This ∷ r.Bind ∷
    r.BindGlobal ∷ r.BindStatic ∷ r.Unset ∷ r.Op2 ∷ r.Op1 ∷ r.Truth ∷ r.PopInt ∷ r.PopBool ∷ r.StepKey ∷
    r.StepAppend ∷ r.StepProp ∷ r.PathGet ∷ r.PathSet ∷ r.PathOp ∷ r.PathInc ∷ r.PathTry ∷ r.PathKeep ∷ r.PathUnset ∷
    r.PathPush ∷ r.PathPop ∷ r.Elem ∷ r.ElemKey ∷ r.Hold ∷ r.Held ∷ r.Unhold ∷ r.Iter ∷ r.Next ∷ r.Echo ∷
    r.FnDeclare ∷ r.FnFind ∷ r.Builtin ∷ r.Enter ∷ r.EnterM ∷ r.Leave ∷ r.ClassBegin ∷ r.ClassMethod ∷ r.ClassProp ∷
    r.ClassConst ∷ r.ClassEnd ∷ r.ClassKnown ∷ r.Class ∷ r.ClassDecl ∷ r.ClassParent ∷ r.ClassStatic ∷ r.ClassNew ∷
    r.ParentInit ∷ r.PropInit ∷ r.Ctor ∷ r.Method ∷ r.Smethod ∷ r.ConstFind ∷ r.Sprop ∷ r.LocInit ∷ r.Instance ∷
    r.ConstSet ∷ r.ConstGet ∷ r.Once ∷ r.Exit ∷ r.Fatal ∷ []

abbrev pub row_with : ℕ → Option Row
row_with number = find (λ row. row_number row == number) all_rows

-- the name and the type
abbrev pub row_import : Row → Option Import
row_import row = slice_get imports (row_number row)

-- ---- examples

first_and_last : (row_with 0 ≡ Some r.Write) × ((row_with 71 ≡ Some r.Fatal) × (row_with 72 ≡ None))
first_and_last = (refl, (refl, refl))

of_a_test : row_import r.PathTry ≡ Some (import (codes "path_try") (words 1) word)
of_a_test = refl
