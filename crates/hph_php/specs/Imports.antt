-- The functions that a module imports from `php1`, this project's own: their names and types. The number of a row is that of
-- the import. What each does to the host is defined with the host's state.
use Rattle.std.specs.Prelude.{◌≡◌, ℕ, Bool, true, false, ◌&&◌, List, [], ◌∷◌, position, replicate, Option, None, Some, if◌then◌else◌}
use Rattle.std.specs.Prelude.{slice_get, bytes_eq, codes}
use Rattle.std.specs.Cmp.Lexicographic.{pointwise}
use Rattle.std.specs.Option.{option_map}
use Rattle.std.proofs.Common.{refl}
use Rattle.hph_wasm.specs.declared.types.ValType.{ValType}
use Rattle.hph_wasm.specs.declared.types.ValType.TheVariants.{I32, I64}
use Rattle.hph_wasm.specs.declared.types.FuncType.{FuncType}

pub record Import : Type 0 where
  pub name : List ℕ
  pub type : FuncType

abbrev pub import : List ℕ → List ValType → List ValType → Import
import name params results = record { name = name; type = record { params = params; results = results } }

-- parameters of 32 bits
abbrev pub words : ℕ → List ValType
words n = replicate n I32

abbrev pub word : List ValType
word = I32 ∷ []

abbrev pub long : List ValType
long = I64 ∷ []

abbrev pub imports : List Import
imports =
    import (codes "write") (words 2) []  -- 0
    ∷ import (codes "null") [] []  -- 1
    ∷ import (codes "bool") (words 1) []  -- 2
    ∷ import (codes "int") long []  -- 3
    ∷ import (codes "str") (words 2) []  -- 4
    ∷ import (codes "arr") [] []  -- 5
    ∷ import (codes "drop") [] []  -- 6
    ∷ import (codes "dup") [] []  -- 7
    ∷ import (codes "get") (words 1) []  -- 8
    ∷ import (codes "set") (words 1) []  -- 9
    ∷ import (codes "ref") (words 1) []  -- 10
    ∷ import (codes "this") [] []  -- 11
    ∷ import (codes "bind") (words 2) []  -- 12
    ∷ import (codes "bind_global") (words 2) []  -- 13
    ∷ import (codes "bind_static") (words 2) word  -- 14
    ∷ import (codes "unset") (words 1) []  -- 15
    ∷ import (codes "op2") (words 1) []  -- 16
    ∷ import (codes "op1") (words 1) []  -- 17
    ∷ import (codes "truth") [] word  -- 18
    ∷ import (codes "pop_int") [] long  -- 19
    ∷ import (codes "pop_bool") [] word  -- 20
    ∷ import (codes "step_key") [] []  -- 21
    ∷ import (codes "step_append") [] []  -- 22
    ∷ import (codes "step_prop") [] []  -- 23
    ∷ import (codes "path_get") (words 1) []  -- 24
    ∷ import (codes "path_set") (words 1) []  -- 25
    ∷ import (codes "path_op") (words 2) []  -- 26
    ∷ import (codes "path_inc") (words 2) []  -- 27
    ∷ import (codes "path_try") (words 1) word  -- 28
    ∷ import (codes "path_keep") (words 1) word  -- 29
    ∷ import (codes "path_unset") (words 1) []  -- 30
    ∷ import (codes "path_push") (words 2) []  -- 31
    ∷ import (codes "path_pop") (words 1) []  -- 32
    ∷ import (codes "elem") [] []  -- 33
    ∷ import (codes "elem_key") [] []  -- 34
    ∷ import (codes "hold") [] []  -- 35
    ∷ import (codes "held") [] []  -- 36
    ∷ import (codes "unhold") [] []  -- 37
    ∷ import (codes "iter") [] []  -- 38
    ∷ import (codes "next") [] word  -- 39
    ∷ import (codes "echo") [] []  -- 40
    ∷ import (codes "fn_declare") (words 1) []  -- 41
    ∷ import (codes "fn_find") [] word  -- 42
    ∷ import (codes "builtin") (words 2) []  -- 43
    ∷ import (codes "enter") (words 4) []  -- 44
    ∷ import (codes "enter_m") (words 5) []  -- 45
    ∷ import (codes "leave") [] []  -- 46
    ∷ import (codes "class_begin") (words 1) []  -- 47
    ∷ import (codes "class_method") (words 2) []  -- 48
    ∷ import (codes "class_prop") (words 2) []  -- 49
    ∷ import (codes "class_const") (words 1) []  -- 50
    ∷ import (codes "class_end") (words 1) []  -- 51
    ∷ import (codes "class_known") [] word  -- 52
    ∷ import (codes "class") [] []  -- 53
    ∷ import (codes "class_decl") (words 1) []  -- 54
    ∷ import (codes "class_parent") (words 1) []  -- 55
    ∷ import (codes "class_static") [] []  -- 56
    ∷ import (codes "class_new") [] word  -- 57
    ∷ import (codes "parent_init") (words 1) word  -- 58
    ∷ import (codes "prop_init") [] []  -- 59
    ∷ import (codes "ctor") [] word  -- 60
    ∷ import (codes "method") [] word  -- 61
    ∷ import (codes "smethod") (words 1) word  -- 62
    ∷ import (codes "const_find") [] word  -- 63
    ∷ import (codes "sprop") [] word  -- 64
    ∷ import (codes "loc_init") [] []  -- 65
    ∷ import (codes "instance") [] []  -- 66
    ∷ import (codes "const_set") [] []  -- 67
    ∷ import (codes "const_get") [] []  -- 68
    ∷ import (codes "once") (words 1) word  -- 69
    ∷ import (codes "exit") [] []  -- 70
    ∷ import (codes "fatal") (words 1) []  -- 71
    ∷ []

-- the name of the module that imports are of
abbrev pub host_name : List ℕ
host_name = codes "php1"

-- ---- look-ups

abbrev pub import_type : ℕ → Option FuncType
import_type row = option_map (λ i. i.type) (slice_get imports row)

abbrev pub row_named : List ℕ → Option ℕ
row_named name = position (λ (i : Import). bytes_eq i.name name) imports

abbrev pub is_same : ValType → ValType → Bool
is_same I32 I32 = true
is_same I64 I64 = true
is_same _ _ = false

abbrev pub is_same_type : FuncType → FuncType → Bool
is_same_type t u = pointwise is_same t.params u.params && pointwise is_same t.results u.results

-- the row that a module asks for by names and a type
abbrev pub import_row : List ℕ → List ℕ → FuncType → Option ℕ
import_row host name type =
    if bytes_eq host host_name then position (λ (i : Import). bytes_eq i.name name && is_same_type i.type type) imports else None

-- ---- examples

first_and_last : (row_named (codes "write") ≡ Some 0) × (row_named (codes "fatal") ≡ Some 71)
first_and_last = (refl, refl)

int_of_64_bits : import_type 3 ≡ Some (record { params = I64 ∷ []; results = [] })
int_of_64_bits = refl

with_its_type : (import_row (codes "php1") (codes "pop_int") (record { params = []; results = I64 ∷ [] }) ≡ Some 19)
    × ((import_row (codes "php1") (codes "pop_int") (record { params = []; results = I32 ∷ [] }) ≡ None)
    × (import_row (codes "env") (codes "pop_int") (record { params = []; results = I64 ∷ [] }) ≡ None))
with_its_type = (refl, (refl, refl))
