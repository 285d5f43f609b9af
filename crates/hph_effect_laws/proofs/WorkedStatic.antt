-- `class A { public static function make() { return new static(); } public function who() { return "A"; } }
-- class B extends A { public function who() { return "B"; } } echo (B::make())->who(), A::make()->who();` prints BA.
use Rattle.std.proofs.Common.{◌≡◌, ℕ, List, [], ◌∷◌, ◌++◌, refl}
use Rattle.std.specs.Prelude.{codes}
use Rattle.hph_wasm.specs.declared.types.ValType.TheVariants.{I32}
use Rattle.hph_wasm.specs.declared.instr.Instr.{Instr, CallIndirect, Return, LocalGet, LocalTee, Eqz}
use Rattle.hph_wasm.specs.declared.module.Func.{Func}
use Rattle.hph_wasm.specs.declared.module.Module.{Module}
use Rattle.hph_wasm.specs.Instantiation.{zeros, empty_table}
use Rattle.hph_wasm.specs.Outcome.{Done}
use Rattle.hph_wasm.specs.Run.{wasm}
use Rattle.hph_effects.specs.declared.row.Row.{Row}
use Rattle.hph_effects.specs.declared.row.Row.TheVariants as r
use Rattle.hph_effects.specs.Hosts.{Serving, empty_host}
use Rattle.hph_effects.specs.Effects.{php1}
use Rattle.hph_effect_laws.proofs.Modules.{call, module_of, entry, file, word, when, when_or}

abbrev used : List Row
used =
    r.Null ∷ r.Str ∷ r.Drop ∷ r.Echo ∷ r.EnterM ∷ r.Leave ∷ r.ClassBegin ∷ r.ClassMethod ∷ r.ClassEnd ∷ r.ClassKnown ∷ r.Class ∷
    r.ClassDecl ∷ r.ClassStatic ∷ r.ClassNew ∷ r.ParentInit ∷ r.Ctor ∷ r.Method ∷ r.Smethod ∷ r.Once ∷ []

abbrev row : Row → Instr
row x = call used x

-- ---- literals: AmakewhoB

abbrev text : ℕ → ℕ → List Instr
text place count = word place ∷ word count ∷ row r.Str ∷ []

abbrev name_a : List Instr
name_a = text 0 1

abbrev name_make : List Instr
name_make = text 1 4

abbrev name_who : List Instr
name_who = text 5 3

abbrev name_b : List Instr
name_b = text 8 1

-- ---- functions: three methods, then the initial values of both classes

abbrev enters_method : ℕ → List Instr
enters_method class = word 0 ∷ word 0 ∷ word 0 ∷ LocalGet 0 ∷ word class ∷ row r.EnterM ∷ []

-- `return e;`, and the end of a body
abbrev gives : List Instr → List Instr
gives value = value ++ row r.Leave ∷ Return ∷ row r.Null ∷ row r.Leave ∷ []

-- `new static()`: the object in the making gets its initial values, then its constructor is called, if there is one
abbrev new_static : List Instr
new_static = row r.ClassStatic ∷ row r.ClassNew ∷ CallIndirect 0 ∷ row r.Ctor ∷ LocalTee 1 ∷
    when_or (word 0 ∷ LocalGet 1 ∷ CallIndirect 1 ∷ row r.Drop ∷ []) (row r.Drop ∷ []) ∷ []

abbrev make : Func
make = entry (enters_method 0 ++ gives new_static)

abbrev who : ℕ → List Instr → Func
who class name = entry (enters_method class ++ gives name)

-- initial values run in a frame of their class, behind those of the parent
abbrev initials : ℕ → List Instr → Func
initials class of_parent =
    file (word class ∷ row r.ClassDecl ∷ word 0 ∷ word 0 ∷ word 0 ∷ word 0 ∷ word class ∷ row r.EnterM ∷ of_parent ++ row r.Leave ∷ [])

abbrev entries : List Func
entries = make ∷ who 0 name_a ∷ who 1 name_b ∷ initials 0 [] ∷ initials 1 (word 1 ∷ row r.ParentInit ∷ CallIndirect 0 ∷ []) ∷ []

-- ---- the file

abbrev declares_a : List Instr
declares_a = name_a ++ row r.Null ∷ word 0 ∷ row r.ClassBegin ∷ name_make ++ word 1 ∷ word 4 ∷ row r.ClassMethod ∷
    name_who ++ word 2 ∷ word 0 ∷ row r.ClassMethod ∷ word 4 ∷ row r.ClassEnd ∷ []

abbrev declares_b : List Instr
declares_b = name_b ++ name_a ++ word 1 ∷ row r.ClassBegin ∷ name_who ++ word 3 ∷ word 0 ∷ row r.ClassMethod ∷ word 5 ∷ row r.ClassEnd ∷ []

-- a class with a parent is declared first if the parent is there, else at its statement
abbrev declarations : List Instr
declarations = declares_a ++ name_a ++ row r.ClassKnown ∷ LocalTee 0 ∷ when declares_b ∷ []

abbrev statement_of_b : List Instr
statement_of_b = LocalGet 0 ∷ Eqz I32 ∷ when declares_b ∷ []

-- `(NAME::make())->who()`
abbrev asks : List Instr → List Instr
asks name = word 0 ∷ word 0 ∷ name ++ row r.Class ∷ name_make ++ word 0 ∷ row r.Smethod ∷ CallIndirect 1 ∷ name_who ++ row r.Method ∷ CallIndirect 1 ∷ []

abbrev made : Module
made = module_of used entries (declarations ++ statement_of_b ++ asks name_b ++ row r.Echo ∷ asks name_a ++ row r.Echo ∷ []) (codes "AmakewhoB")

ends : wasm php1 (Serving empty_host) made 1000 ≡ record { output = codes "BA"; end = Done }
unfolding zeros empty_table
ends = refl
