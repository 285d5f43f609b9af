-- The stacks of types that a stack of kinds stands for, and what a verdict says of them.
use Rattle.std.specs.Prelude.{◌≡◌, ◌⊎◌, suc, List, [], ◌∷◌, Bool, true, false, Option, Some, None}
use Rattle.hph_wvalid.specs.Stacks.{Stack}
use Rattle.hph_wasm.specs.declared.instr.Instr.{Instr, Row_of-Instr}
use Rattle.hph_wasm.specs.declared.types.ValType.{ValType}
use Rattle.hph_wasm.specs.declared.module.Module.{Module}
use Rattle.hph_wvalid.specs.declared.stack.Kind.{Kind}
use Rattle.hph_wvalid.specs.declared.stack.Kind.TheVariants.{Known, Any}
use Rattle.hph_wasm.specs.Validity.{Context, Takes, Ends, IsInstr, IsRow}
use Rattle.hph_wasm.specs.Faults.{RowBegins, InstrBegins}
use Rattle.hph_wvalid.specs.Checking.{Signature, From, Last, Verdict, Fine, Fault}

abbrev pub Is : Kind → ValType → Type 0
Is (Known t) u = t ≡ u
Is Any u = Unit {0}

abbrev pub Match : List Kind → Bool → List ValType → Type 0
Match [] true ts = Unit {0}
Match [] false ts = ts ≡ []
Match (k ∷ kinds) free [] = ⊥
Match (k ∷ kinds) free (t ∷ ts) = Is k t × Match kinds free ts

abbrev pub Holds : Stack → List ValType → Type 0
Holds s ts = Match s.kinds s.free ts

-- nothing leads on from these stacks
abbrev pub Nowhere : (List ValType → List ValType → Type 0) → Stack → Type 0
Nowhere R s = (from to : List ValType) → Holds s from → R from to → ⊥

-- from these stacks just those are reached
abbrev pub Strongest : (List ValType → List ValType → Type 0) → Stack → Stack → Type 0
Strongest R s s' = ((from to : List ValType) → Holds s from → R from to → Holds s' to) × ((to : List ValType) → Holds s' to → (from : List ValType) × Holds s from × R from to)

abbrev pub Told : (List ValType → List ValType → Type 0) → Stack → Option Stack → Type 0
Told R s None = Nowhere R s
Told R s (Some s') = Strongest R s s'

abbrev pub Obeys : Option Signature → List ValType → List ValType → Type 0
Obeys None from to = ⊥
Obeys (Some (From takes gives)) from to = Takes takes gives from to
Obeys (Some (Last takes)) from to = Ends takes from

abbrev pub TellsInstr : Module → Context → Instr → Stack → Verdict → Type 0
TellsInstr m c i s (Fine s') = Strongest (IsInstr m c i) s s'
TellsInstr m c i s (Fault k) = ((from : List ValType) × Holds s from × ((k ≡ 0) ⊎ InstrBegins m c i k from)) × ((from : List ValType) → Holds s from → InstrBegins m c i (suc k) from → ⊥) × Nowhere (IsInstr m c i) s

abbrev pub TellsRow : {j : _} → Module → Context → Row_of-Instr j → Stack → Verdict → Type 0
TellsRow m c row s (Fine s') = Strongest (IsRow m c row) s s'
TellsRow m c row s (Fault k) = ((from : List ValType) × Holds s from × RowBegins m c row k from) × ((from : List ValType) → Holds s from → RowBegins m c row (suc k) from → ⊥) × Nowhere (IsRow m c row) s
