-- The modules of the tests, one for each.
use Rattle.std.specs.Prelude.{ℕ, pos, negsuc, List, [], ◌∷◌, codes, Option, Some, None, true}
use Rattle.hph_wasm.specs.declared.types.ValType.{ValType}
use Rattle.hph_wasm.specs.declared.types.ValType.TheVariants.{I32, I64}
use Rattle.hph_wasm.specs.declared.types.BlockType.{BlockType}
use Rattle.hph_wasm.specs.declared.types.FuncType.{FuncType}
use Rattle.hph_wasm.specs.declared.types.GlobalType.{GlobalType}
use Rattle.hph_wasm.specs.declared.types.Limits.{Limits}
use Rattle.hph_wasm.specs.declared.instr.Sign.TheVariants.{Signed, Unsigned}
use Rattle.hph_wasm.specs.declared.instr.Unary.TheVariants as unary
use Rattle.hph_wasm.specs.declared.instr.Binary.TheVariants as binary
use Rattle.hph_wasm.specs.declared.instr.Comparison.TheVariants as comparison
use Rattle.hph_wasm.specs.declared.instr.NarrowLoad.TheVariants as narrow_load
use Rattle.hph_wasm.specs.declared.instr.NarrowStore.TheVariants as narrow_store
use Rattle.hph_wasm.specs.declared.instr.MemArg.{MemArg}
use Rattle.hph_wasm.specs.declared.instr.Instr as instr
use Rattle.hph_wasm.specs.declared.instr.Instr.{Instr}
use Rattle.hph_wasm.specs.declared.instr.Instr.TheViews as view
use Rattle.hph_wasm.specs.declared.module.ImportDesc.TheVariants as import_desc
use Rattle.hph_wasm.specs.declared.module.ImportDesc.{ImportDesc}
use Rattle.hph_wasm.specs.declared.module.Import.{Import}
use Rattle.hph_wasm.specs.declared.module.Func.{Func}
use Rattle.hph_wasm.specs.declared.module.Global.{Global}
use Rattle.hph_wasm.specs.declared.module.ExportDesc.TheVariants as export_desc
use Rattle.hph_wasm.specs.declared.module.Export.{Export}
use Rattle.hph_wasm.specs.declared.module.Element.{Element}
use Rattle.hph_wasm.specs.declared.module.Segment.{Segment}
use Rattle.hph_wasm.specs.declared.module.Module.{Module}

abbrev pub empty : Module
empty = record { types = []; imports = []; funcs = []; tables = []; memories = []; globals = []; exports = []; elements = []; segments = [] }

-- a function type that takes nothing and gives nothing
abbrev pub nothing : FuncType
nothing = record { params = []; results = [] }

-- a module of one function
abbrev pub of_code : List ValType → List Instr → Module
of_code locals body = record empty { types = nothing ∷ []; funcs = record { ty = 0; locals = locals; body = body } ∷ [] }

-- it prints the text "3" by `php1.write`
abbrev pub prints_three : Module
prints_three = record {
  types = record { params = I32 ∷ I32 ∷ []; results = [] } ∷ nothing ∷ [];
  imports = record { «module» = codes "php1"; name = codes "write"; desc = import_desc.Func 0 } ∷ [];
  funcs = record { ty = 1; locals = []; body = instr.I32Const (pos 0) ∷ instr.I32Const (pos 1) ∷ instr.Call 0 ∷ [] } ∷ [];
  tables = [];
  memories = record { min = 1; max = None } ∷ [];
  globals = [];
  exports = record { name = codes "main"; desc = export_desc.Func 1 } ∷ [];
  elements = [];
  segments = record { memory = 0; offset = instr.I32Const (pos 0) ∷ []; bytes = codes "3" } ∷ [];
}

abbrev pub from_a : List ℕ → ImportDesc → Import
from_a name desc = record { «module» = codes "a"; name = name; desc = desc }

-- it asks for a thing of each kind
abbrev pub imports_each_kind : Module
imports_each_kind = record empty {
  types = record { params = I32 ∷ []; results = I64 ∷ [] } ∷ [];
  imports = from_a (codes "f") (import_desc.Func 0)
      ∷ from_a (codes "t") (import_desc.Table (record { min = 1; max = Some 2 }))
      ∷ from_a (codes "m") (import_desc.Memory (record { min = 1; max = None }))
      ∷ from_a (codes "g") (import_desc.Global (record { value = I32; mutable = true })) ∷ [];
}

-- it has a function, a table, a memory and a global, and shows each of them
abbrev pub exports_each_kind : Module
exports_each_kind = record {
  types = nothing ∷ [];
  imports = [];
  funcs = record { ty = 0; locals = []; body = [] } ∷ [];
  tables = record { min = 1; max = Some 2 } ∷ [];
  memories = record { min = 1; max = None } ∷ [];
  globals = record { ty = record { value = I64; mutable = true }; init = instr.I64Const (negsuc 0) ∷ [] } ∷ [];
  exports = record { name = codes "f"; desc = export_desc.Func 0 }
      ∷ record { name = codes "t"; desc = export_desc.Table 0 }
      ∷ record { name = codes "m"; desc = export_desc.Memory 0 }
      ∷ record { name = codes "g"; desc = export_desc.Global 0 } ∷ [];
  elements = record { table = 0; offset = instr.I32Const (pos 0) ∷ []; funcs = 0 ∷ [] } ∷ [];
  segments = [];
}

-- what a block gives
abbrev pub gives : Option ValType → BlockType
gives result = record { result = result }

-- locals of two types, of which the first come in two runs, and a block in a block
abbrev pub joins_locals : Module
joins_locals = of_code (I32 ∷ I32 ∷ I64 ∷ I32 ∷ [])
    (view.Block (gives (Some I32)) (view.Block (gives None) (instr.Call 3 ∷ []) ∷ instr.I32Const (negsuc 0) ∷ []) ∷ [])

abbrev pub branches : Module
branches = of_code []
    (view.Loop (gives (Some I64)) (instr.I64Const (pos 64) ∷ [])
    ∷ view.If (gives None) (instr.Nop ∷ []) (Some (instr.Unreachable ∷ []))
    ∷ view.If (gives None) (instr.Br 0 ∷ []) None
    ∷ instr.BrTable (0 ∷ 1 ∷ []) 2
    ∷ instr.CallIndirect 0 ∷ [])

abbrev pub at : MemArg
at = record { align = 3; offset = 200 }

abbrev pub byte : MemArg
byte = record { align = 0; offset = 0 }

abbrev pub accesses : Module
accesses = of_code []
    (instr.LocalGet 0
    ∷ instr.LocalSet 1
    ∷ instr.LocalTee 1
    ∷ instr.GlobalGet 0
    ∷ instr.GlobalSet 0
    ∷ instr.Load I64 at
    ∷ instr.LoadNarrow (narrow_load.I32From8 Unsigned) byte
    ∷ instr.Store I64 at
    ∷ instr.StoreNarrow narrow_store.I64To8 byte ∷ [])

abbrev pub operations : Module
operations = of_code []
    (instr.Eqz I32
    ∷ instr.Compare I32 (comparison.Ge Unsigned)
    ∷ instr.Compare I64 (comparison.Lt Signed)
    ∷ instr.Unary I64 unary.Popcnt
    ∷ instr.Binary I32 (binary.Rem Unsigned)
    ∷ instr.Binary I64 (binary.Shr Signed)
    ∷ instr.Binary I64 binary.Rotr
    ∷ instr.Wrap
    ∷ instr.Extend Unsigned
    ∷ instr.Select
    ∷ instr.Drop
    ∷ instr.Return ∷ [])
