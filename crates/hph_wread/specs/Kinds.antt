-- Bytes that tell what stands behind them: sections 5.3.4, 5.5.5 and 5.5.10 of the WebAssembly Core Specification 1.0.
use Rattle.std.specs.Prelude.{ℕ}
use Rattle.hph_wasm.specs.Grammar.{Grammar, Byte}
use Rattle.hph_wasm.specs.declared.module.ExportDesc.{ExportDesc}
use Rattle.hph_wasm.specs.declared.module.ExportDesc.TheVariants as export_desc
use Rattle.hph_wread.specs.declared.kinds.ExternalKind.{ExternalKind}
use Rattle.hph_wread.specs.declared.kinds.ExternalKind.TheVariants.{Func, Table, Memory, Global}

-- what kind of thing is imported, or exported
abbrev pub kind_byte : ExternalKind → ℕ
kind_byte Func = 0x00
kind_byte Table = 0x01
kind_byte Memory = 0x02
kind_byte Global = 0x03

abbrev pub KindByte : ExternalKind → Grammar
KindByte kind = Byte (kind_byte kind)

-- what is exported, by its kind and its number
abbrev pub exported : ExternalKind → ℕ → ExportDesc
exported Func n = export_desc.Func n
exported Table n = export_desc.Table n
exported Memory n = export_desc.Memory n
exported Global n = export_desc.Global n
