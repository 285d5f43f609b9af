-- The numbers of sections: section 5.5.2 of the WebAssembly Core Specification 1.0.
use Rattle.std.specs.Prelude.{ℕ}
use Rattle.hph_wenc.specs.declared.module.SectionId.{SectionId}
use Rattle.hph_wenc.specs.declared.module.SectionId.TheVariants.{Types, Imports, Functions, Tables, Memories, Globals, Exports, Elements, Codes, Segments}

-- custom sections have the number 0, and a start 8
abbrev pub section_number : SectionId → ℕ
section_number Types = 1
section_number Imports = 2
section_number Functions = 3
section_number Tables = 4
section_number Memories = 5
section_number Globals = 6
section_number Exports = 7
section_number Elements = 9
section_number Codes = 10
section_number Segments = 11
