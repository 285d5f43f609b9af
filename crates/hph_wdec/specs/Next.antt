-- The section that may stand behind those that were read, by the parts and the last number that they gave (section 5.5 of the WebAssembly
-- Core Specification 1.0).
use Rattle.std.specs.Prelude.{◌≡◌, ◌<◌, ◌⊎◌, ℕ, List, length}
use Rattle.hph_wasm.specs.Leb128.{Unsigned}
use Rattle.hph_wasm.specs.Grammar.{Grammar, Bytes, Byte, ◌⊳◌, Sized, Vector}
use Rattle.hph_wasm.specs.ModuleGrammar.{Code, RawSection, BeginsWithName, Parts}
use Rattle.hph_wasm.specs.Unsupported.{Stop, Among, Behind, InSized, AtByte, IsSmallCode, StopsCode, Kind, Types, Imports, Functions, Tables, Memories, Globals, Exports, ElementSegments, Codes, DataSegments, number_of, StopsContent, start_section}
use Rattle.hph_wasm.specs.Reading.{Things, Content, with_things, HaveCode}
use Rattle.hph_wread.specs.Counted.{Counted}
use Rattle.hph_wdec.specs.declared.kinds.SectionKind.{SectionKind}
use Rattle.hph_wdec.specs.declared.kinds.SectionKind.TheVariants as kind
use Rattle.hph_wdec.specs.declared.sections.Sections.{Sections}

-- the parts that sections gave so far
abbrev pub parts_read : Sections → Parts
parts_read s = record {
  types = s.types;
  imports = s.imports;
  functions = s.functions;
  tables = s.tables;
  memories = s.memories;
  globals = s.globals;
  exports = s.exports;
  elements = s.elements;
  codes = s.codes;
  segments = s.segments;
}

-- the kinds of sections, as the definitions have them
abbrev pub kind_of : SectionKind → Kind
kind_of kind.Types = Types
kind_of kind.Imports = Imports
kind_of kind.Functions = Functions
kind_of kind.Tables = Tables
kind_of kind.Memories = Memories
kind_of kind.Globals = Globals
kind_of kind.Exports = Exports
kind_of kind.Elements = ElementSegments
kind_of kind.Codes = Codes
kind_of kind.Segments = DataSegments

-- a custom section's content behind its size (5.5.3)
abbrev pub CustomContent : Grammar
CustomContent front = (content : List ℕ) × Bytes content front × BeginsWithName content

-- the content of another section behind its size, where these parts were read before it
abbrev pub ContentOf : Kind → Parts → Grammar
ContentOf kind p front = (xs : Things kind) × HaveCode kind xs p × Sized (Content kind xs) front

-- something left out in it
abbrev pub StopsSized : Kind → Parts → Stop
StopsSized kind p = InSized (StopsContent p kind)

-- code for each of so many functions, behind their number (5.5.13)
abbrev pub CountedCode : ℕ → Grammar
CountedCode functions = Unsigned 32 functions ⊳ Counted Code functions

abbrev pub StopsCounted : ℕ → Stop
StopsCounted functions = Behind (Unsigned 32 functions) (Among functions Code IsSmallCode StopsCode)

-- and so behind the size of the section
abbrev pub CodesFor : ℕ → Grammar
CodesFor functions front = (xs : Things Codes) × (length xs ≡ functions) × Sized (Vector Code xs) front

abbrev pub StopsCodesFor : ℕ → Stop
StopsCodesFor functions = InSized (StopsCounted functions)

-- the content was read, and the parts with it are these
abbrev pub Gives : Kind → Parts → Parts → Grammar
Gives kind p q front = (xs : Things kind) × HaveCode kind xs p × (q ≡ with_things kind xs p) × Sized (Content kind xs) front

-- a section that isn't custom has a number above the last one
abbrev pub AddsAfter : Parts → ℕ → ℕ × List ℕ → Parts → ℕ → Type 0
AddsAfter p last section q number = (kind : Kind) × (section.0 ≡ number_of kind) × (last < number_of kind) ×
    (xs : Things kind) × Content kind xs section.1 × HaveCode kind xs p × (q ≡ with_things kind xs p) × (number ≡ number_of kind)

-- a section that may stand next, and the parts and the last number with it
abbrev pub FollowsAfter : Parts → ℕ → ℕ × List ℕ → Parts → ℕ → Type 0
FollowsAfter p last section q number =
    ((section.0 ≡ 0) × BeginsWithName section.1 × (q ≡ p) × (number ≡ last)) ⊎ AddsAfter p last section q number

abbrev pub NextIs : Parts → ℕ → Parts → ℕ → Grammar
NextIs p last q number front = (section : ℕ × List ℕ) × RawSection section front × FollowsAfter p last section q number

-- any section that may stand next
abbrev pub Next : Parts → ℕ → Grammar
Next p last front = (q : Parts) × (number : ℕ) × NextIs p last q number front

-- something left out in the next section
abbrev pub StopsNext : Parts → ℕ → Stop
StopsNext p last at feature bytes =
    ((kind : Kind) × (last < number_of kind) × Behind (Byte (number_of kind)) (StopsSized kind p) at feature bytes)
    ⊎ ((last < 8) × AtByte start_section at feature bytes)
