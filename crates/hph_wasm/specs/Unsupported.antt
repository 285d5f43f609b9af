-- What of the binary format is left out, and where it is met: the Core Specification 1.0, 5, less the features of `Feature`.
-- Bytes are read item by item from the front. Every item before the offset is in the grammar and is read, and at the offset begins what is
-- left out. An item stands within the size that counts it: one that reaches past the end of that is none, and nothing behind the end is met.
-- Where fewer bytes are left than a size counts, these are read; a size and a count are compared with what they count where that ends.
use Rattle.std.specs.Prelude.{◌≡◌, ◌<◌, ◌≤◌, ◌⊎◌, ◌&&◌, ℕ, zero, suc, ◌+◌, List, [], ◌∷◌, ◌++◌, length, take, Option, Some, None, nat_eq, nat_le, if◌then◌else◌}
use Rattle.std.specs.List.{AllByRecursion}
use Rattle.hph_wasm.specs.Leb128.{Unsigned}
use Rattle.hph_wasm.specs.Grammar.{Grammar, Exactly, Byte, ◌⊳◌, Each, Vector, Named, ValueType, ResultType, FunctionType, MemoryType, TableType, GlobalOf}
use Rattle.hph_wasm.specs.Codes.{else_code}
use Rattle.hph_wasm.specs.InstructionGrammar.{Instruction}
use Rattle.hph_wasm.specs.BlockDepth.{AreShallow}
use Rattle.hph_wasm.specs.ModuleGrammar.{Imported, GlobalWithValue, Elements, LocalRun, Locals, Code, Data, RawSection, BeginsWithName, without_custom, Parts, parts_of, FromTypes, header, SpellsModule}
use Rattle.hph_wasm.specs.declared.feature.Feature.{Feature}
use Rattle.hph_wasm.specs.declared.feature.Feature.TheVariants.{F32, F64, MemorySize, MemoryGrow, Start, InitialMemorySize, InitialTableSize, LocalCount, BlockDepth}
use Rattle.hph_wasm.specs.declared.types.ValType.{ValType}
use Rattle.hph_wasm.specs.declared.types.Limits.{Limits}
use Rattle.hph_wasm.specs.declared.instr.Instr.{Instr}
use Rattle.hph_wasm.specs.declared.module.ImportDesc.{ImportDesc}
use Rattle.hph_wasm.specs.declared.module.ImportDesc.TheVariants as import_desc
use Rattle.hph_wasm.specs.declared.module.Import.{Import}
use Rattle.hph_wasm.specs.declared.module.Global.{Global}
use Rattle.hph_wasm.specs.declared.module.Element.{Element}
use Rattle.hph_wasm.specs.declared.module.Segment.{Segment}
use Rattle.hph_wasm.specs.declared.module.Module.{Module}

-- ---- the greatest counts

abbrev pub most_pages : ℕ
most_pages = 1024

abbrev pub most_entries : ℕ
most_entries = 1048576

abbrev pub most_locals : ℕ
most_locals = 1048576

-- the most blocks, loops and ifs that are open at once in an expression
abbrev pub most_blocks : ℕ
most_blocks = 4096

-- an initial memory, an initial table, and what is imported, that are read
abbrev pub IsSmallMemory : Limits → Type 0
IsSmallMemory limits = limits.min ≤ most_pages

abbrev pub IsSmallTable : Limits → Type 0
IsSmallTable limits = limits.min ≤ most_entries

abbrev pub IsSmallThing : ImportDesc → Type 0
IsSmallThing (import_desc.Func ty) = Unit {0}
IsSmallThing (import_desc.Table limits) = IsSmallTable limits
IsSmallThing (import_desc.Memory limits) = IsSmallMemory limits
IsSmallThing (import_desc.Global ty) = Unit {0}

abbrev pub IsSmallImport : Import → Type 0
IsSmallImport i = IsSmallThing i.desc

-- locals that are no more than are read
abbrev pub AreFew : List ValType → Type 0
AreFew locals = length locals ≤ most_locals

-- an expression whose blocks are nested no deeper than is read
abbrev pub IsShallowExpression : List Instr → Type 0
IsShallowExpression body = AreShallow most_blocks body

-- a global, segments and code with such
abbrev pub HasShallowValue : Global → Type 0
HasShallowValue g = IsShallowExpression g.init

abbrev pub HasShallowEntry : Element → Type 0
HasShallowEntry e = IsShallowExpression e.offset

abbrev pub HasShallowPlace : Segment → Type 0
HasShallowPlace s = IsShallowExpression s.offset

abbrev pub IsSmallCode : List ValType × List Instr → Type 0
IsSmallCode code = AreFew code.0 × IsShallowExpression code.1

-- what is always read
abbrev pub IsAnything : {X : Type 0} → X → Type 0
IsAnything x = Unit {0}

-- parts that are read, each of them
pub record AreSupported (p : Parts) : Type 0 where
  pub imports : AllByRecursion IsSmallImport p.imports
  pub tables : AllByRecursion IsSmallTable p.tables
  pub memories : AllByRecursion IsSmallMemory p.memories
  pub globals : AllByRecursion HasShallowValue p.globals
  pub elements : AllByRecursion HasShallowEntry p.elements
  pub codes : AllByRecursion IsSmallCode p.codes
  pub segments : AllByRecursion HasShallowPlace p.segments

-- a module that is read
abbrev pub IsSupported : Module → Type 0
IsSupported m = AreSupported (parts_of m)

-- ---- stops: where in bytes something that is left out begins, and what it is

abbrev pub Stop : Type 1
Stop = ℕ → Feature → List ℕ → Type 0

-- bytes that spell a thing that is read
abbrev pub Read : {X : Type 0} → (X → Grammar) → (X → Type 0) → Grammar
Read {X} P Fits bytes = (x : X) × P x bytes × Fits x

abbrev pub Any : {X : Type 0} → (X → Grammar) → Grammar
Any P = Read P IsAnything

-- in none
abbrev pub Nowhere : Stop
Nowhere at feature bytes = ⊥

-- in one way or another
abbrev pub Either : Stop → Stop → Stop
Either S T at feature bytes = S at feature bytes ⊎ T at feature bytes

-- where this holds
abbrev pub Where : Type 0 → Stop → Stop
Where A S at feature bytes = A × S at feature bytes

-- behind bytes that were read
pub record Behind (P : List ℕ → Type 0) (S : ℕ → Feature → List ℕ → Type 0) (at : ℕ) (feature : Feature) (bytes : List ℕ) : Type 0 where
  pub front : List ℕ
  pub rest : List ℕ
  pub split : bytes ≡ front ++ rest
  pub before : P front
  pub place : ℕ
  pub counted : at ≡ length front + place
  pub stops : S place feature rest

-- at a byte that stands for a feature
abbrev pub AtByte : (ℕ → Option Feature) → Stop
AtByte feature_of at feature [] = ⊥
AtByte feature_of at feature (b ∷ bytes) = (at ≡ 0) × (feature_of b ≡ Some feature)

-- at a number that is too great
pub record AtNumber (TooGreat : ℕ → Type 0) (name : Feature) (at : ℕ) (feature : Feature) (bytes : List ℕ) : Type 0 where
  pub here : at ≡ 0
  pub named : feature ≡ name
  pub front : List ℕ
  pub rest : List ℕ
  pub split : bytes ≡ front ++ rest
  pub number : Read (Unsigned 32) TooGreat front

-- in one of so many things, behind those that were read
pub record Among {X : Type 0} (count : ℕ) (P : X → List ℕ → Type 0) (Fits : X → Type 0) (S : ℕ → Feature → List ℕ → Type 0)
    (at : ℕ) (feature : Feature) (bytes : List ℕ) : Type 0 where
  pub done : List X
  pub fewer : length done < count
  pub fit : AllByRecursion Fits done
  pub stops : Behind (Each P done) S at feature bytes

-- in a vector (5.1.3)
abbrev pub InVector : {X : Type 0} → (X → Grammar) → (X → Type 0) → Stop → Stop
InVector P Fits S at feature bytes = (count : ℕ) × Behind (Unsigned 32 count) (Among count P Fits S) at feature bytes

-- in so many bytes, or in all where they are fewer
abbrev pub Within : ℕ → Stop → Stop
Within size S at feature bytes = S at feature (take size bytes)

-- in what stands behind its size
abbrev pub InSized : Stop → Stop
InSized S at feature bytes = (size : ℕ) × Behind (Unsigned 32 size) (Within size S) at feature bytes

-- ---- types (5.3)

abbrev pub float_type : ℕ → Option Feature
float_type b = if nat_eq b 0x7D then Some F32 else if nat_eq b 0x7C then Some F64 else None

-- value types, and what a block gives (5.3.1, 5.3.2)
abbrev pub StopsValueType : Stop
StopsValueType = AtByte float_type

-- 5.3.3
abbrev pub StopsValueTypes : Stop
StopsValueTypes = InVector ValueType IsAnything StopsValueType

abbrev pub StopsFunctionType : Stop
StopsFunctionType = Behind (Byte 0x60) (Either StopsValueTypes (Behind (Any (Vector ValueType)) StopsValueTypes))

-- limits begin with a byte that tells whether there is a greatest size (5.3.4)
abbrev pub LimitsByte : Grammar
LimitsByte bytes = Byte 0x00 bytes ⊎ Byte 0x01 bytes

-- 5.3.5
abbrev pub StopsMemoryType : Stop
StopsMemoryType = Behind LimitsByte (AtNumber (λ n. most_pages < n) InitialMemorySize)

-- 5.3.6
abbrev pub StopsTableType : Stop
StopsTableType = Behind (Byte 0x70) (Behind LimitsByte (AtNumber (λ n. most_entries < n) InitialTableSize))

-- ---- instructions (5.4)

-- the opcodes that are left out, from the first to the last of each row
abbrev pub left_out_rows : List (ℕ × ℕ × Feature)
left_out_rows =
    (0x2A, 0x2A, F32)  -- f32.load
    ∷ (0x2B, 0x2B, F64)  -- f64.load
    ∷ (0x38, 0x38, F32)  -- f32.store
    ∷ (0x39, 0x39, F64)  -- f64.store
    ∷ (0x3F, 0x3F, MemorySize)  -- memory.size
    ∷ (0x40, 0x40, MemoryGrow)  -- memory.grow
    ∷ (0x43, 0x43, F32)  -- f32.const
    ∷ (0x44, 0x44, F64)  -- f64.const
    ∷ (0x5B, 0x60, F32)  -- f32.eq to f32.ge
    ∷ (0x61, 0x66, F64)  -- f64.eq to f64.ge
    ∷ (0x8B, 0x98, F32)  -- f32.abs to f32.copysign
    ∷ (0x99, 0xA6, F64)  -- f64.abs to f64.copysign
    ∷ (0xA8, 0xA9, F32)  -- i32.trunc_f32_s, _u
    ∷ (0xAA, 0xAB, F64)  -- i32.trunc_f64_s, _u
    ∷ (0xAE, 0xAF, F32)  -- i64.trunc_f32_s, _u
    ∷ (0xB0, 0xB1, F64)  -- i64.trunc_f64_s, _u
    ∷ (0xB2, 0xB6, F32)  -- f32.convert_i32_s to f32.demote_f64
    ∷ (0xB7, 0xBB, F64)  -- f64.convert_i32_s to f64.promote_f32
    ∷ (0xBC, 0xBC, F32)  -- i32.reinterpret_f32
    ∷ (0xBD, 0xBD, F64)  -- i64.reinterpret_f64
    ∷ (0xBE, 0xBE, F32)  -- f32.reinterpret_i32
    ∷ (0xBF, 0xBF, F64)  -- f64.reinterpret_i64
    ∷ []

abbrev pub feature_in : List (ℕ × ℕ × Feature) → ℕ → Option Feature
feature_in [] code = None
feature_in (r ∷ rows) code = if nat_le r.0 code && nat_le code r.1 then Some r.2 else feature_in rows code

-- the feature that an opcode is one of
abbrev pub left_out : ℕ → Option Feature
left_out code = feature_in left_out_rows code

-- `block`, `loop` or `if`
abbrev pub Opener : Grammar
Opener bytes = Byte 0x02 bytes ⊎ (Byte 0x03 bytes ⊎ Byte 0x04 bytes)

-- at the opcode of a block, a loop or an `if`, where no more of them may be open
pub record AtOpener (at : ℕ) (feature : Feature) (bytes : List ℕ) : Type 0 where
  pub here : at ≡ 0
  pub named : feature ≡ BlockDepth
  pub front : List ℕ
  pub rest : List ℕ
  pub split : bytes ≡ front ++ rest
  pub opens : Opener front

-- instructions that are read where so many more blocks may be open
abbrev pub ShallowRow : ℕ → Grammar
ShallowRow room = Read (Each Instruction) (AreShallow room)

-- what stands before the instructions of a block, or of the second branch of an `if`, inside which so many more blocks may be open (5.4.1)
abbrev pub OpensElse : ℕ → Grammar
OpensElse room = Byte 0x04 ⊳ Any ResultType ⊳ ShallowRow room ⊳ Byte else_code

abbrev pub Opens : ℕ → Grammar
Opens room bytes = (Opener ⊳ Any ResultType) bytes ⊎ OpensElse room bytes

-- a block where so many more may be open: its opcode, if that is none, or else its type
abbrev pub StopsBlock : ℕ → Stop
StopsBlock zero = AtOpener
StopsBlock (suc room) = Behind Opener StopsValueType

-- an instruction inside so many blocks, where so many may be open around it: its opcode, or its block
abbrev pub StopsInstruction : ℕ → ℕ → Stop
StopsInstruction zero room = Either (AtByte left_out) (StopsBlock room)
StopsInstruction (suc blocks) zero = Nowhere
StopsInstruction (suc blocks) (suc room) = Behind (Opens room ⊳ ShallowRow room) (StopsInstruction blocks room)

-- a sequence of instructions, and so an expression (5.4.6)
abbrev pub StopsExpression : Stop
StopsExpression at feature bytes = (blocks : ℕ) × Behind (ShallowRow most_blocks) (StopsInstruction blocks most_blocks) at feature bytes

-- ---- sections (5.5)

-- 5.5.5
abbrev pub StopsImportedThing : Stop
StopsImportedThing = Either (Behind (Byte 0x01) StopsTableType)
    (Either (Behind (Byte 0x02) StopsMemoryType) (Behind (Byte 0x03) StopsValueType))

abbrev pub StopsImported : Stop
StopsImported = Behind (Any Named) (Behind (Any Named) StopsImportedThing)

-- 5.5.9
abbrev pub StopsGlobal : Stop
StopsGlobal = Either StopsValueType (Behind (Any GlobalOf) StopsExpression)

-- 5.5.12 and 5.5.14: an index, and an expression
abbrev pub StopsOffset : Stop
StopsOffset = Behind (Any (Unsigned 32)) StopsExpression

-- how many locals runs make
abbrev pub total_of : List (ℕ × ValType) → ℕ
total_of [] = 0
total_of (run ∷ runs) = run.0 + total_of runs

-- a run of locals, behind so many: their count, or their type (5.5.13)
abbrev pub StopsRun : ℕ → Stop
StopsRun total = Either (AtNumber (λ n. most_locals < total + n) LocalCount)
    (Behind (Read (Unsigned 32) (λ n. total + n ≤ most_locals)) StopsValueType)

-- one of so many runs of locals, behind those that were read
pub record StopsRuns (count : ℕ) (at : ℕ) (feature : Feature) (bytes : List ℕ) : Type 0 where
  pub done : List (ℕ × ValType)
  pub fewer : length done < count
  pub few : total_of done ≤ most_locals
  pub stops : Behind (Each LocalRun done) (StopsRun (total_of done)) at feature bytes

abbrev pub StopsLocals : Stop
StopsLocals at feature bytes = (count : ℕ) × Behind (Unsigned 32 count) (StopsRuns count) at feature bytes

-- code, behind its size (5.5.13)
abbrev pub StopsCode : Stop
StopsCode = InSized (Either StopsLocals (Behind (Read Locals AreFew) StopsExpression))

-- the sections that aren't custom and are read
pub data Kind : Type 0 where
  Types : Kind
  Imports : Kind
  Functions : Kind
  Tables : Kind
  Memories : Kind
  Globals : Kind
  Exports : Kind
  ElementSegments : Kind
  Codes : Kind
  DataSegments : Kind

-- 5.5.2
abbrev pub number_of : Kind → ℕ
number_of Types = 1
number_of Imports = 2
number_of Functions = 3
number_of Tables = 4
number_of Memories = 5
number_of Globals = 6
number_of Exports = 7
number_of ElementSegments = 9
number_of Codes = 10
number_of DataSegments = 11

-- The content of a section, where these parts were read before it. There is code for each function, and data only behind code for each (5.5.15).
abbrev pub StopsContent : Parts → Kind → Stop
StopsContent p Types = InVector FunctionType IsAnything StopsFunctionType
StopsContent p Imports = InVector Imported IsSmallImport StopsImported
StopsContent p Functions = Nowhere
StopsContent p Tables = InVector TableType IsSmallTable StopsTableType
StopsContent p Memories = InVector MemoryType IsSmallMemory StopsMemoryType
StopsContent p Globals = InVector GlobalWithValue HasShallowValue StopsGlobal
StopsContent p Exports = Nowhere
StopsContent p ElementSegments = InVector Elements HasShallowEntry StopsOffset
StopsContent p Codes = Behind (Unsigned 32 (length p.functions)) (Among (length p.functions) Code IsSmallCode StopsCode)
StopsContent p DataSegments = Where (length p.codes ≡ length p.functions) (InVector Data HasShallowPlace StopsOffset)

-- the first byte of a start section (5.5.11)
abbrev pub start_section : ℕ → Option Feature
start_section b = if nat_eq b 8 then Some Start else None

-- the numbers of all sections are below this one
abbrev pub AllBelow : ℕ → List (ℕ × List ℕ) → Type 0
AllBelow id sections = AllByRecursion (λ section. section.0 < id) sections

-- a section that may stand behind these, whose parts were read: its content behind its number and its size, or its number
abbrev pub StopsSection : Parts → List (ℕ × List ℕ) → Stop
StopsSection p sections at feature bytes =
    ((kind : Kind) × AllBelow (number_of kind) sections × Behind (Byte (number_of kind)) (InSized (StopsContent p kind)) at feature bytes)
    ⊎ (AllBelow 8 sections × AtByte start_section at feature bytes)

-- A feature that is left out is met at this offset: behind the header and whole sections, in the next one (5.5.15).
pub record IsUnsupported (bytes : List ℕ) (offset : ℕ) (feature : Feature) : Type 0 where
  pub p : Parts
  pub sections : List (ℕ × List ℕ)
  pub named : AllByRecursion (λ section. section.0 ≡ 0 → BeginsWithName section.1) sections
  pub inside : FromTypes p (without_custom sections)
  pub supported : AreSupported p
  pub stops : Behind (Exactly header ⊳ Each RawSection sections) (StopsSection p (without_custom sections)) offset feature bytes

-- The bytes are outside the grammar, and no feature that is left out is met.
abbrev pub IsMalformed : List ℕ → Type 0
IsMalformed bytes = ((m : Module) → SpellsModule bytes m → ⊥) × ((offset : ℕ) (feature : Feature) → IsUnsupported bytes offset feature → ⊥)
