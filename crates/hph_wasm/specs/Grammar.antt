-- The binary format: sections 5.1 to 5.3 of the WebAssembly Core Specification 1.0.
-- A relation between bytes and what they spell; which bytes are written of a module is said in Spelling.
use Rattle.std.specs.Prelude.{◌≡◌, ℕ, List, [], ◌∷◌, ◌++◌, length, Option, Some, None, Bool, true, false, IsUtf8}
use Rattle.hph_wasm.specs.Leb128.{Unsigned}
use Rattle.hph_wasm.specs.declared.types.ValType.{ValType}
use Rattle.hph_wasm.specs.declared.types.ValType.TheVariants.{I32, I64}
use Rattle.hph_wasm.specs.declared.types.BlockType.{BlockType}
use Rattle.hph_wasm.specs.declared.types.FuncType.{FuncType}
use Rattle.hph_wasm.specs.declared.types.Limits.{Limits}
use Rattle.hph_wasm.specs.declared.types.GlobalType.{GlobalType}

-- which bytes spell a thing
abbrev pub Grammar : Type 1
Grammar = List ℕ → Type 0

-- these bytes and no others (5.1.1)
abbrev pub Exactly : List ℕ → Grammar
Exactly these bytes = bytes ≡ these

-- this byte
abbrev pub Byte : ℕ → Grammar
Byte b = Exactly (b ∷ [])

infixr 5 ◌⊳◌
-- one thing, and another behind it
pub record ◌⊳◌ (P Q : List ℕ → Type 0) (bytes : List ℕ) : Type 0 where
  pub front : List ℕ
  pub rest : List ℕ
  pub split : bytes ≡ front ++ rest
  pub first : P front
  pub second : Q rest

-- each of these things, in order
abbrev pub Each : {X : Type 0} → (X → Grammar) → List X → Grammar
Each P [] bytes = bytes ≡ []
Each P (x ∷ xs) bytes = (P x ⊳ Each P xs) bytes

-- a vector: how many, and each (5.1.3)
abbrev pub Vector : {X : Type 0} → (X → Grammar) → List X → Grammar
Vector P xs = Unsigned 32 (length xs) ⊳ Each P xs

-- a vector of bytes (5.2.1)
abbrev pub Bytes : List ℕ → Grammar
Bytes these = Unsigned 32 (length these) ⊳ Exactly these

-- a name: a vector of the bytes that encode its characters (5.2.4)
abbrev pub Named : List ℕ → Grammar
Named name bytes = IsUtf8 name × Bytes name bytes

-- how many bytes a thing takes, and the thing
pub record Sized (P : List ℕ → Type 0) (bytes : List ℕ) : Type 0 where
  pub size : List ℕ
  pub body : List ℕ
  pub split : bytes ≡ size ++ body
  pub counted : Unsigned 32 (length body) size
  pub inside : P body

-- the byte of a value type (5.3.1)
abbrev pub type_byte : ValType → ℕ
type_byte I32 = 0x7F
type_byte I64 = 0x7E

abbrev pub ValueType : ValType → Grammar
ValueType t = Byte (type_byte t)

-- what a block gives (5.3.2)
abbrev pub result_byte : Option ValType → ℕ
result_byte None = 0x40
result_byte (Some t) = type_byte t

abbrev pub ResultType : BlockType → Grammar
ResultType t = Byte (result_byte t.result)

-- function types (5.3.3)
abbrev pub FunctionType : FuncType → Grammar
FunctionType ty = Byte 0x60 ⊳ Vector ValueType ty.params ⊳ Vector ValueType ty.results

-- limits (5.3.4)
abbrev pub Between : ℕ → Option ℕ → Grammar
Between min None = Byte 0x00 ⊳ Unsigned 32 min
Between min (Some max) = Byte 0x01 ⊳ Unsigned 32 min ⊳ Unsigned 32 max

-- memory types (5.3.5)
abbrev pub MemoryType : Limits → Grammar
MemoryType limits = Between limits.min limits.max

-- table types: the byte of their elements, functions, and limits (5.3.6)
abbrev pub TableType : Limits → Grammar
TableType limits = Byte 0x70 ⊳ Between limits.min limits.max

-- global types (5.3.7)
abbrev pub mutable_byte : Bool → ℕ
mutable_byte false = 0x00
mutable_byte true = 0x01

abbrev pub GlobalOf : GlobalType → Grammar
GlobalOf ty = ValueType ty.value ⊳ Byte (mutable_byte ty.mutable)
