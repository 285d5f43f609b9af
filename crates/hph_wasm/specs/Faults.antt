-- The first place at which a module breaks the rules of validity. This project's own.
-- The instructions of a function are numbered by their opcodes, `else` and `end` among them, and the first fault is at the opcode
-- with a number if all before it can be typed and those up to it can't.
use Rattle.std.specs.Prelude.{◌≡◌, ◌≤◌, ◌⊎◌, ℕ, suc, ◌+◌, List, [], ◌∷◌, take, length, Some, slice_get}
use Rattle.std.specs.List.{AllByRecursion}
use Rattle.hph_wasm.specs.declared.instr.Instr.{Instr, Block', Loop', If', Row_of-Instr, end_of-Instr, more_of-Instr, Held-Instr-If-2, None', Some'}
use Rattle.hph_wasm.specs.declared.types.ValType.{ValType}
use Rattle.hph_wasm.specs.declared.types.ValType.TheVariants.{I32}
use Rattle.hph_wasm.specs.declared.types.FuncType.{FuncType}
use Rattle.hph_wasm.specs.declared.module.Func.{Func}
use Rattle.hph_wasm.specs.declared.module.Module.{Module}
use Rattle.hph_wasm.specs.Functions.{imported_functions}
use Rattle.hph_wasm.specs.Rows.{size, row_size, list_size}
use Rattle.hph_wasm.specs.Validity.{Context, under_label, results_of, Ends, IsInstr, IsRow, IsBody, IsFunc, body_context}
use Rattle.hph_wasm.specs.ModuleValidity.{IsValidOutside, IsValid}

abbrev mutual
  -- The first n opcodes of the instructions inside a block can be typed, from a stack of these types.
  pub RowBegins : {j : _} → Module → Context → Row_of-Instr j → ℕ → List ValType → Type 0
  RowBegins m c end_of-Instr n from = n ≡ 0
  RowBegins m c (more_of-Instr i rest) n from = (n ≡ 0) ⊎ (InstrBegins m c i n from ⊎
      ((k : ℕ) × (n ≡ size i + k) × (mid : List ValType) × IsInstr m c i from mid × RowBegins m c rest k mid))

  -- The first n opcodes of an instruction can be typed, of which the last one stands inside it.
  pub InstrBegins : Module → Context → Instr → ℕ → List ValType → Type 0
  InstrBegins m c (Block' ty shape body) n from = (k : ℕ) × (n ≡ 1 + k) × RowBegins m (under_label (results_of ty) c) body k []
  InstrBegins m c (Loop' ty shape body) n from = (k : ℕ) × (n ≡ 1 + k) × RowBegins m (under_label [] c) body k []
  InstrBegins m c (If' ty shape body other) n from = Ends (I32 ∷ []) from × (
      ((k : ℕ) × (n ≡ 1 + k) × RowBegins m (under_label (results_of ty) c) body k []) ⊎
      (IsRow m (under_label (results_of ty) c) body [] (results_of ty) ×
      ElseBegins m (under_label (results_of ty) c) other (2 + row_size body) n))
  InstrBegins m c _ n from = ⊥

  -- The same of an `else`, up to which there are so many, and what is behind it.
  pub ElseBegins : Module → Context → Held-Instr-If-2 → ℕ → ℕ → Type 0
  ElseBegins m c None' before n = ⊥
  ElseBegins m c (Some' shape body) before n = (k : ℕ) × (n ≡ before + k) × RowBegins m c body k []

-- The first n opcodes of a sequence can be typed.
abbrev pub SequenceBegins : Module → Context → List Instr → ℕ → List ValType → Type 0
SequenceBegins m c [] n from = n ≡ 0
SequenceBegins m c (i ∷ rest) n from = (n ≡ 0) ⊎ (InstrBegins m c i n from ⊎
    ((k : ℕ) × (n ≡ size i + k) × (mid : List ValType) × IsInstr m c i from mid × SequenceBegins m c rest k mid))

-- The first n opcodes of a body can be typed, of which the last one is its `end`.
abbrev pub BodyBegins : Module → FuncType → Func → ℕ → Type 0
BodyBegins m ty func n = SequenceBegins m (body_context ty func) func.body n [] ⊎ ((n ≡ suc (list_size func.body)) × IsBody m ty func)

-- The first fault of a body is at the opcode with this number, of which the greatest is that of its `end`.
abbrev pub IsFirstFault : Module → FuncType → Func → ℕ → Type 0
IsFirstFault m ty func k = (k ≤ list_size func.body) × BodyBegins m ty func k × (BodyBegins m ty func (suc k) → ⊥)

-- Faults outside code come first, and are given as a function that no module has.
abbrev pub outside_code : ℕ
outside_code = 4294967295

-- The first fault of a module is in the function with this number, imports first, at the opcode with this number.
pub data IsFirstInvalid (m : Module) : ℕ → ℕ → Type 0 where
  outside : (IsValidOutside m → ⊥) → IsFirstInvalid m outside_code 0
  in_body : (n k : ℕ) (func : Func) (ty : FuncType) → IsValidOutside m → slice_get m.funcs n ≡ Some func →
      slice_get m.types func.ty ≡ Some ty → AllByRecursion (IsFunc m) (take n m.funcs) → IsFirstFault m ty func k →
      IsFirstInvalid m (length (imported_functions m.imports) + n) k

-- A body has at most one first fault, a valid one has none, and one that isn't valid can't have none.
abbrev pub HasOneFault : Module → FuncType → Func → Type 0
HasOneFault m ty func = ((j k : ℕ) → IsFirstFault m ty func j → IsFirstFault m ty func k → j ≡ k) ×
    ((k : ℕ) → IsBody m ty func → IsFirstFault m ty func k → ⊥) ×
    ((IsBody m ty func → ⊥) → ((k : ℕ) → IsFirstFault m ty func k → ⊥) → ⊥)

-- The same of a module.
abbrev pub HasOneFirst : Module → Type 0
HasOneFirst m = ((f g j k : ℕ) → IsFirstInvalid m f j → IsFirstInvalid m g k → (f ≡ g) × (j ≡ k)) ×
    ((f k : ℕ) → IsValid m → IsFirstInvalid m f k → ⊥) ×
    ((IsValid m → ⊥) → ((f k : ℕ) → IsFirstInvalid m f k → ⊥) → ⊥)
