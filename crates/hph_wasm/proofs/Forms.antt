-- Each opcode is that of one form of instructions, and the opcodes are those of the table.
use Rattle.std.proofs.Common.{◌≡◌, ◌∙◌, ◌⊎◌, inl, inr, ⊎_elim, ℕ, List, [], ◌∷◌, ◌++◌, map, take, drop, refl, sym, ap, subst, arith, Option, Some, None, true, false}
use Rattle.std.specs.Prelude.{pos, nat_eq, if◌then◌else◌}
use Rattle.hph_case.specs.declared.cases.Row.{Row}
use Rattle.hph_case.specs.Table.{row}
use Rattle.hph_case.specs.Opcodes.{opcodes}
use Rattle.hph_wasm.specs.Codes.{opcode, form, immediates, else_code, end_code}
use Rattle.hph_wasm.specs.OpcodeTable.{tag_at, IsCode}
use Rattle.hph_wasm.specs.Unsupported.{left_out}
use Rattle.hph_wasm.specs.declared.types.ValType.TheVariants.{I32, I64}
use Rattle.hph_wasm.specs.declared.instr.Sign.TheVariants.{Signed, Unsigned}
use Rattle.hph_wasm.specs.declared.instr.Unary.TheVariants.{Clz, Ctz, Popcnt}
use Rattle.hph_wasm.specs.declared.instr.Binary.TheVariants.{Add, Sub, Mul, Div, Rem, And, Or, Xor, Shl, Shr, Rotl, Rotr}
use Rattle.hph_wasm.specs.declared.instr.Comparison.TheVariants.{Eq, Ne, Lt, Gt, Le, Ge}
use Rattle.hph_wasm.specs.declared.instr.NarrowLoad.TheVariants.{I32From8, I32From16, I64From8, I64From16, I64From32}
use Rattle.hph_wasm.specs.declared.instr.NarrowStore.TheVariants.{I32To8, I32To16, I64To8, I64To16, I64To32}
use Rattle.hph_wasm.specs.declared.instr.Instr.{Instr, Unreachable, Nop, Block', Loop', If', Br, BrIf, BrTable, Return, Call, CallIndirect, Drop, Select, LocalGet, LocalSet, LocalTee, GlobalGet, GlobalSet, Load, LoadNarrow, Store, StoreNarrow, I32Const, I64Const, Eqz, Compare, Unary, Binary, Wrap, Extend, end_of-Instr, None'}

-- the forms of instructions, in the order of their opcodes
forms : List Instr
forms =
    Unreachable
    ∷ Nop
    ∷ Block' (record { result = None }) [] end_of-Instr
    ∷ Loop' (record { result = None }) [] end_of-Instr
    ∷ If' (record { result = None }) [] end_of-Instr None'
    ∷ Br 0
    ∷ BrIf 0
    ∷ BrTable [] 0
    ∷ Return
    ∷ Call 0
    ∷ CallIndirect 0
    ∷ Drop
    ∷ Select
    ∷ LocalGet 0
    ∷ LocalSet 0
    ∷ LocalTee 0
    ∷ GlobalGet 0
    ∷ GlobalSet 0
    ∷ Load I32 (record { align = 0; offset = 0 })
    ∷ Load I64 (record { align = 0; offset = 0 })
    ∷ LoadNarrow (I32From8 Signed) (record { align = 0; offset = 0 })
    ∷ LoadNarrow (I32From8 Unsigned) (record { align = 0; offset = 0 })
    ∷ LoadNarrow (I32From16 Signed) (record { align = 0; offset = 0 })
    ∷ LoadNarrow (I32From16 Unsigned) (record { align = 0; offset = 0 })
    ∷ LoadNarrow (I64From8 Signed) (record { align = 0; offset = 0 })
    ∷ LoadNarrow (I64From8 Unsigned) (record { align = 0; offset = 0 })
    ∷ LoadNarrow (I64From16 Signed) (record { align = 0; offset = 0 })
    ∷ LoadNarrow (I64From16 Unsigned) (record { align = 0; offset = 0 })
    ∷ LoadNarrow (I64From32 Signed) (record { align = 0; offset = 0 })
    ∷ LoadNarrow (I64From32 Unsigned) (record { align = 0; offset = 0 })
    ∷ Store I32 (record { align = 0; offset = 0 })
    ∷ Store I64 (record { align = 0; offset = 0 })
    ∷ StoreNarrow I32To8 (record { align = 0; offset = 0 })
    ∷ StoreNarrow I32To16 (record { align = 0; offset = 0 })
    ∷ StoreNarrow I64To8 (record { align = 0; offset = 0 })
    ∷ StoreNarrow I64To16 (record { align = 0; offset = 0 })
    ∷ StoreNarrow I64To32 (record { align = 0; offset = 0 })
    ∷ I32Const (pos 0)
    ∷ I64Const (pos 0)
    ∷ Eqz I32
    ∷ Compare I32 Eq
    ∷ Compare I32 Ne
    ∷ Compare I32 (Lt Signed)
    ∷ Compare I32 (Lt Unsigned)
    ∷ Compare I32 (Gt Signed)
    ∷ Compare I32 (Gt Unsigned)
    ∷ Compare I32 (Le Signed)
    ∷ Compare I32 (Le Unsigned)
    ∷ Compare I32 (Ge Signed)
    ∷ Compare I32 (Ge Unsigned)
    ∷ Eqz I64
    ∷ Compare I64 Eq
    ∷ Compare I64 Ne
    ∷ Compare I64 (Lt Signed)
    ∷ Compare I64 (Lt Unsigned)
    ∷ Compare I64 (Gt Signed)
    ∷ Compare I64 (Gt Unsigned)
    ∷ Compare I64 (Le Signed)
    ∷ Compare I64 (Le Unsigned)
    ∷ Compare I64 (Ge Signed)
    ∷ Compare I64 (Ge Unsigned)
    ∷ Unary I32 Clz
    ∷ Unary I32 Ctz
    ∷ Unary I32 Popcnt
    ∷ Binary I32 Add
    ∷ Binary I32 Sub
    ∷ Binary I32 Mul
    ∷ Binary I32 (Div Signed)
    ∷ Binary I32 (Div Unsigned)
    ∷ Binary I32 (Rem Signed)
    ∷ Binary I32 (Rem Unsigned)
    ∷ Binary I32 And
    ∷ Binary I32 Or
    ∷ Binary I32 Xor
    ∷ Binary I32 Shl
    ∷ Binary I32 (Shr Signed)
    ∷ Binary I32 (Shr Unsigned)
    ∷ Binary I32 Rotl
    ∷ Binary I32 Rotr
    ∷ Unary I64 Clz
    ∷ Unary I64 Ctz
    ∷ Unary I64 Popcnt
    ∷ Binary I64 Add
    ∷ Binary I64 Sub
    ∷ Binary I64 Mul
    ∷ Binary I64 (Div Signed)
    ∷ Binary I64 (Div Unsigned)
    ∷ Binary I64 (Rem Signed)
    ∷ Binary I64 (Rem Unsigned)
    ∷ Binary I64 And
    ∷ Binary I64 Or
    ∷ Binary I64 Xor
    ∷ Binary I64 Shl
    ∷ Binary I64 (Shr Signed)
    ∷ Binary I64 (Shr Unsigned)
    ∷ Binary I64 Rotl
    ∷ Binary I64 Rotr
    ∷ Wrap
    ∷ Extend Signed
    ∷ Extend Unsigned
    ∷ []

-- the first of these that has an opcode
abbrev first_with : ℕ → List Instr → Option Instr
first_with code [] = None
first_with code (i ∷ rest) = if nat_eq (opcode i) code then Some i else first_with code rest

-- the first form with an instruction's opcode is that instruction's
first_form : (i : Instr) → first_with (opcode i) forms ≡ Some (form i)
unfolding forms
first_form Unreachable = refl
first_form Nop = refl
first_form (Block' ty shape body) = refl
first_form (Loop' ty shape body) = refl
first_form (If' ty shape body other) = refl
first_form (Br label) = refl
first_form (BrIf label) = refl
first_form (BrTable labels label) = refl
first_form Return = refl
first_form (Call func) = refl
first_form (CallIndirect ty) = refl
first_form Drop = refl
first_form Select = refl
first_form (LocalGet local) = refl
first_form (LocalSet local) = refl
first_form (LocalTee local) = refl
first_form (GlobalGet global) = refl
first_form (GlobalSet global) = refl
first_form (Load I32 at) = refl
first_form (Load I64 at) = refl
first_form (LoadNarrow (I32From8 Signed) at) = refl
first_form (LoadNarrow (I32From8 Unsigned) at) = refl
first_form (LoadNarrow (I32From16 Signed) at) = refl
first_form (LoadNarrow (I32From16 Unsigned) at) = refl
first_form (LoadNarrow (I64From8 Signed) at) = refl
first_form (LoadNarrow (I64From8 Unsigned) at) = refl
first_form (LoadNarrow (I64From16 Signed) at) = refl
first_form (LoadNarrow (I64From16 Unsigned) at) = refl
first_form (LoadNarrow (I64From32 Signed) at) = refl
first_form (LoadNarrow (I64From32 Unsigned) at) = refl
first_form (Store I32 at) = refl
first_form (Store I64 at) = refl
first_form (StoreNarrow I32To8 at) = refl
first_form (StoreNarrow I32To16 at) = refl
first_form (StoreNarrow I64To8 at) = refl
first_form (StoreNarrow I64To16 at) = refl
first_form (StoreNarrow I64To32 at) = refl
first_form (I32Const value) = refl
first_form (I64Const value) = refl
first_form (Eqz I32) = refl
first_form (Compare I32 Eq) = refl
first_form (Compare I32 Ne) = refl
first_form (Compare I32 (Lt Signed)) = refl
first_form (Compare I32 (Lt Unsigned)) = refl
first_form (Compare I32 (Gt Signed)) = refl
first_form (Compare I32 (Gt Unsigned)) = refl
first_form (Compare I32 (Le Signed)) = refl
first_form (Compare I32 (Le Unsigned)) = refl
first_form (Compare I32 (Ge Signed)) = refl
first_form (Compare I32 (Ge Unsigned)) = refl
first_form (Eqz I64) = refl
first_form (Compare I64 Eq) = refl
first_form (Compare I64 Ne) = refl
first_form (Compare I64 (Lt Signed)) = refl
first_form (Compare I64 (Lt Unsigned)) = refl
first_form (Compare I64 (Gt Signed)) = refl
first_form (Compare I64 (Gt Unsigned)) = refl
first_form (Compare I64 (Le Signed)) = refl
first_form (Compare I64 (Le Unsigned)) = refl
first_form (Compare I64 (Ge Signed)) = refl
first_form (Compare I64 (Ge Unsigned)) = refl
first_form (Unary I32 Clz) = refl
first_form (Unary I32 Ctz) = refl
first_form (Unary I32 Popcnt) = refl
first_form (Binary I32 Add) = refl
first_form (Binary I32 Sub) = refl
first_form (Binary I32 Mul) = refl
first_form (Binary I32 (Div Signed)) = refl
first_form (Binary I32 (Div Unsigned)) = refl
first_form (Binary I32 (Rem Signed)) = refl
first_form (Binary I32 (Rem Unsigned)) = refl
first_form (Binary I32 And) = refl
first_form (Binary I32 Or) = refl
first_form (Binary I32 Xor) = refl
first_form (Binary I32 Shl) = refl
first_form (Binary I32 (Shr Signed)) = refl
first_form (Binary I32 (Shr Unsigned)) = refl
first_form (Binary I32 Rotl) = refl
first_form (Binary I32 Rotr) = refl
first_form (Unary I64 Clz) = refl
first_form (Unary I64 Ctz) = refl
first_form (Unary I64 Popcnt) = refl
first_form (Binary I64 Add) = refl
first_form (Binary I64 Sub) = refl
first_form (Binary I64 Mul) = refl
first_form (Binary I64 (Div Signed)) = refl
first_form (Binary I64 (Div Unsigned)) = refl
first_form (Binary I64 (Rem Signed)) = refl
first_form (Binary I64 (Rem Unsigned)) = refl
first_form (Binary I64 And) = refl
first_form (Binary I64 Or) = refl
first_form (Binary I64 Xor) = refl
first_form (Binary I64 Shl) = refl
first_form (Binary I64 (Shr Signed)) = refl
first_form (Binary I64 (Shr Unsigned)) = refl
first_form (Binary I64 Rotl) = refl
first_form (Binary I64 Rotr) = refl
first_form Wrap = refl
first_form (Extend Signed) = refl
first_form (Extend Unsigned) = refl

-- instructions of one opcode have one form
pub same_form : (i j : Instr) → opcode i ≡ opcode j → form i ≡ form j
same_form i j e = let same : Some (form i) ≡ Some (form j) = sym (first_form i) ∙ ap (λ code. first_with code forms) e ∙ first_form j in cc

-- a code that no form has is no instruction's
no_form : (i : Instr) (code : ℕ) → first_with code forms ≡ None → opcode i ≡ code → ⊥
no_form i code none e = let found : Some (form i) ≡ None = sym (first_form i) ∙ ap (λ code. first_with code forms) e ∙ none in cc

-- nor is the code of an end an instruction's
pub opcode-not_end : (i : Instr) → opcode i ≡ end_code → ⊥
unfolding forms
opcode-not_end i e = no_form i end_code refl e

-- nor that of an `else`
pub opcode-not_else : (i : Instr) → opcode i ≡ else_code → ⊥
unfolding forms
opcode-not_else i e = no_form i else_code refl e

-- the table has each opcode, with how many immediates stand behind it
pub tag_of : (i : Instr) → tag_at opcodes (opcode i) ≡ Some (immediates i)
unfolding opcodes
tag_of Unreachable = refl
tag_of Nop = refl
tag_of (Block' ty shape body) = refl
tag_of (Loop' ty shape body) = refl
tag_of (If' ty shape body other) = refl
tag_of (Br label) = refl
tag_of (BrIf label) = refl
tag_of (BrTable labels label) = refl
tag_of Return = refl
tag_of (Call func) = refl
tag_of (CallIndirect ty) = refl
tag_of Drop = refl
tag_of Select = refl
tag_of (LocalGet local) = refl
tag_of (LocalSet local) = refl
tag_of (LocalTee local) = refl
tag_of (GlobalGet global) = refl
tag_of (GlobalSet global) = refl
tag_of (Load I32 at) = refl
tag_of (Load I64 at) = refl
tag_of (LoadNarrow (I32From8 Signed) at) = refl
tag_of (LoadNarrow (I32From8 Unsigned) at) = refl
tag_of (LoadNarrow (I32From16 Signed) at) = refl
tag_of (LoadNarrow (I32From16 Unsigned) at) = refl
tag_of (LoadNarrow (I64From8 Signed) at) = refl
tag_of (LoadNarrow (I64From8 Unsigned) at) = refl
tag_of (LoadNarrow (I64From16 Signed) at) = refl
tag_of (LoadNarrow (I64From16 Unsigned) at) = refl
tag_of (LoadNarrow (I64From32 Signed) at) = refl
tag_of (LoadNarrow (I64From32 Unsigned) at) = refl
tag_of (Store I32 at) = refl
tag_of (Store I64 at) = refl
tag_of (StoreNarrow I32To8 at) = refl
tag_of (StoreNarrow I32To16 at) = refl
tag_of (StoreNarrow I64To8 at) = refl
tag_of (StoreNarrow I64To16 at) = refl
tag_of (StoreNarrow I64To32 at) = refl
tag_of (I32Const value) = refl
tag_of (I64Const value) = refl
tag_of (Eqz I32) = refl
tag_of (Compare I32 Eq) = refl
tag_of (Compare I32 Ne) = refl
tag_of (Compare I32 (Lt Signed)) = refl
tag_of (Compare I32 (Lt Unsigned)) = refl
tag_of (Compare I32 (Gt Signed)) = refl
tag_of (Compare I32 (Gt Unsigned)) = refl
tag_of (Compare I32 (Le Signed)) = refl
tag_of (Compare I32 (Le Unsigned)) = refl
tag_of (Compare I32 (Ge Signed)) = refl
tag_of (Compare I32 (Ge Unsigned)) = refl
tag_of (Eqz I64) = refl
tag_of (Compare I64 Eq) = refl
tag_of (Compare I64 Ne) = refl
tag_of (Compare I64 (Lt Signed)) = refl
tag_of (Compare I64 (Lt Unsigned)) = refl
tag_of (Compare I64 (Gt Signed)) = refl
tag_of (Compare I64 (Gt Unsigned)) = refl
tag_of (Compare I64 (Le Signed)) = refl
tag_of (Compare I64 (Le Unsigned)) = refl
tag_of (Compare I64 (Ge Signed)) = refl
tag_of (Compare I64 (Ge Unsigned)) = refl
tag_of (Unary I32 Clz) = refl
tag_of (Unary I32 Ctz) = refl
tag_of (Unary I32 Popcnt) = refl
tag_of (Binary I32 Add) = refl
tag_of (Binary I32 Sub) = refl
tag_of (Binary I32 Mul) = refl
tag_of (Binary I32 (Div Signed)) = refl
tag_of (Binary I32 (Div Unsigned)) = refl
tag_of (Binary I32 (Rem Signed)) = refl
tag_of (Binary I32 (Rem Unsigned)) = refl
tag_of (Binary I32 And) = refl
tag_of (Binary I32 Or) = refl
tag_of (Binary I32 Xor) = refl
tag_of (Binary I32 Shl) = refl
tag_of (Binary I32 (Shr Signed)) = refl
tag_of (Binary I32 (Shr Unsigned)) = refl
tag_of (Binary I32 Rotl) = refl
tag_of (Binary I32 Rotr) = refl
tag_of (Unary I64 Clz) = refl
tag_of (Unary I64 Ctz) = refl
tag_of (Unary I64 Popcnt) = refl
tag_of (Binary I64 Add) = refl
tag_of (Binary I64 Sub) = refl
tag_of (Binary I64 Mul) = refl
tag_of (Binary I64 (Div Signed)) = refl
tag_of (Binary I64 (Div Unsigned)) = refl
tag_of (Binary I64 (Rem Signed)) = refl
tag_of (Binary I64 (Rem Unsigned)) = refl
tag_of (Binary I64 And) = refl
tag_of (Binary I64 Or) = refl
tag_of (Binary I64 Xor) = refl
tag_of (Binary I64 Shl) = refl
tag_of (Binary I64 (Shr Signed)) = refl
tag_of (Binary I64 (Shr Unsigned)) = refl
tag_of (Binary I64 Rotl) = refl
tag_of (Binary I64 Rotr) = refl
tag_of Wrap = refl
tag_of (Extend Signed) = refl
tag_of (Extend Unsigned) = refl

-- and those of an `else` and of an end
pub tag_of_else : tag_at opcodes else_code ≡ Some 0
unfolding opcodes
tag_of_else = refl

pub tag_of_end : tag_at opcodes end_code ≡ Some 0
unfolding opcodes
tag_of_end = refl

-- the row of an instruction
abbrev row_for : Instr → Row
row_for i = row (opcode i) (immediates i)

-- the table, without those two rows, is that of the forms
table_of_forms : opcodes ≡ map row_for (take 5 forms) ++ (row else_code 0 ∷ row end_code 0 ∷ (map row_for (drop 5 forms) ++ []))
unfolding forms opcodes
table_of_forms = refl

-- a code that stands in rows of instructions, or behind them, is that of one or stands behind them
code_in : (is : List Instr) (rows : List Row) (code tag : ℕ) → tag_at (map row_for is ++ rows) code ≡ Some tag →
    ((i : Instr) × (opcode i ≡ code)) ⊎ (tag_at rows code ≡ Some tag)
code_in [] rows code tag e = inr e
code_in (i ∷ is) rows code tag e = elim (nat_eq (opcode i) code) as (λ b. nat_eq (opcode i) code ≡ b →
    (if b then Some (immediates i) else tag_at (map row_for is ++ rows) code) ≡ Some tag →
    ((i : Instr) × (opcode i ≡ code)) ⊎ (tag_at rows code ≡ Some tag)) [
      | true ↦ λ same _. inl (i, grind arith)
      | false ↦ λ _ e. code_in is rows code tag e
    ] refl e

-- a code behind the two rows
code_behind : (rows : List Row) (code tag : ℕ) → (tag_at rows code ≡ Some tag → IsCode code) →
    tag_at (row else_code 0 ∷ row end_code 0 ∷ rows) code ≡ Some tag → IsCode code
code_behind rows code tag more e = elim (nat_eq else_code code) as (λ b. nat_eq else_code code ≡ b →
    (if b then Some 0 else (if nat_eq end_code code then Some 0 else tag_at rows code)) ≡ Some tag → IsCode code) [
      | true ↦ λ same _. inr (inl (grind arith))
      | false ↦ λ _ e. elim (nat_eq end_code code) as (λ b. nat_eq end_code code ≡ b → (if b then Some 0 else tag_at rows code) ≡
          Some tag → IsCode code) [
            | true ↦ λ same _. inr (inr (grind arith))
            | false ↦ λ _ e. more e
          ] refl e
    ] refl e

-- each code of the table is that of an instruction, of an `else` or of an end
pub only_codes : (code tag : ℕ) → tag_at opcodes code ≡ Some tag → IsCode code
only_codes code tag e = ⊎_elim (λ (found : (i : Instr) × (opcode i ≡ code)). inl found)
    (λ (more : tag_at (row else_code 0 ∷ row end_code 0 ∷ (map row_for (drop 5 forms) ++ [])) code ≡ Some tag). code_behind
    (map row_for (drop 5 forms) ++ []) code tag
    (λ e. ⊎_elim (λ (found : (i : Instr) × (opcode i ≡ code)). inl found) (λ (none : None ≡ Some tag). absurd (nothing tag none))
    (code_in (drop 5 forms) [] code tag e)) more)
    (code_in (take 5 forms) _ code tag (subst (λ rows. tag_at rows code ≡ Some tag) table_of_forms e))
  where
    nothing : (tag : ℕ) → None ≡ Some tag → ⊥
    nothing tag e = cc

-- no opcode of an instruction is left out
pub left_out-opcode : (i : Instr) → left_out (opcode i) ≡ None
left_out-opcode Unreachable = refl
left_out-opcode Nop = refl
left_out-opcode (Block' ty shape body) = refl
left_out-opcode (Loop' ty shape body) = refl
left_out-opcode (If' ty shape body other) = refl
left_out-opcode (Br label) = refl
left_out-opcode (BrIf label) = refl
left_out-opcode (BrTable labels label) = refl
left_out-opcode Return = refl
left_out-opcode (Call func) = refl
left_out-opcode (CallIndirect ty) = refl
left_out-opcode Drop = refl
left_out-opcode Select = refl
left_out-opcode (LocalGet local) = refl
left_out-opcode (LocalSet local) = refl
left_out-opcode (LocalTee local) = refl
left_out-opcode (GlobalGet global) = refl
left_out-opcode (GlobalSet global) = refl
left_out-opcode (Load I32 at) = refl
left_out-opcode (Load I64 at) = refl
left_out-opcode (LoadNarrow (I32From8 Signed) at) = refl
left_out-opcode (LoadNarrow (I32From8 Unsigned) at) = refl
left_out-opcode (LoadNarrow (I32From16 Signed) at) = refl
left_out-opcode (LoadNarrow (I32From16 Unsigned) at) = refl
left_out-opcode (LoadNarrow (I64From8 Signed) at) = refl
left_out-opcode (LoadNarrow (I64From8 Unsigned) at) = refl
left_out-opcode (LoadNarrow (I64From16 Signed) at) = refl
left_out-opcode (LoadNarrow (I64From16 Unsigned) at) = refl
left_out-opcode (LoadNarrow (I64From32 Signed) at) = refl
left_out-opcode (LoadNarrow (I64From32 Unsigned) at) = refl
left_out-opcode (Store I32 at) = refl
left_out-opcode (Store I64 at) = refl
left_out-opcode (StoreNarrow I32To8 at) = refl
left_out-opcode (StoreNarrow I32To16 at) = refl
left_out-opcode (StoreNarrow I64To8 at) = refl
left_out-opcode (StoreNarrow I64To16 at) = refl
left_out-opcode (StoreNarrow I64To32 at) = refl
left_out-opcode (I32Const value) = refl
left_out-opcode (I64Const value) = refl
left_out-opcode (Eqz I32) = refl
left_out-opcode (Compare I32 Eq) = refl
left_out-opcode (Compare I32 Ne) = refl
left_out-opcode (Compare I32 (Lt Signed)) = refl
left_out-opcode (Compare I32 (Lt Unsigned)) = refl
left_out-opcode (Compare I32 (Gt Signed)) = refl
left_out-opcode (Compare I32 (Gt Unsigned)) = refl
left_out-opcode (Compare I32 (Le Signed)) = refl
left_out-opcode (Compare I32 (Le Unsigned)) = refl
left_out-opcode (Compare I32 (Ge Signed)) = refl
left_out-opcode (Compare I32 (Ge Unsigned)) = refl
left_out-opcode (Eqz I64) = refl
left_out-opcode (Compare I64 Eq) = refl
left_out-opcode (Compare I64 Ne) = refl
left_out-opcode (Compare I64 (Lt Signed)) = refl
left_out-opcode (Compare I64 (Lt Unsigned)) = refl
left_out-opcode (Compare I64 (Gt Signed)) = refl
left_out-opcode (Compare I64 (Gt Unsigned)) = refl
left_out-opcode (Compare I64 (Le Signed)) = refl
left_out-opcode (Compare I64 (Le Unsigned)) = refl
left_out-opcode (Compare I64 (Ge Signed)) = refl
left_out-opcode (Compare I64 (Ge Unsigned)) = refl
left_out-opcode (Unary I32 Clz) = refl
left_out-opcode (Unary I32 Ctz) = refl
left_out-opcode (Unary I32 Popcnt) = refl
left_out-opcode (Binary I32 Add) = refl
left_out-opcode (Binary I32 Sub) = refl
left_out-opcode (Binary I32 Mul) = refl
left_out-opcode (Binary I32 (Div Signed)) = refl
left_out-opcode (Binary I32 (Div Unsigned)) = refl
left_out-opcode (Binary I32 (Rem Signed)) = refl
left_out-opcode (Binary I32 (Rem Unsigned)) = refl
left_out-opcode (Binary I32 And) = refl
left_out-opcode (Binary I32 Or) = refl
left_out-opcode (Binary I32 Xor) = refl
left_out-opcode (Binary I32 Shl) = refl
left_out-opcode (Binary I32 (Shr Signed)) = refl
left_out-opcode (Binary I32 (Shr Unsigned)) = refl
left_out-opcode (Binary I32 Rotl) = refl
left_out-opcode (Binary I32 Rotr) = refl
left_out-opcode (Unary I64 Clz) = refl
left_out-opcode (Unary I64 Ctz) = refl
left_out-opcode (Unary I64 Popcnt) = refl
left_out-opcode (Binary I64 Add) = refl
left_out-opcode (Binary I64 Sub) = refl
left_out-opcode (Binary I64 Mul) = refl
left_out-opcode (Binary I64 (Div Signed)) = refl
left_out-opcode (Binary I64 (Div Unsigned)) = refl
left_out-opcode (Binary I64 (Rem Signed)) = refl
left_out-opcode (Binary I64 (Rem Unsigned)) = refl
left_out-opcode (Binary I64 And) = refl
left_out-opcode (Binary I64 Or) = refl
left_out-opcode (Binary I64 Xor) = refl
left_out-opcode (Binary I64 Shl) = refl
left_out-opcode (Binary I64 (Shr Signed)) = refl
left_out-opcode (Binary I64 (Shr Unsigned)) = refl
left_out-opcode (Binary I64 Rotl) = refl
left_out-opcode (Binary I64 Rotr) = refl
left_out-opcode Wrap = refl
left_out-opcode (Extend Signed) = refl
left_out-opcode (Extend Unsigned) = refl
