-- What stands behind the opcodes of instructions (Core Specification 1.0, 5.4).
use Rattle.std.proofs.Common.{◌≡◌, ◌∙◌, ◌⊎◌, inl, inr, ℕ, List, [], ◌∷◌, ◌++◌, refl, sym, ap, subst, arith, append_assoc, None}
use Rattle.std.proofs.lemmas.List.{append-nil}
use Rattle.hph_wasm.specs.Leb128.{Unsigned, Signed}
use Rattle.hph_wasm.specs.Grammar.{Grammar, Byte, Exactly, ◌⊳◌, Each, Vector, ResultType}
use Rattle.hph_wasm.specs.Codes.{opcode, form, else_code, end_code}
use Rattle.hph_wasm.specs.InstructionGrammar.{MemoryArgument, Instruction, Instructions, Otherwise, Expression}
use Rattle.hph_wasm.specs.Unsupported.{Any, left_out, Opener}
use Rattle.hph_wasm.specs.declared.types.ValType.TheVariants.{I32, I64}
use Rattle.hph_wasm.specs.declared.instr.Sign.TheVariants as sign
use Rattle.hph_wasm.specs.declared.instr.Unary.TheVariants.{Clz, Ctz, Popcnt}
use Rattle.hph_wasm.specs.declared.instr.Binary.TheVariants.{Add, Sub, Mul, Div, Rem, And, Or, Xor, Shl, Shr, Rotl, Rotr}
use Rattle.hph_wasm.specs.declared.instr.Comparison.TheVariants.{Eq, Ne, Lt, Gt, Le, Ge}
use Rattle.hph_wasm.specs.declared.instr.NarrowLoad.TheVariants.{I32From8, I32From16, I64From8, I64From16, I64From32}
use Rattle.hph_wasm.specs.declared.instr.NarrowStore.TheVariants.{I32To8, I32To16, I64To8, I64To16, I64To32}
use Rattle.hph_wasm.specs.declared.instr.Instr.{Instr, Unreachable, Nop, Block', Loop', If', Br, BrIf, BrTable, Return, Call, CallIndirect, Drop, Select, LocalGet, LocalSet, LocalTee, GlobalGet, GlobalSet, Load, LoadNarrow, Store, StoreNarrow, I32Const, I64Const, Eqz, Compare, Unary, Binary, Wrap, Extend, Row_of-Instr, end_of-Instr, more_of-Instr, Held-Instr-If-2, None', Some'}
use Rattle.hph_wread.specs.Reading.{Took}
use Rattle.hph_wread.specs.Forms.{IsPlain}
use Rattle.hph_wread.proofs.Tagged.{byte_took}

-- the kinds of what stands behind an opcode
pub data Class : Type 0 where
  Nothing : Class
  Index : Class
  Access : Class
  Labels : Class
  Indirect : Class
  Word : Class
  Long : Class
  Body : Class
  Branches : Class

abbrev pub class : Instr → Class
class Unreachable = Nothing
class Nop = Nothing
class Return = Nothing
class Drop = Nothing
class Select = Nothing
class Wrap = Nothing
class (Extend s) = Nothing
class (Eqz t) = Nothing
class (Compare t o) = Nothing
class (Unary t o) = Nothing
class (Binary t o) = Nothing
class (Br n) = Index
class (BrIf n) = Index
class (Call n) = Index
class (LocalGet n) = Index
class (LocalSet n) = Index
class (LocalTee n) = Index
class (GlobalGet n) = Index
class (GlobalSet n) = Index
class (Load t at) = Access
class (LoadNarrow part at) = Access
class (Store t at) = Access
class (StoreNarrow part at) = Access
class (BrTable labels label) = Labels
class (CallIndirect ty) = Indirect
class (I32Const value) = Word
class (I64Const value) = Long
class (Block' ty shape body) = Body
class (Loop' ty shape body) = Body
class (If' ty shape body other) = Branches

-- instructions of one form have one class
class_form : (i : Instr) → class (form i) ≡ class i
class_form Unreachable = refl
class_form Nop = refl
class_form Return = refl
class_form Drop = refl
class_form Select = refl
class_form Wrap = refl
class_form (Extend s) = refl
class_form (Eqz t) = refl
class_form (Compare t o) = refl
class_form (Unary t o) = refl
class_form (Binary t o) = refl
class_form (Br n) = refl
class_form (BrIf n) = refl
class_form (Call n) = refl
class_form (LocalGet n) = refl
class_form (LocalSet n) = refl
class_form (LocalTee n) = refl
class_form (GlobalGet n) = refl
class_form (GlobalSet n) = refl
class_form (Load t at) = refl
class_form (LoadNarrow part at) = refl
class_form (Store t at) = refl
class_form (StoreNarrow part at) = refl
class_form (BrTable labels label) = refl
class_form (CallIndirect ty) = refl
class_form (I32Const value) = refl
class_form (I64Const value) = refl
class_form (Block' ty shape body) = refl
class_form (Loop' ty shape body) = refl
class_form (If' ty shape body other) = refl

-- a first branch, and the `else` behind it
abbrev pub FirstBranch : List Instr → Grammar
FirstBranch body = Each Instruction body ⊳ Byte else_code

abbrev pub Either_branches : Grammar
Either_branches front = Any Expression front ⊎ (Any FirstBranch ⊳ Any Expression) front

-- what stands behind an opcode
abbrev pub behind : Class → Grammar
behind Nothing = Exactly []
behind Index = Any (Unsigned 32)
behind Access = Any MemoryArgument
behind Labels = Any (Vector (Unsigned 32)) ⊳ Any (Unsigned 32)
behind Indirect = Any (Unsigned 32) ⊳ Byte 0x00
behind Word = Any (Signed 32)
behind Long = Any (Signed 64)
behind Body = Any ResultType ⊳ Any Expression
behind Branches = Any ResultType ⊳ Either_branches

-- the instructions inside a block, as a list
abbrev pub list_of : {n : _} → Row_of-Instr n → List Instr
list_of end_of-Instr = []
list_of (more_of-Instr i rest) = i ∷ list_of rest

row_each : {n : _} (row : Row_of-Instr n) (bytes : List ℕ) → Instructions row bytes → Each Instruction (list_of row) bytes
row_each end_of-Instr bytes e = e
row_each (more_of-Instr i rest) bytes p = record { front = p.front; rest = p.rest; split = p.split; first = p.first; second = row_each rest p.rest p.second }

expression_of : {n : _} (row : Row_of-Instr n) (bytes : List ℕ) → (Instructions row ⊳ Byte end_code) bytes → Any Expression bytes
expression_of row bytes p = (list_of row, record { front = p.front; rest = p.rest; split = p.split; first = row_each row p.front p.first; second = p.second }, tt)

branches_of : {n : _} (row : Row_of-Instr n) (other : Held-Instr-If-2) (bytes : List ℕ) → (Instructions row ⊳ Otherwise other) bytes → Either_branches bytes
branches_of row None' bytes p = inl (expression_of row bytes p)
branches_of row (Some' shape body) bytes p =
    let q = p.second in
    inr (record {
      front = p.front ++ q.front;
      rest = q.rest;
      split = p.split ∙ ap (λ l. p.front ++ l) q.split ∙ sym (append_assoc p.front q.front q.rest);
      first = (list_of row, record { front = p.front; rest = q.front; split = refl; first = row_each row p.front p.first; second = q.first }, tt);
      second = expression_of body q.rest q.second;
    })

-- an instruction is its opcode, and what stands behind that
pub instruction_parts : (i : Instr) (front : List ℕ) → Instruction i front → (Byte (opcode i) ⊳ behind (class i)) front
instruction_parts Unreachable front p = record { front = front; rest = []; split = sym (append-nil front); first = p; second = refl }
instruction_parts Nop front p = record { front = front; rest = []; split = sym (append-nil front); first = p; second = refl }
instruction_parts Return front p = record { front = front; rest = []; split = sym (append-nil front); first = p; second = refl }
instruction_parts Drop front p = record { front = front; rest = []; split = sym (append-nil front); first = p; second = refl }
instruction_parts Select front p = record { front = front; rest = []; split = sym (append-nil front); first = p; second = refl }
instruction_parts Wrap front p = record { front = front; rest = []; split = sym (append-nil front); first = p; second = refl }
instruction_parts (Extend s) front p = record { front = front; rest = []; split = sym (append-nil front); first = p; second = refl }
instruction_parts (Eqz t) front p = record { front = front; rest = []; split = sym (append-nil front); first = p; second = refl }
instruction_parts (Compare t o) front p = record { front = front; rest = []; split = sym (append-nil front); first = p; second = refl }
instruction_parts (Unary t o) front p = record { front = front; rest = []; split = sym (append-nil front); first = p; second = refl }
instruction_parts (Binary t o) front p = record { front = front; rest = []; split = sym (append-nil front); first = p; second = refl }
instruction_parts (Br n) front p = record { front = p.front; rest = p.rest; split = p.split; first = p.first; second = (n, p.second, tt) }
instruction_parts (BrIf n) front p = record { front = p.front; rest = p.rest; split = p.split; first = p.first; second = (n, p.second, tt) }
instruction_parts (Call n) front p = record { front = p.front; rest = p.rest; split = p.split; first = p.first; second = (n, p.second, tt) }
instruction_parts (LocalGet n) front p = record { front = p.front; rest = p.rest; split = p.split; first = p.first; second = (n, p.second, tt) }
instruction_parts (LocalSet n) front p = record { front = p.front; rest = p.rest; split = p.split; first = p.first; second = (n, p.second, tt) }
instruction_parts (LocalTee n) front p = record { front = p.front; rest = p.rest; split = p.split; first = p.first; second = (n, p.second, tt) }
instruction_parts (GlobalGet n) front p = record { front = p.front; rest = p.rest; split = p.split; first = p.first; second = (n, p.second, tt) }
instruction_parts (GlobalSet n) front p = record { front = p.front; rest = p.rest; split = p.split; first = p.first; second = (n, p.second, tt) }
instruction_parts (Load t at) front p = record { front = p.front; rest = p.rest; split = p.split; first = p.first; second = (at, p.second, tt) }
instruction_parts (LoadNarrow part at) front p = record { front = p.front; rest = p.rest; split = p.split; first = p.first; second = (at, p.second, tt) }
instruction_parts (Store t at) front p = record { front = p.front; rest = p.rest; split = p.split; first = p.first; second = (at, p.second, tt) }
instruction_parts (StoreNarrow part at) front p = record { front = p.front; rest = p.rest; split = p.split; first = p.first; second = (at, p.second, tt) }
instruction_parts (BrTable labels label) front p = record { front = p.front; rest = p.rest; split = p.split; first = p.first; second = record { front = p.second.front; rest = p.second.rest; split = p.second.split; first = (labels, p.second.first, tt); second = (label, p.second.second, tt) } }
instruction_parts (CallIndirect ty) front p = record { front = p.front; rest = p.rest; split = p.split; first = p.first; second = record { front = p.second.front; rest = p.second.rest; split = p.second.split; first = (ty, p.second.first, tt); second = p.second.second } }
instruction_parts (I32Const value) front p = record { front = p.front; rest = p.rest; split = p.split; first = p.first; second = (value, p.second, tt) }
instruction_parts (I64Const value) front p = record { front = p.front; rest = p.rest; split = p.split; first = p.first; second = (value, p.second, tt) }
instruction_parts (Block' ty shape body) front p = record { front = p.front; rest = p.rest; split = p.split; first = p.first; second = record { front = p.second.front; rest = p.second.rest; split = p.second.split; first = (ty, p.second.first, tt); second = expression_of body p.second.rest p.second.second } }
instruction_parts (Loop' ty shape body) front p = record { front = p.front; rest = p.rest; split = p.split; first = p.first; second = record { front = p.second.front; rest = p.second.rest; split = p.second.split; first = (ty, p.second.first, tt); second = expression_of body p.second.rest p.second.second } }
instruction_parts (If' ty shape body other) front p = record { front = p.front; rest = p.rest; split = p.split; first = p.first; second = record { front = p.second.front; rest = p.second.rest; split = p.second.split; first = (ty, p.second.first, tt); second = branches_of body other p.second.rest p.second.second } }

abbrev pub Apart : Type 0
Apart = (i j : Instr) → opcode i ≡ opcode j → form i ≡ form j

-- what stands behind the opcode of an instruction
pub opcode_took : Apart → (j : Instr) {bytes mid rest : List ℕ} → bytes ≡ opcode j ∷ mid → Took (Any Instruction) bytes rest → Took (behind (class j)) mid rest
opcode_took apart j {bytes} {mid} {rest} is p =
    let i = p.spelled.0 in
    let parts : Took (Byte (opcode i) ⊳ behind (class i)) bytes rest = record { front = p.front; split = p.split; spelled = instruction_parts i p.front p.spelled.1 } in
    let same = byte_took (opcode j) (opcode i) (behind (class i)) is parts in
    let one : class i ≡ class j = sym (class_form i) ∙ ap class (apart i j (sym same.same)) ∙ class_form j in
    subst (λ k. Took (behind k) mid rest) one same.behind

-- no instruction begins with another byte
pub no_opcode : (code : ℕ) {bytes mid rest : List ℕ} → bytes ≡ code ∷ mid → ((i : Instr) → ¬ (opcode i ≡ code)) → ¬ Took (Any Instruction) bytes rest
no_opcode code {bytes} {mid} {rest} is none p =
    let i = p.spelled.0 in
    let parts : Took (Byte (opcode i) ⊳ behind (class i)) bytes rest = record { front = p.front; split = p.split; spelled = instruction_parts i p.front p.spelled.1 } in
    none i (sym (byte_took code (opcode i) (behind (class i)) is parts).same)

-- no opcode of an instruction is left out
pub opcode_kept : (i : Instr) → left_out (opcode i) ≡ None
opcode_kept Unreachable = refl
opcode_kept Nop = refl
opcode_kept Return = refl
opcode_kept Drop = refl
opcode_kept Select = refl
opcode_kept Wrap = refl
opcode_kept (Extend sign.Signed) = refl
opcode_kept (Extend sign.Unsigned) = refl
opcode_kept (Eqz I32) = refl
opcode_kept (Compare I32 Eq) = refl
opcode_kept (Compare I32 Ne) = refl
opcode_kept (Compare I32 (Lt sign.Signed)) = refl
opcode_kept (Compare I32 (Lt sign.Unsigned)) = refl
opcode_kept (Compare I32 (Gt sign.Signed)) = refl
opcode_kept (Compare I32 (Gt sign.Unsigned)) = refl
opcode_kept (Compare I32 (Le sign.Signed)) = refl
opcode_kept (Compare I32 (Le sign.Unsigned)) = refl
opcode_kept (Compare I32 (Ge sign.Signed)) = refl
opcode_kept (Compare I32 (Ge sign.Unsigned)) = refl
opcode_kept (Unary I32 Clz) = refl
opcode_kept (Unary I32 Ctz) = refl
opcode_kept (Unary I32 Popcnt) = refl
opcode_kept (Binary I32 Add) = refl
opcode_kept (Binary I32 Sub) = refl
opcode_kept (Binary I32 Mul) = refl
opcode_kept (Binary I32 (Div sign.Signed)) = refl
opcode_kept (Binary I32 (Div sign.Unsigned)) = refl
opcode_kept (Binary I32 (Rem sign.Signed)) = refl
opcode_kept (Binary I32 (Rem sign.Unsigned)) = refl
opcode_kept (Binary I32 And) = refl
opcode_kept (Binary I32 Or) = refl
opcode_kept (Binary I32 Xor) = refl
opcode_kept (Binary I32 Shl) = refl
opcode_kept (Binary I32 (Shr sign.Signed)) = refl
opcode_kept (Binary I32 (Shr sign.Unsigned)) = refl
opcode_kept (Binary I32 Rotl) = refl
opcode_kept (Binary I32 Rotr) = refl
opcode_kept (Load I32 at) = refl
opcode_kept (Store I32 at) = refl
opcode_kept (Eqz I64) = refl
opcode_kept (Compare I64 Eq) = refl
opcode_kept (Compare I64 Ne) = refl
opcode_kept (Compare I64 (Lt sign.Signed)) = refl
opcode_kept (Compare I64 (Lt sign.Unsigned)) = refl
opcode_kept (Compare I64 (Gt sign.Signed)) = refl
opcode_kept (Compare I64 (Gt sign.Unsigned)) = refl
opcode_kept (Compare I64 (Le sign.Signed)) = refl
opcode_kept (Compare I64 (Le sign.Unsigned)) = refl
opcode_kept (Compare I64 (Ge sign.Signed)) = refl
opcode_kept (Compare I64 (Ge sign.Unsigned)) = refl
opcode_kept (Unary I64 Clz) = refl
opcode_kept (Unary I64 Ctz) = refl
opcode_kept (Unary I64 Popcnt) = refl
opcode_kept (Binary I64 Add) = refl
opcode_kept (Binary I64 Sub) = refl
opcode_kept (Binary I64 Mul) = refl
opcode_kept (Binary I64 (Div sign.Signed)) = refl
opcode_kept (Binary I64 (Div sign.Unsigned)) = refl
opcode_kept (Binary I64 (Rem sign.Signed)) = refl
opcode_kept (Binary I64 (Rem sign.Unsigned)) = refl
opcode_kept (Binary I64 And) = refl
opcode_kept (Binary I64 Or) = refl
opcode_kept (Binary I64 Xor) = refl
opcode_kept (Binary I64 Shl) = refl
opcode_kept (Binary I64 (Shr sign.Signed)) = refl
opcode_kept (Binary I64 (Shr sign.Unsigned)) = refl
opcode_kept (Binary I64 Rotl) = refl
opcode_kept (Binary I64 Rotr) = refl
opcode_kept (Load I64 at) = refl
opcode_kept (Store I64 at) = refl
opcode_kept (LoadNarrow (I32From8 sign.Signed) at) = refl
opcode_kept (LoadNarrow (I32From8 sign.Unsigned) at) = refl
opcode_kept (LoadNarrow (I32From16 sign.Signed) at) = refl
opcode_kept (LoadNarrow (I32From16 sign.Unsigned) at) = refl
opcode_kept (LoadNarrow (I64From8 sign.Signed) at) = refl
opcode_kept (LoadNarrow (I64From8 sign.Unsigned) at) = refl
opcode_kept (LoadNarrow (I64From16 sign.Signed) at) = refl
opcode_kept (LoadNarrow (I64From16 sign.Unsigned) at) = refl
opcode_kept (LoadNarrow (I64From32 sign.Signed) at) = refl
opcode_kept (LoadNarrow (I64From32 sign.Unsigned) at) = refl
opcode_kept (StoreNarrow I32To8 at) = refl
opcode_kept (StoreNarrow I32To16 at) = refl
opcode_kept (StoreNarrow I64To8 at) = refl
opcode_kept (StoreNarrow I64To16 at) = refl
opcode_kept (StoreNarrow I64To32 at) = refl
opcode_kept (Br n) = refl
opcode_kept (BrIf n) = refl
opcode_kept (Call n) = refl
opcode_kept (LocalGet n) = refl
opcode_kept (LocalSet n) = refl
opcode_kept (LocalTee n) = refl
opcode_kept (GlobalGet n) = refl
opcode_kept (GlobalSet n) = refl
opcode_kept (BrTable labels label) = refl
opcode_kept (CallIndirect ty) = refl
opcode_kept (I32Const value) = refl
opcode_kept (I64Const value) = refl
opcode_kept (Block' ty shape body) = refl
opcode_kept (Loop' ty shape body) = refl
opcode_kept (If' ty shape body other) = refl

-- a byte that begins no block
pub plain_opener : (code : ℕ) {bytes mid rest : List ℕ} → IsPlain code → bytes ≡ code ∷ mid → ¬ Took Opener bytes rest
plain_opener code {bytes} {mid} {rest} plain is p = elim p.spelled [
  | inl two ↦ let same = is_two 2 two in elim plain [ inl low ↦ omega (arith, same) | inr high ↦ omega (arith, same) ]
  | inr (inl three) ↦ let same = is_two 3 three in elim plain [ inl low ↦ omega (arith, same) | inr high ↦ omega (arith, same) ]
  | inr (inr four) ↦ let same = is_two 4 four in elim plain [ inl low ↦ omega (arith, same) | inr high ↦ omega (arith, same) ]
]
  where
    is_two : (b : ℕ) → p.front ≡ b ∷ [] → code ≡ b
    is_two b one = let flat : code ∷ mid ≡ b ∷ rest = sym is ∙ p.split ∙ ap (λ l. l ++ rest) one in cc
