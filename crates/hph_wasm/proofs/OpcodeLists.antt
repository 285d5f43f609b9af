-- The opcodes of a body, by the lists of its instructions.
use Rattle.std.proofs.Common.{◌≡◌, ◌<◌, suc, List, [], ◌∷◌, ◌++◌, length, length-append, refl, ap, arith}
use Rattle.hph_wasm.specs.declared.instr.Instr.{Instr, Unreachable, Nop, Block', Loop', If', Br, BrIf, BrTable, Return, Call, CallIndirect, Drop, Select, LocalGet, LocalSet, LocalTee, GlobalGet, GlobalSet, Load, LoadNarrow, StoreNarrow, I32Const, I64Const, Eqz, Compare, Unary, Binary, Wrap, Extend, Row_of-Instr, end_of-Instr, more_of-Instr, items-the_row-Instr, Held-Instr-If-2, None', Some'}
use Rattle.hph_wasm.specs.declared.instr.Instr as instr
use Rattle.hph_wasm.specs.Rows.{size, row_size, else_size, list_size}
use Rattle.hph_wasm.specs.Opcodes.{Opcode, Of, EndOfCode, instr_opcodes, row_opcodes, else_opcodes, opcodes}

mutual
  -- An instruction has as many opcodes as its size says.
  instr_opcodes-length : (i : Instr) → length (instr_opcodes i) ≡ size i
  instr_opcodes-length (Block' ty shape body) = omega (arith, length-append (row_opcodes body) (EndOfCode ∷ []), row_opcodes-length body)
  instr_opcodes-length (Loop' ty shape body) = omega (arith, length-append (row_opcodes body) (EndOfCode ∷ []), row_opcodes-length body)
  instr_opcodes-length (If' ty shape body other) = omega (
    arith,
    length-append (row_opcodes body) (else_opcodes other ++ EndOfCode ∷ []),
    length-append (else_opcodes other) (EndOfCode ∷ []),
    row_opcodes-length body,
    else_opcodes-length other,
  )
  instr_opcodes-length Unreachable = refl
  instr_opcodes-length Nop = refl
  instr_opcodes-length (Br k) = refl
  instr_opcodes-length (BrIf k) = refl
  instr_opcodes-length (BrTable ks k) = refl
  instr_opcodes-length Return = refl
  instr_opcodes-length (Call f) = refl
  instr_opcodes-length (CallIndirect number) = refl
  instr_opcodes-length Drop = refl
  instr_opcodes-length Select = refl
  instr_opcodes-length (LocalGet x) = refl
  instr_opcodes-length (LocalSet x) = refl
  instr_opcodes-length (LocalTee x) = refl
  instr_opcodes-length (GlobalGet x) = refl
  instr_opcodes-length (GlobalSet x) = refl
  instr_opcodes-length (Load ty arg) = refl
  instr_opcodes-length (LoadNarrow load arg) = refl
  instr_opcodes-length (instr.Store ty arg) = refl
  instr_opcodes-length (StoreNarrow store arg) = refl
  instr_opcodes-length (I32Const z) = refl
  instr_opcodes-length (I64Const z) = refl
  instr_opcodes-length (Eqz ty) = refl
  instr_opcodes-length (Compare ty o) = refl
  instr_opcodes-length (Unary ty o) = refl
  instr_opcodes-length (Binary ty o) = refl
  instr_opcodes-length Wrap = refl
  instr_opcodes-length (Extend sign) = refl

  -- The same of a row.
  row_opcodes-length : {n : _} (row : Row_of-Instr n) → length (row_opcodes row) ≡ row_size row
  row_opcodes-length end_of-Instr = refl
  row_opcodes-length (more_of-Instr i rest) =
      omega (arith, length-append (instr_opcodes i) (row_opcodes rest), instr_opcodes-length i, row_opcodes-length rest)

  -- The same of an `else`.
  pub else_opcodes-length : (other : Held-Instr-If-2) → length (else_opcodes other) ≡ else_size other
  else_opcodes-length None' = refl
  else_opcodes-length (Some' shape body) = omega (arith, row_opcodes-length body)

-- The same of a list.
pub opcodes-length : (code : List Instr) → length (opcodes code) ≡ list_size code
opcodes-length [] = refl
opcodes-length (i ∷ rest) = omega (arith, length-append (instr_opcodes i) (opcodes rest), instr_opcodes-length i, opcodes-length rest)

-- A row has the opcodes of its list.
pub row_opcodes-list : {n : _} (row : Row_of-Instr n) → row_opcodes row ≡ opcodes (items-the_row-Instr _ row)
row_opcodes-list end_of-Instr = refl
row_opcodes-list (more_of-Instr i rest) = ap (λ l. instr_opcodes i ++ l) (row_opcodes-list rest)

-- An instruction's own opcode is the first.
pub instr_opcodes-first : (i : Instr) → (more : List Opcode) × (instr_opcodes i ≡ Of i ∷ more)
instr_opcodes-first (Block' ty shape body) = (row_opcodes body ++ EndOfCode ∷ [], refl)
instr_opcodes-first (Loop' ty shape body) = (row_opcodes body ++ EndOfCode ∷ [], refl)
instr_opcodes-first (If' ty shape body other) = (row_opcodes body ++ (else_opcodes other ++ EndOfCode ∷ []), refl)
instr_opcodes-first Unreachable = ([], refl)
instr_opcodes-first Nop = ([], refl)
instr_opcodes-first (Br k) = ([], refl)
instr_opcodes-first (BrIf k) = ([], refl)
instr_opcodes-first (BrTable ks k) = ([], refl)
instr_opcodes-first Return = ([], refl)
instr_opcodes-first (Call f) = ([], refl)
instr_opcodes-first (CallIndirect number) = ([], refl)
instr_opcodes-first Drop = ([], refl)
instr_opcodes-first Select = ([], refl)
instr_opcodes-first (LocalGet x) = ([], refl)
instr_opcodes-first (LocalSet x) = ([], refl)
instr_opcodes-first (LocalTee x) = ([], refl)
instr_opcodes-first (GlobalGet x) = ([], refl)
instr_opcodes-first (GlobalSet x) = ([], refl)
instr_opcodes-first (Load ty arg) = ([], refl)
instr_opcodes-first (LoadNarrow load arg) = ([], refl)
instr_opcodes-first (instr.Store ty arg) = ([], refl)
instr_opcodes-first (StoreNarrow store arg) = ([], refl)
instr_opcodes-first (I32Const z) = ([], refl)
instr_opcodes-first (I64Const z) = ([], refl)
instr_opcodes-first (Eqz ty) = ([], refl)
instr_opcodes-first (Compare ty o) = ([], refl)
instr_opcodes-first (Unary ty o) = ([], refl)
instr_opcodes-first (Binary ty o) = ([], refl)
instr_opcodes-first Wrap = ([], refl)
instr_opcodes-first (Extend sign) = ([], refl)

-- So it has one.
pub size-positive : (i : Instr) → 0 < size i
size-positive i =
    let (more, first) = instr_opcodes-first i in
    let counted : length (instr_opcodes i) ≡ suc (length more) = ap length first in
    omega (arith, counted, instr_opcodes-length i)
