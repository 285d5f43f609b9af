-- A body as its opcodes, in the order of the binary format (Core Specification 1.0, 5.4), which the place of a trap counts.
use Rattle.std.specs.Prelude.{List, [], ◌∷◌, ◌++◌}
use Rattle.hph_wasm.specs.declared.instr.Instr.{Instr, Block', Loop', If', Row_of-Instr, end_of-Instr, more_of-Instr, Held-Instr-If-2, None', Some'}

-- The opcode of an instruction, an `else`, or an `end`.
pub data Opcode : Type 0 where
  Of : (i : Instr) → Opcode
  ElseOfCode : Opcode
  EndOfCode : Opcode

abbrev mutual
  -- An instruction's own opcode, and for a block those inside and its `end`.
  pub instr_opcodes : Instr → List Opcode
  instr_opcodes (Block' ty shape body) = Of (Block' ty shape body) ∷ (row_opcodes body ++ EndOfCode ∷ [])
  instr_opcodes (Loop' ty shape body) = Of (Loop' ty shape body) ∷ (row_opcodes body ++ EndOfCode ∷ [])
  instr_opcodes (If' ty shape body other) =
      Of (If' ty shape body other) ∷ (row_opcodes body ++ (else_opcodes other ++ EndOfCode ∷ []))
  instr_opcodes i = Of i ∷ []

  -- The same of the instructions inside a block.
  pub row_opcodes : {n : _} → Row_of-Instr n → List Opcode
  row_opcodes end_of-Instr = []
  row_opcodes (more_of-Instr i rest) = instr_opcodes i ++ row_opcodes rest

  -- An `else`, if there is one, and what is behind it.
  pub else_opcodes : Held-Instr-If-2 → List Opcode
  else_opcodes None' = []
  else_opcodes (Some' shape body) = ElseOfCode ∷ row_opcodes body

-- The same of a list of instructions.
abbrev pub opcodes : List Instr → List Opcode
opcodes [] = []
opcodes (i ∷ rest) = instr_opcodes i ++ opcodes rest
