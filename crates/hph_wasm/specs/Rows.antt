-- How many opcodes instructions have in the binary format, `else` and the `end` of each block among them (Core Specification 1.0, 5.4).
-- Instructions inside a block are a row; `items-the_row-Instr` is their list.
use Rattle.std.specs.Prelude.{ℕ, ◌+◌, List, [], ◌∷◌}
use Rattle.hph_wasm.specs.declared.instr.Instr.{Instr, Block', Loop', If', Row_of-Instr, end_of-Instr, more_of-Instr, items-the_row-Instr, Held-Instr-If-2, None', Some'}

abbrev mutual
  -- The opcodes of an instruction.
  pub size : Instr → ℕ
  size (Block' ty shape body) = 2 + row_size body
  size (Loop' ty shape body) = 2 + row_size body
  size (If' ty shape body other) = 2 + (row_size body + else_size other)
  size _ = 1

  -- The same of the instructions inside a block.
  pub row_size : {n : _} → Row_of-Instr n → ℕ
  row_size end_of-Instr = 0
  row_size (more_of-Instr i rest) = size i + row_size rest

  -- An `else`, if there is one, and what is behind it.
  pub else_size : Held-Instr-If-2 → ℕ
  else_size None' = 0
  else_size (Some' shape body) = 1 + row_size body

-- The same of a list of instructions.
abbrev pub list_size : List Instr → ℕ
list_size [] = 0
list_size (i ∷ rest) = size i + list_size rest

-- The instructions behind an `else`; where there is none there are none (2.4.5).
abbrev pub else_code : Held-Instr-If-2 → List Instr
else_code None' = []
else_code (Some' shape body) = items-the_row-Instr _ body
