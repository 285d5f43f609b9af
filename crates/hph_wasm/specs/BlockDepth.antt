-- How deep the blocks of an instruction are nested. The Core Specification 1.0 (7.2.1) lets an implementation limit that.
use Rattle.std.specs.Prelude.{ℕ, zero, suc, List}
use Rattle.std.specs.List.{AllByRecursion}
use Rattle.hph_wasm.specs.declared.instr.Instr.{Instr, Block', Loop', If', Row_of-Instr, end_of-Instr, more_of-Instr, Held-Instr-If-2, None', Some'}

-- one block more is opened where so many may be, and this holds of how many may be inside it
abbrev pub Opened : ℕ → (ℕ → Type 0) → Type 0
Opened zero Inside = ⊥
Opened (suc room) Inside = Inside room

abbrev mutual
  -- at most so many blocks, loops and ifs of the instruction, itself among them, are open at once
  pub IsShallow : Instr → ℕ → Type 0
  IsShallow (Block' ty shape body) room = Opened room (AllShallow body)
  IsShallow (Loop' ty shape body) room = Opened room (AllShallow body)
  IsShallow (If' ty shape body other) room = Opened room (λ inside. AllShallow body inside × OtherShallow other inside)
  IsShallow i room = Unit {0}

  -- and so of each of these
  pub AllShallow : {n : _} → Row_of-Instr n → ℕ → Type 0
  AllShallow end_of-Instr room = Unit {0}
  AllShallow (more_of-Instr i rest) room = IsShallow i room × AllShallow rest room

  -- and of a second branch, where there is one
  pub OtherShallow : Held-Instr-If-2 → ℕ → Type 0
  OtherShallow None' room = Unit {0}
  OtherShallow (Some' shape body) room = AllShallow body room

-- instructions of each of which at most so many blocks are open at once
abbrev pub AreShallow : ℕ → List Instr → Type 0
AreShallow room body = AllByRecursion (λ i. IsShallow i room) body
