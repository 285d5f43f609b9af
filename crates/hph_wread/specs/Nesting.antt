-- Instructions in blocks that aren't closed yet: section 5.4.1 of the WebAssembly Core Specification 1.0.
use Rattle.std.specs.Prelude.{◌≡◌, ℕ, zero, suc, ◌+◌, List, [], ◌∷◌, length}
use Rattle.hph_wasm.specs.Grammar.{Grammar, Byte, ◌⊳◌, Each, ResultType}
use Rattle.hph_wasm.specs.Codes.{else_code}
use Rattle.hph_wasm.specs.InstructionGrammar.{Instruction, Expression}
use Rattle.hph_wasm.specs.BlockDepth.{IsShallow, AreShallow}
use Rattle.hph_wasm.specs.Unsupported.{most_blocks, IsShallowExpression}
use Rattle.hph_wasm.specs.declared.instr.Instr.{Instr}
use Rattle.hph_wread.specs.Forms.{block_code}
use Rattle.hph_wread.specs.declared.forms.BlockForm.TheVariants.{If}
use Rattle.hph_wread.specs.declared.nest.Opening.{Opening}
use Rattle.hph_wread.specs.declared.nest.Opening.TheVariants.{Head, Else}
use Rattle.hph_wread.specs.declared.nest.Frame.{Frame}
use Rattle.hph_wread.specs.declared.nest.Nest.{Nest}
use Rattle.hph_wread.specs.declared.nest.Step.{Step}
use Rattle.hph_wread.specs.declared.nest.Step.TheVariants.{Inside, Ended}

-- what stands before the instructions of a block, or of the second branch of an `if`
abbrev pub Heading : Opening → Grammar
Heading (Head form ty) = Byte (block_code form) ⊳ ResultType ty
Heading (Else ty first) = Byte (block_code If) ⊳ ResultType ty ⊳ Each Instruction first ⊳ Byte else_code

-- a block that isn't closed, behind the instructions before it
abbrev pub Framed : Frame → Grammar
Framed frame = Each Instruction frame.before ⊳ Heading frame.opening

-- the first branch of an `if` is shallow, where so many blocks may be open in it
abbrev pub OpensShallow : ℕ → Opening → Type 0
OpensShallow room (Head form ty) = Unit {0}
OpensShallow room (Else ty first) = AreShallow room first

-- so many blocks may be open around all of these: what was read in each is shallow
abbrev pub AreKept : ℕ → List Frame → List Instr → Type 0
AreKept room [] body = AreShallow room body
AreKept zero (frame ∷ frames) body = ⊥
AreKept (suc room) (frame ∷ frames) body = AreShallow (suc room) frame.before × OpensShallow room frame.opening × AreKept room frames body

-- so many more blocks may be open in the innermost
abbrev pub HasRoom : Nest → ℕ → Type 0
HasRoom nest room = most_blocks ≡ length nest.around + room

-- an instruction is shallow behind the innermost instructions
abbrev pub StaysShallow : Nest → Instr → Type 0
StaysShallow nest i = (room : ℕ) → HasRoom nest room → IsShallow i room

-- one more block may be open behind them, and so opened
abbrev pub MayOpen : Nest → Opening → Type 0
MayOpen nest opening = (room : ℕ) × HasRoom nest (suc room) × OpensShallow room opening

-- what was opened there, and the instructions behind that, are shallow
abbrev pub WasOpen : Nest → Opening → List Instr → Type 0
WasOpen nest opening body = (room : ℕ) × HasRoom nest (suc room) × OpensShallow room opening × AreShallow room body

-- the blocks that aren't closed, and the instructions of the innermost, with no more blocks open than are read
abbrev pub Nested : Nest → Grammar
Nested nest front = (Each Framed nest.around ⊳ Each Instruction nest.body) front × AreKept most_blocks nest.around nest.body

-- where reading goes on, or has come to the end of an expression
abbrev pub Reached : Step → Nest → Grammar
Reached Inside nest = Nested nest
Reached Ended nest = λ front. Expression nest.body front × IsShallowExpression nest.body
