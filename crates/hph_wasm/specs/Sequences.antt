-- Sequences of instructions as the Core Specification 1.0 rewrites them (4.2.13): values, labels, frames and invocations stand in
-- them beside a program's instructions.
use Rattle.std.specs.Prelude.{ℕ, suc, List, [], ◌∷◌}
use Rattle.hph_wasm.specs.declared.instr.Instr.{Instr, Block', Loop', If', Row_of-Instr, items-the_row-Instr, Held-Instr-If-2}
use Rattle.hph_wasm.specs.declared.value.Value.{Value}
use Rattle.hph_wasm.specs.declared.types.BlockType.{BlockType}
use Rattle.hph_wasm.specs.Rows.{else_code}

mutual
  -- Instructions, those that a program can't have among them (4.2.13).
  pub data Administrative : Type 0 where
    Plain : (i : Instr) → Administrative
    Constant : (v : Value) → Administrative
    Invoke : (function : ℕ) → Administrative
    Labelled : (arity : ℕ) → (continuation : List Instr) → (body : Sequence) → Administrative
    Framed : (arity : ℕ) → (locals : List Value) → (body : Sequence) → Administrative

  pub data Sequence : Type 0 where
    Empty : Sequence
    Then : (first : Administrative) → (rest : Sequence) → Sequence

-- One sequence behind another.
abbrev pub join : Sequence → Sequence → Sequence
join Empty b = b
join (Then first a) b = Then first (join a b)

-- One instruction.
abbrev pub single : Administrative → Sequence
single i = Then i Empty

-- A program's instructions.
abbrev pub plain : List Instr → Sequence
plain [] = Empty
plain (i ∷ code) = Then (Plain i) (plain code)

-- Values, of which the list has the first one first, as the arguments of a call.
abbrev pub constants : List Value → Sequence
constants [] = Empty
constants (v ∷ values) = Then (Constant v) (constants values)

-- Values, of which the list has the last one first, as a stack.
abbrev pub stack : List Value → Sequence
stack [] = Empty
stack (v ∷ values) = join (stack values) (single (Constant v))

-- Instructions behind values that they take.
abbrev pub on_stack : List Value → Administrative → Sequence
on_stack values i = join (stack values) (single i)

-- Block contexts (4.2.13.1): a sequence stands inside so many labels, at each behind values and before other instructions.
pub data InLabels (inside : Sequence) : ℕ → Sequence → Type 0 where
  here : (values : List Value) (rest : Sequence) → InLabels inside 0 (join (stack values) (join inside rest))
  in_one : (values : List Value) (arity : ℕ) (continuation : List Instr) (rest : Sequence) (k : ℕ) (body : Sequence) →
      InLabels inside k body → InLabels inside (suc k) (join (stack values) (Then (Labelled arity continuation body) rest))

-- An instruction is the block of a type with these instructions inside.
pub data IsBlock : Instr → BlockType → List Instr → Type 0 where
  is_block : (ty : BlockType) (shape : _) (body : Row_of-Instr _) → IsBlock (Block' ty shape body) ty (items-the_row-Instr _ body)

-- The same of a loop.
pub data IsLoop : Instr → List Instr → Type 0 where
  is_loop : (ty : BlockType) (shape : _) (body : Row_of-Instr _) → IsLoop (Loop' ty shape body) (items-the_row-Instr _ body)

-- The same of an `if` with these two branches.
pub data IsIf : Instr → BlockType → List Instr → List Instr → Type 0 where
  is_if : (ty : BlockType) (shape : _) (body : Row_of-Instr _) (other : Held-Instr-If-2) →
      IsIf (If' ty shape body other) ty (items-the_row-Instr _ body) (else_code other)
