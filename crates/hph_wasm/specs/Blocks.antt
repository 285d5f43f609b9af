-- What the rules say of a block, a loop or an `if` by the lists of their instructions, for those who build them from lists, and of
-- what takes no values.
use Rattle.std.specs.Prelude.{◌≡◌, ◌↔◌, ℕ, ◌+◌, List, [], ◌∷◌, ◌++◌, Option}
use Rattle.hph_wasm.specs.declared.instr.Instr.{Instr}
use Rattle.hph_wasm.specs.declared.instr.Instr.TheViews as view
use Rattle.hph_wasm.specs.declared.types.ValType.{ValType}
use Rattle.hph_wasm.specs.declared.types.ValType.TheVariants.{I32}
use Rattle.hph_wasm.specs.declared.types.BlockType.{BlockType}
use Rattle.hph_wasm.specs.declared.value.Value.{Value}
use Rattle.hph_wasm.specs.declared.value.Value.TheVariants as value
use Rattle.hph_wasm.specs.declared.module.Module.{Module}
use Rattle.hph_wasm.specs.Choice.{if_some, if_zero}
use Rattle.hph_wasm.specs.Rows.{size, list_size}
use Rattle.hph_wasm.specs.Validity.{Context, under_label, results_of, Takes, IsInstr, IsSequence}
use Rattle.hph_wasm.specs.Configuration.{Host, Label, Frame, Store, Setting, Configuration, Running}
use Rattle.hph_wasm.specs.Reduction.{block_label, loop_label, after_return, end_of_function, block_entry, return_step, branch_step, step}

-- A block's own opcode and its `end` are two more than what is inside.
abbrev pub BlocksAddTwo : Type 0
BlocksAddTwo = (ty : BlockType) (body : List Instr) → size (view.Block ty body) ≡ 2 + list_size body

-- The same of a loop.
abbrev pub LoopsAddTwo : Type 0
LoopsAddTwo = (ty : BlockType) (body : List Instr) → size (view.Loop ty body) ≡ 2 + list_size body

-- A block is valid where what is inside is.
abbrev pub BlocksAreSequences : Type 0
BlocksAreSequences = (m : Module) (c : Context) (ty : BlockType) (body : List Instr) (from to : List ValType) →
    IsInstr m c (view.Block ty body) from to ↔
    (IsSequence m (under_label (results_of ty) c) body [] (results_of ty) × Takes [] (results_of ty) from to)

-- The same of a loop.
abbrev pub LoopsAreSequences : Type 0
LoopsAreSequences = (m : Module) (c : Context) (ty : BlockType) (body : List Instr) (from to : List ValType) →
    IsInstr m c (view.Loop ty body) from to ↔
    (IsSequence m (under_label [] c) body [] (results_of ty) × Takes [] (results_of ty) from to)

-- A block is entered at the first instruction inside.
abbrev pub BlocksAreEntered : {H E : Type 0} → Host H E → Module → Type 0
BlocksAreEntered {H} host m = (ty : BlockType) (body rest : List Instr) (values : List Value) (at : Setting H) →
    step host m (Running (view.Block ty body ∷ rest) values at) ≡ block_entry host m (block_label ty values rest) body at

-- The same of a loop.
abbrev pub LoopsAreEntered : {H E : Type 0} → Host H E → Module → Type 0
LoopsAreEntered {H} host m = (ty : BlockType) (body rest : List Instr) (values : List Value) (at : Setting H) →
    step host m (Running (view.Loop ty body ∷ rest) values at) ≡ block_entry host m (loop_label (view.Loop ty body) values rest) body at

-- What stands behind an `else`; nothing where there is none.
abbrev pub else_list : Option (List Instr) → List Instr
else_list other = if_some other [] (λ code. code)

-- The opcodes of an `else` and what is behind it.
abbrev pub else_list_size : Option (List Instr) → ℕ
else_list_size other = if_some other 0 (λ code. 1 + list_size code)

-- An `if` has its own opcode, its `end`, what is inside, and its `else`.
abbrev pub IfsAddTwo : Type 0
IfsAddTwo = (ty : BlockType) (body : List Instr) (other : Option (List Instr)) →
    size (view.If ty body other) ≡ 2 + (list_size body + else_list_size other)

-- An `if` is valid where both branches are.
abbrev pub IfsAreSequences : Type 0
IfsAreSequences = (m : Module) (c : Context) (ty : BlockType) (body : List Instr) (other : Option (List Instr)) (from to : List ValType) →
    IsInstr m c (view.If ty body other) from to ↔
    (IsSequence m (under_label (results_of ty) c) body [] (results_of ty) ×
    IsSequence m (under_label (results_of ty) c) (else_list other) [] (results_of ty) × Takes (I32 ∷ []) (results_of ty) from to)

-- The label of a branch: so many opcodes stand between the instructions inside and those outside.
abbrev pub branch_label : BlockType → ℕ → List Value → List Instr → Label
branch_label ty after values rest = record (block_label ty values rest) { after = after }

-- An `if` is entered at the first instruction of a branch.
abbrev pub IfsAreEntered : {H E : Type 0} → Host H E → Module → Type 0
IfsAreEntered {H} host m = (ty : BlockType) (body : List Instr) (other : Option (List Instr)) (n : ℕ) (rest : List Instr)
    (values : List Value) (at : Setting H) →
    step host m (Running (view.If ty body other ∷ rest) (value.I32 n ∷ values) at) ≡ if_zero n
    (block_entry host m (block_label ty values rest) (else_list other) at)
    (block_entry host m (branch_label ty (1 + else_list_size other) values rest) body at)

-- A branch to a label that takes no value goes on with the label's continuation, whatever is on the stack.
abbrev pub EmptyLabelsAreLeft : {H E : Type 0} → Host H E → Module → Type 0
EmptyLabelsAreLeft {H} {E} host m = (label : Label) (labels : List Label) (values : List Value) (at : Setting H)
    (stuck : Configuration H E) → label.arity ≡ 0 → branch_step host m 0 values (label ∷ labels) at stuck ≡
    Running (label.continuation ++ label.rest) label.values (record at { labels = labels })

-- A return from a function that gives no value leads to its caller, whatever is on the stack; so does a branch to its outermost label.
abbrev pub EmptyFramesAreLeft : {H E : Type 0} → Host H E → Module → Type 0
EmptyFramesAreLeft {H} {E} host m = (frame : Frame) (frames : List Frame) (values : List Value) (store : Store H)
    (stuck : Configuration H E) → frame.arity ≡ 0 →
    return_step host m values (frame ∷ frames) store stuck ≡ after_return host m frame frames [] store

-- The end of such a function leads there too, where its stack is empty.
abbrev pub EmptyFramesEnd : {H E : Type 0} → Host H E → Module → Type 0
EmptyFramesEnd {H} {E} host m = (frame : Frame) (frames : List Frame) (store : Store H) (stuck : Configuration H E) →
    frame.arity ≡ 0 → end_of_function host m [] (frame ∷ frames) store stuck ≡ after_return host m frame frames [] store
