-- The instructions of a block as a list.
use Rattle.std.proofs.Common.{◌≡◌, ◌∙◌, ◌+◌, List, [], Some, None, ap, refl, sym, subst}
use Rattle.std.specs.Prelude.{zero, suc}
use Rattle.hph_wasm.specs.declared.instr.Instr.{Instr, Row_of-Instr, end_of-Instr, more_of-Instr, Held-Instr-If-2, None', Some', items-the_row-Instr, items_hidden-the_row-Instr-0}
use Rattle.hph_wasm.specs.declared.instr.Instr.TheBlock.{hidden-the_row-Instr-0}
use Rattle.hph_wasm.specs.declared.instr.Instr.TheViews as view
use Rattle.hph_wasm.specs.declared.types.ValType.{ValType}
use Rattle.hph_wasm.specs.declared.module.Module.{Module}
use Rattle.hph_wasm.specs.Rows.{size, row_size, list_size, else_code}
use Rattle.hph_wasm.specs.Validity.{Context, under_label, results_of, IsRow, IsElse, IsSequence}
use Rattle.hph_wasm.specs.Configuration.{Host}
use Rattle.hph_wasm.specs.Reduction.{block_label, loop_label, block_entry}
use Rattle.hph_wasm.specs.Blocks.{BlocksAddTwo, LoopsAddTwo, IfsAddTwo, BlocksAreSequences, LoopsAreSequences, IfsAreSequences, BlocksAreEntered, LoopsAreEntered, IfsAreEntered, branch_label}

-- A row has as many opcodes as its list.
pub row_size-list : {n : _} (row : Row_of-Instr n) → row_size row ≡ list_size (items-the_row-Instr _ row)
row_size-list end_of-Instr = refl
row_size-list (more_of-Instr i rest) = ap (λ k. size i + k) (row_size-list rest)

-- A row is valid where its list is.
pub row-sequence : {n : _} (m : Module) (c : Context) (row : Row_of-Instr n) (from to : List ValType) → IsRow m c row from to →
    IsSequence m c (items-the_row-Instr _ row) from to
row-sequence m c end_of-Instr from to valid = valid
row-sequence m c (more_of-Instr i rest) from to valid = (valid.0, valid.1, row-sequence m c rest valid.0 to valid.2)

-- And the other way round.
pub sequence-row : {n : _} (m : Module) (c : Context) (row : Row_of-Instr n) (from to : List ValType) →
    IsSequence m c (items-the_row-Instr _ row) from to → IsRow m c row from to
sequence-row m c end_of-Instr from to valid = valid
sequence-row m c (more_of-Instr i rest) from to valid = (valid.0, valid.1, sequence-row m c rest valid.0 to valid.2)

-- A second branch is valid where its list is.
pub else-sequence : (m : Module) (c : Context) (other : Held-Instr-If-2) (to : List ValType) → IsElse m c other to →
    IsSequence m c (else_code other) [] to
else-sequence m c None' to valid = valid
else-sequence m c (Some' shape body) to valid = row-sequence m c body [] to valid

-- A list's row has the list's instructions.
pub listed : (body : List Instr) → items-the_row-Instr _ (hidden-the_row-Instr-0 body) ≡ body
listed body = items_hidden-the_row-Instr-0 body

-- So it has as many opcodes.
pub listed-size : (body : List Instr) → row_size (hidden-the_row-Instr-0 body) ≡ list_size body
listed-size body = row_size-list (hidden-the_row-Instr-0 body) ∙ ap list_size (listed body)

-- A block's own opcode and its `end` are two more.
pub size-block : BlocksAddTwo
size-block ty body = ap (λ n. 2 + n) (listed-size body)

-- The same of a loop.
pub size-loop : LoopsAddTwo
size-loop ty body = ap (λ n. 2 + n) (listed-size body)

-- The same of an `if`, with its `else`.
pub size-if : IfsAddTwo
size-if ty body None = ap (λ n. 2 + (n + 0)) (listed-size body)
size-if ty body (Some code) = ap (λ n. 2 + n) (ap (λ n. n + (1 + row_size (hidden-the_row-Instr-0 code))) (listed-size body) ∙ ap (λ n. list_size body + (1 + n)) (listed-size code))

-- A block is valid where what is inside is.
pub valid-block : BlocksAreSequences
valid-block m c ty body from to =
    let inside : List Instr → Type 0 = λ list. IsSequence m (under_label (results_of ty) c) list [] (results_of ty) in (
      λ valid. (subst inside (listed body) (row-sequence m _ (hidden-the_row-Instr-0 body) [] (results_of ty) valid.0), valid.1),
      λ valid. (sequence-row m _ (hidden-the_row-Instr-0 body) [] (results_of ty) (subst inside (sym (listed body)) valid.0), valid.1),
    )

-- The same of a loop.
pub valid-loop : LoopsAreSequences
valid-loop m c ty body from to =
    let inside : List Instr → Type 0 = λ list. IsSequence m (under_label [] c) list [] (results_of ty) in (
      λ valid. (subst inside (listed body) (row-sequence m _ (hidden-the_row-Instr-0 body) [] (results_of ty) valid.0), valid.1),
      λ valid. (sequence-row m _ (hidden-the_row-Instr-0 body) [] (results_of ty) (subst inside (sym (listed body)) valid.0), valid.1),
    )

-- An `if` is valid where both branches are.
pub valid-if : IfsAreSequences
valid-if m c ty body None from to =
    let inside : List Instr → Type 0 = λ list. IsSequence m (under_label (results_of ty) c) list [] (results_of ty) in (
      λ valid. (subst inside (listed body) (row-sequence m _ (hidden-the_row-Instr-0 body) [] (results_of ty) valid.0), valid.1, valid.2),
      λ valid. (sequence-row m _ (hidden-the_row-Instr-0 body) [] (results_of ty) (subst inside (sym (listed body)) valid.0), valid.1, valid.2),
    )
valid-if m c ty body (Some code) from to =
    let inside : List Instr → Type 0 = λ list. IsSequence m (under_label (results_of ty) c) list [] (results_of ty) in (
      λ valid. (
        subst inside (listed body) (row-sequence m _ (hidden-the_row-Instr-0 body) [] (results_of ty) valid.0),
        subst inside (listed code) (row-sequence m _ (hidden-the_row-Instr-0 code) [] (results_of ty) valid.1),
        valid.2,
      ),
      λ valid. (
        sequence-row m _ (hidden-the_row-Instr-0 body) [] (results_of ty) (subst inside (sym (listed body)) valid.0),
        sequence-row m _ (hidden-the_row-Instr-0 code) [] (results_of ty) (subst inside (sym (listed code)) valid.1),
        valid.2,
      ),
    )

-- A block is entered at the first instruction inside.
pub step-block : {H E : Type 0} (host : Host H E) (m : Module) → BlocksAreEntered host m
step-block host m ty body rest values at =
    ap (λ list. block_entry host m (block_label ty values rest) list at) (listed body)

-- The same of a loop.
pub step-loop : {H E : Type 0} (host : Host H E) (m : Module) → LoopsAreEntered host m
step-loop host m ty body rest values at =
    ap (λ list. block_entry host m (loop_label (view.Loop ty body) values rest) list at) (listed body)

-- An `if` is entered at the first instruction of a branch.
pub step-if : {H E : Type 0} (host : Host H E) (m : Module) → IfsAreEntered host m
step-if host m ty body None zero rest values at = refl
step-if host m ty body None (suc n) rest values at =
    ap (λ list. block_entry host m (branch_label ty (1 + 0) values rest) list at) (listed body)
step-if host m ty body (Some code) zero rest values at =
    ap (λ list. block_entry host m (block_label ty values rest) list at) (listed code)
step-if host m ty body (Some code) (suc n) rest values at =
    ap (λ list. block_entry host m (branch_label ty (1 + (1 + row_size (hidden-the_row-Instr-0 code))) values rest) list at) (listed body) ∙
    ap (λ size. block_entry host m (branch_label ty (1 + (1 + size)) values rest) body at) (listed-size code)
