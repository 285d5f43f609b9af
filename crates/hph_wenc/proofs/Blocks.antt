-- The instructions inside a block, as the list that the source holds.
use Rattle.std.proofs.Common.{◌≡◌, ◌∙◌, List, [], ◌∷◌, ◌++◌, refl, ap, sym, flat_map, append_assoc, Some, None}
use Rattle.std.specs.Prelude.{Result, Ok, Err, OnOk}
use Rattle.hph_wasm.specs.Grammar.{result_byte}
use Rattle.hph_wasm.specs.Spelling.{instr_bytes, row_bytes, expression_bytes}
use Rattle.hph_wasm.specs.declared.types.BlockType.{BlockType}
use Rattle.hph_wenc.specs.Code.{first_branch_bytes}
use Rattle.hph_wenc.specs.Fits.{InstrFits, RowFits, ExpressionFits}
use Rattle.hph_wasm.specs.declared.instr.Instr.{Instr}
use Rattle.hph_wasm.specs.declared.instr.Instr.TheViews as view
use Rattle.hph_wasm.specs.declared.instr.Instr.TheBlock.{hidden-the_row-Instr-0}

-- the bytes of the instructions inside are those of the list
row_bytes-list : (body : List Instr) → row_bytes (hidden-the_row-Instr-0 body) ≡ flat_map instr_bytes body
unfolding hidden-the_row-Instr-0 denote.Hole.Carrier.hidden
row_bytes-list [] = refl
row_bytes-list (i ∷ body) = ap (λ bytes. instr_bytes i ++ bytes) (row_bytes-list body)

-- a block is written as its type and an expression
pub block_bytes : (ty : BlockType) (body : List Instr) → instr_bytes (view.Block ty body) ≡ 0x02 ∷ (result_byte ty.result ∷ expression_bytes body)
block_bytes ty body = ap (λ bytes. 0x02 ∷ (result_byte ty.result ∷ (bytes ++ 0x0B ∷ []))) (row_bytes-list body)

-- and so is a loop
pub loop_bytes : (ty : BlockType) (body : List Instr) → instr_bytes (view.Loop ty body) ≡ 0x03 ∷ (result_byte ty.result ∷ expression_bytes body)
loop_bytes ty body = ap (λ bytes. 0x03 ∷ (result_byte ty.result ∷ (bytes ++ 0x0B ∷ []))) (row_bytes-list body)

-- and an `if` that has no `else`
pub if_alone_bytes : (ty : BlockType) (body : List Instr) → instr_bytes (view.If ty body None) ≡ 0x04 ∷ (result_byte ty.result ∷ expression_bytes body)
if_alone_bytes ty body = ap (λ bytes. 0x04 ∷ (result_byte ty.result ∷ (bytes ++ 0x0B ∷ []))) (row_bytes-list body)

-- and one that has, as both branches
pub if_else_bytes : (ty : BlockType) (body other : List Instr) → instr_bytes (view.If ty body (Some other)) ≡ 0x04 ∷ (result_byte ty.result ∷ (first_branch_bytes body ++ expression_bytes other))
if_else_bytes ty body other =
    ap (λ bytes. 0x04 ∷ (result_byte ty.result ∷ (bytes ++ (0x05 ∷ (row_bytes (hidden-the_row-Instr-0 other) ++ 0x0B ∷ []))))) (row_bytes-list body)
    ∙ ap (λ bytes. 0x04 ∷ (result_byte ty.result ∷ (flat_map instr_bytes body ++ (0x05 ∷ (bytes ++ 0x0B ∷ []))))) (row_bytes-list other)
    ∙ ap (λ bytes. 0x04 ∷ (result_byte ty.result ∷ bytes)) (sym (append_assoc (flat_map instr_bytes body) (0x05 ∷ []) (expression_bytes other)))

-- what is asked of each instruction of the list is asked of those inside
RowFits-list : (body : List Instr) → ExpressionFits body → RowFits (hidden-the_row-Instr-0 body)
unfolding hidden-the_row-Instr-0 denote.Hole.Carrier.hidden
RowFits-list [] fit = tt
RowFits-list (i ∷ body) fit = (fit.0, RowFits-list body fit.1)

-- a block fits where what is inside does
pub block_fits : {T E : Type 0} (r : Result T E) (ty : BlockType) (body : List Instr) → OnOk r (ExpressionFits body) → OnOk r (InstrFits (view.Block ty body))
block_fits (Ok v) ty body fit = RowFits-list body fit
block_fits (Err e) ty body fit = tt

-- so does a loop
pub loop_fits : {T E : Type 0} (r : Result T E) (ty : BlockType) (body : List Instr) → OnOk r (ExpressionFits body) → OnOk r (InstrFits (view.Loop ty body))
loop_fits (Ok v) ty body fit = RowFits-list body fit
loop_fits (Err e) ty body fit = tt

-- and an `if` that has no `else`
pub if_alone_fits : {T E : Type 0} (r : Result T E) (ty : BlockType) (body : List Instr) → OnOk r (ExpressionFits body) → OnOk r (InstrFits (view.If ty body None))
if_alone_fits (Ok v) ty body fit = (RowFits-list body fit, tt)
if_alone_fits (Err e) ty body fit = tt

-- and one that has, where both branches do
pub if_else_fits : {T E : Type 0} (r : Result T E) (ty : BlockType) (body other : List Instr) → ExpressionFits body → OnOk r (ExpressionFits other) → OnOk r (InstrFits (view.If ty body (Some other)))
if_else_fits (Ok v) ty body other first second = (RowFits-list body first, RowFits-list other second)
if_else_fits (Err e) ty body other first second = tt
