-- Instructions that hold others are as the source writes them, with lists; so what is none of those has only an opcode and immediates.
use Rattle.std.proofs.Common.{◌≡◌, List, [], ◌∷◌, refl, sym, Option, Some, None}
use mathlib.Core.Former.{Count, this, list, arity}
use Rattle.hph_wasm.specs.Codes.{opcode}
use Rattle.hph_wasm.specs.Spelling.{immediate_bytes, instr_bytes}
use Rattle.hph_wasm.specs.declared.types.BlockType.{BlockType}
use Rattle.hph_wasm.specs.declared.instr.Instr.{Instr, Unreachable, Nop, Block', Loop', If', Br, BrIf, BrTable, Return, Call, CallIndirect, Drop, Select, LocalGet, LocalSet, LocalTee, GlobalGet, GlobalSet, Load, LoadNarrow, Store, StoreNarrow, I32Const, I64Const, Eqz, Compare, Unary, Binary, Wrap, Extend, Row_of-Instr, end_of-Instr, more_of-Instr, None', Some', items-the_row-Instr, items_hidden-the_row-Instr-0}
use Rattle.hph_wasm.specs.declared.instr.Instr.TheBlock.{hidden-the_row-Instr-0, shape-the_row-Instr-0}
use Rattle.hph_wasm.specs.declared.instr.Instr.TheViews as view
use Rattle.hph_wenc.specs.Fits.{ImmediatesFit, InstrFits}

-- how many instructions a row of this shape has
abbrev count_of : List (Unit {0}) → Count
count_of shape = arity (list this) shape

-- the list of a row
abbrev list_of : {n : _} → Row_of-Instr n → List Instr
list_of row = items-the_row-Instr _ row

-- a row and its shape are determined by the instructions in it
rows_same : (shape shape' : List (Unit {0})) (row : Row_of-Instr (count_of shape)) (row' : Row_of-Instr (count_of shape')) → list_of row ≡ list_of row' →
    ◌≡◌ {A = (s : List (Unit {0})) × Row_of-Instr (count_of s)} (shape, row) (shape', row')
rows_same [] [] end_of-Instr end_of-Instr same = refl
rows_same [] (u ∷ shape') end_of-Instr (more_of-Instr i row') same = cc
rows_same (u ∷ shape) [] (more_of-Instr i row) end_of-Instr same = cc
rows_same (u ∷ shape) (v ∷ shape') (more_of-Instr i row) (more_of-Instr j row') same =
    let heads : i ≡ j = cc in
    let tails : list_of row ≡ list_of row' = cc in
    let rows = rows_same shape shape' row row' tails in
    λ k. (tt ∷ (rows k).0, more_of-Instr {n = count_of (rows k).0} (heads k) (rows k).1)

-- so a row is that of its list
row_shown : (shape : List (Unit {0})) (row : Row_of-Instr (count_of shape)) →
    ◌≡◌ {A = (s : List (Unit {0})) × Row_of-Instr (count_of s)} (shape, row) (shape-the_row-Instr-0 (list_of row), hidden-the_row-Instr-0 (list_of row))
row_shown shape row = rows_same shape _ row (hidden-the_row-Instr-0 (list_of row)) (sym (items_hidden-the_row-Instr-0 (list_of row)))

-- each block, each loop and each `if` is one with lists
block_shown : (ty : BlockType) (shape : List (Unit {0})) (row : Row_of-Instr (count_of shape)) → Block' ty shape row ≡ view.Block ty (list_of row)
block_shown ty shape row = let rows = row_shown shape row in λ k. Block' ty (rows k).0 (rows k).1

loop_shown : (ty : BlockType) (shape : List (Unit {0})) (row : Row_of-Instr (count_of shape)) → Loop' ty shape row ≡ view.Loop ty (list_of row)
loop_shown ty shape row = let rows = row_shown shape row in λ k. Loop' ty (rows k).0 (rows k).1

if_alone_shown : (ty : BlockType) (shape : List (Unit {0})) (row : Row_of-Instr (count_of shape)) → If' ty shape row None' ≡ view.If ty (list_of row) None
if_alone_shown ty shape row = let rows = row_shown shape row in λ k. If' ty (rows k).0 (rows k).1 None'

if_else_shown : (ty : BlockType) (shape shape' : List (Unit {0})) (row : Row_of-Instr (count_of shape)) (row' : Row_of-Instr (count_of shape')) →
    If' ty shape row (Some' shape' row') ≡ view.If ty (list_of row) (Some (list_of row'))
if_else_shown ty shape shape' row row' = let rows = row_shown shape row in let rows' = row_shown shape' row' in λ k. If' ty (rows k).0 (rows k).1 (Some' (rows' k).0 (rows' k).1)

-- no block, no loop and no `if`
pub record HoldsNone (i : Instr) : Type 0 where
  pub not_block : (ty : BlockType) (body : List Instr) → i ≡ view.Block ty body → ⊥
  pub not_loop : (ty : BlockType) (body : List Instr) → i ≡ view.Loop ty body → ⊥
  pub not_if : (ty : BlockType) (body : List Instr) (other : Option (List Instr)) → i ≡ view.If ty body other → ⊥

-- what is there behind the opcode of such an instruction
pub record HasImmediates (i : Instr) : Type 1 where
  pub bytes : instr_bytes i ≡ opcode i ∷ immediate_bytes i
  pub fits : InstrFits i ≡ ImmediatesFit i

-- is its immediates
pub has_immediates : (i : Instr) → HoldsNone i → HasImmediates i
has_immediates (Block' ty shape row) none = absurd (none.not_block ty (list_of row) (block_shown ty shape row))
has_immediates (Loop' ty shape row) none = absurd (none.not_loop ty (list_of row) (loop_shown ty shape row))
has_immediates (If' ty shape row None') none = absurd (none.not_if ty (list_of row) None (if_alone_shown ty shape row))
has_immediates (If' ty shape row (Some' shape' row')) none = absurd (none.not_if ty (list_of row) (Some (list_of row')) (if_else_shown ty shape shape' row row'))
has_immediates Unreachable none = record { bytes = refl; fits = refl }
has_immediates Nop none = record { bytes = refl; fits = refl }
has_immediates (Br label) none = record { bytes = refl; fits = refl }
has_immediates (BrIf label) none = record { bytes = refl; fits = refl }
has_immediates (BrTable labels label) none = record { bytes = refl; fits = refl }
has_immediates Return none = record { bytes = refl; fits = refl }
has_immediates (Call func) none = record { bytes = refl; fits = refl }
has_immediates (CallIndirect ty) none = record { bytes = refl; fits = refl }
has_immediates Drop none = record { bytes = refl; fits = refl }
has_immediates Select none = record { bytes = refl; fits = refl }
has_immediates (LocalGet local) none = record { bytes = refl; fits = refl }
has_immediates (LocalSet local) none = record { bytes = refl; fits = refl }
has_immediates (LocalTee local) none = record { bytes = refl; fits = refl }
has_immediates (GlobalGet global) none = record { bytes = refl; fits = refl }
has_immediates (GlobalSet global) none = record { bytes = refl; fits = refl }
has_immediates (Load t at) none = record { bytes = refl; fits = refl }
has_immediates (LoadNarrow part at) none = record { bytes = refl; fits = refl }
has_immediates (Store t at) none = record { bytes = refl; fits = refl }
has_immediates (StoreNarrow part at) none = record { bytes = refl; fits = refl }
has_immediates (I32Const value) none = record { bytes = refl; fits = refl }
has_immediates (I64Const value) none = record { bytes = refl; fits = refl }
has_immediates (Eqz t) none = record { bytes = refl; fits = refl }
has_immediates (Compare t o) none = record { bytes = refl; fits = refl }
has_immediates (Unary t o) none = record { bytes = refl; fits = refl }
has_immediates (Binary t o) none = record { bytes = refl; fits = refl }
has_immediates Wrap none = record { bytes = refl; fits = refl }
has_immediates (Extend s) none = record { bytes = refl; fits = refl }
