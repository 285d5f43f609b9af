-- The instructions inside a block: the row that its value holds, and the list that the code sees.
use Rattle.std.proofs.Common.{◌≡◌, ◌∙◌, ℕ, List, [], ◌∷◌, ◌++◌, refl, sym, ap, subst, flat_map, Option, Some, None}
use mathlib.Core.Former.{Count, this, list, arity}
use Rattle.hph_wasm.specs.Grammar.{Each, result_byte}
use Rattle.hph_wasm.specs.Codes.{end_code}
use Rattle.hph_wasm.specs.InstructionGrammar.{Instruction, Instructions}
use Rattle.hph_wasm.specs.Spelling.{instr_bytes, row_bytes}
use Rattle.hph_wasm.specs.declared.types.BlockType.{BlockType}
use Rattle.hph_wasm.specs.declared.instr.Instr.{Instr, Block, Block', Loop', If', Row_of-Instr, end_of-Instr, more_of-Instr, Held-Instr-If-2, None', Some', items-the_row-Instr, items_hidden-the_row-Instr-0}
use Rattle.hph_wasm.specs.declared.instr.Instr.TheBlock.{hidden-the_row-Instr-0, shape-the_row-Instr-0}

-- how many instructions a row of this shape has
abbrev pub count_of : List (Unit {0}) → Count
count_of shape = arity (list this) shape

-- the row of a list of instructions
abbrev pub row_of : (body : List Instr) → Row_of-Instr (count_of (shape-the_row-Instr-0 body))
row_of body = hidden-the_row-Instr-0 body

-- the list of a row
abbrev pub list_of : {m : _} → Row_of-Instr m → List Instr
list_of row = items-the_row-Instr _ row

-- the list of a second branch, where there is one
abbrev pub list_of_other : Held-Instr-If-2 → Option (List Instr)
list_of_other None' = None
list_of_other (Some' shape row) = Some (list_of row)

-- the row of a list has the list's instructions
pub list_of-row_of : (body : List Instr) → list_of (row_of body) ≡ body
list_of-row_of body = items_hidden-the_row-Instr-0 body

-- what spells a row spells its list
pub Each-list_of : {m : _} (row : Row_of-Instr m) (bytes : List ℕ) → Instructions row bytes → Each Instruction (list_of row) bytes
Each-list_of end_of-Instr bytes p = p
Each-list_of (more_of-Instr i row) bytes p =
    record { front = p.front; rest = p.rest; split = p.split; first = p.first; second = Each-list_of row p.rest p.second }

-- what spells the list of a row spells the row
pub Instructions-from_list : {m : _} (row : Row_of-Instr m) (bytes : List ℕ) → Each Instruction (list_of row) bytes → Instructions row bytes
Instructions-from_list end_of-Instr bytes p = p
Instructions-from_list (more_of-Instr i row) bytes p =
    record { front = p.front; rest = p.rest; split = p.split; first = p.first; second = Instructions-from_list row p.rest p.second }

-- what spells a list spells its row
pub Instructions-row_of : (body : List Instr) (bytes : List ℕ) → Each Instruction body bytes → Instructions (row_of body) bytes
Instructions-row_of body bytes p = Instructions-from_list (row_of body) bytes
    (subst (λ l. Each Instruction l bytes) (sym (list_of-row_of body)) p)

-- the bytes that are written of a row are those of its list
pub row_bytes-list_of : {m : _} (row : Row_of-Instr m) → row_bytes row ≡ flat_map instr_bytes (list_of row)
row_bytes-list_of end_of-Instr = refl
row_bytes-list_of (more_of-Instr i row) = ap (λ bytes. instr_bytes i ++ bytes) (row_bytes-list_of row)

-- the bytes that are written of a block, by the list of its instructions
pub instr_bytes-Block : (ty : BlockType) (body : List Instr) → instr_bytes (Block ty body) ≡ 0x02 ∷ result_byte ty.result ∷
    (flat_map instr_bytes body ++ end_code ∷ [])
instr_bytes-Block ty body = ap (λ bytes. 0x02 ∷ result_byte ty.result ∷ (bytes ++ end_code ∷ []))
    (row_bytes-list_of (row_of body) ∙ ap (flat_map instr_bytes) (list_of-row_of body))

-- a row and its shape are determined by the instructions in it
rows_same : (shape shape' : List (Unit {0})) (row : Row_of-Instr (count_of shape)) (row' : Row_of-Instr (count_of shape')) → list_of row ≡
    list_of row' →
    ◌≡◌ {A = (s : List (Unit {0})) × Row_of-Instr (count_of s)} (shape, row) (shape', row')
rows_same [] [] end_of-Instr end_of-Instr same = refl
rows_same [] (u ∷ shape') end_of-Instr (more_of-Instr i row') same = cc
rows_same (u ∷ shape) [] (more_of-Instr i row) end_of-Instr same = cc
rows_same (u ∷ shape) (v ∷ shape') (more_of-Instr i row) (more_of-Instr j row') same =
    let heads : i ≡ j = cc in
    let tails : list_of row ≡ list_of row' = cc in
    let rows = rows_same shape shape' row row' tails in
    λ k. (tt ∷ (rows k).0, more_of-Instr {n = count_of (rows k).0} (heads k) (rows k).1)

-- blocks of one type that hold the same instructions are the same
pub blocks_same : (ty ty' : BlockType) (shape shape' : List (Unit {0})) (row : Row_of-Instr (count_of shape))
    (row' : Row_of-Instr (count_of shape')) →
    ty ≡ ty' → list_of row ≡ list_of row' → Block' ty shape row ≡ Block' ty' shape' row'
blocks_same ty ty' shape shape' row row' types lists = let rows = rows_same shape shape' row row' lists in
    λ k. Block' (types k) (rows k).0 (rows k).1

-- and loops
pub loops_same : (ty ty' : BlockType) (shape shape' : List (Unit {0})) (row : Row_of-Instr (count_of shape))
    (row' : Row_of-Instr (count_of shape')) →
    ty ≡ ty' → list_of row ≡ list_of row' → Loop' ty shape row ≡ Loop' ty' shape' row'
loops_same ty ty' shape shape' row row' types lists = let rows = rows_same shape shape' row row' lists in
    λ k. Loop' (types k) (rows k).0 (rows k).1

-- a second branch is determined by its list
others_same : (other other' : Held-Instr-If-2) → list_of_other other ≡ list_of_other other' → other ≡ other'
others_same None' None' same = refl
others_same None' (Some' shape' row') same = cc
others_same (Some' shape row) None' same = cc
others_same (Some' shape row) (Some' shape' row') same =
    let lists : list_of row ≡ list_of row' = cc in
    let rows = rows_same shape shape' row row' lists in
    λ k. Some' (rows k).0 (rows k).1

-- and `if`s, by both branches
pub ifs_same : (ty ty' : BlockType) (shape shape' : List (Unit {0})) (row : Row_of-Instr (count_of shape))
    (row' : Row_of-Instr (count_of shape')) (other other' : Held-Instr-If-2) →
    ty ≡ ty' → list_of row ≡ list_of row' → list_of_other other ≡ list_of_other other' → If' ty shape row other ≡ If' ty' shape' row' other'
ifs_same ty ty' shape shape' row row' other other' types lists others =
    let rows = rows_same shape shape' row row' lists in
    let seconds = others_same other other' others in
    λ k. If' (types k) (rows k).0 (rows k).1 (seconds k)
