-- Opcodes that were counted, and those that are left.
use Rattle.std.specs.Prelude.{◌≡◌, ◌≤◌, ◌+◌, ℕ, List, length}
use Rattle.std.specs.Borrow.{Bor}
use Rattle.std.specs.List.{sum_by}
use Rattle.hph_wasm.specs.declared.instr.Instr.{Instr}
use Rattle.hph_wasm.specs.Rows.{list_size}

-- The opcodes of lists that are left to be counted.
abbrev pub left_of : List (Bor (List Instr)) → ℕ
left_of waiting = sum_by (λ list. list_size list.now) waiting

-- Of so many opcodes some were counted, and the others are left beside those that were left before, in no more lists than were counted.
abbrev pub Counted : (all count : ℕ) → (before after : List (Bor (List Instr))) → Type 0
Counted all count before after = (count + left_of after ≡ all + left_of before) × (length after ≤ length before + count)
