-- What validity, linking and the placing of segments say of small modules.
use Rattle.std.proofs.Common.{inl, inr, ℕ, List, [], ◌∷◌, refl, arith}
use Rattle.std.specs.Prelude.{pos, None, Some, codes}
use Rattle.hph_wasm.specs.declared.types.ValType.TheVariants.{I32}
use Rattle.hph_wasm.specs.declared.types.FuncType.{FuncType}
use Rattle.hph_wasm.specs.declared.instr.Instr.{Instr, Unreachable, If', Drop, I32Const, Binary, end_of-Instr, more_of-Instr, None'}
use Rattle.hph_wasm.specs.declared.instr.Binary.TheVariants.{Add}
use Rattle.hph_wasm.specs.declared.module.ImportDesc.TheVariants as import_desc
use Rattle.hph_wasm.specs.declared.module.Func.{Func}
use Rattle.hph_wasm.specs.declared.module.Module.{Module}
use Rattle.hph_wasm.specs.Validity.{IsBody}
use Rattle.hph_wasm.specs.Faults.{BodyBegins, IsFirstFault}
use Rattle.hph_wasm.specs.Instantiation.{IsFirstMisfit}
use Rattle.hph_wasm.proofs.Printer.{printer}
use Rattle.hph_wasm.specs.Run.{IsFirstUnlinked}
use Rattle.hph_wasm.proofs.RunExamples.{nothing, one}

-- The type of main, and a function of it.
abbrev no_type : FuncType
no_type = record { params = []; results = [] }

abbrev main : List Instr → Func
main body = record { ty = 0; locals = []; body = body }

-- Behind an instruction that never goes on, others find the values that they take.
code_never_reached : IsBody nothing no_type (main (Unreachable ∷ Binary I32 Add ∷ Drop ∷ []))
code_never_reached = (I32 ∷ I32 ∷ [], tt, (I32 ∷ [], ([], refl, refl), ([], (I32, ([], refl, refl)), refl)))

-- A value that is left over is a fault at the `end`, opcode 1.
left_over : Func
left_over = main (one ∷ [])

not_past_end : BodyBegins nothing no_type left_over 2 → ⊥
unfolding left_over
not_past_end (inl (inl none)) = omega (arith, none)
not_past_end (inl (inr (inl inside))) = inside
not_past_end (inl (inr (inr (k, counted, mid, first, none)))) = omega (arith, counted, none)
not_past_end (inr (counted, (mid, (below, taken, given), ends))) = let no : ⊥ = cc in no

value_left_over : IsFirstFault nothing no_type left_over 1
unfolding left_over
value_left_over = (omega arith, inl (inr (inr (0, refl, I32 ∷ [], ([], refl, refl), refl))), not_past_end)

-- An `if` without an `else` that gives a value is a fault at its `end`, opcode 3.
half_an_if : Func
half_an_if = main (one ∷ If' (record { result = Some I32 }) (tt ∷ []) (more_of-Instr one end_of-Instr) None' ∷ Drop ∷ [])

not_past_if : BodyBegins nothing no_type half_an_if 4 → ⊥
unfolding half_an_if
not_past_if (inl (inl none)) = omega (arith, none)
not_past_if (inl (inr (inl inside))) = inside
not_past_if (inl (inr (inr (k, counted, mid, first, inl none)))) = omega (arith, counted, none)
not_past_if (inl (inr (inr (k, counted, mid, first, inr (inl (ends, inl (j, within, inl none))))))) = omega (arith, counted, within, none)
not_past_if (inl (inr (inr (k, counted, mid, first, inr (inl (ends, inl (j, within, inr (inl inside)))))))) = inside
not_past_if (inl (inr (inr (k, counted, mid, first, inr (inl (ends, inl (j, within, inr (inr (i, past, _, _, none))))))))) =
    omega (arith, counted, within, past, none)
not_past_if (inl (inr (inr (k, counted, mid, first, inr (inl (ends, inr (inside, none))))))) = none
not_past_if (inl (inr (inr (k, counted, mid, first, inr (inr (j, past, next, (inside, other, takes), others)))))) = let no : ⊥ = cc in no
not_past_if (inr (counted, valid)) = omega (arith, counted)

no_value_without_else : IsFirstFault nothing no_type half_an_if 3
unfolding half_an_if
no_value_without_else = (
  omega arith,
  inl (inr (inr (
    2,
    refl,
    I32 ∷ [],
    ([], refl, refl),
    inr (inl (([], refl), inl (1, refl, inr (inr (0, refl, I32 ∷ [], ([], refl, refl), refl))))),
  ))),
  not_past_if,
)

-- A module with a table of one entry, a page of memory, and a segment of each; the data segment has number 1, and is empty.
abbrev with_segments_at : ℕ → ℕ → Module
with_segments_at entry place = record nothing {
  tables = record { min = 1; max = None } ∷ [];
  memories = record { min = 1; max = None } ∷ [];
  elements = record { table = 0; offset = I32Const (pos entry) ∷ []; funcs = 0 ∷ [] } ∷ [];
  segments = record { memory = 0; offset = I32Const (pos place) ∷ []; bytes = [] } ∷ [];
}

-- An empty segment past the end doesn't fit.
past_the_memory : IsFirstMisfit (with_segments_at 0 65537) 1
past_the_memory = (_, refl, (λ within. omega (arith, within)), (omega arith, tt))

-- The element segment comes first.
past_the_table : IsFirstMisfit (with_segments_at 1 65537) 0
past_the_table = (_, refl, (λ within. omega (arith, within)), tt)

-- No host has a memory.
imports_a_memory : IsFirstUnlinked printer (record nothing {
  imports = record { «module» = codes "php1"; name = codes "memory"; desc = import_desc.Memory (record { min = 1; max = None }) } ∷ [];
}) 0
imports_a_memory = (tt, inl (_, refl, λ has. has))

-- Where nothing is imported, a main that isn't there has number 0.
has_no_main : IsFirstUnlinked printer nothing 0
has_no_main = (tt, inr (refl, λ main. (let no : ⊥ = cc in no)))
