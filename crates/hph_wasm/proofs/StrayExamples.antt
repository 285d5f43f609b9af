-- A module that divides by zero: it is valid, and its run traps. Without what it drops it is invalid.
use Rattle.std.proofs.Common.{◌≡◌, inl, inr, List, [], ◌∷◌, refl, arith}
use Rattle.std.specs.Prelude.{pos, codes}
use Rattle.hph_wasm.specs.declared.types.ValType.TheVariants.{I32}
use Rattle.hph_wasm.specs.declared.types.FuncType.{FuncType}
use Rattle.hph_wasm.specs.declared.instr.Sign.TheVariants.{Signed}
use Rattle.hph_wasm.specs.declared.instr.Instr.{Instr, Drop, I32Const, Binary}
use Rattle.hph_wasm.specs.declared.instr.Binary.TheVariants.{Div}
use Rattle.hph_wasm.specs.declared.module.ExportDesc.TheVariants as export_desc
use Rattle.hph_wasm.specs.declared.module.Func.{Func}
use Rattle.hph_wasm.specs.declared.module.Module.{Module}
use Rattle.hph_wasm.specs.ModuleValidity.{IsValidOutside, IsValid}
use Rattle.hph_wasm.specs.Faults.{BodyBegins, IsFirstFault, IsFirstInvalid}
use Rattle.hph_wasm.specs.Integers.{binary, quotient, signed}
use Rattle.hph_wasm.specs.Outcome.{Trap}
use Rattle.hph_wasm.proofs.Printer.{printer}
use Rattle.hph_wasm.specs.Run.{wasm, IsFirstUnlinked}
use Rattle.hph_wasm.proofs.RunExamples.{nothing}

abbrev no_type : FuncType
no_type = record { params = []; results = [] }

-- A module whose function 0 is main, with this body.
abbrev main_of : List Instr → Func
main_of body = record { ty = 0; locals = []; body = body }

abbrev with_main : List Instr → Module
with_main body = record nothing {
  types = no_type ∷ [];
  funcs = main_of body ∷ [];
  exports = record { name = codes "main"; desc = export_desc.Func 0 } ∷ [];
}

-- 1 / 0, dropped
abbrev divides : List Instr
divides = I32Const (pos 1) ∷ I32Const (pos 0) ∷ Binary I32 (Div Signed) ∷ Drop ∷ []

outside_is_valid : (body : List Instr) → IsValidOutside (with_main body)
outside_is_valid body = record {
  types = (omega arith, tt);
  imports = tt;
  func_types = (omega arith, tt);
  tables = tt;
  one_table = omega arith;
  memories = tt;
  one_memory = omega arith;
  globals = tt;
  exports = (omega arith, tt);
  named_once = λ i j d less small same. omega arith;
  elements = tt;
  segments = tt;
}

stray_is_valid : IsValid (with_main divides)
stray_is_valid = record {
  outside = outside_is_valid divides;
  funcs = (
    (
      no_type,
      refl,
      (
        I32 ∷ [],
        ([], refl, refl),
        (
          I32 ∷ I32 ∷ [],
          (I32 ∷ [], refl, refl),
          (I32 ∷ [], ([], refl, refl), ([], (I32, ([], refl, refl)), refl)),
        ),
      ),
    ),
    tt,
  );
}

-- The division is opcode 2 of function 0.
stray_traps : (wasm printer [] (with_main divides) 4).end ≡ Trap 0 2
unfolding binary quotient signed
stray_traps = refl

-- A `drop` of nothing is a fault at opcode 0 of function 0.
drops_nothing : BodyBegins (with_main (Drop ∷ [])) no_type (main_of (Drop ∷ [])) 1 → ⊥
drops_nothing (inl (inl none)) = omega (arith, none)
drops_nothing (inl (inr (inl inside))) = inside
drops_nothing (inl (inr (inr (k, counted, mid, (ty, (below, taken, given)), rest)))) = let no : ⊥ = cc in no
drops_nothing (inr (counted, body)) = omega (arith, counted)

first_fault_of_drop : IsFirstFault (with_main (Drop ∷ [])) no_type (main_of (Drop ∷ [])) 0
first_fault_of_drop = (omega arith, inl (inl refl), drops_nothing)

invalid_at_drop : IsFirstInvalid (with_main (Drop ∷ [])) 0 0
invalid_at_drop = IsFirstInvalid.in_body 0 0 (main_of (Drop ∷ [])) no_type (outside_is_valid (Drop ∷ [])) refl refl tt first_fault_of_drop

-- Without its export it is unlinked, though it imports nothing.
not_linked : IsFirstUnlinked printer (record (with_main divides) { exports = [] }) 0
not_linked = (tt, inr (refl, λ main. (let no : ⊥ = cc in no)))
