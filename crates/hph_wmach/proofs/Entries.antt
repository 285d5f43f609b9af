-- Entries of the table.
use Rattle.std.proofs.Common.{◌≡◌, ◌∙◌, inl, inr, ℕ, List, [], ◌∷◌, Bool, true, false, Option, Some, None, refl, sym, ap, subst}
use Rattle.std.specs.Prelude.{slice_get, option_and_then}
use lib.Pointwise.{pointwise}
use Rattle.hph_wasm.specs.declared.types.ValType.{ValType}
use Rattle.hph_wasm.specs.declared.types.ValType.TheVariants.{I32, I64}
use Rattle.hph_wasm.specs.declared.types.FuncType.{FuncType}
use Rattle.hph_wasm.specs.declared.module.Module.{Module}
use Rattle.hph_wasm.specs.Functions.{Function, Imported, Defined, functions, func_type, type_number}
use Rattle.hph_wasm.specs.Instantiation.{table_of}
use Rattle.hph_wasm.specs.Configuration.{Host}
use Rattle.hph_wasm.specs.Reduction.{same_types, same_func_type}
use Rattle.hph_wmach.specs.declared.program.Callee.{Callee}
use Rattle.hph_wmach.specs.declared.program.Callee.TheVariants.{Own, OfHost}
use Rattle.hph_wmach.specs.declared.program.Program.{Program}
use Rattle.hph_wmach.specs.Program.{type_of_callee, EntryFits, Tells, EntryTold}

-- Lists are compared one by one.
pub compared : (same : ValType → ValType → Bool) → same I32 I32 ≡ true → same I64 I64 ≡ true → same I32 I64 ≡ false → same I64 I32 ≡ false →
    (types others : List ValType) → pointwise same types others ≡ same_types types others
compared same e f g h [] [] = refl
compared same e f g h [] (I32 ∷ others) = refl
compared same e f g h [] (I64 ∷ others) = refl
compared same e f g h (I32 ∷ types) [] = refl
compared same e f g h (I64 ∷ types) [] = refl
compared same e f g h (I32 ∷ types) (I32 ∷ others) = rw e (compared same e f g h types others)
compared same e f g h (I64 ∷ types) (I64 ∷ others) = rw f (compared same e f g h types others)
compared same e f g h (I32 ∷ types) (I64 ∷ others) = rw g refl
compared same e f g h (I64 ∷ types) (I32 ∷ others) = rw h refl

module _ {H E : Type 0} (host : Host H E) (m : Module) (program : Program) (tells : Tells host m program) where
  typed : (f : ℕ) (callee : Callee) → Some callee ≡ slice_get program.callees f → func_type m f ≡ Some (type_of_callee callee)
  typed f callee e = by callee (slice_get (functions m) f) (subst (λ o. EntryFits host m o (slice_get (functions m) f)) (sym e) (tells.callees f))
    where
      by : (callee : Callee) (function : Option Function) → EntryFits host m (Some callee) function →
          option_and_then (λ function. slice_get m.types (type_number function)) function ≡ Some (type_of_callee callee)
      by (Own own) None h = absurd h
      by (OfHost known) None h = absurd h
      by (Own own) (Some (Imported import number)) h = absurd h
      by (Own own) (Some (Defined func)) h = h.1
      by (OfHost known) (Some (Imported import number)) h = h.0
      by (OfHost known) (Some (Defined func)) h = absurd h

  untyped : (f : ℕ) → None ≡ slice_get program.callees f → func_type m f ≡ None
  untyped f e = by (slice_get (functions m) f) (subst (λ o. EntryFits host m o (slice_get (functions m) f)) (sym e) (tells.callees f))
    where
      by : (function : Option Function) → EntryFits host m None function →
          option_and_then (λ function. slice_get m.types (type_number function)) function ≡ None
      by None h = refl
      by (Some function) h = absurd h

  in_table : {o : Option (Option ℕ)} (place : ℕ) → o ≡ slice_get program.table place → slice_get (table_of m) place ≡ o
  in_table place e = sym (e ∙ ap (λ l. slice_get l place) tells.table)

  pub entry_past : (place number : ℕ) → None ≡ slice_get program.table place → EntryTold host m place number None
  entry_past place number e = λ rest values at trap stuck. inl (rw (in_table place e) refl)

  pub entry_empty : (place number : ℕ) → Some None ≡ slice_get program.table place → EntryTold host m place number None
  entry_empty place number e = λ rest values at trap stuck. inl (rw (in_table place e) refl)

  pub entry_unknown : (place number f : ℕ) → Some (Some f) ≡ slice_get program.table place → None ≡ slice_get program.callees f →
      EntryTold host m place number None
  entry_unknown place number f e p = λ rest values at trap stuck. inr (rw (in_table place e, untyped f p) refl)

  pub entry_untyped : (place number f : ℕ) (callee : Callee) → Some (Some f) ≡ slice_get program.table place →
      Some callee ≡ slice_get program.callees f → None ≡ slice_get program.types.now number → EntryTold host m place number None
  entry_untyped place number f callee e p q = λ rest values at trap stuck.
      inr (rw (in_table place e, typed f callee p, ← ap (λ l. slice_get l number) tells.types, ← q) refl)

  pub entry_other : (place number f : ℕ) (callee : Callee) (wanted : FuncType) → Some (Some f) ≡ slice_get program.table place →
      Some callee ≡ slice_get program.callees f → Some wanted ≡ slice_get program.types.now number →
      same_func_type (type_of_callee callee) wanted ≡ false → EntryTold host m place number None
  entry_other place number f callee wanted e p q r = λ rest values at trap stuck.
      inl (rw (in_table place e, typed f callee p, ← ap (λ l. slice_get l number) tells.types, ← q, r) refl)

  pub entry_called : (place number f : ℕ) (callee : Callee) (wanted : FuncType) → Some (Some f) ≡ slice_get program.table place →
      Some callee ≡ slice_get program.callees f → Some wanted ≡ slice_get program.types.now number →
      same_func_type (type_of_callee callee) wanted ≡ true → EntryTold host m place number (Some f)
  entry_called place number f callee wanted e p q r = λ rest values at trap stuck.
      rw (in_table place e, typed f callee p, ← ap (λ l. slice_get l number) tells.types, ← q, r) refl
