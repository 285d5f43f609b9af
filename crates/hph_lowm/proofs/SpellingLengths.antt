-- How long the spellings of a module's parts are at most.
use Rattle.std.proofs.Common.{◌≡◌, ◌≤◌, ℕ, zero, suc, ◌+◌, ◌/◌, ◌%◌, List, [], ◌∷◌, ◌++◌, length, flat_map, cond, true, false, arith, length-append, subst, sym}
use Rattle.std.specs.Prelude.{ℤ, nat_lt, None}
use Rattle.hph_wasm.specs.Leb128.{shortest_unsigned, shortest_signed, u32_bytes, i32_bytes, low_seven, above_seven, fits_seven}
use Rattle.hph_wasm.specs.Spelling.{vector_bytes, counted_bytes, value_type_bytes, func_type_bytes, limits_bytes, instr_bytes, import_bytes, import_desc_bytes, export_bytes, export_desc_bytes, section_bytes}
use Rattle.hph_wasm.specs.declared.types.ValType.{ValType}
use Rattle.hph_wasm.specs.declared.types.FuncType.{FuncType}
use Rattle.hph_wasm.specs.declared.instr.Instr.{I32Const, Call}
use Rattle.hph_wasm.specs.declared.module.ImportDesc.TheVariants as import_desc
use Rattle.hph_wasm.specs.declared.module.Import.{Import}
use Rattle.hph_wasm.specs.declared.module.ExportDesc.{ExportDesc}
use Rattle.hph_wasm.specs.declared.module.ExportDesc.TheVariants as export_desc
use Rattle.hph_wasm.specs.declared.module.Export.{Export}

shortest_unsigned_short : (more n : ℕ) → length (shortest_unsigned more n) ≤ more + 1
unfolding shortest_unsigned
shortest_unsigned_short zero n = omega arith
shortest_unsigned_short (suc more) n = elim (nat_lt n 128) as (λ b. length (cond b (n ∷ []) ((n % 128 + 128) ∷ shortest_unsigned more (n / 128))) ≤ suc more + 1) [
  | true ↦ omega arith
  | false ↦ let rest : length (shortest_unsigned more (n / 128)) ≤ more + 1 = shortest_unsigned_short more (n / 128) in omega arith
]

shortest_signed_short : (more : ℕ) (z : ℤ) → length (shortest_signed more z) ≤ more + 1
unfolding shortest_signed
shortest_signed_short zero z = omega arith
shortest_signed_short (suc more) z = elim (fits_seven z) as (λ b. length (cond b (low_seven z ∷ []) ((low_seven z + 128) ∷ shortest_signed more (above_seven z))) ≤ suc more + 1) [
  | true ↦ omega arith
  | false ↦ let rest : length (shortest_signed more (above_seven z)) ≤ more + 1 = shortest_signed_short more (above_seven z) in omega arith
]

pub u32_short : (n : ℕ) → length (u32_bytes n) ≤ 5
u32_short n = shortest_unsigned_short 4 n

pub i32_short : (z : ℤ) → length (i32_bytes z) ≤ 5
i32_short z = shortest_signed_short 4 z

pub counted_short : (bytes : List ℕ) → length (counted_bytes bytes) ≤ 5 + length bytes
counted_short bytes = omega (arith, length-append (u32_bytes (length bytes)) bytes, u32_short (length bytes))

pub vector_short : {X : Type 0} (f : X → List ℕ) (xs : List X) → length (vector_bytes f xs) ≤ 5 + length (flat_map f xs)
vector_short f xs = omega (arith, length-append (u32_bytes (length xs)) (flat_map f xs), u32_short (length xs))

pub section_short : {X : Type 0} (id : ℕ) (f : X → List ℕ) (xs : List X) → length (section_bytes id f xs) ≤ 11 + length (flat_map f xs)
section_short id f [] = omega arith
section_short id f (x ∷ xs) = omega (arith, counted_short (vector_bytes f (x ∷ xs)), vector_short f (x ∷ xs))

-- two parts, one behind the other
pub joined_short : (front rest : List ℕ) (m n : ℕ) → length front ≤ m → length rest ≤ n → length (front ++ rest) ≤ m + n
joined_short front rest m n p q = omega (arith, length-append front rest)

-- a section of nothing, of one thing, and of two
pub none_short : {X : Type 0} (id : ℕ) (f : X → List ℕ) (xs : List X) → xs ≡ [] → length (section_bytes id f xs) ≤ 0
none_short id f xs none = subst (λ ys. length (section_bytes id f ys) ≤ 0) (sym none) (omega arith)

pub one_short : {X : Type 0} (id : ℕ) (f : X → List ℕ) (x : X) (n : ℕ) → length (f x) ≤ n → length (section_bytes id f (x ∷ [])) ≤ 11 + n
one_short id f x n h = omega (arith, section_short id f (x ∷ []), length-append (f x) [])

pub two_short : {X : Type 0} (id : ℕ) (f : X → List ℕ) (x y : X) (n : ℕ) → length (f x) ≤ n → length (f y) ≤ n → length (section_bytes id f (x ∷ y ∷ [])) ≤ 11 + (n + n)
two_short id f x y n h k = omega (arith, section_short id f (x ∷ y ∷ []), length-append (f x) (f y ++ []), length-append (f y) [])

values_length : (ts : List ValType) → length (flat_map value_type_bytes ts) ≡ length ts
values_length [] = omega arith
values_length (t ∷ ts) = let rest : length (flat_map value_type_bytes ts) ≡ length ts = values_length ts in omega arith

values_short : (ts : List ValType) → length ts ≤ 2 → length (vector_bytes value_type_bytes ts) ≤ 7
values_short ts h = omega (arith, vector_short value_type_bytes ts, values_length ts)

pub func_type_short : (ty : FuncType) → length ty.params ≤ 2 → length ty.results ≤ 2 → length (func_type_bytes ty) ≤ 15
func_type_short ty p q = let both = joined_short (vector_bytes value_type_bytes ty.params) (vector_bytes value_type_bytes ty.results) 7 7 (values_short ty.params p) (values_short ty.results q) in omega arith

import_desc_short : (ty : ℕ) → length (import_desc_bytes (import_desc.Func ty)) ≤ 6
import_desc_short ty = let h = u32_short ty in omega arith

pub import_short : (i : Import) (ty : ℕ) → i.desc ≡ import_desc.Func ty → length i.module ≤ 9 → length i.name ≤ 9 → length (import_bytes i) ≤ 40
import_short i ty function p q = omega (
  arith,
  length-append (counted_bytes i.module) (counted_bytes i.name ++ import_desc_bytes i.desc),
  length-append (counted_bytes i.name) (import_desc_bytes i.desc),
  counted_short i.module,
  counted_short i.name,
  subst (λ desc. length (import_desc_bytes desc) ≤ 6) (sym function) (import_desc_short ty),
)

export_desc_short : (desc : ExportDesc) → length (export_desc_bytes desc) ≤ 6
export_desc_short (export_desc.Func func) = let h = u32_short func in omega arith
export_desc_short (export_desc.Table table) = let h = u32_short table in omega arith
export_desc_short (export_desc.Memory memory) = let h = u32_short memory in omega arith
export_desc_short (export_desc.Global global) = let h = u32_short global in omega arith

pub export_short : (e : Export) → length e.name ≤ 9 → length (export_bytes e) ≤ 40
export_short e p = omega (arith, length-append (counted_bytes e.name) (export_desc_bytes e.desc), counted_short e.name, export_desc_short e.desc)

pub limits_short : (n : ℕ) → length (limits_bytes (record { min = n; max = None })) ≤ 40
limits_short n = let h = u32_short n in omega arith

pub const_short : (z : ℤ) → length (instr_bytes (I32Const z)) ≤ 6
const_short z = let h = i32_short z in omega arith

pub call_short : (f : ℕ) → length (instr_bytes (Call f)) ≤ 6
call_short f = let h = u32_short f in omega arith
