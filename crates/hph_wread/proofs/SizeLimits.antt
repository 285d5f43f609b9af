-- Reading types of memories, tables and globals, part by part (Core Specification 1.0, 5.3.4 to 5.3.7).
use Rattle.std.proofs.Common.{◌≡◌, ◌<◌, ◌≤◌, ◌∙◌, ℕ, List, [], ◌∷◌, ◌++◌, drop, refl, sym, ap, subst, arith, inl, inr, Option, Some, None, Bool, true, false}
use Rattle.std.proofs.lemmas.List.{append-nil}
use Rattle.hph_wasm.specs.Leb128.{Unsigned}
use Rattle.hph_wasm.specs.Grammar.{Grammar, Byte, ◌⊳◌, ValueType, Between, MemoryType, TableType, GlobalOf, mutable_byte}
use Rattle.hph_wasm.specs.OneWay.{OneForm, OneStop}
use Rattle.hph_wasm.specs.Unsupported.{Stop, Any, Nowhere, IsAnything, Behind, AtNumber, LimitsByte, StopsValueType, StopsTableType, most_entries}
use Rattle.hph_wasm.specs.declared.feature.Feature.{Feature}
use Rattle.hph_wasm.specs.declared.feature.Feature.TheVariants.{InitialTableSize}
use Rattle.hph_wasm.specs.declared.types.Limits.{Limits}
use Rattle.hph_wasm.specs.declared.types.ValType.{ValType}
use Rattle.hph_wasm.specs.declared.types.GlobalType.{GlobalType}
use Rattle.hph_wread.specs.declared.fault.Fault.{Fault}
use Rattle.hph_wread.specs.declared.fault.Fault.TheVariants.{Malformed, Unsupported, NoMemory}
use Rattle.hph_wread.specs.Reading.{Took, Fails}
use Rattle.hph_wread.proofs.Combinators.{took_then, took_map, took_any, OneEnd, one_end, fails_map, behind_first, behind_second, stops_first, stops_before, byte_end, Anything}
use Rattle.hph_wread.proofs.Vectors.{took_alike, took_apart}
use Rattle.hph_wread.proofs.Tagged.{is_byte, byte_took, byte_stop, tagged_fails}

abbrev Number : Grammar
Number = Any (Unsigned 32)

abbrev TooGreat : ℕ → Feature → Stop
TooGreat most name = AtNumber (λ n. most < n) name

-- no number stands there, so none that is too great
pub least_number : (most : ℕ) (name : Feature) {bytes : List ℕ} (e : Fault) → Fails Number Nowhere bytes e → Fails Number (TooGreat most name) bytes e
least_number most name (Malformed left) f = let r = f.reason in record {
  reason = (
    r.0,
    record {
      none = r.1.none;
      nowhere = λ place feature t. r.1.none t.rest (record { front = t.front; split = t.split; spelled = (t.number.0, t.number.1, tt) });
    },
  );
}
least_number most name (Unsupported left feature) f = absurd f.reason.stops
least_number most name NoMemory f = record { reason = tt }

-- limits begin with their flag and a number
between_begins : (min : ℕ) (max : Option ℕ) (front : List ℕ) → Between min max front → (LimitsByte ⊳ Number ⊳ Anything) front
between_begins min None front p = record {
  front = p.front;
  rest = p.rest;
  split = p.split;
  first = inl p.first;
  second = record {
    front = p.rest;
    rest = [];
    split = sym (append-nil p.rest);
    first = (min, p.second, tt);
    second = tt;
  };
}
between_begins min (Some max) front p = record {
  front = p.front;
  rest = p.rest;
  split = p.split;
  first = inr p.first;
  second = record {
    front = p.second.front;
    rest = p.second.rest;
    split = p.second.split;
    first = (min, p.second.first, tt);
    second = tt;
  };
}

limits_begin : (front : List ℕ) → Any MemoryType front → (LimitsByte ⊳ Number ⊳ Anything) front
limits_begin front p = between_begins p.0.min p.0.max front p.1

pub limits_flag : (most : ℕ) (name : Feature) {bytes : List ℕ} (e : Fault) → Fails LimitsByte Nowhere bytes e → Fails (Any MemoryType) (Behind LimitsByte (TooGreat most name)) bytes e
limits_flag most name e f = fails_map limits_begin (λ place feature t. t) (λ place feature t. t) e (behind_first (Number ⊳ Anything) (TooGreat most name) e f)

flag_rest : {bytes rest : List ℕ} → Took LimitsByte bytes rest → rest ≡ drop 1 bytes
flag_rest {rest = rest} p = elim p.spelled [
  | inl zero ↦ sym (ap (drop 1) (p.split ∙ ap (λ l. l ++ rest) zero))
  | inr one ↦ sym (ap (drop 1) (p.split ∙ ap (λ l. l ++ rest) one))
]

flag_end : OneEnd LimitsByte
flag_end = record { same = λ bytes r s p q. flag_rest p ∙ sym (flag_rest q) }

took_flag : (flag : Bool) {bytes rest : List ℕ} → Took (Byte (mutable_byte flag)) bytes rest → Took LimitsByte bytes rest
took_flag false p = record { front = p.front; split = p.split; spelled = inl p.spelled }
took_flag true p = record { front = p.front; split = p.split; spelled = inr p.spelled }

pub limits_min : (most : ℕ) (name : Feature) {bytes mid : List ℕ} (flag : Bool) → Took (Byte (mutable_byte flag)) bytes mid → (e : Fault) →
    Fails Number (TooGreat most name) mid e → Fails (Any MemoryType) (Behind LimitsByte (TooGreat most name)) bytes e
limits_min most name flag p e f = fails_map limits_begin (λ place feature t. t) (λ place feature t. t) e (behind_second flag_end (took_flag flag p) e (stops_first Anything e f))

-- behind a flag that is set stand two numbers
set_took : {bytes mid rest : List ℕ} → bytes ≡ 1 ∷ mid → (min : ℕ) (max : Option ℕ) → Took (Between min max) bytes rest → Took (Number ⊳ Number) mid rest
set_took is min None p = let no : 1 ≡ 0 = (byte_took 1 0 (Unsigned 32 min) is p).same in let never : ⊥ = cc in absurd never
set_took is min (Some max) p =
    took_map (λ front q. record { front = q.front; rest = q.rest; split = q.split; first = (min, q.first, tt); second = (max, q.second, tt) })
    (byte_took 1 1 (Unsigned 32 min ⊳ Unsigned 32 max) is p).behind

set_stop : (T : Stop) {bytes mid : List ℕ} → bytes ≡ 1 ∷ mid → (place : ℕ) (feature : Feature) → Behind LimitsByte T place feature bytes → (before : ℕ) × T before feature mid
set_stop T is place feature b = elim b.before [
  | inl zero ↦ let no : 1 ≡ 0 = (byte_stop 1 0 T is place feature
      (record { front = b.front; rest = b.rest; split = b.split; before = zero; place = b.place; counted = b.counted; stops = b.stops })).same in let never : ⊥ = cc in absurd never
  | inr one ↦ let t = byte_stop 1 1 T is place feature
      (record { front = b.front; rest = b.rest; split = b.split; before = one; place = b.place; counted = b.counted; stops = b.stops }) in (t.before, t.stops)
]

-- a number that was read isn't too great
small_number : (most : ℕ) (name : Feature) {bytes rest : List ℕ} → OneForm (Unsigned 32) → (n : ℕ) → n ≤ most → Took (Unsigned 32 n) bytes rest →
    (place : ℕ) (feature : Feature) → ¬ TooGreat most name place feature bytes
small_number most name o n small p place feature t =
    let same = took_alike o n t.number.0 p (record { front = t.front; split = t.split; spelled = t.number.1 }) in
    omega (arith, same.thing, t.number.2)

set_max : (most : ℕ) (name : Feature) {bytes mid rest : List ℕ} → OneForm (Unsigned 32) → Took (Byte 1) bytes mid → (min : ℕ) → min ≤ most →
    Took (Unsigned 32 min) mid rest → (e : Fault) → Fails Number Nowhere rest e → Fails (Any MemoryType) (Behind LimitsByte (TooGreat most name)) bytes e
set_max most name {mid = mid} o p min small q e f =
    let is = is_byte 1 p in
    tagged_fails 1 is (λ rest r. set_took is r.spelled.0.min r.spelled.0.max (record { front = r.front; split = r.split; spelled = r.spelled.1 }))
    (λ place feature t. record { front = 1 ∷ []; rest = mid; split = is; before = inr refl; place = place; counted = omega arith; stops = t })
    (set_stop (TooGreat most name) is) e
    (stops_before (TooGreat most name) (one_end o) (small_number most name o min small q) (took_any (Unsigned 32) min q) e f)

pub limits_max : (most : ℕ) (name : Feature) {bytes mid rest : List ℕ} → OneForm (Unsigned 32) → (flag : Bool) → flag ≡ true → Took (Byte (mutable_byte flag)) bytes mid → (min : ℕ) → min ≤ most →
    Took (Unsigned 32 min) mid rest → (e : Fault) → Fails Number Nowhere rest e → Fails (Any MemoryType) (Behind LimitsByte (TooGreat most name)) bytes e
limits_max most name {bytes} {mid} o flag is p min small q e f =
    set_max most name o (subst (λ b. Took (Byte (mutable_byte b)) bytes mid) is p) min small q e f

pub bounded_took : {bytes mid next rest : List ℕ} (limits : Limits) (flag : Bool) → flag ≡ true → Took (Byte (mutable_byte flag)) bytes mid →
    (min : ℕ) → limits.min ≡ min → Took (Unsigned 32 min) mid next → (max : ℕ) → limits.max ≡ Some max → Took (Unsigned 32 max) next rest → Took (MemoryType limits) bytes rest
bounded_took {bytes} {mid} {next} {rest} limits flag is p min least q max greatest r =
    let taken : Took (Between min (Some max)) bytes rest = took_then (subst (λ b. Took (Byte (mutable_byte b)) bytes mid) is p) (took_then q r) in
    subst (λ m. Took (Between limits.min m) bytes rest) (sym greatest) (subst (λ n. Took (Between n (Some max)) bytes rest) (sym least) taken)

pub unbounded_took : {bytes mid rest : List ℕ} (limits : Limits) (flag : Bool) → flag ≡ false → Took (Byte (mutable_byte flag)) bytes mid →
    (min : ℕ) → limits.min ≡ min → limits.max ≡ None → Took (Unsigned 32 min) mid rest → Took (MemoryType limits) bytes rest
unbounded_took {bytes} {mid} {rest} limits flag is p min least greatest q =
    let taken : Took (Between min None) bytes rest = took_then (subst (λ b. Took (Byte (mutable_byte b)) bytes mid) is p) q in
    subst (λ m. Took (Between limits.min m) bytes rest) (sym greatest) (subst (λ n. Took (Between n None) bytes rest) (sym least) taken)

-- a table's type is a byte and limits
table_parts : (front : List ℕ) → Any TableType front → (Byte 0x70 ⊳ Any MemoryType) front
table_parts front p = let q = p.1 in record { front = q.front; rest = q.rest; split = q.split; first = q.first; second = (p.0, q.second, tt) }

pub table_byte : {bytes : List ℕ} (e : Fault) → Fails (Byte 0x70) Nowhere bytes e → Fails (Any TableType) StopsTableType bytes e
table_byte e f = fails_map table_parts (λ place feature t. t) (λ place feature t. t) e (behind_first (Any MemoryType) (Behind LimitsByte (TooGreat most_entries InitialTableSize)) e f)

pub table_limits : {bytes mid : List ℕ} → Took (Byte 0x70) bytes mid → (e : Fault) → Fails (Any MemoryType) (Behind LimitsByte (TooGreat most_entries InitialTableSize)) mid e →
    Fails (Any TableType) StopsTableType bytes e
table_limits p e f = fails_map table_parts (λ place feature t. t) (λ place feature t. t) e (behind_second (byte_end 0x70) p e f)

-- a global's type is a value type and a flag
global_parts_of : (value : ValType) (mutable : Bool) (front : List ℕ) → (ValueType value ⊳ Byte (mutable_byte mutable)) front → (Any ValueType ⊳ LimitsByte) front
global_parts_of value false front p = record { front = p.front; rest = p.rest; split = p.split; first = (value, p.first, tt); second = inl p.second }
global_parts_of value true front p = record { front = p.front; rest = p.rest; split = p.split; first = (value, p.first, tt); second = inr p.second }

global_parts : (front : List ℕ) → Any GlobalOf front → (Any ValueType ⊳ LimitsByte) front
global_parts front p = global_parts_of p.0.value p.0.mutable front p.1

pub global_value : {bytes : List ℕ} (e : Fault) → Fails (Any ValueType) StopsValueType bytes e → Fails (Any GlobalOf) StopsValueType bytes e
global_value e f = fails_map global_parts (λ place feature t. t) (λ place feature t. t) e (stops_first LimitsByte e f)

pub global_flag : {bytes mid : List ℕ} → OneForm ValueType → OneStop ValueType IsAnything StopsValueType → (value : ValType) → Took (ValueType value) bytes mid → (e : Fault) →
    Fails LimitsByte Nowhere mid e → Fails (Any GlobalOf) StopsValueType bytes e
global_flag o stops value p e f = fails_map global_parts (λ place feature t. t) (λ place feature t. t) e
    (stops_before StopsValueType (one_end o) (took_apart stops value p tt) (took_any ValueType value p) e f)

pub global_took : {bytes mid rest : List ℕ} (ty : GlobalType) (value : ValType) → ty.value ≡ value → Took (ValueType value) bytes mid → (mutable : Bool) → ty.mutable ≡ mutable →
    Took (Byte (mutable_byte mutable)) mid rest → Took (GlobalOf ty) bytes rest
global_took {bytes} {mid} {rest} ty value v p mutable m q =
    took_then (subst (λ t. Took (ValueType t) bytes mid) (sym v) p) (subst (λ b. Took (Byte (mutable_byte b)) mid rest) (sym m) q)
