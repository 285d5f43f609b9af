-- Reading imports and exports, part by part (Core Specification 1.0, 5.5.5 and 5.5.10).
use Rattle.std.proofs.Common.{◌≡◌, ◌∙◌, inl, inr, ℕ, List, ◌∷◌, ◌++◌, drop, sym, ap, subst}
use Rattle.hph_wasm.specs.Leb128.{Unsigned}
use Rattle.hph_wasm.specs.Grammar.{Grammar, Byte, ◌⊳◌, Named, TableType, MemoryType, GlobalOf}
use Rattle.hph_wasm.specs.OneWay.{OneForm}
use Rattle.hph_wasm.specs.ModuleGrammar.{ImportedThing, Imported, ExportedThing, Exported}
use Rattle.hph_wasm.specs.Unsupported.{Stop, Any, Nowhere, Behind, StopsTableType, StopsMemoryType, StopsValueType, StopsImportedThing, StopsImported}
use Rattle.hph_wasm.specs.declared.feature.Feature.{Feature}
use Rattle.hph_wasm.specs.declared.module.ImportDesc.{ImportDesc}
use Rattle.hph_wasm.specs.declared.module.ImportDesc.TheVariants.{Func, Table, Memory, Global}
use Rattle.hph_wasm.specs.declared.module.ExportDesc.{ExportDesc}
use Rattle.hph_wasm.specs.declared.module.ExportDesc.TheVariants as export_desc
use Rattle.hph_wread.specs.declared.kinds.ExternalKind.{ExternalKind}
use Rattle.hph_wread.specs.declared.kinds.ExternalKind.TheVariants as kind
use Rattle.hph_wread.specs.declared.fault.Fault.{Fault}
use Rattle.hph_wread.specs.declared.fault.Fault.TheVariants.{Malformed, Unsupported, NoMemory}
use Rattle.hph_wread.specs.Kinds.{KindByte, exported}
use Rattle.hph_wread.specs.Reading.{Took, Fails}
use Rattle.hph_wread.proofs.Combinators.{took_then, took_split, took_any, took_behind, one_end, OneEnd, fails_map, behind_first, behind_second, plain_first, plain_second}
use Rattle.hph_wread.proofs.Tagged.{is_byte, byte_took, byte_stop, stop_behind_byte, tagged_fails}

-- something of another kind stands there
other_kind : {A : Type 0} (b c : ℕ) (Q : Grammar) {bytes mid rest : List ℕ} → bytes ≡ b ∷ mid → Took (Byte c ⊳ Q) bytes rest → ¬ (b ≡ c) → A
other_kind b c Q is p differ = absurd (differ (byte_took b c Q is p).same)

other_stop : {A : Type 0} (b c : ℕ) (T : Stop) {bytes mid : List ℕ} → bytes ≡ b ∷ mid → (place : ℕ) (feature : Feature) → Behind (Byte c) T place feature bytes → ¬ (b ≡ c) → A
other_stop b c T is place feature s differ = absurd (differ (byte_stop b c T is place feature s).same)

-- behind the byte of functions
func_took : {bytes mid rest : List ℕ} → bytes ≡ 0 ∷ mid → (thing : ImportDesc) → Took (ImportedThing thing) bytes rest → Took (Any (Unsigned 32)) mid rest
func_took is (Func ty) p = took_any (Unsigned 32) ty (byte_took 0 0 (Unsigned 32 ty) is p).behind
func_took is (Table limits) p = other_kind 0 1 (TableType limits) is p (λ e. let never : ⊥ = cc in never)
func_took is (Memory limits) p = other_kind 0 2 (MemoryType limits) is p (λ e. let never : ⊥ = cc in never)
func_took is (Global ty) p = other_kind 0 3 (GlobalOf ty) is p (λ e. let never : ⊥ = cc in never)

func_stop : {bytes mid : List ℕ} → bytes ≡ 0 ∷ mid → (place : ℕ) (feature : Feature) → StopsImportedThing place feature bytes → (before : ℕ) × Nowhere before feature mid
func_stop is place feature (inl t) = other_stop 0 1 StopsTableType is place feature t (λ e. let never : ⊥ = cc in never)
func_stop is place feature (inr (inl t)) = other_stop 0 2 StopsMemoryType is place feature t (λ e. let never : ⊥ = cc in never)
func_stop is place feature (inr (inr t)) = other_stop 0 3 StopsValueType is place feature t (λ e. let never : ⊥ = cc in never)

pub func_fails : {bytes mid : List ℕ} → Took (Byte 0) bytes mid → (e : Fault) → Fails (Any (Unsigned 32)) Nowhere mid e → Fails (Any ImportedThing) StopsImportedThing bytes e
func_fails p e f =
    let is = is_byte 0 p in
    tagged_fails 0 is (λ rest q. func_took is q.spelled.0 (record { front = q.front; split = q.split; spelled = q.spelled.1 }))
    (λ place feature t. absurd t) (func_stop is) e f

-- behind the byte of tables
table_took : {bytes mid rest : List ℕ} → bytes ≡ 1 ∷ mid → (thing : ImportDesc) → Took (ImportedThing thing) bytes rest → Took (Any (TableType)) mid rest
table_took is (Func ty) p = other_kind 1 0 (Unsigned 32 ty) is p (λ e. let never : ⊥ = cc in never)
table_took is (Table limits) p = took_any (TableType) limits (byte_took 1 1 (TableType limits) is p).behind
table_took is (Memory limits) p = other_kind 1 2 (MemoryType limits) is p (λ e. let never : ⊥ = cc in never)
table_took is (Global ty) p = other_kind 1 3 (GlobalOf ty) is p (λ e. let never : ⊥ = cc in never)

table_stop : {bytes mid : List ℕ} → bytes ≡ 1 ∷ mid → (place : ℕ) (feature : Feature) → StopsImportedThing place feature bytes → (before : ℕ) × StopsTableType before feature mid
table_stop is place feature (inl t) = let s = byte_stop 1 1 StopsTableType is place feature t in (s.before, s.stops)
table_stop is place feature (inr (inl t)) = other_stop 1 2 StopsMemoryType is place feature t (λ e. let never : ⊥ = cc in never)
table_stop is place feature (inr (inr t)) = other_stop 1 3 StopsValueType is place feature t (λ e. let never : ⊥ = cc in never)

pub table_fails : {bytes mid : List ℕ} → Took (Byte 1) bytes mid → (e : Fault) → Fails (Any (TableType)) StopsTableType mid e → Fails (Any ImportedThing) StopsImportedThing bytes e
table_fails p e f =
    let is = is_byte 1 p in
    tagged_fails 1 is (λ rest q. table_took is q.spelled.0 (record { front = q.front; split = q.split; spelled = q.spelled.1 }))
    (λ place feature t. inl (stop_behind_byte 1 StopsTableType is place feature t)) (table_stop is) e f

-- behind the byte of memories
memory_took : {bytes mid rest : List ℕ} → bytes ≡ 2 ∷ mid → (thing : ImportDesc) → Took (ImportedThing thing) bytes rest → Took (Any (MemoryType)) mid rest
memory_took is (Func ty) p = other_kind 2 0 (Unsigned 32 ty) is p (λ e. let never : ⊥ = cc in never)
memory_took is (Table limits) p = other_kind 2 1 (TableType limits) is p (λ e. let never : ⊥ = cc in never)
memory_took is (Memory limits) p = took_any (MemoryType) limits (byte_took 2 2 (MemoryType limits) is p).behind
memory_took is (Global ty) p = other_kind 2 3 (GlobalOf ty) is p (λ e. let never : ⊥ = cc in never)

memory_stop : {bytes mid : List ℕ} → bytes ≡ 2 ∷ mid → (place : ℕ) (feature : Feature) → StopsImportedThing place feature bytes → (before : ℕ) × StopsMemoryType before feature mid
memory_stop is place feature (inl t) = other_stop 2 1 StopsTableType is place feature t (λ e. let never : ⊥ = cc in never)
memory_stop is place feature (inr (inl t)) = let s = byte_stop 2 2 StopsMemoryType is place feature t in (s.before, s.stops)
memory_stop is place feature (inr (inr t)) = other_stop 2 3 StopsValueType is place feature t (λ e. let never : ⊥ = cc in never)

pub memory_fails : {bytes mid : List ℕ} → Took (Byte 2) bytes mid → (e : Fault) → Fails (Any (MemoryType)) StopsMemoryType mid e → Fails (Any ImportedThing) StopsImportedThing bytes e
memory_fails p e f =
    let is = is_byte 2 p in
    tagged_fails 2 is (λ rest q. memory_took is q.spelled.0 (record { front = q.front; split = q.split; spelled = q.spelled.1 }))
    (λ place feature t. inr (inl (stop_behind_byte 2 StopsMemoryType is place feature t))) (memory_stop is) e f

-- behind the byte of globals
global_took : {bytes mid rest : List ℕ} → bytes ≡ 3 ∷ mid → (thing : ImportDesc) → Took (ImportedThing thing) bytes rest → Took (Any (GlobalOf)) mid rest
global_took is (Func ty) p = other_kind 3 0 (Unsigned 32 ty) is p (λ e. let never : ⊥ = cc in never)
global_took is (Table limits) p = other_kind 3 1 (TableType limits) is p (λ e. let never : ⊥ = cc in never)
global_took is (Memory limits) p = other_kind 3 2 (MemoryType limits) is p (λ e. let never : ⊥ = cc in never)
global_took is (Global ty) p = took_any (GlobalOf) ty (byte_took 3 3 (GlobalOf ty) is p).behind

global_stop : {bytes mid : List ℕ} → bytes ≡ 3 ∷ mid → (place : ℕ) (feature : Feature) → StopsImportedThing place feature bytes → (before : ℕ) × StopsValueType before feature mid
global_stop is place feature (inl t) = other_stop 3 1 StopsTableType is place feature t (λ e. let never : ⊥ = cc in never)
global_stop is place feature (inr (inl t)) = other_stop 3 2 StopsMemoryType is place feature t (λ e. let never : ⊥ = cc in never)
global_stop is place feature (inr (inr t)) = let s = byte_stop 3 3 StopsValueType is place feature t in (s.before, s.stops)

pub global_fails : {bytes mid : List ℕ} → Took (Byte 3) bytes mid → (e : Fault) → Fails (Any (GlobalOf)) StopsValueType mid e → Fails (Any ImportedThing) StopsImportedThing bytes e
global_fails p e f =
    let is = is_byte 3 p in
    tagged_fails 3 is (λ rest q. global_took is q.spelled.0 (record { front = q.front; split = q.split; spelled = q.spelled.1 }))
    (λ place feature t. inr (inr (stop_behind_byte 3 StopsValueType is place feature t))) (global_stop is) e f

-- each begins with the byte of its kind
kind_took : {bytes rest : List ℕ} (thing : ImportDesc) → Took (ImportedThing thing) bytes rest → (mid : List ℕ) × Took (Any KindByte) bytes mid
kind_took (Func ty) p = let two = took_split p in (two.mid, took_any KindByte kind.Func two.first)
kind_took (Table limits) p = let two = took_split p in (two.mid, took_any KindByte kind.Table two.first)
kind_took (Memory limits) p = let two = took_split p in (two.mid, took_any KindByte kind.Memory two.first)
kind_took (Global ty) p = let two = took_split p in (two.mid, took_any KindByte kind.Global two.first)

kind_stop : {bytes : List ℕ} (place : ℕ) (feature : Feature) → StopsImportedThing place feature bytes → (mid : List ℕ) × Took (Any KindByte) bytes mid
kind_stop place feature (inl t) = (t.rest, took_any KindByte kind.Table (took_behind place feature t))
kind_stop place feature (inr (inl t)) = (t.rest, took_any KindByte kind.Memory (took_behind place feature t))
kind_stop place feature (inr (inr t)) = (t.rest, took_any KindByte kind.Global (took_behind place feature t))

pub kind_fails : {bytes : List ℕ} → (e : Fault) → Fails (Any KindByte) Nowhere bytes e → Fails (Any ImportedThing) StopsImportedThing bytes e
kind_fails (Malformed left) f = let r = f.reason in record {
  reason = (
    r.0,
    record {
      none = λ rest p. let k = kind_took p.spelled.0 (record { front = p.front; split = p.split; spelled = p.spelled.1 }) in r.1.none k.0 k.1;
      nowhere = λ place feature t. let k = kind_stop place feature t in r.1.none k.0 k.1;
    },
  );
}
kind_fails (Unsupported left feature) f = absurd f.reason.stops
kind_fails NoMemory f = record { reason = tt }

-- two names and a thing
import_parts : (front : List ℕ) → Any Imported front → (Any Named ⊳ Any Named ⊳ Any ImportedThing) front
import_parts front p =
    let one = p.1 in
    let two = one.second in
    record {
      front = one.front;
      rest = one.rest;
      split = one.split;
      first = (p.0.«module», one.first, tt);
      second = record {
        front = two.front;
        rest = two.rest;
        split = two.split;
        first = (p.0.name, two.first, tt);
        second = (p.0.desc, two.second, tt);
      };
    }

as_import : {bytes : List ℕ} → (e : Fault) → Fails (Any Named ⊳ Any Named ⊳ Any ImportedThing) StopsImported bytes e → Fails (Any Imported) StopsImported bytes e
as_import e f = fails_map import_parts (λ place feature t. t) (λ place feature t. t) e f

pub import_host : {bytes : List ℕ} → (e : Fault) → Fails (Any Named) Nowhere bytes e → Fails (Any Imported) StopsImported bytes e
import_host e f = as_import e (behind_first (Any Named ⊳ Any ImportedThing) (Behind (Any Named) StopsImportedThing) e f)

pub import_name : {bytes mid : List ℕ} → OneForm Named → (host : List ℕ) → Took (Named host) bytes mid → (e : Fault) → Fails (Any Named) Nowhere mid e → Fails (Any Imported) StopsImported bytes e
import_name o host p e f = as_import e (behind_second (one_end o) (took_any Named host p) e (behind_first (Any ImportedThing) StopsImportedThing e f))

pub import_thing : {bytes mid rest : List ℕ} → OneForm Named → (host name : List ℕ) → Took (Named host) bytes mid → Took (Named name) mid rest → (e : Fault) →
    Fails (Any ImportedThing) StopsImportedThing rest e → Fails (Any Imported) StopsImported bytes e
import_thing o host name p q e f = as_import e (behind_second (one_end o) (took_any Named host p) e (behind_second (one_end o) (took_any Named name q) e f))

-- an export is a name, a kind and a number
export_kind : (desc : ExportDesc) (front : List ℕ) → ExportedThing desc front → (Any KindByte ⊳ Any (Unsigned 32)) front
export_kind (export_desc.Func n) front p = record { front = p.front; rest = p.rest; split = p.split; first = (kind.Func, p.first, tt); second = (n, p.second, tt) }
export_kind (export_desc.Table n) front p = record { front = p.front; rest = p.rest; split = p.split; first = (kind.Table, p.first, tt); second = (n, p.second, tt) }
export_kind (export_desc.Memory n) front p = record { front = p.front; rest = p.rest; split = p.split; first = (kind.Memory, p.first, tt); second = (n, p.second, tt) }
export_kind (export_desc.Global n) front p = record { front = p.front; rest = p.rest; split = p.split; first = (kind.Global, p.first, tt); second = (n, p.second, tt) }

pub thing_kind : {bytes : List ℕ} → (e : Fault) → Fails (Any KindByte) Nowhere bytes e → Fails (Any ExportedThing) Nowhere bytes e
thing_kind e f = fails_map (λ front p. export_kind p.0 front p.1) (λ place feature n. n) (λ place feature n. n) e (plain_first (Any (Unsigned 32)) e f)

kind_rest : {bytes rest : List ℕ} → (k : ExternalKind) → Took (KindByte k) bytes rest → rest ≡ drop 1 bytes
kind_rest {rest = rest} k p = sym (ap (drop 1) (p.split ∙ ap (λ l. l ++ rest) p.spelled))

kind_end : OneEnd (Any KindByte)
kind_end = record {
  same = λ bytes r s p q.
      kind_rest p.spelled.0 (record { front = p.front; split = p.split; spelled = p.spelled.1 }) ∙ sym (kind_rest q.spelled.0 (record { front = q.front; split = q.split; spelled = q.spelled.1 }));
}

pub thing_number : {bytes mid : List ℕ} → (k : ExternalKind) → Took (KindByte k) bytes mid → (e : Fault) → Fails (Any (Unsigned 32)) Nowhere mid e → Fails (Any ExportedThing) Nowhere bytes e
thing_number k p e f = fails_map (λ front p. export_kind p.0 front p.1) (λ place feature n. n) (λ place feature n. n) e (plain_second kind_end (took_any KindByte k p) e f)

exported_took : {bytes mid rest : List ℕ} → (k : ExternalKind) → Took (KindByte k) bytes mid → (n : ℕ) → Took (Unsigned 32 n) mid rest → Took (ExportedThing (exported k n)) bytes rest
exported_took kind.Func p n q = took_then p q
exported_took kind.Table p n q = took_then p q
exported_took kind.Memory p n q = took_then p q
exported_took kind.Global p n q = took_then p q

pub thing_took : {bytes mid rest : List ℕ} → (desc : ExportDesc) (k : ExternalKind) → Took (KindByte k) bytes mid → (n : ℕ) → Took (Unsigned 32 n) mid rest → desc ≡ exported k n → Took (ExportedThing desc) bytes rest
thing_took {bytes} {mid} {rest} desc k p n q is = subst (λ d. Took (ExportedThing d) bytes rest) (sym is) (exported_took k p n q)

export_parts : (front : List ℕ) → Any Exported front → (Any Named ⊳ Any ExportedThing) front
export_parts front p = let one = p.1 in record { front = one.front; rest = one.rest; split = one.split; first = (p.0.name, one.first, tt); second = (p.0.desc, one.second, tt) }

pub export_name : {bytes : List ℕ} → (e : Fault) → Fails (Any Named) Nowhere bytes e → Fails (Any Exported) Nowhere bytes e
export_name e f = fails_map export_parts (λ place feature n. n) (λ place feature n. n) e (plain_first (Any ExportedThing) e f)

pub export_thing : {bytes mid : List ℕ} → OneForm Named → (name : List ℕ) → Took (Named name) bytes mid → (e : Fault) → Fails (Any ExportedThing) Nowhere mid e → Fails (Any Exported) Nowhere bytes e
export_thing o name p e f = fails_map export_parts (λ place feature n. n) (λ place feature n. n) e (plain_second (one_end o) (took_any Named name p) e f)
