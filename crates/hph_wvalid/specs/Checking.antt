-- Validity by one pass with a stack of kinds.
use Rattle.std.specs.Prelude.{◌≡◌, ℕ, ◌+◌, ◌^◌, List, [], ◌∷◌, ◌++◌, map, reverse, length, Bool, true, false, ◌&&◌, if◌then◌else◌, nat_lt, nat_le, Option, Some, None, slice_get}
use Rattle.hph_wasm.specs.declared.instr.Instr.{Instr, Unreachable, Nop, Block', Loop', If', Br, BrIf, BrTable, Return, Call, CallIndirect, Drop, Select, LocalGet, LocalSet, LocalTee, GlobalGet, GlobalSet, Load, LoadNarrow, Store, StoreNarrow, I32Const, I64Const, Eqz, Compare, Unary, Binary, Wrap, Extend, Row_of-Instr, end_of-Instr, more_of-Instr, Held-Instr-If-2, None', Some'}
use Rattle.hph_wasm.specs.declared.types.ValType.{ValType}
use Rattle.hph_wasm.specs.declared.types.ValType.TheVariants.{I32, I64}
use Rattle.hph_wasm.specs.declared.instr.MemArg.{MemArg}
use Rattle.hph_wasm.specs.declared.types.FuncType.{FuncType}
use Rattle.hph_wasm.specs.declared.types.Limits.{Limits}
use Rattle.hph_wasm.specs.declared.types.GlobalType.{GlobalType}
use Rattle.hph_wasm.specs.declared.types.BlockType.{BlockType}
use Rattle.hph_wasm.specs.declared.module.Func.{Func}
use Rattle.hph_wasm.specs.declared.module.Module.{Module}
use Rattle.hph_wvalid.specs.Stacks.{Stack}
use Rattle.hph_wvalid.specs.declared.stack.Kind.{Kind}
use Rattle.hph_wvalid.specs.declared.stack.Kind.TheVariants.{Known, Any}
use Rattle.hph_wasm.specs.Memory.{byte_width, load_type, load_bytes, store_type, store_bytes}
use Rattle.hph_wasm.specs.Choice.{if_some}
use Rattle.hph_wasm.specs.Functions.{func_type, tables, memories, globals}
use Rattle.hph_wasm.specs.Reduction.{same_types}
use Rattle.hph_wasm.specs.Rows.{size, row_size, list_size}
use Rattle.hph_wasm.specs.Validity.{Context, under_label, results_of}

abbrev pub nothing : Stack
nothing = record { kinds = []; free = false }

abbrev pub anything : Stack
anything = record { kinds = []; free = true }

-- The last kind, if there is one, and the others.
abbrev pub popped : List Kind → Option Kind × List Kind
popped [] = (None, [])
popped (k ∷ kinds) = (Some k, kinds)

abbrev pub is_kind : ValType → Kind → Bool
is_kind t Any = true
is_kind I32 (Known I32) = true
is_kind I64 (Known I64) = true
is_kind I32 (Known I64) = false
is_kind I64 (Known I32) = false

abbrev pub pop_of : ValType → List Kind → Bool → Option Stack
pop_of t [] true = Some anything
pop_of t [] false = None
pop_of t (k ∷ kinds) free = if is_kind t k then Some (record { kinds = kinds; free = free }) else None

abbrev pub pop : ValType → Stack → Option Stack
pop t s = pop_of t s.kinds s.free

abbrev pub pops : List ValType → Stack → Option Stack
pops [] s = Some s
pops (t ∷ ts) s = if_some (pop t s) None (pops ts)

abbrev pub push_all : List ValType → Stack → Stack
push_all ts s = record { kinds = map Known ts ++ s.kinds; free = s.free }

abbrev pub drop_of : List Kind → Bool → Option Stack
drop_of [] true = Some anything
drop_of [] false = None
drop_of (k ∷ kinds) free = Some (record { kinds = kinds; free = free })

abbrev pub all_labels : List (List ValType) → List ValType → List ℕ → Bool
all_labels labels ts [] = true
all_labels labels ts (k ∷ ks) = if_some (slice_get labels k) false (same_types ts) && all_labels labels ts ks

-- What an instruction takes and gives, the last type first; one of the second kind never goes on.
pub data Signature : Type 0 where
  From : (takes gives : List ValType) → Signature
  Last : (takes : List ValType) → Signature

abbrev pub access : List Limits → ℕ → MemArg → Signature → Option Signature
access found bytes arg sig = if nat_lt 0 (length found) && nat_le (2 ^ arg.align) bytes then Some sig else None

-- Reads and writes of variables, where globals and locals have these types (3.3.3).
abbrev pub variable_signature : List GlobalType → List ValType → Instr → Option Signature
variable_signature gs ls (LocalGet x) = if_some (slice_get ls x) None (λ t. Some (From [] (t ∷ [])))
variable_signature gs ls (LocalSet x) = if_some (slice_get ls x) None (λ t. Some (From (t ∷ []) []))
variable_signature gs ls (LocalTee x) = if_some (slice_get ls x) None (λ t. Some (From (t ∷ []) (t ∷ [])))
variable_signature gs ls (GlobalGet x) = if_some (slice_get gs x) None (λ g. Some (From [] (g.value ∷ [])))
variable_signature gs ls (GlobalSet x) = if_some (slice_get gs x) None (λ g. if g.mutable then Some (From (g.value ∷ []) []) else None)
variable_signature gs ls _ = None

-- Accesses to the memory, where these are found (3.3.4).
abbrev pub access_signature : List Limits → Instr → Option Signature
access_signature found (Load t a) = access found (byte_width t) a (From (I32 ∷ []) (t ∷ []))
access_signature found (LoadNarrow load a) = access found (load_bytes load) a (From (I32 ∷ []) (load_type load ∷ []))
access_signature found (Store t a) = access found (byte_width t) a (From (t ∷ I32 ∷ []) [])
access_signature found (StoreNarrow store a) = access found (store_bytes store) a (From (store_type store ∷ I32 ∷ []) [])
access_signature found _ = None

-- Instructions on numbers (3.3.1).
abbrev pub numeric_signature : Instr → Option Signature
numeric_signature (I32Const z) = Some (From [] (I32 ∷ []))
numeric_signature (I64Const z) = Some (From [] (I64 ∷ []))
numeric_signature (Eqz t) = Some (From (t ∷ []) (I32 ∷ []))
numeric_signature (Compare t o) = Some (From (t ∷ t ∷ []) (I32 ∷ []))
numeric_signature (Unary t o) = Some (From (t ∷ []) (t ∷ []))
numeric_signature (Binary t o) = Some (From (t ∷ t ∷ []) (t ∷ []))
numeric_signature Wrap = Some (From (I64 ∷ []) (I32 ∷ []))
numeric_signature (Extend s) = Some (From (I32 ∷ []) (I64 ∷ []))
numeric_signature _ = None

-- Instructions that hold no others, but for `drop` and `select`.
abbrev pub plain : Module → Context → Instr → Option Signature
plain m c Unreachable = Some (Last [])
plain m c Nop = Some (From [] [])
plain m c (Br k) = if_some (slice_get c.labels k) None (λ ts. Some (Last ts))
plain m c (BrIf k) = if_some (slice_get c.labels k) None (λ ts. Some (From (I32 ∷ ts) ts))
plain m c (BrTable ks k) = if_some (slice_get c.labels k) None (λ ts. if all_labels c.labels ts ks then Some (Last (I32 ∷ ts)) else None)
plain m c Return = Some (Last c.result)
plain m c (Call f) = if_some (func_type m f) None (λ ty. Some (From (reverse ty.params) (reverse ty.results)))
plain m c (CallIndirect n) = if_some (slice_get m.types n) None (λ ty. if nat_lt 0 (length (tables m)) then Some (From (I32 ∷ reverse ty.params) (reverse ty.results)) else None)
plain m c (LocalGet x) = variable_signature (globals m) c.locals (LocalGet x)
plain m c (LocalSet x) = variable_signature (globals m) c.locals (LocalSet x)
plain m c (LocalTee x) = variable_signature (globals m) c.locals (LocalTee x)
plain m c (GlobalGet x) = variable_signature (globals m) c.locals (GlobalGet x)
plain m c (GlobalSet x) = variable_signature (globals m) c.locals (GlobalSet x)
plain m c (Load t a) = access_signature (memories m) (Load t a)
plain m c (LoadNarrow load a) = access_signature (memories m) (LoadNarrow load a)
plain m c (Store t a) = access_signature (memories m) (Store t a)
plain m c (StoreNarrow store a) = access_signature (memories m) (StoreNarrow store a)
plain m c i = numeric_signature i

abbrev pub obeyed : Option Signature → Stack → Option Stack
obeyed None s = None
obeyed (Some (From takes gives)) s = if_some (pops takes s) None (λ s. Some (push_all gives s))
obeyed (Some (Last takes)) s = if_some (pops takes s) None (λ s. Some anything)

-- the stack behind the instructions, or the number of the first opcode at fault
pub data Verdict : Type 0 where
  Fine : (stack : Stack) → Verdict
  Fault : (at : ℕ) → Verdict

abbrev pub first_at_fault : Option Stack → Verdict
first_at_fault None = Fault 0
first_at_fault (Some s) = Fine s

abbrev pub is_nil : {X : Type 0} → List X → Bool
is_nil [] = true
is_nil (x ∷ xs) = false

-- the block ends with just these
abbrev pub ends : List ValType → Stack → Bool
ends ts s = if_some (pops ts s) false (λ s. is_nil s.kinds)

-- a block's instructions begin at this opcode, and are so many
abbrev pub closed_by : ℕ → ℕ → List ValType → Stack → Verdict → Verdict
closed_by at size results next (Fault k) = Fault (at + k)
closed_by at size results next (Fine b) = if ends results b then Fine next else Fault (at + size)

abbrev pub and_then : Verdict → (Stack → Verdict) → Verdict
and_then (Fault k) go = Fault k
and_then (Fine s) go = go s

abbrev pub later : ℕ → Verdict → Verdict
later n (Fault k) = Fault (n + k)
later n (Fine s) = Fine s

abbrev pub selected_of : Kind → List Kind → Bool → Option Stack
selected_of k [] true = Some (record { kinds = k ∷ []; free = true })
selected_of k [] false = None
selected_of Any (k ∷ kinds) free = Some (record { kinds = k ∷ kinds; free = free })
selected_of (Known t) (k ∷ kinds) free = if is_kind t k then Some (record { kinds = Known t ∷ kinds; free = free }) else None

abbrev pub select_of : List Kind → Bool → Option Stack
select_of [] true = Some (record { kinds = Any ∷ []; free = true })
select_of [] false = None
select_of (k ∷ kinds) free = selected_of k kinds free

abbrev mutual
  pub check : Module → Context → Instr → Stack → Verdict
  check m c (Block' t s body) st = closed_by 1 (row_size body) (results_of t) (push_all (results_of t) st) (check_row m (under_label (results_of t) c) body nothing)
  check m c (Loop' t s body) st = closed_by 1 (row_size body) (results_of t) (push_all (results_of t) st) (check_row m (under_label [] c) body nothing)
  check m c (If' t s body other) st = and_then (first_at_fault (pop I32 st)) (λ st.
      and_then (closed_by 1 (row_size body) (results_of t) (push_all (results_of t) st) (check_row m (under_label (results_of t) c) body nothing)) (λ next.
      check_else m (under_label (results_of t) c) other (row_size body) (results_of t) next))
  check m c Drop st = first_at_fault (drop_of st.kinds st.free)
  check m c Select st = first_at_fault (if_some (pop I32 st) None (λ st. select_of st.kinds st.free))
  check m c i st = first_at_fault (obeyed (plain m c i) st)

  pub check_row : {n : _} → Module → Context → Row_of-Instr n → Stack → Verdict
  check_row m c end_of-Instr st = Fine st
  check_row m c (more_of-Instr i rest) st = and_then (check m c i st) (λ st. later (size i) (check_row m c rest st))

  pub check_else : Module → Context → Held-Instr-If-2 → ℕ → List ValType → Stack → Verdict
  check_else m c None' n results next = if is_nil results then Fine next else Fault (1 + n)
  check_else m c (Some' s body) n results next = closed_by (2 + n) (row_size body) results next (check_row m c body nothing)

abbrev pub check_list : Module → Context → List Instr → Stack → Verdict
check_list m c [] st = Fine st
check_list m c (i ∷ rest) st = and_then (check m c i st) (λ st. later (size i) (check_list m c rest st))

-- A block or a loop, by the list of the instructions inside.
abbrev pub block_verdict : Module → Context → List ValType → BlockType → List Instr → Stack → Verdict
block_verdict m c label ty body st =
    closed_by 1 (list_size body) (results_of ty) (push_all (results_of ty) st) (check_list m (under_label label c) body nothing)

-- An `if` without `else`, behind its condition.
abbrev pub alone_verdict : Module → Context → BlockType → List Instr → Stack → Verdict
alone_verdict m c ty body st = and_then (block_verdict m c (results_of ty) ty body st)
    (λ next. if is_nil (results_of ty) then Fine next else Fault (1 + list_size body))

-- An `if` with two branches, behind its condition.
abbrev pub branches_verdict : Module → Context → BlockType → List Instr → List Instr → Stack → Verdict
branches_verdict m c ty body other st = and_then (block_verdict m c (results_of ty) ty body st)
    (λ next. closed_by (2 + list_size body) (list_size other) (results_of ty) next (check_list m (under_label (results_of ty) c) other nothing))

-- a result with the count of opcodes before and after: behind all n, or at the first fault
abbrev pub Agrees : Verdict → ℕ → ℕ → ℕ → Option Stack → Type 0
Agrees (Fine s) from to n (Some s') = (s' ≡ s) × (to ≡ from + n)
Agrees (Fault k) from to n None = to ≡ from + k
Agrees (Fine s) from to n None = ⊥
Agrees (Fault k) from to n (Some s') = ⊥

-- the same for a block with its end
abbrev pub AgreesBlock : Verdict → ℕ → ℕ → ℕ → Bool → Type 0
AgreesBlock (Fine s) from to n true = to ≡ from + n
AgreesBlock (Fault k) from to n false = to ≡ from + k
AgreesBlock (Fine s) from to n false = ⊥
AgreesBlock (Fault k) from to n true = ⊥

-- What stands around the outermost label of a body.
abbrev pub outer_scope : FuncType → Func → Context
outer_scope ty func = record { locals = ty.params ++ func.locals; labels = []; result = reverse ty.results }
