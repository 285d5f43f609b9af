-- Reading an instruction that begins no block (Core Specification 1.0, 5.4).
use Rattle.std.proofs.Common.{◌≡◌, ◌∙◌, inl, inr, ℕ, List, [], ◌∷◌, length, refl, sym, ap, subst, arith, Option, Some, None}
use Rattle.std.specs.Prelude.{pos}
use Rattle.hph_wasm.specs.Leb128.{Unsigned, Signed}
use Rattle.hph_wasm.specs.Grammar.{Byte, ◌⊳◌, Vector}
use Rattle.hph_wasm.specs.OneWay.{OneForm}
use Rattle.hph_wasm.specs.Codes.{opcode}
use Rattle.hph_wasm.specs.InstructionGrammar.{MemoryArgument, Instruction}
use Rattle.hph_wasm.specs.Unsupported.{Any, Nowhere, AtByte, IsAnything, left_out, InVector}
use Rattle.hph_wasm.specs.declared.feature.Feature.{Feature}
use Rattle.hph_wasm.specs.declared.instr.MemArg.{MemArg}
use Rattle.hph_wasm.specs.declared.instr.Instr.{Instr, Unreachable, Nop, Block', Loop', If', Br, BrIf, BrTable, Return, Call, CallIndirect, Drop, Select, LocalGet, LocalSet, LocalTee, GlobalGet, GlobalSet, Load, LoadNarrow, Store, StoreNarrow, I32Const, I64Const, Eqz, Compare, Unary, Binary, Wrap, Extend}
use Rattle.hph_wread.specs.declared.fault.Fault.{Fault}
use Rattle.hph_wread.specs.declared.fault.Fault.TheVariants.{Malformed, Unsupported}
use Rattle.hph_wread.specs.declared.forms.IndexForm.{IndexForm}
use Rattle.hph_wread.specs.declared.forms.IndexForm.TheVariants as index
use Rattle.hph_wread.specs.declared.forms.AccessForm.{AccessForm}
use Rattle.hph_wread.specs.declared.forms.AccessForm.TheVariants as access
use Rattle.hph_wread.specs.Reading.{Took, Fails}
use Rattle.hph_wread.specs.Forms.{StopsOpcode, IsPlain, IsBare, index_code, indexed, access_code, accessed}
use Rattle.hph_wread.proofs.Combinators.{took_then, took_any, one_end, fails_map, plain_first, plain_second}
use Rattle.hph_wread.proofs.Vectors.{vector_end}
use Rattle.hph_wread.proofs.Tagged.{took_byte, tagged_fails}
use Rattle.hph_wread.proofs.InstructionParts.{Index, Access, class, behind, Apart, opcode_took, no_opcode, opcode_kept}

at_first : (f : ℕ → Option Feature) (code : ℕ) {bytes mid : List ℕ} → bytes ≡ code ∷ mid → (place : ℕ) (feature : Feature) → AtByte f place feature bytes → (place ≡ 0) × (f code ≡ Some feature)
at_first f code is place feature t = subst (AtByte f place feature) is t

pub plain_fails : Apart → (j : Instr) {bytes mid : List ℕ} → bytes ≡ opcode j ∷ mid → (e : Fault) → Fails (behind (class j)) Nowhere mid e → Fails (Any Instruction) StopsOpcode bytes e
plain_fails apart j is e f = tagged_fails (opcode j) is (λ rest p. opcode_took apart j is p) (λ place feature n. absurd n)
    (λ place feature s. let out = (at_first left_out (opcode j) is place feature s).1 in let never : ⊥ = cc (out, opcode_kept j) in absurd never) e f

-- an opcode of no instruction
pub unknown_malformed : (code : ℕ) {bytes mid : List ℕ} → bytes ≡ code ∷ mid → ((i : Instr) → ¬ (opcode i ≡ code)) → left_out code ≡ None →
    Fails (Any Instruction) StopsOpcode bytes (Malformed (length bytes))
unknown_malformed code is none kept = record {
  reason = (
    omega arith,
    record {
      none = λ rest p. no_opcode code is none p;
      nowhere = λ place feature s. let out = (at_first left_out code is place feature s).1 in let never : ⊥ = cc in never;
    },
  );
}

pub unknown_unsupported : (code : ℕ) {bytes mid : List ℕ} → bytes ≡ code ∷ mid → (feature : Feature) → left_out code ≡ Some feature →
    Fails (Any Instruction) StopsOpcode bytes (Unsupported (length bytes) feature)
unknown_unsupported code {bytes} {mid} is feature out =
    let here : AtByte left_out 0 feature (code ∷ mid) = (refl, out) in
    record { reason = record { place = 0; counted = omega arith; stops = subst (AtByte left_out 0 feature) (sym is) here } }

-- what was read is an instruction
pub bare_took : (i : Instr) (code : ℕ) {bytes mid : List ℕ} → IsBare i → opcode i ≡ code → bytes ≡ code ∷ mid → Took (Instruction i) bytes mid
bare_took Unreachable code {mid = mid} bare same is = took_byte (opcode Unreachable) (is ∙ ap (λ b. b ∷ mid) (sym same))
bare_took Nop code {mid = mid} bare same is = took_byte (opcode Nop) (is ∙ ap (λ b. b ∷ mid) (sym same))
bare_took Return code {mid = mid} bare same is = took_byte (opcode Return) (is ∙ ap (λ b. b ∷ mid) (sym same))
bare_took Drop code {mid = mid} bare same is = took_byte (opcode Drop) (is ∙ ap (λ b. b ∷ mid) (sym same))
bare_took Select code {mid = mid} bare same is = took_byte (opcode Select) (is ∙ ap (λ b. b ∷ mid) (sym same))
bare_took Wrap code {mid = mid} bare same is = took_byte (opcode Wrap) (is ∙ ap (λ b. b ∷ mid) (sym same))
bare_took (Extend s) code {mid = mid} bare same is = took_byte (opcode (Extend s)) (is ∙ ap (λ b. b ∷ mid) (sym same))
bare_took (Eqz t) code {mid = mid} bare same is = took_byte (opcode (Eqz t)) (is ∙ ap (λ b. b ∷ mid) (sym same))
bare_took (Compare t o) code {mid = mid} bare same is = took_byte (opcode (Compare t o)) (is ∙ ap (λ b. b ∷ mid) (sym same))
bare_took (Unary t o) code {mid = mid} bare same is = took_byte (opcode (Unary t o)) (is ∙ ap (λ b. b ∷ mid) (sym same))
bare_took (Binary t o) code {mid = mid} bare same is = took_byte (opcode (Binary t o)) (is ∙ ap (λ b. b ∷ mid) (sym same))
bare_took (Br n) code bare same is = absurd bare
bare_took (BrIf n) code bare same is = absurd bare
bare_took (Call n) code bare same is = absurd bare
bare_took (LocalGet n) code bare same is = absurd bare
bare_took (LocalSet n) code bare same is = absurd bare
bare_took (LocalTee n) code bare same is = absurd bare
bare_took (GlobalGet n) code bare same is = absurd bare
bare_took (GlobalSet n) code bare same is = absurd bare
bare_took (Load t at) code bare same is = absurd bare
bare_took (LoadNarrow part at) code bare same is = absurd bare
bare_took (Store t at) code bare same is = absurd bare
bare_took (StoreNarrow part at) code bare same is = absurd bare
bare_took (BrTable labels label) code bare same is = absurd bare
bare_took (CallIndirect ty) code bare same is = absurd bare
bare_took (I32Const value) code bare same is = absurd bare
bare_took (I64Const value) code bare same is = absurd bare
bare_took (Block' ty shape body) code bare same is = absurd bare
bare_took (Loop' ty shape body) code bare same is = absurd bare
bare_took (If' ty shape body other) code bare same is = absurd bare

pub indexed_took : (f : IndexForm) (n : ℕ) {bytes mid rest : List ℕ} → Took (Byte (index_code f)) bytes mid → Took (Unsigned 32 n) mid rest → Took (Instruction (indexed f n)) bytes rest
indexed_took index.Br n p q = took_then p q
indexed_took index.BrIf n p q = took_then p q
indexed_took index.Call n p q = took_then p q
indexed_took index.LocalGet n p q = took_then p q
indexed_took index.LocalSet n p q = took_then p q
indexed_took index.LocalTee n p q = took_then p q
indexed_took index.GlobalGet n p q = took_then p q
indexed_took index.GlobalSet n p q = took_then p q

pub indexed_behind : (f : IndexForm) (n : ℕ) → (class (indexed f n) ≡ Index) × (opcode (indexed f n) ≡ index_code f)
indexed_behind index.Br n = (refl, refl)
indexed_behind index.BrIf n = (refl, refl)
indexed_behind index.Call n = (refl, refl)
indexed_behind index.LocalGet n = (refl, refl)
indexed_behind index.LocalSet n = (refl, refl)
indexed_behind index.LocalTee n = (refl, refl)
indexed_behind index.GlobalGet n = (refl, refl)
indexed_behind index.GlobalSet n = (refl, refl)

pub accessed_took : (f : AccessForm) (at : MemArg) {bytes mid rest : List ℕ} → Took (Byte (access_code f)) bytes mid → Took (MemoryArgument at) mid rest → Took (Instruction (accessed f at)) bytes rest
accessed_took (access.Load t) at p q = took_then p q
accessed_took (access.LoadNarrow part) at p q = took_then p q
accessed_took (access.Store t) at p q = took_then p q
accessed_took (access.StoreNarrow part) at p q = took_then p q

pub accessed_behind : (f : AccessForm) (at : MemArg) → (class (accessed f at) ≡ Access) × (opcode (accessed f at) ≡ access_code f)
accessed_behind (access.Load t) at = (refl, refl)
accessed_behind (access.LoadNarrow part) at = (refl, refl)
accessed_behind (access.Store t) at = (refl, refl)
accessed_behind (access.StoreNarrow part) at = (refl, refl)

-- an index isn't there
pub index_fails : Apart → (f : IndexForm) (code : ℕ) {bytes mid : List ℕ} → index_code f ≡ code → bytes ≡ code ∷ mid → (e : Fault) → Fails (Any (Unsigned 32)) Nowhere mid e →
    Fails (Any Instruction) StopsOpcode bytes e
index_fails apart f code {bytes} {mid} same is e g =
    let j = indexed f 0 in
    let known = indexed_behind f 0 in
    let one : opcode j ≡ code = known.1 ∙ same in
    plain_fails apart j (is ∙ ap (λ b. b ∷ mid) (sym one)) e (subst (λ k. Fails (behind k) Nowhere mid e) (sym known.0) g)

-- a memory argument isn't there
pub access_fails : Apart → (f : AccessForm) (code : ℕ) {bytes mid : List ℕ} → access_code f ≡ code → bytes ≡ code ∷ mid → (e : Fault) → Fails (Any MemoryArgument) Nowhere mid e →
    Fails (Any Instruction) StopsOpcode bytes e
access_fails apart f code {bytes} {mid} same is e g =
    let j = accessed f (record { align = 0; offset = 0 }) in
    let known = accessed_behind f (record { align = 0; offset = 0 }) in
    let one : opcode j ≡ code = known.1 ∙ same in
    plain_fails apart j (is ∙ ap (λ b. b ∷ mid) (sym one)) e (subst (λ k. Fails (behind k) Nowhere mid e) (sym known.0) g)

-- memory arguments
argument_parts : (front : List ℕ) → Any MemoryArgument front → (Any (Unsigned 32) ⊳ Any (Unsigned 32)) front
argument_parts front p = let q = p.1 in record { front = q.front; rest = q.rest; split = q.split; first = (p.0.align, q.first, tt); second = (p.0.offset, q.second, tt) }

pub argument_align : {bytes : List ℕ} → (e : Fault) → Fails (Any (Unsigned 32)) Nowhere bytes e → Fails (Any MemoryArgument) Nowhere bytes e
argument_align e f = fails_map argument_parts (λ place feature n. n) (λ place feature n. n) e (plain_first (Any (Unsigned 32)) e f)

pub argument_offset : {bytes mid : List ℕ} → OneForm (Unsigned 32) → (align : ℕ) → Took (Unsigned 32 align) bytes mid → (e : Fault) → Fails (Any (Unsigned 32)) Nowhere mid e → Fails (Any MemoryArgument) Nowhere bytes e
argument_offset o align p e f = fails_map argument_parts (λ place feature n. n) (λ place feature n. n) e (plain_second (one_end o) (took_any (Unsigned 32) align p) e f)

pub argument_took : {bytes mid rest : List ℕ} → (at : MemArg) (align : ℕ) → at.align ≡ align → Took (Unsigned 32 align) bytes mid → (offset : ℕ) → at.offset ≡ offset → Took (Unsigned 32 offset) mid rest → Took (MemoryArgument at) bytes rest
argument_took {bytes} {mid} {rest} at align a p offset b q = took_then (subst (λ n. Took (Unsigned 32 n) bytes mid) (sym a) p) (subst (λ n. Took (Unsigned 32 n) mid rest) (sym b) q)

-- nothing stops in indices
pub indices_fails : {bytes : List ℕ} → (e : Fault) → Fails (Any (Vector (Unsigned 32))) (InVector (Unsigned 32) IsAnything Nowhere) bytes e → Fails (Any (Vector (Unsigned 32))) Nowhere bytes e
indices_fails e f = fails_map (λ front p. p) (λ place feature t. t.1.stops.stops.stops) (λ place feature n. absurd n) e f

-- a table of branches whose labels, or whose last one, isn't there
pub labels_fails : Apart → {bytes mid : List ℕ} → bytes ≡ 0x0E ∷ mid → (e : Fault) → Fails (Any (Vector (Unsigned 32))) (InVector (Unsigned 32) IsAnything Nowhere) mid e → Fails (Any Instruction) StopsOpcode bytes e
labels_fails apart is e f = plain_fails apart (BrTable [] 0) is e (plain_first (Any (Unsigned 32)) e (indices_fails e f))

pub label_fails : Apart → OneForm (Unsigned 32) → {bytes mid rest : List ℕ} → bytes ≡ 0x0E ∷ mid → (labels : List ℕ) → Took (Vector (Unsigned 32) labels) mid rest → (e : Fault) →
    Fails (Any (Unsigned 32)) Nowhere rest e → Fails (Any Instruction) StopsOpcode bytes e
label_fails apart o is labels p e f = plain_fails apart (BrTable [] 0) is e (plain_second (vector_end o o) (took_any (Vector (Unsigned 32)) labels p) e f)

-- a call of a function of the table, whose type or table isn't there
pub type_fails : Apart → {bytes mid : List ℕ} → bytes ≡ 0x11 ∷ mid → (e : Fault) → Fails (Any (Unsigned 32)) Nowhere mid e → Fails (Any Instruction) StopsOpcode bytes e
type_fails apart is e f = plain_fails apart (CallIndirect 0) is e (plain_first (Byte 0x00) e f)

pub table_fails : Apart → OneForm (Unsigned 32) → {bytes mid rest : List ℕ} → bytes ≡ 0x11 ∷ mid → (ty : ℕ) → Took (Unsigned 32 ty) mid rest → (e : Fault) →
    Fails (Byte 0x00) Nowhere rest e → Fails (Any Instruction) StopsOpcode bytes e
table_fails apart o is ty p e f = plain_fails apart (CallIndirect 0) is e (plain_second (one_end o) (took_any (Unsigned 32) ty p) e f)

-- a constant that isn't there
pub word_fails : Apart → {bytes mid : List ℕ} → bytes ≡ 0x41 ∷ mid → (e : Fault) → Fails (Any (Signed 32)) Nowhere mid e → Fails (Any Instruction) StopsOpcode bytes e
word_fails apart is e f = plain_fails apart (I32Const (pos 0)) is e f

pub long_fails : Apart → {bytes mid : List ℕ} → bytes ≡ 0x42 ∷ mid → (e : Fault) → Fails (Any (Signed 64)) Nowhere mid e → Fails (Any Instruction) StopsOpcode bytes e
long_fails apart is e f = plain_fails apart (I64Const (pos 0)) is e f

-- no instruction is of this opcode
pub no_instruction : (code : ℕ) → IsPlain code → ((i : Instr) → IsBare i → ¬ (opcode i ≡ code)) → ((f : IndexForm) → ¬ (index_code f ≡ code)) → ((f : AccessForm) → ¬ (access_code f ≡ code)) →
    ¬ (0x0E ≡ code) → ¬ (0x11 ≡ code) → ¬ (0x41 ≡ code) → ¬ (0x42 ≡ code) → (i : Instr) → ¬ (opcode i ≡ code)
no_instruction code plain bare indices arguments labels indirect word long Unreachable same = bare Unreachable tt same
no_instruction code plain bare indices arguments labels indirect word long Nop same = bare Nop tt same
no_instruction code plain bare indices arguments labels indirect word long Return same = bare Return tt same
no_instruction code plain bare indices arguments labels indirect word long Drop same = bare Drop tt same
no_instruction code plain bare indices arguments labels indirect word long Select same = bare Select tt same
no_instruction code plain bare indices arguments labels indirect word long Wrap same = bare Wrap tt same
no_instruction code plain bare indices arguments labels indirect word long (Extend s) same = bare (Extend s) tt same
no_instruction code plain bare indices arguments labels indirect word long (Eqz t) same = bare (Eqz t) tt same
no_instruction code plain bare indices arguments labels indirect word long (Compare t o) same = bare (Compare t o) tt same
no_instruction code plain bare indices arguments labels indirect word long (Unary t o) same = bare (Unary t o) tt same
no_instruction code plain bare indices arguments labels indirect word long (Binary t o) same = bare (Binary t o) tt same
no_instruction code plain bare indices arguments labels indirect word long (Br n) same = indices index.Br same
no_instruction code plain bare indices arguments labels indirect word long (BrIf n) same = indices index.BrIf same
no_instruction code plain bare indices arguments labels indirect word long (Call n) same = indices index.Call same
no_instruction code plain bare indices arguments labels indirect word long (LocalGet n) same = indices index.LocalGet same
no_instruction code plain bare indices arguments labels indirect word long (LocalSet n) same = indices index.LocalSet same
no_instruction code plain bare indices arguments labels indirect word long (LocalTee n) same = indices index.LocalTee same
no_instruction code plain bare indices arguments labels indirect word long (GlobalGet n) same = indices index.GlobalGet same
no_instruction code plain bare indices arguments labels indirect word long (GlobalSet n) same = indices index.GlobalSet same
no_instruction code plain bare indices arguments labels indirect word long (Load t at) same = arguments (access.Load t) same
no_instruction code plain bare indices arguments labels indirect word long (LoadNarrow part at) same = arguments (access.LoadNarrow part) same
no_instruction code plain bare indices arguments labels indirect word long (Store t at) same = arguments (access.Store t) same
no_instruction code plain bare indices arguments labels indirect word long (StoreNarrow part at) same = arguments (access.StoreNarrow part) same
no_instruction code plain bare indices arguments labels indirect word long (BrTable targets target) same = labels same
no_instruction code plain bare indices arguments labels indirect word long (CallIndirect ty) same = indirect same
no_instruction code plain bare indices arguments labels indirect word long (I32Const value) same = word same
no_instruction code plain bare indices arguments labels indirect word long (I64Const value) same = long same
no_instruction code plain bare indices arguments labels indirect word long (Block' ty shape body) same = elim plain [ inl low ↦ omega (arith, same) | inr high ↦ omega (arith, same) ]
no_instruction code plain bare indices arguments labels indirect word long (Loop' ty shape body) same = elim plain [ inl low ↦ omega (arith, same) | inr high ↦ omega (arith, same) ]
no_instruction code plain bare indices arguments labels indirect word long (If' ty shape body other) same = elim plain [ inl low ↦ omega (arith, same) | inr high ↦ omega (arith, same) ]

pub named_index_took : (i : Instr) (f : IndexForm) (n code : ℕ) {bytes mid rest : List ℕ} → index_code f ≡ code → i ≡ indexed f n → bytes ≡ code ∷ mid → Took (Unsigned 32 n) mid rest → Took (Instruction i) bytes rest
named_index_took i f n code {bytes} {mid} {rest} same made is q =
    subst (λ j. Took (Instruction j) bytes rest) (sym made) (indexed_took f n (took_byte (index_code f) (is ∙ ap (λ b. b ∷ mid) (sym same))) q)

pub named_access_took : (i : Instr) (f : AccessForm) (at : MemArg) (code : ℕ) {bytes mid rest : List ℕ} → access_code f ≡ code → i ≡ accessed f at → bytes ≡ code ∷ mid → Took (MemoryArgument at) mid rest →
    Took (Instruction i) bytes rest
named_access_took i f at code {bytes} {mid} {rest} same made is q =
    subst (λ j. Took (Instruction j) bytes rest) (sym made) (accessed_took f at (took_byte (access_code f) (is ∙ ap (λ b. b ∷ mid) (sym same))) q)
