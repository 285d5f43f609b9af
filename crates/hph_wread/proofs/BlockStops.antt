-- What stands and what stops behind the opcode of a block (Core Specification 1.0, 5.4.1).
use Rattle.std.proofs.Common.{◌≡◌, ◌∙◌, ◌⊎◌, inl, inr, ℕ, zero, suc, ◌+◌, List, [], ◌∷◌, ◌++◌, length, refl, sym, ap, subst, arith, append_assoc, length-append, Option, Some, None}
use Rattle.hph_wasm.specs.Grammar.{Grammar, Byte, ◌⊳◌, ResultType, result_byte}
use Rattle.hph_wasm.specs.Codes.{else_code}
use Rattle.hph_wasm.specs.InstructionGrammar.{Instruction, Expression}
use Rattle.hph_wasm.specs.BlockDepth.{AreShallow}
use Rattle.hph_wasm.specs.Unsupported.{Stop, Any, Read, Either, Where, Behind, AtByte, AtOpener, float_type, left_out, Opener, ShallowRow, Opens, StopsValueType, StopsInstruction}
use Rattle.hph_wasm.specs.declared.feature.Feature.{Feature}
use Rattle.hph_wasm.specs.declared.feature.Feature.TheVariants.{BlockDepth}
use Rattle.hph_wasm.specs.declared.types.ValType.{ValType}
use Rattle.hph_wasm.specs.declared.types.ValType.TheVariants.{I32, I64}
use Rattle.hph_wasm.specs.declared.types.BlockType.{BlockType}
use Rattle.hph_wasm.specs.declared.instr.Instr.{Block', Loop', If', end_of-Instr, None'}
use Rattle.hph_wread.specs.Reading.{Took, Fails}
use Rattle.hph_wread.specs.Forms.{StopsOpcode, StopsInside, StopsBody, IsPlain, block_code}
use Rattle.hph_wread.specs.declared.forms.BlockForm.{BlockForm}
use Rattle.hph_wread.specs.declared.forms.BlockForm.TheVariants.{Block, Loop, If}
use Rattle.hph_wread.proofs.Combinators.{took_then, took_map, took_split, took_behind, behind_took, fails_map}
use Rattle.hph_wread.proofs.Tagged.{is_byte}
use Rattle.hph_wread.specs.declared.fault.Fault.{Fault}
use Rattle.hph_wread.specs.declared.fault.Fault.TheVariants.{Unsupported}
use Rattle.hph_wread.proofs.InstructionParts.{Apart, FirstBranch, opcode_took, plain_opener}

-- what stands behind the type of a block: its instructions, or both branches of an `if`
abbrev pub BlockBody : ℕ → Grammar
BlockBody b front = Any Expression front ⊎ ((b ≡ 4) × (Any FirstBranch ⊳ Any Expression) front)

-- a first branch that is shallow, and the `else` behind it
abbrev pub ShallowBranch : ℕ → Grammar
ShallowBranch room = Read FirstBranch (AreShallow room)

-- and what stops there, where so many more blocks may be open inside
abbrev pub InBranches : ℕ → ℕ → Stop
InBranches b room = Either (StopsBody room) (Where (b ≡ 4) (Behind (ShallowBranch room) (StopsBody room)))

abbrev pub InBlock : ℕ → ℕ → Stop
InBlock b room = Either StopsValueType (Behind (Any ResultType) (InBranches b room))

abbrev nothing : BlockType
nothing = record { result = None }

-- a block's opcode is one
code_opener : (f : BlockForm) → Opener (block_code f ∷ [])
code_opener Block = inl refl
code_opener Loop = inr (inl refl)
code_opener If = inr (inr refl)

code_kept : (f : BlockForm) → left_out (block_code f) ≡ None
code_kept Block = refl
code_kept Loop = refl
code_kept If = refl

abbrev opener_took : (f : BlockForm) {bytes mid : List ℕ} → bytes ≡ block_code f ∷ mid → Took Opener bytes mid
opener_took f is = record { front = block_code f ∷ []; split = is; spelled = code_opener f }

-- the type of a block, and what stands inside
pub block_read : Apart → (f : BlockForm) {bytes mid rest : List ℕ} → bytes ≡ block_code f ∷ mid → Took (Any Instruction) bytes rest → Took (Any ResultType ⊳ BlockBody (block_code f)) mid rest
block_read apart Block is p =
    let two = took_split (opcode_took apart (Block' nothing [] end_of-Instr) is p) in took_then two.first (took_map (λ front q. inl q) two.second)
block_read apart Loop is p =
    let two = took_split (opcode_took apart (Loop' nothing [] end_of-Instr) is p) in took_then two.first (took_map (λ front q. inl q) two.second)
block_read apart If is p =
    let two = took_split (opcode_took apart (If' nothing [] end_of-Instr None') is p) in
    took_then two.first (took_map (λ front q. elim q [ inl one ↦ inl one | inr both ↦ inr (refl, both) ]) two.second)

-- one byte at the head
byte_of : (b c : ℕ) {bytes mid rest : List ℕ} (front : List ℕ) → bytes ≡ b ∷ mid → bytes ≡ front ++ rest → front ≡ c ∷ [] → (b ≡ c) × (rest ≡ mid)
byte_of b c {bytes} {mid} {rest} front is split one =
    let flat : b ∷ mid ≡ c ∷ rest = sym is ∙ split ∙ ap (λ l. l ++ rest) one in
    let heads : b ≡ c = cc in
    let tails : rest ≡ mid = cc in (heads, tails)

opener_rest : (b : ℕ) {bytes mid rest : List ℕ} → bytes ≡ b ∷ mid → Took Opener bytes rest → rest ≡ mid
opener_rest b is p = elim p.spelled [
  | inl two ↦ (byte_of b 2 p.front is p.split two).1
  | inr (inl three) ↦ (byte_of b 3 p.front is p.split three).1
  | inr (inr four) ↦ (byte_of b 4 p.front is p.split four).1
]

at_first : (f : ℕ → Option Feature) (code : ℕ) {bytes mid : List ℕ} → bytes ≡ code ∷ mid → (place : ℕ) (feature : Feature) → AtByte f place feature bytes → (place ≡ 0) × (f code ≡ Some feature)
at_first f code is place feature t = subst (AtByte f place feature) is t

-- the type of a block that is read is none of a float
no_float : (t : Option ValType) → float_type (result_byte t) ≡ None
no_float None = refl
no_float (Some I32) = refl
no_float (Some I64) = refl

pub type_clear : (ty : BlockType) {bytes rest : List ℕ} → Took (ResultType ty) bytes rest → (place : ℕ) (feature : Feature) → ¬ StopsValueType place feature bytes
type_clear ty p place feature t =
    let out = (at_first float_type (result_byte ty.result) (is_byte (result_byte ty.result) p) place feature t).1 in
    let never : ⊥ = cc (out, no_float ty.result) in never

-- one part and another behind it, whose front is both
abbrev joined : {P Q : Grammar} {bytes mid rest : List ℕ} → Took P bytes mid → Took Q mid rest → Took (P ⊳ Q) bytes rest
joined {rest = rest} p q = record {
  front = p.front ++ q.front;
  split = p.split ∙ ap (λ l. p.front ++ l) q.split ∙ sym (append_assoc p.front q.front rest);
  spelled = record { front = p.front; rest = q.front; split = refl; first = p.spelled; second = q.spelled };
}

-- a stop in a sequence, behind instructions
in_sequence : (blocks room : ℕ) {bytes rest : List ℕ} (place : ℕ) (feature : Feature) → (p : Took (ShallowRow room) bytes rest) → StopsInstruction blocks room place feature rest →
    StopsBody room (length p.front + place) feature bytes
in_sequence blocks room place feature p s = (blocks, behind_took {S = StopsInstruction blocks room} place feature p s)

-- inside an opened block
inside_opened : (b blocks room : ℕ) {bytes mid m1 m2 : List ℕ} → bytes ≡ b ∷ mid → Took (Opens room) bytes m1 → Took (ShallowRow room) m1 m2 → (place : ℕ) (feature : Feature) →
    StopsInstruction blocks room place feature m2 → (before : ℕ) × InBlock b room before feature mid
inside_opened b blocks room {bytes} {mid} {m1} is p q place feature s = elim p.spelled [
  | inl one ↦
      let two = took_split (record { front = p.front; split = p.split; spelled = one }) in
      let ty : Took (Any ResultType) mid m1 = subst (λ l. Took (Any ResultType) l m1) (opener_rest b is two.first) two.second in
      (_, inr (behind_took {S = InBranches b room} _ feature ty (inl (in_sequence blocks room place feature q s))))
  | inr other ↦
      let two = took_split (record { front = p.front; split = p.split; spelled = other }) in
      let opened = byte_of b 4 two.first.front is two.first.split two.first.spelled in
      let three = took_split two.second in
      let four = took_split three.second in
      let instrs = four.first.spelled in
      let whole : Took (FirstBranch instrs.0) three.mid m1 =
      took_then (record { front = four.first.front; split = four.first.split; spelled = instrs.1 }) four.second in
      let branch : Took (ShallowBranch room) three.mid m1 = took_map (λ front p. (instrs.0, p, instrs.2)) whole in
      let ty : Took (Any ResultType) mid three.mid = subst (λ l. Took (Any ResultType) l three.mid) opened.1 three.first in
      (_, inr (behind_took {S = InBranches b room} _ feature ty (inr (opened.0, behind_took {S = StopsBody room} _ feature branch (in_sequence blocks room place feature q s)))))
]

-- what stops in a block, stops behind its opcode, where it may be open
pub block_stop : (f : BlockForm) (room : ℕ) {bytes mid : List ℕ} → bytes ≡ block_code f ∷ mid → (place : ℕ) (feature : Feature) → StopsInside (suc room) place feature bytes →
    (before : ℕ) × InBlock (block_code f) room before feature mid
block_stop f room is place feature (zero, inl t) =
    let out = (at_first left_out (block_code f) is place feature t).1 in let never : ⊥ = cc (out, code_kept f) in absurd never
block_stop f room is place feature (zero, inr s) =
    (s.place, inl (subst (StopsValueType s.place feature) (opener_rest (block_code f) is (took_behind place feature s)) s.stops))
block_stop f room is place feature (suc blocks, s) =
    let two = took_split (took_behind place feature s) in
    inside_opened (block_code f) blocks room is two.first two.second s.place feature s.stops

-- and the other way round: at the type
stop_type : (f : BlockForm) (room : ℕ) {bytes mid : List ℕ} → bytes ≡ block_code f ∷ mid → (place : ℕ) (feature : Feature) → StopsValueType place feature mid →
    StopsInside (suc room) (suc place) feature bytes
stop_type f room {bytes} is place feature t =
    let p = opener_took f is in
    let counted : length p.front + place ≡ suc place = omega arith in
    (zero, inr (subst (λ n. Behind Opener StopsValueType n feature bytes) counted (behind_took {S = StopsValueType} place feature p t)))

-- what was read before a stop
abbrev seen : {P : Grammar} {S : Stop} {bytes : List ℕ} (place : ℕ) (feature : Feature) (b : Behind P S place feature bytes) → Took P bytes b.rest
seen place feature b = record { front = b.front; split = b.split; spelled = b.before }

-- in what was opened
opens_at : (blocks room : ℕ) {bytes m1 m2 : List ℕ} → (p : Took (Opens room) bytes m1) (q : Took (ShallowRow room) m1 m2) (place : ℕ) (feature : Feature) → StopsInstruction blocks room place feature m2 →
    (at : ℕ) → at ≡ (length p.front + length q.front) + place → StopsInside (suc room) at feature bytes
opens_at blocks room {bytes} p q place feature s at is =
    let both = joined p q in
    let counted : length both.front + place ≡ at = omega (arith, is, length-append p.front q.front) in
    (suc blocks, subst (λ n. Behind (Opens room ⊳ ShallowRow room) (StopsInstruction blocks room) n feature bytes) counted (behind_took {S = StopsInstruction blocks room} place feature both s))

-- in the instructions
stop_body : (f : BlockForm) (room : ℕ) {bytes mid : List ℕ} → bytes ≡ block_code f ∷ mid → (place : ℕ) (feature : Feature) → Behind (Any ResultType) (StopsBody room) place feature mid →
    StopsInside (suc room) (suc place) feature bytes
stop_body f room is place feature t =
    let o = opener_took f is in
    let ty : Took (Any ResultType) _ t.rest = seen place feature t in
    let both = joined o ty in
    let opened : Took (Opens room) _ t.rest = record { front = both.front; split = both.split; spelled = inl both.spelled } in
    let inner = t.stops.1 in
    let each = seen {S = StopsInstruction t.stops.0 room} t.place feature inner in
    opens_at t.stops.0 room opened each inner.place feature inner.stops (suc place)
    (omega (arith, t.counted, inner.counted, length-append o.front t.front))

-- in the second branch
stop_else : (room : ℕ) {bytes mid : List ℕ} → bytes ≡ 4 ∷ mid → (place : ℕ) (feature : Feature) → Behind (Any ResultType) (Behind (ShallowBranch room) (StopsBody room)) place feature mid →
    StopsInside (suc room) (suc place) feature bytes
stop_else room {bytes} {mid} is place feature t =
    let o : Took (Byte 4) bytes mid = record { front = 4 ∷ []; split = is; spelled = refl } in
    let ty : Took (Any ResultType) mid t.rest = seen place feature t in
    let branch = seen {S = StopsBody room} t.place feature t.stops in
    let parts = branch.spelled.1 in
    let first : Took (ShallowRow room) t.rest (parts.rest ++ t.stops.rest) =
    record { front = parts.front; split = branch.split ∙ ap (λ l. l ++ t.stops.rest) parts.split ∙ append_assoc parts.front parts.rest t.stops.rest; spelled = (branch.spelled.0, parts.first, branch.spelled.2) } in
    let divider : Took (Byte else_code) (parts.rest ++ t.stops.rest) t.stops.rest = record { front = parts.rest; split = refl; spelled = parts.second } in
    let whole = joined o (joined ty (joined first divider)) in
    let opened : Took (Opens room) bytes t.stops.rest = record { front = whole.front; split = whole.split; spelled = inr whole.spelled } in
    let inner = t.stops.stops.1 in
    let each = seen {S = StopsInstruction t.stops.stops.0 room} t.stops.place feature inner in
    opens_at t.stops.stops.0 room opened each inner.place feature inner.stops (suc place)
    (omega (arith, t.counted, t.stops.counted, inner.counted, ap length parts.split, length-append parts.front parts.rest, length-append t.front (parts.front ++ parts.rest)))

pub stop_block : (f : BlockForm) (room : ℕ) {bytes mid : List ℕ} → bytes ≡ block_code f ∷ mid → (place : ℕ) (feature : Feature) → InBlock (block_code f) room place feature mid →
    StopsInside (suc room) (suc place) feature bytes
stop_block f room is place feature (inl t) = stop_type f room is place feature t
stop_block f room {bytes} {mid} is place feature (inr b) = elim b.stops [
  | inl s ↦ stop_body f room is place feature (record { front = b.front; rest = b.rest; split = b.split; before = b.before; place = b.place; counted = b.counted; stops = s })
  | inr both ↦ stop_else room (subst (λ n. bytes ≡ n ∷ mid) both.0 is) place feature (record { front = b.front; rest = b.rest; split = b.split; before = b.before; place = b.place; counted = b.counted; stops = both.1 })
]

-- where no block may be open, one is left out at its opcode
pub too_deep : (f : BlockForm) {bytes mid : List ℕ} → bytes ≡ block_code f ∷ mid → Fails (Any Instruction) (StopsInside 0) bytes (Unsupported (length bytes) BlockDepth)
too_deep f {bytes} {mid} is =
    let opener : AtOpener 0 BlockDepth bytes = record { here = refl; named = refl; front = block_code f ∷ []; rest = mid; split = is; opens = code_opener f } in
    record { reason = record { place = 0; counted = omega arith; stops = (zero, inr opener) } }

-- ---- opcodes that begin no block

four_opens : {bytes rest : List ℕ} → Took (Byte 0x04) bytes rest → Took Opener bytes rest
four_opens p = record { front = p.front; split = p.split; spelled = inr (inr p.spelled) }

-- what opens a block begins with its opcode
pub opens_opener : (room : ℕ) {bytes rest : List ℕ} → Took (Opens room) bytes rest → (mid : List ℕ) × Took Opener bytes mid
opens_opener room p = elim p.spelled [
  | inl one ↦ let two = took_split (record { front = p.front; split = p.split; spelled = one }) in (two.mid, two.first)
  | inr other ↦ let two = took_split (record { front = p.front; split = p.split; spelled = other }) in (two.mid, four_opens two.first)
]

-- an opener at the head of the bytes
stands : {at : ℕ} {feature : Feature} {bytes : List ℕ} → (stop : AtOpener at feature bytes) → Took Opener bytes stop.rest
stands stop = record { front = stop.front; split = stop.split; spelled = stop.opens }

-- what stops in an instruction that isn't at its opcode has an opener at the head
pub stop_opener : (blocks room : ℕ) {bytes : List ℕ} (place : ℕ) (feature : Feature) → StopsInstruction blocks room place feature bytes →
    StopsOpcode place feature bytes ⊎ ((mid : List ℕ) × Took Opener bytes mid)
stop_opener zero room place feature (inl t) = inl t
stop_opener zero zero place feature (inr b) = inr (b.rest, stands b)
stop_opener zero (suc room) place feature (inr b) = inr (b.rest, took_behind place feature b)
stop_opener (suc blocks) zero place feature s = absurd s
stop_opener (suc blocks) (suc room) place feature s = let two = took_split (took_behind place feature s) in inr (opens_opener room two.first)

-- so what is an opcode that begins no block stops only where that is left out
pub plain_inside : (code room : ℕ) {bytes mid : List ℕ} → IsPlain code → bytes ≡ code ∷ mid → (e : Fault) → Fails (Any Instruction) StopsOpcode bytes e →
    Fails (Any Instruction) (StopsInside room) bytes e
plain_inside code room plain is e f = fails_map (λ front p. p) (λ place feature t. (zero, inl t))
    (λ place feature s. elim (stop_opener s.0 room place feature s.1) [ inl t ↦ t | inr opener ↦ absurd (plain_opener code plain is opener.1) ]) e f
