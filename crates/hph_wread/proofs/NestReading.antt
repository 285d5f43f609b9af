-- Reading on in blocks that aren't closed yet (Core Specification 1.0, 5.4.1).
use Rattle.std.proofs.Common.{◌≡◌, ◌<◌, ◌∙◌, inl, inr, ℕ, zero, suc, ◌+◌, List, [], ◌∷◌, ◌++◌, length, sym, ap, subst, arith, length-append, Some, None}
use Rattle.std.specs.List.{AllByRecursion}
use Rattle.std.specs.Prelude.{Result, Ok, Err, OnOk}
use Rattle.hph_wasm.specs.Grammar.{Grammar, Byte, ◌⊳◌, Each, ResultType}
use Rattle.hph_wasm.specs.Codes.{opcode, else_code, end_code}
use Rattle.hph_wasm.specs.InstructionGrammar.{End, Instruction, Instructions, Expression}
use Rattle.hph_wasm.specs.BlockDepth.{IsShallow, AllShallow, AreShallow}
use Rattle.hph_wasm.specs.Unsupported.{most_blocks, IsShallowExpression}
use Rattle.hph_wasm.specs.declared.types.BlockType.{BlockType}
use Rattle.hph_wasm.specs.declared.instr.Instr.{Instr, Block', Loop', If'}
use Rattle.hph_wasm.specs.declared.instr.Instr.TheViews as view
use Rattle.hph_wasm.specs.declared.instr.Instr.TheBlock.{hidden-the_row-Instr-0}
use Rattle.hph_wread.specs.declared.forms.BlockForm.TheVariants.{Block, Loop, If}
use Rattle.hph_wread.specs.declared.nest.Opening.{Opening}
use Rattle.hph_wread.specs.declared.nest.Opening.TheVariants.{Head, Else}
use Rattle.hph_wread.specs.declared.nest.Frame.{Frame}
use Rattle.hph_wread.specs.declared.nest.Nest.{Nest}
use Rattle.hph_wread.specs.declared.nest.Step.TheVariants.{Ended}
use Rattle.hph_wread.specs.Reading.{Took}
use Rattle.hph_wread.specs.Forms.{IsPlain}
use Rattle.hph_wread.specs.Nesting.{Heading, Framed, OpensShallow, AreKept, StaysShallow, MayOpen, WasOpen, Nested, Reached}
use Rattle.hph_wread.proofs.Combinators.{took_then, took_map, Took2, took_split}
use Rattle.hph_wread.proofs.Tagged.{took_byte, is_byte}
use Rattle.hph_wread.proofs.Vectors.{took_nothing, nothing_took, each_more}
use Rattle.hph_wread.proofs.InstructionParts.{instruction_parts}
use Rattle.hph_wread.proofs.SequenceFaults.{nest_took}

-- what holds of a call that succeeds
pub on_ok : {T E A B : Type 0} (r : Result T E) → (A → B) → OnOk r A → OnOk r B
on_ok (Ok v) h a = h a
on_ok (Err e) h a = tt

-- the last of several things, behind those before it
each_last : {X : Type 0} (P : X → Grammar) (xs : List X) (x : X) {bytes rest : List ℕ} → Took (Each P (xs ++ x ∷ [])) bytes rest → Took2 (Each P xs) (P x) bytes rest
each_last P [] x {bytes} p =
    let two = took_split p in record { mid = bytes; first = nothing_took P bytes; second = subst (λ l. Took (P x) bytes l) (took_nothing P two.second) two.first }
each_last P (y ∷ ys) x p =
    let two = took_split p in
    let more = each_last P ys x two.second in record { mid = more.mid; first = took_then two.first more.first; second = more.second }

-- ---- shallow blocks

-- and each of these, with one more
all_more : (P : Instr → Type 0) (xs : List Instr) (x : Instr) → AllByRecursion P xs → P x → AllByRecursion P (xs ++ x ∷ [])
all_more P [] x all one = (one, tt)
all_more P (y ∷ ys) x all one = (all.0, all_more P ys x all.1 one)

-- one more instruction behind the others
kept_more : (room : ℕ) (frames : List Frame) (body : List Instr) (i : Instr) → AreKept room frames body → ((inner : ℕ) → room ≡ length frames + inner → IsShallow i inner) → AreKept room frames (body ++ i ∷ [])
kept_more room [] body i kept shallow = all_more (λ i. IsShallow i room) body i kept (shallow room (omega arith))
kept_more zero (frame ∷ frames) body i kept shallow = absurd kept
kept_more (suc room) (frame ∷ frames) body i kept shallow =
    (kept.0, kept.1, kept_more room frames body i kept.2 (λ inner count. shallow inner (omega (arith, count))))

-- one more frame inside the others
kept_deeper : (room inner : ℕ) (frames : List Frame) (body : List Instr) (frame : Frame) → AreKept room frames body → room ≡ length frames + suc inner → frame.before ≡ body → OpensShallow inner frame.opening →
    AreKept room (frames ++ frame ∷ []) []
kept_deeper zero inner [] body frame kept count same opens = omega (arith, count)
kept_deeper (suc room) inner [] body frame kept count same opens =
    let one : inner ≡ room = omega (arith, count) in
    (subst (AreShallow (suc room)) (sym same) kept, subst (λ n. OpensShallow n frame.opening) one opens, tt)
kept_deeper zero inner (f ∷ frames) body frame kept count same opens = absurd kept
kept_deeper (suc room) inner (f ∷ frames) body frame kept count same opens =
    (kept.0, kept.1, kept_deeper room inner frames body frame kept.2 (omega (arith, count)) same opens)

-- one frame less
record Left (room : ℕ) (frames : List Frame) (frame : Frame) (body : List Instr) : Type 0 where
  pub inner : ℕ
  pub count : room ≡ length frames + suc inner
  pub kept : AreKept room frames frame.before
  pub opens : OpensShallow inner frame.opening
  pub shallow : AreShallow inner body

kept_left : (room : ℕ) (frames : List Frame) (frame : Frame) (body : List Instr) → AreKept room (frames ++ frame ∷ []) body → Left room frames frame body
kept_left zero [] frame body kept = absurd kept
kept_left (suc room) [] frame body kept = record { inner = room; count = omega arith; kept = kept.0; opens = kept.1; shallow = kept.2 }
kept_left zero (f ∷ frames) frame body kept = absurd kept
kept_left (suc room) (f ∷ frames) frame body kept =
    let more = kept_left room frames frame body kept.2 in
    record { inner = more.inner; count = omega (arith, more.count); kept = (kept.0, kept.1, more.kept); opens = more.opens; shallow = more.shallow }

-- what was read, and what is kept
nested : (nest : Nest) {whole rest : List ℕ} → Took (Each Framed nest.around ⊳ Each Instruction nest.body) whole rest → AreKept most_blocks nest.around nest.body → Took (Nested nest) whole rest
nested nest p kept = took_map (λ front q. (q, kept)) p

-- nothing was read
pub nest_new : (nest : Nest) → nest.around ≡ [] → nest.body ≡ [] → (bytes : List ℕ) → Took (Nested nest) bytes bytes
nest_new nest around body bytes = nested nest
    (took_then (subst (λ l. Took (Each Framed l) bytes bytes) (sym around) (nothing_took Framed bytes)) (subst (λ l. Took (Each Instruction l) bytes bytes) (sym body) (nothing_took Instruction bytes)))
    (subst (λ l. AreKept most_blocks l nest.body) (sym around) (subst (AreShallow most_blocks) (sym body) tt))

-- one more instruction
pub nest_more : (before after : Nest) (i : Instr) → after.around ≡ before.around → after.body ≡ before.body ++ i ∷ [] → {whole bytes rest : List ℕ} → Took (Nested before) whole bytes →
    Took (Instruction i) bytes rest → StaysShallow before i → Took (Nested after) whole rest
nest_more before after i around body {whole} {bytes} {rest} p q shallow =
    let two = took_split (nest_took before p) in
    let kept = kept_more most_blocks before.around before.body i p.spelled.1 shallow in
    nested after (took_then (subst (λ l. Took (Each Framed l) whole two.mid) (sym around) two.first)
    (subst (λ l. Took (Each Instruction l) two.mid rest) (sym body) (each_more Instruction before.body i two.second q)))
    (subst (λ l. AreKept most_blocks l after.body) (sym around) (subst (λ l. AreKept most_blocks before.around l) (sym body) kept))

-- one more block
pub nest_deeper : (before after : Nest) (frame : Frame) → after.around ≡ before.around ++ frame ∷ [] → frame.before ≡ before.body → after.body ≡ [] → {whole bytes rest : List ℕ} →
    Took (Nested before) whole bytes → Took (Heading frame.opening) bytes rest → MayOpen before frame.opening → Took (Nested after) whole rest
nest_deeper before after frame around inside body {whole} {bytes} {rest} p q may =
    let two = took_split (nest_took before p) in
    let kept = kept_deeper most_blocks may.0 before.around before.body frame p.spelled.1 may.1 inside may.2 in
    let framed = took_then (subst (λ l. Took (Each Instruction l) two.mid bytes) (sym inside) two.second) q in
    nested after (took_then (subst (λ l. Took (Each Framed l) whole rest) (sym around) (each_more Framed before.around frame two.first framed))
    (subst (λ l. Took (Each Instruction l) rest rest) (sym body) (nothing_took Instruction rest)))
    (subst (λ l. AreKept most_blocks l after.body) (sym around) (subst (λ l. AreKept most_blocks (before.around ++ frame ∷ []) l) (sym body) kept))

-- one block less
pub nest_left : (before after : Nest) (frame : Frame) (inside : List Instr) → before.around ≡ after.around ++ frame ∷ [] → frame.before ≡ after.body → inside ≡ before.body → {whole rest : List ℕ} → Took (Nested before) whole rest →
    (at : List ℕ) × Took (Nested after) whole at × Took (Heading frame.opening ⊳ Each Instruction inside) at rest × WasOpen after frame.opening inside
nest_left before after frame inside around body left {whole} {rest} p =
    let two = took_split (nest_took before p) in
    let frames = each_last Framed after.around frame (subst (λ l. Took (Each Framed l) whole two.mid) around two.first) in
    let framed = took_split frames.second in
    let less = kept_left most_blocks after.around frame before.body (subst (λ l. AreKept most_blocks l before.body) around p.spelled.1) in
    let outer = nested after (took_then frames.first (subst (λ l. Took (Each Instruction l) frames.mid framed.mid) body framed.first))
    (subst (λ l. AreKept most_blocks after.around l) body less.kept) in (
      framed.mid,
      outer,
      took_then framed.second (subst (λ l. Took (Each Instruction l) two.mid rest) (sym left) two.second),
      (less.inner, less.count, less.opens, subst (AreShallow less.inner) (sym left) less.shallow),
    )

-- a block that was closed is shallow behind the instructions before it
pub finished_stays : (nest : Nest) (opening : Opening) (body : List Instr) (i : Instr) → WasOpen nest opening body →
    ((room : ℕ) → OpensShallow room opening → AreShallow room body → IsShallow i (suc room)) → StaysShallow nest i
finished_stays nest opening body i was shallow room has =
    let same : suc was.0 ≡ room = omega (arith, was.1, has) in
    subst (IsShallow i) same (shallow was.0 was.2 was.3)

-- an instruction that begins no block is shallow anywhere
pub plain_shallow : (i : Instr) → IsPlain (opcode i) → (room : ℕ) → IsShallow i room
plain_shallow (Block' ty shape body) plain room = let no : ⊥ = elim plain [ inl low ↦ omega (arith, low) | inr high ↦ omega (arith, high) ] in absurd no
plain_shallow (Loop' ty shape body) plain room = let no : ⊥ = elim plain [ inl low ↦ omega (arith, low) | inr high ↦ omega (arith, high) ] in absurd no
plain_shallow (If' ty shape body other) plain room = let no : ⊥ = elim plain [ inl low ↦ omega (arith, low) | inr high ↦ omega (arith, high) ] in absurd no
plain_shallow i plain room = tt

pub plain_stays : (nest : Nest) (i : Instr) (code : ℕ) {bytes behind rest : List ℕ} → IsPlain code → bytes ≡ code ∷ behind → Took (Instruction i) bytes rest → StaysShallow nest i
plain_stays nest i code {bytes} {behind} plain is p room has =
    let parts = took_split (took_map (instruction_parts i) p) in
    let flat : opcode i ∷ parts.mid ≡ code ∷ behind = sym (is_byte (opcode i) parts.first) ∙ is in
    let same : opcode i ≡ code = cc in
    plain_shallow i (subst IsPlain (sym same) plain) room

-- the end of the expression
pub nest_ended : (nest : Nest) → nest.around ≡ [] → {whole bytes rest : List ℕ} → Took (Nested nest) whole bytes → bytes ≡ end_code ∷ rest → Took (Reached Ended nest) whole rest
nest_ended nest around {whole} {rest = rest} p is =
    let two = took_split (nest_took nest p) in
    let start : whole ≡ two.mid = took_nothing Framed (subst (λ l. Took (Each Framed l) whole two.mid) around two.first) in
    let shallow : IsShallowExpression nest.body = subst (λ l. AreKept most_blocks l nest.body) around p.spelled.1 in
    took_map (λ front q. (q, shallow))
    (subst (λ l. Took (Expression nest.body) l rest) (sym start) (took_then two.second (took_byte end_code is)))

-- the first branch of an `if` with an `else` behind it
pub nest_else : (ty : BlockType) (first : List Instr) {at bytes rest : List ℕ} → Took (Heading (Head If ty) ⊳ Each Instruction first) at bytes → bytes ≡ else_code ∷ rest →
    Took (Heading (Else ty first)) at rest
nest_else ty first p is =
    let two = took_split p in
    let head = took_split two.first in took_then head.first (took_then head.second (took_then two.second (took_byte else_code is)))

-- ---- instructions that hold others

row_of_list : (body : List Instr) (front : List ℕ) → Each Instruction body front → Instructions (hidden-the_row-Instr-0 body) front
unfolding hidden-the_row-Instr-0 denote.Hole.Carrier.hidden
row_of_list [] front e = e
row_of_list (i ∷ body) front p = record { front = p.front; rest = p.rest; split = p.split; first = p.first; second = row_of_list body p.rest p.second }

row_and_end : (body : List Instr) (front : List ℕ) → Expression body front → (Instructions (hidden-the_row-Instr-0 body) ⊳ End) front
row_and_end body front p = record { front = p.front; rest = p.rest; split = p.split; first = row_of_list body p.front p.first; second = p.second }

pub block_took : (ty : BlockType) (body : List Instr) {bytes mid rest : List ℕ} → Took (Heading (Head Block ty)) bytes mid → Took (Expression body) mid rest → Took (Instruction (view.Block ty body)) bytes rest
block_took ty body p q = let two = took_split p in took_then two.first (took_then two.second (took_map (row_and_end body) q))

pub loop_took : (ty : BlockType) (body : List Instr) {bytes mid rest : List ℕ} → Took (Heading (Head Loop ty)) bytes mid → Took (Expression body) mid rest → Took (Instruction (view.Loop ty body)) bytes rest
loop_took ty body p q = let two = took_split p in took_then two.first (took_then two.second (took_map (row_and_end body) q))

pub if_took : (ty : BlockType) (body : List Instr) {bytes mid rest : List ℕ} → Took (Heading (Head If ty)) bytes mid → Took (Expression body) mid rest → Took (Instruction (view.If ty body None)) bytes rest
if_took ty body p q = let two = took_split p in took_then two.first (took_then two.second (took_map (row_and_end body) q))

pub if_else_took : (ty : BlockType) (first body : List Instr) {bytes mid rest : List ℕ} → Took (Heading (Else ty first)) bytes mid → Took (Expression body) mid rest →
    Took (Instruction (view.If ty first (Some body))) bytes rest
if_else_took ty first body {rest = rest} p q =
    let two = took_split p in
    let typed = took_split two.second in
    let branch = took_split typed.second in
    took_then two.first (took_then typed.first (took_then (took_map (row_of_list first) branch.first) (took_then branch.second (took_map (row_and_end body) q))))

-- what they hold is shallow
shallow_row : (room : ℕ) (body : List Instr) → AreShallow room body → AllShallow (hidden-the_row-Instr-0 body) room
unfolding hidden-the_row-Instr-0 denote.Hole.Carrier.hidden
shallow_row room [] shallow = tt
shallow_row room (i ∷ body) shallow = (shallow.0, shallow_row room body shallow.1)

pub block_shallow : (ty : BlockType) (body : List Instr) (room : ℕ) → AreShallow room body → IsShallow (view.Block ty body) (suc room)
block_shallow ty body room shallow = shallow_row room body shallow

pub loop_shallow : (ty : BlockType) (body : List Instr) (room : ℕ) → AreShallow room body → IsShallow (view.Loop ty body) (suc room)
loop_shallow ty body room shallow = shallow_row room body shallow

pub if_shallow : (ty : BlockType) (body : List Instr) (room : ℕ) → AreShallow room body → IsShallow (view.If ty body None) (suc room)
if_shallow ty body room shallow = (shallow_row room body shallow, tt)

pub if_else_shallow : (ty : BlockType) (first body : List Instr) (room : ℕ) → AreShallow room first → AreShallow room body → IsShallow (view.If ty first (Some body)) (suc room)
if_else_shallow ty first body room shallow second = (shallow_row room first shallow, shallow_row room body second)

-- ---- what was read has bytes

pub byte_shorter : (b : ℕ) {bytes rest : List ℕ} → bytes ≡ b ∷ rest → length rest < length bytes
byte_shorter b is = omega (arith, ap length is)

pub instruction_shorter : (i : Instr) {bytes rest : List ℕ} → Took (Instruction i) bytes rest → length rest < length bytes
instruction_shorter i {bytes} {rest} p =
    let two = took_split (took_map (instruction_parts i) p) in
    omega (arith, ap length (is_byte (opcode i) two.first), ap length two.second.split, length-append two.second.front rest)

pub heading_shorter : (ty : BlockType) (b : ℕ) {bytes rest : List ℕ} → Took (Byte b ⊳ ResultType ty) bytes rest → length rest < length bytes
heading_shorter ty b {bytes} {rest} p =
    let two = took_split p in
    omega (arith, ap length (is_byte b two.first), ap length two.second.split, length-append two.second.front rest)
