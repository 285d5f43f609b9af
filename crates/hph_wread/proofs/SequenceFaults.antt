-- What isn't there in a sequence of instructions, or in the blocks around it (Core Specification 1.0, 5.4).
use Rattle.std.proofs.Common.{◌≡◌, ◌<◌, ◌≤◌, ◌∙◌, ◌⊎◌, inl, inr, ℕ, zero, suc, ◌+◌, List, [], ◌∷◌, ◌++◌, length, refl, sym, ap, subst, arith, length-append}
use Rattle.std.proofs.lemmas.List.{append-nil}
use Rattle.std.proofs.lemmas.Bool.{cases_lt}
use Rattle.hph_wasm.specs.Grammar.{Grammar, Byte, ◌⊳◌, Each, ResultType}
use Rattle.hph_wasm.specs.Codes.{opcode, else_code, end_code}
use Rattle.hph_wasm.specs.InstructionGrammar.{Instruction, Expression}
use Rattle.hph_wasm.specs.BlockDepth.{IsShallow, AreShallow}
use Rattle.hph_wasm.specs.OneWay.{OneStop, BeginsWith, Closes, SequencesAreAlike, StopsSequence, ClosedSequencesDontStop}
use Rattle.hph_wasm.specs.Unsupported.{Any, AtByte, left_out, most_blocks, Opener, ShallowRow, StopsInstruction, StopsValueType, StopsExpression}
use Rattle.hph_wasm.specs.declared.feature.Feature.{Feature}
use Rattle.hph_wasm.specs.declared.feature.Feature.TheVariants.{BlockDepth}
use Rattle.hph_wasm.specs.declared.types.BlockType.{BlockType}
use Rattle.hph_wasm.specs.declared.instr.Instr.{Instr}
use Rattle.hph_wread.specs.declared.fault.Fault.{Fault}
use Rattle.hph_wread.specs.declared.fault.Fault.TheVariants.{Malformed, Unsupported, NoMemory}
use Rattle.hph_wread.specs.declared.forms.BlockForm.{BlockForm}
use Rattle.hph_wread.specs.declared.forms.BlockForm.TheVariants.{Block, Loop, If}
use Rattle.hph_wread.specs.declared.nest.Opening.{Opening}
use Rattle.hph_wread.specs.declared.nest.Opening.TheVariants.{Head, Else}
use Rattle.hph_wread.specs.declared.nest.Frame.{Frame}
use Rattle.hph_wread.specs.declared.nest.Nest.{Nest}
use Rattle.hph_wread.specs.Reading.{Took, Fails}
use Rattle.hph_wread.specs.Forms.{StopsInside, StopsBody, block_code}
use Rattle.hph_wread.specs.InstructionLaws.{InstructionLaws}
use Rattle.hph_wread.specs.Nesting.{Heading, Framed, OpensShallow, AreKept, HasRoom, MayOpen, Nested}
use Rattle.hph_wread.proofs.Combinators.{took_then, took_map, took_split, took_any, OneEnd, one_end, byte_end, took_behind, behind_took, fails_map, fails_first, fails_second}
use Rattle.hph_wread.proofs.Tagged.{took_byte, is_byte, tagged_fails}
use Rattle.hph_wread.proofs.Vectors.{took_nothing, each_goes_on, each_stops, each_end}
use Rattle.hph_wread.proofs.InstructionParts.{Apart, FirstBranch, instruction_parts}
use Rattle.hph_wread.proofs.BlockStops.{BlockBody, ShallowBranch, InBranches, block_read, block_stop, stop_block, stop_opener, too_deep, type_clear}

-- instructions, and an end or an `else`
abbrev pub Closing : Grammar
Closing bytes = Byte end_code bytes ⊎ Byte else_code bytes

abbrev pub Closed : List Instr → Grammar
Closed body = Each Instruction body ⊳ Closing

-- the thing that was read
abbrev that : {X : Type 0} (P : X → Grammar) {bytes rest : List ℕ} (p : Took (Any P) bytes rest) → Took (P p.spelled.0) bytes rest
that P p = record { front = p.front; split = p.split; spelled = p.spelled.1 }

end_closes : {bytes rest : List ℕ} → Took (Byte end_code) bytes rest → Closes bytes
end_closes {rest = rest} p = inl (rest, is_byte end_code p)

else_closes : {bytes rest : List ℕ} → Took (Byte else_code) bytes rest → Closes bytes
else_closes {rest = rest} p = inr (rest, is_byte else_code p)

closing_closes : {bytes rest : List ℕ} → Took Closing bytes rest → Closes bytes
closing_closes {rest = rest} p = elim p.spelled [ inl end ↦ inl (rest, p.split ∙ ap (λ l. l ++ rest) end) | inr other ↦ inr (rest, p.split ∙ ap (λ l. l ++ rest) other) ]

end_no_else : {bytes r s : List ℕ} → Took (Byte end_code) bytes r → ¬ Took (Byte else_code) bytes s
end_no_else {r = r} {s = s} p q =
    let flat : end_code ∷ r ≡ else_code ∷ s = sym (is_byte end_code p) ∙ is_byte else_code q in
    let same : end_code ≡ else_code = cc in
    omega (arith, same)

-- no instruction begins with what closes others
closes_no_instruction : SequencesAreAlike → {bytes rest : List ℕ} → Closes bytes → ¬ Took (Any Instruction) bytes rest
closes_no_instruction law {bytes} {rest} closes p =
    let one : Each Instruction (i ∷ []) p.front = record { front = p.front; rest = []; split = sym (append-nil p.front); first = p.spelled.1; second = refl } in
    let closes' : Closes (p.front ++ (end_code ∷ [])) = elim closes [ inl b ↦ inl (again end_code b) | inr b ↦ inr (again else_code b) ] in
    let empty : [] ≡ i ∷ [] = (law [] (i ∷ []) [] p.front (p.front ++ (end_code ∷ [])) (end_code ∷ []) refl one closes' (inl ([], refl)) refl).thing in
    let no : ⊥ = cc in no
  where
    i : Instr
    i = p.spelled.0

    again : (b : ℕ) → BeginsWith b bytes → BeginsWith b (p.front ++ (end_code ∷ []))
    again b begins =
        let parts = instruction_parts i p.front p.spelled.1 in
        let flat : p.front ≡ opcode i ∷ parts.rest = parts.split ∙ ap (λ l. l ++ parts.rest) parts.first in
        let heads : opcode i ∷ (parts.rest ++ rest) ≡ b ∷ begins.0 = ap (λ l. l ++ rest) (sym flat) ∙ sym p.split ∙ begins.1 in
        let same : opcode i ≡ b = cc in
        (parts.rest ++ (end_code ∷ []), ap (λ l. l ++ (end_code ∷ [])) flat ∙ ap (λ c. c ∷ (parts.rest ++ (end_code ∷ []))) same)

-- sequences before what closes them end in one place
closed_end : SequencesAreAlike → (xs ys : List Instr) {bytes m n : List ℕ} → Took (Each Instruction xs) bytes m → Took (Each Instruction ys) bytes n → Closes m → Closes n → m ≡ n
closed_end law xs ys {m = m} {n = n} p q c d = (law xs ys p.front q.front m n p.spelled q.spelled c d (sym p.split ∙ q.split)).behind

-- nothing stops in them
closed_clear : ClosedSequencesDontStop → (room : ℕ) (xs : List Instr) → AreShallow room xs → {bytes mid : List ℕ} → Took (Each Instruction xs) bytes mid → Closes mid →
    (place : ℕ) (feature : Feature) → ¬ StopsBody room place feature bytes
closed_clear law room xs shallow {mid = mid} p closes place feature (blocks, s) =
    law blocks room xs place feature p.front mid p.spelled shallow closes (subst (StopsSequence blocks room place feature) p.split s)

branch_clear : ClosedSequencesDontStop → (room : ℕ) (first : List Instr) → AreShallow room first → {bytes mid : List ℕ} → Took (FirstBranch first) bytes mid →
    (place : ℕ) (feature : Feature) → ¬ StopsBody room place feature bytes
branch_clear law room first shallow p place feature s = let two = took_split p in closed_clear law room first shallow two.first (else_closes two.second) place feature s

-- what is shallow is something
shallow_any : (room : ℕ) (front : List ℕ) → ShallowBranch room front → Any FirstBranch front
shallow_any room front p = (p.0, p.1, tt)

-- an expression is no first branch
no_both : SequencesAreAlike → {bytes r s : List ℕ} → Took (Any Expression) bytes r → ¬ Took (Any FirstBranch) bytes s
no_both law {s = s} p q =
    let a = took_split (that Expression p) in
    let b = took_split (that FirstBranch q) in
    let same = closed_end law p.spelled.0 q.spelled.0 a.first b.first (end_closes a.second) (else_closes b.second) in
    end_no_else a.second (subst (λ l. Took (Byte else_code) l s) (sym same) b.second)

branch_end : SequencesAreAlike → OneEnd (Any FirstBranch)
branch_end law = record {
  same = λ bytes r s p q.
      let a = took_split (that FirstBranch p) in
      let b = took_split (that FirstBranch q) in
      let same = closed_end law p.spelled.0 q.spelled.0 a.first b.first (else_closes a.second) (else_closes b.second) in
      (byte_end else_code).same b.mid r s (subst (λ l. Took (Byte else_code) l r) same a.second) b.second;
}

expression_closed : (front : List ℕ) → Any Expression front → Any Closed front
expression_closed front any = let p = any.1 in (any.0, record { front = p.front; rest = p.rest; split = p.split; first = p.first; second = inl p.second }, tt)

branch_closed : (front : List ℕ) → Any FirstBranch front → Any Closed front
branch_closed front any = let p = any.1 in (any.0, record { front = p.front; rest = p.rest; split = p.split; first = p.first; second = inr p.second }, tt)

closed_expression : (room : ℕ) {bytes : List ℕ} → (e : Fault) → Fails (Any Closed) (StopsBody room) bytes e → Fails (Any Expression) (StopsBody room) bytes e
closed_expression room e f = fails_map expression_closed (λ place feature s. s) (λ place feature s. s) e f

-- ---- what isn't there inside a block

-- the instructions of one that has no second branch
alone_fails : (b room : ℕ) → ¬ (b ≡ 4) → {bytes : List ℕ} → (e : Fault) → Fails (Any Expression) (StopsBody room) bytes e → Fails (BlockBody b) (InBranches b room) bytes e
alone_fails b room other e f = fails_map (λ front q. elim q [ inl one ↦ one | inr both ↦ absurd (other both.0) ]) (λ place feature s. inl s)
    (λ place feature t. elim t [ inl s ↦ s | inr both ↦ absurd (other both.0) ]) e f

-- the first branch
first_fails : (b room : ℕ) {bytes : List ℕ} → (e : Fault) → Fails (Any Closed) (StopsBody room) bytes e → Fails (BlockBody b) (InBranches b room) bytes e
first_fails b room {bytes} (Malformed left) f = let r = f.reason in record {
  reason = (
    r.0,
    record {
      none = λ rest q. elim q.spelled [
        | inl one ↦ r.1.none rest (record { front = q.front; split = q.split; spelled = expression_closed q.front one })
        | inr both ↦
            let whole : Took (Any FirstBranch ⊳ Any Expression) bytes rest = record { front = q.front; split = q.split; spelled = both.1 } in
            let two = took_split whole in
            r.1.none two.mid (took_map branch_closed two.first)
      ];
      nowhere = λ place feature t. elim t [
        | inl s ↦ r.1.nowhere place feature s
        | inr both ↦ r.1.none both.1.rest (took_map branch_closed (took_map (shallow_any room) (took_behind place feature both.1)))
      ];
    },
  );
}
first_fails b room (Unsupported left feature) f = let r = f.reason in record { reason = record { place = r.place; counted = r.counted; stops = inl r.stops } }
first_fails b room NoMemory f = record { reason = tt }

-- the second branch
second_fails : SequencesAreAlike → ClosedSequencesDontStop → (room : ℕ) (first : List Instr) → AreShallow room first → {bytes mid : List ℕ} → Took (FirstBranch first) bytes mid →
    (e : Fault) → Fails (Any Expression) (StopsBody room) mid e → Fails (BlockBody 4) (InBranches 4 room) bytes e
second_fails law clear room first shallow {bytes} {mid} p (Malformed left) f =
    let r = f.reason in
    let branch : Took (Any FirstBranch) bytes mid = took_any FirstBranch first p in
    record {
      reason = (
        omega (arith, r.0, ap length p.split, length-append p.front mid),
        record {
          none = λ rest q. elim q.spelled [
            | inl one ↦ no_both law (record { front = q.front; split = q.split; spelled = one }) branch
            | inr both ↦
                let whole : Took (Any FirstBranch ⊳ Any Expression) bytes rest = record { front = q.front; split = q.split; spelled = both.1 } in
                let two = took_split whole in
                r.1.none rest (subst (λ l. Took (Any Expression) l rest) ((branch_end law).same bytes two.mid mid two.first branch) two.second)
          ];
          nowhere = λ place feature t. elim t [
            | inl s ↦ branch_clear clear room first shallow p place feature s
            | inr both ↦ r.1.nowhere both.1.place feature
                (subst (StopsBody room both.1.place feature)
                ((branch_end law).same bytes both.1.rest mid (took_map (shallow_any room) (took_behind place feature both.1)) branch) both.1.stops)
          ];
        },
      );
    }
second_fails law clear room first shallow {bytes} {mid} p (Unsupported left feature) f =
    let r = f.reason in
    let branch : Took (ShallowBranch room) bytes mid = record { front = p.front; split = p.split; spelled = (first, p.spelled, shallow) } in
    record {
      reason = record {
        place = length p.front + r.place;
        counted = omega (arith, r.counted, ap length p.split, length-append p.front mid);
        stops = inr (refl, behind_took {S = StopsBody room} r.place feature branch r.stops);
      };
    }
second_fails law clear room first shallow p NoMemory f = record { reason = tt }

-- ---- nothing stops in an instruction that was read

lone : (room at : ℕ) (feature : Feature) (bytes : List ℕ) (s : StopsInside room at feature bytes) → StopsSequence s.0 room at feature bytes
lone room at feature bytes s = record { front = []; rest = bytes; split = refl; before = ([], refl, tt); place = at; counted = omega arith; stops = s.1 }

instruction_stops : InstructionLaws → (room : ℕ) → OneStop Instruction (λ i. IsShallow i room) (StopsInside room)
instruction_stops laws room = record {
  one = λ at at' feature feature' bytes s t. laws.once s.0 t.0 room at at' feature feature' bytes (lone room at feature bytes s) (lone room at' feature' bytes t);
  apart = λ x at feature front rest p shallow s. laws.whole s.0 room x at feature front rest p shallow s.1;
}

-- ---- what isn't there in a sequence

-- nothing closes the sequence, and no instruction goes on with it
no_closed : InstructionLaws → (done xs : List Instr) {bytes rest mid : List ℕ} → Took (Each Instruction done) bytes rest → ¬ Closes rest → ((r : List ℕ) → ¬ Took (Any Instruction) rest r) →
    Took (Each Instruction xs) bytes mid → ¬ Closes mid
no_closed laws done xs p ends none q closes = elim (cases_lt (length done) (length xs)) [
  | inl fewer ↦ let more = each_goes_on laws.instructions done xs fewer p q in none more.0 more.1
  | inr most ↦ elim (cases_lt (length xs) (length done)) [
    | inl fewer ↦ let more = each_goes_on laws.instructions xs done fewer q p in closes_no_instruction laws.alike closes more.1
    | inr least ↦ ends (subst Closes (each_end laws.instructions xs done (omega (arith, most, least)) q p) closes)
  ]
]

pub sequence_fails : InstructionLaws → (room : ℕ) (done : List Instr) → AreShallow room done → {bytes rest : List ℕ} → Took (Each Instruction done) bytes rest → ¬ Closes rest →
    (e : Fault) → Fails (Any Instruction) (StopsInside room) rest e → Fails (Any Closed) (StopsBody room) bytes e
sequence_fails laws room done shallow {bytes} {rest} p ends (Malformed left) f = let r = f.reason in record {
  reason = (
    omega (arith, r.0, ap length p.split, length-append p.front rest),
    record {
      none = λ after q.
          let two = took_split (that Closed q) in no_closed laws done q.spelled.0 p ends r.1.none two.first (closing_closes two.second);
      nowhere = λ place feature s.
          let before = took_behind place feature s.1 in
          let these : Took (Each Instruction before.spelled.0) bytes s.1.rest = record { front = before.front; split = before.split; spelled = before.spelled.1 } in
          each_stops laws.instructions (instruction_stops laws room) done before.spelled.0 shallow p r.1.none r.1.nowhere these s.1.place feature (s.0, s.1.stops);
    },
  );
}
sequence_fails laws room done shallow {bytes} {rest} p ends (Unsupported left feature) f =
    let r = f.reason in
    let whole : Took (ShallowRow room) bytes rest = record { front = p.front; split = p.split; spelled = (done, p.spelled, shallow) } in
    record {
      reason = record {
        place = length p.front + r.place;
        counted = omega (arith, r.counted, ap length p.split, length-append p.front rest);
        stops = (r.stops.0, behind_took {S = StopsInstruction r.stops.0 room} r.place feature whole r.stops.1);
      };
    }
sequence_fails laws room done shallow p ends NoMemory f = record { reason = tt }

-- ---- what isn't there behind the heading of a block

pub type_fails : Apart → (f : BlockForm) (room : ℕ) {bytes mid : List ℕ} → bytes ≡ block_code f ∷ mid → (e : Fault) → Fails (Any ResultType) StopsValueType mid e →
    Fails (Any Instruction) (StopsInside (suc room)) bytes e
type_fails apart f room is e g = tagged_fails (block_code f) is (λ rest p. block_read apart f is p) (λ place feature t. stop_block f room is place feature t)
    (λ place feature s. block_stop f room is place feature s) e (fails_first (Any ResultType) (BlockBody (block_code f)) (InBranches (block_code f) room) (λ front p. p) e g)

body_fails : InstructionLaws → (f : BlockForm) (ty : BlockType) (room : ℕ) {bytes start : List ℕ} → Took (Byte (block_code f) ⊳ ResultType ty) bytes start →
    (e : Fault) → Fails (BlockBody (block_code f)) (InBranches (block_code f) room) start e → Fails (Any Instruction) (StopsInside (suc room)) bytes e
body_fails laws f ty room p e g =
    let two = took_split p in
    let is = is_byte (block_code f) two.first in
    tagged_fails (block_code f) is (λ rest q. block_read laws.apart f is q) (λ place feature t. stop_block f room is place feature t)
    (λ place feature s. block_stop f room is place feature s) e
    (fails_second StopsValueType (one_end laws.types) (λ front q. q) (λ place feature t. type_clear ty two.second place feature t) (took_any ResultType ty two.second) e g)

-- where only an end closes
pub heading_fails : InstructionLaws → (room : ℕ) (o : Opening) → OpensShallow room o → ((ty : BlockType) → ¬ (o ≡ Head If ty)) → {bytes start : List ℕ} → Took (Heading o) bytes start →
    (e : Fault) → Fails (Any Expression) (StopsBody room) start e → Fails (Any Instruction) (StopsInside (suc room)) bytes e
heading_fails laws room (Head Block ty) shallow other p e f = body_fails laws Block ty room p e (alone_fails 2 room (λ same. omega (arith, same)) e f)
heading_fails laws room (Head Loop ty) shallow other p e f = body_fails laws Loop ty room p e (alone_fails 3 room (λ same. omega (arith, same)) e f)
heading_fails laws room (Head If ty) shallow other p e f = absurd (other ty refl)
heading_fails laws room (Else ty first) shallow other p e f =
    let two = took_split p in
    let typed = took_split two.second in
    body_fails laws If ty room (took_then two.first typed.first) e (second_fails laws.alike laws.clear room first shallow typed.second e f)

opened_fails : InstructionLaws → (room : ℕ) (o : Opening) → OpensShallow room o → {bytes start : List ℕ} → Took (Heading o) bytes start →
    (e : Fault) → Fails (Any Closed) (StopsBody room) start e → Fails (Any Instruction) (StopsInside (suc room)) bytes e
opened_fails laws room (Head Block ty) shallow p e f = body_fails laws Block ty room p e (alone_fails 2 room (λ same. omega (arith, same)) e (closed_expression room e f))
opened_fails laws room (Head Loop ty) shallow p e f = body_fails laws Loop ty room p e (alone_fails 3 room (λ same. omega (arith, same)) e (closed_expression room e f))
opened_fails laws room (Head If ty) shallow p e f = body_fails laws If ty room p e (first_fails 4 room e f)
opened_fails laws room (Else ty first) shallow p e f =
    let two = took_split p in
    let typed = took_split two.second in
    body_fails laws If ty room (took_then two.first typed.first) e (second_fails laws.alike laws.clear room first shallow typed.second e (closed_expression room e f))

-- a heading begins with an opcode, which closes nothing
abbrev form_of : Opening → BlockForm
form_of (Head form ty) = form
form_of (Else ty first) = If

heading_is : (o : Opening) {bytes rest : List ℕ} → Took (Heading o) bytes rest → BeginsWith (block_code (form_of o)) bytes
heading_is (Head form ty) p = let two = took_split p in (two.mid, is_byte (block_code form) two.first)
heading_is (Else ty first) p = let two = took_split p in (two.mid, is_byte (block_code If) two.first)

code_apart : (f : BlockForm) (b : ℕ) → block_code f ≡ b → (b ≡ end_code) ⊎ (b ≡ else_code) → ⊥
code_apart Block b same which = elim which [ inl end ↦ omega (arith, same, end) | inr other ↦ omega (arith, same, other) ]
code_apart Loop b same which = elim which [ inl end ↦ omega (arith, same, end) | inr other ↦ omega (arith, same, other) ]
code_apart If b same which = elim which [ inl end ↦ omega (arith, same, end) | inr other ↦ omega (arith, same, other) ]

heads_same : (b c : ℕ) {bytes : List ℕ} → BeginsWith b bytes → BeginsWith c bytes → b ≡ c
heads_same b c p q = let flat : b ∷ p.0 ≡ c ∷ q.0 = sym p.1 ∙ q.1 in cc

pub byte_goes_on : (code : ℕ) {bytes mid : List ℕ} → bytes ≡ code ∷ mid → ¬ (code ≡ end_code) × ¬ (code ≡ else_code) → ¬ Closes bytes
byte_goes_on code {mid = mid} is others closes =
    elim closes [ inl b ↦ others.0 (heads_same code end_code (mid, is) b) | inr b ↦ others.1 (heads_same code else_code (mid, is) b) ]

heading_goes_on : (o : Opening) {bytes rest : List ℕ} → Took (Heading o) bytes rest → ¬ Closes bytes
heading_goes_on o p closes =
    let form = form_of o in
    let begins = heading_is o p in
    elim closes [
      | inl b ↦ code_apart form end_code (heads_same (block_code form) end_code begins b) (inl refl)
      | inr b ↦ code_apart form else_code (heads_same (block_code form) else_code begins b) (inr refl)
    ]

-- ---- what isn't there in the blocks around

framed_fails : InstructionLaws → (room : ℕ) (frame : Frame) → AreShallow (suc room) frame.before → OpensShallow room frame.opening → {bytes start : List ℕ} → Took (Framed frame) bytes start →
    (e : Fault) → Fails (Any Closed) (StopsBody room) start e → Fails (Any Closed) (StopsBody (suc room)) bytes e
framed_fails laws room frame shallow opens p e f =
    let two = took_split p in
    sequence_fails laws (suc room) frame.before shallow two.first (heading_goes_on frame.opening two.second) e (opened_fails laws room frame.opening opens two.second e f)

around_fails : InstructionLaws → (room inner : ℕ) (frames : List Frame) (body : List Instr) → AreKept room frames body → room ≡ length frames + inner → {bytes start : List ℕ} → Took (Each Framed frames) bytes start →
    (e : Fault) → Fails (Any Closed) (StopsBody inner) start e → Fails (Any Closed) (StopsBody room) bytes e
around_fails laws room inner [] body kept count {bytes} {start} p e f =
    let same : inner ≡ room = omega (arith, count) in
    subst (λ l. Fails (Any Closed) (StopsBody room) l e) (sym (took_nothing Framed p)) (subst (λ n. Fails (Any Closed) (StopsBody n) start e) same f)
around_fails laws zero inner (frame ∷ frames) body kept count p e f = absurd kept
around_fails laws (suc room) inner (frame ∷ frames) body kept count p e f =
    let two = took_split p in
    framed_fails laws room frame kept.0 kept.1 two.first e (around_fails laws room inner frames body kept.2 (omega (arith, count)) two.second e f)

-- the innermost instructions are shallow where there is so much room
pub body_kept : (room inner : ℕ) (frames : List Frame) (body : List Instr) → AreKept room frames body → room ≡ length frames + inner → AreShallow inner body
body_kept room inner [] body kept count = let same : room ≡ inner = omega (arith, count) in subst (λ n. AreShallow n body) same kept
body_kept zero inner (frame ∷ frames) body kept count = absurd kept
body_kept (suc room) inner (frame ∷ frames) body kept count = body_kept room inner frames body kept.2 (omega (arith, count))

-- and there is some
pub some_room : (room : ℕ) (frames : List Frame) (body : List Instr) → AreKept room frames body → (inner : ℕ) × (room ≡ length frames + inner)
some_room room [] body kept = (room, omega arith)
some_room zero (frame ∷ frames) body kept = absurd kept
some_room (suc room) (frame ∷ frames) body kept = let more = some_room room frames body kept.2 in (more.0, omega (arith, more.1))

-- what was read of the expression so far
pub nest_took : (nest : Nest) {whole bytes : List ℕ} → Took (Nested nest) whole bytes → Took (Each Framed nest.around ⊳ Each Instruction nest.body) whole bytes
nest_took nest p = record { front = p.front; split = p.split; spelled = p.spelled.0 }

pub nest_fails : InstructionLaws → (nest : Nest) {whole bytes : List ℕ} → Took (Nested nest) whole bytes → ¬ Closes bytes → (e : Fault) →
    ((room : ℕ) → HasRoom nest room → Fails (Any Instruction) (StopsInside room) bytes e) → Fails (Any Expression) StopsExpression whole e
nest_fails laws nest p ends e f =
    let two = took_split (nest_took nest p) in
    let kept = p.spelled.1 in
    let inner = some_room most_blocks nest.around nest.body kept in
    let shallow = body_kept most_blocks inner.0 nest.around nest.body kept inner.1 in
    closed_expression most_blocks e
    (around_fails laws most_blocks inner.0 nest.around nest.body kept inner.1 two.first e (sequence_fails laws inner.0 nest.body shallow two.second ends e (f inner.0 inner.1)))

-- where as many blocks are open as may be
no_room : (nest : Nest) → most_blocks ≤ length nest.around → (room : ℕ) → HasRoom nest room → room ≡ 0
no_room nest full room has = omega (arith, full, has)

one_room : (nest : Nest) → length nest.around < most_blocks → (room : ℕ) → HasRoom nest room → (more : ℕ) × (room ≡ suc more)
one_room nest fewer zero has = absurd (omega (arith, fewer, has))
one_room nest fewer (suc more) has = (more, refl)

pub block_goes_on : (f : BlockForm) {bytes mid : List ℕ} → bytes ≡ block_code f ∷ mid → ¬ Closes bytes
block_goes_on f {mid = mid} is closes = elim closes [
  | inl b ↦ code_apart f end_code (heads_same (block_code f) end_code (mid, is) b) (inl refl)
  | inr b ↦ code_apart f else_code (heads_same (block_code f) else_code (mid, is) b) (inr refl)
]

pub full_fails : InstructionLaws → (nest : Nest) {whole bytes mid : List ℕ} → Took (Nested nest) whole bytes → (f : BlockForm) → bytes ≡ block_code f ∷ mid → most_blocks ≤ length nest.around →
    Fails (Any Expression) StopsExpression whole (Unsupported (length bytes) BlockDepth)
full_fails laws nest {bytes = bytes} p f is full = nest_fails laws nest p (block_goes_on f is) (Unsupported (length bytes) BlockDepth)
    (λ room has. subst (λ n. Fails (Any Instruction) (StopsInside n) bytes (Unsupported (length bytes) BlockDepth)) (sym (no_room nest full room has)) (too_deep f is))

-- where one more may be open, and its type isn't there
pub head_fails : InstructionLaws → (nest : Nest) {whole bytes mid : List ℕ} → Took (Nested nest) whole bytes → (f : BlockForm) → bytes ≡ block_code f ∷ mid → length nest.around < most_blocks →
    (e : Fault) → ((room : ℕ) → Fails (Any Instruction) (StopsInside (suc room)) bytes e) → Fails (Any Expression) StopsExpression whole e
head_fails laws nest {bytes = bytes} p f is fewer e g = nest_fails laws nest p (block_goes_on f is) e
    (λ room has. let more = one_room nest fewer room has in subst (λ n. Fails (Any Instruction) (StopsInside n) bytes e) (sym more.1) (g more.0))

-- one more may be open
pub may_open : (nest : Nest) (f : BlockForm) (ty : BlockType) {whole bytes : List ℕ} → Took (Nested nest) whole bytes → length nest.around < most_blocks → MayOpen nest (Head f ty)
may_open nest f ty p fewer =
    let inner = some_room most_blocks nest.around nest.body p.spelled.1 in
    let more = one_room nest fewer inner.0 inner.1 in
    (more.0, subst (HasRoom nest) more.1 inner.1, tt)

-- an `else` that belongs to no `if`
else_fails : InstructionLaws → (room : ℕ) (body : List Instr) → AreShallow room body → {start bytes rest : List ℕ} → Took (Each Instruction body) start bytes → bytes ≡ else_code ∷ rest →
    Fails (Any Expression) (StopsBody room) start (Malformed (length bytes))
else_fails laws room body shallow {start} {bytes} {rest} p is = record {
  reason = (
    omega (arith, ap length p.split, length-append p.front bytes),
    record {
      none = λ after q. no_both laws.alike q (took_any FirstBranch body (took_then p (took_byte else_code is)));
      nowhere = λ place feature s. closed_clear laws.clear room body shallow p (inr (rest, is)) place feature s;
    },
  );
}

pub outer_else : InstructionLaws → (nest : Nest) → nest.around ≡ [] → {whole bytes rest : List ℕ} → Took (Nested nest) whole bytes → bytes ≡ else_code ∷ rest →
    Fails (Any Expression) StopsExpression whole (Malformed (length bytes))
outer_else laws nest none {whole} {bytes} p is =
    let two = took_split (nest_took nest p) in
    let start : whole ≡ two.mid = took_nothing Framed (subst (λ l. Took (Each Framed l) whole two.mid) none two.first) in
    let shallow : AreShallow most_blocks nest.body = subst (λ l. AreKept most_blocks l nest.body) none p.spelled.1 in
    subst (λ l. Fails (Any Expression) StopsExpression l (Malformed (length bytes))) (sym start) (else_fails laws most_blocks nest.body shallow two.second is)

pub inner_else : InstructionLaws → (nest : Nest) (room : ℕ) → HasRoom nest (suc room) → (o : Opening) (body : List Instr) → OpensShallow room o → AreShallow room body → ((ty : BlockType) → ¬ (o ≡ Head If ty)) →
    {whole at bytes rest : List ℕ} → Took (Nested nest) whole at →
    Took (Heading o ⊳ Each Instruction body) at bytes → bytes ≡ else_code ∷ rest → Fails (Any Expression) StopsExpression whole (Malformed (length bytes))
inner_else laws nest room has o body opens shallow other {at = at} {bytes = bytes} p q is =
    let two = took_split q in
    let here : Fails (Any Instruction) (StopsInside (suc room)) at (Malformed (length bytes)) =
    heading_fails laws room o opens other two.first (Malformed (length bytes)) (else_fails laws room body shallow two.second is) in
    nest_fails laws nest p (heading_goes_on o two.first) (Malformed (length bytes))
    (λ n count. let same : suc room ≡ n = omega (arith, has, count) in subst (λ n. Fails (Any Instruction) (StopsInside n) at (Malformed (length bytes))) same here)

-- ---- at the end of the bytes

no_more : (b : ℕ) {bytes : List ℕ} → bytes ≡ [] → ¬ BeginsWith b bytes
no_more b none begins = let flat : [] ≡ b ∷ begins.0 = sym none ∙ begins.1 in let no : ⊥ = cc in no

no_opener : {bytes rest : List ℕ} → bytes ≡ [] → ¬ Took Opener bytes rest
no_opener {rest = rest} none p = elim p.spelled [
  | inl two ↦ no_more 2 none (rest, p.split ∙ ap (λ l. l ++ rest) two)
  | inr (inl three) ↦ no_more 3 none (rest, p.split ∙ ap (λ l. l ++ rest) three)
  | inr (inr four) ↦ no_more 4 none (rest, p.split ∙ ap (λ l. l ++ rest) four)
]

no_stop : (room : ℕ) {bytes : List ℕ} → bytes ≡ [] → (place : ℕ) (feature : Feature) → ¬ StopsInside room place feature bytes
no_stop room none place feature s = elim (stop_opener s.0 room place feature s.1) [
  | inl t ↦ let here : ⊥ = subst (AtByte left_out place feature) none t in here
  | inr opener ↦ no_opener none opener.1
]

pub bytes_end : InstructionLaws → (nest : Nest) {whole bytes : List ℕ} → Took (Nested nest) whole bytes → bytes ≡ [] → Fails (Any Expression) StopsExpression whole (Malformed (length bytes))
bytes_end laws nest {bytes = bytes} p none = nest_fails laws nest p (λ closes. elim closes [ inl b ↦ no_more end_code none b | inr b ↦ no_more else_code none b ]) (Malformed (length bytes))
    (λ room count. record {
      reason = (
        omega arith,
        record {
          none = λ rest q.
              let parts = took_split (took_map (instruction_parts q.spelled.0) (that Instruction q)) in
              no_more (opcode q.spelled.0) none (parts.mid, is_byte (opcode q.spelled.0) parts.first);
          nowhere = λ place feature s. no_stop room none place feature s;
        },
      );
    })
