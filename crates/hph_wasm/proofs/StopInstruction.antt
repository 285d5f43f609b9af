-- Instructions and expressions stop a reader in at most one place.
use Rattle.std.proofs.Common.{◌≡◌, ◌∙◌, ◌⊎◌, inl, inr, ℕ, zero, suc, List, [], ◌∷◌, ◌++◌, refl, sym, ap, subst, arith, append_assoc, Option, Some, None}
use Rattle.std.proofs.lemmas.List.{append-nil}
use Rattle.hph_wasm.specs.Grammar.{Byte, ◌⊳◌, Each, result_byte, ResultType}
use Rattle.hph_wasm.specs.Codes.{opcode, form, else_code, end_code}
use Rattle.hph_wasm.specs.InstructionGrammar.{Instruction, Instructions, Otherwise, Expression}
use Rattle.hph_wasm.specs.OneWay.{StopsSequence}
use Rattle.hph_wasm.specs.BlockDepth.{Opened, IsShallow, AllShallow, OtherShallow, AreShallow}
use Rattle.hph_wasm.specs.Unsupported.{IsAnything, IsShallowExpression, most_blocks, Stop, Any, Behind, AtByte, AtOpener, float_type, StopsValueType, left_out, Opener, ShallowRow, OpensElse, Opens, StopsInstruction, StopsExpression}
use Rattle.hph_wasm.specs.declared.feature.Feature.{Feature}
use Rattle.hph_wasm.specs.declared.types.ValType.{ValType}
use Rattle.hph_wasm.specs.declared.types.ValType.TheVariants.{I32, I64}
use Rattle.hph_wasm.specs.declared.types.BlockType.{BlockType}
use Rattle.hph_wasm.specs.declared.instr.Instr.{Instr, Block', Loop', If', Row_of-Instr, end_of-Instr, Held-Instr-If-2, None', Some'}
use Rattle.hph_wasm.proofs.OneForm.{Alike, map-Alike, pairs_alike, byte_form, BeginsWith, first_bytes_same}
use Rattle.hph_wasm.proofs.Forms.{same_form, left_out-opcode}
use Rattle.hph_wasm.proofs.InstructionRows.{list_of, Each-list_of}
use Rattle.hph_wasm.proofs.ShallowRows.{AreShallow-list_of}
use Rattle.hph_wasm.proofs.OneInstruction.{result_type_form, begins_with_opcode, Related, related, instruction_form, Closes, Closes-append, Closes-end, Closes-otherwise, not_closed}
use Rattle.hph_wasm.proofs.OneStop.{Same, OneStop, Fronts, fronts_of, read_fronts, pair_fronts, behind_one, behinds_one, behind_both, byte_fronts, byte_one, rows_one, split_front}
use Rattle.hph_wasm.proofs.StopParts.{byte_apart}

-- an opener is one byte, of three
opener_byte : (f : List ℕ) → Opener f → (b : ℕ) × (f ≡ b ∷ []) × ((b ≡ 0x02) ⊎ ((b ≡ 0x03) ⊎ (b ≡ 0x04)))
opener_byte f (inl p) = (0x02, p, inl refl)
opener_byte f (inr (inl p)) = (0x03, p, inr (inl refl))
opener_byte f (inr (inr p)) = (0x04, p, inr (inr refl))

-- so it has one front
opener_fronts : Fronts {X = Unit {0}} (λ _. Opener)
opener_fronts = record {
  same = λ x y f g r s p q e.
      let b = opener_byte f p in
      let c = opener_byte g q in
      let a = byte_form.alike b.0 c.0 f g r s b.1 c.1 e in
      (a.spelling, a.behind);
}

-- an opener and a type have one front
head_fronts : Fronts {X = Unit {0} × Unit {0}} (λ _. Opener ⊳ Any ResultType)
head_fronts = pair_fronts opener_fronts (read_fronts IsAnything (fronts_of result_type_form))

-- lists of instructions are alike where something closes behind them
pub lists_alike : (xs ys : List Instr) (f g r s : List ℕ) → Each Instruction xs f → Each Instruction ys g → Closes r → Closes s → f ++ r ≡
    g ++ s → Alike xs ys f g r s
lists_alike [] [] f g r s p q closes closes' e =
    record { thing = refl; spelling = p ∙ sym q; behind = ap (λ l. l ++ r) (sym p) ∙ e ∙ ap (λ l. l ++ s) q }
lists_alike [] (y ∷ ys) f g r s p q closes closes' e =
    absurd (not_closed y q.front (q.rest ++ s) r q.first closes (ap (λ l. l ++ r) (sym p) ∙ e ∙ split_front g s q))
lists_alike (x ∷ xs) [] f g r s p q closes closes' e =
    absurd (not_closed x p.front (p.rest ++ r) s p.first closes' (ap (λ l. l ++ s) (sym q) ∙ sym e ∙ split_front f r p))
lists_alike (x ∷ xs) (y ∷ ys) f g r s p q closes closes' e = map-Alike (λ pair. pair.0 ∷ pair.1) (pairs_alike f g r s p q e
    (instruction_form.alike x y p.front q.front (p.rest ++ r) (q.rest ++ s) p.first q.first)
    (λ _. lists_alike xs ys p.rest q.rest r s p.second q.second closes closes'))

-- the byte of what a block gives is none of a float
result_byte-no_float : (t : Option ValType) → float_type (result_byte t) ≡ None
result_byte-no_float None = refl
result_byte-no_float (Some I32) = refl
result_byte-no_float (Some I64) = refl

-- what an instruction holds is shallow, inside one block more
abbrev InsideShallow : ℕ → List Instr → Held-Instr-If-2 → Type 0
InsideShallow room body other = Opened room (λ inside. AreShallow inside body × OtherShallow other inside)

-- an instruction that holds others: its opcode, its type, what it holds, and what stands behind that
record Shape (room : ℕ) (f : List ℕ) : Type 0 where
  pub code : ℕ
  pub ty : BlockType
  pub body : List Instr
  pub other : Held-Instr-If-2
  pub spelled : (Byte code ⊳ ResultType ty ⊳ Each Instruction body ⊳ Otherwise other) f
  pub shallow : InsideShallow room body other

-- where the row is shallow, its list is
inside_shallow : {n : _} (room : ℕ) (row : Row_of-Instr n) (other : Held-Instr-If-2) →
    Opened room (λ inside. AllShallow row inside × OtherShallow other inside) → InsideShallow room (list_of row) other
inside_shallow zero row other shallow = shallow
inside_shallow (suc room) row other shallow = (AreShallow-list_of row room shallow.0, shallow.1)

alone_shallow : {n : _} (room : ℕ) (row : Row_of-Instr n) → Opened room (AllShallow row) → InsideShallow room (list_of row) None'
alone_shallow zero row shallow = shallow
alone_shallow (suc room) row shallow = (AreShallow-list_of row room shallow, tt)

-- what is spelled as a row is spelled as its list
shape_of : {n : _} (room code : ℕ) (ty : BlockType) (row : Row_of-Instr n) (other : Held-Instr-If-2) (f : List ℕ) →
    (Byte code ⊳ ResultType ty ⊳ Instructions row ⊳ Otherwise other) f → InsideShallow room (list_of row) other → Shape room f
shape_of room code ty row other f p shallow =
    let typed = p.second in
    let inside = typed.second in
    record {
      code = code;
      ty = ty;
      body = list_of row;
      other = other;
      spelled = record {
        front = p.front;
        rest = p.rest;
        split = p.split;
        first = p.first;
        second = record {
          front = typed.front;
          rest = typed.rest;
          split = typed.split;
          first = typed.first;
          second = record {
            front = inside.front;
            rest = inside.rest;
            split = inside.split;
            first = Each-list_of row inside.front inside.first;
            second = inside.second;
          };
        };
      };
      shallow = shallow;
    }

abbrev nothing : BlockType
nothing = record { result = None }

-- by the form
block_shape : (room : ℕ) (i : Instr) (f : List ℕ) → Instruction i f → IsShallow i room → Related (Block' nothing [] end_of-Instr) (form i) →
    Shape room f
block_shape room (Block' ty shape row) f p shallow same =
    shape_of room (opcode (Block' ty shape row)) ty row None' f p (alone_shallow room row shallow)
block_shape room i f p shallow same = absurd same

loop_shape : (room : ℕ) (i : Instr) (f : List ℕ) → Instruction i f → IsShallow i room → Related (Loop' nothing [] end_of-Instr) (form i) →
    Shape room f
loop_shape room (Loop' ty shape row) f p shallow same =
    shape_of room (opcode (Loop' ty shape row)) ty row None' f p (alone_shallow room row shallow)
loop_shape room i f p shallow same = absurd same

if_shape : (room : ℕ) (i : Instr) (f : List ℕ) → Instruction i f → IsShallow i room → Related (If' nothing [] end_of-Instr None') (form i) →
    Shape room f
if_shape room (If' ty shape row other) f p shallow same =
    shape_of room (opcode (If' ty shape row other)) ty row other f p (inside_shallow room row other shallow)
if_shape room i f p shallow same = absurd same

-- what begins with an opener has such a shape
shaped : (room : ℕ) (i : Instr) (b : ℕ) (f : List ℕ) → Instruction i f → IsShallow i room → opcode i ≡ b →
    (b ≡ 0x02) ⊎ ((b ≡ 0x03) ⊎ (b ≡ 0x04)) → Shape room f
shaped room i b f p shallow e (inl is) = let x = Block' nothing [] end_of-Instr in
    block_shape room i f p shallow (subst (Related x) (same_form x i (sym (e ∙ is))) (related x))
shaped room i b f p shallow e (inr (inl is)) = let x = Loop' nothing [] end_of-Instr in
    loop_shape room i f p shallow (subst (Related x) (same_form x i (sym (e ∙ is))) (related x))
shaped room i b f p shallow e (inr (inr is)) = let x = If' nothing [] end_of-Instr None' in
    if_shape room i f p shallow (subst (Related x) (same_form x i (sym (e ∙ is))) (related x))

-- an instruction at the place of an opener has such a shape
shaped_at : (room : ℕ) (i : Instr) (front rest f r : List ℕ) → Instruction i front → IsShallow i room → Opener f →
    front ++ rest ≡ f ++ r → Shape room front
shaped_at room i front rest f r p shallow opens e =
    let b = opener_byte f opens in
    shaped room i b.0 front p shallow (first_bytes_same (opcode i) b.0 front f rest r (begins_with_opcode i front p) ([], b.1) e) b.2

-- what stops behind an opening
opens_cases : {S : Stop} (room at : ℕ) (feature : Feature) (bytes : List ℕ) → Behind (Opens room) S at feature bytes →
    Behind (Opener ⊳ Any ResultType) S at feature bytes ⊎ Behind (OpensElse room) S at feature bytes
opens_cases {S = S} room at feature bytes p = opened p.before
  where
    opened : Opens room p.front → Behind (Opener ⊳ Any ResultType) S at feature bytes ⊎ Behind (OpensElse room) S at feature bytes
    opened (inl opens) = inl (record {
      front = p.front;
      rest = p.rest;
      split = p.split;
      before = opens;
      place = p.place;
      counted =
          p.counted;
      stops = p.stops;
    })
    opened (inr opens) = inr (record {
      front = p.front;
      rest = p.rest;
      split = p.split;
      before = opens;
      place = p.place;
      counted =
          p.counted;
      stops = p.stops;
    })

-- an `if`'s opener and type, where a second branch is opened
else_head : (room : ℕ) (f r bytes : List ℕ) → OpensElse room f → bytes ≡ f ++ r →
    (g : List ℕ) × (s : List ℕ) × (Opener ⊳ Any ResultType) g × (bytes ≡ g ++ s)
else_head room f r bytes p e =
    let typed = p.second in (
      p.front ++ typed.front,
      typed.rest ++ r,
      record { front = p.front; rest = typed.front; split = refl; first = inr (inr p.first); second = typed.first },
      e ∙ split_front f r p ∙ ap (λ l. p.front ++ l) (split_front p.rest r typed) ∙
          sym (append_assoc p.front typed.front (typed.rest ++ r)),
    )

-- so what stops behind openings has an opener and a type at its head
stop_head : (blocks room at : ℕ) (feature : Feature) (bytes : List ℕ) → StopsInstruction (suc blocks) (suc room) at feature bytes →
    (g : List ℕ) × (s : List ℕ) × (Opener ⊳ Any ResultType) g × (bytes ≡ g ++ s)
stop_head blocks room at feature bytes stop = by_cases
    (opens_cases {S = StopsSequence blocks room} room at feature bytes (behind_both {S = StopsInstruction blocks room} at feature bytes stop))
  where
    by_cases : Behind (Opener ⊳ Any ResultType) (StopsSequence blocks room) at feature bytes ⊎ Behind (OpensElse room)
        (StopsSequence blocks room) at feature bytes →
        (g : List ℕ) × (s : List ℕ) × (Opener ⊳ Any ResultType) g × (bytes ≡ g ++ s)
    by_cases (inl p) = (p.front, p.rest, p.before, p.split)
    by_cases (inr p) = else_head room p.front p.rest bytes p.before p.split

-- nothing closes where an opener stands
opener_open : (f r bytes : List ℕ) → Opener f → bytes ≡ f ++ r → Closes bytes → ⊥
opener_open f r bytes p e closes = let b = opener_byte f p in differs b.0 b.1 b.2 closes
  where
    apart_from : (b c : ℕ) → f ≡ b ∷ [] → BeginsWith c bytes → b ≡ c
    apart_from b c is begins = sym (first_bytes_same c b bytes f [] r begins ([], is) (append-nil bytes ∙ e))

    differs : (b : ℕ) → f ≡ b ∷ [] → (b ≡ 0x02) ⊎ ((b ≡ 0x03) ⊎ (b ≡ 0x04)) → Closes bytes → ⊥
    differs b is (inl two) (inl end) = omega (arith, two, apart_from b end_code is end)
    differs b is (inl two) (inr other) = omega (arith, two, apart_from b else_code is other)
    differs b is (inr (inl three)) (inl end) = omega (arith, three, apart_from b end_code is end)
    differs b is (inr (inl three)) (inr other) = omega (arith, three, apart_from b else_code is other)
    differs b is (inr (inr four)) (inl end) = omega (arith, four, apart_from b end_code is end)
    differs b is (inr (inr four)) (inr other) = omega (arith, four, apart_from b else_code is other)

-- nothing left out begins with an opener
opener_not_left_out : (f r bytes : List ℕ) (at : ℕ) (feature : Feature) → Opener f → bytes ≡ f ++ r → AtByte left_out at feature bytes → ⊥
opener_not_left_out f r bytes at feature (inl p) e stop =
    byte_apart left_out 0x02 at feature f r refl p (subst (AtByte left_out at feature) e stop)
opener_not_left_out f r bytes at feature (inr (inl p)) e stop =
    byte_apart left_out 0x03 at feature f r refl p (subst (AtByte left_out at feature) e stop)
opener_not_left_out f r bytes at feature (inr (inr p)) e stop =
    byte_apart left_out 0x04 at feature f r refl p (subst (AtByte left_out at feature) e stop)

-- nor with an end or an `else`
closes_not_left_out : (bytes : List ℕ) (at : ℕ) (feature : Feature) → Closes bytes → AtByte left_out at feature bytes → ⊥
closes_not_left_out bytes at feature (inl begins) stop =
    byte_apart left_out end_code at feature (end_code ∷ []) begins.0 refl refl (subst (AtByte left_out at feature) begins.1 stop)
closes_not_left_out bytes at feature (inr begins) stop =
    byte_apart left_out else_code at feature (else_code ∷ []) begins.0 refl refl (subst (AtByte left_out at feature) begins.1 stop)

-- an instruction stops where nothing closes
stop_open : (blocks room at : ℕ) (feature : Feature) (bytes : List ℕ) → StopsInstruction blocks room at feature bytes → Closes bytes → ⊥
stop_open zero room at feature bytes (inl stop) closes = closes_not_left_out bytes at feature closes stop
stop_open zero zero at feature bytes (inr stop) closes = opener_open stop.front stop.rest bytes stop.opens stop.split closes
stop_open zero (suc room) at feature bytes (inr stop) closes = opener_open stop.front stop.rest bytes stop.before stop.split closes
stop_open (suc blocks) zero at feature bytes stop closes = stop
stop_open (suc blocks) (suc room) at feature bytes stop closes =
    let head = stop_head blocks room at feature bytes stop in
    opener_open head.2.front (head.2.rest ++ head.1) bytes head.2.first (head.3 ∙ split_front head.0 head.1 head.2) closes

-- where shallow instructions aren't stopped in, a sequence with something that closes behind it isn't
abbrev pub Apart : ℕ → ℕ → Type 0
Apart blocks room = (i : Instr) (at : ℕ) (feature : Feature) (front rest : List ℕ) → Instruction i front → IsShallow i room →
    StopsInstruction blocks room at feature (front ++ rest) → ⊥

rows_closed : (blocks room : ℕ) → Apart blocks room → (xs ys : List Instr) (at : ℕ) (feature : Feature) (f g r s : List ℕ) →
    Each Instruction xs f →
    Each Instruction ys g → AreShallow room ys → Closes s → f ++ r ≡ g ++ s →
    StopsInstruction blocks room at feature r → ⊥
rows_closed blocks room apart [] [] at feature f g r s p q shallow closes e stop =
    let here : r ≡ s = ap (λ l. l ++ r) (sym p) ∙ e ∙ ap (λ l. l ++ s) q in
    stop_open blocks room at feature s (subst (StopsInstruction blocks room at feature) here stop) closes
rows_closed blocks room apart [] (y ∷ ys) at feature f g r s p q shallow closes e stop =
    let here : r ≡ q.front ++ (q.rest ++ s) = ap (λ l. l ++ r) (sym p) ∙ e ∙ split_front g s q in
    apart y at feature q.front (q.rest ++ s) q.first shallow.0 (subst (StopsInstruction blocks room at feature) here stop)
rows_closed blocks room apart (x ∷ xs) [] at feature f g r s p q shallow closes e stop =
    not_closed x p.front (p.rest ++ r) s p.first closes (ap (λ l. l ++ s) (sym q) ∙ sym e ∙ split_front f r p)
rows_closed blocks room apart (x ∷ xs) (y ∷ ys) at feature f g r s p q shallow closes e stop =
    let a = instruction_form.alike x y p.front q.front (p.rest ++ r) (q.rest ++ s) p.first q.first
    (sym (split_front f r p) ∙ e ∙ split_front g s q) in
    rows_closed blocks room apart xs ys at feature p.rest q.rest r s p.second q.second shallow.1 closes a.behind stop

pub sequence_closed : (blocks room : ℕ) → Apart blocks room → (ys : List Instr) (at : ℕ) (feature : Feature) (g s bytes : List ℕ) →
    Each Instruction ys g → AreShallow room ys → Closes s → bytes ≡ g ++ s →
    StopsSequence blocks room at feature bytes → ⊥
sequence_closed blocks room apart ys at feature g s bytes q shallow closes e stop =
    rows_closed blocks room apart stop.before.0 ys stop.place feature stop.front g stop.rest s stop.before.1 q shallow closes
    (sym stop.split ∙ e) stop.stops

-- where a block is whole, what stops isn't inside it
block_apart : (blocks room : ℕ) → Apart blocks room → (at : ℕ) (feature : Feature) (front rest : List ℕ) → Shape (suc room) front →
    Behind (Opener ⊳ Any ResultType) (StopsSequence blocks room) at feature (front ++ rest) → ⊥
block_apart blocks room apart at feature front rest shape stop =
    let code = shape.spelled in
    let typed = code.second in
    let inside = typed.second in
    let head = stop.before in
    let b = opener_byte head.front head.first in
    let a = byte_form.alike shape.code b.0 code.front head.front (code.rest ++ rest) (head.rest ++ stop.rest) code.first b.1
    (sym (split_front front rest code) ∙ stop.split ∙ split_front stop.front stop.rest head) in
    let t = result_type_form.alike shape.ty head.second.0 typed.front head.rest (typed.rest ++ rest) stop.rest typed.first head.second.1
    (sym (split_front code.rest rest typed) ∙ a.behind) in
    sequence_closed blocks room apart shape.body stop.place feature inside.front (inside.rest ++ rest) stop.rest inside.first
    shape.shallow.0
    (Closes-append inside.rest rest (Closes-otherwise shape.other inside.rest inside.second))
    (sym t.behind ∙ split_front typed.rest rest inside) stop.stops

-- nor inside its second branch
branch_apart : (blocks room : ℕ) → Apart blocks room → (other : Held-Instr-If-2) (at : ℕ) (feature : Feature) (f g rest bytes : List ℕ) →
    Otherwise other f → OtherShallow other room → Byte else_code g → f ++ rest ≡ g ++ bytes →
    StopsSequence blocks room at feature bytes → ⊥
branch_apart blocks room apart None' at feature f g rest bytes p shallow q e stop =
    let same = first_bytes_same end_code else_code f g rest bytes ([], p) ([], q) e in omega arith
branch_apart blocks room apart (Some' shape row) at feature f g rest bytes p shallow q e stop =
    let inside = p.second in
    let a = byte_form.alike else_code else_code p.front g (p.rest ++ rest) bytes p.first q (sym (split_front f rest p) ∙ e) in
    sequence_closed blocks room apart (list_of row) at feature inside.front (inside.rest ++ rest) bytes
    (Each-list_of row inside.front inside.first) (AreShallow-list_of row room shallow)
    (Closes-append inside.rest rest (Closes-end inside.rest inside.second)) (sym a.behind ∙ split_front p.rest rest inside) stop

else_apart : (blocks room : ℕ) → Apart blocks room → (at : ℕ) (feature : Feature) (front rest : List ℕ) → Shape (suc room) front →
    Behind (OpensElse room) (StopsSequence blocks room) at feature (front ++ rest) → ⊥
else_apart blocks room apart at feature front rest shape stop =
    let code = shape.spelled in
    let typed = code.second in
    let inside = typed.second in
    let code' = stop.before in
    let typed' = code'.second in
    let inside' = typed'.second in
    let a = byte_form.alike shape.code 0x04 code.front code'.front (code.rest ++ rest) (code'.rest ++ stop.rest) code.first code'.first
    (sym (split_front front rest code) ∙ stop.split ∙ split_front stop.front stop.rest code') in
    let t = result_type_form.alike shape.ty typed'.first.0 typed.front typed'.front (typed.rest ++ rest) (typed'.rest ++ stop.rest)
    typed.first typed'.first.1
    (sym (split_front code.rest rest typed) ∙ a.behind ∙ split_front code'.rest stop.rest typed') in
    let l = lists_alike shape.body inside'.first.0 inside.front inside'.front (inside.rest ++ rest) (inside'.rest ++ stop.rest)
    inside.first inside'.first.1
    (Closes-append inside.rest rest (Closes-otherwise shape.other inside.rest inside.second))
    (Closes-append inside'.rest stop.rest (inr ([], inside'.second)))
    (sym (split_front typed.rest rest inside) ∙ t.behind ∙ split_front typed'.rest stop.rest inside') in
    branch_apart blocks room apart shape.other stop.place feature inside.rest inside'.rest rest stop.rest inside.second shape.shallow.1
    inside'.second l.behind
    stop.stops

-- an instruction that is read isn't stopped in: its opcode isn't left out, nor is the type of its block, and a block may be open there
opcode_apart : (i : Instr) (at : ℕ) (feature : Feature) (front rest : List ℕ) → Instruction i front →
    AtByte left_out at feature (front ++ rest) → ⊥
opcode_apart i at feature front rest p stop =
    let b = begins_with_opcode i front p in
    byte_apart left_out (opcode i) at feature (opcode i ∷ []) (b.0 ++ rest) (left_out-opcode i) refl
    (subst (λ l. AtByte left_out at feature (l ++ rest)) b.1 stop)

deep_apart : (i : Instr) (at : ℕ) (feature : Feature) (front rest : List ℕ) → Instruction i front → IsShallow i zero →
    AtOpener at feature (front ++ rest) → ⊥
deep_apart i at feature front rest p shallow stop = (shaped_at zero i front rest stop.front stop.rest p shallow stop.opens stop.split).shallow

type_apart : (room : ℕ) (i : Instr) (at : ℕ) (feature : Feature) (front rest : List ℕ) → Instruction i front → IsShallow i room →
    Behind Opener StopsValueType at feature (front ++ rest) → ⊥
type_apart room i at feature front rest p shallow stop =
    let shape = shaped_at room i front rest stop.front stop.rest p shallow stop.before stop.split in
    let code = shape.spelled in
    let typed = code.second in
    let b = opener_byte stop.front stop.before in
    let a = byte_form.alike shape.code b.0 code.front stop.front (code.rest ++ rest) stop.rest code.first b.1
    (sym (split_front front rest code) ∙ stop.split) in
    byte_apart float_type (result_byte shape.ty.result) stop.place feature typed.front (typed.rest ++ rest)
    (result_byte-no_float shape.ty.result) typed.first
    (subst (StopsValueType stop.place feature) (sym a.behind ∙ split_front code.rest rest typed) stop.stops)

-- nor what it holds
inside_apart : (blocks room : ℕ) → Apart blocks room → Apart (suc blocks) (suc room)
inside_apart blocks room apart i at feature front rest p shallow stop =
    by_cases (opens_cases {S = StopsSequence blocks room} room at feature (front ++ rest)
    (behind_both {S = StopsInstruction blocks room} at feature (front ++ rest) stop))
  where
    shape : Shape (suc room) front
    shape = let head = stop_head blocks room at feature (front ++ rest) stop in
        shaped_at (suc room) i front rest head.2.front (head.2.rest ++ head.1) p shallow head.2.first
        (head.3 ∙ split_front head.0 head.1 head.2)

    by_cases : Behind (Opener ⊳ Any ResultType) (StopsSequence blocks room) at feature (front ++ rest) ⊎ Behind (OpensElse room)
        (StopsSequence blocks room) at feature (front ++ rest) → ⊥
    by_cases (inl inside) = block_apart blocks room apart at feature front rest shape inside
    by_cases (inr inside) = else_apart blocks room apart at feature front rest shape inside

-- whatever the number of blocks
pub instruction_apart : (blocks room : ℕ) → Apart blocks room
instruction_apart zero room i at feature front rest p shallow (inl stop) = opcode_apart i at feature front rest p stop
instruction_apart zero zero i at feature front rest p shallow (inr stop) = deep_apart i at feature front rest p shallow stop
instruction_apart zero (suc room) i at feature front rest p shallow (inr stop) = type_apart (suc room) i at feature front rest p shallow stop
instruction_apart (suc blocks) zero i at feature front rest p shallow stop = stop
instruction_apart (suc blocks) (suc room) i at feature front rest p shallow stop =
    inside_apart blocks room (instruction_apart blocks room) i at feature front rest p shallow stop

-- where instructions inside so many blocks are stopped in at one place, sequences are
abbrev One : ℕ → ℕ → ℕ → Type 0
One blocks blocks' room = (at at' : ℕ) (feature feature' : Feature) (bytes : List ℕ) → StopsInstruction blocks room at feature bytes →
    StopsInstruction blocks' room at' feature' bytes → Same at at' feature feature'

pub sequence_one : (blocks blocks' room : ℕ) → One blocks blocks' room → (at at' : ℕ) (feature feature' : Feature) (bytes : List ℕ) →
    StopsSequence blocks room at feature bytes → StopsSequence blocks' room at' feature' bytes →
    Same at at' feature feature'
sequence_one blocks blocks' room one at at' feature feature' bytes p q =
    let same = rows_one {P = Instruction} {Fits = λ i. IsShallow i room} {S = StopsInstruction blocks room}
    {T = StopsInstruction blocks' room}
    instruction_form one
    (λ i at feature front rest p shallow. instruction_apart blocks room i at feature front rest p shallow)
    (λ i at feature front rest p shallow. instruction_apart blocks' room i at feature front rest p shallow)
    p.before.0 q.before.0 p.place q.place feature feature' p.front q.front p.rest q.rest p.before.2 q.before.2
    p.before.1 q.before.1
    (sym p.split ∙ q.split) p.stops q.stops in
    record { place = p.counted ∙ same.place ∙ sym q.counted; named = same.named }

-- what opens a second branch has one front
else_fronts : (room : ℕ) → Fronts {X = Unit {0} × (Unit {0} × Unit {0})} (λ _. OpensElse room)
else_fronts room = pair_fronts (byte_fronts 0x04) (pair_fronts (read_fronts IsAnything (fronts_of result_type_form)) closed)
  where
    closed : Fronts {X = Unit {0}} (λ _. ShallowRow room ⊳ Byte else_code)
    closed = record {
      same = λ _ _ f g r s p q e.
          let a = lists_alike p.first.0 q.first.0 p.front q.front (p.rest ++ r) (q.rest ++ s) p.first.1 q.first.1
          (Closes-append p.rest r (inr ([], p.second))) (Closes-append q.rest s (inr ([], q.second)))
          (sym (split_front f r p) ∙ e ∙ split_front g s q) in
          let b = byte_form.alike else_code else_code p.rest q.rest r s p.second q.second a.behind in
          (p.split ∙ (λ i. a.spelling i ++ b.spelling i) ∙ sym q.split, b.behind);
    }

-- a first branch that is stopped in doesn't end
branch_open : (blocks room at : ℕ) (feature : Feature) (bytes : List ℕ) →
    Behind (Opener ⊳ Any ResultType) (StopsSequence blocks room) at feature bytes → (f r : List ℕ) → OpensElse room f → bytes ≡ f ++ r → ⊥
branch_open blocks room at feature bytes stop f r code e =
    let head = stop.before in
    let b = opener_byte head.front head.first in
    let typed = code.second in
    let inside = typed.second in
    let a = byte_form.alike b.0 0x04 head.front code.front (head.rest ++ stop.rest) (code.rest ++ r) b.1 code.first
    (sym (split_front stop.front stop.rest head) ∙ sym stop.split ∙ e ∙ split_front f r code) in
    let t = result_type_form.alike head.second.0 typed.first.0 head.rest typed.front stop.rest (typed.rest ++ r) head.second.1
    typed.first.1 (a.behind ∙ split_front code.rest r typed) in
    sequence_closed blocks room (instruction_apart blocks room) inside.first.0 stop.place feature inside.front (inside.rest ++ r) stop.rest
    inside.first.1 inside.first.2
    (Closes-append inside.rest r (inr ([], inside.second))) (t.behind ∙ split_front typed.rest r inside) stop.stops

-- the type of a block that is left out is none that is read
type_not_read : (at : ℕ) (feature : Feature) (bytes g s : List ℕ) → Behind Opener StopsValueType at feature bytes →
    (Opener ⊳ Any ResultType) g → bytes ≡ g ++ s → ⊥
type_not_read at feature bytes g s stop head e =
    let b = opener_byte stop.front stop.before in
    let c = opener_byte head.front head.first in
    let a = byte_form.alike b.0 c.0 stop.front head.front stop.rest (head.rest ++ s) b.1 c.1 (sym stop.split ∙ e ∙ split_front g s head) in
    byte_apart float_type (result_byte head.second.0.result) stop.place feature head.rest s (result_byte-no_float head.second.0.result)
    head.second.1
    (subst (StopsValueType stop.place feature) a.behind stop.stops)

-- a stop at an opcode or a type isn't one inside a block
outer_apart : (blocks room at at' : ℕ) (feature feature' : Feature) (bytes : List ℕ) → StopsInstruction zero room at feature bytes →
    StopsInstruction (suc blocks) room at' feature' bytes → ⊥
outer_apart blocks zero at at' feature feature' bytes stop inside = inside
outer_apart blocks (suc room) at at' feature feature' bytes (inl stop) inside =
    let head = stop_head blocks room at' feature' bytes inside in
    opener_not_left_out head.2.front (head.2.rest ++ head.1) bytes at feature head.2.first (head.3 ∙ split_front head.0 head.1 head.2) stop
outer_apart blocks (suc room) at at' feature feature' bytes (inr stop) inside =
    let head = stop_head blocks room at' feature' bytes inside in type_not_read at feature bytes head.0 head.1 stop head.2 head.3

-- stops at an opcode or a type are one
outer_one : (room : ℕ) → One zero zero room
outer_one room at at' feature feature' bytes (inl p) (inl q) = byte_one left_out at at' feature feature' bytes p q
outer_one zero at at' feature feature' bytes (inl p) (inr q) =
    absurd (opener_not_left_out q.front q.rest bytes at feature q.opens q.split p)
outer_one (suc room) at at' feature feature' bytes (inl p) (inr q) =
    absurd (opener_not_left_out q.front q.rest bytes at feature q.before q.split p)
outer_one zero at at' feature feature' bytes (inr p) (inl q) =
    absurd (opener_not_left_out p.front p.rest bytes at' feature' p.opens p.split q)
outer_one (suc room) at at' feature feature' bytes (inr p) (inl q) =
    absurd (opener_not_left_out p.front p.rest bytes at' feature' p.before p.split q)
outer_one zero at at' feature feature' bytes (inr p) (inr q) = record { place = p.here ∙ sym q.here; named = p.named ∙ sym q.named }
outer_one (suc room) at at' feature feature' bytes (inr p) (inr q) =
    behind_one {S = StopsValueType} opener_fronts tt tt at at' feature feature' bytes
    (λ place place' rest. byte_one float_type place place' feature feature' rest) p q

-- stops inside blocks are one if those deeper inside are
inner_one : (blocks blocks' room : ℕ) → One blocks blocks' room → One (suc blocks) (suc blocks') (suc room)
inner_one blocks blocks' room one at at' feature feature' bytes p q = by_cases
    (opens_cases {S = StopsSequence blocks room} room at feature bytes (behind_both {S = StopsInstruction blocks room} at feature bytes p))
    (opens_cases {S = StopsSequence blocks' room} room at' feature' bytes
    (behind_both {S = StopsInstruction blocks' room} at' feature' bytes q))
  where
    by_cases : Behind (Opener ⊳ Any ResultType) (StopsSequence blocks room) at feature bytes ⊎ Behind (OpensElse room)
        (StopsSequence blocks room) at feature bytes →
        Behind (Opener ⊳ Any ResultType) (StopsSequence blocks' room) at' feature' bytes ⊎ Behind (OpensElse room)
        (StopsSequence blocks' room) at' feature' bytes → Same at at' feature feature'
    by_cases (inl p) (inl q) = behinds_one {S = StopsSequence blocks room} {T = StopsSequence blocks' room} head_fronts (tt, tt) at at'
        feature feature' bytes (sequence_one blocks blocks' room one) p q
    by_cases (inl p) (inr q) = absurd (branch_open blocks room at feature bytes p q.front q.rest q.before q.split)
    by_cases (inr p) (inl q) = absurd (branch_open blocks' room at' feature' bytes q p.front p.rest p.before p.split)
    by_cases (inr p) (inr q) = behinds_one {S = StopsSequence blocks room} {T = StopsSequence blocks' room} (else_fronts room)
        (tt, (tt, tt)) at at' feature feature' bytes (sequence_one blocks blocks' room one) p q

-- instructions are stopped in at one place
pub instruction_one : (blocks blocks' room : ℕ) → One blocks blocks' room
instruction_one zero zero room at at' feature feature' bytes p q = outer_one room at at' feature feature' bytes p q
instruction_one zero (suc blocks') room at at' feature feature' bytes p q =
    absurd (outer_apart blocks' room at at' feature feature' bytes p q)
instruction_one (suc blocks) zero room at at' feature feature' bytes p q =
    absurd (outer_apart blocks room at' at feature' feature bytes q p)
instruction_one (suc blocks) (suc blocks') zero at at' feature feature' bytes p q = absurd p
instruction_one (suc blocks) (suc blocks') (suc room) at at' feature feature' bytes p q =
    inner_one blocks blocks' room (instruction_one blocks blocks' room) at at' feature feature' bytes p q

-- an expression
pub expression_stops : OneStop Expression IsShallowExpression StopsExpression
expression_stops = record {
  one = λ at at' feature feature' bytes p q. sequence_one p.0 q.0 most_blocks (instruction_one p.0 q.0 most_blocks) at at' feature feature'
      bytes p.1 q.1;
  apart = λ body at feature front rest p shallow stop. sequence_closed stop.0 most_blocks (instruction_apart stop.0 most_blocks) body at
      feature p.front
      (p.rest ++ rest) (front ++ rest) p.first shallow
      (Closes-append p.rest rest (Closes-end p.rest p.second)) (split_front front rest p) stop.1;
}
