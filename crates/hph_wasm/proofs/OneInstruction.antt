-- Types, instructions and expressions can be read in one way.
use Rattle.std.proofs.Common.{◌≡◌, ◌∙◌, inl, inr, ℕ, List, [], ◌∷◌, ◌++◌, refl, sym, ap, subst, arith, Option, Some, None}
use Rattle.std.proofs.lemmas.List.{append-nil}
use Rattle.hph_wasm.specs.Grammar.{Grammar, Byte, ◌⊳◌, type_byte, ValueType, result_byte, ResultType}
use Rattle.hph_wasm.specs.Codes.{opcode, form, else_code, end_code}
use Rattle.hph_wasm.specs.InstructionGrammar.{Opcode, End, MemoryArgument, Instruction, Instructions, Otherwise, Expression}
pub use Rattle.hph_wasm.specs.OneWay.{Closes}
use Rattle.hph_wasm.specs.declared.types.ValType.{ValType}
use Rattle.hph_wasm.specs.declared.types.ValType.TheVariants.{I32, I64}
use Rattle.hph_wasm.specs.declared.types.BlockType.{BlockType}
use Rattle.hph_wasm.specs.declared.instr.Instr.{Instr, Unreachable, Nop, Block', Loop', If', Br, BrIf, BrTable, Return, Call, CallIndirect, Drop, Select, LocalGet, LocalSet, LocalTee, GlobalGet, GlobalSet, Load, LoadNarrow, Store, StoreNarrow, I32Const, I64Const, Eqz, Compare, Unary, Binary, Wrap, Extend, Row_of-Instr, end_of-Instr, more_of-Instr, Held-Instr-If-2, None', Some'}
use Rattle.hph_wasm.proofs.OneForm.{Alike, OneForm, map-Alike, pairs_alike, pair_form, exactly_form, byte_form, along_form, BeginsWith, BeginsWith-first, first_bytes_same, split-append}
use Rattle.hph_wasm.proofs.Leb128Laws.{unsigned_form, signed_form}
use Rattle.hph_wasm.proofs.CountedForms.{vector_form}
use Rattle.hph_wasm.proofs.Forms.{same_form, opcode-not_end, opcode-not_else}
use Rattle.hph_wasm.proofs.InstructionRows.{row_of, list_of, list_of_other, list_of-row_of, Instructions-row_of, blocks_same, loops_same, ifs_same}

-- a value type is determined by its byte
type_byte-determines : (x y : ValType) → type_byte x ≡ type_byte y → x ≡ y
type_byte-determines I32 I32 e = refl
type_byte-determines I32 I64 e = absurd (omega arith)
type_byte-determines I64 I32 e = absurd (omega arith)
type_byte-determines I64 I64 e = refl

-- a value type
pub value_type_form : OneForm ValueType
value_type_form = along_form type_byte type_byte-determines byte_form

-- a result is determined by its byte
result_byte-determines : (x y : Option ValType) → result_byte x ≡ result_byte y → x ≡ y
result_byte-determines None None e = refl
result_byte-determines None (Some I32) e = absurd (omega arith)
result_byte-determines None (Some I64) e = absurd (omega arith)
result_byte-determines (Some I32) None e = absurd (omega arith)
result_byte-determines (Some I64) None e = absurd (omega arith)
result_byte-determines (Some x) (Some y) e = ap (λ t. Some t) (type_byte-determines x y e)

-- what a block gives
pub result_type_form : OneForm ResultType
result_type_form = along_form (λ t. result_byte t.result) (λ x y e i. record { result = result_byte-determines x.result y.result e i })
    byte_form

-- a memory argument
pub memory_argument_form : OneForm MemoryArgument
memory_argument_form = along_form (λ at. (at.align, at.offset)) (λ x y e i. record { align = (e i).0; offset = (e i).1 })
    (pair_form (unsigned_form 32) (unsigned_form 32))

-- an instruction begins with its opcode
pub begins_with_opcode : (i : Instr) (f : List ℕ) → Instruction i f → BeginsWith (opcode i) f
begins_with_opcode Unreachable f p = ([], p)
begins_with_opcode Nop f p = ([], p)
begins_with_opcode (Block' ty shape row) f p = BeginsWith-first (opcode (Block' ty shape row)) f p ([], p.first)
begins_with_opcode (Loop' ty shape row) f p = BeginsWith-first (opcode (Loop' ty shape row)) f p ([], p.first)
begins_with_opcode (If' ty shape row other) f p = BeginsWith-first (opcode (If' ty shape row other)) f p ([], p.first)
begins_with_opcode (Br a) f p = BeginsWith-first (opcode (Br a)) f p ([], p.first)
begins_with_opcode (BrIf a) f p = BeginsWith-first (opcode (BrIf a)) f p ([], p.first)
begins_with_opcode (BrTable labels a) f p = BeginsWith-first (opcode (BrTable labels a)) f p ([], p.first)
begins_with_opcode Return f p = ([], p)
begins_with_opcode (Call a) f p = BeginsWith-first (opcode (Call a)) f p ([], p.first)
begins_with_opcode (CallIndirect a) f p = BeginsWith-first (opcode (CallIndirect a)) f p ([], p.first)
begins_with_opcode Drop f p = ([], p)
begins_with_opcode Select f p = ([], p)
begins_with_opcode (LocalGet a) f p = BeginsWith-first (opcode (LocalGet a)) f p ([], p.first)
begins_with_opcode (LocalSet a) f p = BeginsWith-first (opcode (LocalSet a)) f p ([], p.first)
begins_with_opcode (LocalTee a) f p = BeginsWith-first (opcode (LocalTee a)) f p ([], p.first)
begins_with_opcode (GlobalGet a) f p = BeginsWith-first (opcode (GlobalGet a)) f p ([], p.first)
begins_with_opcode (GlobalSet a) f p = BeginsWith-first (opcode (GlobalSet a)) f p ([], p.first)
begins_with_opcode (Load t a) f p = BeginsWith-first (opcode (Load t a)) f p ([], p.first)
begins_with_opcode (LoadNarrow t a) f p = BeginsWith-first (opcode (LoadNarrow t a)) f p ([], p.first)
begins_with_opcode (Store t a) f p = BeginsWith-first (opcode (Store t a)) f p ([], p.first)
begins_with_opcode (StoreNarrow t a) f p = BeginsWith-first (opcode (StoreNarrow t a)) f p ([], p.first)
begins_with_opcode (I32Const a) f p = BeginsWith-first (opcode (I32Const a)) f p ([], p.first)
begins_with_opcode (I64Const a) f p = BeginsWith-first (opcode (I64Const a)) f p ([], p.first)
begins_with_opcode (Eqz t) f p = ([], p)
begins_with_opcode (Compare t o) f p = ([], p)
begins_with_opcode (Unary t o) f p = ([], p)
begins_with_opcode (Binary t o) f p = ([], p)
begins_with_opcode Wrap f p = ([], p)
begins_with_opcode (Extend t) f p = ([], p)

-- the same bytes begin with instructions of one opcode
pub opcodes_same : (i j : Instr) (f g r s : List ℕ) → Instruction i f → Instruction j g → f ++ r ≡ g ++ s → opcode i ≡ opcode j
opcodes_same i j f g r s p q e = first_bytes_same (opcode i) (opcode j) f g r s (begins_with_opcode i f p) (begins_with_opcode j g q) e

-- what an instruction shares with one of its form
abbrev pub Related : Instr → Instr → Type 0
Related Unreachable Unreachable = Unit {0}
Related Nop Nop = Unit {0}
Related (Block' ty shape row) (Block' ty' shape' row') = Unit {0}
Related (Loop' ty shape row) (Loop' ty' shape' row') = Unit {0}
Related (If' ty shape row other) (If' ty' shape' row' other') = Unit {0}
Related (Br a) (Br a') = Unit {0}
Related (BrIf a) (BrIf a') = Unit {0}
Related (BrTable labels a) (BrTable labels' a') = Unit {0}
Related Return Return = Unit {0}
Related (Call a) (Call a') = Unit {0}
Related (CallIndirect a) (CallIndirect a') = Unit {0}
Related Drop Drop = Unit {0}
Related Select Select = Unit {0}
Related (LocalGet a) (LocalGet a') = Unit {0}
Related (LocalSet a) (LocalSet a') = Unit {0}
Related (LocalTee a) (LocalTee a') = Unit {0}
Related (GlobalGet a) (GlobalGet a') = Unit {0}
Related (GlobalSet a) (GlobalSet a') = Unit {0}
Related (Load t a) (Load t' a') = t ≡ t'
Related (LoadNarrow t a) (LoadNarrow t' a') = t ≡ t'
Related (Store t a) (Store t' a') = t ≡ t'
Related (StoreNarrow t a) (StoreNarrow t' a') = t ≡ t'
Related (I32Const a) (I32Const a') = Unit {0}
Related (I64Const a) (I64Const a') = Unit {0}
Related (Eqz t) (Eqz t') = t ≡ t'
Related (Compare t o) (Compare t' o') = (t ≡ t') × (o ≡ o')
Related (Unary t o) (Unary t' o') = (t ≡ t') × (o ≡ o')
Related (Binary t o) (Binary t' o') = (t ≡ t') × (o ≡ o')
Related Wrap Wrap = Unit {0}
Related (Extend t) (Extend t') = t ≡ t'
Related i j = ⊥

-- each is related to its form
pub related : (i : Instr) → Related i (form i)
related Unreachable = tt
related Nop = tt
related (Block' ty shape row) = tt
related (Loop' ty shape row) = tt
related (If' ty shape row other) = tt
related (Br a) = tt
related (BrIf a) = tt
related (BrTable labels a) = tt
related Return = tt
related (Call a) = tt
related (CallIndirect a) = tt
related Drop = tt
related Select = tt
related (LocalGet a) = tt
related (LocalSet a) = tt
related (LocalTee a) = tt
related (GlobalGet a) = tt
related (GlobalSet a) = tt
related (Load t a) = refl
related (LoadNarrow t a) = refl
related (Store t a) = refl
related (StoreNarrow t a) = refl
related (I32Const a) = tt
related (I64Const a) = tt
related (Eqz t) = refl
related (Compare t o) = (refl, refl)
related (Unary t o) = (refl, refl)
related (Binary t o) = (refl, refl)
related Wrap = tt
related (Extend t) = refl

-- so are two that the same bytes begin with
related_forms : (i j : Instr) (f g r s : List ℕ) → Instruction i f → Instruction j g → f ++ r ≡ g ++ s → Related i (form j)
related_forms i j f g r s p q e = subst (Related i) (same_form i j (opcodes_same i j f g r s p q e)) (related i)

-- instructions that are one, of nothing but an opcode
plain_alike : (i j : Instr) (f g r s : List ℕ) → i ≡ j → Opcode i f → Opcode j g → f ++ r ≡ g ++ s → Alike i j f g r s
plain_alike i j f g r s same p q e = let a = byte_form.alike (opcode i) (opcode j) f g r s p q e in
    record { thing = same; spelling = a.spelling; behind = a.behind }

-- things behind a byte are alike if they are by themselves
pub code_alike : {X : Type 0} {x y : X} {P Q : Grammar} (b c : ℕ) (f g r s : List ℕ) (p : (Byte b ⊳ P) f) (q : (Byte c ⊳ Q) g) → f ++ r ≡
    g ++ s →
    (p.rest ++ r ≡ q.rest ++ s → Alike x y p.rest q.rest r s) → Alike x y f g r s
code_alike b c f g r s p q e things = map-Alike (λ pair. pair.1) (pairs_alike f g r s p q e
    (byte_form.alike b c p.front q.front (p.rest ++ r) (q.rest ++ s) p.first q.first)
    (λ _. things))

-- immediates of one grammar behind an opcode
operand_alike : {X : Type 0} {P : X → Grammar} (o : OneForm P) (x y : X) (b c : ℕ) (f g r s : List ℕ) → (Byte b ⊳ P x) f →
    (Byte c ⊳ P y) g → f ++ r ≡ g ++ s → Alike x y f g r s
operand_alike o x y b c f g r s p q e = code_alike b c f g r s p q e (o.alike x y p.rest q.rest r s p.second q.second)

-- they do so whatever stands behind
pub Closes-append : (f r : List ℕ) → Closes f → Closes (f ++ r)
Closes-append f r (inl begins) = inl (begins.0 ++ r, ap (λ l. l ++ r) begins.1)
Closes-append f r (inr begins) = inr (begins.0 ++ r, ap (λ l. l ++ r) begins.1)

-- an end is one
pub Closes-end : (f : List ℕ) → End f → Closes f
Closes-end f p = inl ([], p)

-- what stands behind a first branch begins with one
pub Closes-otherwise : (other : Held-Instr-If-2) (f : List ℕ) → Otherwise other f → Closes f
Closes-otherwise None' f p = Closes-end f p
Closes-otherwise (Some' shape row) f p = inr (BeginsWith-first else_code f p ([], p.first))

-- no instruction stands where something closes
pub not_closed : (j : Instr) (g s r : List ℕ) → Instruction j g → Closes r → r ≡ g ++ s → ⊥
not_closed j g s r q (inl end) e = opcode-not_end j
    (sym (first_bytes_same end_code (opcode j) r g [] s end (begins_with_opcode j g q) (append-nil r ∙ e)))
not_closed j g s r q (inr other) e = opcode-not_else j
    (sym (first_bytes_same else_code (opcode j) r g [] s other (begins_with_opcode j g q) (append-nil r ∙ e)))

-- where one sequence ends, the other doesn't go on
goes_on : {n : _} (j : Instr) (row : Row_of-Instr n) (f g r s : List ℕ) → f ≡ [] → Closes r → (Instruction j ⊳ Instructions row) g → f ++
    r ≡ g ++ s → ⊥
goes_on j row f g r s none closes q e =
    let behind : r ≡ q.front ++ (q.rest ++ s) = ap (λ l. l ++ r) (sym none) ∙ e ∙ split-append g s q in
    not_closed j q.front (q.rest ++ s) r q.first closes behind

-- sequences with an end behind them are alike if they are wherever something closes behind them
ended_alike : {X : Type 0} {x y : X} {P Q : Grammar} (f g r s : List ℕ) (p : (P ⊳ End) f) (q : (Q ⊳ End) g) → f ++ r ≡ g ++ s →
    ((r s : List ℕ) → Closes r → Closes s → p.front ++ r ≡ q.front ++ s → Alike x y p.front q.front r s) → Alike x y f g r s
ended_alike f g r s p q e sequences = map-Alike (λ pair. pair.0) (pairs_alike f g r s p q e
    (sequences (p.rest ++ r) (q.rest ++ s) (Closes-append p.rest r (Closes-end p.rest p.second))
    (Closes-append q.rest s (Closes-end q.rest q.second)))
    (λ _. (exactly_form (end_code ∷ [])).alike tt tt p.rest q.rest r s p.second q.second))

-- blocks are alike if the sequences inside them are
block_alike : {m n : _} (b c : ℕ) (ty ty' : BlockType) (row : Row_of-Instr m) (row' : Row_of-Instr n) (f g r s : List ℕ)
    (p : (Byte b ⊳ ResultType ty ⊳ Instructions row ⊳ End) f)
    (q : (Byte c ⊳ ResultType ty' ⊳ Instructions row' ⊳ End) g) → f ++ r ≡ g ++ s →
    (let x = p.second.second in let y = q.second.second in
    (r s : List ℕ) → Closes r → Closes s → x.front ++ r ≡ y.front ++ s → Alike (list_of row) (list_of row') x.front y.front r s) →
    Alike {X = BlockType × List Instr} (ty, list_of row) (ty', list_of row') f g r s
block_alike b c ty ty' row row' f g r s p q e sequences =
    code_alike b c f g r s p q e (λ e. pairs_alike p.rest q.rest r s p.second q.second e
    (result_type_form.alike ty ty' p.second.front q.second.front (p.second.rest ++ r) (q.second.rest ++ s) p.second.first q.second.first)
    (λ _ e. ended_alike p.second.rest q.second.rest r s p.second.second q.second.second e sequences))

-- `if`s are alike if both their branches are
if_alike : {m n : _} (b c : ℕ) (ty ty' : BlockType) (row : Row_of-Instr m) (row' : Row_of-Instr n) (other other' : Held-Instr-If-2)
    (f g r s : List ℕ)
    (p : (Byte b ⊳ ResultType ty ⊳ Instructions row ⊳ Otherwise other) f)
    (q : (Byte c ⊳ ResultType ty' ⊳ Instructions row' ⊳ Otherwise other') g) → f ++ r ≡ g ++ s →
    (let x = p.second.second in let y = q.second.second in
    (r s : List ℕ) → Closes r → Closes s → x.front ++ r ≡ y.front ++ s → Alike (list_of row) (list_of row') x.front y.front r s) →
    (let x = p.second.second in let y = q.second.second in
    x.rest ++ r ≡ y.rest ++ s → Alike (list_of_other other) (list_of_other other') x.rest y.rest r s) →
    Alike {X = BlockType × List Instr × Option (List Instr)} (ty, list_of row, list_of_other other)
    (ty', list_of row', list_of_other other') f g r s
if_alike b c ty ty' row row' other other' f g r s p q e sequences others = code_alike b c f g r s p q e (λ e.
    let x = p.second.second in
    let y = q.second.second in
    map-Alike (λ (parts : BlockType × (List Instr × Option (List Instr))). (parts.0, parts.1.0, parts.1.1))
    (pairs_alike p.rest q.rest r s p.second q.second e
    (result_type_form.alike ty ty' p.second.front q.second.front (p.second.rest ++ r) (q.second.rest ++ s) p.second.first q.second.first)
    (λ _ e. pairs_alike p.second.rest q.second.rest r s x y e
    (sequences (x.rest ++ r) (y.rest ++ s) (Closes-append x.rest r (Closes-otherwise other x.rest x.second))
    (Closes-append y.rest s (Closes-otherwise other' y.rest y.second)))
    (λ _. others))))

mutual
  -- instructions of one form can be read in one way
  related_alike : (i j : Instr) (f g r s : List ℕ) → Instruction i f → Instruction j g → f ++ r ≡ g ++ s → Related i (form j) →
      Alike i j f g r s
  related_alike Unreachable Unreachable f g r s p q e same = plain_alike Unreachable Unreachable f g r s refl p q e
  related_alike Nop Nop f g r s p q e same = plain_alike Nop Nop f g r s refl p q e
  related_alike (Block' ty shape row) (Block' ty' shape' row') f g r s p q e same =
      let a = block_alike (opcode (Block' ty shape row)) (opcode (Block' ty' shape' row')) ty ty' row row' f g r s p q e
      (sequence_alike row row' _ _ p.second.second.first q.second.second.first) in
      record {
        thing = blocks_same ty ty' shape shape' row row' (λ k. (a.thing k).0) (λ k. (a.thing k).1);
        spelling = a.spelling;
        behind =
            a.behind;
      }
  related_alike (Loop' ty shape row) (Loop' ty' shape' row') f g r s p q e same =
      let a = block_alike (opcode (Loop' ty shape row)) (opcode (Loop' ty' shape' row')) ty ty' row row' f g r s p q e
      (sequence_alike row row' _ _ p.second.second.first q.second.second.first) in
      record {
        thing = loops_same ty ty' shape shape' row row' (λ k. (a.thing k).0) (λ k. (a.thing k).1);
        spelling = a.spelling;
        behind =
            a.behind;
      }
  related_alike (If' ty shape row other) (If' ty' shape' row' other') f g r s p q e same =
      let a = if_alike (opcode (If' ty shape row other)) (opcode (If' ty' shape' row' other')) ty ty' row row' other other' f g r s p q e
      (sequence_alike row row' _ _ p.second.second.first q.second.second.first)
      (otherwise_alike other other' _ _ r s p.second.second.second q.second.second.second) in
      record {
        thing = ifs_same ty ty' shape shape' row row' other other' (λ k. (a.thing k).0) (λ k. (a.thing k).1) (λ k. (a.thing k).2);
        spelling = a.spelling;
        behind = a.behind;
      }
  related_alike (Br a) (Br a') f g r s p q e same =
      map-Alike (λ index. Br index) (operand_alike (unsigned_form 32) a a' (opcode (Br a)) (opcode (Br a')) f g r s p q e)
  related_alike (BrIf a) (BrIf a') f g r s p q e same =
      map-Alike (λ index. BrIf index) (operand_alike (unsigned_form 32) a a' (opcode (BrIf a)) (opcode (BrIf a')) f g r s p q e)
  related_alike (BrTable labels a) (BrTable labels' a') f g r s p q e same =
      map-Alike (λ pair. BrTable pair.0 pair.1)
      (operand_alike (pair_form (vector_form (unsigned_form 32)) (unsigned_form 32)) (labels, a) (labels', a')
      (opcode (BrTable labels a)) (opcode (BrTable labels' a')) f g r s p q e)
  related_alike Return Return f g r s p q e same = plain_alike Return Return f g r s refl p q e
  related_alike (Call a) (Call a') f g r s p q e same =
      map-Alike (λ index. Call index) (operand_alike (unsigned_form 32) a a' (opcode (Call a)) (opcode (Call a')) f g r s p q e)
  related_alike (CallIndirect a) (CallIndirect a') f g r s p q e same =
      map-Alike (λ pair. CallIndirect pair.0) (operand_alike (pair_form (unsigned_form 32) (exactly_form (0x00 ∷ []))) (a, tt) (a', tt)
      (opcode (CallIndirect a)) (opcode (CallIndirect a')) f g r s p q e)
  related_alike Drop Drop f g r s p q e same = plain_alike Drop Drop f g r s refl p q e
  related_alike Select Select f g r s p q e same = plain_alike Select Select f g r s refl p q e
  related_alike (LocalGet a) (LocalGet a') f g r s p q e same =
      map-Alike (λ index. LocalGet index) (operand_alike (unsigned_form 32) a a' (opcode (LocalGet a)) (opcode (LocalGet a')) f g r s p q e)
  related_alike (LocalSet a) (LocalSet a') f g r s p q e same =
      map-Alike (λ index. LocalSet index) (operand_alike (unsigned_form 32) a a' (opcode (LocalSet a)) (opcode (LocalSet a')) f g r s p q e)
  related_alike (LocalTee a) (LocalTee a') f g r s p q e same =
      map-Alike (λ index. LocalTee index) (operand_alike (unsigned_form 32) a a' (opcode (LocalTee a)) (opcode (LocalTee a')) f g r s p q e)
  related_alike (GlobalGet a) (GlobalGet a') f g r s p q e same =
      map-Alike (λ index. GlobalGet index) (operand_alike (unsigned_form 32) a a' (opcode (GlobalGet a)) (opcode (GlobalGet a')) f g r s p
      q e)
  related_alike (GlobalSet a) (GlobalSet a') f g r s p q e same =
      map-Alike (λ index. GlobalSet index) (operand_alike (unsigned_form 32) a a' (opcode (GlobalSet a)) (opcode (GlobalSet a')) f g r s p
      q e)
  related_alike (Load t a) (Load t' a') f g r s p q e same =
      let o = operand_alike memory_argument_form a a' (opcode (Load t a)) (opcode (Load t' a')) f g r s p q e in
      record { thing = λ k. Load (same k) (o.thing k); spelling = o.spelling; behind = o.behind }
  related_alike (LoadNarrow t a) (LoadNarrow t' a') f g r s p q e same =
      let o = operand_alike memory_argument_form a a' (opcode (LoadNarrow t a)) (opcode (LoadNarrow t' a')) f g r s p q e in
      record { thing = λ k. LoadNarrow (same k) (o.thing k); spelling = o.spelling; behind = o.behind }
  related_alike (Store t a) (Store t' a') f g r s p q e same =
      let o = operand_alike memory_argument_form a a' (opcode (Store t a)) (opcode (Store t' a')) f g r s p q e in
      record { thing = λ k. Store (same k) (o.thing k); spelling = o.spelling; behind = o.behind }
  related_alike (StoreNarrow t a) (StoreNarrow t' a') f g r s p q e same =
      let o = operand_alike memory_argument_form a a' (opcode (StoreNarrow t a)) (opcode (StoreNarrow t' a')) f g r s p q e in
      record { thing = λ k. StoreNarrow (same k) (o.thing k); spelling = o.spelling; behind = o.behind }
  related_alike (I32Const a) (I32Const a') f g r s p q e same =
      map-Alike (λ value. I32Const value) (operand_alike (signed_form 32) a a' (opcode (I32Const a)) (opcode (I32Const a')) f g r s p q e)
  related_alike (I64Const a) (I64Const a') f g r s p q e same =
      map-Alike (λ value. I64Const value) (operand_alike (signed_form 64) a a' (opcode (I64Const a)) (opcode (I64Const a')) f g r s p q e)
  related_alike (Eqz t) (Eqz t') f g r s p q e same = plain_alike (Eqz t) (Eqz t') f g r s (λ k. Eqz (same k)) p q e
  related_alike (Compare t o) (Compare t' o') f g r s p q e same =
      plain_alike (Compare t o) (Compare t' o') f g r s (λ k. Compare (same.0 k) (same.1 k)) p q e
  related_alike (Unary t o) (Unary t' o') f g r s p q e same =
      plain_alike (Unary t o) (Unary t' o') f g r s (λ k. Unary (same.0 k) (same.1 k)) p q e
  related_alike (Binary t o) (Binary t' o') f g r s p q e same =
      plain_alike (Binary t o) (Binary t' o') f g r s (λ k. Binary (same.0 k) (same.1 k)) p q e
  related_alike Wrap Wrap f g r s p q e same = plain_alike Wrap Wrap f g r s refl p q e
  related_alike (Extend t) (Extend t') f g r s p q e same = plain_alike (Extend t) (Extend t') f g r s (λ k. Extend (same k)) p q e
  related_alike i j f g r s p q e same = absurd same

  -- and so can a sequence of them, where something closes behind it
  sequence_alike : {m n : _} (row : Row_of-Instr m) (row' : Row_of-Instr n) (f g : List ℕ) → Instructions row f → Instructions row' g →
      (r s : List ℕ) → Closes r → Closes s → f ++ r ≡ g ++ s → Alike (list_of row) (list_of row') f g r s
  sequence_alike end_of-Instr end_of-Instr f g p q r s closes closes' e =
      record { thing = refl; spelling = p ∙ sym q; behind = ap (λ l. l ++ r) (sym p) ∙ e ∙ ap (λ l. l ++ s) q }
  sequence_alike end_of-Instr (more_of-Instr j row') f g p q r s closes closes' e = absurd (goes_on j row' f g r s p closes q e)
  sequence_alike (more_of-Instr i row) end_of-Instr f g p q r s closes closes' e = absurd (goes_on i row g f s r q closes' p (sym e))
  sequence_alike (more_of-Instr i row) (more_of-Instr j row') f g p q r s closes closes' e =
      map-Alike (λ pair. pair.0 ∷ pair.1) (pairs_alike f g r s p q e
      (λ e. related_alike i j p.front q.front (p.rest ++ r) (q.rest ++ s) p.first q.first e
      (related_forms i j p.front q.front (p.rest ++ r) (q.rest ++ s) p.first q.first e))
      (λ _. sequence_alike row row' p.rest q.rest p.second q.second r s closes closes'))

  -- and what stands behind a first branch
  otherwise_alike : (other other' : Held-Instr-If-2) (f g r s : List ℕ) → Otherwise other f → Otherwise other' g → f ++ r ≡ g ++ s →
      Alike (list_of_other other) (list_of_other other') f g r s
  otherwise_alike None' None' f g r s p q e = let a = byte_form.alike end_code end_code f g r s p q e in
      record { thing = refl; spelling = a.spelling; behind = a.behind }
  otherwise_alike None' (Some' shape' row') f g r s p q e =
      let same = first_bytes_same end_code else_code f g r s ([], p) (BeginsWith-first else_code g q ([], q.first)) e in
      absurd (omega arith)
  otherwise_alike (Some' shape row) None' f g r s p q e =
      let same = first_bytes_same else_code end_code f g r s (BeginsWith-first else_code f p ([], p.first)) ([], q) e in
      absurd (omega arith)
  otherwise_alike (Some' shape row) (Some' shape' row') f g r s p q e =
      map-Alike (λ l. Some l) (code_alike else_code else_code f g r s p q e
      (λ e. ended_alike p.rest q.rest r s p.second q.second e (sequence_alike row row' _ _ p.second.first q.second.first)))

-- an instruction can be read in one way
pub instruction_alike : (i j : Instr) (f g r s : List ℕ) → Instruction i f → Instruction j g → f ++ r ≡ g ++ s → Alike i j f g r s
instruction_alike i j f g r s p q e = related_alike i j f g r s p q e (related_forms i j f g r s p q e)

-- an instruction
pub instruction_form : OneForm Instruction
instruction_form = record { alike = instruction_alike }

-- an expression: instructions and an end
pub expression_form : OneForm Expression
expression_form = record {
  alike = λ x y f g r s p q e.
      let sequences = sequence_alike (row_of x) (row_of y) p.front q.front (Instructions-row_of x p.front p.first)
      (Instructions-row_of y q.front q.first) in
      let a = ended_alike f g r s p q e sequences in
      record { thing = sym (list_of-row_of x) ∙ a.thing ∙ list_of-row_of y; spelling = a.spelling; behind = a.behind };
}
