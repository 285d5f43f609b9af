-- What is left out of a module that is spelled is met.
use Rattle.std.proofs.Common.{◌≡◌, ◌<◌, ◌≤◌, ◌∙◌, ◌⊎◌, inl, inr, ⊎_elim, ℕ, zero, suc, ◌+◌, List, [], ◌∷◌, ◌++◌, length, refl, sym, ap, subst, arith, append_assoc, zero-add, true, false, Option, Some, None}
use Rattle.std.specs.Prelude.{nat_le}
use Rattle.std.specs.List.{AllByRecursion}
use Rattle.std.proofs.lemmas.List.{append-nil}
use Rattle.hph_wasm.specs.Leb128.{Unsigned}
use Rattle.hph_wasm.specs.Grammar.{Grammar, Byte, ◌⊳◌, Each, Vector, Named, ResultType, Between, MemoryType, TableType, GlobalOf}
use Rattle.hph_wasm.specs.Codes.{else_code}
use Rattle.hph_wasm.specs.InstructionGrammar.{Instruction, Instructions, Otherwise, Expression}
use Rattle.hph_wasm.specs.BlockDepth.{IsShallow, AllShallow, OtherShallow, AreShallow}
use Rattle.hph_wasm.specs.OneWay.{StopsSequence}
use Rattle.hph_wasm.specs.ModuleGrammar.{ImportedThing, Imported, GlobalWithValue, Elements, Data, LocalRun, Locals, Code, RawSection, BeginsWithName, without_custom, Parts, parts_of, FromTypes, SpellsModule}
use Rattle.hph_wasm.specs.Unsupported.{Stop, Any, Read, Either, Behind, InSized, AtNumber, Among, LimitsByte, Opener, Opens, StopsInstruction, StopsExpression, StopsGlobal, StopsOffset, StopsMemoryType, StopsTableType, StopsImportedThing, StopsImported, total_of, StopsRun, StopsRuns, StopsLocals, StopsCode, most_pages, most_entries, most_locals, most_blocks, IsShallowExpression, HasShallowValue, HasShallowEntry, HasShallowPlace, IsSmallCode, IsSmallMemory, IsSmallTable, IsSmallThing, IsSmallImport, AreFew, AreSupported, IsSupported, Kind, Types, Imports, Functions, Tables, Memories, Globals, Exports, ElementSegments, Codes, DataSegments, number_of, StopsContent, StopsSection, IsUnsupported}
use Rattle.hph_wasm.specs.Reading.{Things, Content, with_things, HaveCode, Follows, ReadSoFar}
use Rattle.hph_wasm.specs.declared.feature.Feature.{Feature}
use Rattle.hph_wasm.specs.declared.feature.Feature.TheVariants.{InitialMemorySize, InitialTableSize, LocalCount, BlockDepth}
use Rattle.hph_wasm.specs.declared.types.ValType.{ValType}
use Rattle.hph_wasm.specs.declared.types.BlockType.{BlockType}
use Rattle.hph_wasm.specs.declared.instr.Instr.{Instr, Block', Loop', If', Row_of-Instr, end_of-Instr, more_of-Instr, Held-Instr-If-2, None', Some'}
use Rattle.hph_wasm.specs.declared.module.ImportDesc.TheVariants as import_desc
use Rattle.hph_wasm.specs.declared.module.Module.{Module}
use Rattle.hph_wasm.proofs.OneModule.{parts_same}
use Rattle.hph_wasm.proofs.InstructionRows.{list_of, Each-list_of}
use Rattle.hph_wasm.proofs.ShallowRows.{AreShallow-list_of}
use Rattle.hph_wasm.proofs.OneStop.{take_counted, split_front}
use Rattle.hph_wasm.proofs.StopSection.{length-locals_of}
use Rattle.hph_wasm.proofs.SectionsInTurn.{reading_goes_on, reading_stops, may_follow, same_counts}

-- a stop, wherever it is
abbrev Met : Stop → List ℕ → Type 0
Met S bytes = (at : ℕ) × (feature : Feature) × S at feature bytes

-- a thing is read, or something that is left out is met in it
abbrev FitsOrMet : {X : Type 0} → (X → Grammar) → (X → Type 0) → Stop → Type 0
FitsOrMet {X} P Fits S = (x : X) (front rest : List ℕ) → P x front → Fits x ⊎ Met S (front ++ rest)

-- what is met behind the first of two things
met_behind : {P Q : Grammar} {B : Grammar} {S : Stop} (front rest : List ℕ) (p : (P ⊳ Q) front) → B p.front → Met S (p.rest ++ rest) →
    Met (Behind B S) (front ++ rest)
met_behind front rest p before met = (
  length p.front + met.0,
  met.1,
  record {
    front = p.front;
    rest = p.rest ++ rest;
    split = split_front front rest p;
    before =
        before;
    place = met.0;
    counted = refl;
    stops = met.2;
  },
)

-- a number isn't too great, or it is met
number_met : (total most : ℕ) (name : Feature) → FitsOrMet (Unsigned 32) (λ n. total + n ≤ most) (AtNumber (λ n. most < total + n) name)
number_met total most name n front rest p =
    elim (nat_le (total + n) most) as (λ b. nat_le (total + n) most ≡ b →
    (total + n ≤ most) ⊎ Met (AtNumber (λ n. most < total + n) name) (front ++ rest)) [
      | true ↦ λ few. inl (grind arith)
      | false ↦ λ many. inr (
        0,
        name,
        record {
          here = refl;
          named = refl;
          front = front;
          rest = rest;
          split = refl;
          number =
              (n, p, above many);
        },
      )
    ] refl
  where
    above : nat_le (total + n) most ≡ false → most < total + n
    above many = grind arith

-- the same of a number alone
size_met : (most : ℕ) (name : Feature) → FitsOrMet (Unsigned 32) (λ n. n ≤ most) (AtNumber (λ n. most < n) name)
size_met most name n front rest p = elim (nat_le n most) as (λ b. nat_le n most ≡ b →
    (n ≤ most) ⊎ Met (AtNumber (λ n. most < n) name) (front ++ rest)) [
      | true ↦ λ few. inl (grind arith)
      | false ↦ λ many. inr (
        0,
        name,
        record {
          here = refl;
          named = refl;
          front = front;
          rest = rest;
          split = refl;
          number =
              (n, p, above many);
        },
      )
    ] refl
  where
    above : nat_le n most ≡ false → most < n
    above many = grind arith

-- limits
limits_met : (most : ℕ) (name : Feature) (min : ℕ) (max : Option ℕ) (front rest : List ℕ) → Between min max front →
    (min ≤ most) ⊎ Met (Behind LimitsByte (AtNumber (λ n. most < n) name)) (front ++ rest)
limits_met most name min None front rest p = ⊎_elim (λ (few : min ≤ most). inl few)
    (λ (met : Met (AtNumber (λ n. most < n) name) (p.rest ++ rest)). inr
    (met_behind {B = LimitsByte} {S = AtNumber (λ n. most < n) name} front rest p (inl p.first) met))
    (size_met most name min p.rest rest p.second)
limits_met most name min (Some max) front rest p = ⊎_elim (λ (few : min ≤ most). inl few)
    (λ (met : Met (AtNumber (λ n. most < n) name) (p.second.front ++ (p.second.rest ++ rest))).
    inr (met_behind {B = LimitsByte} {S = AtNumber (λ n. most < n) name} front rest p (inr p.first)
    (subst (Met (AtNumber (λ n. most < n) name)) (sym (split_front p.rest rest p.second)) met)))
    (size_met most name min p.second.front (p.second.rest ++ rest) p.second.first)

-- a memory type, and a table type
memory_type_met : FitsOrMet MemoryType IsSmallMemory StopsMemoryType
memory_type_met limits front rest p = limits_met most_pages InitialMemorySize limits.min limits.max front rest p

table_type_met : FitsOrMet TableType IsSmallTable StopsTableType
table_type_met limits front rest p = ⊎_elim (λ (few : limits.min ≤ most_entries). inl few)
    (λ (met : Met (Behind LimitsByte (AtNumber (λ n. most_entries < n) InitialTableSize)) (p.rest ++ rest)).
    inr (met_behind {B = Byte 0x70} {S = Behind LimitsByte (AtNumber (λ n. most_entries < n) InitialTableSize)} front rest p p.first met))
    (limits_met most_entries InitialTableSize limits.min limits.max p.rest rest p.second)

-- what is imported
imported_thing_met : FitsOrMet ImportedThing IsSmallThing StopsImportedThing
imported_thing_met (import_desc.Func ty) front rest p = inl tt
imported_thing_met (import_desc.Table limits) front rest p = ⊎_elim (λ (few : IsSmallTable limits). inl few)
    (λ (met : Met StopsTableType (p.rest ++ rest)). let m = met_behind {B = Byte 0x01} {S = StopsTableType} front rest p p.first met in
    inr (m.0, m.1, inl m.2))
    (table_type_met limits p.rest rest p.second)
imported_thing_met (import_desc.Memory limits) front rest p = ⊎_elim (λ (few : IsSmallMemory limits). inl few)
    (λ (met : Met StopsMemoryType (p.rest ++ rest)). let m = met_behind {B = Byte 0x02} {S = StopsMemoryType} front rest p p.first met in
    inr (m.0, m.1, inr (inl m.2)))
    (memory_type_met limits p.rest rest p.second)
imported_thing_met (import_desc.Global ty) front rest p = inl tt

-- an import
import_met : FitsOrMet Imported IsSmallImport StopsImported
import_met i front rest p = ⊎_elim (λ (few : IsSmallThing i.desc). inl few)
    (λ (met : Met StopsImportedThing (p.second.rest ++ rest)).
    inr (met_behind {S = Behind (Any Named) StopsImportedThing} front rest p (i.module, p.first, tt)
    (met_behind {S = StopsImportedThing} p.rest rest p.second (i.name, p.second.first, tt) met)))
    (imported_thing_met i.desc p.second.rest rest p.second.second)

-- a stop in a sequence, inside some number of blocks
abbrev MetInside : ℕ → List ℕ → Type 0
MetInside room bytes = (blocks : ℕ) × (at : ℕ) × (feature : Feature) × StopsSequence blocks room at feature bytes

abbrev MetAt : ℕ → List ℕ → Type 0
MetAt room bytes = (blocks : ℕ) × (at : ℕ) × (feature : Feature) × StopsInstruction blocks room at feature bytes

-- what is met in the first instruction of a sequence is met in the sequence
met_first : (room : ℕ) (bytes : List ℕ) → MetAt room bytes → MetInside room bytes
met_first room bytes (blocks, at, feature, stop) = (
  blocks,
  0 + at,
  feature,
  record {
    front = [];
    rest = bytes;
    split = refl;
    before = ([], refl, tt);
    place = at;
    counted = refl;
    stops = stop;
  },
)

-- and what is met behind it
met_next : (room : ℕ) (i : Instr) (front rest bytes : List ℕ) → Instruction i front → IsShallow i room → bytes ≡ front ++ rest →
    MetInside room rest → MetInside room bytes
met_next room i front rest bytes p shallow split (blocks, at, feature, stop) = (
  blocks,
  length (front ++ stop.front) + stop.place,
  feature,
  record {
    front = front ++ stop.front;
    rest = stop.rest;
    split = split ∙ ap (λ l. front ++ l) stop.split ∙ sym (append_assoc front stop.front stop.rest);
    before = (
      i ∷ stop.before.0,
      record { front = front; rest = stop.front; split = refl; first = p; second = stop.before.1 },
      (shallow, stop.before.2),
    );
    place = stop.place;
    counted = refl;
    stops = stop.stops;
  },
)

-- what is met behind an opening is met in its instruction
met_opened : (room : ℕ) (open_front rest bytes : List ℕ) → Opens room open_front → bytes ≡ open_front ++ rest → MetInside room rest →
    MetAt (suc room) bytes
met_opened room open_front rest bytes opens split (blocks, at, feature, stop) = (
  suc blocks,
  length (open_front ++ stop.front) + stop.place,
  feature,
  record {
    front = open_front ++ stop.front;
    rest = stop.rest;
    split = split ∙ ap (λ l. open_front ++ l) stop.split ∙ sym (append_assoc open_front stop.front stop.rest);
    before = record { front = open_front; rest = stop.front; split = refl; first = opens; second = stop.before };
    place = stop.place;
    counted = refl;
    stops = stop.stops;
  },
)

-- where no more may be open, a block is met at its opcode
met_opener : (front rest bytes : List ℕ) → Opener front → bytes ≡ front ++ rest → MetAt zero bytes
met_opener front rest bytes opens split =
    (zero, 0, BlockDepth, inr (record { here = refl; named = refl; front = front; rest = rest; split = split; opens = opens }))

-- the opcode and the type of a block, and what stands behind them
block_opens : {B : Grammar} (code room : ℕ) (ty : BlockType) (front rest : List ℕ) → Opener (code ∷ []) →
    (p : (Byte code ⊳ ResultType ty ⊳ B) front) →
    Opens room (p.front ++ p.second.front) × (front ++ rest ≡ (p.front ++ p.second.front) ++ (p.second.rest ++ rest))
block_opens code room ty front rest opens p = (
  inl (record {
    front = p.front;
    rest = p.second.front;
    split = refl;
    first = subst Opener (sym p.first) opens;
    second = (ty, p.second.first, tt);
  }),
  split_front front rest p ∙ ap (λ l. p.front ++ l) (split_front p.rest rest p.second) ∙
      sym (append_assoc p.front p.second.front (p.second.rest ++ rest)),
)

-- the opener of a block
opener_met : {B : Grammar} (code : ℕ) (front rest : List ℕ) → Opener (code ∷ []) → (Byte code ⊳ B) front → MetAt zero (front ++ rest)
opener_met code front rest opens p =
    met_opener p.front (p.rest ++ rest) (front ++ rest) (subst Opener (sym p.first) opens) (split_front front rest p)

-- a stop behind the `else` at the head of bytes
record MetElse (room : ℕ) (front rest : List ℕ) : Type 0 where
  pub code : List ℕ
  pub behind : List ℕ
  pub split : front ++ rest ≡ code ++ behind
  pub is : Byte else_code code
  pub met : MetInside room behind

-- it is met in its `if`, whose first branch is shallow
met_in_else : {n : _} (room : ℕ) (ty : BlockType) (row : Row_of-Instr n) (front rest code result inside other : List ℕ) → Byte 0x04 code →
    ResultType ty result → Instructions row inside → AllShallow row room → front ++ rest ≡ code ++ (result ++ (inside ++ (other ++ rest))) →
    MetElse room other rest → MetAt (suc room) (front ++ rest)
met_in_else room ty row front rest code result inside other is typed spelled shallow split second =
    met_opened room (code ++ (result ++ (inside ++ second.code))) second.behind (front ++ rest)
    (inr (record {
      front = code;
      rest = result ++ (inside ++ second.code);
      split = refl;
      first = is;
      second = record {
        front = result;
        rest = inside ++ second.code;
        split = refl;
        first = (ty, typed, tt);
        second = record {
          front = inside;
          rest = second.code;
          split = refl;
          first = (list_of row, Each-list_of row inside spelled, AreShallow-list_of row room shallow);
          second = second.is;
        };
      };
    }))
    (split ∙ ap (λ l. code ++ (result ++ (inside ++ l))) second.split ∙
    sym (append_assoc code (result ++ (inside ++ second.code)) second.behind ∙ ap (λ l. code ++ l)
    (append_assoc result (inside ++ second.code) second.behind ∙ ap (λ l. result ++ l) (append_assoc inside second.code second.behind))))
    second.met

mutual
  -- an instruction is shallow, or something is met in it
  instruction_met : (i : Instr) (room : ℕ) (front rest : List ℕ) → Instruction i front → IsShallow i room ⊎ MetAt room (front ++ rest)
  instruction_met (Block' ty shape body) zero front rest p = inr (opener_met 0x02 front rest (inl refl) p)
  instruction_met (Block' ty shape body) (suc room) front rest p =
      let opened = block_opens 0x02 room ty front rest (inl refl) p in
      let inside = p.second.second in
      ⊎_elim (λ (shallow : AllShallow body room). inl shallow)
      (λ (met : MetInside room (inside.front ++ (inside.rest ++ rest))).
      inr (met_opened room (p.front ++ p.second.front) (p.second.rest ++ rest) (front ++ rest) opened.0 opened.1
      (subst (MetInside room) (sym (split_front p.second.rest rest inside)) met)))
      (row_met body room inside.front (inside.rest ++ rest) inside.first)
  instruction_met (Loop' ty shape body) zero front rest p = inr (opener_met 0x03 front rest (inr (inl refl)) p)
  instruction_met (Loop' ty shape body) (suc room) front rest p =
      let opened = block_opens 0x03 room ty front rest (inr (inl refl)) p in
      let inside = p.second.second in
      ⊎_elim (λ (shallow : AllShallow body room). inl shallow)
      (λ (met : MetInside room (inside.front ++ (inside.rest ++ rest))).
      inr (met_opened room (p.front ++ p.second.front) (p.second.rest ++ rest) (front ++ rest) opened.0 opened.1
      (subst (MetInside room) (sym (split_front p.second.rest rest inside)) met)))
      (row_met body room inside.front (inside.rest ++ rest) inside.first)
  instruction_met (If' ty shape body other) zero front rest p = inr (opener_met 0x04 front rest (inr (inr refl)) p)
  instruction_met (If' ty shape body other) (suc room) front rest p =
      let opened = block_opens 0x04 room ty front rest (inr (inr refl)) p in
      let inside = p.second.second in
      ⊎_elim (λ (shallow : AllShallow body room). ⊎_elim
      (λ (second : OtherShallow other room). inl (shallow, second))
      (λ (met : MetElse room inside.rest rest). inr (met_in_else room ty body front rest p.front p.second.front inside.front inside.rest
      p.first p.second.first inside.first shallow
      (split_front front rest p ∙ ap (λ l. p.front ++ l) (split_front p.rest rest p.second ∙ ap (λ l. p.second.front ++ l)
      (split_front p.second.rest rest inside))) met))
      (other_met other room inside.rest rest inside.second))
      (λ (met : MetInside room (inside.front ++ (inside.rest ++ rest))).
      inr (met_opened room (p.front ++ p.second.front) (p.second.rest ++ rest) (front ++ rest) opened.0 opened.1
      (subst (MetInside room) (sym (split_front p.second.rest rest inside)) met)))
      (row_met body room inside.front (inside.rest ++ rest) inside.first)
  instruction_met i room front rest p = inl tt

  -- and so are those of a row
  row_met : {n : _} (row : Row_of-Instr n) (room : ℕ) (front rest : List ℕ) → Instructions row front →
      AllShallow row room ⊎ MetInside room (front ++ rest)
  row_met end_of-Instr room front rest p = inl tt
  row_met (more_of-Instr i row) room front rest p = ⊎_elim
      (λ (first : IsShallow i room). ⊎_elim
      (λ (more : AllShallow row room). inl (first, more))
      (λ (met : MetInside room (p.rest ++ rest)). inr (met_next room i p.front (p.rest ++ rest) (front ++ rest) p.first first
      (split_front front rest p) met))
      (row_met row room p.rest rest p.second))
      (λ (met : MetAt room (p.front ++ (p.rest ++ rest))). inr (met_first room (front ++ rest)
      (subst (MetAt room) (sym (split_front front rest p)) met)))
      (instruction_met i room p.front (p.rest ++ rest) p.first)

  -- and those of a second branch
  other_met : (other : Held-Instr-If-2) (room : ℕ) (front rest : List ℕ) → Otherwise other front →
      OtherShallow other room ⊎ MetElse room front rest
  other_met None' room front rest p = inl tt
  other_met (Some' shape row) room front rest p = let inside = p.second in ⊎_elim
      (λ (shallow : AllShallow row room). inl shallow)
      (λ (met : MetInside room (inside.front ++ (inside.rest ++ rest))). inr (record {
        code = p.front;
        behind = inside.front ++ (inside.rest ++ rest);
        split = split_front front rest p ∙ ap (λ l. p.front ++ l) (split_front p.rest rest inside);
        is = p.first;
        met = met;
      }))
      (row_met row room inside.front (inside.rest ++ rest) inside.first)

-- an expression
body_met : (body : List Instr) (room : ℕ) (front rest : List ℕ) → Each Instruction body front →
    AreShallow room body ⊎ MetInside room (front ++ rest)
body_met [] room front rest p = inl tt
body_met (i ∷ body) room front rest p = ⊎_elim
    (λ (first : IsShallow i room). ⊎_elim
    (λ (more : AreShallow room body). inl (first, more))
    (λ (met : MetInside room (p.rest ++ rest)). inr (met_next room i p.front (p.rest ++ rest) (front ++ rest) p.first first
    (split_front front rest p) met))
    (body_met body room p.rest rest p.second))
    (λ (met : MetAt room (p.front ++ (p.rest ++ rest))). inr (met_first room (front ++ rest)
    (subst (MetAt room) (sym (split_front front rest p)) met)))
    (instruction_met i room p.front (p.rest ++ rest) p.first)

expression_met : FitsOrMet Expression IsShallowExpression StopsExpression
expression_met body front rest p = ⊎_elim (λ (shallow : IsShallowExpression body). inl shallow)
    (λ (met : MetInside most_blocks (p.front ++ (p.rest ++ rest))).
    inr (met.1, met.2, (met.0, subst (StopsSequence met.0 most_blocks met.1 met.2) (sym (split_front front rest p)) met.3)))
    (body_met body most_blocks p.front (p.rest ++ rest) p.first)

-- runs of locals, behind so many
record RunsMet (before count : ℕ) (bytes : List ℕ) : Type 0 where
  pub done : List (ℕ × ValType)
  pub fewer : length done < count
  pub few : before + total_of done ≤ most_locals
  pub met : Met (Behind (Each LocalRun done) (StopsRun (before + total_of done))) bytes

runs_met : (before : ℕ) (xs : List (ℕ × ValType)) (f rest : List ℕ) → before ≤ most_locals → Each LocalRun xs f →
    (before + total_of xs ≤ most_locals) ⊎ RunsMet before (length xs) (f ++ rest)
runs_met before [] f rest few p = inl (omega arith)
runs_met before (x ∷ xs) f rest few p = ⊎_elim
    (λ (fits : before + x.0 ≤ most_locals). ⊎_elim
    (λ (all : (before + x.0) + total_of xs ≤ most_locals). inl (omega arith))
    (λ (more : RunsMet (before + x.0) (length xs) (p.rest ++ rest)).
    let total : (before + x.0) + total_of more.done ≡ before + (x.0 + total_of more.done) = omega arith in
    let b = more.met.2 in
    inr (record {
      done = x ∷ more.done;
      fewer = omega (arith, more.fewer);
      few = omega (arith, more.few);
      met = (
        length (p.front ++ b.front) + b.place,
        more.met.1,
        record {
          front = p.front ++ b.front;
          rest = b.rest;
          split = split_front f rest p ∙ ap (λ l. p.front ++ l) b.split ∙ sym (append_assoc p.front b.front b.rest);
          before = record { front = p.front; rest = b.front; split = refl; first = p.first; second = b.before };
          place = b.place;
          counted = refl;
          stops = subst (λ t. StopsRun t b.place more.met.1 b.rest) total b.stops;
        },
      );
    }))
    (runs_met (before + x.0) xs p.rest rest fits p.second))
    (λ (many : Met (AtNumber (λ n. most_locals < before + n) LocalCount) (p.first.front ++ (p.first.rest ++ (p.rest ++ rest)))).
    let zero_more : before ≡ before + 0 = omega arith in
    let here : f ++ rest ≡ p.first.front ++ (p.first.rest ++ (p.rest ++ rest)) = split_front f rest p ∙
    split_front p.front (p.rest ++ rest) p.first in
    inr (record {
      done = [];
      fewer = omega arith;
      few = omega arith;
      met = (
        many.0,
        many.1,
        record {
          front = [];
          rest = f ++ rest;
          split = refl;
          before = refl;
          place = many.0;
          counted = omega arith;
          stops = subst (λ t. StopsRun t many.0 many.1 (f ++ rest)) zero_more
              (inl (subst (AtNumber (λ n. most_locals < before + n) LocalCount many.0 many.1) (sym here) many.2));
        },
      );
    }))
    (number_met before most_locals LocalCount x.0 p.first.front (p.first.rest ++ (p.rest ++ rest)) p.first.first)

-- locals
locals_met : FitsOrMet Locals AreFew StopsLocals
locals_met locals front rest p =
    let all = p.spelled in
    let count : length locals ≡ total_of p.runs = sym (ap length p.made) ∙ length-locals_of p.runs in
    ⊎_elim (λ (few : 0 + total_of p.runs ≤ most_locals). inl (omega (arith, few, count)))
    (λ (more : RunsMet 0 (length p.runs) (all.rest ++ rest)).
    let b = more.met.2 in
    let runs : StopsRuns (length p.runs) more.met.0 more.met.1 (all.rest ++ rest) = record {
      done = more.done;
      fewer = more.fewer;
      few = omega (arith, more.few);
      stops = record {
        front = b.front;
        rest = b.rest;
        split = b.split;
        before = b.before;
        place = b.place;
        counted = b.counted;
        stops = subst (λ t. StopsRun t b.place more.met.1 b.rest) (zero-add (total_of more.done)) b.stops;
      };
    } in
    inr (
      length all.front + more.met.0,
      more.met.1,
      (
        length p.runs,
        record {
          front = all.front;
          rest = all.rest ++ rest;
          split = split_front front rest all;
          before = all.first;
          place =
              more.met.0;
          counted = refl;
          stops = runs;
        },
      ),
    ))
    (runs_met 0 p.runs all.rest rest (omega arith) all.second)

-- an index, and an expression behind it
offset_met : {P : Grammar} (n : ℕ) (body : List Instr) (front rest : List ℕ) → (Unsigned 32 n ⊳ Expression body ⊳ P) front →
    IsShallowExpression body ⊎ Met StopsOffset (front ++ rest)
offset_met n body front rest p = ⊎_elim (λ (shallow : IsShallowExpression body). inl shallow)
    (λ (met : Met StopsExpression (p.second.front ++ (p.second.rest ++ rest))).
    inr (met_behind {B = Any (Unsigned 32)} {S = StopsExpression} front rest p (n, p.first, tt)
    (subst (Met StopsExpression) (sym (split_front p.rest rest p.second)) met)))
    (expression_met body p.second.front (p.second.rest ++ rest) p.second.first)

-- a global, and segments
global_met : FitsOrMet GlobalWithValue HasShallowValue StopsGlobal
global_met g front rest p = ⊎_elim (λ (shallow : IsShallowExpression g.init). inl shallow)
    (λ (met : Met StopsExpression (p.rest ++ rest)).
    let m = met_behind {B = Any GlobalOf} {S = StopsExpression} front rest p (g.ty, p.first, tt) met in
    inr (m.0, m.1, inr m.2))
    (expression_met g.init p.rest rest p.second)

element_met : FitsOrMet Elements HasShallowEntry StopsOffset
element_met e front rest p = offset_met e.table e.offset front rest p

data_met : FitsOrMet Data HasShallowPlace StopsOffset
data_met s front rest p = offset_met s.memory s.offset front rest p

-- what is met in bytes is met behind their size
sized_met : (S : Stop) (size body rest bytes : List ℕ) → bytes ≡ size ++ (body ++ rest) → Unsigned 32 (length body) size → Met S body →
    Met (InSized S) bytes
sized_met S size body rest bytes split counted met = (
  length size + met.0,
  met.1,
  (
    length body,
    record {
      front = size;
      rest = body ++ rest;
      split = split;
      before = counted;
      place = met.0;
      counted = refl;
      stops = subst (S met.0 met.1) (sym (take_counted body rest)) met.2;
    },
  ),
)

-- code
inside_met : (code : List ValType × List Instr) (body : List ℕ) → (Locals code.0 ⊳ Expression code.1) body →
    IsSmallCode code ⊎ Met (Either StopsLocals (Behind (Read Locals AreFew) StopsExpression)) body
inside_met code body p = ⊎_elim
    (λ (few : AreFew code.0). ⊎_elim (λ (shallow : IsShallowExpression code.1). inl (few, shallow))
    (λ (met : Met StopsExpression (p.rest ++ [])).
    let m = met_behind {B = Read Locals AreFew} {S = StopsExpression} body [] p (code.0, p.first, few) met in
    inr (m.0, m.1, inr (subst (Behind (Read Locals AreFew) StopsExpression m.0 m.1) (append-nil body) m.2)))
    (expression_met code.1 p.rest [] p.second))
    (λ (met : Met StopsLocals (p.front ++ p.rest)).
    inr (met.0, met.1, inl (subst (StopsLocals met.0 met.1) (sym p.split) met.2)))
    (locals_met code.0 p.front p.rest p.first)

code_met : FitsOrMet Code IsSmallCode StopsCode
code_met code front rest p = ⊎_elim (λ (small : IsSmallCode code). inl small)
    (λ (met : Met (Either StopsLocals (Behind (Read Locals AreFew) StopsExpression)) p.body).
    inr (sized_met (Either StopsLocals (Behind (Read Locals AreFew) StopsExpression)) p.size p.body rest (front ++ rest)
    (ap (λ l. l ++ rest) p.split ∙ append_assoc p.size p.body rest) p.counted met))
    (inside_met code p.body p.inside)

-- things in a row: each is read, or one of them isn't
each_met : {X : Type 0} {P : X → Grammar} {Fits : X → Type 0} {S : Stop} → FitsOrMet P Fits S → (xs : List X) (f rest : List ℕ) →
    Each P xs f →
    AllByRecursion Fits xs ⊎ ((at : ℕ) × (feature : Feature) × Among (length xs) P Fits S at feature (f ++ rest))
each_met one [] f rest p = inl tt
each_met {X} {P} {Fits} {S} one (x ∷ xs) f rest p = ⊎_elim
    (λ (fits : Fits x). ⊎_elim
    (λ (all : AllByRecursion Fits xs). inl (fits, all))
    (λ (more : (at : ℕ) × (feature : Feature) × Among (length xs) P Fits S at feature (p.rest ++ rest)).
    let a = more.2 in
    let b = a.stops in
    inr (
      length (p.front ++ b.front) + b.place,
      more.1,
      record {
        done = x ∷ a.done;
        fewer = omega (arith, a.fewer);
        fit = (fits, a.fit);
        stops = record {
          front = p.front ++ b.front;
          rest = b.rest;
          split = split_front f rest p ∙ ap (λ l. p.front ++ l) b.split ∙ sym (append_assoc p.front b.front b.rest);
          before = record { front = p.front; rest = b.front; split = refl; first = p.first; second = b.before };
          place = b.place;
          counted = refl;
          stops = b.stops;
        };
      },
    ))
    (each_met one xs p.rest rest p.second))
    (λ (met : Met S (p.front ++ (p.rest ++ rest))).
    inr (
      0 + met.0,
      met.1,
      record {
        done = [];
        fewer = omega arith;
        fit = tt;
        stops =
            record {
              front = [];
              rest = f ++ rest;
              split = refl;
              before = refl;
              place = met.0;
              counted = refl;
              stops = subst (S met.0 met.1) (sym (split_front f rest p)) met.2;
            };
      },
    ))
    (one x p.front (p.rest ++ rest) p.first)

-- a vector
vector_met : {X : Type 0} {P : X → Grammar} {Fits : X → Type 0} {S : Stop} → FitsOrMet P Fits S →
    (xs : List X) (n : ℕ) (front rest : List ℕ) → length xs ≡ n → Vector P xs front →
    AllByRecursion Fits xs ⊎ Met (Behind (Unsigned 32 n) (Among n P Fits S)) (front ++ rest)
vector_met {X} {P} {Fits} {S} one xs n front rest count p = ⊎_elim (λ (all : AllByRecursion Fits xs). inl all)
    (λ (met : (at : ℕ) × (feature : Feature) × Among (length xs) P Fits S at feature (p.rest ++ rest)).
    inr (subst (λ n. Met (Behind (Unsigned 32 n) (Among n P Fits S)) (front ++ rest)) count
    (met_behind {B = Unsigned 32 (length xs)} {S = Among (length xs) P Fits S} front rest p p.first met)))
    (each_met one xs p.rest rest p.second)

-- the content of a section, behind parts that are read
content_met : (kind : Kind) (xs : Things kind) (p : Parts) (front rest : List ℕ) → Content kind xs front → HaveCode kind xs p →
    AreSupported p →
    AreSupported (with_things kind xs p) ⊎ Met (StopsContent p kind) (front ++ rest)
content_met Types xs p front rest content code few =
    inl (record { imports = few.imports; tables = few.tables; memories = few.memories; globals = few.globals; elements = few.elements; codes = few.codes; segments = few.segments })
content_met Imports xs p front rest content code few = ⊎_elim
    (λ (all : AllByRecursion IsSmallImport xs). inl (record { imports = all; tables = few.tables; memories = few.memories; globals = few.globals; elements = few.elements; codes = few.codes; segments = few.segments }))
    (λ (met : Met (Behind (Unsigned 32 (length xs)) (Among (length xs) Imported IsSmallImport StopsImported)) (front ++ rest)). inr
    (met.0, met.1, (length xs, met.2)))
    (vector_met import_met xs (length xs) front rest refl content)
content_met Functions xs p front rest content code few =
    inl (record { imports = few.imports; tables = few.tables; memories = few.memories; globals = few.globals; elements = few.elements; codes = few.codes; segments = few.segments })
content_met Tables xs p front rest content code few = ⊎_elim
    (λ (all : AllByRecursion IsSmallTable xs). inl (record { imports = few.imports; tables = all; memories = few.memories; globals = few.globals; elements = few.elements; codes = few.codes; segments = few.segments }))
    (λ (met : Met (Behind (Unsigned 32 (length xs)) (Among (length xs) TableType IsSmallTable StopsTableType)) (front ++ rest)). inr
    (met.0, met.1, (length xs, met.2)))
    (vector_met table_type_met xs (length xs) front rest refl content)
content_met Memories xs p front rest content code few = ⊎_elim
    (λ (all : AllByRecursion IsSmallMemory xs). inl (record { imports = few.imports; tables = few.tables; memories = all; globals = few.globals; elements = few.elements; codes = few.codes; segments = few.segments }))
    (λ (met : Met (Behind (Unsigned 32 (length xs)) (Among (length xs) MemoryType IsSmallMemory StopsMemoryType)) (front ++ rest)). inr
    (met.0, met.1, (length xs, met.2)))
    (vector_met memory_type_met xs (length xs) front rest refl content)
content_met Globals xs p front rest content code few = ⊎_elim
    (λ (all : AllByRecursion HasShallowValue xs). inl (record { imports = few.imports; tables = few.tables; memories = few.memories; globals = all; elements = few.elements; codes = few.codes; segments = few.segments }))
    (λ (met : Met (Behind (Unsigned 32 (length xs)) (Among (length xs) GlobalWithValue HasShallowValue StopsGlobal)) (front ++ rest)). inr
    (met.0, met.1, (length xs, met.2)))
    (vector_met global_met xs (length xs) front rest refl content)
content_met Exports xs p front rest content code few =
    inl (record { imports = few.imports; tables = few.tables; memories = few.memories; globals = few.globals; elements = few.elements; codes = few.codes; segments = few.segments })
content_met ElementSegments xs p front rest content code few = ⊎_elim
    (λ (all : AllByRecursion HasShallowEntry xs). inl (record { imports = few.imports; tables = few.tables; memories = few.memories; globals = few.globals; elements = all; codes = few.codes; segments = few.segments }))
    (λ (met : Met (Behind (Unsigned 32 (length xs)) (Among (length xs) Elements HasShallowEntry StopsOffset)) (front ++ rest)). inr
    (met.0, met.1, (length xs, met.2)))
    (vector_met element_met xs (length xs) front rest refl content)
content_met Codes xs p front rest content code few = ⊎_elim
    (λ (all : AllByRecursion IsSmallCode xs). inl (record { imports = few.imports; tables = few.tables; memories = few.memories; globals = few.globals; elements = few.elements; codes = all; segments = few.segments }))
    (λ (met : Met (StopsContent p Codes) (front ++ rest)). inr met)
    (vector_met code_met xs (length p.functions) front rest code content)
content_met DataSegments xs p front rest content code few = ⊎_elim
    (λ (all : AllByRecursion HasShallowPlace xs). inl (record { imports = few.imports; tables = few.tables; memories = few.memories; globals = few.globals; elements = few.elements; codes = few.codes; segments = all }))
    (λ (met : Met (Behind (Unsigned 32 (length xs)) (Among (length xs) Data HasShallowPlace StopsOffset)) (front ++ rest)). inr
    (met.0, met.1, (code, (length xs, met.2))))
    (vector_met data_met xs (length xs) front rest refl content)

-- the parts with a section that follows are read, or something is met in it
section_met : (p q : Parts) (before : List (ℕ × List ℕ)) (y : ℕ × List ℕ) (front rest : List ℕ) → RawSection y front →
    Follows p before y q → AreSupported p →
    AreSupported q ⊎ Met (StopsSection p before) (front ++ rest)
section_met p q before y front rest raw (inl (is, named, same)) few = inl (subst AreSupported (sym same) few)
section_met p q before y front rest raw (inr (kind, is, below, xs, content, code, same)) few = ⊎_elim
    (λ (all : AreSupported (with_things kind xs p)). inl (subst AreSupported (sym same) all))
    (λ (met : Met (StopsContent p kind) (y.1 ++ [])).
    let sized = raw.second in
    let split : raw.rest ++ rest ≡ sized.front ++ (y.1 ++ rest) =
    split_front raw.rest rest sized ∙ ap (λ l. sized.front ++ (l ++ rest)) sized.second in
    let here = sized_met (StopsContent p kind) sized.front y.1 rest (raw.rest ++ rest) split sized.first
    (subst (Met (StopsContent p kind)) (append-nil y.1) met) in
    let m = met_behind {B = Byte (number_of kind)} {S = InSized (StopsContent p kind)} front rest raw
    (raw.first ∙ ap (λ n. n ∷ []) is) here in
    inr (m.0, m.1, inl (kind, below, m.2)))
    (content_met kind xs p y.1 [] content code few)

-- no parts
abbrev nothing_yet : Parts
nothing_yet = record {
  types = [];
  imports = [];
  functions = [];
  tables = [];
  memories = [];
  globals = [];
  exports = [];
  elements =
      [];
  codes = [];
  segments = [];
}

-- a module that is spelled is read, or something is met
abbrev pub ReadOrMet : List ℕ → Module → Type 0
ReadOrMet bytes m = IsSupported m ⊎ ((offset : ℕ) × (feature : Feature) × IsUnsupported bytes offset feature)

module _ (bytes : List ℕ) (m : Module) (x : SpellsModule bytes m) where
  -- what is known of a section among those of the module
  named_at : (xs : List (ℕ × List ℕ)) (y : ℕ × List ℕ) (ys : List (ℕ × List ℕ)) →
      AllByRecursion (λ section. section.0 ≡ 0 → BeginsWithName section.1) (xs ++ y ∷ ys) → y.0 ≡ 0 → BeginsWithName y.1
  named_at [] y ys all = all.0
  named_at (x ∷ xs) y ys all = named_at xs y ys all.1

  turns : (ys xs : List (ℕ × List ℕ)) (p : Parts) (rest : List ℕ) → x.second.sections ≡ xs ++ ys → Each RawSection ys rest →
      ReadSoFar bytes p xs rest → ReadOrMet bytes m
  turns [] xs p rest all p_ends read =
      let same = parts_same p (parts_of m) (without_custom xs) read.inside
      (subst (λ l. FromTypes (parts_of m) (without_custom l)) (all ∙ append-nil xs) x.second.inside) in
      inl (subst AreSupported same read.supported)
  turns (y ∷ ys) xs p rest all stand read =
      let follows = may_follow p (parts_of m) xs y ys read.inside
      (subst (λ l. FromTypes (parts_of m) (without_custom l)) all x.second.inside)
      (named_at xs y ys (subst (AllByRecursion (λ (section : ℕ × List ℕ). section.0 ≡ 0 → BeginsWithName section.1)) all
      x.second.named)) (λ _. same_counts m) in
      let here : rest ≡ stand.front ++ stand.rest = stand.split in
      let read_here : ReadSoFar bytes p xs (stand.front ++ stand.rest) = subst (ReadSoFar bytes p xs) here read in
      ⊎_elim
      (λ (few : AreSupported follows.0). turns ys (xs ++ y ∷ []) follows.0 stand.rest (all ∙ sym (append_assoc xs (y ∷ []) ys))
      stand.second
      (reading_goes_on bytes p follows.0 xs y stand.front stand.rest read_here stand.first follows.1 few))
      (λ (met : Met (StopsSection p (without_custom xs)) (stand.front ++ stand.rest)).
      inr (length read_here.front + met.0, met.1, reading_stops bytes p xs (stand.front ++ stand.rest) met.0 met.1 read_here met.2))
      (section_met p follows.0 (without_custom xs) y stand.front stand.rest stand.first follows.1 read.supported)

  pub read_or_met : ReadOrMet bytes m
  read_or_met = turns x.second.sections [] nothing_yet x.rest refl x.second.stand (record {
    front = x.front;
    split = x.split;
    stand = record { front = x.front; rest = []; split = sym (append-nil x.front); first = x.first; second = refl };
    named = tt;
    inside = (refl, (refl, (refl, (refl, (refl, (refl, (refl, (refl, (refl, (refl, refl))))))))));
    supported = record { imports = tt; tables = tt; memories = tt; globals = tt; elements = tt; codes = tt; segments = tt };
  })
