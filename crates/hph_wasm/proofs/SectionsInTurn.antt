-- Reading goes on section by section, and where it can't the bytes are malformed.
use Rattle.std.proofs.Common.{◌≡◌, ◌<◌, ◌∙◌, ◌⊎◌, inl, inr, ⊎_elim, ℕ, ◌+◌, List, [], ◌∷◌, ◌++◌, length, refl, sym, ap, subst, arith, append_assoc, true, false}
use Rattle.std.specs.Prelude.{nat_eq, take, MatchBool, if◌then◌else◌}
use Rattle.std.specs.List.{AllByRecursion}
use Rattle.std.proofs.lemmas.List.{append-nil, length-map}
use Rattle.hph_wasm.specs.Leb128.{Unsigned}
use Rattle.hph_wasm.specs.Grammar.{Grammar, Each, Vector, FunctionType, MemoryType, TableType}
use Rattle.hph_wasm.specs.ModuleGrammar.{Imported, GlobalWithValue, Exported, Elements, Code, Data, RawSection, BeginsWithName, without_custom, Section, Parts, parts_of, type_of_func, code_of_func, NoSections, FromData, FromCode, FromElements, FromExports, FromGlobals, FromMemories, FromTables, FromFunctions, FromImports, FromTypes, header, SpellsModule}
use Rattle.hph_wasm.specs.Unsupported.{Kind, Types, Imports, Functions, Tables, Memories, Globals, Exports, ElementSegments, Codes, DataSegments, number_of, AllBelow, StopsContent, StopsSection, IsUnsupported}
use Rattle.hph_wasm.specs.Reading.{Things, Content, with_things, HaveCode, Follows, ReadSoFar, ReadingGoesOn, ReadingEnds, ReadingLacksCode, ReadingStops, ReadingFails, HeaderLacks}
use Rattle.hph_wasm.specs.declared.feature.Feature.{Feature}
use Rattle.hph_wasm.specs.declared.module.Module.{Module}
use Rattle.hph_wasm.proofs.OneForm.{OneForm, one_thing, append-cancel}
use Rattle.hph_wasm.proofs.Leb128Laws.{unsigned_form}
use Rattle.hph_wasm.proofs.CountedForms.{vector_form}
use Rattle.hph_wasm.proofs.OneSection.{function_type_form, table_type_form, memory_type_form, import_form, global_form, export_form, element_form, code_form}
use Rattle.hph_wasm.proofs.OneModule.{parts_same}
use Rattle.hph_wasm.proofs.Members as members
use Rattle.hph_wasm.proofs.Members.{Member, After, AllAbove, section_above, member_above, above_none, above_data, above_code, above_elements, above_exports, above_globals, above_memories, above_tables, above_functions, above_imports, above_types, content_of}
use Rattle.hph_wasm.proofs.StopModule.{Longer, Walk, walk, no_longer, after, member_without_custom, above_zero, number-above_zero, no_stop_at_end, no_section_at_end, behind_header}

-- ---- one more section behind others

module _ (y : ℕ × List ℕ) (n : ℕ) (is : y.0 ≡ n) where
  -- a number that isn't the section's
  other_number : (id : ℕ) → (n ≡ id → ⊥) → nat_eq y.0 id ≡ false
  other_number id differs = apart y.0 n id is differs
    where
      apart : (m n id : ℕ) → m ≡ n → (n ≡ id → ⊥) → nat_eq m id ≡ false
      apart m n id e differs = grind arith

  own_number : (id : ℕ) → n ≡ id → nat_eq y.0 id ≡ true
  own_number id e = same y.0 id (is ∙ e)
    where
      same : (m id : ℕ) → m ≡ id → nat_eq m id ≡ true
      same m id e = grind arith

  -- behind the sections from another kind on
  up : {X : Type 0} (id : ℕ) (P : X → Grammar) (xs : List X) (next next' : List (ℕ × List ℕ) → Type 0) (sections : List (ℕ × List ℕ)) →
      (n ≡ id → ⊥) →
      ((sections : List (ℕ × List ℕ)) → next sections → AllBelow n sections → next' (sections ++ y ∷ [])) →
      Section id P xs next sections → AllBelow n sections → Section id P xs next' (sections ++ y ∷ [])
  up {X} id P xs next next' [] differs more p below =
      subst (λ b. MatchBool b (Vector P xs y.1 × next' []) ((xs ≡ []) × next' (y ∷ []))) (sym (other_number id differs))
      (p.0, more [] p.1 tt)
  up {X} id P xs next next' (section ∷ sections) differs more p below = elim (nat_eq section.0 id) as (λ b.
      MatchBool b (Vector P xs section.1 × next sections) ((xs ≡ []) × next (section ∷ sections)) →
      MatchBool b (Vector P xs section.1 × next' (sections ++ y ∷ [])) ((xs ≡ []) × next' (section ∷ (sections ++ y ∷ [])))) [
        | true ↦ λ p. (p.0, more sections p.1 below.1)
        | false ↦ λ p. (p.0, more (section ∷ sections) p.1 below)
      ] p

  -- as the first of its kind
  here : {X : Type 0} (lower id : ℕ) (P : X → Grammar) (old xs : List X) (next : List (ℕ × List ℕ) → Type 0)
      (sections : List (ℕ × List ℕ)) → n ≡ id → id ≡ lower + 1 →
      AllAbove lower sections → Vector P xs y.1 → Section id P old next sections → AllBelow n sections →
      Section id P xs next (sections ++ y ∷ [])
  here lower id P old xs next [] e one above content p below =
      subst (λ b. MatchBool b (Vector P xs y.1 × next []) ((xs ≡ []) × next (y ∷ []))) (sym (own_number id e)) (content, p.1)
  here lower id P old xs next (section ∷ sections) e one above content p below = absurd (omega (arith, above.0, below.0))

-- sections from elements on have numbers above 8
above_eight : (p : Parts) (sections : List (ℕ × List ℕ)) → FromElements p sections → AllAbove 8 sections
above_eight p sections = section_above 8 9 Elements p.elements (FromCode p) sections (omega arith) (above_code p)

-- the sections with one more
extended : (kind : Kind) (xs : Things kind) (p : Parts) (y : ℕ × List ℕ) (sections : List (ℕ × List ℕ)) → y.0 ≡ number_of kind →
    Content kind xs y.1 → FromTypes p sections →
    AllBelow (number_of kind) sections → FromTypes (with_things kind xs p) (sections ++ y ∷ [])
extended Types xs p y sections is content = λ inside.
    here y 1 is 0 1 FunctionType p.types xs (FromImports p) sections refl refl (above_types p sections inside) content inside
extended Imports xs p y sections is content =
    let q = with_things Imports xs p in
    up y 2 is 1 FunctionType p.types (FromImports p) (FromImports q) sections (λ e. omega arith) (λ s inside.
    here y 2 is 1 2 Imported p.imports xs (FromFunctions p) s refl refl (above_imports p s inside) content inside)
extended Functions xs p y sections is content =
    let q = with_things Functions xs p in
    up y 3 is 1 FunctionType p.types (FromImports p) (FromImports q) sections (λ e. omega arith) (λ s.
    up y 3 is 2 Imported p.imports (FromFunctions p) (FromFunctions q) s (λ e. omega arith) (λ s inside.
    here y 3 is 2 3 (Unsigned 32) p.functions xs (FromTables p) s refl refl (above_functions p s inside) content inside))
extended Tables xs p y sections is content =
    let q = with_things Tables xs p in
    up y 4 is 1 FunctionType p.types (FromImports p) (FromImports q) sections (λ e. omega arith) (λ s.
    up y 4 is 2 Imported p.imports (FromFunctions p) (FromFunctions q) s (λ e. omega arith) (λ s.
    up y 4 is 3 (Unsigned 32) p.functions (FromTables p) (FromTables q) s (λ e. omega arith) (λ s inside.
    here y 4 is 3 4 TableType p.tables xs (FromMemories p) s refl refl (above_tables p s inside) content inside)))
extended Memories xs p y sections is content =
    let q = with_things Memories xs p in
    up y 5 is 1 FunctionType p.types (FromImports p) (FromImports q) sections (λ e. omega arith) (λ s.
    up y 5 is 2 Imported p.imports (FromFunctions p) (FromFunctions q) s (λ e. omega arith) (λ s.
    up y 5 is 3 (Unsigned 32) p.functions (FromTables p) (FromTables q) s (λ e. omega arith) (λ s.
    up y 5 is 4 TableType p.tables (FromMemories p) (FromMemories q) s (λ e. omega arith) (λ s inside.
    here y 5 is 4 5 MemoryType p.memories xs (FromGlobals p) s refl refl (above_memories p s inside) content inside))))
extended Globals xs p y sections is content =
    let q = with_things Globals xs p in
    up y 6 is 1 FunctionType p.types (FromImports p) (FromImports q) sections (λ e. omega arith) (λ s.
    up y 6 is 2 Imported p.imports (FromFunctions p) (FromFunctions q) s (λ e. omega arith) (λ s.
    up y 6 is 3 (Unsigned 32) p.functions (FromTables p) (FromTables q) s (λ e. omega arith) (λ s.
    up y 6 is 4 TableType p.tables (FromMemories p) (FromMemories q) s (λ e. omega arith) (λ s.
    up y 6 is 5 MemoryType p.memories (FromGlobals p) (FromGlobals q) s (λ e. omega arith) (λ s inside.
    here y 6 is 5 6 GlobalWithValue p.globals xs (FromExports p) s refl refl (above_globals p s inside) content inside)))))
extended Exports xs p y sections is content =
    let q = with_things Exports xs p in
    up y 7 is 1 FunctionType p.types (FromImports p) (FromImports q) sections (λ e. omega arith) (λ s.
    up y 7 is 2 Imported p.imports (FromFunctions p) (FromFunctions q) s (λ e. omega arith) (λ s.
    up y 7 is 3 (Unsigned 32) p.functions (FromTables p) (FromTables q) s (λ e. omega arith) (λ s.
    up y 7 is 4 TableType p.tables (FromMemories p) (FromMemories q) s (λ e. omega arith) (λ s.
    up y 7 is 5 MemoryType p.memories (FromGlobals p) (FromGlobals q) s (λ e. omega arith) (λ s.
    up y 7 is 6 GlobalWithValue p.globals (FromExports p) (FromExports q) s (λ e. omega arith) (λ s inside.
    here y 7 is 6 7 Exported p.exports xs (FromElements p) s refl refl (above_exports p s inside) content inside))))))
extended ElementSegments xs p y sections is content =
    let q = with_things ElementSegments xs p in
    up y 9 is 1 FunctionType p.types (FromImports p) (FromImports q) sections (λ e. omega arith) (λ s.
    up y 9 is 2 Imported p.imports (FromFunctions p) (FromFunctions q) s (λ e. omega arith) (λ s.
    up y 9 is 3 (Unsigned 32) p.functions (FromTables p) (FromTables q) s (λ e. omega arith) (λ s.
    up y 9 is 4 TableType p.tables (FromMemories p) (FromMemories q) s (λ e. omega arith) (λ s.
    up y 9 is 5 MemoryType p.memories (FromGlobals p) (FromGlobals q) s (λ e. omega arith) (λ s.
    up y 9 is 6 GlobalWithValue p.globals (FromExports p) (FromExports q) s (λ e. omega arith) (λ s.
    up y 9 is 7 Exported p.exports (FromElements p) (FromElements q) s (λ e. omega arith) (λ s inside.
    here y 9 is 8 9 Elements p.elements xs (FromCode p) s refl refl (above_eight p s inside) content inside)))))))
extended Codes xs p y sections is content =
    let q = with_things Codes xs p in
    up y 10 is 1 FunctionType p.types (FromImports p) (FromImports q) sections (λ e. omega arith) (λ s.
    up y 10 is 2 Imported p.imports (FromFunctions p) (FromFunctions q) s (λ e. omega arith) (λ s.
    up y 10 is 3 (Unsigned 32) p.functions (FromTables p) (FromTables q) s (λ e. omega arith) (λ s.
    up y 10 is 4 TableType p.tables (FromMemories p) (FromMemories q) s (λ e. omega arith) (λ s.
    up y 10 is 5 MemoryType p.memories (FromGlobals p) (FromGlobals q) s (λ e. omega arith) (λ s.
    up y 10 is 6 GlobalWithValue p.globals (FromExports p) (FromExports q) s (λ e. omega arith) (λ s.
    up y 10 is 7 Exported p.exports (FromElements p) (FromElements q) s (λ e. omega arith) (λ s.
    up y 10 is 9 Elements p.elements (FromCode p) (FromCode q) s (λ e. omega arith) (λ s inside.
    here y 10 is 9 10 Code p.codes xs (FromData p) s refl refl (above_code p s inside) content inside))))))))
extended DataSegments xs p y sections is content =
    let q = with_things DataSegments xs p in
    up y 11 is 1 FunctionType p.types (FromImports p) (FromImports q) sections (λ e. omega arith) (λ s.
    up y 11 is 2 Imported p.imports (FromFunctions p) (FromFunctions q) s (λ e. omega arith) (λ s.
    up y 11 is 3 (Unsigned 32) p.functions (FromTables p) (FromTables q) s (λ e. omega arith) (λ s.
    up y 11 is 4 TableType p.tables (FromMemories p) (FromMemories q) s (λ e. omega arith) (λ s.
    up y 11 is 5 MemoryType p.memories (FromGlobals p) (FromGlobals q) s (λ e. omega arith) (λ s.
    up y 11 is 6 GlobalWithValue p.globals (FromExports p) (FromExports q) s (λ e. omega arith) (λ s.
    up y 11 is 7 Exported p.exports (FromElements p) (FromElements q) s (λ e. omega arith) (λ s.
    up y 11 is 9 Elements p.elements (FromCode p) (FromCode q) s (λ e. omega arith) (λ s.
    up y 11 is 10 Code p.codes (FromData p) (FromData q) s (λ e. omega arith) (λ s inside.
    here y 11 is 10 11 Data p.segments xs NoSections s refl refl (above_data p s inside) content inside)))))))))

-- each of these things, and one more
each_append : {X : Type 0} (P : X → Grammar) (xs : List X) (y : X) (f g : List ℕ) → Each P xs f → P y g → Each P (xs ++ y ∷ []) (f ++ g)
each_append P [] y f g p q = record { front = g; rest = []; split = ap (λ l. l ++ g) p ∙ sym (append-nil g); first = q; second = refl }
each_append P (x ∷ xs) y f g p q = record {
  front = p.front;
  rest = p.rest ++ g;
  split = ap (λ l. l ++ g) p.split ∙ append_assoc p.front p.rest g;
  first = p.first;
  second = each_append P xs y p.rest g p.second q;
}

-- what holds of each, and of one more
all_append : {X : Type 0} (P : X → Type 0) (xs : List X) (y : X) → AllByRecursion P xs → P y → AllByRecursion P (xs ++ y ∷ [])
all_append P [] y all one = (one, tt)
all_append P (x ∷ xs) y all one = (all.0, all_append P xs y all.1 one)

-- the sections that aren't custom, of two rows
without_custom-append : (xs ys : List (ℕ × List ℕ)) → without_custom (xs ++ ys) ≡ without_custom xs ++ without_custom ys
without_custom-append [] ys = refl
without_custom-append (x ∷ xs) ys = elim (nat_eq x.0 0) as (λ custom.
    (if custom then without_custom (xs ++ ys) else x ∷ without_custom (xs ++ ys)) ≡
    (if custom then without_custom xs else x ∷ without_custom xs) ++ without_custom ys) [
      | true ↦ without_custom-append xs ys
      | false ↦ ap (λ l. x ∷ l) (without_custom-append xs ys)
    ]

-- a custom section isn't among them, and another is
custom_dropped : (y : ℕ × List ℕ) (more : List (ℕ × List ℕ)) → y.0 ≡ 0 → without_custom (y ∷ more) ≡ without_custom more
custom_dropped y more is = ap (λ custom. if custom then without_custom more else y ∷ without_custom more) (zero_is y.0 is)
  where
    zero_is : (n : ℕ) → n ≡ 0 → nat_eq n 0 ≡ true
    zero_is n e = grind arith

other_kept : (y : ℕ × List ℕ) (more : List (ℕ × List ℕ)) → nat_eq y.0 0 ≡ false → without_custom (y ∷ more) ≡ y ∷ without_custom more
other_kept y more is = ap (λ custom. if custom then without_custom more else y ∷ without_custom more) is

-- the sections inside, with one that may follow
follows_inside : (p q : Parts) (sections : List (ℕ × List ℕ)) (y : ℕ × List ℕ) → FromTypes p (without_custom sections) →
    Follows p (without_custom sections) y q →
    FromTypes q (without_custom (sections ++ y ∷ []))
follows_inside p q sections y inside (inl (is, named, same)) =
    let dropped : without_custom (sections ++ y ∷ []) ≡ without_custom sections =
    without_custom-append sections (y ∷ []) ∙ ap (λ l. without_custom sections ++ l) (custom_dropped y [] is) ∙
    append-nil (without_custom sections) in
    subst (FromTypes q) (sym dropped) (subst (λ q. FromTypes q (without_custom sections)) (sym same) inside)
follows_inside p q sections y inside (inr (kind, is, below, xs, content, code, same)) =
    let kept : without_custom (sections ++ y ∷ []) ≡ without_custom sections ++ y ∷ [] =
    without_custom-append sections (y ∷ []) ∙
    ap (λ l. without_custom sections ++ l) (other_kept y [] (above_zero y.0 (number_of kind) is (number-above_zero kind))) in
    subst (FromTypes q) (sym kept) (subst (λ q. FromTypes q (without_custom sections ++ y ∷ [])) (sym same)
    (extended kind xs p y (without_custom sections) is content inside below))

-- a section that may follow has a name, if it is custom
follows_named : (p q : Parts) (before : List (ℕ × List ℕ)) (y : ℕ × List ℕ) → Follows p before y q → y.0 ≡ 0 → BeginsWithName y.1
follows_named p q before y (inl (is, named, same)) e = named
follows_named p q before y (inr (kind, is, below, xs, content, code, same)) e = absurd (omega (arith, is, e, number-above_zero kind))

-- one more section is read
pub reading_goes_on : ReadingGoesOn
reading_goes_on bytes p q sections y front rest read raw follows few = record {
  front = read.front ++ front;
  split = read.split ∙ sym (append_assoc read.front front rest);
  stand = record {
    front = read.stand.front;
    rest = read.stand.rest ++ front;
    split = ap (λ l. l ++ front) read.stand.split ∙ append_assoc read.stand.front read.stand.rest front;
    first = read.stand.first;
    second = each_append RawSection sections y read.stand.rest front read.stand.second raw;
  };
  named = all_append (λ (section : ℕ × List ℕ). section.0 ≡ 0 → BeginsWithName section.1) sections y read.named
      (follows_named p q (without_custom sections) y follows);
  inside = follows_inside p q sections y read.inside follows;
  supported = few;
}

-- all was read
pub reading_ends : ReadingEnds
reading_ends bytes m sections read = (
  record {
    front = read.stand.front;
    rest = read.stand.rest;
    split = read.split ∙ append-nil read.front ∙ read.stand.split;
    first = read.stand.first;
    second = record { sections = sections; stand = read.stand.second; named = read.named; inside = read.inside };
  },
  read.supported,
)

-- something left out is met
pub reading_stops : ReadingStops
reading_stops bytes p sections rest at feature read stop = record {
  p = p;
  sections = sections;
  named = read.named;
  inside = read.inside;
  supported = read.supported;
  stops = record { front = read.front; rest = rest; split = read.split; before = read.stand; place = at; counted = refl; stops = stop };
}

-- ---- a section that stands among those of a module

-- a section among those from a kind on is of that kind, or among those behind
of_kind_or_behind : {X : Type 0} (id : ℕ) (P : X → Grammar) (xs : List X) (next : List (ℕ × List ℕ) → Type 0) (y : ℕ × List ℕ) →
    After (Section id P xs next) y → (y.0 ≡ id) ⊎ After next y
of_kind_or_behind {X} id P xs next y after = go after.sections after.stand after.member
  where
    go : (sections : List (ℕ × List ℕ)) → Section id P xs next sections → Member y sections → (y.0 ≡ id) ⊎ After next y
    go [] p m = absurd m
    go (section ∷ sections) p m = elim (nat_eq section.0 id) as (λ b. nat_eq section.0 id ≡ b →
        MatchBool b (Vector P xs section.1 × next sections) ((xs ≡ []) × next (section ∷ sections)) → (y.0 ≡ id) ⊎ After next y) [
          | true ↦ λ same p. first same p.1 m
          | false ↦ λ _ p. inr (record { sections = section ∷ sections; stand = p.1; member = m })
        ] refl p
      where
        first : nat_eq section.0 id ≡ true → next sections → (section ≡ y) ⊎ Member y sections → (y.0 ≡ id) ⊎ After next y
        first same more (inl is) = inl (sym (ap (λ (section : ℕ × List ℕ). section.0) is) ∙ grind arith)
        first same more (inr m) = inr (record { sections = sections; stand = more; member = m })

-- no section is among none
none_after : (y : ℕ × List ℕ) → After NoSections y → ⊥
none_after y after = subst (Member y) after.stand after.member

-- a section's kind
abbrev KindOf : ℕ × List ℕ → Type 0
KindOf y = (kind : Kind) × (y.0 ≡ number_of kind)

-- that kind, or that of what is behind
or_behind : {X : Type 0} (kind : Kind) (P : X → Grammar) (xs : List X) (next : List (ℕ × List ℕ) → Type 0) (y : ℕ × List ℕ)
    {id : ℕ} → number_of kind ≡ id → (After next y → KindOf y) → After (Section id P xs next) y → KindOf y
or_behind kind P xs next y {id = id} e behind after =
    ⊎_elim (λ (is : y.0 ≡ id). (kind, is ∙ sym e)) behind (of_kind_or_behind id P xs next y after)

kind_of : (q : Parts) (y : ℕ × List ℕ) → After (FromTypes q) y → KindOf y
kind_of q y after =
    or_behind Types FunctionType q.types (FromImports q) y refl (λ after.
    or_behind Imports Imported q.imports (FromFunctions q) y refl (λ after.
    or_behind Functions (Unsigned 32) q.functions (FromTables q) y refl (λ after.
    or_behind Tables TableType q.tables (FromMemories q) y refl (λ after.
    or_behind Memories MemoryType q.memories (FromGlobals q) y refl (λ after.
    or_behind Globals GlobalWithValue q.globals (FromExports q) y refl (λ after.
    or_behind Exports Exported q.exports (FromElements q) y refl (λ after.
    or_behind ElementSegments Elements q.elements (FromCode q) y refl (λ after.
    or_behind Codes Code q.codes (FromData q) y refl (λ after.
    or_behind DataSegments Data q.segments NoSections y refl (λ after.
    absurd (none_after y after)) after) after) after) after) after) after) after) after) after) after

-- sections from a kind on that stand before one have lower numbers
before_it : {X : Type 0} (id : ℕ) (P : X → Grammar) (xs : List X) (next : List (ℕ × List ℕ) → Type 0) (a : List (ℕ × List ℕ))
    (y : ℕ × List ℕ) (b : List (ℕ × List ℕ)) →
    ((sections : List (ℕ × List ℕ)) → next sections → AllAbove id sections) →
    ((a : List (ℕ × List ℕ)) → next (a ++ y ∷ b) → AllBelow y.0 a) →
    Section id P xs next (a ++ y ∷ b) → AllBelow y.0 a
before_it id P xs next [] y b above more p = tt
before_it {X} id P xs next (x ∷ a) y b above more p = elim (nat_eq x.0 id) as (λ c. nat_eq x.0 id ≡ c →
    MatchBool c (Vector P xs x.1 × next (a ++ y ∷ b)) ((xs ≡ []) × next (x ∷ (a ++ y ∷ b))) → AllBelow y.0 (x ∷ a)) [
      | true ↦ λ same p. (lower same p.1, more a p.1)
      | false ↦ λ _ p. more (x ∷ a) p.1
    ] refl p
  where
    member : (a : List (ℕ × List ℕ)) → Member y (a ++ y ∷ b)
    member [] = inl refl
    member (x ∷ a) = inr (member a)

    lower : nat_eq x.0 id ≡ true → next (a ++ y ∷ b) → x.0 < y.0
    lower same p = let less : id < y.0 = member_above id y (a ++ y ∷ b) (above (a ++ y ∷ b) p) (member a) in let e : x.0 ≡ id =
        grind arith in omega (arith, less, e)

-- nothing stands among no sections
none_before : (a : List (ℕ × List ℕ)) (y : ℕ × List ℕ) (b : List (ℕ × List ℕ)) → NoSections (a ++ y ∷ b) → AllBelow y.0 a
none_before [] y b p = tt
none_before (x ∷ a) y b p = let no_section : ⊥ = cc in absurd no_section

sections_before : (q : Parts) (a : List (ℕ × List ℕ)) (y : ℕ × List ℕ) (b : List (ℕ × List ℕ)) → FromTypes q (a ++ y ∷ b) → AllBelow y.0 a
sections_before q a y b =
    before_it 1 FunctionType q.types (FromImports q) a y b (above_imports q) (λ a.
    before_it 2 Imported q.imports (FromFunctions q) a y b (above_functions q) (λ a.
    before_it 3 (Unsigned 32) q.functions (FromTables q) a y b (above_tables q) (λ a.
    before_it 4 TableType q.tables (FromMemories q) a y b (above_memories q) (λ a.
    before_it 5 MemoryType q.memories (FromGlobals q) a y b (above_globals q) (λ a.
    before_it 6 GlobalWithValue q.globals (FromExports q) a y b (above_exports q) (λ a.
    before_it 7 Exported q.exports (FromElements q) a y b (above_elements q) (λ a.
    before_it 9 Elements q.elements (FromCode q) a y b (above_code q) (λ a.
    before_it 10 Code q.codes (FromData q) a y b (above_data q) (λ a.
    before_it 11 Data q.segments NoSections a y b above_none (λ a.
    none_before a y b))))))))))

-- what stands before a section is the same in two readings that go on behind it
record Agreed {X : Type 0} (xs ys : List X) (next next' : List (ℕ × List ℕ) → Type 0) (y : ℕ × List ℕ) (b : List (ℕ × List ℕ)) : Type 0
  where
    pub things : xs ≡ ys
    pub a : List (ℕ × List ℕ)
    pub stands : next a
    pub stands' : next' (a ++ y ∷ b)

agreed : {X : Type 0} {P : X → Grammar} (id : ℕ) (form : OneForm P) (xs ys : List X) (next next' : List (ℕ × List ℕ) → Type 0)
    (a : List (ℕ × List ℕ)) (y : ℕ × List ℕ) (b : List (ℕ × List ℕ)) →
    nat_eq y.0 id ≡ false → Section id P xs next a → Section id P ys next' (a ++ y ∷ b) → Agreed xs ys next next' y b
agreed {X} {P} id form xs ys next next' [] y b differs p q =
    let none = subst (λ c. MatchBool c (Vector P ys y.1 × next' b) ((ys ≡ []) × next' (y ∷ b))) differs q in
    record { things = p.0 ∙ sym none.0; a = []; stands = p.1; stands' = none.1 }
agreed {X} {P} id form xs ys next next' (x ∷ a) y b differs p q = elim (nat_eq x.0 id) as (λ c.
    MatchBool c (Vector P xs x.1 × next a) ((xs ≡ []) × next (x ∷ a)) →
    MatchBool c (Vector P ys x.1 × next' (a ++ y ∷ b)) ((ys ≡ []) × next' (x ∷ (a ++ y ∷ b))) → Agreed xs ys next next' y b) [
      | true ↦ λ p q. record { things = one_thing (vector_form form) xs ys x.1 p.0 q.0; a = a; stands = p.1; stands' = q.1 }
      | false ↦ λ p q. record { things = p.0 ∙ sym q.0; a = x ∷ a; stands = p.1; stands' = q.1 }
    ] p q

-- a number that isn't another
not_number : (m n : ℕ) → (m ≡ n → ⊥) → nat_eq m n ≡ false
not_number m n differs = grind arith

-- functions, and code, before a section of a higher number
functions_agree : (p q : Parts) (a : List (ℕ × List ℕ)) (y : ℕ × List ℕ) (b : List (ℕ × List ℕ)) → 3 < y.0 → FromTypes p a →
    FromTypes q (a ++ y ∷ b) →
    Agreed p.functions q.functions (FromTables p) (FromTables q) y b
functions_agree p q a y b more x z =
    let types = agreed 1 function_type_form p.types q.types (FromImports p) (FromImports q) a y b (not_number y.0 1 (λ e. omega arith)) x
    z in
    let imports = agreed 2 import_form p.imports q.imports (FromFunctions p) (FromFunctions q) types.a y b
    (not_number y.0 2 (λ e. omega arith)) types.stands types.stands' in
    agreed 3 (unsigned_form 32) p.functions q.functions (FromTables p) (FromTables q) imports.a y b (not_number y.0 3 (λ e. omega arith))
    imports.stands imports.stands'

codes_agree : (p q : Parts) (a : List (ℕ × List ℕ)) (y : ℕ × List ℕ) (b : List (ℕ × List ℕ)) → 10 < y.0 → FromTypes p a →
    FromTypes q (a ++ y ∷ b) → p.codes ≡ q.codes
codes_agree p q a y b more x z =
    let functions = functions_agree p q a y b (omega arith) x z in
    let tables' = agreed 4 table_type_form p.tables q.tables (FromMemories p) (FromMemories q) functions.a y b
    (not_number y.0 4 (λ e. omega arith)) functions.stands functions.stands' in
    let memories' = agreed 5 memory_type_form p.memories q.memories (FromGlobals p) (FromGlobals q) tables'.a y b
    (not_number y.0 5 (λ e. omega arith)) tables'.stands tables'.stands' in
    let globals' = agreed 6 global_form p.globals q.globals (FromExports p) (FromExports q) memories'.a y b
    (not_number y.0 6 (λ e. omega arith)) memories'.stands memories'.stands' in
    let exports' = agreed 7 export_form p.exports q.exports (FromElements p) (FromElements q) globals'.a y b
    (not_number y.0 7 (λ e. omega arith)) globals'.stands globals'.stands' in
    let elements' = agreed 9 element_form p.elements q.elements (FromCode p) (FromCode q) exports'.a y b
    (not_number y.0 9 (λ e. omega arith)) exports'.stands exports'.stands' in
    let codes' = agreed 10 code_form p.codes q.codes (FromData p) (FromData q) elements'.a y b (not_number y.0 10 (λ e. omega arith))
    elements'.stands elements'.stands' in
    codes'.things

-- what follows in a longer row may follow here
abbrev pub MayFollow : Parts → List (ℕ × List ℕ) → ℕ × List ℕ → Type 0
MayFollow p before y = (q : Parts) × Follows p before y q

-- the things of a kind
abbrev things_of : (kind : Kind) → Parts → Things kind
things_of Types q = q.types
things_of Imports q = q.imports
things_of Functions q = q.functions
things_of Tables q = q.tables
things_of Memories q = q.memories
things_of Globals q = q.globals
things_of Exports q = q.exports
things_of ElementSegments q = q.elements
things_of Codes q = q.codes
things_of DataSegments q = q.segments

content_is : (kind : Kind) (q : Parts) (bytes : List ℕ) → members.Content q kind bytes → Content kind (things_of kind q) bytes
content_is Types q bytes content = content
content_is Imports q bytes content = content
content_is Functions q bytes content = content
content_is Tables q bytes content = content
content_is Memories q bytes content = content
content_is Globals q bytes content = content
content_is Exports q bytes content = content
content_is ElementSegments q bytes content = content
content_is Codes q bytes content = content
content_is DataSegments q bytes content = content

-- there is code where it is asked for
code_is : (kind : Kind) (p q : Parts) (a : List (ℕ × List ℕ)) (y : ℕ × List ℕ) (b : List (ℕ × List ℕ)) → y.0 ≡ number_of kind →
    FromTypes p a → FromTypes q (a ++ y ∷ b) →
    (9 < y.0 → length q.codes ≡ length q.functions) → HaveCode kind (things_of kind q) p
code_is Types p q a y b is x z same = tt
code_is Imports p q a y b is x z same = tt
code_is Functions p q a y b is x z same = tt
code_is Tables p q a y b is x z same = tt
code_is Memories p q a y b is x z same = tt
code_is Globals p q a y b is x z same = tt
code_is Exports p q a y b is x z same = tt
code_is ElementSegments p q a y b is x z same = tt
code_is Codes p q a y b is x z same = same (omega arith) ∙ sym (ap length (functions_agree p q a y b (omega arith) x z).things)
code_is DataSegments p q a y b is x z same =
    ap length (codes_agree p q a y b (omega arith) x z) ∙ same (omega arith) ∙
    sym (ap length (functions_agree p q a y b (omega arith) x z).things)

pub may_follow : (p q : Parts) (xs : List (ℕ × List ℕ)) (y : ℕ × List ℕ) (behind : List (ℕ × List ℕ)) → FromTypes p (without_custom xs) →
    FromTypes q (without_custom (xs ++ y ∷ behind)) →
    (y.0 ≡ 0 → BeginsWithName y.1) → (9 < y.0 → length q.codes ≡ length q.functions) → MayFollow p (without_custom xs) y
may_follow p q xs y behind inside inside' named same = elim (nat_eq y.0 0) as (λ c. nat_eq y.0 0 ≡ c → MayFollow p (without_custom xs) y) [
  | true ↦ λ is. custom (grind arith)
  | false ↦ λ other. kept other
] refl
  where
    custom : y.0 ≡ 0 → MayFollow p (without_custom xs) y
    custom is = (p, inl (is, named is, refl))

    kept : nat_eq y.0 0 ≡ false → MayFollow p (without_custom xs) y
    kept other =
        let row : without_custom (xs ++ y ∷ behind) ≡ without_custom xs ++ y ∷ without_custom behind =
        without_custom-append xs (y ∷ behind) ∙ ap (λ l. without_custom xs ++ l) (other_kept y behind other) in
        let stands : FromTypes q (without_custom xs ++ y ∷ without_custom behind) = subst (FromTypes q) row inside' in
        let all : After (FromTypes q) y = record {
          sections = without_custom (xs ++ y ∷ behind);
          stand = inside';
          member =
              member_without_custom xs y behind other;
        } in
        let kind = kind_of q y all in
        let before : AllBelow y.0 (without_custom xs) = sections_before q (without_custom xs) y (without_custom behind) stands in (
          with_things kind.0 (things_of kind.0 q) p,
          inr (
            kind.0,
            kind.1,
            subst (λ n. AllBelow n (without_custom xs)) kind.1 before,
            things_of kind.0 q,
            content_is kind.0 q y.1 (content_of q kind.0 y all kind.1),
            code_is kind.0 p q (without_custom xs) y (without_custom behind) kind.1 inside stands same,
            refl,
          ),
        )

-- each of a row of sections
each_named : (xs ys : List (ℕ × List ℕ)) (bytes : List ℕ) (more : Longer xs ys bytes) →
    AllByRecursion (λ section. section.0 ≡ 0 → BeginsWithName section.1) ys →
    more.next.0 ≡ 0 → BeginsWithName more.next.1
each_named xs ys bytes more all = at xs (subst (AllByRecursion (λ (section : ℕ × List ℕ). section.0 ≡ 0 → BeginsWithName section.1))
    more.row all)
  where
    at : (xs : List (ℕ × List ℕ)) → AllByRecursion (λ (section : ℕ × List ℕ). section.0 ≡ 0 → BeginsWithName section.1)
        (xs ++ more.next ∷ more.behind) → more.next.0 ≡ 0 → BeginsWithName more.next.1
    at [] all = all.0
    at (x ∷ xs) all = at xs all.1

-- a module has as many codes as functions
pub same_counts : (m : Module) → length (parts_of m).codes ≡ length (parts_of m).functions
same_counts m = length-map m.funcs code_of_func ∙ sym (length-map m.funcs type_of_func)

-- each of sections whose numbers are below one is
member_below : (id : ℕ) (y : ℕ × List ℕ) (sections : List (ℕ × List ℕ)) → AllBelow id sections → Member y sections → y.0 < id
member_below id y [] all m = absurd m
member_below id y (x ∷ xs) all (inl same) = subst (λ (section : ℕ × List ℕ). section.0 < id) same all.0
member_below id y (x ∷ xs) all (inr m) = member_below id y xs all.1 m

-- behind the section of a kind from code on, only data stops, and there is code for each function then
counts_where_stopped : (p : Parts) (sections : List (ℕ × List ℕ)) (y : ℕ × List ℕ) (at : ℕ) (feature : Feature) (bytes : List ℕ) →
    Member y sections → 9 < y.0 →
    StopsSection p sections at feature bytes → length p.codes ≡ length p.functions
counts_where_stopped p sections y at feature bytes m more (inl (kind, below, stop)) =
    by_kind kind (member_below (number_of kind) y sections below m) stop.stops.1.stops
  where
    inside : List ℕ
    inside = take stop.stops.0 stop.stops.1.rest

    by_kind : (kind : Kind) → y.0 < number_of kind → StopsContent p kind stop.stops.1.place feature inside →
        length p.codes ≡ length p.functions
    by_kind DataSegments less x = x.0
    by_kind Types less x = absurd (omega arith)
    by_kind Imports less x = absurd (omega arith)
    by_kind Functions less x = absurd (omega arith)
    by_kind Tables less x = absurd (omega arith)
    by_kind Memories less x = absurd (omega arith)
    by_kind Globals less x = absurd (omega arith)
    by_kind Exports less x = absurd (omega arith)
    by_kind ElementSegments less x = absurd (omega arith)
    by_kind Codes less x = absurd (omega arith)
counts_where_stopped p sections y at feature bytes m more (inr (below, stop)) = absurd (omega (arith, member_below 8 y sections below m))

-- the contents behind the header
contents_of : (bytes : List ℕ) (p : Parts) (sections : List (ℕ × List ℕ)) (rest : List ℕ) (read : ReadSoFar bytes p sections rest) →
    bytes ≡ header ++ (read.stand.rest ++ rest)
contents_of bytes p sections rest read = behind_header bytes read.front rest sections read.stand read.split

module _ (bytes : List ℕ) (p : Parts) (sections : List (ℕ × List ℕ)) (rest : List ℕ) (read : ReadSoFar bytes p sections rest) where
  -- the sections of a module, beside those that were read
  walk_module : (m : Module) (x : SpellsModule bytes m) → Walk sections x.second.sections read.stand.rest x.rest rest []
  walk_module m x = walk sections x.second.sections read.stand.rest x.rest rest [] read.stand.second x.second.stand
      (append-cancel header _ _ (sym (contents_of bytes p sections rest read) ∙ x.split ∙ ap (λ l. l ++ x.rest) x.first) ∙
      sym (append-nil x.rest))

  -- and those before a stop
  walk_stop : (at : ℕ) (feature : Feature) (x : IsUnsupported bytes at feature) →
      Walk sections x.sections read.stand.rest x.stops.before.rest rest x.stops.rest
  walk_stop at feature x = walk sections x.sections read.stand.rest x.stops.before.rest rest x.stops.rest read.stand.second
      x.stops.before.second
      (append-cancel header _ _ (sym (contents_of bytes p sections rest read) ∙
      behind_header bytes x.stops.front x.stops.rest x.sections x.stops.before x.stops.split))

  -- the parts of the same sections are those that were read
  parts_read : (q : Parts) (others : List (ℕ × List ℕ)) → sections ≡ others → FromTypes q (without_custom others) → q ≡ p
  parts_read q others same inside = parts_same q p (without_custom sections)
      (subst (λ sections. FromTypes q (without_custom sections)) (sym same) inside) read.inside

  -- no module goes on where nothing follows
  no_module : (rest ≡ [] → ⊥) →
      ((section : ℕ × List ℕ) (front more : List ℕ) (q : Parts) → rest ≡ front ++ more → RawSection section front →
      Follows p (without_custom sections) section q → ⊥) →
      (m : Module) → SpellsModule bytes m → ⊥
  no_module more nothing m x = by_cases (walk_module m x)
    where
      by_cases : Walk sections x.second.sections read.stand.rest x.rest rest [] → ⊥
      by_cases (inl same) = more same.2
      by_cases (inr (inl longer)) =
          let follows = may_follow p (parts_of m) sections longer.next longer.behind read.inside
          (subst (λ l. FromTypes (parts_of m) (without_custom l)) longer.row x.second.inside)
          (each_named sections x.second.sections rest longer x.second.named) (λ _. same_counts m) in
          nothing longer.next longer.front longer.rest follows.0 longer.split longer.raw follows.1
      by_cases (inr (inr longer)) = no_section_at_end longer.next longer.front longer.rest [] longer.raw longer.split refl

  -- nor is anything left out met behind it
  no_stop : ((section : ℕ × List ℕ) (front more : List ℕ) (q : Parts) → rest ≡ front ++ more → RawSection section front →
      Follows p (without_custom sections) section q → ⊥) →
      ((at : ℕ) (feature : Feature) → StopsSection p (without_custom sections) at feature rest → ⊥) →
      (at : ℕ) (feature : Feature) → IsUnsupported bytes at feature → ⊥
  no_stop nothing nowhere at feature x = by_cases (walk_stop at feature x)
    where
      counts : (longer : Longer sections x.sections rest) → 9 < longer.next.0 → length x.p.codes ≡ length x.p.functions
      counts longer high = counts_where_stopped x.p (without_custom x.sections) longer.next x.stops.place feature x.stops.rest
          (subst (λ l. Member longer.next (without_custom l)) (sym longer.row)
          (member_without_custom sections longer.next longer.behind (not_number longer.next.0 0 (λ e. omega arith))))
          high x.stops.stops

      by_cases : Walk sections x.sections read.stand.rest x.stops.before.rest rest x.stops.rest → ⊥
      by_cases (inl same) =
          let stop = subst (λ (q : Parts). StopsSection q (without_custom x.sections) x.stops.place feature x.stops.rest)
          (parts_read x.p x.sections same.0 x.inside) x.stops.stops in
          let here = subst (λ l. StopsSection p (without_custom l) x.stops.place feature x.stops.rest) (sym same.0) stop in
          nowhere x.stops.place feature (subst (StopsSection p (without_custom sections) x.stops.place feature) (sym same.2) here)
      by_cases (inr (inl longer)) =
          let follows = may_follow p x.p sections longer.next longer.behind read.inside
          (subst (λ l. FromTypes x.p (without_custom l)) longer.row x.inside)
          (each_named sections x.sections rest longer x.named) (counts longer) in
          nothing longer.next longer.front longer.rest follows.0 longer.split longer.raw follows.1
      by_cases (inr (inr longer)) = no_longer x.p p (without_custom x.sections) x.sections sections x.stops.place feature x.stops.rest
          longer x.stops.stops read.inside read.supported

-- no section may stand next
pub reading_fails : ReadingFails
reading_fails bytes p sections rest read more nothing nowhere =
    (no_module bytes p sections rest read more nothing, no_stop bytes p sections rest read nothing nowhere)

-- code lacks
pub reading_lacks_code : ReadingLacksCode
reading_lacks_code bytes p sections read differ = (
  no_module_here,
  no_stop bytes p sections [] read nothing
      (λ at feature stop. no_stop_at_end p (without_custom sections) at feature [] refl stop),
)
  where
    nothing : (section : ℕ × List ℕ) (front more : List ℕ) (q : Parts) → [] ≡ front ++ more → RawSection section front →
        Follows p (without_custom sections) section q → ⊥
    nothing section front more q e raw follows = no_section_at_end section front more [] raw e refl

    no_module_here : (m : Module) → SpellsModule bytes m → ⊥
    no_module_here m x = by_cases (walk_module bytes p sections [] read m x)
      where
        by_cases : Walk sections x.second.sections read.stand.rest x.rest [] [] → ⊥
        by_cases (inl same) =
            let parts = parts_read bytes p sections [] read (parts_of m) x.second.sections same.0 x.second.inside in
            differ (subst (λ (q : Parts). length q.codes ≡ length q.functions) parts (same_counts m))
        by_cases (inr (inl longer)) = no_section_at_end longer.next longer.front longer.rest [] longer.raw longer.split refl
        by_cases (inr (inr longer)) = no_section_at_end longer.next longer.front longer.rest [] longer.raw longer.split refl

-- the header lacks
pub header_lacks : HeaderLacks
header_lacks bytes none = (
  (λ m x. none x.rest (x.split ∙ ap (λ l. l ++ x.rest) x.first)),
  (λ at feature x. none (x.stops.before.rest ++ x.stops.rest)
      (behind_header bytes x.stops.front x.stops.rest x.sections x.stops.before x.stops.split)),
)
