-- A module stops a reader in at most one place, and nowhere where it is read.
use Rattle.std.proofs.Common.{◌≡◌, ◌<◌, ◌∙◌, ◌⊎◌, inl, inr, ℕ, List, [], ◌∷◌, ◌++◌, length, refl, sym, ap, subst, arith, length-append, true, false, Some, None}
use Rattle.std.specs.Prelude.{nat_eq, if◌then◌else◌}
use Rattle.std.proofs.lemmas.List.{append-nil}
use Rattle.hph_wasm.specs.Grammar.{Exactly, Byte, ◌⊳◌, Each}
use Rattle.hph_wasm.specs.ModuleGrammar.{Code, RawSection, without_custom, Parts, parts_of, FromTypes, header, SpellsModule}
use Rattle.hph_wasm.specs.Unsupported.{Stop, Behind, InSized, AtByte, Among, IsSmallCode, AreSupported, IsSupported, Kind, Types, Imports, Functions, Tables, Memories, Globals, Exports, ElementSegments, Codes, DataSegments, number_of, StopsCode, StopsContent, start_section, StopsSection, IsUnsupported}
use Rattle.hph_wasm.specs.declared.feature.Feature.{Feature}
use Rattle.hph_wasm.specs.declared.feature.Feature.TheVariants.{Start}
use Rattle.hph_wasm.specs.declared.module.Module.{Module}
use Rattle.hph_wasm.proofs.OneForm.{append-cancel, byte_form}
use Rattle.hph_wasm.proofs.Leb128Laws.{unsigned_form}
use Rattle.hph_wasm.proofs.OneSection.{function_type_form, table_type_form, memory_type_form, import_form, global_form, element_form, code_form, data_form}
use Rattle.hph_wasm.proofs.OneModule.{raw_section_form, parts_same}
use Rattle.hph_wasm.proofs.OneStop.{Same, fronts_of, behind_one, byte_fronts, byte_one, among_one, vector_stops, sized_one, sized_apart, split_front}
use Rattle.hph_wasm.proofs.StopParts.{all_asked, function_type_stops, import_stops, table_type_stops, memory_type_stops, byte_apart}
use Rattle.hph_wasm.proofs.StopSection.{global_stops, element_stops, code_stops, data_stops}
use Rattle.hph_wasm.proofs.Members.{Member, After, Content, content_of, no_start}

-- what stops in a section's content is one
content_one : (p : Parts) (kind : Kind) (at at' : ℕ) (feature feature' : Feature) (bytes : List ℕ) →
    StopsContent p kind at feature bytes → StopsContent p kind at' feature' bytes → Same at at' feature feature'
content_one p Types = (vector_stops function_type_form function_type_stops).one
content_one p Imports = (vector_stops import_form import_stops).one
content_one p Functions = λ at at' feature feature' bytes x y. absurd x
content_one p Tables = (vector_stops table_type_form table_type_stops).one
content_one p Memories = (vector_stops memory_type_form memory_type_stops).one
content_one p Globals = (vector_stops global_form global_stops).one
content_one p Exports = λ at at' feature feature' bytes x y. absurd x
content_one p ElementSegments = (vector_stops element_form element_stops).one
content_one p Codes = λ at at' feature feature' bytes. behind_one {S = Among (length p.functions) Code IsSmallCode StopsCode}
    (fronts_of (unsigned_form 32)) (length p.functions) (length p.functions) at at' feature feature' bytes
    (λ place place' rest. among_one code_form code_stops (length p.functions) (length p.functions) place place' feature feature' rest)
content_one p DataSegments = λ at at' feature feature' bytes x y. (vector_stops data_form data_stops).one at at' feature feature' bytes
    x.1 y.1

-- and none where the content is read
content_apart : (p q : Parts) (kind : Kind) (at : ℕ) (feature : Feature) (front rest : List ℕ) → Content q kind front → AreSupported q →
    StopsContent p kind at feature (front ++ rest) → ⊥
content_apart p q Types at feature front rest content few stop =
    (vector_stops function_type_form function_type_stops).apart q.types at feature front rest content (all_asked q.types) stop
content_apart p q Imports at feature front rest content few stop =
    (vector_stops import_form import_stops).apart q.imports at feature front rest content few.imports stop
content_apart p q Functions at feature front rest content few stop = stop
content_apart p q Tables at feature front rest content few stop =
    (vector_stops table_type_form table_type_stops).apart q.tables at feature front rest content few.tables stop
content_apart p q Memories at feature front rest content few stop =
    (vector_stops memory_type_form memory_type_stops).apart q.memories at feature front rest content few.memories stop
content_apart p q Globals at feature front rest content few stop =
    (vector_stops global_form global_stops).apart q.globals at feature front rest content few.globals stop
content_apart p q Exports at feature front rest content few stop = stop
content_apart p q ElementSegments at feature front rest content few stop =
    (vector_stops element_form element_stops).apart q.elements at feature front rest content few.elements stop
content_apart p q Codes at feature front rest content few stop =
    (vector_stops code_form code_stops).apart q.codes at feature front rest content few.codes (length p.functions, stop)
content_apart p q DataSegments at feature front rest content few stop =
    (vector_stops data_form data_stops).apart q.segments at feature front rest content few.segments stop.1

-- a section that is read begins with its number, and a size
section_apart : (p q : Parts) (kind : Kind) (y : ℕ × List ℕ) (at : ℕ) (feature : Feature) (front rest : List ℕ) → RawSection y front →
    y.0 ≡ number_of kind → Content q kind y.1 → AreSupported q →
    Behind (Byte (number_of kind)) (InSized (StopsContent p kind)) at feature (front ++ rest) → ⊥
section_apart p q kind y at feature front rest raw is content few stop =
    let a = byte_form.alike y.0 (number_of kind) raw.front stop.front (raw.rest ++ rest) stop.rest raw.first stop.before
    (sym (split_front front rest raw) ∙ stop.split) in
    let inside = raw.second in
    let body : inside.rest ++ rest ≡ y.1 ++ rest = ap (λ l. l ++ rest) inside.second in
    sized_apart (StopsContent p kind) stop.place feature stop.rest inside.front y.1 rest
    (sym a.behind ∙ split_front raw.rest rest inside ∙ ap (λ l. inside.front ++ l) body) inside.first
    (λ place here. content_apart p q kind place feature y.1 [] content few
    (subst (StopsContent p kind place feature) (sym (append-nil y.1)) here))
    stop.stops

-- the number that a section's first byte is
section_number : (kind : Kind) {S : Stop} (y : ℕ × List ℕ) (at : ℕ) (feature : Feature) (front rest : List ℕ) → RawSection y front →
    Behind (Byte (number_of kind)) S at feature (front ++ rest) → y.0 ≡ number_of kind
section_number kind y at feature front rest raw stop =
    (byte_form.alike y.0 (number_of kind) raw.front stop.front (raw.rest ++ rest) stop.rest raw.first stop.before
    (sym (split_front front rest raw) ∙ stop.split)).thing

-- the first byte of a start section is 8
start_number : (y : ℕ × List ℕ) (at : ℕ) (feature : Feature) (front rest : List ℕ) → RawSection y front →
    AtByte start_section at feature (front ++ rest) → y.0 ≡ 8
start_number y at feature front rest raw stop =
    let split : front ++ rest ≡ y.0 ∷ (raw.rest ++ rest) = split_front front rest raw ∙ ap (λ l. l ++ (raw.rest ++ rest)) raw.first in
    let here : AtByte start_section at feature (y.0 ∷ (raw.rest ++ rest)) = subst (AtByte start_section at feature) split stop in
    is_start y.0 here.1
  where
    is_start : (b : ℕ) → start_section b ≡ Some feature → b ≡ 8
    is_start b e = elim (nat_eq b 8) as (λ same. nat_eq b 8 ≡ same → (if same then Some Start else None) ≡ Some feature → b ≡ 8) [
      | true ↦ λ same _. grind arith
      | false ↦ λ _ e. absurd (nothing e)
    ] refl e
      where
        nothing : None ≡ Some feature → ⊥
        nothing e = cc

-- a section that stands where others end, in a longer row of them
pub record Longer (xs ys : List (ℕ × List ℕ)) (bytes : List ℕ) : Type 0 where
  pub next : ℕ × List ℕ
  pub behind : List (ℕ × List ℕ)
  pub row : ys ≡ xs ++ next ∷ behind
  pub front : List ℕ
  pub rest : List ℕ
  pub split : bytes ≡ front ++ rest
  pub raw : RawSection next front

-- two rows of sections at the head of the same bytes are the same, or one goes on
abbrev pub Walk : List (ℕ × List ℕ) → List (ℕ × List ℕ) → List ℕ → List ℕ → List ℕ → List ℕ → Type 0
Walk xs ys f g r s = ((xs ≡ ys) × (f ≡ g) × (r ≡ s)) ⊎ (Longer xs ys r ⊎ Longer ys xs s)

-- with a section more in front of both
walk_more : (x y : ℕ × List ℕ) (xs ys : List (ℕ × List ℕ)) (f g f' g' r s : List ℕ) → x ≡ y → f ≡ g → Walk xs ys f' g' r s →
    Walk (x ∷ xs) (y ∷ ys) (f ++ f') (g ++ g') r s
walk_more x y xs ys f g f' g' r s heads fronts (inl same) = inl ((λ i. heads i ∷ same.0 i), (λ i. fronts i ++ same.1 i), same.2)
walk_more x y xs ys f g f' g' r s heads fronts (inr (inl more)) = inr (inl (record {
  next = more.next;
  behind = more.behind;
  row = (λ i. sym heads i ∷ more.row i);
  front = more.front;
  rest = more.rest;
  split = more.split;
  raw = more.raw;
}))
walk_more x y xs ys f g f' g' r s heads fronts (inr (inr more)) = inr (inr (record {
  next = more.next;
  behind = more.behind;
  row = (λ i. heads i ∷ more.row i);
  front = more.front;
  rest = more.rest;
  split = more.split;
  raw = more.raw;
}))

pub walk : (xs ys : List (ℕ × List ℕ)) (f g r s : List ℕ) → Each RawSection xs f → Each RawSection ys g → f ++ r ≡ g ++ s →
    Walk xs ys f g r s
walk [] [] f g r s p q e = inl (refl, p ∙ sym q, ap (λ l. l ++ r) (sym p) ∙ e ∙ ap (λ l. l ++ s) q)
walk [] (y ∷ ys) f g r s p q e = inr (inl (record {
  next = y;
  behind = ys;
  row = refl;
  front = q.front;
  rest = q.rest ++ s;
  split = ap (λ l. l ++ r) (sym p) ∙ e ∙ split_front g s q;
  raw = q.first;
}))
walk (x ∷ xs) [] f g r s p q e = inr (inr (record {
  next = x;
  behind = xs;
  row = refl;
  front = p.front;
  rest = p.rest ++ r;
  split = ap (λ l. l ++ s) (sym q) ∙ sym e ∙ split_front f r p;
  raw = p.first;
}))
walk (x ∷ xs) (y ∷ ys) f g r s p q e =
    let a = raw_section_form.alike x y p.front q.front (p.rest ++ r) (q.rest ++ s) p.first q.first
    (sym (split_front f r p) ∙ e ∙ split_front g s q) in
    let more = walk_more x y xs ys p.front q.front p.rest q.rest r s a.thing a.spelling
    (walk xs ys p.rest q.rest r s p.second q.second a.behind) in
    subst (λ (fronts : List ℕ × List ℕ). Walk (x ∷ xs) (y ∷ ys) fronts.0 fronts.1 r s) (λ i. (sym p.split i, sym q.split i)) more

-- a section that isn't custom is among those that aren't
pub member_without_custom : (xs : List (ℕ × List ℕ)) (y : ℕ × List ℕ) (behind : List (ℕ × List ℕ)) → nat_eq y.0 0 ≡ false →
    Member y (without_custom (xs ++ y ∷ behind))
member_without_custom [] y behind more = subst (λ custom. Member y (if custom then without_custom behind else y ∷ without_custom behind))
    (sym more) (inl refl)
member_without_custom (x ∷ xs) y behind more =
    elim (nat_eq x.0 0) as (λ custom. Member y
    (if custom then without_custom (xs ++ y ∷ behind) else x ∷ without_custom (xs ++ y ∷ behind))) [
      | true ↦ member_without_custom xs y behind more
      | false ↦ inr (member_without_custom xs y behind more)
    ]

-- a number above 0
pub above_zero : (n m : ℕ) → n ≡ m → 0 < m → nat_eq n 0 ≡ false
above_zero n m is more = grind arith

-- the number of a kind is one
pub number-above_zero : (kind : Kind) → 0 < number_of kind
number-above_zero Types = omega arith
number-above_zero Imports = omega arith
number-above_zero Functions = omega arith
number-above_zero Tables = omega arith
number-above_zero Memories = omega arith
number-above_zero Globals = omega arith
number-above_zero Exports = omega arith
number-above_zero ElementSegments = omega arith
number-above_zero Codes = omega arith
number-above_zero DataSegments = omega arith

-- the longer row's section among those of its parts
pub after : (q : Parts) (xs ys : List (ℕ × List ℕ)) (bytes : List ℕ) (more : Longer xs ys bytes) (n : ℕ) → more.next.0 ≡ n → 0 < n →
    FromTypes q (without_custom ys) → After (FromTypes q) more.next
after q xs ys bytes more n is above inside = record {
  sections = without_custom (xs ++ more.next ∷ more.behind);
  stand = subst (λ sections. FromTypes q (without_custom sections)) more.row inside;
  member = member_without_custom xs more.next more.behind (above_zero more.next.0 n is above);
}

-- where sections that are read go on, none is stopped in
pub no_longer : (p q : Parts) (before xs ys : List (ℕ × List ℕ)) (at : ℕ) (feature : Feature) (bytes : List ℕ) → Longer xs ys bytes →
    StopsSection p before at feature bytes →
    FromTypes q (without_custom ys) → AreSupported q → ⊥
no_longer p q before xs ys at feature bytes more (inl (kind, below, stop)) inside few =
    let here = subst (Behind (Byte (number_of kind)) (InSized (StopsContent p kind)) at feature) more.split stop in
    let is = section_number kind {S = InSized (StopsContent p kind)} more.next at feature more.front more.rest more.raw here in
    let content = content_of q kind more.next (after q xs ys bytes more (number_of kind) is (number-above_zero kind) inside) is in
    section_apart p q kind more.next at feature more.front more.rest more.raw is content few here
no_longer p q before xs ys at feature bytes more (inr (below, stop)) inside few =
    let is = start_number more.next at feature more.front more.rest more.raw (subst (AtByte start_section at feature) more.split stop) in
    no_start q more.next (after q xs ys bytes more 8 is (omega arith) inside) is

-- a kind has its own number
same_kind : (kind kind' : Kind) → number_of kind ≡ number_of kind' → kind ≡ kind'
same_kind Types Types e = refl
same_kind Imports Imports e = refl
same_kind Functions Functions e = refl
same_kind Tables Tables e = refl
same_kind Memories Memories e = refl
same_kind Globals Globals e = refl
same_kind Exports Exports e = refl
same_kind ElementSegments ElementSegments e = refl
same_kind Codes Codes e = refl
same_kind DataSegments DataSegments e = refl
same_kind Types _ e = absurd (omega arith)
same_kind Imports _ e = absurd (omega arith)
same_kind Functions _ e = absurd (omega arith)
same_kind Tables _ e = absurd (omega arith)
same_kind Memories _ e = absurd (omega arith)
same_kind Globals _ e = absurd (omega arith)
same_kind Exports _ e = absurd (omega arith)
same_kind ElementSegments _ e = absurd (omega arith)
same_kind Codes _ e = absurd (omega arith)
same_kind DataSegments _ e = absurd (omega arith)

-- and it isn't that of a start section
not_start : (kind : Kind) → start_section (number_of kind) ≡ None
not_start Types = refl
not_start Imports = refl
not_start Functions = refl
not_start Tables = refl
not_start Memories = refl
not_start Globals = refl
not_start Exports = refl
not_start ElementSegments = refl
not_start Codes = refl
not_start DataSegments = refl

-- bytes that begin with a kind's number aren't a start section
start_apart : (kind : Kind) {S : Stop} (at at' : ℕ) (feature feature' : Feature) (bytes : List ℕ) →
    Behind (Byte (number_of kind)) S at feature bytes →
    AtByte start_section at' feature' bytes → ⊥
start_apart kind at at' feature feature' bytes p q =
    byte_apart start_section (number_of kind) at' feature' p.front p.rest (not_start kind) p.before
    (subst (AtByte start_section at' feature') p.split q)

-- what stops in a section is one, behind the same parts
section_one : (p : Parts) (before before' : List (ℕ × List ℕ)) (at at' : ℕ) (feature feature' : Feature) (bytes : List ℕ) →
    StopsSection p before at feature bytes →
    StopsSection p before' at' feature' bytes → Same at at' feature feature'
section_one p before before' at at' feature feature' bytes (inl (kind, below, x)) (inl (kind', below', y)) =
    let same = (byte_form.alike (number_of kind) (number_of kind') x.front y.front x.rest y.rest x.before y.before
    (sym x.split ∙ y.split)).thing in
    let x' = subst (λ kind. Behind (Byte (number_of kind)) (InSized (StopsContent p kind)) at feature bytes)
    (same_kind kind kind' same) x in
    behind_one {S = InSized (StopsContent p kind')} (byte_fronts (number_of kind')) tt tt at at' feature feature' bytes
    (λ place place' rest. sized_one (StopsContent p kind') place place' feature feature' rest
    (λ place place' rest. content_one p kind' place place' feature feature' rest)) x' y
section_one p before before' at at' feature feature' bytes (inl (kind, below, x)) (inr (below', y)) =
    absurd (start_apart kind {S = InSized (StopsContent p kind)} at at' feature feature' bytes x y)
section_one p before before' at at' feature feature' bytes (inr (below, x)) (inl (kind, below', y)) =
    absurd (start_apart kind {S = InSized (StopsContent p kind)} at' at feature' feature bytes y x)
section_one p before before' at at' feature feature' bytes (inr (below, x)) (inr (below', y)) =
    byte_one start_section at at' feature feature' bytes x y

-- what stands behind the header in front of a stop
pub behind_header : (bytes front rest : List ℕ) (sections : List (ℕ × List ℕ)) (p : (Exactly header ⊳ Each RawSection sections) front) →
    bytes ≡ front ++ rest → bytes ≡ header ++ (p.rest ++ rest)
behind_header bytes front rest sections p e = e ∙ split_front front rest p ∙ ap (λ l. l ++ (p.rest ++ rest)) p.first

-- a feature that is left out is met in one place
pub one_unsupported : (bytes : List ℕ) (at at' : ℕ) (feature feature' : Feature) → IsUnsupported bytes at feature →
    IsUnsupported bytes at' feature' → Same at at' feature feature'
one_unsupported bytes at at' feature feature' x y =
    by_cases (walk x.sections y.sections a.rest b.rest x.stops.rest y.stops.rest a.second b.second contents)
  where
    a : (Exactly header ⊳ Each RawSection x.sections) x.stops.front
    a = x.stops.before

    b : (Exactly header ⊳ Each RawSection y.sections) y.stops.front
    b = y.stops.before

    contents : a.rest ++ x.stops.rest ≡ b.rest ++ y.stops.rest
    contents = append-cancel header _ _ (sym (behind_header bytes x.stops.front x.stops.rest x.sections a x.stops.split) ∙
        behind_header bytes y.stops.front y.stops.rest y.sections b y.stops.split)

    by_cases : Walk x.sections y.sections a.rest b.rest x.stops.rest y.stops.rest → Same at at' feature feature'
    by_cases (inl same) =
        let parts = parts_same x.p y.p (without_custom y.sections)
        (subst (λ sections. FromTypes x.p (without_custom sections)) same.0 x.inside) y.inside in
        let stop = subst (λ (parts : Parts). StopsSection parts (without_custom x.sections) x.stops.place feature x.stops.rest) parts
        x.stops.stops in
        let one = section_one y.p (without_custom x.sections) (without_custom y.sections) x.stops.place y.stops.place feature feature'
        y.stops.rest
        (subst (StopsSection y.p (without_custom x.sections) x.stops.place feature) same.2 stop) y.stops.stops in
        record {
          place = omega (
            arith,
            x.stops.counted,
            y.stops.counted,
            one.place,
            ap length a.split,
            ap length b.split,
            ap length a.first,
            ap length b.first,
            length-append a.front a.rest,
            length-append b.front b.rest,
            ap length same.1,
          );
          named = one.named;
        }
    by_cases (inr (inl more)) = absurd (no_longer x.p y.p (without_custom x.sections) x.sections y.sections x.stops.place feature
        x.stops.rest more x.stops.stops y.inside y.supported)
    by_cases (inr (inr more)) = absurd (no_longer y.p x.p (without_custom y.sections) y.sections x.sections y.stops.place feature'
        y.stops.rest more y.stops.stops x.inside x.supported)

-- nothing stops at the end
pub no_stop_at_end : (p : Parts) (before : List (ℕ × List ℕ)) (at : ℕ) (feature : Feature) (bytes : List ℕ) → bytes ≡ [] →
    StopsSection p before at feature bytes → ⊥
no_stop_at_end p before at feature bytes e (inl (kind, below, stop)) =
    let flat : number_of kind ∷ stop.rest ≡ [] = ap (λ l. l ++ stop.rest) (sym stop.before) ∙ sym stop.split ∙ e in cc
no_stop_at_end p before at feature bytes e (inr (below, stop)) = let here : ⊥ = subst (AtByte start_section at feature) e stop in here

-- no section stands at the end
pub no_section_at_end : (y : ℕ × List ℕ) (front rest bytes : List ℕ) → RawSection y front → bytes ≡ front ++ rest → bytes ≡ [] → ⊥
no_section_at_end y front rest bytes raw split e =
    let flat : y.0 ∷ (raw.rest ++ rest) ≡ [] = ap (λ l. l ++ (raw.rest ++ rest)) (sym raw.first) ∙ sym (split_front front rest raw) ∙
    sym split ∙ e in cc

-- and none is met in a module that is read
pub supported_apart : (bytes : List ℕ) (m : Module) (at : ℕ) (feature : Feature) → SpellsModule bytes m → IsSupported m →
    IsUnsupported bytes at feature → ⊥
supported_apart bytes m at feature p few x =
    by_cases (walk p.second.sections x.sections p.rest a.rest [] x.stops.rest p.second.stand a.second contents)
  where
    a : (Exactly header ⊳ Each RawSection x.sections) x.stops.front
    a = x.stops.before

    contents : p.rest ++ [] ≡ a.rest ++ x.stops.rest
    contents = append-nil p.rest ∙ append-cancel header _ _
        (sym (p.split ∙ ap (λ l. l ++ p.rest) p.first) ∙ behind_header bytes x.stops.front x.stops.rest x.sections a x.stops.split)

    by_cases : Walk p.second.sections x.sections p.rest a.rest [] x.stops.rest → ⊥
    by_cases (inl same) = no_stop_at_end x.p (without_custom x.sections) x.stops.place feature x.stops.rest (sym same.2) x.stops.stops
    by_cases (inr (inl more)) = no_section_at_end more.next more.front more.rest [] more.raw more.split refl
    by_cases (inr (inr more)) = no_longer x.p (parts_of m) (without_custom x.sections) x.sections p.second.sections x.stops.place feature
        x.stops.rest more x.stops.stops p.second.inside few
