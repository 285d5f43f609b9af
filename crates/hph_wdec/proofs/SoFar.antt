-- Reading section by section, with the number of the last one (Core Specification 1.0, 5.5.15).
use Rattle.std.proofs.Common.{◌≡◌, ◌<◌, inl, inr, ◌∙◌, ℕ, ◌+◌, List, [], ◌∷◌, ◌++◌, length, map, refl, sym, ap, subst, arith, length-append, true, false}
use Rattle.std.specs.Prelude.{nat_eq, if◌then◌else◌}
use Rattle.std.proofs.lemmas.List.{append-nil}
use Rattle.hph_wasm.specs.Grammar.{Exactly}
use Rattle.hph_wasm.specs.ModuleGrammar.{without_custom, Parts, parts_of, header, type_of_func, code_of_func, SpellsModule}
use Rattle.hph_wasm.specs.Reading.{Follows, ReadSoFar, ReadingGoesOn, ReadingEnds, ReadingStops, ReadingFails, HeaderLacks}
use Rattle.hph_wasm.specs.Unsupported.{Nowhere, AreSupported, IsSupported, AllBelow, Kind, number_of, StopsSection}
use Rattle.hph_wasm.specs.declared.feature.Feature.{Feature}
use Rattle.hph_wasm.specs.declared.module.Module.{Module}
use Rattle.hph_wasm.specs.declared.module.Func.{Func}
use Rattle.hph_wread.specs.declared.fault.Fault.{Fault}
use Rattle.hph_wread.specs.declared.fault.Fault.TheVariants.{Malformed, Unsupported, NoMemory}
use Rattle.hph_wread.specs.Reading.{Took, Fails}
use Rattle.hph_wdec.specs.Answers.{IsFaultLeaving}
use Rattle.hph_wdec.specs.declared.sections.Sections.{Sections}
use Rattle.hph_wdec.specs.Next.{parts_read, FollowsAfter, NextIs, Next, StopsNext}
use Rattle.hph_wdec.proofs.NextSection.{not_custom}

-- ---- the last number of sections that aren't custom

-- all are below a number exactly where the last one is
pub record IsLast (last : ℕ) (sections : List (ℕ × List ℕ)) : Type 0 where
  pub below : (id : ℕ) → 0 < id → last < id → AllBelow id (without_custom sections)
  pub above : (id : ℕ) → 0 < id → AllBelow id (without_custom sections) → last < id

-- one more section
below_more : (id : ℕ) (sections : List (ℕ × List ℕ)) (y : ℕ × List ℕ) → AllBelow id (without_custom sections) → (nat_eq y.0 0 ≡ false → y.0 < id) →
    AllBelow id (without_custom (sections ++ y ∷ []))
below_more id [] y below one = last (nat_eq y.0 0) one
  where
    last : (custom : _) → (custom ≡ false → y.0 < id) → AllBelow id (if custom then [] else y ∷ [])
    last true one = tt
    last false one = (one refl, tt)
below_more id (x ∷ xs) y below one = elim (nat_eq x.0 0) as (λ custom.
    AllBelow id (if custom then without_custom xs else x ∷ without_custom xs) →
    AllBelow id (if custom then without_custom (xs ++ y ∷ []) else x ∷ without_custom (xs ++ y ∷ []))) [
      | true ↦ λ below. below_more id xs y below one
      | false ↦ λ below. (below.0, below_more id xs y below.1 one)
    ] below

-- and without it
below_front : (id : ℕ) (sections : List (ℕ × List ℕ)) (y : ℕ × List ℕ) → AllBelow id (without_custom (sections ++ y ∷ [])) →
    AllBelow id (without_custom sections)
below_front id [] y below = tt
below_front id (x ∷ xs) y below = elim (nat_eq x.0 0) as (λ custom.
    AllBelow id (if custom then without_custom (xs ++ y ∷ []) else x ∷ without_custom (xs ++ y ∷ [])) →
    AllBelow id (if custom then without_custom xs else x ∷ without_custom xs)) [
      | true ↦ λ below. below_front id xs y below
      | false ↦ λ below. (below.0, below_front id xs y below.1)
    ] below

below_last : (id : ℕ) (sections : List (ℕ × List ℕ)) (y : ℕ × List ℕ) → nat_eq y.0 0 ≡ false → AllBelow id (without_custom (sections ++ y ∷ [])) → y.0 < id
below_last id [] y kept below =
    let there : AllBelow id (y ∷ []) = subst (λ custom. AllBelow id (if custom then [] else y ∷ [])) kept below in there.0
below_last id (x ∷ xs) y kept below = elim (nat_eq x.0 0) as (λ custom.
    AllBelow id (if custom then without_custom (xs ++ y ∷ []) else x ∷ without_custom (xs ++ y ∷ [])) → y.0 < id) [
      | true ↦ λ below. below_last id xs y kept below
      | false ↦ λ below. below_last id xs y kept below.1
    ] below

is_zero : (n : ℕ) → n ≡ 0 → nat_eq n 0 ≡ true
is_zero n e = grind arith

not_zero : (n : ℕ) → ¬ (n ≡ 0) → nat_eq n 0 ≡ false
not_zero n e = grind arith

pub last_more : (p q : Parts) (last number : ℕ) (sections : List (ℕ × List ℕ)) (y : ℕ × List ℕ) → IsLast last sections → FollowsAfter p last y q number →
    IsLast number (sections ++ y ∷ [])
last_more p q last number sections y l (inl (custom, named, same, is)) = record {
  below = λ id some b. below_more id sections y (l.below id some (omega (arith, is))) (λ kept. let no : true ≡ false = sym (is_zero y.0 custom) ∙ kept in let never : ⊥ = cc in absurd never);
  above = λ id some b. omega (arith, is, l.above id some (below_front id sections y b));
}
last_more p q last number sections y l (inr (kind, own, over, xs, content, code, same, is)) = record {
  below = λ id some b. below_more id sections y (l.below id some (omega (arith, is, over))) (λ kept. omega (arith, own, is));
  above = λ id some b. omega (arith, own, is, below_last id sections y (not_zero y.0 (λ zero. not_custom kind (sym own ∙ zero))) b);
}

some_number : (kind : Kind) → 0 < number_of kind
some_number kind = let not = not_custom kind in omega (arith, not)

-- ---- the section that may stand next, by the list and by the last number

pub follows_after : (p q : Parts) (last number : ℕ) (sections : List (ℕ × List ℕ)) (y : ℕ × List ℕ) → IsLast last sections → FollowsAfter p last y q number →
    Follows p (without_custom sections) y q
follows_after p q last number sections y l (inl (custom, named, same, is)) = inl (custom, named, same)
follows_after p q last number sections y l (inr (kind, own, over, xs, content, code, same, is)) =
    inr (kind, own, l.below (number_of kind) (some_number kind) over, xs, content, code, same)

after_follows : (p q : Parts) (last : ℕ) (sections : List (ℕ × List ℕ)) (y : ℕ × List ℕ) → IsLast last sections → Follows p (without_custom sections) y q →
    (number : ℕ) × FollowsAfter p last y q number
after_follows p q last sections y l (inl (custom, named, same)) = (last, inl (custom, named, same, refl))
after_follows p q last sections y l (inr (kind, own, below, xs, content, code, same)) =
    (number_of kind, inr (kind, own, l.above (number_of kind) (some_number kind) below, xs, content, code, same, refl))

stops_section : (p : Parts) (last : ℕ) (sections : List (ℕ × List ℕ)) → IsLast last sections → (place : ℕ) (feature : Feature) (bytes : List ℕ) →
    StopsNext p last place feature bytes → StopsSection p (without_custom sections) place feature bytes
stops_section p last sections l place feature bytes (inl (kind, over, b)) = inl (kind, l.below (number_of kind) (some_number kind) over, b)
stops_section p last sections l place feature bytes (inr (over, t)) = inr (l.below 8 (omega arith) over, t)

stops_next : (p : Parts) (last : ℕ) (sections : List (ℕ × List ℕ)) → IsLast last sections → (place : ℕ) (feature : Feature) (bytes : List ℕ) →
    StopsSection p (without_custom sections) place feature bytes → StopsNext p last place feature bytes
stops_next p last sections l place feature bytes (inl (kind, below, b)) = inl (kind, l.above (number_of kind) (some_number kind) below, b)
stops_next p last sections l place feature bytes (inr (below, t)) = inr (l.above 8 (omega arith) below, t)

-- ---- what was read so far

pub record SoFar (bytes : List ℕ) (p : Parts) (last : ℕ) (rest : List ℕ) : Type 0 where
  pub sections : List (ℕ × List ℕ)
  pub read : ReadSoFar bytes p sections rest
  pub is_last : IsLast last sections

abbrev pub no_parts : Parts
no_parts = record {
  types = [];
  imports = [];
  functions = [];
  tables = [];
  memories = [];
  globals = [];
  exports = [];
  elements = [];
  codes = [];
  segments = [];
}

-- nothing behind the header
pub so_far_begins : {bytes rest : List ℕ} → Took (Exactly header) bytes rest → SoFar bytes no_parts 0 rest
so_far_begins {rest = rest} p = record {
  sections = [];
  read = record {
    front = p.front;
    split = p.split;
    stand = record { front = p.front; rest = []; split = sym (append-nil p.front); first = p.spelled; second = refl };
    named = tt;
    inside = (refl, (refl, (refl, (refl, (refl, (refl, (refl, (refl, (refl, (refl, refl))))))))));
    supported = record { imports = tt; tables = tt; memories = tt; globals = tt; elements = tt; codes = tt; segments = tt };
  };
  is_last = record { below = λ id some b. tt; above = λ id some b. some };
}

-- one more section
pub so_far_more : ReadingGoesOn → {bytes mid rest : List ℕ} (p q : Parts) (last number : ℕ) → SoFar bytes p last mid → Took (NextIs p last q number) mid rest →
    AreSupported q → SoFar bytes q number rest
so_far_more goes_on {bytes} {mid} {rest} p q last number so_far next supported =
    let section = next.spelled.0 in
    record {
      sections = so_far.sections ++ section ∷ [];
      read = goes_on bytes p q so_far.sections section next.front rest (subst (λ l. ReadSoFar bytes p so_far.sections l) next.split so_far.read) next.spelled.1
          (follows_after p q last number so_far.sections section so_far.is_last next.spelled.2) supported;
      is_last = last_more p q last number so_far.sections section so_far.is_last next.spelled.2;
    }

-- a section takes bytes
pub next_shorter : (p q : Parts) (last number : ℕ) {mid rest : List ℕ} → Took (NextIs p last q number) mid rest → length rest < length mid
next_shorter p q last number {mid} {rest} next =
    let raw = next.spelled.1 in
    omega (arith, ap length next.split, length-append next.front rest, ap length raw.split, length-append raw.front raw.rest, ap length raw.first)

-- nothing may stand next
pub so_far_fails : ReadingStops → ReadingFails → {bytes rest : List ℕ} (p : Parts) (last : ℕ) → SoFar bytes p last rest → ¬ (rest ≡ []) → (e : Fault) →
    Fails (Next p last) (StopsNext p last) rest e → IsFaultLeaving bytes e
so_far_fails stops fails {bytes} {rest} p last so_far more (Malformed left) f =
    let r = f.reason in
    let read = so_far.read in (
      omega (arith, r.0, ap length read.split, length-append read.front rest),
      fails bytes p so_far.sections rest read more
          (λ section front behind q split raw follows.
          let after = after_follows p q last so_far.sections section so_far.is_last follows in
          r.1.none behind (record { front = front; split = split; spelled = (q, after.0, (section, raw, after.1)) }))
          (λ place feature t. r.1.nowhere place feature (stops_next p last so_far.sections so_far.is_last place feature rest t)),
    )
so_far_fails stops fails {bytes} {rest} p last so_far more (Unsupported left feature) f =
    let r = f.reason in
    let read = so_far.read in (
      length read.front + r.place,
      omega (arith, r.counted, ap length read.split, length-append read.front rest),
      stops bytes p so_far.sections rest r.place feature read (stops_section p last so_far.sections so_far.is_last r.place feature rest r.stops),
    )
so_far_fails stops fails p last so_far more NoMemory f = tt

-- the header isn't there
pub header_fails : HeaderLacks → {bytes : List ℕ} (e : Fault) → Fails (Exactly header) Nowhere bytes e → IsFaultLeaving bytes e
header_fails lacks {bytes} (Malformed left) f =
    (f.reason.0, lacks bytes (λ rest is. f.reason.1.none rest (record { front = header; split = is; spelled = refl })))
header_fails lacks (Unsupported left feature) f = absurd f.reason.stops
header_fails lacks NoMemory f = tt

-- all was read
pub module_read : ReadingEnds → (bytes : List ℕ) (m : Module) (p : Parts) (sections : List (ℕ × List ℕ)) → ReadSoFar bytes p sections [] → p ≡ parts_of m →
    SpellsModule bytes m × IsSupported m
module_read ends bytes m p sections read same = ends bytes m sections (subst (λ p. ReadSoFar bytes p sections []) same read)

-- the parts of a module are those that were read, functions joined
pub parts_joined : (s : Sections) (funcs : List Func) → map type_of_func funcs ≡ s.functions → map code_of_func funcs ≡ s.codes →
    parts_read s ≡ parts_of (record {
      types = s.types;
      imports = s.imports;
      funcs = funcs;
      tables = s.tables;
      memories = s.memories;
      globals = s.globals;
      exports = s.exports;
      elements = s.elements;
      segments = s.segments;
    })
parts_joined s funcs types codes =
    ap (λ fs. let p : Parts = record (parts_read s) { functions = fs } in p) (sym types) ∙
    ap (λ cs. let p : Parts = record (parts_read s) { functions = map type_of_func funcs; codes = cs } in p) (sym codes)
