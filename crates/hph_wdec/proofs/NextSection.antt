-- The section that may stand next, by its first byte (Core Specification 1.0, 5.5.2 and 5.5.15).
use Rattle.std.proofs.Common.{◌≡◌, ◌<◌, ◌≤◌, inl, inr, ◌∙◌, ℕ, suc, ◌+◌, List, [], ◌∷◌, ◌++◌, length, refl, sym, ap, subst, arith, length-append, Some, None}
use Rattle.std.specs.Prelude.{nat_eq, if◌then◌else◌, IsUtf8}
use Rattle.hph_wasm.specs.Leb128.{Unsigned}
use Rattle.hph_wasm.specs.Grammar.{Grammar, Byte, Bytes, Sized}
use Rattle.hph_wasm.specs.OneWay.{OneForm}
use Rattle.hph_wasm.specs.ModuleGrammar.{RawSection, BeginsWithName, Parts}
use Rattle.hph_wasm.specs.Reading.{Content}
use Rattle.hph_wasm.specs.Unsupported.{Stop, Any, Nowhere, Behind, AtByte, Kind, Types, Imports, Functions, Tables, Memories, Globals, Exports, ElementSegments, Codes, DataSegments, number_of, start_section}
use Rattle.hph_wasm.specs.declared.feature.Feature.{Feature}
use Rattle.hph_wasm.specs.declared.feature.Feature.TheVariants.{Start}
use Rattle.hph_wread.specs.declared.fault.Fault.{Fault}
use Rattle.hph_wread.specs.declared.fault.Fault.TheVariants.{Malformed, Unsupported, NoMemory}
use Rattle.hph_wread.specs.Reading.{Took, Fails}
use Rattle.hph_wread.proofs.Combinators.{took_then, fails_map}
use Rattle.hph_wread.proofs.Tagged.{took_byte, byte_took, byte_stop, no_byte_stop, stop_behind_byte, tagged_fails}
use Rattle.hph_wread.proofs.Vectors.{took_alike}
use Rattle.hph_wdec.specs.Next.{CustomContent, ContentOf, StopsSized, Gives, FollowsAfter, NextIs, Next, StopsNext}

-- ---- numbers of kinds

-- each kind by its number
kind_at : ℕ → Kind
kind_at n = if nat_eq n 1 then Types else if nat_eq n 2 then Imports else if nat_eq n 3 then Functions else if nat_eq n 4 then Tables
    else if nat_eq n 5 then Memories else if nat_eq n 6 then Globals else if nat_eq n 7 then Exports else if nat_eq n 9 then ElementSegments
    else if nat_eq n 10 then Codes else DataSegments

kind_of_number : (kind : Kind) → kind_at (number_of kind) ≡ kind
unfolding kind_at
kind_of_number Types = refl
kind_of_number Imports = refl
kind_of_number Functions = refl
kind_of_number Tables = refl
kind_of_number Memories = refl
kind_of_number Globals = refl
kind_of_number Exports = refl
kind_of_number ElementSegments = refl
kind_of_number Codes = refl
kind_of_number DataSegments = refl

-- no two kinds have one number
pub one_kind : (k k' : Kind) → number_of k ≡ number_of k' → k ≡ k'
one_kind k k' e = sym (kind_of_number k) ∙ ap kind_at e ∙ kind_of_number k'

-- none has the number of a custom section, or of a start section
pub not_custom : (kind : Kind) → ¬ (number_of kind ≡ 0)
not_custom Types e = omega arith
not_custom Imports e = omega arith
not_custom Functions e = omega arith
not_custom Tables e = omega arith
not_custom Memories e = omega arith
not_custom Globals e = omega arith
not_custom Exports e = omega arith
not_custom ElementSegments e = omega arith
not_custom Codes e = omega arith
not_custom DataSegments e = omega arith

pub not_start : (kind : Kind) → ¬ (number_of kind ≡ 8)
not_start Types e = omega arith
not_start Imports e = omega arith
not_start Functions e = omega arith
not_start Tables e = omega arith
not_start Memories e = omega arith
not_start Globals e = omega arith
not_start Exports e = omega arith
not_start ElementSegments e = omega arith
not_start Codes e = omega arith
not_start DataSegments e = omega arith

-- ---- the first byte

-- what stands behind a section's number
section_behind : (number : ℕ) {bytes mid rest : List ℕ} → bytes ≡ number ∷ mid → (section : ℕ × List ℕ) → Took (RawSection section) bytes rest →
    (number ≡ section.0) × Took (Bytes section.1) mid rest
section_behind number is section p = let s = byte_took number section.0 (Bytes section.1) is p in (s.same, s.behind)

-- a stop behind a number
stop_inside : (number id : ℕ) (S : Stop) {bytes mid : List ℕ} → bytes ≡ number ∷ mid → (place : ℕ) (feature : Feature) →
    Behind (Byte id) S place feature bytes → (number ≡ id) × (before : ℕ) × S before feature mid
stop_inside number id S is place feature b = let s = byte_stop number id S is place feature b in (s.same, s.before, s.stops)

-- the start section's byte
start_byte : (number : ℕ) {mid : List ℕ} {bytes : List ℕ} → bytes ≡ number ∷ mid → (place : ℕ) (feature : Feature) → AtByte start_section place feature bytes → number ≡ 8
start_byte number {mid} is place feature t =
    let here : AtByte start_section place feature (number ∷ mid) = subst (AtByte start_section place feature) is t in
    is_eight number feature here.1
  where
    is_eight : (n : ℕ) (feature : Feature) → (if nat_eq n 8 then Some Start else None) ≡ Some feature → n ≡ 8
    is_eight n feature e = grind arith

-- ---- what may stand next

-- nothing stands there
pub next_nothing : (p : Parts) (last : ℕ) {bytes : List ℕ} → bytes ≡ [] → Fails (Next p last) (StopsNext p last) bytes (Malformed (length bytes))
next_nothing p last {bytes} is = record {
  reason = (
    omega arith,
    record {
      none = λ rest q.
          let two = q.spelled.2.1 in
          let flat : [] ≡ q.spelled.2.0.0 ∷ (two.rest ++ rest) =
          sym is ∙ q.split ∙ ap (λ l. l ++ rest) two.split ∙ ap (λ l. (l ++ two.rest) ++ rest) two.first in
          let no : ⊥ = cc in no;
      nowhere = λ place feature t. nothing_stops place feature t;
    },
  );
}
  where
    nothing_stops : (place : ℕ) (feature : Feature) → ¬ StopsNext p last place feature bytes
    nothing_stops place feature (inl (kind, above, b)) =
        no_byte_stop (number_of kind) (StopsSized kind p) is place feature b
    nothing_stops place feature (inr (above, t)) = subst (AtByte start_section place feature) is t

-- a number that no section may have that stands there
pub next_other : (p : Parts) (last number : ℕ) {bytes mid : List ℕ} → bytes ≡ number ∷ mid → ¬ (number ≡ 0) →
    ((kind : Kind) → last < number_of kind → ¬ (number_of kind ≡ number)) → (last < 8 → ¬ (number ≡ 8)) →
    Fails (Next p last) (StopsNext p last) bytes (Malformed (length bytes))
next_other p last number {bytes} {mid} is custom kinds start = record {
  reason = (
    omega arith,
    record {
      none = λ rest q. no_section rest q.spelled.0 q.spelled.1 q.spelled.2.0 (record { front = q.front; split = q.split; spelled = q.spelled.2.1 }) q.spelled.2.2;
      nowhere = λ place feature t. no_stop place feature t;
    },
  );
}
  where
    no_section : (rest : List ℕ) (q : Parts) (next : ℕ) (section : ℕ × List ℕ) → Took (RawSection section) bytes rest → FollowsAfter p last section q next → ⊥
    no_section rest q next section raw (inl f) = custom ((section_behind number is section raw).0 ∙ f.0)
    no_section rest q next section raw (inr f) = kinds f.0 f.2 (sym f.1 ∙ sym (section_behind number is section raw).0)

    no_stop : (place : ℕ) (feature : Feature) → ¬ StopsNext p last place feature bytes
    no_stop place feature (inl (kind, above, b)) = kinds kind above (sym (stop_inside number (number_of kind) (StopsSized kind p) is place feature b).0)
    no_stop place feature (inr (above, t)) = start above (start_byte number is place feature t)

-- a start section
pub next_start : (p : Parts) (last : ℕ) {bytes mid : List ℕ} → bytes ≡ 8 ∷ mid → last < 8 →
    Fails (Next p last) (StopsNext p last) bytes (Unsupported (length bytes) Start)
next_start p last {bytes} {mid} is above = record {
  reason = record {
    place = 0;
    counted = omega arith;
    stops = inr (above, subst (AtByte start_section 0 Start) (sym is) (refl, refl));
  };
}

-- a custom section
pub next_custom : (p : Parts) (last : ℕ) {bytes mid rest : List ℕ} → bytes ≡ 0 ∷ mid → Took CustomContent mid rest → Took (NextIs p last p last) bytes rest
next_custom p last {bytes} {mid} {rest} is c =
    let content = c.spelled.0 in
    let raw : Took (RawSection (0, content)) bytes rest = took_then (took_byte 0 is) (record { front = c.front; split = c.split; spelled = c.spelled.1 }) in
    record { front = raw.front; split = raw.split; spelled = ((0, content), raw.spelled, inl (refl, c.spelled.2, refl, refl)) }

pub custom_missing : (p : Parts) (last : ℕ) {bytes mid : List ℕ} → bytes ≡ 0 ∷ mid → (e : Fault) → Fails CustomContent Nowhere mid e →
    Fails (Next p last) (StopsNext p last) bytes e
custom_missing p last {bytes} {mid} is e f = tagged_fails 0 is
    (λ rest q. took rest q.spelled.0 q.spelled.1 q.spelled.2.0 (record { front = q.front; split = q.split; spelled = q.spelled.2.1 }) q.spelled.2.2)
    (λ place feature t. absurd t) (λ place feature t. stop place feature t) e f
  where
    took : (rest : List ℕ) (q : Parts) (next : ℕ) (section : ℕ × List ℕ) → Took (RawSection section) bytes rest → FollowsAfter p last section q next → Took CustomContent mid rest
    took rest q next section raw (inl f) =
        let behind = (section_behind 0 is section raw).1 in
        record { front = behind.front; split = behind.split; spelled = (section.1, behind.spelled, f.1) }
    took rest q next section raw (inr f) = absurd (not_custom f.0 (sym f.1 ∙ sym (section_behind 0 is section raw).0))

    stop : (place : ℕ) (feature : Feature) → StopsNext p last place feature bytes → (before : ℕ) × Nowhere before feature mid
    stop place feature (inl (kind, above, b)) = absurd (not_custom kind (sym (stop_inside 0 (number_of kind) (StopsSized kind p) is place feature b).0))
    stop place feature (inr (above, t)) = absurd (omega (arith, start_byte 0 is place feature t))

-- another section
sized_bytes : {P : Grammar} (front : List ℕ) → Sized P front → (content : List ℕ) × Bytes content front × P content
sized_bytes front s = (s.body, record { front = s.size; rest = s.body; split = s.split; first = s.counted; second = refl }, s.inside)

bytes_sized : (P : Grammar) (content front : List ℕ) → Bytes content front → P content → Sized P front
bytes_sized P content front b inside = record {
  size = b.front;
  body = b.rest;
  split = b.split;
  counted = subst (λ l. Unsigned 32 (length l) b.front) (sym b.second) b.first;
  inside = subst P (sym b.second) inside;
}

pub next_content : (p q : Parts) (last number : ℕ) (kind : Kind) {bytes mid rest : List ℕ} → bytes ≡ number ∷ mid → number_of kind ≡ number → last < number →
    Took (Gives kind p q) mid rest → Took (NextIs p last q number) bytes rest
next_content p q last number kind {bytes} {mid} {rest} is own above g =
    let xs = g.spelled.0 in
    let content = sized_bytes g.front g.spelled.3 in
    let raw : Took (RawSection (number, content.0)) bytes rest =
    took_then (took_byte number is) (record { front = g.front; split = g.split; spelled = content.1 }) in
    record {
      front = raw.front;
      split = raw.split;
      spelled = ((number, content.0), raw.spelled, inr (kind, sym own, omega (arith, own, above), xs, content.2, g.spelled.1, g.spelled.2, sym own));
    }

-- its content isn't there
pub content_missing : (p : Parts) (last number : ℕ) (kind : Kind) {bytes mid : List ℕ} → bytes ≡ number ∷ mid → number_of kind ≡ number → last < number →
    (e : Fault) → Fails (ContentOf kind p) (StopsSized kind p) mid e → Fails (Next p last) (StopsNext p last) bytes e
content_missing p last number kind {bytes} {mid} is own above e f = tagged_fails number is
    (λ rest q. took rest q.spelled.0 q.spelled.1 q.spelled.2.0 (record { front = q.front; split = q.split; spelled = q.spelled.2.1 }) q.spelled.2.2)
    (λ place feature t. inl (
      kind,
      omega (arith, own, above),
      subst (λ n. Behind (Byte n) (StopsSized kind p) (suc place) feature bytes) (sym own)
          (stop_behind_byte number (StopsSized kind p) is place feature t),
    ))
    (λ place feature t. stop place feature t) e f
  where
    took : (rest : List ℕ) (q : Parts) (next : ℕ) (section : ℕ × List ℕ) → Took (RawSection section) bytes rest → FollowsAfter p last section q next →
        Took (ContentOf kind p) mid rest
    took rest q next section raw (inl f) = absurd (not_custom kind (own ∙ (section_behind number is section raw).0 ∙ f.0))
    took rest q next section raw (inr (k, named, over, xs, content, code, same, next_is)) =
        let behind = section_behind number is section raw in
        let one : k ≡ kind = one_kind k kind (sym named ∙ sym behind.0 ∙ sym own) in
        let there : Took (ContentOf k p) mid rest = record {
          front = behind.1.front;
          split = behind.1.split;
          spelled = (xs, code, bytes_sized (Content k xs) section.1 behind.1.front behind.1.spelled content);
        } in
        subst (λ k. Took (ContentOf k p) mid rest) one there

    stop : (place : ℕ) (feature : Feature) → StopsNext p last place feature bytes → (before : ℕ) × StopsSized kind p before feature mid
    stop place feature (inl (k, over, b)) =
        let inside = stop_inside number (number_of k) (StopsSized k p) is place feature b in
        let one : k ≡ kind = one_kind k kind (sym inside.0 ∙ sym own) in
        (inside.1, subst (λ k. StopsSized k p inside.1 feature mid) one inside.2)
    stop place feature (inr (over, t)) = absurd (not_start kind (own ∙ start_byte number is place feature t))

-- ---- the content of custom sections

-- their bytes aren't there
pub custom_bytes : {bytes : List ℕ} (e : Fault) → Fails (Any Bytes) Nowhere bytes e → Fails CustomContent Nowhere bytes e
custom_bytes e f = fails_map (λ front q. (q.0, q.1, tt)) (λ place feature n. n) (λ place feature n. n) e f

-- a name is bytes
pub bytes_in : {content : List ℕ} → BeginsWithName content → (more : List ℕ) × Took (Any Bytes) content more
bytes_in b = let r = b.2 in (r.rest, record { front = r.front; split = r.split; spelled = (b.0, r.first.1, tt) })

-- they don't begin with a name
pub custom_unnamed : {bytes rest : List ℕ} → OneForm Bytes → (content : List ℕ) → Took (Bytes content) bytes rest → ¬ BeginsWithName content →
    (left : ℕ) → left ≤ length bytes → Fails CustomContent Nowhere bytes (Malformed left)
custom_unnamed o content p unnamed left within = record {
  reason = (
    within,
    record {
      none = λ after q.
          let same = took_alike o content q.spelled.0 p (record { front = q.front; split = q.split; spelled = q.spelled.1 }) in
          unnamed (subst BeginsWithName (sym same.thing) q.spelled.2);
      nowhere = λ place feature n. n;
    },
  );
}

-- the bytes that are left where they begin
pub content_within : {bytes rest : List ℕ} (content : List ℕ) → Took (Bytes content) bytes rest → length content + length rest ≤ length bytes
content_within {bytes} {rest} content p =
    let b = p.spelled in
    omega (arith, ap length p.split, length-append p.front rest, ap length b.split, length-append b.front b.rest, ap length b.second)

-- there is no name
pub custom_nameless : {bytes rest : List ℕ} → OneForm Bytes → (content : List ℕ) → Took (Bytes content) bytes rest → (left : ℕ) →
    Fails (Any Bytes) Nowhere content (Malformed left) → (more : ℕ) → more ≤ length bytes → Fails CustomContent Nowhere bytes (Malformed more)
custom_nameless o content p left f more within =
    custom_unnamed o content p (λ named. let there = bytes_in named in f.reason.1.none there.0 there.1) more within

pub custom_name : {bytes rest : List ℕ} → OneForm Bytes → (content : List ℕ) → Took (Bytes content) bytes rest → (e : Fault) →
    Fails (Any Bytes) Nowhere content e → Fails CustomContent Nowhere bytes e
custom_name o content p (Malformed left) f = custom_nameless o content p left f left (omega (arith, f.reason.0, content_within content p))
custom_name o content p (Unsupported left feature) f = absurd f.reason.stops
custom_name o content p NoMemory f = record { reason = tt }

pub custom_took : {bytes rest : List ℕ} (content : List ℕ) → Took (Bytes content) bytes rest → BeginsWithName content → Took CustomContent bytes rest
custom_took content p named = record { front = p.front; split = p.split; spelled = (content, p.spelled, named) }

pub named_content : {content more : List ℕ} (name : List ℕ) → Took (Bytes name) content more → IsUtf8 name → BeginsWithName content
named_content {content} {more} name p text =
    (name, more, record { front = p.front; rest = more; split = p.split; first = (text, p.spelled); second = refl })

pub name_is : {content more : List ℕ} → OneForm Bytes → (name : List ℕ) → Took (Bytes name) content more → BeginsWithName content → IsUtf8 name
name_is {content} o name p b =
    let r = b.2 in
    let other : Took (Bytes b.0) content r.rest = record { front = r.front; split = r.split; spelled = r.first.1 } in
    subst IsUtf8 (sym (took_alike o name b.0 p other).thing) r.first.0
