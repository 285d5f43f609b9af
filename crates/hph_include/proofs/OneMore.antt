-- One more file that is read.
use Rattle.std.specs.Prelude.{◌≡◌, ◌≤◌, ◌<◌, ◌+◌, ℕ, List, [], ◌∷◌, ◌++◌, map, length, sum_by, refl, IfSome, IfErr, IsErrAnd, MatchOption, Option, Some, None, Result, Ok, Err, String}
use Rattle.std.proofs.Common.{ap, sym, subst, ◌∙◌, arith, take, get_or, drop, take-append-drop}
use Rattle.std.specs.String.{string_bytes}
use Rattle.std.specs.declared.alloc.Global.{Global}
use Rattle.std.proofs.lemmas.List.{map-append, take_more, drop_more}
use Rattle.std.proofs.lemmas.List.Sums.{sum_by-append, sum_by-cons}
use Rattle.hph_ast.specs.declared.refusal.LimitName.TheVariants.{FileBytes, AllBytes}
use Rattle.hph_program.specs.Program.{file_bytes_limit, all_bytes_limit}
use Rattle.hph_src.specs.Faults.{HasRisen}
use Rattle.hph_src.specs.Files.{Files, file_at}
use Rattle.hph_wave.specs.Known.{spelled}
use Rattle.hph_include.specs.declared.fault.FrontFault.{FrontFault}
use Rattle.hph_include.specs.declared.fault.FrontFault.TheVariants.{Refused, ReadFault, NoMemory}
use Rattle.hph_include.specs.declared.source.Source.{Source}
use Rattle.hph_include.specs.Answers.{IsDueTo, told_by}
use Rattle.hph_include.specs.Faults.{ProgramFault, missing, past_limit, Holds, AreRead, nothing, another, Stops, absent, long, long_together, behind}
use Rattle.hph_include.specs.Reading.{IsRead, total_of}
use Rattle.hph_include.specs.Waves.{contents_of, paths_of}

abbrev total : List (List ℕ) → ℕ
total contents = sum_by (λ bs. length bs) contents

-- the bytes of contents are those of their sources
pub total_is : (sources : List Source) → total (contents_of sources) ≡ total_of sources
total_is [] = refl
total_is (s ∷ sources) = sum_by-cons (λ bs. length bs) s.bytes (contents_of sources) ∙ ap (λ n. length s.bytes + n) (total_is sources)
    ∙ sym (sum_by-cons (λ (s : Source). length s.bytes) s sources)

moved : (before : ℕ) (first : List ℕ) (contents : List (List ℕ)) → before + total (first ∷ contents) ≡ before + length first + total contents
moved before first contents = let e = sum_by-cons (λ (bs : List ℕ). length bs) first contents in omega arith

-- one more file behind those that were read
pub read_more : {files : Files} {before : ℕ} {paths contents : List (List ℕ)} → AreRead files before paths contents →
    (path bytes : List ℕ) → Holds files (before + total contents) path bytes → AreRead files before (paths ++ path ∷ []) (contents ++ bytes ∷ [])
read_more {files} {before} nothing path bytes h = another (subst (λ (n : ℕ). Holds files n path bytes) (omega arith) h) nothing
read_more {files} {before} (another {bytes = first} {contents = contents} holds more) path bytes h =
    another holds (read_more more path bytes (subst (λ (n : ℕ). Holds files n path bytes) (moved before first contents) h))

-- why reading stops behind them
pub stops_behind : {files : Files} {before : ℕ} {paths contents : List (List ℕ)} → AreRead files before paths contents →
    (rest : List (List ℕ)) (fault : ProgramFault) → Stops files (before + total contents) rest fault → Stops files before (paths ++ rest) fault
stops_behind {files} nothing rest fault h = subst (λ (n : ℕ). Stops files n rest fault) (omega arith) h
stops_behind {files} {before} (another {bytes = first} {contents = contents} holds more) rest fault h =
    behind holds (stops_behind more rest fault (subst (λ (n : ℕ). Stops files n rest fault) (moved before first contents) h))

-- what stands behind a file that isn't read doesn't matter
stops_at_once : {files : Files} {before : ℕ} {path : List ℕ} {fault : ProgramFault} (rest : List (List ℕ)) → Stops files before (path ∷ []) fault → Stops files before (path ∷ rest) fault
stops_at_once rest (absent none) = absent none
stops_at_once rest (long holds past) = long holds past
stops_at_once rest (long_together holds short past) = long_together holds short past
stops_at_once rest (behind holds more) = elim more [ ]

spelled_parts : (paths : List (String Global)) (i : ℕ) (p : String Global) → i < length paths → p ≡ get_or paths i p →
    spelled paths ≡ spelled (take i paths) ++ (string_bytes p ∷ spelled (drop (i + 1) paths))
spelled_parts paths i p inside at =
    ap spelled (sym (take-append-drop i paths) ∙ ap (λ l. take i paths ++ l) (drop_more paths i p inside ∙ ap (λ q. q ∷ drop (i + 1) paths) (sym at)))
    ∙ map-append string_bytes (take i paths) (p ∷ drop (i + 1) paths)

pub spelled_more : (paths : List (String Global)) (i : ℕ) (p : String Global) → i < length paths → p ≡ get_or paths i p →
    spelled (take (i + 1) paths) ≡ spelled (take i paths) ++ string_bytes p ∷ []
spelled_more paths i p inside at = ap spelled (take_more paths i p inside ∙ ap (λ q. take i paths ++ q ∷ []) (sym at)) ∙ map-append string_bytes (take i paths) (p ∷ [])

-- ---- where a tree tells its files

abbrev told : Option Files → (Files → Type 0) → Type 0
told o P = IfSome o P

pub told_weaker : (o : Option Files) {P Q : Files → Type 0} → ((files : Files) → P files → Q files) → IfSome o P → IfSome o Q
told_weaker None f p = tt
told_weaker (Some files) f p = f files p

pub told_both : (o : Option Files) {P Q R : Files → Type 0} → ((files : Files) → P files → Q files → R files) → IfSome o P → IfSome o Q → IfSome o R
told_both None f p q = tt
told_both (Some files) f p q = f files p q

pub nothing_read : (o : Option Files) (before : ℕ) → IfSome o (λ files. AreRead files before [] [])
nothing_read None before = tt
nothing_read (Some files) before = nothing

pub due_weaker : {A B : Type 0} {P Q : ProgramFault → Type 0} → (A → B) → ((fault : ProgramFault) → P fault → Q fault) → (fault : FrontFault) → IsDueTo A P fault → IsDueTo B Q fault
due_weaker {P = P} {Q = Q} f h (Refused refusal) p = tells (told_by refusal) p
  where
    tells : (o : Option ProgramFault) → MatchOption o ⊥ P → MatchOption o ⊥ Q
    tells None p = p
    tells (Some fault) p = h fault p
due_weaker f h ReadFault p = f p
due_weaker f h NoMemory p = tt

pub handed_on : {A : Type 0} (P : FrontFault → Type 0) (r : Result A FrontFault) (e : FrontFault) → IsErrAnd r (λ f. f ≡ e) → P e → IfErr r P
handed_on P (Ok a) e same holds = tt
handed_on P (Err f) e same holds = subst P (sym same) holds

-- ---- one file

pub absent_stops : (o : Option Files) (before : ℕ) (path shown asked : List ℕ) → shown ≡ path → asked ≡ shown →
    IfSome o (λ files. file_at files asked ≡ None) → IfSome o (λ files. Stops files before (path ∷ []) (missing shown))
absent_stops o before path shown asked e f h = told_weaker o (λ files none. subst (λ (p : List ℕ). Stops files before (p ∷ []) (missing shown)) e (absent (subst (λ (p : List ℕ). file_at files p ≡ None) f none))) h

pub long_stops : (o : Option Files) (before : ℕ) (path shown asked : List ℕ) → shown ≡ path → asked ≡ shown →
    IfSome o (λ files. (bytes : List ℕ) × (file_at files asked ≡ Some bytes) × (file_bytes_limit < length bytes)) →
    IfSome o (λ files. Stops files before (path ∷ []) (past_limit FileBytes shown))
long_stops o before path shown asked e f h = told_weaker o (λ files w. subst (λ (p : List ℕ). Stops files before (p ∷ []) (past_limit FileBytes shown)) e
    (long (subst (λ (p : List ℕ). file_at files p ≡ Some w.0) f w.1) w.2)) h

pub together_stops : (o : Option Files) (before : ℕ) (path shown asked content old : List ℕ) → shown ≡ path → asked ≡ shown → old ≡ [] → all_bytes_limit < before + length content →
    IfSome o (λ files. (bytes : List ℕ) × (file_at files asked ≡ Some bytes) × (length bytes ≤ file_bytes_limit) × (content ≡ old ++ bytes)) →
    IfSome o (λ files. Stops files before (path ∷ []) (past_limit AllBytes shown))
together_stops o before path shown asked content old e f none past h = told_weaker o (λ files w.
    let same : content ≡ w.0 = w.3 ∙ ap (λ l. l ++ w.0) none in
    subst (λ (p : List ℕ). Stops files before (p ∷ []) (past_limit AllBytes shown)) e
    (long_together (subst (λ (p : List ℕ). file_at files p ≡ Some w.0) f w.1) w.2 (subst (λ (bs : List ℕ). all_bytes_limit < before + length bs) same past))) h

-- ---- one file of several

pub stops_in : {files : Files} {before now : ℕ} (paths : List (String Global)) (i : ℕ) (p : String Global) {shown : List ℕ} (sources : List Source) {fault : ProgramFault} →
    AreRead files before (spelled (take i paths)) (contents_of sources) → now ≡ before + total_of sources → i < length paths → p ≡ get_or paths i p → shown ≡ string_bytes p →
    Stops files now (shown ∷ []) fault → Stops files before (spelled paths) fault
stops_in {files} {before} {now} paths i p {shown} sources {fault} read count inside at is h =
    subst (λ (ps : List (List ℕ)). Stops files before ps fault) (sym (spelled_parts paths i p inside at))
    (stops_behind read _ fault (subst (λ (n : ℕ). Stops files n (string_bytes p ∷ spelled (drop (i + 1) paths)) fault) (count ∙ ap (λ n. before + n) (sym (total_is sources)))
    (stops_at_once _ (subst (λ (q : List ℕ). Stops files now (q ∷ []) fault) is h))))

pub read_in : {files : Files} {before now : ℕ} (paths : List (String Global)) (i : ℕ) (p : String Global) {shown : List ℕ} (sources : List Source) {after : List Source} (source : Source) →
    AreRead files before (spelled (take i paths)) (contents_of sources) → now ≡ before + total_of sources → i < length paths → p ≡ get_or paths i p → shown ≡ string_bytes p →
    after ≡ sources ++ source ∷ [] → IsRead files now shown source → AreRead files before (spelled (take (i + 1) paths)) (contents_of after)
read_in {files} {before} {now} paths i p {shown} sources {after} source read count inside at is more h =
    subst (λ (ps : List (List ℕ)). AreRead files before ps (contents_of after)) (sym (spelled_more paths i p inside at))
    (subst (AreRead files before (spelled (take i paths) ++ string_bytes p ∷ [])) (sym (ap contents_of more ∙ map-append (λ (s : Source). s.bytes) sources (source ∷ [])))
    (read_more read (string_bytes p) source.bytes
    (subst (λ (q : List ℕ). Holds files (before + total (contents_of sources)) q source.bytes) is
    (subst (λ (n : ℕ). Holds files n shown source.bytes) (count ∙ ap (λ n. before + n) (sym (total_is sources))) h))))

pub count_more : (start now after : ℕ) (sources all : List Source) (source : Source) → now ≡ start + total_of sources → after ≡ now + length source.bytes → all ≡ sources ++ source ∷ [] →
    after ≡ start + total_of all
count_more start now after sources all source e f is =
    let both = sum_by-append (λ (s : Source). length s.bytes) sources (source ∷ []) in
    let more : total_of all ≡ total_of sources + length source.bytes = ap total_of is ∙ both ∙ omega arith in
    omega arith

pub paths_more : (paths : List (String Global)) (i : ℕ) (p : String Global) (shown : List ℕ) (sources all : List Source) (source : Source) → i < length paths → p ≡ get_or paths i p →
    shown ≡ string_bytes p → all ≡ sources ++ source ∷ [] → paths_of sources ≡ spelled (take i paths) → string_bytes source.path ≡ shown → paths_of all ≡ spelled (take (i + 1) paths)
paths_more paths i p shown sources all source inside at is more same one =
    ap paths_of more ∙ map-append (λ (s : Source). string_bytes s.path) sources (source ∷ []) ∙ ap (λ l. l ++ string_bytes source.path ∷ []) same
    ∙ ap (λ q. spelled (take i paths) ++ q ∷ []) (one ∙ is) ∙ sym (spelled_more paths i p inside at)

pub risen_since : (start before now : ℕ) → start ≤ before → HasRisen before now → HasRisen start now
risen_since start before now le risen small = let r = risen small in omega arith
