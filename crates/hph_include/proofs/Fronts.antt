-- The files of fronts, or the first fault among them.
use Rattle.std.specs.Prelude.{◌≡◌, ℕ, List, [], ◌∷◌, ◌++◌, map, Some, None, Result, Ok, Err, refl}
use Rattle.std.proofs.Common.{ap, sym, subst, ◌∙◌, ◌<◌, ◌+◌, length, get_or, take, drop}
use Rattle.std.specs.List.{AllZip}
use Rattle.std.proofs.lemmas.List.{drop_more, map-id}
use Rattle.std.proofs.Common.{take-append-drop}
use Rattle.hph_ast.specs.declared.program.File.{File}
use Rattle.hph_ast.specs.Faults.{FirstFault, none}
use Rattle.hph_include.specs.declared.fault.FrontFault.{FrontFault}
use Rattle.hph_include.specs.declared.source.Source.{Source}
use Rattle.hph_include.specs.Answers.{IsDueTo}
use Rattle.hph_include.specs.Faults.{ProgramFault, FirstOf, here, later}
use Rattle.hph_include.specs.Waves.{IsFileOf, IsFaultOf, IsFrontOf, contents_of, paths_of}
use Rattle.hph_include.proofs.OneMore.{due_weaker}

abbrev Front : Type 0
Front = Result File FrontFault

whole : (sources : List Source) (files : List File) → AllZip IsFrontOf sources (map Ok files) → AllZip IsFileOf sources files
whole [] [] h = tt
whole [] (f ∷ fs) h = absurd h
whole (s ∷ ss) [] h = absurd h
whole (s ∷ ss) (f ∷ fs) h = (h.0, whole ss fs h.1)

pub all_files : (sources : List Source) (files : List File) (fronts : List Front) → fronts ≡ map Ok files → AllZip IsFrontOf sources fronts → AllZip IsFileOf sources files
all_files sources files fronts is h = whole sources files (subst (AllZip IsFrontOf sources) is h)

faultless : (s : Source) (f : File) → IsFileOf s f → FirstFault s.bytes None
faultless s f is = subst (λ (bytes : List ℕ). FirstFault bytes None) is.bytes (none is.parsed.reads is.parsed.spells is.parsed.no_construct)

fault_here : (s : Source) (ss : List Source) (fault : ProgramFault) → IsFaultOf s fault → FirstOf (paths_of (s ∷ ss)) (contents_of (s ∷ ss)) fault
fault_here s ss fault is = subst (FirstOf (paths_of (s ∷ ss)) (contents_of (s ∷ ss))) (sym is.is) (here is.first)

first : (sources : List Source) (files : List File) (e : FrontFault) (rest : List Front) → AllZip IsFrontOf sources (map Ok files ++ Err e ∷ rest) →
    IsDueTo ⊥ (FirstOf (paths_of sources) (contents_of sources)) e
first [] [] e rest h = absurd h
first [] (f ∷ fs) e rest h = absurd h
first (s ∷ ss) [] e rest h = due_weaker (λ x. x) (fault_here s ss) e h.0
first (s ∷ ss) (f ∷ fs) e rest h = due_weaker (λ x. x) (λ fault more. later (faultless s f h.0) more) e (first ss fs e rest h.1)

-- the fault of the front at a place, where those before it are files
pub first_fault : (sources : List Source) (files : List File) (fronts yielded : List Front) (front : Front) (e : FrontFault) →
    map (λ y. y) yielded ≡ take (length yielded) fronts → yielded ≡ map Ok files → length yielded < length fronts → front ≡ get_or fronts (length yielded) front → front ≡ Err e →
    AllZip IsFrontOf sources fronts → IsDueTo ⊥ (FirstOf (paths_of sources) (contents_of sources)) e
first_fault sources files fronts yielded front e so_far are inside at is h =
    let n = length yielded in
    let split : fronts ≡ map Ok files ++ Err e ∷ drop (n + 1) fronts =
    sym (take-append-drop n fronts)
    ∙ ap (λ l. l ++ drop n fronts) (sym so_far ∙ map-id yielded ∙ are)
    ∙ ap (λ l. map Ok files ++ l) (drop_more fronts n front inside ∙ ap (λ x. x ∷ drop (n + 1) fronts) (sym at ∙ is)) in
    first sources files e (drop (n + 1) fronts) (subst (AllZip IsFrontOf sources) split h)
