-- The module of a program prints its texts and ends: the forward simulation.
use Rattle.std.proofs.Common.{◌≡◌, ◌≤◌, ℕ, zero, suc, ◌+◌, ◌*◌, List, [], ◌∷◌, ◌++◌, length, take, drop, refl, sym, ap, ◌∙◌, arith, append_assoc, length-append}
use Rattle.std.proofs.lemmas.List.{append-nil, drop-drop, length-drop}
use Rattle.std.proofs.lemmas.Bool.{le-leb}
use Rattle.std.proofs.Math.Seq.{take-append_seam, drop-append_seam}
use Rattle.std.specs.Prelude.{pos}
use Rattle.std.specs.List.{concat}
use Rattle.hph_wasm.specs.declared.instr.Instr.{Instr, I32Const, Call}
use Rattle.hph_wasm.specs.declared.module.Module.{Module}
use Rattle.hph_wasm.specs.Outcome.{End, Done, More}
use Rattle.hph_wasm.specs.Configuration.{Setting, Configuration, Running}
use Rattle.hph_wasm.specs.Reduction.{reduce}
use Rattle.hph_wasm.specs.Instantiation.{zeros, with_segments, memory_at_start}
use Rattle.hph_wasm.specs.Run.{wasm, outcome_of, start}
use Rattle.hph_php.specs.Answers.{Stop}
use Rattle.hph_effects.specs.Hosts.{HostStatus, Serving, empty_host, print}
use Rattle.hph_effects.specs.Effects.{php1}
use Rattle.hph_wasm.specs.Agrees.{Follows}
use Rattle.std.proofs.Math.Nat.{le_trans}
use Rattle.hph_lowm.specs.Layout.{pages_of, prints_from, segments_of, module_of}
use Rattle.hph_lowm.specs.Program.{php, cost}

-- reductions are made in turn, which is a law of WebAssembly's reduction
abbrev pub InTurn : Type 0
InTurn = (m : Module) (i j : ℕ) (c : Configuration HostStatus Stop) → reduce php1 m (i + j) c ≡ reduce php1 m j (reduce php1 m i c)

-- main runs, and this has been printed
abbrev printing : List ℕ → List ℕ → Setting HostStatus
printing memory output = record {
  locals = [];
  labels = [];
  frames = record { function = 1; arity = 0; values = []; rest = []; locals = []; labels = [] } ∷ [];
  store = record { host = Serving (print output empty_host); memory = memory; globals = [] };
}

module _ (in_turn : InTurn) (program : List (List ℕ)) (memory : List ℕ) where
  -- a text that lies in memory is printed in four reductions
  text_runs : (place : ℕ) (text output : List ℕ) (rest : List Instr) → place + length text ≤ length memory → take (length text) (drop place memory) ≡ text →
      reduce php1 (module_of program) 4 (Running (I32Const (pos place) ∷ I32Const (pos (length text)) ∷ Call 0 ∷ rest) [] (printing memory output)) ≡ Running rest [] (printing memory (output ++ text))
  text_runs place text output rest within lies = rw (le-leb (place + length text) (length memory) within, lies) refl

  -- what lies behind a text
  behind_text : (place : ℕ) (text others : List ℕ) → drop place memory ≡ text ++ others → drop (place + length text) memory ≡ others
  behind_text place text others lies = sym (drop-drop (length text) place memory) ∙ ap (drop (length text)) lies ∙ drop-append_seam text others

  -- a text that lies in memory ends there
  ends_within : (place : ℕ) (text others : List ℕ) → drop place memory ≡ text ++ others → place ≤ length memory → place + length text ≤ length memory
  ends_within place text others lies within = omega (arith, length-drop place memory, ap length lies, length-append text others)

  four_more : (n : ℕ) → 4 * suc n ≡ 4 + 4 * n
  four_more n = omega arith

  -- texts that lie in memory one behind the other
  texts_run : (texts : List (List ℕ)) (place : ℕ) (output others : List ℕ) → drop place memory ≡ concat texts ++ others → place ≤ length memory →
      reduce php1 (module_of program) (4 * length texts) (Running (prints_from place texts) [] (printing memory output)) ≡ Running [] [] (printing memory (output ++ concat texts))
  texts_run [] place output others lie within = ap (λ out. Running [] [] (printing memory out)) (sym (append-nil output))
  texts_run (text ∷ texts) place output others lie within =
      let behind : List ℕ = concat texts ++ others in
      let lies : drop place memory ≡ text ++ behind = lie ∙ append_assoc text (concat texts) others in
      let ends : place + length text ≤ length memory = ends_within place text behind lies within in
      let code : List Instr = prints_from place (text ∷ texts) in
      let first = text_runs place text output (prints_from (place + length text) texts) ends (ap (take (length text)) lies ∙ take-append_seam text behind) in
      let rest = texts_run texts (place + length text) (output ++ text) others (behind_text place text behind lies) ends in
      ap (λ n. reduce php1 (module_of program) n (Running code [] (printing memory output))) (four_more (length texts))
      ∙ in_turn (module_of program) 4 (4 * length texts) (Running code [] (printing memory output))
      ∙ ap (reduce php1 (module_of program) (4 * length texts)) first
      ∙ rest
      ∙ ap (λ out. Running [] [] (printing memory out)) (append_assoc output text (concat texts))

-- the memory begins with the texts
memory_lies : (pages : ℕ) (texts : List (List ℕ)) → (others : List ℕ) × (with_segments [] (segments_of texts) (zeros pages) ≡ concat texts ++ others)
memory_lies pages [] = (zeros pages, refl)
memory_lies pages (text ∷ texts) = (drop (0 + length (concat (text ∷ texts))) (zeros pages), refl)

-- the reductions that the module takes: entering main, four a text, and leaving main
reductions : List (List ℕ) → ℕ
reductions texts = 1 + (4 * length texts + 1)

-- then it has printed the texts and ended
module_ends : InTurn → (texts : List (List ℕ)) → wasm php1 (Serving empty_host) (module_of texts) (reductions texts) ≡ record { output = concat texts; end = Done }
unfolding reductions
module_ends in_turn texts =
    let memory = memory_at_start (module_of texts) in
    let lies = memory_lies (pages_of (length (concat texts))) texts in
    let main : Configuration HostStatus Stop = Running (prints_from 0 texts) [] (printing memory []) in
    ap (outcome_of php1 (module_of texts)) (
    ap (λ n. reduce php1 (module_of texts) n (start (Serving empty_host) (module_of texts) 1)) (one_more (4 * length texts + 1))
    ∙ in_turn (module_of texts) (4 * length texts) 1 main
    ∙ ap (reduce php1 (module_of texts) 1) (texts_run in_turn texts memory texts 0 [] lies.0 lies.1 (omega arith))
    )
  where
    one_more : (n : ℕ) → 1 + n ≡ suc n
    one_more n = omega arith

-- one unit pays for all of them
few : (nodes units : ℕ) → 4 * nodes + 2 ≤ cost nodes (suc units)
few nodes units = grind arith

within_cost : (texts : List (List ℕ)) (nodes units : ℕ) → length texts ≤ nodes → reductions texts ≤ cost nodes (suc units)
unfolding reductions
within_cost texts nodes units enough =
    let most = few nodes units in
    let needed : reductions texts ≤ 4 * nodes + 2 = omega (arith, enough) in
    le_trans needed most

-- a run that is done is over
done_is_not_more : ◌≡◌ {A = End Stop} Done More → ⊥
done_is_not_more same = cc

pub layout_follows : InTurn → (texts : List (List ℕ)) (nodes : ℕ) → length texts ≤ nodes → Follows (php texts) (wasm php1 (Serving empty_host) (module_of texts)) (cost nodes)
layout_follows in_turn texts nodes enough zero = (0, omega arith, refl, λ _. omega arith)
layout_follows in_turn texts nodes enough (suc units) = (reductions texts, within_cost texts nodes units enough, module_ends in_turn texts, λ goes_on. absurd (done_is_not_more goes_on))
