-- A branch and a return are rewritten by the rule of the label or the frame that they leave.
use Rattle.std.proofs.Common.{◌≡◌, ◌≤◌, ℕ, zero, suc, ◌+◌, List, [], ◌∷◌, ◌++◌, length, take, drop, ap, subst, ◌∙◌, arith}
use Rattle.std.proofs.lemmas.Bool.{eqb-true, leb-true}
use Rattle.std.specs.Prelude.{nat_eq, nat_le}
use Rattle.hph_wasm.specs.declared.instr.Instr.{Instr, Br}
use Rattle.hph_wasm.specs.declared.value.Value.{Value}
use Rattle.hph_wasm.specs.declared.module.Module.{Module}
use Rattle.hph_wasm.specs.Configuration.{Host, Label, Frame, Store, Setting, Configuration, Stuck}
use Rattle.hph_wasm.specs.Reduction.{after_return, end_of_function, end_of_code, return_step, branch_step}
use Rattle.hph_wasm.specs.Sequences.{Plain, Labelled, Framed, Sequence, Then, join, single, plain, stack, on_stack, InLabels}
use Rattle.hph_wasm.specs.Sequences as inside
use Rattle.hph_wasm.specs.Rewriting.{Rule, State, under_labels, under_frames, RewritesTo}
use Rattle.hph_wasm.specs.Rewriting as rule
use Rattle.hph_wasm.proofs.Choices.{cond-cases}
use Rattle.hph_wasm.proofs.SequenceLaws.{join-join, onto, plain-append, on_top, take-drop, take-length}
use Rattle.hph_wasm.proofs.Contexts.{whole, GoesTo, rewrites_at, leaves}

-- An instruction stands in no label, behind the values that it leaves below.
pub in_no_label : (i : Instr) (values : List Value) (rest : List Instr) (count : ℕ) →
    InLabels (on_stack (take count values) (Plain i)) 0 (join (stack values) (plain (i ∷ rest)))
in_no_label i values rest count =
    subst (InLabels (on_stack (take count values) (Plain i)) 0)
    (on_top (take count values) (drop count values) (Plain i) (plain rest) ∙
    ap (λ values. join (stack values) (plain (i ∷ rest))) (take-drop count values))
    (inside.here (drop count values) (plain rest))

-- What stands in labels stands in these too.
pub in_all_labels : (code : Sequence) (j : ℕ) (body : Sequence) (labels : List Label) → InLabels code j body →
    (k : ℕ) × InLabels code k (under_labels body labels)
in_all_labels code j body [] stands = (j, stands)
in_all_labels code j body (label ∷ labels) stands =
    in_all_labels code (suc j) (join (stack label.values) (Then (Labelled label.arity label.continuation body) (plain label.rest))) labels
    (inside.in_one label.values label.arity label.continuation (plain label.rest) j body stands)

module _ {H E : Type 0} (host : Host H E) (m : Module) where
  -- From a state to a configuration, if that goes on.
  abbrev To : State H → Configuration H E → Type 0
  To before c = GoesTo host m before c

  -- A frame that has a caller is left by a rule; where main's is left, the run is over.
  after_return_rewrites : (values : List Value) (frame : Frame) (frames : List Frame) (store : Store H) (locals : List Value) (body : Sequence) →
      Rule host m store frame.locals (single (Framed frame.arity locals body)) store frame.locals (stack values) →
      To (under_frames store locals body (frame ∷ frames)) (after_return host m frame frames values store)
  after_return_rewrites values frame [] store locals body r = tt
  after_return_rewrites values frame (caller ∷ frames) store locals body r =
      leaves host m frame.labels (caller ∷ frames) values frame.values frame.rest r

  -- The end of a function.
  end_of_function_rewrites : (values : List Value) (frames : List Frame) (store : Store H) (locals : List Value)
      (stuck : Configuration H E) → To (under_frames store locals (stack values) frames) stuck →
      To (under_frames store locals (stack values) frames) (end_of_function host m values frames store stuck)
  end_of_function_rewrites values [] store locals stuck otherwise = otherwise
  end_of_function_rewrites values (frame ∷ frames) store locals stuck otherwise =
      cond-cases (To (under_frames store locals (stack values) (frame ∷ frames))) (nat_eq frame.arity (length values))
      (after_return host m frame frames values store) stuck
      (λ all. after_return_rewrites values frame frames store locals (stack values)
      (rule.frame_end store frame.locals frame.arity locals values (eqb-true frame.arity (length values) all)))
      otherwise

  -- The end of a block or a function.
  pub end_of_code_rewrites : (values : List Value) (labels : List Label) (at : Setting H) →
      To (under_frames at.store at.locals (under_labels (stack values) labels) at.frames) (end_of_code host m values labels at)
  end_of_code_rewrites values [] at = end_of_function_rewrites values at.frames at.store at.locals (Stuck [] at) tt
  end_of_code_rewrites values (label ∷ labels) at =
      leaves host m labels at.frames values label.values label.rest
      (rule.label_end at.store at.locals label.arity label.continuation values)

  -- A frame is left with the values on top, as many as it returns.
  pub return_step_rewrites : (values : List Value) (frames : List Frame) (store : Store H) (locals : List Value) (body : Sequence)
      (stuck : Configuration H E) → ((arity : ℕ) (outer : List Value) → arity ≤ length values →
      Rule host m store outer (single (Framed arity locals body)) store outer (stack (take arity values))) →
      To (under_frames store locals body frames) stuck → To (under_frames store locals body frames) (return_step host m values frames store stuck)
  return_step_rewrites values [] store locals body stuck leave otherwise = otherwise
  return_step_rewrites values (frame ∷ frames) store locals body stuck leave otherwise =
      cond-cases (To (under_frames store locals body (frame ∷ frames))) (nat_le frame.arity (length values)) _ stuck
      (λ enough. after_return_rewrites (take frame.arity values) frame frames store locals body
      (leave frame.arity frame.locals (leb-true frame.arity (length values) enough)))
      otherwise

  module _ (n : ℕ) (values : List Value) (at : Setting H) (stuck : Configuration H E) (never : (before : State H) → To before stuck) where
    -- The label is left that stands so many further out than those that were passed.
    pub branch_step_rewrites : (k j : ℕ) (body : Sequence) (labels : List Label) → n ≡ j + k →
        ((count : ℕ) → InLabels (on_stack (take count values) (Plain (Br n))) j body) →
        To (under_frames at.store at.locals (under_labels body labels) at.frames) (branch_step host m k values labels at stuck)
    branch_step_rewrites zero j body [] passed stands =
        let all : j ≡ n = omega (arith, passed) in
        return_step_rewrites values at.frames at.store at.locals body stuck
        (λ arity outer enough. rule.branch_out at.store outer arity at.locals body n (take arity values) (take-length arity values enough)
        (subst (λ k. InLabels (on_stack (take arity values) (Plain (Br n))) k body) all (stands arity)))
        (never (under_frames at.store at.locals body at.frames))
    branch_step_rewrites (suc k) j body [] passed stands = never (under_frames at.store at.locals body at.frames)
    branch_step_rewrites zero j body (label ∷ labels) passed stands =
        let all : j ≡ n = omega (arith, passed) in
        let top = take label.arity values in
        let before = under_frames at.store at.locals (under_labels body (label ∷ labels)) at.frames in
        cond-cases (To before) (nat_le label.arity (length values)) _ stuck (λ enough.
        let after : join (stack label.values) (join (join (stack top) (plain label.continuation)) (plain label.rest)) ≡ join (stack (top ++ label.values)) (plain (label.continuation ++ label.rest)) =
        ap (join (stack label.values)) (join-join (stack top) (plain label.continuation) (plain label.rest) ∙ ap (join (stack top)) (plain-append label.continuation label.rest)) ∙
        onto top label.values (plain (label.continuation ++ label.rest)) in
        subst (λ code. RewritesTo host m before (whole host m labels at.frames at.store at.locals code)) after
        (rewrites_at host m labels at.frames label.values label.rest
        (rule.branch at.store at.locals label.arity label.continuation body n top
        (take-length label.arity values (leb-true label.arity (length values) enough))
        (subst (λ k. InLabels (on_stack top (Plain (Br n))) k body) all (stands label.arity)))))
        (never before)
    branch_step_rewrites (suc k) j body (label ∷ labels) passed stands =
        branch_step_rewrites k (suc j) (join (stack label.values) (Then (Labelled label.arity label.continuation body) (plain label.rest))) labels
        (omega (arith, passed))
        (λ count. inside.in_one label.values label.arity label.continuation (plain label.rest) j body (stands count))
