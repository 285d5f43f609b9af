-- Rewritings under labels and frames.
use Rattle.std.proofs.Common.{List, [], ◌∷◌, ◌++◌, subst}
use Rattle.std.specs.Prelude.{IfSome}
use Rattle.hph_wasm.specs.declared.instr.Instr.{Instr}
use Rattle.hph_wasm.specs.declared.value.Value.{Value}
use Rattle.hph_wasm.specs.declared.module.Module.{Module}
use Rattle.hph_wasm.specs.Configuration.{Host, Label, Frame, Store, Configuration}
use Rattle.hph_wasm.specs.Sequences.{Sequence, join, plain, stack}
use Rattle.hph_wasm.specs.Rewriting.{Rule, Rewrites, here, in_label, in_frame, State, under_labels, under_frames, state_of, RewritesTo}
use Rattle.hph_wasm.proofs.SequenceLaws.{onto}

module _ {H E : Type 0} (host : Host H E) (m : Module) where
  -- A rewriting is one under labels and frames too.
  pub under_labels_rewrites : (labels : List Label) {s s' : Store H} {locals locals' : List Value} {a b : Sequence} →
      Rewrites host m s locals a s' locals' b → Rewrites host m s locals (under_labels a labels) s' locals' (under_labels b labels)
  under_labels_rewrites [] r = r
  under_labels_rewrites (label ∷ labels) r =
      under_labels_rewrites labels (in_label label.values label.arity label.continuation (plain label.rest) r)

  -- The same under frames.
  pub under_frames_rewrites : (frames : List Frame) {s s' : Store H} {locals locals' : List Value} {a b : Sequence} →
      Rewrites host m s locals a s' locals' b → RewritesTo host m (under_frames s locals a frames) (under_frames s' locals' b frames)
  under_frames_rewrites [] r = r
  under_frames_rewrites (frame ∷ frames) r =
      under_frames_rewrites frames (under_labels_rewrites frame.labels (in_frame frame.locals frame.values frame.arity (plain frame.rest) r))

  -- The same under the labels of a function and its frames.
  pub rewrites_in : (labels : List Label) (frames : List Frame) {s s' : Store H} {locals locals' : List Value} {a b : Sequence} →
      Rewrites host m s locals a s' locals' b →
      RewritesTo host m (under_frames s locals (under_labels a labels) frames) (under_frames s' locals' (under_labels b labels) frames)
  rewrites_in labels frames r = under_frames_rewrites frames (under_labels_rewrites labels r)

  -- Instructions inside the labels of a function and its frames.
  abbrev pub whole : List Label → List Frame → Store H → List Value → Sequence → State H
  whole labels frames s locals code = under_frames s locals (under_labels code labels) frames

  -- A rule at the instructions that run.
  pub rewrites_at : (labels : List Label) (frames : List Frame) {s s' : Store H} {locals locals' : List Value} {a b : Sequence}
      (values : List Value) (rest : List Instr) → Rule host m s locals a s' locals' b →
      RewritesTo host m (whole labels frames s locals (join (stack values) (join a (plain rest))))
      (whole labels frames s' locals' (join (stack values) (join b (plain rest))))
  rewrites_at labels frames values rest r = rewrites_in labels frames (here values (plain rest) r)

  -- From a state to a configuration, if that goes on.
  abbrev pub GoesTo : State H → Configuration H E → Type 0
  GoesTo before c = IfSome (state_of c) (λ after. RewritesTo host m before after)

  -- Values that a rule leaves are on the stack.
  pub leaves : (labels : List Label) (frames : List Frame) {s s' : Store H} {locals locals' : List Value} {a : Sequence}
      (top below : List Value) (rest : List Instr) → Rule host m s locals a s' locals' (stack top) →
      RewritesTo host m (whole labels frames s locals (join (stack below) (join a (plain rest))))
      (whole labels frames s' locals' (join (stack (top ++ below)) (plain rest)))
  leaves labels frames {s} {s'} {locals} {locals'} {a} top below rest r =
      subst (λ code. RewritesTo host m (whole labels frames s locals (join (stack below) (join a (plain rest)))) (whole labels frames s' locals' code))
      (onto top below (plain rest))
      (rewrites_at labels frames below rest r)
