-- Branches and returns.
use Rattle.std.proofs.Common.{◌≡◌, ◌∙◌, ◌≤◌, ◌<◌, ◌+◌, ℕ, zero, suc, List, [], ◌∷◌, ◌++◌, Bool, true, false, Option, Some, None, length, take, drop, refl, sym, ap, subst, arith}
use Rattle.std.specs.Prelude.{slice_get, option_to_list}
use Rattle.std.proofs.lemmas.Bool.{le-leb, lt-leb, ne_eqb, eq-eqb}
use Rattle.std.proofs.lemmas.Option.{slice_get_within}
use Rattle.hph_wasm.specs.declared.instr.Instr.{Instr, Br}
use Rattle.hph_wasm.specs.declared.instr.Instr.TheViews as view
use Rattle.hph_wasm.specs.declared.types.BlockType.{BlockType}
use Rattle.hph_wasm.specs.declared.value.Value.{Value}
use Rattle.hph_wasm.specs.declared.module.Module.{Module}
use Rattle.hph_wasm.specs.Configuration.{Host, Label, Frame, Setting, Configuration, Running, Calling, Trapped, Stuck}
use Rattle.hph_wasm.specs.Reduction.{step, after_call, after_return, return_step, branch_step}
use Rattle.std.proofs.lemmas.List.{append-nil}
use Rattle.hph_wasm.proofs.Rows.{step-loop}
use Rattle.hph_wstate.specs.declared.layers.Side.TheVariants.{Loop}
use Rattle.hph_wstate.specs.Core.{Core, count, label_around}
use Rattle.std.proofs.Common.{◌⊎◌, inl, inr, ◌≢◌, ◌-◌, get_or}
use Rattle.std.proofs.Math.Seq.{take-length}
use Rattle.hph_wasm.specs.Reduction.{end_of_code, end_of_function}
use Rattle.hph_wmach.specs.declared.next.Next.{Next}
use Rattle.hph_wmach.specs.declared.next.Next.TheVariants.{Goes, Calls, Branches, Traps, Ends, NoMemory}
use Rattle.hph_wstate.specs.Changes.{Outside, Left, TellsLabel, TellsFrame, Kept}
use Rattle.hph_wstate.specs.Standing.{store_of, setting, running}
use Rattle.hph_wmach.specs.Reached.{Stood, Reached, ReachedOn}

module _ {H E : Type 0} (host : Host H E) (m : Module) where
  pub loop_done : (ty : BlockType) (body code here : List Instr) (values : List Value) (at : Setting H) → here ≡ view.Loop ty body ∷ code →
      step host m (Running (view.Loop ty body ∷ code) values at) ≡
      Running body [] (record at { labels = label_around Loop false here values ∷ at.labels })
  loop_done ty body code here values at e = step-loop host m ty body code values at ∙
      ap (λ (here : List Instr). Running body [] (record at { labels = label_around Loop false here values ∷ at.labels })) (sym e)

  pub branch_taken : (k : ℕ) (values : List Value) (labels : List Label) (at : Setting H) (stuck : Configuration H E) (label : Label) →
      slice_get labels k ≡ Some label → label.arity ≤ length values →
      branch_step host m k values labels at stuck ≡
      Running (label.continuation ++ label.rest) (take label.arity values ++ label.values) (record at { labels = drop (k + 1) labels })
  branch_taken k values [] at stuck label e h = let no : ⊥ = cc in absurd no
  branch_taken zero values (l ∷ ls) at stuck label e h = let same : l ≡ label = cc in
      rw (same, le-leb label.arity (length values) h) refl
  branch_taken (suc k) values (l ∷ ls) at stuck label e h = let next : suc k + 1 ≡ suc (k + 1) = omega arith in
      rw next (branch_taken k values ls at stuck label e h)

  pub branch_out : (k : ℕ) (values : List Value) (labels : List Label) (at : Setting H) (stuck : Configuration H E) → k ≡ length labels →
      branch_step host m k values labels at stuck ≡ return_step host m values at.frames at.store stuck
  branch_out zero values [] at stuck e = refl
  branch_out (suc k) values [] at stuck e = absurd (omega arith)
  branch_out zero values (l ∷ ls) at stuck e = absurd (omega arith)
  branch_out (suc k) values (l ∷ ls) at stuck e = branch_out k values ls at stuck (omega arith)

  pub branch_past : (k : ℕ) (values : List Value) (labels : List Label) (at : Setting H) (stuck : Configuration H E) → length labels < k →
      branch_step host m k values labels at stuck ≡ stuck
  branch_past zero values labels at stuck h = absurd (omega arith)
  branch_past (suc k) values [] at stuck h = refl
  branch_past (suc k) values (l ∷ ls) at stuck h = branch_past k values ls at stuck (omega arith)

  label_at : (k : ℕ) (labels : List Label) (label : Label) → slice_get labels k ≡ Some label → drop k labels ≡ label ∷ drop (k + 1) labels
  label_at k [] label e = let no : ⊥ = cc in absurd no
  label_at zero (l ∷ ls) label e = let same : l ≡ label = cc in ap (λ x. x ∷ ls) same
  label_at (suc k) (l ∷ ls) label e = let next : suc k + 1 ≡ suc (k + 1) = omega arith in rw next (label_at k ls label e)

  -- What the machine does at a branch.
  pub branch_done : (old a b c new : Core) (k : ℕ) (gives : Bool) (kept : Option Value) (r : Bool) → TellsLabel old.labels k (Some gives) →
      Kept gives old (Some kept) a → b ≡ record a { labels = drop k a.labels } → Outside b true r c →
      new ≡ record c { values = option_to_list kept ++ c.values } → (state : H) (stuck : Configuration H E) →
      branch_step host m k old.values old.labels (setting old state) stuck ≡ running new state
  branch_done old a b c new k gives kept false (label, at, same) (few, tops, p) q (none, r) s state stuck =
      let there : b.labels ≡ label ∷ drop (k + 1) old.labels =
      ap (λ (x : Core). x.labels) q ∙ (ap (λ (x : Core). drop k x.labels) p ∙ label_at k old.labels label at) in
      let no : ⊥ = cc in absurd no
  branch_done old a b c new k gives kept true (label, at, same) (few, tops, p) q (l, ls, e, r) s state stuck =
      let there : b.labels ≡ label ∷ drop (k + 1) old.labels =
      ap (λ (x : Core). x.labels) q ∙ (ap (λ (x : Core). drop k x.labels) p ∙ label_at k old.labels label at) in
      let first : l ≡ label = cc in
      let rest : ls ≡ drop (k + 1) old.labels = cc in
      let b_is : b ≡ record old { values = []; labels = drop k old.labels } = q ∙ ap (λ (x : Core). record x { labels = drop k x.labels }) p in
      let c_is : c ≡ record old { code = label.continuation ++ label.rest; values = label.values; labels = drop (k + 1) old.labels } =
      r ∙ (ap (λ (x : Core). record x { code = l.continuation ++ l.rest; values = x.values ++ l.values; labels = ls }) b_is ∙
      (ap (λ (x : Label). record old { code = x.continuation ++ x.rest; values = x.values; labels = ls }) first ∙
      ap (λ (xs : List Label). record old { code = label.continuation ++ label.rest; values = label.values; labels = xs }) rest)) in
      let new_is : new ≡ record old { code = label.continuation ++ label.rest; values = option_to_list kept ++ label.values; labels = drop (k + 1) old.labels } =
      s ∙ ap (λ (x : Core). record x { values = option_to_list kept ++ x.values }) c_is in
      let taken : take label.arity old.values ≡ option_to_list kept = ap (λ n. take n old.values) same ∙ tops in
      branch_taken k old.values old.labels (setting old state) stuck label at (subst (λ n. n ≤ length old.values) (sym same) few) ∙
      (ap (λ (vs : List Value). Running (label.continuation ++ label.rest) (vs ++ label.values) (record (setting old state) { labels = drop (k + 1) old.labels })) taken ∙
      ap (λ (x : Core). running x state) (sym new_is))

  branch_short : (k : ℕ) (values : List Value) (labels : List Label) (at : Setting H) (stuck : Configuration H E) (label : Label) →
      slice_get labels k ≡ Some label → length values < label.arity → branch_step host m k values labels at stuck ≡ stuck
  branch_short k values [] at stuck label e h = let no : ⊥ = cc in absurd no
  branch_short zero values (l ∷ ls) at stuck label e h = let same : l ≡ label = cc in
      rw (same, lt-leb label.arity (length values) h) refl
  branch_short (suc k) values (l ∷ ls) at stuck label e h = branch_short k values ls at stuck label e h

  pub branch_short_done : (old new : Core) (k : ℕ) (gives : Bool) → TellsLabel old.labels k (Some gives) → Kept gives old None new →
      (state : H) (trap stuck : Configuration H E) →
      Reached (branch_step host m k old.values old.labels (setting old state) stuck) trap stuck Traps old new state
  branch_short_done old new k gives (label, at, same) (few, p) state trap stuck = (
    inr (branch_short k old.values old.labels (setting old state) stuck label at (subst (λ n. length old.values < n) (sym same) few)),
    (ap (λ (x : Core). x.code) p, ap (λ (x : Core). x.labels) p, ap (λ (x : Core). x.frames) p),
  )

  pub branch_out_done : (old : Core) (k n : ℕ) (next : Next) (new : Core) → k ≡ n → n ≡ length old.labels → (state : H) (trap stuck : Configuration H E) →
      Reached (return_step host m old.values old.frames (store_of old state) stuck) trap stuck next old new state →
      Reached (branch_step host m k old.values old.labels (setting old state) stuck) trap stuck next old new state
  branch_out_done old k n next new e f state trap stuck r =
      subst (λ (c : Configuration H E). Reached c trap stuck next old new state)
      (sym (branch_out k old.values old.labels (setting old state) stuck (e ∙ f))) r

  pub branch_past_done : (old : Core) (k n : ℕ) → length old.labels ≤ k → (k ≢ n) → n ≡ length old.labels → (state : H) (trap stuck : Configuration H E) →
      Reached (branch_step host m k old.values old.labels (setting old state) stuck) trap stuck Traps old old state
  branch_past_done old k n h ne e state trap stuck =
      let past : length old.labels < k = omega arith in
      (inr (branch_past k old.values old.labels (setting old state) stuck past), (refl, refl, refl))

  -- What goes on goes on.
  reached : (c trap stuck : Configuration H E) (next : Next) (old new : Core) (state : H) → ReachedOn c next new state →
      Reached c trap stuck next old new state
  reached c trap stuck Goes old new state r = r
  reached c trap stuck (Calls f) old new state r = absurd r
  reached c trap stuck (Branches k) old new state r = absurd r
  reached c trap stuck Traps old new state r = absurd r
  reached c trap stuck Ends old new state r = r
  reached c trap stuck NoMemory old new state r = r

  pub leave_done : (old new : Core) (r : Bool) (next : Next) (state : H) → Left old r new →
      ReachedOn (after_call host m new.frames new.code new.values (setting new state)) next new state →
      (frame : Frame) (frames : List Frame) → old.frames ≡ frame ∷ frames →
      ReachedOn (after_return host m frame frames old.values (store_of old state)) next new state
  leave_done old new false next state (none, p) h frame frames e = let no : ⊥ = cc in absurd no
  leave_done old new true next state (f, fs, e, p) h frame frames e2 =
      let first : f ≡ frame = cc in
      let rest : fs ≡ frames = cc in
      let new_is : new ≡ record { code = frame.rest; values = old.values ++ frame.values; locals = frame.locals; labels = frame.labels; frames = frames; memory = old.memory; globals = old.globals } =
      p ∙ (ap (λ (f : Frame). record { code = f.rest; values = old.values ++ f.values; locals = f.locals; labels = f.labels; frames = fs; memory = old.memory; globals = old.globals }) first ∙
      ap (λ (fs : List Frame). record { code = frame.rest; values = old.values ++ frame.values; locals = frame.locals; labels = frame.labels; frames = fs; memory = old.memory; globals = old.globals }) rest) in
      let same : after_call host m new.frames new.code new.values (setting new state) ≡ after_return host m frame frames old.values (store_of old state) =
      ap (λ (x : Core). after_call host m x.frames x.code x.values (setting x state)) new_is in
      subst (λ (c : Configuration H E). ReachedOn c next new state) same h

  pub give_back_done : (old a b d new : Core) (n : ℕ) (gives : Bool) (kept : Option Value) (next : Next) (state : H) (trap stuck : Configuration H E) →
      TellsFrame old.frames (Some gives) → Kept gives old (Some kept) a → b ≡ record a { labels = drop n a.labels } →
      d ≡ record b { values = option_to_list kept ++ b.values } →
      ((frame : Frame) (frames : List Frame) → d.frames ≡ frame ∷ frames → ReachedOn (after_return host m frame frames d.values (store_of d state)) next new state) →
      Reached (return_step host m old.values old.frames (store_of old state) stuck) trap stuck next old new state
  give_back_done old a b d new n gives kept next state trap stuck (frame, frames, e, same) (few, tops, p) q r h =
      let d_frames : d.frames ≡ frame ∷ frames = ap (λ (x : Core). x.frames) r ∙ (ap (λ (x : Core). x.frames) q ∙ (ap (λ (x : Core). x.frames) p ∙ e)) in
      let b_values : b.values ≡ [] = ap (λ (x : Core). x.values) q ∙ ap (λ (x : Core). x.values) p in
      let d_values : d.values ≡ option_to_list kept ++ [] = ap (λ (x : Core). x.values) r ∙ ap (λ vs. option_to_list kept ++ vs) b_values in
      let d_is : d.values ≡ take frame.arity old.values = d_values ∙ (append-nil (option_to_list kept) ∙ (sym tops ∙ ap (λ n. take n old.values) (sym same))) in
      let enough : frame.arity ≤ length old.values = subst (λ n. n ≤ length old.values) (sym same) few in
      let d_memory : d.memory ≡ old.memory = ap (λ (x : Core). x.memory) r ∙ (ap (λ (x : Core). x.memory) q ∙ ap (λ (x : Core). x.memory) p) in
      let d_globals : d.globals ≡ old.globals = ap (λ (x : Core). x.globals) r ∙ (ap (λ (x : Core). x.globals) q ∙ ap (λ (x : Core). x.globals) p) in
      let d_store : store_of d state ≡ store_of old state =
      ap (λ bytes. record { host = state; memory = bytes; globals = d.globals }) d_memory ∙
      ap (λ values. record { host = state; memory = old.memory; globals = values }) d_globals in
      let led : ReachedOn (after_return host m frame frames (take frame.arity old.values) (store_of old state)) next new state =
      subst (λ at. ReachedOn (after_return host m frame frames (take frame.arity old.values) at) next new state) d_store
      (subst (λ vs. ReachedOn (after_return host m frame frames vs (store_of d state)) next new state) d_is (h frame frames d_frames)) in
      let same_step : return_step host m old.values old.frames (store_of old state) stuck ≡ after_return host m frame frames (take frame.arity old.values) (store_of old state) =
      ap (λ fs. return_step host m old.values fs (store_of old state) stuck) e ∙ rw (le-leb frame.arity (length old.values) enough) refl in
      subst (λ (c : Configuration H E). Reached c trap stuck next old new state) (sym same_step)
      (reached (after_return host m frame frames (take frame.arity old.values) (store_of old state)) trap stuck next old new state led)

  pub end_block_done : (old new : Core) (r : Bool) (state : H) → 0 < length old.labels → Outside old false r new →
      end_of_code host m old.values old.labels (setting old state) ≡ running new state
  end_block_done old new false state h (none, p) = absurd (omega (arith, ap length none))
  end_block_done old new true state h (label, labels, e, p) = rw e (sym (ap (λ (x : Core). running x state) p))

  pub end_function_done : (old new : Core) (n : ℕ) (gives : Bool) (next : Next) (state : H) (trap stuck : Configuration H E) → old.labels ≡ [] →
      TellsFrame old.frames (Some gives) → n ≡ length old.values → n ≡ count gives →
      ((frame : Frame) (frames : List Frame) → old.frames ≡ frame ∷ frames → ReachedOn (after_return host m frame frames old.values (store_of old state)) next new state) →
      Reached (end_of_code host m old.values old.labels (setting old state)) trap stuck next old new state
  end_function_done old new n gives next state trap stuck none (frame, frames, e, same) p q h =
      let fits : frame.arity ≡ length old.values = same ∙ (sym q ∙ p) in
      let same_step : end_of_code host m old.values old.labels (setting old state) ≡ after_return host m frame frames old.values (store_of old state) =
      ap (λ ls. end_of_code host m old.values ls (setting old state)) none ∙
      (ap (λ fs. end_of_function host m old.values fs (store_of old state) (Stuck [] (setting old state))) e ∙
      rw (eq-eqb frame.arity (length old.values) fits) refl) in
      subst (λ (c : Configuration H E). Reached c trap stuck next old new state) (sym same_step)
      (reached (after_return host m frame frames old.values (store_of old state)) trap stuck next old new state (h frame frames e))

  pub end_function_stuck : (old : Core) (n : ℕ) (gives : Bool) (state : H) → old.labels ≡ [] →
      TellsFrame old.frames (Some gives) → n ≡ length old.values → (n ≢ count gives) →
      end_of_code host m old.values old.labels (setting old state) ≡ Stuck [] (setting old state)
  end_function_stuck old n gives state none (frame, frames, e, same) p ne =
      let apart : frame.arity ≡ length old.values → ⊥ = λ f. ne (p ∙ (sym f ∙ same)) in
      rw (none, e, ne_eqb frame.arity (length old.values) apart) refl

  pub step_end : (old new : Core) (next : Next) (state : H) → old.code ≡ [] →
      Reached (end_of_code host m old.values old.labels (setting old state)) (Stuck [] (setting old state)) (Stuck [] (setting old state)) next old new state →
      Reached (step host m (running old state)) (Trapped old.code (setting old state)) (Stuck old.code (setting old state)) next old new state
  step_end old new next state e h = by next h
    where
      same : step host m (running old state) ≡ end_of_code host m old.values old.labels (setting old state)
      same = ap (λ code. step host m (Running code old.values (setting old state))) e

      either : ((end_of_code host m old.values old.labels (setting old state) ≡ Stuck [] (setting old state)) ⊎
          (end_of_code host m old.values old.labels (setting old state) ≡ Stuck [] (setting old state))) →
          step host m (running old state) ≡ Stuck old.code (setting old state)
      either (inl r) = same ∙ (r ∙ ap (λ code. Stuck code (setting old state)) (sym e))
      either (inr r) = same ∙ (r ∙ ap (λ code. Stuck code (setting old state)) (sym e))

      by : (next : Next) → Reached (end_of_code host m old.values old.labels (setting old state)) (Stuck [] (setting old state)) (Stuck [] (setting old state)) next old new state →
          Reached (step host m (running old state)) (Trapped old.code (setting old state)) (Stuck old.code (setting old state)) next old new state
      by Goes r = same ∙ r
      by (Calls f) (r, within) = (same ∙ r, within)
      by (Branches k) (r, within) = (same ∙ r, within)
      by Traps (r, within) = (inr (either r), within)
      by Ends r = same ∙ r
      by NoMemory r = r

  pub step_first : (old mid new last : Core) (i : Instr) (rest here : List Instr) (next : Next) (state : H) → old.code ≡ i ∷ rest → here ≡ old.code →
      mid ≡ record old { code = rest } → Stood next here new last →
      Reached (step host m (Running (i ∷ mid.code) mid.values (setting mid state))) (Trapped (i ∷ mid.code) (setting mid state))
      (Stuck (i ∷ mid.code) (setting mid state)) next mid new state →
      Reached (step host m (running old state)) (Trapped old.code (setting old state)) (Stuck old.code (setting old state)) next old last state
  step_first old mid new last i rest here next state e f p stood h =
      let same : record mid { code = i ∷ mid.code } ≡ old = ap (λ (x : Core). record x { code = i ∷ x.code }) p ∙ ap (λ code. record old { code = code }) (sym e) in
      by next stood (subst (λ (x : Core). Reached (step host m (running x state)) (Trapped x.code (setting x state)) (Stuck x.code (setting x state)) next mid new state) same h)
    where
      mid_labels : mid.labels ≡ old.labels
      mid_labels = ap (λ (x : Core). x.labels) p

      mid_frames : mid.frames ≡ old.frames
      mid_frames = ap (λ (x : Core). x.frames) p

      by : (next : Next) → Stood next here new last →
          Reached (step host m (running old state)) (Trapped old.code (setting old state)) (Stuck old.code (setting old state)) next mid new state →
          Reached (step host m (running old state)) (Trapped old.code (setting old state)) (Stuck old.code (setting old state)) next old last state
      by Goes s r = r ∙ ap (λ (x : Core). running x state) (sym s)
      by (Calls f) s (r, (labels, frames)) = (
        r ∙ ap (λ (x : Core). Calling f x.code x.values (setting x state)) (sym s),
        (ap (λ (x : Core). x.labels) s ∙ (labels ∙ mid_labels), ap (λ (x : Core). x.frames) s ∙ (frames ∙ mid_frames)),
      )
      by (Branches k) s (r, (labels, frames)) = (
        r ∙ ap (λ (x : Core). Running (Br k ∷ x.code) x.values (setting x state)) (sym s),
        (ap (λ (x : Core). x.labels) s ∙ (labels ∙ mid_labels), ap (λ (x : Core). x.frames) s ∙ (frames ∙ mid_frames)),
      )
      by Traps s (r, (code, labels, frames)) = (
        r,
        (
          ap (λ (x : Core). x.code) s ∙ f,
          ap (λ (x : Core). x.labels) s ∙ (labels ∙ mid_labels),
          ap (λ (x : Core). x.frames) s ∙ (frames ∙ mid_frames),
        ),
      )
      by Ends s r = r
      by NoMemory s r = r

pub there_kept : (old a : Core) (k : ℕ) (gives : Bool) (kept : Option Value) → TellsLabel old.labels k (Some gives) → Kept gives old (Some kept) a →
    k ≤ length a.labels
there_kept old a k gives kept (label, at, same) (few, tops, p) =
    let within : k < length old.labels = slice_get_within old.labels k label at in
    let same : length a.labels ≡ length old.labels = ap (λ (x : Core). length x.labels) p in
    omega arith

pub no_code : (xs code : List Instr) → xs ≡ code → length xs < 1 → code ≡ []
no_code [] code e h = sym e
no_code (x ∷ xs) code e h = absurd (omega arith)

pub first_code : (xs code : List Instr) (i : Instr) → xs ≡ code → 1 ≤ length xs → i ≡ get_or xs 0 i → code ≡ i ∷ take (length xs - 1) (drop 1 xs)
first_code [] code i e h g = absurd (omega arith)
first_code (x ∷ xs) code i e h g =
    let less : suc (length xs) - 1 ≡ length xs = omega arith in
    sym e ∙ (ap (λ y. y ∷ xs) (sym g) ∙ ap (λ l. i ∷ l) (sym (ap (λ n. take n xs) less ∙ take-length xs)))
