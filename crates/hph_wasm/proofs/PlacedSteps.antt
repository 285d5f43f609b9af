-- Each step keeps the place of what is left, and so a trap is at its own opcode.
use Rattle.std.proofs.Common.{◌≡◌, inl, ◌∙◌, ℕ, zero, suc, ◌+◌, ◌-◌, List, [], ◌∷◌, ◌++◌, Some, length, length-append, take, refl, sym, ap, subst, arith}
use Rattle.std.specs.Prelude.{nat_eq, nat_le, slice_get}
use Rattle.hph_wasm.specs.declared.instr.Instr.{Instr, Call}
use Rattle.hph_wasm.specs.declared.types.FuncType.{FuncType}
use Rattle.hph_wasm.specs.declared.value.Value.{Value}
use Rattle.hph_wasm.specs.declared.module.Func.{Func}
use Rattle.hph_wasm.specs.declared.module.Module.{Module}
use Rattle.hph_wasm.specs.Functions.{Function, Imported, Defined, functions, type_number}
use Rattle.hph_wasm.specs.Configuration.{Reply, Goes, Stops, Host, Label, Frame, Store, Setting, Configuration, Running, Calling, Trapped, Stuck, Ended}
use Rattle.hph_wasm.specs.Reduction.{Arguments, arguments, results, reply_of, with_host, after_call, after_return, end_of_function, end_of_code, return_step, branch_step, function_frame, after_reply, invocation_of, step, reduce}
use Rattle.hph_wasm.specs.Opcodes.{EndOfCode, opcodes}
use Rattle.hph_wasm.specs.Standing.{Stands, FramesStand, StandsIn, StandsBehind, IsTrapAt, IsPlaced, RunsStand, TrapsAreAtOpcodes, TrapsHaveOnePlace}
use Rattle.hph_wasm.specs.Outcome.{Trap}
use Rattle.hph_wasm.specs.Place.{size_outside, body_size, trap_before}
use Rattle.hph_wasm.specs.Rows.{list_size}
use Rattle.hph_wasm.specs.Run.{start}
use Rattle.hph_wasm.proofs.Choices.{if_some-cases, cond-cases}
use Rattle.hph_wasm.proofs.OpcodeLists.{opcodes-length}
use Rattle.hph_wasm.proofs.Steps.{IsNoBranch, Entry, instr_step-kept}
use Rattle.hph_wasm.proofs.Places.{past_instr, onto_branch, into_label, past_label, back_to_label, own_opcodes, Outside-length}

module _ (m : Module) {H E : Type 0} (host : Host H E) where
  -- The same, at this host.
  abbrev Placed : Configuration H E → Type 0
  Placed c = IsPlaced m c

  -- The caller goes on with what is left of it.
  after_return_placed : (values : List Value) (frame : Frame) (frames : List Frame) (store : Store H) → FramesStand m (frame ∷ frames) →
      Placed (after_return host m frame frames values store)
  after_return_placed values frame [] store stand = tt
  after_return_placed values frame (caller ∷ frames) store stand = stand

  -- The end of a function leads into the caller.
  end_of_function_placed : (values : List Value) (frames : List Frame) (store : Store H) (stuck : Configuration H E) → Placed stuck →
      FramesStand m frames → Placed (end_of_function host m values frames store stuck)
  end_of_function_placed values [] store stuck otherwise stand = otherwise
  end_of_function_placed values (frame ∷ frames) store stuck otherwise stand =
      cond-cases Placed (nat_eq frame.arity (length values)) (after_return host m frame frames values store) stuck
      (λ _. after_return_placed values frame frames store stand) otherwise

  -- So does a return.
  return_step_placed : (values : List Value) (frames : List Frame) (store : Store H) (stuck : Configuration H E) → Placed stuck →
      FramesStand m frames → Placed (return_step host m values frames store stuck)
  return_step_placed values [] store stuck otherwise stand = otherwise
  return_step_placed values (frame ∷ frames) store stuck otherwise stand =
      cond-cases Placed (nat_le frame.arity (length values)) (after_return host m frame frames (take frame.arity values) store) stuck
      (λ _. after_return_placed (take frame.arity values) frame frames store stand) otherwise

  -- What holds of the innermost function is kept by a step inside it.
  within : (frames : List Frame) (code code' : List Instr) (labels labels' : List Label) →
      ((f : ℕ) → Stands m f code labels → Stands m f code' labels') → StandsIn m frames code labels → StandsIn m frames code' labels'
  within [] code code' labels labels' goes stands = stands
  within (frame ∷ frames) code code' labels labels' goes (stands, frames_stand) = (goes frame.function stands, frames_stand)

  -- The callers of what stands in its frames.
  pub frames_of : (frames : List Frame) (code : List Instr) (labels : List Label) → StandsIn m frames code labels → FramesStand m frames
  frames_of [] code labels stands = tt
  frames_of (frame ∷ frames) code labels (stands, frames_stand) = frames_stand

  -- What stands in its frames stands behind a call.
  behind : (frames : List Frame) (code : List Instr) (labels : List Label) → StandsIn m frames code labels → StandsBehind m frames code labels
  behind [] code labels stands = absurd stands
  behind (frame ∷ frames) code labels stands = stands

  -- The end of a block leads behind it.
  end_of_code_placed : (values : List Value) (labels : List Label) (at : Setting H) → StandsIn m at.frames [] labels →
      Placed (end_of_code host m values labels at)
  end_of_code_placed values [] at stands =
      end_of_function_placed values at.frames at.store (Stuck [] at) tt (frames_of at.frames [] [] stands)
  end_of_code_placed values (label ∷ labels) at stands =
      within at.frames [] label.rest (label ∷ labels) labels (λ f. past_label m f [] label labels) stands

  -- A branch leads to what its label goes on with.
  branch_step_placed : (k : ℕ) (values : List Value) (code : List Instr) (labels : List Label) (at : Setting H) (stuck : Configuration H E) →
      Placed stuck → StandsIn m at.frames code labels → Placed (branch_step host m k values labels at stuck)
  branch_step_placed zero values code [] at stuck otherwise stands =
      return_step_placed values at.frames at.store stuck otherwise (frames_of at.frames code [] stands)
  branch_step_placed (suc k) values code [] at stuck otherwise stands = otherwise
  branch_step_placed zero values code (label ∷ labels) at stuck otherwise stands =
      cond-cases Placed (nat_le label.arity (length values)) _ stuck
      (λ _. within at.frames code (label.continuation ++ label.rest) (label ∷ labels) labels (λ f. back_to_label m f code label labels) stands)
      otherwise
  branch_step_placed (suc k) values code (label ∷ labels) at stuck otherwise stands =
      branch_step_placed k values label.rest labels at stuck otherwise
      (within at.frames code label.rest (label ∷ labels) labels (λ f. past_label m f code label labels) stands)

  -- An instruction is entered where it stands.
  entered_placed : (i : Instr) (rest : List Instr) (label : Label) (inside : List Instr) (at : Setting H) → Entry i rest label inside →
      StandsIn m at.frames (i ∷ rest) at.labels → StandsIn m at.frames inside (label ∷ at.labels)
  entered_placed i rest label inside at e stands =
      within at.frames (i ∷ label.rest) inside at.labels (label ∷ at.labels)
      (λ f. into_label m f i label inside at.labels (subst (λ rest. Entry i rest label inside) (sym e.outside) e))
      (subst (λ rest. StandsIn m at.frames (i ∷ rest) at.labels) (sym e.outside) stands)

  -- As many opcodes are in front of an instruction as the place of its trap says.
  trap_place : (frames : List Frame) (i : Instr) (rest : List Instr) (labels : List Label) → IsNoBranch i →
      StandsIn m frames (i ∷ rest) labels →
      IsTrapAt {E = E} m (i ∷ rest) labels (trap_before m (list_size (i ∷ rest) + size_outside labels) frames)
  trap_place [] i rest labels own stands = absurd stands
  trap_place (frame ∷ frames) i rest labels own (s, frames_stand) =
      let size_left = list_size (i ∷ rest) + size_outside labels in
      let same = own_opcodes m i rest s.shown own s.shows in
      let is : opcodes s.func.body ++ EndOfCode ∷ [] ≡ s.front ++ (opcodes (i ∷ rest) ++ s.tail) = s.is ∙ ap (λ l. s.front ++ (l ++ s.tail)) same in
      let sizes : list_size s.func.body + 1 ≡ length s.front + size_left = omega (
        arith,
        ap length is,
        length-append (opcodes s.func.body) (EndOfCode ∷ []),
        length-append s.front (opcodes (i ∷ rest) ++ s.tail),
        length-append (opcodes (i ∷ rest)) s.tail,
        opcodes-length s.func.body,
        opcodes-length (i ∷ rest),
        Outside-length (opcodes s.func.body ++ EndOfCode ∷ []) labels s.tail s.outside,
      ) in
      let number : list_size s.func.body + 1 - size_left ≡ length s.front = omega (arith, sizes) in
      subst (IsTrapAt {E = E} m (i ∷ rest) labels) (sym (ap (λ o. Trap frame.function (body_size o - size_left)) s.there ∙ ap (Trap frame.function) number))
      (s.func, s.there, s.front, s.tail, is, refl, s.outside)

  -- An instruction leads past its opcodes, into it, or out of labels; where it traps, that is at its opcode.
  running_placed : (i : Instr) (rest : List Instr) (values : List Value) (at : Setting H) → StandsIn m at.frames (i ∷ rest) at.labels →
      Placed (step host m (Running (i ∷ rest) values at))
  running_placed i rest values at stands =
      let stuck : Configuration H E = Stuck (i ∷ rest) at in
      let past = within at.frames (i ∷ rest) rest at.labels at.labels (λ f. past_instr m f i rest at.labels) stands in
      instr_step-kept host m Placed rest at (Trapped (i ∷ rest) at) stuck tt i values (record {
        traps = λ own. (i, rest, refl, trap_place at.frames i rest at.labels own stands);
        goes = λ values locals memory globals. past;
        jumps = λ k values one.
            within at.frames (i ∷ rest) _ at.labels at.labels (λ f. onto_branch m f i k rest at.labels one) stands;
        calls = λ f values. behind at.frames rest at.labels past;
        enters = λ label inside entry. entered_placed i rest label inside at entry stands;
        branches = λ k values _. branch_step_placed k values (i ∷ rest) at.labels at stuck tt stands;
        returns = λ values _. return_step_placed values at.frames at.store stuck tt (frames_of at.frames (i ∷ rest) at.labels stands);
      })

  -- Behind a call the caller goes on.
  after_call_placed : (frames : List Frame) (rest : List Instr) (values : List Value) (at : Setting H) → at.frames ≡ frames →
      StandsBehind m frames rest at.labels → Placed (after_call host m frames rest values at)
  after_call_placed [] rest values at same stands = tt
  after_call_placed (frame ∷ frames) rest values at same stands = subst (λ frames. StandsIn m frames rest at.labels) (sym same) stands

  -- Behind the call of an import the caller goes on.
  after_reply_placed : (reply : Reply H E) (ty : FuncType) (below : List Value) (rest : List Instr) (at : Setting H)
      (stuck : Configuration H E) → Placed stuck → StandsBehind m at.frames rest at.labels →
      Placed (after_reply host m reply ty below rest at stuck)
  after_reply_placed (Stops h reason) ty below rest at stuck otherwise stands = tt
  after_reply_placed (Goes h result) ty below rest at stuck otherwise stands =
      if_some-cases Placed (results ty.results result) stuck _ otherwise
      (λ values _. after_call_placed at.frames rest (values ++ below) (record at { store = with_host h at.store }) refl stands)

  -- A call's frame keeps what its caller goes on with.
  entered_frames : (frames : List Frame) (frame : Frame) → StandsBehind m frames frame.rest frame.labels → FramesStand m (frame ∷ frames)
  entered_frames [] frame stands = stands
  entered_frames (caller ∷ frames) frame stands = stands

  -- A function is entered at the first opcode of its body.
  invocation_of_placed : (f : ℕ) (function : Function) (ty : FuncType) (call : Arguments) (rest : List Instr) (at : Setting H)
      (stuck : Configuration H E) → slice_get (functions m) f ≡ Some function → Placed stuck →
      StandsBehind m at.frames rest at.labels → Placed (invocation_of host m f function ty call rest at stuck)
  invocation_of_placed f (Imported import number) ty call rest at stuck there otherwise stands =
      if_some-cases Placed (host.row import.«module» import.name ty) stuck _ otherwise
      (λ row _. after_reply_placed (reply_of host row call.passed at.store) ty call.below rest at stuck otherwise stands)
  invocation_of_placed f (Defined func) ty call rest at stuck there otherwise stands = (
    record { func = func; there = there; front = []; shown = opcodes func.body; tail = EndOfCode ∷ []; is = refl; shows = inl refl; outside = refl },
    entered_frames at.frames (function_frame host m f ty call.below rest at) stands,
  )

  -- Each step keeps the place.
  step_placed : (c : Configuration H E) → Placed c → Placed (step host m c)
  step_placed (Running [] values at) stands = end_of_code_placed values at.labels at stands
  step_placed (Running (i ∷ rest) values at) stands = running_placed i rest values at stands
  step_placed (Calling f rest values at) stands =
      let stuck : Configuration H E = Stuck (Call f ∷ rest) at in
      if_some-cases Placed (slice_get (functions m) f) stuck _ tt (λ function there.
      if_some-cases Placed (slice_get m.types (type_number function)) stuck _ tt (λ ty _.
      if_some-cases Placed (arguments ty.params values) stuck _ tt (λ call _.
      invocation_of_placed f function ty call rest at stuck there tt stands)))
  step_placed (Trapped code at) placed = placed
  step_placed (Stuck code at) placed = tt
  step_placed (Ended end h) placed = tt

  -- So do many.
  reduce_placed : (n : ℕ) (c : Configuration H E) → Placed c → Placed (reduce host m n c)
  reduce_placed zero c placed = placed
  reduce_placed (suc n) c placed = reduce_placed n (step host m c) (step_placed c placed)

  -- From the start of the run.
  pub runs_stand : RunsStand host m
  runs_stand state main n = reduce_placed n (start state m main) (refl, refl)

  pub traps_at_opcodes : TrapsAreAtOpcodes host m
  traps_at_opcodes state main n code at reached = subst Placed reached (runs_stand state main n)

  -- As many opcodes are left in both places, so the same number stands before.
  pub traps_have_one_place : TrapsHaveOnePlace host m
  traps_have_one_place code labels f j k (func, there, front, tail, is, long, outside) (func', there', front', tail', is', long', outside') =
      let same : func ≡ func' = cc in
      let sizes : length (opcodes func.body ++ EndOfCode ∷ []) ≡ length (opcodes func'.body ++ EndOfCode ∷ []) =
      ap (λ (func : Func). length (opcodes func.body ++ EndOfCode ∷ [])) same in
      omega (
        arith,
        sizes,
        long,
        long',
        ap length is,
        ap length is',
        length-append front (opcodes code ++ tail),
        length-append front' (opcodes code ++ tail'),
        length-append (opcodes code) tail,
        length-append (opcodes code) tail',
        Outside-length (opcodes func.body ++ EndOfCode ∷ []) labels tail outside,
        Outside-length (opcodes func'.body ++ EndOfCode ∷ []) labels tail' outside',
      )
