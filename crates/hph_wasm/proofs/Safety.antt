-- No configuration of a valid module is stuck: each step keeps what fits, and what is stuck doesn't fit.
use Rattle.std.proofs.Common.{◌≡◌, ◌∙◌, ℕ, zero, suc, List, [], ◌∷◌, ◌++◌, Some, map, reverse, refl, sym, ap, subst}
use Rattle.std.specs.Prelude.{Option, None, IsSome, slice_get}
use Rattle.std.proofs.lemmas.List.{map-append, length-reverse, reverse-reverse}
use Rattle.hph_wasm.specs.declared.instr.Instr.{Instr, Call}
use Rattle.hph_wasm.specs.declared.types.ValType.{ValType}
use Rattle.hph_wasm.specs.declared.types.FuncType.{FuncType}
use Rattle.hph_wasm.specs.declared.value.Value.{Value}
use Rattle.hph_wasm.specs.declared.module.Module.{Module}
use Rattle.hph_wasm.specs.Values.{type_of, number_of, zero_values}
use Rattle.hph_wasm.specs.Functions.{Function, Imported, Defined, functions, type_number, func_type}
use Rattle.hph_wasm.specs.Validity.{IsSequence, IsBody}
use Rattle.hph_wasm.specs.ModuleValidity.{IsValid}
use Rattle.hph_wasm.specs.Configuration.{Reply, Goes, Stops, Host, Frame, Store, Setting, Configuration, Running, Calling, Trapped, Stuck, Ended}
use Rattle.hph_wasm.specs.Reduction.{Arguments, arguments, results, reply_of, with_host, after_call, function_frame, after_reply, invocation_of, invocation, step, reduce}
use Rattle.hph_wasm.specs.Run.{start, IsLinked}
use Rattle.hph_wasm.specs.HostAnswers.{FitsResult, ResultsFit}
use Rattle.hph_wasm.specs.Safety.{RunsFit, IsStuck, IsNeverStuck}
use Rattle.hph_wasm.proofs.Choices.{if_some-there, some-there, and_then-there}
use Rattle.hph_wasm.proofs.Typing.{types-zero, types-results, passes}
use Rattle.hph_wasm.proofs.Numbered.{body_at, row_at, entry_at}
use Rattle.hph_wasm.proofs.GlobalsFit.{globals_fit}
use Rattle.hph_wasm.specs.Fitting.{context, LabelsFit, CodeFits, FramesFit, StoreFits, FitsBehind, Fits}
use Rattle.hph_wasm.specs.Values.{types}
use Rattle.hph_wasm.proofs.Leaving.{end_of_code_fits}
use Rattle.hph_wasm.proofs.InstructionsFit.{instr_step_fits}

-- A result that fits is one of these types.
fits-results : {H : Type 0} (E : Type 0) (tys : List ValType) (h : H) (result : Option ℕ) → FitsResult {E = E} tys (Goes h result) →
    IsSome (results tys result)
fits-results E [] h None fits = refl
fits-results E [] h (Some n) fits = absurd fits
fits-results E (ty ∷ []) h None fits = absurd fits
fits-results E (ty ∷ []) h (Some n) fits = refl
fits-results E (ty ∷ other ∷ tys) h None fits = absurd fits
fits-results E (ty ∷ other ∷ tys) h (Some n) fits = absurd fits

module _ (m : Module) {H E : Type 0} (host : Host H E) where
  -- Behind a call the caller goes on.
  after_call_fits : (frames : List Frame) (rest : List Instr) (values : List Value) (at : Setting H) (store : Store H)
      (stack : List ValType) → at.frames ≡ frames → types values ≡ stack → store.globals ≡ at.store.globals →
      FitsBehind m frames at rest stack → Fits m (after_call host m frames rest values (record at { store = store }))
  after_call_fits [] rest values at store stack same typed globals_kept fits = tt
  after_call_fits (frame ∷ frames) rest values at store stack same typed globals_kept (result, code, frames_fit, store_fits) =
      let code_here = subst (λ stack. CodeFits m (types at.locals) at.labels rest stack result) (sym typed) code in
      (result, code_here, subst (λ frames. FramesFit m frames result) (sym same) frames_fit, ap types globals_kept ∙ store_fits)

  -- An import gives the results that are needed behind it.
  after_reply_fits : (reply : Reply H E) (ty : FuncType) (below : List Value) (rest : List Instr) (at : Setting H)
      (stuck : Configuration H E) → FitsResult ty.results reply →
      FitsBehind m at.frames at rest (reverse ty.results ++ types below) → Fits m (after_reply host m reply ty below rest at stuck)
  after_reply_fits (Stops h reason) ty below rest at stuck typed fits = tt
  after_reply_fits (Goes h result) ty below rest at stuck typed fits =
      let (values, given) = some-there (results ty.results result) (fits-results E ty.results h result typed) in
      let stack : types (values ++ below) ≡ reverse ty.results ++ types below =
      map-append type_of values below ∙ ap (λ ts. ts ++ types below) (types-results ty.results result values given) in
      if_some-there (Fits m) (results ty.results result) values stuck _ given
      (after_call_fits at.frames rest (values ++ below) at (with_host h at.store) (reverse ty.results ++ types below) refl stack refl fits)

  -- The frame of a function whose caller goes on with what fits behind it.
  entered_frames : (frames : List Frame) (f : ℕ) (ty : FuncType) (below : List Value) (rest : List Instr) (at : Setting H) →
      FitsBehind m frames at rest (reverse ty.results ++ types below) →
      FramesFit m (function_frame host m f ty below rest at ∷ frames) (reverse ty.results)
  entered_frames [] f ty below rest at fits = sym (length-reverse ty.results)
  entered_frames (caller ∷ frames) f ty below rest at (result, code, frames_fit, store_fits) =
      (sym (length-reverse ty.results), result, code, frames_fit)

  -- Behind a call the globals still have their types.
  globals_behind : (frames : List Frame) (at : Setting H) (rest : List Instr) (stack : List ValType) → FitsBehind m frames at rest stack →
      StoreFits m at.store
  globals_behind [] at rest stack fits = fits
  globals_behind (frame ∷ frames) at rest stack (result, code, frames_fit, store_fits) = store_fits

  -- The same, at this host.
  abbrev FitsHere : Configuration H E → Type 0
  FitsHere c = Fits m c

  module _ (valid : IsValid m) (linked : IsLinked host m) (by_type : ResultsFit host) where
    -- A function's body finds its locals, and an import is there.
    invocation_of_fits : (f : ℕ) (function : Function) (ty : FuncType) (call : Arguments) (rest : List Instr) (at : Setting H)
        (stuck : Configuration H E) → slice_get (functions m) f ≡ Some function →
        slice_get m.types (type_number function) ≡ Some ty → types call.passed ≡ ty.params → FitsBehind m at.frames at rest (reverse ty.results ++ types call.below) →
        Fits m (invocation_of host m f function ty call rest at stuck)
    invocation_of_fits f (Imported import number) ty call rest at stuck there known passed fits =
        let (linked_ty, linked_known, row, found) = row_at m host f (Imported import number) linked there in
        let same : linked_ty ≡ ty = cc in
        let found_here : host.row import.«module» import.name ty ≡ Some row =
        subst (λ ty. host.row import.«module» import.name ty ≡ Some row) same found in
        if_some-there (Fits m) (host.row import.«module» import.name ty) row stuck _ found_here
        (after_reply_fits (reply_of host row call.passed at.store) ty call.below rest at stuck
        (by_type import.«module» import.name ty row found_here at.store.host (map number_of call.passed) at.store.memory) fits)
    invocation_of_fits f (Defined func) ty call rest at stuck there known passed fits =
        let (valid_ty, valid_known, body) = body_at m f (Defined func) valid there in
        let same : valid_ty ≡ ty = cc in
        let locals : ty.params ++ func.locals ≡ types (call.passed ++ zero_values func.locals) =
        ap (λ ts. ts ++ func.locals) (sym passed) ∙ ap (λ ts. types call.passed ++ ts) (sym (types-zero func.locals)) ∙
        sym (map-append type_of call.passed (zero_values func.locals)) in
        let body_here = subst (λ ty. IsBody m ty func) same body in
        let inside = subst (λ locals. IsSequence m (context locals (reverse ty.results ∷ []) (reverse ty.results)) func.body [] (reverse ty.results)) locals body_here in (
          reverse ty.results,
          (reverse ty.results ∷ [], reverse ty.results, inside, (refl, refl)),
          entered_frames at.frames f ty call.below rest at fits,
          globals_behind at.frames at rest (reverse ty.results ++ types call.below) fits,
        )

    -- What a call looks up is there, and its arguments are on the stack.
    invocation_fits : (f : ℕ) (rest : List Instr) (values : List Value) (at : Setting H) (stuck : Configuration H E) →
        FitsHere (Calling f rest values at) → Fits m (invocation host m f rest values at stuck)
    invocation_fits f rest values at stuck (ty, known, below, typed, fits) =
        let (function, there, has_type) = and_then-there (slice_get (functions m) f) (λ function. slice_get m.types (type_number function)) ty known in
        let p = passes [] (reverse ty.params) values below typed in
        if_some-there (Fits m) (slice_get (functions m) f) function stuck _ there
        (if_some-there (Fits m) (slice_get m.types (type_number function)) ty stuck _ has_type
        (if_some-there (Fits m) (arguments ty.params values) p.call stuck _ p.taken
        (invocation_of_fits f function ty p.call rest at stuck there has_type (p.passed_types ∙ reverse-reverse ty.params)
        (subst (λ below. FitsBehind m at.frames at rest (reverse ty.results ++ below)) (sym p.below_types) fits))))

    -- Each step keeps what fits.
    pub step_fits : (c : Configuration H E) → Fits m c → Fits m (step host m c)
    step_fits (Running [] values at) (result, (labels, gives, ends, labels_fit), frames_fit, store_fits) =
        end_of_code_fits m host values at.labels at result labels (subst (LabelsFit m (types at.locals) result at.labels labels) (sym ends) labels_fit)
        frames_fit store_fits
    step_fits (Running (i ∷ rest) values at) (result, (labels, gives, (mid, i_valid, rest_valid), labels_fit), frames_fit, store_fits) =
        instr_step_fits m host (λ n f. entry_at m n f valid.outside) rest at (Trapped (i ∷ rest) at) (Stuck (i ∷ rest) at) tt result labels gives
        labels_fit frames_fit store_fits i values mid i_valid rest_valid
    step_fits (Calling f rest values at) fits = invocation_fits f rest values at (Stuck (Call f ∷ rest) at) fits
    step_fits (Trapped code at) fits = tt
    step_fits (Stuck code at) fits = absurd fits
    step_fits (Ended end h) fits = tt

    -- So do many.
    reduce_fits : (n : ℕ) (c : Configuration H E) → Fits m c → Fits m (reduce host m n c)
    reduce_fits zero c fits = fits
    reduce_fits (suc n) c fits = reduce_fits n (step host m c) (step_fits c fits)

    -- What fits isn't stuck.
    not_stuck : (c : Configuration H E) → Fits m c → IsStuck c → ⊥
    not_stuck (Running code values at) fits stuck = stuck
    not_stuck (Calling f rest values at) fits stuck = stuck
    not_stuck (Trapped code at) fits stuck = stuck
    not_stuck (Stuck code at) fits stuck = fits
    not_stuck (Ended end h) fits stuck = stuck

    -- From the start of the run.
    pub runs_fit : (state : H) → RunsFit host state m
    runs_fit state f n main =
        let (main_f, exported, has_type) = linked.main in
        let same : main_f ≡ f = cc in
        let typed : func_type m f ≡ Some (record { params = []; results = [] }) =
        subst (λ f. func_type m f ≡ Some (record { params = []; results = [] })) same has_type in
        reduce_fits n (start state m f) (record { params = []; results = [] }, typed, [], refl, globals_fit m host valid.outside linked)

    -- So it is never stuck.
    pub never_stuck : (state : H) → IsNeverStuck host state m
    never_stuck state f n main stuck = not_stuck (reduce host m n (start state m f)) (runs_fit state f n main) stuck
