-- What fits still fits where labels and functions are left: by their ends, by branches, and by returns.
use Rattle.std.proofs.Common.{◌≡◌, ◌∙◌, ℕ, zero, suc, List, [], ◌∷◌, ◌++◌, Some, length, take, sym, ap, subst, arith}
use Rattle.std.specs.Prelude.{nat_eq, nat_le, slice_get}
use Rattle.std.proofs.lemmas.List.{map-append, length-map}
use Rattle.std.proofs.lemmas.Bool.{eq-eqb, le-leb}
use Rattle.hph_wasm.specs.declared.types.ValType.{ValType}
use Rattle.hph_wasm.specs.declared.value.Value.{Value}
use Rattle.hph_wasm.specs.declared.module.Module.{Module}
use Rattle.hph_wasm.specs.Values.{type_of}
use Rattle.hph_wasm.specs.Validity.{IsSequence}
use Rattle.hph_wasm.specs.Configuration.{Host, Label, Frame, Store, Setting, Configuration, Stuck}
use Rattle.hph_wasm.specs.Reduction.{after_return, end_of_function, end_of_code, return_step, branch_step}
use Rattle.hph_wasm.proofs.Choices.{cond-true}
use Rattle.hph_wasm.proofs.Typing.{types-take, types-enough}
use Rattle.hph_wasm.specs.Fitting.{context, LabelsFit, CodeFits, FramesFit, StoreFits, Fits}
use Rattle.hph_wasm.specs.Values.{types}

module _ (m : Module) {H E : Type 0} (host : Host H E) where
  -- The same, at this host.
  abbrev FitsHere : Configuration H E → Type 0
  FitsHere c = Fits m c

  -- A frame returns as many values as its function has results.
  frame_arity : (frame : Frame) (frames : List Frame) (result : List ValType) → FramesFit m (frame ∷ frames) result →
      frame.arity ≡ length result
  frame_arity frame [] result fits = fits
  frame_arity frame (caller ∷ frames) result fits = fits.0

  -- The results of a function are what its caller needs.
  after_return_fits : (values : List Value) (frame : Frame) (frames : List Frame) (store : Store H) (result : List ValType) →
      types values ≡ result → FramesFit m (frame ∷ frames) result → StoreFits m store →
      FitsHere (after_return host m frame frames values store)
  after_return_fits values frame [] store result typed fits store_fits = tt
  after_return_fits values frame (caller ∷ frames) store result typed fits store_fits =
      let stack : result ++ types frame.values ≡ types (values ++ frame.values) =
      ap (λ ts. ts ++ types frame.values) (sym typed) ∙ sym (map-append type_of values frame.values) in
      (fits.1, subst (λ stack. CodeFits m (types frame.locals) frame.labels frame.rest stack fits.1) stack fits.2, fits.3, store_fits)

  -- A function ends with its results alone.
  end_of_function_fits : (values : List Value) (frames : List Frame) (store : Store H) (stuck : Configuration H E)
      (result : List ValType) → types values ≡ result → FramesFit m frames result → StoreFits m store →
      FitsHere (end_of_function host m values frames store stuck)
  end_of_function_fits values [] store stuck result typed fits store_fits = absurd fits
  end_of_function_fits values (frame ∷ frames) store stuck result typed fits store_fits =
      let all : frame.arity ≡ length values = frame_arity frame frames result fits ∙ sym (ap length typed) ∙ length-map values type_of in
      cond-true FitsHere (nat_eq frame.arity (length values)) _ stuck (eq-eqb frame.arity (length values) all)
      (after_return_fits values frame frames store result typed fits store_fits)

  -- A function returns with its results on top.
  pub return_step_fits : (values : List Value) (frames : List Frame) (store : Store H) (stuck : Configuration H E)
      (result below : List ValType) → types values ≡ result ++ below → FramesFit m frames result → StoreFits m store →
      FitsHere (return_step host m values frames store stuck)
  return_step_fits values [] store stuck result below typed fits store_fits = absurd fits
  return_step_fits values (frame ∷ frames) store stuck result below typed fits store_fits =
      let arity = frame_arity frame frames result fits in
      let enough = types-enough result below values typed in
      cond-true FitsHere (nat_le frame.arity (length values)) _ stuck (le-leb _ _ (omega (arith, arity, enough)))
      (after_return_fits (take frame.arity values) frame frames store result (types-take result below values frame.arity arity typed) fits store_fits)

  -- A branch finds what it takes on top.
  pub branch_step_fits : (k : ℕ) (values : List Value) (outer : List Label) (at : Setting H) (stuck : Configuration H E)
      (result : List ValType) (labels : List (List ValType)) (gives takes below : List ValType) →
      LabelsFit m (types at.locals) result outer labels gives → slice_get labels k ≡ Some takes → types values ≡ takes ++ below →
      FramesFit m at.frames result → StoreFits m at.store → FitsHere (branch_step host m k values outer at stuck)
  branch_step_fits zero values [] at stuck result labels gives takes below fits there typed frames_fit store_fits =
      let outermost : Some result ≡ Some takes = sym (ap (λ l. slice_get l 0) fits.0) ∙ there in
      let same : takes ≡ result = cc in
      return_step_fits values at.frames at.store stuck result below (typed ∙ ap (λ ts. ts ++ below) same) frames_fit store_fits
  branch_step_fits (suc k) values [] at stuck result labels gives takes below fits there typed frames_fit store_fits =
      let outermost : slice_get (result ∷ []) (suc k) ≡ Some takes = sym (ap (λ l. slice_get l (suc k)) fits.0) ∙ there in
      let none : ⊥ = cc in absurd none
  branch_step_fits k values (label ∷ outer) at stuck result [] gives takes below fits there typed frames_fit store_fits = absurd fits
  branch_step_fits zero values (label ∷ outer) at stuck result (taken ∷ labels) gives takes below fits there typed frames_fit store_fits =
      let (next, behind, again, arity, outer_fit) = fits in
      let same : takes ≡ taken = cc in
      let typed_here : types values ≡ taken ++ below = typed ∙ ap (λ ts. ts ++ below) same in
      let enough = types-enough taken below values typed_here in
      let stack : taken ++ types label.values ≡ types (take label.arity values ++ label.values) =
      ap (λ ts. ts ++ types label.values) (sym (types-take taken below values label.arity arity typed_here)) ∙
      sym (map-append type_of (take label.arity values) label.values) in
      let code = subst (λ stack. IsSequence m (context (types at.locals) labels result) (label.continuation ++ label.rest) stack next) stack again in
      cond-true FitsHere (nat_le label.arity (length values)) _ stuck (le-leb _ _ (omega (arith, arity, enough)))
      (result, (labels, next, code, outer_fit), frames_fit, store_fits)
  branch_step_fits (suc k) values (label ∷ outer) at stuck result (taken ∷ labels) gives takes below fits there typed frames_fit store_fits =
      let (next, behind, again, arity, outer_fit) = fits in
      branch_step_fits k values outer at stuck result labels next takes below outer_fit there typed frames_fit store_fits

  -- A block ends with what is needed behind it.
  pub end_of_code_fits : (values : List Value) (outer : List Label) (at : Setting H) (result : List ValType) (labels : List (List ValType)) →
      LabelsFit m (types at.locals) result outer labels (types values) → FramesFit m at.frames result → StoreFits m at.store →
      FitsHere (end_of_code host m values outer at)
  end_of_code_fits values [] at result labels fits frames_fit store_fits =
      end_of_function_fits values at.frames at.store (Stuck [] at) result fits.1 frames_fit store_fits
  end_of_code_fits values (label ∷ outer) at result [] fits frames_fit store_fits = absurd fits
  end_of_code_fits values (label ∷ outer) at result (takes ∷ labels) fits frames_fit store_fits =
      let (next, behind, again, arity, outer_fit) = fits in
      let code = subst (λ stack. IsSequence m (context (types at.locals) labels result) label.rest stack next) (sym (map-append type_of values label.values)) behind in
      (result, (labels, next, code, outer_fit), frames_fit, store_fits)
