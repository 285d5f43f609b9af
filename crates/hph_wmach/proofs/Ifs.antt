-- An `if` is entered.
use Rattle.std.proofs.Common.{◌≡◌, ◌∙◌, ◌+◌, ◌≢◌, ℕ, zero, suc, List, [], ◌∷◌, Option, Some, None, refl, sym, ap, inr}
use Rattle.std.specs.Prelude.{is_some, slice_get, slice_index_or}
use Rattle.hph_wasm.specs.declared.instr.Instr.{Instr}
use Rattle.hph_wasm.specs.declared.instr.Instr.TheViews as view
use Rattle.hph_wasm.specs.declared.types.ValType.{ValType}
use Rattle.hph_wasm.specs.declared.types.ValType.TheVariants.{I32}
use Rattle.hph_wasm.specs.declared.types.BlockType.{BlockType}
use Rattle.hph_wasm.specs.declared.value.Value.{Value}
use Rattle.hph_wasm.specs.declared.value.Value.TheVariants as value
use Rattle.hph_wasm.specs.declared.module.Module.{Module}
use Rattle.hph_wasm.specs.Blocks.{else_list, else_list_size}
use Rattle.hph_wasm.specs.Configuration.{Host, Label, Setting, Configuration, Running, Stuck}
use Rattle.hph_wasm.specs.Reduction.{step, arity_of}
use Rattle.hph_wasm.proofs.Rows.{step-if, listed-size}
use Rattle.hph_wstate.specs.declared.layers.Side.TheVariants.{Then, Else}
use Rattle.hph_wmach.specs.declared.next.Next.{Next}
use Rattle.hph_wmach.specs.declared.next.Next.TheVariants.{Goes, Calls, Branches, Traps, Ends, NoMemory}
use Rattle.hph_wstate.specs.Core.{Core, count, after_of, label_around}
use Rattle.hph_wstate.specs.Changes.{HasNo, Popped}
use Rattle.hph_wstate.specs.Standing.{setting}
use Rattle.hph_wmach.specs.Reached.{EntersBlock, Reached}

result_count : (o : Option ValType) → count (is_some o) ≡ arity_of (record { result = o })
result_count None = refl
result_count (Some ty) = refl

after_then : (ty : BlockType) (body : List Instr) (other : Option (List Instr)) (code : List Instr) →
    1 + else_list_size other ≡ after_of Then (view.If ty body other ∷ code)
after_then ty body None code = refl
after_then ty body (Some list) code = ap (λ n. 1 + (1 + n)) (sym (listed-size list))

module _ {H E : Type 0} (host : Host H E) (m : Module) where
  else_entered : (ty : BlockType) (body : List Instr) (other : Option (List Instr)) (code here : List Instr) (values : List Value) (at : Setting H) →
      here ≡ view.If ty body other ∷ code →
      step host m (Running (view.If ty body other ∷ code) (value.I32 0 ∷ values) at) ≡
      Running (else_list other) [] (record at { labels = label_around Else (is_some ty.result) here values ∷ at.labels })
  else_entered ty body other code here values at e = step-if host m ty body other 0 code values at ∙
      (ap (λ (n : ℕ). Running (else_list other) [] (record at {
        labels =
            record { arity = n; continuation = []; values = values; rest = code; after = 1 } ∷ at.labels;
      })) (sym (result_count ty.result)) ∙
      ap (λ (here : List Instr). Running (else_list other) [] (record at { labels = label_around Else (is_some ty.result) here values ∷ at.labels })) (sym e))

  then_entered : (ty : BlockType) (body : List Instr) (other : Option (List Instr)) (n : ℕ) (code here : List Instr) (values : List Value) (at : Setting H) →
      here ≡ view.If ty body other ∷ code →
      step host m (Running (view.If ty body other ∷ code) (value.I32 (suc n) ∷ values) at) ≡
      Running body [] (record at { labels = label_around Then (is_some ty.result) here values ∷ at.labels })
  then_entered ty body other n code here values at e = step-if host m ty body other (suc n) code values at ∙
      (ap (λ (n : ℕ). Running body [] (record at {
        labels =
            record { arity = n; continuation = []; values = values; rest = code; after = 1 + else_list_size other } ∷ at.labels;
      })) (sym (result_count ty.result)) ∙
      (ap (λ (n : ℕ). Running body [] (record at {
        labels =
            record { arity = count (is_some ty.result); continuation = []; values = values; rest = code; after = n } ∷ at.labels;
      })) (after_then ty body other code) ∙
      ap (λ (here : List Instr). Running body [] (record at { labels = label_around Then (is_some ty.result) here values ∷ at.labels })) (sym e)))

  led : (c trap stuck : Configuration H E) (side_label : Label) (body : List Instr) (old mid new : Core) (next : Next) (state : H) →
      c ≡ Running body [] (record (setting mid state) { labels = side_label ∷ mid.labels }) →
      EntersBlock side_label body mid next new → Reached c trap stuck next old new state
  led c trap stuck label body old mid new Goes state e p = e ∙ ap (λ (x : Core). Running x.code x.values (setting x state)) (sym p)
  led c trap stuck label body old mid new (Calls f) state e p = absurd p
  led c trap stuck label body old mid new (Branches k) state e p = absurd p
  led c trap stuck label body old mid new Traps state e p = absurd p
  led c trap stuck label body old mid new Ends state e p = absurd p
  led c trap stuck label body old mid new NoMemory state e p = tt

  pub else_done : (ty : BlockType) (body : List Instr) (other : Option (List Instr)) (here : List Instr) (old mid new : Core) (n : ℕ) (next : Next)
      (trap stuck : Configuration H E) (state : H) → here ≡ view.If ty body other ∷ old.code → n ≡ 0 → Popped I32 old (Some n) mid →
      EntersBlock (label_around Else (is_some ty.result) here mid.values) (else_list other) mid next new →
      Reached (step host m (Running (view.If ty body other ∷ old.code) old.values (setting old state))) trap stuck next old new state
  else_done ty body other here old mid new n next trap stuck state e none p h =
      let p0 : old ≡ record mid { values = value.I32 0 ∷ mid.values } = p ∙ ap (λ n. record mid { values = value.I32 n ∷ mid.values }) none in
      let e0 : here ≡ view.If ty body other ∷ mid.code = e ∙ ap (λ (x : Core). view.If ty body other ∷ x.code) p0 in
      led _ trap stuck (label_around Else (is_some ty.result) here mid.values) (else_list other) old mid new next state
      (ap (λ (x : Core). step host m (Running (view.If ty body other ∷ x.code) x.values (setting x state))) p0 ∙
      else_entered ty body other mid.code here mid.values (setting mid state) e0) h

  pub then_done : (ty : BlockType) (body : List Instr) (other : Option (List Instr)) (here : List Instr) (old mid new : Core) (n : ℕ) (next : Next)
      (trap stuck : Configuration H E) (state : H) → here ≡ view.If ty body other ∷ old.code → (n ≢ 0) → Popped I32 old (Some n) mid →
      EntersBlock (label_around Then (is_some ty.result) here mid.values) body mid next new →
      Reached (step host m (Running (view.If ty body other ∷ old.code) old.values (setting old state))) trap stuck next old new state
  then_done ty body other here old mid new zero next trap stuck state e some p h = absurd (some refl)
  then_done ty body other here old mid new (suc n) next trap stuck state e some p h =
      let e0 : here ≡ view.If ty body other ∷ mid.code = e ∙ ap (λ (x : Core). view.If ty body other ∷ x.code) p in
      led _ trap stuck (label_around Then (is_some ty.result) here mid.values) body old mid new next state
      (ap (λ (x : Core). step host m (Running (view.If ty body other ∷ x.code) x.values (setting x state))) p ∙
      then_entered ty body other n mid.code here mid.values (setting mid state) e0) h

  no_number : (ty : BlockType) (body : List Instr) (other : Option (List Instr)) (code : List Instr) (values : List Value) (at : Setting H) →
      HasNo I32 values → step host m (Running (view.If ty body other ∷ code) values at) ≡ Stuck (view.If ty body other ∷ code) at
  no_number ty body None code [] at h = refl
  no_number ty body (Some list) code [] at h = refl
  no_number ty body other code (value.I32 n ∷ values) at h = absurd h
  no_number ty body None code (value.I64 n ∷ values) at h = refl
  no_number ty body (Some list) code (value.I64 n ∷ values) at h = refl

  pub if_stuck : (ty : BlockType) (body : List Instr) (other : Option (List Instr)) (old new : Core) (trap : Configuration H E) (state : H) →
      Popped I32 old None new →
      Reached (step host m (Running (view.If ty body other ∷ old.code) old.values (setting old state))) trap
      (Stuck (view.If ty body other ∷ old.code) (setting old state)) Traps old new state
  if_stuck ty body other old new trap state (none, within) = (inr (no_number ty body other old.code old.values (setting old state) none), within)

-- Past the end of a list its default is meant.
pub default_past : (labels : List ℕ) (n other : ℕ) → None ≡ slice_get labels n → other ≡ slice_index_or labels n other
default_past [] n other e = refl
default_past (k ∷ labels) zero other e = let no : ⊥ = cc in absurd no
default_past (k ∷ labels) (suc n) other e = default_past labels n other e
