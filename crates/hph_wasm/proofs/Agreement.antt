-- Both directions of an agreement follow from the forward simulation.
use Rattle.std.proofs.Common.{◌≡◌, ◌≢◌, ◌≤◌, ℕ, [], refl, sym, ap, subst, ◌∙◌, arith, inl, inr, ◌⊎◌}
use Rattle.std.proofs.lemmas.List.{append-nil}
use Rattle.std.proofs.lemmas.Bool.{cases_lt}
use Rattle.hph_wasm.specs.Outcome.{End, Done, Stopped, Trap, More, Outcome, IsOver, IsPrefix}
use Rattle.hph_wasm.specs.Agrees.{Agrees, Follows, IsRun}

-- A run is over or isn't.
more_or_over : {E : Type 0} (end : End E) → (end ≡ More) ⊎ (end ≢ More)
more_or_over Done = inr (λ same. cc)
more_or_over (Stopped reason) = inr (λ same. cc)
more_or_over (Trap function instruction) = inr (λ same. cc)
more_or_over More = inl refl

-- The same outcome has the same output.
prefix_of_same : {E : Type 0} (a b : Outcome E) → a ≡ b → IsPrefix b.output a.output
prefix_of_same a b same = ([], ap (λ (o : Outcome _). o.output) same ∙ sym (append-nil b.output))

module _ {E : Type 0} (program wasm : ℕ → Outcome E) (cost : ℕ → ℕ) (run : IsRun wasm) (follows : Follows program wasm cost) where
  -- Two numbers of reductions at which a run is over show the same.
  same_end : (m k : ℕ) → IsOver (wasm m) → IsOver (wasm k) → wasm m ≡ wasm k
  same_end m k over ended = elim (cases_lt m k) [
    | inl less ↦ sym (run.stays m k over (omega arith))
    | inr more ↦ run.stays k m ended more
  ]

  -- Where the module has ended the program has: else the program goes on for no fewer units than there are reductions.
  ends_only : (m : ℕ) → IsOver (wasm m) → wasm m ≡ program m
  ends_only m over =
      let (k, within, same, goes) = follows m in
      elim (more_or_over (program m).end) [
        | inl more ↦ sym (run.stays m k over (goes more)) ∙ same
        | inr ended ↦ same_end m k over (subst IsOver (sym same) ended) ∙ same
      ]

  -- What the module has printed is a prefix of what the program has: of the same output, or of that of a later moment.
  prints_only : (m : ℕ) → IsPrefix (wasm m).output (program m).output
  prints_only m =
      let (k, within, same, goes) = follows m in
      elim (cases_lt k m) [
        | inl less ↦ elim (more_or_over (program m).end) [
          | inl more ↦ absurd (let many : m ≤ k = goes more in omega arith)
          | inr ended ↦ prefix_of_same (program m) (wasm m) (sym (run.stays k m (subst IsOver (sym same) ended) (omega arith) ∙ same))
        ]
        | inr more ↦ subst (λ (o : Outcome E). IsPrefix (wasm m).output o.output) same (run.grows m k more)
      ]

  -- All four clauses.
  pub agreement : Agrees program wasm cost
  agreement = record {
    ends = λ n over. let (k, within, same, goes) = follows n in (k, within, same);
    ends_only = ends_only;
    prints = λ n. let (k, within, same, goes) = follows n in (k, within, prefix_of_same (wasm k) (program n) same);
    prints_only = prints_only;
  }
