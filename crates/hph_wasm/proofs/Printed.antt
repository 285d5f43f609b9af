-- What a host has printed to a sink.
use Rattle.std.proofs.Common.{◌≡◌, ◌∙◌, ℕ, List, ◌++◌, append_assoc, Option, Some, None, length, take, refl, sym, ap}
use Rattle.hph_src.specs.declared.sink.PutAnswer.TheVariants as put_answer
use Rattle.hph_src.specs.Sink.{grown_by}
use Rattle.hph_wasm.specs.HostAnswers.{PutsArePrinted}
use Rattle.hph_wasm.proofs.Obstacles.{take-all}

-- What grows twice grows by both.
grown-twice : (first : Option (List ℕ)) (a b : List ℕ) → grown_by (grown_by first a) b ≡ grown_by first (a ++ b)
grown-twice None a b = refl
grown-twice (Some held) a b = ap Some (append_assoc held a b)

pub puts_are_printed : PutsArePrinted
puts_are_printed first old new printed piece put_answer.All before grows = (
  length piece,
  grows ∙ ap (λ old. grown_by old piece) before ∙ grown-twice first printed piece ∙
      ap (λ piece. grown_by first (printed ++ piece)) (sym (take-all piece)),
  λ _. take-all piece,
)
puts_are_printed first old new printed piece put_answer.Failed before (count, grows) = (
  count,
  grows ∙ ap (λ old. grown_by old (take count piece)) before ∙ grown-twice first printed (take count piece),
  λ all. (let none : ⊥ = cc in absurd none),
)
puts_are_printed first old new printed piece put_answer.NoMemory before (count, grows) = (
  count,
  grows ∙ ap (λ old. grown_by old (take count piece)) before ∙ grown-twice first printed (take count piece),
  λ all. (let none : ⊥ = cc in absurd none),
)
