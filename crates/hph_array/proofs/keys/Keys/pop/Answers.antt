use Rattle.std.proofs.Common.{◌≡◌, ◌++◌, List, Option, None, Some, IfSome, false, ◌∙◌, subst}
use Rattle.std.specs.List.{list_any, IsDistinct}
use Rattle.std.specs.Option.{option_to_list}
use Rattle.std.proofs.lemmas.List.{append-nil}
use Rattle.std.proofs.lemmas.Option.{IfSome_then}
use Rattle.hph_array.specs.declared.key.Key.{Key}
use Rattle.hph_array.specs.Key.{key_eq}
use Rattle.hph_array.specs.Keys.{RiseFrom, IsHeld}
use Rattle.hph_array.proofs.Rising.{RiseFrom-front, RiseFrom-distinct}
use Rattle.hph_array.proofs.IsArrayLaws.{IsDistinct-front}
use Rattle.hph_array.proofs.keys.Keys.pop.Goals as goal
use Rattle.hph_array.proofs.keys.Keys.pop.Goals.{in-Rising, in-Indexed}

-- Keys that rise do so without the last, if there is one.
rest_rises : (ks js : List Key) (o : Option Key) → RiseFrom 0 ks → ks ≡ js ++ option_to_list o → RiseFrom 0 js
rest_rises ks js None r e = subst (RiseFrom 0) (e ∙ append-nil js) r
rest_rises ks js (Some k) r e = RiseFrom-front 0 js k (subst (RiseFrom 0) e r)

-- The last of distinct keys isn't among the others.
last_gone : (ks js : List Key) (o : Option Key) → IsDistinct key_eq ks → ks ≡ js ++ option_to_list o
    → IfSome o (λ k. list_any (key_eq k) js ≡ false)
last_gone ks js None d e = tt
last_gone ks js (Some k) d e = (IsDistinct-front js k (subst (IsDistinct key_eq) e d)).1

pub invariant_of-self : goal.invariant_of-self
invariant_of-self c =
    elim c.match-self.branch [
      | in-Rising w ↦ rw w.self-inside-is
          (rest_rises w.in-Rising.keys.items w.pop.new.self.items w.pop.result
          (subst IsHeld w.in-Rising.is c.self.invariant) w.pop.ensures.items)
      | in-Indexed w ↦ rw w.self-inside-is tt
    ]

pub returns-clause-gone : goal.returns-clause-gone
returns-clause-gone c =
    elim c.match-self.branch [
      | in-Rising w ↦ rw (w.self-inside-is, w.result-is)
          (last_gone w.in-Rising.keys.items w.pop.new.self.items w.pop.result
          (RiseFrom-distinct 0 w.in-Rising.keys.items (subst IsHeld w.in-Rising.is c.self.invariant))
          w.pop.ensures.items)
      | in-Indexed w ↦ rw (w.self-inside-is, w.result-is)
          (IfSome_then w.pop-in-Indexed.result w.pop-in-Indexed.ensures.updates (λ k u. u.1))
    ]
