use Rattle.std.proofs.Common.{◌≡◌, ◌-◌, length, arith, sym, ◌∙◌}
use Rattle.std.proofs.lemmas.Bool.{ltb-true, lt-ltb}
use Rattle.hph_array.proofs.Rising.{last_after, last_after-there, last_after-none, within, RiseFrom-push, RiseFrom-last}
use Rattle.hph_array.proofs.keys.rises.Goals as goal
use Rattle.hph_array.proofs.keys.rises.Goals.{in-Some, in-None}

pub returns : goal.returns
returns c =
    let last : last_after 0 c.args.keys.now ≡ c.match-last.last =
    elim c.match-last.branch [
      | in-Some w ↦
          let there = sym w.in-Some.ensures.value in
          last_after-there 0 c.args.keys.now (length c.args.keys.now - 1) w.in-Some.last.now
          (omega (arith, within c.args.keys.now _ w.in-Some.last.now there)) there
          ∙ sym (w.last-is ∙ w.number_after-last.ensures.value)
      | in-None w ↦ last_after-none 0 c.args.keys.now (sym w.in-None.ensures.value) ∙ sym w.last-is
    ] in (
      λ above. RiseFrom-push 0 c.args.keys.now c.args.key.now c.requires (omega (arith, last, ltb-true _ _ above, c.number_after.ensures.value)),
      λ risen. lt-ltb _ _ (omega (arith, last, c.number_after.ensures.value, RiseFrom-last 0 c.args.keys.now c.args.key.now risen)),
    )
