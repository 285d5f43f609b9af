-- What raises keep.
use Rattle.std.proofs.Common.{◌≡◌, ◌≢◌, ℕ, zero, suc, ◌+◌, ◌-◌, ◌^◌, ◌<◌, ◌≤◌, List, length, set, min, sym, refl, ap, subst, arith, get_or-set_same, get_or-set_other}
use mathlib.Core.Logic.{dite}
use native.Mathlib.Decide.{ℕ_discrete}
use Rattle.hph_type.specs.Types.{PhpType, none}
use Rattle.hph_type.specs.Order.{Leq, join}
use Rattle.hph_sys.specs.Typings.{at, Below}
use Rattle.hph_sys.specs.Shape.{Shape, asked, IsTyping}
use Rattle.hph_sys.specs.Least.{IsMet, IsSolution}
use Rattle.hph_sys.specs.Lawful.{Lawful}
use Rattle.hph_core.specs.Rule.{AtMostLeast}
use Rattle.hph_core.proofs.Types.{leq_refl, leq_trans, join_least, asked_below, asked_met}
use Rattle.hph_turns.specs.Phases.{Slack}
use Rattle.hph_turns.proofs.Rounds.{set_typing, join_typed, grown_set, slack_falls}
use Rattle.hph_infer.specs.Raising.{IsRaise, Raises, RaisedBy}

module _ (sys : Shape) where
  raise_typing : (L M : List PhpType) → IsTyping sys L → IsRaise sys L M → IsTyping sys M
  raise_typing L M typing r = subst (IsTyping sys) (sym r.risen) (set_typing sys L r.cell (join sys.classes (at L r.cell) r.type) r.cell_in typing (join_typed sys (at L r.cell) r.type (typing.types r.cell) r.typed))

  raise_grown : (K L M : List PhpType) → IsTyping sys L → Below sys.classes K L → IsRaise sys L M → Below sys.classes K M
  raise_grown K L M typing below r = subst (Below sys.classes K) (sym r.risen) (grown_set sys K L r.cell r.type (let l = typing.len in let k = r.cell_in in omega arith) below)

  raise_slack : (L M : List PhpType) → IsTyping sys L → IsRaise sys L M → Slack sys M < Slack sys L
  raise_slack L M typing r = subst (λ (X : List PhpType). Slack sys X < Slack sys L) (sym r.risen) (slack_falls sys L r.cell r.type r.cell_in typing r.typed r.unmet)

  raise_low : Lawful sys → (L M : List PhpType) → IsTyping sys L → AtMostLeast sys L → IsRaise sys L M → AtMostLeast sys M
  raise_low law L M typing low r U sol d =
      let u : PhpType = join sys.classes (at L r.cell) r.type in
      let long : r.cell < length L = (let l = typing.len in let k = r.cell_in in omega arith) in
      subst (λ (X : List PhpType). Leq sys.classes (at X d) (at U d)) (sym r.risen) (dite (ℕ_discrete d r.cell)
      (λ y. subst (λ (k : ℕ). Leq sys.classes (at (set L r.cell u) k) (at U k)) (sym y) (subst (λ (x : PhpType). Leq sys.classes x (at U r.cell)) (sym (get_or-set_same L r.cell u none long))
      (join_least sys.classes (at L r.cell) r.type (at U r.cell) (low U sol r.cell) (leq_trans sys.classes r.type (asked sys r.scope L r.cell) (at U r.cell) r.asks (asked_below sys law r.scope r.scope_in L U typing sol (low U sol) r.cell)))))
      (λ n. subst (λ (x : PhpType). Leq sys.classes x (at U d)) (sym (get_or-set_other L r.cell d u none n)) (low U sol d)))

  pub raises_typing : (n : ℕ) (K M : List PhpType) → IsTyping sys K → Raises sys n K M → IsTyping sys M
  raises_typing zero K M typing e = subst (IsTyping sys) (sym e) typing
  raises_typing (suc n) K M typing r = raise_typing r.0 M (raises_typing n K r.0 typing r.1) r.2

  pub raises_grown : (n : ℕ) (K M : List PhpType) → IsTyping sys K → Raises sys n K M → Below sys.classes K M
  raises_grown zero K M typing e = subst (Below sys.classes K) (sym e) (λ c. leq_refl sys.classes (at K c))
  raises_grown (suc n) K M typing r = raise_grown K r.0 M (raises_typing n K r.0 typing r.1) (raises_grown n K r.0 typing r.1) r.2

  pub raises_low : Lawful sys → (n : ℕ) (K M : List PhpType) → IsTyping sys K → AtMostLeast sys K → Raises sys n K M → AtMostLeast sys M
  raises_low law zero K M typing low e = subst (AtMostLeast sys) (sym e) low
  raises_low law (suc n) K M typing low r = raise_low law r.0 M (raises_typing n K r.0 typing r.1) (raises_low law n K r.0 typing low r.1) r.2

  pub raises_slack : (n : ℕ) (K M : List PhpType) → IsTyping sys K → Raises sys n K M → Slack sys M + n ≤ Slack sys K
  raises_slack zero K M typing e = let s : Slack sys M ≡ Slack sys K = ap (Slack sys) e in omega arith
  raises_slack (suc n) K M typing r =
      let a = raises_slack n K r.0 typing r.1 in
      let b = raise_slack r.0 M (raises_typing n K r.0 typing r.1) r.2 in
      omega arith

  pub raises_then : (a b : ℕ) (K L M : List PhpType) → Raises sys a K L → Raises sys b L M → (n : ℕ) × (n ≡ a + b) × Raises sys n K M
  raises_then a zero K L M r e = (a, omega arith, subst (Raises sys a K) (sym e) r)
  raises_then a (suc b) K L M r s = let p = raises_then a b K L s.0 r s.1 in (suc p.0, (let e = p.1 in omega arith), (s.0, p.2, s.2))

  raises_same : (n : ℕ) (K M : List PhpType) → n ≡ 0 → Raises sys n K M → M ≡ K
  raises_same zero K M z e = e
  raises_same (suc n) K M z r = absurd (omega arith)

  no_raise : (K M : List PhpType) → ((s : ℕ) → s < sys.scopes → IsMet sys K s) → ¬ IsRaise sys K M
  no_raise K M met r = r.unmet (leq_trans sys.classes r.type (asked sys r.scope K r.cell) (at K r.cell) r.asks (asked_met sys K r.scope r.cell (met r.scope r.scope_in)))

  raises_none : (n : ℕ) (K M : List PhpType) → ((s : ℕ) → s < sys.scopes → IsMet sys K s) → Raises sys n K M → n ≡ 0
  raises_none zero K M met e = refl
  raises_none (suc n) K M met r = absurd (no_raise K M met (subst (λ (X : List PhpType). IsRaise sys X M) (raises_same n K r.0 (raises_none n K r.0 met r.1) r.1) r.2))

  pub raised_start : (K : List PhpType) → RaisedBy sys 0 K K
  raised_start K = record { times = 0; raises = refl; told_is = omega arith }

  pub raised_one : (told told' : ℕ) (K L M : List PhpType) → RaisedBy sys told K L → IsRaise sys L M → told' ≡ min (told + 1) (2 ^ 64 - 1) → RaisedBy sys told' K M
  raised_one told told' K L M was r e = record { times = suc was.times; raises = (L, was.raises, r); told_is = (let t = was.told_is in omega arith) }

  pub raised_then : (a b told : ℕ) (K L M : List PhpType) → RaisedBy sys a K L → RaisedBy sys b L M → told ≡ min (a + b) (2 ^ 64 - 1) → RaisedBy sys told K M
  raised_then a b told K L M was more e = let p = raises_then was.times more.times K L M was.raises more.raises in
      record { times = p.0; raises = p.2; told_is = (let s = p.1 in let t = was.told_is in let u = more.told_is in omega arith) }

  pub raised_same : (told : ℕ) (K L : List PhpType) → RaisedBy sys told K L → told ≡ 0 → L ≡ K
  raised_same told K L was z = raises_same was.times K L (let t = was.told_is in omega arith) was.raises

  pub raised_none : Lawful sys → (told : ℕ) (K L : List PhpType) → RaisedBy sys told K L → IsSolution sys K → told ≡ 0
  raised_none law told K L was sol = let n = raises_none was.times K L sol.met was.raises in let t = was.told_is in omega arith

  pub raised_typing : (told : ℕ) (K L : List PhpType) → RaisedBy sys told K L → IsTyping sys K → IsTyping sys L
  raised_typing told K L was typing = raises_typing was.times K L typing was.raises

  pub raised_grown : (told : ℕ) (K L : List PhpType) → RaisedBy sys told K L → IsTyping sys K → Below sys.classes K L
  raised_grown told K L was typing = raises_grown was.times K L typing was.raises

  pub raised_low : Lawful sys → (told : ℕ) (K L : List PhpType) → RaisedBy sys told K L → IsTyping sys K → AtMostLeast sys K → AtMostLeast sys L
  raised_low law told K L was typing low = raises_low law was.times K L typing low was.raises

  pub raised_falls : (told : ℕ) (K L : List PhpType) → RaisedBy sys told K L → IsTyping sys K → told ≢ 0 → Slack sys L < Slack sys K
  raised_falls told K L was typing n = let a = raises_slack was.times K L typing was.raises in let t = was.told_is in omega (arith, n)
