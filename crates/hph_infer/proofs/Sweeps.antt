-- The loops of the sweep.
use Rattle.std.proofs.Common.{◌≡◌, ℕ, ◌+◌, ◌-◌, ◌^◌, ◌<◌, ◌≤◌, List, length, get_or, set, min, sym, refl, ap, subst, ◌∙◌, arith}
use mathlib.Core.Logic.{dite}
use native.Mathlib.Decide.{ℕ_discrete}
use Rattle.hph_type.specs.Types.{PhpType}
use Rattle.hph_type.specs.Order.{Leq, IsOf, join}
use Rattle.hph_sys.specs.Typings.{In, at}
use Rattle.hph_sys.specs.Shape.{Shape, asked, IsTyping}
use Rattle.hph_sys.specs.Least.{IsMet, IsLeast}
use Rattle.hph_sys.specs.Lawful.{Lawful}
use Rattle.hph_core.specs.Rule.{AtMostLeast}
use Rattle.hph_turns.proofs.Rounds.{in_at, asks_item, default_of}
use Rattle.hph_infer.specs.Raising.{RaisedBy}
use Rattle.hph_infer.specs.Sweep.{Swept, SweptRound}
use Rattle.hph_infer.proofs.Raised.{raised_start, raised_one, raised_then, raised_same, raised_typing, raised_grown}

-- The pairs before i are swept from K to L.
pub record SweptSoFar (sys : Shape) (pairs : List (ℕ × PhpType)) (i told : ℕ) (K L : List PhpType) : Type 0 where
  pub raised : RaisedBy sys told K L
  pub met : told ≡ 0 → (j : ℕ) → j < i → (d : ℕ × PhpType) → Leq sys.classes (get_or pairs j d).1 (at L (get_or pairs j d).0)

pub sweep_start : (sys : Shape) (pairs : List (ℕ × PhpType)) (K : List PhpType) → SweptSoFar sys pairs 0 0 K K
sweep_start sys pairs K = record { raised = raised_start sys K; met = λ _ j l. absurd (omega arith) }

-- what the pair at i asks
pub asks_swept : (sys : Shape) → Lawful sys → (s : ℕ) (pairs : List (ℕ × PhpType)) (i told : ℕ) (K L : List PhpType) (p : ℕ × PhpType) → s < sys.scopes → pairs ≡ sys.contrib s K → IsTyping sys K → SweptSoFar sys pairs i told K L → i < length pairs → p ≡ get_or pairs i p
    → (p.0 < sys.cells) × In (sys.owner p.0) (sys.look s) × IsOf sys.classes p.1 × Leq sys.classes p.1 (asked sys s L p.0)
asks_swept sys law s pairs i told K L p s_in is typing was h e = asks_item sys law s pairs K L i p s_in is typing (raised_typing sys told K L was.raised typing) (raised_grown sys told K L was.raised typing) h e

pub sweep_more : (sys : Shape) → Lawful sys → (s : ℕ) (pairs : List (ℕ × PhpType)) (i told told' : ℕ) (K L : List PhpType) (p : ℕ × PhpType) → s < sys.scopes → pairs ≡ sys.contrib s K → IsTyping sys K → SweptSoFar sys pairs i told K L → i < length pairs → p ≡ get_or pairs i p
    → ¬ Leq sys.classes p.1 (at L p.0) → told' ≡ min (told + 1) (2 ^ 64 - 1) → SweptSoFar sys pairs (i + 1) told' K (set L p.0 (join sys.classes (at L p.0) p.1))
sweep_more sys law s pairs i told told' K L p s_in is typing was h e unmet more =
    let a = asks_swept sys law s pairs i told K L p s_in is typing was h e in
    record {
      raised = raised_one sys told told' K L (set L p.0 (join sys.classes (at L p.0) p.1)) was.raised record { scope = s; cell = p.0; type = p.1; scope_in = s_in; cell_in = a.0; typed = a.2; asks = a.3; unmet = unmet; risen = refl } more;
      met = λ z. absurd (omega arith);
    }

pub sweep_none : (sys : Shape) (pairs : List (ℕ × PhpType)) (i told : ℕ) (K L : List PhpType) (p : ℕ × PhpType) → i < length pairs → p ≡ get_or pairs i p → SweptSoFar sys pairs i told K L → Leq sys.classes p.1 (at L p.0) → SweptSoFar sys pairs (i + 1) told K L
sweep_none sys pairs i told K L p h e was le = record {
  raised = was.raised;
  met = λ f j l d. dite (ℕ_discrete j i)
      (λ y. subst (λ (k : ℕ). Leq sys.classes (get_or pairs k d).1 (at L (get_or pairs k d).0)) (sym y) (subst (λ (x : ℕ × PhpType). Leq sys.classes x.1 (at L x.0)) (e ∙ default_of pairs i p d h) le))
      (λ n. was.met f j (omega arith) d);
}

pub sweep_done : (sys : Shape) (s : ℕ) (pairs : List (ℕ × PhpType)) (i told : ℕ) (K L : List PhpType) → length pairs ≤ i → pairs ≡ sys.contrib s K → SweptSoFar sys pairs i told K L → Swept sys s told K L
sweep_done sys s pairs i told K L h is was = record {
  raised = was.raised;
  met = λ f x k. let k' : In x pairs = subst (In x) (sym (is ∙ ap (sys.contrib s) (sym (raised_same sys told K L was.raised f)))) k in let r = in_at pairs x k' in
      subst (λ (y : ℕ × PhpType). Leq sys.classes y.1 (at L y.0)) (r.2 x) (was.met f r.0 (let a = r.1 in omega arith) x);
}

pub round_start : (sys : Shape) (K : List PhpType) → SweptRound sys 0 0 K K
round_start sys K = record { raised = raised_start sys K; met = λ _ s l. absurd (omega arith) }

pub round_more : (sys : Shape) (s told more told' : ℕ) (K L M : List PhpType) → SweptRound sys s told K L → Swept sys s more L M → told' ≡ min (told + more) (2 ^ 64 - 1) → SweptRound sys (s + 1) told' K M
round_more sys s told more told' K L M was w e = record {
  raised = raised_then sys told more told' K L M was.raised w.raised e;
  met = λ f k l. dite (ℕ_discrete k s)
      (λ y. subst (IsMet sys M) (sym y) (w.met (omega arith)))
      (λ n. subst (λ (X : List PhpType). IsMet sys X k) (sym (raised_same sys more L M w.raised (omega arith))) (was.met (omega arith) k (omega arith)));
}

pub least_is : (sys : Shape) (T : List PhpType) → IsTyping sys T → AtMostLeast sys T → ((s : ℕ) → s < sys.scopes → IsMet sys T s) → IsLeast sys T
least_is sys T typing below met = record { is_typing = typing; below = below; greatest = λ L _ h. h T record { is_typing = typing; met = met } }
