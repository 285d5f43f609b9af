-- A state is rewritten in one way at most.
use Rattle.std.proofs.Common.{◌≡◌, inl, inr, ℕ, List, refl, sym, subst, ◌∙◌}
use Rattle.hph_wasm.specs.declared.instr.Instr.{Instr, Br}
use Rattle.hph_wasm.specs.declared.value.Value.{Value}
use Rattle.hph_wasm.specs.declared.module.Module.{Module}
use Rattle.hph_wasm.specs.Configuration.{Host, Store}
use Rattle.hph_wasm.specs.Sequences.{Labelled, Framed, Sequence, Then, join, stack}
use Rattle.hph_wasm.specs.Rewriting.{Rewrites, here, in_label, in_frame, RewritesOneWay}
use Rattle.hph_wasm.proofs.Fronts.{front-same}
use Rattle.hph_wasm.proofs.RuleViews.{by_branch, Acts, Seen, rule_seen}
use Rattle.hph_wasm.proofs.RuleOutcomes.{Same, View, at_front, within_label, within_frame, view, acts_at, stack_not_rewritten, not_rewritten, acts_same, leaves_all}

module _ {H E : Type 0} (host : Host H E) (m : Module) where
  -- Where a rule leaves a label, nothing inside is rewritten.
  label_or_inside : (s s1 s2 : Store H) (locals l1 l2 values : List Value) (n : ℕ) (continuation : List Instr) (body after rest becomes : Sequence) →
      Acts host m s locals values (Labelled n continuation body) rest s1 l1 becomes → Rewrites host m s locals body s2 l2 after → ⊥
  label_or_inside s s1 s2 locals l1 l2 values n continuation body after rest becomes (_, _, inl (given, same, _)) r =
      stack_not_rewritten host m s s2 locals l2 given body after (view host m s s2 locals l2 body after r) same
  label_or_inside s s1 s2 locals l1 l2 values n continuation body after rest becomes (_, _, inr (k, top, long, stands, _)) r =
      not_rewritten host m top (Br k) k body stands (leaves_all (Br k) k (by_branch k)) s s2 locals l2 after r

  -- The same of a frame.
  frame_or_inside : (s s1 s2 : Store H) (locals l1 inner inner' values : List Value) (n : ℕ) (body after rest becomes : Sequence) →
      Acts host m s locals values (Framed n inner body) rest s1 l1 becomes → Rewrites host m s inner body s2 inner' after → ⊥
  frame_or_inside s s1 s2 locals l1 inner inner' values n body after rest becomes (_, _, inl (given, _, same, _)) r =
      stack_not_rewritten host m s s2 inner inner' given body after (view host m s s2 inner inner' body after r) same
  frame_or_inside s s1 s2 locals l1 inner inner' values n body after rest becomes (_, _, inr (i, k, top, leaves, long, stands, _)) r =
      not_rewritten host m top i k body stands (leaves_all i k leaves) s s2 inner inner' after r

  -- A rule at the front has the outcome of every rewriting.
  seen_same : (s s1 s2 : Store H) (locals l1 l2 : List Value) (code code' b1 b2 : Sequence) → Seen host m s locals code s1 l1 b1 →
      View host m s locals code' s2 l2 b2 → code ≡ code' → Same host m s1 s2 l1 l2 b1 b2
  seen_same s s1 s2 locals l1 l2 code code' b1 b2 a (at_front b) same =
      let (stacks, first, back) = front-same a.values b.values a.first b.first a.rest b.rest a.front b.front (sym a.split ∙ same ∙ b.split) in
      acts_same host m a.first s s1 s2 locals l1 l2 a.values a.rest b1 b2 a.acts
      (acts_at host m s s2 locals l2 a.values b.values a.first b.first a.rest b.rest b2 stacks first back b.acts)
  seen_same s s1 s2 locals l1 l2 code code' b1 b2 a (within_label values n continuation body after rest split r is) same =
      let (stacks, first, back) = front-same values a.values (Labelled n continuation body) a.first rest a.rest tt a.front
      (sym split ∙ sym same ∙ a.split) in
      absurd (label_or_inside s s1 s2 locals l1 l2 values n continuation body after rest b1
      (acts_at host m s s1 locals l1 values a.values (Labelled n continuation body) a.first rest a.rest b1 stacks first back a.acts) r)
  seen_same s s1 s2 locals l1 l2 code code' b1 b2 a (within_frame values n inner inner' body after rest split r kept is) same =
      let (stacks, first, back) = front-same values a.values (Framed n inner body) a.first rest a.rest tt a.front (sym split ∙ sym same ∙ a.split) in
      absurd (frame_or_inside s s1 s2 locals l1 inner inner' values n body after rest b1
      (acts_at host m s s1 locals l1 values a.values (Framed n inner body) a.first rest a.rest b1 stacks first back a.acts) r)

  -- The other way round.
  turned : (s1 s2 : Store H) (l1 l2 : List Value) (b1 b2 : Sequence) → Same host m s1 s2 l1 l2 b1 b2 → Same host m s2 s1 l2 l1 b2 b1
  turned s1 s2 l1 l2 b1 b2 (stores, locals, codes) = (sym stores, sym locals, sym codes)

  -- Two rewritings of one sequence have one outcome.
  one_way : (s s1 s2 : Store H) (locals l1 l2 : List Value) (code code' b1 b2 : Sequence) → Rewrites host m s locals code s1 l1 b1 →
      View host m s locals code' s2 l2 b2 → code ≡ code' → Same host m s1 s2 l1 l2 b1 b2
  one_way s s1 s2 locals l1 l2 _ code' _ b2 (here {a = a} {b = b} values rest r) other same =
      seen_same s s1 s2 locals l1 l2 (join (stack values) (join a rest)) code' (join (stack values) (join b rest)) b2
      (rule_seen host m s s1 locals l1 a b values rest r) other same
  one_way s s1 s2 locals l1 l2 _ code' _ b2 (in_label {a = a} {b = b} values n continuation rest r) (at_front seen) same =
      turned s2 s1 l2 l1 b2 (join (stack values) (Then (Labelled n continuation b) rest))
      (seen_same s s2 s1 locals l2 l1 code' (join (stack values) (Then (Labelled n continuation a) rest)) b2 (join (stack values) (Then (Labelled n continuation b) rest))
      seen (within_label values n continuation a b rest refl r refl) (sym same))
  one_way s s1 s2 locals l1 l2 _ code' _ b2 (in_label {a = a} {b = b} values n continuation rest r) (within_label others n' continuation' body after behind split r' is) same =
      let (stacks, first, back) = front-same values others (Labelled n continuation a) (Labelled n' continuation' body) rest behind tt tt (same ∙ split) in
      let bodies : a ≡ body = cc in
      let numbers : n ≡ n' = cc in
      let continuations : continuation ≡ continuation' = cc in
      let (stores, locals_same, codes) = one_way s s1 s2 locals l1 l2 a body b after r (view host m s s2 locals l2 body after r') bodies in
      let outcome : join (stack values) (Then (Labelled n continuation b) rest) ≡ join (stack others) (Then (Labelled n' continuation' after) behind) = cc in
      (stores, locals_same, outcome ∙ sym is)
  one_way s s1 s2 locals l1 l2 _ code' _ b2 (in_label {a = a} {b = b} values n continuation rest r) (within_frame others n' inner inner' body after behind split r' kept is) same =
      let (stacks, first, back) = front-same values others (Labelled n continuation a) (Framed n' inner body) rest behind tt tt (same ∙ split) in
      let none : ⊥ = cc in absurd none
  one_way s s1 s2 _ _ l2 _ code' _ b2 (in_frame {inner = inner} {inner' = inner'} {a = a} {b = b} locals values n rest r) (at_front seen) same =
      turned s2 s1 l2 locals b2 (join (stack values) (Then (Framed n inner' b) rest))
      (seen_same s s2 s1 locals l2 locals code' (join (stack values) (Then (Framed n inner a) rest)) b2 (join (stack values) (Then (Framed n inner' b) rest))
      seen (within_frame values n inner inner' a b rest refl r refl refl) (sym same))
  one_way s s1 s2 _ _ l2 _ code' _ b2 (in_frame {inner = inner} {inner' = inner'} {a = a} {b = b} locals values n rest r) (within_label others n' continuation body after behind split r' is) same =
      let (stacks, first, back) = front-same values others (Framed n inner a) (Labelled n' continuation body) rest behind tt tt (same ∙ split) in
      let none : ⊥ = cc in absurd none
  one_way s s1 s2 _ _ l2 _ code' _ b2 (in_frame {inner = inner} {inner' = inner'} {a = a} {b = b} locals values n rest r) (within_frame others n' frame frame' body after behind split r' kept is) same =
      let (stacks, first, back) = front-same values others (Framed n inner a) (Framed n' frame body) rest behind tt tt (same ∙ split) in
      let bodies : a ≡ body = cc in
      let numbers : n ≡ n' = cc in
      let frames : frame ≡ inner = cc in
      let r_here = subst (λ frame. Rewrites host m s frame body s2 frame' after) frames r' in
      let (stores, locals_same, codes) = one_way s s1 s2 inner inner' frame' a body b after r (view host m s s2 inner frame' body after r_here) bodies in
      let outcome : join (stack values) (Then (Framed n inner' b) rest) ≡ join (stack others) (Then (Framed n' frame' after) behind) = cc in
      (stores, sym kept, outcome ∙ sym is)

  -- So states have one too.
  pub rewrites_one_way : RewritesOneWay host m
  rewrites_one_way before a b first second =
      let (stores, locals, codes) = one_way before.store a.store b.store before.locals a.locals b.locals before.code before.code a.code b.code first
      (view host m before.store b.store before.locals b.locals before.code b.code second) refl in
      λ i. record { store = stores i; locals = locals i; code = codes i }
