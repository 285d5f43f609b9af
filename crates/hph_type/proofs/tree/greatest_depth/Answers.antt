use Rattle.std.proofs.Common.{◌≡◌, ◌<◌, ◌≤◌, ◌∙◌, sym, ap, arith, rules, Some, None, length, slice_index_or}
use Rattle.std.specs.Prelude.{slice_index, max}
use Rattle.std.proofs.lemmas.Option.{slice_get-get_or}
use Rattle.hph_type.specs.Classes.{depth}
use Rattle.hph_type.proofs.ClassLaws.{depth-le, depth-read, depths-more, deepest_below-suc, deepest_below-zero}
use Rattle.hph_type.proofs.tree.greatest_depth.Goals as goal

pub loop-parent-init : goal.loop-parent-init
loop-parent-init c =
    (c.new-depths.ensures.len, λ k less. absurd (omega arith), sym (deepest_below-zero c.args.parents.now), omega arith)

pub next_depth-depth-requires-clause-before : goal.next_depth-depth-requires-clause-before
next_depth-depth-requires-clause-before c = λ p e.
    let within : c.loop-parent.parent-index < length c.args.parents.now = omega arith in
    let less : p < c.loop-parent.parent-index =
    c.requires _ p (slice_get-get_or c.args.parents.now c.loop-parent.parent-index None within ∙ ap Some e) in
    omega (arith, c.deref.ensures.len)

pub next_depth-depth-requires-clause-low : goal.next_depth-depth-requires-clause-low
next_depth-depth-requires-clause-low c = λ p e.
    let within : c.loop-parent.parent-index < length c.args.parents.now = omega arith in
    let less : p < c.loop-parent.parent-index =
    c.requires _ p (slice_get-get_or c.args.parents.now c.loop-parent.parent-index None within ∙ ap Some e) in
    let at : slice_index c.deref.result.now p ≡ depth c.args.parents.now p =
    ap (λ depths. slice_index depths p) c.deref.ensures.value ∙ c.loop-parent.invariant.1 p less in
    let low : depth c.args.parents.now p ≤ p = depth-le c.args.parents.now p in
    omega arith

pub loop-parent-preserved : goal.loop-parent-preserved
loop-parent-preserved c =
    let tree = c.args.parents.now in
    let n = c.loop-parent.parent-index in
    let within : n < length tree = omega arith in
    let is : c.next_depth-depth.result ≡ depth tree n =
    depth-read tree c.requires n (slice_index_or tree n None) c.deref.result.now c.next_depth-depth.result
    (slice_get-get_or tree n None within)
    (λ k less. ap (λ depths. slice_index depths k) c.deref.ensures.value ∙ c.loop-parent.invariant.1 k less)
    c.next_depth-depth.ensures.value in
    let deepest : c.max-deepest.result ≡ max c.loop-parent.deepest c.next_depth-depth.result = search rules in
    let len : length c.loop-parent.depths.items ≡ n = omega (arith, c.loop-parent.depths.ok.0) in (
      omega (arith, c.in_ok-push.ensures.len),
      λ k less.
          ap (λ depths. slice_index depths k) c.in_ok-push.ensures.items
          ∙ depths-more tree c.loop-parent.depths.items n c.next_depth-depth.result len c.loop-parent.invariant.1
          is k less,
      deepest ∙ ap (λ d. max d c.next_depth-depth.result) c.loop-parent.invariant.2
          ∙ sym (deepest_below-suc tree n c.next_depth-depth.result is),
      omega (arith, c.next_depth-depth.ensures.within),
    )
