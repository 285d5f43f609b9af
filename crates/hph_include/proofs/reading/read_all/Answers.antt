use Rattle.std.proofs.Common.{refl, arith, ap, sym, subst, ◌∙◌, ◌∷◌, []}
use Rattle.std.specs.Prelude.{IfSome, Option}
use Rattle.hph_src.specs.Files.{Files}
use Rattle.hph_include.specs.Faults.{Stops}
use Rattle.hph_include.specs.Reading.{IsRead}
use Rattle.hph_include.proofs.OneMore.{nothing_read, told_both, due_weaker, handed_on, stops_in, read_in, count_more, paths_more, risen_since}
use Rattle.hph_include.proofs.reading.read_all.Goals as goal

pub loop-path-init : goal.loop-path-init
loop-path-init g c = rw c.new-sources.ensures.items (record {
  same = refl;
  never_falls = omega arith;
  counted = omega arith;
  short = c.requires;
  paths = refl;
  read = nothing_read _ _;
})

pub returns-in_err-source-clause-stops : goal.returns-in_err-source-clause-stops
returns-in_err-source-clause-stops g c =
    let so_far = c.loop-path.invariant in
    handed_on _ c.from_residual.result c.in_err-source.field-0.0 c.from_residual.ensures.1
    (due_weaker (risen_since _ _ _ so_far.never_falls)
    (λ fault stops. told_both (g.T.Tree.files c.args.tree.now)
    (λ files read one. stops_in c.args.paths.now c.loop-path.path-index c.path-item.result c.loop-path.sources.items read so_far.counted (omega arith) c.path-item.is c.as_str.ensures.value one)
    so_far.read (subst (λ (o : Option Files). IfSome o (λ files. Stops files c.loop-path.bytes (c.as_str.result.now ∷ []) fault)) so_far.same stops))
    c.in_err-source.field-0.0 c.in_err-source.ensures.stops)

pub loop-path-preserved : goal.loop-path-preserved
loop-path-preserved g c =
    let so_far = c.loop-path.invariant in
    let paths = c.args.paths.now in
    let i = c.loop-path.path-index in
    let sources = c.loop-path.sources.items in
    let source = c.in_ok-source.source in
    record {
      same = c.in_ok-source.ensures.same ∙ so_far.same;
      never_falls = omega (arith, c.in_ok-source.ensures.never_falls);
      counted = count_more _ _ _ sources _ source so_far.counted c.in_ok-source.ensures.counted c.in_ok-push.ensures.items;
      short = c.in_ok-source.ensures.short;
      paths = paths_more paths i c.path-item.result _ sources _ source (omega arith) c.path-item.is c.as_str.ensures.value c.in_ok-push.ensures.items so_far.paths c.in_ok-source.ensures.path;
      read = told_both (g.T.Tree.files c.args.tree.now)
          (λ files read one. read_in paths i c.path-item.result sources source read so_far.counted (omega arith) c.path-item.is c.as_str.ensures.value c.in_ok-push.ensures.items one)
          so_far.read (subst (λ (o : Option Files). IfSome o (λ files. IsRead files c.loop-path.bytes c.as_str.result.now source)) so_far.same c.in_ok-source.ensures.read);
    }
