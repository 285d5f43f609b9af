use Rattle.std.proofs.Common.{◌≡◌, ◌≤◌, length, subst}
use Rattle.hph_lowm.specs.Compiles.{Compiles}
use Rattle.hph_lowm.specs.Layout.{module_of}
use Rattle.hph_size.specs.Nodes.{tree_nodes}
use Rattle.hph_compile.proofs.module.compiled.Goals as goal

pub returns-clause-compiled : goal.returns-clause-compiled
returns-clause-compiled c =
    let tree = c.in_ok-tree.tree in
    let texts = c.in_ok-texts.texts in
    let m = c.in_ok-module.module in
    let same : c.as_slice.result.now ≡ texts = c.as_slice.ensures in
    let few : length texts ≤ tree_nodes tree = c.texts_are_nodes.ensures tree texts c.in_ok-texts.ensures in
    record {
      tree = tree;
      read = c.in_ok-tree.ensures.tree;
      texts = texts;
      prints = c.in_ok-texts.ensures;
      m = m;
      spelled = c.in_ok-bytes.ensures.spelled;
      compiles = subst (λ t. length t ≤ tree_nodes tree → Compiles t (tree_nodes tree) m) same (c.in_ok-module.ensures.compiles (tree_nodes tree)) few;
      laid_out = subst (λ t. m ≡ module_of t) same c.in_ok-module.ensures.laid_out;
      shortest = c.in_ok-bytes.ensures.shortest;
    }
