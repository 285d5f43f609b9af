use Rattle.std.proofs.Common.{ap, sym, subst, true, ◌≡◌, ◌∙◌, ◌++◌}
use Rattle.std.specs.Prelude.{flat_map}
use Rattle.hph_program.specs.Sources.{includes_in}
use Rattle.hph_included.specs.Literals.{are_paths, shapes}
use Rattle.hph_included.proofs.Naming.{tree_paths}
use Rattle.hph_included.proofs.paths.included.Goals as goal

pub all_named-requires : goal.all_named-requires
all_named-requires c =
    let found : shapes c.in_statements.new.found.items ≡ flat_map includes_in c.args.tree.now.statements =
    c.in_ok-in_statements.ensures ∙ ap (λ l. shapes l ++ flat_map includes_in c.as_slice.result.now) c.new-literals.ensures.items ∙ ap (flat_map includes_in) c.as_slice.ensures in
    subst (λ l. are_paths (shapes l) ≡ true) (sym c.deref.ensures.value) (tree_paths c.args.tree.now c.in_statements.new.found.items c.requires found)
