use Rattle.std.proofs.Common.{arith}
use Rattle.hph_program.specs.Sources.{path_named}
use Rattle.hph_included.proofs.Naming.{literal_more, path_at}
use Rattle.hph_included.proofs.paths.all_named.Goals as goal

pub add_named-requires : goal.add_named-requires
add_named-requires c = path_at c.args.literals.now c.loop-literal.literal-index c.literal-item.result c.requires (omega arith) c.literal-item.is

pub loop-literal-preserved : goal.loop-literal-preserved
loop-literal-preserved c = literal_more (path_named c.args.folder.now) c.args.literals.now c.loop-literal.literal-index c.literal-item.result _ _ (omega arith) c.literal-item.is c.loop-literal.invariant c.in_ok-add_named.ensures
