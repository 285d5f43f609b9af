use Rattle.hph_depth_tests.proofs.Deep.{deep_is_writable}
use Rattle.hph_depth_tests.proofs.depth.deep_module.Goals as goal

pub returns : goal.returns
returns c = rw (
  c.from_vec-types.ensures,
  c.in_ok-vec-2.ensures.items,
  c.new-2.ensures,
  c.new-3.ensures,
  c.from_vec-funcs.ensures,
  c.in_ok-vec.ensures.items,
  c.new.ensures,
  c.new-4.ensures,
  c.new-5.ensures,
  c.new-6.ensures,
  c.new-7.ensures,
  c.new-8.ensures,
  c.new-9.ensures,
  c.new-10.ensures,
) (deep_is_writable c.in_ok-body.body c.args.blocks c.in_ok-body.ensures c.requires)
