use Rattle.std.proofs.Common.{◌≡◌, ◌≤◌, ◌+◌, take}
use Rattle.std.specs.Prelude.{IfSome}
use Rattle.hph_program.specs.Program.{all_bytes_limit}
use Rattle.hph_wave.specs.Known.{spelled}
use Rattle.hph_include.specs.Faults.{AreRead}
use Rattle.hph_include.specs.Reading.{total_of}
use Rattle.hph_include.specs.Waves.{contents_of, paths_of}
use Rattle.hph_include.proofs.reading.read_all.Given as goal

abbrev pub invariant-loop-path : goal.invariant-loop-path
invariant-loop-path g l = record {
  same : g.T.Tree.files l.tree ≡ g.T.Tree.files l.fn.tree;
  never_falls : g.T.Tree.faults l.fn.tree ≤ g.T.Tree.faults l.tree;
  counted : l.bytes ≡ l.fn.bytes + total_of l.sources.items;
  short : l.bytes ≤ all_bytes_limit;
  paths : paths_of l.sources.items ≡ spelled (take l.path-index l.paths);
  read : IfSome (g.T.Tree.files l.fn.tree) (λ files. AreRead files l.fn.bytes (spelled (take l.path-index l.paths)) (contents_of l.sources.items));
}
