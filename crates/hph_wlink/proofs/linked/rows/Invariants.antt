use Rattle.std.proofs.Common.{take}
use Rattle.hph_wlink.specs.Linking.{AreRows}
use Rattle.hph_wlink.proofs.linked.rows.Given as goal

abbrev pub invariant-loop-import : goal.invariant-loop-import
invariant-loop-import g l = AreRows g.H.AnyHost.meaning l.m (take l.import-index l.import-items) l.rows
