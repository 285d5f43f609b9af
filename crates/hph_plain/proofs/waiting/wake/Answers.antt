use Rattle.std.proofs.Common.{refl, arith}
use Rattle.hph_plain.proofs.Members.{in_get}
use Rattle.hph_plain.proofs.Waits.{wakes-more}
use Rattle.hph_plain.proofs.waiting.wake.Goals as goal

pub add-requires : goal.add-requires
add-requires c =
    let i = c.loop-reader.reader-index in
    let within = c.requires _ (in_get c.args.readers.now i 0 (omega arith)) in
    let len = c.loop-reader.invariant.len in
    omega (arith, within, len)

pub loop-reader-preserved : goal.loop-reader-preserved
loop-reader-preserved c =
    wakes-more c.args.readers.now c.loop-reader.reader-index _ c.args.waiting.now c.loop-reader.waiting c.add.new.self
    (omega arith) refl c.loop-reader.invariant c.in_ok-add.ensures
