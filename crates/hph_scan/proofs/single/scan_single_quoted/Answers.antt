use Rattle.std.proofs.Common.{arith}
use Rattle.hph_scan.proofs.SingleQuotes.{quoted}
use Rattle.hph_scan.proofs.single.scan_single_quoted.Goals as goal

pub returns-then-first-eq39 : goal.returns-then-first-eq39
returns-then-first-eq39 c =
    quoted c.args.bytes.now c.loop-rest.rest.now c.loop-rest.text (omega arith) c.if-first-eq39.true c.loop-rest.invariant.spells
