use Rattle.std.proofs.Common.{arith}
use Rattle.hph_wasm.specs.ModuleGrammar.{header}
use Rattle.hph_wread.proofs.Combinators.{handed_on}
use Rattle.hph_wdec.proofs.PrefixBytes.{prefix_more, prefix_fails}
use Rattle.hph_wdec.proofs.module.behind_header.Goals as goal

pub returns-in_err-rest-clause-stopped : goal.returns-in_err-rest-clause-stopped
returns-in_err-rest-clause-stopped c =
    let e = c.in_err-rest.field-0.0 in
    handed_on _ c.from_residual.result e c.from_residual.ensures.1
    (prefix_fails header c.loop-byte.byte-index (omega arith) c.loop-byte.invariant e c.in_err-rest.ensures.stopped)

pub loop-byte-preserved : goal.loop-byte-preserved
loop-byte-preserved c = prefix_more header c.loop-byte.byte-index (omega arith) c.loop-byte.invariant c.in_ok-rest.ensures.read
