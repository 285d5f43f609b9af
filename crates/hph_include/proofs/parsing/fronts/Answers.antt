use Rattle.std.proofs.Common.{ap, ◌∙◌}
use Rattle.rayon.proofs.ListFacts.{IfOk-then}
use Rattle.rayon.proofs.ToStd.{slice-AllZip}
use Rattle.hph_include.specs.Waves.{IsFrontOf}
use denote.Exit.{no}
use denote.Param.Send.{param_send, arg_send}
use Rattle.hph_include.proofs.Sent.{front_sent, fronts_sent}
use Rattle.hph_include.proofs.parsing.fronts.Goals as goal

pub map-requires-send-U : goal.map-requires-send-U
map-requires-send-U g c κs within = param_send 2 _ (arg_send _ no _ front_sent)

pub collect-requires-send-Self-Item : goal.collect-requires-send-Self-Item
collect-requires-send-Self-Item g c κs within = param_send 1 _ (arg_send _ no _ front_sent)

pub collect-requires-send-C : goal.collect-requires-send-C
collect-requires-send-C g c κs within = param_send 2 _ (arg_send _ no _ fronts_sent)

pub returns : goal.returns
returns g c =
    let slice = ap (λ it. it.base.slice.now) c.map.ensures.base ∙ ap (λ it. it.slice.now) c.with_min_len.ensures.base ∙ c.par_iter.ensures in
    IfOk-then c.collect.result _ _ c.collect.ensures (λ v h.
    let chain = h.1 in
    rw h.2 (slice-AllZip chain.0 c.args.sources.now (chain.1 ∙ slice) IsFrontOf h.0 chain.2))
