use Rattle.std.proofs.Common.{List, ◌∷◌, sym, ap, ◌∙◌, arith}
use Rattle.hph_table.specs.Ids.{TableId}
use Rattle.hph_core.specs.declared.view.View.{View}
use Rattle.hph_infer.specs.declared.turns.Report.{Report}
use Rattle.hph_turns.proofs.Rounds.{subst2_p}
use Rattle.hph_infer.proofs.Packs.{UnpackedSoFar, unpack_more}
use Rattle.hph_infer.proofs.Teams.{head_of}
use Rattle.hph_infer.proofs.threads.unpack.Goals as goal

pub loop-team-preserved : goal.loop-team-preserved
loop-team-preserved g c =
    let e = head_of c.loop-team.team.items c.remove-seat.result c.remove-seat.ensures.value (let l = c.remove-seat.ensures.len in let o = c.loop-team.team.ok.0 in omega arith) in
    subst2_p (λ (s : List (TableId × View)) (r : List Report). UnpackedSoFar c.args.team.items c.remove-seat.new.self.items s r) (sym c.in_ok-push-2.ensures.items) (sym c.in_ok-push.ensures.items)
    (unpack_more c.args.team.items c.loop-team.team.items c.remove-seat.new.self.items c.loop-team.seats.items c.loop-team.reports.items c.remove-seat.result c.in_ok-report.field-0 c.loop-team.invariant
    (e ∙ ap (λ (x : List _). c.remove-seat.result ∷ x) (sym c.remove-seat.ensures.items)) c.in_ok-report.was)
