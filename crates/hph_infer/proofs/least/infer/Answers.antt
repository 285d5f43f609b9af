use Rattle.std.proofs.Common.{◌≡◌, ◌<◌, ℕ, List, length, get_or, sym, ap, ◌∙◌, subst}
use Rattle.hph_table.specs.Seats.{AreAll}
use Rattle.hph_infer.specs.declared.threads.Worker.{Worker}
use Rattle.hph_infer.specs.Team.{Unpacked, IsReady, IsBack}
use Rattle.hph_infer.proofs.Teams.{ready, are_all, all_reports, found_zero, whole}
use Rattle.hph_sys.specs.Least.{IsLeast}
use Rattle.hph_infer.proofs.least.infer.Goals as goal

pub team-requires-clause-ready : goal.team-requires-clause-ready
team-requires-clause-ready g c κs bounds k d h =
    let s = c.as_mut_slice.ensures.value in
    let r : IsReady {S = g.row.S.Denot} c.in_ok-shared.shared.0 (get_or c.in_ok-members.members.items k d) = ready {S = g.row.S.Denot} c.in_ok-shared.shared.0 c.args.workers c.in_ok-shared.seats.items c.in_ok-members.members.items c.in_ok-shared.ensures.seats c.in_ok-members.ensures k d (subst (λ (x : List (Worker g.row.S.Denot)). k < length x) s h) in
    subst (λ (x : List (Worker g.row.S.Denot)). IsReady {S = g.row.S.Denot} c.in_ok-shared.shared.0 (get_or x k d)) (sym s) r

pub close-requires-clause-all : goal.close-requires-clause-all
close-requires-clause-all g c =
    let s = c.as_mut_slice.ensures.value in
    let before : List (Worker g.row.S.Denot) = c.in_ok-members.members.items in
    let after : List (Worker g.row.S.Denot) = c.team.new.workers in
    let len : length after ≡ length before = c.team.ensures.len ∙ ap length s in
    let out : Unpacked {S = g.row.S.Denot} after c.in_ok-seats.seats.items c.in_ok-seats.reports.items = subst (λ (x : List (Worker g.row.S.Denot)). Unpacked x c.in_ok-seats.seats.items c.in_ok-seats.reports.items) (whole after before c.in_ok-members.members.len len c.in_ok-members.members.ok.0) c.in_ok-seats.ensures in
    let are : AreAll c.in_ok-shared.shared.0 c.args.workers c.in_ok-seats.seats.items = are_all {S = g.row.S.Denot} c.in_ok-shared.shared.0 c.args.workers c.in_ok-shared.seats.items before c.in_ok-shared.ensures.seats c.in_ok-members.ensures c.args.budget after len
    (λ k d h. subst (λ (x : List (Worker g.row.S.Denot)). IsBack {S = g.row.S.Denot} c.in_ok-shared.shared.0 c.args.budget (get_or x k d) (get_or after k d)) s (c.team.ensures.each k d (subst (λ (x : List (Worker g.row.S.Denot)). k < length x) (sym s) h))) c.in_ok-seats.seats.items c.in_ok-seats.reports.items out c.requires.workers.0 in
    subst (λ (n : ℕ). AreAll c.in_ok-shared.shared.0 n c.in_ok-seats.seats.items) (sym c.in_ok-shared.ensures.plan.1) are

pub returns-clause-reports : goal.returns-clause-reports
returns-clause-reports g c =
    let s = c.as_mut_slice.ensures.value in
    let before : List (Worker g.row.S.Denot) = c.in_ok-members.members.items in
    let after : List (Worker g.row.S.Denot) = c.team.new.workers in
    let len : length after ≡ length before = c.team.ensures.len ∙ ap length s in
    let out : Unpacked {S = g.row.S.Denot} after c.in_ok-seats.seats.items c.in_ok-seats.reports.items = subst (λ (x : List (Worker g.row.S.Denot)). Unpacked x c.in_ok-seats.seats.items c.in_ok-seats.reports.items) (whole after before c.in_ok-members.members.len len c.in_ok-members.members.ok.0) c.in_ok-seats.ensures in
    all_reports {S = g.row.S.Denot} c.in_ok-shared.shared.0 c.args.workers c.in_ok-shared.seats.items before c.in_ok-shared.ensures.seats c.in_ok-members.ensures c.args.budget after len
    (λ k d h. subst (λ (x : List (Worker g.row.S.Denot)). IsBack {S = g.row.S.Denot} c.in_ok-shared.shared.0 c.args.budget (get_or x k d) (get_or after k d)) s (c.team.ensures.each k d (subst (λ (x : List (Worker g.row.S.Denot)). k < length x) (sym s) h))) c.in_ok-seats.seats.items c.in_ok-seats.reports.items out

pub returns-clause-zero : goal.returns-clause-zero
returns-clause-zero g c at_zero =
    let s = c.as_mut_slice.ensures.value in
    let before : List (Worker g.row.S.Denot) = c.in_ok-members.members.items in
    let after : List (Worker g.row.S.Denot) = c.team.new.workers in
    let len : length after ≡ length before = c.team.ensures.len ∙ ap length s in
    let out : Unpacked {S = g.row.S.Denot} after c.in_ok-seats.seats.items c.in_ok-seats.reports.items = subst (λ (x : List (Worker g.row.S.Denot)). Unpacked x c.in_ok-seats.seats.items c.in_ok-seats.reports.items) (whole after before c.in_ok-members.members.len len c.in_ok-members.members.ok.0) c.in_ok-seats.ensures in
    let found = found_zero {S = g.row.S.Denot} c.in_ok-shared.shared.0 c.args.workers c.in_ok-shared.seats.items before c.in_ok-shared.ensures.seats c.in_ok-members.ensures c.args.budget after len
    (λ k d h. subst (λ (x : List (Worker g.row.S.Denot)). IsBack {S = g.row.S.Denot} c.in_ok-shared.shared.0 c.args.budget (get_or x k d) (get_or after k d)) s (c.team.ensures.each k d (subst (λ (x : List (Worker g.row.S.Denot)). k < length x) (sym s) h))) c.in_ok-seats.seats.items c.in_ok-seats.reports.items out at_zero.0 at_zero.1 at_zero.2 in
    let least : IsLeast (g.S.System.shape c.in_ok-shared.shared.1.system.value) c.in_ok-typing.typing.items = c.in_ok-typing.ensures.least found.0 found.1 found.2 in
    c.in_ok-sweep_raises.ensures.none (subst (λ (x : g.row.S.Denot). IsLeast (g.S.System.shape x) c.in_ok-typing.typing.items) c.in_ok-shared.ensures.plan.0 least)
