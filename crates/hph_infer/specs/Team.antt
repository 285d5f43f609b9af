-- Workers before and after their work. Source: this project's own.
use Rattle.std.specs.Prelude.{◌≡◌, OnOk, IfOk, ℕ, List, map, Ok}
use Rattle.hph_core.specs.declared.view.View.{View}
use Rattle.hph_core.specs.Conditions.{IsIdle}
use Rattle.hph_table.specs.Ids.{TableId}
use Rattle.hph_infer.specs.declared.turns.Report.{Report}
use Rattle.hph_infer.specs.declared.threads.Worker.{Worker}
use Rattle.hph_infer.specs.Reports.{IsReport}

module _ {S : Type 0} where
  -- A worker's seat is of this table, and idle.
  abbrev pub IsReady : TableId → Worker S → Type 0
  IsReady id w = (w.seat.0 ≡ id) × IsIdle w.seat.1

  -- A worker comes back with a report.
  pub record IsBack (id : TableId) (budget : ℕ) (before after : Worker S) : Type 0 where
    pub idle : OnOk after.report ((after.seat.0 ≡ id) × IsIdle after.seat.1)
    pub number : OnOk after.report (after.seat.1.number ≡ before.seat.1.number)
    pub is_report : IfOk after.report (λ r. IsReport budget after.seat.1 r)

  -- a worker's seat
  abbrev pub seat_of : Worker S → TableId × View
  seat_of w = w.seat

  -- These workers have these seats.
  abbrev pub Packed : List (TableId × View) → List (Worker S) → Type 0
  Packed seats team = map seat_of team ≡ seats

  -- Each worker has a report, and these are the seats and the reports of all.
  pub record Unpacked (team : List (Worker S)) (seats : List (TableId × View)) (reports : List Report) : Type 0 where
    pub seats_are : seats ≡ map seat_of team
    pub reports_are : map (λ w. w.report) team ≡ map Ok reports
