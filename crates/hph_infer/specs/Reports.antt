-- What a report tells. Source: this project's own.
use Rattle.std.specs.Prelude.{◌≡◌, ◌≤◌, ℕ, List, length}
use Rattle.hph_sys.specs.Typings.{In}
use Rattle.hph_core.specs.declared.view.View.{View}
use Rattle.hph_core.specs.declared.view.Finding.TheVariants.{Pending}
use Rattle.hph_infer.specs.declared.turns.Report.{Report}
use Rattle.hph_infer.specs.declared.turns.Left.{Left}
use Rattle.hph_infer.specs.declared.turns.Left.TheVariants.{Zero, Budget}

-- A worker that left at zero found that nothing is pending.
abbrev pub FoundZero : Left → View → Type 0
FoundZero Zero v = In (Pending 0) v.findings
FoundZero Budget v = Unit {0}

-- A worker takes the turns of its budget, or fewer where it leaves at zero.
abbrev pub HasTurns : Left → ℕ → ℕ → Type 0
HasTurns Zero budget turns = turns ≤ budget
HasTurns Budget budget turns = turns ≡ budget

-- A report tells what its worker, with this budget, found in the end.
pub record IsReport (budget : ℕ) (after : View) (report : Report) : Type 0 where
  pub left : FoundZero report.left after
  pub turns : HasTurns report.left budget (length report.turns.items)

-- Some worker left at zero.
abbrev pub LeftAtZero : List Report → Type 0
LeftAtZero reports = (report : Report) × In report reports × (report.left ≡ Zero)
