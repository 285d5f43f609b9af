-- What a turn tells. Source: this project's own.
use Rattle.hph_sys.specs.Typings.{In}
use Rattle.hph_core.specs.declared.view.View.{View}
use Rattle.hph_core.specs.declared.view.Finding.TheVariants.{Pending}
use Rattle.hph_turns.specs.declared.turn.Turn.{Turn}
use Rattle.hph_turns.specs.declared.turn.Turn.TheVariants.{Done, PutBack, NoWork}

-- Where a turn found no work, the seat found that number pending.
abbrev pub Tells : Turn → View → Type 0
Tells (NoWork left) v = In (Pending left) v.findings
Tells (Done scope) v = Unit {0}
Tells (PutBack scope busy holder) v = Unit {0}
