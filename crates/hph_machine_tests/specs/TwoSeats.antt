-- What two seats of a table for the system two have, as the events of src/rows.rt are taken. Source: this project's own;
-- worked by hand.
use Rattle.std.specs.Prelude.{true, false, None, Some, List, [], ◌∷◌, ◌++◌}
use Rattle.hph_type.specs.Types.{none}
use Rattle.hph_sys.specs.Two.{int}
use Rattle.hph_core.specs.declared.view.View.{View}
use Rattle.hph_core.specs.declared.view.Finding.{Finding}
use Rattle.hph_core.specs.declared.view.Finding.TheVariants.{Took, Marked, PutBack, Got, Busy, Released, Seen, Raised, Added, Paid, Done, Pending}
use Rattle.hph_core.specs.Effects.{know}

-- seat 0 has scope 0 in hand, holds it and has read cell 0
abbrev pub read : List Finding
read = Took 0 true ∷ Got 0 ∷ Seen 0 none ∷ []

abbrev pub reader : View
reader = record { live = true; number = 0; hand = Some 0; holds = 0 ∷ []; marks = []; debt = false; known = know 0 0 none ∷ []; findings = read; top = 1; joined = [] }

-- it has paid for a mark of scope 1, which waited already
abbrev pub paid : List Finding
paid = read ++ Added ∷ Pending 3 ∷ Marked 1 false ∷ Paid ∷ Pending 2 ∷ []

abbrev pub payer : View
payer = record { live = true; number = 0; hand = Some 0; holds = 0 ∷ []; marks = 1 ∷ []; debt = false; known = know 0 0 none ∷ []; findings = paid; top = 1; joined = [] }

-- it has raised cell 0, and has dropped its hand
abbrev pub ended : List Finding
ended = paid ++ Raised 0 int ∷ Done 0 ∷ Released 0 ∷ Pending 1 ∷ []

abbrev pub raiser : View
raiser = record { live = true; number = 0; hand = None; holds = []; marks = []; debt = false; known = []; findings = ended; top = 1; joined = [] }

-- seat 1 has met seat 0 at scope 0, and has put scope 1 back
abbrev pub yielded : List Finding
yielded = Took 1 true ∷ Busy 0 0 ∷ PutBack 1 true ∷ Pending 2 ∷ []

abbrev pub yielder : View
yielder = record { live = true; number = 1; hand = None; holds = []; marks = []; debt = false; known = []; findings = yielded; top = 1; joined = [] }

-- it has scope 1 in hand, holds both scopes and has read both cells
abbrev pub looked : List Finding
looked = yielded ++ Took 1 true ∷ Got 0 ∷ Got 1 ∷ Seen 0 int ∷ Seen 1 none ∷ []

abbrev pub looker : View
looker = record { live = true; number = 1; hand = Some 1; holds = 1 ∷ 0 ∷ []; marks = []; debt = false; known = know 1 1 none ∷ know 0 0 int ∷ []; findings = looked; top = 1; joined = [] }

-- it has raised cell 1, has dropped its hand, and has found nothing pending
abbrev pub finder : View
finder = record { live = true; number = 1; hand = None; holds = []; marks = []; debt = false; known = []; findings = looked ++ Raised 1 int ∷ Done 1 ∷ Released 1 ∷ Released 0 ∷ Pending 0 ∷ []; top = 1; joined = [] }
