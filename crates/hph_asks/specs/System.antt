-- The system of typing rules of a program. This project's own.
use Rattle.std.specs.Prelude.{suc, length}
use Rattle.hph_ast.specs.declared.program.Program.{Program}
use Rattle.hph_sys.specs.Shape.{Shape}
use Rattle.hph_typing.specs.Cells.{Table, table_of, owner_of}
use Rattle.hph_asks.specs.Types.{parents_of}
use Rattle.hph_asks.specs.Asks.{contrib}
use Rattle.hph_asks.specs.Graph.{readers, look}

abbrev pub system_at : Table → Shape
system_at t = record {
  scopes = suc (length t.declarations);
  cells = length t.cells;
  owner = owner_of t;
  look = look t;
  readers = readers t;
  contrib = λ s typing. contrib t (parents_of t) typing s;
  classes = parents_of t;
}

abbrev pub system_of : Program → Shape
system_of p = system_at (table_of p)
