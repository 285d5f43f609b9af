use Rattle.std.proofs.Common.{◌≡◌, length}
use Rattle.std.specs.List.{AllByRecursion}
use Rattle.hph_wasm.specs.Grammar.{Each}
use Rattle.hph_wread.specs.Reading.{Took}
use Rattle.hph_wdec.proofs.entries.counted_entries.Given as goal

abbrev pub invariant-loop : goal.invariant-loop
invariant-loop g l = record {
  took : Took (Each g.F.EntryForm.grammar l.entries) l.fn.bytes l.rest;
  fit : AllByRecursion g.F.EntryForm.fits l.entries;
  counted : length l.entries ≡ l.counter;
}
