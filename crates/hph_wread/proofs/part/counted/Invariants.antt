use Rattle.std.proofs.Common.{◌≡◌, length}
use Rattle.std.specs.List.{AllByRecursion}
use Rattle.hph_wasm.specs.Grammar.{Each}
use Rattle.hph_wread.specs.Reading.{Took}
use Rattle.hph_wread.proofs.part.counted.Given as goal

abbrev pub invariant-loop : goal.invariant-loop
invariant-loop g l = record {
  took : Took (Each g.T.Part.grammar l.items) l.fn.bytes l.rest;
  fit : AllByRecursion g.T.Part.fits l.items;
  counted : length l.items ≡ l.counter;
}
