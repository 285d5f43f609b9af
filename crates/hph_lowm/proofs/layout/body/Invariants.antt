use Rattle.std.proofs.Common.{◌≡◌, ◌+◌, ◌++◌, length, drop}
use Rattle.std.specs.List.{concat}
use Rattle.hph_lowm.specs.Layout.{prints_from}
use Rattle.hph_lowm.proofs.layout.body.Given as goal

abbrev pub invariant-loop-text : goal.invariant-loop-text
invariant-loop-text l = record {
  made : l.body ++ prints_from l.place (drop l.text-index l.texts) ≡ prints_from 0 l.texts;
  left : l.place + length (concat (drop l.text-index l.texts)) ≡ length (concat l.texts);
}
