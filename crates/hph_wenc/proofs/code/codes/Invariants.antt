use Rattle.std.proofs.Common.{◌≡◌, map, take}
use Rattle.std.specs.List.{AllByRecursion}
use Rattle.hph_wenc.specs.Code.{content_of}
use Rattle.hph_wenc.specs.Fits.{CodeFits}
use Rattle.hph_wenc.proofs.code.codes.Given as goal

abbrev pub invariant-loop-func : goal.invariant-loop-func
invariant-loop-func l = record {
  contents : l.codes.items ≡ map content_of (take l.func-index l.funcs);
  fit : AllByRecursion CodeFits (take l.func-index l.funcs);
}
