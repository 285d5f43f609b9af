use Rattle.std.proofs.Common.{◌≡◌, ◌++◌, map, reverse, length}
use Rattle.hph_wasm.specs.ModuleGrammar.{type_of_func, code_of_func}
use Rattle.hph_wdec.proofs.functions.functions.Given as goal

abbrev pub invariant-loop-locals : goal.invariant-loop-locals
invariant-loop-locals l = record {
  types : l.initial.types ≡ l.types ++ map type_of_func (reverse l.funcs.items);
  codes : l.initial.codes ≡ l.codes ++ map code_of_func (reverse l.funcs.items);
  same : length l.types ≡ length l.codes;
}

abbrev pub decreases-loop-locals : goal.decreases-loop-locals
decreases-loop-locals l = length l.codes
