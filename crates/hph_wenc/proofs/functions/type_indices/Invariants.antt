use Rattle.std.proofs.Common.{◌≡◌, map, take}
use Rattle.hph_wasm.specs.ModuleGrammar.{type_of_func}
use Rattle.hph_wenc.proofs.functions.type_indices.Given as goal

abbrev pub invariant-loop-func : goal.invariant-loop-func
invariant-loop-func l = l.indices.items ≡ map type_of_func (take l.func-index l.funcs)
