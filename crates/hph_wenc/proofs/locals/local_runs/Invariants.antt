use Rattle.std.proofs.Common.{◌≡◌, ◌++◌, List, length, reverse}
use Rattle.hph_wasm.specs.ModuleGrammar.{locals_of}
use Rattle.hph_wasm.specs.Spelling.{runs_of}
use Rattle.hph_wasm.specs.declared.types.ValType.{ValType}
use Rattle.hph_wenc.proofs.locals.local_runs.Given as goal

-- the locals behind the kept runs are in the longest runs, the last run first
abbrev pub invariant-loop-count : goal.invariant-loop-count
invariant-loop-count l = record {
  done : List ValType;
  whole : locals_of l.kept.items ++ done ≡ l.locals;
  runs : reverse l.runs.items ≡ runs_of done;
}

abbrev pub decreases-loop-count : goal.decreases-loop-count
decreases-loop-count l = length l.kept.items
