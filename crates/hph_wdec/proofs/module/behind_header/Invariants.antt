use Rattle.std.proofs.Common.{◌≡◌, ◌++◌, take}
use Rattle.hph_wasm.specs.ModuleGrammar.{header}
use Rattle.hph_wdec.proofs.module.behind_header.Given as goal

abbrev pub invariant-loop-byte : goal.invariant-loop-byte
invariant-loop-byte l = l.fn.bytes ≡ take l.byte-index header ++ l.rest
