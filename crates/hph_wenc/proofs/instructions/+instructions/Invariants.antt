use Rattle.std.proofs.Common.{◌≡◌, ◌++◌, flat_map, take}
use Rattle.hph_wasm.specs.Spelling.{instr_bytes}
use Rattle.hph_wenc.specs.Fits.{ExpressionFits}
use Rattle.hph_wenc.proofs.instructions.+instructions.Given as goal

abbrev pub invariant-put_instructions-loop-instr : goal.invariant-put_instructions-loop-instr
invariant-put_instructions-loop-instr l = record {
  put : l.out.items ≡ l.fn.out.items ++ flat_map instr_bytes (take l.instr-index l.body);
  fit : ExpressionFits (take l.instr-index l.body);
}
