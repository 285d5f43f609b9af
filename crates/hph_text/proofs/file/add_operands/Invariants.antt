-- The texts so far, and those of the operands that are left.
use Rattle.std.proofs.Common.{◌≡◌, drop}
use Rattle.std.specs.Prelude.{Ok}
use Rattle.hph_text.specs.Texts.{behind, in_order, operand_texts}
use Rattle.hph_text.proofs.file.add_operands.Given as goal

abbrev pub invariant-loop-operand : goal.invariant-loop-operand
invariant-loop-operand l = behind (Ok l.fn.texts) (in_order operand_texts l.operands) ≡ behind (Ok l.texts) (in_order operand_texts (drop l.operand-index l.operands))
