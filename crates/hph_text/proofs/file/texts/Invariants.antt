-- The texts so far, and those of the statements that are left.
use Rattle.std.proofs.Common.{◌≡◌, drop}
use Rattle.std.specs.Prelude.{Ok}
use Rattle.hph_text.specs.Texts.{behind, in_order, statement_texts}
use Rattle.hph_text.proofs.file.texts.Given as goal

abbrev pub invariant-loop-statement : goal.invariant-loop-statement
invariant-loop-statement l = in_order statement_texts l.tree.statements ≡ behind (Ok l.texts) (in_order statement_texts (drop l.statement-index l.tree.statements))
