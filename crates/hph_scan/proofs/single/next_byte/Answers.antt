use Rattle.std.proofs.Common.{sym, ◌∙◌, arith}
use Rattle.hph_scan.proofs.SingleQuotes.{spells_second, spells_backslash, spells_other}
use Rattle.hph_scan.proofs.single.next_byte.Goals as goal
use Rattle.hph_scan.proofs.single.next_byte.Goals.{else-first-eq92-via-then-first-eq92+else-is_escaped, else-first-eq92-via-else-first-eq92}

pub returns-then-is_escaped-clause-spells : goal.returns-then-is_escaped-clause-spells
returns-then-is_escaped-clause-spells c =
    spells_second c.args.first c.args.after.now (omega arith) c.if-first-eq92.true (sym c.is_escaped.ensures ∙ c.if-is_escaped.true)

pub returns-else-first-eq92-clause-spells : goal.returns-else-first-eq92-clause-spells
returns-else-first-eq92-clause-spells c = elim c.else-first-eq92.branch [
  | else-first-eq92-via-then-first-eq92+else-is_escaped w ↦
      spells_backslash c.args.first c.args.after.now c.requires (omega arith) (sym w.is_escaped.ensures ∙ w.if-is_escaped.false)
  | else-first-eq92-via-else-first-eq92 w ↦ spells_other c.args.first c.args.after.now c.requires w.if-first-eq92.false
]
