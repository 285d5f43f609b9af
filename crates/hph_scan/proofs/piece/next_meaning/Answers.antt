use Rattle.std.proofs.Common.{◌≡◌, ℕ, List, ◌∷◌, true, false, ◌==◌, sym, subst, arith}
use Rattle.std.proofs.lemmas.List.{take_rest}
use Rattle.std.proofs.lemmas.Bool.Decides.{nat_tests}
use Rattle.hph_ast.specs.Strings.{Piece}
use Rattle.hph_scan.specs.Escapes.{escape_told, meaning_text}
use Rattle.std.specs.Prelude.{Some}
use Rattle.hph_scan.specs.Fronts.{Spells}
use Rattle.hph_scan.specs.Pieces.{joined}
use Rattle.hph_scan.proofs.PieceSteps.{spells_plain, spells_escape, spells_bad_escape}
use Rattle.hph_scan.proofs.piece.next_meaning.Goals as goal

pub returns-then-first-ne92-clause-spells : goal.returns-then-first-ne92-clause-spells
returns-then-first-ne92-clause-spells c =
    let other : (c.args.first == 92) ≡ false = grind (arith, nat_tests) in
    spells_plain c.args.first c.args.after.now other c.requires

pub returns-in-Some-clause-spells : goal.returns-in-Some-clause-spells
returns-in-Some-clause-spells c =
    let after : List ℕ = c.args.after.now in
    let found = c.in-Some.field-0 in
    let slash : (c.args.first == 92) ≡ true = grind (arith, nat_tests) in
    let spells = spells_escape c.args.first after (escape_told found) slash (sym c.in-Some.ensures.escape) in
    subst (λ rest. Spells Piece (c.args.first ∷ after) rest (joined (Some (meaning_text found.meaning))))
    (sym (take_rest after found.length)) spells

pub returns-in-None-clause-spells : goal.returns-in-None-clause-spells
returns-in-None-clause-spells c =
    let slash : (c.args.first == 92) ≡ true = grind (arith, nat_tests) in
    spells_bad_escape c.args.first c.args.after.now slash (sym c.in-None.ensures.escape)
