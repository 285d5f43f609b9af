use Rattle.std.proofs.Common.{sym}
use Rattle.hph_ast.specs.Lexical as r
use Rattle.hph_lex.proofs.Places.{no_null_safe}
use Rattle.hph_lex.proofs.interpolation.what_follows.Goals as goal

pub returns-then-begins_property-2-clause-is : goal.returns-then-begins_property-2-clause-is
returns-then-begins_property-2-clause-is c = λ at ts n.
    no_null_safe at c.args.bytes.now ts n (sym c.if-begins.ensures) (sym c.if-begins_property.ensures)
    (sym c.if-begins_property-2.ensures)

pub returns-clause-is : goal.returns-clause-is
returns-clause-is c = λ at. r.alone (sym c.if-begins.ensures) (sym c.if-begins_property.ensures) (sym c.if-begins_property-2.ensures)
