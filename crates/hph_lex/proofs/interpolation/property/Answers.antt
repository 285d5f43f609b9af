use Rattle.hph_lex.proofs.Places.{property_place}
use Rattle.hph_lex.proofs.interpolation.property.Goals as goal

pub returns-clause-is : goal.returns-clause-is
returns-clause-is c = λ at.
    property_place at c.args.bytes.now _ _ _ c.requires c.after.ensures c.split.ensures.front c.in_ok-name.ensures
