use Rattle.std.proofs.Common.{◌≡◌, subst}
use Rattle.hph_ast.specs.Faults.{no_token, refused_text}
use Rattle.hph_lex.specs.declared.fault.LexFault.TheVariants.{Bad, Refused}
use Rattle.hph_lex.specs.Readings.{IsFault}
use Rattle.hph_file.proofs.reading.tokens.Goals as goal

pub returns-in-Err-Bad-clause-fault : goal.returns-in-Err-Bad-clause-fault
returns-in-Err-Bad-clause-fault c =
    let is : c.in-Err-Bad.field-0 ≡ Bad c.in-Err-Bad.kind c.in-Err-Bad.offset = c.in-Err-Bad.field-0-is in
    no_token (subst (IsFault c.args.bytes.now) is c.in-Err-Bad.ensures.fault)

pub returns-in-Err-Refused-clause-fault : goal.returns-in-Err-Refused-clause-fault
returns-in-Err-Refused-clause-fault c =
    let is : c.in-Err-Refused.field-0 ≡ Refused c.in-Err-Refused.kind c.in-Err-Refused.offset = c.in-Err-Refused.field-0-is in
    refused_text (subst (IsFault c.args.bytes.now) is c.in-Err-Refused.ensures.fault)
