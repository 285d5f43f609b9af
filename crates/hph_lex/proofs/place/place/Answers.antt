use Rattle.hph_lex.proofs.Places.{code_comes, member_comes}
use Rattle.hph_lex.proofs.place.place.Goals as goal

pub returns-in-Code : goal.returns-in-Code
returns-in-Code c = code_comes c.args.mode c.args.bytes.now c.in_code.result c.in-Code.is c.in_code.ensures

pub returns-in-Member : goal.returns-in-Member
returns-in-Member c = member_comes c.args.mode c.args.bytes.now c.in_code-in-Member.result c.in-Member.is c.in_code-in-Member.ensures
