use Rattle.std.proofs.Common.{ap, length}
use Rattle.hph_builtin_text.proofs.Found.{split_at, unsplit}
use Rattle.hph_builtin_text.proofs.places.split_first.Goals as goal

pub returns-in-Some : goal.returns-in-Some
returns-in-Some c =
    split_at c.args.separator.now c.args.bytes.now c.in-Some.place (length c.needle-size.result.now) c.requires (ap length c.needle-size.ensures) c.in-Some.ensures.within c.in-Some.ensures.value

pub returns-in-None : goal.returns-in-None
returns-in-None c = unsplit c.args.separator.now c.args.bytes.now c.requires c.in-None.ensures.value
