use Rattle.std.proofs.Common.{◌∙◌, ap, sym}
use Rattle.hph_accept.specs.Names.{same_of}
use Rattle.hph_accept.proofs.Words.{same_words}
use Rattle.hph_accept.proofs.names.is_same.Goals as goal

pub returns-in-Methods : goal.returns-in-Methods
returns-in-Methods c = same_words c.args.left.now c.args.right.now c.eq_ignore_ascii_case.result c.eq_ignore_ascii_case.ensures.test
    ∙ sym (ap (λ s. same_of s c.args.left.now c.args.right.now) c.in-Methods.is)
