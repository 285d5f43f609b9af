use Rattle.std.proofs.Common.{◌∙◌, ap, arith, rules, string_bytes}
use Rattle.hph_paths.specs.Segments.{texts}
use Rattle.hph_paths.proofs.Segments.{whole}
use Rattle.hph_paths.proofs.normalise.normalised.Goals as goal

pub returns-then-rooted : goal.returns-then-rooted
returns-then-rooted c =
    let is_whole = whole c.args.path.now (string_bytes c.in_ok-joined.joined) c.starts_with-rooted.result c.deref.result.now
    (c.starts_with-rooted.ensures.byte (omega arith) (omega arith) (λ w o finds. finds))
    (ap texts c.deref.ensures.value ∙ c.in_ok-segments.ensures) c.in_ok-joined.ensures.ok in
    let is_rooted = rw c.if-rooted.true at is_whole in
    search rules

pub returns : goal.returns
returns c =
    let is_whole = whole c.args.path.now (string_bytes c.in_ok-joined.joined) c.starts_with-rooted.result c.deref.result.now
    (c.starts_with-rooted.ensures.byte (omega arith) (omega arith) (λ w o finds. finds))
    (ap texts c.deref.ensures.value ∙ c.in_ok-segments.ensures) c.in_ok-joined.ensures.ok in
    rw c.if-rooted.false at is_whole
