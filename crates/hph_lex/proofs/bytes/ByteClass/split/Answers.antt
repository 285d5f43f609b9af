use Rattle.std.proofs.Common.{◌-◌, ◌∙◌, ap, sym, length, take, drop}
use Rattle.hph_lex.specs.Classes.{contains}
use Rattle.hph_lex.proofs.ByteLaws.{take-front, drop-front}
use Rattle.hph_lex.proofs.bytes.ByteClass.split.Goals as goal

pub returns-clause-front : goal.returns-clause-front
returns-clause-front c =
    let bytes = c.args.bytes.now in
    ap (λ rest. take (length bytes - length rest) bytes) c.skip-rest.ensures.behind
    ∙ take-front (contains c.args.self) bytes

pub returns-clause-dropped : goal.returns-clause-dropped
returns-clause-dropped c =
    let bytes = c.args.bytes.now in
    c.skip-rest.ensures.behind ∙ sym (ap (λ front. drop (length front) bytes)
    (ap (λ rest. take (length bytes - length rest) bytes) c.skip-rest.ensures.behind ∙ take-front (contains c.args.self) bytes)
    ∙ drop-front (contains c.args.self) bytes)
