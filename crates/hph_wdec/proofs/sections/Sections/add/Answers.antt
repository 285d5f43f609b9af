use Rattle.std.proofs.Common.{◌≡◌, ◌∷◌, subst, arith}
use Rattle.hph_wread.proofs.Combinators.{handed_on}
use Rattle.hph_wdec.specs.Next.{parts_read, kind_of}
use Rattle.hph_wdec.proofs.Contents.{on_ok, on_err}
use Rattle.hph_wdec.proofs.NextSection.{next_custom, custom_missing, next_content, content_missing}
use Rattle.hph_wdec.proofs.sections.Sections.add.Goals as goal

pub returns-then-number-eq-CUSTOM-clause-read : goal.returns-then-number-eq-CUSTOM-clause-read
returns-then-number-eq-CUSTOM-clause-read c =
    let is = subst (λ n. c.args.bytes.now ≡ n ∷ c.in-Some.behind.now) c.if-number-eq-CUSTOM.true c.in-Some.ensures in
    on_ok _ _ c.custom.result (λ rest t. next_custom (parts_read c.args.self.now) c.args.self.now.last is t) c.custom.ensures.read

pub returns-then-number-eq-CUSTOM-clause-stopped : goal.returns-then-number-eq-CUSTOM-clause-stopped
returns-then-number-eq-CUSTOM-clause-stopped c =
    let is = subst (λ n. c.args.bytes.now ≡ n ∷ c.in-Some.behind.now) c.if-number-eq-CUSTOM.true c.in-Some.ensures in
    on_err _ _ c.custom.result (λ e f. custom_missing (parts_read c.args.self.now) c.args.self.now.last is e f) c.custom.ensures.stopped

pub returns-in_err-rest-clause-stopped : goal.returns-in_err-rest-clause-stopped
returns-in_err-rest-clause-stopped c =
    let e = c.in_err-rest.field-0.0 in
    handed_on _ c.from_residual.result e c.from_residual.ensures.1
    (content_missing (parts_read c.args.self.now) c.args.self.now.last c.in-Some.number (kind_of c.in-Some-section_kind.kind) c.in-Some.ensures
    c.in-Some-section_kind.ensures (omega arith) e c.in_err-rest.ensures.stopped)

pub returns-clause-read : goal.returns-clause-read
returns-clause-read c =
    next_content (parts_read c.args.self.now) (parts_read c.add_content.new.self) c.args.self.now.last c.in-Some.number (kind_of c.in-Some-section_kind.kind)
    c.in-Some.ensures c.in-Some-section_kind.ensures (omega arith) c.in_ok-rest.ensures.read
