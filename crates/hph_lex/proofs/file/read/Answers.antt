use Rattle.hph_ast.specs.Lexical.{lex, construct}
use Rattle.hph_lex.proofs.ReadSoFar.{reads_none, reads_more, reads_fault, comes_here, bad_here, refused_here, take_within, take_offsets}
use Rattle.hph_lex.proofs.ReadSoFar.{smaller, end_spelled, end_fault}
use Rattle.std.proofs.Common.{sym, ap, ◌∙◌, drop}
use Rattle.hph_ast.specs.Bytes.{begins_with, is_whitespace}
use Rattle.hph_lex.specs.Readings.{white}
use Rattle.hph_lex.proofs.Whitespace.{white_comes}
use Rattle.hph_lex.proofs.file.read.Goals as goal

pub take-requires-clause-offsets : goal.take-requires-clause-offsets
take-requires-clause-offsets c =
    let at = c.loop-reader in
    let comes = comes_here at.reader.mode c.args.bytes.now c.after-rest.result.now at.reader.at c.in_ok-next.field-0 c.in-Next.next
    c.in_ok-next.ensures c.after-rest.ensures c.in-Next.is in
    take_offsets c.pieces_end.ensures c.args.bytes.now at.reader c.in-Next.next c.requires at.invariant comes

pub take-requires-clause-within : goal.take-requires-clause-within
take-requires-clause-within c =
    let at = c.loop-reader in
    let comes = comes_here at.reader.mode c.args.bytes.now c.after-rest.result.now at.reader.at c.in_ok-next.field-0 c.in-Next.next
    c.in_ok-next.ensures c.after-rest.ensures c.in-Next.is in
    take_within c.pieces_end.ensures c.args.bytes.now at.reader c.in-Next.next c.requires at.invariant comes

pub loop-reader-smaller : goal.loop-reader-smaller
loop-reader-smaller c =
    let at = c.loop-reader in
    let comes = comes_here at.reader.mode c.args.bytes.now c.after-rest.result.now at.reader.at c.in_ok-next.field-0 c.in-Next.next
    c.in_ok-next.ensures c.after-rest.ensures c.in-Next.is in
    smaller c.pieces_end.ensures c.args.bytes.now at.reader c.in-Next.next c.requires at.invariant comes c.take.new.self
    c.loop-reader-test.true c.in_ok-take-in-Next.ensures

pub loop-reader-preserved : goal.loop-reader-preserved
loop-reader-preserved c =
    let at = c.loop-reader in
    let comes = comes_here at.reader.mode c.args.bytes.now c.after-rest.result.now at.reader.at c.in_ok-next.field-0 c.in-Next.next
    c.in_ok-next.ensures c.after-rest.ensures c.in-Next.is in
    reads_more c.pieces_end.ensures c.args.bytes.now at.reader c.take.new.self c.in-Next.next at.invariant c.loop-reader-test.true
    comes c.in_ok-take-in-Next.ensures

pub returns-in-Bad-clause-fault : goal.returns-in-Bad-clause-fault
returns-in-Bad-clause-fault c =
    let at = c.loop-reader in
    reads_fault c.args.bytes.now at.reader (lex c.in-Bad.kind) at.invariant c.loop-reader-test.true
    (bad_here at.reader.mode c.args.bytes.now c.after-rest.result.now at.reader.at c.in_ok-next.field-0 c.in-Bad.kind c.in_ok-next.ensures
    c.after-rest.ensures c.in-Bad.is)

pub returns-in-Refused-clause-fault : goal.returns-in-Refused-clause-fault
returns-in-Refused-clause-fault c =
    let at = c.loop-reader in
    reads_fault c.args.bytes.now at.reader (construct c.in-Refused.which) at.invariant c.loop-reader-test.true
    (refused_here at.reader.mode c.args.bytes.now c.after-rest.result.now at.reader.at c.in_ok-next.field-0 c.in-Refused.which
    c.in_ok-next.ensures c.after-rest.ensures c.in-Refused.is)

pub returns-clause-spelled : goal.returns-clause-spelled
returns-clause-spelled c = end_spelled c.args.bytes.now c.loop-reader.reader c.end.result c.loop-reader.invariant
    c.loop-reader-test.false c.end.ensures

pub returns-clause-fault : goal.returns-clause-fault
returns-clause-fault c = end_fault c.args.bytes.now c.loop-reader.reader c.end.result c.loop-reader.invariant c.loop-reader-test.false
    c.end.ensures

pub loop-reader-init : goal.loop-reader-init
loop-reader-init c =
    let new = c.new-reader.ensures in reads_none c.args.bytes.now c.new-reader.result new.tokens new.at new.mode new.outer

pub loop-reader-preserved-then-begins : goal.loop-reader-preserved-then-begins
loop-reader-preserved-then-begins c =
    let at = c.loop-reader in
    let code = sym c.is_in_code.ensures ∙ c.if-is_in_code.true in
    let begins = ap (begins_with is_whitespace) (sym c.after-rest.ensures) ∙ sym c.begins.ensures ∙ c.if-begins.true in
    reads_more c.pieces_end.ensures c.args.bytes.now at.reader c.skip_byte.new.self (white at.reader.mode) at.invariant c.loop-reader-test.true
    (white_comes at.reader.mode (drop at.reader.at c.args.bytes.now) code begins) c.skip_byte.ensures
