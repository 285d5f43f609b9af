use Rattle.std.proofs.Common.{◌≡◌, ◌∙◌, length, refl, subst, arith}
use Rattle.hph_wread.specs.Reading.{Fails}
use Rattle.hph_wdec.specs.declared.kinds.SectionKind.TheVariants as kind
use Rattle.hph_wdec.specs.Next.{parts_read, CodesFor, StopsCodesFor}
use Rattle.hph_wdec.proofs.Contents.{on_ok, on_ok_fact, on_err, at_kind, gives, types_fail, imports_fail, functions_fail, tables_fail, memories_fail, globals_fail, exports_fail, elements_fail, codes_fail, segments_fail, segments_early}
use Rattle.hph_wdec.proofs.sections.Sections.add_content.Goals as goal

pub returns-in-Types-clause-read : goal.returns-in-Types-clause-read
returns-in-Types-clause-read c =
    on_ok _ _ c.content.result (λ rest t. gives c.args.kind kind.Types (parts_read c.args.self.now) _ c.in-Types.is c.content.new.into tt refl t) c.content.ensures.read

pub returns-in-Types-clause-stopped : goal.returns-in-Types-clause-stopped
returns-in-Types-clause-stopped c =
    on_err _ _ c.content.result (λ e f. at_kind c.args.kind kind.Types (parts_read c.args.self.now) e c.in-Types.is (types_fail (parts_read c.args.self.now) e f)) c.content.ensures.stopped

pub returns-in-Imports-clause-read : goal.returns-in-Imports-clause-read
returns-in-Imports-clause-read c =
    on_ok _ _ c.content-in-Imports.result (λ rest t. gives c.args.kind kind.Imports (parts_read c.args.self.now) _ c.in-Imports.is c.content-in-Imports.new.into tt refl t) c.content-in-Imports.ensures.read

pub returns-in-Imports-clause-stopped : goal.returns-in-Imports-clause-stopped
returns-in-Imports-clause-stopped c =
    on_err _ _ c.content-in-Imports.result (λ e f. at_kind c.args.kind kind.Imports (parts_read c.args.self.now) e c.in-Imports.is (imports_fail (parts_read c.args.self.now) e f)) c.content-in-Imports.ensures.stopped

pub returns-in-Functions-clause-read : goal.returns-in-Functions-clause-read
returns-in-Functions-clause-read c =
    on_ok _ _ c.content-in-Functions.result (λ rest t. gives c.args.kind kind.Functions (parts_read c.args.self.now) _ c.in-Functions.is c.content-in-Functions.new.into tt refl t) c.content-in-Functions.ensures.read

pub returns-in-Functions-clause-stopped : goal.returns-in-Functions-clause-stopped
returns-in-Functions-clause-stopped c =
    on_err _ _ c.content-in-Functions.result (λ e f. at_kind c.args.kind kind.Functions (parts_read c.args.self.now) e c.in-Functions.is (functions_fail (parts_read c.args.self.now) e f)) c.content-in-Functions.ensures.stopped

pub returns-in-Tables-clause-read : goal.returns-in-Tables-clause-read
returns-in-Tables-clause-read c =
    on_ok _ _ c.content-in-Tables.result (λ rest t. gives c.args.kind kind.Tables (parts_read c.args.self.now) _ c.in-Tables.is c.content-in-Tables.new.into tt refl t) c.content-in-Tables.ensures.read

pub returns-in-Tables-clause-stopped : goal.returns-in-Tables-clause-stopped
returns-in-Tables-clause-stopped c =
    on_err _ _ c.content-in-Tables.result (λ e f. at_kind c.args.kind kind.Tables (parts_read c.args.self.now) e c.in-Tables.is (tables_fail (parts_read c.args.self.now) e f)) c.content-in-Tables.ensures.stopped

pub returns-in-Memories-clause-read : goal.returns-in-Memories-clause-read
returns-in-Memories-clause-read c =
    on_ok _ _ c.content-in-Memories.result (λ rest t. gives c.args.kind kind.Memories (parts_read c.args.self.now) _ c.in-Memories.is c.content-in-Memories.new.into tt refl t) c.content-in-Memories.ensures.read

pub returns-in-Memories-clause-stopped : goal.returns-in-Memories-clause-stopped
returns-in-Memories-clause-stopped c =
    on_err _ _ c.content-in-Memories.result (λ e f. at_kind c.args.kind kind.Memories (parts_read c.args.self.now) e c.in-Memories.is (memories_fail (parts_read c.args.self.now) e f)) c.content-in-Memories.ensures.stopped

pub returns-in-Globals-clause-read : goal.returns-in-Globals-clause-read
returns-in-Globals-clause-read c =
    on_ok _ _ c.content-in-Globals.result (λ rest t. gives c.args.kind kind.Globals (parts_read c.args.self.now) _ c.in-Globals.is c.content-in-Globals.new.into tt refl t) c.content-in-Globals.ensures.read

pub returns-in-Globals-clause-stopped : goal.returns-in-Globals-clause-stopped
returns-in-Globals-clause-stopped c =
    on_err _ _ c.content-in-Globals.result (λ e f. at_kind c.args.kind kind.Globals (parts_read c.args.self.now) e c.in-Globals.is (globals_fail (parts_read c.args.self.now) e f)) c.content-in-Globals.ensures.stopped

pub returns-in-Exports-clause-read : goal.returns-in-Exports-clause-read
returns-in-Exports-clause-read c =
    on_ok _ _ c.content-in-Exports.result (λ rest t. gives c.args.kind kind.Exports (parts_read c.args.self.now) _ c.in-Exports.is c.content-in-Exports.new.into tt refl t) c.content-in-Exports.ensures.read

pub returns-in-Exports-clause-stopped : goal.returns-in-Exports-clause-stopped
returns-in-Exports-clause-stopped c =
    on_err _ _ c.content-in-Exports.result (λ e f. at_kind c.args.kind kind.Exports (parts_read c.args.self.now) e c.in-Exports.is (exports_fail (parts_read c.args.self.now) e f)) c.content-in-Exports.ensures.stopped

pub returns-in-Elements-clause-read : goal.returns-in-Elements-clause-read
returns-in-Elements-clause-read c =
    on_ok _ _ c.content-in-Elements.result (λ rest t. gives c.args.kind kind.Elements (parts_read c.args.self.now) _ c.in-Elements.is c.content-in-Elements.new.into tt refl t) c.content-in-Elements.ensures.read

pub returns-in-Elements-clause-stopped : goal.returns-in-Elements-clause-stopped
returns-in-Elements-clause-stopped c =
    on_err _ _ c.content-in-Elements.result (λ e f. at_kind c.args.kind kind.Elements (parts_read c.args.self.now) e c.in-Elements.is (elements_fail (parts_read c.args.self.now) e f)) c.content-in-Elements.ensures.stopped

pub returns-in-Codes-clause-read : goal.returns-in-Codes-clause-read
returns-in-Codes-clause-read c =
    on_ok_fact _ _ _ c.codes.result (λ rest count t. gives c.args.kind kind.Codes (parts_read c.args.self.now) _ c.in-Codes.is c.codes.new.into (count ∙ c.len.ensures) refl t)
    c.codes.ensures.count c.codes.ensures.read

pub returns-in-Codes-clause-stopped : goal.returns-in-Codes-clause-stopped
returns-in-Codes-clause-stopped c =
    let p = parts_read c.args.self.now in
    on_err _ _ c.codes.result (λ e f. at_kind c.args.kind kind.Codes p e c.in-Codes.is
    (codes_fail p e (subst (λ n. Fails (CodesFor n) (StopsCodesFor n) c.args.bytes.now e) c.len.ensures f))) c.codes.ensures.stopped

pub returns-else-len-clause-read : goal.returns-else-len-clause-read
returns-else-len-clause-read c =
    let own : length c.args.self.now.codes ≡ length c.args.self.now.functions = omega arith in
    on_ok _ _ c.content-in-Segments.result (λ rest t. gives c.args.kind kind.Segments (parts_read c.args.self.now) _ c.in-Segments.is c.content-in-Segments.new.into own refl t)
    c.content-in-Segments.ensures.read

pub returns-else-len-clause-stopped : goal.returns-else-len-clause-stopped
returns-else-len-clause-stopped c =
    let own : length c.args.self.now.codes ≡ length c.args.self.now.functions = omega arith in
    on_err _ _ c.content-in-Segments.result (λ e f. at_kind c.args.kind kind.Segments (parts_read c.args.self.now) e c.in-Segments.is (segments_fail (parts_read c.args.self.now) e own f))
    c.content-in-Segments.ensures.stopped

pub returns-then-len-clause-stopped : goal.returns-then-len-clause-stopped
returns-then-len-clause-stopped c =
    at_kind c.args.kind kind.Segments (parts_read c.args.self.now) _ c.in-Segments.is (segments_early (parts_read c.args.self.now) (λ same. omega (arith, same)))
