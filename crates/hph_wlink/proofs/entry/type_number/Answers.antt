use Rattle.std.proofs.Common.{◌∙◌, Some, None, sym}
use Rattle.hph_wlink.proofs.Imported.{type_of_import, type_of_own}
use Rattle.hph_wlink.proofs.entry.type_number.Goals as goal

pub returns-in-Some : goal.returns-in-Some
returns-in-Some c = c.type_of_desc.ensures ∙
    sym (type_of_import c.args.m.now c.requires c.args.f c.in-Some.import.now (sym c.in-Some.ensures.value))

pub returns-in-None-get : goal.returns-in-None-get
returns-in-None-get c = type_of_own c.args.m.now c.requires c.args.f c.len-imported.result None c.len-imported.ensures
    c.if-place-imported.false c.in-None-get.ensures.value

pub returns-in-Some-get : goal.returns-in-Some-get
returns-in-Some-get c = type_of_own c.args.m.now c.requires c.args.f c.len-imported.result (Some c.in-Some-get.func.now) c.len-imported.ensures
    c.if-place-imported.false c.in-Some-get.ensures.value
