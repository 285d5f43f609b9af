use Rattle.std.proofs.Common.{◌≡◌, ap, sym, subst, ◌∙◌, Some, Err}
use Rattle.hph_parse.specs.declared.error.TreeFault.TheVariants.{TooDeep}
use Rattle.hph_parse.specs.Public.{IsAnswer}
use Rattle.hph_file.proofs.FirstFaults.{deep_offset}
use Rattle.hph_file.proofs.reading.tree.Goals as goal

pub returns-in-Err-TooDeep : goal.returns-in-Err-TooDeep
returns-in-Err-TooDeep c =
    let is : c.in-Err-TooDeep.field-0 ≡ TooDeep c.in-Err-TooDeep.index = c.in-Err-TooDeep.field-0-is in
    let first = subst (λ f. IsAnswer c.args.tokens.now (Err f)) is c.in-Err-TooDeep.ensures in
    deep_offset c.args.tokens.now c.in-Err-TooDeep.index c.args.length first ∙ ap Some (sym c.offset_of.ensures)
