use Rattle.std.proofs.Common.{◌≡◌, true}
use Rattle.hph_wasm.specs.Faults.{outside}
use Rattle.hph_wvalid.proofs.validator.decide.Goals as goal

pub returns-clause-invalid : goal.returns-clause-invalid
returns-clause-invalid c = outside (λ valid.
    let is : c.in_ok-is_valid_outside.field-0 ≡ true = c.in_ok-is_valid_outside.ensures.1 valid in
    let not = c.if-branch.false in
    let no : ⊥ = cc in no)
