use Rattle.std.proofs.Common.{refl, ap, ◌∙◌, None, Some, take, arith}
use Rattle.std.proofs.lemmas.Str.Pattern.{rfind_char}
use Rattle.hph_paths.proofs.Slashes.{no_slash, root_folder, folder_before}
use Rattle.hph_paths.proofs.normalise.folder.Goals as goal

pub returns-in-None : goal.returns-in-None
returns-in-None c =
    let none = rfind_char 47 c.args.path.now None (rw c.in-None.is at c.rfind.ensures.cases) (omega arith) in
    rw (no_slash c.args.path.now none) refl

pub returns-in-Some-eq0 : goal.returns-in-Some-eq0
returns-in-Some-eq0 c =
    let k = c.in-Some-eq0.field-0 in
    let (within, is, none) = rfind_char 47 c.args.path.now (Some k) (c.in-Some-eq0.ensures).cases (omega arith) in
    root_folder c.args.path.now k c.in-Some-eq0.field-0-test within is none

pub returns-in-Some : goal.returns-in-Some
returns-in-Some c =
    let k = c.in-Some.at in
    let (within, is, none) = rfind_char 47 c.args.path.now (Some k) (c.in-Some.ensures).cases (omega arith) in
    (c.range.ensures.value ∙ ap (λ n. take n c.args.path.now) (omega arith)) ∙ folder_before c.args.path.now k c.in-Some.at-test.1 within is none
