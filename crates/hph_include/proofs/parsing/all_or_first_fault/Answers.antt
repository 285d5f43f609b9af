use Rattle.std.proofs.Common.{◌∙◌, map-id, sym}
use Rattle.std.proofs.lemmas.Iterator.Adapters.{YieldsList-from_vec}
use Rattle.std.proofs.lemmas.Iterator.Consumers.{YieldsList-turn, YieldsList-end, YieldsList-so_far}
use Rattle.hph_include.proofs.Fronts.{all_files, first_fault}
use Rattle.hph_include.proofs.OneMore.{handed_on}
use Rattle.hph_include.proofs.parsing.all_or_first_fault.Goals as goal

pub returns-in_err-front-clause-faulty : goal.returns-in_err-front-clause-faulty
returns-in_err-front-clause-faulty c = λ sources fronts.
    let road = YieldsList-from_vec c.args.fronts.items (cc) (cc) in
    let so_far = YieldsList-so_far road c.loop-front.yielded _ c.loop-front.yielded_by in
    let turn = YieldsList-turn road c.loop-front.yielded _ c.loop-front.yielded_by _ c.next.new.self c.in-Some.front c.in-Some.is c.next.ensures.steps in
    handed_on _ c.from_residual.result c.in_err-front.field-0.0 c.from_residual.ensures.1
    (first_fault sources c.loop-front.files.items c.args.fronts.items c.loop-front.yielded c.in-Some.front c.in_err-front.field-0.0 so_far c.loop-front.invariant.so_far turn.0 turn.1 c.in_err-front.was fronts)

pub returns-clause-files : goal.returns-clause-files
returns-clause-files c = λ sources fronts.
    let road = YieldsList-from_vec c.args.fronts.items (cc) (cc) in
    let end = YieldsList-end road c.loop-front.yielded _ c.loop-front.yielded_by _ c.next.new.self c.in-None.is c.next.ensures.steps in
    all_files sources c.loop-front.files.items c.args.fronts.items (sym end.0 ∙ map-id c.loop-front.yielded ∙ c.loop-front.invariant.so_far) fronts
