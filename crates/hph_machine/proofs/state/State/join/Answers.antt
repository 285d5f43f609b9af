use Rattle.std.proofs.Common.{rules, ◌≡◌, ◌<◌, List, get_or, set, ap, sym, ◌∙◌}
use Rattle.hph_core.specs.declared.view.View.{View}
use Rattle.hph_core.specs.State.{WorkerState, spent}
use Rattle.hph_machine.proofs.Joining.{joined, given_back, in_set}
use Rattle.hph_machine.proofs.Members.{get_any}
use Rattle.hph_machine.proofs.state.State.join.Goals as goal

pub returns-in-Ok-clause-ok : goal.returns-in-Ok-clause-ok
returns-in-Ok-clause-ok c =
    let st = c.args.self.now in
    let es : List View = st.entries.items in
    let s = c.replace-gone.new.dest in
    let gone_is : c.replace-gone.result ≡ get_or es c.args.joined spent = c.replace-gone.ensures.value ∙ (c.index_mut.ensures.value ∙ get_any es c.args.joined _ spent c.requires.joined) in
    let old_is : c.index_mut-2.result.now ≡ get_or (set es c.args.joined s) c.args.worker spent = c.index_mut-2.ensures.value ∙ get_any (set es c.args.joined s) c.args.worker _ spent (in_set es c.args.joined c.args.worker s c.requires.seat) in
    let s_is : s ≡ spent = search rules in
    ap (λ (l : List View). let made : WorkerState = record { cells = st.cells.items; holders = st.holders.items; work = st.work.items; pending = st.pending; entries = l } in made)
    (joined es c.args.worker c.args.joined s c.replace-gone.result c.index_mut-2.result.now c.join.new.view c.requires.two gone_is old_is s_is c.in-Ok.ensures.ok)

pub returns-in-Err-clause-err : goal.returns-in-Err-clause-err
returns-in-Err-clause-err c =
    let st = c.args.self.now in
    let es : List View = st.entries.items in
    let s = c.replace-gone.new.dest in
    let gone_is : c.replace-gone.result ≡ get_or es c.args.joined spent = c.replace-gone.ensures.value ∙ (c.index_mut.ensures.value ∙ get_any es c.args.joined _ spent c.requires.joined) in
    let old_is : c.index_mut-2.result.now ≡ get_or (set es c.args.joined s) c.args.worker spent = c.index_mut-2.ensures.value ∙ get_any (set es c.args.joined s) c.args.worker _ spent (in_set es c.args.joined c.args.worker s c.requires.seat) in
    ap (λ (l : List View). let made : WorkerState = record { cells = st.cells.items; holders = st.holders.items; work = st.work.items; pending = st.pending; entries = l } in made)
    (given_back es c.args.worker c.args.joined s c.replace-gone.result c.index_mut-2.result.now c.join.new.view c.requires.two gone_is old_is c.join.new.other c.in-Err.ensures.err.0 c.in-Err.ensures.err.1)
