use Rattle.std.proofs.Common.{◌≡◌, ◌∙◌, sym, ap, map, string_bytes, Some}
use Rattle.std.specs.Option.{option_copied}
use Rattle.hph_src.specs.Faults.{HasRisen}
use Rattle.hph_drive.specs.Words.{main_of}
use Rattle.hph_drive.proofs.CausesExclude.{told-succeeds}
use Rattle.hph_drive.proofs.command.answered.Goals as goal

pub returns-in-Some-clause-succeeds : goal.returns-in-Some-clause-succeeds
returns-in-Some-clause-succeeds g c =
    let is_main : main_of (map string_bytes c.args.words.now) ≡ Some c.in-Some.path.now = sym c.main_path.ensures ∙ ap option_copied c.in-Some.is in
    rw is_main (told-succeeds (record { tree = c.one_tree.ensures.tree; no_fault = c.one_tree.ensures.no_fault }) (g.T.Tree.files c.args.tree.now) c.in-Some.path.now (g.O.Sink.content c.args.out.now) (g.O.Sink.content c.build.new.out)
    (HasRisen (g.T.Tree.faults c.args.tree.now) (g.T.Tree.faults c.build.new.tree)) (HasRisen (g.O.Sink.faults c.args.out.now) (g.O.Sink.faults c.build.new.out)) c.build.result
    c.build.ensures.says c.build.ensures.read_fault c.build.ensures.write_fault)
