use Rattle.std.proofs.Common.{map, subst, List, ℕ, Err}
use Rattle.hph_php.specs.VarDump.{Dump, dump_all}
use Rattle.hph_value.specs.Shown.{value_of}
use Rattle.hph_builtin_dump.specs.declared.flush.HostStop.{HostStop}
use Rattle.hph_builtin_dump.specs.declared.flush.HostStop.TheVariants as Host
use Rattle.hph_builtin_dump.specs.Prints.{Prints, Printed}
use Rattle.hph_builtin_dump.specs.Dumps.{nothing}
use Rattle.hph_builtin_dump.proofs.Pieces.{ends_well, fatal_breaks}
use Rattle.hph_builtin_dump.proofs.print.dump_all.Goals as goal

pub returns-in-Ok-clause-shows : goal.returns-in-Ok-clause-shows
returns-in-Ok-clause-shows g c =
    let all : Dump = dump_all (map value_of c.args.values.now) in
    let P : List ℕ → Type 0 = λ b. Prints all nothing (g.O.Sink.content c.args.out.now) (g.O.Sink.content c.print_values.new.out) b c.print_values.new.buffer.items in
    ends_well c.flush.result all (g.O.Sink.content c.args.out.now) (g.O.Sink.content c.print_values.new.out) (g.O.Sink.content c.flush.new.out)
    c.print_values.new.buffer.items c.flush.new.buffer.items (subst P c.new-buffer.ensures.items c.in-Ok.ensures.printed) c.flush.ensures.flushed c.flush.ensures.emptied

pub returns-in-Err-Fatal-clause-shows : goal.returns-in-Err-Fatal-clause-shows
returns-in-Err-Fatal-clause-shows g c =
    let all : Dump = dump_all (map value_of c.args.values.now) in
    let content = g.O.Sink.content c.args.out.now in
    let content' = g.O.Sink.content c.print_values.new.out in
    let waiting : List ℕ = c.print_values.new.buffer.items in
    let Q : HostStop → Type 0 = λ s. Printed (Err s) all content content' c.new-buffer.result.items waiting in
    let P : List ℕ → Type 0 = λ b. Printed (Err (Host.Fatal c.in-Err-Fatal.fatal)) all content content' b waiting in
    fatal_breaks c.in-Err-flush.stop c.in-Err-Fatal.fatal all content content' (g.O.Sink.content c.flush-in-Err-Fatal.new.out) waiting
    c.flush-in-Err-Fatal.new.buffer.items (subst P c.new-buffer.ensures.items (subst Q c.in-Err-Fatal.field-0-is c.in-Err-Fatal.ensures.printed))
    c.in-Err-flush.ensures.flushed
