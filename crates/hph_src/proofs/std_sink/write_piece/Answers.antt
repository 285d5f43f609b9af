use Rattle.std.proofs.KnownBytes.{Appends-trans}
use Rattle.hph_src.proofs.WriteLaws.{Appends-Keeps, split_further, prefix_written}
use Rattle.hph_src.proofs.std_sink.write_piece.Goals as goal

pub returns-in-Ok-eq0 : goal.returns-in-Ok-eq0
returns-in-Ok-eq0 g c =
    let (done, split, appended) = c.loop-rest.invariant in
    let nothing = rw (c.in-Ok-eq0.is, c.in-Ok-eq0.field-0-test) at c.write.ensures.bytes in
    prefix_written _ _ _ _ done _ split appended nothing

pub loop-rest-preserved : goal.loop-rest-preserved
loop-rest-preserved g c =
    let (done, split, appended) = c.loop-rest.invariant in
    (_, split_further _ done _ c.in-Ok.count split, Appends-trans _ _ _ _ _ appended c.in-Ok.ensures.bytes)

pub returns-in-Err : goal.returns-in-Err
returns-in-Err g c =
    let (done, split, appended) = c.loop-rest.invariant in
    prefix_written _ _ _ _ done _ split appended (Appends-Keeps _ _ c.in-Err.ensures.bytes)

pub returns-in-Err-2 : goal.returns-in-Err-2
returns-in-Err-2 g c =
    let (done, split, appended) = c.loop-rest.invariant in
    prefix_written _ _ _ _ done _ split appended (Appends-Keeps _ _ c.in-Err-2.ensures.bytes)
