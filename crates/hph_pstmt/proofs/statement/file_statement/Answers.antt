use Rattle.std.proofs.Common.{◌≡◌, ap, arith}
use Rattle.std.specs.Prelude.{true}
use Rattle.hph_fstmt.specs.Parser.{expressions, nested, statement}
use Rattle.hph_cursor.proofs.Turns.{deeper}
use Rattle.hph_pstmt.proofs.statement.file_statement.Goals as goal

pub returns-then-depth-eq0 : goal.returns-then-depth-eq0
unfolding statement
returns-then-depth-eq0 g c _ = let none : c.args.depth ≡ 0 = omega arith in ap (λ n. statement expressions n true c.args.cursor.now) none

pub returns : goal.returns
unfolding statement nested
returns g c = rw (deeper (λ n. statement expressions n true c.args.cursor.now) c.args.depth (omega arith)) c.one_statement.ensures
