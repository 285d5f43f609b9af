use Rattle.std.proofs.Common.{◌≡◌, ap, arith}
use Rattle.hph_fexpr.specs.Parser.{parse}
use Rattle.hph_pexpr.proofs.Kept.{reads_at, too_deep_at, none_at}
use Rattle.hph_pexpr.proofs.parser.+nested.Goals as goal

pub returns-then-depth-eq0 : goal.returns-then-depth-eq0
unfolding parse
returns-then-depth-eq0 t c _ = let none : c.args.depth ≡ 0 = omega arith in ap (λ n. parse n c.args.form c.args.cursor.now) none

pub returns-then-not-expr_fits : goal.returns-then-not-expr_fits
returns-then-not-expr_fits t c _ = too_deep_at c.args.depth c.args.form c.args.cursor.now _ _ (omega arith) c.in_ok-found.ensures (cc)

pub returns : goal.returns
returns t c = reads_at c.args.depth c.args.form c.args.cursor.now _ _ (omega arith) c.in_ok-found.ensures (cc)
