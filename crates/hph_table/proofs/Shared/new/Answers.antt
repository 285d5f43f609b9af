use Rattle.std.proofs.Common.{rules, ◌≡◌, ◌<◌, ◌≤◌, ◌+◌, true, ℕ, List, [], sym, ap, ◌∙◌, subst, arith}
use Rattle.hph_sys.specs.Shape.{Shape}
use Rattle.hph_sys.specs.Lawful.{Lawful}
use Rattle.hph_table.specs.Words.{IsFirst}
use Rattle.hph_table.proofs.Seating.{opens}
use Rattle.hph_table.proofs.Shared.new.Goals as goal

pub of_words-requires : goal.of_words-requires
of_words-requires g c =
    let sys : Shape = g.S.System.shape c.args.system.now in
    let is : c.of.result.value ≡ c.args.system.now = c.of.ensures in
    let a : c.scopes-scopes.result ≡ sys.scopes = c.scopes-scopes.ensures in
    let b : c.cells-cells.result ≡ sys.cells = c.cells-cells.ensures in
    let w : IsFirst c.scopes-scopes.result c.cells-cells.result c.in_ok-words.words.items = c.in_ok-words.ensures in
    let w' : IsFirst sys.scopes sys.cells c.in_ok-words.words.items = subst (λ (n : ℕ). IsFirst sys.scopes n c.in_ok-words.words.items) b (subst (λ (n : ℕ). IsFirst n c.cells-cells.result c.in_ok-words.words.items) a w) in
    let v : c.as_slice.result.now ≡ c.in_ok-words.words.items = c.as_slice.ensures.value in
    rw (is, v) (opens sys (g.met.S.System.laws c.args.system.now) c.args.workers c.in_ok-words.words.items c.requires.workers.0 w')
