use Rattle.std.proofs.Common.{[], sym, subst}
use Rattle.hph_type.specs.Order.{IsOf}
use Rattle.hph_sys.proofs.TwoLeast.{two_typing}
use Rattle.hph_number_tests.proofs.systems.asks_the_type_of_the_cell_that_is_read.Goals as goal

pub pairs_of-requires-clause-known : goal.pairs_of-requires-clause-known
unfolding IsOf
pairs_of-requires-clause-known g c =
    two_typing _ _ (subst (IsOf []) (sym c.only-int.ensures) tt) (subst (IsOf []) (sym c.none.ensures) tt)
