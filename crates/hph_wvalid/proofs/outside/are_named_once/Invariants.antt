use Rattle.std.proofs.Common.{◌≡◌, List, ℕ, true, take}
use Rattle.std.specs.BTreeSet as sorted
use Rattle.std.specs.Cmp.Lexicographic.{slice_cmp}
use Rattle.std.specs.Ordering.{nat_cmp}
use denote.Ref.{Bor}
use Rattle.hph_wvalid.specs.Outside.{is_named, is_named_once}
use Rattle.hph_wvalid.proofs.outside.are_named_once.Given as goal

-- The set has the names so far, and these are exported once.
abbrev pub invariant-loop-export : goal.invariant-loop-export
invariant-loop-export l = record {
  once : is_named_once (take l.export-index l.exports) ≡ true;
  names : (q : Bor (List ℕ)) → sorted.contains (λ x y. slice_cmp nat_cmp x.now y.now) l.names q ≡ is_named q.now (take l.export-index l.exports);
}
