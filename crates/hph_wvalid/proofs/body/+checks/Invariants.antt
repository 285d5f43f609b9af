use Rattle.std.proofs.Common.{◌≡◌, ◌+◌, ◌*◌, take}
use Rattle.hph_wasm.specs.Rows.{size, list_size}
use Rattle.hph_wvalid.specs.Spaces.{context_of}
use Rattle.hph_wvalid.proofs.Fronts.{IsBehind}
use Rattle.hph_wvalid.proofs.body.+checks.Given as goal

abbrev pub decreases-check_all : goal.decreases-check_all
decreases-check_all l = 2 * list_size l.list.now + 1

abbrev pub decreases-check_one : goal.decreases-check_one
decreases-check_one l = 2 * size l.instr.now

abbrev pub decreases-check_block : goal.decreases-check_block
decreases-check_block l = 2 * list_size l.body.now + 3

abbrev pub decreases-check_alone : goal.decreases-check_alone
decreases-check_alone l = 2 * list_size l.body.now + 3

abbrev pub decreases-check_branches : goal.decreases-check_branches
decreases-check_branches l = 2 * (list_size l.body.now + list_size l.other.now) + 3

abbrev pub decreases-check_inside : goal.decreases-check_inside
decreases-check_inside l = 2 * list_size l.body.now + 2

abbrev pub invariant-check_all-loop-instr : goal.invariant-check_all-loop-instr
invariant-check_all-loop-instr l = record {
  behind : IsBehind l.fn.scope.«module».now (context_of l.fn.scope) l.list l.fn.stack l.instr-index l.stack;
  counted : l.at ≡ l.fn.at + list_size (take l.instr-index l.list);
  same : l.scope ≡ l.fn.scope;
}
