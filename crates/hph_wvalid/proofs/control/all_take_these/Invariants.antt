use Rattle.std.proofs.Common.{◌≡◌, drop}
use Rattle.hph_wvalid.specs.Checking.{all_labels}
use Rattle.hph_wvalid.specs.Spaces.{context_of}
use Rattle.hph_wvalid.proofs.control.all_take_these.Given as goal

-- Where all of the labels that are left take the types, all do.
abbrev pub invariant-loop-label : goal.invariant-loop-label
invariant-loop-label l = all_labels (context_of l.scope).labels l.types (drop l.label-index l.labels) ≡ all_labels (context_of l.scope).labels l.types l.labels
