-- Labels and frames that take no values are left whatever is on the stack.
use Rattle.std.proofs.Common.{◌≡◌, List, [], ◌++◌, true, refl, sym, subst, length, take}
use Rattle.std.proofs.Math.Dec.{leb-zero}
use Rattle.std.specs.Prelude.{cond, nat_eq, nat_le}
use Rattle.hph_wasm.specs.declared.value.Value.{Value}
use Rattle.hph_wasm.specs.declared.module.Module.{Module}
use Rattle.hph_wasm.specs.Configuration.{Host, Running}
use Rattle.hph_wasm.specs.Reduction.{after_return}
use Rattle.hph_wasm.specs.Blocks.{EmptyLabelsAreLeft, EmptyFramesAreLeft, EmptyFramesEnd}

-- There are never fewer than no values.
none-enough : (values : List Value) → nat_le 0 (length values) ≡ true
none-enough values = leb-zero (length values)

module _ {H E : Type 0} (host : Host H E) (m : Module) where
  pub labels_left : EmptyLabelsAreLeft host m
  labels_left label labels values at stuck none =
      subst (λ n. cond (nat_le n (length values))
      (Running (label.continuation ++ label.rest) (take n values ++ label.values) (record at { labels = labels })) stuck ≡
      Running (label.continuation ++ label.rest) label.values (record at { labels = labels })) (sym none) (rw (none-enough values) refl)

  pub frames_left : EmptyFramesAreLeft host m
  frames_left frame frames values store stuck none =
      subst (λ n. cond (nat_le n (length values)) (after_return host m frame frames (take n values) store) stuck ≡
      after_return host m frame frames [] store) (sym none) (rw (none-enough values) refl)

  pub frames_end : EmptyFramesEnd host m
  frames_end frame frames store stuck none =
      subst (λ n. cond (nat_eq n 0) (after_return host m frame frames [] store) stuck ≡
      after_return host m frame frames [] store) (sym none) refl
