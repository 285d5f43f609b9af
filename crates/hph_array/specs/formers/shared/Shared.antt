-- Where a shared owner keeps its value, so that a value type may contain itself through it. Source: this project's own.
use Rattle.std.proofs.Common.{refl}
use Rattle.std.specs.declared.alloc.Global.{Global}
use Rattle.std.specs.contracts.alloc.Global as global
use Rattle.std.specs.contracts.impls.GlobalAllocator.TheImpl.{ghosts}
use Rattle.std.specs.declared.rc.Rc.{Rc}
use Rattle.std.specs.contracts.rc.Rc as rc
use mathlib.Core.Former.{Former, this, const, pair, via}
use base.Stored.{gnil}
use base.Fml.{ftrue}
use denote.RattleType.{RattleType}
use denote.Memory.{part_of}
use denote.RawPtr.{Ptr}
use denote.Sharing.{nothing}
use denote.HoleLaws.{Alike}
use denote.HolePlaces.{Recodes, struct_places, laid, one_value}
use denote.Hole.Fix.{over}
use denote.Model.Placed.{view_places}
use denote.Param.Weighed.{Weighed}
use Rattle.hph_array.specs.declared.shared.Shared.TheInside.{Inside}
use Rattle.hph_array.specs.declared.shared.Shared.TheView.{view, invariant}
use Rattle.hph_array.specs.contracts.shared.Shared as contract
use Rattle.hph_array.specs.contracts.shared.Shared.TheInside as inside

-- A shared owner is seen as its value.
abbrev pub the_former : Former {0} → Former {0}
the_former g = g

-- Its measure is its value's.
abbrev pub the_weighed : {g : Former {0}} → Weighed g → Weighed (the_former g)
the_weighed w = w

-- the field of a shared owner, with the value that it holds
abbrev fields : Former {0}
fields =
    via (pair (const Ptr) this) Inside (λ X owner. (owner.inner.ptr, owner.inner.value))
    (λ X parts. record { inner = record { ptr = parts.0; value = parts.1 } }) (λ X owner. refl) (λ X parts. refl)

-- an owner by a count
abbrev rc_of : RattleType → RattleType
rc_of R = rc.the_row R global.the_row ghosts

-- the owner with another value
abbrev with_value : {X Y : Type 0} → Rc X Global → Y → Rc Y Global
with_value owner value = record { ptr = owner.ptr; value = value }

module _ (R S : RattleType) (h : R.Denot → S.Denot) where
  -- An owner by a count owns and lends what its value owns and lends.
  rc_places : Alike R S h → Alike (rc_of R) (rc_of S) (λ owner. with_value owner (h owner.value))
  unfolding part_of
  rc_places a = record {
    mir_same = λ i. (rc_of (one_value R (a.mir_same i) (λ _. ftrue) (λ _ _. nothing) gnil)).mir;
    own_same = λ owner i. (rc_of
        (one_value R (a.mir_same i) (a.own_same owner.value i) (a.shr_same owner.value i) gnil)).own_val
        (with_value owner tt);
    shr_same = λ owner i. (rc_of
        (one_value R (a.mir_same i) (a.own_same owner.value i) (a.shr_same owner.value i) gnil)).shr_at
        (with_value owner tt);
  }

  -- It owns and lends what a count of its value owns and lends.
  pub the_places : Alike R S h
      → Alike (contract.the_row R) (contract.the_row S) ((the_former this).map R.Denot S.Denot h)
  the_places a =
      view_places fields this view (λ X Y k owner. refl) (λ X owner. refl)
      R.Denot S.Denot h (contract.the_row R).coded (contract.the_row S).coded
      (invariant R.Denot) (invariant S.Denot) (λ owner p q. refl) (λ owner p q. refl) (λ owner e. tt) (λ owner e. tt)
      (over (inside.the_row R)) (over (inside.the_row S))
      (struct_places (inside.the_type R) (inside.the_type S) (λ owner. with_value owner (h owner.value), tt) _
      (λ d. refl) refl (laid _ _ _ (rc_places a), tt))

  -- It is stored as its value is stored.
  pub the_codes_placed : Recodes R S h
      → Recodes (contract.the_row R) (contract.the_row S) ((the_former this).map R.Denot S.Denot h)
  the_codes_placed e d = e d
