-- What a seat has after a drop, and what its last try met.
use Rattle.std.proofs.Common.{◌≡◌, ℕ, Bool, true, false, cond, List, [], ◌∷◌, ◌++◌, Option, Some, refl, sym, ap, subst}
use Rattle.hph_type.specs.Types.{PhpType}
use Rattle.hph_sys.specs.Shape.{Shape}
use Rattle.hph_core.specs.declared.view.View.{View}
use Rattle.hph_core.specs.declared.view.Finding.{Finding}
use Rattle.hph_core.specs.declared.view.Finding.TheVariants.{Busy}
use Rattle.hph_core.specs.Effects.{after_mark, after_pay, after_done}
use Rattle.hph_core.specs.Conditions.{last_met, met_after}
use Rattle.hph_core.specs.Events.{of_hand}
use Rattle.hph_table.specs.Views.{RaisesSeen, after_drop}

same_holds : (b : Bool) (v : View) → (cond b (after_pay v) (after_done v (of_hand v.hand))).holds ≡ v.holds
same_holds true v = refl
same_holds false v = refl

-- A drop lets no scope go.
pub drop_holds : (v : View) → (after_drop v).holds ≡ v.holds
drop_holds v = same_holds v.debt v

-- A try that found another seat is the last one.
pub last_busy : (m : Option (ℕ × ℕ)) (fs : List Finding) (d h : ℕ) → last_met m (fs ++ Busy d h ∷ []) ≡ Some (d, h)
last_busy m [] d h = refl
last_busy m (f ∷ fs) d h = last_busy (met_after m f) fs d h

-- A mark changes the marks, the debt and the findings alone.
pub raises_marked : (sys : Shape) (v : View) (r bit s c : ℕ) (t : PhpType) (K : List PhpType)
    → RaisesSeen sys record v { marks = r ∷ v.marks } s c t K → RaisesSeen sys (after_mark v r bit) s c t K
raises_marked sys v r bit s c t K may = record {
  hand = may.hand;
  look = may.look;
  sees = record { typing = may.sees.typing; reads = may.sees.reads };
  cell = may.cell;
  held = may.held;
  marked = may.marked;
  some = may.some;
  rises = may.rises;
  typed = may.typed;
}
