-- The conditions of the calls, which speak of the system and of the seat's view alone.
use Rattle.std.specs.Prelude.{◌≡◌, ◌≢◌, ℕ, ◌≤◌, ◌<◌, ◌+◌, true, false, List, [], ◌∷◌, ◌++◌, Some, None, Option, if◌then◌else◌, ◌⊎◌}
use Rattle.hph_type.specs.Types.{PhpType}
use Rattle.hph_type.specs.Order.{Leq, join}
use Rattle.hph_sys.specs.Shape.{Shape, asked, IsTyping}
use Rattle.hph_sys.specs.Typings.{In, at}
use Rattle.hph_type.specs.Order.{IsOf}
use Rattle.hph_core.specs.Events.{of_hand}
use Rattle.hph_core.specs.declared.view.View.{View}
use Rattle.hph_core.specs.Effects.{know, after_pay, after_done}
use Rattle.hph_core.specs.Conditions.{last_met}
use Rattle.hph_core.specs.Conditions.{HoldsLook}

abbrev pub KnowsCell : Shape → View → List PhpType → ℕ → Type 0
KnowsCell sys v K c = In (know c (sys.owner c) (at K c)) v.known

-- K is a typing that agrees with what the seat knows of each cell that the scope in hand reads
pub record Sees (sys : Shape) (v : View) (s : ℕ) (K : List PhpType) : Type 0 where
  pub typing : IsTyping sys K
  pub reads : (c : ℕ) → c < sys.cells → In s (sys.readers c) → KnowsCell sys v K c

pub record RaisesSeen (sys : Shape) (v : View) (s c : ℕ) (t : PhpType) (K : List PhpType) : Type 0 where
  pub hand : v.hand ≡ Some s
  pub look : HoldsLook sys v s
  pub sees : Sees sys v s K
  pub cell : KnowsCell sys v K c
  pub held : In (sys.owner c) v.holds
  pub marked : (r : ℕ) → In r (sys.readers c) → In r v.marks
  pub some : (u : PhpType) × Leq sys.classes u (asked sys s K c) × (t ≡ join sys.classes (at K c) u)
  pub rises : t ≢ at K c
  pub typed : IsOf sys.classes t

pub record FinishesSeen (sys : Shape) (v : View) (s : ℕ) (K : List PhpType) : Type 0 where
  pub no_debt : v.debt ≡ false
  pub hand : v.hand ≡ Some s
  pub look : HoldsLook sys v s
  pub sees : Sees sys v s K
  pub met : (p : ℕ × PhpType) → In p (sys.contrib s K) → KnowsCell sys v K p.0 × Leq sys.classes p.1 (at K p.0)

-- a unit is owed, or the hand is done
abbrev pub MayDrop : Shape → View → Type 0
MayDrop sys v = (v.debt ≡ true) ⊎ ((s : ℕ) × ((K : List PhpType) × FinishesSeen sys v s K))

abbrev pub after_drop : View → View
after_drop v = if v.debt then after_pay v else after_done v (of_hand v.hand)
