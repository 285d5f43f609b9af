-- Where an event is enabled, of the system, the cells and the entry of the seat that acts. Source: this project's own.
use Rattle.std.specs.Prelude.{◌≡◌, ◌≢◌, ℕ, ◌<◌, Bool, true, false, List, [], ◌∷◌, Option, None, Some}
use Rattle.hph_type.specs.Types.{PhpType}
use Rattle.hph_type.specs.Order.{Leq, IsOf, join}
use Rattle.hph_sys.specs.Typings.{In, at}
use Rattle.hph_sys.specs.Shape.{Shape, asked}
use Rattle.hph_sys.specs.Least.{IsMet}
use Rattle.hph_core.specs.declared.view.View.{View}
use Rattle.hph_core.specs.declared.view.Finding.{Finding}
use Rattle.hph_core.specs.declared.view.Finding.TheVariants.{Took, Got, Busy}

-- The seat holds all that the scope looks at.
abbrev pub HoldsLook : Shape → View → ℕ → Type 0
HoldsLook sys v s = (d : ℕ) → In d (sys.look s) → In d v.holds

-- A raise of cell c, owned by o, to t: t isn't the cell's type, and is the join of it and of a type below what the scope
-- in hand asks. All that the scope looks at is held, and all readers of the cell are marked.
pub record MayRaise (sys : Shape) (T : List PhpType) (v : View) (s c o : ℕ) (t : PhpType) : Type 0 where
  pub hand : v.hand ≡ Some s
  pub look : HoldsLook sys v s
  pub cell_in : c < sys.cells
  pub owner_is : o ≡ sys.owner c
  pub held : In o v.holds
  pub marked : (r : ℕ) → In r (sys.readers c) → In r v.marks
  pub some : (u : PhpType) × Leq sys.classes u (asked sys s T c) × (t ≡ join sys.classes (at T c) u)
  pub rises : t ≢ at T c
  pub typed : IsOf sys.classes t

-- A drop of the hand: all its pairs are met, and nothing is owed.
pub record MayFinish (sys : Shape) (T : List PhpType) (v : View) (s : ℕ) : Type 0 where
  pub no_debt : v.debt ≡ false
  pub hand : v.hand ≡ Some s
  pub look : HoldsLook sys v s
  pub met : IsMet sys T s

-- what a finding makes of what the last try met
abbrev pub met_after : Option (ℕ × ℕ) → Finding → Option (ℕ × ℕ)
met_after m (Took s b) = None
met_after m (Got d) = None
met_after m (Busy d h) = Some (d, h)
met_after m _ = m

-- the scope and the seat that the last try since the last take found busy, None where that try got its scope
abbrev pub last_met : Option (ℕ × ℕ) → List Finding → Option (ℕ × ℕ)
last_met m [] = m
last_met m (f ∷ fs) = last_met (met_after m f) fs

-- A put back of the hand: the last try since the take found another seat at a scope that the hand looks at.
pub record MayPutBack (sys : Shape) (v : View) (s : ℕ) : Type 0 where
  pub hand : v.hand ≡ Some s
  pub no_debt : v.debt ≡ false
  pub met : (d h : ℕ) × In d (sys.look s) × (last_met None v.findings ≡ Some (d, h))

-- A mark: a unit is owed for it, and it looks at a scope that the seat holds.
pub record MayMark (sys : Shape) (v : View) (r : ℕ) : Type 0 where
  pub scope_in : r < sys.scopes
  pub debt : v.debt ≡ true
  pub near : (d : ℕ) × In d (sys.look r) × In d v.holds

-- A seat that may be joined into another.
pub record IsIdle (v : View) : Type 0 where
  pub live : v.live ≡ true
  pub hand : v.hand ≡ None
  pub holds : v.holds ≡ []
  pub debt : v.debt ≡ false
