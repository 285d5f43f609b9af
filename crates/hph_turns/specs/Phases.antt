-- The phases of a turn. Source: this project's own.
use Rattle.std.specs.Prelude.{◌≡◌, ℕ, ◌<◌, ◌-◌, true, false, List, length, slice_index, Some}
use Rattle.hph_type.specs.Types.{PhpType}
use Rattle.hph_type.specs.Classes.{height}
use Rattle.hph_type.specs.Rank.{rank}
use Rattle.hph_sys.specs.Typings.{In, at}
use Rattle.hph_sys.specs.Shape.{Shape, IsTyping}
use Rattle.hph_core.specs.declared.view.View.{View}
use Rattle.hph_core.specs.Rule.{sum_below}
use Rattle.hph_table.specs.Views.{KnowsCell}

-- These numbers ascend.
abbrev pub Ascends : List ℕ → Type 0
Ascends xs = (i j : ℕ) → i < j → j < length xs → slice_index xs i < slice_index xs j

-- The seat holds these scopes and no others.
pub record HoldsJust (v : View) (xs : List ℕ) : Type 0 where
  pub all : (d : ℕ) → In d xs → In d v.holds
  pub only : (d : ℕ) → In d v.holds → In d xs

-- The seat n has the scope s in its hand, and owes nothing.
pub record HasHand (v : View) (n s : ℕ) : Type 0 where
  pub live : v.live ≡ true
  pub number : v.number ≡ n
  pub hand : v.hand ≡ Some s
  pub debt : v.debt ≡ false

-- Of the seat nothing has changed but what it knows, marked and found.
pub record IsReading (a b : View) : Type 0 where
  pub live : b.live ≡ a.live
  pub number : b.number ≡ a.number
  pub hand : b.hand ≡ a.hand
  pub debt : b.debt ≡ a.debt
  pub holds : b.holds ≡ a.holds

-- K is a typing with what the seat knows of the cells of these scopes.
pub record KnowsAll (sys : Shape) (v : View) (look : List ℕ) (K : List PhpType) : Type 0 where
  pub typing : IsTyping sys K
  pub cells : (c : ℕ) → c < sys.cells → In (sys.owner c) look → KnowsCell sys v K c

-- The scope s is in the hand of n, which holds all that s looks at and knows its cells.
pub record IsAtWork (sys : Shape) (v : View) (n s : ℕ) (K : List PhpType) : Type 0 where
  pub hand : HasHand v n s
  pub scope_in : s < sys.scopes
  pub just : HoldsJust v (sys.look s)
  pub knows : KnowsAll sys v (sys.look s) K

-- how far cells can still rise
abbrev pub Slack : Shape → List PhpType → ℕ
Slack sys K = sum_below sys.cells (λ c. height sys.classes - rank sys.classes (at K c))
