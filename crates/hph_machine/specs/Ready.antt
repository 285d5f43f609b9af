-- What a raise needs but for what is asked. Source: this project's own.
use Rattle.std.specs.Prelude.{◌≡◌, ◌≢◌, ℕ, Some}
use Rattle.hph_type.specs.Types.{PhpType}
use Rattle.hph_type.specs.Order.{IsOf}
use Rattle.hph_sys.specs.Typings.{In}
use Rattle.hph_sys.specs.Shape.{Shape}
use Rattle.hph_core.specs.declared.view.View.{View}
use Rattle.hph_core.specs.Conditions.{HoldsLook}

-- The hand's look and the cell's owner are held, the cell's readers are marked, and the type is another one, of the tree.
pub record IsReady (sys : Shape) (v : View) (s c : ℕ) (old t : PhpType) : Type 0 where
  pub hand : v.hand ≡ Some s
  pub look : HoldsLook sys v s
  pub held : In (sys.owner c) v.holds
  pub marked : (r : ℕ) → In r (sys.readers c) → In r v.marks
  pub rises : t ≢ old
  pub typed : IsOf sys.classes t
