-- What the two seats know is enough for their raises and drops.
use Rattle.std.proofs.Common.{◌≡◌, ◌≢◌, ℕ, zero, suc, ◌<◌, true≢false, List, [], ◌∷◌, sym, refl, ap, subst, inl, inr, arith}
use Rattle.hph_type.specs.Types.{PhpType, none}
use Rattle.hph_type.specs.Order.{Leq, IsOf, join}
use Rattle.hph_type.proofs.OrderLaws.{types_are_ordered}
use Rattle.hph_sys.specs.Typings.{In, at}
use Rattle.hph_sys.specs.Shape.{IsTyping, asked}
use Rattle.hph_sys.specs.AskedLaws.{asked-above}
use Rattle.hph_sys.specs.Two.{two, int}
use Rattle.hph_core.specs.declared.view.View.{View}
use Rattle.hph_core.specs.Effects.{after_raise}
use Rattle.hph_table.specs.Views.{KnowsCell, RaisesSeen, FinishesSeen, MayDrop}
use Rattle.hph_machine_tests.specs.TwoSeats.{payer, looker}

is_int : IsOf [] int
unfolding IsOf
is_int = tt

is_none : IsOf [] none
unfolding IsOf
is_none = tt

typed : (a b : PhpType) → IsOf [] a → IsOf [] b → IsTyping two (a ∷ b ∷ [])
typed a b of_a of_b = record { len = refl; types = types }
  where
    types : (cell : ℕ) → IsOf [] (at (a ∷ b ∷ []) cell)
    types zero = of_a
    types (suc zero) = of_b
    types (suc (suc cell)) = is_none

int_int : Leq [] int int
int_int = (types_are_ordered []).reflexive int

from_none : int ≡ join [] none int
unfolding join
from_none = refl

asks0 : (T : List PhpType) → Leq [] int (asked two 0 T 0)
unfolding asked
asks0 T = asked-above [] ((0, int) ∷ []) (0, int) (inl refl)

asks1 : Leq [] int (asked two 1 (int ∷ none ∷ []) 1)
unfolding asked
asks1 = asked-above [] ((1, int) ∷ []) (1, int) (inl refl)

int_rises : int ≢ none
int_rises e = true≢false (ap (λ (t : PhpType). t.kinds.int) e)

full0 : (d : ℕ) → In d (two.look 0) → In d (0 ∷ [])
full0 d i = i

full1 : (d : ℕ) → In d (two.look 1) → In d (1 ∷ 0 ∷ [])
full1 d (inl e) = inr (inl e)
full1 d (inr (inl e)) = inl e
full1 d (inr (inr no_more)) = absurd no_more

-- scope 0 reads no cell
reads0 : (v : View) (K : List PhpType) (c : ℕ) → c < 2 → In 0 (two.readers c) → KnowsCell two v K c
reads0 v K zero h (inl e) = absurd (omega arith)
reads0 v K zero h (inr no_more) = absurd no_more
reads0 v K (suc c) h no_more = absurd no_more

-- scope 1 reads cell 0
reads1 : (v : View) (K : List PhpType) → KnowsCell two v K 0 → (c : ℕ) → c < 2 → In 1 (two.readers c) → KnowsCell two v K c
reads1 v K knows zero h i = knows
reads1 v K knows (suc c) h no_more = absurd no_more

met : (v : View) (K : List PhpType) (s c : ℕ) → KnowsCell two v K c → at K c ≡ int → (p : ℕ × PhpType) → In p ((c, int) ∷ [])
    → KnowsCell two v K p.0 × Leq [] p.1 (at K p.0)
met v K s c knows is p (inl same) =
    subst (λ (q : ℕ × PhpType). KnowsCell two v K q.0 × Leq [] q.1 (at K q.0)) (sym same) (knows, subst (Leq [] int) (sym is) int_int)
met v K s c knows is p (inr no_more) = absurd no_more

first_raise : RaisesSeen two payer 0 0 int (none ∷ none ∷ [])
first_raise = record {
  hand = refl;
  look = full0;
  sees = record { typing = typed none none is_none is_none; reads = reads0 payer (none ∷ none ∷ []) };
  cell = inl refl;
  held = inl refl;
  marked = λ r i. i;
  some = (int, asks0 (none ∷ none ∷ []), from_none);
  rises = int_rises;
  typed = is_int;
}

first_drop : FinishesSeen two (after_raise payer 0 0 int) 0 (int ∷ none ∷ [])
first_drop = record {
  no_debt = refl;
  hand = refl;
  look = full0;
  sees = record { typing = typed int none is_int is_none; reads = reads0 (after_raise payer 0 0 int) (int ∷ none ∷ []) };
  met = met (after_raise payer 0 0 int) (int ∷ none ∷ []) 0 0 (inl refl) refl;
}

second_raise : RaisesSeen two looker 1 1 int (int ∷ none ∷ [])
second_raise = record {
  hand = refl;
  look = full1;
  sees = record { typing = typed int none is_int is_none; reads = reads1 looker (int ∷ none ∷ []) (inr (inl refl)) };
  cell = inl refl;
  held = inl refl;
  marked = λ r i. i;
  some = (int, asks1, from_none);
  rises = int_rises;
  typed = is_int;
}

second_drop : FinishesSeen two (after_raise looker 1 1 int) 1 (int ∷ int ∷ [])
second_drop = record {
  no_debt = refl;
  hand = refl;
  look = full1;
  sees = record { typing = typed int int is_int is_int; reads = reads1 (after_raise looker 1 1 int) (int ∷ int ∷ []) (inr (inl refl)) };
  met = met (after_raise looker 1 1 int) (int ∷ int ∷ []) 1 1 (inl refl) refl;
}

-- a seat with this view may raise, and may drop afterwards
pub may_raise : (v w : View) (s c : ℕ) (t : PhpType) (K : List PhpType) → RaisesSeen two w s c int K → v ≡ w → t ≡ int
    → (x : ℕ) × ((K : List PhpType) × RaisesSeen two v x c t K)
may_raise v w s c t K seen is typed_as =
    subst (λ (u : PhpType). (x : ℕ) × ((K : List PhpType) × RaisesSeen two v x c u K)) (sym typed_as)
    (subst (λ (u : View). (x : ℕ) × ((K : List PhpType) × RaisesSeen two u x c int K)) (sym is) (s, (K, seen)))

pub may_drop : (v w next : View) (s c : ℕ) (t : PhpType) (K : List PhpType) → FinishesSeen two (after_raise w c c int) s K → v ≡ w → t ≡ int
    → next ≡ after_raise v c c t → MayDrop two next
may_drop v w next s c t K seen is typed_as raised =
    subst (MayDrop two) (sym raised)
    (subst (λ (u : PhpType). MayDrop two (after_raise v c c u)) (sym typed_as)
    (subst (λ (u : View). MayDrop two (after_raise u c c int)) (sym is) (inr (s, (K, seen)))))

pub raises_first : (v : View) (t : PhpType) → v ≡ payer → t ≡ int → (x : ℕ) × ((K : List PhpType) × RaisesSeen two v x 0 t K)
raises_first v t = may_raise v payer 0 0 t (none ∷ none ∷ []) first_raise

pub drops_first : (v next : View) (t : PhpType) → v ≡ payer → t ≡ int → next ≡ after_raise v 0 0 t → MayDrop two next
drops_first v next t = may_drop v payer next 0 0 t (int ∷ none ∷ []) first_drop

pub raises_second : (v : View) (t : PhpType) → v ≡ looker → t ≡ int → (x : ℕ) × ((K : List PhpType) × RaisesSeen two v x 1 t K)
raises_second v t = may_raise v looker 1 1 t (int ∷ none ∷ []) second_raise

pub drops_second : (v next : View) (t : PhpType) → v ≡ looker → t ≡ int → next ≡ after_raise v 1 1 t → MayDrop two next
drops_second v next t = may_drop v looker next 1 1 t (int ∷ int ∷ []) second_drop
