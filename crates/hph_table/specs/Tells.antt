-- What each step tells its seat.
use Rattle.std.specs.Prelude.{◌≡◌, ◌≢◌, ℕ, ◌≤◌, ◌<◌, ◌+◌, ◌*◌, ◌%◌, List, [], ◌∷◌, ◌++◌}
use Rattle.std.specs.Int.{bit_at}
use Rattle.hph_type.specs.Types.{PhpType}
use Rattle.hph_type.specs.Codes.{code}
use Rattle.hph_sys.specs.Shape.{Shape}
use Rattle.hph_type.specs.Order.{IsOf}
use Rattle.hph_core.specs.declared.view.View.{View}
use Rattle.hph_core.specs.Effects.{after_peek, after_take, after_mark, after_put_back, after_try, after_release, after_read, after_raise, after_add, after_pay, after_done, after_pending}
use Rattle.hph_table.specs.declared.NoSlot.{NoSlot}
use Rattle.atomic_table.specs.Table.{Me, Step}

abbrev pub Tells : Type 1
Tells = Step NoSlot → Me NoSlot View → ℕ → Me NoSlot View → Type 0

-- the set bits of a work word are scopes
abbrev pub BitsIn : ℕ → ℕ → ℕ → Type 0
BitsIn scopes j n = (k : ℕ) → k < 64 → bit_at n k ≡ 1 → 64 * j + k < scopes

abbrev pub Peeks : Shape → ℕ → Tells
Peeks sys j st me n me' = (me' ≡ (after_peek me.0 j n, me.1)) × BitsIn sys.scopes j n

abbrev pub Takes : ℕ → Tells
Takes s st me n me' = me' ≡ (after_take me.0 s (bit_at n (s % 64)), me.1)

abbrev pub Marks : ℕ → Tells
Marks s st me n me' = me' ≡ (after_mark me.0 s (bit_at n (s % 64)), me.1)

abbrev pub PutsBack : ℕ → Tells
PutsBack s st me n me' = me' ≡ (after_put_back me.0 s (bit_at n (s % 64)), me.1)

abbrev pub Tries : ℕ → Tells
Tries d st me n me' = (me' ≡ (after_try me.0 d n, me.1)) × (n ≤ 64) × (n ≢ me.0.number + 1)

abbrev pub Releases : ℕ → Tells
Releases d st me n me' = me' ≡ (after_release me.0 d, me.1)

abbrev pub Reads : Shape → ℕ → Tells
Reads sys c st me n me' = (t : PhpType) × (n ≡ code t) × IsOf sys.classes t × (me' ≡ (after_read me.0 c (sys.owner c) t, me.1))

abbrev pub Raises : ℕ → ℕ → PhpType → Tells
Raises c o t st me n me' = me' ≡ (after_raise me.0 c o t, me.1)

abbrev pub Adds : Tells
Adds st me n me' = me' ≡ (after_add me.0, me.1)

abbrev pub Pays : Tells
Pays st me n me' = me' ≡ (after_pay me.0, me.1)

abbrev pub Finishes : ℕ → Tells
Finishes s st me n me' = me' ≡ (after_done me.0 s, me.1)

abbrev pub Waits : Tells
Waits st me n me' = me' ≡ (after_pending me.0 n, me.1)
