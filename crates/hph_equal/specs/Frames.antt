-- Comparisons of arrays in arrays by a list of those that are entered. `left` is what a pair of arrays still has to give from
-- a place on, and `after` what the arrays on the list have to give, the last of them first.
use Rattle.std.specs.Prelude.{◌≡◌, ◌+◌, ◌<◌, ◌≤◌, ℕ, suc, Bool, true, false, List, map, drop, length, Option, None, Some, Result, Ok, Err}
use Rattle.std.specs.List.{fold, sum_by}
use Rattle.std.specs.Borrow.{Bor}
use Rattle.std.specs.Prelude.{pos}
use Rattle.std.proofs.Common.{refl}
use Rattle.hph_array.specs.declared.key.Key.{Key}
use Rattle.hph_array.specs.declared.key.Key.TheVariants as key
use Rattle.hph_array.specs.Array.{Array, array_map}
use Rattle.hph_php.specs.declared.fatal.Fatal.{Fatal}
use Rattle.hph_php.specs.Values.{Value, Null, Boolean, Int, Str, Arr, Obj, Pairs, no_pair, pair, paired, array_value}
use Rattle.hph_php.specs.Comparison.{loosely_equal, each_in, identical, same_pairs, and_also}
use Rattle.hph_value.specs.declared.value.Value as code
use Rattle.hph_value.specs.declared.value.Stop.{Stop}
use Rattle.hph_value.specs.declared.value.Stop.TheVariants.{Fatal as Fatally, NoMemory}
use Rattle.hph_value.specs.Shown.{value_of}
use Rattle.hph_equal.specs.declared.frame.Equality.{Equality}
use Rattle.hph_equal.specs.declared.frame.Equality.TheVariants.{Loose, Strict}
use Rattle.hph_equal.specs.declared.frame.Frame.{Frame}
use Rattle.hph_equal.specs.declared.frame.Facing.{Facing}
use Rattle.hph_equal.specs.declared.frame.Facing.TheVariants.{End, Missing, Values}
use Rattle.hph_equal.specs.declared.equal.Outcome.{Outcome}
use Rattle.hph_equal.specs.declared.equal.Outcome.TheVariants.{Known, Inside}
use Rattle.hph_equal.specs.declared.equal.Progress.{Progress}
use Rattle.hph_equal.specs.declared.equal.Progress.TheVariants.{Known as Told, Going}

-- `==` or `===`
abbrev pub equal_by : Equality → Value → Value → Result Bool Fatal
equal_by Loose a b = loosely_equal a b
equal_by Strict a b = Ok (identical a b)

abbrev pub is_array : Value → Bool
is_array (Arr pairs next_key) = true
is_array Null = false
is_array (Boolean truth) = false
is_array (Int z) = false
is_array (Str bytes) = false
is_array (Obj number) = false

-- the pairs of an array in code, if the value is one
abbrev pub IsArrayIn : Option (Bor (Array code.Value)) → Value → Type 0
IsArrayIn (Some array) a = a ≡ array_value (array_map value_of array.now)
IsArrayIn None a = is_array a ≡ false

-- the pairs that pairs in code are
abbrev pub pairs_shown : List (Key × code.Value) → Pairs
pairs_shown pairs = paired (map (λ pair. (pair.0, value_of pair.1)) pairs)

-- whether the pairs of two arrays from a place on are equal
abbrev pub left_of : Equality → Array code.Value → Array code.Value → ℕ → Result Bool Fatal
left_of Loose x y at = each_in (pairs_shown (drop at x.pairs)) (array_map value_of y)
left_of Strict x y at = Ok (same_pairs (pairs_shown (drop at x.pairs)) (pairs_shown (drop at y.pairs)))

abbrev pub left : Equality → Frame → Result Bool Fatal
left equality frame = left_of equality frame.x.now frame.y.now frame.at

abbrev pub after : Equality → List Frame → Result Bool Fatal
after equality frames = fold (λ rest frame. and_also (left equality frame) rest) (Ok true) frames

-- ---- how much is left to do

abbrev mutual
  -- how many values there are in a value, with two for an array itself
  pub nodes : Value → ℕ
  nodes (Arr pairs next_key) = suc (suc (nodes_in pairs))
  nodes Null = 1
  nodes (Boolean truth) = 1
  nodes (Int z) = 1
  nodes (Str bytes) = 1
  nodes (Obj number) = 1

  pub nodes_in : Pairs → ℕ
  nodes_in no_pair = 0
  nodes_in (pair key value rest) = nodes value + nodes_in rest

-- `[[null]]`: two for each array, one for null
array_in_array : nodes (Arr (pair (key.Int (pos 0)) (Arr (pair (key.Int (pos 0)) Null no_pair) 1) no_pair) 1) ≡ 5
array_in_array = refl

abbrev pub size_of : Array code.Value → ℕ → ℕ
size_of x at = nodes_in (pairs_shown (drop at x.pairs))

abbrev pub size : Frame → ℕ
size frame = size_of frame.x.now frame.at

abbrev pub work : List Frame → ℕ
work frames = sum_by (λ frame. suc (size frame)) frames

-- ---- contracts

-- what stands next in two arrays
pub record AreNext (equality : Equality) (v w : code.Value) (x y : Array code.Value) (at : ℕ) : Type 0 where
  pub answer : left_of equality x y at ≡ and_also (equal_by equality (value_of v) (value_of w)) (left_of equality x y (at + 1))
  pub sizes : size_of x at ≡ nodes (value_of v) + size_of x (at + 1)
  pub within : at < length x.pairs

abbrev pub Faces : Equality → Facing → Array code.Value → Array code.Value → ℕ → Type 0
Faces equality End x y at = left_of equality x y at ≡ Ok true
Faces equality Missing x y at = left_of equality x y at ≡ Ok false
Faces equality (Values v w) x y at = AreNext equality v.now w.now x y at

-- two values that are arrays with as many pairs
pub record AreEntered (equality : Equality) (frame : Frame) (a b : Value) : Type 0 where
  pub answer : equal_by equality a b ≡ left equality frame
  pub smaller : suc (size frame) < nodes a
  pub left_array : is_array a ≡ true
  pub right_array : is_array b ≡ true

abbrev pub Answers : Equality → Result Outcome Fatal → Value → Value → Type 0
Answers equality (Ok (Known equal)) a b = equal_by equality a b ≡ Ok equal
Answers equality (Ok (Inside frame)) a b = AreEntered equality frame a b
Answers equality (Err fatal) a b = equal_by equality a b ≡ Err fatal

-- a frame that goes on the list, or has nothing left
pub record Keeps (frame : Frame) (old new : List Frame) : Type 0 where
  pub answer : (equality : Equality) → and_also (left equality frame) (after equality old) ≡ after equality new
  pub less : work new ≤ suc (size frame) + work old

-- frames that give the same, with less to do
pub record GoesOn (equality : Equality) (next top : Frame) (old new : List Frame) : Type 0 where
  pub answer : and_also (left equality top) (after equality old) ≡ and_also (left equality next) (after equality new)
  pub less : size next + work new < size top + work old

abbrev pub Advances : Equality → Result Progress Stop → Frame → List Frame → List Frame → Type 0
Advances equality (Ok (Told equal)) top old new = and_also (left equality top) (after equality old) ≡ Ok equal
Advances equality (Ok (Going next)) top old new = GoesOn equality next top old new
Advances equality (Err (Fatally fatal)) top old new = and_also (left equality top) (after equality old) ≡ Err fatal
Advances equality (Err NoMemory) top old new = Unit {0}
