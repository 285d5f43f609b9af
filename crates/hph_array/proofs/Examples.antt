-- Arrays worked by the definitions. The comments are PHP.
use Rattle.std.proofs.Common.{◌≡◌, ◌^◌, ℕ, false, [], ◌∷◌, None, Some, refl, codes, pos, negsuc}
use Rattle.hph_array.specs.declared.key.Key.TheVariants.{Int, Str}
use Rattle.hph_array.specs.Key.{key_eq}
use Rattle.hph_array.specs.Array.{Array, set, append, unset, last, pop}

-- $a = [];
abbrev empty : Array ℕ
empty = record { pairs = []; next_key = 0 }

-- $a = [5 => 1, 'k' => 2];
abbrev two : Array ℕ
two = set (set empty (Int (pos 5)) 1) (Str (codes "k")) 2

-- The next key is one above the greatest int key.
next_after_five : two.next_key ≡ 6
next_after_five = refl

-- $a[5] = 3; keeps the place of the key.
set_in_place : (set two (Int (pos 5)) 3).pairs ≡ (Int (pos 5), 3) ∷ (Str (codes "k"), 2) ∷ []
set_in_place = refl

-- $a[] = 3; puts the value at 6.
append_last : (append two 3).pairs ≡ (Int (pos 5), 1) ∷ (Str (codes "k"), 2) ∷ (Int (pos 6), 3) ∷ []
append_last = refl

-- A negative key leaves the next key at 0.
negative_key : (set empty (Int (negsuc 6)) 1).next_key ≡ 0
negative_key = refl

-- unset($a[5]); leaves the next key at 6.
unset_keeps_next : unset two (Int (pos 5)) ≡ record { pairs = (Str (codes "k"), 2) ∷ []; next_key = 6 }
unset_keeps_next = refl

-- array_pop($a); takes 'k', and the next key stays.
pop_a_string : pop two ≡ record { pairs = (Int (pos 5), 1) ∷ []; next_key = 6 }
pop_a_string = refl

-- Popped again, the next key falls to 5.
pop_an_int : pop (pop two) ≡ record { pairs = []; next_key = 5 }
pop_an_int = refl

-- An int key that isn't one below the next key leaves it.
pop_a_lower_int : (pop (set two (Int (pos 2)) 4)).next_key ≡ 6
pop_a_lower_int = refl

-- The last pair of an array, and of none.
last_pair : last two.pairs ≡ Some (Str (codes "k"), 2)
last_pair = refl

-- Without pairs there is no last one.
last_of_none : last {V = ℕ} [] ≡ None
last_of_none = refl

-- '5' and 5 are two keys here: which strings are ints is for those that make keys.
string_and_int : key_eq (Str (codes "5")) (Int (pos 5)) ≡ false
string_and_int = refl

-- The greatest int leaves no next key.
greatest_int : (set empty (Int (pos 9223372036854775807)) 1).next_key ≡ 2 ^ 63
greatest_int = refl
