-- The values of hph_php that values in code are, kind by kind.
use Rattle.std.proofs.Common.{◌≡◌, ◌∙◌, ◌==◌, ℕ, ℤ, Bool, List, [], ◌∷◌, length, suc, refl, sym, ap, arith, not, Ok}
use Rattle.std.proofs.lemmas.Bool.{ne_eqb}
use Rattle.hph_array.specs.declared.key.Key.{Key}
use Rattle.hph_array.specs.Array.{array_map}
use Rattle.hph_php.specs.Values as php
use Rattle.hph_php.specs.Conversions.{is_empty, to_bool, to_int, int_of_bool}
use Rattle.hph_value.specs.declared.value.Value as code
use Rattle.hph_value.specs.declared.value.Value.TheOpen as one
use Rattle.hph_value.specs.declared.value.Value.TheVariants as variants
use Rattle.hph_value.specs.declared.value.Elements.{Elements}
use Rattle.hph_value.specs.Shown.{value_of, layer}

pub null_shown : value_of code.Null ≡ php.Null
null_shown = ap value_of (sym variants.rolls-Null) ∙ code.fold-roll-Value php.Value layer one.Null

pub bool_shown : (truth : Bool) → value_of (code.Bool truth) ≡ php.Boolean truth
bool_shown truth = ap value_of (sym (variants.rolls-Bool truth)) ∙ code.fold-roll-Value php.Value layer (one.Bool truth)

pub int_shown : (z : ℤ) → value_of (code.Int z) ≡ php.Int z
int_shown z = ap value_of (sym (variants.rolls-Int z)) ∙ code.fold-roll-Value php.Value layer (one.Int z)

pub str_shown : (bytes : List ℕ) → value_of (code.Str bytes) ≡ php.Str bytes
str_shown bytes = ap value_of (sym (variants.rolls-Str bytes)) ∙ code.fold-roll-Value php.Value layer (one.Str bytes)

pub obj_shown : (number : ℕ) → value_of (code.Obj number) ≡ php.Obj number
obj_shown number = ap value_of (sym (variants.rolls-Obj number)) ∙ code.fold-roll-Value php.Value layer (one.Obj number)

pub arr_shown : (elements : Elements code.Value) → value_of (code.Arr elements) ≡ php.array_value (array_map value_of elements.map)
arr_shown elements = ap value_of (sym (variants.rolls-Arr elements)) ∙ code.fold-roll-Value php.Value layer (one.Arr elements)

pub ruleset shown = (null_shown, bool_shown, int_shown, str_shown, obj_shown, arr_shown)

-- An array has as many pairs as its array in code.
no_pairs : (pairs : List (Key × code.Value)) → (length pairs == 0) ≡ is_empty (php.paired (array_map value_of (record { pairs = pairs; next_key = 0 })).pairs)
no_pairs [] = refl
no_pairs (p ∷ pairs) = ne_eqb (suc (length pairs)) 0 (λ e. absurd (omega (arith, e)))

pub array_is_empty : (elements : Elements code.Value) → not (length elements.map.pairs == 0) ≡ to_bool (value_of (code.Arr elements))
array_is_empty elements = ap not (no_pairs elements.map.pairs) ∙ ap to_bool (sym (arr_shown elements))

pub array_to_int : (elements : Elements code.Value) → Ok (int_of_bool (not (length elements.map.pairs == 0))) ≡ to_int (value_of (code.Arr elements))
array_to_int elements = ap (λ none. Ok (int_of_bool (not none))) (no_pairs elements.map.pairs) ∙ ap to_int (sym (arr_shown elements))
