-- How many values there are in a value, itself among them, and how deep the deepest of some values is.
use Rattle.std.specs.Prelude.{ℕ, suc, List}
use Rattle.std.specs.List.{sum_by}
use Rattle.std.specs.Map.{values_of}
use denote.Param.Weighed.{most}
use Rattle.hph_value.specs.declared.value.Value as code
use Rattle.hph_value.specs.declared.value.Value.{size-Value}
use Rattle.hph_value.specs.declared.value.Value.TheOpen as one

-- how many values are inside, where the values in it tell how many are inside them
abbrev pub inside : one.Value-F ℕ → ℕ
inside (one.Arr elements) = sum_by (λ n. suc n) (values_of elements.map.pairs)
inside _ = 0

abbrev pub weight : code.Value → ℕ
weight value = suc (code.fold-Value ℕ inside value)

abbrev pub deepest : List code.Value → ℕ
deepest values = most size-Value values
