-- Names that were met, and how two names are compared.
use Rattle.std.specs.Prelude.{◌≡◌, ℕ, Bool, Option, List, map, bytes_eq, IfSome}
use Rattle.std.specs.List.{list_any}
use Rattle.std.specs.Global.{Vec}
use Rattle.hph_ast.specs.Bytes.{lower}
use Rattle.hph_names.specs.declared.met.Case.{Case}
use Rattle.hph_names.specs.declared.met.Case.TheVariants.{Kept, Ignored}

-- a name as it is compared: where its case is ignored, in lower case
abbrev pub folded : Case → List ℕ → List ℕ
folded Kept name = name
folded Ignored name = map lower name

-- whether two names are the same
abbrev pub is_same : Case → List ℕ → List ℕ → Bool
is_same case left right = bytes_eq (folded case left) (folded case right)

-- the bytes of names
abbrev pub spelled : List (Vec ℕ) → List (List ℕ)
spelled names = map (λ name. name.items) names

-- these names were met, and no others; where memory ran out, nothing is said
abbrev pub Knows : Case × Option (List (List ℕ)) → List (List ℕ) → Type 0
Knows met names = IfSome met.1 (λ kept. (name : List ℕ) → list_any (bytes_eq (folded met.0 name)) kept ≡ list_any (is_same met.0 name) names)
