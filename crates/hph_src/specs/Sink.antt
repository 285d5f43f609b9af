-- What a put to a sink leaves: this project's own. The content of a sink that doesn't tell it is None.
use Rattle.std.specs.Prelude.{◌≡◌, ℕ, List, [], ◌∷◌, ◌++◌, take, Option, Some, None, refl}
use Rattle.hph_src.specs.declared.sink.PutAnswer.{PutAnswer}
use Rattle.hph_src.specs.declared.sink.PutAnswer.TheVariants.{All, Failed, NoMemory}

-- a content with these bytes at its end
abbrev pub grown_by : Option (List ℕ) → List ℕ → Option (List ℕ)
grown_by None piece = None
grown_by (Some old) piece = Some (old ++ piece)

two_puts : grown_by (grown_by (Some (7 ∷ [])) (1 ∷ 2 ∷ [])) (3 ∷ []) ≡ Some (7 ∷ 1 ∷ 2 ∷ 3 ∷ [])
two_puts = refl

untold : grown_by None (1 ∷ 2 ∷ []) ≡ None
untold = refl

-- the content has grown by the first `count` bytes of the piece, for some count
abbrev pub GrowsByPrefix : Option (List ℕ) → Option (List ℕ) → List ℕ → Type 0
GrowsByPrefix old new piece = (count : ℕ) × (new ≡ grown_by old (take count piece))

first_two_of_three : GrowsByPrefix (Some (7 ∷ [])) (Some (7 ∷ 1 ∷ 2 ∷ [])) (1 ∷ 2 ∷ 3 ∷ [])
first_two_of_three = (2, refl)

-- after All the content has grown by the whole piece, and after any other answer by a prefix of it
abbrev pub Grows : Option (List ℕ) → Option (List ℕ) → List ℕ → PutAnswer → Type 0
Grows old new piece All = new ≡ grown_by old piece
Grows old new piece Failed = GrowsByPrefix old new piece
Grows old new piece NoMemory = GrowsByPrefix old new piece
