-- What a front of bytes stands for, in a grammar of texts where each byte sequence has what it spells and a rest.
use Rattle.std.specs.Prelude.{◌≡◌, ℕ, List}

-- In front of whatever is spelled behind it, a front adds the same; and nothing else is spelled with it.
pub record Spells {A : Type 0} (Is : List ℕ → A → List ℕ → Type 0) (bs behind : List ℕ) (adds : A → A) : Type 0 where
  pub onward : (more : A) (rest : List ℕ) → Is behind more rest → Is bs (adds more) rest
  pub back : (all : A) (rest : List ℕ) → Is bs all rest → (more : A) × (all ≡ adds more) × Is behind more rest
