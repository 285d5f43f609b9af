-- Answers that go on.
use Rattle.std.proofs.Common.{◌≡◌, Result, Ok, Err, refl}
use Rattle.hph_php.specs.declared.fatal.Fatal.{Fatal}
use Rattle.hph_php.specs.Conversions.{and_then, map_ok}

-- What is done to the last answer may be done at the end.
pub mapped_then : {A B C : Type 0} (f : B → C) (r : Result A Fatal) (go : A → Result B Fatal)
    → map_ok f (and_then r go) ≡ and_then r (λ a. map_ok f (go a))
mapped_then f (Ok a) go = refl
mapped_then f (Err fatal) go = refl
