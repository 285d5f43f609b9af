-- What a program means. So far it is the texts that its `echo` statements print, in order (PHP manual, echo).
use Rattle.std.specs.Prelude.{◌≡◌, ℕ, zero, suc, ◌+◌, ◌*◌, List, [], ◌∷◌, codes, refl}
use Rattle.std.specs.List.{concat}
use Rattle.hph_wasm.specs.Outcome.{Outcome, Done, More}
use Rattle.hph_php.specs.Answers.{Stop}

-- What has been printed with at most so many units, and whether the program has ended: without a unit it has done nothing, and the first one pays for all texts.
abbrev pub php : List (List ℕ) → ℕ → Outcome Stop
php texts zero = record { output = []; end = More }
php texts (suc units) = record { output = concat texts; end = Done }

-- how many reductions the module of a program of so many nodes may take for so many units
abbrev pub cost : ℕ → ℕ → ℕ
cost nodes units = 4096 * (units + 1) * ((nodes + 1) * (nodes + 1))

prints_in_order : php (codes "3" ∷ codes "a" ∷ []) 1 ≡ record { output = codes "3a"; end = Done }
prints_in_order = refl

does_nothing_without_a_unit : php (codes "3" ∷ []) 0 ≡ record { output = []; end = More }
does_nothing_without_a_unit = refl
