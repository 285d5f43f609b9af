use Rattle.std.proofs.Common.{◌≡◌, ◌++◌, ℕ, List}
use Rattle.hph_wave.specs.Known.{known_after, spelled}
use Rattle.hph_wave.proofs.known.KnownPaths.meet.Given as goal

abbrev pub invariant-loop-path : goal.invariant-loop-path
invariant-loop-path l =
    (known met : List (List ℕ)) → spelled l.initial.self-inside.paths.keys ≡ known_after known met →
    spelled l.self-inside.paths.keys ≡ known_after known (met ++ spelled l.yielded)
