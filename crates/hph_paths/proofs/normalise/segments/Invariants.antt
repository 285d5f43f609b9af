use Rattle.std.proofs.Common.{◌≡◌, [], reverse, codes, length}
use denote.Text.{Utf8}
use denote.Shadow.{shadow}
use Rattle.hph_php.specs.Includes.{kept}
use Rattle.hph_php.specs.StringFunctions.{explode}
use Rattle.hph_paths.specs.Segments.{texts}
use Rattle.hph_paths.proofs.normalise.segments.Given as goal

-- what is left gives the rest of what the whole path gives
abbrev pub invariant-loop-segment : goal.invariant-loop-segment
invariant-loop-segment l = shadow (Utf8 l.rest)
    × (kept l.rooted (reverse (texts l.before.items)) (explode (codes "/") l.rest) ≡ kept l.rooted [] (explode (codes "/") l.path))

abbrev pub decreases-loop-segment : goal.decreases-loop-segment
decreases-loop-segment l = length l.rest
