-- What is printed of values line by line, with a list of the arrays that are entered. `left` is what an array still has to print
-- from a place on, and `after` what the arrays on the list have to print, the last of them first.
use Rattle.std.specs.Prelude.{◌≡◌, ◌+◌, ◌++◌, ◌<◌, ℕ, suc, pos, true, false, List, [], length, drop, Option, None, Some, Result, Ok, Err, codes}
use Rattle.std.specs.Fmt.{digits, decimal}
use Rattle.std.specs.List.{fold, sum_by}
use Rattle.std.proofs.Common.{refl}
use Rattle.hph_array.specs.declared.key.Key.TheVariants as key
use Rattle.hph_array.specs.Array.{Array}
use Rattle.hph_php.specs.declared.fatal.Fatal.TheVariants.{ObjectUse}
use Rattle.hph_php.specs.Values.{Value, Null, Boolean, Int, Str, Arr, Obj, no_pair, pair, listed}
use Rattle.hph_php.specs.VarDump.{Dump, followed_by, line, dump, dump_pairs}
use Rattle.hph_value.specs.declared.value.Value as code
use Rattle.hph_value.specs.declared.value.Stop.{Stop}
use Rattle.hph_value.specs.declared.value.Stop.TheVariants.{Fatal as Fatally, NoMemory}
use Rattle.hph_equal.specs.Frames.{pairs_shown, nodes, size_of}
use Rattle.hph_builtin_dump.specs.declared.frame.Frame.{Frame}

-- nothing is printed, and an object is met
abbrev pub nothing : Dump
nothing = record { text = []; meets_object = false }

abbrev pub an_object : Dump
an_object = record { text = []; meets_object = true }

-- ---- lines

-- the line with which a value begins, which is all of it where it is no array
abbrev pub first_line : ℕ → Value → Dump
first_line depth (Arr pairs next_key) = line depth (codes "array(" ++ decimal (length (listed pairs)) ++ codes ") {")
first_line depth Null = dump depth Null
first_line depth (Boolean truth) = dump depth (Boolean truth)
first_line depth (Int z) = dump depth (Int z)
first_line depth (Str bytes) = dump depth (Str bytes)
first_line depth (Obj number) = dump depth (Obj number)

-- what follows that line
abbrev pub other_lines : ℕ → Value → Dump
other_lines depth (Arr pairs next_key) = followed_by (dump_pairs (depth + 2) pairs) (line depth (codes "}"))
other_lines depth Null = nothing
other_lines depth (Boolean truth) = nothing
other_lines depth (Int z) = nothing
other_lines depth (Str bytes) = nothing
other_lines depth (Obj number) = nothing

-- [null]
lines_of_one : (first_line 0 (Arr (pair (key.Int (pos 0)) Null no_pair) 1) ≡ record { text = codes "array(1) {\n"; meets_object = false })
    × (other_lines 0 (Arr (pair (key.Int (pos 0)) Null no_pair) 1) ≡ record { text = codes "  [0]=>\n  NULL\n}\n"; meets_object = false })
unfolding digits
lines_of_one = (refl, refl)

-- ---- what is left

abbrev pub left_of : Array code.Value → ℕ → ℕ → Dump
left_of x depth at = followed_by (dump_pairs (depth + 2) (pairs_shown (drop at x.pairs))) (line depth (codes "}"))

abbrev pub left : Frame → Dump
left frame = left_of frame.pairs.now frame.depth frame.at

abbrev pub after : List Frame → Dump
after frames = fold (λ rest frame. followed_by (left frame) rest) nothing frames

-- how many lines without keys there are left
abbrev pub size : Frame → ℕ
size frame = suc (size_of frame.pairs.now frame.at)

abbrev pub work : List Frame → ℕ
work frames = sum_by size frames

-- ---- contracts

-- Behind the old bytes one dump was to be printed, and behind the new ones the other: all is the same in the end.
pub record Goes (before rest : Dump) (old new : List ℕ) : Type 0 where
  pub text : old ++ before.text ≡ new ++ rest.text
  pub meets : before.meets_object ≡ rest.meets_object

abbrev pub Says : Result (Unit {0}) Stop → Dump → List ℕ → List ℕ → Type 0
Says (Ok u) dump old new = Goes dump nothing old new
Says (Err (Fatally kind)) dump old new = Goes dump an_object old new × (kind ≡ ObjectUse)
Says (Err NoMemory) dump old new = Unit {0}

pub record IsEntered (frame : Frame) (depth : ℕ) (value : Value) (old new : List ℕ) : Type 0 where
  pub goes : Goes (dump depth value) (left frame) old new
  pub smaller : size frame < nodes value

abbrev pub Enters : Result (Option Frame) Stop → ℕ → Value → List ℕ → List ℕ → Type 0
Enters (Ok None) depth value old new = Goes (dump depth value) nothing old new
Enters (Ok (Some frame)) depth value old new = IsEntered frame depth value old new
Enters (Err (Fatally kind)) depth value old new = Goes (dump depth value) an_object old new × (kind ≡ ObjectUse)
Enters (Err NoMemory) depth value old new = Unit {0}

pub record GoesOn (next top : Frame) (before behind : List Frame) (old new : List ℕ) : Type 0 where
  pub goes : Goes (followed_by (left top) (after before)) (followed_by (left next) (after behind)) old new
  pub less : size next + work behind < size top + work before

abbrev pub Advances : Result (Option Frame) Stop → Frame → List Frame → List Frame → List ℕ → List ℕ → Type 0
Advances (Ok None) top before behind old new = Goes (followed_by (left top) (after before)) nothing old new
Advances (Ok (Some next)) top before behind old new = GoesOn next top before behind old new
Advances (Err (Fatally kind)) top before behind old new = Goes (followed_by (left top) (after before)) an_object old new × (kind ≡ ObjectUse)
Advances (Err NoMemory) top before behind old new = Unit {0}
