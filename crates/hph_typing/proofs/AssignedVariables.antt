-- Which variables are assigned behind small pieces of code, one example a rule. Everything that a read isn't sure of is told by the
-- place of the read. A function of the variables x and y is around each piece.
use Rattle.std.specs.Prelude.{◌≡◌, ℕ, ◌==◌, true, false, List, [], ◌∷◌, map, Some, codes}
use Rattle.std.proofs.Common.{refl}
use Rattle.hph_ast.specs.declared.operator.Binary.TheVariants as b
use Rattle.hph_ast.specs.declared.operator.Assignment.TheVariants as a
use Rattle.hph_php.specs.State.{Name}
use Rattle.hph_typing.specs.Cells.{Appearance}
use Rattle.hph_typing.specs.Flows.{Assigned, Flow, pass, changes, first, all, adds, takes_away, reads}
use Rattle.hph_typing.specs.Assignment.{Uses, Does, valued, right, assigns, arguments, changes_first, tests, simply, sequence, branches, loop, cases}

-- ---- small pieces

abbrev x : Name
x = codes "x"

abbrev y : Name
y = codes "y"

abbrev nothing : Assigned
nothing = record { names = []; others = false }

abbrev everything : Assigned
everything = record { names = x ∷ y ∷ []; others = true }

-- the places of reads that aren't sure, where nothing is assigned before
abbrev unsure_in : Flow → List ℕ
unsure_in f = map (λ (r : Appearance). r.place) (f nothing).unsure

-- a read of $x at place 7
abbrev read : Flow
read = reads 7 x

-- `$x` at a place, as a part of an expression
abbrev variable : ℕ → Name → Uses
variable place name = record { value = reads place name; keys = pass; base = reads place name; variable = Some name }

abbrev leaves : Flow
leaves = changes (λ s. everything)

abbrev returns : Does
returns = simply leaves

abbrev goes_on : Does
goes_on = record { flow = leaves; unsets = []; continues = true }

abbrev unsets : Name → Does
unsets name = record { flow = takes_away (name ∷ []); unsets = name ∷ []; continues = false }

abbrev sets : Name → Does
sets name = simply (adds name)

-- ---- order of evaluation

read_before : unsure_in (all (read ∷ adds x ∷ [])) ≡ 7 ∷ []
read_before = refl

read_behind : unsure_in (all (adds x ∷ read ∷ [])) ≡ []
read_behind = refl

-- `$x = $x`: the value is evaluated before it is assigned
value_before_target : unsure_in (assigns a.Set (variable 1 x) (reads 7 x)) ≡ 7 ∷ []
value_before_target = refl

-- `$x += $x = 1` reads $x behind the value
compound_reads_behind_value : unsure_in (assigns a.Add (variable 1 x) (adds x)) ≡ []
compound_reads_behind_value = refl

-- `$x ??= $x = 1` reads $x before the value
coalesce_reads_before_value : unsure_in (assigns a.Coalesce (variable 1 x) (adds x)) ≡ 1 ∷ []
coalesce_reads_before_value = refl

-- what the value of `??=` assigns is dropped
coalesce_drops_value : unsure_in (first (assigns a.Coalesce (valued pass) (adds x)) read) ≡ 7 ∷ []
coalesce_drops_value = refl

-- ---- operators

and_drops_right : unsure_in (first (right b.BooleanAnd (adds x)) read) ≡ 7 ∷ []
and_drops_right = refl

coalesce_operator_drops_right : unsure_in (first (right b.Coalesce (adds x)) read) ≡ 7 ∷ []
coalesce_operator_drops_right = refl

plus_keeps_right : unsure_in (first (right b.Add (adds x)) read) ≡ []
plus_keeps_right = refl

-- inside the right side it is assigned
and_keeps_inside : unsure_in (right b.BooleanAnd (first (adds x) read)) ≡ []
and_keeps_inside = refl

isset_keeps_first_alone : unsure_in (first (tests (valued (adds x) ∷ valued (adds y) ∷ [])) (all (reads 7 x ∷ reads 8 y ∷ []))) ≡ 8 ∷ []
isset_keeps_first_alone = refl

-- ---- choices

both_branches : unsure_in (first (branches ((pass, sets x) ∷ []) (sets x)) read) ≡ []
both_branches = refl

one_branch : unsure_in (first (branches ((pass, sets x) ∷ []) (simply pass)) read) ≡ 7 ∷ []
one_branch = refl

-- a branch that returns assigns everything
branch_that_returns : unsure_in (first (branches ((pass, sets x) ∷ []) returns) read) ≡ []
branch_that_returns = refl

-- an unset in a branch that returns takes its variable away all the same
unset_before_return : unsure_in (first (adds x) (first (branches ((pass, sequence (unsets x ∷ returns ∷ [])) ∷ []) (simply pass)) read)) ≡ 7 ∷ []
unset_before_return = refl

test_assigns_for_all : unsure_in (first (branches ((adds x, simply pass) ∷ []) (simply pass)) read) ≡ []
test_assigns_for_all = refl

-- ---- loops

body_may_not_run : unsure_in (first (loop pass (sets x) pass) read) ≡ 7 ∷ []
body_may_not_run = refl

first_test_runs : unsure_in (first (loop (adds x) (simply pass) pass) read) ≡ []
first_test_runs = refl

-- an unset in a loop is seen by its own body, which may come behind it
unset_in_a_loop : unsure_in (first (adds x) (loop pass (sequence (simply read ∷ unsets x ∷ [])) pass)) ≡ 7 ∷ []
unset_in_a_loop = refl

unset_behind_a_loop : unsure_in (first (adds x) (first (loop pass (unsets x) pass) (reads 8 x))) ≡ 8 ∷ []
unset_behind_a_loop = refl

-- the step of a `for` sees what its body assigns
step_behind_body : unsure_in (loop pass (sets x) read) ≡ []
step_behind_body = refl

-- unless a `continue` may skip that
step_behind_continue : unsure_in (loop pass (sequence (simply pass ∷ record (sets x) { continues = true } ∷ [])) read) ≡ 7 ∷ []
step_behind_continue = refl

-- ---- switch, arguments

-- a case doesn't see what another assigns, and neither does what follows
each_case_alone : unsure_in (first (cases ((pass, sets x) ∷ (pass, simply read) ∷ [])) (reads 8 x)) ≡ 7 ∷ 8 ∷ []
each_case_alone = refl

by_reference_is_no_read : unsure_in (arguments (λ position. position == 0) 0 (variable 7 x ∷ variable 8 x ∷ [])) ≡ 8 ∷ []
by_reference_is_no_read = refl

-- `array_push($x, $x = [])` reads $x behind the others
push_reads_last : unsure_in (changes_first (variable 7 x ∷ valued (adds x) ∷ [])) ≡ []
push_reads_last = refl
