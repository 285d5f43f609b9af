use Rattle.std.proofs.Common.{◌+◌, ◌∙◌, sym, drop, Result, Bool}
use Rattle.std.specs.Map.{values_of}
use Rattle.hph_php.specs.declared.fatal.Fatal.{Fatal}
use Rattle.hph_php.specs.Builtins as php
use Rattle.hph_value.specs.Shown.{value_of}
use Rattle.hph_builtin_array.specs.Sides.{shown_pairs}
use Rattle.hph_builtin_array.proofs.Steps.{test, among_next, test_stops, first_true, first_false}
use Rattle.hph_builtin_array.proofs.members.is_among.Goals as goal

pub returns-in-Err : goal.returns-in-Err
returns-in-Err c =
    let v = value_of c.args.value.now in
    let pairs = c.args.array.now.pairs in
    let first : Result Bool Fatal = test c.args.strict v (value_of c.in-Some.other.now) in
    let rest : Result Bool Fatal = php.is_among c.args.strict v (values_of (shown_pairs (drop (c.values.index + 1) pairs))) in
    let all : Result Bool Fatal = php.is_among c.args.strict v (values_of (shown_pairs pairs)) in
    test_stops c.in-Err.stop first rest all c.in-Err.ensures
    (sym (among_next c.args.strict v pairs c.values.index (c.in-Some.field-0-0.now, c.in-Some.other.now) (sym c.in-Some.ensures)) ∙ c.values.invariant)

pub returns-in-Ok-true : goal.returns-in-Ok-true
returns-in-Ok-true c =
    let v = value_of c.args.value.now in
    let pairs = c.args.array.now.pairs in
    let first : Result Bool Fatal = test c.args.strict v (value_of c.in-Some.other.now) in
    let rest : Result Bool Fatal = php.is_among c.args.strict v (values_of (shown_pairs (drop (c.values.index + 1) pairs))) in
    let all : Result Bool Fatal = php.is_among c.args.strict v (values_of (shown_pairs pairs)) in
    first_true first rest all c.in-Ok-true.field-0 c.in-Ok-true.ensures c.in-Ok-true.field-0-test
    (sym (among_next c.args.strict v pairs c.values.index (c.in-Some.field-0-0.now, c.in-Some.other.now) (sym c.in-Some.ensures)) ∙ c.values.invariant)

pub values-preserved : goal.values-preserved
values-preserved c =
    let v = value_of c.args.value.now in
    let pairs = c.args.array.now.pairs in
    let first : Result Bool Fatal = test c.args.strict v (value_of c.in-Some.other.now) in
    let rest : Result Bool Fatal = php.is_among c.args.strict v (values_of (shown_pairs (drop (c.values.index + 1) pairs))) in
    let all : Result Bool Fatal = php.is_among c.args.strict v (values_of (shown_pairs pairs)) in
    first_false first rest all c.in-Ok-false.field-0 c.in-Ok-false.ensures c.in-Ok-false.field-0-test
    (sym (among_next c.args.strict v pairs c.values.index (c.in-Some.field-0-0.now, c.in-Some.other.now) (sym c.in-Some.ensures)) ∙ c.values.invariant)
