use Rattle.std.proofs.Common.{sym, ◌∙◌, ◌+◌, ◌++◌, drop, List, ℕ, Result}
use Rattle.std.specs.Map.{values_of}
use Rattle.hph_php.specs.declared.fatal.Fatal.{Fatal}
use Rattle.hph_php.specs.Builtins.{texts_of}
use Rattle.hph_php.specs.Conversions.{map_ok, to_text}
use Rattle.hph_php.specs.StringFunctions.{implode}
use Rattle.hph_value.specs.Shown.{value_of}
use Rattle.hph_builtin_array.specs.Sides.{shown_pairs, lead, joined_behind}
use Rattle.hph_builtin_array.proofs.Steps.{text_next, step_goes, step_stops}
use Rattle.hph_builtin_array.proofs.texts.imploded.Goals as goal

pub returns-in-Err : goal.returns-in-Err
returns-in-Err c =
    let pairs = c.args.array.now.pairs in
    let separator : List ℕ = c.args.separator.now in
    let given : Result (List ℕ) Fatal = map_ok (λ more. (c.values.text.items ++ lead separator c.values.index) ++ more) (to_text (value_of c.in-Some.value.now)) in
    let go : List ℕ → Result (List ℕ) Fatal = λ all. joined_behind separator all (c.values.index + 1) (values_of (shown_pairs (drop (c.values.index + 1) pairs))) in
    let all : Result (List ℕ) Fatal = map_ok (λ texts. implode separator texts) (texts_of (values_of (shown_pairs pairs))) in
    step_stops c.in-Err.stop given go all c.in-Err.ensures
    (sym (text_next separator c.values.text.items pairs c.values.index (c.in-Some.field-0-0.now, c.in-Some.value.now) (sym c.in-Some.ensures)) ∙ c.values.invariant)

pub values-preserved : goal.values-preserved
values-preserved c =
    let pairs = c.args.array.now.pairs in
    let separator : List ℕ = c.args.separator.now in
    let given : Result (List ℕ) Fatal = map_ok (λ more. (c.values.text.items ++ lead separator c.values.index) ++ more) (to_text (value_of c.in-Some.value.now)) in
    let go : List ℕ → Result (List ℕ) Fatal = λ all. joined_behind separator all (c.values.index + 1) (values_of (shown_pairs (drop (c.values.index + 1) pairs))) in
    let all : Result (List ℕ) Fatal = map_ok (λ texts. implode separator texts) (texts_of (values_of (shown_pairs pairs))) in
    step_goes given c.push_next.new.text.items go all c.in-Ok.ensures
    (sym (text_next separator c.values.text.items pairs c.values.index (c.in-Some.field-0-0.now, c.in-Some.value.now) (sym c.in-Some.ensures)) ∙ c.values.invariant)
