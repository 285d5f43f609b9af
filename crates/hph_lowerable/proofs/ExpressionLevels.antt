-- One level of expressions: how many nodes a node has by those of its parts, and its facts by theirs; and what tokens that spell its
-- parts tell of it.
use Rattle.std.specs.Prelude.{◌≡◌, ℕ, suc, Bool, List}
use Rattle.std.proofs.Common.{sym, subst}
use Rattle.hph_ast.specs.declared.token.At.{At}
use Rattle.hph_ast.specs.declared.token.Token.{Token}
use Rattle.hph_ast.specs.declared.operator.Binary.{Binary}
use Rattle.hph_ast.specs.declared.operator.Prefix.{Prefix}
use Rattle.hph_ast.specs.declared.operator.Assignment.{Assignment}
use Rattle.hph_ast.specs.declared.expr.Update.{Update}
use Rattle.hph_ast.specs.declared.expr.ArrayForm.{ArrayForm}
use Rattle.hph_ast.specs.declared.expr.Expr.{Expr, roll-Expr}
use Rattle.hph_ast.specs.declared.expr.Expr.TheVariants as e
use Rattle.hph_ast.specs.declared.expr.ClassReference.{ClassReference, roll-ClassReference}
use Rattle.hph_ast.specs.declared.expr.ClassReference.TheVariants as c
use Rattle.hph_ast.specs.declared.expr.Item.{Item, roll-Item}
use Rattle.hph_ast.specs.declared.expr.Item.TheVariants as item
use Rattle.hph_ast.specs.declared.expr.MemberName.{MemberName, roll-MemberName}
use Rattle.hph_ast.specs.declared.expr.MemberName.TheVariants as name
use Rattle.hph_ast.specs.declared.expr.Step.{Step, roll-Step}
use Rattle.hph_ast.specs.declared.expr.Step.TheVariants as step
use Rattle.hph_ast.specs.declared.expr.StringPart.{StringPart, roll-StringPart}
use Rattle.hph_ast.specs.declared.expr.StringPart.TheVariants as part
use Rattle.hph_ast.specs.declared.expr.ClassReference.TheOpen.{ClassReference-F, Expr-F, Item-F, MemberName-F, Step-F, StringPart-F}
use Rattle.hph_ast.specs.declared.expr.ClassReference.TheFolds.{fold-ClassReference, fold-Item, fold-MemberName, fold-Step, fold-StringPart, fold-roll-ClassReference, fold-roll-Expr, fold-roll-Item, fold-roll-MemberName, fold-roll-Step, fold-roll-StringPart, map-ClassReference, map-Expr, map-Item, map-MemberName, map-Step, map-StringPart}
use Rattle.hph_ast.specs.Layers.{ExprLayer, ClassLayer, ItemLayer, MemberLayer, StepLayer, PartLayer}
use Rattle.hph_php.specs.Cost.{nodes, item_nodes, class_nodes_by, nodes_by, item_nodes_by, member_nodes_by, step_nodes_by, part_nodes_by}
use Rattle.hph_lowerable.specs.Facts.{Facts, StepFacts, facts, facts_by, class_fits_by, item_fits_by, name_fits_by, step_facts_by, part_fits_by}
use Rattle.hph_lowerable.proofs.Chains.{Chain}

unfoldable pub class_nodes : ClassReference → ℕ
class_nodes = fold-ClassReference ℕ ℕ ℕ ℕ ℕ ℕ class_nodes_by nodes_by item_nodes_by member_nodes_by step_nodes_by part_nodes_by

unfoldable pub name_nodes : MemberName → ℕ
name_nodes = fold-MemberName ℕ ℕ ℕ ℕ ℕ ℕ class_nodes_by nodes_by item_nodes_by member_nodes_by step_nodes_by part_nodes_by

unfoldable pub step_nodes : Step → ℕ
step_nodes = fold-Step ℕ ℕ ℕ ℕ ℕ ℕ class_nodes_by nodes_by item_nodes_by member_nodes_by step_nodes_by part_nodes_by

unfoldable pub part_nodes : StringPart → ℕ
part_nodes = fold-StringPart ℕ ℕ ℕ ℕ ℕ ℕ class_nodes_by nodes_by item_nodes_by member_nodes_by step_nodes_by part_nodes_by

unfoldable pub class_fits : ClassReference → Bool
class_fits = fold-ClassReference Bool Facts Bool Bool StepFacts Bool class_fits_by facts_by item_fits_by name_fits_by step_facts_by part_fits_by

unfoldable pub item_fits : Item → Bool
item_fits = fold-Item Bool Facts Bool Bool StepFacts Bool class_fits_by facts_by item_fits_by name_fits_by step_facts_by part_fits_by

unfoldable pub name_fits : MemberName → Bool
name_fits = fold-MemberName Bool Facts Bool Bool StepFacts Bool class_fits_by facts_by item_fits_by name_fits_by step_facts_by part_fits_by

unfoldable pub step_facts : Step → StepFacts
step_facts = fold-Step Bool Facts Bool Bool StepFacts Bool class_fits_by facts_by item_fits_by name_fits_by step_facts_by part_fits_by

unfoldable pub part_fits : StringPart → Bool
part_fits = fold-StringPart Bool Facts Bool Bool StepFacts Bool class_fits_by facts_by item_fits_by name_fits_by step_facts_by part_fits_by

abbrev pub nodes_at : ExprLayer → ℕ
nodes_at d = nodes_by (map-Expr ClassReference Expr Item MemberName Step StringPart ℕ ℕ ℕ ℕ ℕ ℕ class_nodes nodes item_nodes name_nodes step_nodes part_nodes d)

abbrev pub facts_at : ExprLayer → Facts
facts_at d = facts_by (map-Expr ClassReference Expr Item MemberName Step StringPart Bool Facts Bool Bool StepFacts Bool class_fits facts item_fits name_fits step_facts part_fits d)

pub nodes_rolled : (d : ExprLayer) → nodes (roll-Expr d) ≡ nodes_at d
unfolding class_nodes nodes item_nodes name_nodes step_nodes part_nodes
nodes_rolled d = fold-roll-Expr ℕ ℕ ℕ ℕ ℕ ℕ class_nodes_by nodes_by item_nodes_by member_nodes_by step_nodes_by part_nodes_by d

pub facts_rolled : (d : ExprLayer) → facts (roll-Expr d) ≡ facts_at d
unfolding class_fits facts item_fits name_fits step_facts part_fits
facts_rolled d = fold-roll-Expr Bool Facts Bool Bool StepFacts Bool class_fits_by facts_by item_fits_by name_fits_by step_facts_by part_fits_by d

abbrev pub class_nodes_at : ClassLayer → ℕ
class_nodes_at d = class_nodes_by (map-ClassReference ClassReference Expr Item MemberName Step StringPart ℕ ℕ ℕ ℕ ℕ ℕ class_nodes nodes item_nodes name_nodes step_nodes part_nodes d)

abbrev pub class_fits_at : ClassLayer → Bool
class_fits_at d = class_fits_by (map-ClassReference ClassReference Expr Item MemberName Step StringPart Bool Facts Bool Bool StepFacts Bool class_fits facts item_fits name_fits step_facts part_fits d)

pub class_nodes_rolled : (d : ClassLayer) → class_nodes (roll-ClassReference d) ≡ class_nodes_at d
unfolding class_nodes nodes item_nodes name_nodes step_nodes part_nodes
class_nodes_rolled d = fold-roll-ClassReference ℕ ℕ ℕ ℕ ℕ ℕ class_nodes_by nodes_by item_nodes_by member_nodes_by step_nodes_by part_nodes_by d

pub class_fits_rolled : (d : ClassLayer) → class_fits (roll-ClassReference d) ≡ class_fits_at d
unfolding class_fits facts item_fits name_fits step_facts part_fits
class_fits_rolled d = fold-roll-ClassReference Bool Facts Bool Bool StepFacts Bool class_fits_by facts_by item_fits_by name_fits_by step_facts_by part_fits_by d

abbrev pub item_nodes_at : ItemLayer → ℕ
item_nodes_at d = item_nodes_by (map-Item ClassReference Expr Item MemberName Step StringPart ℕ ℕ ℕ ℕ ℕ ℕ class_nodes nodes item_nodes name_nodes step_nodes part_nodes d)

abbrev pub item_fits_at : ItemLayer → Bool
item_fits_at d = item_fits_by (map-Item ClassReference Expr Item MemberName Step StringPart Bool Facts Bool Bool StepFacts Bool class_fits facts item_fits name_fits step_facts part_fits d)

pub item_nodes_rolled : (d : ItemLayer) → item_nodes (roll-Item d) ≡ item_nodes_at d
unfolding class_nodes nodes item_nodes name_nodes step_nodes part_nodes
item_nodes_rolled d = fold-roll-Item ℕ ℕ ℕ ℕ ℕ ℕ class_nodes_by nodes_by item_nodes_by member_nodes_by step_nodes_by part_nodes_by d

pub item_fits_rolled : (d : ItemLayer) → item_fits (roll-Item d) ≡ item_fits_at d
unfolding class_fits facts item_fits name_fits step_facts part_fits
item_fits_rolled d = fold-roll-Item Bool Facts Bool Bool StepFacts Bool class_fits_by facts_by item_fits_by name_fits_by step_facts_by part_fits_by d

abbrev pub name_nodes_at : MemberLayer → ℕ
name_nodes_at d = member_nodes_by (map-MemberName ClassReference Expr Item MemberName Step StringPart ℕ ℕ ℕ ℕ ℕ ℕ class_nodes nodes item_nodes name_nodes step_nodes part_nodes d)

abbrev pub name_fits_at : MemberLayer → Bool
name_fits_at d = name_fits_by (map-MemberName ClassReference Expr Item MemberName Step StringPart Bool Facts Bool Bool StepFacts Bool class_fits facts item_fits name_fits step_facts part_fits d)

pub name_nodes_rolled : (d : MemberLayer) → name_nodes (roll-MemberName d) ≡ name_nodes_at d
unfolding class_nodes nodes item_nodes name_nodes step_nodes part_nodes
name_nodes_rolled d = fold-roll-MemberName ℕ ℕ ℕ ℕ ℕ ℕ class_nodes_by nodes_by item_nodes_by member_nodes_by step_nodes_by part_nodes_by d

pub name_fits_rolled : (d : MemberLayer) → name_fits (roll-MemberName d) ≡ name_fits_at d
unfolding class_fits facts item_fits name_fits step_facts part_fits
name_fits_rolled d = fold-roll-MemberName Bool Facts Bool Bool StepFacts Bool class_fits_by facts_by item_fits_by name_fits_by step_facts_by part_fits_by d

abbrev pub step_nodes_at : StepLayer → ℕ
step_nodes_at d = step_nodes_by (map-Step ClassReference Expr Item MemberName Step StringPart ℕ ℕ ℕ ℕ ℕ ℕ class_nodes nodes item_nodes name_nodes step_nodes part_nodes d)

abbrev pub step_facts_at : StepLayer → StepFacts
step_facts_at d = step_facts_by (map-Step ClassReference Expr Item MemberName Step StringPart Bool Facts Bool Bool StepFacts Bool class_fits facts item_fits name_fits step_facts part_fits d)

pub step_nodes_rolled : (d : StepLayer) → step_nodes (roll-Step d) ≡ step_nodes_at d
unfolding class_nodes nodes item_nodes name_nodes step_nodes part_nodes
step_nodes_rolled d = fold-roll-Step ℕ ℕ ℕ ℕ ℕ ℕ class_nodes_by nodes_by item_nodes_by member_nodes_by step_nodes_by part_nodes_by d

pub step_facts_rolled : (d : StepLayer) → step_facts (roll-Step d) ≡ step_facts_at d
unfolding class_fits facts item_fits name_fits step_facts part_fits
step_facts_rolled d = fold-roll-Step Bool Facts Bool Bool StepFacts Bool class_fits_by facts_by item_fits_by name_fits_by step_facts_by part_fits_by d

abbrev pub part_nodes_at : PartLayer → ℕ
part_nodes_at d = part_nodes_by (map-StringPart ClassReference Expr Item MemberName Step StringPart ℕ ℕ ℕ ℕ ℕ ℕ class_nodes nodes item_nodes name_nodes step_nodes part_nodes d)

abbrev pub part_fits_at : PartLayer → Bool
part_fits_at d = part_fits_by (map-StringPart ClassReference Expr Item MemberName Step StringPart Bool Facts Bool Bool StepFacts Bool class_fits facts item_fits name_fits step_facts part_fits d)

pub part_nodes_rolled : (d : PartLayer) → part_nodes (roll-StringPart d) ≡ part_nodes_at d
unfolding class_nodes nodes item_nodes name_nodes step_nodes part_nodes
part_nodes_rolled d = fold-roll-StringPart ℕ ℕ ℕ ℕ ℕ ℕ class_nodes_by nodes_by item_nodes_by member_nodes_by step_nodes_by part_nodes_by d

pub part_fits_rolled : (d : PartLayer) → part_fits (roll-StringPart d) ≡ part_fits_at d
unfolding class_fits facts item_fits name_fits step_facts part_fits
part_fits_rolled d = fold-roll-StringPart Bool Facts Bool Bool StepFacts Bool class_fits_by facts_by item_fits_by name_fits_by step_facts_by part_fits_by d

-- ---- tokens from which a tree is read, with those behind it; those of a class or a step pay for one node more

pub record Spelt (ts : List Token) (x : Expr) (rest : List Token) : Type 0 where
  pub chain : Chain ts (nodes x) (facts x).fits rest

abbrev pub SpeltAt : List Token → ExprLayer → List Token → Type 0
SpeltAt ts d rest = Chain ts (nodes_at d) (facts_at d).fits rest

pub nodes_level : {ts rest : List Token} (d : ExprLayer) → SpeltAt ts d rest → Spelt ts (roll-Expr d) rest
nodes_level {ts} {rest} d c = record {
  chain = subst (λ f. Chain ts (nodes (roll-Expr d)) f.fits rest) (sym (facts_rolled d))
      (subst (λ n. Chain ts n (facts_at d).fits rest) (sym (nodes_rolled d)) c);
}

pub record SpeltClass (ts : List Token) (x : ClassReference) (rest : List Token) : Type 0 where
  pub chain : Chain ts (suc (class_nodes x)) (class_fits x) rest

abbrev pub SpeltClassAt : List Token → ClassLayer → List Token → Type 0
SpeltClassAt ts d rest = Chain ts (suc (class_nodes_at d)) (class_fits_at d) rest

pub class_nodes_level : {ts rest : List Token} (d : ClassLayer) → SpeltClassAt ts d rest → SpeltClass ts (roll-ClassReference d) rest
class_nodes_level {ts} {rest} d c = record {
  chain = subst (λ f. Chain ts (suc (class_nodes (roll-ClassReference d))) f rest) (sym (class_fits_rolled d))
      (subst (λ n. Chain ts (suc n) (class_fits_at d) rest) (sym (class_nodes_rolled d)) c);
}

pub record SpeltItem (ts : List Token) (x : Item) (rest : List Token) : Type 0 where
  pub chain : Chain ts (item_nodes x) (item_fits x) rest

abbrev pub SpeltItemAt : List Token → ItemLayer → List Token → Type 0
SpeltItemAt ts d rest = Chain ts (item_nodes_at d) (item_fits_at d) rest

pub item_nodes_level : {ts rest : List Token} (d : ItemLayer) → SpeltItemAt ts d rest → SpeltItem ts (roll-Item d) rest
item_nodes_level {ts} {rest} d c = record {
  chain = subst (λ f. Chain ts (item_nodes (roll-Item d)) f rest) (sym (item_fits_rolled d))
      (subst (λ n. Chain ts n (item_fits_at d) rest) (sym (item_nodes_rolled d)) c);
}

pub record SpeltName (ts : List Token) (x : MemberName) (rest : List Token) : Type 0 where
  pub chain : Chain ts (name_nodes x) (name_fits x) rest

abbrev pub SpeltNameAt : List Token → MemberLayer → List Token → Type 0
SpeltNameAt ts d rest = Chain ts (name_nodes_at d) (name_fits_at d) rest

pub name_nodes_level : {ts rest : List Token} (d : MemberLayer) → SpeltNameAt ts d rest → SpeltName ts (roll-MemberName d) rest
name_nodes_level {ts} {rest} d c = record {
  chain = subst (λ f. Chain ts (name_nodes (roll-MemberName d)) f rest) (sym (name_fits_rolled d))
      (subst (λ n. Chain ts n (name_fits_at d) rest) (sym (name_nodes_rolled d)) c);
}

pub record SpeltStep (ts : List Token) (x : Step) (rest : List Token) : Type 0 where
  pub chain : Chain ts (suc (step_nodes x)) (step_facts x).fits rest

abbrev pub SpeltStepAt : List Token → StepLayer → List Token → Type 0
SpeltStepAt ts d rest = Chain ts (suc (step_nodes_at d)) (step_facts_at d).fits rest

pub step_nodes_level : {ts rest : List Token} (d : StepLayer) → SpeltStepAt ts d rest → SpeltStep ts (roll-Step d) rest
step_nodes_level {ts} {rest} d c = record {
  chain = subst (λ f. Chain ts (suc (step_nodes (roll-Step d))) f.fits rest) (sym (step_facts_rolled d))
      (subst (λ n. Chain ts (suc n) (step_facts_at d).fits rest) (sym (step_nodes_rolled d)) c);
}

pub record SpeltPart (ts : List Token) (x : StringPart) (rest : List Token) : Type 0 where
  pub chain : Chain ts (part_nodes x) (part_fits x) rest

abbrev pub SpeltPartAt : List Token → PartLayer → List Token → Type 0
SpeltPartAt ts d rest = Chain ts (part_nodes_at d) (part_fits_at d) rest

pub part_nodes_level : {ts rest : List Token} (d : PartLayer) → SpeltPartAt ts d rest → SpeltPart ts (roll-StringPart d) rest
part_nodes_level {ts} {rest} d c = record {
  chain = subst (λ f. Chain ts (part_nodes (roll-StringPart d)) f rest) (sym (part_fits_rolled d))
      (subst (λ n. Chain ts n (part_fits_at d) rest) (sym (part_nodes_rolled d)) c);
}

pub of_int : {ts rest : List Token} {at : At} {k : ℕ} → SpeltAt ts (Expr-F.Int at k) rest → Spelt ts (e.Int at k) rest
of_int {ts} {rest} {at} {k} h = subst (λ x. Spelt ts x rest) (e.rolls-Int at k) (nodes_level (Expr-F.Int at k) h)

pub of_text : {ts rest : List Token} {at : At} {bytes : List ℕ} → SpeltAt ts (Expr-F.Text at bytes) rest → Spelt ts (e.Text at bytes) rest
of_text {ts} {rest} {at} {bytes} h = subst (λ x. Spelt ts x rest) (e.rolls-Text at bytes) (nodes_level (Expr-F.Text at bytes) h)

pub of_interpolated : {ts rest : List Token} {at : At} (parts : List StringPart) → SpeltAt ts (Expr-F.Interpolated at parts) rest → Spelt ts (e.Interpolated at parts) rest
of_interpolated {ts} {rest} {at} parts h = subst (λ x. Spelt ts x rest) (e.rolls-Interpolated at parts) (nodes_level (Expr-F.Interpolated at parts) h)

pub of_variable : {ts rest : List Token} {at : At} {called : List ℕ} → SpeltAt ts (Expr-F.Variable at called) rest → Spelt ts (e.Variable at called) rest
of_variable {ts} {rest} {at} {called} h = subst (λ x. Spelt ts x rest) (e.rolls-Variable at called) (nodes_level (Expr-F.Variable at called) h)

pub of_constant : {ts rest : List Token} {at : At} {called : List ℕ} → SpeltAt ts (Expr-F.Constant at called) rest → Spelt ts (e.Constant at called) rest
of_constant {ts} {rest} {at} {called} h = subst (λ x. Spelt ts x rest) (e.rolls-Constant at called) (nodes_level (Expr-F.Constant at called) h)

pub of_directory : {ts rest : List Token} {at : At} → SpeltAt ts (Expr-F.Directory at) rest → Spelt ts (e.Directory at) rest
of_directory {ts} {rest} {at} h = subst (λ x. Spelt ts x rest) (e.rolls-Directory at) (nodes_level (Expr-F.Directory at) h)

pub of_array : {ts rest : List Token} {at : At} {form : ArrayForm} (items : List Item) → SpeltAt ts (Expr-F.Array at form items) rest → Spelt ts (e.Array at form items) rest
of_array {ts} {rest} {at} {form} items h = subst (λ x. Spelt ts x rest) (e.rolls-Array at form items) (nodes_level (Expr-F.Array at form items) h)

pub of_call : {ts rest : List Token} {at : At} {called : List ℕ} (xs : List Expr) → SpeltAt ts (Expr-F.Call at called xs) rest → Spelt ts (e.Call at called xs) rest
of_call {ts} {rest} {at} {called} xs h = subst (λ x. Spelt ts x rest) (e.rolls-Call at called xs) (nodes_level (Expr-F.Call at called xs) h)

pub of_dynamic_call : {ts rest : List Token} {at : At} (x : Expr) (xs : List Expr) → SpeltAt ts (Expr-F.DynamicCall at x xs) rest → Spelt ts (e.DynamicCall at x xs) rest
of_dynamic_call {ts} {rest} {at} x xs h = subst (λ x. Spelt ts x rest) (e.rolls-DynamicCall at x xs) (nodes_level (Expr-F.DynamicCall at x xs) h)

pub of_static_call : {ts rest : List Token} {at : At} (class : ClassReference) (called : MemberName) (xs : List Expr) → SpeltAt ts (Expr-F.StaticCall at class called xs) rest → Spelt ts (e.StaticCall at class called xs) rest
of_static_call {ts} {rest} {at} class called xs h = subst (λ x. Spelt ts x rest) (e.rolls-StaticCall at class called xs) (nodes_level (Expr-F.StaticCall at class called xs) h)

pub of_method_call : {ts rest : List Token} {at : At} (x : Expr) (called : MemberName) (xs : List Expr) → SpeltAt ts (Expr-F.MethodCall at x called xs) rest → Spelt ts (e.MethodCall at x called xs) rest
of_method_call {ts} {rest} {at} x called xs h = subst (λ x. Spelt ts x rest) (e.rolls-MethodCall at x called xs) (nodes_level (Expr-F.MethodCall at x called xs) h)

pub of_new : {ts rest : List Token} {at : At} (class : ClassReference) (xs : List Expr) → SpeltAt ts (Expr-F.New at class xs) rest → Spelt ts (e.New at class xs) rest
of_new {ts} {rest} {at} class xs h = subst (λ x. Spelt ts x rest) (e.rolls-New at class xs) (nodes_level (Expr-F.New at class xs) h)

pub of_class_constant : {ts rest : List Token} {at : At} (class : ClassReference) {called : List ℕ} → SpeltAt ts (Expr-F.ClassConstant at class called) rest → Spelt ts (e.ClassConstant at class called) rest
of_class_constant {ts} {rest} {at} class {called} h = subst (λ x. Spelt ts x rest) (e.rolls-ClassConstant at class called) (nodes_level (Expr-F.ClassConstant at class called) h)

pub of_class_name : {ts rest : List Token} {at : At} (class : ClassReference) {colons : ℕ} → SpeltAt ts (Expr-F.ClassName at class colons) rest → Spelt ts (e.ClassName at class colons) rest
of_class_name {ts} {rest} {at} class {colons} h = subst (λ x. Spelt ts x rest) (e.rolls-ClassName at class colons) (nodes_level (Expr-F.ClassName at class colons) h)

pub of_static_property : {ts rest : List Token} {at : At} (class : ClassReference) {called : List ℕ} → SpeltAt ts (Expr-F.StaticProperty at class called) rest → Spelt ts (e.StaticProperty at class called) rest
of_static_property {ts} {rest} {at} class {called} h = subst (λ x. Spelt ts x rest) (e.rolls-StaticProperty at class called) (nodes_level (Expr-F.StaticProperty at class called) h)

pub of_paren : {ts rest : List Token} {at : At} (x : Expr) → SpeltAt ts (Expr-F.Paren at x) rest → Spelt ts (e.Paren at x) rest
of_paren {ts} {rest} {at} x h = subst (λ x. Spelt ts x rest) (e.rolls-Paren at x) (nodes_level (Expr-F.Paren at x) h)

pub of_isset : {ts rest : List Token} {at : At} (xs : List Expr) → SpeltAt ts (Expr-F.Isset at xs) rest → Spelt ts (e.Isset at xs) rest
of_isset {ts} {rest} {at} xs h = subst (λ x. Spelt ts x rest) (e.rolls-Isset at xs) (nodes_level (Expr-F.Isset at xs) h)

pub of_empty : {ts rest : List Token} {at : At} (x : Expr) → SpeltAt ts (Expr-F.Empty at x) rest → Spelt ts (e.Empty at x) rest
of_empty {ts} {rest} {at} x h = subst (λ x. Spelt ts x rest) (e.rolls-Empty at x) (nodes_level (Expr-F.Empty at x) h)

pub of_exit : {ts rest : List Token} {at : At} → SpeltAt ts (Expr-F.Exit at) rest → Spelt ts (e.Exit at) rest
of_exit {ts} {rest} {at} h = subst (λ x. Spelt ts x rest) (e.rolls-Exit at) (nodes_level (Expr-F.Exit at) h)

pub of_exit_with : {ts rest : List Token} {at : At} (x : Expr) → SpeltAt ts (Expr-F.ExitWith at x) rest → Spelt ts (e.ExitWith at x) rest
of_exit_with {ts} {rest} {at} x h = subst (λ x. Spelt ts x rest) (e.rolls-ExitWith at x) (nodes_level (Expr-F.ExitWith at x) h)

pub of_path : {ts rest : List Token} {at : At} (x : Expr) (steps : List Step) → SpeltAt ts (Expr-F.Path at x steps) rest → Spelt ts (e.Path at x steps) rest
of_path {ts} {rest} {at} x steps h = subst (λ x. Spelt ts x rest) (e.rolls-Path at x steps) (nodes_level (Expr-F.Path at x steps) h)

pub of_update : {ts rest : List Token} {at : At} {form : Update} (x : Expr) → SpeltAt ts (Expr-F.Update at form x) rest → Spelt ts (e.Update at form x) rest
of_update {ts} {rest} {at} {form} x h = subst (λ x. Spelt ts x rest) (e.rolls-Update at form x) (nodes_level (Expr-F.Update at form x) h)

pub of_prefix : {ts rest : List Token} {at : At} {op : Prefix} (x : Expr) → SpeltAt ts (Expr-F.Prefix at op x) rest → Spelt ts (e.Prefix at op x) rest
of_prefix {ts} {rest} {at} {op} x h = subst (λ x. Spelt ts x rest) (e.rolls-Prefix at op x) (nodes_level (Expr-F.Prefix at op x) h)

pub of_instance_of : {ts rest : List Token} {at : At} (x : Expr) (classes : List ClassReference) → SpeltAt ts (Expr-F.InstanceOf at x classes) rest → Spelt ts (e.InstanceOf at x classes) rest
of_instance_of {ts} {rest} {at} x classes h = subst (λ x. Spelt ts x rest) (e.rolls-InstanceOf at x classes) (nodes_level (Expr-F.InstanceOf at x classes) h)

pub of_run : {ts rest : List Token} {at : At} (x : Expr) (more : List (Binary × Expr)) → SpeltAt ts (Expr-F.Run at x more) rest → Spelt ts (e.Run at x more) rest
of_run {ts} {rest} {at} x more h = subst (λ x. Spelt ts x rest) (e.rolls-Run at x more) (nodes_level (Expr-F.Run at x more) h)

pub of_pair : {ts rest : List Token} {at : At} {op : Binary} (x : Expr) (y : Expr) → SpeltAt ts (Expr-F.Pair at op x y) rest → Spelt ts (e.Pair at op x y) rest
of_pair {ts} {rest} {at} {op} x y h = subst (λ x. Spelt ts x rest) (e.rolls-Pair at op x y) (nodes_level (Expr-F.Pair at op x y) h)

pub of_ternary : {ts rest : List Token} {at : At} (x : Expr) (y : Expr) (z : Expr) → SpeltAt ts (Expr-F.Ternary at x y z) rest → Spelt ts (e.Ternary at x y z) rest
of_ternary {ts} {rest} {at} x y z h = subst (λ x. Spelt ts x rest) (e.rolls-Ternary at x y z) (nodes_level (Expr-F.Ternary at x y z) h)

pub of_short_ternary : {ts rest : List Token} {at : At} (x : Expr) (more : List Expr) → SpeltAt ts (Expr-F.ShortTernary at x more) rest → Spelt ts (e.ShortTernary at x more) rest
of_short_ternary {ts} {rest} {at} x more h = subst (λ x. Spelt ts x rest) (e.rolls-ShortTernary at x more) (nodes_level (Expr-F.ShortTernary at x more) h)

pub of_assign : {ts rest : List Token} {at : At} {op : Assignment} (x : Expr) (y : Expr) → SpeltAt ts (Expr-F.Assign at op x y) rest → Spelt ts (e.Assign at op x y) rest
of_assign {ts} {rest} {at} {op} x y h = subst (λ x. Spelt ts x rest) (e.rolls-Assign at op x y) (nodes_level (Expr-F.Assign at op x y) h)

pub of_assign_reference : {ts rest : List Token} {at : At} (x : Expr) (y : Expr) {ampersand : ℕ} → SpeltAt ts (Expr-F.AssignReference at x y ampersand) rest → Spelt ts (e.AssignReference at x y ampersand) rest
of_assign_reference {ts} {rest} {at} x y {ampersand} h = subst (λ x. Spelt ts x rest) (e.rolls-AssignReference at x y ampersand) (nodes_level (Expr-F.AssignReference at x y ampersand) h)

pub of_destructure : {ts rest : List Token} {at : At} (items : List Item) (x : Expr) → SpeltAt ts (Expr-F.Destructure at items x) rest → Spelt ts (e.Destructure at items x) rest
of_destructure {ts} {rest} {at} items x h = subst (λ x. Spelt ts x rest) (e.rolls-Destructure at items x) (nodes_level (Expr-F.Destructure at items x) h)

pub of_named_argument : {ts rest : List Token} {at : At} {called : List ℕ} (x : Expr) → SpeltAt ts (Expr-F.NamedArgument at called x) rest → Spelt ts (e.NamedArgument at called x) rest
of_named_argument {ts} {rest} {at} {called} x h = subst (λ x. Spelt ts x rest) (e.rolls-NamedArgument at called x) (nodes_level (Expr-F.NamedArgument at called x) h)

pub of_class_by_name : {ts rest : List Token} {at : At} {called : List ℕ} → SpeltClassAt ts (ClassReference-F.ByName at called) rest → SpeltClass ts (c.ByName at called) rest
of_class_by_name {ts} {rest} {at} {called} h = subst (λ x. SpeltClass ts x rest) (c.rolls-ByName at called) (class_nodes_level (ClassReference-F.ByName at called) h)

pub of_class_self_class : {ts rest : List Token} {at : At} → SpeltClassAt ts (ClassReference-F.SelfClass at) rest → SpeltClass ts (c.SelfClass at) rest
of_class_self_class {ts} {rest} {at} h = subst (λ x. SpeltClass ts x rest) (c.rolls-SelfClass at) (class_nodes_level (ClassReference-F.SelfClass at) h)

pub of_class_parent : {ts rest : List Token} {at : At} → SpeltClassAt ts (ClassReference-F.Parent at) rest → SpeltClass ts (c.Parent at) rest
of_class_parent {ts} {rest} {at} h = subst (λ x. SpeltClass ts x rest) (c.rolls-Parent at) (class_nodes_level (ClassReference-F.Parent at) h)

pub of_class_static : {ts rest : List Token} {at : At} → SpeltClassAt ts (ClassReference-F.Static at) rest → SpeltClass ts (c.Static at) rest
of_class_static {ts} {rest} {at} h = subst (λ x. SpeltClass ts x rest) (c.rolls-Static at) (class_nodes_level (ClassReference-F.Static at) h)

pub of_class_by_expression : {ts rest : List Token} {at : At} (x : Expr) → SpeltClassAt ts (ClassReference-F.ByExpression at x) rest → SpeltClass ts (c.ByExpression at x) rest
of_class_by_expression {ts} {rest} {at} x h = subst (λ x. SpeltClass ts x rest) (c.rolls-ByExpression at x) (class_nodes_level (ClassReference-F.ByExpression at x) h)

pub of_item_plain : {ts rest : List Token} {at : At} (x : Expr) → SpeltItemAt ts (Item-F.Plain at x) rest → SpeltItem ts (item.Plain at x) rest
of_item_plain {ts} {rest} {at} x h = subst (λ x. SpeltItem ts x rest) (item.rolls-Plain at x) (item_nodes_level (Item-F.Plain at x) h)

pub of_item_keyed : {ts rest : List Token} {at : At} (x : Expr) (y : Expr) → SpeltItemAt ts (Item-F.Keyed at x y) rest → SpeltItem ts (item.Keyed at x y) rest
of_item_keyed {ts} {rest} {at} x y h = subst (λ x. SpeltItem ts x rest) (item.rolls-Keyed at x y) (item_nodes_level (Item-F.Keyed at x y) h)

pub of_item_reference : {ts rest : List Token} {at : At} (x : Expr) → SpeltItemAt ts (Item-F.Reference at x) rest → SpeltItem ts (item.Reference at x) rest
of_item_reference {ts} {rest} {at} x h = subst (λ x. SpeltItem ts x rest) (item.rolls-Reference at x) (item_nodes_level (Item-F.Reference at x) h)

pub of_item_keyed_reference : {ts rest : List Token} {at : At} (x : Expr) (y : Expr) {ampersand : ℕ} → SpeltItemAt ts (Item-F.KeyedReference at x y ampersand) rest → SpeltItem ts (item.KeyedReference at x y ampersand) rest
of_item_keyed_reference {ts} {rest} {at} x y {ampersand} h = subst (λ x. SpeltItem ts x rest) (item.rolls-KeyedReference at x y ampersand) (item_nodes_level (Item-F.KeyedReference at x y ampersand) h)

pub of_item_hole : {ts rest : List Token} {at : At} → SpeltItemAt ts (Item-F.Hole at) rest → SpeltItem ts (item.Hole at) rest
of_item_hole {ts} {rest} {at} h = subst (λ x. SpeltItem ts x rest) (item.rolls-Hole at) (item_nodes_level (Item-F.Hole at) h)

pub of_name_named : {ts rest : List Token} {called : List ℕ} → SpeltNameAt ts (MemberName-F.Named called) rest → SpeltName ts (name.Named called) rest
of_name_named {ts} {rest} {called} h = subst (λ x. SpeltName ts x rest) (name.rolls-Named called) (name_nodes_level (MemberName-F.Named called) h)

pub of_name_computed : {ts rest : List Token} (x : Expr) → SpeltNameAt ts (MemberName-F.Computed x) rest → SpeltName ts (name.Computed x) rest
of_name_computed {ts} {rest} x h = subst (λ x. SpeltName ts x rest) (name.rolls-Computed x) (name_nodes_level (MemberName-F.Computed x) h)

pub of_step_index : {ts rest : List Token} {at : At} (x : Expr) → SpeltStepAt ts (Step-F.Index at x) rest → SpeltStep ts (step.Index at x) rest
of_step_index {ts} {rest} {at} x h = subst (λ x. SpeltStep ts x rest) (step.rolls-Index at x) (step_nodes_level (Step-F.Index at x) h)

pub of_step_append : {ts rest : List Token} {at : At} → SpeltStepAt ts (Step-F.Append at) rest → SpeltStep ts (step.Append at) rest
of_step_append {ts} {rest} {at} h = subst (λ x. SpeltStep ts x rest) (step.rolls-Append at) (step_nodes_level (Step-F.Append at) h)

pub of_step_property : {ts rest : List Token} {at : At} (called : MemberName) → SpeltStepAt ts (Step-F.Property at called) rest → SpeltStep ts (step.Property at called) rest
of_step_property {ts} {rest} {at} called h = subst (λ x. SpeltStep ts x rest) (step.rolls-Property at called) (step_nodes_level (Step-F.Property at called) h)

pub of_part_piece : {ts rest : List Token} {at : At} {bytes : List ℕ} → SpeltPartAt ts (StringPart-F.Piece at bytes) rest → SpeltPart ts (part.Piece at bytes) rest
of_part_piece {ts} {rest} {at} {bytes} h = subst (λ x. SpeltPart ts x rest) (part.rolls-Piece at bytes) (part_nodes_level (StringPart-F.Piece at bytes) h)

pub of_part_interpolation : {ts rest : List Token} (x : Expr) → SpeltPartAt ts (StringPart-F.Interpolation x) rest → SpeltPart ts (part.Interpolation x) rest
of_part_interpolation {ts} {rest} x h = subst (λ x. SpeltPart ts x rest) (part.rolls-Interpolation x) (part_nodes_level (StringPart-F.Interpolation x) h)
