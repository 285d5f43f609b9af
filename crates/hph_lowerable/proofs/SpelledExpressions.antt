-- What the tokens of an expression tell of it: part by part, in the order of the rules.
use Rattle.std.specs.Prelude.{◌≡◌, ℕ, suc, ◌+◌, ◌^◌, Bool, true, not, ◌||◌, ◌&&◌, ◌==◌, List, [], ◌∷◌, length, map}
use Rattle.std.specs.List.{list_all}
use Rattle.std.proofs.Common.{refl, ap, sym, ◌∙◌, subst}
use Rattle.std.proofs.lemmas.Bool.Decides.{Decides-ltb}
use Rattle.hph_ast.specs.declared.token.At.{At}
use Rattle.hph_ast.specs.declared.token.Token.{Token}
use Rattle.hph_ast.specs.declared.token.Kind.TheVariants as k
use Rattle.hph_ast.specs.declared.token.Mark.{Mark}
use Rattle.hph_ast.specs.declared.operator.Binary.{Binary}
use Rattle.hph_ast.specs.declared.operator.Binary.TheVariants as b
use Rattle.hph_ast.specs.declared.expr.Expr.{Expr}
use Rattle.hph_ast.specs.declared.expr.StringPart.{StringPart}
use Rattle.hph_ast.specs.declared.expr.StringPart.TheVariants as part
use Rattle.hph_ast.specs.declared.expr.Item.{Item}
use Rattle.hph_ast.specs.declared.expr.ClassReference.{ClassReference}
use Rattle.hph_ast.specs.declared.expr.MemberName.{MemberName}
use Rattle.hph_ast.specs.declared.expr.Step.{Step}
use Rattle.hph_ast.specs.declared.expr.ClassReference.TheOpen.{StringPart-F}
use Rattle.hph_ast.specs.Levels.{level, grouping}
use Rattle.hph_ast.specs.Places.{with_steps}
use Rattle.hph_ast.specs.Shapes.{is_written}
use Rattle.hph_ast.specs.Terminals.{IsClass, IsKey}
use Rattle.hph_ast.specs.Terminals as terminal
use Rattle.hph_ast.specs.Expressions.{IsExpression, IsTail, IsShorts, IsInstances, IsTerm, IsPostfix, GoesOn, GoesOnByCall, IsSteps, IsStep, IsMember, IsScoped, IsPrimary, IsParts, IsInterpolation, IsArguments, IsArgument, IsMaybeArguments, IsItems, IsItem, IsTargets, IsElement, IsWrittenOnly, IsPaths, IsTarget, IsTargetSteps}
use Rattle.hph_ast.specs.Expressions as g
use Rattle.hph_php.specs.Cost.{nodes, item_nodes, total, total_of}
use Rattle.hph_program.specs.WellFormed.{IsIntOfPrograms}
use Rattle.hph_lowerable.specs.Facts.{Facts, facts, is_int, is_left, operand_fits, all_fit, steps_fit, each}
use Rattle.hph_lowerable.proofs.Chains.{Chain, nothing, Listed, none, pays_two, pays_two_before, pays_one, behind, token, then_two, then_one, then_none, both, node_both, between, more_of, listed, under, given}
use Rattle.hph_lowerable.proofs.ExpressionLevels.{part_nodes, part_fits, part_nodes_rolled, part_fits_rolled, class_nodes, class_fits, item_fits, step_nodes, step_facts, Spelt, SpeltClass, SpeltItem, SpeltName, SpeltStep, SpeltPart, of_int, of_text, of_interpolated, of_variable, of_constant, of_directory, of_array, of_call, of_dynamic_call, of_static_call, of_method_call, of_new, of_class_constant, of_class_name, of_static_property, of_paren, of_isset, of_empty, of_exit, of_exit_with, of_path, of_update, of_prefix, of_instance_of, of_run, of_pair, of_ternary, of_short_ternary, of_assign, of_assign_reference, of_destructure, of_named_argument, of_class_by_name, of_class_self_class, of_class_parent, of_class_static, of_class_by_expression, of_item_plain, of_item_keyed, of_item_reference, of_item_keyed_reference, of_item_hole, of_name_named, of_name_computed, of_step_index, of_step_append, of_step_property, of_part_piece, of_part_interpolation}
use Rattle.hph_lowerable.proofs.Written.{written_is}

-- ---- tokens

small_int : (t : Token) {v : ℕ} → t.kind ≡ k.Int v → IsIntOfPrograms t.kind → is_int v ≡ true
small_int t {v} is int = (Decides-ltb v (2 ^ 63)).1 (subst IsIntOfPrograms is int)

-- operators of one level group in one way
abbrev groups_left : ℕ → Bool
groups_left n = not ((n == 22) || ((n == 14) || ((n == 13) || (n == 7))))

level_groups : (op : Binary) → is_left (grouping op) ≡ groups_left (level op)
level_groups b.Pow = refl
level_groups b.Mul = refl
level_groups b.Div = refl
level_groups b.Rem = refl
level_groups b.Add = refl
level_groups b.Sub = refl
level_groups b.ShiftLeft = refl
level_groups b.ShiftRight = refl
level_groups b.Concat = refl
level_groups b.Less = refl
level_groups b.LessEqual = refl
level_groups b.Greater = refl
level_groups b.GreaterEqual = refl
level_groups b.Equal = refl
level_groups b.NotEqual = refl
level_groups b.Identical = refl
level_groups b.NotIdentical = refl
level_groups b.Spaceship = refl
level_groups b.BitAnd = refl
level_groups b.BitXor = refl
level_groups b.BitOr = refl
level_groups b.BooleanAnd = refl
level_groups b.BooleanOr = refl
level_groups b.Coalesce = refl
level_groups b.LogicalAnd = refl
level_groups b.LogicalXor = refl
level_groups b.LogicalOr = refl

class : {t : Token} {ts : List Token} {x : ClassReference} → IsClass t x → SpeltClass (t ∷ ts) x ts
class (terminal.named is) = of_class_by_name (pays_two nothing)
class (terminal.self_class is) = of_class_self_class (pays_two nothing)
class (terminal.parent is) = of_class_parent (pays_two nothing)
class (terminal.static is) = of_class_static (pays_two nothing)

key : {t : Token} {ts : List Token} {x : Expr} → IsKey t x → Spelt (t ∷ ts) x ts
key (terminal.key_name is) = of_text (pays_one nothing)
key (terminal.key_variable is) = of_variable (pays_one nothing)
key (terminal.key_int {t = t} is) = of_int (token (small_int t is))

piece : {t : Token} {ts : List Token} {at : At} {bytes : List ℕ} → SpeltPart (t ∷ ts) (part.Piece at bytes) ts
piece = of_part_piece (pays_one nothing)

-- a piece is one node, and its token pays for another
head_piece : {t : Token} {ts rest : List Token} {n : ℕ} {fits : Bool} (at : At) (bytes : List ℕ) → Chain ts n fits rest →
    Chain (t ∷ ts) (suc (part_nodes (part.Piece at bytes) + n)) (part_fits (part.Piece at bytes) && fits) rest
head_piece {t} {ts} {rest} {n} {fits} at bytes c = subst (λ m. Chain (t ∷ ts) (suc (m + n)) (part_fits (part.Piece at bytes) && fits) rest)
    (sym (ap part_nodes (sym (part.rolls-Piece at bytes)) ∙ part_nodes_rolled (StringPart-F.Piece at bytes)))
    (subst (λ b. Chain (t ∷ ts) (suc (1 + n)) (b && fits) rest)
    (sym (ap part_fits (sym (part.rolls-Piece at bytes)) ∙ part_fits_rolled (StringPart-F.Piece at bytes))) (pays_two_before c))

pub written : (x : Expr) → is_written x ≡ true → (facts x).is_written ≡ true
written x is = written_is x ∙ is

-- ---- lists of parts

abbrev pub SpeltAll : List Token → List Expr → List Token → Type 0
SpeltAll ts xs rest = Chain ts (total (map nodes xs)) (all_fit (map facts xs)) rest

abbrev SpeltMore : List Token → List Expr → List Token → Type 0
SpeltMore ts xs rest = Listed ts (total (map nodes xs)) (length xs) (all_fit (map facts xs)) rest

abbrev pub SpeltItems : List Token → List Item → List Token → Type 0
SpeltItems ts xs rest = Chain ts (total (map item_nodes xs)) (each (map item_fits xs)) rest

abbrev SpeltSteps : List Token → List Step → List Token → Type 0
SpeltSteps ts ss rest = Listed ts (total (map step_nodes ss)) (length ss) (steps_fit (map step_facts ss)) rest

abbrev SpeltClasses : List Token → List ClassReference → List Token → Type 0
SpeltClasses ts cs rest = Listed ts (total (map class_nodes cs)) (length cs) (each (map class_fits cs)) rest

abbrev SpeltParts : List Token → List StringPart → List Token → Type 0
SpeltParts ts ps rest = Chain ts (total (map part_nodes ps)) (each (map part_fits ps)) rest

abbrev operand_nodes : Binary × Expr → Binary × ℕ
operand_nodes o = (o.0, nodes o.1)

abbrev operand_facts : Binary × Expr → Binary × Facts
operand_facts o = (o.0, facts o.1)

abbrev SpeltOperands : List Token → List (Binary × Expr) → List Token → Type 0
SpeltOperands ts os rest = Listed ts (total_of (λ o. o.1) (map operand_nodes os)) (length os) (list_all operand_fits (map operand_facts os)) rest

stepped : {ts mid rest : List Token} {x : Expr} (ss : List Step) → Spelt ts x mid → SpeltSteps mid ss rest → Spelt ts (with_steps x ss) rest
stepped [] x ss = record { chain = more_of x.chain ss }
stepped (s ∷ ss) x steps = of_path _ _ (under x.chain steps)

-- ---- derivations

mutual
  pub expression : {l : ℕ} {ts rest : List Token} {x : Expr} → IsExpression l ts x rest → Spelt ts x rest
  expression (g.term d) = term d
  expression (g.run {o = o} _ left d2 d3) = of_run _ _ (under (expression d2).chain (tail (sym (level_groups o.0) ∙ ap is_left left) d3))
  expression (g.to_right _ _ d2 _ d4) = of_pair _ _ (between (expression d2).chain (expression d4).chain)
  expression (g.single _ _ d2 _ d4) = of_pair _ _ (between (expression d2).chain (expression d4).chain)
  expression (g.instance_of _ d1 d2) = of_instance_of _ _ (under (expression d1).chain (instances d2))
  expression (g.ternary _ d1 _ d3 _ d5) = of_ternary _ _ _ (between (expression d1).chain (both (then_none (expression d3).chain) (expression d5).chain))
  expression (g.short _ d1 d2) = of_short_ternary _ _ (under (expression d1).chain (shorts d2))

  tail : {n : ℕ} {ts rest : List Token} {os : List (Binary × Expr)} → groups_left n ≡ true → IsTail n ts os rest → SpeltOperands ts os rest
  tail left g.operands_end = none
  tail left (g.operand {op = op} _ same d2 d3) =
      listed (given (level_groups op ∙ ap groups_left same ∙ left) (pays_one (expression d2).chain)) (tail left d3)

  shorts : {ts rest : List Token} {xs : List Expr} → IsShorts ts xs rest → SpeltMore ts xs rest
  shorts g.shorts_end = none
  shorts (g.shorts_more _ _ d2 d3) = listed (pays_one (behind (expression d2).chain)) (shorts d3)

  instances : {ts rest : List Token} {cs : List ClassReference} → IsInstances ts cs rest → SpeltClasses ts cs rest
  instances g.instances_end = none
  instances (g.instance _ d1 d2) = listed (behind (class d1).chain) (instances d2)
  instances (g.instance_by _ d1 d2) = listed (of_class_by_expression _ (pays_two (target d1).chain)).chain (instances d2)

  term : {ts rest : List Token} {x : Expr} → IsTerm ts x rest → Spelt ts x rest
  term (g.postfix d _) = postfix d
  term (g.updated d is _) = of_update _ (given (written _ is) (then_one (postfix d).chain))
  term (g.updates _ d is _) = of_update _ (given (written _ is) (pays_one (postfix d).chain))
  term (g.assign d is _ d3 _) = of_assign _ _ (given (written _ is) (between (postfix d).chain (expression d3).chain))
  term (g.assign_reference d is _ _ d4 _ _) = of_assign_reference _ _ (given (written _ is) (between (postfix d).chain (behind (postfix d4).chain)))
  term (g.destructure _ d1 _ d3 _) = of_destructure _ _ (behind (between (targets d1) (expression d3).chain))
  term (g.prefix _ d1 _) = of_prefix _ (pays_one (expression d1).chain)

  pub postfix : {ts rest : List Token} {x : Expr} → IsPostfix ts x rest → Spelt ts x rest
  postfix (g.primary d0 d1) = goes_on (primary d0) d1

  goes_on : {ts mid rest : List Token} {x y : Expr} → Spelt ts x mid → GoesOn x mid y rest → Spelt ts y rest
  goes_on x (g.no_steps d) = goes_on_by_call x d
  goes_on x (g.path d0 d1) = goes_on_by_call (of_path _ _ (under x.chain (steps d0))) d1

  goes_on_by_call : {ts mid rest : List Token} {x y : Expr} → Spelt ts x mid → GoesOnByCall x mid y rest → Spelt ts y rest
  goes_on_by_call x g.ends = x
  goes_on_by_call x (g.method _ _ d2 _ d4 d5) = goes_on (of_method_call _ _ _ (between x.chain (both (then_none (member d2).chain) (arguments d4)))) d5
  goes_on_by_call x (g.call_of _ _ _ d3 d4) = goes_on (of_dynamic_call _ _ (between x.chain (arguments d3))) d4
  goes_on_by_call x (g.member_of _ _ _ d3 d4) = goes_on (scoped (of_class_by_expression _ (then_two x.chain)) d3) d4

  steps : {ts rest : List Token} {ss : List Step} → IsSteps ts ss rest → SpeltSteps ts ss rest
  steps g.steps_end = none
  steps (g.steps_more d0 d1) = listed (step d0).chain (steps d1)

  step : {ts rest : List Token} {s : Step} → IsStep ts s rest → SpeltStep ts s rest
  step (g.index _ d _) = of_step_index _ (pays_one (then_none (expression d).chain))
  step (g.append _ _) = of_step_append (pays_two (behind nothing))
  step (g.property _ d _) = of_step_property _ (pays_two (member d).chain)

  member : {ts rest : List Token} {x : MemberName} {t : Token} → IsMember ts x t rest → SpeltName ts x rest
  member (g.by_name _) = of_name_named (behind nothing)
  member (g.by_variable {t = t} {name = name} _) = of_name_computed _ (of_variable (pays_one nothing)).chain
  member (g.by_expression _ d _) = of_name_computed _ (behind (then_none (expression d).chain))

  scoped : {first ts rest : List Token} {c : ClassReference} {q : Token} {x : Expr} → SpeltClass first c ts → IsScoped c q ts x rest → Spelt first x rest
  scoped c (g.class_constant _ _ _) = of_class_constant _ (then_none c.chain)
  scoped c (g.class_name _ _ _) = of_class_name _ (then_none c.chain)
  scoped c (g.static_property _ _) = of_static_property _ (then_none c.chain)
  scoped c (g.static_call d0 _ d2) = of_static_call _ _ _ (node_both c.chain (both (then_none (member d0).chain) (arguments d2)))

  primary : {ts rest : List Token} {x : Expr} → IsPrimary ts x rest → Spelt ts x rest
  primary (g.int {t = t} is) = of_int (token (small_int t is))
  primary (g.text _) = of_text (pays_one nothing)
  primary (g.interpolated _ d) = of_interpolated _ (head_piece _ _ (parts d))
  primary (g.variable _) = of_variable (pays_one nothing)
  primary (g.constant _ _) = of_constant (pays_one nothing)
  primary (g.directory _) = of_directory (pays_one nothing)
  primary (g.short_array _ d) = of_array _ (pays_one (items d))
  primary (g.long_array _ _ d) = of_array _ (pays_one (behind (items d)))
  primary (g.call _ _ d) = of_call _ (pays_one (behind (arguments d)))
  primary (g.scoped is _ d) = scoped (record { chain = then_none (class is).chain }) d
  primary (g.new _ is d) = of_new _ _ (behind (node_both (class is).chain (maybe_arguments d)))
  primary (g.new_by _ d1 d2) = of_new _ _ (node_both (of_class_by_expression _ (pays_two (target d1).chain)).chain (maybe_arguments d2))
  primary (g.paren _ d _) = of_paren _ (pays_one (then_none (expression d).chain))
  primary (g.isset _ _ d) = of_isset _ (pays_one (behind (paths d)))
  primary (g.empty _ _ d _) = of_empty _ (pays_one (behind (then_none (expression d).chain)))
  primary (g.exit _ _) = of_exit (pays_one nothing)
  primary (g.exit_of_nothing _ _ _) = of_exit (pays_one (behind (behind nothing)))
  primary (g.exit_with _ _ d _) = of_exit_with _ (pays_one (behind (then_none (expression d).chain)))

  parts : {ts rest : List Token} {ps : List StringPart} {t : Token} → IsParts ts ps t rest → SpeltParts ts ps rest
  parts (g.parts_last d _) = both (of_part_interpolation _ (interpolation d).chain).chain (both piece.chain nothing)
  parts (g.parts_more d _ d2) = both (of_part_interpolation _ (interpolation d).chain).chain (both piece.chain (parts d2))

  interpolation : {ts rest : List Token} {x : Expr} → IsInterpolation ts x rest → Spelt ts x rest
  interpolation (g.plain_variable _) = of_variable (pays_one nothing)
  interpolation (g.with_key _ _ is _) = of_path _ _ (under (of_variable (pays_one nothing)).chain
      (listed (of_step_index _ (pays_one (then_none (key is).chain))).chain none))
  interpolation (g.with_property _ _ _) = of_path _ _ (under (of_variable (pays_one nothing)).chain
      (listed (of_step_property _ (pays_two (of_name_named (behind nothing)).chain)).chain none))
  interpolation (g.in_braces _ _ d _) = record { chain = behind (then_none (expression d).chain) }

  arguments : {ts rest : List Token} {xs : List Expr} {t : Token} → IsArguments ts xs t rest → SpeltAll ts xs rest
  arguments (g.arguments_end _) = behind nothing
  arguments (g.arguments_last d _) = both (then_none (argument d).chain) nothing
  arguments (g.arguments_more d _ d2) = both (then_none (argument d).chain) (arguments d2)

  argument : {ts rest : List Token} {x : Expr} → IsArgument ts x rest → Spelt ts x rest
  argument (g.argument d) = expression d
  argument (g.named_argument _ _ d) = of_named_argument _ (pays_one (behind (expression d).chain))

  maybe_arguments : {at last : At} {ts rest : List Token} {xs : List Expr} → IsMaybeArguments at ts xs last rest → SpeltAll ts xs rest
  maybe_arguments (g.no_arguments _) = nothing
  maybe_arguments (g.some_arguments _ d) = behind (arguments d)

  items : {closing : Mark} {ts rest : List Token} {xs : List Item} {t : Token} → IsItems closing ts xs t rest → SpeltItems ts xs rest
  items (g.items_end _) = behind nothing
  items (g.items_last d _) = both (item d).chain nothing
  items (g.items_more d _ d2) = both (item d).chain (items d2)

  -- with the token behind it
  item : {ts rest : List Token} {x : Item} {t : Token} → IsItem ts x (t ∷ rest) → SpeltItem ts x rest
  item (g.value d) = of_item_plain _ (then_one (expression d).chain)
  item (g.pair d _ d2) = of_item_keyed _ _ (between (expression d).chain (then_none (expression d2).chain))
  item (g.reference _ d _) = of_item_reference _ (pays_one (then_none (postfix d).chain))
  item (g.pair_reference d _ _ d3 _) = of_item_keyed_reference _ _ (between (expression d).chain (behind (then_none (postfix d3).chain)))

  pub targets : {ts rest : List Token} {xs : List Item} {c : Token} → IsTargets ts xs c rest → SpeltItems ts xs rest
  targets (g.targets_end _) = behind nothing
  targets (g.targets_last d _) = both (element d).chain nothing
  targets (g.targets_more d _ d2) = both (element d).chain (targets d2)
  targets (g.targets_hole _ d) = both (of_item_hole (pays_one nothing)).chain (targets d)

  -- with the token behind it
  element : {ts rest : List Token} {x : Item} {t : Token} → IsElement ts x (t ∷ rest) → SpeltItem ts x rest
  element (g.element_item d) = item d
  element (g.element d) = of_item_plain _ (then_one (written_only d).chain)
  element (g.element_pair d _ d2) = of_item_keyed _ _ (between (expression d).chain (then_none (written_only d2).chain))

  written_only : {ts rest : List Token} {x : Expr} → IsWrittenOnly ts x rest → Spelt ts x rest
  written_only (g.appended d _ _) = postfix d
  written_only (g.nested_targets _ d _) = of_array _ (pays_one (targets d))

  paths : {test : Expr → Bool} {ts rest : List Token} {xs : List Expr} {t : Token} → IsPaths test ts xs t rest → SpeltAll ts xs rest
  paths (g.paths_last d _ _ _) = both (then_none (postfix d).chain) nothing
  paths (g.paths_last_comma d _ _ _ _) = both (then_none (then_none (postfix d).chain)) nothing
  paths (g.paths_more d _ _ _ d2) = both (then_none (postfix d).chain) (paths d2)

  target : {ts rest : List Token} {x : Expr} → IsTarget ts x rest → Spelt ts x rest
  target (g.target_variable {steps = ss} _ d) = stepped ss (of_variable (pays_one nothing)) (target_steps d)
  target (g.target_static {steps = ss} is _ _ d) = stepped ss (of_static_property _ (then_none (then_none (class is).chain))) (target_steps d)
  target (g.target_paren _ d _) = of_paren _ (pays_one (then_none (expression d).chain))

  target_steps : {ts rest : List Token} {ss : List Step} → IsTargetSteps ts ss rest → SpeltSteps ts ss rest
  target_steps (g.target_end _) = none
  target_steps (g.target_index _ d _ d3) = listed (of_step_index _ (pays_one (then_none (expression d).chain))).chain (target_steps d3)
  target_steps (g.target_property _ d d2) = listed (of_step_property _ (pays_two (member d).chain)).chain (target_steps d2)
  target_steps (g.target_static_property _ _ d) =
      listed (of_step_property _ (pays_two (of_name_computed _ (of_variable (pays_one nothing)).chain).chain)).chain (target_steps d)
