-- What an expression means keeps that answers stay, by induction on its tree.
use Rattle.std.proofs.Common.{◌≡◌, ◌++◌, ℕ, List, [], ◌∷◌, map, refl, sym, ap, ◌∙◌, subst}
use Rattle.std.specs.Prelude.{pos, Option}
use Rattle.hph_ast.specs.declared.operator.Binary.{Binary}
use Rattle.hph_ast.specs.declared.expr.Expr.{Expr, roll-Expr}
use Rattle.hph_ast.specs.declared.expr.ClassReference.{ClassReference, roll-ClassReference}
use Rattle.hph_ast.specs.declared.expr.Item.{Item, roll-Item}
use Rattle.hph_ast.specs.declared.expr.MemberName.{MemberName, roll-MemberName}
use Rattle.hph_ast.specs.declared.expr.Step.{Step, roll-Step}
use Rattle.hph_ast.specs.declared.expr.StringPart.{StringPart, roll-StringPart}
use Rattle.hph_ast.specs.declared.expr.ClassReference.TheOpen.{ClassReference-F, Expr-F, Item-F, MemberName-F, Step-F, StringPart-F}
use Rattle.hph_ast.specs.declared.expr.ClassReference.TheFolds.{ind-Expr, map-ClassReference, map-Expr, map-Item, map-MemberName, map-Step, map-StringPart}
use Rattle.hph_ast.specs.Layers.{ExprLayer, ClassLayer, ItemLayer, MemberLayer, StepLayer, PartLayer}
use Rattle.hph_php.specs.declared.fatal.Fatal.TheVariants.{UndefinedClass}
use Rattle.hph_php.specs.Values.{Value, Null, Int, Str, array_value, empty_array}
use Rattle.hph_php.specs.Arrays.{Array}
use Rattle.hph_php.specs.State.{Name}
use Rattle.hph_php.specs.Answers.{Means, Exits, give}
use Rattle.hph_php.specs.Paths.{PathStep, by_key, at_end, by_property}
use Rattle.hph_php.specs.World.{World, Context}
use Rattle.hph_php.specs.Targets.{Reading, Base, Form, read, a_path, a_location, is_empty_value}
use Rattle.hph_php.specs.Classes.{ClassChoice, call_method, call_static}
use Rattle.hph_php.specs.Includes.{directory_of}
use Rattle.hph_php.specs.Expressions.{class_by, item_by, member_by, step_by, part_by, static_path, form_of_run, with_form, reading_by, reading, evaluate}
use Rattle.hph_growth.specs.Growth.{Grows}
use Rattle.hph_growth.proofs.GrowthLaws.{EachGrows, none, one_more, ThroughGrows, no_step, one_step, give_grows, fail_grows, end_grows, bind_grows, each_grows, through_grows, by_both}
use Rattle.hph_growth.proofs.TargetLaws.{ReadingGrows, AllGrow, no_reading, one_reading, valued_grows, read_grows, try_grows, all_set_grows}
use Rattle.hph_growth.proofs.Worlds.{Worlds, earlier, later}
use Rattle.hph_growth.proofs.CallLaws.{call_named_grows}
use Rattle.hph_growth.proofs.ClassLaws.{ChoiceGrows, ChoicesGrow, no_choice, one_choice, named_class_grows, self_class_grows, parent_class_grows, static_class_grows, call_method_grows, call_static_grows, new_grows, class_constant_grows, static_location_grows}
use Rattle.hph_growth.proofs.OperationLaws.{constant_grows, variable_grows, share_grows, RunGrows, no_operator, one_operator, run_grows, pair_grows, ternary_grows, short_ternary_grows, exit_grows, prefix_grows, instances_grow, assignment_grows, moved_grows, add_last_grows, add_keyed_grows, text_grows}
use Rattle.hph_php.proofs.Levels.{class_meaning, item_meaning, member_meaning, step_meaning, part_meaning, expr_meant, class_meant, item_meant, member_meant, step_meant, part_meant, reading_rolled, class_rolled, item_rolled, member_rolled, step_rolled, part_rolled}

-- ---- paths

abbrev at_path : Means Base → Means (List PathStep) → Means Value → Reading
at_path base steps value = record { form = a_path; base = base; steps = steps; value = value }

at_path_grows : (within : Option ℕ) {base base' : Means Base} {steps steps' : Means (List PathStep)} {value value' : Means Value} →
    Grows base base' → Grows steps steps' → Grows value value' →
    ReadingGrows (at_path base steps (read within (at_path base steps value))) (at_path base' steps' (read within (at_path base' steps' value')))
at_path_grows within {base} {base'} {steps} {steps'} {value} {value'} p q r = record {
  form = refl;
  base = p;
  steps = q;
  value = read_grows within {x = at_path base steps value} {y = at_path base' steps' value'}
      (record { form = refl; value = r; base = p; steps = q });
}

module _ (ws : Worlds) (context : Context) where
  abbrev before : World
  before = earlier ws

  abbrev after : World
  after = later ws

  formed_grows : {f g : Form} {x y : Reading} → f ≡ g → ReadingGrows x y →
      ReadingGrows (with_form before context f x) (with_form after context g y)
  formed_grows e p = record { form = e; value = p.value; base = p.base; steps = p.steps }

  static_path_grows : {c d : ClassChoice} (name : Name) → ChoiceGrows c d →
      ReadingGrows (static_path before context c name) (static_path after context d name)
  static_path_grows name p = at_path_grows context.class
      (bind_grows (static_location_grows ws context name p) (λ l. give_grows (a_location l))) (give_grows []) (give_grows Null)

  method_call_grows : {m m' : Means Value} {name name' : Name} {xs ys : List Reading} → name ≡ name' → Grows m m' → AllGrow xs ys →
      Grows (call_method before context m name xs) (call_method after context m' name' ys)
  method_call_grows {m} {m'} {name} {name'} {xs} {ys} e p ps =
      subst (λ n. Grows (call_method before context m name xs) (call_method after context m' n ys)) e
      (call_method_grows ws context name p ps)

  static_call_grows : {c d : ClassChoice} {name name' : Name} {xs ys : List Reading} → name ≡ name' → ChoiceGrows c d → AllGrow xs ys →
      Grows (call_static before context c name xs) (call_static after context d name' ys)
  static_call_grows {c} {d} {name} {name'} {xs} {ys} e p ps =
      subst (λ n. Grows (call_static before context c name xs) (call_static after context d n ys)) e
      (call_static_grows ws context name p ps)

  -- ---- what holds of a tree and of its parts

  abbrev ExprHolds : Expr → Type 0
  ExprHolds x = ReadingGrows (reading before context x) (reading after context x)

  abbrev ClassHolds : ClassReference → Type 0
  ClassHolds c = ChoiceGrows (class_meaning before context c) (class_meaning after context c)

  abbrev ItemHolds : Item → Type 0
  ItemHolds i = (elements : Array Value) → Grows (item_meaning before context i elements) (item_meaning after context i elements)

  abbrev MemberHolds : MemberName → Type 0
  MemberHolds m = member_meaning before context m ≡ member_meaning after context m

  abbrev StepHolds : Step → Type 0
  StepHolds s = Grows (step_meaning before context s) (step_meaning after context s)

  abbrev PartHolds : StringPart → Type 0
  PartHolds p = (bytes : List ℕ) → Grows (part_meaning before context p bytes) (part_meaning after context p bytes)

  abbrev HeldExpr : Type 0
  HeldExpr = (x : Expr) × ExprHolds x

  abbrev HeldClass : Type 0
  HeldClass = (c : ClassReference) × ClassHolds c

  abbrev HeldItem : Type 0
  HeldItem = (i : Item) × ItemHolds i

  abbrev HeldMember : Type 0
  HeldMember = (m : MemberName) × MemberHolds m

  abbrev HeldStep : Type 0
  HeldStep = (s : Step) × StepHolds s

  abbrev HeldPart : Type 0
  HeldPart = (p : StringPart) × PartHolds p

  -- ---- lists of parts

  expressions_hold : (xs : List HeldExpr) →
      AllGrow (map (reading before context) (map (λ e. e.0) xs)) (map (reading after context) (map (λ e. e.0) xs))
  expressions_hold [] = no_reading
  expressions_hold (x ∷ xs) = one_reading x.1 (expressions_hold xs)

  classes_hold : (cs : List HeldClass) →
      ChoicesGrow (map (class_meaning before context) (map (λ e. e.0) cs)) (map (class_meaning after context) (map (λ e. e.0) cs))
  classes_hold [] = no_choice
  classes_hold (c ∷ cs) = one_choice c.1 (classes_hold cs)

  items_hold : (is : List HeldItem) →
      ThroughGrows (map (item_meaning before context) (map (λ e. e.0) is)) (map (item_meaning after context) (map (λ e. e.0) is))
  items_hold [] = no_step
  items_hold (i ∷ is) = one_step i.1 (items_hold is)

  steps_hold : (ss : List HeldStep) →
      EachGrows (map (step_meaning before context) (map (λ e. e.0) ss)) (map (step_meaning after context) (map (λ e. e.0) ss))
  steps_hold [] = none
  steps_hold (s ∷ ss) = one_more s.1 (steps_hold ss)

  parts_hold : (ps : List HeldPart) →
      ThroughGrows (map (part_meaning before context) (map (λ e. e.0) ps)) (map (part_meaning after context) (map (λ e. e.0) ps))
  parts_hold [] = no_step
  parts_hold (p ∷ ps) = one_step p.1 (parts_hold ps)

  operators_hold : (os : List (Binary × HeldExpr)) →
      RunGrows (map (λ (o : Binary × Expr). (o.0, reading before context o.1)) (map (λ (o : Binary × HeldExpr). (o.0, o.1.0)) os))
      (map (λ (o : Binary × Expr). (o.0, reading after context o.1)) (map (λ (o : Binary × HeldExpr). (o.0, o.1.0)) os))
  operators_hold [] = no_operator
  operators_hold (o ∷ os) = one_operator o.0 o.1.1 (operators_hold os)

  -- ---- one level

  abbrev bare_expr : Expr-F HeldClass HeldExpr HeldItem HeldMember HeldStep HeldPart → ExprLayer
  bare_expr y = map-Expr HeldClass HeldExpr HeldItem HeldMember HeldStep HeldPart ClassReference Expr Item MemberName Step StringPart
      (λ e. e.0) (λ e. e.0) (λ e. e.0) (λ e. e.0) (λ e. e.0) (λ e. e.0) y

  abbrev bare_class : ClassReference-F HeldClass HeldExpr HeldItem HeldMember HeldStep HeldPart → ClassLayer
  bare_class y = map-ClassReference HeldClass HeldExpr HeldItem HeldMember HeldStep HeldPart
      ClassReference Expr Item MemberName Step StringPart
      (λ e. e.0) (λ e. e.0) (λ e. e.0) (λ e. e.0) (λ e. e.0) (λ e. e.0) y

  abbrev bare_item : Item-F HeldClass HeldExpr HeldItem HeldMember HeldStep HeldPart → ItemLayer
  bare_item y = map-Item HeldClass HeldExpr HeldItem HeldMember HeldStep HeldPart ClassReference Expr Item MemberName Step StringPart
      (λ e. e.0) (λ e. e.0) (λ e. e.0) (λ e. e.0) (λ e. e.0) (λ e. e.0) y

  abbrev bare_member : MemberName-F HeldClass HeldExpr HeldItem HeldMember HeldStep HeldPart → MemberLayer
  bare_member y = map-MemberName HeldClass HeldExpr HeldItem HeldMember HeldStep HeldPart
      ClassReference Expr Item MemberName Step StringPart
      (λ e. e.0) (λ e. e.0) (λ e. e.0) (λ e. e.0) (λ e. e.0) (λ e. e.0) y

  abbrev bare_step : Step-F HeldClass HeldExpr HeldItem HeldMember HeldStep HeldPart → StepLayer
  bare_step y = map-Step HeldClass HeldExpr HeldItem HeldMember HeldStep HeldPart ClassReference Expr Item MemberName Step StringPart
      (λ e. e.0) (λ e. e.0) (λ e. e.0) (λ e. e.0) (λ e. e.0) (λ e. e.0) y

  abbrev bare_part : StringPart-F HeldClass HeldExpr HeldItem HeldMember HeldStep HeldPart → PartLayer
  bare_part y = map-StringPart HeldClass HeldExpr HeldItem HeldMember HeldStep HeldPart
      ClassReference Expr Item MemberName Step StringPart
      (λ e. e.0) (λ e. e.0) (λ e. e.0) (λ e. e.0) (λ e. e.0) (λ e. e.0) y

  expr_level : (y : Expr-F HeldClass HeldExpr HeldItem HeldMember HeldStep HeldPart) →
      ReadingGrows (reading_by before context (expr_meant before context (bare_expr y)))
      (reading_by after context (expr_meant after context (bare_expr y)))
  expr_level (Expr-F.Int at n) = valued_grows (give_grows (Int (pos n)))
  expr_level (Expr-F.Text at bytes) = valued_grows (give_grows (Str bytes))
  expr_level (Expr-F.Interpolated at parts) =
      valued_grows (bind_grows (through_grows (parts_hold parts) []) (λ text. give_grows (Str text)))
  expr_level (Expr-F.Variable at name) = variable_grows name
  expr_level (Expr-F.Constant at name) = valued_grows (constant_grows name)
  expr_level (Expr-F.Directory at) =
      formed_grows refl (valued_grows (give_grows (Str (directory_of context.program context.file))))
  expr_level (Expr-F.Array at form items) =
      valued_grows (bind_grows (through_grows (items_hold items) empty_array) (λ elements. give_grows (array_value elements)))
  expr_level (Expr-F.Call at name xs) = valued_grows (call_named_grows ws context name (expressions_hold xs))
  expr_level (Expr-F.StaticCall at class name xs) = valued_grows (static_call_grows name.1 class.1 (expressions_hold xs))
  expr_level (Expr-F.MethodCall at x name xs) = valued_grows (method_call_grows name.1 x.1.value (expressions_hold xs))
  expr_level (Expr-F.New at class xs) = valued_grows (new_grows ws context class.1 (expressions_hold xs))
  expr_level (Expr-F.ClassConstant at class name) = valued_grows (class_constant_grows ws context name class.1)
  expr_level (Expr-F.StaticProperty at class name) = static_path_grows name class.1
  expr_level (Expr-F.Paren at x) = valued_grows x.1.value
  expr_level (Expr-F.Isset at xs) = valued_grows (all_set_grows context.class (expressions_hold xs))
  expr_level (Expr-F.Empty at x) = valued_grows (bind_grows (try_grows context.class x.1) (λ v. give_grows (is_empty_value v)))
  expr_level (Expr-F.Exit at) = valued_grows (end_grows (Exits (pos 0)))
  expr_level (Expr-F.ExitWith at x) = valued_grows (bind_grows x.1.value exit_grows)
  expr_level (Expr-F.Path at x steps) = at_path_grows context.class x.1.base (each_grows (steps_hold steps)) x.1.value
  expr_level (Expr-F.Update at form x) = valued_grows (moved_grows context.class form x.1)
  expr_level (Expr-F.Prefix at op x) = valued_grows (prefix_grows ws context op x.1)
  expr_level (Expr-F.InstanceOf at x classes) = valued_grows (bind_grows x.1.value (instances_grow (classes_hold classes)))
  expr_level (Expr-F.Run at x more) = formed_grows (ap (form_of_run before context) x.1.form)
      (valued_grows (bind_grows x.1.value (run_grows (operators_hold more))))
  expr_level (Expr-F.Pair at op x y) = valued_grows (pair_grows context.class op x.1 y.1)
  expr_level (Expr-F.Ternary at x y z) = valued_grows (ternary_grows x.1.value y.1.value z.1.value)
  expr_level (Expr-F.ShortTernary at x more) = valued_grows (bind_grows x.1.value (short_ternary_grows (expressions_hold more)))
  expr_level (Expr-F.Assign at op x y) = valued_grows (assignment_grows context.class op x.1 y.1)
  expr_level (Expr-F.AssignReference at x y ampersand) = valued_grows (share_grows x.1 y.1)
  expr_level (Expr-F.DynamicCall at x xs) = x.1
  expr_level (Expr-F.ClassName at class colons) = valued_grows (give_grows Null)
  expr_level (Expr-F.Destructure at items x) = x.1
  expr_level (Expr-F.NamedArgument at name x) = x.1

  class_level : (y : ClassReference-F HeldClass HeldExpr HeldItem HeldMember HeldStep HeldPart) →
      ChoiceGrows (class_by before context (class_meant before context (bare_class y)))
      (class_by after context (class_meant after context (bare_class y)))
  class_level (ClassReference-F.ByName at name) = named_class_grows name
  class_level (ClassReference-F.SelfClass at) = self_class_grows context
  class_level (ClassReference-F.Parent at) = parent_class_grows context
  class_level (ClassReference-F.Static at) = static_class_grows
  class_level (ClassReference-F.ByExpression at x) = record { number = fail_grows UndefinedClass; forwards = refl }

  item_level : (y : Item-F HeldClass HeldExpr HeldItem HeldMember HeldStep HeldPart) (elements : Array Value) →
      Grows (item_by before context (item_meant before context (bare_item y)) elements)
      (item_by after context (item_meant after context (bare_item y)) elements)
  item_level (Item-F.Plain at x) elements = bind_grows x.1.value (λ v. add_last_grows v elements)
  item_level (Item-F.Keyed at k x) elements =
      bind_grows k.1.value (λ key. bind_grows x.1.value (λ v. add_keyed_grows key v elements))
  item_level (Item-F.Reference at x) elements = bind_grows x.1.value (λ v. add_last_grows v elements)
  item_level (Item-F.KeyedReference at k x ampersand) elements =
      bind_grows k.1.value (λ key. bind_grows x.1.value (λ v. add_keyed_grows key v elements))
  item_level (Item-F.Hole at) elements = give_grows elements

  member_level : (y : MemberName-F HeldClass HeldExpr HeldItem HeldMember HeldStep HeldPart) →
      member_by before context (member_meant before context (bare_member y))
      ≡ member_by after context (member_meant after context (bare_member y))
  member_level (MemberName-F.Named name) = refl
  member_level (MemberName-F.Computed x) = refl

  property_grows : {name name' : Name} → name ≡ name' → Grows (give (by_property name)) (give (by_property name'))
  property_grows {name} e = subst (λ n. Grows (give (by_property name)) (give (by_property n))) e (give_grows (by_property name))

  step_level : (y : Step-F HeldClass HeldExpr HeldItem HeldMember HeldStep HeldPart) →
      Grows (step_by before context (step_meant before context (bare_step y)))
      (step_by after context (step_meant after context (bare_step y)))
  step_level (Step-F.Index at x) = bind_grows x.1.value (λ key. give_grows (by_key key))
  step_level (Step-F.Append at) = give_grows at_end
  step_level (Step-F.Property at name) = property_grows name.1

  part_level : (y : StringPart-F HeldClass HeldExpr HeldItem HeldMember HeldStep HeldPart) (bytes : List ℕ) →
      Grows (part_by before context (part_meant before context (bare_part y)) bytes)
      (part_by after context (part_meant after context (bare_part y)) bytes)
  part_level (StringPart-F.Piece at bytes) text = give_grows (text ++ bytes)
  part_level (StringPart-F.Interpolation x) text = text_grows x.1.value text

  -- ---- whole trees

  expr_made : (x : ExprLayer) (y : Expr-F HeldClass HeldExpr HeldItem HeldMember HeldStep HeldPart) → bare_expr y ≡ x →
      ExprHolds (roll-Expr x)
  expr_made x y is = subst (λ d. ExprHolds (roll-Expr d)) is
      (by_both ReadingGrows (reading_rolled before context (bare_expr y)) (reading_rolled after context (bare_expr y)) (expr_level y))

  class_made : (x : ClassLayer) (y : ClassReference-F HeldClass HeldExpr HeldItem HeldMember HeldStep HeldPart) → bare_class y ≡ x →
      ClassHolds (roll-ClassReference x)
  class_made x y is = subst (λ d. ClassHolds (roll-ClassReference d)) is
      (by_both ChoiceGrows (class_rolled before context (bare_class y)) (class_rolled after context (bare_class y)) (class_level y))

  item_made : (x : ItemLayer) (y : Item-F HeldClass HeldExpr HeldItem HeldMember HeldStep HeldPart) → bare_item y ≡ x →
      ItemHolds (roll-Item x)
  item_made x y is = subst (λ d. ItemHolds (roll-Item d)) is (λ elements.
      by_both (λ (f g : Array Value → Means (Array Value)). Grows (f elements) (g elements))
      (item_rolled before context (bare_item y)) (item_rolled after context (bare_item y)) (item_level y elements))

  member_made : (x : MemberLayer) (y : MemberName-F HeldClass HeldExpr HeldItem HeldMember HeldStep HeldPart) → bare_member y ≡ x →
      MemberHolds (roll-MemberName x)
  member_made x y is = subst (λ d. MemberHolds (roll-MemberName d)) is
      (member_rolled before context (bare_member y) ∙ member_level y ∙ sym (member_rolled after context (bare_member y)))

  step_made : (x : StepLayer) (y : Step-F HeldClass HeldExpr HeldItem HeldMember HeldStep HeldPart) → bare_step y ≡ x →
      StepHolds (roll-Step x)
  step_made x y is = subst (λ d. StepHolds (roll-Step d)) is
      (by_both (λ m m'. Grows m m') (step_rolled before context (bare_step y)) (step_rolled after context (bare_step y)) (step_level y))

  part_made : (x : PartLayer) (y : StringPart-F HeldClass HeldExpr HeldItem HeldMember HeldStep HeldPart) → bare_part y ≡ x →
      PartHolds (roll-StringPart x)
  part_made x y is = subst (λ d. PartHolds (roll-StringPart d)) is (λ bytes.
      by_both (λ (f g : List ℕ → Means (List ℕ)). Grows (f bytes) (g bytes))
      (part_rolled before context (bare_part y)) (part_rolled after context (bare_part y)) (part_level y bytes))

  pub reading_grows : (x : Expr) → ReadingGrows (reading before context x) (reading after context x)
  reading_grows = ind-Expr ClassHolds ExprHolds ItemHolds MemberHolds StepHolds PartHolds
      class_made expr_made item_made member_made step_made part_made

  pub evaluate_grows : (x : Expr) → Grows (evaluate before context x) (evaluate after context x)
  evaluate_grows x = (reading_grows x).value
