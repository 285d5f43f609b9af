-- What a fold over expressions tells that doesn't look at the numbers of sites, it tells of an expression whose sites are numbered.
use Rattle.std.specs.Prelude.{◌≡◌, ℕ, suc, List, [], ◌∷◌, map}
use Rattle.std.proofs.Common.{refl, ap, sym, ◌∙◌, subst}
use Rattle.hph_ast.specs.declared.token.At.{At}
use Rattle.hph_ast.specs.declared.operator.Binary.{Binary}
use Rattle.hph_ast.specs.declared.expr.Expr.{Expr, roll-Expr}
use Rattle.hph_ast.specs.declared.expr.ClassReference.{ClassReference, roll-ClassReference}
use Rattle.hph_ast.specs.declared.expr.Item.{Item, roll-Item}
use Rattle.hph_ast.specs.declared.expr.MemberName.{MemberName, roll-MemberName}
use Rattle.hph_ast.specs.declared.expr.Step.{Step, roll-Step}
use Rattle.hph_ast.specs.declared.expr.StringPart.{StringPart, roll-StringPart}
use Rattle.hph_ast.specs.declared.expr.ClassReference.TheOpen.{ClassReference-F, Expr-F, Item-F, MemberName-F, Step-F, StringPart-F}
use Rattle.hph_ast.specs.declared.expr.ClassReference.TheFolds.{fold-ClassReference, fold-Expr, fold-Item, fold-MemberName, fold-Step, fold-StringPart, fold-roll-ClassReference, fold-roll-Expr, fold-roll-Item, fold-roll-MemberName, fold-roll-Step, fold-roll-StringPart, ind-Expr, ind-Item, map-ClassReference, map-Expr, map-Item, map-MemberName, map-Step, map-StringPart}
use Rattle.hph_ast.specs.Layers.{ExprLayer, ClassLayer, ItemLayer, MemberLayer, StepLayer, PartLayer}
use Rattle.hph_program.specs.Sites.{Numbered, expression, item, each, operand}
use Rattle.hph_program.specs.Sites as sites
use Rattle.hph_program.proofs.SiteLevels.{class_reference, member_name, step, part, expression_rolled, class_reference_rolled, item_rolled, member_name_rolled, step_rolled, part_rolled}

-- a place without the number of its site
abbrev pub bare : At → At
bare at = record at { site = 0 }

-- what is told of a part, with its sites numbered from any number on
abbrev pub Kept : {A R : Type 0} → (A → R) → (A → Numbered A) → A → Type 0
Kept f number a = (n : ℕ) → f (number a n).0 ≡ f a

-- the same of a list of parts
pub all_kept : {A R : Type 0} (f : A → R) (number : A → Numbered A) (xs : List ((a : A) × Kept f number a)) (n : ℕ) →
    map f (each (map number (map (λ e. e.0) xs)) n).0 ≡ map f (map (λ e. e.0) xs)
all_kept f number [] n = refl
all_kept f number (x ∷ xs) n = λ i. x.1 n i ∷ all_kept f number xs (number x.0 n).1 i

pub each_kept : {A R : Type 0} (f : A → R) (number : A → Numbered A) → ((a : A) → Kept f number a) → (xs : List A) (n : ℕ) →
    map f (each (map number xs) n).0 ≡ map f xs
each_kept f number kept [] n = refl
each_kept f number kept (x ∷ xs) n = λ i. kept x n i ∷ each_kept f number kept xs (number x n).1 i

-- ---- one level without the numbers of sites

module _ {C X I M S P : Type 0} where
  abbrev pub unsited : Expr-F C X I M S P → Expr-F C X I M S P
  unsited (Expr-F.Int at k) = Expr-F.Int (bare at) k
  unsited (Expr-F.Text at bytes) = Expr-F.Text (bare at) bytes
  unsited (Expr-F.Interpolated at parts) = Expr-F.Interpolated (bare at) parts
  unsited (Expr-F.Variable at name) = Expr-F.Variable (bare at) name
  unsited (Expr-F.Constant at name) = Expr-F.Constant (bare at) name
  unsited (Expr-F.Directory at) = Expr-F.Directory (bare at)
  unsited (Expr-F.Array at form items) = Expr-F.Array (bare at) form items
  unsited (Expr-F.Call at name xs) = Expr-F.Call (bare at) name xs
  unsited (Expr-F.DynamicCall at x xs) = Expr-F.DynamicCall (bare at) x xs
  unsited (Expr-F.StaticCall at class name xs) = Expr-F.StaticCall (bare at) class name xs
  unsited (Expr-F.MethodCall at x name xs) = Expr-F.MethodCall (bare at) x name xs
  unsited (Expr-F.New at class xs) = Expr-F.New (bare at) class xs
  unsited (Expr-F.ClassConstant at class name) = Expr-F.ClassConstant (bare at) class name
  unsited (Expr-F.ClassName at class colons) = Expr-F.ClassName (bare at) class colons
  unsited (Expr-F.StaticProperty at class name) = Expr-F.StaticProperty (bare at) class name
  unsited (Expr-F.Paren at x) = Expr-F.Paren (bare at) x
  unsited (Expr-F.Isset at xs) = Expr-F.Isset (bare at) xs
  unsited (Expr-F.Empty at x) = Expr-F.Empty (bare at) x
  unsited (Expr-F.Exit at) = Expr-F.Exit (bare at)
  unsited (Expr-F.ExitWith at x) = Expr-F.ExitWith (bare at) x
  unsited (Expr-F.Path at x steps) = Expr-F.Path (bare at) x steps
  unsited (Expr-F.Update at form x) = Expr-F.Update (bare at) form x
  unsited (Expr-F.Prefix at op x) = Expr-F.Prefix (bare at) op x
  unsited (Expr-F.InstanceOf at x classes) = Expr-F.InstanceOf (bare at) x classes
  unsited (Expr-F.Run at x more) = Expr-F.Run (bare at) x more
  unsited (Expr-F.Pair at op x y) = Expr-F.Pair (bare at) op x y
  unsited (Expr-F.Ternary at x y z) = Expr-F.Ternary (bare at) x y z
  unsited (Expr-F.ShortTernary at x more) = Expr-F.ShortTernary (bare at) x more
  unsited (Expr-F.Assign at op x y) = Expr-F.Assign (bare at) op x y
  unsited (Expr-F.AssignReference at x y ampersand) = Expr-F.AssignReference (bare at) x y ampersand
  unsited (Expr-F.Destructure at items x) = Expr-F.Destructure (bare at) items x
  unsited (Expr-F.NamedArgument at name x) = Expr-F.NamedArgument (bare at) name x

  abbrev pub unsited_class : ClassReference-F C X I M S P → ClassReference-F C X I M S P
  unsited_class (ClassReference-F.ByName at name) = ClassReference-F.ByName (bare at) name
  unsited_class (ClassReference-F.SelfClass at) = ClassReference-F.SelfClass (bare at)
  unsited_class (ClassReference-F.Parent at) = ClassReference-F.Parent (bare at)
  unsited_class (ClassReference-F.Static at) = ClassReference-F.Static (bare at)
  unsited_class (ClassReference-F.ByExpression at x) = ClassReference-F.ByExpression (bare at) x

  abbrev pub unsited_item : Item-F C X I M S P → Item-F C X I M S P
  unsited_item (Item-F.Plain at x) = Item-F.Plain (bare at) x
  unsited_item (Item-F.Keyed at x y) = Item-F.Keyed (bare at) x y
  unsited_item (Item-F.Reference at x) = Item-F.Reference (bare at) x
  unsited_item (Item-F.KeyedReference at x y ampersand) = Item-F.KeyedReference (bare at) x y ampersand
  unsited_item (Item-F.Hole at) = Item-F.Hole (bare at)

  abbrev pub unsited_name : MemberName-F C X I M S P → MemberName-F C X I M S P
  unsited_name (MemberName-F.Named name) = MemberName-F.Named name
  unsited_name (MemberName-F.Computed x) = MemberName-F.Computed x

  abbrev pub unsited_step : Step-F C X I M S P → Step-F C X I M S P
  unsited_step (Step-F.Index at x) = Step-F.Index (bare at) x
  unsited_step (Step-F.Append at) = Step-F.Append (bare at)
  unsited_step (Step-F.Property at name) = Step-F.Property (bare at) name

  abbrev pub unsited_part : StringPart-F C X I M S P → StringPart-F C X I M S P
  unsited_part (StringPart-F.Piece at bytes) = StringPart-F.Piece (bare at) bytes
  unsited_part (StringPart-F.Interpolation x) = StringPart-F.Interpolation x

module _ {C X I M S P : Type 0}
    (ca : ClassReference-F C X I M S P → C) (ea : Expr-F C X I M S P → X) (ia : Item-F C X I M S P → I)
    (ma : MemberName-F C X I M S P → M) (sa : Step-F C X I M S P → S) (pa : StringPart-F C X I M S P → P) where
  abbrev pub class_value : ClassReference → C
  class_value = fold-ClassReference C X I M S P ca ea ia ma sa pa

  abbrev pub value : Expr → X
  value = fold-Expr C X I M S P ca ea ia ma sa pa

  abbrev pub item_value : Item → I
  item_value = fold-Item C X I M S P ca ea ia ma sa pa

  abbrev pub name_value : MemberName → M
  name_value = fold-MemberName C X I M S P ca ea ia ma sa pa

  abbrev pub step_value : Step → S
  step_value = fold-Step C X I M S P ca ea ia ma sa pa

  abbrev pub part_value : StringPart → P
  part_value = fold-StringPart C X I M S P ca ea ia ma sa pa

  -- a fold that doesn't look at them
  pub record IgnoresSites : Type 0 where
    pub class : (d : ClassReference-F C X I M S P) → ca (unsited_class d) ≡ ca d
    pub expression : (d : Expr-F C X I M S P) → ea (unsited d) ≡ ea d
    pub item : (d : Item-F C X I M S P) → ia (unsited_item d) ≡ ia d
    pub step : (d : Step-F C X I M S P) → sa (unsited_step d) ≡ sa d
    pub part : (d : StringPart-F C X I M S P) → pa (unsited_part d) ≡ pa d

  module _ (ignores : IgnoresSites) where
    unsited_class_alike : (c d : ClassLayer) → unsited_class (map-ClassReference ClassReference Expr Item MemberName Step StringPart C X I M S P class_value value item_value name_value step_value part_value c) ≡ unsited_class (map-ClassReference ClassReference Expr Item MemberName Step StringPart C X I M S P class_value value item_value name_value step_value part_value d) → class_value (roll-ClassReference c) ≡ class_value (roll-ClassReference d)
    unsited_class_alike c d e = fold-roll-ClassReference C X I M S P ca ea ia ma sa pa c ∙ sym (ignores.class (map-ClassReference ClassReference Expr Item MemberName Step StringPart C X I M S P class_value value item_value name_value step_value part_value c)) ∙ ap ca e
        ∙ ignores.class (map-ClassReference ClassReference Expr Item MemberName Step StringPart C X I M S P class_value value item_value name_value step_value part_value d) ∙ sym (fold-roll-ClassReference C X I M S P ca ea ia ma sa pa d)

    unsited_alike : (c d : ExprLayer) → unsited (map-Expr ClassReference Expr Item MemberName Step StringPart C X I M S P class_value value item_value name_value step_value part_value c) ≡ unsited (map-Expr ClassReference Expr Item MemberName Step StringPart C X I M S P class_value value item_value name_value step_value part_value d) → value (roll-Expr c) ≡ value (roll-Expr d)
    unsited_alike c d e = fold-roll-Expr C X I M S P ca ea ia ma sa pa c ∙ sym (ignores.expression (map-Expr ClassReference Expr Item MemberName Step StringPart C X I M S P class_value value item_value name_value step_value part_value c)) ∙ ap ea e
        ∙ ignores.expression (map-Expr ClassReference Expr Item MemberName Step StringPart C X I M S P class_value value item_value name_value step_value part_value d) ∙ sym (fold-roll-Expr C X I M S P ca ea ia ma sa pa d)

    unsited_item_alike : (c d : ItemLayer) → unsited_item (map-Item ClassReference Expr Item MemberName Step StringPart C X I M S P class_value value item_value name_value step_value part_value c) ≡ unsited_item (map-Item ClassReference Expr Item MemberName Step StringPart C X I M S P class_value value item_value name_value step_value part_value d) → item_value (roll-Item c) ≡ item_value (roll-Item d)
    unsited_item_alike c d e = fold-roll-Item C X I M S P ca ea ia ma sa pa c ∙ sym (ignores.item (map-Item ClassReference Expr Item MemberName Step StringPart C X I M S P class_value value item_value name_value step_value part_value c)) ∙ ap ia e
        ∙ ignores.item (map-Item ClassReference Expr Item MemberName Step StringPart C X I M S P class_value value item_value name_value step_value part_value d) ∙ sym (fold-roll-Item C X I M S P ca ea ia ma sa pa d)

    unsited_name_alike : (c d : MemberLayer) → map-MemberName ClassReference Expr Item MemberName Step StringPart C X I M S P class_value value item_value name_value step_value part_value c ≡ map-MemberName ClassReference Expr Item MemberName Step StringPart C X I M S P class_value value item_value name_value step_value part_value d → name_value (roll-MemberName c) ≡ name_value (roll-MemberName d)
    unsited_name_alike c d e = fold-roll-MemberName C X I M S P ca ea ia ma sa pa c ∙ ap ma e ∙ sym (fold-roll-MemberName C X I M S P ca ea ia ma sa pa d)

    unsited_step_alike : (c d : StepLayer) → unsited_step (map-Step ClassReference Expr Item MemberName Step StringPart C X I M S P class_value value item_value name_value step_value part_value c) ≡ unsited_step (map-Step ClassReference Expr Item MemberName Step StringPart C X I M S P class_value value item_value name_value step_value part_value d) → step_value (roll-Step c) ≡ step_value (roll-Step d)
    unsited_step_alike c d e = fold-roll-Step C X I M S P ca ea ia ma sa pa c ∙ sym (ignores.step (map-Step ClassReference Expr Item MemberName Step StringPart C X I M S P class_value value item_value name_value step_value part_value c)) ∙ ap sa e
        ∙ ignores.step (map-Step ClassReference Expr Item MemberName Step StringPart C X I M S P class_value value item_value name_value step_value part_value d) ∙ sym (fold-roll-Step C X I M S P ca ea ia ma sa pa d)

    unsited_part_alike : (c d : PartLayer) → unsited_part (map-StringPart ClassReference Expr Item MemberName Step StringPart C X I M S P class_value value item_value name_value step_value part_value c) ≡ unsited_part (map-StringPart ClassReference Expr Item MemberName Step StringPart C X I M S P class_value value item_value name_value step_value part_value d) → part_value (roll-StringPart c) ≡ part_value (roll-StringPart d)
    unsited_part_alike c d e = fold-roll-StringPart C X I M S P ca ea ia ma sa pa c ∙ sym (ignores.part (map-StringPart ClassReference Expr Item MemberName Step StringPart C X I M S P class_value value item_value name_value step_value part_value c)) ∙ ap pa e
        ∙ ignores.part (map-StringPart ClassReference Expr Item MemberName Step StringPart C X I M S P class_value value item_value name_value step_value part_value d) ∙ sym (fold-roll-StringPart C X I M S P ca ea ia ma sa pa d)

    -- ---- what holds of a tree and of its parts

    abbrev ClassHolds : ClassReference → Type 0
    ClassHolds x = Kept class_value class_reference x

    abbrev ExprHolds : Expr → Type 0
    ExprHolds x = Kept value expression x

    abbrev ItemHolds : Item → Type 0
    ItemHolds x = Kept item_value item x

    abbrev MemberHolds : MemberName → Type 0
    MemberHolds x = Kept name_value member_name x

    abbrev StepHolds : Step → Type 0
    StepHolds x = Kept step_value step x

    abbrev PartHolds : StringPart → Type 0
    PartHolds x = Kept part_value part x

    abbrev HeldClass : Type 0
    HeldClass = (x : ClassReference) × ClassHolds x

    abbrev HeldExpr : Type 0
    HeldExpr = (x : Expr) × ExprHolds x

    abbrev HeldItem : Type 0
    HeldItem = (x : Item) × ItemHolds x

    abbrev HeldMember : Type 0
    HeldMember = (x : MemberName) × MemberHolds x

    abbrev HeldStep : Type 0
    HeldStep = (x : Step) × StepHolds x

    abbrev HeldPart : Type 0
    HeldPart = (x : StringPart) × PartHolds x

    abbrev only_class : ClassReference-F HeldClass HeldExpr HeldItem HeldMember HeldStep HeldPart → ClassLayer
    only_class y = map-ClassReference HeldClass HeldExpr HeldItem HeldMember HeldStep HeldPart ClassReference Expr Item MemberName Step StringPart (λ e. e.0) (λ e. e.0) (λ e. e.0) (λ e. e.0) (λ e. e.0) (λ e. e.0) y

    abbrev only_expression : Expr-F HeldClass HeldExpr HeldItem HeldMember HeldStep HeldPart → ExprLayer
    only_expression y = map-Expr HeldClass HeldExpr HeldItem HeldMember HeldStep HeldPart ClassReference Expr Item MemberName Step StringPart (λ e. e.0) (λ e. e.0) (λ e. e.0) (λ e. e.0) (λ e. e.0) (λ e. e.0) y

    abbrev only_item : Item-F HeldClass HeldExpr HeldItem HeldMember HeldStep HeldPart → ItemLayer
    only_item y = map-Item HeldClass HeldExpr HeldItem HeldMember HeldStep HeldPart ClassReference Expr Item MemberName Step StringPart (λ e. e.0) (λ e. e.0) (λ e. e.0) (λ e. e.0) (λ e. e.0) (λ e. e.0) y

    abbrev only_name : MemberName-F HeldClass HeldExpr HeldItem HeldMember HeldStep HeldPart → MemberLayer
    only_name y = map-MemberName HeldClass HeldExpr HeldItem HeldMember HeldStep HeldPart ClassReference Expr Item MemberName Step StringPart (λ e. e.0) (λ e. e.0) (λ e. e.0) (λ e. e.0) (λ e. e.0) (λ e. e.0) y

    abbrev only_step : Step-F HeldClass HeldExpr HeldItem HeldMember HeldStep HeldPart → StepLayer
    only_step y = map-Step HeldClass HeldExpr HeldItem HeldMember HeldStep HeldPart ClassReference Expr Item MemberName Step StringPart (λ e. e.0) (λ e. e.0) (λ e. e.0) (λ e. e.0) (λ e. e.0) (λ e. e.0) y

    abbrev only_part : StringPart-F HeldClass HeldExpr HeldItem HeldMember HeldStep HeldPart → PartLayer
    only_part y = map-StringPart HeldClass HeldExpr HeldItem HeldMember HeldStep HeldPart ClassReference Expr Item MemberName Step StringPart (λ e. e.0) (λ e. e.0) (λ e. e.0) (λ e. e.0) (λ e. e.0) (λ e. e.0) y

    -- ---- lists of parts

    abbrev operand_value : Binary × Expr → Binary × X
    operand_value o = (o.0, value o.1)

    abbrev numbered_operand : Binary × Expr → Binary × Numbered Expr
    numbered_operand o = (o.0, expression o.1)

    abbrev only_operand : Binary × HeldExpr → Binary × Expr
    only_operand o = (o.0, o.1.0)

    operands_kept : (os : List (Binary × HeldExpr)) (n : ℕ) →
        map operand_value (each (map operand (map numbered_operand (map only_operand os))) n).0 ≡ map operand_value (map only_operand os)
    operands_kept [] n = refl
    operands_kept (o ∷ os) n = λ i. (o.0, o.1.1 n i) ∷ operands_kept os (expression o.1.0 n).1 i

    -- ---- one level

    expression_level : (y : Expr-F HeldClass HeldExpr HeldItem HeldMember HeldStep HeldPart) (n : ℕ) →
        value (sites.expression_by (map-Expr ClassReference Expr Item MemberName Step StringPart (Numbered ClassReference) (Numbered Expr) (Numbered Item) (Numbered MemberName) (Numbered Step) (Numbered StringPart) class_reference expression item member_name step part (only_expression y)) n).0 ≡ value (roll-Expr (only_expression y))
    expression_level (Expr-F.Int at k) n = unsited_alike _ (only_expression (Expr-F.Int at k)) (λ i. Expr-F.Int (bare at) k)
    expression_level (Expr-F.Text at bytes) n = unsited_alike _ (only_expression (Expr-F.Text at bytes)) (λ i. Expr-F.Text (bare at) bytes)
    expression_level (Expr-F.Interpolated at parts) n = unsited_alike _ (only_expression (Expr-F.Interpolated at parts)) (λ i. Expr-F.Interpolated (bare at) (all_kept part_value part parts (suc n) i))
    expression_level (Expr-F.Variable at name) n = unsited_alike _ (only_expression (Expr-F.Variable at name)) (λ i. Expr-F.Variable (bare at) name)
    expression_level (Expr-F.Constant at name) n = unsited_alike _ (only_expression (Expr-F.Constant at name)) (λ i. Expr-F.Constant (bare at) name)
    expression_level (Expr-F.Directory at) n = unsited_alike _ (only_expression (Expr-F.Directory at)) (λ i. Expr-F.Directory (bare at))
    expression_level (Expr-F.Array at form items) n = unsited_alike _ (only_expression (Expr-F.Array at form items)) (λ i. Expr-F.Array (bare at) form (all_kept item_value item items (suc n) i))
    expression_level (Expr-F.Call at name xs) n = unsited_alike _ (only_expression (Expr-F.Call at name xs)) (λ i. Expr-F.Call (bare at) name (all_kept value expression xs (suc n) i))
    expression_level (Expr-F.DynamicCall at x xs) n = unsited_alike _ (only_expression (Expr-F.DynamicCall at x xs)) (λ i. Expr-F.DynamicCall (bare at) (x.1 (suc n) i) (all_kept value expression xs (expression x.0 (suc n)).1 i))
    expression_level (Expr-F.StaticCall at class name xs) n = unsited_alike _ (only_expression (Expr-F.StaticCall at class name xs)) (λ i. Expr-F.StaticCall (bare at) (class.1 (suc n) i) (name.1 (class_reference class.0 (suc n)).1 i) (all_kept value expression xs (member_name name.0 (class_reference class.0 (suc n)).1).1 i))
    expression_level (Expr-F.MethodCall at x name xs) n = unsited_alike _ (only_expression (Expr-F.MethodCall at x name xs)) (λ i. Expr-F.MethodCall (bare at) (x.1 (suc n) i) (name.1 (expression x.0 (suc n)).1 i) (all_kept value expression xs (member_name name.0 (expression x.0 (suc n)).1).1 i))
    expression_level (Expr-F.New at class xs) n = unsited_alike _ (only_expression (Expr-F.New at class xs)) (λ i. Expr-F.New (bare at) (class.1 (suc n) i) (all_kept value expression xs (class_reference class.0 (suc n)).1 i))
    expression_level (Expr-F.ClassConstant at class name) n = unsited_alike _ (only_expression (Expr-F.ClassConstant at class name)) (λ i. Expr-F.ClassConstant (bare at) (class.1 (suc n) i) name)
    expression_level (Expr-F.ClassName at class colons) n = unsited_alike _ (only_expression (Expr-F.ClassName at class colons)) (λ i. Expr-F.ClassName (bare at) (class.1 (suc n) i) colons)
    expression_level (Expr-F.StaticProperty at class name) n = unsited_alike _ (only_expression (Expr-F.StaticProperty at class name)) (λ i. Expr-F.StaticProperty (bare at) (class.1 (suc n) i) name)
    expression_level (Expr-F.Paren at x) n = unsited_alike _ (only_expression (Expr-F.Paren at x)) (λ i. Expr-F.Paren (bare at) (x.1 (suc n) i))
    expression_level (Expr-F.Isset at xs) n = unsited_alike _ (only_expression (Expr-F.Isset at xs)) (λ i. Expr-F.Isset (bare at) (all_kept value expression xs (suc n) i))
    expression_level (Expr-F.Empty at x) n = unsited_alike _ (only_expression (Expr-F.Empty at x)) (λ i. Expr-F.Empty (bare at) (x.1 (suc n) i))
    expression_level (Expr-F.Exit at) n = unsited_alike _ (only_expression (Expr-F.Exit at)) (λ i. Expr-F.Exit (bare at))
    expression_level (Expr-F.ExitWith at x) n = unsited_alike _ (only_expression (Expr-F.ExitWith at x)) (λ i. Expr-F.ExitWith (bare at) (x.1 (suc n) i))
    expression_level (Expr-F.Path at x steps) n = unsited_alike _ (only_expression (Expr-F.Path at x steps)) (λ i. Expr-F.Path (bare at) (x.1 (suc n) i) (all_kept step_value step steps (expression x.0 (suc n)).1 i))
    expression_level (Expr-F.Update at form x) n = unsited_alike _ (only_expression (Expr-F.Update at form x)) (λ i. Expr-F.Update (bare at) form (x.1 (suc n) i))
    expression_level (Expr-F.Prefix at op x) n = unsited_alike _ (only_expression (Expr-F.Prefix at op x)) (λ i. Expr-F.Prefix (bare at) op (x.1 (suc n) i))
    expression_level (Expr-F.InstanceOf at x classes) n = unsited_alike _ (only_expression (Expr-F.InstanceOf at x classes)) (λ i. Expr-F.InstanceOf (bare at) (x.1 (suc n) i) (all_kept class_value class_reference classes (expression x.0 (suc n)).1 i))
    expression_level (Expr-F.Run at x more) n = unsited_alike _ (only_expression (Expr-F.Run at x more)) (λ i. Expr-F.Run (bare at) (x.1 (suc n) i) (operands_kept more (expression x.0 (suc n)).1 i))
    expression_level (Expr-F.Pair at op x y) n = unsited_alike _ (only_expression (Expr-F.Pair at op x y)) (λ i. Expr-F.Pair (bare at) op (x.1 (suc n) i) (y.1 (expression x.0 (suc n)).1 i))
    expression_level (Expr-F.Ternary at x y z) n = unsited_alike _ (only_expression (Expr-F.Ternary at x y z)) (λ i. Expr-F.Ternary (bare at) (x.1 (suc n) i) (y.1 (expression x.0 (suc n)).1 i) (z.1 (expression y.0 (expression x.0 (suc n)).1).1 i))
    expression_level (Expr-F.ShortTernary at x more) n = unsited_alike _ (only_expression (Expr-F.ShortTernary at x more)) (λ i. Expr-F.ShortTernary (bare at) (x.1 (suc n) i) (all_kept value expression more (expression x.0 (suc n)).1 i))
    expression_level (Expr-F.Assign at op x y) n = unsited_alike _ (only_expression (Expr-F.Assign at op x y)) (λ i. Expr-F.Assign (bare at) op (x.1 (suc n) i) (y.1 (expression x.0 (suc n)).1 i))
    expression_level (Expr-F.AssignReference at x y ampersand) n = unsited_alike _ (only_expression (Expr-F.AssignReference at x y ampersand)) (λ i. Expr-F.AssignReference (bare at) (x.1 (suc n) i) (y.1 (expression x.0 (suc n)).1 i) ampersand)
    expression_level (Expr-F.Destructure at items x) n = unsited_alike _ (only_expression (Expr-F.Destructure at items x)) (λ i. Expr-F.Destructure (bare at) (all_kept item_value item items (suc n) i) (x.1 (each (map item (map (λ e. e.0) items)) (suc n)).1 i))
    expression_level (Expr-F.NamedArgument at name x) n = unsited_alike _ (only_expression (Expr-F.NamedArgument at name x)) (λ i. Expr-F.NamedArgument (bare at) name (x.1 (suc n) i))

    class_level : (y : ClassReference-F HeldClass HeldExpr HeldItem HeldMember HeldStep HeldPart) (n : ℕ) →
        class_value (sites.class_by (map-ClassReference ClassReference Expr Item MemberName Step StringPart (Numbered ClassReference) (Numbered Expr) (Numbered Item) (Numbered MemberName) (Numbered Step) (Numbered StringPart) class_reference expression item member_name step part (only_class y)) n).0 ≡ class_value (roll-ClassReference (only_class y))
    class_level (ClassReference-F.ByName at name) n = unsited_class_alike _ (only_class (ClassReference-F.ByName at name)) (λ i. ClassReference-F.ByName (bare at) name)
    class_level (ClassReference-F.SelfClass at) n = unsited_class_alike _ (only_class (ClassReference-F.SelfClass at)) (λ i. ClassReference-F.SelfClass (bare at))
    class_level (ClassReference-F.Parent at) n = unsited_class_alike _ (only_class (ClassReference-F.Parent at)) (λ i. ClassReference-F.Parent (bare at))
    class_level (ClassReference-F.Static at) n = unsited_class_alike _ (only_class (ClassReference-F.Static at)) (λ i. ClassReference-F.Static (bare at))
    class_level (ClassReference-F.ByExpression at x) n = unsited_class_alike _ (only_class (ClassReference-F.ByExpression at x)) (λ i. ClassReference-F.ByExpression (bare at) (x.1 (suc n) i))

    item_level : (y : Item-F HeldClass HeldExpr HeldItem HeldMember HeldStep HeldPart) (n : ℕ) →
        item_value (sites.item_by (map-Item ClassReference Expr Item MemberName Step StringPart (Numbered ClassReference) (Numbered Expr) (Numbered Item) (Numbered MemberName) (Numbered Step) (Numbered StringPart) class_reference expression item member_name step part (only_item y)) n).0 ≡ item_value (roll-Item (only_item y))
    item_level (Item-F.Plain at x) n = unsited_item_alike _ (only_item (Item-F.Plain at x)) (λ i. Item-F.Plain (bare at) (x.1 (suc n) i))
    item_level (Item-F.Keyed at x y) n = unsited_item_alike _ (only_item (Item-F.Keyed at x y)) (λ i. Item-F.Keyed (bare at) (x.1 (suc n) i) (y.1 (expression x.0 (suc n)).1 i))
    item_level (Item-F.Reference at x) n = unsited_item_alike _ (only_item (Item-F.Reference at x)) (λ i. Item-F.Reference (bare at) (x.1 (suc n) i))
    item_level (Item-F.KeyedReference at x y ampersand) n = unsited_item_alike _ (only_item (Item-F.KeyedReference at x y ampersand)) (λ i. Item-F.KeyedReference (bare at) (x.1 (suc n) i) (y.1 (expression x.0 (suc n)).1 i) ampersand)
    item_level (Item-F.Hole at) n = unsited_item_alike _ (only_item (Item-F.Hole at)) (λ i. Item-F.Hole (bare at))

    name_level : (y : MemberName-F HeldClass HeldExpr HeldItem HeldMember HeldStep HeldPart) (n : ℕ) →
        name_value (sites.member_name_by (map-MemberName ClassReference Expr Item MemberName Step StringPart (Numbered ClassReference) (Numbered Expr) (Numbered Item) (Numbered MemberName) (Numbered Step) (Numbered StringPart) class_reference expression item member_name step part (only_name y)) n).0 ≡ name_value (roll-MemberName (only_name y))
    name_level (MemberName-F.Named name) n = unsited_name_alike _ (only_name (MemberName-F.Named name)) (λ i. MemberName-F.Named name)
    name_level (MemberName-F.Computed x) n = unsited_name_alike _ (only_name (MemberName-F.Computed x)) (λ i. MemberName-F.Computed (x.1 n i))

    step_level : (y : Step-F HeldClass HeldExpr HeldItem HeldMember HeldStep HeldPart) (n : ℕ) →
        step_value (sites.step_by (map-Step ClassReference Expr Item MemberName Step StringPart (Numbered ClassReference) (Numbered Expr) (Numbered Item) (Numbered MemberName) (Numbered Step) (Numbered StringPart) class_reference expression item member_name step part (only_step y)) n).0 ≡ step_value (roll-Step (only_step y))
    step_level (Step-F.Index at x) n = unsited_step_alike _ (only_step (Step-F.Index at x)) (λ i. Step-F.Index (bare at) (x.1 (suc n) i))
    step_level (Step-F.Append at) n = unsited_step_alike _ (only_step (Step-F.Append at)) (λ i. Step-F.Append (bare at))
    step_level (Step-F.Property at name) n = unsited_step_alike _ (only_step (Step-F.Property at name)) (λ i. Step-F.Property (bare at) (name.1 (suc n) i))

    part_level : (y : StringPart-F HeldClass HeldExpr HeldItem HeldMember HeldStep HeldPart) (n : ℕ) →
        part_value (sites.part_by (map-StringPart ClassReference Expr Item MemberName Step StringPart (Numbered ClassReference) (Numbered Expr) (Numbered Item) (Numbered MemberName) (Numbered Step) (Numbered StringPart) class_reference expression item member_name step part (only_part y)) n).0 ≡ part_value (roll-StringPart (only_part y))
    part_level (StringPart-F.Piece at bytes) n = unsited_part_alike _ (only_part (StringPart-F.Piece at bytes)) (λ i. StringPart-F.Piece (bare at) bytes)
    part_level (StringPart-F.Interpolation x) n = unsited_part_alike _ (only_part (StringPart-F.Interpolation x)) (λ i. StringPart-F.Interpolation (x.1 n i))

    -- ---- whole trees

    expression_made : (x : ExprLayer) (y : Expr-F HeldClass HeldExpr HeldItem HeldMember HeldStep HeldPart) → only_expression y ≡ x → ExprHolds (roll-Expr x)
    expression_made x y is = subst (λ d. ExprHolds (roll-Expr d)) is (λ n. ap (λ r. value r.0) (expression_rolled (only_expression y) n) ∙ expression_level y n)

    class_made : (x : ClassLayer) (y : ClassReference-F HeldClass HeldExpr HeldItem HeldMember HeldStep HeldPart) → only_class y ≡ x → ClassHolds (roll-ClassReference x)
    class_made x y is = subst (λ d. ClassHolds (roll-ClassReference d)) is (λ n. ap (λ r. class_value r.0) (class_reference_rolled (only_class y) n) ∙ class_level y n)

    item_made : (x : ItemLayer) (y : Item-F HeldClass HeldExpr HeldItem HeldMember HeldStep HeldPart) → only_item y ≡ x → ItemHolds (roll-Item x)
    item_made x y is = subst (λ d. ItemHolds (roll-Item d)) is (λ n. ap (λ r. item_value r.0) (item_rolled (only_item y) n) ∙ item_level y n)

    name_made : (x : MemberLayer) (y : MemberName-F HeldClass HeldExpr HeldItem HeldMember HeldStep HeldPart) → only_name y ≡ x → MemberHolds (roll-MemberName x)
    name_made x y is = subst (λ d. MemberHolds (roll-MemberName d)) is (λ n. ap (λ r. name_value r.0) (member_name_rolled (only_name y) n) ∙ name_level y n)

    step_made : (x : StepLayer) (y : Step-F HeldClass HeldExpr HeldItem HeldMember HeldStep HeldPart) → only_step y ≡ x → StepHolds (roll-Step x)
    step_made x y is = subst (λ d. StepHolds (roll-Step d)) is (λ n. ap (λ r. step_value r.0) (step_rolled (only_step y) n) ∙ step_level y n)

    part_made : (x : PartLayer) (y : StringPart-F HeldClass HeldExpr HeldItem HeldMember HeldStep HeldPart) → only_part y ≡ x → PartHolds (roll-StringPart x)
    part_made x y is = subst (λ d. PartHolds (roll-StringPart d)) is (λ n. ap (λ r. part_value r.0) (part_rolled (only_part y) n) ∙ part_level y n)

    pub expression_kept : (x : Expr) → Kept value expression x
    expression_kept = ind-Expr ClassHolds ExprHolds ItemHolds MemberHolds StepHolds PartHolds class_made expression_made item_made name_made step_made part_made

    pub item_kept : (x : Item) → Kept item_value item x
    item_kept = ind-Item ClassHolds ExprHolds ItemHolds MemberHolds StepHolds PartHolds class_made expression_made item_made name_made step_made part_made
