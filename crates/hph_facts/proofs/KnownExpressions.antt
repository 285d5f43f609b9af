-- Expressions with what they mean. Each is a node of the grammar over parts of this kind, and its meaning is put together from
-- those of its parts by the equation of the node; so it is computed without going through the tree.
use Rattle.std.specs.Prelude.{◌≡◌, List, [], ◌∷◌, map, refl}
use Rattle.std.proofs.Common.{ap, ◌∙◌}
use Rattle.hph_ast.specs.declared.token.At.{At}
use Rattle.hph_ast.specs.declared.expr.Expr.{Expr, roll-Expr}
use Rattle.hph_ast.specs.declared.expr.ClassReference.{ClassReference, roll-ClassReference}
use Rattle.hph_ast.specs.declared.expr.Item.{Item, roll-Item}
use Rattle.hph_ast.specs.declared.expr.MemberName.{MemberName, roll-MemberName}
use Rattle.hph_ast.specs.declared.expr.Step.{Step, roll-Step}
use Rattle.hph_ast.specs.declared.expr.StringPart.{StringPart, roll-StringPart}
use Rattle.hph_ast.specs.declared.expr.ClassReference.TheOpen.{ClassReference-F, Expr-F, Item-F, MemberName-F, Step-F, StringPart-F}
use Rattle.hph_ast.specs.declared.expr.ClassReference.TheFolds.{map-ClassReference, map-Expr, map-Item, map-MemberName, map-Step, map-StringPart}
use Rattle.hph_ast.specs.declared.operator.Binary.{Binary}
use Rattle.hph_php.specs.Answers.{Means}
use Rattle.hph_php.specs.State.{Name}
use Rattle.hph_php.specs.Paths.{PathStep}
use Rattle.hph_php.specs.World.{World, Context}
use Rattle.hph_php.specs.Targets.{Reading}
use Rattle.hph_php.specs.Classes.{ClassChoice}
use Rattle.hph_php.specs.Expressions.{Elements, Pieces, reading, reading_by, class_by, item_by, member_by, step_by, part_by}
use Rattle.hph_php.proofs.Levels.{class_meaning, item_meaning, member_meaning, step_meaning, part_meaning, reading_rolled, class_rolled, item_rolled, member_rolled, step_rolled, part_rolled}

abbrev pub at0 : At
at0 = record { start = 0; end = 0; site = 0 }

-- ---- parts with their meanings

pub record KnownExpression : Type 0 where
  pub tree : Expr
  pub means : World → Context → Reading
  pub is : (w : World) (c : Context) → reading w c tree ≡ means w c

pub record KnownClass : Type 0 where
  pub tree : ClassReference
  pub means : World → Context → ClassChoice
  pub is : (w : World) (c : Context) → class_meaning w c tree ≡ means w c

pub record KnownItem : Type 0 where
  pub tree : Item
  pub means : (w : World) (c : Context) → Elements w c
  pub is : (w : World) (c : Context) → item_meaning w c tree ≡ means w c

pub record KnownMember : Type 0 where
  pub tree : MemberName
  pub means : World → Context → Name
  pub is : (w : World) (c : Context) → member_meaning w c tree ≡ means w c

pub record KnownStep : Type 0 where
  pub tree : Step
  pub means : World → Context → Means PathStep
  pub is : (w : World) (c : Context) → step_meaning w c tree ≡ means w c

pub record KnownPart : Type 0 where
  pub tree : StringPart
  pub means : (w : World) (c : Context) → Pieces w c
  pub is : (w : World) (c : Context) → part_meaning w c tree ≡ means w c

-- ---- a map of a map

pub map_map : {A B C : Type 0} (g : B → C) (f : A → B) (xs : List A) → map g (map f xs) ≡ map (λ x. g (f x)) xs
map_map g f [] = refl
map_map g f (x ∷ xs) = λ i. g (f x) ∷ map_map g f xs i

module _ {C X I M S P C' X' I' M' S' P' C2 X2 I2 M2 S2 P2 : Type 0}
    (c : C → C') (x : X → X') (i : I → I') (m : M → M') (s : S → S') (p : P → P')
    (c' : C' → C2) (x' : X' → X2) (i' : I' → I2) (m' : M' → M2) (s' : S' → S2) (p' : P' → P2) where
  pub mapped_class : (d : ClassReference-F C X I M S P) →
      map-ClassReference C' X' I' M' S' P' C2 X2 I2 M2 S2 P2 c' x' i' m' s' p' (map-ClassReference C X I M S P C' X' I' M' S' P' c x i m s p d)
      ≡ map-ClassReference C X I M S P C2 X2 I2 M2 S2 P2 (λ a. c' (c a)) (λ a. x' (x a)) (λ a. i' (i a)) (λ a. m' (m a)) (λ a. s' (s a)) (λ a. p' (p a)) d
  mapped_class (ClassReference-F.ByName at name) = refl
  mapped_class (ClassReference-F.SelfClass at) = refl
  mapped_class (ClassReference-F.Parent at) = refl
  mapped_class (ClassReference-F.Static at) = refl
  mapped_class (ClassReference-F.ByExpression at y) = refl

  pub mapped_item : (d : Item-F C X I M S P) →
      map-Item C' X' I' M' S' P' C2 X2 I2 M2 S2 P2 c' x' i' m' s' p' (map-Item C X I M S P C' X' I' M' S' P' c x i m s p d)
      ≡ map-Item C X I M S P C2 X2 I2 M2 S2 P2 (λ a. c' (c a)) (λ a. x' (x a)) (λ a. i' (i a)) (λ a. m' (m a)) (λ a. s' (s a)) (λ a. p' (p a)) d
  mapped_item (Item-F.Plain at y) = refl
  mapped_item (Item-F.Keyed at k y) = refl
  mapped_item (Item-F.Reference at y) = refl
  mapped_item (Item-F.KeyedReference at k y ampersand) = refl
  mapped_item (Item-F.Hole at) = refl

  pub mapped_member : (d : MemberName-F C X I M S P) →
      map-MemberName C' X' I' M' S' P' C2 X2 I2 M2 S2 P2 c' x' i' m' s' p' (map-MemberName C X I M S P C' X' I' M' S' P' c x i m s p d)
      ≡ map-MemberName C X I M S P C2 X2 I2 M2 S2 P2 (λ a. c' (c a)) (λ a. x' (x a)) (λ a. i' (i a)) (λ a. m' (m a)) (λ a. s' (s a)) (λ a. p' (p a)) d
  mapped_member (MemberName-F.Named name) = refl
  mapped_member (MemberName-F.Computed y) = refl

  pub mapped_step : (d : Step-F C X I M S P) →
      map-Step C' X' I' M' S' P' C2 X2 I2 M2 S2 P2 c' x' i' m' s' p' (map-Step C X I M S P C' X' I' M' S' P' c x i m s p d)
      ≡ map-Step C X I M S P C2 X2 I2 M2 S2 P2 (λ a. c' (c a)) (λ a. x' (x a)) (λ a. i' (i a)) (λ a. m' (m a)) (λ a. s' (s a)) (λ a. p' (p a)) d
  mapped_step (Step-F.Index at y) = refl
  mapped_step (Step-F.Append at) = refl
  mapped_step (Step-F.Property at name) = refl

  pub mapped_part : (d : StringPart-F C X I M S P) →
      map-StringPart C' X' I' M' S' P' C2 X2 I2 M2 S2 P2 c' x' i' m' s' p' (map-StringPart C X I M S P C' X' I' M' S' P' c x i m s p d)
      ≡ map-StringPart C X I M S P C2 X2 I2 M2 S2 P2 (λ a. c' (c a)) (λ a. x' (x a)) (λ a. i' (i a)) (λ a. m' (m a)) (λ a. s' (s a)) (λ a. p' (p a)) d
  mapped_part (StringPart-F.Piece at bytes) = refl
  mapped_part (StringPart-F.Interpolation y) = refl

  -- the operators of a run with their operands
  mapped_run : (os : List (Binary × X)) →
      map {B = Binary × X2} (λ (o : Binary × X'). (o.0, x' o.1)) (map {B = Binary × X'} (λ (o : Binary × X). (o.0, x o.1)) os) ≡ map {B = Binary × X2} (λ (o : Binary × X). (o.0, x' (x o.1))) os
  mapped_run [] = refl
  mapped_run (o ∷ os) = λ j. (o.0, x' (x o.1)) ∷ mapped_run os j

  pub mapped_expression : (d : Expr-F C X I M S P) →
      map-Expr C' X' I' M' S' P' C2 X2 I2 M2 S2 P2 c' x' i' m' s' p' (map-Expr C X I M S P C' X' I' M' S' P' c x i m s p d)
      ≡ map-Expr C X I M S P C2 X2 I2 M2 S2 P2 (λ a. c' (c a)) (λ a. x' (x a)) (λ a. i' (i a)) (λ a. m' (m a)) (λ a. s' (s a)) (λ a. p' (p a)) d
  mapped_expression (Expr-F.Int at n) = refl
  mapped_expression (Expr-F.Text at bytes) = refl
  mapped_expression (Expr-F.Interpolated at parts) = λ j. Expr-F.Interpolated at (map_map p' p parts j)
  mapped_expression (Expr-F.Variable at name) = refl
  mapped_expression (Expr-F.Constant at name) = refl
  mapped_expression (Expr-F.Directory at) = refl
  mapped_expression (Expr-F.Array at form items) = λ j. Expr-F.Array at form (map_map i' i items j)
  mapped_expression (Expr-F.Call at name xs) = λ j. Expr-F.Call at name (map_map x' x xs j)
  mapped_expression (Expr-F.DynamicCall at y xs) = λ j. Expr-F.DynamicCall at (x' (x y)) (map_map x' x xs j)
  mapped_expression (Expr-F.StaticCall at class name xs) = λ j. Expr-F.StaticCall at (c' (c class)) (m' (m name)) (map_map x' x xs j)
  mapped_expression (Expr-F.MethodCall at y name xs) = λ j. Expr-F.MethodCall at (x' (x y)) (m' (m name)) (map_map x' x xs j)
  mapped_expression (Expr-F.New at class xs) = λ j. Expr-F.New at (c' (c class)) (map_map x' x xs j)
  mapped_expression (Expr-F.ClassConstant at class name) = refl
  mapped_expression (Expr-F.ClassName at class colons) = refl
  mapped_expression (Expr-F.StaticProperty at class name) = refl
  mapped_expression (Expr-F.Paren at y) = refl
  mapped_expression (Expr-F.Isset at xs) = λ j. Expr-F.Isset at (map_map x' x xs j)
  mapped_expression (Expr-F.Empty at y) = refl
  mapped_expression (Expr-F.Exit at) = refl
  mapped_expression (Expr-F.ExitWith at y) = refl
  mapped_expression (Expr-F.Path at y steps) = λ j. Expr-F.Path at (x' (x y)) (map_map s' s steps j)
  mapped_expression (Expr-F.Update at form y) = refl
  mapped_expression (Expr-F.Prefix at op y) = refl
  mapped_expression (Expr-F.InstanceOf at y classes) = λ j. Expr-F.InstanceOf at (x' (x y)) (map_map c' c classes j)
  mapped_expression (Expr-F.Run at y more) = λ j. Expr-F.Run at (x' (x y)) (mapped_run more j)
  mapped_expression (Expr-F.Pair at op y z) = refl
  mapped_expression (Expr-F.Ternary at y z u) = refl
  mapped_expression (Expr-F.ShortTernary at y more) = λ j. Expr-F.ShortTernary at (x' (x y)) (map_map x' x more j)
  mapped_expression (Expr-F.Assign at op y z) = refl
  mapped_expression (Expr-F.AssignReference at y z ampersand) = refl
  mapped_expression (Expr-F.Destructure at items y) = λ j. Expr-F.Destructure at (map_map i' i items j) (x' (x y))
  mapped_expression (Expr-F.NamedArgument at name y) = refl

-- ---- nodes

abbrev bare_expression : Expr-F KnownClass KnownExpression KnownItem KnownMember KnownStep KnownPart → Expr-F ClassReference Expr Item MemberName Step StringPart
bare_expression d = map-Expr KnownClass KnownExpression KnownItem KnownMember KnownStep KnownPart ClassReference Expr Item MemberName Step StringPart
    (λ (k : KnownClass). k.tree) (λ (k : KnownExpression). k.tree) (λ (k : KnownItem). k.tree) (λ (k : KnownMember). k.tree) (λ (k : KnownStep). k.tree) (λ (k : KnownPart). k.tree) d

abbrev pub expression : Expr-F KnownClass KnownExpression KnownItem KnownMember KnownStep KnownPart → KnownExpression
expression d = record {
  tree = roll-Expr (bare_expression d);
  means = λ w c. reading_by w c (map-Expr KnownClass KnownExpression KnownItem KnownMember KnownStep KnownPart
      ClassChoice Reading (Elements w c) Name (Means PathStep) (Pieces w c)
      (λ (k : KnownClass). k.means w c) (λ (k : KnownExpression). k.means w c) (λ (k : KnownItem). k.means w c) (λ (k : KnownMember). k.means w c) (λ (k : KnownStep). k.means w c) (λ (k : KnownPart). k.means w c) d);
  is = λ w c. reading_rolled w c (bare_expression d) ∙ ap (reading_by w c) (mapped_expression
      (λ (k : KnownClass). k.tree) (λ (k : KnownExpression). k.tree) (λ (k : KnownItem). k.tree) (λ (k : KnownMember). k.tree) (λ (k : KnownStep). k.tree) (λ (k : KnownPart). k.tree)
      (class_meaning w c) (reading w c) (item_meaning w c) (member_meaning w c) (step_meaning w c) (part_meaning w c) d
      ∙ (λ j. map-Expr KnownClass KnownExpression KnownItem KnownMember KnownStep KnownPart
      ClassChoice Reading (Elements w c) Name (Means PathStep) (Pieces w c)
      (λ (k : KnownClass). k.is w c j) (λ (k : KnownExpression). k.is w c j) (λ (k : KnownItem). k.is w c j) (λ (k : KnownMember). k.is w c j) (λ (k : KnownStep). k.is w c j) (λ (k : KnownPart). k.is w c j) d));
}

abbrev bare_class : ClassReference-F KnownClass KnownExpression KnownItem KnownMember KnownStep KnownPart → ClassReference-F ClassReference Expr Item MemberName Step StringPart
bare_class d = map-ClassReference KnownClass KnownExpression KnownItem KnownMember KnownStep KnownPart ClassReference Expr Item MemberName Step StringPart
    (λ (k : KnownClass). k.tree) (λ (k : KnownExpression). k.tree) (λ (k : KnownItem). k.tree) (λ (k : KnownMember). k.tree) (λ (k : KnownStep). k.tree) (λ (k : KnownPart). k.tree) d

abbrev pub class : ClassReference-F KnownClass KnownExpression KnownItem KnownMember KnownStep KnownPart → KnownClass
class d = record {
  tree = roll-ClassReference (bare_class d);
  means = λ w c. class_by w c (map-ClassReference KnownClass KnownExpression KnownItem KnownMember KnownStep KnownPart
      ClassChoice Reading (Elements w c) Name (Means PathStep) (Pieces w c)
      (λ (k : KnownClass). k.means w c) (λ (k : KnownExpression). k.means w c) (λ (k : KnownItem). k.means w c) (λ (k : KnownMember). k.means w c) (λ (k : KnownStep). k.means w c) (λ (k : KnownPart). k.means w c) d);
  is = λ w c. class_rolled w c (bare_class d) ∙ ap (class_by w c) (mapped_class
      (λ (k : KnownClass). k.tree) (λ (k : KnownExpression). k.tree) (λ (k : KnownItem). k.tree) (λ (k : KnownMember). k.tree) (λ (k : KnownStep). k.tree) (λ (k : KnownPart). k.tree)
      (class_meaning w c) (reading w c) (item_meaning w c) (member_meaning w c) (step_meaning w c) (part_meaning w c) d
      ∙ (λ j. map-ClassReference KnownClass KnownExpression KnownItem KnownMember KnownStep KnownPart
      ClassChoice Reading (Elements w c) Name (Means PathStep) (Pieces w c)
      (λ (k : KnownClass). k.is w c j) (λ (k : KnownExpression). k.is w c j) (λ (k : KnownItem). k.is w c j) (λ (k : KnownMember). k.is w c j) (λ (k : KnownStep). k.is w c j) (λ (k : KnownPart). k.is w c j) d));
}

abbrev bare_item : Item-F KnownClass KnownExpression KnownItem KnownMember KnownStep KnownPart → Item-F ClassReference Expr Item MemberName Step StringPart
bare_item d = map-Item KnownClass KnownExpression KnownItem KnownMember KnownStep KnownPart ClassReference Expr Item MemberName Step StringPart
    (λ (k : KnownClass). k.tree) (λ (k : KnownExpression). k.tree) (λ (k : KnownItem). k.tree) (λ (k : KnownMember). k.tree) (λ (k : KnownStep). k.tree) (λ (k : KnownPart). k.tree) d

abbrev pub item : Item-F KnownClass KnownExpression KnownItem KnownMember KnownStep KnownPart → KnownItem
item d = record {
  tree = roll-Item (bare_item d);
  means = λ w c. item_by w c (map-Item KnownClass KnownExpression KnownItem KnownMember KnownStep KnownPart
      ClassChoice Reading (Elements w c) Name (Means PathStep) (Pieces w c)
      (λ (k : KnownClass). k.means w c) (λ (k : KnownExpression). k.means w c) (λ (k : KnownItem). k.means w c) (λ (k : KnownMember). k.means w c) (λ (k : KnownStep). k.means w c) (λ (k : KnownPart). k.means w c) d);
  is = λ w c. item_rolled w c (bare_item d) ∙ ap (item_by w c) (mapped_item
      (λ (k : KnownClass). k.tree) (λ (k : KnownExpression). k.tree) (λ (k : KnownItem). k.tree) (λ (k : KnownMember). k.tree) (λ (k : KnownStep). k.tree) (λ (k : KnownPart). k.tree)
      (class_meaning w c) (reading w c) (item_meaning w c) (member_meaning w c) (step_meaning w c) (part_meaning w c) d
      ∙ (λ j. map-Item KnownClass KnownExpression KnownItem KnownMember KnownStep KnownPart
      ClassChoice Reading (Elements w c) Name (Means PathStep) (Pieces w c)
      (λ (k : KnownClass). k.is w c j) (λ (k : KnownExpression). k.is w c j) (λ (k : KnownItem). k.is w c j) (λ (k : KnownMember). k.is w c j) (λ (k : KnownStep). k.is w c j) (λ (k : KnownPart). k.is w c j) d));
}

abbrev bare_member : MemberName-F KnownClass KnownExpression KnownItem KnownMember KnownStep KnownPart → MemberName-F ClassReference Expr Item MemberName Step StringPart
bare_member d = map-MemberName KnownClass KnownExpression KnownItem KnownMember KnownStep KnownPart ClassReference Expr Item MemberName Step StringPart
    (λ (k : KnownClass). k.tree) (λ (k : KnownExpression). k.tree) (λ (k : KnownItem). k.tree) (λ (k : KnownMember). k.tree) (λ (k : KnownStep). k.tree) (λ (k : KnownPart). k.tree) d

abbrev pub member : MemberName-F KnownClass KnownExpression KnownItem KnownMember KnownStep KnownPart → KnownMember
member d = record {
  tree = roll-MemberName (bare_member d);
  means = λ w c. member_by w c (map-MemberName KnownClass KnownExpression KnownItem KnownMember KnownStep KnownPart
      ClassChoice Reading (Elements w c) Name (Means PathStep) (Pieces w c)
      (λ (k : KnownClass). k.means w c) (λ (k : KnownExpression). k.means w c) (λ (k : KnownItem). k.means w c) (λ (k : KnownMember). k.means w c) (λ (k : KnownStep). k.means w c) (λ (k : KnownPart). k.means w c) d);
  is = λ w c. member_rolled w c (bare_member d) ∙ ap (member_by w c) (mapped_member
      (λ (k : KnownClass). k.tree) (λ (k : KnownExpression). k.tree) (λ (k : KnownItem). k.tree) (λ (k : KnownMember). k.tree) (λ (k : KnownStep). k.tree) (λ (k : KnownPart). k.tree)
      (class_meaning w c) (reading w c) (item_meaning w c) (member_meaning w c) (step_meaning w c) (part_meaning w c) d
      ∙ (λ j. map-MemberName KnownClass KnownExpression KnownItem KnownMember KnownStep KnownPart
      ClassChoice Reading (Elements w c) Name (Means PathStep) (Pieces w c)
      (λ (k : KnownClass). k.is w c j) (λ (k : KnownExpression). k.is w c j) (λ (k : KnownItem). k.is w c j) (λ (k : KnownMember). k.is w c j) (λ (k : KnownStep). k.is w c j) (λ (k : KnownPart). k.is w c j) d));
}

abbrev bare_step : Step-F KnownClass KnownExpression KnownItem KnownMember KnownStep KnownPart → Step-F ClassReference Expr Item MemberName Step StringPart
bare_step d = map-Step KnownClass KnownExpression KnownItem KnownMember KnownStep KnownPart ClassReference Expr Item MemberName Step StringPart
    (λ (k : KnownClass). k.tree) (λ (k : KnownExpression). k.tree) (λ (k : KnownItem). k.tree) (λ (k : KnownMember). k.tree) (λ (k : KnownStep). k.tree) (λ (k : KnownPart). k.tree) d

abbrev pub step : Step-F KnownClass KnownExpression KnownItem KnownMember KnownStep KnownPart → KnownStep
step d = record {
  tree = roll-Step (bare_step d);
  means = λ w c. step_by w c (map-Step KnownClass KnownExpression KnownItem KnownMember KnownStep KnownPart
      ClassChoice Reading (Elements w c) Name (Means PathStep) (Pieces w c)
      (λ (k : KnownClass). k.means w c) (λ (k : KnownExpression). k.means w c) (λ (k : KnownItem). k.means w c) (λ (k : KnownMember). k.means w c) (λ (k : KnownStep). k.means w c) (λ (k : KnownPart). k.means w c) d);
  is = λ w c. step_rolled w c (bare_step d) ∙ ap (step_by w c) (mapped_step
      (λ (k : KnownClass). k.tree) (λ (k : KnownExpression). k.tree) (λ (k : KnownItem). k.tree) (λ (k : KnownMember). k.tree) (λ (k : KnownStep). k.tree) (λ (k : KnownPart). k.tree)
      (class_meaning w c) (reading w c) (item_meaning w c) (member_meaning w c) (step_meaning w c) (part_meaning w c) d
      ∙ (λ j. map-Step KnownClass KnownExpression KnownItem KnownMember KnownStep KnownPart
      ClassChoice Reading (Elements w c) Name (Means PathStep) (Pieces w c)
      (λ (k : KnownClass). k.is w c j) (λ (k : KnownExpression). k.is w c j) (λ (k : KnownItem). k.is w c j) (λ (k : KnownMember). k.is w c j) (λ (k : KnownStep). k.is w c j) (λ (k : KnownPart). k.is w c j) d));
}

abbrev bare_part : StringPart-F KnownClass KnownExpression KnownItem KnownMember KnownStep KnownPart → StringPart-F ClassReference Expr Item MemberName Step StringPart
bare_part d = map-StringPart KnownClass KnownExpression KnownItem KnownMember KnownStep KnownPart ClassReference Expr Item MemberName Step StringPart
    (λ (k : KnownClass). k.tree) (λ (k : KnownExpression). k.tree) (λ (k : KnownItem). k.tree) (λ (k : KnownMember). k.tree) (λ (k : KnownStep). k.tree) (λ (k : KnownPart). k.tree) d

abbrev pub part : StringPart-F KnownClass KnownExpression KnownItem KnownMember KnownStep KnownPart → KnownPart
part d = record {
  tree = roll-StringPart (bare_part d);
  means = λ w c. part_by w c (map-StringPart KnownClass KnownExpression KnownItem KnownMember KnownStep KnownPart
      ClassChoice Reading (Elements w c) Name (Means PathStep) (Pieces w c)
      (λ (k : KnownClass). k.means w c) (λ (k : KnownExpression). k.means w c) (λ (k : KnownItem). k.means w c) (λ (k : KnownMember). k.means w c) (λ (k : KnownStep). k.means w c) (λ (k : KnownPart). k.means w c) d);
  is = λ w c. part_rolled w c (bare_part d) ∙ ap (part_by w c) (mapped_part
      (λ (k : KnownClass). k.tree) (λ (k : KnownExpression). k.tree) (λ (k : KnownItem). k.tree) (λ (k : KnownMember). k.tree) (λ (k : KnownStep). k.tree) (λ (k : KnownPart). k.tree)
      (class_meaning w c) (reading w c) (item_meaning w c) (member_meaning w c) (step_meaning w c) (part_meaning w c) d
      ∙ (λ j. map-StringPart KnownClass KnownExpression KnownItem KnownMember KnownStep KnownPart
      ClassChoice Reading (Elements w c) Name (Means PathStep) (Pieces w c)
      (λ (k : KnownClass). k.is w c j) (λ (k : KnownExpression). k.is w c j) (λ (k : KnownItem). k.is w c j) (λ (k : KnownMember). k.is w c j) (λ (k : KnownStep). k.is w c j) (λ (k : KnownPart). k.is w c j) d));
}
