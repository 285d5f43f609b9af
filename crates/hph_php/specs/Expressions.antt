-- What expressions mean: each node of a tree picks one combinator for what its parts mean (PHP manual, Expressions).
use Rattle.std.specs.Prelude.{ℕ, pos, false, List, [], ◌++◌}
use Rattle.hph_ast.specs.declared.expr.Expr.{Expr}
use Rattle.hph_ast.specs.declared.expr.ClassReference.TheOpen.{ClassReference-F, Expr-F, Item-F, MemberName-F, Step-F, StringPart-F}
use Rattle.hph_ast.specs.declared.expr.ClassReference.TheFolds.{fold-Expr}
use Rattle.hph_php.specs.declared.fatal.Fatal.TheVariants.{UndefinedClass}
use Rattle.hph_php.specs.Values.{Value, Null, Int, Str, array_value, empty_array}
use Rattle.hph_php.specs.Arrays.{Array}
use Rattle.hph_php.specs.State.{Name}
use Rattle.hph_php.specs.Answers.{Means, Exits, bind, give, fail, through, end_with, each}
use Rattle.hph_php.specs.Paths.{PathStep, by_key, at_end, by_property}
use Rattle.hph_php.specs.World.{World, Context}
use Rattle.hph_php.specs.Targets.{Reading, Form, a_path, from_directory, another, a_location, valued, read, try, all_set, is_empty_value}
use Rattle.hph_php.specs.Calls.{call_named}
use Rattle.hph_php.specs.Classes.{ClassChoice, named_class, self_class, parent_class, static_class, call_method, call_static, new_object, class_constant, static_location}
use Rattle.hph_php.specs.Includes.{directory_of}
use Rattle.hph_php.specs.Operations.{constant_named, variable, share_forms, run, pair, ternary, short_ternary, exit_with, prefix, instances, assignment, moved_by, add_last, add_keyed, text_of}

-- ---- nodes

module _ (world : World) (context : Context) where
  abbrev pub Elements : Type 0
  Elements = Array Value → Means (Array Value)

  abbrev pub Pieces : Type 0
  Pieces = List ℕ → Means (List ℕ)

  -- a class that an expression gives is refused
  abbrev pub class_by : ClassReference-F ClassChoice Reading Elements Name (Means PathStep) Pieces → ClassChoice
  class_by (ClassReference-F.ByName at name) = named_class name
  class_by (ClassReference-F.SelfClass at) = self_class context
  class_by (ClassReference-F.Parent at) = parent_class context
  class_by (ClassReference-F.Static at) = static_class
  class_by (ClassReference-F.ByExpression at x) = record { number = fail UndefinedClass; forwards = false }

  -- a key is converted after the value was evaluated; references and holes are refused
  abbrev pub item_by : Item-F ClassChoice Reading Elements Name (Means PathStep) Pieces → Elements
  item_by (Item-F.Plain at x) elements = bind x.value (λ v. add_last v elements)
  item_by (Item-F.Keyed at k x) elements = bind k.value (λ key. bind x.value (λ v. add_keyed key v elements))
  item_by (Item-F.Reference at x) elements = bind x.value (λ v. add_last v elements)
  item_by (Item-F.KeyedReference at k x ampersand) elements = bind k.value (λ key. bind x.value (λ v. add_keyed key v elements))
  item_by (Item-F.Hole at) elements = give elements

  -- a computed name is refused
  abbrev pub member_by : MemberName-F ClassChoice Reading Elements Name (Means PathStep) Pieces → Name
  member_by (MemberName-F.Named name) = name
  member_by (MemberName-F.Computed x) = []

  abbrev pub step_by : Step-F ClassChoice Reading Elements Name (Means PathStep) Pieces → Means PathStep
  step_by (Step-F.Index at x) = bind x.value (λ key. give (by_key key))
  step_by (Step-F.Append at) = give at_end
  step_by (Step-F.Property at name) = give (by_property name)

  -- each piece becomes text before the next is evaluated
  abbrev pub part_by : StringPart-F ClassChoice Reading Elements Name (Means PathStep) Pieces → Pieces
  part_by (StringPart-F.Piece at bytes) before = give (before ++ bytes)
  part_by (StringPart-F.Interpolation x) before = text_of x.value before

  -- the meaning of a path's steps, and what it is with them
  abbrev pub path : Reading → List (Means PathStep) → Reading
  path x steps = record {
    form = a_path;
    base = x.base;
    steps = each steps;
    value = read context.class (record { form = a_path; base = x.base; steps = each steps; value = x.value });
  }

  abbrev pub static_path : ClassChoice → Name → Reading
  static_path class name = record {
    form = a_path;
    base = bind (static_location world context class name) (λ l. give (a_location l));
    steps = give [];
    value = read context.class (record {
      form = a_path;
      base = bind (static_location world context class name) (λ l. give (a_location l));
      steps = give [];
      value = give Null;
    });
  }

  -- what is a text behind `__DIR__` is from the folder, whatever comes behind it
  abbrev pub form_of_run : Form → Form
  form_of_run from_directory = from_directory
  form_of_run _ = another

  abbrev pub with_form : Form → Reading → Reading
  with_form form x = record x { form = form }

  -- each is given what its parts mean
  abbrev pub reading_by : Expr-F ClassChoice Reading Elements Name (Means PathStep) Pieces → Reading
  reading_by (Expr-F.Int at n) = valued (give (Int (pos n)))
  reading_by (Expr-F.Text at bytes) = valued (give (Str bytes))
  reading_by (Expr-F.Interpolated at parts) = valued (bind (through parts []) (λ text. give (Str text)))
  reading_by (Expr-F.Variable at name) = variable name
  reading_by (Expr-F.Constant at name) = valued (constant_named name)
  reading_by (Expr-F.Directory at) = with_form from_directory (valued (give (Str (directory_of context.program context.file))))
  reading_by (Expr-F.Array at form items) = valued (bind (through items empty_array) (λ elements. give (array_value elements)))
  reading_by (Expr-F.Call at name xs) = valued (call_named world context name xs)
  reading_by (Expr-F.StaticCall at class name xs) = valued (call_static world context class name xs)
  reading_by (Expr-F.MethodCall at x name xs) = valued (call_method world context x.value name xs)
  reading_by (Expr-F.New at class xs) = valued (new_object world context class xs)
  reading_by (Expr-F.ClassConstant at class name) = valued (class_constant world context class name)
  reading_by (Expr-F.StaticProperty at class name) = static_path class name
  reading_by (Expr-F.Paren at x) = valued x.value
  reading_by (Expr-F.Isset at xs) = valued (all_set context.class xs)
  reading_by (Expr-F.Empty at x) = valued (bind (try context.class x) (λ v. give (is_empty_value v)))
  reading_by (Expr-F.Exit at) = valued (end_with (Exits (pos 0)))
  reading_by (Expr-F.ExitWith at x) = valued (bind x.value exit_with)
  reading_by (Expr-F.Path at x steps) = path x steps
  reading_by (Expr-F.Update at form x) = valued (moved_by context.class form x)
  reading_by (Expr-F.Prefix at op x) = valued (prefix world context op x)
  reading_by (Expr-F.InstanceOf at x classes) = valued (bind x.value (λ v. instances v classes))
  reading_by (Expr-F.Run at x more) = with_form (form_of_run x.form) (valued (bind x.value (λ v. run v more)))
  reading_by (Expr-F.Pair at op x y) = valued (pair context.class op x y)
  reading_by (Expr-F.Ternary at x y z) = valued (ternary x.value y.value z.value)
  reading_by (Expr-F.ShortTernary at x more) = valued (bind x.value (λ v. short_ternary v more))
  reading_by (Expr-F.Assign at op x y) = valued (assignment context.class op x y)
  reading_by (Expr-F.AssignReference at x y ampersand) = valued (share_forms x.form y.form)
  -- the last forms are refused
  reading_by (Expr-F.DynamicCall at x xs) = x
  reading_by (Expr-F.ClassName at class colons) = valued (give Null)
  reading_by (Expr-F.Destructure at items x) = x
  reading_by (Expr-F.NamedArgument at name x) = x

  unfoldable pub reading : Expr → Reading
  reading = fold-Expr ClassChoice Reading Elements Name (Means PathStep) Pieces class_by reading_by item_by member_by step_by part_by

  -- the value of an expression
  abbrev pub evaluate : Expr → Means Value
  evaluate x = (reading x).value
