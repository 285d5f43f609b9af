-- Programs of several rules.
use Rattle.std.specs.Prelude.{false, List, [], ◌∷◌, ◌++◌, Some, None, ◌≡◌, refl, codes, pos, string_bytes}
use Rattle.std.proofs.Common.{String, Global}
use Rattle.std.specs.Fmt.{digits}
use denote.Hole.Carrier.{out, roll, shown, hidden}
use Rattle.hph_ast.specs.declared.class.Member.TheBlock.{shown-the_row-Function-1, shown-the_row-Class-3}
use Rattle.hph_ast.specs.declared.operator.Binary.TheVariants as b
use Rattle.hph_ast.specs.declared.operator.Assignment.TheVariants as a
use Rattle.hph_ast.specs.declared.operator.Prefix.TheVariants as p
use Rattle.hph_ast.specs.declared.operator.IncludeForm.TheVariants as form
use Rattle.hph_ast.specs.declared.expr.Update.TheVariants as u
use Rattle.hph_ast.specs.declared.class.Access.TheVariants as access
use Rattle.hph_ast.specs.declared.stmt.Statement.{out-Statement, roll-Statement}
use Rattle.hph_ast.specs.declared.class.Member.{out-Member, roll-Member}
use Rattle.hph_php.specs.Codes.{all_builtins}
use Rattle.hph_wasm.specs.Outcome.{Done, Stopped}
use Rattle.hph_php.specs.Answers.{Exits}
use Rattle.hph_facts.proofs.KnownStatements.{KnownStatement, KnownFunction, KnownClassDeclaration, does, shows, gives, body, while_, for_, foreach_, declares, declares_class, with_constants, with_properties, with_method}
use Rattle.hph_facts.proofs.KnownPrograms.{program, EndsWith, known_ends, one_file, function_code, value_code, initial_values_code}
use Rattle.hph_facts.proofs.Vocabulary.{int, text, var, directory, array, call, method_call, new, class_constant, exit_with, along, update, prefix, run, pair, ternary, assign, interpolated, piece, interpolation, element, last, property, by_name, self_class}

-- Three files with a class, its subclass, loops and strings:
-- main.php:
--     require_once 'lib/named.php';
--     function total($n) { $t = 0; for ($i = 1; $i <= $n; $i++) { $t += $i * $i; } return $t; }
--     $s = new Named("sq");
--     foreach ([1, 2, 3] as $k => $v) { $s->push(total($v))->push("k$k"); }
--     echo $s->show(), "\n";
--     while ($s->size() > 0) { $x = $s->pop(); echo is_int($x) ? "#$x" : $x, $s->size() > 0 ? "," : "\n"; }
-- lib/named.php:
--     require_once __DIR__ . '/stack.php';
--     class Named extends Stack {
--         const SEP = ": ";
--         private $name;
--         public function __construct($name) { $this->name = $name; }
--         public function show() { return $this->name . self::SEP . $this->size(); }
--     }
-- lib/stack.php:
--     class Stack {
--         private $items = [];
--         public $made = 0;
--         public function push($x) { $this->items[] = $x; $this->made++; return $this; }
--         public function pop() { return array_pop($this->items); }
--         public function size() { return count($this->items); }
--     }
abbrev stack_total : KnownFunction
stack_total = record {
  start = 36;
  name = codes "total";
  params = record { by_reference = false; name = codes "n"; default = None } ∷ [];
  statements = does (assign a.Set (var (codes "t")) (int 0)) ∷ for_ (assign a.Set (var (codes "i")) (int 1) ∷ []) (pair b.LessEqual (var (codes "i")) (var (codes "n")) ∷ []) (update u.PostIncrement (var (codes "i")) ∷ []) (body (does (assign a.Add (var (codes "t")) (run (var (codes "i")) ((b.Mul, var (codes "i")) ∷ []))) ∷ [])) ∷ gives (Some (var (codes "t"))) ∷ [];
}

abbrev stack_named_construct : KnownFunction
stack_named_construct = record {
  start = 123;
  name = codes "__construct";
  params = record { by_reference = false; name = codes "name"; default = None } ∷ [];
  statements = does (assign a.Set (along (var (codes "this")) (property (codes "name") ∷ [])) (var (codes "name"))) ∷ [];
}

abbrev stack_named_show : KnownFunction
stack_named_show = record {
  start = 187;
  name = codes "show";
  params = [];
  statements = gives (Some (run (along (var (codes "this")) (property (codes "name") ∷ [])) ((b.Concat, class_constant self_class (codes "SEP")) ∷ (b.Concat, method_call (var (codes "this")) (codes "size") []) ∷ []))) ∷ [];
}

abbrev stack_class_named : KnownClassDeclaration
stack_class_named = record {
  start = 43;
  name = codes "Named";
  parent = Some (codes "Stack");
  members = with_constants (record { access = None; is_static = false }) (record { start = 81; name = codes "SEP"; value = text (codes ": ") } ∷ []) ∷ with_properties (record { access = Some access.Private; is_static = false }) (record { start = 105; name = codes "name"; value = None } ∷ []) ∷ with_method (record { access = Some access.Public; is_static = false }) stack_named_construct ∷ with_method (record { access = Some access.Public; is_static = false }) stack_named_show ∷ [];
}

abbrev stack_stack_push : KnownFunction
stack_stack_push = record {
  start = 78;
  name = codes "push";
  params = record { by_reference = false; name = codes "x"; default = None } ∷ [];
  statements = does (assign a.Set (along (var (codes "this")) (property (codes "items") ∷ last ∷ [])) (var (codes "x"))) ∷ does (update u.PostIncrement (along (var (codes "this")) (property (codes "made") ∷ []))) ∷ gives (Some (var (codes "this"))) ∷ [];
}

abbrev stack_stack_pop : KnownFunction
stack_stack_pop = record {
  start = 161;
  name = codes "pop";
  params = [];
  statements = gives (Some (call (codes "array_pop") (along (var (codes "this")) (property (codes "items") ∷ []) ∷ []))) ∷ [];
}

abbrev stack_stack_size : KnownFunction
stack_stack_size = record {
  start = 223;
  name = codes "size";
  params = [];
  statements = gives (Some (call (codes "count") (along (var (codes "this")) (property (codes "items") ∷ []) ∷ []))) ∷ [];
}

abbrev stack_class_stack : KnownClassDeclaration
stack_class_stack = record {
  start = 6;
  name = codes "Stack";
  parent = None;
  members = with_properties (record { access = Some access.Private; is_static = false }) (record { start = 32; name = codes "items"; value = Some (array []) } ∷ []) ∷ with_properties (record { access = Some access.Public; is_static = false }) (record { start = 56; name = codes "made"; value = Some (int 0) } ∷ []) ∷ with_method (record { access = Some access.Public; is_static = false }) stack_stack_push ∷ with_method (record { access = Some access.Public; is_static = false }) stack_stack_pop ∷ with_method (record { access = Some access.Public; is_static = false }) stack_stack_size ∷ [];
}

abbrev stack_main : List KnownStatement
stack_main =
    does (prefix (p.Include form.RequireOnce) (text (codes "lib/named.php"))) ∷
    declares stack_total ∷
    does (assign a.Set (var (codes "s")) (new (by_name (codes "Named")) (text (codes "sq") ∷ []))) ∷
    foreach_ (array (element (int 1) ∷ element (int 2) ∷ element (int 3) ∷ [])) (Some (codes "k")) (codes "v") (body (does (method_call (method_call (var (codes "s")) (codes "push") (call (codes "total") (var (codes "v") ∷ []) ∷ [])) (codes "push") (interpolated (piece (codes "k") ∷ interpolation (var (codes "k")) ∷ []) ∷ [])) ∷ [])) ∷
    shows (method_call (var (codes "s")) (codes "show") [] ∷ text (10 ∷ []) ∷ []) ∷
    while_ (pair b.Greater (method_call (var (codes "s")) (codes "size") []) (int 0)) (body (does (assign a.Set (var (codes "x")) (method_call (var (codes "s")) (codes "pop") [])) ∷ shows (ternary (call (codes "is_int") (var (codes "x") ∷ [])) (interpolated (piece (codes "#") ∷ interpolation (var (codes "x")) ∷ [])) (var (codes "x")) ∷ ternary (pair b.Greater (method_call (var (codes "s")) (codes "size") []) (int 0)) (text (codes ",")) (text (10 ∷ [])) ∷ []) ∷ [])) ∷ []

abbrev stack_named : List KnownStatement
stack_named =
    does (prefix (p.Include form.RequireOnce) (run directory ((b.Concat, text (codes "/stack.php")) ∷ []))) ∷
    declares_class stack_class_named ∷ []

abbrev stack_stack : List KnownStatement
stack_stack =
    declares_class stack_class_stack ∷ []

stack_ends : (main named stack : String Global) (is_main : string_bytes main ≡ codes "main.php") (is_named : string_bytes named ≡ codes "lib/named.php") (is_stack : string_bytes stack ≡ codes "lib/stack.php") →
    EndsWith (program ((main, stack_main) ∷ (named, stack_named) ∷ (stack, stack_stack) ∷ [])) 50 (codes "sq: 6" ++ (10 ∷ []) ++ codes "k2,#14,k1,#5,k0,#1" ++ (10 ∷ [])) Done
unfolding shown-the_row-Function-1 shown-the_row-Class-3 shown hidden out roll out-Statement roll-Statement out-Member roll-Member digits all_builtins
stack_ends main named stack is_main is_named is_stack = known_ends ((main, stack_main) ∷ (named, stack_named) ∷ (stack, stack_stack) ∷ []) (codes "main.php" ∷ codes "lib/named.php" ∷ codes "lib/stack.php" ∷ [])
    (λ i. is_main i ∷ is_named i ∷ is_stack i ∷ []) (function_code stack_total, (function_code stack_named_construct, (function_code stack_named_show, (function_code stack_stack_push, (function_code stack_stack_pop, (function_code stack_stack_size, (value_code (text (codes ": ")), (initial_values_code ((codes "name", None) ∷ []), (initial_values_code ((codes "items", Some (array [])) ∷ (codes "made", Some (int 0)) ∷ []), tt))))))))) 50 refl refl

-- Exit with a number:
-- `echo "x"; exit(300); echo "y";`
abbrev stopped : List KnownStatement
stopped =
    shows (text (codes "x") ∷ []) ∷
    does (exit_with (int 300)) ∷
    shows (text (codes "y") ∷ []) ∷ []

stopped_ends : (path : String Global) → EndsWith (program ((path, stopped) ∷ [])) 1 (codes "x") (Stopped (Exits (pos 300)))
unfolding shown-the_row-Function-1 shown-the_row-Class-3 shown hidden out roll out-Statement roll-Statement out-Member roll-Member digits all_builtins
stopped_ends path = one_file path stopped tt 1 refl refl
