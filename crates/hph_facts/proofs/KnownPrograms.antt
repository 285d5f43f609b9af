-- Programs of known statements: what they print and how they end is computed from the meanings of their statements and their code.
use Rattle.std.specs.Prelude.{◌≡◌, ℕ, suc, Bool, List, [], ◌∷◌, ◌++◌, ◌-◌, map, flat_map, Option, None, Some, refl, string_bytes}
use Rattle.std.specs.List.{filter_map}
use Rattle.std.specs.Option.{option_map_or}
use Rattle.std.proofs.Common.{ap, ◌∙◌, String, Global}
use Rattle.hph_ast.specs.declared.expr.Expr.{Expr}
use Rattle.hph_ast.specs.declared.program.File.{File}
use Rattle.hph_ast.specs.declared.program.Program.{Program}
use Rattle.hph_wasm.specs.Outcome.{End, Outcome, More}
use Rattle.hph_php.specs.Answers.{Means, Stop, bind, give}
use Rattle.hph_php.specs.Values.{Value, Null}
use Rattle.hph_php.specs.State.{Name}
use Rattle.hph_php.specs.World.{World, Context}
use Rattle.hph_php.specs.Files.{entering, run_file}
use Rattle.hph_php.specs.Declarations.{Declaration, a_body, a_value, initial_values, Placed, PlacedClass, Codes, codes_of, path_of, numbered_from, file_declarations, class_declaration, static_declaration, body_code, constant_codes, static_codes, initial_code}
use Rattle.hph_php.specs.Run.{Routine, a_function, an_initial_value, initials, routine_in, in_body, in_class, each_initial, Meanings, meanings_of, run, outcome_of, php}
use Rattle.hph_facts.proofs.KnownExpressions.{at0, KnownExpression}
use Rattle.hph_facts.proofs.KnownStatements.{KnownStatement, KnownFunction, value_of, tree_of, statements, each_means, each_is, all_found, all_finds, function_tree, body_meaning, body_is, parameters_meaning, parameters_is}

-- ---- code

pub record KnownRoutine (program : Codes) (p : Placed) : Type 0 where
  pub means : Routine
  pub is : routine_in program p.site.file p.code ≡ means

-- what is known of each piece of code
abbrev pub AllKnown : Codes → List Placed → Type 0
AllKnown program [] = Unit {0}
AllKnown program (p ∷ ps) = KnownRoutine program p × AllKnown program ps

abbrev pub routines : (program : Codes) (ps : List Placed) → AllKnown program ps → List Routine
routines program [] known = []
routines program (p ∷ ps) known = known.0.means ∷ routines program ps known.1

routines_are : (program : Codes) (ps : List Placed) (known : AllKnown program ps) →
    map (λ (p : Placed). routine_in program p.site.file p.code) ps ≡ routines program ps known
routines_are program [] known = refl
routines_are program (p ∷ ps) known = λ i. known.0.is i ∷ routines_are program ps known.1 i

abbrev pub function_code : {program : Codes} {file offset : ℕ} (f : KnownFunction) {class : Option ℕ} {is_static : Bool} →
    KnownRoutine program (record { site = record { file = file; offset = offset }; code = a_body (function_tree f) class is_static })
function_code {program} {file} {offset} f {class} {is_static} = record {
  means = a_function (λ w. parameters_meaning f w (in_body program file class)) (λ w. body_meaning f w (in_body program file class));
  is = λ i. a_function (λ w. parameters_is w (in_body program file class) f i) (λ w. body_is w (in_body program file class) f i);
}

abbrev pub value_code : {program : Codes} {file offset : ℕ} (k : KnownExpression) {class : ℕ} →
    KnownRoutine program (record { site = record { file = file; offset = offset }; code = a_value k.tree class })
value_code {program} {file} {offset} k {class} = record {
  means = an_initial_value class (λ w. value_of w (in_class program file class) k);
  is = λ i. an_initial_value class (λ w. (k.is w (in_class program file class) i).value);
}

-- initial values of the properties of objects
abbrev pub initial_trees : List (Name × Option KnownExpression) → List (Name × Option Expr)
initial_trees ps = map {B = Name × Option Expr} (λ (p : Name × Option KnownExpression). (p.0, tree_of p.1)) ps

abbrev pub initial_meaning : World → Context → List (Name × Option KnownExpression) → Means (List (Name × Value))
initial_meaning w c [] = give []
initial_meaning w c (p ∷ ps) = bind (option_map_or (value_of w c) p.1 (give Null)) (λ v.
    bind (initial_meaning w c ps) (λ rest. give ((p.0, v) ∷ rest)))

pub initial_is : (w : World) (c : Context) (ps : List (Name × Option KnownExpression)) → each_initial w c (initial_trees ps) ≡ initial_meaning w c ps
initial_is w c [] = refl
initial_is w c ((name, None) ∷ ps) = λ i. bind (give Null) (λ v. bind (initial_is w c ps i) (λ rest. give ((name, v) ∷ rest)))
initial_is w c ((name, Some k) ∷ ps) = λ i. bind (k.is w c i).value (λ v. bind (initial_is w c ps i) (λ rest. give ((name, v) ∷ rest)))

abbrev pub initial_values_code : {program : Codes} {file offset : ℕ} (ps : List (Name × Option KnownExpression)) {class : ℕ} →
    KnownRoutine program (record { site = record { file = file; offset = offset }; code = initial_values (initial_trees ps) class })
initial_values_code {program} {file} {offset} ps {class} = record {
  means = initials class (λ w. initial_meaning w (in_class program file class) ps);
  is = λ i. initials class (λ w. initial_is w (in_class program file class) ps i);
}

-- ---- files

abbrev pub KnownFile : Type 0
KnownFile = String Global × List KnownStatement

abbrev pub file : KnownFile → File
file f = record { path = f.0; bytes = []; tokens = []; tree = record { at = at0; statements = statements f.1 } }

abbrev pub program : List KnownFile → Program
program fs = record { files = map file fs }

abbrev pub file_meanings : Codes → ℕ → List KnownFile → List (World → Means (Unit {0}))
file_meanings p n [] = []
file_meanings p n (f ∷ fs) = (λ w. entering p n (statements f.1) (λ c. each_means w c f.1)) ∷ file_meanings p (suc n) fs

file_meanings_are : (p : Codes) (n : ℕ) (fs : List KnownFile) →
    map {B = World → Means (Unit {0})} (λ (f : ℕ × File). λ w. run_file p w f.0 f.1) (numbered_from n (map file fs)) ≡ file_meanings p n fs
file_meanings_are p n [] = refl
file_meanings_are p n (f ∷ fs) = λ i. (λ w. entering p n (statements f.1) (λ c. each_is w c f.1 i)) ∷ file_meanings_are p (suc n) fs i

-- ---- declarations

abbrev pub declared_from : ℕ → List KnownFile → List (ℕ × Declaration)
declared_from n [] = []
declared_from n (f ∷ fs) = map {B = ℕ × Declaration} (λ d. (n, d)) (all_found f.1) ++ declared_from (suc n) fs

declared_are : (n : ℕ) (fs : List KnownFile) →
    flat_map {A = ℕ × Declaration} (λ (f : ℕ × File). map {B = ℕ × Declaration} (λ d. (f.0, d)) (file_declarations f.1)) (numbered_from n (map file fs)) ≡ declared_from n fs
declared_are n [] = refl
declared_are n (f ∷ fs) = λ i. map {B = ℕ × Declaration} (λ d. (n, d)) (all_finds f.1 i) ++ declared_are (suc n) fs i

-- the codes of a program, by its declarations
abbrev pub classes_by : List (ℕ × Declaration) → List PlacedClass
classes_by ds = filter_map class_declaration ds

abbrev pub codes_by : List (List ℕ) → List (ℕ × Declaration) → Codes
codes_by paths ds = record {
  paths = paths;
  classes = classes_by ds;
  codes = filter_map (body_code (classes_by ds)) ds
      ++ (flat_map constant_codes (numbered_from 0 (classes_by ds))
      ++ (flat_map static_codes (numbered_from 0 (classes_by ds))
      ++ map initial_code (numbered_from 0 (classes_by ds))));
  statics = filter_map static_declaration ds;
}

abbrev pub paths_of : List KnownFile → List (List ℕ)
paths_of fs = map (λ (f : KnownFile). string_bytes f.0) fs

paths_are : (fs : List KnownFile) → map path_of (map file fs) ≡ paths_of fs
paths_are [] = refl
paths_are (f ∷ fs) = λ i. string_bytes f.0 ∷ paths_are fs i

abbrev pub known_codes : List KnownFile → List (List ℕ) → Codes
known_codes fs paths = codes_by paths (declared_from 0 fs)

codes_are : (fs : List KnownFile) (paths : List (List ℕ)) → paths_of fs ≡ paths → codes_of (program fs) ≡ known_codes fs paths
codes_are fs paths same = (λ i. codes_by (paths_are fs i) (declared_are 0 fs i)) ∙ (λ i. codes_by (same i) (declared_from 0 fs))

abbrev pub known_meanings : (fs : List KnownFile) (paths : List (List ℕ)) → AllKnown (known_codes fs paths) (known_codes fs paths).codes → Meanings
known_meanings fs paths known = record {
  files = file_meanings (known_codes fs paths) 0 fs;
  routines = routines (known_codes fs paths) (known_codes fs paths).codes known;
}

-- what a program of known statements prints, where its code is known
pub prints : (fs : List KnownFile) (paths : List (List ℕ)) → paths_of fs ≡ paths → (known : AllKnown (known_codes fs paths) (known_codes fs paths).codes) → (n : ℕ) →
    php (program fs) n ≡ outcome_of (run (known_meanings fs paths known) n)
prints fs paths same known n =
    (λ i. outcome_of (run (meanings_of (map file fs) (codes_are fs paths same i)) n))
    ∙ (λ i. outcome_of (run (record {
      files = file_meanings_are (known_codes fs paths) 0 fs i;
      routines = routines_are (known_codes fs paths) (known_codes fs paths).codes known i;
    }) n))

-- a program ends with so many units, and with one less it lacks a unit
pub record EndsWith (p : Program) (units : ℕ) (out : List ℕ) (end : End Stop) : Type 0 where
  pub ends : php p units ≡ record { output = out; end = end }
  pub lacks : (php p (units - 1)).end ≡ More

pub known_ends : (fs : List KnownFile) (paths : List (List ℕ)) → paths_of fs ≡ paths → (known : AllKnown (known_codes fs paths) (known_codes fs paths).codes) → (units : ℕ) →
    {out : List ℕ} {end : End Stop} →
    outcome_of (run (known_meanings fs paths known) units) ≡ record { output = out; end = end } →
    (outcome_of (run (known_meanings fs paths known) (units - 1))).end ≡ More → EndsWith (program fs) units out end
known_ends fs paths same known units ends lacks = record {
  ends = prints fs paths same known units ∙ ends;
  lacks = ap (λ (s : Outcome Stop). s.end) (prints fs paths same known (units - 1)) ∙ lacks;
}

-- a program of one file, whatever its path
pub one_file : (path : String Global) (ss : List KnownStatement) (known : AllKnown (known_codes ((path, ss) ∷ []) (string_bytes path ∷ [])) (known_codes ((path, ss) ∷ []) (string_bytes path ∷ [])).codes) → (units : ℕ) →
    {out : List ℕ} {end : End Stop} →
    outcome_of (run (known_meanings ((path, ss) ∷ []) (string_bytes path ∷ []) known) units)
    ≡ record { output = out; end = end } →
    (outcome_of (run (known_meanings ((path, ss) ∷ []) (string_bytes path ∷ []) known) (units - 1))).end ≡ More →
    EndsWith (program ((path, ss) ∷ [])) units out end
one_file path ss known units ends lacks = known_ends ((path, ss) ∷ []) (string_bytes path ∷ []) refl known units ends lacks
