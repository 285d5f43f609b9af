-- The declarations of a program in order of file and text, and the code that they hold: bodies of functions and methods, values
-- of class constants and static properties, and initial values of objects. Each piece of code goes by a number from 1 on, and each
-- static variable by one from 0 on.
use Rattle.std.specs.Prelude.{string_bytes, zero, ℕ, Bool, true, false, List, [], ◌∷◌, ◌++◌, map, flat_map, suc, position, Option, None, Some, slice_get, bytes_eq}
use Rattle.std.specs.List.{filter_map, list_any, filter}
use Rattle.std.specs.Option.{option_map, option_map_or, unwrap_or}
use Rattle.hph_ast.specs.declared.expr.Expr.{Expr}
use Rattle.hph_ast.specs.declared.function.Function.{Function, out-Function}
use Rattle.hph_ast.specs.declared.function.Param.{Param}
use Rattle.hph_ast.specs.declared.class.Class.{Class, out-Class}
use Rattle.hph_ast.specs.declared.class.Access.{Access}
use Rattle.hph_ast.specs.declared.class.Access.TheVariants as access
use Rattle.hph_ast.specs.declared.class.Modifiers.{Modifiers}
use Rattle.hph_ast.specs.declared.class.Member.{Member, out-Member}
use Rattle.hph_ast.specs.declared.class.PropertyItem.{PropertyItem}
use Rattle.hph_ast.specs.declared.class.ConstantItem.{ConstantItem}
use Rattle.hph_ast.specs.declared.class.Member.TheOpen.{Member-F, Statement-F, Class-F, Function-F, Case-F, ElseIf-F}
use Rattle.hph_ast.specs.declared.class.Member.TheFolds.{para-Statement}
use Rattle.hph_ast.specs.declared.stmt.Statement.{Statement}
use Rattle.hph_ast.specs.declared.stmt.StaticVariable.{StaticVariable}
use Rattle.hph_ast.specs.declared.stmt.Case.{Case}
use Rattle.hph_ast.specs.declared.stmt.ElseIf.{ElseIf}
use Rattle.hph_ast.specs.declared.program.File.{File}
use Rattle.hph_ast.specs.declared.program.Program.{Program}
use Rattle.hph_php.specs.State.{Name, folded, Site, is_site, Visibility, Public, Protected, Private}
use Rattle.hph_php.specs.State as state

-- a function, a class, a method of the class that begins at an offset, and a static variable whose name stands at an offset
pub data Declaration : Type 0 where
  a_function : (function : Function) → Declaration
  a_class : (class : Class) → Declaration
  a_method : (class : ℕ) → (is_static : Bool) → (function : Function) → Declaration
  a_static : (offset : ℕ) → Declaration

abbrev pub Found : Type 0
Found = List Declaration

-- a part with the declarations in it, a member's by the offset of its class
abbrev pub With : Type 0 → Type 0
With T = T × Found

abbrev pub WithMember : Type 0
WithMember = Member × (ℕ → Found)

-- each is given its parts
abbrev pub function_found : Function-F WithMember (With Statement) (With Class) (With Function) (With Case) (With ElseIf) → Found
function_found f = flat_map (λ s. s.1) f.body

abbrev pub class_found : Class-F WithMember (With Statement) (With Class) (With Function) (With Case) (With ElseIf) → Found
class_found c = flat_map (λ m. m.1 c.at.start) c.members

abbrev pub member_found : Member-F WithMember (With Statement) (With Class) (With Function) (With Case) (With ElseIf) → ℕ → Found
member_found (Member-F.Method at mods f) class = a_method class mods.is_static f.0 ∷ f.1
member_found _ class = []

abbrev pub case_found : Case-F WithMember (With Statement) (With Class) (With Function) (With Case) (With ElseIf) → Found
case_found c = flat_map (λ s. s.1) c.body

abbrev pub else_if_found : ElseIf-F WithMember (With Statement) (With Class) (With Function) (With Case) (With ElseIf) → Found
else_if_found b = b.body.1

abbrev pub statement_found : Statement-F WithMember (With Statement) (With Class) (With Function) (With Case) (With ElseIf) → Found
statement_found (Statement-F.Block at body) = flat_map (λ s. s.1) body
statement_found (Statement-F.Function f) = a_function f.0 ∷ f.1
statement_found (Statement-F.Class c) = a_class c.0 ∷ c.1
statement_found (Statement-F.If at x body more other) = body.1 ++ (flat_map (λ b. b.1) more ++ option_map_or (λ s. s.1) other [])
statement_found (Statement-F.While at x body) = body.1
statement_found (Statement-F.DoWhile at body x) = body.1
statement_found (Statement-F.For at init test step body) = body.1
statement_found (Statement-F.Foreach at x key value body) = body.1
statement_found (Statement-F.Switch at x cases) = flat_map (λ c. c.1) cases
statement_found (Statement-F.Static at variables) = map (λ (v : StaticVariable). a_static v.name.start) variables
statement_found _ = []

-- the declarations in a statement, in order of text, a class before its methods
unfoldable pub declarations_in : Statement → Found
declarations_in = para-Statement (ℕ → Found) Found Found Found Found Found
    member_found statement_found class_found function_found case_found else_if_found

-- ---- code

-- What a piece of code is. A class goes by its number, a function outside classes has none.
pub data Code : Type 0 where
  a_body : (function : Function) → (class : Option ℕ) → (is_static : Bool) → Code
  a_value : (value : Expr) → (class : ℕ) → Code
  initial_values : (properties : List (Name × Option Expr)) → (class : ℕ) → Code

-- a piece of code, with the place where its declaration begins, or the name of what it is the value of
pub record Placed : Type 0 where
  pub site : Site
  pub code : Code

pub record PlacedClass : Type 0 where
  pub site : Site
  pub class : Class

-- a program as its meaning goes through it: the paths of its files, its classes by their numbers, its code, and the places of its
-- static variables by their numbers
pub record Codes : Type 0 where
  pub paths : List (List ℕ)
  pub classes : List PlacedClass
  pub codes : List Placed
  pub statics : List Site

abbrev pub site_at : ℕ → ℕ → Site
site_at file offset = record { file = file; offset = offset }

abbrev pub placed_at : ℕ → ℕ → Code → Placed
placed_at file offset code = record { site = site_at file offset; code = code }

abbrev pub path_of : File → List ℕ
path_of f = string_bytes f.path

abbrev pub file_declarations : File → Found
file_declarations f = flat_map declarations_in f.tree.statements

-- a list with the number of each
abbrev pub numbered_from : {A : Type 0} → ℕ → List A → List (ℕ × A)
numbered_from n [] = []
numbered_from n (x ∷ xs) = (n, x) ∷ numbered_from (suc n) xs

-- all declarations, with the numbers of their files
abbrev pub all_declarations : Program → List (ℕ × Declaration)
all_declarations p = flat_map (λ f. map (λ d. (f.0, d)) (file_declarations f.1)) (numbered_from 0 p.files)

-- the place where a declaration begins
abbrev pub declaration_site : ℕ × Declaration → Site
declaration_site (file, a_function f) = site_at file (out-Function f).at.start
declaration_site (file, a_class c) = site_at file (out-Class c).at.start
declaration_site (file, a_method class is_static f) = site_at file (out-Function f).at.start
declaration_site (file, a_static offset) = site_at file offset

-- the declarations that are scopes: all but static variables
abbrev pub is_scope : Declaration → Bool
is_scope (a_static offset) = false
is_scope _ = true

abbrev pub static_declaration : ℕ × Declaration → Option Site
static_declaration (file, a_static offset) = Some (site_at file offset)
static_declaration _ = None

abbrev pub static_declarations : Program → List Site
static_declarations p = filter_map static_declaration (all_declarations p)

abbrev pub class_declaration : ℕ × Declaration → Option PlacedClass
class_declaration (file, a_class c) = Some (record { site = site_at file (out-Class c).at.start; class = c })
class_declaration _ = None

abbrev pub class_declarations : Program → List PlacedClass
class_declarations p = filter_map class_declaration (all_declarations p)

-- the number of the class that begins at a place
abbrev pub class_number : List PlacedClass → Site → ℕ
class_number classes site = unwrap_or (position (λ c. is_site site c.site) classes) 0

abbrev pub body_code : List PlacedClass → ℕ × Declaration → Option Placed
body_code classes (file, a_function f) = Some (placed_at file (out-Function f).at.start (a_body f None false))
body_code classes (file, a_method class is_static f) =
    Some (placed_at file (out-Function f).at.start (a_body f (Some (class_number classes (site_at file class))) is_static))
body_code classes _ = None

-- ---- members with values

abbrev pub constants_in : Member → List ConstantItem
constants_in m = constants_at (out-Member m)
  where
    constants_at : Member-F Member Statement Class Function Case ElseIf → List ConstantItem
    constants_at (Member-F.Constants at mods items) = items
    constants_at _ = []

-- the properties that are static, or those that aren't
abbrev pub properties_in : Bool → Member → List PropertyItem
properties_in static m = properties_at (out-Member m)
  where
    if_static : Bool → Bool → List PropertyItem → List PropertyItem
    if_static true true items = items
    if_static false false items = items
    if_static _ _ items = []

    properties_at : Member-F Member Statement Class Function Case ElseIf → List PropertyItem
    properties_at (Member-F.Properties at mods ty items) = if_static static mods.is_static items
    properties_at _ = []

abbrev pub members_of : PlacedClass → List Member
members_of c = (out-Class c.class).members

abbrev pub constant_codes : ℕ × PlacedClass → List Placed
constant_codes (number, c) =
    map (λ (i : ConstantItem). placed_at c.site.file i.name.start (a_value i.value number)) (flat_map constants_in (members_of c))

abbrev pub static_codes : ℕ × PlacedClass → List Placed
static_codes (number, c) =
    filter_map (λ (i : PropertyItem). option_map (λ x. placed_at c.site.file i.name.start (a_value x number)) i.value)
    (flat_map (properties_in true) (members_of c))

abbrev pub initial_code : ℕ × PlacedClass → Placed
initial_code (number, c) =
    record { site = c.site; code = initial_values (map named_value (flat_map (properties_in false) (members_of c))) number }
  where
    named_value : PropertyItem → Name × Option Expr
    named_value i = (i.name.spelled, i.value)

-- bodies of functions and methods, then constants, static properties with a value, and classes, each in order of text
abbrev pub all_codes : Program → List Placed
all_codes p =
    filter_map (body_code (class_declarations p)) (all_declarations p)
    ++ (flat_map constant_codes (numbered_from 0 (class_declarations p))
    ++ (flat_map static_codes (numbered_from 0 (class_declarations p))
    ++ map initial_code (numbered_from 0 (class_declarations p))))

abbrev pub codes_of : Program → Codes
codes_of p = record { paths = map path_of p.files; classes = class_declarations p; codes = all_codes p; statics = static_declarations p }

-- the number of the code at a place, 0 where there is none
abbrev pub code_number : Codes → Site → ℕ
code_number p site = option_map_or suc (position (λ c. is_site site c.site) p.codes) 0

-- the number of the static variable at a place
abbrev pub static_number : Codes → Site → ℕ
static_number p site = unwrap_or (position (is_site site) p.statics) 0

abbrev pub code_numbered : Codes → ℕ → Option Code
code_numbered p zero = None
code_numbered p (suc n) = option_map (λ (c : Placed). c.code) (slice_get p.codes n)

-- ---- the members of a declared class

abbrev pub visibility_of : Modifiers → Visibility
visibility_of mods = option_map_or visible mods.access Public
  where
    visible : Access → Visibility
    visible access.Protected = Protected
    visible access.Private = Private
    visible _ = Public

abbrev pub declared_constants : Codes → ℕ → Member → List state.Member
declared_constants p file m =
    map (λ (i : ConstantItem). record {
      name = i.name.spelled;
      visibility = Public;
      is_static = true;
      code = code_number p (site_at file i.name.start);
    }) (constants_in m)

-- a property that isn't static has its value by the class's code
abbrev pub declared_properties : Codes → ℕ → Member → List state.Member
declared_properties p file m = properties_at (out-Member m)
  where
    code_if : Bool → ℕ → ℕ
    code_if true offset = code_number p (site_at file offset)
    code_if false offset = 0

    properties_at : Member-F Member Statement Class Function Case ElseIf → List state.Member
    properties_at (Member-F.Properties at mods ty items) =
        map (λ (i : PropertyItem). record {
          name = i.name.spelled;
          visibility = visibility_of mods;
          is_static = mods.is_static;
          code = code_if mods.is_static i.name.start;
        }) items
    properties_at _ = []

abbrev pub declared_methods : Codes → ℕ → Member → List state.Member
declared_methods p file m = methods_at (out-Member m)
  where
    methods_at : Member-F Member Statement Class Function Case ElseIf → List state.Member
    methods_at (Member-F.Method at mods f) = record {
      name = (out-Function f).name.spelled;
      visibility = visibility_of mods;
      is_static = mods.is_static;
      code = code_number p (site_at file (out-Function f).at.start);
    } ∷ []
    methods_at _ = []

-- the class of a number as it is declared under a parent
abbrev pub declared_class : Codes → ℕ → Option ℕ → PlacedClass → state.Class
declared_class p number parent c = record {
  name = folded (out-Class c.class).name.spelled;
  number = number;
  parent = parent;
  constants = flat_map (declared_constants p c.site.file) (members_of c);
  properties = flat_map (declared_properties p c.site.file) (members_of c);
  methods = flat_map (declared_methods p c.site.file) (members_of c);
  initial = code_number p c.site;
}

-- ---- parameters by reference: all declarations of a name agree on a position that they have

abbrev pub takes_reference_at : ℕ → List Param → Bool
takes_reference_at position params = option_map_or (λ (p : Param). p.by_reference) (slice_get params position) false

-- the function of code that is a function's or, if asked, a method's body
abbrev pub body_of : Bool → Code → Option Function
body_of false (a_body f None is_static) = Some f
body_of true (a_body f (Some c) is_static) = Some f
body_of method code = None

abbrev pub bodies_named : Codes → Bool → Name → List Function
bodies_named p method name =
    filter (λ f. bytes_eq (folded name) (folded (out-Function f).name.spelled))
    (filter_map (λ (c : Placed). body_of method c.code) p.codes)

abbrev pub takes_reference : Codes → Bool → Name → ℕ → Bool
takes_reference p method name position = list_any (λ f. takes_reference_at position (out-Function f).params) (bodies_named p method name)
