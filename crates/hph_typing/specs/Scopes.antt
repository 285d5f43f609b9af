-- The scopes of a program. Scope 0 is the code at the top level of all files; then every function, class and method is one, in
-- order of declarations, a class before its methods. This project's own.
use Rattle.std.specs.Prelude.{filter_map, ◌&&◌, ℕ, zero, suc, Bool, true, false, List, [], ◌++◌, position, Option, None, Some, slice_get, bytes_eq, codes}
use Rattle.std.specs.Option.{option_map, option_map_or}
use Rattle.hph_ast.specs.declared.function.Function.{Function, out-Function}
use Rattle.hph_ast.specs.declared.function.Param.{Param}
use Rattle.hph_ast.specs.declared.class.Class.{out-Class}
use Rattle.hph_php.specs.State.{Name, folded, Site, is_site}
use Rattle.hph_php.specs.Declarations.{Declaration, a_function, a_class, a_method, a_static, declaration_site, site_at, numbered_from}

-- a declaration with the number of its file
abbrev pub Placed : Type 0
Placed = ℕ × Declaration

-- ASCII case is ignored in names of functions, methods and classes
abbrev pub same_name : Name → Name → Bool
same_name a b = bytes_eq (folded a) (folded b)

abbrev pub spelled : Declaration → Name
spelled (a_function f) = (out-Function f).name.spelled
spelled (a_class c) = (out-Class c).name.spelled
spelled (a_method class is_static f) = (out-Function f).name.spelled
spelled (a_static offset) = []

abbrev pub is_function : Declaration → Bool
is_function (a_function f) = true
is_function _ = false

abbrev pub is_class : Declaration → Bool
is_class (a_class c) = true
is_class _ = false

abbrev pub is_method : Declaration → Bool
is_method (a_method class is_static f) = true
is_method _ = false

-- two functions, or two classes
abbrev pub is_like : Declaration → Declaration → Bool
is_like (a_function f) e = is_function e
is_like (a_class c) e = is_class e
is_like _ e = false

-- the function of a function or method
abbrev pub code_of : Declaration → Option Function
code_of (a_function f) = Some f
code_of (a_method class is_static f) = Some f
code_of _ = None

abbrev pub params_of : Declaration → List Param
params_of d = option_map_or (λ f. (out-Function f).params) (code_of d) []

abbrev pub parent_of : Declaration → Option Name
parent_of (a_class c) = option_map (λ parent. parent.spelled) (out-Class c).parent
parent_of _ = None

-- ---- scopes by their numbers

-- the declaration of a scope; scope 0 has none
abbrev pub declared : List Placed → ℕ → Option Placed
declared ds zero = None
declared ds (suc s) = slice_get ds s

-- the scope of the declaration at a place
abbrev pub scope_at : List Placed → Site → ℕ
scope_at ds site = option_map_or suc (position (λ d. is_site site (declaration_site d)) ds) 0

-- the scopes whose declarations pass a test
abbrev pub scopes_where : (Declaration → Bool) → List Placed → List ℕ
scopes_where test ds = filter_map (λ d. if_passed d.0 (test d.1.1)) (numbered_from 1 ds)
  where
    if_passed : ℕ → Bool → Option ℕ
    if_passed s true = Some s
    if_passed s false = None

-- all declarations of a name
abbrev pub functions_named : List Placed → Name → List ℕ
functions_named ds name = scopes_where (λ d. is_function d && same_name name (spelled d)) ds

abbrev pub classes_named : List Placed → Name → List ℕ
classes_named ds name = scopes_where (λ d. is_class d && same_name name (spelled d)) ds

abbrev pub methods_named : List Placed → Name → List ℕ
methods_named ds name = scopes_where (λ d. is_method d && same_name name (spelled d)) ds

-- the class of a method's scope, and of a class's
abbrev pub class_of : List Placed → ℕ → Option ℕ
class_of ds scope = option_map_or (class_at scope) (declared ds scope) None
  where
    class_at : ℕ → Placed → Option ℕ
    class_at s (file, a_function f) = None
    class_at s (file, a_class c) = Some s
    class_at s (file, a_method class is_static f) = Some (scope_at ds (site_at file class))
    class_at s (file, a_static offset) = None

-- ---- names of scopes

-- main, f, C, C::m, spelled as declared
abbrev pub scope_name : List Placed → ℕ → Name
scope_name ds s = option_map_or name_of (declared ds s) (codes "main")
  where
    name_of : Placed → Name
    name_of (file, a_method class is_static f) =
        option_map_or (λ d. spelled d.1) (declared ds (scope_at ds (site_at file class))) [] ++ (codes "::" ++ (out-Function f).name.spelled)
    name_of (file, d) = spelled d
