-- Names that may not stand twice: each that stands in the list before it.
use Rattle.std.specs.Prelude.{◌≡◌, ℕ, Bool, Option, List, [], ◌∷◌, ◌++◌, map}
use Rattle.std.specs.List.{list_any}
use Rattle.hph_ast.specs.declared.token.Identifier.{Identifier}
use Rattle.hph_ast.specs.declared.class.Member.{Member}
use Rattle.hph_ast.specs.declared.refusal.Construct.TheVariants as c
use Rattle.hph_ast.specs.RefusedExpressions.{Found, on_true}
use Rattle.hph_ast.specs.RefusedStatements as refused
use Rattle.hph_names.specs.declared.met.Case.{Case}
use Rattle.hph_names.specs.declared.met.Case.TheVariants.{Kept, Ignored}
use Rattle.hph_names.specs.Names.{is_same, Knows}
use Rattle.hph_accept.specs.declared.names.Sort.{Sort}
use Rattle.hph_accept.specs.declared.names.Sort.TheVariants.{Parameters, Constants, Properties, Methods}
use Rattle.hph_accept.specs.Parts.{member_of}

-- whether the names of a sort keep their case: those of methods don't
abbrev pub case_of : Sort → Case
case_of Methods = Ignored
case_of _ = Kept

-- how two names of a sort are compared
abbrev pub same_of : Sort → List ℕ → List ℕ → Bool
same_of sort a b = is_same (case_of sort) a b

abbrev pub spelled : List Identifier → List (List ℕ)
spelled names = map (λ (name : Identifier). name.spelled) names

-- the names of a sort that a member declares
abbrev pub names_of : Sort → Member → List Identifier
names_of Parameters x = []
names_of Constants x = refused.names_of_sort refused.constants (member_of x)
names_of Properties x = refused.names_of_sort refused.properties (member_of x)
names_of Methods x = refused.names_of_sort refused.methods (member_of x)

-- these names of a sort were met, and no others
abbrev pub Tracks : Sort → Case × Option (List (List ℕ)) → List Identifier → Type 0
Tracks sort met names = (met.0 ≡ case_of sort) × Knows met (spelled names)

-- those that stand twice, behind names that are in order
abbrev pub repeats : Sort → List Identifier → List Identifier → Found
repeats sort before [] = []
repeats sort before (x ∷ xs) = on_true (list_any (same_of sort x.spelled) (spelled before)) c.DuplicateName x.start ++ repeats sort (before ++ x ∷ []) xs
