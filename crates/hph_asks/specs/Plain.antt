-- Plain scopes: steady functions that make no reference, whose variables, results and expressions are exactly ints or exactly bools,
-- whose statements and operators are those of a closed list, and that call plain scopes alone. This project's own.
use Rattle.std.specs.Prelude.{◌==◌, ◌&&◌, ◌||◌, ℕ, zero, suc, Bool, true, false, not, List, [], ◌∷◌, ◌++◌, map, flat_map, length, if◌then◌else◌}
use Rattle.std.specs.List.{filter, list_any, list_all}
use Rattle.std.specs.Option.{option_map_or}
use Rattle.hph_type.specs.Types.{PhpType, same_type}
use Rattle.hph_type.specs.Classes.{Parents}
use Rattle.hph_ast.specs.declared.expr.Expr.{Expr}
use Rattle.hph_ast.specs.declared.expr.ClassReference.TheOpen.{Expr-F}
use Rattle.hph_ast.specs.declared.operator.Binary.{Binary}
use Rattle.hph_ast.specs.declared.operator.Binary.TheVariants as b
use Rattle.hph_ast.specs.declared.operator.Prefix.{Prefix}
use Rattle.hph_ast.specs.declared.operator.Prefix.TheVariants as prefix
use Rattle.hph_ast.specs.declared.operator.Assignment.{Assignment}
use Rattle.hph_ast.specs.declared.operator.Assignment.TheVariants as a
use Rattle.hph_ast.specs.declared.function.Param.{Param}
use Rattle.hph_ast.specs.declared.class.Member.TheOpen.{Statement-F}
use Rattle.hph_ast.specs.RefusedExpressions.{is_this_name}
use Rattle.hph_php.specs.State.{Name}
use Rattle.hph_sys.specs.Typings.{at as type_at}
use Rattle.hph_typing.specs.Scopes.{declared, is_function, params_of, functions_named}
use Rattle.hph_typing.specs.Parts.{With, Layer, StatementLayer, collected, collected_statement}
use Rattle.hph_typing.specs.Cells.{Table, bodies, own_cells}
use Rattle.hph_asks.specs.Types.{int, bool, type_of, is_among}
use Rattle.hph_asks.specs.Asks.{variable_name}

-- what is found in a scope: something that no plain scope has, or a call of a function
pub data Finding : Type 0 where
  outside : Finding
  a_call : (function : Name) → Finding

abbrev pub unless : Bool → List Finding
unless fits = if fits then [] else outside ∷ []

-- exactly Int or exactly Bool
abbrev pub is_word : PhpType → Bool
is_word x = same_type x int || same_type x bool

-- ---- the operators of the list

abbrev pub plain_binary : Binary → Bool
plain_binary b.Add = true
plain_binary b.Sub = true
plain_binary b.Mul = true
plain_binary b.Div = true
plain_binary b.Rem = true
plain_binary b.Less = true
plain_binary b.LessEqual = true
plain_binary b.Greater = true
plain_binary b.GreaterEqual = true
plain_binary b.Equal = true
plain_binary b.NotEqual = true
plain_binary b.Identical = true
plain_binary b.NotIdentical = true
plain_binary b.Spaceship = true
plain_binary b.BooleanAnd = true
plain_binary b.BooleanOr = true
plain_binary _ = false

abbrev pub plain_prefix : Prefix → Bool
plain_prefix prefix.Plus = true
plain_prefix prefix.Minus = true
plain_prefix prefix.Not = true
plain_prefix _ = false

abbrev pub plain_assignment : Assignment → Bool
plain_assignment a.Set = true
plain_assignment a.Add = true
plain_assignment a.Sub = true
plain_assignment a.Mul = true
plain_assignment a.Div = true
plain_assignment a.Rem = true
plain_assignment _ = false

-- a variable but `$this`
abbrev pub is_plain_variable : Expr → Bool
is_plain_variable x = option_map_or (λ name. not (is_this_name name)) (variable_name x) false

module _ (t : Table) (tree : Parents) (typing : List PhpType) (s : ℕ) where
  abbrev pub is_word_here : Expr → Bool
  is_word_here x = is_word (type_of t tree typing s x)

  abbrev pub words : List (With Finding Expr) → List Finding
  words xs = unless (list_all (λ x. is_word_here x.0) xs)

  -- ---- the expressions and statements of the list

  abbrev pub in_expression : Layer Finding → List Finding
  in_expression (Expr-F.Int at n) = []
  in_expression (Expr-F.Constant at name) = []
  in_expression (Expr-F.Variable at name) = unless (not (is_this_name name))
  in_expression (Expr-F.Paren at x) = words (x ∷ [])
  in_expression (Expr-F.Call at name xs) = a_call name ∷ words xs
  in_expression (Expr-F.Prefix at op x) = unless (plain_prefix op) ++ words (x ∷ [])
  in_expression (Expr-F.Run at x more) = unless (list_all (λ o. plain_binary o.0) more) ++ words (x ∷ map (λ o. o.1) more)
  in_expression (Expr-F.Pair at op x y) = unless (plain_binary op) ++ words (x ∷ y ∷ [])
  in_expression (Expr-F.Ternary at x y z) = words (x ∷ y ∷ z ∷ [])
  in_expression (Expr-F.ShortTernary at x more) = words (x ∷ more)
  in_expression (Expr-F.Assign at op x y) = unless (plain_assignment op && is_plain_variable x.0) ++ words (x ∷ y ∷ [])
  in_expression (Expr-F.Update at form x) = unless (is_plain_variable x.0) ++ words (x ∷ [])
  in_expression _ = outside ∷ []

  abbrev pub found_in : Expr → List Finding
  found_in x = unless (is_word_here x) ++ collected in_expression x

  abbrev pub in_statement : StatementLayer Finding → List Finding
  in_statement (Statement-F.Block at body) = []
  in_statement (Statement-F.Expression at x) = []
  in_statement (Statement-F.If at x body more other) = []
  in_statement (Statement-F.While at x body) = []
  in_statement (Statement-F.DoWhile at body x) = []
  in_statement (Statement-F.For at init test step body) = []
  in_statement (Statement-F.Break at levels) = []
  in_statement (Statement-F.Continue at levels) = []
  in_statement (Statement-F.Return at value) = []
  in_statement _ = outside ∷ []

  abbrev pub in_parameter : Param → List Finding
  in_parameter x = unless (not x.by_reference) ++ option_map_or found_in x.default []

  abbrev pub found_in_scope : List Finding
  found_in_scope =
      unless (list_any (λ r. r == s) t.steady && option_map_or (λ d. is_function d.1) (declared t.declarations s) false)
      ++ (unless (list_all (λ c. is_word (type_at typing c)) (own_cells t s))
      ++ (flat_map in_parameter (option_map_or (λ d. params_of d.1) (declared t.declarations s) [])
      ++ flat_map (collected_statement found_in in_statement) (flat_map (λ body. body.1) (bodies t.program t.declarations s))))

-- ---- the largest set

-- a name with one declaration, that is among some scopes
abbrev pub calls_among : Table → List ℕ → Name → Bool
calls_among t scopes name = is_one (functions_named t.declarations name)
  where
    is_one : List ℕ → Bool
    is_one (s ∷ []) = is_among scopes s
    is_one _ = false

abbrev pub fits : Table → List ℕ → List Finding → Bool
fits t scopes [] = true
fits t scopes (outside ∷ found) = false
fits t scopes (a_call name ∷ found) = calls_among t scopes name && fits t scopes found

-- the scopes with what is found in them
abbrev pub Candidates : Type 0
Candidates = List (ℕ × List Finding)

abbrev pub narrowed : Table → ℕ → Candidates → Candidates
narrowed t zero cs = cs
narrowed t (suc rounds) cs = narrowed t rounds (filter (λ c. fits t (map (λ d. d.0) cs) c.1) cs)

-- each round but the last drops one, so as many are enough as there are scopes
abbrev pub plain_among : Table → Candidates → List ℕ
plain_among t cs = map (λ c. c.0) (narrowed t (length cs) cs)

unfoldable pub plain_scopes : Table → Parents → List PhpType → List ℕ
plain_scopes t tree typing = plain_among t (map (λ s. (s, found_in_scope t tree typing s)) (filter (λ s. not (s == 0)) t.steady))
