-- Lists in brackets: what the parser answers is in the grammar.
use Rattle.std.specs.Prelude.{◌≡◌, ℕ, zero, suc, Bool, true, ◌&&◌, List, [], ◌∷◌, ◌++◌, length, Some}
use Rattle.std.proofs.Common.{ap, ◌∙◌}
use Rattle.std.proofs.lemmas.Option.{cond_some}
use Rattle.hph_ast.specs.declared.token.At.{At}
use Rattle.hph_ast.specs.declared.token.Token.{Token}
use Rattle.hph_ast.specs.declared.token.Kind.{Kind}
use Rattle.hph_ast.specs.declared.token.Kind.TheVariants as k
use Rattle.hph_ast.specs.declared.token.Mark.TheVariants as m
use Rattle.hph_ast.specs.declared.expr.Expr.{Expr}
use Rattle.hph_ast.specs.Shapes.{is_read}
use Rattle.hph_ast.specs.Terminals.{IsMark}
use Rattle.hph_ast.specs.Expressions as g
use Rattle.hph_ast.specs.Expressions.{IsPostfix, IsArguments, IsArgument, IsMaybeArguments, IsPaths}
use Rattle.hph_fexpr.specs.declared.form.Form.{Form}
use Rattle.hph_fexpr.specs.declared.form.Form.TheVariants.{Level, Postfix}
use Rattle.hph_cursor.specs.Steps.{Parser, is_mark}
use Rattle.hph_cursor.specs.Next.{name_before}
use Rattle.hph_fexpr.specs.Lists as p
use Rattle.hph_fexpr.proofs.Tools.{is_mark_true, both_true, opens_sees, Gives, none, some, then_ok, map_ok, choose_ok, if_ok, sees_at, sees_with, expect_with, Sound, Closed, closes, closes_behind, one_closed, closed_as}

pub name_before_ok : (here next : Kind) (name : List ℕ) → name_before here next ≡ Some name → (here ≡ k.Name name) × (next ≡ k.Mark m.Colon)
name_before_ok (k.Name found) next name h = let c =
    cond_some (is_mark m.Colon next) found name h in (ap k.Name c.1, is_mark_true m.Colon next c.0)
name_before_ok _ next name h = absurd (cc)

-- a path that is read and passes a test
pub record Tested (test : Expr → Bool) (ts : List Token) (x : Expr) (rest : List Token) : Type 0 where
  pub is : IsPostfix ts x rest
  pub read : is_read x ≡ true
  pub passes : test x ≡ true

-- arguments or none, and the place where they end
pub record Maybe (at : At) (ts : List Token) (r : List Expr × At) (rest : List Token) : Type 0 where
  pub is : IsMaybeArguments at ts r.0 r.1 rest

module _ (below : Form → Parser Expr) (ok : Sound below) where
  named_argument_ok : (name : List ℕ) (t q : Token) (ts : List Token) → t.kind ≡ k.Name name → IsMark m.Colon q →
      Gives (IsArgument (t ∷ q ∷ ts)) (p.named_argument below name (t ∷ q ∷ ts))
  unfolding p.named_argument
  named_argument_ok name t q ts is colon = then_ok (ok (Level 1) ts) (λ x rest d. some (g.named_argument is colon d.is))

  plain_argument_ok : (ts : List Token) → Gives (IsArgument ts) (below (Level 1) ts)
  plain_argument_ok ts = map_ok (ok (Level 1) ts) (λ x rest d. g.argument d.is)

  argument_ok : (ts : List Token) → Gives (IsArgument ts) (p.argument below ts)
  unfolding p.argument
  argument_ok [] = plain_argument_ok []
  argument_ok (t ∷ []) = plain_argument_ok (t ∷ [])
  argument_ok (t ∷ q ∷ ts) = choose_ok (name_before t.kind q.kind) (λ _. plain_argument_ok (t ∷ q ∷ ts))
      (λ name e. let c = name_before_ok t.kind q.kind name e in named_argument_ok name t q ts c.0 c.1)

  arguments_from_ok : (n : ℕ) (found : List Expr) (ts : List Token) →
      Gives (Closed IsArguments found ts) (p.arguments_from below n found ts)
  unfolding p.arguments_from
  arguments_from_ok zero found ts = none
  arguments_from_ok (suc n) found ts = sees_at (Closed IsArguments found) m.CloseParen ts
      (λ c us mark. some (closes c (g.arguments_end mark)))
      (λ _. then_ok (argument_ok ts) (λ x us d. sees_with (IsArgument ts x) m.Comma us d
      (λ t vs comma d. map_ok (arguments_from_ok n (found ++ x ∷ []) vs)
      (λ all rest r. one_closed r (λ xs c more. g.arguments_more d comma more)))
      (λ _. expect_with (IsArgument ts x) m.CloseParen us d (λ c rest mark d. some (closes_behind x c (g.arguments_last d mark))))))

  pub arguments_ok : (ts : List Token) → Gives (Closed IsArguments [] ts) (p.arguments below ts)
  unfolding p.arguments
  arguments_ok ts = arguments_from_ok (length ts) [] ts

  opened_ok : (at : At) (o : Token) (ts : List Token) → IsMark m.OpenParen o → Gives (Maybe at (o ∷ ts)) (p.arguments below ts)
  opened_ok at o ts mark = map_ok (arguments_ok ts)
      (λ r rest a. record { is = closed_as (λ xs last. IsMaybeArguments at (o ∷ ts) xs last rest) a (λ xs c d. g.some_arguments mark d) })

  pub maybe_arguments_ok : (at : At) (ts : List Token) → Gives (Maybe at ts) (p.maybe_arguments below at ts)
  unfolding p.maybe_arguments
  maybe_arguments_ok at ts = sees_at (Maybe at) m.OpenParen ts
      (λ o us mark. opened_ok at o us mark)
      (λ shut. some (record { is = g.no_arguments (opens_sees ts ∙ shut) }))

  tested_path_ok : (test : Expr → Bool) (ts : List Token) → Gives (Tested test ts) (p.tested_path below test ts)
  unfolding p.tested_path
  tested_path_ok test ts = then_ok (ok Postfix ts) (λ x rest d. if_ok (is_read x && test x)
      (λ h. let c = both_true (is_read x) (test x) h in some (record { is = d; read = c.0; passes = c.1 }))
      (λ _. none))

  paths_from_ok : (test : Expr → Bool) (n : ℕ) (found : List Expr) (ts : List Token) →
      Gives (Closed (IsPaths test) found ts) (p.paths_from below test n found ts)
  unfolding p.paths_from
  paths_from_ok test zero found ts = none
  paths_from_ok test (suc n) found ts = then_ok (tested_path_ok test ts) (λ x us d. sees_with (Tested test ts x) m.Comma us d
      (λ t vs comma d. sees_with (λ vs. Tested test ts x (t ∷ vs)) m.CloseParen vs d
      (λ c rest mark d. some (closes_behind x c (g.paths_last_comma d.is d.read d.passes comma mark)))
      (λ _. map_ok (paths_from_ok test n (found ++ x ∷ []) vs)
      (λ all rest r. one_closed r (λ xs c more. g.paths_more d.is d.read d.passes comma more))))
      (λ _. expect_with (Tested test ts x) m.CloseParen us d
      (λ c rest mark d. some (closes_behind x c (g.paths_last d.is d.read d.passes mark)))))

  pub paths_ok : (test : Expr → Bool) (ts : List Token) → Gives (Closed (IsPaths test) [] ts) (p.paths below test ts)
  unfolding p.paths
  paths_ok test ts = paths_from_ok test (length ts) [] ts
