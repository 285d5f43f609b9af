-- Lists in brackets: what is in the grammar is what the parser answers.
use Rattle.std.specs.Prelude.{◌≡◌, ℕ, zero, suc, ◌≤◌, Bool, true, false, ◌&&◌, List, [], ◌∷◌, ◌++◌, length, Option, Some, None, refl}
use Rattle.std.proofs.Common.{ap, sym, ◌∙◌, arith, append_assoc, append-nil}
use Rattle.hph_ast.specs.declared.token.At.{At}
use Rattle.hph_ast.specs.declared.token.Token.{Token}
use Rattle.hph_ast.specs.declared.token.Kind.TheVariants as k
use Rattle.hph_ast.specs.declared.token.Mark.TheVariants as m
use Rattle.hph_ast.specs.declared.expr.Expr.{Expr, out-Expr}
use Rattle.hph_ast.specs.declared.expr.Expr.TheVariants as e
use denote.Hole.Carrier.{out}
use Rattle.hph_ast.specs.Levels.{Stops}
use Rattle.hph_ast.specs.Nesting.{nesting, greatest}
use Rattle.hph_ast.specs.Places.{place, on, span}
use Rattle.hph_ast.specs.Shapes.{is_read}
use Rattle.hph_ast.specs.Terminals.{IsMark}
use Rattle.hph_ast.specs.Expressions as g
use Rattle.hph_ast.specs.Expressions.{IsExpression, IsPostfix, IsArguments, IsArgument, IsMaybeArguments, IsPaths}
use Rattle.hph_fexpr.specs.NestingLaws.{NestingLaws}
use Rattle.hph_fexpr.specs.declared.form.Form.{Form}
use Rattle.hph_fexpr.specs.Endings.{Ends}
use Rattle.hph_cursor.specs.Steps.{Parser, sees, is_mark}
use Rattle.hph_cursor.specs.Next.{name_before, argument_name}
use Rattle.hph_fexpr.specs.Lists as p
use Rattle.hph_fexpr.proofs.Tools.{some_inj, then_is, choose_some, choose_none, if_true, if_false, mark_is, expect_is, opens_sees}
use Rattle.hph_cursor.proofs.Shorter.{postfix_shorter, argument_shorter, arguments_shorter}
use Rattle.hph_fexpr.proofs.Firsts.{Complete, mark_ends, mark_stops, not_first, argument_heads, paths_heads}
use Rattle.hph_fexpr.proofs.NestingGrows.{expression_positive}
use Rattle.hph_fexpr.proofs.ListsSound.{name_before_ok}

-- a name before a colon is an expression of its own
name_alone : (t q : Token) (us : List Token) (name : List ℕ) → t.kind ≡ k.Name name → IsMark m.Colon q →
    IsExpression 1 (t ∷ q ∷ us) (e.Constant (on t) name) (q ∷ us)
unfolding out-Expr out
name_alone t q us name is colon =
    g.term (g.postfix (g.primary (g.constant is (opens_sees (q ∷ us) ∙ ap (is_mark m.OpenParen) colon)) (g.no_steps g.ends)) refl)

same_rest : {A : Type 0} {x y : A} {us vs : List Token} → ◌≡◌ {A = Option (A × List Token)} (Some (x, us)) (Some (y, vs)) → us ≡ vs
same_rest {A} {x} {y} {us} {vs} h = ap (λ (r : A × List Token). r.1) (some_inj h)

module _ (laws : NestingLaws) (depth : ℕ) (below : Form → Parser Expr) (all : Complete depth below) where
  -- no argument without a name begins with a name and a colon
  unnamed : (ts rest : List Token) (x : Expr) → IsExpression 1 ts x rest → nesting x ≤ depth → Stops 1 rest → sees m.Colon rest ≡ false →
      argument_name ts ≡ None
  unnamed [] rest x d small stops shut = refl
  unnamed (t ∷ []) rest x d small stops shut = refl
  unnamed (t ∷ q ∷ us) rest x d small stops shut = go (name_before t.kind q.kind) refl
    where
      go : (o : Option (List ℕ)) → name_before t.kind q.kind ≡ o → name_before t.kind q.kind ≡ None
      go None h = h
      go (Some name) h =
          let c = name_before_ok t.kind q.kind name h in
          let positive = expression_positive laws d in
          let one = laws.constant (on t) name in
          let same : q ∷ us ≡ rest =
          same_rest (sym (all.level 1 (t ∷ q ∷ us) (q ∷ us) (e.Constant (on t) name) (omega arith) (name_alone t q us name c.0 c.1)
          (omega arith) (mark_stops m.Colon refl c.1))
          ∙ all.level 1 (t ∷ q ∷ us) rest x (omega arith) d small stops) in
          let seen : sees m.Colon rest ≡ true = ap (sees m.Colon) (sym same) ∙ mark_is m.Colon c.1 in
          absurd (let f = shut in cc)

  argument_is : {ts rest : List Token} {x : Expr} → IsArgument ts x rest → nesting x ≤ depth → Stops 1 rest → sees m.Colon rest ≡ false →
      p.argument below ts ≡ Some (x, rest)
  unfolding p.argument p.named_argument
  argument_is (g.argument {ts = ts} {rest = rest} {x = x} d) small stops shut =
      choose_none _ _ (unnamed ts rest x d small stops shut) (all.level 1 ts rest x (omega arith) d small stops)
  argument_is (g.named_argument {ts = ts} {rest = rest} {t = t} {q = q} {name = name} {x = x} is colon d) small stops shut =
      let n = laws.named_argument (span (on t) (place x)) name x in
      let named : name_before t.kind q.kind ≡ Some name =
      ap (λ kind. name_before kind q.kind) is ∙ if_true _ _ (mark_is m.Colon colon) refl in
      choose_some _ _ named (then_is _ (all.level 1 ts rest x (omega arith) d (omega arith) stops) refl)

  arguments_from_is : (n : ℕ) (found : List Expr) {ts rest : List Token} {xs : List Expr} {c : Token} → IsArguments ts xs c rest →
      length ts ≤ n → greatest nesting xs ≤ depth →
      p.arguments_from below n found ts ≡ Some ((found ++ xs, on c), rest)
  unfolding p.arguments_from
  arguments_from_is zero found d short small = absurd (omega (arith, arguments_shorter d))
  arguments_from_is (suc n) found (g.arguments_end {rest = rest} {c = c} mark) short small =
      if_true _ _ (mark_is m.CloseParen mark) (ap (λ xs. Some ((xs, on c), rest)) (sym (append-nil found)))
  arguments_from_is (suc n) found (g.arguments_last {c = c} {x = x} d mark) short small =
      if_false _ _ (not_first m.CloseParen refl (argument_heads d))
      (then_is _ (argument_is d (omega arith) (mark_stops m.CloseParen refl mark) (ap (is_mark m.Colon) mark))
      (if_false _ _ (ap (is_mark m.Comma) mark) (then_is _ (expect_is mark) refl)))
  arguments_from_is (suc n) found (g.arguments_more {rest = rest} {c = c} {x = x} {xs = xs} d mark more) short small =
      if_false _ _ (not_first m.CloseParen refl (argument_heads d))
      (then_is _ (argument_is d (omega arith) (mark_stops m.Comma refl mark) (ap (is_mark m.Colon) mark))
      (if_true _ _ (mark_is m.Comma mark) (arguments_from_is n (found ++ x ∷ []) more (omega (arith, argument_shorter d)) (omega arith)
      ∙ ap (λ xs. Some ((xs, on c), rest)) (append_assoc found (x ∷ []) xs))))

  pub arguments_is : {ts rest : List Token} {xs : List Expr} {c : Token} → IsArguments ts xs c rest → greatest nesting xs ≤ depth →
      p.arguments below ts ≡ Some ((xs, on c), rest)
  unfolding p.arguments
  arguments_is {ts = ts} d small = arguments_from_is (length ts) [] d (omega arith) small

  pub maybe_arguments_is : {at last : At} {ts rest : List Token} {xs : List Expr} → IsMaybeArguments at ts xs last rest →
      greatest nesting xs ≤ depth → p.maybe_arguments below at ts ≡ Some ((xs, last), rest)
  unfolding p.maybe_arguments
  maybe_arguments_is (g.no_arguments {ts = ts} shut) small = if_false _ _ (sym (opens_sees ts) ∙ shut) refl
  maybe_arguments_is (g.some_arguments mark d) small = if_true _ _ (mark_is m.OpenParen mark) (arguments_is d small)

  tested_path_is : (test : Expr → Bool) {ts rest : List Token} {x : Expr} → IsPostfix ts x rest → is_read x ≡ true → test x ≡ true →
      nesting x ≤ depth → Ends rest →
      p.tested_path below test ts ≡ Some (x, rest)
  unfolding p.tested_path
  tested_path_is test {ts = ts} {rest = rest} {x = x} d read passes small ends =
      let both : (is_read x && test x) ≡ true = cc (read, passes) in
      then_is _ (all.postfix ts rest x d small ends) (if_true _ _ both refl)

  paths_from_is : (test : Expr → Bool) (n : ℕ) (found : List Expr) {ts rest : List Token} {xs : List Expr} {c : Token} →
      IsPaths test ts xs c rest → length ts ≤ n → greatest nesting xs ≤ depth →
      p.paths_from below test n found ts ≡ Some ((found ++ xs, on c), rest)
  unfolding p.paths_from
  paths_from_is test zero found (g.paths_last d read passes mark) short small = absurd (omega (arith, postfix_shorter d))
  paths_from_is test zero found (g.paths_last_comma d read passes comma mark) short small = absurd (omega (arith, postfix_shorter d))
  paths_from_is test zero found (g.paths_more d read passes comma more) short small = absurd (omega (arith, postfix_shorter d))
  paths_from_is test (suc n) found (g.paths_last d read passes mark) short small =
      then_is _ (tested_path_is test d read passes (omega arith) (mark_ends m.CloseParen refl mark))
      (if_false _ _ (ap (is_mark m.Comma) mark) (then_is _ (expect_is mark) refl))
  paths_from_is test (suc n) found (g.paths_last_comma d read passes comma mark) short small =
      then_is _ (tested_path_is test d read passes (omega arith) (mark_ends m.Comma refl comma))
      (if_true _ _ (mark_is m.Comma comma) (if_true _ _ (mark_is m.CloseParen mark) refl))
  paths_from_is test (suc n) found (g.paths_more {rest = rest} {c = c} {x = x} {xs = xs} d read passes comma more) short small =
      then_is _ (tested_path_is test d read passes (omega arith) (mark_ends m.Comma refl comma)) (if_true _ _ (mark_is m.Comma comma)
      (if_false _ _ (not_first m.CloseParen refl (paths_heads more))
      (paths_from_is test n (found ++ x ∷ []) more (omega (arith, postfix_shorter d)) (omega arith)
      ∙ ap (λ xs. Some ((xs, on c), rest)) (append_assoc found (x ∷ []) xs))))

  pub paths_is : (test : Expr → Bool) {ts rest : List Token} {xs : List Expr} {c : Token} → IsPaths test ts xs c rest →
      greatest nesting xs ≤ depth → p.paths below test ts ≡ Some ((xs, on c), rest)
  unfolding p.paths
  paths_is test {ts = ts} d small = paths_from_is test (length ts) [] d (omega arith) small
