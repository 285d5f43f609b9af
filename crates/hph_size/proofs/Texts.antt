-- What a file prints was spelled by the tokens of its statements.
use Rattle.std.proofs.Common.{◌≡◌, ℕ, ◌+◌, ◌*◌, ◌≤◌, Bool, List, [], ◌∷◌, ◌++◌, length, Ok, Err, ap, subst, length-append, arith}
use Rattle.std.specs.List.{concat}
use Rattle.std.specs.Fmt.{decimal}
use Rattle.std.proofs.lemmas.List.Folds.{concat-append}
use denote.Hole.Carrier.{out}
use Rattle.hph_ast.specs.declared.token.Token.{Token}
use Rattle.hph_ast.specs.declared.token.Mark.{Mark}
use Rattle.hph_ast.specs.declared.expr.Expr.{Expr, out-Expr}
use Rattle.hph_ast.specs.declared.expr.ClassReference.TheOpen.{Expr-F}
use Rattle.hph_ast.specs.declared.stmt.Statement.{Statement, out-Statement}
use Rattle.hph_ast.specs.declared.program.FileTree.{FileTree}
use Rattle.hph_ast.specs.Layers.{ExprLayer}
use Rattle.hph_ast.specs.Places.{place}
use Rattle.hph_ast.specs.Fronts.{UsesFront}
use Rattle.hph_ast.specs.Expressions.{IsExpression}
use Rattle.hph_ast.specs.Statements.{IsExprs, IsStatement, IsStatements, IsFile}
use Rattle.hph_ast.specs.Statements as s
use Rattle.hph_ast.specs.Tokens.{SpellsTokens}
use Rattle.hph_text.specs.Texts.{Texts, behind, in_order, operand_text, text_or, operand_texts, statement_texts, file_texts}
use Rattle.hph_size.proofs.Weights.{weight, weights}
use Rattle.hph_size.proofs.Operands.{weight_at, spelled, operand_fits}
use Rattle.hph_size.proofs.Files.{tokens_are_light}

-- all bytes of texts, and one for each of them
abbrev size : List (List ℕ) → ℕ
size texts = length (concat texts) + length texts

size-append : (texts more : List (List ℕ)) → size (texts ++ more) ≡ size texts + size more
size-append texts more = omega (arith, ap length (concat-append texts more), length-append (concat texts) (concat more), length-append texts more)

-- where there are texts, the tokens up to the rest spell them
data Fits (ts rest : List Token) : Texts → Type 0 where
  other : {at : ℕ} → Fits ts rest (Err at)
  fits : {texts : List (List ℕ)} → size texts + weights rest ≤ weights ts → Fits ts rest (Ok texts)

both : {ts mid rest : List Token} {a b : Texts} → Fits ts mid a → Fits mid rest b → Fits ts rest (behind a b)
both other more = other
both (fits here) other = other
both (fits {texts = texts} here) (fits {texts = more} there) = fits (omega (arith, size-append texts more))

skip : {t : Token} {ts rest : List Token} {a : Texts} → Fits ts rest a → Fits (t ∷ ts) rest a
skip other = other
skip (fits here) = fits (omega arith)

nothing : {t : Token} {rest : List Token} → Fits (t ∷ rest) rest (Ok [])
nothing = fits (omega arith)

-- ---- echo

layer_fits : {ts rest : List Token} (d : ExprLayer) (at : ℕ) → weight_at d + weights rest ≤ weights ts → Fits ts rest (text_or (operand_text d) at)
layer_fits (Expr-F.Int at v) start few = fits (omega (arith, length-append (decimal v) []))
layer_fits (Expr-F.Text at bytes) start few = fits (omega (arith, length-append bytes []))
layer_fits _ start few = other

-- that the tokens of an expression are a front
abbrev pub Fronts : Type 0
Fronts = (level : ℕ) (tokens : List Token) (x : Expr) (rest : List Token) → IsExpression level tokens x rest → UsesFront tokens rest

module _ (fronts : Fronts) where
  operand : {level : ℕ} {ts rest : List Token} {x : Expr} → IsExpression level ts x rest → Fits ts rest (operand_texts x)
  operand {x = x} is = layer_fits (out-Expr x) (place x).start (operand_fits (fronts _ _ _ _ is) (spelled is))

  operands : {closing : Mark} {ts rest : List Token} {xs : List Expr} {c : Token} → IsExprs closing ts xs c rest → Fits ts rest (in_order operand_texts xs)
  operands (s.exprs_last first closes) = both (operand first) nothing
  operands (s.exprs_more first comma more) = both (operand first) (skip (operands more))

  statement : {top : Bool} {ts rest : List Token} {x : Statement} → IsStatement top ts x rest → Fits ts rest (statement_texts x)
  unfolding out-Statement out
  statement (s.empty is) = nothing
  statement (s.inline_text {bytes = bytes} is) = fits (omega (arith, ap weight is, length-append bytes []))
  statement (s.echo is values) = skip (operands values)
  statement _ = other

  statements : {top : Bool} {ts rest : List Token} {xs : List Statement} → IsStatements top ts xs rest → Fits ts rest (in_order statement_texts xs)
  statements s.statements_end = fits (omega arith)
  statements (s.statements_more first more) = both (statement first) (statements more)

  file : {ts : List Token} {tree : FileTree} → IsFile ts tree → Fits ts [] (file_texts tree)
  file (s.file is) = statements is

  found : {ts rest : List Token} {texts : List (List ℕ)} → Fits ts rest (Ok texts) → size texts + weights rest ≤ weights ts
  found (fits few) = few

  pub texts_short : (bytes : List ℕ) (tokens : List Token) (tree : FileTree) (texts : List (List ℕ)) → SpellsTokens bytes tokens → IsFile tokens tree →
      file_texts tree ≡ Ok texts → length (concat texts) + length texts ≤ 2 * length bytes
  texts_short bytes tokens tree texts spells is same =
      omega (arith, tokens_are_light bytes tokens spells, found (subst (λ (a : Texts). Fits tokens [] a) same (file is)))
