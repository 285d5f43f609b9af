-- Parts of the grammar of one token, and what the next token tells: PHP manual, Language Reference.
use Rattle.std.specs.Prelude.{◌≡◌, ℕ, Bool, true, false, List, [], ◌∷◌, codes}
use Rattle.hph_ast.specs.declared.token.Token.{Token}
use Rattle.hph_ast.specs.declared.token.Kind.{Kind}
use Rattle.hph_ast.specs.declared.token.Kind.TheVariants as k
use Rattle.hph_ast.specs.declared.token.Mark.{Mark}
use Rattle.hph_ast.specs.declared.token.Mark.TheVariants as m
use Rattle.hph_ast.specs.declared.keyword.Keyword.{Keyword}
use Rattle.hph_ast.specs.declared.keyword.Keyword.TheVariants as w
use Rattle.hph_ast.specs.declared.expr.Expr.{Expr}
use Rattle.hph_ast.specs.declared.expr.Expr.TheVariants as e
use Rattle.hph_ast.specs.declared.expr.Update.{Update}
use Rattle.hph_ast.specs.declared.expr.Update.TheVariants as u
use Rattle.hph_ast.specs.declared.expr.ClassReference.{ClassReference}
use Rattle.hph_ast.specs.declared.expr.ClassReference.TheVariants as c
use Rattle.hph_ast.specs.Bytes.{is_word}
use Rattle.hph_ast.specs.Places.{on}

-- a token that is this mark, and one that is this keyword
abbrev pub IsMark : Mark → Token → Type 0
IsMark m t = t.kind ≡ k.Mark m

abbrev pub IsKeyword : Keyword → Token → Type 0
IsKeyword w t = t.kind ≡ k.Keyword w

-- the name `class`, in any case
abbrev pub is_class_word : List ℕ → Bool
is_class_word name = is_word (codes "class") name

-- cls = NAME | "self" | "parent" | "static"
pub data IsClass : Token → ClassReference → Type 0 where
  named : {t : Token} {name : List ℕ} → t.kind ≡ k.Name name → IsClass t (c.ByName (on t) name)
  self_class : {t : Token} → IsKeyword w.SelfClass t → IsClass t (c.SelfClass (on t))
  parent : {t : Token} → IsKeyword w.Parent t → IsClass t (c.Parent (on t))
  static : {t : Token} → IsKeyword w.Static t → IsClass t (c.Static (on t))

-- a step of the class behind "new" or "instanceof" comes next
abbrev pub is_target_step : Kind → Bool
is_target_step (k.Mark m.OpenBracket) = true
is_target_step (k.Mark m.Arrow) = true
is_target_step (k.Mark m.DoubleColon) = true
is_target_step _ = false

abbrev pub goes_on_as_target : List Token → Bool
goes_on_as_target [] = false
goes_on_as_target (t ∷ ts) = is_target_step t.kind

-- `++` or `--`, before and after a path
pub data IsPreUpdate : Token → Update → Type 0 where
  pre_increment : {t : Token} → IsMark m.Increment t → IsPreUpdate t u.PreIncrement
  pre_decrement : {t : Token} → IsMark m.Decrement t → IsPreUpdate t u.PreDecrement

pub data IsPostUpdate : Token → Update → Type 0 where
  post_increment : {t : Token} → IsMark m.Increment t → IsPostUpdate t u.PostIncrement
  post_decrement : {t : Token} → IsMark m.Decrement t → IsPostUpdate t u.PostDecrement

pub data IsExit : Token → Type 0 where
  exit : {t : Token} → IsKeyword w.Exit t → IsExit t
  die : {t : Token} → IsKeyword w.Die t → IsExit t

-- the key of `$v[..]` in a string; a name is the text that it spells
pub data IsKey : Token → Expr → Type 0 where
  key_name : {t : Token} {name : List ℕ} → t.kind ≡ k.Name name → IsKey t (e.Text (on t) name)
  key_variable : {t : Token} {name : List ℕ} → t.kind ≡ k.Variable name → IsKey t (e.Variable (on t) name)
  key_int : {t : Token} {v : ℕ} → t.kind ≡ k.Int v → IsKey t (e.Int (on t) v)
