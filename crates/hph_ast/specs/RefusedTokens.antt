-- Constructs that a token tells, and the token at which too many brackets are open. This project's own.
use Rattle.std.specs.Prelude.{ℕ, suc, pred, Bool, true, false, ◌&&◌, List, [], ◌∷◌, Option, Some, None, if◌then◌else◌, bytes_eq, nat_lt, codes}
use Rattle.std.specs.List.{list_any}
use Rattle.hph_ast.specs.declared.token.Token.{Token}
use Rattle.hph_ast.specs.declared.token.Kind.{Kind}
use Rattle.hph_ast.specs.declared.token.Kind.TheVariants as k
use Rattle.hph_ast.specs.declared.token.Mark.TheVariants as m
use Rattle.hph_ast.specs.declared.keyword.Keyword.{Keyword}
use Rattle.hph_ast.specs.declared.keyword.Keyword.TheVariants as w
use Rattle.hph_ast.specs.declared.operator.Binary.TheVariants as b
use Rattle.hph_ast.specs.declared.refusal.Construct.{Construct}
use Rattle.hph_ast.specs.declared.refusal.Construct.TheVariants as c
use Rattle.hph_ast.specs.Bytes.{is_word}

abbrev pub kind_next : List Token → Option Kind
kind_next [] = None
kind_next (t ∷ ts) = Some t.kind

-- `function` before `(` is a closure, and before `&` gives a reference
abbrev pub function_before : Option Kind → Option Construct
function_before (Some (k.Mark m.OpenParen)) = Some c.Closure
function_before (Some (k.Operator b.BitAnd)) = Some c.RefReturn
function_before _ = None

abbrev pub keyword_construct : Keyword → Option Kind → Option Construct
keyword_construct w.Eval next = Some c.Eval
keyword_construct w.Yield next = Some c.Generator
keyword_construct w.Fn next = Some c.Closure
keyword_construct w.Function next = function_before next
keyword_construct w.Try next = Some c.Exceptions
keyword_construct w.Catch next = Some c.Exceptions
keyword_construct w.Finally next = Some c.Exceptions
keyword_construct w.Throw next = Some c.Exceptions
keyword_construct w.Interface next = Some c.TypeKind
keyword_construct w.Trait next = Some c.TypeKind
keyword_construct w.Implements next = Some c.TypeKind
keyword_construct w.Abstract next = Some c.TypeKind
keyword_construct w.Final next = Some c.TypeKind
keyword_construct w.ReadOnly next = Some c.TypeKind
keyword_construct w.Namespace next = Some c.Namespace
keyword_construct w.Use next = Some c.Namespace
keyword_construct w.Declare next = Some c.Declare
keyword_construct w.Goto next = Some c.Goto
keyword_construct w.Match next = Some c.Match
keyword_construct w.EndIf next = Some c.AltSyntax
keyword_construct w.EndWhile next = Some c.AltSyntax
keyword_construct w.EndFor next = Some c.AltSyntax
keyword_construct w.EndForeach next = Some c.AltSyntax
keyword_construct w.EndSwitch next = Some c.AltSyntax
keyword_construct w.EndDeclare next = Some c.AltSyntax
keyword_construct w.List next = Some c.Destructure
keyword_construct w.Clone next = Some c.Clone
keyword_construct w.HaltCompiler next = Some c.Halt
keyword_construct w.MagicLine next = Some c.MagicConstant
keyword_construct w.MagicFile next = Some c.MagicConstant
keyword_construct w.MagicFunction next = Some c.MagicConstant
keyword_construct w.MagicClass next = Some c.MagicConstant
keyword_construct w.MagicMethod next = Some c.MagicConstant
keyword_construct w.MagicNamespace next = Some c.MagicConstant
keyword_construct w.MagicTrait next = Some c.MagicConstant
keyword_construct _ next = None

abbrev pub superglobals : List (List ℕ)
superglobals =
    codes "GLOBALS" ∷ codes "_GET" ∷ codes "_POST" ∷ codes "_SERVER" ∷ codes "_COOKIE" ∷
    codes "_FILES" ∷ codes "_ENV" ∷ codes "_REQUEST" ∷ codes "_SESSION" ∷ []

abbrev pub is_name : Option Kind → Bool
is_name (Some (k.Name name)) = true
is_name _ = false

-- a token, whether it stands behind `->` or `::`, and what comes next; `enum` is refused before a name
abbrev pub kind_construct : Bool → Kind → Option Kind → Option Construct
kind_construct member (k.Keyword w) next = keyword_construct w next
kind_construct false (k.Name name) next = if is_word (codes "enum") name && is_name next then Some c.TypeKind else None
kind_construct member (k.Variable name) next = if list_any (bytes_eq name) superglobals then Some c.Superglobal else None
kind_construct member _ next = None

abbrev pub is_member_mark : Kind → Bool
is_member_mark (k.Mark m.Arrow) = true
is_member_mark (k.Mark m.DoubleColon) = true
is_member_mark _ = false

abbrev pub or_else : {A : Type 0} → Option A → Option A → Option A
or_else None other = other
or_else (Some a) other = Some a

abbrev pub found_at : ℕ → Option Construct → Option (Construct × ℕ)
found_at at None = None
found_at at (Some which) = Some (which, at)

-- the first token that is refused, and its offset
abbrev pub refused_from : Bool → List Token → Option (Construct × ℕ)
refused_from member [] = None
refused_from member (t ∷ ts) = or_else (found_at t.start (kind_construct member t.kind (kind_next ts))) (refused_from (is_member_mark t.kind) ts)

abbrev pub token_construct : List Token → Option (Construct × ℕ)
token_construct tokens = refused_from false tokens

-- ---- brackets

abbrev pub bracket_limit : ℕ
bracket_limit = 256

abbrev pub opens_bracket : Kind → Bool
opens_bracket (k.Mark m.OpenParen) = true
opens_bracket (k.Mark m.OpenBracket) = true
opens_bracket (k.Mark m.OpenBrace) = true
opens_bracket (k.Mark m.OpenInterpolation) = true
opens_bracket _ = false

abbrev pub closes_bracket : Kind → Bool
closes_bracket (k.Mark m.CloseParen) = true
closes_bracket (k.Mark m.CloseBracket) = true
closes_bracket (k.Mark m.CloseBrace) = true
closes_bracket _ = false

-- how many brackets are open behind a token; one that closes closes the last open one, of whatever kind, if there is one
abbrev pub open_behind : ℕ → Kind → ℕ
open_behind count kind = if opens_bracket kind then suc count else (if closes_bracket kind then pred count else count)

-- the offset of the first token at which too many are open
abbrev pub too_deep_from : ℕ → List Token → Option ℕ
too_deep_from count [] = None
too_deep_from count (t ∷ ts) = if nat_lt bracket_limit (open_behind count t.kind) then Some t.start else too_deep_from (open_behind count t.kind) ts

abbrev pub too_deep : List Token → Option ℕ
too_deep tokens = too_deep_from 0 tokens
