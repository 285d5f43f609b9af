-- Two readings of the same bytes are one: first of one place, by how it starts, and then of all.
use Rattle.std.proofs.Common.{◌≡◌, ℕ, suc, ◌+◌, ◌-◌, ◌^◌, ◌<◌, ◌≤◌, Bool, true, false, ◌&&◌, ◌||◌, ◌==◌, List, [], ◌∷◌, ◌⊎◌, inl, inr}
use Rattle.std.proofs.Common.{length, drop, take, Option, Some, None, Result, Ok, Err, refl, ap, sym, subst, ◌∙◌, arith, codes}
use Rattle.hph_ast.specs.declared.token.Token.{Token}
use Rattle.hph_ast.specs.declared.token.Kind.{Kind}
use Rattle.hph_ast.specs.declared.token.Kind.TheVariants as k
use Rattle.hph_ast.specs.declared.token.Mark.TheVariants as m
use Rattle.hph_ast.specs.declared.keyword.Keyword.TheVariants as w
use Rattle.hph_ast.specs.declared.refusal.LexKind.TheVariants as l
use Rattle.hph_ast.specs.declared.refusal.Construct.{Construct}
use Rattle.hph_ast.specs.declared.refusal.Construct.TheVariants as c
use Rattle.hph_ast.specs.declared.lexical.Mode.{Mode}
use Rattle.hph_ast.specs.declared.lexical.Mode.TheVariants.{Inline, Code, Member, Interpolation}
use Rattle.hph_ast.specs.declared.lexical.Mode.TheVariants as modes
use Rattle.hph_ast.specs.declared.lexical.Start.{Start}
use Rattle.hph_ast.specs.declared.lexical.Start.TheVariants as s
use Rattle.hph_ast.specs.Bytes.{is_name_byte, is_letter, begins, begins_with, front, newline_length, First, Never, lower, begins_word}
use Rattle.hph_ast.specs.Bytes.{is_whitespace}
use Rattle.hph_ast.specs.Words.{name_kind}
use Rattle.hph_ast.specs.Marks.{marks, mark_in, cast_of, cast_length}
use Rattle.hph_ast.specs.Numbers.{is_float, IsNumber, numeral_length}
use Rattle.hph_ast.specs.Strings.{Single, Piece}
use Rattle.hph_ast.specs.Lexical as r
use Rattle.hph_ast.specs.Lexical.{Fault, lex, goes, enters, leaves, Next, Answer, token, skips, gives, no_token, refused, begins_code}
use Rattle.hph_ast.specs.Lexical.{begins_echo, ends_inline, opening_length, ends_line, ends_block, start_of, from_table, piece, InCode}
use Rattle.hph_ast.specs.Lexical.{key_of, key_tokens, property_tokens, Behind, InInterpolation, Comes}
use Rattle.hph_ast.specs.Tokens as all
use Rattle.hph_ast.specs.Tokens.{State, turned, string_is_open, Reading, tokens_before, Lexes}
use Rattle.std.proofs.lemmas.Bool.Decides.{nat_tests}
use Rattle.hph_lex.proofs.EndingLaws.{one_first}

-- what is known of numbers and strings: each has one value or text, and one end
pub record OneScan : Type 0 where
  pub number : (bs : List ℕ) (v w : ℕ) → IsNumber bs v → IsNumber bs w → v ≡ w
  pub single : (bs text other rest behind : List ℕ) → Single bs text rest → Single bs other behind → (text ≡ other) × (rest ≡ behind)
  pub piece : (bs rest behind : List ℕ) (text other : Option (List ℕ)) → Piece bs text rest → Piece bs other behind →
      (text ≡ other) × (rest ≡ behind)

pub some_inj : {A : Type 0} {a b : A} → Some a ≡ Some b → a ≡ b
some_inj e = cc

-- ---- in code, by what begins there

abbrev AtNumber : ℕ → List ℕ → Answer → Type 0
AtNumber at bs answer =
    ((v : ℕ) × (is_float bs ≡ false) × IsNumber bs v × (v < 2 ^ 63) × (answer ≡ gives at (numeral_length bs) (k.Int v) (goes Code)))
    ⊎ ((((v : ℕ) × IsNumber bs v × (2 ^ 63 ≤ v) × (answer ≡ refused c.FloatLiteral))
    ⊎ ((is_float bs ≡ true) × (answer ≡ refused c.FloatLiteral)))
    ⊎ ((is_float bs ≡ false) × ((v : ℕ) → IsNumber bs v → ⊥) × (answer ≡ no_token l.BadNumber)))

abbrev AtSingle : ℕ → List ℕ → Answer → Type 0
AtSingle at bs answer =
    ((text : List ℕ) × (rest : List ℕ) × Single (drop 1 bs) text rest × (answer ≡ gives at (length bs - length rest) (k.Text text)
    (goes Code)))
    ⊎ (((text rest : List ℕ) → Single (drop 1 bs) text rest → ⊥) × (answer ≡ no_token l.UnclosedString))

-- a piece of a string, of all bytes or of those behind a quote
abbrev AtPiece : (List ℕ → Kind) → (List ℕ → Kind) → ℕ → List ℕ → List ℕ → Answer → Type 0
AtPiece last other at bs begin answer =
    ((text : List ℕ) × (rest : List ℕ) × Piece begin (Some text) rest × (answer ≡ piece last other at text bs rest))
    ⊎ ((((rest : List ℕ) × Piece begin None rest × (answer ≡ no_token l.BadEscape)))
    ⊎ (((text : Option (List ℕ)) (rest : List ℕ) → Piece begin text rest → ⊥) × (answer ≡ no_token l.UnclosedString)))

abbrev AtStart : Start → Mode → Bool → ℕ → List ℕ → Answer → Type 0
AtStart s.Whitespace mode member at bs answer = answer ≡ skips 1 mode
AtStart s.CloseTag mode member at bs answer = answer ≡ gives at (2 + newline_length (drop 2 bs)) (k.Mark m.Semicolon) (goes Inline)
AtStart s.LineComment mode member at bs answer = (n : ℕ) × First ends_line bs n × (answer ≡ skips n mode)
AtStart s.BlockComment mode member at bs answer =
    ((n : ℕ) × First ends_block (drop 2 bs) n × (answer ≡ skips (4 + n) mode)) ⊎ (Never ends_block (drop 2 bs) ×
    (answer ≡ no_token l.UnclosedComment))
AtStart s.Name mode member at bs answer = answer ≡ gives at (length (front is_name_byte bs)) (name_kind member
    (front is_name_byte bs)) (goes Code)
AtStart s.Variable mode member at bs answer =
    answer ≡ gives at (suc (length (front is_name_byte (drop 1 bs)))) (k.Variable (front is_name_byte (drop 1 bs))) (goes Code)
AtStart s.Number mode member at bs answer = AtNumber at bs answer
AtStart s.SingleQuote mode member at bs answer = AtSingle at bs answer
AtStart s.DoubleQuote mode member at bs answer = AtPiece k.Text k.TextHead at bs (drop 1 bs) answer
AtStart s.Cast mode member at bs answer = (what : Result Kind Construct) × (cast_of bs ≡ Some what) × (answer ≡ from_table at
    (cast_length bs) what)
AtStart s.Other mode member at bs answer =
    ((what : Result Kind Construct) × (n : ℕ) × (mark_in marks bs ≡ Some (what, n)) × (answer ≡ from_table at n what))
    ⊎ ((mark_in marks bs ≡ None) × (answer ≡ no_token l.BadByte))

-- what a place starts with says what may come there
by_start : (mode : Mode) (member : Bool) (at : ℕ) (bs : List ℕ) (answer : Answer) (start : Start) → start_of bs ≡ start →
    AtStart start mode member at bs answer → AtStart (start_of bs) mode member at bs answer
by_start mode member at bs answer start is comes = subst (λ start. AtStart start mode member at bs answer) (sym is) comes

at_start : (mode : Mode) (member : Bool) (at : ℕ) (bs : List ℕ) (answer : Answer) → InCode mode member at bs answer →
    AtStart (start_of bs) mode member at bs answer
at_start mode member at bs answer (r.whitespace is) = by_start mode member at bs answer s.Whitespace is refl
at_start mode member at bs answer (r.close_tag is) = by_start mode member at bs answer s.CloseTag is refl
at_start mode member at bs answer (r.line_comment {n = n} is d) = by_start mode member at bs answer s.LineComment is (n, d, refl)
at_start mode member at bs answer (r.block_comment {n = n} is d) = by_start mode member at bs answer s.BlockComment is (inl (n, d, refl))
at_start mode member at bs answer (r.unclosed_comment is never) = by_start mode member at bs answer s.BlockComment is (inr (never, refl))
at_start mode member at bs answer (r.name is) = by_start mode member at bs answer s.Name is refl
at_start mode member at bs answer (r.variable is) = by_start mode member at bs answer s.Variable is refl
at_start mode member at bs answer (r.number {v = v} is no_float d below) = by_start mode member at bs answer s.Number is (inl
    (v, no_float, d, below, refl))
at_start mode member at bs answer (r.long_number {v = v} is no_float d above) = by_start mode member at bs answer s.Number is (inr
    (inl (inl (v, d, above, refl))))
at_start mode member at bs answer (r.float is float) = by_start mode member at bs answer s.Number is (inr (inl (inr (float, refl))))
at_start mode member at bs answer (r.bad_number is no_float none) = by_start mode member at bs answer s.Number is (inr (inr
    (no_float, none, refl)))
at_start mode member at bs answer (r.single {text = text} {rest = rest} is d) = by_start mode member at bs answer s.SingleQuote is
    (inl (text, rest, d, refl))
at_start mode member at bs answer (r.unclosed_single is none) = by_start mode member at bs answer s.SingleQuote is (inr (none, refl))
at_start mode member at bs answer (r.double {text = text} {rest = rest} is d) = by_start mode member at bs answer s.DoubleQuote is
    (inl (text, rest, d, refl))
at_start mode member at bs answer (r.bad_escape {rest = rest} is d) = by_start mode member at bs answer s.DoubleQuote is (inr (inl
    (rest, d, refl)))
at_start mode member at bs answer (r.unclosed_double is none) = by_start mode member at bs answer s.DoubleQuote is (inr (inr
    (none, refl)))
at_start mode member at bs answer (r.cast {what = what} is found) = by_start mode member at bs answer s.Cast is (what, found, refl)
at_start mode member at bs answer (r.mark {what = what} {n = n} is found) = by_start mode member at bs answer s.Other is (inl
    (what, n, found, refl))
at_start mode member at bs answer (r.bad_byte is none) = by_start mode member at bs answer s.Other is (inr (none, refl))

module _ (one : OneScan) where
  one_at_number : (at : ℕ) (bs : List ℕ) (x y : Answer) → AtNumber at bs x → AtNumber at bs y → x ≡ y
  one_at_number at bs x y (inl (v, f, d, below, e)) (inl (u, g, d', below', e')) =
      e ∙ ap (λ n. gives at (numeral_length bs) (k.Int n) (goes Code)) (one.number bs v u d d') ∙ sym e'
  one_at_number at bs x y (inl (v, f, d, below, e)) (inr (inl (inl (u, d', above, e')))) =
      let same = one.number bs v u d d' in absurd (omega arith)
  one_at_number at bs x y (inl (v, f, d, below, e)) (inr (inl (inr (g, e')))) = absurd (cc)
  one_at_number at bs x y (inl (v, f, d, below, e)) (inr (inr (g, none, e'))) = absurd (none v d)
  one_at_number at bs x y (inr (inl (inl (v, d, above, e)))) (inl (u, g, d', below, e')) =
      let same = one.number bs v u d d' in absurd (omega arith)
  one_at_number at bs x y (inr (inl (inl (v, d, above, e)))) (inr (inl (inl (u, d', above', e')))) = e ∙ sym e'
  one_at_number at bs x y (inr (inl (inl (v, d, above, e)))) (inr (inl (inr (g, e')))) = e ∙ sym e'
  one_at_number at bs x y (inr (inl (inl (v, d, above, e)))) (inr (inr (g, none, e'))) = absurd (none v d)
  one_at_number at bs x y (inr (inl (inr (f, e)))) (inl (u, g, d', below', e')) = absurd (cc)
  one_at_number at bs x y (inr (inl (inr (f, e)))) (inr (inl (inl (u, d', above', e')))) = e ∙ sym e'
  one_at_number at bs x y (inr (inl (inr (f, e)))) (inr (inl (inr (g, e')))) = e ∙ sym e'
  one_at_number at bs x y (inr (inl (inr (f, e)))) (inr (inr (g, none, e'))) = absurd (cc)
  one_at_number at bs x y (inr (inr (f, none, e))) (inl (u, g, d', below', e')) = absurd (none u d')
  one_at_number at bs x y (inr (inr (f, none, e))) (inr (inl (inl (u, d', above', e')))) = absurd (none u d')
  one_at_number at bs x y (inr (inr (f, none, e))) (inr (inl (inr (g, e')))) = absurd (cc)
  one_at_number at bs x y (inr (inr (f, none, e))) (inr (inr (g, none', e'))) = e ∙ sym e'

  one_at_single : (at : ℕ) (bs : List ℕ) (x y : Answer) → AtSingle at bs x → AtSingle at bs y → x ≡ y
  one_at_single at bs x y (inl (text, rest, d, e)) (inl (text', rest', d', e')) =
      let same = one.single (drop 1 bs) text text' rest rest' d d' in
      e ∙ ap (λ text. gives at (length bs - length rest) (k.Text text) (goes Code)) same.0
      ∙ ap (λ rest. gives at (length bs - length rest) (k.Text text') (goes Code)) same.1 ∙ sym e'
  one_at_single at bs x y (inl (text, rest, d, e)) (inr (none, e')) = absurd (none text rest d)
  one_at_single at bs x y (inr (none, e)) (inl (text, rest, d, e')) = absurd (none text rest d)
  one_at_single at bs x y (inr (none, e)) (inr (none', e')) = e ∙ sym e'

  one_at_piece : (last other : List ℕ → Kind) (at : ℕ) (bs begin : List ℕ) (x y : Answer) → AtPiece last other at bs begin x →
      AtPiece last other at bs begin y → x ≡ y
  one_at_piece last other at bs begin x y (inl (text, rest, d, e)) (inl (text', rest', d', e')) =
      let same = one.piece begin rest rest' (Some text) (Some text') d d' in
      e ∙ ap (λ text. piece last other at text bs rest) (some_inj same.0) ∙ ap (λ rest. piece last other at text' bs rest) same.1 ∙ sym e'
  one_at_piece last other at bs begin x y (inl (text, rest, d, e)) (inr (inl (rest', d', e'))) =
      let same = one.piece begin rest rest' (Some text) None d d' in let no : Some text ≡ None = same.0 in absurd (cc)
  one_at_piece last other at bs begin x y (inl (text, rest, d, e)) (inr (inr (none, e'))) = absurd (none (Some text) rest d)
  one_at_piece last other at bs begin x y (inr (inl (rest, d, e))) (inl (text', rest', d', e')) =
      let same = one.piece begin rest rest' None (Some text') d d' in let no : None ≡ Some text' = same.0 in absurd (cc)
  one_at_piece last other at bs begin x y (inr (inl (rest, d, e))) (inr (inl (rest', d', e'))) = e ∙ sym e'
  one_at_piece last other at bs begin x y (inr (inl (rest, d, e))) (inr (inr (none, e'))) = absurd (none None rest d)
  one_at_piece last other at bs begin x y (inr (inr (none, e))) (inl (text', rest', d', e')) = absurd (none (Some text') rest' d')
  one_at_piece last other at bs begin x y (inr (inr (none, e))) (inr (inl (rest', d', e'))) = absurd (none None rest' d')
  one_at_piece last other at bs begin x y (inr (inr (none, e))) (inr (inr (none', e'))) = e ∙ sym e'

  one_at_start : (start : Start) (mode : Mode) (member : Bool) (at : ℕ) (bs : List ℕ) (x y : Answer) →
      AtStart start mode member at bs x → AtStart start mode member at bs y → x ≡ y
  one_at_start s.Whitespace mode member at bs x y e e' = e ∙ sym e'
  one_at_start s.CloseTag mode member at bs x y e e' = e ∙ sym e'
  one_at_start s.LineComment mode member at bs x y (n, d, e) (n', d', e') = e
      ∙ ap (λ n. skips n mode) (one_first ends_line bs n n' d d') ∙ sym e'
  one_at_start s.BlockComment mode member at bs x y (inl (n, d, e)) (inl (n', d', e')) =
      e ∙ ap (λ n. skips (4 + n) mode) (one_first ends_block (drop 2 bs) n n' d d') ∙ sym e'
  one_at_start s.BlockComment mode member at bs x y (inl (n, d, e)) (inr (never, e')) = absurd (never n d)
  one_at_start s.BlockComment mode member at bs x y (inr (never, e)) (inl (n, d, e')) = absurd (never n d)
  one_at_start s.BlockComment mode member at bs x y (inr (never, e)) (inr (never', e')) = e ∙ sym e'
  one_at_start s.Name mode member at bs x y e e' = e ∙ sym e'
  one_at_start s.Variable mode member at bs x y e e' = e ∙ sym e'
  one_at_start s.Number mode member at bs x y e e' = one_at_number at bs x y e e'
  one_at_start s.SingleQuote mode member at bs x y e e' = one_at_single at bs x y e e'
  one_at_start s.DoubleQuote mode member at bs x y e e' = one_at_piece k.Text k.TextHead at bs (drop 1 bs) x y e e'
  one_at_start s.Cast mode member at bs x y (what, found, e) (what', found', e') =
      e ∙ ap (from_table at (cast_length bs)) (some_inj (sym found ∙ found')) ∙ sym e'
  one_at_start s.Other mode member at bs x y (inl (what, n, found, e)) (inl (what', n', found', e')) =
      let same : Some (what, n) ≡ Some (what', n') = sym found ∙ found' in
      e ∙ ap (λ (row : Result Kind Construct × ℕ). from_table at row.1 row.0) (some_inj same) ∙ sym e'
  one_at_start s.Other mode member at bs x y (inl (what, n, found, e)) (inr (none, e')) = let no : Some (what, n) ≡ None = sym found
      ∙ none in absurd (cc)
  one_at_start s.Other mode member at bs x y (inr (none, e)) (inl (what, n, found, e')) = let no : None ≡ Some (what, n) = sym none
      ∙ found in absurd (cc)
  one_at_start s.Other mode member at bs x y (inr (none, e)) (inr (none', e')) = e ∙ sym e'

  -- one answer in code
  pub one_in_code : (mode : Mode) (member : Bool) (at : ℕ) (bs : List ℕ) (x y : Answer) → InCode mode member at bs x →
      InCode mode member at bs y → x ≡ y
  one_in_code mode member at bs x y d d' = one_at_start (start_of bs) mode member at bs x y (at_start mode member at bs x d)
      (at_start mode member at bs y d')

-- ---- in strings

-- what follows the variable of an interpolation, by what it begins with
abbrev BehindBy : ℕ → List ℕ → Bool → Bool → List Token × ℕ → Type 0
BehindBy at bs true property found =
    (key : Kind × ℕ) × (key_of (drop 1 bs) ≡ Some key) × (found ≡ (key_tokens at key, 2 + key.1))
BehindBy at bs false true found = found ≡ (
  property_tokens at (front is_name_byte (drop 2 bs)),
  2 + length (front is_name_byte
      (drop 2 bs)),
)
BehindBy at bs false false found = found ≡ ([], 0)

abbrev is_key : List ℕ → Bool
is_key bs = begins (codes "[") bs

abbrev is_property : List ℕ → Bool
is_property bs = begins (codes "->") bs && begins_with is_letter (drop 2 bs)

pub no_property_key : (bs : List ℕ) → is_property bs ≡ true → is_key bs ≡ false
no_property_key [] is = refl
no_property_key (b ∷ bs) is =
    elim (45 == b) as (λ t. (45 == b) ≡ t → ((t && begins (codes ">") bs) && begins_with is_letter (drop 1 bs)) ≡ true →
    ((91 == b) && true) ≡ false) [
      | true ↦ λ dash e. let no : (91 == b) ≡ false = grind (arith, nat_tests, dash) in ap (λ t. t && true) no
      | false ↦ λ _ e. absurd (cc)
    ] refl is

behind_by : (at : ℕ) (bs : List ℕ) (ts : List Token) (n : ℕ) → Behind at bs ts n → BehindBy at bs (is_key bs) (is_property bs) (ts, n)
behind_by at bs ts n (r.key {found = found} is key closes) =
    subst (λ t. BehindBy at bs t (is_property bs) (ts, n)) (sym is) (found, key, refl)
behind_by at bs ts n (r.property is) =
    subst (λ t. BehindBy at bs t (is_property bs) (ts, n)) (sym (no_property_key bs is)) (subst (λ t. BehindBy at bs false t (ts, n))
    (sym is) refl)
behind_by at bs ts n (r.alone no_key no_property no_null_safe) =
    subst (λ t. BehindBy at bs t (is_property bs) (ts, n)) (sym no_key) (subst (λ t. BehindBy at bs false t (ts, n))
    (sym no_property) refl)

one_behind_by : (at : ℕ) (bs : List ℕ) (key property : Bool) (x y : List Token × ℕ) → BehindBy at bs key property x →
    BehindBy at bs key property y → x ≡ y
one_behind_by at bs true property x y (key, found, e) (key', found', e') =
    e ∙ ap (λ (key : Kind × ℕ). (key_tokens at key, 2 + key.1)) (some_inj (sym found ∙ found')) ∙ sym e'
one_behind_by at bs false true x y e e' = e ∙ sym e'
one_behind_by at bs false false x y e e' = e ∙ sym e'

-- one thing follows the variable
pub one_behind : (at : ℕ) (bs : List ℕ) (ts us : List Token) (m n : ℕ) → Behind at bs ts m → Behind at bs us n →
    ◌≡◌ {A = List Token × ℕ} (ts, m) (us, n)
one_behind at bs ts us m n d e =
    one_behind_by at bs (is_key bs) (is_property bs) (ts, m) (us, n) (behind_by at bs ts m d) (behind_by at bs us n e)

-- the answers at a simple interpolation
abbrev AtSimple : ℕ → List ℕ → Answer → Type 0
AtSimple at bs answer =
    let name : List ℕ = front is_name_byte (drop 1 bs) in
    let n : ℕ = suc (length name) in
    ((found : List Token × ℕ) × Behind (at + n) (drop n bs) found.0 found.1
    × (answer ≡ Ok (record { tokens = token at n (k.Variable name) ∷ found.0; len = n + found.1; turn = goes modes.Piece })))
    ⊎ (((ts : List Token) (m : ℕ) → Behind (at + n) (drop n bs) ts m → ⊥) × (answer ≡ refused c.Interpolation))

-- in a string, by its first bytes: `{$`, `${`, and `$` before a name
abbrev InString : ℕ → List ℕ → Bool → Bool → Bool → Answer → Type 0
InString at bs true named simple answer =
    ((begins_with is_letter (drop 2 bs) ≡ true) × (answer ≡ gives at 1 (k.Mark m.OpenInterpolation) (enters modes.Piece)))
    ⊎ ((begins_with is_letter (drop 2 bs) ≡ false) × (answer ≡ refused c.Interpolation))
InString at bs false true simple answer = answer ≡ refused c.Interpolation
InString at bs false false true answer = AtSimple at bs answer
InString at bs false false false answer = ⊥

both : (s t : Bool) → (s && t) ≡ true → (s ≡ true) × (t ≡ true)
both true true e = (refl, refl)
both true false e = absurd (cc)
both false t e = absurd (cc)

abbrev is_braces : List ℕ → Bool
is_braces bs = begins (codes "{$") bs

abbrev is_named : List ℕ → Bool
is_named bs = begins (codes "${") bs

abbrev is_simple : List ℕ → Bool
is_simple bs = begins (codes "$") bs && begins_with is_letter (drop 1 bs)

-- what begins with `$` doesn't begin with `{`
dollar_first : (b : ℕ) (s t : Bool) → ((36 == b) && s) ≡ true → ((123 == b) && t) ≡ false
dollar_first b s t is =
    let first = (both (36 == b) s is).0 in
    let no : (123 == b) ≡ false = grind (arith, nat_tests, first) in ap (λ x. x && t) no

named_no_braces : (bs : List ℕ) → is_named bs ≡ true → is_braces bs ≡ false
named_no_braces [] is = refl
named_no_braces (b ∷ bs) is = dollar_first b (begins (codes "{") bs) (begins (codes "$") bs) is

simple_no_braces : (bs : List ℕ) → is_simple bs ≡ true → is_braces bs ≡ false
simple_no_braces [] is = refl
simple_no_braces (b ∷ bs) is = dollar_first b true (begins (codes "$") bs) (both ((36 == b) && true) (begins_with is_letter bs) is).0

letter_no_brace : (bs : List ℕ) → begins_with is_letter bs ≡ true → begins (codes "{") bs ≡ false
letter_no_brace [] is = refl
letter_no_brace (b ∷ bs) is = let no : (123 == b) ≡ false = grind (arith, nat_tests, is) in ap (λ x. x && true) no

and_false : (s t : Bool) → t ≡ false → (s && t) ≡ false
and_false true t e = e
and_false false t e = refl

simple_not_named : (bs : List ℕ) → is_simple bs ≡ true → is_named bs ≡ false
simple_not_named [] is = refl
simple_not_named (b ∷ bs) is =
    and_false (36 == b) (begins (codes "{") bs) (letter_no_brace bs (both ((36 == b) && true) (begins_with is_letter bs) is).1)

abbrev InStringBy : ℕ → List ℕ → Answer → Type 0
InStringBy at bs answer = InString at bs (is_braces bs) (is_named bs) (is_simple bs) answer

simple_in_string : (at : ℕ) (bs : List ℕ) (answer : Answer) → is_simple bs ≡ true → AtSimple at bs answer → InStringBy at bs answer
simple_in_string at bs answer is simple =
    subst (λ t. InString at bs t (is_named bs) (is_simple bs) answer) (sym (simple_no_braces bs is))
    (subst (λ t. InString at bs false t (is_simple bs) answer) (sym (simple_not_named bs is))
    (subst (λ t. InString at bs false false t answer) (sym is) simple))

in_string : (at : ℕ) (bs : List ℕ) (answer : Answer) → InInterpolation at bs answer → InStringBy at bs answer
in_string at bs answer (r.braces is letter) = subst (λ t. InString at bs t (is_named bs) (is_simple bs) answer) (sym is) (inl
    (letter, refl))
in_string at bs answer (r.bad_braces is no_letter) = subst (λ t. InString at bs t (is_named bs) (is_simple bs) answer) (sym is) (inr
    (no_letter, refl))
in_string at bs answer (r.named is) =
    subst (λ t. InString at bs t (is_named bs) (is_simple bs) answer) (sym (named_no_braces bs is))
    (subst (λ t. InString at bs false t (is_simple bs) answer) (sym is) refl)
in_string at bs answer (r.simple {name = name} {ts = ts} {n = n} is name_is d) =
    simple_in_string at bs answer is (inl (subst (λ (name : List ℕ). (found : List Token × ℕ) × Behind (at + suc (length name)) (drop
    (suc (length name)) bs) found.0 found.1
    × (answer ≡ Ok (record {
      tokens = token at (suc (length name)) (k.Variable name) ∷ found.0;
      len = suc (length name) + found.1;
      turn = goes modes.Piece;
    }))) name_is ((ts, n), d, refl)))
in_string at bs answer (r.bad_simple {name = name} is name_is none) =
    simple_in_string at bs answer is (inr (
      subst (λ (name : List ℕ). (ts : List Token) (m : ℕ) →
          Behind (at + suc (length name)) (drop (suc (length name)) bs) ts m → ⊥) name_is none,
      refl,
    ))

one_simple : (at : ℕ) (bs : List ℕ) (x y : Answer) → AtSimple at bs x → AtSimple at bs y → x ≡ y
one_simple at bs x y (inl (found, d, e)) (inl (found', d', e')) =
    let name : List ℕ = front is_name_byte (drop 1 bs) in
    let n : ℕ = suc (length name) in
    e ∙ ap (λ (found : List Token × ℕ). Ok (record {
      tokens = token at n (k.Variable name) ∷ found.0;
      len = n + found.1;
      turn = goes modes.Piece;
    }))
    (one_behind (at + n) (drop n bs) found.0 found'.0 found.1 found'.1 d d') ∙ sym e'
one_simple at bs x y (inl (found, d, e)) (inr (none, e')) = absurd (none found.0 found.1 d)
one_simple at bs x y (inr (none, e)) (inl (found, d, e')) = absurd (none found.0 found.1 d)
one_simple at bs x y (inr (none, e)) (inr (none', e')) = e ∙ sym e'

one_in_string_by : (at : ℕ) (bs : List ℕ) (braces named simple : Bool) (x y : Answer) → InString at bs braces named simple x →
    InString at bs braces named simple y → x ≡ y
one_in_string_by at bs true named simple x y (inl (t, e)) (inl (t', e')) = e ∙ sym e'
one_in_string_by at bs true named simple x y (inl (t, e)) (inr (t', e')) = absurd (cc)
one_in_string_by at bs true named simple x y (inr (t, e)) (inl (t', e')) = absurd (cc)
one_in_string_by at bs true named simple x y (inr (t, e)) (inr (t', e')) = e ∙ sym e'
one_in_string_by at bs false true simple x y e e' = e ∙ sym e'
one_in_string_by at bs false false true x y e e' = one_simple at bs x y e e'
one_in_string_by at bs false false false x y e e' = absurd e

-- one answer where an interpolation begins
pub one_interpolation : (at : ℕ) (bs : List ℕ) (x y : Answer) → InInterpolation at bs x → InInterpolation at bs y → x ≡ y
one_interpolation at bs x y d d' =
    one_in_string_by at bs (is_braces bs) (is_named bs) (is_simple bs) x y (in_string at bs x d) (in_string at bs y d')

-- ---- in any mode

-- outside code, by whether code opens there
abbrev InlineBy : ℕ → List ℕ → Bool → Bool → Answer → Type 0
InlineBy at bs true echo answer = answer ≡ skips (opening_length bs) Code
InlineBy at bs false true answer = answer ≡ gives at 3 (k.Keyword w.Echo) (goes Code)
InlineBy at bs false false answer = (n : ℕ) × First ends_inline bs n × (answer ≡ gives at n (k.InlineText (take n bs)) (goes Inline))

abbrev AtPlace : Mode → ℕ → List ℕ → Answer → Type 0
AtPlace Inline at bs answer = InlineBy at bs (begins_code bs) (begins_echo bs) answer
AtPlace Code at bs answer = InCode Code false at bs answer
AtPlace Member at bs answer = InCode Member true at bs answer
AtPlace Interpolation at bs answer = InInterpolation at bs answer
AtPlace modes.Piece at bs answer = AtPiece k.TextTail k.TextMiddle at bs bs answer

-- `<?=` is no `<?php`
echo_third : (a b c : ℕ) (bs : List ℕ) → (61 == c) ≡ true → begins_code (a ∷ b ∷ c ∷ bs) ≡ false
echo_third a b c bs is =
    let no : (112 == lower c) ≡ false = grind (arith, nat_tests, is) in
    let none = and_false (60 == lower a) _ (and_false (63 == lower b) _ (ap (λ t. t && begins_word (codes "hp") bs) no)) in
    ap (λ t. t && (begins_with is_whitespace (drop 5 (a ∷ b ∷ c ∷ bs)) || (length (a ∷ b ∷ c ∷ bs) == 5))) none

neither : (s t : Bool) → (s || t) ≡ false → (s ≡ false) × (t ≡ false)
neither true t e = absurd (cc)
neither false t e = (refl, e)

echo_no_code : (bs : List ℕ) → begins_echo bs ≡ true → begins_code bs ≡ false
echo_no_code [] is = refl
echo_no_code (a ∷ []) is = let no = (both (60 == a) false is).1 in absurd (cc)
echo_no_code (a ∷ b ∷ []) is = let no = (both (63 == b) false (both (60 == a) ((63 == b) && false) is).1).1 in absurd (cc)
echo_no_code (a ∷ b ∷ c ∷ bs) is =
    let third : ((61 == c) && true) ≡ true = (both (63 == b) ((61 == c) && true) (both (60 == a) ((63 == b) &&
    ((61 == c) && true)) is).1).1 in
    let same : (61 == c) ≡ true = (both (61 == c) true third).0 in
    echo_third a b c bs same

at_place : (mode : Mode) (at : ℕ) (bs : List ℕ) (answer : Answer) → Comes at mode bs answer → AtPlace mode at bs answer
at_place _ at bs answer (r.opening is) = subst (λ t. InlineBy at bs t (begins_echo bs) answer) (sym is) refl
at_place _ at bs answer (r.opening_echo is) =
    subst (λ t. InlineBy at bs t (begins_echo bs) answer) (sym (echo_no_code bs is)) (subst (λ t. InlineBy at bs false t answer)
    (sym is) refl)
at_place _ at [] answer (r.text goes_on d) = absurd (cc)
at_place _ at (b ∷ bs) answer (r.text {n = n} goes_on d) =
    let no = neither (begins_code (b ∷ bs)) (begins_echo (b ∷ bs)) goes_on in
    subst (λ t. InlineBy at (b ∷ bs) t (begins_echo (b ∷ bs)) answer) (sym no.0)
    (subst (λ t. InlineBy at (b ∷ bs) false t answer) (sym no.1) (n, d, refl))
at_place _ at bs answer (r.code d) = d
at_place _ at bs answer (r.member d) = d
at_place _ at bs answer (r.interpolation d) = d
at_place _ at bs answer (r.later_piece {text = text} {rest = rest} d) = inl (text, rest, d, refl)
at_place _ at bs answer (r.bad_escape {rest = rest} d) = inr (inl (rest, d, refl))
at_place _ at bs answer (r.unclosed none) = inr (inr (none, refl))

one_inline : (at : ℕ) (bs : List ℕ) (code echo : Bool) (x y : Answer) → InlineBy at bs code echo x → InlineBy at bs code echo y → x ≡ y
one_inline at bs true echo x y e e' = e ∙ sym e'
one_inline at bs false true x y e e' = e ∙ sym e'
one_inline at bs false false x y (n, d, e) (n', d', e') =
    e ∙ ap (λ n. gives at n (k.InlineText (take n bs)) (goes Inline)) (one_first ends_inline bs n n' d d') ∙ sym e'

pub ok_inj : {A B : Type 0} {a b : A} → ◌≡◌ {A = Result A B} (Ok a) (Ok b) → a ≡ b
ok_inj e = cc

pub err_inj : {A B : Type 0} {a b : B} → ◌≡◌ {A = Result A B} (Err a) (Err b) → a ≡ b
err_inj e = cc

pub ok_no_err : {A B : Type 0} {a : A} {b : B} → ◌≡◌ {A = Result A B} (Ok a) (Err b) → ⊥
ok_no_err e = absurd (cc)

pub same_fault : (why other : Fault) (at place : ℕ) → ◌≡◌ {A = Fault × ℕ} (why, at) (other, place) → (why ≡ other) × (at ≡ place)
same_fault why other at place e = (ap (λ (f : Fault × ℕ). f.0) e, ap (λ (f : Fault × ℕ). f.1) e)

module _ (one : OneScan) where
  one_at_place : (mode : Mode) (at : ℕ) (bs : List ℕ) (x y : Answer) → AtPlace mode at bs x → AtPlace mode at bs y → x ≡ y
  one_at_place Inline at bs x y d d' = one_inline at bs (begins_code bs) (begins_echo bs) x y d d'
  one_at_place Code at bs x y d d' = one_in_code one Code false at bs x y d d'
  one_at_place Member at bs x y d d' = one_in_code one Member true at bs x y d d'
  one_at_place Interpolation at bs x y d d' = one_interpolation at bs x y d d'
  one_at_place modes.Piece at bs x y d d' = one_at_piece one k.TextTail k.TextMiddle at bs bs x y d d'

  -- one answer at a place
  pub one_comes : (mode : Mode) (at : ℕ) (bs : List ℕ) (x y : Answer) → Comes at mode bs x → Comes at mode bs y → x ≡ y
  one_comes mode at bs x y d d' = one_at_place mode at bs x y (at_place mode at bs x d) (at_place mode at bs y d')

  -- one reading of the bytes from an offset on
  pub one_reading : (state : State) (at : ℕ) (bs : List ℕ) (x y : Reading) → Lexes state at bs x → Lexes state at bs y → x ≡ y
  one_reading state at [] x y (all.end e) (all.end e') = refl
  one_reading state at [] x y (all.end e) (all.open_end e') = absurd (cc)
  one_reading state at [] x y (all.open_end e) (all.end e') = absurd (cc)
  one_reading state at [] x y (all.open_end e) (all.open_end e') = refl
  one_reading state at (b ∷ bs) x y (all.place {next = next} {r = r} d f) (all.place {next = next'} {r = r'} d' f') =
      let same : next' ≡ next = ok_inj (one_comes state.mode at (b ∷ bs) (Ok next') (Ok next) d' d) in
      let moved = subst (λ (n : Next). Lexes (turned n.turn state.outer) (at + n.len) (drop n.len (b ∷ bs)) r') same f' in
      ap (tokens_before next.tokens) (one_reading (turned next.turn state.outer) (at + next.len) (drop next.len (b ∷ bs)) r r' f moved)
      ∙ ap (λ (n : Next). tokens_before n.tokens r') (sym same)
  one_reading state at (b ∷ bs) x y (all.place {next = next} d f) (all.fault {why = why} d') =
      let no : Ok next ≡ Err why = one_comes state.mode at (b ∷ bs) (Ok next) (Err why) d d' in absurd (cc)
  one_reading state at (b ∷ bs) x y (all.fault {why = why} d) (all.place {next = next} d' f') =
      let no : Err why ≡ Ok next = one_comes state.mode at (b ∷ bs) (Err why) (Ok next) d d' in absurd (cc)
  one_reading state at (b ∷ bs) x y (all.fault {why = why} d) (all.fault {why = why'} d') =
      ap (λ why. Err (why, at)) (err_inj (one_comes state.mode at (b ∷ bs) (Err why) (Err why') d d'))
