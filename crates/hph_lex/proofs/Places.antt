-- What comes at a place, from what the code reads there.
use Rattle.std.proofs.Common.{◌≡◌, ℕ, zero, suc, ◌+◌, ◌-◌, ◌<◌, Bool, true, false, ◌&&◌, ◌||◌, List, [], ◌∷◌, length, take, drop}
use Rattle.std.proofs.Common.{Option, Some, None, Result, refl, ap, sym, subst, ◌∙◌, codes, is_some, arith, ◌≤◌, length-drop}
use Rattle.std.specs.Prelude.{if◌then◌else◌, IfOk}
use Rattle.std.proofs.Common.{Ok, Err}
use Rattle.hph_lex.specs.declared.found.Answer as answers
use Rattle.hph_lex.specs.Answers.{answer, ComesAt, ComesInCode}
use Rattle.hph_ast.specs.Strings as string
use Rattle.hph_ast.specs.Strings.{Single}
use Rattle.hph_scan.specs.Numbers.{IsWhole}
use Rattle.hph_scan.specs.Strings.{IsQuoted}
use Rattle.hph_scan.specs.Pieces.{IsText}
use Rattle.hph_scan.specs.declared.single.Quoted.{Quoted}
use Rattle.hph_lex.proofs.ByteLaws.{begins_within}
use Rattle.hph_lex.proofs.EndingLaws.{first_holds, first_within}
use Rattle.hph_lex.proofs.Starts.{starts}
use Rattle.hph_ast.specs.declared.token.Kind.{Kind}
use Rattle.hph_ast.specs.declared.token.Kind.TheVariants as k
use Rattle.hph_ast.specs.declared.token.Mark.TheVariants as m
use Rattle.hph_ast.specs.declared.token.Token.{Token}
use Rattle.hph_ast.specs.declared.refusal.LexKind.TheVariants as l
use Rattle.hph_ast.specs.declared.refusal.Construct.TheVariants as c
use Rattle.hph_ast.specs.Strings.{begins_interpolation}
use Rattle.hph_lex.specs.Answers.{behind_tokens, interpolated}
use Rattle.hph_lex.specs.declared.found.Behind.{Behind}
use Rattle.hph_lex.proofs.OneReading.{no_property_key, some_inj}
use Rattle.hph_ast.specs.declared.refusal.Construct.{Construct}
use Rattle.hph_ast.specs.declared.lexical.Mode.{Mode}
use Rattle.hph_ast.specs.declared.lexical.Mode.TheVariants.{Inline, Code, Member, Interpolation, Piece}
use Rattle.hph_ast.specs.declared.lexical.Start.TheVariants as s
use Rattle.hph_ast.specs.Bytes.{is_name_byte, is_letter, begins, begins_with, front, newline_length, First, Never}
use Rattle.hph_ast.specs.Words.{name_kind}
use Rattle.hph_ast.specs.Marks.{marks, mark_in, cast_of, cast_length}
use Rattle.hph_ast.specs.Lexical as r
use Rattle.hph_ast.specs.Lexical.{goes, Answer, gives, skips, no_token, ends_line, ends_block, start_of, from_table, piece, InCode}
use Rattle.hph_ast.specs.Lexical.{refused, key_of, key_tokens, property_tokens, InInterpolation, Comes, begins_code, begins_echo}
use Rattle.hph_ast.specs.Lexical.{ends_inline}

module _ (mode : Mode) (member : Bool) (at : ℕ) (bs : List ℕ) (x : Answer) where
  pub name_place : (name : List ℕ) (kind : Kind) → start_of bs ≡ s.Name → name ≡ front is_name_byte bs → kind ≡ name_kind member name →
      x ≡ gives at (length name) kind (goes Code) → InCode mode member at bs x
  name_place name kind starts name_is kind_is is =
      let e : gives at (length (front is_name_byte bs)) (name_kind member (front is_name_byte bs)) (goes Code) ≡ x =
      ap (λ name. gives at (length name) (name_kind member name) (goes Code)) (sym name_is)
      ∙ ap (λ kind. gives at (length name) kind (goes Code)) (sym kind_is) ∙ sym is in
      subst (InCode mode member at bs) e (r.name starts)

  pub variable_place : (rest name : List ℕ) (n : ℕ) → start_of bs ≡ s.Variable → rest ≡ drop 1 bs → name ≡ front is_name_byte rest →
      n ≡ suc (length name) →
      x ≡ gives at n (k.Variable name) (goes Code) → InCode mode member at bs x
  variable_place rest name n starts rest_is name_is_front n_is is =
      let name_is : name ≡ front is_name_byte (drop 1 bs) = name_is_front ∙ ap (front is_name_byte) rest_is in
      let e : gives at (suc (length (front is_name_byte (drop 1 bs)))) (k.Variable (front is_name_byte (drop 1 bs))) (goes Code) ≡ x =
      ap (λ name. gives at (suc (length name)) (k.Variable name) (goes Code)) (sym name_is)
      ∙ ap (λ n. gives at n (k.Variable name) (goes Code)) (sym n_is) ∙ sym is in
      subst (InCode mode member at bs) e (r.variable starts)

  pub close_tag_place : (rest : List ℕ) (n : ℕ) → start_of bs ≡ s.CloseTag → rest ≡ drop 2 bs → n ≡ newline_length rest →
      x ≡ gives at (2 + n) (k.Mark m.Semicolon) (goes Inline) → InCode mode member at bs x
  close_tag_place rest n starts rest_is n_is is =
      subst (InCode mode member at bs) (ap (λ n. gives at (2 + n) (k.Mark m.Semicolon) (goes Inline)) (sym (n_is
      ∙ ap newline_length rest_is)) ∙ sym is) (r.close_tag starts)

  pub line_comment_place : (n : ℕ) → start_of bs ≡ s.LineComment → First ends_line bs n → x ≡ skips n mode → InCode mode member at bs x
  line_comment_place n starts ends is = subst (InCode mode member at bs) (sym is) (r.line_comment starts ends)

  pub block_comment_place : (rest : List ℕ) (n : ℕ) → start_of bs ≡ s.BlockComment → rest ≡ drop 2 bs → First ends_block rest n →
      x ≡ skips (4 + n) mode → InCode mode member at bs x
  block_comment_place rest n starts rest_is ends is =
      subst (InCode mode member at bs) (sym is) (r.block_comment starts (subst (λ rest. First ends_block rest n) rest_is ends))

  pub cast_place : (what : Result Kind Construct) (n : ℕ) → start_of bs ≡ s.Cast → cast_of bs ≡ Some what → n ≡ cast_length bs →
      x ≡ from_table at n what → InCode mode member at bs x
  cast_place what n starts found n_is is =
      subst (InCode mode member at bs) (ap (λ n. from_table at n what) (sym n_is) ∙ sym is) (r.cast starts found)

  pub mark_place : (what : Result Kind Construct) (n : ℕ) → start_of bs ≡ s.Other → mark_in marks bs ≡ Some (what, n) →
      x ≡ from_table at n what → InCode mode member at bs x
  mark_place what n starts found is = subst (InCode mode member at bs) (sym is) (r.mark starts found)

pub unclosed_comment_place : (mode : Mode) (member : Bool) (at : ℕ) (bs rest : List ℕ) → start_of bs ≡ s.BlockComment →
    rest ≡ drop 2 bs → Never ends_block rest →
    InCode mode member at bs (no_token l.UnclosedComment)
unclosed_comment_place mode member at bs rest starts rest_is never = r.unclosed_comment starts (subst (Never ends_block) rest_is never)

-- a cast starts where there is one
pub cast_is_there : (bs : List ℕ) → start_of bs ≡ s.Cast → cast_of bs ≡ None → ⊥
cast_is_there bs starts_so none = let some : is_some (cast_of bs) ≡ true = starts s.Cast bs starts_so in
    none_is_some (cast_of bs) none some
  where
    none_is_some : {A : Type 0} (o : Option A) → o ≡ None → is_some o ≡ true → ⊥
    none_is_some None e some = absurd (cc)
    none_is_some (Some a) e some = absurd (cc)

-- how many bytes there are where something starts
pub two_bytes : (word bs : List ℕ) → begins word bs ≡ true → length word ≡ 2 → 2 ≤ length bs
two_bytes word bs is two = let within = begins_within word bs is in omega arith

pub dollar_byte : (bs : List ℕ) → (begins (codes "$") bs && begins_with is_letter (drop 1 bs)) ≡ true → 1 ≤ length bs
dollar_byte [] is = absurd (cc)
dollar_byte (b ∷ bs) is = omega arith

pub block_within : (bs : List ℕ) (n : ℕ) → First ends_block bs n → n + 2 ≤ length bs
block_within bs n ends =
    let within = begins_within (codes "*/") (drop n bs) (first_holds ends_block ends) in
    let all = first_within ends_block ends in
    omega (arith, length-drop n bs, within, all)

-- ---- in strings

pub property_place : (at : ℕ) (bs rest name text : List ℕ) → (begins (codes "->") bs && begins_with is_letter (drop 2 bs)) ≡ true →
    rest ≡ drop 2 bs → name ≡ front is_name_byte rest → text ≡ name → r.Behind at bs (property_tokens at text) (2 + length name)
property_place at bs rest name text is rest_is name_is text_is =
    let e : front is_name_byte (drop 2 bs) ≡ name = sym (name_is ∙ ap (front is_name_byte) rest_is) in
    let found = subst (λ name. r.Behind at bs (property_tokens at name) (2 + length name)) e (r.property is) in
    subst (λ text. r.Behind at bs (property_tokens at text) (2 + length name)) (sym text_is) found

-- nothing follows a variable that begins with `[` and no key, or a key without `]`
pub no_element : (at : ℕ) (bs : List ℕ) (ts : List Token) (n : ℕ) → begins (codes "[") bs ≡ true →
    ((found : Kind × ℕ) → key_of (drop 1 bs) ≡ Some found → begins (codes "]") (drop found.1 (drop 1 bs)) ≡ true → ⊥) →
    r.Behind at bs ts n → ⊥
no_element at bs ts n opens none (r.key {found = found} is key closes) = none found key closes
no_element at bs ts n opens none (r.property is) = let no = no_property_key bs is in absurd (cc)
no_element at bs ts n opens none (r.alone no_key no_property no_null_safe) = absurd (cc)

-- nor does `?->` and a name
pub no_null_safe : (at : ℕ) (bs : List ℕ) (ts : List Token) (n : ℕ) → begins (codes "[") bs ≡ false →
    (begins (codes "->") bs && begins_with is_letter (drop 2 bs)) ≡ false →
    (begins (codes "?->") bs && begins_with is_letter (drop 3 bs)) ≡ true →
    r.Behind at bs ts n → ⊥
no_null_safe at bs ts n no_key no_property null_safe (r.key is key closes) = absurd (cc)
no_null_safe at bs ts n no_key no_property null_safe (r.property is) = absurd (cc)
no_null_safe at bs ts n no_key no_property null_safe (r.alone a b c) = absurd (cc)

drop_more : (bs : List ℕ) (n : ℕ) → drop n (drop 1 bs) ≡ drop (suc n) bs
drop_more [] zero = refl
drop_more [] (suc n) = refl
drop_more (b ∷ bs) n = refl

pub simple_place : (at : ℕ) (bs first name text rest : List ℕ) (behind : Behind) (more n : ℕ) (x : Answer) →
    (begins (codes "$") bs && begins_with is_letter (drop 1 bs)) ≡ true → first ≡ drop 1 bs → name ≡ front is_name_byte first →
    text ≡ name →
    rest ≡ drop (length name) first → ((at : ℕ) → r.Behind at rest (behind_tokens at behind) more) → n ≡ suc (length name) + more →
    x ≡ interpolated at text behind n → Comes at Interpolation bs x
simple_place at bs first name text rest behind more n x is first_is name_is text_is rest_is follows n_is x_is =
    let place : drop (length name) first ≡ drop (suc (length name)) bs = ap (drop (length name)) first_is ∙ drop_more bs (length name) in
    let there = subst (λ rest. r.Behind (at + suc (length name)) rest (behind_tokens (at + suc (length name)) behind) more) (rest_is
    ∙ place) (follows (at + suc (length name))) in
    let found : InInterpolation at bs (interpolated at name behind (suc (length name) + more)) = r.simple is (name_is
    ∙ ap (front is_name_byte) first_is) there in
    let e : interpolated at name behind (suc (length name) + more) ≡ x =
    ap (λ n. interpolated at name behind n) (sym n_is) ∙ ap (λ name. interpolated at name behind n) (sym text_is) ∙ sym x_is in
    r.interpolation (subst (InInterpolation at bs) e found)

pub no_simple_place : (at : ℕ) (bs first name rest : List ℕ) →
    (begins (codes "$") bs && begins_with is_letter (drop 1 bs)) ≡ true → first ≡ drop 1 bs → name ≡ front is_name_byte first →
    rest ≡ drop (length name) first → ((at : ℕ) (ts : List Token) (n : ℕ) → r.Behind at rest ts n → ⊥) →
    Comes at Interpolation bs (refused c.Interpolation)
no_simple_place at bs first name rest is first_is name_is rest_is none =
    let place : drop (length name) first ≡ drop (suc (length name)) bs = ap (drop (length name)) first_is ∙ drop_more bs (length name) in
    r.interpolation (r.bad_simple is (name_is ∙ ap (front is_name_byte) first_is)
    (λ ts n d. none (at + suc (length name)) ts n (subst (λ rest. r.Behind (at + suc (length name)) rest ts n) (sym (rest_is
    ∙ place)) d)))

-- what begins an interpolation and neither `{$` nor `${` is a variable
pub begins_simple : (bs : List ℕ) → begins_interpolation bs ≡ true → begins (codes "{$") bs ≡ false → begins (codes "${") bs ≡ false →
    (begins (codes "$") bs && begins_with is_letter (drop 1 bs)) ≡ true
begins_simple bs is no_braces no_named =
    third (begins (codes "{$") bs) (begins (codes "${") bs) (begins (codes "$") bs && begins_with is_letter
    (drop 1 bs)) is no_braces no_named
  where
    third : (a b c : Bool) → (a || (b || c)) ≡ true → a ≡ false → b ≡ false → c ≡ true
    third true b c e p q = absurd (cc)
    third false true c e p q = absurd (cc)
    third false false c e p q = e

-- ---- outside code

pub inline_goes_on : (bs : List ℕ) → 0 < length bs → begins_code bs ≡ false → begins_echo bs ≡ false → ends_inline bs ≡ false
inline_goes_on [] some no_code no_echo = absurd (omega arith)
inline_goes_on (b ∷ bs) some no_code no_echo = ap (λ t. t || begins_echo (b ∷ bs)) no_code ∙ no_echo

pub text_place : (at : ℕ) (bs text front : List ℕ) (n : ℕ) (x : Answer) → ends_inline bs ≡ false → First ends_inline bs n →
    front ≡ take n bs → text ≡ front →
    x ≡ gives at n (k.InlineText text) (goes Inline) → Comes at Inline bs x
text_place at bs text front n x goes_on ends front_is text_is is =
    let e : gives at n (k.InlineText (take n bs)) (goes Inline) ≡ x = ap (λ text. gives at n (k.InlineText text) (goes Inline)) (sym
    (text_is ∙ front_is)) ∙ sym is in
    subst (Comes at Inline bs) e (r.text goes_on ends)

-- ---- elements

pub element_place : (at : ℕ) (bs inside rest : List ℕ) (key : Kind × ℕ) → begins (codes "[") bs ≡ true → inside ≡ drop 1 bs →
    Some key ≡ key_of inside →
    rest ≡ drop key.1 inside → begins (codes "]") rest ≡ true → r.Behind at bs (key_tokens at key) (2 + key.1)
element_place at bs inside rest key opens inside_is found rest_is closes =
    r.key opens (sym (found ∙ ap key_of inside_is)) (ap (begins (codes "]")) (sym (rest_is ∙ ap (drop key.1) inside_is)) ∙ closes)

pub open_element : (at : ℕ) (bs inside rest : List ℕ) (key : Kind × ℕ) (ts : List Token) (n : ℕ) → begins (codes "[") bs ≡ true →
    inside ≡ drop 1 bs → Some key ≡ key_of inside →
    rest ≡ drop key.1 inside → begins (codes "]") rest ≡ false → r.Behind at bs ts n → ⊥
open_element at bs inside rest key ts n opens inside_is found rest_is open_end =
    no_element at bs ts n opens (λ other key_is closes.
    let same : other ≡ key = some_inj (sym key_is ∙ sym (found ∙ ap key_of inside_is)) in
    let there = ap (λ (key : Kind × ℕ). begins (codes "]") (drop key.1 (drop 1 bs))) same in
    let here = ap (begins (codes "]")) (rest_is ∙ ap (drop key.1) inside_is) in
    absurd (let no : true ≡ false = sym closes ∙ there ∙ sym here ∙ open_end in cc))

pub no_key : (at : ℕ) (bs inside : List ℕ) (ts : List Token) (n : ℕ) → begins (codes "[") bs ≡ true → inside ≡ drop 1 bs →
    None ≡ key_of inside → r.Behind at bs ts n → ⊥
no_key at bs inside ts n opens inside_is none =
    no_element at bs ts n opens (λ other key_is closes. let no : None ≡ Some other = none ∙ ap key_of inside_is ∙ key_is in absurd (cc))

pub element_within : (bs inside rest : List ℕ) (n : ℕ) → begins (codes "[") bs ≡ true → inside ≡ drop 1 bs → rest ≡ drop n inside →
    begins (codes "]") rest ≡ true → 2 + n ≤ length bs
element_within bs inside rest n opens inside_is rest_is closes =
    let one = begins_within (codes "[") bs opens in
    let last = begins_within (codes "]") rest closes in
    omega (arith, ap length inside_is, ap length rest_is, length-drop 1 bs, length-drop n inside)

-- ---- strings in quotes

-- a piece that its string's quote ends, or an interpolation
pub closed_piece : (last other : List ℕ → Kind) (at : ℕ) (text bs rest : List ℕ) (n : ℕ) → length bs - length rest ≡ n →
    begins (34 ∷ []) rest ≡ true →
    piece last other at text bs rest ≡ gives at (suc n) (last text) (goes Code)
closed_piece last other at text bs rest n n_is closes =
    ap (λ t. if t then gives at (suc (length bs - length rest)) (last text) (goes Code) else gives at (length bs - length rest)
    (other text) (goes Interpolation)) closes
    ∙ ap (λ n. gives at (suc n) (last text) (goes Code)) n_is

pub open_piece : (last other : List ℕ → Kind) (at : ℕ) (text bs rest : List ℕ) (n : ℕ) → length bs - length rest ≡ n →
    begins (34 ∷ []) rest ≡ false →
    piece last other at text bs rest ≡ gives at n (other text) (goes Interpolation)
open_piece last other at text bs rest n n_is goes_on =
    ap (λ t. if t then gives at (suc (length bs - length rest)) (last text) (goes Code) else gives at (length bs - length rest)
    (other text) (goes Interpolation)) goes_on
    ∙ ap (λ n. gives at n (other text) (goes Interpolation)) n_is

-- how many bytes stand before what is left
pub taken : (bs : List ℕ) (n : ℕ) → n ≤ length bs → length bs - length (drop n bs) ≡ n
taken bs n within = omega (arith, length-drop n bs)

pub drop_all : (bs : List ℕ) (n : ℕ) → drop n (drop 1 bs) ≡ drop (1 + n) bs
drop_all bs n = let e : suc n ≡ 1 + n = omega arith in drop_more bs n ∙ ap (λ n. drop n bs) e

module _ (mode : Mode) (member : Bool) (at : ℕ) (bs : List ℕ) (x : Answer) where
  pub number_place : (v n : ℕ) → start_of bs ≡ s.Number → IsWhole bs v n → x ≡ gives at n (k.Int v) (goes Code) →
      InCode mode member at bs x
  number_place v n starts found is =
      subst (InCode mode member at bs) (ap (λ n. gives at n (k.Int v) (goes Code)) (sym found.length_is)
      ∙ sym is) (r.number starts found.no_float found.is found.below)

  pub single_place : (inside : List ℕ) (found : Quoted) → start_of bs ≡ s.SingleQuote → inside ≡ drop 1 bs → IsQuoted inside found →
      1 ≤ length bs →
      x ≡ gives at (1 + found.length) (k.Text found.text) (goes Code) → InCode mode member at bs x
  single_place inside found starts inside_is quoted one is =
      let there = subst (λ inside. Single inside found.text (drop found.length inside)) inside_is quoted.is in
      let within : found.length ≤ length (drop 1 bs) = subst (λ inside. found.length ≤ length inside) inside_is quoted.within in
      let n_is : length bs - length (drop found.length (drop 1 bs)) ≡ 1 + found.length = omega (
        arith,
        length-drop found.length
            (drop 1 bs),
        length-drop 1 bs,
        within,
        one,
      ) in
      subst (InCode mode member at bs) (ap (λ n. gives at n (k.Text found.text) (goes Code)) n_is ∙ sym is) (r.single starts there)

  pub double_place : (inside : List ℕ) (found : Quoted) → start_of bs ≡ s.DoubleQuote → inside ≡ drop 1 bs → IsText inside found →
      x ≡ piece k.Text k.TextHead at found.text bs (drop (1 + found.length) bs) → InCode mode member at bs x
  double_place inside found starts inside_is text is =
      let there = subst (λ inside. string.Piece inside (Some found.text) (drop found.length inside)) inside_is text.is in
      subst (InCode mode member at bs) (ap (piece k.Text k.TextHead at found.text bs) (drop_all bs found.length)
      ∙ sym is) (r.double starts there)

pub later_place : (at : ℕ) (bs : List ℕ) (x : Answer) (found : Quoted) → IsText bs found →
    x ≡ piece k.TextTail k.TextMiddle at found.text bs (drop found.length bs) → Comes at Piece bs x
later_place at bs x found text is = subst (Comes at Piece bs) (sym is) (r.later_piece text.is)

pub first_byte : (word bs : List ℕ) → begins word bs ≡ true → length word ≡ 1 → 1 ≤ length bs
first_byte word bs is one = let within = begins_within word bs is in omega arith

pub quote_within : (bs inside : List ℕ) (n : ℕ) → inside ≡ drop 1 bs → 1 ≤ length bs → n ≤ length inside → n + 1 ≤ length bs
quote_within bs inside n inside_is one within = omega (arith, ap length inside_is, length-drop 1 bs, one, within)

-- ---- in any mode

pub code_comes : {E : Type 0} (mode : Mode) (bs : List ℕ) (found : Result answers.Answer E) → mode ≡ Code →
    IfOk found (ComesInCode Code bs) → IfOk found (ComesAt mode bs)
code_comes mode bs (Ok found) is comes = λ at. subst (λ mode. Comes at mode bs (answer at found)) (sym is) (r.code (comes at))
code_comes mode bs (Err e) is comes = tt

pub member_comes : {E : Type 0} (mode : Mode) (bs : List ℕ) (found : Result answers.Answer E) → mode ≡ Member →
    IfOk found (ComesInCode Member bs) → IfOk found (ComesAt mode bs)
member_comes mode bs (Ok found) is comes = λ at. subst (λ mode. Comes at mode bs (answer at found)) (sym is) (r.member (comes at))
member_comes mode bs (Err e) is comes = tt
