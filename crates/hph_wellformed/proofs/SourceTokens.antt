-- The tokens of a file are no more than its bytes, and hold no more bytes.
use Rattle.std.specs.Prelude.{◌≡◌, ℕ, suc, ◌+◌, ◌-◌, ◌<◌, ◌≤◌, Bool, true, false, ◌&&◌, ◌||◌, ◌==◌, List, [], ◌∷◌, ◌++◌, length, take, drop, Option, None, Some, Result, Ok, Err, if◌then◌else◌, codes}
use Rattle.std.proofs.Common.{arith, refl, ap, sym, subst, length-drop, length-take, length-append}
use Rattle.std.proofs.lemmas.Bool.Decides.{nat_tests}
use Rattle.hph_ast.specs.declared.token.Token.{Token}
use Rattle.hph_ast.specs.declared.token.Kind.{Kind}
use Rattle.hph_ast.specs.declared.token.Kind.TheVariants as k
use Rattle.hph_ast.specs.declared.token.Mark.{Mark}
use Rattle.hph_ast.specs.declared.token.Mark.TheVariants as m
use Rattle.hph_ast.specs.declared.keyword.Keyword.TheVariants as w
use Rattle.hph_ast.specs.declared.refusal.Construct.{Construct}
use Rattle.hph_ast.specs.declared.lexical.Mode.{Mode}
use Rattle.hph_ast.specs.declared.lexical.Start.{Start}
use Rattle.hph_ast.specs.declared.lexical.Start.TheVariants as s
use Rattle.hph_ast.specs.Bytes.{begins, begins_with, is_letter, is_digit, is_name_byte, is_blank, is_word, is_whitespace, front, behind, First, newline_length}
use Rattle.hph_ast.specs.Bytes as b
use Rattle.hph_ast.specs.Numbers.{numeral_length}
use Rattle.hph_ast.specs.Words.{keywords, kind_in, name_kind}
use Rattle.hph_ast.specs.Marks.{marks, mark_in, casts, cast_in, cast_of, cast_name, behind_cast, cast_length}
use Rattle.hph_ast.specs.Lexical.{Fault, Turn, Next, Answer, Comes, InCode, InInterpolation, Behind, token, gives, skips, from_table, piece, turn_of, start_of, ends_inline, key_of, is_plain_number}
use Rattle.hph_ast.specs.Lexical as x
use Rattle.hph_ast.specs.Tokens.{Reading, State, Lexes, SpellsTokens, tokens_before, turned}
use Rattle.hph_ast.specs.Tokens as t
use Rattle.hph_php.specs.Cost.{total_of}
use Rattle.hph_size.proofs.Strings.{single_fits, piece_fits}
use Rattle.hph_size.proofs.Keys.{number_fits, front_within}
use Rattle.hph_program.specs.WellFormed.{held_bytes}

abbrev pub held : List Token → ℕ
held ts = total_of (λ (t : Token). held_bytes t.kind) ts

held-append : (ts us : List Token) → held (ts ++ us) ≡ held ts + held us
held-append [] us = omega arith
held-append (t ∷ ts) us = omega (arith, held-append ts us)

-- ---- tables hold nothing, and each of their rows takes a byte

abbrev kinds_hold : List (List ℕ × Kind) → ℕ
kinds_hold [] = 0
kinds_hold (row ∷ rows) = held_bytes row.1 + kinds_hold rows

kind_holds : (rows : List (List ℕ × Kind)) (name : List ℕ) → held_bytes (kind_in rows name) ≤ length name + kinds_hold rows
kind_holds [] name = omega arith
kind_holds (row ∷ rows) name =
    elim (is_word row.0 name) as (λ t. held_bytes (if t then row.1 else kind_in rows name) ≤ length name + (held_bytes row.1 + kinds_hold rows)) [
      | true ↦ omega arith
      | false ↦ omega (arith, kind_holds rows name)
    ]

keywords_hold : kinds_hold keywords ≡ 0
keywords_hold = refl

name_holds : (member : Bool) (name : List ℕ) → held_bytes (name_kind member name) ≤ length name
name_holds true name = omega arith
name_holds false name = omega (arith, kind_holds keywords name, keywords_hold)

abbrev held_of : Result Kind Construct → ℕ
held_of (Ok kind) = held_bytes kind
held_of (Err which) = 0

-- a row without bytes counts too
abbrev rows_hold : List (List ℕ × Result Kind Construct) → ℕ
rows_hold [] = 0
rows_hold (row ∷ rows) = held_of row.1 + ((1 - length row.0) + rows_hold rows)

abbrev mark_holds : Option (Result Kind Construct × ℕ) → ℕ
mark_holds None = 0
mark_holds (Some found) = held_of found.0 + (1 - found.1)

abbrev cast_holds : Option (Result Kind Construct) → ℕ
cast_holds None = 0
cast_holds (Some what) = held_of what

marks_in : (rows : List (List ℕ × Result Kind Construct)) (bs : List ℕ) → mark_holds (mark_in rows bs) ≤ rows_hold rows
marks_in [] bs = omega arith
marks_in (row ∷ rows) bs =
    elim (begins row.0 bs) as (λ t. mark_holds (if t then Some (row.1, length row.0) else mark_in rows bs) ≤ held_of row.1 + ((1 - length row.0) + rows_hold rows)) [
      | true ↦ omega arith
      | false ↦ omega (arith, marks_in rows bs)
    ]

casts_in : (rows : List (List ℕ × Result Kind Construct)) (name : List ℕ) → cast_holds (cast_in rows name) ≤ rows_hold rows
casts_in [] name = omega arith
casts_in (row ∷ rows) name =
    elim (is_word row.0 name) as (λ t. cast_holds (if t then Some row.1 else cast_in rows name) ≤ held_of row.1 + ((1 - length row.0) + rows_hold rows)) [
      | true ↦ omega arith
      | false ↦ omega (arith, casts_in rows name)
    ]

marks_hold : rows_hold marks ≡ 0
marks_hold = refl

casts_hold : rows_hold casts ≡ 0
casts_hold = refl

pub mark_is : (bs : List ℕ) {what : Result Kind Construct} {n : ℕ} → mark_in marks bs ≡ Some (what, n) → held_of what + (1 - n) ≡ 0
mark_is bs is = omega (arith, ap mark_holds is, marks_in marks bs, marks_hold)

casts_of : (bs : List ℕ) → cast_holds (cast_of bs) ≡ 0
casts_of [] = refl
casts_of (b ∷ bs) =
    elim (begins (codes "(") (b ∷ bs) && begins (codes ")") (behind_cast bs)) as (λ t. cast_holds (if t then cast_in casts (cast_name bs) else None) ≡ 0) [
      | true ↦ omega (arith, casts_in casts (cast_name bs), casts_hold)
      | false ↦ refl
    ]

cast_is : (bs : List ℕ) {what : Result Kind Construct} → cast_of bs ≡ Some what → held_of what ≡ 0
cast_is bs is = omega (arith, ap cast_holds is, casts_of bs)

behind_within : (p : ℕ → Bool) (bs : List ℕ) → length (behind p bs) ≤ length bs
behind_within p [] = omega arith
behind_within p (b ∷ bs) = elim (p b) as (λ t. length (if t then behind p bs else b ∷ bs) ≤ suc (length bs)) [
  | true ↦ omega (arith, behind_within p bs)
  | false ↦ omega arith
]

pub cast_takes : (bs : List ℕ) → 0 < length bs → 1 ≤ cast_length bs
cast_takes bs some = omega (
  arith,
  length-drop 1 (behind_cast (drop 1 bs)),
  length-drop 1 bs,
  behind_within is_blank (behind is_name_byte (behind is_blank (drop 1 bs))),
  behind_within is_name_byte (behind is_blank (drop 1 bs)),
  behind_within is_blank (drop 1 bs),
)

-- ---- what begins at a place

pub front_some : (bs : List ℕ) → begins_with is_letter bs ≡ true → 1 ≤ length (front is_name_byte bs)
front_some [] is = absurd (cc)
front_some (b ∷ bs) is = by_test (is_letter b) is
  where
    by_test : (t : Bool) → t ≡ true → 1 ≤ length (if t || is_digit b then b ∷ front is_name_byte bs else [])
    by_test true is = omega arith
    by_test false is = absurd (cc)

past : (c : Bool) (this rest want : Start) → (if c then this else rest) ≡ want → (this ≡ want → ⊥) → rest ≡ want
past true this rest want e other = absurd (other e)
past false this rest want e other = e

reached : (c : Bool) (this rest : Start) → (if c then this else rest) ≡ this → (rest ≡ this → ⊥) → c ≡ true
reached true this rest e other = refl
reached false this rest e other = absurd (other e)

-- what comes later in the order of tests is another start
not_name : (c d e f g : Bool) → (if c then s.Variable else (if d then s.Number else (if e then s.SingleQuote else (if f then s.DoubleQuote
    else (if g then s.Cast else s.Other))))) ≡ s.Name → ⊥
not_name true d e f g h = absurd (cc)
not_name false true e f g h = absurd (cc)
not_name false false true f g h = absurd (cc)
not_name false false false true g h = absurd (cc)
not_name false false false false true h = absurd (cc)
not_name false false false false false h = absurd (cc)

not_variable : (d e f g : Bool) → (if d then s.Number else (if e then s.SingleQuote else (if f then s.DoubleQuote
    else (if g then s.Cast else s.Other)))) ≡ s.Variable → ⊥
not_variable true e f g h = absurd (cc)
not_variable false true f g h = absurd (cc)
not_variable false false true g h = absurd (cc)
not_variable false false false true h = absurd (cc)
not_variable false false false false h = absurd (cc)

pub name_begins : (bs : List ℕ) → start_of bs ≡ s.Name → begins_with is_letter bs ≡ true
unfolding start_of
name_begins bs e = reached _ s.Name _ (past _ s.BlockComment _ s.Name (past _ s.LineComment _ s.Name (past _ s.Other _ s.Name (past _ s.CloseTag _ s.Name (past _ s.Whitespace _ s.Name e (λ h. absurd (cc))) (λ h. absurd (cc))) (λ h. absurd (cc))) (λ h. absurd (cc))) (λ h. absurd (cc)))
    (not_name _ _ _ _ _)

pub last_true : (a b : Bool) → (a && b) ≡ true → b ≡ true
last_true true b h = h
last_true false b h = absurd (cc)

variable_begins : (bs : List ℕ) → start_of bs ≡ s.Variable → begins_with is_letter (drop 1 bs) ≡ true
unfolding start_of
variable_begins bs e = last_true (begins (codes "$") bs) _ (reached _ s.Variable _ (past _ s.Name _ s.Variable (past _ s.BlockComment _ s.Variable (past _ s.LineComment _ s.Variable (past _ s.Other _ s.Variable (past _ s.CloseTag _ s.Variable (past _ s.Whitespace _ s.Variable e (λ h. absurd (cc))) (λ h. absurd (cc))) (λ h. absurd (cc))) (λ h. absurd (cc))) (λ h. absurd (cc))) (λ h. absurd (cc)))
    (not_variable _ _ _ _))

taken : (b : Bool) (this rest : Start) → b ≡ true → (if b then this else rest) ≡ this
taken true this rest e = refl
taken false this rest e = absurd (cc)

dollar_begins : (rest : List ℕ) → begins_with is_letter rest ≡ true → start_of (36 ∷ rest) ≡ s.Variable
unfolding start_of
dollar_begins rest letter = taken (begins_with is_letter rest) s.Variable _ letter

nothing_begins : start_of [] ≡ s.Variable → ⊥
unfolding start_of
nothing_begins e = absurd (cc)

some_bytes : (bs : List ℕ) → begins_with is_letter bs ≡ true → 0 < length bs
some_bytes [] is = absurd (cc)
some_bytes (b ∷ bs) is = omega arith

-- ---- what comes at one place

-- a piece of a string may take no byte, and the interpolation before it pays for it
abbrev credit : Mode → ℕ
credit Mode.Piece = 1
credit _ = 0

abbrev turn_credit : Turn → ℕ
turn_credit (x.goes mode) = credit mode
turn_credit (x.enters back) = credit back
turn_credit x.leaves = 0

-- what is taken pays for the tokens, but for so many, and for what they hold
data Told (bs : List ℕ) (extra : ℕ) : Answer → Type 0 where
  none : {why : Fault} → Told bs extra (Err why)
  told : {next : Next} → length next.tokens + (length (drop next.len bs) + turn_credit next.turn) ≤ length bs + extra →
      held next.tokens + length (drop next.len bs) ≤ length bs → Told bs extra (Ok next)

skipped : (bs : List ℕ) (extra n : ℕ) (next : Mode) → credit next ≡ 0 → Told bs extra (skips n next)
skipped bs extra n next free = told (omega (arith, length-drop n bs, free)) (omega (arith, length-drop n bs))

holding : (bs : List ℕ) (extra at n : ℕ) (kind : Kind) (turn : Turn) → turn_credit turn ≡ 0 → 0 < length bs → 1 ≤ n →
    held_bytes kind + length (drop n bs) ≤ length bs → Told bs extra (gives at n kind turn)
holding bs extra at n kind turn free some takes fits = told (omega (arith, length-drop n bs, free)) (omega (arith, fits))

empty : (bs : List ℕ) (extra at n : ℕ) (kind : Kind) (turn : Turn) → turn_credit turn ≡ 0 → 0 < length bs → 1 ≤ n →
    held_bytes kind ≡ 0 → Told bs extra (gives at n kind turn)
empty bs extra at n kind turn free some takes nothing = holding bs extra at n kind turn free some takes (omega (arith, length-drop n bs))

mark_turn : (m : Mark) → turn_credit (turn_of (k.Mark m)) ≡ 0
mark_turn m = grind arith

table_turn : (kind : Kind) → turn_credit (turn_of kind) ≡ 0
table_turn (k.Mark m) = mark_turn m
table_turn (k.Int v) = refl
table_turn (k.InlineText bytes) = refl
table_turn (k.Text bytes) = refl
table_turn (k.TextHead bytes) = refl
table_turn (k.TextMiddle bytes) = refl
table_turn (k.TextTail bytes) = refl
table_turn (k.Variable name) = refl
table_turn (k.Name name) = refl
table_turn (k.Keyword w) = refl
table_turn (k.Operator op) = refl
table_turn (k.Assign op) = refl
table_turn (k.Cast type) = refl

of_table : (bs : List ℕ) (extra at n : ℕ) (what : Result Kind Construct) → 0 < length bs → 1 ≤ n → held_of what ≡ 0 → Told bs extra (from_table at n what)
of_table bs extra at n (Ok kind) some takes nothing = empty bs extra at n kind (turn_of kind) (table_turn kind) some takes nothing
of_table bs extra at n (Err which) some takes nothing = none

quoted : (rest : List ℕ) → begins (34 ∷ []) rest ≡ true → 0 < length rest
quoted [] is = absurd (cc)
quoted (b ∷ rest) is = omega arith

-- where the string goes on, a token or the credit is paid for
of_piece : (last other : List ℕ → Kind) (extra at : ℕ) (text bs rest : List ℕ) → 0 < length bs → length text + length rest ≤ length bs →
    suc (length rest) ≤ length bs + extra → held_bytes (last text) ≤ length text → held_bytes (other text) ≤ length text → Told bs extra (piece last other at text bs rest)
of_piece last other extra at text bs rest some fits inside p q =
    elim (begins (34 ∷ []) rest) as (λ t. begins (34 ∷ []) rest ≡ t → Told bs extra
    (if t then gives at (suc (length bs - length rest)) (last text) (x.goes Mode.Code) else gives at (length bs - length rest) (other text) (x.goes Mode.Interpolation))) [
      | true ↦ λ is. told (omega (arith, length-drop (suc (length bs - length rest)) bs, quoted rest is))
          (omega (arith, length-drop (suc (length bs - length rest)) bs, quoted rest is, p))
      | false ↦ λ is. told (omega (arith, length-drop (length bs - length rest) bs)) (omega (arith, length-drop (length bs - length rest) bs, q))
    ] refl

in_code : {mode : Mode} {member : Bool} {at : ℕ} {bs : List ℕ} {r : Answer} → credit mode ≡ 0 → 0 < length bs → InCode mode member at bs r → Told bs 0 r
in_code {mode} free some (x.whitespace {bs} is) = skipped bs 0 1 mode free
in_code {at = at} free some (x.close_tag {bs} is) = empty bs 0 at _ (k.Mark m.Semicolon) (x.goes Mode.Inline) refl some (omega arith) refl
in_code {mode} free some (x.line_comment {bs} {n} is found) = skipped bs 0 n mode free
in_code {mode} free some (x.block_comment {bs} {n} is found) = skipped bs 0 (4 + n) mode free
in_code free some (x.unclosed_comment is never) = none
in_code {member = member} {at = at} free some (x.name {bs} is) =
    let one = front_some bs (name_begins bs is) in
    holding bs 0 at _ _ (x.goes Mode.Code) refl some one (omega (
      arith,
      name_holds member (front is_name_byte bs),
      front_within is_name_byte bs,
      length-drop (length (front is_name_byte bs)) bs,
    ))
in_code {at = at} free some (x.variable {bs} is) =
    holding bs 0 at _ (k.Variable (front is_name_byte (drop 1 bs))) (x.goes Mode.Code) refl some (omega arith) (omega (
      arith,
      front_within is_name_byte (drop 1 bs),
      length-drop 1 bs,
      length-drop (suc (length (front is_name_byte (drop 1 bs)))) bs,
    ))
in_code {at = at} free some (x.number {bs} {v} is float value fits) =
    let both = number_fits bs value fits in
    empty bs 0 at (numeral_length bs) (k.Int v) (x.goes Mode.Code) refl some (omega (arith, both.0)) refl
in_code free some (x.long_number is float value fits) = none
in_code free some (x.float is float) = none
in_code free some (x.bad_number is float never) = none
in_code {at = at} free some (x.single {bs} {text} {rest} is inside) =
    holding bs 0 at (length bs - length rest) (k.Text text) (x.goes Mode.Code) refl some (omega (arith, single_fits inside, length-drop 1 bs))
    (omega (arith, single_fits inside, length-drop 1 bs, length-drop (length bs - length rest) bs))
in_code free some (x.unclosed_single is never) = none
in_code {at = at} free some (x.double {bs} {text} {rest} is inside) =
    of_piece k.Text k.TextHead 0 at text bs rest some (omega (arith, piece_fits inside, length-drop 1 bs)) (omega (arith, piece_fits inside, length-drop 1 bs))
    (omega arith) (omega arith)
in_code free some (x.InCode.bad_escape is inside) = none
in_code free some (x.unclosed_double is never) = none
in_code {at = at} free some (x.cast {bs} {what} is found) = of_table bs 0 at (cast_length bs) what some (cast_takes bs some) (cast_is bs found)
in_code {at = at} free some (x.mark {bs} {what} {n} is found) =
    of_table bs 0 at n what some (omega (arith, mark_is bs found)) (omega (arith, mark_is bs found))
in_code free some (x.bad_byte is never) = none

-- ---- interpolations

-- a key takes a byte, and holds no more bytes than it takes
data Keyed : Option (Kind × ℕ) → Type 0 where
  no_key : Keyed None
  a_key : {found : Kind × ℕ} → 1 ≤ found.1 → held_bytes found.0 ≤ found.1 → Keyed (Some found)

if_keyed : (b : Bool) {p q : Option (Kind × ℕ)} → (b ≡ true → Keyed p) → Keyed q → Keyed (if b then p else q)
if_keyed true this other = this refl
if_keyed false this other = other

digits_some : (bs : List ℕ) → begins_with is_digit bs ≡ true → 1 ≤ length (front is_digit bs)
digits_some [] is = absurd (cc)
digits_some (b ∷ bs) is = elim (is_digit b) as (λ t. t ≡ true → 1 ≤ length (if t then b ∷ front is_digit bs else [])) [
  | true ↦ λ _. omega arith
  | false ↦ λ never. absurd (cc)
] is

first_true : (a b : Bool) → (a && b) ≡ true → a ≡ true
first_true true b h = refl
first_true false b h = absurd (cc)

keyed : (bs : List ℕ) → Keyed (key_of bs)
keyed bs = if_keyed (begins_with is_letter bs) (λ is. a_key (front_some bs is) (omega arith))
    (if_keyed (begins (codes "$") bs && begins_with is_letter (drop 1 bs)) (λ is. a_key (omega arith) (omega arith))
    (if_keyed (begins_with is_digit bs && is_plain_number (front is_digit bs)) (λ is. a_key (digits_some bs (first_true (begins_with is_digit bs) _ is)) (omega arith)) no_key))

key_in : {found : Kind × ℕ} → Keyed (Some found) → (1 ≤ found.1) × (held_bytes found.0 ≤ found.1)
key_in (a_key takes holds) = (takes, holds)

closed : (rest : List ℕ) → begins (codes "]") rest ≡ true → 0 < length rest
closed [] is = absurd (cc)
closed (b ∷ rest) is = omega arith

opened : (bs : List ℕ) → begins (codes "[") bs ≡ true → 0 < length bs
opened [] is = absurd (cc)
opened (b ∷ rest) is = omega arith

behind_counted : {at : ℕ} {bs : List ℕ} {ts : List Token} {n : ℕ} → Behind at bs ts n → length ts + length (drop n bs) ≤ length bs
behind_counted (x.key {bs} {found} opens is closes) =
    let takes = (key_in (subst Keyed is (keyed (drop 1 bs)))).0 in
    let one = closed (drop found.1 (drop 1 bs)) closes in
    let two = opened bs opens in
    omega (arith, length-drop found.1 (drop 1 bs), length-drop 1 bs, length-drop (2 + found.1) bs)
behind_counted (x.property {bs} is) =
    let one = front_some (drop 2 bs) (last_true (begins (codes "->") bs) _ is) in
    let two = some_bytes (drop 2 bs) (last_true (begins (codes "->") bs) _ is) in
    omega (arith, front_within is_name_byte (drop 2 bs), length-drop 2 bs, length-drop (2 + length (front is_name_byte (drop 2 bs))) bs)
behind_counted (x.alone a b c) = omega arith

behind_holds : {at : ℕ} {bs : List ℕ} {ts : List Token} {n : ℕ} → Behind at bs ts n → held ts + length (drop n bs) ≤ length bs
behind_holds (x.key {bs} {found} opens is closes) =
    let holds = (key_in (subst Keyed is (keyed (drop 1 bs)))).1 in
    let one = closed (drop found.1 (drop 1 bs)) closes in
    omega (arith, length-drop found.1 (drop 1 bs), length-drop 1 bs, length-drop (2 + found.1) bs)
behind_holds (x.property {bs} is) =
    omega (
      arith,
      front_within is_name_byte (drop 2 bs),
      length-drop 2 bs,
      length-drop (2 + length (front is_name_byte (drop 2 bs))) bs,
      some_bytes (drop 2 bs) (last_true (begins (codes "->") bs) _ is),
    )
behind_holds (x.alone a b c) = omega arith

-- an open brace stands before a variable, which pays for more than its token
data Coming (bs : List ℕ) (extra : ℕ) : Answer → Type 0 where
  usual : {r : Answer} → Told bs extra r → Coming bs extra r
  brace : {at : ℕ} → 0 < length bs → start_of (drop 1 bs) ≡ s.Variable →
      Coming bs extra (gives at 1 (k.Mark m.OpenInterpolation) (x.enters Mode.Piece))

dollar_is : (c : ℕ) → (36 == c) ≡ true → c ≡ 36
dollar_is c is = grind (arith, nat_tests)

brace_begins : (bs : List ℕ) → begins (codes "{$") bs ≡ true → begins_with is_letter (drop 2 bs) ≡ true → start_of (drop 1 bs) ≡ s.Variable
brace_begins [] is letter = absurd (cc)
brace_begins (b ∷ []) is letter = absurd (cc (last_true (123 == b) false is))
brace_begins (b ∷ c ∷ rest) is letter = subst (λ c. start_of (c ∷ rest) ≡ s.Variable)
    (sym (dollar_is c (first_true (36 == c) true (last_true (123 == b) _ is)))) (dollar_begins rest letter)

in_interpolation : {at : ℕ} {bs : List ℕ} {r : Answer} → 0 < length bs → InInterpolation at bs r → Coming bs 0 r
in_interpolation some (x.braces {bs} is letter) = brace some (brace_begins bs is letter)
in_interpolation some (x.bad_braces is letter) = usual none
in_interpolation some (x.named is) = usual none
in_interpolation some (x.simple {bs} {name} {ts} {n} is same more) =
    let one = subst (λ name. 1 ≤ length name) (sym same) (front_some (drop 1 bs) (last_true (begins (codes "$") bs) _ is)) in
    let within = subst (λ name. length name ≤ length (drop 1 bs)) (sym same) (front_within is_name_byte (drop 1 bs)) in
    usual (told (omega (arith, behind_counted more, length-drop n (drop (suc (length name)) bs), length-drop (suc (length name)) bs, length-drop (suc (length name) + n) bs, length-drop 1 bs))
    (omega (arith, behind_holds more, length-drop n (drop (suc (length name)) bs), length-drop (suc (length name)) bs, length-drop (suc (length name) + n) bs, length-drop 1 bs)))
in_interpolation some (x.bad_simple is same never) = usual none

first_within : {p : List ℕ → Bool} {bs : List ℕ} {n : ℕ} → First p bs n → n ≤ length bs
first_within (b.here is) = omega arith
first_within (b.later other more) = omega (arith, first_within more)

some_text : {bs : List ℕ} {n : ℕ} → ends_inline bs ≡ false → First ends_inline bs n → 0 < n
some_text other (b.here is) = absurd (cc)
some_text other (b.later never more) = omega arith

comes : {at : ℕ} {mode : Mode} {bs : List ℕ} {r : Answer} → 0 < length bs → Comes at mode bs r → Coming bs (credit mode) r
comes some (x.opening {bs} is) = usual (skipped bs 0 _ Mode.Code refl)
comes {at} some (x.opening_echo {bs} is) = usual (empty bs 0 at 3 (k.Keyword w.Echo) (x.goes Mode.Code) refl some (omega arith) refl)
comes {at} some (x.text {bs} {n} other found) =
    let one = some_text other found in
    usual (holding bs 0 at n (k.InlineText (take n bs)) (x.goes Mode.Inline) refl some (omega arith) (omega (arith, first_within found, length-take n bs, length-drop n bs)))
comes some (x.code is) = usual (in_code refl some is)
comes some (x.member is) = usual (in_code refl some is)
comes some (x.interpolation is) = in_interpolation some is
comes {at} some (x.later_piece {bs} {text} {rest} inside) =
    usual (of_piece k.TextTail k.TextMiddle 1 at text bs rest some (piece_fits inside) (omega (arith, piece_fits inside)) (omega arith) (omega arith))
comes some (x.Comes.bad_escape inside) = usual none
comes some (x.unclosed never) = usual none

-- ---- a variable in code

data Gained (bs : List ℕ) : Answer → Type 0 where
  failed : {why : Fault} → Gained bs (Err why)
  gained : {next : Next} → suc (length next.tokens) + (length (drop next.len bs) + turn_credit next.turn) ≤ length bs → Gained bs (Ok next)

code_gained : {mode : Mode} {member : Bool} {at : ℕ} {bs : List ℕ} {r : Answer} → start_of bs ≡ s.Variable → InCode mode member at bs r → Gained bs r
code_gained start (x.variable {bs} is) =
    let one = front_some (drop 1 bs) (variable_begins bs is) in
    gained (omega (arith, some_bytes (drop 1 bs) (variable_begins bs is), length-drop 1 bs, length-drop (suc (length (front is_name_byte (drop 1 bs)))) bs))
code_gained start (x.whitespace is) = absurd (cc)
code_gained start (x.close_tag is) = absurd (cc)
code_gained start (x.line_comment is found) = absurd (cc)
code_gained start (x.block_comment is found) = absurd (cc)
code_gained start (x.unclosed_comment is never) = failed
code_gained start (x.name is) = absurd (cc)
code_gained start (x.number is float value fits) = absurd (cc)
code_gained start (x.long_number is float value fits) = failed
code_gained start (x.float is float) = failed
code_gained start (x.bad_number is float never) = failed
code_gained start (x.single is inside) = absurd (cc)
code_gained start (x.unclosed_single is never) = failed
code_gained start (x.double is inside) = absurd (cc)
code_gained start (x.InCode.bad_escape is inside) = failed
code_gained start (x.unclosed_double is never) = failed
code_gained start (x.cast is found) = absurd (cc)
code_gained start (x.mark is found) = absurd (cc)
code_gained start (x.bad_byte is never) = failed

comes_gained : {at : ℕ} {mode : Mode} {bs : List ℕ} {r : Answer} → mode ≡ Mode.Code → start_of bs ≡ s.Variable → Comes at mode bs r → Gained bs r
comes_gained code start (x.code is) = code_gained start is
comes_gained code start (x.opening is) = absurd (cc)
comes_gained code start (x.opening_echo is) = absurd (cc)
comes_gained code start (x.text other found) = absurd (cc)
comes_gained code start (x.member is) = absurd (cc)
comes_gained code start (x.interpolation is) = absurd (cc)
comes_gained code start (x.later_piece inside) = absurd (cc)
comes_gained code start (x.Comes.bad_escape inside) = failed
comes_gained code start (x.unclosed never) = failed

-- ---- all tokens

abbrev owed : List Mode → ℕ
owed [] = 0
owed (mode ∷ outer) = credit mode + owed outer

turned_owes : (turn : Turn) (outer : List Mode) → credit (turned turn outer).mode + owed (turned turn outer).outer ≤ turn_credit turn + owed outer
turned_owes (x.goes next) outer = omega arith
turned_owes (x.enters back) outer = omega arith
turned_owes x.leaves [] = omega arith
turned_owes x.leaves (back ∷ outer) = omega arith

data Counted (count holds : ℕ) : Reading → Type 0 where
  fault : {why : Fault × ℕ} → Counted count holds (Err why)
  read : {ts : List Token} → length ts ≤ count → held ts ≤ holds → Counted count holds (Ok ts)

-- with a byte to spare
data Spared (count : ℕ) : Reading → Type 0 where
  fault : {why : Fault × ℕ} → Spared count (Err why)
  read : {ts : List Token} → suc (length ts) ≤ count → Spared count (Ok ts)

joined : {bs : List ℕ} {extra : ℕ} (outer : List Mode) (next : Next) {r : Reading} → Coming bs extra (Ok next) →
    Counted (length (drop next.len bs) + (credit (turned next.turn outer).mode + owed (turned next.turn outer).outer)) (length (drop next.len bs)) r →
    ((turned next.turn outer).mode ≡ Mode.Code → start_of (drop next.len bs) ≡ s.Variable → Spared (length (drop next.len bs) + owed (turned next.turn outer).outer) r) →
    Counted (length bs + (extra + owed outer)) (length bs) (tokens_before next.tokens r)
joined outer next here Counted.fault spare = Counted.fault
joined outer next (usual (told few holds)) (Counted.read {ts = ts} more holds_more) spare =
    Counted.read (omega (arith, length-append next.tokens ts, turned_owes next.turn outer)) (omega (arith, held-append next.tokens ts))
joined {bs} {extra} outer next (brace {at} some start) (Counted.read {ts = ts} more holds_more) spare = by_spare (spare refl start)
  where
    by_spare : Spared (length (drop 1 bs) + (1 + owed outer)) (Ok ts) → Counted (length bs + (extra + owed outer)) (length bs)
        (Ok ((token at 1 (k.Mark m.OpenInterpolation) ∷ []) ++ ts))
    by_spare (Spared.read fewer) = Counted.read (omega (arith, length-drop 1 bs)) (omega (arith, length-drop 1 bs))

spared : {bs : List ℕ} (outer : List Mode) (next : Next) {r : Reading} → Gained bs (Ok next) →
    Counted (length (drop next.len bs) + (credit (turned next.turn outer).mode + owed (turned next.turn outer).outer)) (length (drop next.len bs)) r →
    Spared (length bs + owed outer) (tokens_before next.tokens r)
spared outer next here Counted.fault = Spared.fault
spared outer next (gained few) (Counted.read {ts = ts} more holds_more) = Spared.read (omega (arith, length-append next.tokens ts, turned_owes next.turn outer))

mutual
  lexes : {state : State} {at : ℕ} {bs : List ℕ} {r : Reading} → Lexes state at bs r →
      Counted (length bs + (credit state.mode + owed state.outer)) (length bs) r
  lexes (t.end is) = Counted.read (omega arith) (omega arith)
  lexes (t.open_end is) = Counted.fault
  lexes {state} (t.place {next = next} is more) = joined state.outer next (comes (omega arith) is) (lexes more) (lexes_spared more)
  lexes (t.fault is) = Counted.fault

  lexes_spared : {state : State} {at : ℕ} {bs : List ℕ} {r : Reading} → Lexes state at bs r → state.mode ≡ Mode.Code → start_of bs ≡ s.Variable →
      Spared (length bs + owed state.outer) r
  lexes_spared (t.end is) code start = absurd (nothing_begins start)
  lexes_spared (t.open_end is) code start = Spared.fault
  lexes_spared {state} (t.place {next = next} is more) code start = spared state.outer next (comes_gained code start is) (lexes more)
  lexes_spared (t.fault is) code start = Spared.fault

counted_of : {count holds : ℕ} {ts : List Token} → Counted count holds (Ok ts) → (length ts ≤ count) × (held ts ≤ holds)
counted_of (Counted.read few holds) = (few, holds)

pub tokens_are_few : (bytes : List ℕ) (tokens : List Token) → SpellsTokens bytes tokens → (length tokens ≤ length bytes) × (held tokens ≤ length bytes)
tokens_are_few bytes tokens is = let both = counted_of (lexes is) in (omega (arith, both.0), omega (arith, both.1))
