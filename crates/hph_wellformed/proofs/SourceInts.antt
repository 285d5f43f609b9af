-- The numbers that a file's bytes spell are ints of 64 bits.
use Rattle.std.specs.Prelude.{◌≡◌, ℕ, suc, ◌-◌, ◌^◌, Bool, true, false, ◌&&◌, ◌||◌, not, ◌==◌, List, [], ◌∷◌, length, drop, Option, None, Some, Result, Ok, Err, if◌then◌else◌, codes}
use Rattle.std.proofs.Common.{arith, refl, subst}
use Rattle.std.proofs.lemmas.List.Elements.{All-from_recursion, All-append, All-nil}
use Rattle.std.proofs.lemmas.Bool.Decides.{Decides-ltb}
use Rattle.hph_ast.specs.declared.token.Token.{Token}
use Rattle.hph_ast.specs.declared.token.Kind.{Kind}
use Rattle.hph_ast.specs.declared.token.Kind.TheVariants as k
use Rattle.hph_ast.specs.declared.refusal.Construct.{Construct}
use Rattle.hph_ast.specs.Bytes.{begins, begins_with, is_letter, is_digit, is_name_byte, front}
use Rattle.hph_ast.specs.Strings.{value_of}
use Rattle.hph_ast.specs.Lexical.{Fault, Turn, Next, Answer, Comes, InCode, InInterpolation, Behind, token, gives, skips, from_table, piece, key_of, is_plain_number}
use Rattle.hph_ast.specs.Lexical as x
use Rattle.hph_ast.specs.declared.lexical.Mode.{Mode}
use Rattle.hph_ast.specs.Tokens.{Reading, State, Lexes, SpellsTokens, tokens_before}
use Rattle.hph_ast.specs.Tokens as t
use Rattle.hph_size.proofs.Weights.{weight, weight_of, name_weighs_nothing, mark_weighs_nothing, cast_weighs_nothing}
use Rattle.hph_program.specs.WellFormed.{IsIntOfPrograms}
use Rattle.hph_lowerable.proofs.Chains.{AreInts}

-- what gives nothing to print is no number
weightless : (kind : Kind) → weight kind ≡ 0 → IsIntOfPrograms kind
weightless (k.Int v) e = absurd (omega (arith, e))
weightless (k.InlineText bytes) e = tt
weightless (k.Text bytes) e = tt
weightless (k.TextHead bytes) e = tt
weightless (k.TextMiddle bytes) e = tt
weightless (k.TextTail bytes) e = tt
weightless (k.Variable name) e = tt
weightless (k.Name name) e = tt
weightless (k.Keyword w) e = tt
weightless (k.Operator op) e = tt
weightless (k.Assign op) e = tt
weightless (k.Cast type) e = tt
weightless (k.Mark m) e = tt

-- ---- what comes at one place

data Small : Answer → Type 0 where
  none : {why : Fault} → Small (Err why)
  small : {next : Next} → AreInts next.tokens → Small (Ok next)

alone : (t : Token) → IsIntOfPrograms t.kind → AreInts (t ∷ [])
alone t int = All-from_recursion (λ (t : Token). IsIntOfPrograms t.kind) (t ∷ []) (int, tt)

given : (at n : ℕ) (kind : Kind) (turn : Turn) → IsIntOfPrograms kind → Small (gives at n kind turn)
given at n kind turn int = small (alone (token at n kind) int)

of_table : (at n : ℕ) (what : Result Kind Construct) → weight_of what ≡ 0 → Small (from_table at n what)
of_table at n (Ok kind) e = given at n kind (x.turn_of kind) (weightless kind e)
of_table at n (Err which) e = none

of_piece : (last other : List ℕ → Kind) (at : ℕ) (text bs rest : List ℕ) → ((bytes : List ℕ) → IsIntOfPrograms (last bytes)) →
    ((bytes : List ℕ) → IsIntOfPrograms (other bytes)) → Small (piece last other at text bs rest)
of_piece last other at text bs rest p q = by_test (begins (34 ∷ []) rest)
  where
    by_test : (b : Bool) → Small (if b then gives at (suc (length bs - length rest)) (last text) (x.goes Mode.Code) else gives at (length bs - length rest) (other text) (x.goes Mode.Interpolation))
    by_test true = given at (suc (length bs - length rest)) (last text) (x.goes Mode.Code) (p text)
    by_test false = given at (length bs - length rest) (other text) (x.goes Mode.Interpolation) (q text)

in_code : {mode : Mode} {member : Bool} {at : ℕ} {bs : List ℕ} {r : Answer} → InCode mode member at bs r → Small r
in_code (x.whitespace is) = small (All-nil (λ (t : Token). IsIntOfPrograms t.kind))
in_code {at = at} (x.close_tag is) = given at _ _ _ tt
in_code (x.line_comment is found) = small (All-nil (λ (t : Token). IsIntOfPrograms t.kind))
in_code (x.block_comment is found) = small (All-nil (λ (t : Token). IsIntOfPrograms t.kind))
in_code (x.unclosed_comment is never) = none
in_code {member = member} {at = at} (x.name {bs} is) = given at _ _ _ (weightless _ (name_weighs_nothing member (front is_name_byte bs)))
in_code {at = at} (x.variable is) = given at _ _ _ tt
in_code {at = at} (x.number is float value fits) = given at _ _ _ fits
in_code (x.long_number is float value fits) = none
in_code (x.float is float) = none
in_code (x.bad_number is float never) = none
in_code {at = at} (x.single is inside) = given at _ _ _ tt
in_code (x.unclosed_single is never) = none
in_code {at = at} (x.double {bs} {text} {rest} is inside) = of_piece k.Text k.TextHead at text bs rest (λ bytes. tt) (λ bytes. tt)
in_code (x.InCode.bad_escape is inside) = none
in_code (x.unclosed_double is never) = none
in_code {at = at} (x.cast {bs} {what} is found) = of_table at _ what (cast_weighs_nothing bs found)
in_code {at = at} (x.mark {bs} {what} {n} is found) = of_table at n what (mark_weighs_nothing bs found)
in_code (x.bad_byte is never) = none

-- ---- keys

data SmallKey : Option (Kind × ℕ) → Type 0 where
  no_key : SmallKey None
  a_key : {found : Kind × ℕ} → IsIntOfPrograms found.0 → SmallKey (Some found)

if_key : (b : Bool) {p q : Option (Kind × ℕ)} → (b ≡ true → SmallKey p) → SmallKey q → SmallKey (if b then p else q)
if_key true this other = this refl
if_key false this other = other

last_true : (a b : Bool) → (a && b) ≡ true → b ≡ true
last_true true b h = h
last_true false b h = absurd (cc)

keyed : (bs : List ℕ) → SmallKey (key_of bs)
keyed bs = if_key (begins_with is_letter bs) (λ _. a_key tt)
    (if_key (begins (codes "$") bs && begins_with is_letter (drop 1 bs)) (λ _. a_key tt)
    (if_key (begins_with is_digit bs && is_plain_number (front is_digit bs)) (λ is. a_key ((Decides-ltb (value_of 10 (front is_digit bs)) (2 ^ 63)).0
    (last_true (length (front is_digit bs) == 1 || not (begins (codes "0") (front is_digit bs))) _ (last_true (begins_with is_digit bs) _ is)))) no_key))

key_in : {found : Kind × ℕ} → SmallKey (Some found) → IsIntOfPrograms found.0
key_in (a_key int) = int

-- ---- interpolations

behind_small : {at : ℕ} {bs : List ℕ} {ts : List Token} {n : ℕ} → Behind at bs ts n → AreInts ts
behind_small {at = at} (x.key {bs} {found} opens is closes) = All-from_recursion (λ (t : Token). IsIntOfPrograms t.kind) (x.key_tokens at found)
    (tt, (key_in (subst SmallKey is (keyed (drop 1 bs))), (tt, tt)))
behind_small {at = at} (x.property {bs} is) = All-from_recursion (λ (t : Token). IsIntOfPrograms t.kind) (x.property_tokens at (front is_name_byte (drop 2 bs)))
    (tt, (tt, tt))
behind_small (x.alone a b c) = All-nil (λ (t : Token). IsIntOfPrograms t.kind)

in_interpolation : {at : ℕ} {bs : List ℕ} {r : Answer} → InInterpolation at bs r → Small r
in_interpolation {at} (x.braces is letter) = given at _ _ _ tt
in_interpolation (x.bad_braces is letter) = none
in_interpolation (x.named is) = none
in_interpolation {at} (x.simple {name = name} {ts = ts} is same more) =
    small (All-append (λ (t : Token). IsIntOfPrograms t.kind) (token at (suc (length name)) (k.Variable name) ∷ []) ts
    (alone (token at (suc (length name)) (k.Variable name)) tt) (behind_small more))
in_interpolation (x.bad_simple is same never) = none

comes_small : {at : ℕ} {mode : Mode} {bs : List ℕ} {r : Answer} → Comes at mode bs r → Small r
comes_small (x.opening is) = small (All-nil (λ (t : Token). IsIntOfPrograms t.kind))
comes_small {at} (x.opening_echo is) = given at _ _ _ tt
comes_small {at} (x.text other found) = given at _ _ _ tt
comes_small (x.code is) = in_code is
comes_small (x.member is) = in_code is
comes_small (x.interpolation is) = in_interpolation is
comes_small {at} (x.later_piece {bs} {text} {rest} inside) = of_piece k.TextTail k.TextMiddle at text bs rest (λ bytes. tt) (λ bytes. tt)
comes_small (x.Comes.bad_escape inside) = none
comes_small (x.unclosed never) = none

-- ---- all tokens

data SmallReading : Reading → Type 0 where
  fault : {why : Fault × ℕ} → SmallReading (Err why)
  read : {ts : List Token} → AreInts ts → SmallReading (Ok ts)

joined : (next : Next) {r : Reading} → Small (Ok next) → SmallReading r → SmallReading (tokens_before next.tokens r)
joined next here fault = fault
joined next (small here) (read {ts = ts} more) = read (All-append (λ (t : Token). IsIntOfPrograms t.kind) next.tokens ts here more)

lexes_small : {state : State} {at : ℕ} {bs : List ℕ} {r : Reading} → Lexes state at bs r → SmallReading r
lexes_small (t.end is) = read (All-nil (λ (t : Token). IsIntOfPrograms t.kind))
lexes_small (t.open_end is) = fault
lexes_small (t.place {next = next} is more) = joined next (comes_small is) (lexes_small more)
lexes_small (t.fault is) = fault

of_reading : {ts : List Token} → SmallReading (Ok ts) → AreInts ts
of_reading (read ints) = ints

pub tokens_are_ints : (bytes : List ℕ) (tokens : List Token) → SpellsTokens bytes tokens → AreInts tokens
tokens_are_ints bytes tokens is = of_reading (lexes_small is)
