-- What comes at one place gives no more than twice the bytes that it takes.
use Rattle.std.proofs.Common.{◌≡◌, ℕ, suc, ◌+◌, ◌*◌, ◌-◌, ◌<◌, ◌≤◌, Bool, true, false, List, [], ◌∷◌, length, take, drop, Result, Ok, Err, refl, length-drop, length-take, arith}
use Rattle.std.specs.Prelude.{if◌then◌else◌, codes}
use Rattle.hph_ast.specs.declared.token.Token.{Token}
use Rattle.hph_ast.specs.declared.token.Kind.{Kind}
use Rattle.hph_ast.specs.declared.token.Kind.TheVariants as k
use Rattle.hph_ast.specs.declared.token.Mark.TheVariants as m
use Rattle.hph_ast.specs.declared.keyword.Keyword.TheVariants as w
use Rattle.hph_ast.specs.declared.refusal.Construct.{Construct}
use Rattle.hph_ast.specs.declared.lexical.Mode.{Mode}
use Rattle.hph_ast.specs.Bytes.{begins, begins_with, is_name_byte, front, First, newline_length}
use Rattle.hph_ast.specs.Bytes as b
use Rattle.hph_ast.specs.Numbers.{numeral_length}
use Rattle.hph_ast.specs.Lexical.{Fault, Turn, Next, Answer, Comes, InCode, InInterpolation, Behind, token, gives, skips, from_table, piece, turn_of, ends_inline, goes}
use Rattle.hph_ast.specs.Lexical as x
use Rattle.hph_size.proofs.Strings.{single_fits, piece_fits}
use Rattle.hph_size.proofs.Weights.{weight, weights, weight_of, name_weighs_nothing, mark_weighs_nothing, cast_weighs_nothing}
use Rattle.hph_size.proofs.Keys.{number_fits, key_fits}

-- the tokens of an answer weigh at most twice as much as the bytes that it takes
pub data Light (bs : List ℕ) : Answer → Type 0 where
  none : {why : Fault} → Light bs (Err why)
  light : {next : Next} → weights next.tokens + 2 * length (drop next.len bs) ≤ 2 * length bs → Light bs (Ok next)

-- nothing, a token that gives nothing, and one that gives something
skipped : (bs : List ℕ) (n : ℕ) (mode : Mode) → Light bs (skips n mode)
skipped bs n next = light (omega (arith, length-drop n bs))

no_weight : (bs : List ℕ) (at n : ℕ) (kind : Kind) (turn : Turn) → weight kind ≡ 0 → Light bs (gives at n kind turn)
no_weight bs at n kind turn is = light (omega (arith, length-drop n bs))

some_weight : (bs : List ℕ) (at n : ℕ) (kind : Kind) (turn : Turn) → weight kind ≤ 2 * n → n ≤ length bs → Light bs (gives at n kind turn)
some_weight bs at n kind turn fits inside = light (omega (arith, length-drop n bs))

of_table : (bs : List ℕ) (at n : ℕ) (what : Result Kind Construct) → weight_of what ≡ 0 → Light bs (from_table at n what)
of_table bs at n (Ok kind) is = no_weight bs at n kind (turn_of kind) is
of_table bs at n (Err which) is = none

quoted : (rest : List ℕ) → begins (34 ∷ []) rest ≡ true → 0 < length rest
quoted [] is = absurd (cc)
quoted (b ∷ rest) is = omega arith

-- a piece of a string, which weighs something only where the string has no interpolation
of_piece : (last other : List ℕ → Kind) (at : ℕ) (text bs rest : List ℕ) → weight (last text) ≤ 2 * suc (length bs - length rest) →
    length rest ≤ length bs → weight (other text) ≡ 0 → Light bs (piece last other at text bs rest)
of_piece last other at text bs rest fits inside nothing =
    elim (begins (34 ∷ []) rest) as (λ t. begins (34 ∷ []) rest ≡ t → Light bs
    (if t then gives at (suc (length bs - length rest)) (last text) (goes Mode.Code) else gives at (length bs - length rest) (other text) (goes Mode.Interpolation))) [
      | true ↦ λ is. some_weight bs at (suc (length bs - length rest)) (last text) (goes Mode.Code) fits (omega (arith, quoted rest is))
      | false ↦ λ is. no_weight bs at (length bs - length rest) (other text) (goes Mode.Interpolation) nothing
    ] refl

single : (at : ℕ) (bs text rest : List ℕ) → length text + length rest < length (drop 1 bs) →
    Light bs (gives at (length bs - length rest) (k.Text text) (goes Mode.Code))
single at bs text rest fits =
    some_weight bs at (length bs - length rest) (k.Text text) (goes Mode.Code) (omega (arith, length-drop 1 bs)) (omega arith)

in_code : {mode : Mode} {member : Bool} {at : ℕ} {bs : List ℕ} {r : Answer} → InCode mode member at bs r → Light bs r
in_code (x.whitespace {bs} is) = skipped bs 1 _
in_code {at = at} (x.close_tag {bs} is) = no_weight bs at _ (k.Mark m.Semicolon) (goes Mode.Inline) refl
in_code (x.line_comment {bs} {n} is found) = skipped bs n _
in_code (x.block_comment {bs} {n} is found) = skipped bs (4 + n) _
in_code (x.unclosed_comment is never) = none
in_code {member = member} {at = at} (x.name {bs} is) = no_weight bs at _ _ (goes Mode.Code) (name_weighs_nothing member (front is_name_byte bs))
in_code {at = at} (x.variable {bs} is) = no_weight bs at _ (k.Variable (front is_name_byte (drop 1 bs))) (goes Mode.Code) refl
in_code {at = at} (x.number {bs} {v} is float value fits) =
    let both = number_fits bs value fits in some_weight bs at (numeral_length bs) (k.Int v) (goes Mode.Code) both.0 both.1
in_code (x.long_number is float value fits) = none
in_code (x.float is float) = none
in_code (x.bad_number is float never) = none
in_code {at = at} (x.single {bs} {text} {rest} is inside) = single at bs text rest (single_fits inside)
in_code (x.unclosed_single is never) = none
in_code {at = at} (x.double {bs} {text} {rest} is inside) =
    let fits = piece_fits inside in
    of_piece k.Text k.TextHead at text bs rest (omega (arith, length-drop 1 bs)) (omega (arith, length-drop 1 bs)) refl
in_code (x.InCode.bad_escape is inside) = none
in_code (x.unclosed_double is never) = none
in_code {at = at} (x.cast {bs} {what} is found) = of_table bs at _ what (cast_weighs_nothing bs found)
in_code {at = at} (x.mark {bs} {what} {n} is found) = of_table bs at n what (mark_weighs_nothing bs found)
in_code (x.bad_byte is never) = none

-- ---- interpolations

closed : (rest : List ℕ) → begins (codes "]") rest ≡ true → 0 < length rest
closed [] is = absurd (cc)
closed (b ∷ rest) is = omega arith

behind_fits : {at : ℕ} {bs : List ℕ} {ts : List Token} {n : ℕ} → Behind at bs ts n → weights ts + 2 * length (drop n bs) ≤ 2 * length bs
behind_fits (x.key {bs} {found} opens is closes) =
    let some = closed (drop found.1 (drop 1 bs)) closes in
    omega (arith, key_fits (drop 1 bs) is, length-drop found.1 (drop 1 bs), length-drop 1 bs, length-drop (2 + found.1) bs)
behind_fits (x.property {bs} is) = omega (arith, length-drop (2 + length (front is_name_byte (drop 2 bs))) bs)
behind_fits (x.alone {bs} one two three) = omega arith

in_interpolation : {at : ℕ} {bs : List ℕ} {r : Answer} → InInterpolation at bs r → Light bs r
in_interpolation {at} (x.braces {bs} is letter) = no_weight bs at 1 (k.Mark m.OpenInterpolation) (x.enters Mode.Piece) refl
in_interpolation (x.bad_braces is letter) = none
in_interpolation (x.named is) = none
in_interpolation (x.simple {bs} {name} {n = n} is same more) =
    light (omega (arith, behind_fits more, length-drop n (drop (suc (length name)) bs), length-drop (suc (length name)) bs, length-drop (suc (length name) + n) bs))
in_interpolation (x.bad_simple is same never) = none

-- ---- in any mode

first_within : {p : List ℕ → Bool} {bs : List ℕ} {n : ℕ} → First p bs n → n ≤ length bs
first_within (b.here is) = omega arith
first_within (b.later other more) = omega (arith, first_within more)

-- inline text is not empty
some_text : {bs : List ℕ} {n : ℕ} → ends_inline bs ≡ false → First ends_inline bs n → 0 < n
some_text other (b.here is) = absurd (cc)
some_text other (b.later never more) = omega arith

pub comes_light : {at : ℕ} {mode : Mode} {bs : List ℕ} {r : Answer} → Comes at mode bs r → Light bs r
comes_light (x.opening {bs} is) = skipped bs _ Mode.Code
comes_light {at} (x.opening_echo {bs} is) = no_weight bs at 3 (k.Keyword w.Echo) (goes Mode.Code) refl
comes_light {at} (x.text {bs} {n} other found) =
    let some = some_text other found in
    let inside = first_within found in
    some_weight bs at n (k.InlineText (take n bs)) (goes Mode.Inline) (omega (arith, length-take n bs)) inside
comes_light (x.code is) = in_code is
comes_light (x.member is) = in_code is
comes_light (x.interpolation is) = in_interpolation is
comes_light {at} (x.later_piece {bs} {text} {rest} inside) =
    let fits = piece_fits inside in of_piece k.TextTail k.TextMiddle at text bs rest (omega arith) (omega arith) refl
comes_light (x.Comes.bad_escape inside) = none
comes_light (x.unclosed never) = none
