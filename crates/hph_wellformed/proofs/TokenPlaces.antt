-- At one offset begins at most one token that a piece of code or a static variable may begin with.
use Rattle.std.specs.Prelude.{◌≡◌, ℕ, suc, ◌+◌, ◌-◌, ◌<◌, ◌≤◌, Bool, true, false, ◌==◌, List, [], ◌∷◌, ◌++◌, length, drop, Result, Ok, Err, if◌then◌else◌, codes}
use Rattle.std.proofs.Common.{arith, refl, ◌⊎◌, inl, inr}
use Rattle.std.proofs.lemmas.Bool.Decides.{nat_tests}
use Rattle.hph_ast.specs.declared.token.Token.{Token}
use Rattle.hph_ast.specs.declared.token.Kind.{Kind}
use Rattle.hph_ast.specs.declared.token.Kind.TheVariants as k
use Rattle.hph_ast.specs.declared.token.Mark.TheVariants as m
use Rattle.hph_ast.specs.declared.keyword.Keyword.{Keyword}
use Rattle.hph_ast.specs.declared.refusal.Construct.{Construct}
use Rattle.hph_ast.specs.declared.lexical.Mode.{Mode}
use Rattle.hph_ast.specs.Bytes.{begins, is_name_byte, front}
use Rattle.hph_ast.specs.Marks.{cast_length}
use Rattle.hph_ast.specs.Lexical.{Fault, Turn, Next, Answer, Comes, InCode, InInterpolation, Behind, token, gives, skips, from_table, piece, turn_of}
use Rattle.hph_ast.specs.Lexical as x
use Rattle.hph_ast.specs.Tokens.{Reading, State, Lexes, SpellsTokens, tokens_before}
use Rattle.hph_ast.specs.Tokens as t
use Rattle.hph_wellformed.proofs.CodePlaces as place
use Rattle.hph_wellformed.proofs.SourceTokens.{mark_is, cast_takes, front_some, name_begins, last_true}

module _ (offset : ℕ) where
  abbrev here : ℕ → ℕ
  here start = place.here offset start

  abbrev starts : List Token → ℕ
  starts ts = place.starts offset ts

  abbrev bit : Bool → ℕ
  bit b = if b then 1 else 0

  here_is : (start : ℕ) → ((here start ≡ 1) × (start ≡ offset)) ⊎ ((here start ≡ 0) × ((start < offset) ⊎ (offset < start)))
  here_is start = by_test (start == offset) refl
    where
      apart : (start == offset) ≡ false → (start < offset) ⊎ (offset < start)
      apart is = grind (arith, nat_tests)

      by_test : (b : Bool) → (start == offset) ≡ b → ((bit b ≡ 1) × (start ≡ offset)) ⊎ ((bit b ≡ 0) × ((start < offset) ⊎ (offset < start)))
      by_test true is = inl (refl, grind (arith, nat_tests))
      by_test false is = inr (refl, apart is)

  keyword_within : (w : Keyword) (start : ℕ) → place.starts_with offset (k.Keyword w) start ≤ here start
  keyword_within w start = grind arith

  within : (kind : Kind) (start : ℕ) → place.starts_with offset kind start ≤ here start
  within (k.Keyword w) start = keyword_within w start
  within (k.Int v) start = omega arith
  within (k.InlineText bytes) start = omega arith
  within (k.Text bytes) start = omega arith
  within (k.TextHead bytes) start = omega arith
  within (k.TextMiddle bytes) start = omega arith
  within (k.TextTail bytes) start = omega arith
  within (k.Variable name) start = omega arith
  within (k.Name name) start = omega arith
  within (k.Operator op) start = omega arith
  within (k.Assign op) start = omega arith
  within (k.Cast type) start = omega arith
  within (k.Mark m) start = omega arith

  -- of tokens from one offset up to another, at most one begins here, and none if here is elsewhere
  record AtMostOne (ts : List Token) (from to : ℕ) : Type 0 where
    one : starts ts ≤ 1
    before : offset < from → starts ts ≡ 0
    after : to ≤ offset → starts ts ≡ 0

  -- ---- what comes at one place

  data Sited (at : ℕ) : Answer → Type 0 where
    failed : {why : Fault} → Sited at (Err why)
    sited : {next : Next} → AtMostOne next.tokens at (at + next.len) → Sited at (Ok next)

  nothing : (at n : ℕ) (next : Mode) → Sited at (skips n next)
  nothing at n next = sited (record { one = omega arith; before = λ h. refl; after = λ h. refl })

  some_token : (at n : ℕ) (kind : Kind) (turn : Turn) → 1 ≤ n → Sited at (gives at n kind turn)
  some_token at n kind turn takes = by_place (here_is at)
    where
      by_place : ((here at ≡ 1) × (at ≡ offset)) ⊎ ((here at ≡ 0) × ((at < offset) ⊎ (offset < at))) → Sited at (gives at n kind turn)
      by_place (inl it) = sited (record {
        one = omega (arith, within kind at, it.0);
        before = λ h. absurd (omega (arith, it.1, h));
        after = λ h. absurd (omega (arith, it.1, h, takes));
      })
      by_place (inr it) = sited (record {
        one = omega (arith, within kind at, it.0);
        before = λ h. omega (arith, within kind at, it.0);
        after = λ h. omega (arith, within kind at, it.0);
      })

  no_start : (at n : ℕ) (kind : Kind) (turn : Turn) → place.starts_with offset kind at ≡ 0 → Sited at (gives at n kind turn)
  no_start at n kind turn none = sited (record { one = omega (arith, none); before = λ h. omega (arith, none); after = λ h. omega (arith, none) })

  of_table : (at n : ℕ) (what : Result Kind Construct) → 1 ≤ n → Sited at (from_table at n what)
  of_table at n (Ok kind) takes = some_token at n kind (turn_of kind) takes
  of_table at n (Err which) takes = failed

  of_piece : (last other : List ℕ → Kind) (at : ℕ) (text bs rest : List ℕ) → place.starts_with offset (last text) at ≡ 0 → place.starts_with offset (other text) at ≡ 0 →
      Sited at (piece last other at text bs rest)
  of_piece last other at text bs rest p q = by_test (begins (34 ∷ []) rest)
    where
      by_test : (b : Bool) → Sited at (if b then gives at (suc (length bs - length rest)) (last text) (x.goes Mode.Code)
          else gives at (length bs - length rest) (other text) (x.goes Mode.Interpolation))
      by_test true = no_start at (suc (length bs - length rest)) (last text) (x.goes Mode.Code) p
      by_test false = no_start at (length bs - length rest) (other text) (x.goes Mode.Interpolation) q

  in_code : {mode : Mode} {member : Bool} {at : ℕ} {bs : List ℕ} {r : Answer} → 0 < length bs → InCode mode member at bs r → Sited at r
  in_code {at = at} some (x.whitespace is) = nothing at _ _
  in_code {at = at} some (x.close_tag is) = no_start at _ (k.Mark m.Semicolon) _ refl
  in_code {at = at} some (x.line_comment is found) = nothing at _ _
  in_code {at = at} some (x.block_comment is found) = nothing at _ _
  in_code some (x.unclosed_comment is never) = failed
  in_code {at = at} some (x.name {bs} is) = some_token at _ _ _ (front_some bs (name_begins bs is))
  in_code {at = at} some (x.variable is) = some_token at _ _ _ (omega arith)
  in_code {at = at} some (x.number {v = v} is float value fits) = no_start at _ (k.Int v) _ refl
  in_code some (x.long_number is float value fits) = failed
  in_code some (x.float is float) = failed
  in_code some (x.bad_number is float never) = failed
  in_code {at = at} some (x.single {text = text} is inside) = no_start at _ (k.Text text) _ refl
  in_code some (x.unclosed_single is never) = failed
  in_code {at = at} some (x.double {bs} {text} {rest} is inside) = of_piece k.Text k.TextHead at text bs rest refl refl
  in_code some (x.InCode.bad_escape is inside) = failed
  in_code some (x.unclosed_double is never) = failed
  in_code {at = at} some (x.cast {bs} {what} is found) = of_table at (cast_length bs) what (cast_takes bs some)
  in_code {at = at} some (x.mark {bs} {what} {n} is found) = of_table at n what (omega (arith, mark_is bs found))
  in_code some (x.bad_byte is never) = failed

  -- a token that stands further on
  further : (kind : Kind) (start from to : ℕ) → from ≤ start → start < to → (ts : List Token) → starts ts ≡ place.starts_with offset kind start → AtMostOne ts from to
  further kind start from to low high ts same = by_place (here_is start)
    where
      by_place : ((here start ≡ 1) × (start ≡ offset)) ⊎ ((here start ≡ 0) × ((start < offset) ⊎ (offset < start))) → AtMostOne ts from to
      by_place (inl it) = record {
        one = omega (arith, within kind start, it.0, same);
        before = λ h. absurd (omega (arith, it.1, h, low));
        after = λ h. absurd (omega (arith, it.1, h, high));
      }
      by_place (inr it) = record {
        one = omega (arith, within kind start, it.0, same);
        before = λ h. omega (arith, within kind start, it.0, same);
        after = λ h. omega (arith, within kind start, it.0, same);
      }

  behind_sited : {at : ℕ} {bs : List ℕ} {ts : List Token} {n : ℕ} → Behind at bs ts n → AtMostOne ts at (at + n)
  behind_sited {at} (x.key {found = found} opens is closes) =
      further found.0 (suc at) at (at + (2 + found.1)) (omega arith) (omega arith) (x.key_tokens at found) (omega arith)
  behind_sited {at} (x.property {bs} is) =
      let one = front_some (drop 2 bs) (last_true (begins (codes "->") bs) _ is) in
      further (k.Name (front is_name_byte (drop 2 bs))) (2 + at) at (at + (2 + length (front is_name_byte (drop 2 bs)))) (omega arith) (omega arith)
      (x.property_tokens at (front is_name_byte (drop 2 bs))) (omega arith)
  behind_sited (x.alone a b c) = record { one = omega arith; before = λ h. refl; after = λ h. refl }

  -- a token, and those behind it
  before_others : (kind : Kind) (at n : ℕ) (len : ℕ) → 1 ≤ n → {ts : List Token} → AtMostOne ts (at + n) ((at + n) + len) →
      AtMostOne (token at n kind ∷ ts) at (at + (n + len))
  before_others kind at n len takes {ts} others = by_place (here_is at)
    where
      by_place : ((here at ≡ 1) × (at ≡ offset)) ⊎ ((here at ≡ 0) × ((at < offset) ⊎ (offset < at))) → AtMostOne (token at n kind ∷ ts) at (at + (n + len))
      by_place (inl it) = record {
        one = omega (arith, within kind at, it.0, others.before (omega (arith, it.1, takes)));
        before = λ h. absurd (omega (arith, it.1, h));
        after = λ h. absurd (omega (arith, it.1, h, takes));
      }
      by_place (inr it) = record {
        one = omega (arith, within kind at, it.0, others.one);
        before = λ h. omega (arith, within kind at, it.0, others.before (omega (arith, h)));
        after = λ h. omega (arith, within kind at, it.0, others.after (omega (arith, h)));
      }

  in_interpolation : {at : ℕ} {bs : List ℕ} {r : Answer} → InInterpolation at bs r → Sited at r
  in_interpolation {at} (x.braces is letter) = no_start at 1 (k.Mark m.OpenInterpolation) _ refl
  in_interpolation (x.bad_braces is letter) = failed
  in_interpolation (x.named is) = failed
  in_interpolation {at} (x.simple {name = name} {n = n} is same more) =
      sited (before_others (k.Variable name) at (suc (length name)) n (omega arith) (behind_sited more))
  in_interpolation (x.bad_simple is same never) = failed

  comes_sited : {at : ℕ} {mode : Mode} {bs : List ℕ} {r : Answer} → 0 < length bs → Comes at mode bs r → Sited at r
  comes_sited {at} some (x.opening is) = nothing at _ _
  comes_sited {at} some (x.opening_echo is) = some_token at 3 _ _ (omega arith)
  comes_sited {at} some (x.text {bs = bs} {n = n} other found) = no_start at n _ _ refl
  comes_sited some (x.code is) = in_code some is
  comes_sited some (x.member is) = in_code some is
  comes_sited some (x.interpolation is) = in_interpolation is
  comes_sited {at} some (x.later_piece {bs} {text} {rest} inside) = of_piece k.TextTail k.TextMiddle at text bs rest refl refl
  comes_sited some (x.Comes.bad_escape inside) = failed
  comes_sited some (x.unclosed never) = failed

  -- ---- all tokens

  data Once (at : ℕ) : Reading → Type 0 where
    fault : {why : Fault × ℕ} → Once at (Err why)
    read : {ts : List Token} → starts ts ≤ 1 → (offset < at → starts ts ≡ 0) → Once at (Ok ts)

  joined : (at : ℕ) (next : Next) {r : Reading} → Sited at (Ok next) → Once (at + next.len) r → Once at (tokens_before next.tokens r)
  joined at next first fault = fault
  joined at next (sited first) (read {ts = ts} few none) = read (by_place (offset_or (at + next.len)))
      (λ h. omega (arith, place.starts-append offset next.tokens ts, first.before h, none (omega (arith, h))))
    where
      offset_or : (n : ℕ) → (offset < n) ⊎ (n ≤ offset)
      offset_or n = grind arith

      by_place : (offset < at + next.len) ⊎ (at + next.len ≤ offset) → starts (next.tokens ++ ts) ≤ 1
      by_place (inl before) = omega (arith, place.starts-append offset next.tokens ts, first.one, none before)
      by_place (inr after) = omega (arith, place.starts-append offset next.tokens ts, first.after after, few)

  lexes : {state : State} {at : ℕ} {bs : List ℕ} {r : Reading} → Lexes state at bs r → Once at r
  lexes (t.end is) = read (omega arith) (λ h. refl)
  lexes (t.open_end is) = fault
  lexes {at = at} (t.place {next = next} is more) = joined at next (comes_sited (omega arith) is) (lexes more)
  lexes (t.fault is) = fault

  once_of : {at : ℕ} {ts : List Token} → Once at (Ok ts) → starts ts ≤ 1
  once_of (read few none) = few

  pub starts_once : (bytes : List ℕ) (tokens : List Token) → SpellsTokens bytes tokens → place.starts offset tokens ≤ 1
  starts_once bytes tokens is = once_of (lexes is)
