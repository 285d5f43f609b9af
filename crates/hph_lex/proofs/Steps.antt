-- Each place stays within the bytes and moves on, and leads to where its mode can be read.
use Rattle.std.proofs.Common.{◌≡◌, ℕ, zero, suc, ◌+◌, ◌-◌, ◌<◌, ◌≤◌, Bool, true, false, ◌&&◌, ◌||◌, ◌==◌, List, [], ◌∷◌, ◌⊎◌, inl, inr}
use Rattle.std.proofs.Common.{length, drop, Option, Some, Result, Ok, Err, refl, ap, sym, subst, ◌∙◌, arith, codes, length-drop}
use Rattle.std.specs.Prelude.{if◌then◌else◌, nat_le}
use Rattle.std.proofs.lemmas.Bool.Decides.{nat_tests}
use Rattle.hph_ast.specs.declared.token.Token.{Token}
use Rattle.hph_ast.specs.declared.token.Kind.{Kind}
use Rattle.hph_ast.specs.declared.token.Kind.TheVariants as k
use Rattle.hph_ast.specs.declared.token.Mark.{Mark}
use Rattle.hph_ast.specs.declared.token.Mark.TheVariants as m
use Rattle.hph_ast.specs.declared.refusal.Construct.{Construct}
use Rattle.hph_ast.specs.declared.lexical.Mode.{Mode}
use Rattle.hph_ast.specs.declared.lexical.Mode.TheVariants.{Inline, Code, Member, Interpolation}
use Rattle.hph_ast.specs.declared.lexical.Mode.TheVariants as modes
use Rattle.hph_ast.specs.declared.lexical.Start.TheVariants as s
use Rattle.hph_ast.specs.Bytes.{is_name_byte, is_letter, is_digit, is_whitespace, is_blank, begins, begins_word, begins_with, front}
use Rattle.hph_ast.specs.Bytes.{behind, newline_length}
use Rattle.hph_ast.specs.Marks.{marks, mark_in, cast_length, behind_cast}
use Rattle.hph_ast.specs.Numbers as number
use Rattle.hph_ast.specs.Numbers.{Digits, IsNumber, numeral, numeral_length, is_run_byte, is_hex_run_byte}
use Rattle.hph_ast.specs.Strings as string
use Rattle.hph_ast.specs.Strings.{Single, Piece, begins_interpolation}
use Rattle.hph_ast.specs.Lexical as r
use Rattle.hph_ast.specs.Lexical.{Turn, goes, enters, leaves, Next, Answer, token, skips, gives, begins_code, ends_inline}
use Rattle.hph_ast.specs.Lexical.{opening_length, ends_line, ends_block, start_of, turn_of, from_table, piece, InCode, key_tokens}
use Rattle.hph_ast.specs.Lexical.{property_tokens, Behind, InInterpolation, Comes}
use Rattle.hph_lex.specs.Answers.{EndBefore}
use Rattle.hph_lex.proofs.ByteLaws.{begins_within, begins_word_within, front_some, length-front, length-behind}
use Rattle.hph_lex.proofs.EndingLaws.{first_holds, first_within}
use Rattle.hph_lex.proofs.Starts.{starts}
use Rattle.hph_lex.proofs.OneReading.{some_inj}
use Rattle.hph_lex.proofs.Places.{drop_all, two_bytes, first_byte, dollar_byte, block_within}

-- where a turn leads, its mode can be read: an interpolation only where one begins
abbrev pub Ready : Turn → List ℕ → Type 0
Ready (goes Interpolation) rest = begins_interpolation rest ≡ true
Ready (goes _) rest = Unit {0}
Ready (enters Interpolation) rest = ⊥
Ready (enters _) rest = Unit {0}
Ready leaves rest = Unit {0}

pub record Fine (mode : Mode) (at : ℕ) (bs : List ℕ) (next : Next) : Type 0 where
  pub within : next.len ≤ length bs
  pub moves : (1 ≤ next.len) ⊎ ((mode ≡ modes.Piece) × (next.turn ≡ goes Interpolation))
  pub ready : Ready next.turn (drop next.len bs)
  pub ends : EndBefore (suc (at + next.len)) next.tokens

abbrev pub IsFine : Mode → ℕ → List ℕ → Answer → Type 0
IsFine mode at bs (Ok next) = Fine mode at bs next
IsFine mode at bs (Err why) = Unit {0}

both : (s t : Bool) → (s && t) ≡ true → (s ≡ true) × (t ≡ true)
both true true e = (refl, refl)
both true false e = absurd (cc)
both false t e = absurd (cc)

fine_skip : (mode to : Mode) (at : ℕ) (bs : List ℕ) (n : ℕ) → 1 ≤ n → n ≤ length bs → Ready (goes to) (drop n bs) →
    IsFine mode at bs (skips n to)
fine_skip mode to at bs n some within ready = record { within = within; moves = inl some; ready = ready; ends = tt }

fine_token : (mode : Mode) (at : ℕ) (bs : List ℕ) (n : ℕ) (kind : Kind) (turn : Turn) → 1 ≤ n → n ≤ length bs →
    Ready turn (drop n bs) → IsFine mode at bs (gives at n kind turn)
fine_token mode at bs n kind turn some within ready = record {
  within = within;
  moves = inl some;
  ready = ready;
  ends = (omega arith, tt);
}

some_byte : (p : ℕ → Bool) (bs : List ℕ) → begins_with p bs ≡ true → 1 ≤ length bs
some_byte p [] is = absurd (cc)
some_byte p (b ∷ bs) is = omega arith

-- ---- lengths

name_some : (bs : List ℕ) → begins_with is_letter bs ≡ true → 1 ≤ length (front is_name_byte bs)
name_some [] is = absurd (cc)
name_some (b ∷ bs) is = front_some is_name_byte (b ∷ bs) (ap (λ t. t || is_digit b) is)

-- `<?php` is five bytes, and what belongs to it behind them is there
opening_within : (bs : List ℕ) → begins_code bs ≡ true → opening_length bs ≤ length bs
opening_within [] is = absurd (cc)
opening_within (b ∷ bs) is =
    let all : List ℕ = b ∷ bs in
    let five = begins_word_within (codes "<?php") all (both (begins_word (codes "<?php") all) (begins_with is_whitespace
    (drop 5 all) || (length all == 5)) is).0 in
    let rest = behind_opening (drop 5 all) in
    omega (arith, length-drop 5 all, five, rest)
  where
    behind_opening : (rest : List ℕ) →
        (if begins (13 ∷ 10 ∷ []) rest then 2 else (if begins_with is_whitespace rest then 1 else 0)) ≤ length rest
    behind_opening rest =
        elim (begins (13 ∷ 10 ∷ []) rest) as (λ t. begins (13 ∷ 10 ∷ []) rest ≡ t →
        (if t then 2 else (if begins_with is_whitespace rest then 1 else 0)) ≤ length rest) [
          | true ↦ λ both_bytes. let two = begins_within (13 ∷ 10 ∷ []) rest both_bytes in omega arith
          | false ↦ λ _. elim (begins_with is_whitespace rest) as (λ t. begins_with is_whitespace rest ≡ t →
              (if t then 1 else 0) ≤ length rest) [
                | true ↦ λ one. some_byte is_whitespace rest one
                | false ↦ λ _. omega arith
              ] refl
        ] refl

newline_within : (bs : List ℕ) → newline_length bs ≤ length bs
newline_within bs =
    elim (begins (13 ∷ 10 ∷ []) bs) as (λ t. begins (13 ∷ 10 ∷ []) bs ≡ t →
    (if t then 2 else (if begins_with (λ b. b == 10 || b == 13) bs then 1 else 0)) ≤ length bs) [
      | true ↦ λ both_bytes. let two = begins_within (13 ∷ 10 ∷ []) bs both_bytes in omega arith
      | false ↦ λ _. elim (begins_with (λ b. b == 10 || b == 13) bs) as (λ t. begins_with (λ b. b == 10 || b == 13) bs ≡ t →
          (if t then 1 else 0) ≤ length bs) [
            | true ↦ λ one. some_byte (λ b. b == 10 || b == 13) bs one
            | false ↦ λ _. omega arith
          ] refl
    ] refl

-- the start of a comment ends none
not_line_end : (b : ℕ) (t : Bool) → (b ≡ 35) ⊎ (b ≡ 47) → (b == 10 || (b == 13 || ((63 == b) && t))) ≡ false
not_line_end b t (inl is) = subst (λ b. (b == 10 || (b == 13 || ((63 == b) && t))) ≡ false) (sym is) refl
not_line_end b t (inr is) = subst (λ b. (b == 10 || (b == 13 || ((63 == b) && t))) ≡ false) (sym is) refl

comment_byte : (b : ℕ) (s t u : Bool) → (((35 == b) && s) || ((47 == b) && t)) ≡ true → (b ≡ 35) ⊎ (b ≡ 47)
comment_byte b s t u is =
    elim (35 == b) as (λ x. (35 == b) ≡ x → ((x && s) || ((47 == b) && t)) ≡ true → (b ≡ 35) ⊎ (b ≡ 47)) [
      | true ↦ λ sharp _. let same : b ≡ 35 = grind (arith, nat_tests, sharp) in inl same
      | false ↦ λ _ e. let slash = (both (47 == b) t e).0 in let same : b ≡ 47 = grind (arith, nat_tests, slash) in inr same
    ] refl is

line_goes_on : (bs : List ℕ) → (begins (codes "#") bs || begins (codes "//") bs) ≡ true → ends_line bs ≡ false
line_goes_on [] is = absurd (cc)
line_goes_on (b ∷ bs) is = not_line_end b (begins (codes ">") bs) (comment_byte b true (begins (codes "/") bs) true is)

digits_some : {base n v : ℕ} {ds : List ℕ} → Digits base n ds v → 1 ≤ length ds
digits_some (number.digit below) = omega arith
digits_some (number.digits below more) = omega arith
digits_some (number.separated below more) = omega arith

-- a prefix and a front of what stands behind it are within the bytes
run_within : (p : ℕ → Bool) (bs : List ℕ) (n : ℕ) → n ≤ length bs → n + length (front p (drop n bs)) ≤ length bs
run_within p bs n within = let run = length-front p (drop n bs) in omega (arith, length-drop n bs, run)

numeral_cases : (P : number.Numeral → Type 0) (a b c d : Bool) (v w x y z : number.Numeral) → (a ≡ true → P v) → (b ≡ true → P w) →
    (c ≡ true → P x) → P y → P z →
    P (if a then v else (if b then w else (if c then x else (if d then y else z))))
numeral_cases P true b c d v w x y z f g h i j = f refl
numeral_cases P false true c d v w x y z f g h i j = g refl
numeral_cases P false false true d v w x y z f g h i j = h refl
numeral_cases P false false false true v w x y z f g h i j = i
numeral_cases P false false false false v w x y z f g h i j = j

numeral_within : (bs : List ℕ) → numeral_length bs ≤ length bs
numeral_within bs =
    let P : number.Numeral → Type 0 = λ n. n.prefix + length n.run ≤ length bs in
    let all : (p : ℕ → Bool) → 0 + length (front p bs) ≤ length bs = λ p. let run = length-front p bs in omega (arith, run) in
    numeral_cases P (begins_word (codes "0x") bs) (begins_word (codes "0b") bs) (begins_word (codes "0o") bs) (begins
    (codes "0") bs && begins_with is_run_byte (drop 1 bs))
    (record { base = 16; prefix = 2; run = front is_hex_run_byte (drop 2 bs) })
    (record { base = 2; prefix = 2; run = front is_run_byte (drop 2 bs) })
    (record { base = 8; prefix = 2; run = front is_run_byte (drop 2 bs) })
    (record { base = 8; prefix = 0; run = front is_run_byte bs })
    (record { base = 10; prefix = 0; run = front is_run_byte bs })
    (λ is. run_within is_hex_run_byte bs 2 (begins_word_within (codes "0x") bs is))
    (λ is. run_within is_run_byte bs 2 (begins_word_within (codes "0b") bs is))
    (λ is. run_within is_run_byte bs 2 (begins_word_within (codes "0o") bs is))
    (all is_run_byte) (all is_run_byte)

-- what is left behind a string or a piece is shorter
single_shorter : {bs text rest : List ℕ} → Single bs text rest → suc (length rest) ≤ length bs
single_shorter (string.closes is) = omega arith
single_shorter (string.escape is more) = let less = single_shorter more in omega arith
single_shorter (string.plain no_quote no_escape more) = let less = single_shorter more in omega arith

cast_shorter : (bs : List ℕ) → length (drop 1 (behind_cast bs)) ≤ length bs
cast_shorter bs =
    let one = length-behind is_blank bs in
    let two = length-behind is_name_byte (behind is_blank bs) in
    let three = length-behind is_blank (behind is_name_byte (behind is_blank bs)) in
    omega (arith, length-drop 1 (behind_cast bs), one, two, three)

-- ---- marks

abbrev some_bytes : List (List ℕ × Result Kind Construct) → Bool
some_bytes [] = true
some_bytes (row ∷ rows) = nat_le 1 (length row.0) && some_bytes rows

mark_within : (rows : List (List ℕ × Result Kind Construct)) (bs : List ℕ) (found : Result Kind Construct × ℕ) → some_bytes rows ≡ true →
    mark_in rows bs ≡ Some found → (1 ≤ found.1) × (found.1 ≤ length bs)
mark_within [] bs found some is = absurd (cc)
mark_within (row ∷ rows) bs found some is =
    elim (begins row.0 bs) as (λ t. begins row.0 bs ≡ t → (if t then Some (row.1, length row.0) else mark_in rows bs) ≡ Some found →
    (1 ≤ found.1) × (found.1 ≤ length bs)) [
      | true ↦ λ fits e.
          let same : (length row.0) ≡ found.1 = ap (λ (f : Result Kind Construct × ℕ). f.1) (some_inj e) in
          let within = begins_within row.0 bs fits in
          let one : 1 ≤ length row.0 = grind (arith, nat_tests, (both (nat_le 1 (length row.0)) (some_bytes rows) some).0) in
          (omega arith, omega arith)
      | false ↦ λ _ e. mark_within rows bs found (both (nat_le 1 (length row.0)) (some_bytes rows) some).1 e
    ] refl is

mark_ready : (mark : Mark) (rest : List ℕ) → Ready (turn_of (k.Mark mark)) rest
mark_ready m.OpenBrace rest = tt
mark_ready m.CloseBrace rest = tt
mark_ready m.Arrow rest = tt
mark_ready m.DoubleColon rest = tt
mark_ready _ rest = tt

turn_ready : (kind : Kind) (rest : List ℕ) → Ready (turn_of kind) rest
turn_ready (k.Mark mark) rest = mark_ready mark rest
turn_ready _ rest = tt

table_fine : (mode : Mode) (at : ℕ) (bs : List ℕ) (n : ℕ) (what : Result Kind Construct) → 1 ≤ n → n ≤ length bs →
    IsFine mode at bs (from_table at n what)
table_fine mode at bs n (Ok kind) some within = fine_token mode at bs n kind (turn_of kind) some within (turn_ready kind (drop n bs))
table_fine mode at bs n (Err which) some within = tt

-- ---- pieces of strings

-- a piece ends within the bytes, before a quote or an interpolation
abbrev pub PiecesEnd : Type 0
PiecesEnd = (bs rest : List ℕ) (text : Option (List ℕ)) → Piece bs text rest →
    (n : ℕ) × ((n < length bs) × (rest ≡ drop n bs) × ((begins (34 ∷ []) rest || begins_interpolation rest) ≡ true))

-- a piece behind so many bytes of all
piece_fine : (last other : List ℕ → Kind) (mode : Mode) (at : ℕ) (bs text rest : List ℕ) (before n : ℕ) → before + n < length bs →
    rest ≡ drop (before + n) bs →
    (begins (34 ∷ []) rest || begins_interpolation rest) ≡ true → (1 ≤ before) ⊎ (mode ≡ modes.Piece) →
    IsFine mode at bs (piece last other at text bs rest)
piece_fine last other mode at bs text rest before n within rest_is ends moves =
    let taken : length bs - length rest ≡ before + n = omega (arith, ap length rest_is, length-drop (before + n) bs, within) in
    elim (begins (34 ∷ []) rest) as (λ t. begins (34 ∷ []) rest ≡ t → (t || begins_interpolation rest) ≡ true →
    IsFine mode at bs (if t then gives at (suc (length bs - length rest)) (last text) (goes Code) else gives at
    (length bs - length rest) (other text) (goes Interpolation))) [
      | true ↦ λ _ _. fine_token mode at bs (suc (length bs - length rest)) (last text) (goes Code) (omega arith) (omega
          (arith, taken, within)) tt
      | false ↦ λ _ opens. record {
        within = omega (arith, taken, within);
        moves = moves_on moves taken;
        ready = ap begins_interpolation (ap (λ n. drop n bs) taken ∙ sym rest_is) ∙ opens;
        ends = (omega arith, tt);
      }
    ] refl ends
  where
    moves_on : (1 ≤ before) ⊎ (mode ≡ modes.Piece) → length bs - length rest ≡ before + n →
        (1 ≤ length bs - length rest) ⊎ ((mode ≡ modes.Piece) × (goes Interpolation ≡ goes Interpolation))
    moves_on (inl some) taken = inl (omega (arith, some, taken))
    moves_on (inr is) taken = inr (is, refl)

module _ (pieces_end : PiecesEnd) where
  first_piece_fine : (mode : Mode) (at : ℕ) (bs text rest : List ℕ) → 1 ≤ length bs → Piece (drop 1 bs) (Some text) rest →
      IsFine mode at bs (piece k.Text k.TextHead at text bs rest)
  first_piece_fine mode at bs text rest one d =
      let end = pieces_end (drop 1 bs) rest (Some text) d in
      let rest_is = end.1.1 ∙ drop_all bs end.0 in
      piece_fine k.Text k.TextHead mode at bs text rest 1 end.0 (omega (arith, end.1.0, length-drop 1 bs, one)) rest_is end.1.2 (inl
      (omega arith))

  later_piece_fine : (at : ℕ) (bs text rest : List ℕ) → Piece bs (Some text) rest →
      IsFine modes.Piece at bs (piece k.TextTail k.TextMiddle at text bs rest)
  later_piece_fine at bs text rest d =
      let end = pieces_end bs rest (Some text) d in
      let none : 0 + end.0 ≡ end.0 = omega arith in
      piece_fine k.TextTail k.TextMiddle modes.Piece at bs text rest 0 end.0 (omega (arith, end.1.0)) (end.1.1
      ∙ ap (λ n. drop n bs) (sym none)) end.1.2 (inr refl)

  -- ---- in code

  code_fine : (mode : Mode) (member : Bool) (at : ℕ) (bs : List ℕ) (x : Answer) → ((rest : List ℕ) → Ready (goes mode) rest) →
      InCode mode member at bs x → IsFine mode at bs x
  code_fine mode member at bs x calm (r.whitespace is) = fine_skip mode mode at bs 1 (omega arith) (some_byte is_whitespace bs
      (starts s.Whitespace bs is)) (calm (drop 1 bs))
  code_fine mode member at bs x calm (r.close_tag is) =
      let two = two_bytes (codes "?>") bs (starts s.CloseTag bs is) refl in
      let newline = newline_within (drop 2 bs) in
      fine_token mode at bs (2 + newline_length (drop 2 bs)) (k.Mark m.Semicolon) (goes Inline) (omega arith) (omega
      (arith, length-drop 2 bs, two, newline)) tt
  code_fine mode member at bs x calm (r.line_comment {n = zero} is d) =
      let holds = first_holds ends_line d in let fails = line_goes_on bs (starts s.LineComment bs is) in absurd (cc)
  code_fine mode member at bs x calm (r.line_comment {n = suc n} is d) = fine_skip mode mode at bs (suc n) (omega arith)
      (first_within ends_line d) (calm (drop (suc n) bs))
  code_fine mode member at bs x calm (r.block_comment {n = n} is d) =
      let two = two_bytes (codes "/*") bs (starts s.BlockComment bs is) refl in
      let inside = block_within (drop 2 bs) n d in
      fine_skip mode mode at bs (4 + n) (omega arith) (omega (arith, length-drop 2 bs, two, inside)) (calm (drop (4 + n) bs))
  code_fine mode member at bs x calm (r.unclosed_comment is never) = tt
  code_fine mode member at bs x calm (r.name is) =
      fine_token mode at bs (length (front is_name_byte bs)) _ (goes Code) (name_some bs (starts s.Name bs is))
      (length-front is_name_byte bs) tt
  code_fine mode member at bs x calm (r.variable is) =
      let one = dollar_byte bs (starts s.Variable bs is) in
      let name = length-front is_name_byte (drop 1 bs) in
      fine_token mode at bs (suc (length (front is_name_byte (drop 1 bs)))) _ (goes Code) (omega arith) (omega
      (arith, length-drop 1 bs, one, name)) tt
  code_fine mode member at bs x calm (r.number {v = v} is no_float d below) =
      let some = digits_some d in
      fine_token mode at bs (numeral_length bs) (k.Int v) (goes Code) (omega (arith, some)) (numeral_within bs) tt
  code_fine mode member at bs x calm (r.long_number is no_float d above) = tt
  code_fine mode member at bs x calm (r.float is float) = tt
  code_fine mode member at bs x calm (r.bad_number is no_float none) = tt
  code_fine mode member at bs x calm (r.single {text = text} {rest = rest} is d) =
      let less = single_shorter d in
      fine_token mode at bs (length bs - length rest) (k.Text text) (goes Code) (omega (arith, length-drop 1 bs, less)) (omega arith) tt
  code_fine mode member at bs x calm (r.unclosed_single is none) = tt
  code_fine mode member at bs x calm (r.double {text = text} {rest = rest} is d) =
      first_piece_fine mode at bs text rest (first_byte (34 ∷ []) bs (starts s.DoubleQuote bs is) refl) d
  code_fine mode member at bs x calm (r.bad_escape is d) = tt
  code_fine mode member at bs x calm (r.unclosed_double is none) = tt
  code_fine mode member at [] x calm (r.cast {what = what} is found) = absurd (cc)
  code_fine mode member at (b ∷ bs) x calm (r.cast {what = what} is found) =
      let less = cast_shorter bs in table_fine mode at (b ∷ bs) (cast_length (b ∷ bs)) what (omega (arith, less)) (omega arith)
  code_fine mode member at bs x calm (r.mark {what = what} {n = n} is found) =
      let within = mark_within marks bs (what, n) refl found in table_fine mode at bs n what within.0 within.1
  code_fine mode member at bs x calm (r.bad_byte is none) = tt

  -- ---- in strings

  behind_fine : (at : ℕ) (bs : List ℕ) (ts : List Token) (n : ℕ) → Behind at bs ts n → (n ≤ length bs) × EndBefore (suc (at + n)) ts
  behind_fine at bs ts n (r.key {found = found} opens key closes) =
      let one = begins_within (codes "[") bs opens in
      let last = begins_within (codes "]") (drop found.1 (drop 1 bs)) closes in
      (omega (arith, length-drop 1 bs, length-drop found.1 (drop 1 bs), one, last), (omega arith, (omega arith, (omega arith, tt))))
  behind_fine at bs ts n (r.property is) =
      let two = begins_within (codes "->") bs (both (begins (codes "->") bs) (begins_with is_letter (drop 2 bs)) is).0 in
      let name = length-front is_name_byte (drop 2 bs) in
      (omega (arith, length-drop 2 bs, two, name), (omega arith, (omega arith, tt)))
  behind_fine at bs ts n (r.alone no_key no_property no_null_safe) = (omega arith, tt)

  interpolation_fine : (at : ℕ) (bs : List ℕ) (x : Answer) → InInterpolation at bs x → IsFine Interpolation at bs x
  interpolation_fine at bs x (r.braces is letter) =
      let two = begins_within (codes "{$") bs is in
      fine_token Interpolation at bs 1 (k.Mark m.OpenInterpolation) (enters modes.Piece) (omega arith) (omega (arith, two)) tt
  interpolation_fine at bs x (r.bad_braces is no_letter) = tt
  interpolation_fine at bs x (r.named is) = tt
  interpolation_fine at bs x (r.simple {name = name} {ts = ts} {n = n} is name_is d) =
      let one = dollar_byte bs is in
      let front_within = length-front is_name_byte (drop 1 bs) in
      let behind = behind_fine (at + suc (length name)) (drop (suc (length name)) bs) ts n d in
      let same : at + suc (length name) + n ≡ at + (suc (length name) + n) = omega arith in
      record {
        within = omega (arith, length-drop 1 bs, length-drop (suc (length name)) bs, one, front_within, ap length name_is, behind.0);
        moves = inl (omega arith);
        ready = tt;
        ends = (omega arith, subst (λ n. EndBefore (suc n) ts) same behind.1);
      }
  interpolation_fine at bs x (r.bad_simple is name_is none) = tt

  -- ---- in any mode

  -- what comes at a place is within the bytes, moves on, and leads to where it can be read on
  pub comes_fine : (mode : Mode) (at : ℕ) (bs : List ℕ) (x : Answer) → Comes at mode bs x → IsFine mode at bs x
  comes_fine mode at bs x (r.opening is) = fine_skip Inline Code at bs (opening_length bs) (omega arith) (opening_within bs is) tt
  comes_fine mode at bs x (r.opening_echo is) =
      let three = begins_within (codes "<?=") bs is in fine_token Inline at bs 3 _ (goes Code) (omega arith) (omega (arith, three)) tt
  comes_fine mode at bs x (r.text {n = zero} goes_on d) = let holds = first_holds ends_inline d in absurd (cc)
  comes_fine mode at bs x (r.text {n = suc n} goes_on d) = fine_token Inline at bs (suc n) _ (goes Inline) (omega arith)
      (first_within ends_inline d) tt
  comes_fine mode at bs x (r.code d) = code_fine Code false at bs x (λ rest. tt) d
  comes_fine mode at bs x (r.member d) = code_fine Member true at bs x (λ rest. tt) d
  comes_fine mode at bs x (r.interpolation d) = interpolation_fine at bs x d
  comes_fine mode at bs x (r.later_piece {text = text} {rest = rest} d) = later_piece_fine at bs text rest d
  comes_fine mode at bs x (r.bad_escape d) = tt
  comes_fine mode at bs x (r.unclosed none) = tt
