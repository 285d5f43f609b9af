-- Every file has a reading: something comes at each place, and each place makes what is left shorter or lighter.
use Rattle.std.proofs.Common.{◌≡◌, ℕ, zero, suc, ◌+◌, ◌*◌, ◌^◌, ◌<◌, Bool, true, false, ◌&&◌, List, [], ◌∷◌, ◌⊎◌, inl, inr, length}
use Rattle.std.proofs.Common.{drop, Option, Some, None, Ok, Err, refl, sym, arith, codes, length-drop}
use Rattle.std.proofs.lemmas.Bool.{cases_lt}
use Rattle.hph_ast.specs.declared.token.Token.{Token}
use Rattle.hph_ast.specs.declared.lexical.Mode.{Mode}
use Rattle.hph_ast.specs.declared.lexical.Mode.TheVariants.{Inline, Code, Member, Interpolation}
use Rattle.hph_ast.specs.declared.lexical.Mode.TheVariants as modes
use Rattle.hph_ast.specs.declared.lexical.Start.{Start}
use Rattle.hph_ast.specs.declared.lexical.Start.TheVariants as s
use Rattle.hph_ast.specs.Bytes.{is_letter, is_name_byte, begins, begins_with, front}
use Rattle.hph_ast.specs.Marks.{marks, mark_in, cast_of}
use Rattle.hph_ast.specs.Numbers.{is_float, IsNumber}
use Rattle.hph_ast.specs.Strings as string
use Rattle.hph_ast.specs.Strings.{Single, begins_interpolation}
use Rattle.hph_ast.specs.Lexical as r
use Rattle.hph_ast.specs.Lexical.{goes, Next, Answer, begins_code, begins_echo, ends_inline, ends_line, ends_block, start_of, InCode}
use Rattle.hph_ast.specs.Lexical.{key_of, Behind, InInterpolation, Comes}
use Rattle.hph_ast.specs.Tokens as all
use Rattle.hph_ast.specs.Tokens.{State, turned, string_is_open, Reading, tokens_before, Lexes, beginning}
use Rattle.hph_lex.proofs.EndingLaws.{first_or_never, first_somewhere}
use Rattle.hph_lex.proofs.Places.{cast_is_there, inline_goes_on, no_key, open_element, no_null_safe, begins_simple}
use Rattle.hph_lex.proofs.Steps.{Ready, PiecesEnd, comes_fine}
use Rattle.hph_lex.proofs.ReadSoFar.{ReadyState, weight, turned_ready, lighter}

-- what is known of numbers and strings: each is there or isn't, and a piece has an end
pub record ScanSome : Type 0 where
  pub number : (bs : List ℕ) → ((v : ℕ) × IsNumber bs v) ⊎ ((v : ℕ) → IsNumber bs v → ⊥)
  pub single : (bs : List ℕ) → ((text : List ℕ) × (rest : List ℕ) × Single bs text rest) ⊎ ((text rest : List ℕ) →
      Single bs text rest → ⊥)
  pub piece : (bs : List ℕ) →
      ((text : Option (List ℕ)) × (rest : List ℕ) × string.Piece bs text rest) ⊎ ((text : Option (List ℕ)) (rest : List ℕ) →
      string.Piece bs text rest → ⊥)
  pub ends : PiecesEnd

-- a test is one or the other, and so is an option
true_or_false : (t : Bool) → (t ≡ true) ⊎ (t ≡ false)
true_or_false true = inl refl
true_or_false false = inr refl

some_or_none : {A : Type 0} (o : Option A) → ((a : A) × (o ≡ Some a)) ⊎ (o ≡ None)
some_or_none None = inr refl
some_or_none (Some a) = inl (a, refl)

-- ---- in strings

abbrev FollowsOrNone : ℕ → List ℕ → Type 0
FollowsOrNone at bs = ((found : List Token × ℕ) × Behind at bs found.0 found.1) ⊎ ((ts : List Token) (n : ℕ) → Behind at bs ts n → ⊥)

key_or_none : (at : ℕ) (bs : List ℕ) → begins (codes "[") bs ≡ true → FollowsOrNone at bs
key_or_none at bs opens =
    elim (some_or_none (key_of (drop 1 bs))) [
      | inl key ↦ elim (true_or_false (begins (codes "]") (drop key.0.1 (drop 1 bs)))) [
        | inl closes ↦ inl (_, r.key opens key.1 closes)
        | inr goes_on ↦ inr (λ ts n. open_element at bs (drop 1 bs) (drop key.0.1 (drop 1 bs)) key.0 ts n opens refl
            (sym key.1) refl goes_on)
      ]
      | inr none ↦ inr (λ ts n. no_key at bs (drop 1 bs) ts n opens refl (sym none))
    ]

follows_or_none : (at : ℕ) (bs : List ℕ) → FollowsOrNone at bs
follows_or_none at bs =
    elim (true_or_false (begins (codes "[") bs)) [
      | inl opens ↦ key_or_none at bs opens
      | inr no_key ↦ elim (true_or_false (begins (codes "->") bs && begins_with is_letter (drop 2 bs))) [
        | inl property ↦ inl (_, r.property property)
        | inr no_property ↦ elim (true_or_false (begins (codes "?->") bs && begins_with is_letter (drop 3 bs))) [
          | inl null_safe ↦ inr (λ ts n. no_null_safe at bs ts n no_key no_property null_safe)
          | inr none ↦ inl (([], 0), r.alone no_key no_property none)
        ]
      ]
    ]

interpolation_some : (at : ℕ) (bs : List ℕ) → begins_interpolation bs ≡ true → (x : Answer) × InInterpolation at bs x
interpolation_some at bs opens =
    elim (true_or_false (begins (codes "{$") bs)) [
      | inl braces ↦ elim (true_or_false (begins_with is_letter (drop 2 bs))) [
        | inl letter ↦ (_, r.braces braces letter)
        | inr no_letter ↦ (_, r.bad_braces braces no_letter)
      ]
      | inr no_braces ↦ elim (true_or_false (begins (codes "${") bs)) [
        | inl named ↦ (_, r.named named)
        | inr no_named ↦
            let simple = begins_simple bs opens no_braces no_named in
            let n : ℕ = suc (length (front is_name_byte (drop 1 bs))) in
            elim (follows_or_none (at + n) (drop n bs)) [
              | inl found ↦ (_, r.simple simple refl found.1)
              | inr none ↦ (_, r.bad_simple simple refl none)
            ]
      ]
    ]

module _ (scan : ScanSome) where
  -- ---- in code

  number_some : (mode : Mode) (member : Bool) (at : ℕ) (bs : List ℕ) → start_of bs ≡ s.Number → (x : Answer) × InCode mode member at bs x
  number_some mode member at bs starts =
      elim (true_or_false (is_float bs)) [
        | inl float ↦ (_, r.float starts float)
        | inr no_float ↦ elim (scan.number bs) [
          | inl found ↦ elim (cases_lt found.0 (2 ^ 63)) [
            | inl below ↦ (_, r.number starts no_float found.1 below)
            | inr above ↦ (_, r.long_number starts no_float found.1 above)
          ]
          | inr none ↦ (_, r.bad_number starts no_float none)
        ]
      ]

  double_some : (mode : Mode) (member : Bool) (at : ℕ) (bs rest : List ℕ) (text : Option (List ℕ)) → start_of bs ≡ s.DoubleQuote →
      string.Piece (drop 1 bs) text rest →
      (x : Answer) × InCode mode member at bs x
  double_some mode member at bs rest None starts d = (_, r.bad_escape starts d)
  double_some mode member at bs rest (Some text) starts d = (_, r.double starts d)

  code_by : (start : Start) (mode : Mode) (member : Bool) (at : ℕ) (bs : List ℕ) → start_of bs ≡ start →
      (x : Answer) × InCode mode member at bs x
  code_by s.Whitespace mode member at bs starts = (_, r.whitespace starts)
  code_by s.CloseTag mode member at bs starts = (_, r.close_tag starts)
  code_by s.LineComment mode member at bs starts = elim (first_or_never ends_line bs) [
    | inl found ↦ (_, r.line_comment starts found.1)
    | inr never ↦ absurd (first_somewhere ends_line refl bs never)
  ]
  code_by s.BlockComment mode member at bs starts = elim (first_or_never ends_block (drop 2 bs)) [
    | inl found ↦ (_, r.block_comment starts found.1)
    | inr never ↦ (_, r.unclosed_comment starts never)
  ]
  code_by s.Name mode member at bs starts = (_, r.name starts)
  code_by s.Variable mode member at bs starts = (_, r.variable starts)
  code_by s.Number mode member at bs starts = number_some mode member at bs starts
  code_by s.SingleQuote mode member at bs starts = elim (scan.single (drop 1 bs)) [
    | inl found ↦ (_, r.single starts found.2)
    | inr none ↦ (_, r.unclosed_single starts none)
  ]
  code_by s.DoubleQuote mode member at bs starts = elim (scan.piece (drop 1 bs)) [
    | inl found ↦ double_some mode member at bs found.1 found.0 starts found.2
    | inr none ↦ (_, r.unclosed_double starts none)
  ]
  code_by s.Cast mode member at bs starts = elim (some_or_none (cast_of bs)) [
    | inl found ↦ (_, r.cast starts found.1)
    | inr none ↦ absurd (cast_is_there bs starts none)
  ]
  code_by s.Other mode member at bs starts = elim (some_or_none (mark_in marks bs)) [
    | inl found ↦ (_, r.mark {what = found.0.0} {n = found.0.1} starts found.1)
    | inr none ↦ (_, r.bad_byte starts none)
  ]

  code_some : (mode : Mode) (member : Bool) (at : ℕ) (bs : List ℕ) → (x : Answer) × InCode mode member at bs x
  code_some mode member at bs = code_by (start_of bs) mode member at bs refl

  -- ---- in any mode

  inline_some : (at : ℕ) (bs : List ℕ) → 0 < length bs → (x : Answer) × Comes at Inline bs x
  inline_some at bs some =
      elim (true_or_false (begins_code bs)) [
        | inl code ↦ (_, r.opening code)
        | inr no_code ↦ elim (true_or_false (begins_echo bs)) [
          | inl echo ↦ (_, r.opening_echo echo)
          | inr no_echo ↦ elim (first_or_never ends_inline bs) [
            | inl found ↦ (_, r.text (inline_goes_on bs some no_code no_echo) found.1)
            | inr never ↦ absurd (first_somewhere ends_inline refl bs never)
          ]
        ]
      ]

  later_some : (at : ℕ) (bs rest : List ℕ) (text : Option (List ℕ)) → string.Piece bs text rest → (x : Answer) × Comes at modes.Piece bs x
  later_some at bs rest None d = (_, r.bad_escape d)
  later_some at bs rest (Some text) d = (_, r.later_piece d)

  comes_some : (mode : Mode) (at : ℕ) (bs : List ℕ) → 0 < length bs → Ready (goes mode) bs → (x : Answer) × Comes at mode bs x
  comes_some Inline at bs some ready = inline_some at bs some
  comes_some Code at bs some ready = let found = code_some Code false at bs in (found.0, r.code found.1)
  comes_some Member at bs some ready = let found = code_some Member true at bs in (found.0, r.member found.1)
  comes_some Interpolation at bs some ready = let found = interpolation_some at bs ready in (found.0, r.interpolation found.1)
  comes_some modes.Piece at bs some ready = elim (scan.piece bs) [
    | inl found ↦ later_some at bs found.1 found.0 found.2
    | inr none ↦ (_, r.unclosed none)
  ]

  end_some : (state : State) (at : ℕ) → (reading : Reading) × Lexes state at [] reading
  end_some state at = elim (true_or_false (string_is_open state.mode state.outer)) [
    | inl open_string ↦ (_, all.open_end open_string)
    | inr closed ↦ (_, all.end closed)
  ]

  -- what comes first, where the rest has a reading
  after_place : (fuel : ℕ) →
      ((state : State) (at : ℕ) (bs : List ℕ) → 2 * length bs + weight state.mode < fuel → ReadyState state bs →
      (reading : Reading) × Lexes state at bs reading) →
      (state : State) (at b : ℕ) (bs : List ℕ) → 2 * length (b ∷ bs) + weight state.mode < suc fuel → ReadyState state (b ∷ bs) →
      (x : Answer) → Comes at state.mode (b ∷ bs) x → (reading : Reading) × Lexes state at (b ∷ bs) reading
  after_place fuel rest_some state at b bs enough ready (Err why) d = (_, all.fault d)
  after_place fuel rest_some state at b bs enough ready (Ok next) d =
      let fine = comes_fine scan.ends state.mode at (b ∷ bs) (Ok next) d in
      let less = lighter state.mode state.outer at (b ∷ bs) next fine (omega arith) in
      let rest = rest_some (turned next.turn state.outer) (at + next.len) (drop next.len (b ∷ bs)) (omega
      (arith, less, length-drop next.len (b ∷ bs)))
      (turned_ready next.turn state.outer (drop next.len (b ∷ bs)) fine.ready ready.backs) in
      (_, all.place d rest.1)

  -- the bytes from an offset on have a reading
  lexes_some : (fuel : ℕ) (state : State) (at : ℕ) (bs : List ℕ) → 2 * length bs + weight state.mode < fuel → ReadyState state bs →
      (reading : Reading) × Lexes state at bs reading
  lexes_some zero state at bs enough ready = absurd (omega arith)
  lexes_some (suc fuel) state at [] enough ready = end_some state at
  lexes_some (suc fuel) state at (b ∷ bs) enough ready =
      let found = comes_some state.mode at (b ∷ bs) (omega arith) ready.ready in
      after_place fuel (lexes_some fuel) state at b bs enough ready found.0 found.1

  -- every file has a reading
  pub every_file : (bytes : List ℕ) → (reading : Reading) × Lexes beginning 0 bytes reading
  every_file bytes = lexes_some (suc (2 * length bytes)) beginning 0 bytes (omega arith) (record { ready = tt; backs = tt })
