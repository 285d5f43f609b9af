-- Pieces of strings in double quotes, byte by byte and escape by escape.
use Rattle.std.proofs.Common.{◌≡◌, ◌<◌, ◌≤◌, ℕ, zero, suc, ◌+◌, Bool, true, false, ◌||◌, List, [], ◌∷◌, ◌-◌, length, drop, Option, Some}
use Rattle.std.proofs.Common.{None, ◌==◌, ◌⊎◌, inl, inr, refl, sym, ap, ◌∙◌, subst, append-nil, cond, arith}
use Rattle.std.proofs.lemmas.Bool.Decides.{Decides-eqb, nat_tests}
use Rattle.std.proofs.lemmas.List.{length-drop, drop-drop}
use Rattle.hph_ast.specs.Bytes.{begins}
use Rattle.hph_ast.specs.Strings.{Piece, Escape, escape_of, begins_interpolation, before}
use Rattle.hph_ast.specs.Strings.Piece.{closes, interpolation, escape, bad_escape, plain}
use Rattle.hph_scan.specs.Fronts.{Spells}
use Rattle.hph_scan.specs.Pieces.{IsPiece, ends_piece, joined, piece_told, text_told}
use Rattle.hph_scan.specs.declared.piece.PieceText.{PieceText}
use Rattle.hph_scan.specs.declared.piece.QuotedPiece.TheVariants.{Text, BadEscape}

or_true : (x y : Bool) → (x || y) ≡ true → (x ≡ true) ⊎ (y ≡ true)
or_true true y is = inl refl
or_true false y is = inr is

or_left : (x y : Bool) → x ≡ true → (x || y) ≡ true
or_left true y is = refl
or_left false y is = let none : ⊥ = cc in absurd none

or_right : (x y : Bool) → y ≡ true → (x || y) ≡ true
or_right true y is = refl
or_right false y is = is

or_false : (x y : Bool) → (x || y) ≡ false → (x ≡ false) × (y ≡ false)
or_false true y is = let none : ⊥ = cc in absurd none
or_false false y is = (refl, is)

neither : (x y : Bool) → x ≡ false → y ≡ false → (x || y) ≡ false
neither true y first second = first
neither false y first second = second

-- What ends a piece is a quote, or begins an interpolation.
quote_or_interpolation : (b : ℕ) (bs : List ℕ) → ends_piece (b ∷ bs) ≡ true → ((b == 34) ≡ true) ⊎ (begins_interpolation (b ∷ bs) ≡ true)
quote_or_interpolation b bs ends = elim (or_true (begins (34 ∷ []) (b ∷ bs)) (begins_interpolation (b ∷ bs)) ends) [
  | inl quote ↦ inl (grind (arith, nat_tests))
  | inr is ↦ inr is
]

quote_ends : (b : ℕ) (bs : List ℕ) → (b == 34) ≡ true → ends_piece (b ∷ bs) ≡ true
quote_ends b bs quote = subst (λ b. ends_piece (b ∷ bs) ≡ true) (sym ((Decides-eqb b 34).0 quote)) refl

interpolation_ends : (bs : List ℕ) → begins_interpolation bs ≡ true → ends_piece bs ≡ true
interpolation_ends bs is = or_right (begins (34 ∷ []) bs) (begins_interpolation bs) is

-- Any byte that goes on is neither.
no_quote : (b : ℕ) (bs : List ℕ) → ends_piece (b ∷ bs) ≡ false → (b == 34) ≡ false
no_quote b bs going =
    elim (b == 34) as (λ t. (b == 34) ≡ t → t ≡ false) [
      | true ↦ λ quote. let ends = quote_ends b bs quote in let none : ⊥ = cc in absurd none
      | false ↦ λ other. refl
    ] refl

no_interpolation : (bs : List ℕ) → ends_piece bs ≡ false → begins_interpolation bs ≡ false
no_interpolation bs going = (or_false (begins (34 ∷ []) bs) (begins_interpolation bs) going).1

-- A backslash is no quote, and begins no interpolation.
backslash : (b : ℕ) (bs : List ℕ) → (b == 92) ≡ true → ends_piece (b ∷ bs) ≡ true → ⊥
backslash b bs is ends =
    let never : ends_piece (92 ∷ bs) ≡ true = subst (λ b. ends_piece (b ∷ bs) ≡ true) ((Decides-eqb b 92).0 is) ends in
    let none : ⊥ = cc in none

-- The closing quote, or an interpolation, ends a piece.
pub at_end : (b : ℕ) (bs : List ℕ) → ends_piece (b ∷ bs) ≡ true → Piece (b ∷ bs) (Some []) (b ∷ bs)
at_end b bs ends = elim (quote_or_interpolation b bs ends) [
  | inl quote ↦ closes quote
  | inr is ↦ interpolation is
]

going_on : (b : ℕ) (bs : List ℕ) → (b == 34 || b == 92) ≡ false → begins_interpolation (b ∷ bs) ≡ false → ends_piece (b ∷ bs) ≡ true → ⊥
going_on b bs byte going ends =
    let other = (or_false (b == 34) (b == 92) byte).0 in
    elim (quote_or_interpolation b bs ends) [
      | inl quote ↦ let none : ⊥ = cc in none
      | inr is ↦ let none : ⊥ = cc in none
    ]

pub ended : {b : ℕ} {bs rest : List ℕ} {text : Option (List ℕ)} → ends_piece (b ∷ bs) ≡ true → Piece (b ∷ bs) text rest →
    (text ≡ Some []) × (rest ≡ b ∷ bs)
ended ends (closes is) = (refl, refl)
ended ends (interpolation is) = (refl, refl)
ended ends (escape {b} {bs} is _ more) = absurd (backslash b bs is ends)
ended ends (bad_escape {b} {bs} is _ more) = absurd (backslash b bs is ends)
ended ends (plain {b} {bs} byte going more) = absurd (going_on b bs byte going ends)

going_on_is : (b : ℕ) (bs : List ℕ) → (b == 34 || b == 92) ≡ false → begins_interpolation (b ∷ bs) ≡ false → ends_piece (b ∷ bs) ≡ false
going_on_is b bs byte going =
    elim (ends_piece (b ∷ bs)) as (λ t. ends_piece (b ∷ bs) ≡ t → t ≡ false) [
      | true ↦ λ ends. absurd (going_on b bs byte going ends)
      | false ↦ λ more. refl
    ] refl

-- Where there is no byte there is no piece.
pub not_closed : {text : Option (List ℕ)} {rest : List ℕ} → Piece [] text rest → ⊥
not_closed (interpolation is) = let none : ⊥ = cc in none

-- Any byte that begins nothing else.
plain_back : {b : ℕ} {bs rest : List ℕ} {text : Option (List ℕ)} → (b == 92) ≡ false → ends_piece (b ∷ bs) ≡ false →
    Piece (b ∷ bs) text rest → (more : Option (List ℕ)) × (text ≡ joined (Some (b ∷ [])) more) × Piece bs more rest
plain_back byte going (closes {b} {bs} is) = let ends = quote_ends b bs is in let none : ⊥ = cc in absurd none
plain_back {b} {bs} byte going (interpolation is) = let ends = interpolation_ends (b ∷ bs) is in let none : ⊥ = cc in absurd none
plain_back byte going (escape is _ more) = let none : ⊥ = cc in absurd none
plain_back byte going (bad_escape is _ more) = let none : ⊥ = cc in absurd none
plain_back byte going (plain {more = told} byte' going' more) = (told, refl, more)

pub spells_plain : (b : ℕ) (bs : List ℕ) → (b == 92) ≡ false → ends_piece (b ∷ bs) ≡ false →
    Spells Piece (b ∷ bs) bs (joined (Some (b ∷ [])))
spells_plain b bs byte going = record {
  onward = λ more rest is. plain (neither (b == 34) (b == 92) (no_quote b bs going) byte) (no_interpolation (b ∷ bs) going) is;
  back = λ all rest is. plain_back byte going is;
}

-- An escape.
escape_back : {b : ℕ} {bs rest : List ℕ} {text : Option (List ℕ)} (e : Escape) → (b == 92) ≡ true →
    escape_of bs ≡ Some e → Piece (b ∷ bs) text rest →
    (more : Option (List ℕ)) × (text ≡ joined (Some e.text) more) × Piece (drop e.len bs) more rest
escape_back {b} {bs} e slash found (closes is) = absurd (backslash b bs slash (quote_ends b bs is))
escape_back {b} {bs} e slash found (interpolation is) = absurd (backslash b bs slash (interpolation_ends (b ∷ bs) is))
escape_back {bs = bs} {rest} e slash found (escape {e = e'} {more = told} is found' more) =
    let same : e' ≡ e = cc in
    (told, ap (λ (e : Escape). before e.text told) same, subst (λ (e : Escape). Piece (drop e.len bs) told rest) same more)
escape_back e slash found (bad_escape is found' more) = let none : ⊥ = cc in absurd none
escape_back {b} e slash found (plain byte going more) =
    let other = (or_false (b == 34) (b == 92) byte).1 in let none : ⊥ = cc in absurd none

pub spells_escape : (b : ℕ) (bs : List ℕ) (e : Escape) → (b == 92) ≡ true → escape_of bs ≡ Some e →
    Spells Piece (b ∷ bs) (drop e.len bs) (joined (Some e.text))
spells_escape b bs e slash found = record {
  onward = λ more rest is. escape slash found is;
  back = λ all rest is. escape_back e slash found is;
}

-- A wrong escape.
bad_back : {b : ℕ} {bs rest : List ℕ} {text : Option (List ℕ)} → (b == 92) ≡ true → escape_of bs ≡ None → Piece (b ∷ bs) text rest →
    (more : Option (List ℕ)) × (text ≡ None) × Piece bs more rest
bad_back {b} {bs} slash found (closes is) = absurd (backslash b bs slash (quote_ends b bs is))
bad_back {b} {bs} slash found (interpolation is) = absurd (backslash b bs slash (interpolation_ends (b ∷ bs) is))
bad_back slash found (escape is found' more) = let none : ⊥ = cc in absurd none
bad_back slash found (bad_escape {more = told} is found' more) = (told, refl, more)
bad_back {b} slash found (plain byte going more) = let other = (or_false (b == 34) (b == 92) byte).1 in let none : ⊥ = cc in absurd none

pub spells_bad_escape : (b : ℕ) (bs : List ℕ) → (b == 92) ≡ true → escape_of bs ≡ None → Spells Piece (b ∷ bs) bs (joined None)
spells_bad_escape b bs slash found = record {
  onward = λ more rest is. bad_escape slash found is;
  back = λ all rest is. bad_back slash found is;
}

-- A piece has one text and one end.
pub one_piece : (bs rest behind : List ℕ) (text other : Option (List ℕ)) → Piece bs text rest → Piece bs other behind →
    (text ≡ other) × (rest ≡ behind)
one_piece _ _ behind _ other (closes {b} {bs} is) second =
    let ends = ended (quote_ends b bs is) second in (sym ends.0, sym ends.1)
one_piece _ _ behind _ other (interpolation {bs = []} is) second = let none : ⊥ = cc in absurd none
one_piece _ _ behind _ other (interpolation {bs = b ∷ bs} is) second =
    let ends = ended (interpolation_ends (b ∷ bs) is) second in (sym ends.0, sym ends.1)
one_piece _ _ behind _ other (escape {b} {bs} {rest} {e} {more = told} slash found more) second =
    let split = escape_back e slash found second in
    let same = one_piece (drop e.len bs) rest behind told split.0 more split.2 in
    (ap (joined (Some e.text)) same.0 ∙ sym split.1, same.1)
one_piece _ _ behind _ other (bad_escape {b} {bs} {rest} {more = told} slash found more) second =
    let split = bad_back slash found second in
    let same = one_piece bs rest behind told split.0 more split.2 in
    (sym split.1, same.1)
one_piece _ _ behind _ other (plain {b} {bs} {rest} {more = told} byte going more) second =
    let split = plain_back (or_false (b == 34) (b == 92) byte).1 (going_on_is b bs byte going) second in
    let same = one_piece bs rest behind told split.0 more split.2 in
    (ap (joined (Some (b ∷ []))) same.0 ∙ sym split.1, same.1)

-- A piece ends within the bytes, before what ends it.
pub pieces_end : (bs rest : List ℕ) (text : Option (List ℕ)) → Piece bs text rest →
    (n : ℕ) × ((n < length bs) × (rest ≡ drop n bs) × (ends_piece rest ≡ true))
pieces_end _ _ _ (closes {b} {bs} is) = (0, (omega arith, refl, quote_ends b bs is))
pieces_end _ _ _ (interpolation {bs = []} is) = let none : ⊥ = cc in absurd none
pieces_end _ _ _ (interpolation {bs = b ∷ bs} is) = (0, (omega arith, refl, interpolation_ends (b ∷ bs) is))
pieces_end _ _ _ (escape {b} {bs} {rest} {e} {more = told} slash found more) =
    let ends = pieces_end (drop e.len bs) rest told more in
    (suc (e.len + ends.0), (omega (arith, length-drop e.len bs), ends.1.1 ∙ drop-drop ends.0 e.len bs, ends.1.2))
pieces_end _ _ _ (bad_escape {b} {bs} {rest} {more = told} slash found more) =
    let ends = pieces_end bs rest told more in (suc ends.0, (omega arith, ends.1.1, ends.1.2))
pieces_end _ _ _ (plain {b} {bs} {rest} {more = told} byte going more) =
    let ends = pieces_end bs rest told more in (suc ends.0, (omega arith, ends.1.1, ends.1.2))

pub closed : (rest : List ℕ) → ends_piece rest ≡ true → Piece rest (Some []) rest
closed [] ends = let none : ⊥ = cc in absurd none
closed (b ∷ bs) ends = at_end b bs ends

-- What is read up to the end of a piece is the piece.
module _ (bs rest : List ℕ) where
  ended_by : (told : Option (List ℕ)) → ends_piece rest ≡ true → Spells Piece bs rest (joined told) → Piece bs (joined told (Some [])) rest
  ended_by told ends spells = spells.onward (Some []) rest (closed rest ends)

  read_length : {text : Option (List ℕ)} → Piece bs text rest →
      (rest ≡ drop (length bs - length rest) bs) × (length bs - length rest ≤ length bs)
  read_length {text} is =
      let ends = pieces_end bs rest text is in
      let same : ends.0 ≡ length bs - length rest = omega (arith, ap length ends.1.1, length-drop ends.0 bs) in
      (ends.1.1 ∙ ap (λ n. drop n bs) same, omega arith)

  whole : (bad : Bool) (text : List ℕ) → Piece bs (joined (cond bad None (Some text)) (Some [])) rest →
      IsPiece bs (cond bad BadEscape (Text (record { text = text; length = length bs - length rest })))
  whole true text is = record { rest = rest; is = is }
  whole false text is =
      let read = read_length is in
      record {
        is = subst (λ rest. Piece bs (Some text) rest) read.0 (subst (λ text. Piece bs (Some text) rest) (append-nil text) is);
        within = read.1;
      }

  pub piece_read : (read : PieceText) → ends_piece rest ≡ true → Spells Piece bs rest (joined (text_told read)) →
      IsPiece bs (piece_told read (length bs - length rest))
  piece_read read ends spells = whole read.has_bad_escape read.text (ended_by (text_told read) ends spells)

-- Bytes begin with a piece, or with none.
abbrev HasSome : List ℕ → Type 0
HasSome bs = ((text : Option (List ℕ)) × (rest : List ℕ) × Piece bs text rest) ⊎
    ((text : Option (List ℕ)) (rest : List ℕ) → Piece bs text rest → ⊥)

from_behind : {bs behind : List ℕ} {adds : Option (List ℕ) → Option (List ℕ)} → Spells Piece bs behind adds → HasSome behind → HasSome bs
from_behind {adds = adds} spells (inl found) = inl (adds found.0, found.1, spells.onward found.0 found.1 found.2)
from_behind spells (inr none) = inr (λ text rest is. let back = spells.back text rest is in none back.0 rest back.2)

-- where all that is shorter begins with one, or with none
abbrev EachShorter : List ℕ → Type 0
EachShorter bs = (rest : List ℕ) → length rest ≤ length bs → HasSome rest

at_escape : (b : ℕ) (bs : List ℕ) (e : Option Escape) → escape_of bs ≡ e → (b == 92) ≡ true → EachShorter bs → HasSome (b ∷ bs)
at_escape b bs None found slash shorter = from_behind (spells_bad_escape b bs slash found) (shorter bs (omega arith))
at_escape b bs (Some e) found slash shorter =
    from_behind (spells_escape b bs e slash found) (shorter (drop e.len bs) (omega (arith, length-drop e.len bs)))

going_some : (b : ℕ) (bs : List ℕ) → ends_piece (b ∷ bs) ≡ false → EachShorter bs → HasSome (b ∷ bs)
going_some b bs going shorter =
    elim (b == 92) as (λ t. (b == 92) ≡ t → HasSome (b ∷ bs)) [
      | true ↦ λ slash. at_escape b bs (escape_of bs) refl slash shorter
      | false ↦ λ other. from_behind (spells_plain b bs other going) (shorter bs (omega arith))
    ] refl

some_piece : (b : ℕ) (bs : List ℕ) → EachShorter bs → HasSome (b ∷ bs)
some_piece b bs shorter =
    elim (ends_piece (b ∷ bs)) as (λ t. ends_piece (b ∷ bs) ≡ t → HasSome (b ∷ bs)) [
      | true ↦ λ ends. inl (Some [], b ∷ bs, at_end b bs ends)
      | false ↦ λ going. going_some b bs going shorter
    ] refl

up_to : (most : ℕ) (bs : List ℕ) → length bs ≤ most → HasSome bs
up_to most [] within = inr (λ text rest is. not_closed is)
up_to zero (b ∷ bs) within = absurd (omega arith)
up_to (suc most) (b ∷ bs) within = some_piece b bs (λ rest short. up_to most rest (omega arith))

pub piece_or_none : (bs : List ℕ) → HasSome bs
piece_or_none bs = up_to (length bs) bs (omega arith)
