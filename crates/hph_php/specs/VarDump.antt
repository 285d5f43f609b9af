-- What `var_dump` prints (PHP manual, var_dump). An object ends it with a fatal error, this project's own, where its line would begin.
use Rattle.std.specs.Prelude.{◌≡◌, ◌+◌, ℕ, pos, Bool, true, false, List, [], ◌∷◌, ◌++◌, length, replicate, if◌then◌else◌, codes}
use Rattle.std.specs.Fmt.{digits, decimal, signed_decimal}
use Rattle.std.proofs.Common.{refl}
use Rattle.hph_array.specs.declared.key.Key.{Key}
use Rattle.hph_array.specs.declared.key.Key.TheVariants as key
use Rattle.hph_php.specs.Values.{Value, Null, Boolean, Int, Str, Arr, Obj, Pairs, no_pair, pair, listed}

-- what is printed, and whether an object ended it
pub record Dump : Type 0 where
  pub text : List ℕ
  pub meets_object : Bool

abbrev pub followed_by : Dump → Dump → Dump
followed_by a b = if a.meets_object then a else record { text = a.text ++ b.text; meets_object = b.meets_object }

-- a line behind as many spaces
abbrev pub line : ℕ → List ℕ → Dump
line depth bytes = record { text = replicate depth 32 ++ bytes ++ 10 ∷ []; meets_object = false }

abbrev pub quoted : List ℕ → List ℕ
quoted bytes = codes "\"" ++ bytes ++ codes "\""

abbrev pub bool_line : Bool → List ℕ
bool_line truth = if truth then codes "bool(true)" else codes "bool(false)"

abbrev pub key_line : Key → List ℕ
key_line (key.Int z) = codes "[" ++ signed_decimal z ++ codes "]=>"
key_line (key.Str bytes) = codes "[" ++ quoted bytes ++ codes "]=>"

abbrev mutual
  pub dump : ℕ → Value → Dump
  dump depth Null = line depth (codes "NULL")
  dump depth (Boolean truth) = line depth (bool_line truth)
  dump depth (Int z) = line depth (codes "int(" ++ signed_decimal z ++ codes ")")
  dump depth (Str bytes) = line depth (codes "string(" ++ decimal (length bytes) ++ codes ") " ++ quoted bytes)
  dump depth (Arr pairs next_key) =
      followed_by (line depth (codes "array(" ++ decimal (length (listed pairs)) ++ codes ") {"))
      (followed_by (dump_pairs (depth + 2) pairs) (line depth (codes "}")))
  dump depth (Obj number) = record { text = []; meets_object = true }

  -- each pair is a line for its key, and then its value
  pub dump_pairs : ℕ → Pairs → Dump
  dump_pairs depth no_pair = record { text = []; meets_object = false }
  dump_pairs depth (pair key value rest) = followed_by (line depth (key_line key)) (followed_by (dump depth value) (dump_pairs depth rest))

-- several values, one after the other
abbrev pub dump_all : List Value → Dump
dump_all [] = record { text = []; meets_object = false }
dump_all (value ∷ values) = followed_by (dump 0 value) (dump_all values)

-- ---- examples

strings : dump 0 (Str (codes "abc")) ≡ record { text = codes "string(3) \"abc\"\n"; meets_object = false }
unfolding digits
strings = refl

nested : (dump 0 (Arr (pair (key.Int (pos 0)) (Arr (pair (key.Str (codes "k")) Null no_pair) 0) no_pair) 1)).text
    ≡ codes "array(1) {\n  [0]=>\n  array(1) {\n    [\"k\"]=>\n    NULL\n  }\n}\n"
unfolding digits
nested = refl

ended_by_an_object : dump 0 (Arr (pair (key.Int (pos 0)) (Obj 7) no_pair) 1)
    ≡ record { text = codes "array(1) {\n  [0]=>\n"; meets_object = true }
unfolding digits
ended_by_an_object = refl
