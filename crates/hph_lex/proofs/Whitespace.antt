-- Whitespace in code is skipped, whatever the code.
use Rattle.std.proofs.Common.{◌≡◌, ℕ, Bool, true, false, List, refl, ap}
use Rattle.hph_ast.specs.declared.lexical.Mode.{Mode}
use Rattle.hph_ast.specs.declared.lexical.Mode.TheVariants.{Code, Member}
use Rattle.hph_ast.specs.declared.lexical.Start.TheVariants as s
use Rattle.hph_ast.specs.Bytes.{is_whitespace, begins_with}
use Rattle.hph_ast.specs.Lexical as g
use Rattle.hph_ast.specs.Lexical.{start_of}
use Rattle.hph_lex.specs.Answers.{ComesAt, is_code}
use Rattle.hph_lex.specs.Readings.{white}
use Rattle.hph_lex.specs.declared.found.Answer.TheVariants as answers
use Rattle.std.specs.Prelude.{if◌then◌else◌}

where_true : {A : Type 0} (b : Bool) (x y : A) → b ≡ true → (if b then x else y) ≡ x
where_true true x y h = refl
where_true false x y h = absurd (cc)

whitespace_start : (bs : List ℕ) → begins_with is_whitespace bs ≡ true → start_of bs ≡ s.Whitespace
unfolding start_of
whitespace_start bs h = where_true (begins_with is_whitespace bs) s.Whitespace _ h

pub white_comes : (mode : Mode) (bs : List ℕ) → is_code mode ≡ true → begins_with is_whitespace bs ≡ true → ComesAt mode bs (answers.Next (white mode))
white_comes Code bs code h = λ at. g.code (g.whitespace (whitespace_start bs h))
white_comes Member bs code h = λ at. g.member (g.whitespace (whitespace_start bs h))
white_comes _ bs code h = absurd (cc)
