-- What the rows of the tables stand for.
use Rattle.std.specs.Prelude.{ℕ, List, Result, Ok, Err}
use Rattle.std.specs.Borrow.{Bor}
use Rattle.hph_ast.specs.declared.token.Kind.{Kind}
use Rattle.hph_ast.specs.declared.token.Kind.TheVariants as k
use Rattle.hph_ast.specs.declared.refusal.Construct.{Construct}
use Rattle.hph_lex.specs.declared.spelled.Spelled.{Spelled}
use Rattle.hph_lex.specs.declared.spelled.Spelled.TheVariants.{Operator, Assign, Cast, Mark, Refused}
use Rattle.hph_lex.specs.declared.word.Word.{Word}
use Rattle.hph_lex.specs.declared.word.Word.TheVariants as w

-- a kind of token, or a construct that is refused
abbrev pub spelled : Spelled → Result Kind Construct
spelled (Operator operator) = Ok (k.Operator operator)
spelled (Assign assignment) = Ok (k.Assign assignment)
spelled (Cast cast) = Ok (k.Cast cast)
spelled (Mark mark) = Ok (k.Mark mark)
spelled (Refused which) = Err which

-- a row of the tables of marks and casts
abbrev pub row : Bor (List ℕ) × Spelled → List ℕ × Result Kind Construct
row r = (r.0.now, spelled r.1)

-- what a row of the marks gives, and how many bytes it takes
abbrev pub marked : Spelled × ℕ → Result Kind Construct × ℕ
marked found = (spelled found.0, found.1)

-- a keyword, or an operator that is a word
abbrev pub word_kind : Word → Kind
word_kind (w.Keyword keyword) = k.Keyword keyword
word_kind (w.Operator operator) = k.Operator operator

-- a row of the table of keywords
abbrev pub word_row : Bor (List ℕ) × Word → List ℕ × Kind
word_row r = (r.0.now, word_kind r.1)
