use Rattle.std.proofs.Common.{◌≡◌, ◌∙◌, refl}
use Rattle.hph_ast.specs.Bytes.{lower}
use Rattle.hph_lex.proofs.word.words_from.Goals as goal

pub returns-in-101 : goal.returns-in-101
returns-in-101 c = λ first rest low. let is : lower first ≡ 101 = low ∙ c.in-101.is in rw is refl

pub returns-in-95 : goal.returns-in-95
returns-in-95 c = λ first rest low. let is : lower first ≡ 95 = low ∙ c.in-95.is in rw is refl
