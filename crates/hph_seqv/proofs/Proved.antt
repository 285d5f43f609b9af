-- The laws, by the lemmas.
use Rattle.std.proofs.Common.{[]}
use Rattle.hph_seqv.specs.Simulates.{Everywhere, no_words, one_value}
use Rattle.hph_seqv.specs.Laws.{RowsReply, CodeJoins, ChoicesChoose}
use Rattle.hph_seqv.proofs.Rows.{row_follows}
use Rattle.hph_seqv.proofs.Joins.{then_on}
use Rattle.hph_seqv.proofs.Choices.{chooses_by}

pub rows_reply : RowsReply
rows_reply s k row passed values i b n c scratch p stack st x le e f replies =
    row_follows s k row no_words one_value passed values i b n c scratch p stack st x le e f replies

pub code_joins : CodeJoins
code_joins s depth a b ca cb x f p q = then_on s depth Everywhere [] [] no_words one_value no_words one_value a b ca cb x f p q

pub choices_choose : ChoicesChoose
choices_choose s depth a b ca cb x y p q = chooses_by s depth Everywhere a b ca cb x y p q
