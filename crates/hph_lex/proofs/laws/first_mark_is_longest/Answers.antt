use Rattle.std.proofs.Common.{refl}
use Rattle.hph_ast.specs.Marks.{marks}
use Rattle.hph_lex.proofs.TableLaws.{longest}
use Rattle.hph_lex.proofs.laws.first_mark_is_longest.Goals as goal

pub returns : goal.returns
returns c = λ bs what n row is place fits. longest marks bs what n row refl is place fits
