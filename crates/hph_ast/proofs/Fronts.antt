-- Parts of a list of tokens that follow each other.
use Rattle.std.proofs.Common.{List, [], ◌∷◌, ◌++◌, refl, ap, sym, ◌∙◌, append_assoc}
use Rattle.hph_ast.specs.declared.token.Token.{Token}
use Rattle.hph_ast.specs.Fronts.{UsesFront}

-- no token
pub nothing : {rest : List Token} → UsesFront rest rest
nothing = record { front = []; splits = refl }

-- a token, and then what is used behind it
pub skip : {t : Token} {ts rest : List Token} → UsesFront ts rest → UsesFront (t ∷ ts) rest
skip {t = t} u = record { front = t ∷ u.front; splits = ap (λ ts. t ∷ ts) u.splits }

-- one part, and then another
pub both : {ts mid rest : List Token} → UsesFront ts mid → UsesFront mid rest → UsesFront ts rest
both {rest = rest} u v = record { front = u.front ++ v.front; splits = u.splits ∙ ap (λ mid. u.front ++ mid) v.splits ∙ sym (append_assoc u.front v.front rest) }
