-- The code keeps the last kind at the end, and contracts see it first.
use Rattle.std.proofs.Common.{◌≡◌, ◌∙◌, List, [], ◌∷◌, ◌++◌, length, reverse, nat_eq, refl, sym, ap, arith}
use Rattle.std.proofs.lemmas.List.{reverse-append, length-reverse}
use Rattle.hph_wvalid.specs.declared.stack.Kind.{Kind}
use Rattle.hph_wvalid.specs.Checking.{is_nil}

pub more_turned : (kinds : List Kind) (kind : Kind) → reverse (kinds ++ kind ∷ []) ≡ kind ∷ reverse kinds
more_turned kinds kind = reverse-append kinds (kind ∷ [])

nil_by_length : (kinds : List Kind) → nat_eq (length kinds) 0 ≡ is_nil kinds
nil_by_length [] = refl
nil_by_length (k ∷ kinds) = grind arith

pub none_turned : (kinds : List Kind) → nat_eq (length kinds) 0 ≡ is_nil (reverse kinds)
none_turned kinds = ap (λ n. nat_eq n 0) (sym (length-reverse kinds)) ∙ nil_by_length (reverse kinds)
