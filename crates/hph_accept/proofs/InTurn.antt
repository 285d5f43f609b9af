-- The earliest of what is found in one list and then in another.
use Rattle.std.specs.Prelude.{◌≡◌, ◌<◌, ℕ, suc, ◌+◌, List, [], ◌∷◌, ◌++◌, Bool, Option, Some, None, length, flat_map, refl, if◌then◌else◌}
use Rattle.std.proofs.Common.{ap, sym, ◌∙◌, drop, get_or, drop-cons, add-one}
use Rattle.hph_ast.specs.declared.refusal.Construct.{Construct}
use Rattle.hph_ast.specs.declared.token.Token.{Token}
use Rattle.hph_ast.specs.RefusedTokens.{refused_from, or_else, found_at, kind_construct, kind_next, is_member_mark}
use Rattle.hph_ast.specs.RefusedExpressions.{Found}
use Rattle.hph_ast.specs.RefusedStatements.{is_before, first_of, first_found}
use Rattle.hph_accept.specs.Order.{earlier, earliest}

pub earliest-append : (met : Option (Construct × ℕ)) (xs ys : Found) → earliest met (xs ++ ys) ≡ earliest (earliest met xs) ys
earliest-append met [] ys = refl
earliest-append met (x ∷ xs) ys = earliest-append (earlier met x) xs ys

-- what is found from an item on
pub flat_map-drop : {A B : Type 0} (f : A → List B) (xs : List A) (i : ℕ) (d : A) → i < length xs → flat_map f (drop i xs) ≡ f (get_or xs i d) ++ flat_map f (drop (i + 1) xs)
flat_map-drop f xs i d h = rw (add-one, drop-cons xs i d) refl

-- three and four lists in turn
pub three_in_turn : (met : Option (Construct × ℕ)) (xs ys zs : Found) → earliest (earliest (earliest met xs) ys) zs ≡ earliest met (xs ++ (ys ++ zs))
three_in_turn met xs ys zs = sym (earliest-append (earliest met xs) ys zs) ∙ sym (earliest-append met xs (ys ++ zs))

pub four_in_turn : (met : Option (Construct × ℕ)) (xs ys zs ws : Found) → earliest (earliest (earliest (earliest met xs) ys) zs) ws ≡ earliest met (xs ++ (ys ++ (zs ++ ws)))
four_in_turn met xs ys zs ws = sym (earliest-append (earliest (earliest met xs) ys) zs ws) ∙ three_in_turn met xs ys (zs ++ ws)

-- the first that is found
earliest_first : (best : Construct × ℕ) (xs : Found) → earliest (Some best) xs ≡ Some (first_of best xs)
earliest_first best [] = refl
earliest_first best (x ∷ xs) = earliest_first (if is_before best x then best else x) xs

pub earliest_found : (xs : Found) → earliest None xs ≡ first_found xs
earliest_found [] = refl
earliest_found (x ∷ xs) = earliest_first x xs

-- what a token and those behind it tell
pub refused-drop : (member : Bool) (ts : List Token) (i : ℕ) (d : Token) → i < length ts → refused_from member (drop i ts) ≡
    or_else (found_at (get_or ts i d).start (kind_construct member (get_or ts i d).kind (kind_next (drop (i + 1) ts)))) (refused_from (is_member_mark (get_or ts i d).kind) (drop (i + 1) ts))
refused-drop member ts i d h = rw (add-one, drop-cons ts i d) refl

-- one item more
pub earliest-drop : {A : Type 0} (met : Option (Construct × ℕ)) (f : A → Found) (xs : List A) (i : ℕ) (d : A) → i < length xs →
    earliest met (flat_map f (drop i xs)) ≡ earliest (earliest met (f (get_or xs i d))) (flat_map f (drop (i + 1) xs))
earliest-drop met f xs i d h = ap (earliest met) (flat_map-drop f xs i d h) ∙ earliest-append met (f (get_or xs i d)) (flat_map f (drop (i + 1) xs))

pub ruleset in_turn = (earliest-append, earliest-drop)
