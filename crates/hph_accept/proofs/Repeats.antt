-- Names that stand twice, found in two ways.
use Rattle.std.specs.Prelude.{◌≡◌, ◌<◌, ◌+◌, ℕ, Bool, true, false, ◌||◌, Option, List, [], ◌∷◌, ◌++◌, map, flat_map, length, refl}
use Rattle.std.proofs.Common.{ap, sym, subst, ◌∙◌, take, drop, get_or, drop-cons, add-one, append_assoc}
use Rattle.std.specs.List.{list_any}
use Rattle.std.proofs.lemmas.List.{append-nil, map-append, take_more, flat_map_more}
use Rattle.std.proofs.lemmas.List.Folds.{list_any-append}
use Rattle.hph_ast.specs.declared.token.Identifier.{Identifier}
use Rattle.hph_ast.specs.declared.class.Member.{Member}
use Rattle.hph_ast.specs.declared.refusal.Construct.{Construct}
use Rattle.hph_ast.specs.declared.refusal.Construct.TheVariants as c
use Rattle.hph_ast.specs.RefusedExpressions.{on_true}
use Rattle.hph_ast.specs.RefusedStatements as refused
use Rattle.hph_names.specs.declared.met.Case.{Case}
use Rattle.hph_accept.specs.declared.names.Sort.{Sort}
use Rattle.hph_accept.specs.declared.names.Sort.TheVariants.{Constants, Properties, Methods}
use Rattle.hph_accept.specs.Names.{same_of, spelled, names_of, repeats, Tracks}
use Rattle.hph_accept.specs.Order.{earliest}
use Rattle.hph_accept.specs.Parts.{member_of}
use Rattle.hph_accept.proofs.ExpressionParts.{flat_map-map}
use Rattle.hph_accept.proofs.InTurn.{earliest-append, flat_map-drop}

-- names in one list and then in another
pub repeats-append : (sort : Sort) (before xs ys : List Identifier) → repeats sort before (xs ++ ys) ≡ repeats sort before xs ++ repeats sort (before ++ xs) ys
repeats-append sort before [] ys = ap (λ b. repeats sort b ys) (sym (append-nil before))
repeats-append sort before (x ∷ xs) ys =
    ap (λ l. on_true (list_any (same_of sort x.spelled) (spelled before)) c.DuplicateName x.start ++ l)
    (repeats-append sort (before ++ x ∷ []) xs ys ∙ ap (λ b. repeats sort (before ++ x ∷ []) xs ++ repeats sort b ys) (append_assoc before (x ∷ []) xs))
    ∙ sym (append_assoc (on_true (list_any (same_of sort x.spelled) (spelled before)) c.DuplicateName x.start) (repeats sort (before ++ x ∷ []) xs) (repeats sort (before ++ (x ∷ xs)) ys))

-- a test of names that are in order
any_later : (f : List ℕ → Bool) (x : Identifier) (names : List Identifier) → list_any f (spelled (names ++ x ∷ [])) ≡ (f x.spelled || list_any f (spelled names))
any_later f x [] = refl
any_later f x (y ∷ names) = swapped (f y.spelled) (f x.spelled) (list_any f (spelled names)) (any_later f x names)
  where
    swapped : (a b r : Bool) {t : Bool} → t ≡ (b || r) → (a || t) ≡ (b || (a || r))
    swapped true true r h = refl
    swapped true false r h = refl
    swapped false b r h = h

-- the order in which names stand before doesn't matter
duplicates_repeat : (sort : Sort) (seen : List (List ℕ)) (before xs : List Identifier) → ((f : List ℕ → Bool) → list_any f seen ≡ list_any f (spelled before)) →
    refused.duplicates (same_of sort) seen xs ≡ repeats sort before xs
duplicates_repeat sort seen before [] h = refl
duplicates_repeat sort seen before (x ∷ xs) h =
    ap (λ b. on_true b c.DuplicateName x.start ++ refused.duplicates (same_of sort) (x.spelled ∷ seen) xs) (h (same_of sort x.spelled))
    ∙ ap (λ l. on_true (list_any (same_of sort x.spelled) (spelled before)) c.DuplicateName x.start ++ l)
    (duplicates_repeat sort (x.spelled ∷ seen) (before ++ x ∷ []) xs (λ f. ap (λ b. f x.spelled || b) (h f) ∙ sym (any_later f x before)))

pub repeats_all : (sort : Sort) (xs : List Identifier) → repeats sort [] xs ≡ refused.duplicates (same_of sort) [] xs
repeats_all sort xs = sym (duplicates_repeat sort [] [] xs (λ f. refl))

-- one name more
pub repeats-drop : {A : Type 0} (sort : Sort) (met : Option (Construct × ℕ)) (before : List Identifier) (f : A → Identifier) (xs : List A) (i : ℕ) (d : A) → i < length xs →
    earliest met (repeats sort (before ++ map f (take i xs)) (map f (drop i xs))) ≡
    earliest (earliest met (on_true (list_any (same_of sort (f (get_or xs i d)).spelled) (spelled before) || list_any (same_of sort (f (get_or xs i d)).spelled) (spelled (map f (take i xs))))
    c.DuplicateName (f (get_or xs i d)).start)) (repeats sort (before ++ map f (take (i + 1) xs)) (map f (drop (i + 1) xs)))
repeats-drop sort met before f xs i d h =
    let x = f (get_or xs i d) in
    let done = map f (take i xs) in
    let left = map f (drop (i + 1) xs) in
    let is_there = list_any (same_of sort x.spelled) (spelled (before ++ done)) in
    let next : map f (drop i xs) ≡ x ∷ left = rw (add-one, drop-cons xs i d h) refl in
    let either : is_there ≡ (list_any (same_of sort x.spelled) (spelled before) || list_any (same_of sort x.spelled) (spelled done)) =
    ap (list_any (same_of sort x.spelled)) (map-append (λ (n : Identifier). n.spelled) before done) ∙ list_any-append (same_of sort x.spelled) (spelled before) (spelled done) in
    let more : (before ++ done) ++ x ∷ [] ≡ before ++ map f (take (i + 1) xs) =
    append_assoc before done (x ∷ []) ∙ ap (λ l. before ++ l) (sym (map-append f (take i xs) (get_or xs i d ∷ [])) ∙ ap (map f) (sym (take_more xs i d h))) in
    ap (λ l. earliest met (repeats sort (before ++ done) l)) next
    ∙ earliest-append met (on_true is_there c.DuplicateName x.start) (repeats sort ((before ++ done) ++ x ∷ []) left)
    ∙ ap (λ b. earliest (earliest met (on_true b c.DuplicateName x.start)) (repeats sort ((before ++ done) ++ x ∷ []) left)) either
    ∙ ap (λ l. earliest (earliest met (on_true (list_any (same_of sort x.spelled) (spelled before) || list_any (same_of sort x.spelled) (spelled done)) c.DuplicateName x.start)) (repeats sort l left)) more

-- one member more
pub repeats_members-drop : (sort : Sort) (met : Option (Construct × ℕ)) (xs : List Member) (i : ℕ) (d : Member) → i < length xs →
    earliest met (repeats sort (flat_map (names_of sort) (take i xs)) (flat_map (names_of sort) (drop i xs))) ≡
    earliest (earliest met (repeats sort (flat_map (names_of sort) (take i xs)) (names_of sort (get_or xs i d))))
    (repeats sort (flat_map (names_of sort) (take (i + 1) xs)) (flat_map (names_of sort) (drop (i + 1) xs)))
repeats_members-drop sort met xs i d h =
    let x = names_of sort (get_or xs i d) in
    let done = flat_map (names_of sort) (take i xs) in
    let left = flat_map (names_of sort) (drop (i + 1) xs) in
    let more : done ++ x ≡ flat_map (names_of sort) (take (i + 1) xs) =
    flat_map_more (names_of sort) [] (take i xs) (get_or xs i d) ∙ ap (flat_map (names_of sort)) (sym (take_more xs i d h)) in
    ap (λ l. earliest met (repeats sort done l)) (flat_map-drop (names_of sort) xs i d h)
    ∙ ap (earliest met) (repeats-append sort done x left)
    ∙ earliest-append met (repeats sort done x) (repeats sort (done ++ x) left)
    ∙ ap (λ l. earliest (earliest met (repeats sort done x)) (repeats sort l left)) more

-- the names that were met, behind those of no member and of one member more
pub tracks_none : (sort : Sort) (met : Case × Option (List (List ℕ))) (before names : List Identifier) → names ≡ [] → Tracks sort met before → Tracks sort met (before ++ names)
tracks_none sort met before names none h = subst (λ l. Tracks sort met l) (sym (append-nil before) ∙ ap (λ l. before ++ l) (sym none)) h

pub tracks_more : (sort : Sort) (met : Case × Option (List (List ℕ))) (xs : List Member) (i : ℕ) (x : Member) → i < length xs → x ≡ get_or xs i x →
    Tracks sort met (flat_map (names_of sort) (take i xs) ++ names_of sort x) → Tracks sort met (flat_map (names_of sort) (take (i + 1) xs))
tracks_more sort met xs i x h is t =
    let done = flat_map (names_of sort) (take i xs) in
    let more : done ++ names_of sort x ≡ flat_map (names_of sort) (take (i + 1) xs) =
    ap (λ y. done ++ names_of sort y) is ∙ flat_map_more (names_of sort) [] (take i xs) (get_or xs i x) ∙ ap (flat_map (names_of sort)) (sym (take_more xs i x h)) in
    subst (λ l. Tracks sort met l) more t

-- a test of the names of members
pub declared-drop : (sort : Sort) (f : List ℕ → Bool) (xs : List Member) (i : ℕ) (d : Member) → i < length xs →
    list_any f (spelled (flat_map (names_of sort) (drop i xs))) ≡ (list_any f (spelled (names_of sort (get_or xs i d))) || list_any f (spelled (flat_map (names_of sort) (drop (i + 1) xs))))
declared-drop sort f xs i d h =
    let x = names_of sort (get_or xs i d) in
    let left = flat_map (names_of sort) (drop (i + 1) xs) in
    ap (λ l. list_any f (spelled l)) (flat_map-drop (names_of sort) xs i d h)
    ∙ ap (list_any f) (map-append (λ (n : Identifier). n.spelled) x left) ∙ list_any-append f (spelled x) (spelled left)

-- the members of a class, sort by sort
pub duplicates_members : (ms : List Member) → refused.duplicate_members (map member_of ms) ≡
    repeats Constants [] (flat_map (names_of Constants) ms) ++ (repeats Properties [] (flat_map (names_of Properties) ms) ++ repeats Methods [] (flat_map (names_of Methods) ms))
duplicates_members ms =
    let of_sort : (k : refused.Sort) → flat_map (refused.names_of_sort k) (map member_of ms) ≡ flat_map (λ x. refused.names_of_sort k (member_of x)) ms =
    λ k. flat_map-map (refused.names_of_sort k) member_of ms in
    let one = ap (refused.duplicates (same_of Constants) []) (of_sort refused.constants) ∙ sym (repeats_all Constants (flat_map (names_of Constants) ms)) in
    let two = ap (refused.duplicates (same_of Properties) []) (of_sort refused.properties) ∙ sym (repeats_all Properties (flat_map (names_of Properties) ms)) in
    let three = ap (refused.duplicates (same_of Methods) []) (of_sort refused.methods) ∙ sym (repeats_all Methods (flat_map (names_of Methods) ms)) in
    let first = repeats Constants [] (flat_map (names_of Constants) ms) in
    let second = repeats Properties [] (flat_map (names_of Properties) ms) in
    let later = refused.duplicates (same_of Properties) [] (flat_map (refused.names_of_sort refused.properties) (map member_of ms)) ++
    refused.duplicates (same_of Methods) [] (flat_map (refused.names_of_sort refused.methods) (map member_of ms)) in
    let last = refused.duplicates (same_of Methods) [] (flat_map (refused.names_of_sort refused.methods) (map member_of ms)) in
    ap (λ l. l ++ later) one ∙ ap (λ l. first ++ (l ++ last)) two ∙ ap (λ l. first ++ (second ++ l)) three

pub ruleset repeating = (declared-drop, repeats_members-drop)

pub ruleset duplicates = (duplicates_members, repeats_all)
