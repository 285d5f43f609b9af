-- Names of exports.
use Rattle.std.proofs.Common.{◌≡◌, ◌≢◌, ◌∙◌, ◌<◌, ℕ, zero, suc, ◌+◌, List, [], ◌∷◌, ◌++◌, length, get_or, take, drop, Bool, true, false, cond, refl, sym, ap, arith}
use Rattle.std.specs.Prelude.{◌&&◌, ◌||◌, not, All}
use Rattle.std.specs.List.{AllByRecursion}
use Rattle.std.specs.Str.{bytes_eq}
use Rattle.std.specs.Ordering.{is_eq, nat_cmp}
use Rattle.std.specs.Cmp.Lexicographic.{slice_cmp}
use Rattle.std.proofs.lemmas.Bool.Decides.{same_from_decides}
use Rattle.std.proofs.lemmas.Slice.Eq.{bytes_eq-Decides}
use Rattle.std.proofs.lemmas.Map.Text.{is_eq-slice_cmp}
use Rattle.std.proofs.lemmas.List.Folds.{list_any-append}
use Rattle.std.proofs.lemmas.List.Elements.{All-from_recursion, recursion_from_All}
use Rattle.std.proofs.lemmas.List.Kept.{AllPairs-cons}
use Rattle.std.proofs.lemmas.List.{take_more, take-append-drop}
use Rattle.hph_wasm.specs.declared.module.Export.{Export}
use Rattle.hph_wasm.specs.ModuleValidity.{IsNamedOnce}
use Rattle.hph_wvalid.specs.Outside.{is_named, is_named_once}
use Rattle.hph_wvalid.proofs.Decisions.{Tells, and_true, true_and}

-- No other export has the name.
by_same : (name : List ℕ) (export : Export) (exports : List Export) → Tells (not (is_named name exports)) (AllByRecursion (λ other. name ≢ other.name) exports) →
    (b : Bool) → bytes_eq export.name name ≡ b → Tells (not (b || is_named name exports)) ((name ≢ export.name) × AllByRecursion (λ other. name ≢ other.name) exports)
by_same name export exports told true e = (
  (λ no. (let none : ⊥ = cc in absurd none)),
  (λ h. absurd (h.0 (sym ((bytes_eq-Decides export.name name).0 e)))),
)
by_same name export exports told false e = (
  (λ rest. ((λ same. let other : bytes_eq export.name name ≡ true = (bytes_eq-Decides export.name name).1 (sym same) in (let none : ⊥ = cc in none)), told.0 rest)),
  (λ h. told.1 h.1),
)

new_tells : (name : List ℕ) (exports : List Export) → Tells (not (is_named name exports)) (AllByRecursion (λ other. name ≢ other.name) exports)
new_tells name [] = ((λ e. tt), (λ h. refl))
new_tells name (export ∷ exports) = by_same name export exports (new_tells name exports) (bytes_eq export.name name) refl

pairs_tail : (export : Export) (exports : List Export) → IsNamedOnce (export ∷ exports) → IsNamedOnce exports
pairs_tail export exports h i j d lt within = h (suc i) (suc j) d (omega (arith, lt)) (omega (arith, within))

pairs_head : (export : Export) (exports : List Export) → IsNamedOnce (export ∷ exports) → All (λ other. export.name ≢ other.name) exports
pairs_head export exports h k d within = h zero (suc k) d (omega arith) (omega (arith, within))

pub named_tells : (exports : List Export) → Tells (is_named_once exports) (IsNamedOnce exports)
named_tells [] = ((λ e i j d lt within. absurd (omega (arith, within))), (λ h. refl))
named_tells (export ∷ exports) = (
  (λ e. let parts = and_true (not (is_named export.name exports)) (is_named_once exports) e in
      AllPairs-cons (λ a b. a.name ≢ b.name) export exports
      (All-from_recursion (λ other. export.name ≢ other.name) exports ((new_tells export.name exports).0 parts.0)) ((named_tells exports).0 parts.1)),
  (λ h. true_and _ _ ((new_tells export.name exports).1 (recursion_from_All (λ other. export.name ≢ other.name) exports (pairs_head export exports h)))
      ((named_tells exports).1 (pairs_tail export exports h))),
)

same_names : (xs ys : List ℕ) → bytes_eq xs ys ≡ bytes_eq ys xs
same_names xs ys = same_from_decides (bytes_eq xs ys) (bytes_eq ys xs) (bytes_eq-Decides xs ys)
    ((λ e. sym ((bytes_eq-Decides ys xs).0 e)), (λ e. (bytes_eq-Decides ys xs).1 (sym e)))

shuffled : (a b o n : Bool) → (not (a || (b || false)) && (o && not n)) ≡ ((not a && o) && not (b || n))
shuffled true b o n = refl
shuffled false true true n = refl
shuffled false true false n = refl
shuffled false false o n = refl

-- One more export has a name of its own.
pub once_more : (exports : List Export) (export : Export) → is_named_once (exports ++ export ∷ []) ≡ (is_named_once exports && not (is_named export.name exports))
once_more [] export = refl
once_more (x ∷ exports) export =
    ap (λ b. not b && is_named_once (exports ++ export ∷ [])) (list_any-append (λ other. bytes_eq other.name x.name) exports (export ∷ []))
    ∙ ap (λ o. not (is_named x.name exports || (bytes_eq export.name x.name || false)) && o) (once_more exports export)
    ∙ ap (λ b. not (is_named x.name exports || (b || false)) && (is_named_once exports && not (is_named export.name exports))) (same_names export.name x.name)
    ∙ shuffled (is_named x.name exports) (bytes_eq x.name export.name) (is_named_once exports) (is_named export.name exports)

front_new : (a b : Bool) → not (a || b) ≡ true → not a ≡ true
front_new true b e = e
front_new false b e = refl

-- Where each name is exported once, so is each of the first ones.
pub once_front : (exports others : List Export) → is_named_once (exports ++ others) ≡ true → is_named_once exports ≡ true
once_front [] others e = refl
once_front (x ∷ exports) others e =
    let parts = and_true (not (is_named x.name (exports ++ others))) (is_named_once (exports ++ others)) e in
    true_and _ _ (front_new (is_named x.name exports) (is_named x.name others)
    (ap not (sym (list_any-append (λ other. bytes_eq other.name x.name) exports others)) ∙ parts.0)) (once_front exports others parts.1)

cond_or : (a b : Bool) → cond b true a ≡ (a || (b || false))
cond_or true true = refl
cond_or true false = refl
cond_or false true = refl
cond_or false false = refl

-- A name is that of one more export, or was there before.
pub named_more : (key : List ℕ) (exports : List Export) (export : Export) (q : List ℕ) (was : Bool) → key ≡ export.name → was ≡ is_named q exports →
    cond (is_eq (slice_cmp nat_cmp key q)) true was ≡ is_named q (exports ++ export ∷ [])
named_more key exports export q was is before =
    ap (λ b. cond b true was) (is_eq-slice_cmp key q) ∙ ap (λ k. cond (bytes_eq k q) true was) is ∙ ap (λ a. cond (bytes_eq export.name q) true a) before
    ∙ cond_or (is_named q exports) (bytes_eq export.name q) ∙ sym (list_any-append (λ other. bytes_eq other.name q) exports (export ∷ []))

-- What a set of names tells of one that is put into it.
pub found : (added was : Bool) → added ≡ not was → added ≡ false → was ≡ true
found added true e new = refl
found added false e new = let no : ⊥ = cc in absurd no

pub unfound : (added was : Bool) → added ≡ not was → added ≡ true → was ≡ false
unfound added true e new = let no : ⊥ = cc in absurd no
unfound added false e new = refl

-- The exports up to one, and with it.
module _ (exports : List Export) (i : ℕ) (export : Export) (within : i < length exports) (is : export ≡ get_or exports i export) where
  with_it : take (i + 1) exports ≡ take i exports ++ export ∷ []
  with_it = take_more exports i export within ∙ ap (λ e. take i exports ++ e ∷ []) (sym is)

  -- A new name leaves each exported once.
  pub once_still : is_named_once (take i exports) ≡ true → is_named export.name (take i exports) ≡ false → is_named_once (take (i + 1) exports) ≡ true
  once_still once new = ap is_named_once with_it ∙ once_more (take i exports) export ∙ true_and _ _ once (ap not new)

  by_once : (b : Bool) → is_named_once exports ≡ b → is_named export.name (take i exports) ≡ true → b ≡ false
  by_once false e old = refl
  by_once true e old =
      let whole : is_named_once (take (i + 1) exports ++ drop (i + 1) exports) ≡ true = ap is_named_once (take-append-drop (i + 1) exports) ∙ e in
      let front : is_named_once (take (i + 1) exports) ≡ true = once_front (take (i + 1) exports) (drop (i + 1) exports) whole in
      let both : (is_named_once (take i exports) && not (is_named export.name (take i exports))) ≡ true = sym (ap is_named_once with_it ∙ once_more (take i exports) export) ∙ front in
      let parts = and_true (is_named_once (take i exports)) (not (is_named export.name (take i exports))) both in
      let other : not (is_named export.name (take i exports)) ≡ false = ap not old in
      let no : ⊥ = cc in absurd no

  -- An old name is exported twice.
  pub once_no_more : is_named export.name (take i exports) ≡ true → is_named_once exports ≡ false
  once_no_more old = by_once (is_named_once exports) refl old

  pub named_still : (key q : List ℕ) (was : Bool) → key ≡ export.name → was ≡ is_named q (take i exports) →
      cond (is_eq (slice_cmp nat_cmp key q)) true was ≡ is_named q (take (i + 1) exports)
  named_still key q was same before = named_more key (take i exports) export q was same before ∙ ap (is_named q) (sym with_it)
