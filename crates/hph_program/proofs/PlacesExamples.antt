-- Programs whose places are apart, and some whose places aren't, which are not well-formed.
use Rattle.std.proofs.Common.{◌≡◌, List, [], ◌∷◌, refl, sym, ◌∙◌, true≢false, subst, codes, true, false, None, String, Global, map}
use Rattle.std.specs.List.{IsDistinct}
use Rattle.std.specs.String.{string_bytes}
use Rattle.hph_ast.specs.declared.function.Function.{Function}
use Rattle.hph_ast.specs.declared.program.Program.{Program}
use Rattle.hph_php.specs.State.{Site, is_site}
use Rattle.hph_php.specs.Declarations.{Codes, Placed, declarations_in, codes_of, placed_at, site_at, a_body}
use Rattle.hph_program.specs.WellFormed.{HasPlacesApart, IsWellFormed}
use Rattle.hph_program.proofs.Trees.{trees, int, text, call, echo, returned, static_variable, function, declared, file}

-- one place twice
twice : (a : Site) (rest : List Site) → is_site a a ≡ true → IsDistinct is_site (a ∷ a ∷ rest) → ⊥
unfolding IsDistinct
twice a rest same apart = absurd (true≢false (sym same ∙ apart.0.0))

module _ (path : String Global) where
  abbrev with_codes : List Placed → List Site → Codes
  with_codes cs statics = record { paths = string_bytes path ∷ []; classes = []; codes = cs; statics = statics }

  -- ---- `function f() { return 1; } function g() { return "b"; } echo f();` where each token begins at 0

  abbrev first_at_0 : Function
  first_at_0 = function 0 1 0 (codes "f") [] (returned 0 1 (int 0 1 1) ∷ [])

  abbrev second_at_0 : Function
  second_at_0 = function 0 1 0 (codes "g") [] (returned 0 1 (text 0 1 (codes "b")) ∷ [])

  abbrev one_place : Program
  one_place = record { files = file path 0 1 (declared first_at_0 ∷ declared second_at_0 ∷ echo 0 1 (call 0 1 (codes "f") [] ∷ []) ∷ []) ∷ [] }

  one_place_codes : codes_of one_place
      ≡ with_codes (placed_at 0 0 (a_body first_at_0 None false) ∷ placed_at 0 0 (a_body second_at_0 None false) ∷ []) []
  unfolding declarations_in
  one_place_codes = simp trees

  one_place_is_not_well_formed : IsWellFormed one_place → ⊥
  one_place_is_not_well_formed w = twice (site_at 0 0) [] refl
      (subst (λ (c : Codes). IsDistinct is_site (map (λ (x : Placed). x.site) c.codes)) one_place_codes w.places.codes)

  -- ---- `function f() { static $n = 0; static $m = 1; }` where each token begins at 0

  abbrev statics_at_0 : Function
  statics_at_0 = function 0 1 0 (codes "f") [] (static_variable 0 1 0 (codes "n") (int 0 1 0) ∷ static_variable 0 1 0 (codes "m") (int 0 1 1) ∷ [])

  abbrev one_static : Program
  one_static = record { files = file path 0 1 (declared statics_at_0 ∷ []) ∷ [] }

  one_static_codes : codes_of one_static
      ≡ with_codes (placed_at 0 0 (a_body statics_at_0 None false) ∷ []) (site_at 0 0 ∷ site_at 0 0 ∷ [])
  unfolding declarations_in
  one_static_codes = simp trees

  one_static_is_not_well_formed : IsWellFormed one_static → ⊥
  one_static_is_not_well_formed w = twice (site_at 0 0) [] refl
      (subst (λ (c : Codes). IsDistinct is_site c.statics) one_static_codes w.places.statics)

  -- ---- `echo f(); function f(){return 1;} function g(){return "b";}`

  abbrev returns_1 : Function
  returns_1 = function 16 39 25 (codes "f") [] (returned 29 38 (int 36 37 1) ∷ [])

  abbrev returns_b : Function
  returns_b = function 40 65 49 (codes "g") [] (returned 53 64 (text 60 63 (codes "b")) ∷ [])

  abbrev called_before : Program
  called_before = record { files = file path 6 65 (echo 6 15 (call 11 14 (codes "f") [] ∷ []) ∷ declared returns_1 ∷ declared returns_b ∷ []) ∷ [] }

  called_before_codes : codes_of called_before
      ≡ with_codes (placed_at 0 16 (a_body returns_1 None false) ∷ placed_at 0 40 (a_body returns_b None false) ∷ []) []
  unfolding declarations_in
  called_before_codes = simp trees

  called_before_is_apart : HasPlacesApart called_before
  unfolding IsDistinct
  called_before_is_apart = record {
    codes = subst (λ (c : Codes). IsDistinct is_site (map (λ (x : Placed). x.site) c.codes)) (sym called_before_codes)
        ((refl, tt), (tt, tt));
    statics = subst (λ (c : Codes). IsDistinct is_site c.statics) (sym called_before_codes) tt;
  }
