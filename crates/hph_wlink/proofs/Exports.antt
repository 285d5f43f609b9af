-- The search for an exported function, export by export.
use Rattle.std.proofs.Common.{◌≡◌, ◌∙◌, ℕ, ◌+◌, ◌<◌, true, false, List, ◌∷◌, length, drop, get_or, sym, ap, cond, bytes_eq}
use Rattle.std.proofs.lemmas.List.{at_drop_more}
use Rattle.hph_wasm.specs.declared.module.Export.{Export}
use Rattle.hph_wasm.specs.Run.{function_of, exported_function}

module _ (name : List ℕ) (exports : List Export) (n : ℕ) (export : Export) where
  -- The export at a number, if it is the first that is left.
  here : n < length exports → export ≡ get_or exports n export →
      exported_function name (drop n exports) ≡ cond (bytes_eq export.name name) (function_of export.desc) (exported_function name (drop (n + 1) exports))
  here within is = at_drop_more (exported_function name) exports n export within ∙
      ap (λ (e : Export). exported_function name (e ∷ drop (n + 1) exports)) (sym is)

  pub found : n < length exports → export ≡ get_or exports n export → bytes_eq export.name name ≡ true →
      exported_function name (drop n exports) ≡ function_of export.desc
  found within is same = here within is ∙ ap (λ b. cond b (function_of export.desc) (exported_function name (drop (n + 1) exports))) same

  pub passed : n < length exports → export ≡ get_or exports n export → bytes_eq export.name name ≡ false →
      exported_function name (drop n exports) ≡ exported_function name (drop (n + 1) exports)
  passed within is other = here within is ∙ ap (λ b. cond b (function_of export.desc) (exported_function name (drop (n + 1) exports))) other
