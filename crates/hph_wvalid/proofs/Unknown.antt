-- Values that are taken where nothing is known of the stack.
use Rattle.std.proofs.Common.{◌≡◌, ◌∙◌, List, [], ◌∷◌, true, Some, refl, sym, ap}
use Rattle.hph_wasm.specs.declared.types.ValType.{ValType}
use Rattle.hph_wvalid.specs.declared.stack.Kind.{Kind}
use Rattle.hph_wvalid.specs.Stacks.{Stack}
use Rattle.hph_wvalid.specs.Checking.{anything, is_nil, pops}

taken_of_anything : (ts : List ValType) → pops ts anything ≡ Some anything
taken_of_anything [] = refl
taken_of_anything (t ∷ ts) = taken_of_anything ts

no_kinds : (kinds : List Kind) → is_nil kinds ≡ true → kinds ≡ []
no_kinds [] e = refl
no_kinds (k ∷ kinds) e = let no : ⊥ = cc in absurd no

-- Values of any types can be taken where nothing is known.
pub taken_of_unknown : (ts : List ValType) (s : Stack) → s.free ≡ true → is_nil s.kinds ≡ true → pops ts s ≡ Some s
taken_of_unknown ts s free none =
    let same : s ≡ anything = ap (λ kinds. record { kinds = kinds; free = s.free }) (no_kinds s.kinds none) ∙ ap (λ b. record { kinds = []; free = b }) free in
    ap (pops ts) same ∙ taken_of_anything ts ∙ ap Some (sym same)
