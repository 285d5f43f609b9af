-- Functions of two lists, gathered from the last one to the first.
use Rattle.std.proofs.Common.{◌≡◌, ◌∙◌, List, [], ◌∷◌, ◌++◌, map, reverse, sym, ap, append_assoc}
use Rattle.std.proofs.lemmas.List.{reverse-append}
use Rattle.hph_wasm.specs.declared.module.Func.{Func}

-- one more function is gathered
pub one_more_function : {X : Type 0} (part : Func → X) (all before now : List X) (x : X) (funcs more : List Func) (f : Func) →
    all ≡ before ++ map part (reverse funcs) → before ≡ now ++ x ∷ [] → part f ≡ x → more ≡ funcs ++ f ∷ [] → all ≡ now ++ map part (reverse more)
one_more_function part all before now x funcs more f so_far popped own pushed =
    let turned : reverse more ≡ f ∷ reverse funcs = ap reverse pushed ∙ reverse-append funcs (f ∷ []) in
    let parts : map part (reverse more) ≡ x ∷ map part (reverse funcs) = ap (map part) turned ∙ ap (λ y. y ∷ map part (reverse funcs)) own in
    so_far ∙ ap (λ l. l ++ map part (reverse funcs)) popped ∙ append_assoc now (x ∷ []) (map part (reverse funcs)) ∙ ap (λ l. now ++ l) (sym parts)
