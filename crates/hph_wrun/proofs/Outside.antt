-- The opcodes outside of the instructions that are left of a block.
use Rattle.std.proofs.Common.{◌≡◌, ◌∙◌, ◌+◌, ℕ, zero, suc, List, [], ◌∷◌, Option, Some, None, Result, Ok, Err, take, drop, sym, ap, refl, arith}
use Rattle.std.specs.Prelude.{IfOk, slice_get}
use Rattle.hph_wasm.specs.declared.instr.Instr.{Instr}
use Rattle.hph_wasm.specs.declared.instr.Instr.TheViews as view
use Rattle.hph_wasm.specs.declared.types.BlockType.{BlockType}
use Rattle.hph_wasm.specs.Blocks.{else_list_size}
use Rattle.hph_wasm.specs.Configuration.{Label}
use Rattle.hph_wasm.specs.Place.{size_outside}
use Rattle.hph_wasm.specs.Rows.{list_size}
use Rattle.hph_wasm.proofs.Rows.{listed-size}
use Rattle.hph_wstate.specs.declared.layers.Entered.{Entered}
use Rattle.hph_wstate.specs.declared.layers.Side.{Side}
use Rattle.hph_wstate.specs.declared.layers.Side.TheVariants.{Then}
use Rattle.hph_wstate.specs.Core.{after_of}
use Rattle.hph_wstate.specs.Changes.{LabelIs}

after_then : (ty : BlockType) (body : List Instr) (other : Option (List Instr)) (code : List Instr) →
    1 + else_list_size other ≡ after_of Then (view.If ty body other ∷ code)
after_then ty body None code = refl
after_then ty body (Some list) code = ap (λ n. 1 + (1 + n)) (sym (listed-size list))

pub after_first : {E : Type 0} (r : Result ℕ E) (side : Side) (block : Instr) (ty : BlockType) (body : List Instr) (other : Option (List Instr)) →
    side ≡ Then → block ≡ view.If ty body other → IfOk r (λ count. count ≡ 1 + else_list_size other) →
    (rest : List Instr) → IfOk r (λ count. count ≡ after_of side (block ∷ rest))
after_first (Ok n) side block ty body other e p h rest = rw (e, p) (h ∙ after_then ty body other rest)
after_first (Err f) side block ty body other e p h rest = tt

more_outside : (labels : List Label) (k : ℕ) (label : Label) → slice_get labels k ≡ Some label →
    size_outside (take (k + 1) labels) ≡ size_outside (take k labels) + (label.after + list_size label.rest)
more_outside [] k label e = let no : ⊥ = cc in absurd no
more_outside (l ∷ labels) zero label e =
    let same : l ≡ label = cc in rw same (omega arith)
more_outside (l ∷ labels) (suc k) label e =
    let next : suc k + 1 ≡ suc (k + 1) = omega arith in
    rw next (let rest = more_outside labels k label e in omega arith)

-- One more label is counted.
pub one_more : (labels : List Label) (k code left new r : ℕ) (e : Entered) → LabelIs labels k (Some e) →
    r ≡ after_of e.side e.here.now + list_size (drop 1 e.here.now) → new ≡ left + r → left ≡ code + size_outside (take k labels) →
    new ≡ code + size_outside (take (k + 1) labels)
one_more labels k code left new r e (label, at, rest, after) is more so_far =
    let step : size_outside (take (k + 1) labels) ≡ size_outside (take k labels) + (label.after + list_size label.rest) = more_outside labels k label at in
    let same : r ≡ label.after + list_size label.rest =
    is ∙ (ap (λ n. n + list_size (drop 1 e.here.now)) (sym after) ∙ ap (λ l. label.after + list_size l) (sym rest)) in
    omega arith
