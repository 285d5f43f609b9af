-- Codes tell types.
use Rattle.std.proofs.Common.{◌≡◌, ◌<◌, ◌/◌, ◌%◌, ◌^◌, ◌∙◌, ℕ, Bool, true, false, Some, sym, ap, arith}
use Rattle.std.specs.Prelude.{◌==◌}
use Rattle.std.proofs.lemmas.Bool.{eq-eqb, eqb-true, cond-true}
use Rattle.std.proofs.lemmas.Option.{cond_some}
use Rattle.hph_type.specs.declared.object.ObjPart.{ObjPart}
use Rattle.hph_type.specs.declared.object.ObjPart.TheVariants.{NoObj, Of, AnyObj}
use Rattle.hph_type.specs.Kinds.{Kinds, count, bits_of, kinds_of, kinds_of-bits_of}
use Rattle.hph_type.specs.Types.{PhpType}
use Rattle.hph_type.specs.Classes.{Parents}
use Rattle.hph_type.specs.Order.{IsPartOf, IsOf}
use Rattle.hph_type.specs.Codes.{part_code, code, part_from, decoded, of_code}
use Rattle.hph_type.specs.Laws.{HasCodes}

-- A count is at most 1.
count-lt : (a : Bool) → count a < 2
count-lt true = omega arith
count-lt false = omega arith

-- The bits of five kinds are below 32.
pub bits_of-lt : (kinds : Kinds) → bits_of kinds < 32
bits_of-lt kinds =
    let l0 = count-lt kinds.null in
    let l1 = count-lt kinds.bool in
    let l2 = count-lt kinds.int in
    let l3 = count-lt kinds.str in
    let l4 = count-lt kinds.arr in
    omega arith

-- An object part is told by its code.
part_from-code : (tree : Parents) (part : ObjPart) → IsPartOf tree part → (number : ℕ)
    → number / 32 ≡ part_code part → part_from (number / 32 % 4) (number / 256 % 2 ^ 32) ≡ part
part_from-code tree NoObj of number e =
    let tag : number / 32 % 4 ≡ 0 = omega arith in
    ap (λ t. part_from t (number / 256 % 2 ^ 32)) tag
part_from-code tree (Of class) of number e =
    let tag : number / 32 % 4 ≡ 1 = omega arith in
    let fits : class < 2 ^ 32 = of.1 in
    let named : number / 256 % 2 ^ 32 ≡ class = omega arith in
    ap (λ t. part_from t (number / 256 % 2 ^ 32)) tag ∙ ap Of named
part_from-code tree AnyObj of number e =
    let tag : number / 32 % 4 ≡ 2 = omega arith in
    ap (λ t. part_from t (number / 256 % 2 ^ 32)) tag

part_code-lt : (tree : Parents) (part : ObjPart) → IsPartOf tree part → part_code part < 2 ^ 36
part_code-lt tree NoObj of = omega arith
part_code-lt tree (Of class) of = let fits : class < 2 ^ 32 = of.1 in omega arith
part_code-lt tree AnyObj of = omega arith

-- The bits of a type's code tell the type.
decoded-code : (tree : Parents) (t : PhpType) → IsOf tree t → decoded (code t) ≡ t
unfolding code IsOf
decoded-code tree t of =
    let low : bits_of t.kinds < 32 = bits_of-lt t.kinds in
    let kinds : code t % 32 ≡ bits_of t.kinds = omega arith in
    let part : code t / 32 ≡ part_code t.obj = omega arith in
    λ i. record {
      kinds = (ap kinds_of kinds ∙ kinds_of-bits_of t.kinds) i;
      obj = part_from-code tree t.obj of (code t) part i;
    }

pub types_have_codes : (tree : Parents) → HasCodes tree
unfolding of_code code IsOf
types_have_codes tree = record {
  told = λ t of.
      let same : decoded (code t) ≡ t = decoded-code tree t of in
      cond-true (code (decoded (code t)) == code t) _ _ (eq-eqb _ _ (ap code same)) ∙ ap Some same;
  fits = λ t of.
      let low : bits_of t.kinds < 32 = bits_of-lt t.kinds in
      let part : part_code t.obj < 2 ^ 36 = part_code-lt tree t.obj of in
      omega arith;
  only = λ number t e.
      let found = cond_some (code (decoded number) == number) (decoded number) t e in
      ap code (sym found.1) ∙ eqb-true _ _ found.0;
}
