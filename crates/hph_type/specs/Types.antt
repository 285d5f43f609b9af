-- Types of PHP values: sets of kinds with what they say of objects. Source: this project's own.
use Rattle.std.specs.Prelude.{◌≡◌, ◌==◌, ◌&&◌, Bool, true, false}
use Rattle.std.specs.Bool.{Decides}
use Rattle.std.specs.Cmp.{IsEquivalence, decided}
use Rattle.std.proofs.Common.{◌∙◌, sym, ap, refl, true≢false}
use Rattle.std.proofs.lemmas.Bool.{and_parts, and_from}
use Rattle.std.proofs.lemmas.Bool.Decides.{Decides-eqb}
use Rattle.hph_type.specs.declared.object.ObjPart.{ObjPart}
use Rattle.hph_type.specs.declared.object.ObjPart.TheVariants.{NoObj, Of, AnyObj}
use Rattle.hph_type.specs.Kinds.{Kinds, kinds_where, bits_of, kinds_of-bits_of, kinds_of}

-- A type is a set of kinds and an object part.
pub record PhpType : Type 0 where
  pub kinds : Kinds
  pub obj : ObjPart

-- the empty type, which no value has
abbrev pub none : PhpType
none = record { kinds = kinds_where (λ _. false); obj = NoObj }

-- the type that every value has
abbrev pub top : PhpType
top = record { kinds = kinds_where (λ _. true); obj = AnyObj }

-- whether two object parts are one
abbrev pub same_part : ObjPart → ObjPart → Bool
same_part NoObj NoObj = true
same_part (Of c) (Of d) = c == d
same_part AnyObj AnyObj = true
same_part _ _ = false

-- whether two types are one
abbrev pub same_type : PhpType → PhpType → Bool
same_type a b = (bits_of a.kinds == bits_of b.kinds) && same_part a.obj b.obj

-- Equal parts are one part.
same_part-same : (a b : ObjPart) → same_part a b ≡ true → a ≡ b
same_part-same NoObj NoObj e = refl
same_part-same NoObj (Of d) e = absurd (true≢false (sym e))
same_part-same NoObj AnyObj e = absurd (true≢false (sym e))
same_part-same (Of c) NoObj e = absurd (true≢false (sym e))
same_part-same (Of c) (Of d) e = ap Of ((Decides-eqb c d).0 e)
same_part-same (Of c) AnyObj e = absurd (true≢false (sym e))
same_part-same AnyObj NoObj e = absurd (true≢false (sym e))
same_part-same AnyObj (Of d) e = absurd (true≢false (sym e))
same_part-same AnyObj AnyObj e = refl

-- A part is equal to itself.
same_part-refl : (a : ObjPart) → same_part a a ≡ true
same_part-refl NoObj = refl
same_part-refl (Of c) = (Decides-eqb c c).1 refl
same_part-refl AnyObj = refl

-- Equal types are one type.
pub same_type_decides : (a b : PhpType) → Decides (same_type a b) (a ≡ b)
same_type_decides a b = (
  λ e.
      let parts = and_parts _ _ e in
      let kinds : a.kinds ≡ b.kinds =
      sym (kinds_of-bits_of a.kinds) ∙ ap kinds_of ((Decides-eqb (bits_of a.kinds) (bits_of b.kinds)).0 parts.0)
      ∙ kinds_of-bits_of b.kinds in
      λ i. record { kinds = kinds i; obj = same_part-same a.obj b.obj parts.1 i },
  λ e. ap (same_type a) (sym e)
      ∙ and_from _ _ ((Decides-eqb (bits_of a.kinds) (bits_of a.kinds)).1 refl) (same_part-refl a.obj),
)

-- Equality of types is an equivalence.
pub same_type_equiv : IsEquivalence same_type
same_type_equiv = decided same_type same_type_decides
