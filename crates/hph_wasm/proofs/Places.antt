-- Wherever a run is, the opcodes that are left of a function are the last of its body, so that a trap is at its own opcode.
use Rattle.std.proofs.Common.{◌≡◌, ◌<◌, ◌⊎◌, inl, inr, ◌∙◌, ℕ, zero, suc, ◌+◌, List, [], ◌∷◌, ◌++◌, append_assoc, Some, length, length-append, refl, sym, ap, subst, arith}
use Rattle.std.specs.Prelude.{slice_get}
use Rattle.hph_wasm.specs.declared.instr.Instr.{Instr, Br}
use Rattle.hph_wasm.specs.declared.module.Module.{Module}
use Rattle.hph_wasm.specs.Configuration.{Label}
use Rattle.hph_wasm.specs.Place.{size_outside}
use Rattle.hph_wasm.specs.Opcodes.{Opcode, Of, EndOfCode, instr_opcodes, opcodes}
use Rattle.hph_wasm.specs.Standing.{IsShown, Outside, Stands}
use Rattle.hph_wasm.proofs.OpcodeLists.{opcodes-length}
use Rattle.hph_wasm.proofs.Steps.{IsNoBranch, IsConditional, Entry}

-- As many are left as the labels say.
pub Outside-length : (whole : List Opcode) (labels : List Label) (tail : List Opcode) → Outside whole labels tail → length tail ≡ size_outside labels
Outside-length whole [] tail is = ap length is
Outside-length whole (label ∷ labels) tail (gap, outer, passed, is, front, again, outside) =
    let all : length tail ≡ length gap + length (opcodes label.rest ++ outer) = ap length is ∙ length-append gap (opcodes label.rest ++ outer) in
    omega (arith, all, passed, length-append (opcodes label.rest) outer, opcodes-length label.rest, Outside-length whole labels outer outside)

-- A function's `end` is left.
pub size_outside-positive : (labels : List Label) → 0 < size_outside labels
size_outside-positive [] = omega arith
size_outside-positive (label ∷ labels) = omega (arith, size_outside-positive labels)

-- Behind a front of k elements stands the one at k.
pub get-front : {X : Type 0} (front : List X) (x : X) (more : List X) → slice_get (front ++ x ∷ more) (length front) ≡ Some x
get-front [] x more = refl
get-front (y ∷ front) x more = get-front front x more

-- What is appended changes no element before it.
pub get-append : {X : Type 0} (xs ys : List X) (k : ℕ) → k < length xs → slice_get (xs ++ ys) k ≡ slice_get xs k
get-append [] ys k less = absurd (omega (arith, less))
get-append (x ∷ xs) ys zero less = refl
get-append (x ∷ xs) ys (suc k) less = get-append xs ys k (omega (arith, less))

module _ (m : Module) where
  -- The instruction that is next shows its own opcodes, unless it is a branch.
  pub own_opcodes : (i : Instr) (rest : List Instr) (shown : List Opcode) → IsNoBranch i → IsShown (i ∷ rest) shown → shown ≡ opcodes (i ∷ rest)
  own_opcodes i rest shown own (inl same) = same
  own_opcodes i rest shown own (inr (k, others, first, code, same)) =
      let branch : i ≡ Br k = cc in absurd (subst IsNoBranch branch own)

  -- Behind an instruction what it shows is passed.
  pub past_instr : (f : ℕ) (i : Instr) (rest : List Instr) (labels : List Label) → Stands m f (i ∷ rest) labels → Stands m f rest labels
  past_instr f i rest labels s = elim s.shows [
    | inl same ↦ record {
      func = s.func;
      there = s.there;
      front = s.front ++ instr_opcodes i;
      shown = opcodes rest;
      tail = s.tail;
      is = s.is ∙ ap (λ l. s.front ++ (l ++ s.tail)) same ∙ simp append_assoc refl;
      shows = inl refl;
      outside = s.outside;
    }
    | inr (k, others, first, code, same) ↦
        let behind : others ≡ rest = cc in
        record {
          func = s.func;
          there = s.there;
          front = s.front ++ first ∷ [];
          shown = opcodes rest;
          tail = s.tail;
          is = s.is ∙ ap (λ l. s.front ++ (l ++ s.tail)) (same ∙ ap (λ l. first ∷ opcodes l) behind) ∙ simp append_assoc refl;
          shows = inl refl;
          outside = s.outside;
        }
  ]

  -- A branch that is decided shows what decided it.
  pub onto_branch : (f : ℕ) (i : Instr) (k : ℕ) (rest : List Instr) (labels : List Label) → IsConditional i → Stands m f (i ∷ rest) labels →
      Stands m f (Br k ∷ rest) labels
  onto_branch f i k rest labels one s = elim s.shows [
    | inl same ↦ record {
      func = s.func;
      there = s.there;
      front = s.front;
      shown = s.shown;
      tail = s.tail;
      is = s.is;
      shows = inr (k, rest, Of i, refl, same ∙ ap (λ l. l ++ opcodes rest) one);
      outside = s.outside;
    }
    | inr (j, others, first, code, same) ↦
        let behind : others ≡ rest = cc in
        record {
          func = s.func;
          there = s.there;
          front = s.front;
          shown = s.shown;
          tail = s.tail;
          is = s.is;
          shows = inr (k, rest, first, refl, same ∙ ap (λ l. first ∷ opcodes l) behind);
          outside = s.outside;
        }
  ]

  -- Where a branch to a label goes on stands in the body, before what is outside it.
  again_stands : (i : Instr) (label : Label) (whole front inside tail : List Opcode) → instr_opcodes i ≡ Of i ∷ inside →
      whole ≡ front ++ (opcodes (i ∷ label.rest) ++ tail) → (label.continuation ≡ []) ⊎ (label.continuation ≡ i ∷ []) →
      (before : List Opcode) × (whole ≡ before ++ (opcodes (label.continuation ++ label.rest) ++ tail))
  again_stands i label whole front inside tail first is (inl none) =
      let joined : front ++ (((Of i ∷ inside) ++ opcodes label.rest) ++ tail) ≡ (front ++ Of i ∷ inside) ++ (opcodes label.rest ++ tail) =
      simp append_assoc refl in (
        front ++ Of i ∷ inside,
        is ∙ ap (λ l. front ++ ((l ++ opcodes label.rest) ++ tail)) first ∙ joined ∙
            ap (λ l. (front ++ Of i ∷ inside) ++ (opcodes (l ++ label.rest) ++ tail)) (sym none),
      )
  again_stands i label whole front inside tail first is (inr same) =
      (front, is ∙ ap (λ l. front ++ (opcodes (l ++ label.rest) ++ tail)) (sym same))

  -- An instruction is entered under a label that passes over what is behind the instructions inside.
  pub into_label : (f : ℕ) (i : Instr) (label : Label) (inside : List Instr) (labels : List Label) → Entry i label.rest label inside →
      Stands m f (i ∷ label.rest) labels → Stands m f inside (label ∷ labels)
  into_label f i label inside labels e s =
      let own : s.shown ≡ opcodes (i ∷ label.rest) = own_opcodes i label.rest s.shown e.own s.shows in
      let whole : opcodes s.func.body ++ EndOfCode ∷ [] ≡ s.front ++ (opcodes (i ∷ label.rest) ++ s.tail) =
      s.is ∙ ap (λ l. s.front ++ (l ++ s.tail)) own in
      let again = again_stands i label _ s.front (e.before ++ (opcodes inside ++ e.behind)) s.tail e.split whole e.again in
      record {
        func = s.func;
        there = s.there;
        front = s.front ++ Of i ∷ e.before;
        shown = opcodes inside;
        tail = e.behind ++ (opcodes label.rest ++ s.tail);
        is = whole ∙ ap (λ l. s.front ++ ((l ++ opcodes label.rest) ++ s.tail)) e.split ∙ simp append_assoc refl;
        shows = inl refl;
        outside = (e.behind, s.tail, e.passed, refl, again.0, again.1, s.outside);
      }

  -- Behind a label what it passes over is passed.
  pub past_label : (f : ℕ) (code : List Instr) (label : Label) (labels : List Label) → Stands m f code (label ∷ labels) → Stands m f label.rest labels
  past_label f code label labels s =
      let (gap, outer, passed, left, front, again, outside) = s.outside in
      record {
        func = s.func;
        there = s.there;
        front = s.front ++ (s.shown ++ gap);
        shown = opcodes label.rest;
        tail = outer;
        is = s.is ∙ ap (λ l. s.front ++ (s.shown ++ l)) left ∙ simp append_assoc refl;
        shows = inl refl;
        outside = outside;
      }

  -- A branch to a label leads to what it goes on with.
  pub back_to_label : (f : ℕ) (code : List Instr) (label : Label) (labels : List Label) → Stands m f code (label ∷ labels) →
      Stands m f (label.continuation ++ label.rest) labels
  back_to_label f code label labels s =
      let (gap, outer, passed, left, front, again, outside) = s.outside in
      record {
        func = s.func;
        there = s.there;
        front = front;
        shown = opcodes (label.continuation ++ label.rest);
        tail = outer;
        is = again;
        shows = inl refl;
        outside = outside;
      }
