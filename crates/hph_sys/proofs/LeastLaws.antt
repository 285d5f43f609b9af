-- The least typing is a solution, the meet of all solutions, and one.
use Rattle.std.proofs.Common.{◌≡◌, ◌<◌, ◌∙◌, inl, inr, ℕ, List, length, sym, subst, arith}
use Rattle.std.specs.Prelude.{slice_set}
use Rattle.std.proofs.lemmas.Bool.{cases_eq}
use Rattle.std.proofs.lemmas.List.{get_or-set_same, get_or-set_other, ext_get_or}
use Rattle.std.proofs.Math.ListN.{length-set}
use Rattle.hph_type.specs.Types.{PhpType, none}
use Rattle.hph_type.specs.Order.{Leq, IsOf}
use Rattle.hph_type.specs.Laws.{IsOrder, HasJoins}
use Rattle.hph_type.proofs.OrderLaws.{types_are_ordered, types_have_joins}
use Rattle.hph_sys.specs.Typings.{at}
use Rattle.hph_sys.specs.Shape.{Shape, IsTyping, asked}
use Rattle.hph_sys.specs.Least.{IsSolution, IsLeast}
use Rattle.hph_sys.specs.Lawful.{Lawful}
use Rattle.hph_sys.specs.Laws.{IsMeetOfSolutions}
use Rattle.hph_sys.specs.AskedLaws.{asked-of, met-asked, asked-met}

module _ (sys : Shape) where
  abbrev order : IsOrder sys.classes
  order = types_are_ordered sys.classes

  abbrev joins : HasJoins sys.classes
  joins = types_have_joins sys.classes

  -- a typing with another type at a cell
  abbrev pub with_cell : List PhpType → ℕ → PhpType → List PhpType
  with_cell typing cell type = slice_set typing cell type

  -- What holds of the new type, and of the old ones elsewhere, holds at each cell.
  pub with-cell : (typing : List PhpType) (cell : ℕ) (type : PhpType) → cell < length typing
      → (P : ℕ → PhpType → Type 0) → P cell type → ((c : ℕ) → P c (at typing c))
      → (c : ℕ) → P c (at (with_cell typing cell type) c)
  with-cell typing cell type within P here else c =
      elim (cases_eq c cell) [
        | inl same ↦
            subst (λ x. P x (at (with_cell typing cell type) x)) (sym same)
            (subst (P cell) (sym (get_or-set_same typing cell type none within)) here)
        | inr other ↦ subst (P c) (sym (get_or-set_other typing cell c type none other)) (else c)
      ]

  -- A typing with another type of the tree is a typing.
  pub typing-with : (typing : List PhpType) (cell : ℕ) (type : PhpType) → cell < sys.cells → IsTyping sys typing
      → IsOf sys.classes type → IsTyping sys (with_cell typing cell type)
  typing-with typing cell type within is of = record {
    len = length-set typing cell type ∙ is.len;
    types = with-cell typing cell type (omega (arith, is.len)) (λ _ t. IsOf sys.classes t) of is.types;
  }

  -- A type of the tree that is below every solution at a cell is below the least typing there.
  below-least : (typing : List PhpType) → IsLeast sys typing → (cell : ℕ) (lower : PhpType) → cell < sys.cells
      → IsOf sys.classes lower
      → ((solution : List PhpType) → IsSolution sys solution → Leq sys.classes lower (at solution cell))
      → Leq sys.classes lower (at typing cell)
  below-least typing least cell lower within of each =
      let inside : cell < length typing = omega (arith, least.is_typing.len) in
      subst (λ t. Leq sys.classes t (at typing cell)) (get_or-set_same typing cell lower none inside)
      (least.greatest (with_cell typing cell lower) (typing-with typing cell lower within least.is_typing of)
      (λ solution is. with-cell typing cell lower inside (λ c t. Leq sys.classes t (at solution c))
      (each solution is) (least.below solution is)) cell)

  -- What a scope asks under the least typing is below every solution.
  asked-below : Lawful sys → (typing : List PhpType) → IsLeast sys typing → (scope cell : ℕ) → scope < sys.scopes
      → (solution : List PhpType) → IsSolution sys solution
      → Leq sys.classes (asked sys scope typing cell) (at solution cell)
  asked-below lawful typing least scope cell within solution is =
      order.transitive _ _ _
      (lawful.monotone scope typing solution within least.is_typing is.is_typing (least.below solution is) cell)
      (met-asked sys solution scope (is.met scope within) cell)

  -- The least typing is a solution.
  least-solution : Lawful sys → (typing : List PhpType) → IsLeast sys typing → IsSolution sys typing
  unfolding asked
  least-solution lawful typing least = record {
    is_typing = least.is_typing;
    met = λ scope within.
        asked-met sys typing scope (λ pair stands.
        let asks = lawful.asks_cells scope typing within least.is_typing pair stands in
        below-least typing least pair.0 (asked sys scope typing pair.0) asks.0
        (asked-of sys.classes (sys.contrib scope typing) pair.0 (λ p there.
        (lawful.asks_cells scope typing within least.is_typing p there).1))
        (asked-below lawful typing least scope pair.0 within));
  }

  pub least_is_the_meet : (typing : List PhpType) → Lawful sys → IsLeast sys typing → IsMeetOfSolutions sys typing
  least_is_the_meet typing lawful least = record {
    solution = least-solution lawful typing least;
    below = least.below;
    greatest = below-least typing least;
  }

  pub lowest_solution_is_least : (typing : List PhpType) → IsMeetOfSolutions sys typing → IsLeast sys typing
  lowest_solution_is_least typing meet = record {
    is_typing = meet.solution.is_typing;
    below = meet.below;
    greatest = λ lower is each. each typing meet.solution;
  }

  pub least_is_one : (a b : List PhpType) → Lawful sys → IsLeast sys a → IsLeast sys b → a ≡ b
  least_is_one a b lawful least_a least_b =
      ext_get_or none a b (least_a.is_typing.len ∙ sym least_b.is_typing.len) (λ cell _.
      order.antisymmetric _ _ (least_a.below b (least-solution lawful b least_b) cell)
      (least_b.below a (least-solution lawful a least_a) cell))
