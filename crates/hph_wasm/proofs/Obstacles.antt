-- The first obstacle before a run is one.
use Rattle.std.proofs.Common.{◌≡◌, inl, inr, ◌∙◌, ℕ, zero, suc, List, [], ◌∷◌, Some, length, take, refl, sym, ap, subst}
use Rattle.std.specs.Prelude.{slice_get}
use Rattle.std.specs.List.{AllByRecursion}
use Rattle.hph_wasm.specs.declared.module.Import.{Import}
use Rattle.hph_wasm.specs.declared.module.Module.{Module}
use Rattle.hph_wasm.specs.Instantiation.{IsWithin, placements}
use Rattle.hph_wasm.specs.Configuration.{Host}
use Rattle.hph_wasm.specs.Run.{HasImport, IsLinked, IsFirstUnlinked, Obstacle, Unlinked, Misfit, IsFirstObstacle, unlinked, misfit, IsReady, HasOneObstacle}
use Rattle.hph_wasm.proofs.Numbered.{all-at}

-- Two elements that something doesn't hold of, and of none before each, are at one place.
first-same : {X : Type 0} (P : X → Type 0) (xs : List X) (j k : ℕ) (x y : X) → slice_get xs j ≡ Some x → (P x → ⊥) →
    AllByRecursion P (take j xs) → slice_get xs k ≡ Some y → (P y → ⊥) → AllByRecursion P (take k xs) → j ≡ k
first-same P [] j k x y there fails before there' fails' before' = let none : ⊥ = cc in absurd none
first-same P (z ∷ xs) zero zero x y there fails before there' fails' before' = refl
first-same P (z ∷ xs) zero (suc k) x y there fails before there' fails' before' =
    let same : z ≡ x = cc in absurd (fails (subst P same before'.0))
first-same P (z ∷ xs) (suc j) zero x y there fails before there' fails' before' =
    let same : z ≡ y = cc in absurd (fails' (subst P same before.0))
first-same P (z ∷ xs) (suc j) (suc k) x y there fails before there' fails' before' =
    ap suc (first-same P xs j k x y there fails before.1 there' fails' before'.1)

-- All of a list is the whole list.
pub take-all : {X : Type 0} (xs : List X) → take (length xs) xs ≡ xs
take-all [] = refl
take-all (x ∷ xs) = ap (λ l. x ∷ l) (take-all xs)

module _ {H E : Type 0} (host : Host H E) (m : Module) where
  -- Where all imports but `main` are there, none is missing.
  none_missing : (k : ℕ) (import : Import) → AllByRecursion (HasImport host m) m.imports → slice_get m.imports k ≡ Some import →
      (HasImport host m import → ⊥) → ⊥
  none_missing k import all there fails = fails (all-at (HasImport host m) m.imports k import all there)

  all_before : (k : ℕ) → k ≡ length m.imports → AllByRecursion (HasImport host m) (take k m.imports) →
      AllByRecursion (HasImport host m) m.imports
  all_before k same before = subst (AllByRecursion (HasImport host m)) (ap (λ n. take n m.imports) same ∙ take-all m.imports) before

  unlinked-same : (j k : ℕ) → IsFirstUnlinked host m j → IsFirstUnlinked host m k → j ≡ k
  unlinked-same j k (before, inl (import, there, fails)) (before', inl (import', there', fails')) =
      first-same (HasImport host m) m.imports j k import import' there fails before there' fails' before'
  unlinked-same j k (before, inl (import, there, fails)) (before', inr (same, no_main)) =
      absurd (none_missing j import (all_before k same before') there fails)
  unlinked-same j k (before, inr (same, no_main)) (before', inl (import, there, fails)) =
      absurd (none_missing k import (all_before j same before) there fails)
  unlinked-same j k (before, inr (same, no_main)) (before', inr (same', no_main')) = same ∙ sym same'

  linked-none : (k : ℕ) → IsLinked host m → IsFirstUnlinked host m k → ⊥
  linked-none k linked (before, inl (import, there, fails)) = none_missing k import linked.imports there fails
  linked-none k linked (before, inr (same, no_main)) = no_main linked.main

  obstacle-same : (a b : Obstacle) → IsFirstObstacle host m a → IsFirstObstacle host m b → a ≡ b
  obstacle-same _ _ (unlinked j first) (unlinked k other) = ap Unlinked (unlinked-same j k first other)
  obstacle-same _ _ (unlinked j first) (misfit k linked other) = absurd (linked-none j linked first)
  obstacle-same _ _ (misfit j linked first) (unlinked k other) = absurd (linked-none k linked other)
  obstacle-same _ _ (misfit j linked (place, there, fails, before)) (misfit k linked' (place', there', fails', before')) =
      ap Misfit (first-same IsWithin (placements m) j k place place' there fails before there' fails' before')

  ready-none : (a : Obstacle) → IsReady host m → IsFirstObstacle host m a → ⊥
  ready-none _ ready (unlinked k first) = linked-none k ready.linked first
  ready-none _ ready (misfit k linked (place, there, fails, before)) = fails (all-at IsWithin (placements m) k place ready.fit there)

  pub has_one_obstacle : HasOneObstacle host m
  has_one_obstacle = (obstacle-same, ready-none)
