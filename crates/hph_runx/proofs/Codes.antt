-- Code that may be lacking: what holds of its parts holds of the whole.
use Rattle.std.proofs.Common.{◌≡◌, ℕ, ◌+◌, ◌*◌, ◌-◌, ◌≤◌, List, [], ◌∷◌, ◌++◌, refl, sym, ap, ◌∙◌, subst, append_assoc, Option, Some, None}
use Rattle.std.proofs.lemmas.List.{append-nil}
use Rattle.std.specs.Prelude.{Bool, true, false, ◌&&◌, IfSome}
use Rattle.std.specs.Option.{option_map}
use Rattle.hph_wasm.specs.declared.instr.Instr.{Instr}
use Rattle.hph_lowering.specs.Code.{Code, with_code, with_both, plain, all, by_number}

pub with_code_holds : (P Q : List Instr → Type 0) (l : Code) (go : List Instr → List Instr) → IfSome l P →
    ((code : List Instr) → P code → Q (go code)) → IfSome (with_code l go) Q
with_code_holds P Q None go p q = tt
with_code_holds P Q (Some code) go p q = q code p

pub with_both_holds : (P Q R : List Instr → Type 0) (k l : Code) (go : List Instr → List Instr → List Instr) → IfSome k P → IfSome l Q →
    ((a b : List Instr) → P a → Q b → R (go a b)) → IfSome (with_both k l go) R
with_both_holds P Q R None l go p q r = tt
with_both_holds P Q R (Some a) None go p q r = tt
with_both_holds P Q R (Some a) (Some b) go p q r = r a b p q

-- two in a row
pub two_hold : (P Q R : List Instr → Type 0) (k l : Code) → IfSome k P → IfSome l Q → ((a b : List Instr) → P a → Q b → R (a ++ b)) →
    IfSome (all (k ∷ l ∷ [])) R
two_hold P Q R None l p q r = tt
two_hold P Q R (Some a) None p q r = tt
two_hold P Q R (Some a) (Some b) p q r = subst R (ap (λ c. a ++ c) (sym (append-nil b))) (r a b p q)

-- one, and then code that is always there
pub one_holds : (P R : List Instr → Type 0) (k : Code) (b : List Instr) → IfSome k P → ((a : List Instr) → P a → R (a ++ b)) →
    IfSome (all (k ∷ plain b ∷ [])) R
one_holds P R None b p r = tt
one_holds P R (Some a) b p r = subst R (ap (λ c. a ++ c) (sym (append-nil b))) (r a p)

pub three_hold : (P Q R S : List Instr → Type 0) (k l m : Code) → IfSome k P → IfSome l Q → IfSome m R →
    ((a b c : List Instr) → P a → Q b → R c → S (a ++ (b ++ c))) → IfSome (all (k ∷ l ∷ m ∷ [])) S
three_hold P Q R S None l m p q r go = tt
three_hold P Q R S (Some a) None m p q r go = tt
three_hold P Q R S (Some a) (Some b) None p q r go = tt
three_hold P Q R S (Some a) (Some b) (Some c) p q r go = subst S (ap (λ c. a ++ (b ++ c)) (sym (append-nil c))) (go a b c p q r)

-- three in a row, and then code that is always there
pub four_hold : (P Q R S : List Instr → Type 0) (k l m : Code) (end : List Instr) → IfSome k P → IfSome l Q → IfSome m R →
    ((a b c : List Instr) → P a → Q b → R c → S (a ++ (b ++ (c ++ end)))) → IfSome (all (all (k ∷ l ∷ m ∷ []) ∷ plain end ∷ [])) S
four_hold P Q R S None l m end p q r go = tt
four_hold P Q R S (Some a) None m end p q r go = tt
four_hold P Q R S (Some a) (Some b) None end p q r go = tt
four_hold P Q R S (Some a) (Some b) (Some c) end p q r go = subst S
    (sym (ap (λ x. (a ++ (b ++ x)) ++ (end ++ [])) (append-nil c) ∙ ap (λ x. (a ++ (b ++ c)) ++ x) (append-nil end)
    ∙ append_assoc a (b ++ c) end ∙ ap (λ x. a ++ x) (append_assoc b c end))) (go a b c p q r)

-- one alone
pub alone_holds : (P : List Instr → Type 0) (k : Code) → IfSome k P → IfSome (all (k ∷ [])) P
alone_holds P None p = tt
alone_holds P (Some a) p = subst P (sym (append-nil a)) p

-- two, with code between them that is always there
pub between_holds : (P R S : List Instr → Type 0) (k m : Code) (mid : List Instr) → IfSome k P → IfSome m R →
    ((a c : List Instr) → P a → R c → S (a ++ (mid ++ c))) → IfSome (all (k ∷ plain mid ∷ m ∷ [])) S
between_holds P R S None m mid p r go = tt
between_holds P R S (Some a) None mid p r go = tt
between_holds P R S (Some a) (Some c) mid p r go = subst S (ap (λ c. a ++ (mid ++ c)) (sym (append-nil c))) (go a c p r)

-- where the last is lacking, all is
pub last_lacks : (S : List Instr → Type 0) (k : Code) (mid : List Instr) → IfSome (all (k ∷ plain mid ∷ None ∷ [])) S
last_lacks S None mid = tt
last_lacks S (Some a) mid = tt

-- a list that goes on
pub more_hold : (P Q R : List Instr → Type 0) (k : Code) (ls : List Code) → IfSome k P → IfSome (all ls) Q →
    ((a b : List Instr) → P a → Q b → R (a ++ b)) → IfSome (all (k ∷ ls)) R
more_hold P Q R k ls p q r = with_both_holds P Q R k (all ls) (λ code rest. code ++ rest) p q r

pub by_number_holds : (P : List Instr → Type 0) (o : Option ℕ) (go : ℕ → List Instr) → ((i : ℕ) → o ≡ Some i → P (go i)) → IfSome (by_number o go) P
by_number_holds P None go p = tt
by_number_holds P (Some i) go p = p i refl

pub holds_more : (P Q : List Instr → Type 0) (l : Code) → IfSome l P → ((code : List Instr) → P code → Q code) → IfSome l Q
holds_more P Q None p q = tt
holds_more P Q (Some code) p q = q code p

-- both of two tests
pub left_of : (a b : Bool) → (a && b) ≡ true → a ≡ true
left_of true b e = refl
left_of false b e = e

pub right_of : (a b : Bool) → (a && b) ≡ true → b ≡ true
right_of true b e = e
right_of false b e = absurd (false_true e)
  where
    false_true : false ≡ true → ⊥
    false_true e = cc

-- what is related to things is related to what is equal to them
pub by_four : {A B C D : Type 0} (R : A → B → C → D → Type 0) {x x' : A} {y y' : B} {z z' : C} {w w' : D} → x ≡ x' → y ≡ y' → z ≡ z' → w ≡ w' → R x' y' z' w' → R x y z w
by_four R {x} {x'} {y} {y'} {z} {z'} {w} {w'} e f g h p =
    subst (λ x. R x y z w) (sym e) (subst (λ y. R x' y z w) (sym f) (subst (λ z. R x' y' z w) (sym g) (subst (λ w. R x' y' z' w) (sym h) p)))
