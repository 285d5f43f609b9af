-- Taking kinds and types from a stack.
use Rattle.std.proofs.Common.{◌≡◌, ◌∙◌, List, [], ◌∷◌, ◌++◌, Option, Some, None, Bool, true, false, cond, map, refl, sym, ap, subst}
use Rattle.std.proofs.lemmas.List.{append-nil}
use Rattle.hph_wvalid.specs.Stacks.{Stack}
use Rattle.hph_wasm.specs.declared.types.ValType.{ValType}
use Rattle.hph_wasm.specs.declared.types.ValType.TheVariants.{I32, I64}
use Rattle.hph_wvalid.specs.declared.stack.Kind.{Kind}
use Rattle.hph_wvalid.specs.declared.stack.Kind.TheVariants.{Known, Any}
use Rattle.hph_wasm.specs.Choice.{if_some}
use Rattle.hph_wasm.specs.Validity.{Takes}
use Rattle.hph_wvalid.specs.Checking.{Signature, From, Last, anything, is_kind, pop_of, pop, pops, push_all, drop_of, obeyed, is_nil, ends}
use Rattle.hph_wvalid.specs.Kinds.{Is, Match, Holds, Told, Obeys}

pub some_of : {A B : Type 0} (o : Option A) (go : A → Option B) (y : B) → if_some o None go ≡ Some y → (x : A) × (o ≡ Some x) × (go x ≡ Some y)
some_of None go y e = let no : ⊥ = cc in absurd no
some_of (Some x) go y e = (x, refl, e)

pub kind_true : (t : ValType) (k : Kind) → is_kind t k ≡ true → Is k t
kind_true t Any e = tt
kind_true I32 (Known I32) e = refl
kind_true I64 (Known I64) e = refl
kind_true I32 (Known I64) e = let no : ⊥ = cc in absurd no
kind_true I64 (Known I32) e = let no : ⊥ = cc in absurd no

pub kind_is : (t : ValType) (k : Kind) → Is k t → is_kind t k ≡ true
kind_is t Any h = refl
kind_is I32 (Known I32) h = refl
kind_is I64 (Known I64) h = refl
kind_is I32 (Known I64) h = let no : ⊥ = cc in absurd no
kind_is I64 (Known I32) h = let no : ⊥ = cc in absurd no

passed : {A : Type 0} (b : Bool) (x y : A) → cond b (Some x) None ≡ Some y → (b ≡ true) × (x ≡ y)
passed true x y e = (refl, cc)
passed false x y e = let no : ⊥ = cc in absurd no

pop_sound : (t : ValType) (kinds : List Kind) (free : Bool) (s : Stack) → pop_of t kinds free ≡ Some s → (ts : List ValType) → Holds s ts → Match kinds free (t ∷ ts)
pop_sound t [] true s e ts h = tt
pop_sound t [] false s e ts h = let no : ⊥ = cc in absurd no
pop_sound t (k ∷ kinds) free s e ts h =
    let p = passed (is_kind t k) (record { kinds = kinds; free = free }) s e in (kind_true t k p.0, subst (λ s. Holds s ts) (sym p.1) h)

pop_complete : (t : ValType) (kinds : List Kind) (free : Bool) (ts : List ValType) → Match kinds free (t ∷ ts) → (s : Stack) × (pop_of t kinds free ≡ Some s) × Holds s ts
pop_complete t [] true ts h = (anything, refl, tt)
pop_complete t [] false ts h = let no : ⊥ = cc in absurd no
pop_complete t (k ∷ kinds) free ts h = (record { kinds = kinds; free = free }, ap (λ b. cond b (Some (record { kinds = kinds; free = free })) None) (kind_is t k h.0), h.1)

pub pops_sound : (ts : List ValType) (s s' : Stack) → pops ts s ≡ Some s' → (below : List ValType) → Holds s' below → Holds s (ts ++ below)
pops_sound [] s s' e below h = let same : s ≡ s' = cc in subst (λ s. Holds s below) (sym same) h
pops_sound (t ∷ ts) s s' e below h = let o = some_of (pop t s) (pops ts) s' e in pop_sound t s.kinds s.free o.0 o.1 (ts ++ below) (pops_sound ts o.0 s' o.2 below h)

pub pops_complete : (ts : List ValType) (s : Stack) (below : List ValType) → Holds s (ts ++ below) → (s' : Stack) × (pops ts s ≡ Some s') × Holds s' below
pops_complete [] s below h = (s, refl, h)
pops_complete (t ∷ ts) s below h =
    let p = pop_complete t s.kinds s.free (ts ++ below) h in
    let q = pops_complete ts p.0 below p.2 in
    (q.0, ap (λ o. if_some o None (pops ts)) p.1 ∙ q.1, q.2)

pub push_sound : (gives : List ValType) (kinds : List Kind) (free : Bool) (to : List ValType) → Match (map Known gives ++ kinds) free to → (below : List ValType) × (to ≡ gives ++ below) × Match kinds free below
push_sound [] kinds free to h = (to, refl, h)
push_sound (g ∷ gives) kinds free [] h = absurd h
push_sound (g ∷ gives) kinds free (t ∷ to) h = let p = push_sound gives kinds free to h.1 in (p.0, ap (λ x. x ∷ to) (sym h.0) ∙ ap (λ l. g ∷ l) p.1, p.2)

pub push_complete : (gives : List ValType) (kinds : List Kind) (free : Bool) (below : List ValType) → Match kinds free below → Match (map Known gives ++ kinds) free (gives ++ below)
push_complete [] kinds free below h = h
push_complete (g ∷ gives) kinds free below h = (refl, push_complete gives kinds free below h)

pub some_stack : (kinds : List Kind) (free : Bool) → (ts : List ValType) × Match kinds free ts
some_stack [] true = ([], tt)
some_stack [] false = ([], refl)
some_stack (Known t ∷ kinds) free = let p = some_stack kinds free in (t ∷ p.0, (refl, p.1))
some_stack (Any ∷ kinds) free = let p = some_stack kinds free in (I32 ∷ p.0, (tt, p.1))

-- the two readings of a signature
from_told : (takes gives : List ValType) (s : Stack) (o : Option Stack) → pops takes s ≡ o → Told (Obeys (Some (From takes gives))) s (if_some o None (λ s. Some (push_all gives s)))
from_told takes gives s None e = λ from to h r. let p = pops_complete takes s r.0 (subst (Holds s) r.1 h) in let no : ⊥ = cc in no
from_told takes gives s (Some s') e = (
  (λ from to h r.
      let p = pops_complete takes s r.0 (subst (Holds s) r.1 h) in
      let same : p.0 ≡ s' = cc in
      subst (Holds (push_all gives s')) (sym r.2) (push_complete gives s'.kinds s'.free r.0 (subst (λ s. Holds s r.0) same p.2))),
  (λ to h. let q = push_sound gives s'.kinds s'.free to h in (takes ++ q.0, pops_sound takes s s' e q.0 q.2, (q.0, refl, q.1))),
)

last_told : (takes : List ValType) (s : Stack) (o : Option Stack) → pops takes s ≡ o → Told (Obeys (Some (Last takes))) s (if_some o None (λ s. Some anything))
last_told takes s None e = λ from to h r. let p = pops_complete takes s r.0 (subst (Holds s) r.1 h) in let no : ⊥ = cc in no
last_told takes s (Some s') e = (
  (λ from to h r. tt),
  (λ to h. let q = some_stack s'.kinds s'.free in (takes ++ q.0, pops_sound takes s s' e q.0 q.1, (q.0, refl))),
)

pub obeyed_told : (sig : Option Signature) (s : Stack) → Told (Obeys sig) s (obeyed sig s)
obeyed_told None s = λ from to h r. r
obeyed_told (Some (From takes gives)) s = from_told takes gives s (pops takes s) refl
obeyed_told (Some (Last takes)) s = last_told takes s (pops takes s) refl

pub drop_told : (kinds : List Kind) (free : Bool) → Told (λ from to. (t : ValType) × Takes (t ∷ []) [] from to) (record { kinds = kinds; free = free }) (drop_of kinds free)
drop_told [] true = ((λ from to h r. tt), (λ to h. (I32 ∷ to, tt, (I32, (to, refl, refl)))))
drop_told [] false = λ from to h r. let e : [] ≡ r.0 ∷ r.1.0 = sym h ∙ r.1.1 in let no : ⊥ = cc in no
drop_told (k ∷ kinds) free = (
  (λ from to h r. let g = subst (Match (k ∷ kinds) free) r.1.1 h in subst (Match kinds free) (sym r.1.2) g.1),
  (λ to h. given k to h),
)
  where
    given : (k : Kind) (to : List ValType) → Match kinds free to → (from : List ValType) × Match (k ∷ kinds) free from × ((t : ValType) × Takes (t ∷ []) [] from to)
    given (Known t) to h = (t ∷ to, (refl, h), (t, (to, refl, refl)))
    given Any to h = (I32 ∷ to, (tt, h), (I32, (to, refl, refl)))

nil_kinds : (kinds : List Kind) (free : Bool) → is_nil kinds ≡ true → Match kinds free []
nil_kinds [] true e = tt
nil_kinds [] false e = refl
nil_kinds (k ∷ kinds) free e = let no : ⊥ = cc in absurd no

kinds_nil : (kinds : List Kind) (free : Bool) → Match kinds free [] → is_nil kinds ≡ true
kinds_nil [] free h = refl
kinds_nil (k ∷ kinds) free h = absurd h

tested : {A : Type 0} (o : Option A) (go : A → Bool) → if_some o false go ≡ true → (x : A) × (o ≡ Some x) × (go x ≡ true)
tested None go e = let no : ⊥ = cc in absurd no
tested (Some x) go e = (x, refl, e)

pub ends_true : (ts : List ValType) (b : Stack) → ends ts b ≡ true → Holds b ts
ends_true ts b e = let o = tested (pops ts b) (λ s. is_nil s.kinds) e in subst (Holds b) (append-nil ts) (pops_sound ts b o.0 o.1 [] (nil_kinds o.0.kinds o.0.free o.2))

pub holds_ends : (ts : List ValType) (b : Stack) → Holds b ts → ends ts b ≡ true
holds_ends ts b h = let p = pops_complete ts b [] (subst (Holds b) (sym (append-nil ts)) h) in ap (λ o. if_some o false (λ s. is_nil s.kinds)) p.1 ∙ kinds_nil p.0.kinds p.0.free p.2
