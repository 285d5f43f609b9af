-- Scopes that wait, and the stack of them.
use Rattle.std.proofs.Common.{◌≡◌, ◌≢◌, ◌<◌, ◌+◌, ◌∙◌, inl, inr, ℕ, Bool, true, false, List, [], ◌∷◌, ◌++◌, length, take, get_or, refl, sym, ap, subst, arith, true≢false}
use Rattle.std.specs.Prelude.{◌==◌, slice_set}
use Rattle.std.proofs.lemmas.Bool.{cases_eq, cases_lt, eq-eqb, ne_eqb}
use Rattle.std.proofs.lemmas.List.{get_or-set_same, get_or-set_other, get_or_past, get_or_default, get_or_append_left, length-append}
use Rattle.std.proofs.Math.Seq.{get_or-append_seam}
use Rattle.hph_plain.specs.Waiting.{waits, one_if, times, StandOnce, Wakes}
use Rattle.hph_plain.proofs.Members.{in_more, more_in}

-- what a number is that counts one truth value
none-false : (is : Bool) → one_if is ≡ 0 → is ≡ false
none-false true e = absurd (let c : ⊥ = omega (arith, e) in c)
none-false false e = refl

one-true : (is : Bool) (n : ℕ) → n + 1 ≡ one_if is → is ≡ true
one-true true n e = refl
one-true false n e = absurd (let c : ⊥ = omega (arith, e) in c)

one-left : (is : Bool) (n : ℕ) → n + 1 ≡ one_if is → n ≡ 0
one-left true n e = omega (arith, e)
one-left false n e = omega (arith, e)

here-one : (scope k : ℕ) → k ≡ scope → one_if (scope == k) ≡ 1
here-one scope k same = ap one_if (eq-eqb scope k (sym same))

other-none : (scope k : ℕ) → k ≢ scope → one_if (scope == k) ≡ 0
other-none scope k other = ap one_if (ne_eqb scope k (λ same. other (sym same)))

times-snoc : (stack : List ℕ) (scope k : ℕ) → times (stack ++ scope ∷ []) k ≡ times stack k + one_if (scope == k)
times-snoc [] scope k = omega arith
times-snoc (first ∷ stack) scope k =
    let rest = times-snoc stack scope k in
    omega (arith, rest)

-- Who waits stands in range.
pub waits-in : (flags : List Bool) (k : ℕ) → waits flags k ≡ true → k < length flags
waits-in flags k is =
    elim (cases_lt k (length flags)) [
      | inl within ↦ within
      | inr past ↦ absurd (true≢false (sym is ∙ get_or_past flags k false (omega arith)))
    ]

waits-here : (flags : List Bool) (scope k : ℕ) (is : Bool) → scope < length flags → k ≡ scope
    → waits (slice_set flags scope is) k ≡ is
waits-here flags scope k is within same =
    ap (waits (slice_set flags scope is)) same ∙ get_or-set_same flags scope is false within

waits-other : (flags : List Bool) (scope k : ℕ) (is : Bool) → k ≢ scope
    → waits (slice_set flags scope is) k ≡ waits flags k
waits-other flags scope k is other = get_or-set_other flags scope k is false other

-- A scope that didn't wait is put on the stack.
pub stand-add : (flags : List Bool) (stack : List ℕ) (scope : ℕ) → scope < length flags → waits flags scope ≡ false
    → StandOnce flags stack → StandOnce (slice_set flags scope true) (stack ++ scope ∷ [])
stand-add flags stack scope within idle stand k =
    times-snoc stack scope k
    ∙ elim (cases_eq k scope) [
      | inl same ↦
          let none : times stack k ≡ 0 = stand k ∙ ap one_if (ap (waits flags) same ∙ idle) in
          let one = here-one scope k same in
          let sum : times stack k + one_if (scope == k) ≡ 1 = omega (arith, none, one) in
          sum ∙ sym (ap one_if (waits-here flags scope k true within same))
      | inr other ↦
          let none = other-none scope k other in
          let was = stand k in
          let sum : times stack k + one_if (scope == k) ≡ one_if (waits flags k) = omega (arith, none, was) in
          sum ∙ sym (ap one_if (waits-other flags scope k true other))
    ]

-- The last of the stack waits.
pub last-waits : (flags : List Bool) (stack : List ℕ) (scope : ℕ) → StandOnce flags (stack ++ scope ∷ [])
    → waits flags scope ≡ true
last-waits flags stack scope stand =
    let all = sym (times-snoc stack scope scope) ∙ stand scope in
    let one = here-one scope scope refl in
    one-true (waits flags scope) (times stack scope) (let e : times stack scope + 1 ≡ one_if (waits flags scope) = omega (arith, all, one) in e)

-- It is taken off.
pub stand-take : (flags : List Bool) (stack : List ℕ) (scope : ℕ) → StandOnce flags (stack ++ scope ∷ [])
    → StandOnce (slice_set flags scope false) stack
stand-take flags stack scope stand k =
    let within = waits-in flags scope (last-waits flags stack scope stand) in
    let all = sym (times-snoc stack scope k) ∙ stand k in
    elim (cases_eq k scope) [
      | inl same ↦
          let one = here-one scope k same in
          one-left (waits flags k) (times stack k) (let e : times stack k + 1 ≡ one_if (waits flags k) = omega (arith, all, one) in e)
          ∙ sym (ap one_if (waits-here flags scope k false within same))
      | inr other ↦
          let none = other-none scope k other in
          let sum : times stack k ≡ one_if (waits flags k) = omega (arith, all, none) in
          sum ∙ sym (ap one_if (waits-other flags scope k false other))
    ]

-- With an empty stack none waits.
pub none-waits : (flags : List Bool) → StandOnce flags [] → (k : ℕ) → waits flags k ≡ false
none-waits flags stand k = none-false (waits flags k) (sym (stand k))

-- All scopes below one wait.
pub record AreFilled (n : ℕ) (flags : List Bool) (stack : List ℕ) : Type 0 where
  pub len : length flags ≡ n
  pub each : (k : ℕ) → k < n → waits flags k ≡ true
  pub stand : StandOnce flags stack

pub filled-start : AreFilled 0 [] []
filled-start = record { len = refl; each = λ k less. absurd (let c : ⊥ = omega (arith, less) in c); stand = λ k. refl }

pub filled-more : (n : ℕ) (flags : List Bool) (stack : List ℕ) → AreFilled n flags stack
    → AreFilled (n + 1) (flags ++ true ∷ []) (stack ++ n ∷ [])
filled-more n flags stack was =
    let len = was.len in
    let here : waits (flags ++ true ∷ []) n ≡ true =
    subst (λ m. waits (flags ++ true ∷ []) m ≡ true) len (get_or-append_seam flags true [] false) in
    let lower : (k : ℕ) → k < n → waits (flags ++ true ∷ []) k ≡ waits flags k =
    λ k less. get_or_append_left flags (true ∷ []) false k (omega (arith, less, len)) in
    let long = length-append flags (true ∷ []) in
    record {
      len = omega (arith, long, len);
      each = λ k less. elim (cases_eq k n) [
        | inl same ↦ ap (waits (flags ++ true ∷ [])) same ∙ here
        | inr other ↦ lower k (omega (arith, less, other)) ∙ was.each k (omega (arith, less, other))
      ];
      stand = λ k. times-snoc stack n k ∙ elim (cases_eq k n) [
        | inl same ↦
            let none : times stack k ≡ 0 = was.stand k ∙ ap one_if (get_or_past flags k false (omega (arith, same, len))) in
            let one = here-one n k same in
            let sum : times stack k + one_if (n == k) ≡ 1 = omega (arith, none, one) in
            sum ∙ sym (ap one_if (ap (waits (flags ++ true ∷ [])) same ∙ here))
        | inr other ↦
            let none = other-none n k other in
            let as_was = was.stand k in
            let sum : times stack k + one_if (n == k) ≡ one_if (waits flags k) = omega (arith, none, as_was) in
            let same : waits (flags ++ true ∷ []) k ≡ waits flags k =
            elim (cases_lt k n) [
              | inl less ↦ lower k less
              | inr more ↦ get_or_past (flags ++ true ∷ []) k false (omega (arith, more, other, long, len))
                  ∙ sym (get_or_past flags k false (omega (arith, more, len)))
            ] in
            sum ∙ sym (ap one_if same)
      ];
    }

-- One reader more.
pub wakes-more : (readers : List ℕ) (i r : ℕ) (old mid new : List Bool) → i < length readers → r ≡ get_or readers i 0
    → Wakes (take i readers) old mid → Wakes (r ∷ []) mid new → Wakes (take (i + 1) readers) old new
wakes-more readers i r old mid new within is before after = record {
  len = after.len ∙ before.len;
  each = λ k. (
    λ now. elim ((after.each k).0 now) [
      | inl then ↦ elim ((before.each k).0 then) [
        | inl was ↦ inl was
        | inr stands ↦ inr (more_in readers i k 0 within (inl stands))
      ]
      | inr stands ↦ elim stands [
        | inl same ↦ inr (more_in readers i k 0 within (inr (same ∙ is)))
        | inr none ↦ absurd none
      ]
    ],
    λ was. (after.each k).1 (elim was [
      | inl earlier ↦ inl ((before.each k).1 (inl earlier))
      | inr stands ↦ elim (in_more readers i k 0 within stands) [
        | inl sooner ↦ inl ((before.each k).1 (inr sooner))
        | inr last ↦ inr (inl (last ∙ sym is))
      ]
    ]),
  );
}

-- what was read of a flag is whether the scope waits
pub read-waits : (flags : List Bool) (scope : ℕ) (read : Bool) → scope < length flags → read ≡ get_or flags scope read
    → waits flags scope ≡ read
read-waits flags scope read within is = get_or_default flags scope false read within ∙ sym is

-- one more on the stack
pub stand-added : (flags : List Bool) (stack more : List ℕ) (scope : ℕ) (read : Bool) → scope < length flags
    → read ≡ get_or flags scope read → read ≡ false → more ≡ stack ++ scope ∷ [] → StandOnce flags stack
    → StandOnce (slice_set flags scope true) more
stand-added flags stack more scope read within is idle pushed stand =
    subst (StandOnce (slice_set flags scope true)) (sym pushed)
    (stand-add flags stack scope within (read-waits flags scope read within is ∙ idle) stand)

pub filled-pushed : (n : ℕ) (flags flags' : List Bool) (stack stack' : List ℕ) → flags' ≡ flags ++ true ∷ []
    → stack' ≡ stack ++ n ∷ [] → AreFilled n flags stack → AreFilled (n + 1) flags' stack'
filled-pushed n flags flags' stack stack' f s was =
    subst (λ x. AreFilled (n + 1) x stack') (sym f)
    (subst (AreFilled (n + 1) (flags ++ true ∷ [])) (sym s) (filled-more n flags stack was))
