-- The events of specs/TwoRun.antt are enabled, and answer as they should.
use Rattle.std.proofs.Common.{◌≡◌, ◌≢◌, ℕ, zero, suc, ◌<◌, ◌≤◌, Bool, true, false, List, [], ◌∷◌, ◌++◌, Option, None, Some, sym, refl, ap, subst, ◌∙◌, inl, inr, arith, true≢false, get_or, ◌/◌, ◌%◌, lit<}
use Rattle.std.specs.Int.{bit_at}
use Rattle.std.proofs.lemmas.Nat.Bits.{bit_at_above, bit_at-zero}
use mathlib.Core.Logic.{dite}
use native.Mathlib.Decide.{dec_lt}
use Rattle.hph_core.proofs.EventsKeep.{get_past}
use Rattle.hph_type.specs.Types.{PhpType, none}
use Rattle.hph_type.specs.declared.kind.Kind.TheVariants.{Int, Str}
use Rattle.hph_type.specs.Order.{Leq, IsOf, join}
use Rattle.hph_type.proofs.OrderLaws.{types_are_ordered, types_have_joins}
use Rattle.hph_sys.specs.Typings.{In, at}
use Rattle.hph_sys.specs.Shape.{asked}
use Rattle.hph_sys.specs.Least.{IsMet}
use Rattle.hph_sys.specs.AskedLaws.{asked-above}
use Rattle.hph_sys.specs.Two.{two, int}
use Rattle.hph_sys.specs.Ring.{str}
use Rattle.hph_core.specs.declared.view.View.{View}
use Rattle.hph_core.specs.State.{WorkerState, HasAll, entry, member_of}
use Rattle.hph_core.specs.Conditions.{HoldsLook, MayRaise, MayFinish, MayPutBack, MayMark}
use Rattle.hph_core.specs.Events.{run, AllEnabled, Lives}
use Rattle.hph_core_tests.specs.TwoRun.{begin, meeting, marking, events, answers_along, expected, GoesThrough, Refuses}

small0 : 0 < 2
small0 = omega arith

small1 : 1 < 2
small1 = omega arith

is_int : IsOf [] int
unfolding IsOf
is_int = tt

-- a type that is int is met by int
met_int : (pair : ℕ × PhpType) (cell : ℕ) (cells : List PhpType) → pair ≡ (cell, int) → at cells cell ≡ int → Leq [] pair.1 (at cells pair.0)
met_int pair cell cells same is =
    subst (λ (p : ℕ × PhpType). Leq [] p.1 (at cells p.0)) (sym same) (subst (Leq [] int) (sym is) ((types_are_ordered []).reflexive int))

int_met0 : IsMet two (int ∷ none ∷ []) 0
int_met0 pair (inl same) = met_int pair 0 (int ∷ none ∷ []) same refl
int_met0 pair (inr no_more) = absurd no_more

int_met1 : IsMet two (int ∷ int ∷ []) 1
int_met1 pair (inl same) = met_int pair 1 (int ∷ int ∷ []) same refl
int_met1 pair (inr no_more) = absurd no_more

from_none : int ≡ join [] none int
unfolding join
from_none = refl

asks0 : (T : List PhpType) → Leq [] int (asked two 0 T 0)
unfolding asked
asks0 T = asked-above [] ((0, int) ∷ []) (0, int) (inl refl)

asks1 : Leq [] int (asked two 1 (int ∷ none ∷ []) 1)
unfolding asked
asks1 = asked-above [] ((1, int) ∷ []) (1, int) (inl refl)

int_rises : int ≢ none
int_rises e = true≢false (ap (λ (t : PhpType). t.kinds.int) e)

full0 : (holds : List ℕ) → In 0 holds → (d : ℕ) → In d (two.look 0) → In d holds
full0 holds has d (inl e) = subst (λ (k : ℕ). In k holds) (sym e) has
full0 holds has d (inr no_more) = absurd no_more

full1 : (holds : List ℕ) → In 0 holds → In 1 holds → (d : ℕ) → In d (two.look 1) → In d holds
full1 holds a b d (inl e) = subst (λ (k : ℕ). In k holds) (sym e) a
full1 holds a b d (inr (inl e)) = subst (λ (k : ℕ). In k holds) (sym e) b
full1 holds a b d (inr (inr no_more)) = absurd no_more

reader0 : (r : ℕ) → In r (two.readers 0) → In r (1 ∷ [])
reader0 r i = i

no_reader : (r : ℕ) → In r (two.readers 1) → In r []
no_reader r i = i

not_held : (d : ℕ) → ¬ In d []
not_held d i = i

not_held1 : ¬ In {A = ℕ} 1 (0 ∷ [])
not_held1 (inl e) = absurd (omega arith)
not_held1 (inr no_more) = no_more

begins : HasAll 2 (3 ∷ [])
begins = record { len = refl; has = has; has_not = has_not }
  where
    has : (j : ℕ) → j < 2 → member_of (3 ∷ []) j ≡ 1
    has zero h = refl
    has (suc zero) h = refl
    has (suc (suc j)) h = absurd (omega arith)

    has_not : (j : ℕ) → 2 ≤ j → member_of (3 ∷ []) j ≡ 0
    has_not j h = dite (dec_lt j 64)
        (λ l. ap (λ (k : ℕ). bit_at (get_or (3 ∷ []) k 0) (j % 64)) (let z : j / 64 ≡ 0 = omega arith in z) ∙ bit_at_above 3 2 (j % 64) (lit< tt) (omega arith))
        (λ n. ap (λ (m : ℕ). bit_at m (j % 64)) (get_past (3 ∷ []) (j / 64) 0 (let z : 1 ≤ j / 64 = omega arith in z)) ∙ bit_at-zero (j % 64))

pub enabled : AllEnabled two begin events
enabled = (
  ((small0, refl), small0, refl, refl),
  (
    ((small0, refl), small0, not_held 0),
    (
      ((small0, refl), small0, inl refl),
      (
        ((small1, refl), small1, refl, refl),
        (
          ((small1, refl), small0, not_held 0),
          (
            ((small1, refl), record { hand = refl; no_debt = refl; met = (0, 0, inl refl, refl) }),
            (
              ((small0, refl), (0, refl), refl),
              (
                ((small0, refl), record { scope_in = small1; debt = refl; near = (0, inl refl, inl refl) }),
                (
                  ((small0, refl), λ e. absurd (true≢false e)),
                  (
                    ((small0, refl), (0, record { hand = refl; look = full0 (0 ∷ []) (inl refl); cell_in = small0; owner_is = refl; held = inl refl; marked = reader0; some = (int, asks0 (none ∷ none ∷ []), from_none); rises = int_rises; typed = is_int })),
                    (
                      ((small0, refl), λ _. (0, record { no_debt = refl; hand = refl; look = full0 (0 ∷ []) (inl refl); met = int_met0 })),
                      (
                        ((small0, refl), small0, inl refl),
                        (
                          (small0, refl),
                          (
                            ((small1, refl), small1, refl, refl),
                            (
                              ((small1, refl), small0, not_held 0),
                              (
                                ((small1, refl), small1, not_held1),
                                (
                                  ((small1, refl), small0, inr (inl refl)),
                                  (
                                    ((small1, refl), small1, inl refl),
                                    (
                                      ((small1, refl), (1, record { hand = refl; look = full1 (1 ∷ 0 ∷ []) (inr (inl refl)) (inl refl); cell_in = small1; owner_is = refl; held = inl refl; marked = no_reader; some = (int, asks1, from_none); rises = int_rises; typed = is_int })),
                                      (
                                        ((small1, refl), λ _. (1, record { no_debt = refl; hand = refl; look = full1 (1 ∷ 0 ∷ []) (inr (inl refl)) (inl refl); met = int_met1 })),
                                        (
                                          ((small1, refl), small1, inl refl),
                                          (
                                            ((small1, refl), small0, inl refl),
                                            ((small1, refl), tt),
                                          ),
                                        ),
                                      ),
                                    ),
                                  ),
                                ),
                              ),
                            ),
                          ),
                        ),
                      ),
                    ),
                  ),
                ),
              ),
            ),
          ),
        ),
      ),
    ),
  ),
)

pub goes_through : GoesThrough
goes_through = record { begins = begins; enabled = enabled; answered = refl; put_back_counted = refl; added = refl; paid = refl; cells = refl }

-- a string is no int
str_not_int : ¬ Leq [] str int
unfolding Leq
str_not_int low = let bad : false ≡ true = low.kinds Str refl in absurd (true≢false (sym bad))

int_not_none : ¬ Leq [] int none
unfolding Leq
int_not_none low = let bad : false ≡ true = low.kinds Int refl in absurd (true≢false (sym bad))

asked_is_int : (T : List PhpType) → Leq [] (asked two 0 T 0) int
unfolding asked join
asked_is_int T = (types_are_ordered []).reflexive int

no_str : (u : PhpType) → Leq [] u int → str ≢ join [] none u
no_str u low e = str_not_int (subst (λ (t : PhpType). Leq [] t int) (sym e) ((types_have_joins []).least none u int ((types_are_ordered []).none_least int) low))

hand_zero : (s : ℕ) → Some 0 ≡ Some s → 0 ≡ s
hand_zero s e = cc

pub refuses : Refuses
refuses = record {
  raise_unasked = λ h. let may = h.1.1 in let u = may.some in
      no_str u.0 ((types_are_ordered []).transitive u.0 (asked two 0 (none ∷ none ∷ []) 0) int (subst (λ (s : ℕ). Leq [] u.0 (asked two s (none ∷ none ∷ []) 0)) (sym (hand_zero h.1.0 may.hand)) u.1) (asked_is_int (none ∷ none ∷ []))) u.2;
  drop_unmet = λ h. let d = h.1 refl in int_not_none (d.1.met (0, int) (subst (λ (s : ℕ). In (let p : ℕ × PhpType = (0, int) in p) (two.contrib s (none ∷ none ∷ []))) (hand_zero d.0 d.1.hand) (inl refl)));
  put_back_needless = λ h. let bad : None ≡ Some (h.1.met.0, h.1.met.1) = h.1.met.3 in absurd (cc);
  raise_unmarked = λ h. h.1.1.marked 1 (inl refl);
}
