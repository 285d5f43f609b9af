-- A type that is the join of an old one and of some type below a third is so of its meet with the third.
use Rattle.std.proofs.Common.{◌≡◌, ◌≢◌, ℕ, ◌<◌, List, sym, refl, subst, ◌∙◌}
use Rattle.hph_sys.specs.Typings.{at}
use Rattle.hph_sys.specs.Shape.{Shape, asked, asked_in}
use Rattle.hph_core.specs.declared.view.View.{View}
use Rattle.hph_core.specs.Conditions.{MayRaise}
use Rattle.hph_machine.specs.Ready.{IsReady}
use Rattle.hph_type.specs.Types.{PhpType}
use Rattle.hph_type.specs.Classes.{Parents}
use Rattle.hph_type.specs.Order.{Leq, IsOf, join, meet}
use Rattle.hph_type.specs.Laws.{HasJoins, HasMeets}
use Rattle.hph_type.proofs.OrderLaws.{types_have_joins, types_have_meets}
use Rattle.hph_core.proofs.Types.{leq_trans, leq_antisym}

module _ (tree : Parents) (old new asked : PhpType) where
  abbrev joins : HasJoins tree
  joins = types_have_joins tree

  abbrev meets : HasMeets tree
  meets = types_have_meets tree

  pub meet_of : IsOf tree new → IsOf tree asked → IsOf tree (meet tree new asked)
  meet_of a b = meets.within new asked a b

  -- the meet is such a type
  pub rises : new ≡ join tree old (meet tree new asked) → (u : PhpType) × Leq tree u asked × (new ≡ join tree old u)
  rises e = (meet tree new asked, meets.below_right new asked, e)

  -- where there is one, the meet is above it
  pub risen : (u : PhpType) → Leq tree u asked → new ≡ join tree old u → new ≡ join tree old (meet tree new asked)
  risen u below e =
      let over : Leq tree u new = subst (Leq tree u) (sym e) (joins.above_right old u) in
      let above : Leq tree old new = subst (Leq tree old) (sym e) (joins.above_left old u) in
      let under : Leq tree u (meet tree new asked) = meets.greatest new asked u over below in
      let up : Leq tree (join tree old u) (join tree old (meet tree new asked)) = joins.least old u (join tree old (meet tree new asked)) (joins.above_left old (meet tree new asked)) (leq_trans tree u (meet tree new asked) (join tree old (meet tree new asked)) under (joins.above_right old (meet tree new asked))) in
      let down : Leq tree (join tree old (meet tree new asked)) new = joins.least old (meet tree new asked) new above (meets.below_left new asked) in
      leq_antisym tree new (join tree old (meet tree new asked)) (subst (λ (t : PhpType). Leq tree t (join tree old (meet tree new asked))) (sym e) up) down

-- What a raise needs is what is asked, and the rest.
abbrev pub IsAsked : Parents → PhpType → PhpType → PhpType → Type 0
IsAsked tree asks old t = (u : PhpType) × Leq tree u asks × (t ≡ join tree old u)

asked_is : (sys : Shape) (T : List PhpType) (s c : ℕ) → asked_in sys.classes (sys.contrib s T) c ≡ asked sys s T c
unfolding asked
asked_is sys T s c = refl

module _ (sys : Shape) (T : List PhpType) (v : View) (s c : ℕ) (t old asks : PhpType) (tree : Parents) (old_is : old ≡ at T c) (tree_is : tree ≡ sys.classes) (asks_is : asks ≡ asked_in sys.classes (sys.contrib s T) c) where
  asks_all : asks ≡ asked sys s T c
  asks_all = asks_is ∙ asked_is sys T s c

  pub may : c < sys.cells → IsReady sys v s c old t → IsAsked tree asks old t → MayRaise sys T v s c (sys.owner c) t
  may inside r some = record {
    hand = r.hand;
    look = r.look;
    cell_in = inside;
    owner_is = refl;
    held = r.held;
    marked = r.marked;
    some = subst (λ (a : PhpType). IsAsked sys.classes a (at T c) t) asks_all (subst (λ (o : PhpType). IsAsked sys.classes asks o t) old_is (subst (λ (p : Parents). IsAsked p asks old t) tree_is some));
    rises = subst (λ (o : PhpType). t ≢ o) old_is r.rises;
    typed = r.typed;
  }

  pub ready : MayRaise sys T v s c (sys.owner c) t → IsReady sys v s c old t
  ready m = record { hand = m.hand; look = m.look; held = m.held; marked = m.marked; rises = subst (λ (o : PhpType). t ≢ o) (sym old_is) m.rises; typed = m.typed }

  pub is_asked : MayRaise sys T v s c (sys.owner c) t → IsAsked tree asks old t
  is_asked m = subst (λ (p : Parents). IsAsked p asks old t) (sym tree_is) (subst (λ (o : PhpType). IsAsked sys.classes asks o t) (sym old_is) (subst (λ (a : PhpType). IsAsked sys.classes a (at T c) t) (sym asks_all) m.some))
