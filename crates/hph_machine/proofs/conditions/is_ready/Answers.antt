use Rattle.std.proofs.Common.{sym, subst, true≢false}
use Rattle.hph_type.specs.Classes.{Parents}
use Rattle.hph_type.specs.Order.{IsOf}
use Rattle.hph_sys.specs.Typings.{In}
use Rattle.hph_machine.proofs.conditions.is_ready.Goals as goal

pub returns-then-not-has_all : goal.returns-then-not-has_all
returns-then-not-has_all g c = (
  λ t. absurd (true≢false (sym t)),
  λ m. let h = c.has_all.ensures.1 (λ r k. m.marked r (subst (In r) c.readers.ensures k)) in absurd (let f = c.if-not-has_all.true in cc),
)

pub returns : goal.returns
returns g c =
    let r = c.reaches.ensures.0 (let f = c.if-not-reaches.false in cc) in
    let all = c.has_all.ensures.0 (let f = c.if-not-has_all.false in cc) in (
      λ t. let n = c.is_new.ensures.0 t in record {
        hand = r.0.0;
        look = r.0.1;
        held = r.1;
        marked = λ q k. all q (subst (In q) (sym c.readers.ensures) k);
        rises = n.0;
        typed = subst (λ (p : Parents). IsOf p c.args.ty) c.tree.ensures n.1;
      },
      λ m. c.is_new.ensures.1 (m.rises, subst (λ (p : Parents). IsOf p c.args.ty) (sym c.tree.ensures) m.typed),
    )
