-- The value that is made has no bytes, and its ghost value is what the rule gives for the argument.
use Rattle.std.proofs.Common.{◌≡◌, [], ◌∷◌, refl}
use Rattle.std.proofs.raw_atomic.Walks.{proved, leaves}
use mir.Syntax.{a_type, dcons, dnil, named}
use mir.Val.{Val, vptr, vstruct, vcons, vnil}
use mir.MapTy.{inst_fn}
use base.Logic.{SProp, emp}
use base.Fml.{Fml}
use types.Kit.{‵, raw, ◌⊛◌, ◌$◌, ◌∵◌, !, qed, by, keep, use0, split, fjoin}
use types.Run.{no_more, and_then, returns, enter}
use types.ByLocal.{alloc_all, pass_all, free_all, look_at, get, sets}
use types.Part.{agg}
use contract.Running.{tables}
use contract.Monad.{fact, fact_i}
use denote.Exit.{yes}
use denote.RattleType.{owns}
use denote.Signature.{types_at, plain}
use denote.Steps.{nothing}
use denote.Shadow.{makes_shadow}
use denote.Param.{param, bounded}
use denote.Builtin.{RefOf}
use denote.Ref.{shr_vals, shr_Tells}
use denote.Triple.Entry.{alive}
use denote.Triple.Walked.{Stays, stay_dropped, walk_of, Goes-dropped}
use Rattle.hph_ghost.specs.contracts.Ghost.{the_row}
use Rattle.hph_ghost.specs.contracts.Ghost.of.{ended, clauses}
use Rattle.hph_ghost.specs.contracts.Ghost.of.Key.{name as key}
use Rattle.hph_ghost.proofs.Ghost.of.Statement.{statement}
use Rattle.hph_ghost.proofs.Ghost.of.Code as code

-- a struct of the marker alone
abbrev bytes : Val
bytes = vstruct (vcons (vstruct vnil) vnil)

pub of_spec : {M : Type 1} → statement M
of_spec 𝓤 𝓛 𝓜 𝓡 wired T X R LT LX LR g d _ =
    let 𝓣 = tables 𝓤 𝓛.H 𝓜 𝓡 𝓡.env in
    let En = ended T X R g d in
    let inst = bounded (a_type ∷ a_type ∷ a_type ∷ []) (T, (X, (R, tt))) (dcons d dnil) in
    let fn = inst_fn inst code.function in
    let c = clauses T X R g d 𝓛 𝓜.mem 𝓡.returns in
    let known = RefOf (0 ∷ []) tt (plain (λ _. param 1 X)) (λ _. tt) in
    let stayed : Stays En.signature.params En.kept = (stay_dropped known yes, tt) in
    proved 𝓛 En stayed c 𝓜 𝓡 (Goes-dropped 𝓛 4 known yes (λ κs x f. refl), tt) (key inst) fn
    (code.unfolded 𝓤 𝓛.H 𝓜 𝓡 wired (T, (X, (R, tt))) d)
    (λ κs. (shr_vals, tt)) (λ κs. (shr_Tells (named 0) κs.0 (param 1 X), tt)) (λ κs qs bounds a gh are.
    let p : Val = vptr a.0.ref_ptr.0 a.0.ref_ptr.1 in
    let r : (the_row (param 0 T)).Denot = record { marker = record {}; value = g.from a.0.now } in
    let owned : Fml = (the_row (param 0 T)).own_val r (bytes ∷ []) in
    let y : (walk_of 𝓛 En stayed c).Ghost = ((κs, qs, bounds, a, (p ∷ [], tt)), gh) in
    let Post : Val → SProp 𝓤 = (walk_of 𝓛 En stayed c).post y in
    qed 𝓛 ((raw (alive 𝓛 En.signature κs qs) ⊛ ‵ (owns (types_at En.signature.params κs) a y.0.4)) ∷ raw ((c κs a).requires gh) ∷ []) ∵
    split ! $ keep ! (0 ∷ []) $
    enter ! 𝓣.C 𝓣.Λ fn (p ∷ []) Post $ alloc_all ! (λ l. pass_all ! refl ((tt, tt), tt) $
    sets ! (agg ! (no_more !)) refl (tt, tt) $ sets ! (agg ! (and_then ! (get ! refl) (no_more !))) refl (tt, (tt, tt)) $
    use0 𝓛 (raw (fact 𝓤 (g.from a.0.now ≡ g.from a.0.now))) (fact_i 𝓤 (g.from a.0.now ≡ g.from a.0.now) (emp 𝓤) refl) $
    use0 𝓛 (‵ owned) (makes_shadow 𝓛 owned ((λ vss. (tt, ((λ uss. (tt, tt)), tt))), tt) (((vstruct vnil ∷ [], tt), (refl, ((tt, (refl, tt)), tt))), tt)) $
    nothing ! $ nothing ! $ fjoin ! $
    returns ! (look_at ! 0 refl) $ free_all ! refl $ keep ! (3 ∷ 0 ∷ 1 ∷ 2 ∷ []) $
    by ! (leaves 𝓛 En stayed c y bytes r (tt, tt) (tt, tt))))
