-- Terms: what the parser answers is in the grammar.
use Rattle.std.specs.Prelude.{◌≡◌, ℕ, suc, Bool, true, false, ◌&&◌, ◌||◌, List, [], ◌∷◌, Some, None, if◌then◌else◌, nat_lt, refl}
use Rattle.std.proofs.Common.{ap, sym, subst, ◌∙◌, arith}
use Rattle.std.proofs.lemmas.Bool.Decides.{nat_tests}
use Rattle.hph_ast.specs.declared.token.Token.{Token}
use Rattle.hph_ast.specs.declared.token.Kind.{Kind}
use Rattle.hph_ast.specs.declared.token.Kind.TheVariants as k
use Rattle.hph_ast.specs.declared.token.Mark.TheVariants as m
use Rattle.hph_ast.specs.declared.operator.Prefix.{Prefix}
use Rattle.hph_ast.specs.declared.operator.Assignment.{Assignment}
use Rattle.hph_ast.specs.declared.operator.Assignment.TheVariants as a
use Rattle.hph_ast.specs.declared.expr.Expr.{Expr}
use Rattle.hph_ast.specs.declared.expr.Expr.TheVariants as e
use Rattle.hph_ast.specs.declared.expr.Update.{Update}
use Rattle.hph_ast.specs.declared.expr.ArrayForm.TheVariants.{Short, Targets}
use Rattle.hph_ast.specs.Levels.{update_level, prefix_level, prefix_of, assign_level, next, Stops}
use Rattle.hph_ast.specs.Places.{place, on, span}
use Rattle.hph_ast.specs.Shapes.{is_read, is_written, is_source}
use Rattle.hph_ast.specs.Terminals as terminal
use Rattle.hph_ast.specs.Terminals.{IsMark, IsPreUpdate, IsPostUpdate}
use Rattle.hph_ast.specs.Expressions as g
use Rattle.hph_ast.specs.Expressions.{IsExpression, IsTerm, IsPostfix, IsTargets, IsWrittenOnly}
use Rattle.hph_fexpr.specs.declared.form.Form.{Form}
use Rattle.hph_fexpr.specs.declared.form.Form.TheVariants.{Level}
use Rattle.hph_fexpr.specs.declared.elements.Elements.{Elements}
use Rattle.hph_cursor.specs.Steps.{Parser, sees}
use Rattle.hph_cursor.specs.Next.{is_next, assignment_of, pre_update_of, post_update_of, is_set, is_set_kind, is_ampersand}
use Rattle.hph_fexpr.specs.Terms as p
use Rattle.hph_fexpr.proofs.Tools.{some_inj, both_true, map_ok, is_mark_true, Gives, none, some, then_ok, choose_ok, if_ok, Sound}
use Rattle.hph_fexpr.proofs.ArraysSound.{Found, ampersand_true, elements_ok}
use Rattle.hph_fexpr.proofs.PrimariesSound.{array_ok}
use Rattle.hph_fexpr.proofs.PostfixSound.{goes_on_ok, postfix_ok}

-- an answer where nothing follows that binds tighter
pub stopped_ok : {A : Type 0} {P : A → List Token → Type 0} (n : ℕ) (a : A) (ts : List Token) → (Stops n ts → P a ts) →
    Gives P (p.stopped n a ts)
stopped_ok n a ts h = if_ok (nat_lt (next ts) n) (λ e. some (h (record { below = grind (arith, nat_tests, e) }))) (λ _. none)

-- a term; or, where an element may stand alone, one that is only written, and then it ends
pub data Used (alone : Bool) : List Token → Expr → List Token → Type 0 where
  a_term : {ts rest : List Token} {x : Expr} → IsTerm ts x rest → Used alone ts x rest
  an_element : {ts rest : List Token} {x : Expr} → alone ≡ true → IsWrittenOnly ts x rest → Stops 1 rest → Used alone ts x rest

left_true : (x y : Bool) → (x || y) ≡ true → y ≡ false → x ≡ true
left_true true y h f = refl
left_true false y h f = absurd (cc)

unused : (alone : Bool) (ts mid : List Token) (x : Expr) → IsPostfix ts x mid →
    ((alone && (is_written x && nat_lt (next mid) 1)) || is_read x) ≡ true → Used alone ts x mid
unused alone ts mid x d h = go (is_read x) refl
  where
    go : (b : Bool) → is_read x ≡ b → Used alone ts x mid
    go true reads = a_term (g.postfix d reads)
    go false unread = let both = both_true alone (is_written x && nat_lt (next mid) 1) (left_true _ (is_read x) h unread) in
        let ends = both_true (is_written x) (nat_lt (next mid) 1) both.1 in
        an_element both.0 (g.appended d unread ends.0) (record { below = grind (arith, nat_tests, ends.1) })

pre_update_ok : (t : Token) (kind : Kind) (form : Update) → t.kind ≡ kind → pre_update_of kind ≡ Some form → IsPreUpdate t form
pre_update_ok t (k.Mark m.Increment) form is h = subst (IsPreUpdate t) (some_inj h) (terminal.pre_increment is)
pre_update_ok t (k.Mark m.Decrement) form is h = subst (IsPreUpdate t) (some_inj h) (terminal.pre_decrement is)
pre_update_ok t _ form is h = absurd (cc)

post_update_ok : (t : Token) (kind : Kind) (form : Update) → t.kind ≡ kind → post_update_of kind ≡ Some form → IsPostUpdate t form
post_update_ok t (k.Mark m.Increment) form is h = subst (IsPostUpdate t) (some_inj h) (terminal.post_increment is)
post_update_ok t (k.Mark m.Decrement) form is h = subst (IsPostUpdate t) (some_inj h) (terminal.post_decrement is)
post_update_ok t _ form is h = absurd (cc)

assignment_ok : (kind : Kind) (op : Assignment) → assignment_of kind ≡ Some op → kind ≡ k.Assign op
assignment_ok (k.Assign found) op is = ap k.Assign (some_inj is)
assignment_ok _ op is = absurd (cc)

set_true : (op : Assignment) → is_set op ≡ true → op ≡ a.Set
set_true a.Set h = refl
set_true _ h = absurd (cc)

set_kind_true : (kind : Kind) → is_set_kind kind ≡ true → kind ≡ k.Assign a.Set
set_kind_true (k.Assign op) h = ap k.Assign (set_true op h)
set_kind_true _ h = absurd (cc)

module _ (links : ℕ) (below : Form → Parser Expr) (ok : Sound below) where
  bound_ok : (ts us : List Token) (t : Token) (x : Expr) → IsPostfix ts x (t ∷ us) → is_written x ≡ true → t.kind ≡ k.Assign a.Set →
      is_next is_ampersand us ≡ true → Gives (IsTerm ts) (p.bound links below x us)
  unfolding p.bound
  bound_ok ts [] t x d written is h = none
  bound_ok ts (q ∷ us) t x d written is h = then_ok (postfix_ok below ok links us) (λ y vs f. if_ok (is_source y)
      (λ source. stopped_ok (suc assign_level) (e.AssignReference (span (place x) (place y)) x y q.start) vs
      (λ stops. g.assign_reference d written is (ampersand_true q.kind h) f source stops))
      (λ _. none))

  assigned_ok : (ts us : List Token) (t : Token) (x : Expr) (op : Assignment) → IsPostfix ts x (t ∷ us) → is_written x ≡ true →
      t.kind ≡ k.Assign op → Gives (IsTerm ts) (p.assigned links below x op (t ∷ us))
  unfolding p.assigned p.valued_by
  assigned_ok ts us t x op d written is = if_ok (is_set op && is_next is_ampersand us)
      (λ h. let c = both_true (is_set op) (is_next is_ampersand us) h in
      bound_ok ts us t x d written (is ∙ ap k.Assign (set_true op c.0)) c.1)
      (λ _. then_ok (ok (Level (suc assign_level)) us) (λ y rest f. some (g.assign d written is f.is f.stops)))

  unused_ok : (alone : Bool) (ts mid : List Token) (x : Expr) → IsPostfix ts x mid →
      Gives (Used alone ts) (if (alone && (is_written x && nat_lt (next mid) 1)) || is_read x then Some (x, mid) else None)
  unused_ok alone ts mid x d =
      if_ok ((alone && (is_written x && nat_lt (next mid) 1)) || is_read x) (λ h. some (unused alone ts mid x d h)) (λ _. none)

  path_used_ok : (alone : Bool) (ts mid : List Token) (x : Expr) → IsPostfix ts x mid → Gives (Used alone ts) (p.path_used links below alone x mid)
  unfolding p.path_used p.post_updated
  path_used_ok alone ts [] x d = unused_ok alone ts [] x d
  path_used_ok alone ts (t ∷ us) x d = choose_ok (post_update_of t.kind)
      (λ _. choose_ok (assignment_of t.kind) (λ _. unused_ok alone ts (t ∷ us) x d)
      (λ op e. if_ok (is_written x) (λ written. map_ok (assigned_ok ts us t x op d written (assignment_ok t.kind op e)) (λ y rest f. a_term f)) (λ _. none)))
      (λ form e. if_ok (is_written x) (λ written. some (a_term (g.updated d written (post_update_ok t t.kind form refl e)))) (λ _. none))

  destructured_ok : (o : Token) (ts us : List Token) (r : Elements) → IsMark m.OpenBracket o → Found m.CloseBracket [] false ts r us →
      is_next is_set_kind us ≡ true →
      Gives (IsTerm (o ∷ ts)) (p.destructured links below o r us)
  unfolding p.destructured
  destructured_ok o ts [] r opens f h = none
  destructured_ok o ts (t ∷ us) r opens f h = then_ok (ok (Level (suc assign_level)) us) (λ y rest d.
      some (subst (λ xs. IsTerm (o ∷ ts) (e.Destructure (span (on o) (place y)) xs y) rest) (sym f.is_all)
      (g.destructure opens (f.as_targets refl) (set_kind_true t.kind h) d.is d.stops)))

  from_array_ok : (alone : Bool) (o : Token) (ts us : List Token) (r : Elements) → IsMark m.OpenBracket o → Found m.CloseBracket [] false ts r us →
      Gives (Used alone (o ∷ ts)) (p.from_array links below alone o r us)
  unfolding p.from_array
  from_array_ok alone o ts us r opens f = then_ok (then_ok (array_ok m.CloseBracket o Short (o ∷ ts) ts us r f (λ xs c d. g.short_array opens d))
      (λ x vs d. goes_on_ok below ok links (o ∷ ts) vs x (λ z rest more. g.primary d more)))
      (λ x vs d. path_used_ok alone (o ∷ ts) vs x d)

  -- elements that stand in a destructuring alone
  targets_ok : (o : Token) (ts us : List Token) (r : Elements) → IsMark m.OpenBracket o → Found m.CloseBracket [] false ts r us → r.targets ≡ true →
      IsWrittenOnly (o ∷ ts) (e.Array (span (on o) r.close) Targets r.items) us
  targets_ok o ts us r opens f are =
      subst (λ last. IsWrittenOnly (o ∷ ts) (e.Array (span (on o) last) Targets r.items) us) (sym f.is_close)
      (subst (λ xs. IsWrittenOnly (o ∷ ts) (e.Array (span (on o) (on f.close)) Targets xs) us) (sym f.is_all)
      (g.nested_targets opens (f.as_targets refl) (sym f.are_targets ∙ are)))

  undestructured_ok : (alone : Bool) (o : Token) (ts us : List Token) (r : Elements) → IsMark m.OpenBracket o → Found m.CloseBracket [] false ts r us →
      Gives (Used alone (o ∷ ts)) (p.undestructured links below alone o r us)
  unfolding p.undestructured
  undestructured_ok alone o ts us r opens f = if_ok (p.stands_alone links below alone r us)
      (λ h. let both = both_true alone (r.targets && nat_lt (next us) 1) h in
      let ends = both_true r.targets (nat_lt (next us) 1) both.1 in
      some (an_element both.0 (targets_ok o ts us r opens f ends.0) (record { below = grind (arith, nat_tests, ends.1) })))
      (λ _. from_array_ok alone o ts us r opens f)

  bracketed_ok : (alone : Bool) (ts : List Token) → sees m.OpenBracket ts ≡ true → Gives (Used alone ts) (p.bracketed links below alone ts)
  unfolding p.bracketed
  bracketed_ok alone [] h = none
  bracketed_ok alone (o ∷ ts) h = let opens =
      is_mark_true m.OpenBracket o.kind h in then_ok (elements_ok below ok m.CloseBracket ts) (λ r us f. if_ok (is_next is_set_kind us)
      (λ sets. map_ok (destructured_ok o ts us r opens f sets) (λ x rest d. a_term d))
      (λ _. undestructured_ok alone o ts us r opens f))

  operand_ok : (alone : Bool) (ts : List Token) → Gives (Used alone ts) (p.operand links below alone ts)
  operand_ok alone ts = if_ok (sees m.OpenBracket ts) (λ h. bracketed_ok alone ts h)
      (λ _. then_ok (postfix_ok below ok links ts) (λ x mid d. path_used_ok alone ts mid x d))

  pre_updated_ok : (t : Token) (ts : List Token) (form : Update) → IsPreUpdate t form →
      Gives (IsTerm (t ∷ ts)) (p.pre_updated links below form (t ∷ ts))
  unfolding p.pre_updated
  pre_updated_ok t ts form is = then_ok (postfix_ok below ok links ts) (λ x us d. if_ok (is_written x)
      (λ written. stopped_ok (suc update_level) (e.Update (span (on t) (place x)) form x) us (λ stops. g.updates is d written stops))
      (λ _. none))

  prefixed_ok : (t : Token) (ts : List Token) (op : Prefix) → prefix_of t.kind ≡ Some op →
      Gives (IsTerm (t ∷ ts)) (p.prefixed links below op (t ∷ ts))
  unfolding p.prefixed
  prefixed_ok t ts op is = then_ok (ok (Level (suc (prefix_level op))) ts) (λ x rest d. some (g.prefix is d.is d.stops))

  pub term_ok : (alone : Bool) (ts : List Token) → Gives (Used alone ts) (p.term links below alone ts)
  unfolding p.term
  term_ok alone [] = operand_ok alone []
  term_ok alone (t ∷ ts) = choose_ok (prefix_of t.kind)
      (λ _. choose_ok (pre_update_of t.kind) (λ _. operand_ok alone (t ∷ ts))
      (λ form e. map_ok (pre_updated_ok t ts form (pre_update_ok t t.kind form refl e)) (λ x rest d. a_term d)))
      (λ op e. map_ok (prefixed_ok t ts op e) (λ x rest d. a_term d))
