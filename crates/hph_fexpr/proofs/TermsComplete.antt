-- Terms: what is in the grammar is what the parser answers.
use Rattle.std.specs.Prelude.{◌≡◌, ℕ, suc, ◌<◌, ◌≤◌, Bool, true, false, ◌&&◌, ◌||◌, List, [], ◌∷◌, Some, None, nat_lt, refl}
use Rattle.std.proofs.Common.{ap, ◌∙◌, arith}
use Rattle.std.proofs.lemmas.Bool.Decides.{nat_tests}
use Rattle.hph_ast.specs.declared.token.At.{At}
use Rattle.hph_ast.specs.declared.token.Token.{Token}
use Rattle.hph_ast.specs.declared.token.Kind.{Kind}
use Rattle.hph_ast.specs.declared.token.Kind.TheVariants as k
use Rattle.hph_ast.specs.declared.token.Mark.TheVariants as m
use Rattle.hph_ast.specs.declared.operator.Assignment.TheVariants as a
use Rattle.hph_ast.specs.declared.expr.Expr.{Expr, out-Expr}
use Rattle.hph_ast.specs.declared.expr.Expr.TheVariants as e
use Rattle.hph_ast.specs.declared.expr.ArrayForm.{ArrayForm}
use Rattle.hph_ast.specs.declared.expr.ArrayForm.TheVariants.{Short, Targets}
use Rattle.hph_ast.specs.declared.expr.Item.{Item}
use Rattle.hph_ast.specs.declared.expr.Step.{Step}
use Rattle.hph_ast.specs.declared.expr.Update.{Update}
use denote.Hole.Carrier.{out}
use Rattle.hph_ast.specs.Levels.{update_level, prefix_level, prefix_of, assign_level, top, binds, next}
use Rattle.hph_ast.specs.Nesting.{nesting}
use Rattle.hph_ast.specs.Places.{place, on, span}
use Rattle.hph_ast.specs.Shapes.{is_read, is_written}
use Rattle.hph_ast.specs.Terminals as terminal
use Rattle.hph_ast.specs.Terminals.{IsMark, IsClass, IsExit, IsPreUpdate, IsPostUpdate}
use Rattle.hph_ast.specs.Expressions as g
use Rattle.hph_ast.specs.Expressions.{IsTerm, IsPostfix, IsPrimary, IsItems, IsSteps, GoesOn, IsWrittenOnly}
use Rattle.hph_fexpr.specs.NestingLaws.{NestingLaws}
use Rattle.hph_fexpr.specs.declared.form.Form.{Form}
use Rattle.hph_fexpr.specs.Endings.{Ends}
use Rattle.hph_cursor.specs.Steps.{Parser, sees, is_mark}
use Rattle.hph_cursor.specs.Next.{of_next, is_next, assignment_of, pre_update_of, post_update_of, is_set, is_set_kind, is_ampersand}
use Rattle.hph_fexpr.specs.Terms as p
use Rattle.hph_fexpr.proofs.Tools.{or_true, and_none, then_is, choose_some, choose_none, if_true, if_false, mark_is}
use Rattle.hph_fexpr.proofs.Firsts.{Complete, ends_by, ends_at, no_ampersand, expression_heads, Begins, begins, postfix_begins, prefix_top}
use Rattle.hph_fexpr.proofs.ArraysComplete.{bracket_closes, items_is, targets_is}
use Rattle.hph_fexpr.proofs.NestingGrows.{goes_on_deep}
use Rattle.hph_fexpr.proofs.PostfixComplete.{goes_on_is, postfix_is}
use Rattle.hph_fexpr.proofs.Left.{stopped_is}

-- ---- first tokens

begins_prefix : {ts : List Token} → Begins ts → of_next prefix_of ts ≡ None
begins_prefix (begins a b c) = b

begins_update : {ts : List Token} → Begins ts → of_next pre_update_of ts ≡ None
begins_update (begins a b c) = c

-- a primary is an array in brackets, or does not begin with "["
data Opening : List Token → Expr → List Token → Type 0 where
  an_array : {ts rest : List Token} {o c : Token} {items : List Item} → IsMark m.OpenBracket o → IsItems m.CloseBracket ts items c rest →
      Opening (o ∷ ts) (e.Array (span (on o) (on c)) Short items) rest
  another : {ts rest : List Token} {x : Expr} → sees m.OpenBracket ts ≡ false → Opening ts x rest

class_opening : {t : Token} {class : _} → IsClass t class → is_mark m.OpenBracket t.kind ≡ false
class_opening (terminal.named is) = ap (is_mark m.OpenBracket) is
class_opening (terminal.self_class is) = ap (is_mark m.OpenBracket) is
class_opening (terminal.parent is) = ap (is_mark m.OpenBracket) is
class_opening (terminal.static is) = ap (is_mark m.OpenBracket) is

exit_opening : {t : Token} → IsExit t → is_mark m.OpenBracket t.kind ≡ false
exit_opening (terminal.exit is) = ap (is_mark m.OpenBracket) is
exit_opening (terminal.die is) = ap (is_mark m.OpenBracket) is

opening : {ts rest : List Token} {x : Expr} → IsPrimary ts x rest → Opening ts x rest
opening (g.int is) = another (ap (is_mark m.OpenBracket) is)
opening (g.text is) = another (ap (is_mark m.OpenBracket) is)
opening (g.interpolated is d) = another (ap (is_mark m.OpenBracket) is)
opening (g.variable is) = another (ap (is_mark m.OpenBracket) is)
opening (g.constant is shut) = another (ap (is_mark m.OpenBracket) is)
opening (g.directory is) = another (ap (is_mark m.OpenBracket) is)
opening (g.short_array is d) = an_array is d
opening (g.long_array is o d) = another (ap (is_mark m.OpenBracket) is)
opening (g.call is o d) = another (ap (is_mark m.OpenBracket) is)
opening (g.scoped is q d) = another (class_opening is)
opening (g.new is names d) = another (ap (is_mark m.OpenBracket) is)
opening (g.new_by is d more) = another (ap (is_mark m.OpenBracket) is)
opening (g.paren is d c) = another (ap (is_mark m.OpenBracket) is)
opening (g.isset is o d) = another (ap (is_mark m.OpenBracket) is)
opening (g.empty is o d c) = another (ap (is_mark m.OpenBracket) is)
opening (g.exit is shut) = another (exit_opening is)
opening (g.exit_of_nothing is o c) = another (exit_opening is)
opening (g.exit_with is o d c) = another (exit_opening is)

-- ---- what comes behind

array_is_not_written : (at : At) (form : ArrayForm) (items : List Item) → is_written (e.Array at form items) ≡ false
unfolding out-Expr out
array_is_not_written at form items = refl

-- "=" behind a path: it is written
abbrev Sets : Expr → List Token → Type 0
Sets x rest = is_next is_set_kind rest ≡ true → is_written x ≡ true

steps_set : {ts rest : List Token} {step : Step} {ss : List Step} → IsSteps ts (step ∷ ss) rest → is_next is_set_kind ts ≡ false
steps_set (g.steps_more (g.index opens d c) more) = ap is_set_kind opens
steps_set (g.steps_more (g.append opens c) more) = ap is_set_kind opens
steps_set (g.steps_more (g.property arrow d shut) more) = ap is_set_kind arrow

not_set : (x : Expr) (rest : List Token) → is_written x ≡ false → Sets x rest → is_next is_set_kind rest ≡ false
not_set x rest other h = go (is_next is_set_kind rest) refl
  where
    go : (b : Bool) → is_next is_set_kind rest ≡ b → is_next is_set_kind rest ≡ false
    go true seen = absurd (let f = h seen in cc)
    go false seen = seen

array_set : (at : At) (items : List Item) {y : Expr} {ts rest : List Token} → GoesOn (e.Array at Short items) ts y rest → Sets y rest →
    is_next is_set_kind ts ≡ false
array_set at items {rest = rest} (g.no_steps g.ends) sets = not_set (e.Array at Short items) rest (array_is_not_written at Short items) sets
array_set at items (g.no_steps (g.method read arrow d opens args more)) sets = ap is_set_kind arrow
array_set at items (g.no_steps (g.call_of read callable opens args more)) sets = ap is_set_kind opens
array_set at items (g.no_steps (g.member_of read class colons d more)) sets = ap is_set_kind colons
array_set at items (g.path ss d) sets = steps_set ss

no_set_next : (rest : List Token) → next rest < top → is_next is_set_kind rest ≡ false
no_set_next [] h = refl
no_set_next (t ∷ ts) h = go t.kind h
  where
    go : (kind : Kind) → binds kind < top → is_set_kind kind ≡ false
    go (k.Assign op) h = absurd (omega arith)
    go _ h = refl

no_set : (x : Expr) (rest : List Token) → next rest < top → Sets x rest
no_set x rest h f = absurd (let e = no_set_next rest h in cc)

no_assignment : (rest : List Token) → next rest < top → of_next assignment_of rest ≡ None
no_assignment [] h = refl
no_assignment (t ∷ ts) h = go t.kind h
  where
    go : (kind : Kind) → binds kind < top → assignment_of kind ≡ None
    go (k.Assign op) h = absurd (omega arith)
    go _ h = refl

no_update : (rest : List Token) → next rest < top → of_next post_update_of rest ≡ None
no_update [] h = refl
no_update (t ∷ ts) h = go t.kind h
  where
    go : (kind : Kind) → binds kind < top → post_update_of kind ≡ None
    go (k.Mark m.Increment) h = absurd (omega arith)
    go (k.Mark m.Decrement) h = absurd (omega arith)
    go _ h = refl

and_false : (x y : Bool) → y ≡ false → (x && y) ≡ false
and_false true y h = h
and_false false y h = refl

update_next : {t : Token} {form : Update} → IsPostUpdate t form → post_update_of t.kind ≡ Some form
update_next (terminal.post_increment is) = ap post_update_of is
update_next (terminal.post_decrement is) = ap post_update_of is

update_ends : {t : Token} {rest : List Token} {form : Update} → IsPostUpdate t form → Ends (t ∷ rest)
update_ends (terminal.post_increment is) = ends_at (k.Mark m.Increment) is refl refl refl refl
update_ends (terminal.post_decrement is) = ends_at (k.Mark m.Decrement) is refl refl refl refl

update_sets : {t : Token} {form : Update} → IsPostUpdate t form → is_set_kind t.kind ≡ false
update_sets (terminal.post_increment is) = ap is_set_kind is
update_sets (terminal.post_decrement is) = ap is_set_kind is

pre_update_is : {t : Token} {form : Update} → IsPreUpdate t form → pre_update_of t.kind ≡ Some form
pre_update_is (terminal.pre_increment is) = ap pre_update_of is
pre_update_is (terminal.pre_decrement is) = ap pre_update_of is

pre_update_prefix : {t : Token} {form : Update} → IsPreUpdate t form → prefix_of t.kind ≡ None
pre_update_prefix (terminal.pre_increment is) = ap prefix_of is
pre_update_prefix (terminal.pre_decrement is) = ap prefix_of is

module _ (laws : NestingLaws) (depth : ℕ) (below : Form → Parser Expr) (all : Complete depth below) (alone : Bool) where
  by_opening : {ts mid rest : List Token} {x y : Expr} → IsPostfix ts y rest → Opening ts x mid → GoesOn x mid y rest →
      nesting y ≤ suc depth → Ends rest → Sets y rest →
      p.operand depth below alone ts ≡ p.path_used depth below alone y rest
  unfolding p.bracketed p.undestructured p.from_array
  by_opening {mid = mid} whole (an_array {o = o} {c = c} {items = items} opens d) more small ends sets =
      let n = laws.array (span (on o) (on c)) Short items in
      let deep = goes_on_deep laws more in
      if_true _ _ (mark_is m.OpenBracket opens)
      (then_is _ (items_is laws depth below all m.CloseBracket bracket_closes d (omega arith))
      (if_false _ _ (array_set (span (on o) (on c)) items more sets)
      (if_false _ _ (and_none alone) (then_is _ (goes_on_is laws depth below all more (omega arith) small ends) refl))))
  by_opening whole (another shut) more small ends sets =
      if_false _ _ shut (then_is _ (postfix_is laws depth below all whole small ends) refl)

  operand_is : {ts rest : List Token} {x : Expr} → IsPostfix ts x rest → nesting x ≤ suc depth → Ends rest → Sets x rest →
      p.operand depth below alone ts ≡ p.path_used depth below alone x rest
  operand_is (g.primary d more) small ends sets = by_opening (g.primary d more) (opening d) more small ends sets

  -- a term that begins with a path
  path_first : {ts rest : List Token} {x : Expr} {z : _} → IsPostfix ts x rest → nesting x ≤ suc depth → Ends rest → Sets x rest →
      p.path_used depth below alone x rest ≡ z → p.term depth below alone ts ≡ z
  unfolding p.term
  path_first d small ends sets h =
      choose_none _ _ (begins_prefix (postfix_begins d))
      (choose_none _ _ (begins_update (postfix_begins d)) (operand_is d small ends sets ∙ h))

  pub term_is : {ts rest : List Token} {x : Expr} → IsTerm ts x rest → nesting x ≤ suc depth → next rest < top →
      p.term depth below alone ts ≡ Some (x, rest)
  unfolding p.term p.path_used p.post_updated p.assigned p.bound p.valued_by p.pre_updated p.bracketed p.destructured p.prefixed
  term_is (g.postfix {rest = rest} {x = x} d read) small h = path_first d small (ends_by h) (no_set x rest h)
      (choose_none _ _ (no_update rest h) (choose_none _ _ (no_assignment rest h)
      (if_true _ _ (ap (λ b. (alone && (is_written x && nat_lt (next rest) 1)) || b) read ∙ or_true (alone && (is_written x && nat_lt (next rest) 1))) refl)))
  term_is (g.updated {rest = rest} {t = t} {form = form} {x = x} d written is) small h =
      let n = laws.update (span (place x) (on t)) form x in
      path_first d (omega arith) (update_ends is) (λ f. written) (choose_some _ _ (update_next is) (if_true _ _ written refl))
  term_is (g.updates {rest = rest} {t = t} {form = form} {x = x} is d written stops) small h =
      let n = laws.update (span (on t) (place x)) form x in
      let low = stops.below in
      choose_none _ _ (pre_update_prefix is)
      (choose_some _ _ (pre_update_is is) (then_is _ (postfix_is laws depth below all d (omega arith) (ends_by (omega arith)))
      (if_true _ _ written (stopped_is (suc update_level) (e.Update (span (on t) (place x)) form x) rest low))))
  term_is (g.assign {mid = mid} {rest = rest} {t = t} {x = x} {y = y} {op = op} d written is f stops) small h =
      let n = laws.assign (span (place x) (place y)) op x y in
      path_first d (omega arith) (ends_at (k.Assign op) is refl refl refl refl) (λ f. written)
      (choose_none _ _ (ap post_update_of is) (choose_some _ _ (ap assignment_of is) (if_true _ _ written
      (if_false _ _ (and_false (is_set op) (is_next is_ampersand mid) (no_ampersand (expression_heads f)))
      (then_is _ (all.level (suc assign_level) mid rest y (omega arith) f (omega arith) stops) refl)))))
  term_is (g.assign_reference {mid = mid} {rest = rest} {t = t} {q = q} {x = x} {y = y} d written is amp f source stops) small h =
      let n = laws.assign_reference (span (place x) (place y)) x y q.start in
      let low = stops.below in
      path_first d (omega arith) (ends_at (k.Assign a.Set) is refl refl refl refl) (λ f. written)
      (choose_none _ _ (ap post_update_of is) (choose_some _ _ (ap assignment_of is) (if_true _ _ written
      (if_true _ _ (ap is_ampersand amp) (then_is _ (postfix_is laws depth below all f (omega arith) (ends_by (omega arith)))
      (if_true _ _ source (stopped_is (suc assign_level) (e.AssignReference (span (place x) (place y)) x y q.start) rest low)))))))
  term_is (g.destructure {mid = mid} {rest = rest} {o = o} {t = t} {items = items} {y = y} opens targets is f stops) small h =
      let n = laws.destructure (span (on o) (place y)) items y in
      choose_none _ _ (ap prefix_of opens)
      (choose_none _ _ (ap pre_update_of opens) (if_true _ _ (mark_is m.OpenBracket opens) (then_is _ (targets_is laws depth below all targets (omega arith))
      (if_true _ _ (ap is_set_kind is) (then_is _ (all.level (suc assign_level) mid rest y (omega arith) f (omega arith) stops) refl)))))
  term_is (g.prefix {ts = ts} {rest = rest} {t = t} {op = op} {x = x} is f stops) small h =
      let n = laws.prefix (span (on t) (place x)) op x in
      choose_some _ _ is (then_is _ (all.level (suc (prefix_level op)) ts rest x (prefix_top op) f (omega arith) stops) refl)

module _ (laws : NestingLaws) (depth : ℕ) (below : Form → Parser Expr) (all : Complete depth below) where
  -- what is only written, where an element may stand alone
  pub written_only_is : {ts rest : List Token} {x : Expr} → IsWrittenOnly ts x rest → nesting x ≤ suc depth → next rest < 1 →
      p.term depth below true ts ≡ Some (x, rest)
  unfolding p.term p.path_used p.bracketed p.undestructured
  written_only_is (g.appended {rest = rest} {x = x} d unread written) small h =
      let low : next rest < top = omega arith in
      let ends : nat_lt (next rest) 1 ≡ true = grind (arith, nat_tests, h) in
      let both : ((true && (is_written x && nat_lt (next rest) 1)) || is_read x) ≡ true =
      ap (λ b. (b && nat_lt (next rest) 1) || is_read x) written ∙ ap (λ b. b || is_read x) ends in
      path_first laws depth below all true d small (ends_by low) (no_set x rest low)
      (choose_none _ _ (no_update rest low) (choose_none _ _ (no_assignment rest low) (if_true _ _ both refl)))
  written_only_is (g.nested_targets {rest = rest} {o = o} {c = c} {items = items} opens d has) small h =
      let n = laws.array (span (on o) (on c)) Targets items in
      let low : next rest < top = omega arith in
      let ends : nat_lt (next rest) 1 ≡ true = grind (arith, nat_tests, h) in
      choose_none _ _ (ap prefix_of opens) (choose_none _ _ (ap pre_update_of opens) (if_true _ _ (mark_is m.OpenBracket opens)
      (then_is _ (targets_is laws depth below all d (omega arith)) (if_false _ _ (no_set_next rest low)
      (if_true _ _ (ap (λ b. b && nat_lt (next rest) 1) has ∙ ends) refl)))))
