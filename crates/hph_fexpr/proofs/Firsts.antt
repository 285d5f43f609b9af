-- What expressions begin with, and what may follow them.
use Rattle.std.specs.Prelude.{◌≡◌, ℕ, suc, ◌<◌, ◌≤◌, Bool, true, false, List, [], ◌∷◌, Some, None, refl}
use Rattle.std.proofs.Common.{ap, ◌∙◌, arith}
use Rattle.hph_ast.specs.declared.token.Token.{Token}
use Rattle.hph_ast.specs.declared.token.Kind.{Kind}
use Rattle.hph_ast.specs.declared.token.Kind.TheVariants as k
use Rattle.hph_ast.specs.declared.token.Mark.{Mark}
use Rattle.hph_ast.specs.declared.token.Mark.TheVariants as m
use Rattle.hph_ast.specs.declared.keyword.Keyword.TheVariants as w
use Rattle.hph_ast.specs.declared.operator.Binary.{Binary}
use Rattle.hph_ast.specs.declared.operator.Binary.TheVariants as b
use Rattle.hph_ast.specs.declared.operator.Prefix.{Prefix}
use Rattle.hph_ast.specs.declared.operator.Prefix.TheVariants as pre
use Rattle.hph_ast.specs.declared.expr.Expr.{Expr}
use Rattle.hph_ast.specs.declared.expr.Item.{Item}
use Rattle.hph_ast.specs.declared.expr.Update.{Update}
use Rattle.hph_ast.specs.declared.expr.ClassReference.{ClassReference}
use Rattle.hph_ast.specs.Levels.{level, prefix_level, prefix_of, top, binds, next, Stops}
use Rattle.hph_ast.specs.Nesting.{nesting}
use Rattle.hph_ast.specs.Terminals as terminal
use Rattle.hph_ast.specs.Terminals.{IsMark, IsClass, IsPreUpdate, IsExit}
use Rattle.hph_ast.specs.Expressions as g
use Rattle.hph_ast.specs.Expressions.{IsExpression, IsTerm, IsPostfix, IsPrimary, IsArgument, IsItem, IsElement, IsWrittenOnly, IsPaths}
use Rattle.hph_fexpr.specs.declared.form.Form.{Form}
use Rattle.hph_fexpr.specs.declared.form.Form.TheVariants.{Level, Postfix, Element}
use Rattle.hph_fexpr.specs.Endings.{Ends, IsValue, expression, only_written}
use Rattle.hph_cursor.specs.Steps.{Parser, is_mark, sees}
use Rattle.hph_cursor.specs.Next.{is_next, pre_update_of, is_ampersand}
use Rattle.hph_fexpr.proofs.Tools.{not_mark}

-- ---- first tokens

-- tokens with which no expression begins, and that are looked for where one may
abbrev pub begins_none : Kind → Bool
begins_none (k.Mark m.CloseParen) = true
begins_none (k.Mark m.CloseBracket) = true
begins_none (k.Mark m.Comma) = true
begins_none (k.Mark m.Colon) = true
begins_none (k.Operator b.BitAnd) = true
begins_none _ = false

-- an expression may begin here
pub data Heads : List Token → Type 0 where
  heads : {t : Token} {ts : List Token} → begins_none t.kind ≡ false → Heads (t ∷ ts)

-- a primary may begin here
pub data Begins : List Token → Type 0 where
  begins : {t : Token} {ts : List Token} → begins_none t.kind ≡ false → prefix_of t.kind ≡ None → pre_update_of t.kind ≡ None →
      Begins (t ∷ ts)

by_kind : {t : Token} {ts : List Token} (kind : Kind) → t.kind ≡ kind → begins_none kind ≡ false → prefix_of kind ≡ None →
    pre_update_of kind ≡ None → Begins (t ∷ ts)
by_kind kind is a b c = begins (ap begins_none is ∙ a) (ap prefix_of is ∙ b) (ap pre_update_of is ∙ c)

class_begins : {t : Token} {ts : List Token} {class : ClassReference} → IsClass t class → Begins (t ∷ ts)
class_begins (terminal.named {name = name} is) = by_kind (k.Name name) is refl refl refl
class_begins (terminal.self_class is) = by_kind (k.Keyword w.SelfClass) is refl refl refl
class_begins (terminal.parent is) = by_kind (k.Keyword w.Parent) is refl refl refl
class_begins (terminal.static is) = by_kind (k.Keyword w.Static) is refl refl refl

exit_begins : {t : Token} {ts : List Token} → IsExit t → Begins (t ∷ ts)
exit_begins (terminal.exit is) = by_kind (k.Keyword w.Exit) is refl refl refl
exit_begins (terminal.die is) = by_kind (k.Keyword w.Die) is refl refl refl

pub primary_begins : {ts rest : List Token} {x : Expr} → IsPrimary ts x rest → Begins ts
primary_begins (g.int {v = v} is) = by_kind (k.Int v) is refl refl refl
primary_begins (g.text {bytes = bytes} is) = by_kind (k.Text bytes) is refl refl refl
primary_begins (g.interpolated {bytes = bytes} is d) = by_kind (k.TextHead bytes) is refl refl refl
primary_begins (g.variable {name = name} is) = by_kind (k.Variable name) is refl refl refl
primary_begins (g.constant {name = name} is shut) = by_kind (k.Name name) is refl refl refl
primary_begins (g.directory is) = by_kind (k.Keyword w.MagicDir) is refl refl refl
primary_begins (g.short_array is d) = by_kind (k.Mark m.OpenBracket) is refl refl refl
primary_begins (g.long_array is o d) = by_kind (k.Keyword w.Array) is refl refl refl
primary_begins (g.call {name = name} is o d) = by_kind (k.Name name) is refl refl refl
primary_begins (g.scoped is q d) = class_begins is
primary_begins (g.new is names d) = by_kind (k.Keyword w.New) is refl refl refl
primary_begins (g.new_by is d more) = by_kind (k.Keyword w.New) is refl refl refl
primary_begins (g.paren is d c) = by_kind (k.Mark m.OpenParen) is refl refl refl
primary_begins (g.isset is o d) = by_kind (k.Keyword w.Isset) is refl refl refl
primary_begins (g.empty is o d c) = by_kind (k.Keyword w.Empty) is refl refl refl
primary_begins (g.exit is shut) = exit_begins is
primary_begins (g.exit_of_nothing is o c) = exit_begins is
primary_begins (g.exit_with is o d c) = exit_begins is

pub postfix_begins : {ts rest : List Token} {x : Expr} → IsPostfix ts x rest → Begins ts
postfix_begins (g.primary d more) = primary_begins d

begins_heads : {ts : List Token} → Begins ts → Heads ts
begins_heads (begins a b c) = heads a

pub postfix_heads : {ts rest : List Token} {x : Expr} → IsPostfix ts x rest → Heads ts
postfix_heads d = begins_heads (postfix_begins d)

prefix_heads : (kind : Kind) (op : Prefix) → prefix_of kind ≡ Some op → begins_none kind ≡ false
prefix_heads (k.Mark m.CloseParen) op h = absurd (cc)
prefix_heads (k.Mark m.CloseBracket) op h = absurd (cc)
prefix_heads (k.Mark m.Comma) op h = absurd (cc)
prefix_heads (k.Mark m.Colon) op h = absurd (cc)
prefix_heads (k.Operator b.BitAnd) op h = absurd (cc)
prefix_heads _ op h = refl

update_heads : {t : Token} {ts : List Token} {form : Update} → IsPreUpdate t form → Heads (t ∷ ts)
update_heads (terminal.pre_increment is) = heads (ap begins_none is)
update_heads (terminal.pre_decrement is) = heads (ap begins_none is)

term_heads : {ts rest : List Token} {x : Expr} → IsTerm ts x rest → Heads ts
term_heads (g.postfix d read) = postfix_heads d
term_heads (g.updated d written is) = postfix_heads d
term_heads (g.updates is d written stops) = update_heads is
term_heads (g.assign d written is f stops) = postfix_heads d
term_heads (g.assign_reference d written is q f source stops) = postfix_heads d
term_heads (g.destructure is d t f stops) = heads (ap begins_none is)
term_heads (g.prefix {t = t} {op = op} is d stops) = heads (prefix_heads t.kind op is)

pub expression_heads : {l : ℕ} {ts rest : List Token} {x : Expr} → IsExpression l ts x rest → Heads ts
expression_heads (g.term d) = term_heads d
expression_heads (g.run le how d tail) = expression_heads d
expression_heads (g.to_right le how d is f) = expression_heads d
expression_heads (g.single le how d is f) = expression_heads d
expression_heads (g.instance_of le d more) = expression_heads d
expression_heads (g.ternary le d q e c f) = expression_heads d
expression_heads (g.short le d more) = expression_heads d

pub argument_heads : {ts rest : List Token} {x : Expr} → IsArgument ts x rest → Heads ts
argument_heads (g.argument d) = expression_heads d
argument_heads (g.named_argument is colon d) = heads (ap begins_none is)

pub paths_heads : {test : Expr → Bool} {ts rest : List Token} {xs : List Expr} {c : Token} → IsPaths test ts xs c rest → Heads ts
paths_heads (g.paths_last d read passes c) = postfix_heads d
paths_heads (g.paths_last_comma d read passes t c) = postfix_heads d
paths_heads (g.paths_more d read passes t more) = postfix_heads d

-- a mark with which no expression begins is not seen
pub not_first : (m : Mark) → begins_none (k.Mark m) ≡ true → {ts : List Token} → Heads ts → sees m ts ≡ false
not_first m none (heads {t = t} h) =
    not_mark m t.kind (λ e. let f : begins_none t.kind ≡ begins_none (k.Mark m) = ap begins_none e in absurd (cc))

pub no_ampersand : {ts : List Token} → Heads ts → is_next is_ampersand ts ≡ false
no_ampersand (heads {t = t} h) = go t.kind h
  where
    go : (kind : Kind) → begins_none kind ≡ false → is_ampersand kind ≡ false
    go (k.Operator b.BitAnd) h = absurd (cc)
    go _ h = refl

-- an element of an array does not begin with a mark with which no expression does
pub item_not_first : (m : Mark) → begins_none (k.Mark m) ≡ true → {ts rest : List Token} {x : Item} → IsItem ts x rest → sees m ts ≡ false
item_not_first m none (g.value d) = not_first m none (expression_heads d)
item_not_first m none (g.pair d arrow f) = not_first m none (expression_heads d)
item_not_first m none (g.reference is d source) = ap (is_mark m) is
item_not_first m none (g.pair_reference d arrow is f source) = not_first m none (expression_heads d)

pub written_only_heads : {ts rest : List Token} {x : Expr} → IsWrittenOnly ts x rest → Heads ts
written_only_heads (g.appended d unread is) = postfix_heads d
written_only_heads (g.nested_targets is d has) = heads (ap begins_none is)

pub value_heads : {ts rest : List Token} {x : Expr} → IsValue ts x rest → Heads ts
value_heads (expression d) = expression_heads d
value_heads (only_written d) = written_only_heads d

pub element_not_first : (m : Mark) → begins_none (k.Mark m) ≡ true → {ts rest : List Token} {x : Item} → IsElement ts x rest →
    sees m ts ≡ false
element_not_first m none (g.element_item d) = item_not_first m none d
element_not_first m none (g.element d) = not_first m none (written_only_heads d)
element_not_first m none (g.element_pair d arrow f) = not_first m none (expression_heads d)

-- ---- what follows

pub not_seen : (m : Mark) (ts : List Token) → next ts < binds (k.Mark m) → sees m ts ≡ false
not_seen m [] h = refl
not_seen m (t ∷ ts) h = not_mark m t.kind (λ e. let f : binds t.kind ≡ binds (k.Mark m) = ap binds e in absurd (omega arith))

pub ends_by : {rest : List Token} → next rest < top → Ends rest
ends_by {rest = rest} h = record {
  call = not_seen m.OpenParen rest h;
  bracket = not_seen m.OpenBracket rest h;
  arrow = not_seen m.Arrow rest h;
  colons = not_seen m.DoubleColon rest h;
}

-- a token of a kind that is none of these
pub ends_at : {t : Token} {ts : List Token} (kind : Kind) → t.kind ≡ kind → is_mark m.OpenParen kind ≡ false →
    is_mark m.OpenBracket kind ≡ false →
    is_mark m.Arrow kind ≡ false → is_mark m.DoubleColon kind ≡ false → Ends (t ∷ ts)
ends_at kind is a b c d =
    record {
      call = ap (is_mark m.OpenParen) is ∙ a;
      bracket = ap (is_mark m.OpenBracket) is ∙ b;
      arrow = ap (is_mark m.Arrow) is
          ∙ c;
      colons = ap (is_mark m.DoubleColon) is ∙ d;
    }

-- a token that binds nothing stops each expression
pub mark_stops : (m : Mark) → binds (k.Mark m) ≡ 0 → {c : Token} {rest : List Token} → IsMark m c → Stops 1 (c ∷ rest)
mark_stops m none {c = c} is = let e : binds c.kind ≡ 0 = ap binds is ∙ none in record { below = omega arith }

pub mark_ends : (m : Mark) → binds (k.Mark m) ≡ 0 → {c : Token} {rest : List Token} → IsMark m c → Ends (c ∷ rest)
mark_ends m none {c = c} is = let e : binds c.kind ≡ 0 = ap binds is ∙ none in ends_by (omega arith)

pub level_top : (op : Binary) → suc (level op) ≤ top
level_top b.Pow = omega arith
level_top _ = omega arith

pub prefix_top : (op : Prefix) → suc (prefix_level op) ≤ top
prefix_top pre.Plus = omega arith
prefix_top _ = omega arith

-- ---- what the parser of what is nested answers

pub record Complete (depth : ℕ) (below : Form → Parser Expr) : Type 0 where
  pub level : (l : ℕ) (ts rest : List Token) (x : Expr) → l ≤ top → IsExpression l ts x rest → nesting x ≤ depth → Stops l rest →
      below (Level l) ts ≡ Some (x, rest)
  pub postfix : (ts rest : List Token) (x : Expr) → IsPostfix ts x rest → nesting x ≤ depth → Ends rest → below Postfix ts ≡ Some (x, rest)
  pub element : (ts rest : List Token) (x : Expr) → IsValue ts x rest → nesting x ≤ depth → Stops 1 rest → below Element ts ≡ Some (x, rest)

-- an expression and then a mark that binds nothing
pub closed_is : {depth : ℕ} {below : Form → Parser Expr} → Complete depth below → (m : Mark) → binds (k.Mark m) ≡ 0 →
    {ts rest : List Token} {x : Expr} {c : Token} →
    IsExpression 1 ts x (c ∷ rest) → IsMark m c → nesting x ≤ depth → below (Level 1) ts ≡ Some (x, c ∷ rest)
closed_is all m none {ts = ts} {rest = rest} {x = x} {c = c} d is small =
    all.level 1 ts (c ∷ rest) x (omega arith) d small (mark_stops m none is)
