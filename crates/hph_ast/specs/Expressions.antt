-- The grammar of expressions: PHP manual, Expressions, Operators, Strings and Arrays, with this project's profile. Forms
-- that are refused, as calls of expressions, are read too, so that a refusal can say where they stand.
use Rattle.std.specs.Prelude.{◌≡◌, ℕ, suc, ◌≤◌, List, [], ◌∷◌, Some, Bool, true, false}
use Rattle.hph_ast.specs.declared.token.At.{At}
use Rattle.hph_ast.specs.declared.token.Token.{Token}
use Rattle.hph_ast.specs.declared.token.Kind.TheVariants as k
use Rattle.hph_ast.specs.declared.token.Mark.{Mark}
use Rattle.hph_ast.specs.declared.token.Mark.TheVariants as m
use Rattle.hph_ast.specs.declared.keyword.Keyword.TheVariants as w
use Rattle.hph_ast.specs.declared.operator.Binary.{Binary}
use Rattle.hph_ast.specs.declared.operator.Binary.TheVariants as b
use Rattle.hph_ast.specs.declared.operator.Assignment.{Assignment}
use Rattle.hph_ast.specs.declared.operator.Assignment.TheVariants as a
use Rattle.hph_ast.specs.declared.operator.Prefix.{Prefix}
use Rattle.hph_ast.specs.declared.operator.Grouping.TheVariants.{Left, Right, Alone}
use Rattle.hph_ast.specs.declared.expr.Expr.{Expr}
use Rattle.hph_ast.specs.declared.expr.Expr.TheVariants as e
use Rattle.hph_ast.specs.declared.expr.Update.{Update}
use Rattle.hph_ast.specs.declared.expr.ArrayForm.TheVariants.{Short, Long, Targets}
use Rattle.hph_ast.specs.declared.expr.StringPart.{StringPart}
use Rattle.hph_ast.specs.declared.expr.StringPart.TheVariants as part
use Rattle.hph_ast.specs.declared.expr.Item.{Item}
use Rattle.hph_ast.specs.declared.expr.Item.TheVariants as item
use Rattle.hph_ast.specs.declared.expr.ClassReference.{ClassReference}
use Rattle.hph_ast.specs.declared.expr.ClassReference.TheVariants as c
use Rattle.hph_ast.specs.declared.expr.MemberName.{MemberName}
use Rattle.hph_ast.specs.declared.expr.MemberName.TheVariants as n
use Rattle.hph_ast.specs.declared.expr.Step.{Step}
use Rattle.hph_ast.specs.declared.expr.Step.TheVariants as s
use Rattle.hph_ast.specs.Levels.{level, grouping, update_level, prefix_level, prefix_of, instance_level, ternary_level, assign_level, Stops, opens}
use Rattle.hph_ast.specs.Terminals.{IsMark, IsKeyword, IsClass, IsPreUpdate, IsPostUpdate, IsExit, IsKey, is_class_word, goes_on_as_target}
use Rattle.hph_ast.specs.Places.{place, class_place, on, span, last_operand, last_expr, last_class, with_steps}
use Rattle.hph_ast.specs.Shapes.{is_read, is_path, is_written, is_source, is_callable, is_class_expression, has_targets}

-- Each relation takes the tokens from a place on, the tree, and the tokens behind it.
mutual
  -- an expression whose operators, outside brackets and behind prefix operators and assignments, are of this level or bind tighter
  pub data IsExpression : ℕ → List Token → Expr → List Token → Type 0 where
    term : {l : ℕ} {ts rest : List Token} {x : Expr} → IsTerm ts x rest → IsExpression l ts x rest
    -- operators of one level that group to the left are one node
    run : {l : ℕ} {ts mid rest : List Token} {x : Expr} {o : Binary × Expr} {os : List (Binary × Expr)} →
        l ≤ level o.0 → grouping o.0 ≡ Left → IsExpression (suc (level o.0)) ts x mid → IsTail (level o.0) mid (o ∷ os) rest →
        IsExpression l ts (e.Run (span (place x) (last_operand (place x) (o ∷ os))) x (o ∷ os)) rest
    to_right : {l : ℕ} {ts mid rest : List Token} {t : Token} {op : Binary} {x y : Expr} →
        l ≤ level op → grouping op ≡ Right → IsExpression (suc (level op)) ts x (t ∷ mid) → t.kind ≡ k.Operator op → IsExpression (level op) mid y rest →
        IsExpression l ts (e.Pair (span (place x) (place y)) op x y) rest
    single : {l : ℕ} {ts mid rest : List Token} {t : Token} {op : Binary} {x y : Expr} →
        l ≤ level op → grouping op ≡ Alone → IsExpression (suc (level op)) ts x (t ∷ mid) → t.kind ≡ k.Operator op → IsExpression (suc (level op)) mid y rest →
        IsExpression l ts (e.Pair (span (place x) (place y)) op x y) rest
    -- a chain of `instanceof` is one node
    instance_of : {l : ℕ} {ts mid rest : List Token} {x : Expr} {class : ClassReference} {classes : List ClassReference} →
        l ≤ instance_level → IsExpression (suc instance_level) ts x mid → IsInstances mid (class ∷ classes) rest →
        IsExpression l ts (e.InstanceOf (span (place x) (last_class (place x) (class ∷ classes))) x (class ∷ classes)) rest
    -- the middle of `? :` is any expression
    ternary : {l : ℕ} {ts mid after rest : List Token} {q c : Token} {x y z : Expr} →
        l ≤ ternary_level → IsExpression (suc ternary_level) ts x (q ∷ mid) → IsMark m.Question q → IsExpression 1 mid y (c ∷ after) → IsMark m.Colon c →
        IsExpression (suc ternary_level) after z rest → IsExpression l ts (e.Ternary (span (place x) (place z)) x y z) rest
    -- a chain of `?:` alone is one node
    short : {l : ℕ} {ts mid rest : List Token} {x y : Expr} {ys : List Expr} →
        l ≤ ternary_level → IsExpression (suc ternary_level) ts x mid → IsShorts mid (y ∷ ys) rest →
        IsExpression l ts (e.ShortTernary (span (place x) (last_expr (place x) (y ∷ ys))) x (y ∷ ys)) rest

  -- operators of one level, each with the operand behind it
  pub data IsTail : ℕ → List Token → List (Binary × Expr) → List Token → Type 0 where
    operands_end : {n : ℕ} {ts : List Token} → IsTail n ts [] ts
    operand : {n : ℕ} {ts mid rest : List Token} {t : Token} {op : Binary} {x : Expr} {os : List (Binary × Expr)} →
        t.kind ≡ k.Operator op → level op ≡ n → IsExpression (suc n) ts x mid → IsTail n mid os rest → IsTail n (t ∷ ts) ((op, x) ∷ os) rest

  -- "?" ":" expr, any number of times
  pub data IsShorts : List Token → List Expr → List Token → Type 0 where
    shorts_end : {ts : List Token} → IsShorts ts [] ts
    shorts_more : {ts mid rest : List Token} {q c : Token} {x : Expr} {xs : List Expr} →
        IsMark m.Question q → IsMark m.Colon c → IsExpression (suc ternary_level) ts x mid → IsShorts mid xs rest → IsShorts (q ∷ c ∷ ts) (x ∷ xs) rest

  -- "instanceof" cls, any number of times; refused: "instanceof" and an expression
  pub data IsInstances : List Token → List ClassReference → List Token → Type 0 where
    instances_end : {ts : List Token} → IsInstances ts [] ts
    instance : {ts rest : List Token} {t q : Token} {class : ClassReference} {classes : List ClassReference} →
        IsKeyword w.InstanceOf t → IsClass q class → IsInstances ts classes rest → IsInstances (t ∷ q ∷ ts) (class ∷ classes) rest
    instance_by : {ts mid rest : List Token} {t : Token} {x : Expr} {classes : List ClassReference} →
        IsKeyword w.InstanceOf t → IsTarget ts x mid → IsInstances mid classes rest → IsInstances (t ∷ ts) (c.ByExpression (place x) x ∷ classes) rest

  -- What may stand at either side of any operator. A prefix operator or an assignment takes all that it can.
  pub data IsTerm : List Token → Expr → List Token → Type 0 where
    postfix : {ts rest : List Token} {x : Expr} → IsPostfix ts x rest → is_read x ≡ true → IsTerm ts x rest
    -- path ("++" | "--")
    updated : {ts rest : List Token} {t : Token} {form : Update} {x : Expr} →
        IsPostfix ts x (t ∷ rest) → is_written x ≡ true → IsPostUpdate t form → IsTerm ts (e.Update (span (place x) (on t)) form x) rest
    -- ("++" | "--") path
    updates : {ts rest : List Token} {t : Token} {form : Update} {x : Expr} →
        IsPreUpdate t form → IsPostfix ts x rest → is_written x ≡ true → Stops (suc update_level) rest →
        IsTerm (t ∷ ts) (e.Update (span (on t) (place x)) form x) rest
    -- path "=" expr, and the other assignment operators
    assign : {ts mid rest : List Token} {t : Token} {x y : Expr} {op : Assignment} →
        IsPostfix ts x (t ∷ mid) → is_written x ≡ true → t.kind ≡ k.Assign op → IsExpression (suc assign_level) mid y rest → Stops (suc assign_level) rest →
        IsTerm ts (e.Assign (span (place x) (place y)) op x y) rest
    -- VAR "=" "&" VAR; refused: other paths at either side
    assign_reference : {ts mid rest : List Token} {t q : Token} {x y : Expr} →
        IsPostfix ts x (t ∷ q ∷ mid) → is_written x ≡ true → t.kind ≡ k.Assign a.Set → q.kind ≡ k.Operator b.BitAnd →
        IsPostfix mid y rest → is_source y ≡ true → Stops (suc assign_level) rest →
        IsTerm ts (e.AssignReference (span (place x) (place y)) x y q.start) rest
    -- refused: "[" items and holes "]" "=" expr
    destructure : {ts mid rest : List Token} {o c t : Token} {items : List Item} {y : Expr} →
        IsMark m.OpenBracket o → IsTargets ts items c (t ∷ mid) → t.kind ≡ k.Assign a.Set → IsExpression (suc assign_level) mid y rest → Stops (suc assign_level) rest →
        IsTerm (o ∷ ts) (e.Destructure (span (on o) (place y)) items y) rest
    -- a prefix operator and the longest expression whose operators bind tighter
    prefix : {ts rest : List Token} {t : Token} {op : Prefix} {x : Expr} →
        prefix_of t.kind ≡ Some op → IsExpression (suc (prefix_level op)) ts x rest → Stops (suc (prefix_level op)) rest →
        IsTerm (t ∷ ts) (e.Prefix (span (on t) (place x)) op x) rest

  -- primary { "[" [expr] "]" | "->" NAME | "->" NAME args }; refused: calls and members of an expression
  pub data IsPostfix : List Token → Expr → List Token → Type 0 where
    primary : {ts mid rest : List Token} {x y : Expr} → IsPrimary ts x mid → GoesOn x mid y rest → IsPostfix ts y rest

  -- from an expression to one that begins with it
  pub data GoesOn : Expr → List Token → Expr → List Token → Type 0 where
    no_steps : {ts rest : List Token} {x y : Expr} → GoesOnByCall x ts y rest → GoesOn x ts y rest
    -- indices and properties that follow each other are one node
    path : {ts mid rest : List Token} {x y : Expr} {step : Step} {steps : List Step} →
        IsSteps ts (step ∷ steps) mid → GoesOnByCall (with_steps x (step ∷ steps)) mid y rest →
        GoesOn x ts y rest

  pub data GoesOnByCall : Expr → List Token → Expr → List Token → Type 0 where
    ends : {ts : List Token} {x : Expr} → GoesOnByCall x ts x ts
    -- "->" NAME args
    method : {ts mid after rest : List Token} {t l o c : Token} {x y : Expr} {name : MemberName} {xs : List Expr} →
        is_read x ≡ true → IsMark m.Arrow t → IsMember ts name l (o ∷ mid) → IsMark m.OpenParen o → IsArguments mid xs c after →
        GoesOn (e.MethodCall (span (place x) (on c)) x name xs) after y rest → GoesOnByCall x (t ∷ ts) y rest
    -- refused: args behind an expression
    call_of : {ts mid rest : List Token} {o c : Token} {x y : Expr} {xs : List Expr} →
        is_read x ≡ true → is_callable x ≡ true → IsMark m.OpenParen o → IsArguments ts xs c mid →
        GoesOn (e.DynamicCall (span (place x) (on c)) x xs) mid y rest → GoesOnByCall x (o ∷ ts) y rest
    -- refused: a member of a class that an expression gives
    member_of : {ts mid rest : List Token} {t : Token} {x y z : Expr} →
        is_read x ≡ true → is_class_expression x ≡ true → IsMark m.DoubleColon t → IsScoped (c.ByExpression (place x) x) t ts y mid →
        GoesOn y mid z rest → GoesOnByCall x (t ∷ ts) z rest

  pub data IsSteps : List Token → List Step → List Token → Type 0 where
    steps_end : {ts : List Token} → IsSteps ts [] ts
    steps_more : {ts mid rest : List Token} {step : Step} {steps : List Step} → IsStep ts step mid → IsSteps mid steps rest → IsSteps ts (step ∷ steps) rest

  -- "[" [expr] "]" | "->" NAME, without args behind it
  pub data IsStep : List Token → Step → List Token → Type 0 where
    index : {ts rest : List Token} {o c : Token} {x : Expr} →
        IsMark m.OpenBracket o → IsExpression 1 ts x (c ∷ rest) → IsMark m.CloseBracket c → IsStep (o ∷ ts) (s.Index (span (on o) (on c)) x) rest
    append : {rest : List Token} {o c : Token} →
        IsMark m.OpenBracket o → IsMark m.CloseBracket c → IsStep (o ∷ c ∷ rest) (s.Append (span (on o) (on c))) rest
    property : {ts rest : List Token} {t l : Token} {name : MemberName} →
        IsMark m.Arrow t → IsMember ts name l rest → opens rest ≡ false → IsStep (t ∷ ts) (s.Property (span (on t) (on l)) name) rest

  -- NAME; refused: VAR | "{" expr "}"; and the last token
  pub data IsMember : List Token → MemberName → Token → List Token → Type 0 where
    by_name : {rest : List Token} {t : Token} {name : List ℕ} → t.kind ≡ k.Name name → IsMember (t ∷ rest) (n.Named name) t rest
    by_variable : {rest : List Token} {t : Token} {name : List ℕ} → t.kind ≡ k.Variable name → IsMember (t ∷ rest) (n.Computed (e.Variable (on t) name)) t rest
    by_expression : {ts rest : List Token} {o c : Token} {x : Expr} →
        IsMark m.OpenBrace o → IsExpression 1 ts x (c ∷ rest) → IsMark m.CloseBrace c → IsMember (o ∷ ts) (n.Computed x) c rest

  -- behind a class and its "::": NAME | VAR | NAME args; refused: "class" | VAR args | "{" expr "}" args
  pub data IsScoped : ClassReference → Token → List Token → Expr → List Token → Type 0 where
    class_constant : {class : ClassReference} {rest : List Token} {q t : Token} {name : List ℕ} →
        t.kind ≡ k.Name name → is_class_word name ≡ false → opens rest ≡ false →
        IsScoped class q (t ∷ rest) (e.ClassConstant (span (class_place class) (on t)) class name) rest
    class_name : {class : ClassReference} {rest : List Token} {q t : Token} {name : List ℕ} →
        t.kind ≡ k.Name name → is_class_word name ≡ true → opens rest ≡ false →
        IsScoped class q (t ∷ rest) (e.ClassName (span (class_place class) (on t)) class q.start) rest
    static_property : {class : ClassReference} {rest : List Token} {q t : Token} {name : List ℕ} →
        t.kind ≡ k.Variable name → opens rest ≡ false → IsScoped class q (t ∷ rest) (e.StaticProperty (span (class_place class) (on t)) class name) rest
    static_call : {class : ClassReference} {ts mid rest : List Token} {q l o c : Token} {name : MemberName} {xs : List Expr} →
        IsMember ts name l (o ∷ mid) → IsMark m.OpenParen o → IsArguments mid xs c rest →
        IsScoped class q ts (e.StaticCall (span (class_place class) (on c)) class name xs) rest

  pub data IsPrimary : List Token → Expr → List Token → Type 0 where
    int : {rest : List Token} {t : Token} {v : ℕ} → t.kind ≡ k.Int v → IsPrimary (t ∷ rest) (e.Int (on t) v) rest
    text : {rest : List Token} {t : Token} {bytes : List ℕ} → t.kind ≡ k.Text bytes → IsPrimary (t ∷ rest) (e.Text (on t) bytes) rest
    interpolated : {ts rest : List Token} {t c : Token} {bytes : List ℕ} {parts : List StringPart} →
        t.kind ≡ k.TextHead bytes → IsParts ts parts c rest → IsPrimary (t ∷ ts) (e.Interpolated (span (on t) (on c)) (part.Piece (on t) bytes ∷ parts)) rest
    variable : {rest : List Token} {t : Token} {name : List ℕ} → t.kind ≡ k.Variable name → IsPrimary (t ∷ rest) (e.Variable (on t) name) rest
    constant : {rest : List Token} {t : Token} {name : List ℕ} → t.kind ≡ k.Name name → opens rest ≡ false → IsPrimary (t ∷ rest) (e.Constant (on t) name) rest
    -- refused but in the path of an include: "__DIR__"
    directory : {rest : List Token} {t : Token} → IsKeyword w.MagicDir t → IsPrimary (t ∷ rest) (e.Directory (on t)) rest
    -- "[" items "]"
    short_array : {ts rest : List Token} {o c : Token} {items : List Item} →
        IsMark m.OpenBracket o → IsItems m.CloseBracket ts items c rest → IsPrimary (o ∷ ts) (e.Array (span (on o) (on c)) Short items) rest
    -- "array" "(" items ")"
    long_array : {ts rest : List Token} {t o c : Token} {items : List Item} →
        IsKeyword w.Array t → IsMark m.OpenParen o → IsItems m.CloseParen ts items c rest → IsPrimary (t ∷ o ∷ ts) (e.Array (span (on t) (on c)) Long items) rest
    -- NAME args
    call : {ts rest : List Token} {t o c : Token} {name : List ℕ} {xs : List Expr} →
        t.kind ≡ k.Name name → IsMark m.OpenParen o → IsArguments ts xs c rest → IsPrimary (t ∷ o ∷ ts) (e.Call (span (on t) (on c)) name xs) rest
    -- cls "::" (NAME | VAR | NAME args)
    scoped : {ts rest : List Token} {t q : Token} {class : ClassReference} {x : Expr} →
        IsClass t class → IsMark m.DoubleColon q → IsScoped class q ts x rest → IsPrimary (t ∷ q ∷ ts) x rest
    -- "new" cls [args]
    new : {ts rest : List Token} {t q : Token} {class : ClassReference} {xs : List Expr} {last : At} →
        IsKeyword w.New t → IsClass q class → IsMaybeArguments (on q) ts xs last rest → IsPrimary (t ∷ q ∷ ts) (e.New (span (on t) last) class xs) rest
    -- refused: "new" and an expression
    new_by : {ts mid rest : List Token} {t : Token} {x : Expr} {xs : List Expr} {last : At} →
        IsKeyword w.New t → IsTarget ts x mid → IsMaybeArguments (place x) mid xs last rest →
        IsPrimary (t ∷ ts) (e.New (span (on t) last) (c.ByExpression (place x) x) xs) rest
    -- "(" expr ")"
    paren : {ts rest : List Token} {o c : Token} {x : Expr} →
        IsMark m.OpenParen o → IsExpression 1 ts x (c ∷ rest) → IsMark m.CloseParen c → IsPrimary (o ∷ ts) (e.Paren (span (on o) (on c)) x) rest
    -- "isset" "(" path {"," path} [","] ")"
    isset : {ts rest : List Token} {t o c : Token} {xs : List Expr} →
        IsKeyword w.Isset t → IsMark m.OpenParen o → IsPaths is_path ts xs c rest → IsPrimary (t ∷ o ∷ ts) (e.Isset (span (on t) (on c)) xs) rest
    -- "empty" "(" expr ")"
    empty : {ts rest : List Token} {t o c : Token} {x : Expr} →
        IsKeyword w.Empty t → IsMark m.OpenParen o → IsExpression 1 ts x (c ∷ rest) → IsMark m.CloseParen c →
        IsPrimary (t ∷ o ∷ ts) (e.Empty (span (on t) (on c)) x) rest
    -- ("exit" | "die") ["(" [expr] ")"]
    exit : {rest : List Token} {t : Token} → IsExit t → opens rest ≡ false → IsPrimary (t ∷ rest) (e.Exit (on t)) rest
    exit_of_nothing : {rest : List Token} {t o c : Token} →
        IsExit t → IsMark m.OpenParen o → IsMark m.CloseParen c → IsPrimary (t ∷ o ∷ c ∷ rest) (e.Exit (span (on t) (on c))) rest
    exit_with : {ts rest : List Token} {t o c : Token} {x : Expr} →
        IsExit t → IsMark m.OpenParen o → IsExpression 1 ts x (c ∷ rest) → IsMark m.CloseParen c →
        IsPrimary (t ∷ o ∷ ts) (e.ExitWith (span (on t) (on c)) x) rest

  -- behind the head of a string: its interpolations and pieces, and the token of the last one
  pub data IsParts : List Token → List StringPart → Token → List Token → Type 0 where
    parts_last : {ts rest : List Token} {c : Token} {x : Expr} {bytes : List ℕ} →
        IsInterpolation ts x (c ∷ rest) → c.kind ≡ k.TextTail bytes → IsParts ts (part.Interpolation x ∷ part.Piece (on c) bytes ∷ []) c rest
    parts_more : {ts mid rest : List Token} {t c : Token} {x : Expr} {bytes : List ℕ} {parts : List StringPart} →
        IsInterpolation ts x (t ∷ mid) → t.kind ≡ k.TextMiddle bytes → IsParts mid parts c rest →
        IsParts ts (part.Interpolation x ∷ part.Piece (on t) bytes ∷ parts) c rest

  -- VAR | VAR "[" (NAME | VAR | INT) "]" | VAR "->" NAME | "{" expr "}", the expression beginning with a variable
  pub data IsInterpolation : List Token → Expr → List Token → Type 0 where
    plain_variable : {rest : List Token} {t : Token} {name : List ℕ} → t.kind ≡ k.Variable name → IsInterpolation (t ∷ rest) (e.Variable (on t) name) rest
    with_key : {rest : List Token} {t o q c : Token} {name : List ℕ} {x : Expr} →
        t.kind ≡ k.Variable name → IsMark m.OpenBracket o → IsKey q x → IsMark m.CloseBracket c →
        IsInterpolation (t ∷ o ∷ q ∷ c ∷ rest) (e.Path (span (on t) (on c)) (e.Variable (on t) name) (s.Index (span (on o) (on c)) x ∷ [])) rest
    with_property : {rest : List Token} {t o q : Token} {name property : List ℕ} →
        t.kind ≡ k.Variable name → IsMark m.Arrow o → q.kind ≡ k.Name property →
        IsInterpolation (t ∷ o ∷ q ∷ rest) (e.Path (span (on t) (on q)) (e.Variable (on t) name) (s.Property (span (on o) (on q)) (n.Named property) ∷ [])) rest
    in_braces : {ts rest : List Token} {o t c : Token} {name : List ℕ} {x : Expr} →
        IsMark m.OpenInterpolation o → t.kind ≡ k.Variable name → IsExpression 1 (t ∷ ts) x (c ∷ rest) → IsMark m.CloseBrace c → IsInterpolation (o ∷ t ∷ ts) x rest

  -- behind "(": [argument {"," argument} [","]] ")", and the token that closes
  pub data IsArguments : List Token → List Expr → Token → List Token → Type 0 where
    arguments_end : {rest : List Token} {c : Token} → IsMark m.CloseParen c → IsArguments (c ∷ rest) [] c rest
    arguments_last : {ts rest : List Token} {c : Token} {x : Expr} → IsArgument ts x (c ∷ rest) → IsMark m.CloseParen c → IsArguments ts (x ∷ []) c rest
    arguments_more : {ts mid rest : List Token} {t c : Token} {x : Expr} {xs : List Expr} →
        IsArgument ts x (t ∷ mid) → IsMark m.Comma t → IsArguments mid xs c rest → IsArguments ts (x ∷ xs) c rest

  -- expr; refused: NAME ":" expr
  pub data IsArgument : List Token → Expr → List Token → Type 0 where
    argument : {ts rest : List Token} {x : Expr} → IsExpression 1 ts x rest → IsArgument ts x rest
    named_argument : {ts rest : List Token} {t q : Token} {name : List ℕ} {x : Expr} →
        t.kind ≡ k.Name name → IsMark m.Colon q → IsExpression 1 ts x rest → IsArgument (t ∷ q ∷ ts) (e.NamedArgument (span (on t) (place x)) name x) rest

  -- args or nothing, and the place where they end
  pub data IsMaybeArguments : At → List Token → List Expr → At → List Token → Type 0 where
    no_arguments : {at : At} {ts : List Token} → opens ts ≡ false → IsMaybeArguments at ts [] at ts
    some_arguments : {at : At} {ts rest : List Token} {o c : Token} {xs : List Expr} →
        IsMark m.OpenParen o → IsArguments ts xs c rest → IsMaybeArguments at (o ∷ ts) xs (on c) rest

  -- behind the opening mark: items = [item {"," item} [","]], and the token that closes, of this mark
  pub data IsItems : Mark → List Token → List Item → Token → List Token → Type 0 where
    items_end : {closing : Mark} {rest : List Token} {c : Token} → IsMark closing c → IsItems closing (c ∷ rest) [] c rest
    items_last : {closing : Mark} {ts rest : List Token} {c : Token} {x : Item} → IsItem ts x (c ∷ rest) → IsMark closing c → IsItems closing ts (x ∷ []) c rest
    items_more : {closing : Mark} {ts mid rest : List Token} {t c : Token} {x : Item} {xs : List Item} →
        IsItem ts x (t ∷ mid) → IsMark m.Comma t → IsItems closing mid xs c rest → IsItems closing ts (x ∷ xs) c rest

  -- item = expr ["=>" expr]; refused: [expr "=>"] "&" path
  pub data IsItem : List Token → Item → List Token → Type 0 where
    value : {ts rest : List Token} {x : Expr} → IsExpression 1 ts x rest → IsItem ts (item.Plain (place x) x) rest
    pair : {ts mid rest : List Token} {t : Token} {x y : Expr} →
        IsExpression 1 ts x (t ∷ mid) → IsMark m.DoubleArrow t → IsExpression 1 mid y rest → IsItem ts (item.Keyed (span (place x) (place y)) x y) rest
    reference : {ts rest : List Token} {t : Token} {x : Expr} →
        t.kind ≡ k.Operator b.BitAnd → IsPostfix ts x rest → is_source x ≡ true → IsItem (t ∷ ts) (item.Reference (span (on t) (place x)) x) rest
    pair_reference : {ts mid rest : List Token} {t q : Token} {x y : Expr} →
        IsExpression 1 ts x (t ∷ q ∷ mid) → IsMark m.DoubleArrow t → q.kind ≡ k.Operator b.BitAnd → IsPostfix mid y rest → is_source y ≡ true →
        IsItem ts (item.KeyedReference (span (place x) (place y)) x y q.start) rest

  -- behind the "[" of a destructuring: elements and holes with commas between, and the "]" that closes
  pub data IsTargets : List Token → List Item → Token → List Token → Type 0 where
    targets_end : {rest : List Token} {c : Token} → IsMark m.CloseBracket c → IsTargets (c ∷ rest) [] c rest
    targets_last : {ts rest : List Token} {c : Token} {x : Item} → IsElement ts x (c ∷ rest) → IsMark m.CloseBracket c → IsTargets ts (x ∷ []) c rest
    targets_more : {ts mid rest : List Token} {t c : Token} {x : Item} {xs : List Item} →
        IsElement ts x (t ∷ mid) → IsMark m.Comma t → IsTargets mid xs c rest → IsTargets ts (x ∷ xs) c rest
    targets_hole : {ts rest : List Token} {t c : Token} {xs : List Item} → IsMark m.Comma t → IsTargets ts xs c rest → IsTargets (t ∷ ts) (item.Hole (on t) ∷ xs) c rest

  -- refused, an element of a destructuring: item | [expr "=>"] what is only written
  pub data IsElement : List Token → Item → List Token → Type 0 where
    element_item : {ts rest : List Token} {x : Item} → IsItem ts x rest → IsElement ts x rest
    element : {ts rest : List Token} {x : Expr} → IsWrittenOnly ts x rest → IsElement ts (item.Plain (place x) x) rest
    element_pair : {ts mid rest : List Token} {t : Token} {x y : Expr} →
        IsExpression 1 ts x (t ∷ mid) → IsMark m.DoubleArrow t → IsWrittenOnly mid y rest → IsElement ts (item.Keyed (span (place x) (place y)) x y) rest

  -- a written path with a step "[]", or a destructuring within another that is no array: "[" elements and holes "]"
  pub data IsWrittenOnly : List Token → Expr → List Token → Type 0 where
    appended : {ts rest : List Token} {x : Expr} → IsPostfix ts x rest → is_read x ≡ false → is_written x ≡ true → IsWrittenOnly ts x rest
    nested_targets : {ts rest : List Token} {o c : Token} {items : List Item} →
        IsMark m.OpenBracket o → IsTargets ts items c rest → has_targets items ≡ true → IsWrittenOnly (o ∷ ts) (e.Array (span (on o) (on c)) Targets items) rest

  -- behind "(": path {"," path} [","] ")", each path read and passing a test
  pub data IsPaths : (Expr → Bool) → List Token → List Expr → Token → List Token → Type 0 where
    paths_last : {test : Expr → Bool} {ts rest : List Token} {c : Token} {x : Expr} →
        IsPostfix ts x (c ∷ rest) → is_read x ≡ true → test x ≡ true → IsMark m.CloseParen c → IsPaths test ts (x ∷ []) c rest
    paths_last_comma : {test : Expr → Bool} {ts rest : List Token} {t c : Token} {x : Expr} →
        IsPostfix ts x (t ∷ c ∷ rest) → is_read x ≡ true → test x ≡ true → IsMark m.Comma t → IsMark m.CloseParen c → IsPaths test ts (x ∷ []) c rest
    paths_more : {test : Expr → Bool} {ts mid rest : List Token} {t c : Token} {x : Expr} {xs : List Expr} →
        IsPostfix ts x (t ∷ mid) → is_read x ≡ true → test x ≡ true → IsMark m.Comma t → IsPaths test mid xs c rest → IsPaths test ts (x ∷ xs) c rest

  -- refused, behind "new" and "instanceof": (VAR | cls "::" VAR) { "[" expr "]" | "->" member | "::" VAR } | "(" expr ")"
  pub data IsTarget : List Token → Expr → List Token → Type 0 where
    target_variable : {ts rest : List Token} {t : Token} {name : List ℕ} {steps : List Step} →
        t.kind ≡ k.Variable name → IsTargetSteps ts steps rest → IsTarget (t ∷ ts) (with_steps (e.Variable (on t) name) steps) rest
    target_static : {ts rest : List Token} {t o q : Token} {class : ClassReference} {name : List ℕ} {steps : List Step} →
        IsClass t class → IsMark m.DoubleColon o → q.kind ≡ k.Variable name → IsTargetSteps ts steps rest →
        IsTarget (t ∷ o ∷ q ∷ ts) (with_steps (e.StaticProperty (span (class_place class) (on q)) class name) steps) rest
    target_paren : {ts rest : List Token} {o c : Token} {x : Expr} →
        IsMark m.OpenParen o → IsExpression 1 ts x (c ∷ rest) → IsMark m.CloseParen c → IsTarget (o ∷ ts) (e.Paren (span (on o) (on c)) x) rest

  -- all steps that follow
  pub data IsTargetSteps : List Token → List Step → List Token → Type 0 where
    target_end : {ts : List Token} → goes_on_as_target ts ≡ false → IsTargetSteps ts [] ts
    target_index : {ts mid rest : List Token} {o c : Token} {x : Expr} {steps : List Step} →
        IsMark m.OpenBracket o → IsExpression 1 ts x (c ∷ mid) → IsMark m.CloseBracket c → IsTargetSteps mid steps rest →
        IsTargetSteps (o ∷ ts) (s.Index (span (on o) (on c)) x ∷ steps) rest
    target_property : {ts mid rest : List Token} {t l : Token} {name : MemberName} {steps : List Step} →
        IsMark m.Arrow t → IsMember ts name l mid → IsTargetSteps mid steps rest → IsTargetSteps (t ∷ ts) (s.Property (span (on t) (on l)) name ∷ steps) rest
    -- what is refused as a whole keeps no other node for a static property that a step names
    target_static_property : {ts rest : List Token} {t l : Token} {name : List ℕ} {steps : List Step} →
        IsMark m.DoubleColon t → l.kind ≡ k.Variable name → IsTargetSteps ts steps rest →
        IsTargetSteps (t ∷ l ∷ ts) (s.Property (span (on t) (on l)) (n.Computed (e.Variable (on l) name)) ∷ steps) rest
