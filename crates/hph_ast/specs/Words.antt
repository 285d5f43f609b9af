-- Keywords, and what a name is where it may be one: PHP manual, List of Keywords. Those that other versions of PHP
-- have, and true, false, null, int, string, enum and their kin, are names.
use Rattle.std.specs.Prelude.{ℕ, Bool, true, false, List, [], ◌∷◌, if◌then◌else◌, codes}
use Rattle.hph_ast.specs.declared.token.Kind.{Kind}
use Rattle.hph_ast.specs.declared.token.Kind.TheVariants as k
use Rattle.hph_ast.specs.declared.keyword.Keyword.TheVariants as w
use Rattle.hph_ast.specs.declared.operator.Binary.TheVariants as b
use Rattle.hph_ast.specs.Bytes.{is_word}

-- the keywords in lower case; three of them are operators
abbrev pub keywords : List (List ℕ × Kind)
keywords =
    (codes "abstract", k.Keyword w.Abstract) ∷
    (codes "array", k.Keyword w.Array) ∷
    (codes "as", k.Keyword w.As) ∷
    (codes "break", k.Keyword w.Break) ∷
    (codes "case", k.Keyword w.Case) ∷
    (codes "catch", k.Keyword w.Catch) ∷
    (codes "class", k.Keyword w.Class) ∷
    (codes "clone", k.Keyword w.Clone) ∷
    (codes "const", k.Keyword w.Const) ∷
    (codes "continue", k.Keyword w.Continue) ∷
    (codes "declare", k.Keyword w.Declare) ∷
    (codes "default", k.Keyword w.Default) ∷
    (codes "die", k.Keyword w.Die) ∷
    (codes "do", k.Keyword w.Do) ∷
    (codes "echo", k.Keyword w.Echo) ∷
    (codes "else", k.Keyword w.Else) ∷
    (codes "elseif", k.Keyword w.ElseIf) ∷
    (codes "empty", k.Keyword w.Empty) ∷
    (codes "enddeclare", k.Keyword w.EndDeclare) ∷
    (codes "endfor", k.Keyword w.EndFor) ∷
    (codes "endforeach", k.Keyword w.EndForeach) ∷
    (codes "endif", k.Keyword w.EndIf) ∷
    (codes "endswitch", k.Keyword w.EndSwitch) ∷
    (codes "endwhile", k.Keyword w.EndWhile) ∷
    (codes "eval", k.Keyword w.Eval) ∷
    (codes "exit", k.Keyword w.Exit) ∷
    (codes "extends", k.Keyword w.Extends) ∷
    (codes "final", k.Keyword w.Final) ∷
    (codes "finally", k.Keyword w.Finally) ∷
    (codes "fn", k.Keyword w.Fn) ∷
    (codes "for", k.Keyword w.For) ∷
    (codes "foreach", k.Keyword w.Foreach) ∷
    (codes "function", k.Keyword w.Function) ∷
    (codes "global", k.Keyword w.Global) ∷
    (codes "goto", k.Keyword w.Goto) ∷
    (codes "__halt_compiler", k.Keyword w.HaltCompiler) ∷
    (codes "if", k.Keyword w.If) ∷
    (codes "implements", k.Keyword w.Implements) ∷
    (codes "include", k.Keyword w.Include) ∷
    (codes "include_once", k.Keyword w.IncludeOnce) ∷
    (codes "instanceof", k.Keyword w.InstanceOf) ∷
    (codes "interface", k.Keyword w.Interface) ∷
    (codes "isset", k.Keyword w.Isset) ∷
    (codes "list", k.Keyword w.List) ∷
    (codes "__class__", k.Keyword w.MagicClass) ∷
    (codes "__dir__", k.Keyword w.MagicDir) ∷
    (codes "__file__", k.Keyword w.MagicFile) ∷
    (codes "__function__", k.Keyword w.MagicFunction) ∷
    (codes "__line__", k.Keyword w.MagicLine) ∷
    (codes "__method__", k.Keyword w.MagicMethod) ∷
    (codes "__namespace__", k.Keyword w.MagicNamespace) ∷
    (codes "__trait__", k.Keyword w.MagicTrait) ∷
    (codes "match", k.Keyword w.Match) ∷
    (codes "namespace", k.Keyword w.Namespace) ∷
    (codes "new", k.Keyword w.New) ∷
    (codes "parent", k.Keyword w.Parent) ∷
    (codes "print", k.Keyword w.Print) ∷
    (codes "private", k.Keyword w.Private) ∷
    (codes "protected", k.Keyword w.Protected) ∷
    (codes "public", k.Keyword w.Public) ∷
    (codes "readonly", k.Keyword w.ReadOnly) ∷
    (codes "require", k.Keyword w.Require) ∷
    (codes "require_once", k.Keyword w.RequireOnce) ∷
    (codes "return", k.Keyword w.Return) ∷
    (codes "self", k.Keyword w.SelfClass) ∷
    (codes "static", k.Keyword w.Static) ∷
    (codes "switch", k.Keyword w.Switch) ∷
    (codes "throw", k.Keyword w.Throw) ∷
    (codes "trait", k.Keyword w.Trait) ∷
    (codes "try", k.Keyword w.Try) ∷
    (codes "unset", k.Keyword w.Unset) ∷
    (codes "use", k.Keyword w.Use) ∷
    (codes "var", k.Keyword w.Var) ∷
    (codes "while", k.Keyword w.While) ∷
    (codes "yield", k.Keyword w.Yield) ∷
    (codes "and", k.Operator b.LogicalAnd) ∷
    (codes "xor", k.Operator b.LogicalXor) ∷
    (codes "or", k.Operator b.LogicalOr) ∷ []

-- the kind of a name by a table, in any ASCII case
abbrev pub kind_in : List (List ℕ × Kind) → List ℕ → Kind
kind_in [] name = k.Name name
kind_in (row ∷ rows) name = if is_word row.0 name then row.1 else kind_in rows name

-- behind `->` and `::` a name is never a keyword
abbrev pub name_kind : Bool → List ℕ → Kind
name_kind true name = k.Name name
name_kind false name = kind_in keywords name
