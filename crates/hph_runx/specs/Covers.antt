-- The expressions whose code is shown to do what they mean: all but `$this`, calls of functions of the program, what classes and objects
-- have, and references. What is written has to be a variable or a path from one.
use Rattle.std.specs.Prelude.{ℕ, Bool, true, false, not, ◌&&◌, List, [], ◌∷◌, map, Option, None, Some}
use Rattle.std.specs.List.{list_all}
use Rattle.std.specs.Option.{option_map_or}
use Rattle.hph_ast.specs.declared.expr.Expr.{Expr}
use Rattle.hph_ast.specs.declared.expr.ClassReference.TheOpen.{ClassReference-F, Expr-F, Item-F, MemberName-F, Step-F, StringPart-F}
use Rattle.hph_ast.specs.declared.expr.ClassReference.TheFolds.{fold-Expr}
use Rattle.hph_php.specs.declared.builtin.Builtin.{Builtin}
use Rattle.hph_php.specs.declared.builtin.Builtin.TheVariants as f
use Rattle.hph_php.specs.Codes.{builtin_named}
use Rattle.hph_php.specs.Operations.{is_this}

-- whether it is one of them, and whether it may be written
pub record Cover : Type 0 where
  pub runs : Bool
  pub target : Bool

abbrev pub mere : Bool → Cover
mere runs = record { runs = runs; target = false }

abbrev pub all_true : List Bool → Bool
all_true [] = true
all_true (t ∷ ts) = t && all_true ts

abbrev pub all_run : List Cover → Bool
all_run [] = true
all_run (c ∷ cs) = c.runs && all_run cs

-- the array that array_push and array_pop change is one that may be written
abbrev pub changed_first : List Cover → Bool
changed_first [] = true
changed_first (c ∷ cs) = c.target && all_run cs

abbrev pub builtin_covers : Builtin → List Cover → Bool
builtin_covers f.ArrayPush xs = changed_first xs
builtin_covers f.ArrayPop xs = changed_first xs
builtin_covers function xs = all_run xs

abbrev pub class_by : ClassReference-F Bool Cover Bool (Unit {0}) Bool Bool → Bool
class_by c = false

abbrev pub item_by : Item-F Bool Cover Bool (Unit {0}) Bool Bool → Bool
item_by (Item-F.Plain at x) = x.runs
item_by (Item-F.Keyed at k x) = k.runs && x.runs
item_by _ = false

abbrev pub member_by : MemberName-F Bool Cover Bool (Unit {0}) Bool Bool → Unit {0}
member_by m = tt

abbrev pub step_by : Step-F Bool Cover Bool (Unit {0}) Bool Bool → Bool
step_by (Step-F.Index at x) = x.runs
step_by (Step-F.Append at) = true
step_by (Step-F.Property at name) = true

abbrev pub part_by : StringPart-F Bool Cover Bool (Unit {0}) Bool Bool → Bool
part_by (StringPart-F.Piece at bytes) = true
part_by (StringPart-F.Interpolation x) = x.runs

abbrev pub covers_by : Expr-F Bool Cover Bool (Unit {0}) Bool Bool → Cover
covers_by (Expr-F.Int at n) = mere true
covers_by (Expr-F.Text at bytes) = mere true
covers_by (Expr-F.Interpolated at parts) = mere (all_true parts)
covers_by (Expr-F.Variable at name) = record { runs = not (is_this name); target = not (is_this name) }
covers_by (Expr-F.Constant at name) = mere true
covers_by (Expr-F.Directory at) = mere true
covers_by (Expr-F.Array at form items) = mere (all_true items)
covers_by (Expr-F.Call at name xs) = mere (option_map_or (λ function. builtin_covers function xs) (builtin_named name) false)
covers_by (Expr-F.Paren at x) = mere x.runs
covers_by (Expr-F.Isset at xs) = mere (all_run xs)
covers_by (Expr-F.Empty at x) = mere x.runs
covers_by (Expr-F.Exit at) = mere true
covers_by (Expr-F.ExitWith at x) = mere x.runs
covers_by (Expr-F.Path at x steps) = record { runs = x.runs && all_true steps; target = x.target && all_true steps }
covers_by (Expr-F.Update at form x) = mere x.target
covers_by (Expr-F.Prefix at op x) = mere x.runs
covers_by (Expr-F.Run at x more) = mere (x.runs && all_run (map (λ o. o.1) more))
covers_by (Expr-F.Pair at op x y) = mere (x.runs && y.runs)
covers_by (Expr-F.Ternary at x y z) = mere (x.runs && (y.runs && z.runs))
covers_by (Expr-F.ShortTernary at x more) = mere (x.runs && all_run more)
covers_by (Expr-F.Assign at op x y) = mere (x.target && y.runs)
covers_by _ = mere false

unfoldable pub covers : Expr → Cover
covers = fold-Expr Bool Cover Bool (Unit {0}) Bool Bool class_by covers_by item_by member_by step_by part_by
