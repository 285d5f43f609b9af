-- Forms that read, test and write along paths.
use Rattle.std.proofs.Common.{◌≡◌, ℕ, zero, suc, ◌+◌, ◌≤◌, List, [], ◌∷◌, ◌++◌, length, map, refl, sym, ap, ◌∙◌, subst, arith, append_assoc, Option, Some, None}
use Rattle.std.proofs.lemmas.List.{append-nil}
use Rattle.std.specs.Prelude.{pos, Bool, true, false, if◌then◌else◌, IfSome, bytes_eq}
use Rattle.std.specs.Option.{option_map, option_map_or, unwrap_or}
use Rattle.hph_wasm.specs.declared.instr.Instr.{Instr, Eqz, Br, BrIf}
use Rattle.hph_wasm.specs.declared.instr.Instr.TheViews as view
use Rattle.hph_wasm.specs.declared.value.Value.{Value as Word}
use Rattle.hph_wasm.specs.declared.types.ValType.TheVariants.{I32}
use Rattle.hph_ast.specs.declared.operator.Binary.{Binary}
use Rattle.hph_ast.specs.declared.operator.Binary.TheVariants as b
use Rattle.hph_ast.specs.declared.operator.Assignment.{Assignment}
use Rattle.hph_ast.specs.declared.operator.Assignment.TheVariants as a
use Rattle.hph_ast.specs.declared.expr.Update.{Update}
use Rattle.hph_ast.specs.declared.expr.Update.TheVariants as update
use Rattle.hph_php.specs.declared.operator.BinOp.{BinOp}
use Rattle.hph_php.specs.declared.operator.UnOp.TheVariants as unary
use Rattle.hph_php.specs.Codes.{binary_code}
use Rattle.hph_php.specs.Values.{Value, Null, Boolean}
use Rattle.hph_php.specs.Operators.{binary_of, incremented, decremented}
use Rattle.hph_php.specs.State.{State, Name, variable_value, set_variable}
use Rattle.hph_php.specs.Answers.{Means, bind, give, first, change, each, nothing}
use Rattle.hph_php.specs.Paths.{PathStep, unless_null, operate_at, update_at}
use Rattle.hph_php.specs.Targets.{Reading, Form, plain_variable, a_path, from_directory, another, Base, variable_base, store, read_from, try_from, write_to, try_by, try, value_or, is_empty_value, all_set, assign, assign_if_unset}
use Rattle.hph_php.specs.Targets as target
use Rattle.hph_php.specs.Operations.{operate, pair, compound, assigned, assignment, moved_by}
use Rattle.hph_effects.specs.declared.row.Row.TheVariants as r
use Rattle.hph_effects.specs.Hosts.{Item, a_value, a_step}
use Rattle.hph_plan.specs.Plan.{Plan}
use Rattle.hph_lowering.specs.Code.{Code, with_code, with_both, all, plain, call, number, no_value, Scope, slot_of, by_number}
use Rattle.hph_lowering.specs.Expressions.{Lowered, Step, slot_code, binds_of, is_bound, along, depth, try_code, operate_code, pair_code, choice, unless, boolean, op1, isset_code, empty_code, set_code, assign_code, assign_with, assign_unset, assignment_code, based_anew, update_code}
use Rattle.hph_lowering.specs.Expressions as l
use Rattle.hph_seqv.specs.Simulates.{Setup, Situation, Runs, Everywhere, no_words, no_items, one_value, Values, After}
use Rattle.hph_seqv.proofs.Joins.{then_on, more, over, narrowed, makes, at_once}
use Rattle.hph_seqv.proofs.Values.{duplicates}
use Rattle.hph_seqv.proofs.Variables.{sets}
use Rattle.hph_forms.specs.Bases.{stacked, IsBase}
use Rattle.hph_forms.proofs.PathRows.{is_there, if_there, reads, tries, writes, operates_there, increments, decrements, increments_after, decrements_after}
use Rattle.hph_forms.proofs.Tries.{Tries, values_or, values_empty, writes_if_unset}
use Rattle.hph_forms.proofs.Sets.{Sets, all_are_set, out_unless_set, sets_one, isset_blocks, values_isset}
use Rattle.hph_runx.specs.Covers.{Cover}
use Rattle.hph_runx.specs.Runs.{Planned, setup}
use Rattle.hph_runx.proofs.Codes.{with_code_holds, two_hold, one_holds, between_holds, last_lacks, by_number_holds, holds_more}
use Rattle.hph_runx.proofs.Shapes.{IsMere, is_place, placed_writable, unbound, Based, StepsRun, Shape, mere_value, whole_variable, behind, value_of, binds_none}
use Rattle.hph_runx.proofs.Paths.{along_is, PathOf, as_path, target_path, row_with, row_runs, row_with_value}
use Rattle.hph_runx.proofs.Forms.{Within, WithinAfter, within_more, then_value, operate_runs, two_run}

-- an expression that is no path is tested by its value
try_mere : (class : Option ℕ) (form : Form) (x : Reading) → IsMere form → try_by class form x ≡ bind x.value (λ v. give (unless_null v))
try_mere class (plain_variable name) x is = absurd is
try_mere class a_path x is = absurd is
try_mere class from_directory x is = refl
try_mere class another x is = refl

module _ (plan : Plan) (scope : Scope) (planned : Planned plan scope) (d : ℕ) where
  abbrev s : Setup
  s = setup plan scope planned

  abbrev ShapeOf : ℕ → Reading → Lowered → Cover → Type 0
  ShapeOf = Shape plan scope planned d

  abbrev Is : ℕ → Code → Means Value → Type 0
  Is = Within plan scope planned d

  -- ---- reading

  -- the number of steps in the code is that of those on the stack
  counted : {A : Type 0} {Where : Situation → Type 0} {items : List Item} {leaves : A → List Word} {gives : A → List Item} {mean : Means A} (b i j : ℕ) (rest : List Instr) →
      i ≡ j → Runs s d Where [] items leaves gives b (number i ∷ rest) mean → Runs s d Where [] items leaves gives b (number j ∷ rest) mean
  counted {Where} {items} {leaves} {gives} {mean} b i j rest e p = subst (λ k. Runs s d Where [] items leaves gives b (number k ∷ rest) mean) e p

  pub path_read : (b : ℕ) (x : Reading) (k : Lowered) (may : Bool) → PathOf plan scope planned d b x k may →
      Is (b + 0) (all (along k [] ∷ plain (depth k ∷ call r.PathGet ∷ []) ∷ [])) (target.along x (read_from s.class))
  path_read b x k may p = row_runs plan scope planned d no_words one_value b x k may p 3 (omega arith) (depth k ∷ call r.PathGet ∷ []) (read_from s.class)
      (λ item base steps placed long. counted 3 (length steps) (length k.steps) (call r.PathGet ∷ []) long (reads s d item base steps))

  abbrev pub TriesWithin : ℕ → Code → Means (Option Value) → Type 0
  TriesWithin b code mean = IfSome code (λ code. Tries s d Everywhere b code mean)

  tested : (b : ℕ) (x : Reading) (k : Lowered) (may : Bool) → PathOf plan scope planned d b x k may →
      TriesWithin (b + 3) (all (along k [] ∷ plain (depth k ∷ call r.PathTry ∷ []) ∷ [])) (target.along x (try_from s.class))
  tested b x k may p = holds_more _ _ (all (along k [] ∷ plain (depth k ∷ call r.PathTry ∷ []) ∷ []))
      (row_runs plan scope planned d is_there if_there b x k may p 3 (omega arith) (depth k ∷ call r.PathTry ∷ []) (try_from s.class)
      (λ item base steps placed long. counted 3 (length steps) (length k.steps) (call r.PathTry ∷ []) long (tries s d item base steps)))
      (λ code q. more s d Everywhere [] [] is_there if_there (b + 0) (b + 3) (omega arith) q)

  pub try_runs : (b : ℕ) (x : Reading) (k : Lowered) (c : Cover) → 64 ≤ b → ShapeOf b x k c → TriesWithin (b + 3) (try_code k) (try s.class x)
  try_runs b x k c large (mere_value form is mean binds e code runs p) =
      subst (λ m. TriesWithin (b + 3) (all (code ∷ plain (number 0 ∷ call r.PathTry ∷ []) ∷ [])) m) (sym (try_mere s.class form
      (record { form = form; value = mean; base = bind mean (λ v. give (target.a_value v)); steps = give [] }) is))
      (one_holds _ _ code (number 0 ∷ call r.PathTry ∷ []) p (λ code q. then_on s d Everywhere [] [] no_words one_value is_there if_there b 3 code
      (number 0 ∷ call r.PathTry ∷ []) mean (λ v. give (unless_null v)) q (λ v. narrowed s d (IsBase s (a_value v) (target.a_value v)) Everywhere (λ w _. refl) []
      (one_value v) is_there if_there 3 (number 0 ∷ call r.PathTry ∷ []) (give (unless_null v)) (tries s d (a_value v) (target.a_value v) []))))
  try_runs b x k c large (whole_variable name runs may p) =
      let shape : ShapeOf b x k c = whole_variable name runs may p in
      tested b x k c.target (as_path plan scope planned d b x k c large shape refl)
  try_runs b x k c large (behind b1 b2 le base root code rooted based ms ss steps mean value p binds e runs may into) =
      let shape : ShapeOf b x k c = behind b1 b2 le base root code rooted based ms ss steps mean value p binds e runs may into in
      tested b x k c.target (as_path plan scope planned d b x k c large shape refl)

  pub coalesce_runs : (a b : ℕ) (x : Reading) (k : Lowered) (c : Cover) → 64 ≤ a → ShapeOf a x k c → (code : Code) (m : Means Value) → Is b code m →
      Is ((a + 3) + (b + 3)) (all (try_code k ∷ with_code code unless ∷ [])) (bind (try s.class x) (λ v. value_or v m))
  coalesce_runs a b x k c large shape code m q = two_hold _ (λ cy. (ct : List Instr) → Tries s d Everywhere (a + 3) ct (try s.class x) →
      Values s d Everywhere ((a + 3) + (b + 3)) (ct ++ cy) (bind (try s.class x) (λ v. value_or v m))) _ (try_code k) (with_code code unless) (try_runs a x k c large shape)
      (with_code_holds (λ code. Values s d Everywhere b code m) _ code unless q (λ code y ct t. values_or s d Everywhere (a + 3) b ct code (try s.class x) m t y)) (λ ct cy t y. y ct t)

  pub pair_runs : (op : Binary) (n e : ℕ) (x y : Reading) (k m : Lowered) (c : Cover) → 64 ≤ n → ShapeOf n x k c → Is e m.value y.value →
      Is (n + (e + 10)) (pair_code op k m) (pair s.class op x y)
  pair_runs b.Coalesce n e x y k m c large shape q = within_more plan scope planned d (pair_code b.Coalesce k m) (pair s.class b.Coalesce x y) ((n + 3) + (e + 3)) (n + (e + 10)) (omega arith)
      (coalesce_runs n e x k c large shape m.value y.value q)
  pair_runs op n e x y k m c large shape q = two_run plan scope planned d n (e + 10) k.value (operate_code op m.value) x.value (λ v. operate op v y.value)
      (value_of plan scope planned d n x k c shape) (operate_runs plan scope planned d op e m.value y.value q)

  pub empty_runs : (b : ℕ) (x : Reading) (k : Lowered) (c : Cover) → 64 ≤ b → ShapeOf b x k c →
      Is (b + 8) (empty_code k) (bind (try s.class x) (λ v. give (is_empty_value v)))
  empty_runs b x k c large shape = with_code_holds _ _ (try_code k) (λ code. code ++ view.If no_value (op1 unary.Not) (Some (boolean true)) ∷ []) (try_runs b x k c large shape)
      (λ ct t. more s d Everywhere [] [] no_words one_value ((b + 3) + 5) (b + 8) (omega arith) (values_empty s d Everywhere (b + 3) ct (try s.class x) t))

  -- the tests of isset
  abbrev pub SetsWithin : ℕ → Code → Means Value → Type 0
  SetsWithin b code mean = IfSome code (λ code. Sets s d Everywhere b code mean)

  pub set_none : (b : ℕ) → SetsWithin 0 (isset_code []) (all_set s.class [])
  set_none b = all_are_set s d Everywhere

  pub set_more : (a b : ℕ) (x : Reading) (k : Lowered) (c : Cover) → 64 ≤ a → ShapeOf a x k c → (xs : List Reading) (ks : List Lowered) → SetsWithin b (isset_code ks) (all_set s.class xs) →
      SetsWithin ((a + 3) + (b + 4)) (isset_code (k ∷ ks)) (all_set s.class (x ∷ xs))
  set_more a b x k c large shape xs ks q = between_holds _ _ _ (try_code k) (isset_code ks) (out_unless_set s d Everywhere) (try_runs a x k c large shape) q
      (λ ct cr t rest. sets_one s d Everywhere (a + 3) b ct cr (try s.class x) (all_set s.class xs) t rest)

  pub isset_runs : (b : ℕ) (code : Code) (m : Means Value) → SetsWithin b code m → Is (b + 6) (with_code code l.isset_blocks) m
  isset_runs b code m q = with_code_holds _ _ code l.isset_blocks q (λ tests p.
      subst (λ inner. Values s d Everywhere (b + 6) (view.Block no_value (view.Block no_value inner ∷ boolean false) ∷ []) m) (sym (append_assoc tests (boolean true) (Br 1 ∷ [])))
      (values_isset s d Everywhere b tests m p))

  -- ---- writing

  -- a value that stays, once it is in a variable
  sets_over : (name : Name) (i : ℕ) → slot_of scope name ≡ Some i → (v : Value) →
      Runs s d Everywhere [] (a_value v ∷ a_value v ∷ []) no_words one_value 3 (number i ∷ call r.Set ∷ []) (first (change (set_variable name v)) (give v))
  sets_over name i at v = makes s d Everywhere [] (a_value v ∷ a_value v ∷ []) no_words (λ (u : Unit {0}). one_value v) no_words one_value 3 (number i ∷ call r.Set ∷ [])
      (change (set_variable name v)) (λ u. v) (λ u k st c g. record { places = g.places; scratch = g.scratch; fits = g.fits; is = g.is })
      (over s d Everywhere [] (one_value v) no_words no_items [] (one_value v) 3 (number i ∷ call r.Set ∷ []) (change (set_variable name v)) (sets s d Everywhere name i at v))

  set_runs : (name : Name) (b : ℕ) (code : Code) (m : Means Value) → Is b code m →
      Is (b + 5) (set_code plan scope name code) (bind m (λ v. first (change (set_variable name v)) (give v)))
  set_runs name b code m p = between_holds _ (λ cs. (v : Value) → Runs s d Everywhere [] (a_value v ∷ a_value v ∷ []) no_words one_value 3 cs (first (change (set_variable name v)) (give v))) _
      code (slot_code plan scope name (call r.Set)) (call r.Dup ∷ []) p
      (by_number_holds _ (slot_of scope name) (λ i. number i ∷ call r.Set ∷ []) (λ i at v. sets_over name i at v)) (λ code cs q sets.
      then_value plan scope planned d b 5 code (call r.Dup ∷ cs) m (λ v. first (change (set_variable name v)) (give v)) q (λ v.
      then_on s d Everywhere [] (one_value v) no_words (λ (w : Value). a_value w ∷ a_value w ∷ []) no_words one_value 2 3 (call r.Dup ∷ []) cs (give v)
      (λ w. first (change (set_variable name w)) (give w)) (duplicates s d Everywhere v) sets))

  -- a value is written behind a path
  written : (b e : ℕ) (x : Reading) (k : Lowered) (may : Bool) → may ≡ true → PathOf plan scope planned d b x k may → (y : Lowered) (m : Means Value) → y.binds ≡ [] → Is e y.value m →
      Is (b + e) (all (along k (y ∷ []) ∷ plain (depth k ∷ call r.PathSet ∷ []) ∷ [])) (target.along x (λ base steps. bind m (λ v. write_to s.class base steps v)))
  written b e x k may is p y m none q = row_with_value plan scope planned d no_words one_value b x k may p e y m none q 3 (omega arith) (depth k ∷ call r.PathSet ∷ [])
      (λ base steps v. write_to s.class base steps v) (λ item base steps v placed long. writes_counted item base steps v (placed is) (length k.steps) long)
    where
      writes_counted : (item : Item) (base : Base) (steps : List PathStep) (v : Value) → is_place item ≡ true → (j : ℕ) → length steps ≡ j →
          Runs s d (IsBase s item base) [] (a_value v ∷ (stacked a_step steps ++ (item ∷ []))) no_words one_value 3 (number j ∷ call r.PathSet ∷ []) (write_to s.class base steps v)
      writes_counted item base steps v placed j long = counted 3 (length steps) j (call r.PathSet ∷ []) long (writes s d item base steps (placed_writable item steps placed) v)

  pub assign_runs : (b e : ℕ) (x : Reading) (k : Lowered) (c : Cover) → 64 ≤ b → ShapeOf b x k c → c.target ≡ true → (y : Lowered) (m : Means Value) → y.binds ≡ [] → Is e y.value m →
      Is (b + (e + 5)) (assign_code plan scope k y) (assign s.class x m)
  assign_runs b e x k c large (mere_value form is mean binds f code runs p) may y m none q = absurd (false_true may)
    where
      false_true : false ≡ true → ⊥
      false_true e = cc
  assign_runs b e x k c large (whole_variable name runs may p) is y m none q =
      within_more plan scope planned d (set_code plan scope name y.value) (bind m (λ v. first (change (set_variable name v)) (give v))) (e + 5) (b + (e + 5)) (omega arith) (set_runs name e y.value m q)
  assign_runs b e x k c large (behind b1 b2 le base root code rooted based ms ss steps mean value p binds f runs may into) is y m none q =
      let shape : ShapeOf b x k c = behind b1 b2 le base root code rooted based ms ss steps mean value p binds f runs may into in
      within_more plan scope planned d (all (along k (y ∷ []) ∷ plain (depth k ∷ call r.PathSet ∷ []) ∷ [])) (target.along x (λ base steps. bind m (λ v. write_to s.class base steps v)))
      (b + e) (b + (e + 5)) (omega arith) (written b e x k c.target is (as_path plan scope planned d b x k c large shape refl) y m none q)

  operated_runs : (op : BinOp) (b e : ℕ) (x : Reading) (k : Lowered) (may : Bool) → may ≡ true → PathOf plan scope planned d b x k may → (y : Lowered) (m : Means Value) → y.binds ≡ [] → Is e y.value m →
      Is (b + e) (all (along k (y ∷ []) ∷ plain (depth k ∷ number (binary_code op) ∷ call r.PathOp ∷ []) ∷ []))
      (target.along x (λ base steps. bind m (λ v. store base (operate_at s.class (binary_of op) steps v))))
  operated_runs op b e x k may is p y m none q = row_with_value plan scope planned d no_words one_value b x k may p e y m none q 4 (omega arith)
      (depth k ∷ number (binary_code op) ∷ call r.PathOp ∷ []) (λ base steps v. store base (operate_at s.class (binary_of op) steps v))
      (λ item base steps v placed long. counted 4 (length steps) (length k.steps) (number (binary_code op) ∷ call r.PathOp ∷ []) long
      (operates_there s d item base steps (placed_writable item steps (placed is)) op v))

  -- `x ??= y`: what comes behind the path
  unset_code : Lowered → Code → Code
  unset_code k y = all (along k [] ∷ plain (depth k ∷ call r.PathKeep ∷ []) ∷ with_code (all (y ∷ plain [] ∷ plain (depth k ∷ call r.PathSet ∷ []) ∷ [])) unless ∷ [])

  unset_runs : (n e : ℕ) (x : Reading) (k : Lowered) (may : Bool) → may ≡ true → PathOf plan scope planned d n x k may → (code : Code) (m : Means Value) → Is e code m →
      Is (n + e) (unset_code k code) (target.along x (λ base steps. bind (try_from s.class base steps) (λ old. value_or old (bind m (λ v. write_to s.class base steps v)))))
  unfolding unset_code
  unset_runs n e x k may is p None m q = last_lacks _ (along k []) (depth k ∷ call r.PathKeep ∷ [])
  unset_runs n e x k may is p (Some code) m q = row_with plan scope planned d no_words one_value n x k may p (λ (u : Unit {0}). []) (λ u. Unit {0}) 0 [] nothing refl (λ i st. tt)
      (at_once s d Everywhere no_words no_items tt) (3 + (e + 6)) (n + e) (omega arith)
      (depth k ∷ call r.PathKeep ∷ Eqz I32 ∷ view.If no_value (code ++ (depth k ∷ call r.PathSet ∷ [])) None ∷ [])
      (λ base steps u. bind (try_from s.class base steps) (λ old. value_or old (bind m (λ v. write_to s.class base steps v))))
      (λ item base steps u placed long known. in_code item base steps (placed is) (length k.steps) long)
    where
      in_code : (item : Item) (base : Base) (steps : List PathStep) → is_place item ≡ true → (j : ℕ) → length steps ≡ j →
          Runs s d (IsBase s item base) [] (stacked a_step steps ++ (item ∷ [])) no_words one_value (3 + (e + 6))
          (number j ∷ call r.PathKeep ∷ Eqz I32 ∷ view.If no_value (code ++ (number j ∷ call r.PathSet ∷ [])) None ∷ [])
          (bind (try_from s.class base steps) (λ old. value_or old (bind m (λ v. write_to s.class base steps v))))
      in_code item base steps placed j long = subst (λ j. Runs s d (IsBase s item base) [] (stacked a_step steps ++ (item ∷ [])) no_words one_value (3 + (e + 6))
          (number j ∷ call r.PathKeep ∷ Eqz I32 ∷ view.If no_value (code ++ (number j ∷ call r.PathSet ∷ [])) None ∷ [])
          (bind (try_from s.class base steps) (λ old. value_or old (bind m (λ v. write_to s.class base steps v))))) long
          (writes_if_unset s d item base steps (placed_writable item steps placed) e code m q)

  compound_runs : (o : Option BinOp) (n e : ℕ) (x : Reading) (k : Lowered) (c : Cover) → 64 ≤ n → ShapeOf n x k c → c.target ≡ true → (y : Reading) (m : Lowered) → m.binds ≡ [] → Is e m.value y.value →
      Is (n + (e + 5)) (assign_with plan scope o k m) (assigned s.class o x y)
  compound_runs None n e x k c large shape may y m none q = assign_runs n e x k c large shape may m y.value none q
  compound_runs (Some op) n e x k c large shape may y m none q = within_more plan scope planned d (assign_with plan scope (Some op) k m) (assigned s.class (Some op) x y) (n + e) (n + (e + 5)) (omega arith)
      (operated_runs op n e x k c.target may (as_path plan scope planned d n x k c large shape (target_path plan scope planned d n x k c shape may)) m y.value none q)

  coalesced : (n e : ℕ) (x : Reading) (k : Lowered) (c : Cover) → 64 ≤ n → ShapeOf n x k c → c.target ≡ true → (y : Reading) (m : Lowered) → m.binds ≡ [] → Is e m.value y.value →
      Is (n + (e + 5)) (assign_unset plan scope k m) (assign_if_unset s.class x y.value)
  unfolding unset_code
  coalesced n e x k c large shape may y m none q =
      within_more plan scope planned d (assign_unset plan scope k m) (assign_if_unset s.class x y.value) (n + e) (n + (e + 5)) (omega arith)
      (subst (λ between. Is (n + e) (all (along k [] ∷ plain (depth k ∷ call r.PathKeep ∷ []) ∷ with_code (all (m.value ∷ between ∷ plain (depth k ∷ call r.PathSet ∷ []) ∷ [])) unless ∷ []))
      (assign_if_unset s.class x y.value))
      (sym (ap (λ binds. if is_bound k.root binds then based_anew plan scope k else plain []) none ∙ unbound k.root Code (based_anew plan scope k) (plain [])))
      (unset_runs n e x k c.target may (as_path plan scope planned d n x k c large shape (target_path plan scope planned d n x k c shape may)) m.value y.value q))

  pub assignment_runs : (op : Assignment) (n e : ℕ) (x : Reading) (k : Lowered) (c : Cover) → 64 ≤ n → ShapeOf n x k c → c.target ≡ true → (y : Reading) (m : Lowered) → m.binds ≡ [] → Is e m.value y.value →
      Is (n + (e + 5)) (assignment_code plan scope op k m) (assignment s.class op x y)
  assignment_runs a.Coalesce n e x k c large shape may y m none q = coalesced n e x k c large shape may y m none q
  assignment_runs op n e x k c large shape may y m none q = compound_runs (compound op) n e x k c large shape may y m none q

  -- `++` and `--`
  pub update_runs : (form : Update) (n : ℕ) (x : Reading) (k : Lowered) (c : Cover) → 64 ≤ n → ShapeOf n x k c → c.target ≡ true →
      Is (n + 0) (all (along k [] ∷ plain (depth k ∷ number (update_code form) ∷ call r.PathInc ∷ []) ∷ [])) (moved_by s.class form x)
  update_runs form n x k c large shape may = by form
    where
      p : PathOf plan scope planned d n x k c.target
      p = as_path plan scope planned d n x k c large shape (target_path plan scope planned d n x k c shape may)

      by : (form : Update) → Is (n + 0) (all (along k [] ∷ plain (depth k ∷ number (update_code form) ∷ call r.PathInc ∷ []) ∷ [])) (moved_by s.class form x)
      by update.PreIncrement = row_runs plan scope planned d no_words one_value n x k c.target p 4 (omega arith) (depth k ∷ number 0 ∷ call r.PathInc ∷ [])
          (λ base steps. store base (update_at s.class incremented (λ old new. new) steps)) (λ item base steps placed long. counted 4 (length steps) (length k.steps)
          (number 0 ∷ call r.PathInc ∷ []) long (increments s d item base steps (placed_writable item steps (placed may))))
      by update.PreDecrement = row_runs plan scope planned d no_words one_value n x k c.target p 4 (omega arith) (depth k ∷ number 1 ∷ call r.PathInc ∷ [])
          (λ base steps. store base (update_at s.class decremented (λ old new. new) steps)) (λ item base steps placed long. counted 4 (length steps) (length k.steps)
          (number 1 ∷ call r.PathInc ∷ []) long (decrements s d item base steps (placed_writable item steps (placed may))))
      by update.PostIncrement = row_runs plan scope planned d no_words one_value n x k c.target p 4 (omega arith) (depth k ∷ number 2 ∷ call r.PathInc ∷ [])
          (λ base steps. store base (update_at s.class incremented (λ old new. old) steps)) (λ item base steps placed long. counted 4 (length steps) (length k.steps)
          (number 2 ∷ call r.PathInc ∷ []) long (increments_after s d item base steps (placed_writable item steps (placed may))))
      by update.PostDecrement = row_runs plan scope planned d no_words one_value n x k c.target p 4 (omega arith) (depth k ∷ number 3 ∷ call r.PathInc ∷ [])
          (λ base steps. store base (update_at s.class decremented (λ old new. old) steps)) (λ item base steps placed long. counted 4 (length steps) (length k.steps)
          (number 3 ∷ call r.PathInc ∷ []) long (decrements_after s d item base steps (placed_writable item steps (placed may))))
