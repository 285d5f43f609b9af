-- Lists of parts: steps of a path, elements of an array, pieces of a string, and arguments of functions that are built in.
use Rattle.std.proofs.Common.{◌≡◌, ℕ, zero, suc, ◌+◌, ◌≤◌, List, [], ◌∷◌, ◌++◌, length, map, refl, sym, ap, ◌∙◌, subst, arith, append_assoc, Option, Some, None}
use Rattle.std.proofs.lemmas.List.{append-nil}
use Rattle.std.specs.Prelude.{pos, Bool, true, false, Result, Ok, Err, IfSome}
use Rattle.std.specs.Option.{option_map_or, unwrap_or}
use Rattle.hph_wasm.specs.declared.instr.Instr.{Instr}
use Rattle.hph_wasm.specs.declared.value.Value.{Value as Word}
use Rattle.hph_php.specs.declared.fatal.Fatal.{Fatal}
use Rattle.hph_php.specs.declared.fatal.Fatal.TheVariants.{TooFewArguments, BadArgument}
use Rattle.hph_php.specs.declared.operator.BinOp.TheVariants as binary
use Rattle.hph_php.specs.declared.operator.UnOp.TheVariants as unary
use Rattle.hph_php.specs.declared.builtin.Builtin.{Builtin}
use Rattle.hph_php.specs.declared.builtin.Builtin.TheVariants as f
use Rattle.hph_php.specs.Codes.{builtin_code}
use Rattle.hph_php.specs.Values.{Value, Str, array_value, empty_array}
use Rattle.hph_php.specs.Conversions.{map_ok, to_text}
use Rattle.hph_php.specs.Operators.{unary_of}
use Rattle.hph_php.specs.Arrays.{Array}
use Rattle.hph_php.specs.Builtins.{builtin_of}
use Rattle.hph_php.specs.State.{State, Name}
use Rattle.hph_php.specs.Answers.{Means, Answer, Gets, Ends, More, proceed, bind, give, settle, each, through}
use Rattle.hph_php.specs.Paths.{PathStep, by_key, at_end, by_property}
use Rattle.hph_php.specs.Targets.{Reading, Base}
use Rattle.hph_php.specs.Targets as target
use Rattle.hph_php.specs.Operations.{add_last, add_keyed, text_of}
use Rattle.hph_php.specs.Calls.{values_of, reply, pushed, without_last, change_array, popped_by, call_push, call_pop, call_builtin}
use Rattle.hph_effects.specs.declared.row.Row.TheVariants as r
use Rattle.hph_effects.specs.Hosts.{Item, a_value, a_step}
use Rattle.hph_plan.specs.Plan.{Plan}
use Rattle.hph_lowering.specs.Code.{Code, with_code, all, plain, call, number, Scope, text_code}
use Rattle.hph_lowering.specs.Expressions.{Lowered, Piece, Step, step_code, step_binds, binds_of, codes_of, pieces, piece_binds, along, depth, op1, op2, apply_code, joined_pieces, interpolated_code, fatal, push_code, pop_code, popped_code, builtin_call}
use Rattle.hph_seqv.specs.Simulates.{Follows, Setup, Situation, Stands, Runs, Everywhere, no_words, no_items, one_value, Values, After}
use Rattle.hph_seqv.proofs.Rows.{by_row}
use Rattle.hph_seqv.proofs.Joins.{then_on, more, over, meant, makes, at_once}
use Rattle.hph_seqv.proofs.Values.{array_item, leaves_state, operates_on, empty_arrays, adds_last, adds_keyed}
use Rattle.hph_forms.specs.Bases.{stacked, IsBase}
use Rattle.hph_forms.proofs.Lists.{Each, each_none, each_more, each_long, then_each, through_none, through_more}
use Rattle.hph_forms.proofs.PathRows.{calls_builtin, pops, pushes}
use Rattle.hph_forms.proofs.Tries.{joins}
use Rattle.hph_runx.specs.Covers.{Cover}
use Rattle.hph_runx.specs.Runs.{Planned, setup}
use Rattle.hph_runx.proofs.Codes.{with_code_holds, two_hold, one_holds, between_holds, more_hold, holds_more}
use Rattle.hph_runx.proofs.Shapes.{is_place, placed_writable, placed_whole, StepsRun, no_steps, Shape}
use Rattle.hph_runx.proofs.Paths.{PathOf, as_path, target_path, row_with, row_runs}
use Rattle.hph_runx.proofs.Forms.{Within, within_more, regrouped, then_value, then_text, text_runs, unary_runs, fatal_runs}

abbrev pub one_text : List ℕ → List Item
one_text text = a_value (Str text) ∷ []

none_both : (a b : List Name) → a ≡ [] → b ≡ [] → a ++ b ≡ []
none_both a b e f = ap (λ a. a ++ b) e ∙ f

module _ (plan : Plan) (scope : Scope) (planned : Planned plan scope) (d : ℕ) where
  abbrev s : Setup
  s = setup plan scope planned

  abbrev Is : ℕ → Code → Means Value → Type 0
  Is = Within plan scope planned d

  -- ---- steps

  abbrev one_step : PathStep → List Item
  one_step x = a_step x ∷ []

  pub record StepRuns (b : ℕ) (m : Means PathStep) (k : Step) : Type 0 where
    pub binds : k.binds ≡ []
    pub run : IfSome (step_code k) (λ code. Runs s d Everywhere [] [] no_words one_step b code m)

  pub index_runs : (b : ℕ) (code : Code) (m : Means Value) (binds : List Name) → binds ≡ [] → Is b code m →
      StepRuns (b + 2) (bind m (λ key. give (by_key key))) (record { key = Some code; step = plain (call r.StepKey ∷ []); binds = binds })
  index_runs b code m binds e p = record {
    binds = e;
    run = one_holds _ _ code (call r.StepKey ∷ []) p (λ code q.
        then_on s d Everywhere [] [] no_words one_value no_words one_step b 2 code (call r.StepKey ∷ []) m (λ key. give (by_key key)) q (λ v.
        by_row s d Everywhere r.StepKey [] 0 [] [] (one_value v) no_words one_step (give (by_key v)) (λ rest below at. (below, refl, refl))
        (λ n st k p here fits. (refl, leaves_state s k p (a_step (by_key v) ∷ k.stack) st fits))));
  }

  pub append_runs : StepRuns 2 (give at_end) (record { key = None; step = plain (call r.StepAppend ∷ []); binds = [] })
  append_runs = record {
    binds = refl;
    run = by_row s d Everywhere r.StepAppend [] 0 [] [] [] no_words one_step (give at_end) (λ rest below at. (below, refl, refl))
        (λ n st k p here fits. (refl, leaves_state s k p (a_step at_end ∷ k.stack) st fits));
  }

  pub property_runs : (name : Name) → StepRuns 6 (give (by_property name)) (record { key = None; step = all (text_code plan name ∷ plain (call r.StepProp ∷ []) ∷ []); binds = [] })
  property_runs name = record {
    binds = refl;
    run = in_row (all (text_code plan name ∷ plain (call r.StepProp ∷ []) ∷ []))
        (one_holds _ _ (text_code plan name) (call r.StepProp ∷ []) (text_runs plan scope planned d name) (λ code q.
        then_text plan scope planned d 2 name code (call r.StepProp ∷ []) (give (by_property name)) q
        (by_row s d Everywhere r.StepProp [] 0 [] [] (one_value (Str name)) no_words one_step (give (by_property name)) (λ rest below at. (below, refl, refl))
        (λ n st k p here fits. (refl, leaves_state s k p (a_step (by_property name) ∷ k.stack) st fits)))));
  }
    where
      in_row : (code : Code) → IfSome code (λ code. Runs s d Everywhere [] [] no_words one_step 6 code (give (by_property name))) →
          IfSome (all (plain [] ∷ code ∷ [])) (λ code. Runs s d Everywhere [] [] no_words one_step 6 code (give (by_property name)))
      in_row None p = tt
      in_row (Some code) p = subst (λ code. Runs s d Everywhere [] [] no_words one_step 6 code (give (by_property name))) (sym (append-nil code)) p

  pub more_steps : (a b : ℕ) (m : Means PathStep) (k : Step) (ms : List (Means PathStep)) (ks : List Step) → StepRuns a m k → StepsRun plan scope planned d b ms ks →
      StepsRun plan scope planned d (a + b) (m ∷ ms) (k ∷ ks)
  more_steps a b m k ms ks p q = record {
    binds = none_both k.binds (step_binds ks) p.binds q.binds;
    long = ap suc q.long;
    run = more_hold _ _ _ (step_code k) (map step_code ks) p.run q.run (λ ca cb p q. each_more s d Everywhere a_step a b ca cb m ms p q);
  }

  -- ---- elements

  pub record ItemRuns (b : ℕ) (go : Array Value → Means (Array Value)) (k : Piece) : Type 0 where
    pub binds : k.binds ≡ []
    pub run : IfSome k.code (λ code. (a : Array Value) → Runs s d Everywhere [] (array_item a) no_words array_item b code (go a))

  pub plain_runs : (b : ℕ) (code : Code) (m : Means Value) (binds : List Name) → binds ≡ [] → Is b code m →
      ItemRuns (b + 2) (λ a. bind m (λ v. add_last v a)) (record { code = all (code ∷ plain (call r.Elem ∷ []) ∷ []); binds = binds })
  plain_runs b code m binds e p = record {
    binds = e;
    run = one_holds _ _ code (call r.Elem ∷ []) p (λ code q a.
        then_on s d Everywhere [] (array_item a) no_words (λ v. a_value v ∷ array_item a) no_words array_item b 2 code (call r.Elem ∷ []) m (λ v. add_last v a)
        (over s d Everywhere [] [] no_words one_value [] (array_item a) b code m q) (λ v. adds_last s d Everywhere v a));
  }

  pub keyed_runs : (b e : ℕ) (key code : Code) (m n : Means Value) (binds : List Name) → binds ≡ [] → Is b key m → Is e code n →
      ItemRuns (b + (e + 2)) (λ a. bind m (λ k. bind n (λ v. add_keyed k v a))) (record { code = all (key ∷ code ∷ plain (call r.ElemKey ∷ []) ∷ []); binds = binds })
  keyed_runs b e key code m n binds none p q = record {
    binds = none;
    run =
        more_hold _ (λ rest. (k : Value) (a : Array Value) → Runs s d Everywhere [] (a_value k ∷ array_item a) no_words array_item (e + 2) rest (bind n (λ v. add_keyed k v a))) _
        key (code ∷ plain (call r.ElemKey ∷ []) ∷ []) p
        (one_holds _ _ code (call r.ElemKey ∷ []) q (λ code q k a.
        then_on s d Everywhere [] (a_value k ∷ array_item a) no_words (λ v. a_value v ∷ a_value k ∷ array_item a) no_words array_item e 2 code (call r.ElemKey ∷ []) n (λ v. add_keyed k v a)
        (over s d Everywhere [] [] no_words one_value [] (a_value k ∷ array_item a) e code n q) (λ v. adds_keyed s d Everywhere k v a)))
        (λ key rest p rests a. then_on s d Everywhere [] (array_item a) no_words (λ k. a_value k ∷ array_item a) no_words array_item b (e + 2) key rest m (λ k. bind n (λ v. add_keyed k v a))
        (over s d Everywhere [] [] no_words one_value [] (array_item a) b key m p) (λ k. rests k a));
  }

  pub record ItemsRun (b : ℕ) (fs : List (Array Value → Means (Array Value))) (ks : List Piece) : Type 0 where
    pub binds : piece_binds ks ≡ []
    pub run : IfSome (all (pieces ks)) (λ code. (a : Array Value) → Runs s d Everywhere [] (array_item a) no_words array_item b code (through fs a))

  pub no_items_run : ItemsRun 0 [] []
  no_items_run = record { binds = refl; run = λ a. through_none s d Everywhere array_item a }

  pub more_items : (a b : ℕ) (go : Array Value → Means (Array Value)) (k : Piece) (fs : List (Array Value → Means (Array Value))) (ks : List Piece) → ItemRuns a go k → ItemsRun b fs ks →
      ItemsRun (a + b) (go ∷ fs) (k ∷ ks)
  more_items a b go k fs ks p q = record {
    binds = none_both k.binds (piece_binds ks) p.binds q.binds;
    run = more_hold _ _ _ k.code (pieces ks) p.run q.run (λ ca cb p q. through_more s d Everywhere array_item a b ca cb go fs p q);
  }

  pub array_runs : (b : ℕ) (fs : List (Array Value → Means (Array Value))) (ks : List Piece) → ItemsRun b fs ks →
      Is (2 + b) (all (plain (call r.Arr ∷ []) ∷ pieces ks)) (bind (through fs empty_array) (λ a. give (array_value a)))
  array_runs b fs ks p = with_code_holds _ _ (all (pieces ks)) (λ rest. (call r.Arr ∷ []) ++ rest) p.run (λ rest q.
      makes s d Everywhere [] [] no_words array_item no_words one_value (2 + b) (call r.Arr ∷ rest) (through fs empty_array) array_value
      (λ a k st c g. record { places = g.places; scratch = g.scratch; fits = g.fits; is = g.is })
      (then_on s d Everywhere [] [] no_words array_item no_words array_item 2 b (call r.Arr ∷ []) rest (give empty_array) (through fs) (empty_arrays s d Everywhere) q))

  -- ---- pieces of strings

  pub record PartRuns (b : ℕ) (go : List ℕ → Means (List ℕ)) (k : Piece) : Type 0 where
    pub binds : k.binds ≡ []
    pub mean : Means (List ℕ)
    pub same : (before : List ℕ) (n : ℕ) (st : State) → bind mean (λ text. give (before ++ text)) n st ≡ go before n st
    pub run : IfSome k.code (λ code. Runs s d Everywhere [] [] no_words one_text b code mean)

  pub piece_runs : (bytes : List ℕ) → PartRuns 4 (λ before. give (before ++ bytes)) (record { code = text_code plan bytes; binds = [] })
  piece_runs bytes = record {
    binds = refl;
    mean = give bytes;
    same = λ before n st. refl;
    run = holds_more _ _ (text_code plan bytes) (text_runs plan scope planned d bytes) (λ code p. record { by = p.by });
  }

  -- a text or a fatal error
  texts : (b : ℕ) (code : List Instr) (items : List Item) (t : Result (List ℕ) Fatal) → Runs s d Everywhere [] items no_words one_value b code (settle (map_ok Str t)) →
      Runs s d Everywhere [] items no_words one_text b code (settle t)
  texts b code items (Ok text) p = record { by = p.by }
  texts b code items (Err kind) p = record { by = p.by }

  pub interpolation_runs : (b : ℕ) (code : Code) (m : Means Value) (binds : List Name) → binds ≡ [] → Is b code m →
      PartRuns (b + 3) (text_of m) (record { code = apply_code unary.ToString code; binds = binds })
  interpolation_runs b code m binds e p = record {
    binds = e;
    mean = bind m (λ v. settle (to_text v));
    same = λ before n st. sym (regrouped (m n st) (λ v. settle (to_text v)) (λ text. give (before ++ text)));
    run = with_code_holds _ _ code (λ code. code ++ op1 unary.ToString) p (λ code q.
        then_on s d Everywhere [] [] no_words one_value no_words one_text b 3 code (op1 unary.ToString) m (λ v. settle (to_text v)) q
        (λ v. texts 3 (op1 unary.ToString) (one_value v) (to_text v) (operates_on s d Everywhere unary.ToString v)));
  }

  pub record PartsRun (b : ℕ) (fs : List (List ℕ → Means (List ℕ))) (ks : List Piece) : Type 0 where
    pub binds : piece_binds ks ≡ []
    pub run : IfSome (joined_pieces (pieces ks)) (λ code. (before : List ℕ) → Runs s d Everywhere [] (one_text before) no_words one_text b code (through fs before))

  pub no_parts_run : PartsRun 0 [] []
  no_parts_run = record { binds = refl; run = λ before. through_none s d Everywhere one_text before }

  pub more_parts : (a b : ℕ) (go : List ℕ → Means (List ℕ)) (k : Piece) (fs : List (List ℕ → Means (List ℕ))) (ks : List Piece) → PartRuns a go k → PartsRun b fs ks →
      PartsRun ((a + 3) + b) (go ∷ fs) (k ∷ ks)
  more_parts a b go k fs ks p q = record {
    binds = none_both k.binds (piece_binds ks) p.binds q.binds;
    run = between_holds _ _ _ k.code (joined_pieces (pieces ks)) (op2 binary.Concat) p.run q.run (λ ca cb m rest before.
        subst (λ code. Runs s d Everywhere [] (one_text before) no_words one_text ((a + 3) + b) code (through (go ∷ fs) before)) (append_assoc ca (op2 binary.Concat) cb)
        (through_more s d Everywhere one_text (a + 3) b (ca ++ op2 binary.Concat) cb go fs
        (λ before. meant s d Everywhere [] (one_text before) no_words one_text (a + 3) (ca ++ op2 binary.Concat) (bind p.mean (λ text. give (before ++ text))) (go before) (p.same before)
        (joins s d Everywhere a ca p.mean m before)) rest before));
  }

  -- the text as a value
  as_value : (b : ℕ) (code : List Instr) (m : Means (List ℕ)) → Runs s d Everywhere [] [] no_words one_text b code m → Values s d Everywhere b code (bind m (λ text. give (Str text)))
  as_value b code m p = makes s d Everywhere [] [] no_words one_text no_words one_value b code m Str
      (λ text k st c g. record { places = g.places; scratch = g.scratch; fits = g.fits; is = g.is }) p

  pub no_parts : Is 4 (interpolated_code plan scope []) (bind (through [] []) (λ text. give (Str text)))
  no_parts = text_runs plan scope planned d []

  pub interpolated_runs : (a b : ℕ) (go : List ℕ → Means (List ℕ)) (k : Piece) (fs : List (List ℕ → Means (List ℕ))) (ks : List Piece) → PartRuns a go k → PartsRun b fs ks →
      Is (a + b) (interpolated_code plan scope (pieces (k ∷ ks))) (bind (through (go ∷ fs) []) (λ text. give (Str text)))
  interpolated_runs a b go k fs ks p q = two_hold _ _ _ k.code (joined_pieces (pieces ks)) p.run q.run (λ ca cb m rest.
      as_value (a + b) (ca ++ cb) (through (go ∷ fs) []) (meant s d Everywhere [] [] no_words one_text (a + b) (ca ++ cb) (bind p.mean (through fs)) (through (go ∷ fs) [])
      (λ n st. regrouped (p.mean n st) (λ text. give text) (through fs) ∙ ap (λ x. proceed x (through fs)) (p.same [] n st))
      (then_on s d Everywhere [] [] no_words one_text no_words one_text a b ca cb p.mean (through fs) m rest)))

  -- ---- arguments of functions that are built in

  pub record ArgumentsRun (b : ℕ) (ms : List (Means Value)) (ks : List Lowered) : Type 0 where
    pub binds : binds_of ks ≡ []
    pub long : length ms ≡ length ks
    pub run : IfSome (all (codes_of ks)) (λ code. Each s d Everywhere a_value b code ms)

  pub no_arguments : ArgumentsRun 0 [] []
  no_arguments = record { binds = refl; long = refl; run = each_none s d Everywhere a_value }

  pub more_arguments : (a b : ℕ) (m : Means Value) (k : Lowered) (ms : List (Means Value)) (ks : List Lowered) → k.binds ≡ [] → Is a k.value m → ArgumentsRun b ms ks →
      ArgumentsRun (a + b) (m ∷ ms) (k ∷ ks)
  more_arguments a b m k ms ks e p q = record {
    binds = none_both k.binds (binds_of ks) e q.binds;
    long = ap suc q.long;
    run = more_hold _ _ _ k.value (codes_of ks) p q.run (λ ca cb p q. each_more s d Everywhere a_value a b ca cb m ms p q);
  }

  pub called_runs : (function : Builtin) (b : ℕ) (ms : List (Means Value)) (ks : List Lowered) → ArgumentsRun b ms ks →
      Is (b + 4) (all (all (codes_of ks) ∷ plain (number (builtin_code function) ∷ number (length ks) ∷ call r.Builtin ∷ []) ∷ [])) (bind (each ms) (λ vs. reply (builtin_of function vs)))
  called_runs function b ms ks p = one_holds _ _ (all (codes_of ks)) (number (builtin_code function) ∷ number (length ks) ∷ call r.Builtin ∷ []) p.run (λ code q.
      then_each s d Everywhere no_words one_value a_value [] b 4 code (number (builtin_code function) ∷ number (length ks) ∷ call r.Builtin ∷ []) ms (λ vs. reply (builtin_of function vs)) q (λ vs long.
      subst (λ items. Runs s d Everywhere [] items no_words one_value 4 (number (builtin_code function) ∷ number (length ks) ∷ call r.Builtin ∷ []) (reply (builtin_of function vs))) (sym (append-nil (stacked a_value vs)))
      (subst (λ i. Runs s d Everywhere [] (stacked a_value vs) no_words one_value 4 (number (builtin_code function) ∷ number i ∷ call r.Builtin ∷ []) (reply (builtin_of function vs))) (long ∙ p.long)
      (calls_builtin s d Everywhere function vs))))

  module _ (n e : ℕ) (x : Reading) (k : Lowered) (c : Cover) (large : 64 ≤ n) (shape : Shape plan scope planned d n x k c) (may : c.target ≡ true)
      (xs : List Reading) (ks : List Lowered) (arguments : ArgumentsRun e (values_of xs) ks) where
    path : PathOf plan scope planned d n x k c.target
    path = as_path plan scope planned d n x k c large shape (target_path plan scope planned d n x k c shape may)

    pub push_runs : Is (n + e) (push_code plan scope (k ∷ ks)) (call_push s.class (x ∷ xs))
    push_runs = row_with plan scope planned d no_words one_value n x k c.target path (stacked a_value) (λ vs. length vs ≡ length (values_of xs)) e ks (each (values_of xs)) arguments.binds
        (each_long (values_of xs)) arguments.run 4 (n + e) (omega arith) (depth k ∷ number (length ks) ∷ call r.PathPush ∷ [])
        (λ base steps vs. change_array s.class (pushed vs) base steps) (λ item base steps vs placed long many.
        subst (λ i. Runs s d (IsBase s item base) [] (stacked a_value vs ++ (stacked a_step steps ++ (item ∷ []))) no_words one_value 4 (number i ∷ number (length ks) ∷ call r.PathPush ∷ [])
        (change_array s.class (pushed vs) base steps)) long
        (subst (λ i. Runs s d (IsBase s item base) [] (stacked a_value vs ++ (stacked a_step steps ++ (item ∷ []))) no_words one_value 4 (number (length steps) ∷ number i ∷ call r.PathPush ∷ [])
        (change_array s.class (pushed vs) base steps)) (many ∙ arguments.long)
        (pushes s d item base steps (placed_writable item steps (placed may)) (placed_whole item steps (placed may)) vs)))

  pub pop_runs : (n e : ℕ) (x : Reading) (k : Lowered) (c : Cover) → 64 ≤ n → Shape plan scope planned d n x k c → c.target ≡ true →
      (xs : List Reading) (ks : List Lowered) → ArgumentsRun e (values_of xs) ks → Is (n + e) (pop_code plan scope (k ∷ ks)) (call_pop s.class (x ∷ xs))
  pop_runs n e x k c large shape may [] [] arguments = within_more plan scope planned d (pop_code plan scope (k ∷ [])) (call_pop s.class (x ∷ [])) (n + 0) (n + e) (omega arith)
      (row_runs plan scope planned d no_words one_value n x k c.target (path n 0 x k c large shape may [] [] no_arguments) 3 (omega arith) (depth k ∷ call r.PathPop ∷ [])
      (λ base steps. change_array s.class without_last base steps) (λ item base steps placed long.
      subst (λ i. Runs s d (IsBase s item base) [] (stacked a_step steps ++ (item ∷ [])) no_words one_value 3 (number i ∷ call r.PathPop ∷ []) (change_array s.class without_last base steps)) long
      (pops s d item base steps (placed_writable item steps (placed may)) (placed_whole item steps (placed may)))))
  pop_runs n e x k c large shape may [] (y ∷ ys) arguments = absurd (none_more (length ys) arguments.long)
    where
      none_more : (i : ℕ) → zero ≡ suc i → ⊥
      none_more i e = absurd (omega (arith, e))
  pop_runs n e x k c large shape may (x1 ∷ xs) [] arguments = absurd (more_none (length (values_of xs)) arguments.long)
    where
      more_none : (i : ℕ) → suc i ≡ zero → ⊥
      more_none i e = absurd (omega (arith, e))
  pop_runs n e x k c large shape may (x1 ∷ xs) (y ∷ ys) arguments =
      row_with plan scope planned d no_words one_value n x k c.target (path n e x k c large shape may (x1 ∷ xs) (y ∷ ys) arguments) (stacked a_value) (λ vs. length vs ≡ suc (length (values_of xs))) e
      (y ∷ ys) (each (values_of (x1 ∷ xs))) arguments.binds (each_long (values_of (x1 ∷ xs))) arguments.run 3 (n + e) (omega arith) (fatal BadArgument)
      (λ base steps vs. popped_by vs s.class base steps) (λ item base steps vs placed long many. refused item base steps vs many)
    where
      refused : (item : Item) (base : Base) (steps : List PathStep) (vs : List Value) → length vs ≡ suc (length (values_of xs)) →
          Runs s d (IsBase s item base) [] (stacked a_value vs ++ (stacked a_step steps ++ (item ∷ []))) no_words one_value 3 (fatal BadArgument) (popped_by vs s.class base steps)
      refused item base steps [] many = absurd (omega (arith, many))
      refused item base steps (v ∷ vs) many = fatal_runs plan scope planned d (IsBase s item base) (stacked a_value (v ∷ vs) ++ (stacked a_step steps ++ (item ∷ []))) no_words one_value BadArgument
