-- Rows of values: literals, the top of the stack, operators, tests, elements, output.
use Rattle.std.proofs.Common.{◌≡◌, ℕ, ◌+◌, List, [], ◌∷◌, length, refl, sym, ap, subst, Some, None}
use Rattle.std.specs.Prelude.{pos, ℤ, Bool, true, false, Result, Ok, Err, if◌then◌else◌}
use Rattle.std.proofs.lemmas.Bool.{le-leb}
use Rattle.hph_wasm.specs.declared.instr.Instr.{Instr, I32Const, I64Const}
use Rattle.hph_wasm.specs.declared.value.Value.{Value as Word}
use Rattle.hph_wasm.specs.declared.value.Value.TheVariants as word
use Rattle.hph_wasm.specs.Integers.{signed, truth}
use Rattle.hph_php.specs.declared.fatal.Fatal.{Fatal}
use Rattle.hph_php.specs.declared.operator.BinOp.{BinOp}
use Rattle.hph_php.specs.declared.operator.UnOp.{UnOp}
use Rattle.hph_php.specs.Codes.{binary_code, unary_code}
use Rattle.hph_php.proofs.ValueLaws.{list_of_pairs}
use Rattle.hph_php.proofs.CodeLaws.{binary_inverse, unary_inverse}
use Rattle.hph_php.specs.Values.{Value, Null, Boolean, Int, Str, paired, array_of, array_value, empty_array}
use Rattle.hph_php.specs.Conversions.{map_ok, to_bool, to_text}
use Rattle.hph_php.specs.Operators.{binary_of, unary_of}
use Rattle.hph_php.specs.Arrays.{Array, append}
use Rattle.hph_php.specs.State.{State, Name}
use Rattle.hph_php.specs.Answers.{Means, Exits, bind, give, first, settle, print, end_with, nothing}
use Rattle.hph_php.specs.Operations.{constant_in, constant_named, with_key, exit_of, exit_with}
use Rattle.hph_effects.specs.declared.row.Row.{Row}
use Rattle.hph_effects.specs.declared.row.Row.TheVariants as r
use Rattle.hph_effects.specs.Hosts.{Item, a_value, HostState, Serving, Halted, Replied, settled, on_ok, found, popped, done, push, stops}
use Rattle.hph_effects.specs.Hosts as hosts
use Rattle.hph_seqv.specs.Simulates.{Setup, call, Situation, Around, Places, Fits, host_of, Runs, no_words, no_items, one_value, Values, After, Acts}
use Rattle.hph_seqv.specs.Replies.{Gives, Replies}
use Rattle.hph_seqv.proofs.Rows.{by_row}

-- a number of 32 bits on the stack
abbrev pub number : ℕ → Instr
number n = I32Const (pos n)

abbrev pub null : List Instr
null = call r.Null ∷ []

abbrev pub boolean : Bool → List Instr
boolean t = number (if t then 1 else 0) ∷ call r.Bool ∷ []

abbrev pub int : ℕ → List Instr
int i = I64Const (pos i) ∷ call r.Int ∷ []

-- the bytes of a literal, for a row that takes them
abbrev pub of_bytes : ℕ → List ℕ → Row → List Instr
of_bytes p bytes row = number p ∷ number (length bytes) ∷ call row ∷ []

abbrev pub op2 : BinOp → List Instr
op2 op = number (binary_code op) ∷ call r.Op2 ∷ []

abbrev pub op1 : UnOp → List Instr
op1 op = number (unary_code op) ∷ call r.Op1 ∷ []

-- a truth value on wasm's stack
abbrev pub as_word : Bool → List Word
as_word t = word.I32 (truth t) ∷ []

-- the text of a value is written
abbrev pub echoed : Value → Means (Unit {0})
echoed v = bind (settle (to_text v)) print

abbrev pub array_item : Array Value → List Item
array_item a = one_value (array_value a)

module _ (s : Setup) where
  -- a reply that leaves the program's state as it is, and a stack
  pub leaves_state : (k : Around) (p : Places) (stack : List Item) (st : State) → Fits s k.situation p st.frames st.globals st.core.heap →
      Gives s k [] [] stack st (done (host_of k p stack st))
  leaves_state k p stack st fits = record { places = p; result = None; fits = fits; is = refl; typed = refl }

  -- a value or a fatal error
  pub settles : (k : Around) (p : Places) (n : ℕ) (st : State) (v : Result Value Fatal) → Fits s k.situation p st.frames st.globals st.core.heap →
      Replies s k [] no_words one_value n (settled v (host_of k p k.stack st)) (settle v n st)
  settles k p n st (Ok v) fits = (refl, leaves_state k p (a_value v ∷ k.stack) st fits)
  settles k p n st (Err kind) fits = refl

module _ (s : Setup) (depth : ℕ) (Where : Situation → Type 0) where
  -- ---- literals

  pub values_null : Values s depth Where 2 null (give Null)
  values_null = by_row s depth Where r.Null [] 0 [] [] [] no_words one_value (give Null) (λ rest below at. (below, refl, refl))
      (λ n st k p here fits. (refl, leaves_state s k p (a_value Null ∷ k.stack) st fits))

  pub values_boolean : (t : Bool) → Values s depth Where 3 (boolean t) (give (Boolean t))
  values_boolean true = by_row s depth Where r.Bool (number 1 ∷ []) 1 [] (word.I32 1 ∷ []) [] no_words one_value (give (Boolean true))
      (λ rest below at. (word.I32 1 ∷ below, refl, refl)) (λ n st k p here fits. (refl, leaves_state s k p (a_value (Boolean true) ∷ k.stack) st fits))
  values_boolean false = by_row s depth Where r.Bool (number 0 ∷ []) 1 [] (word.I32 0 ∷ []) [] no_words one_value (give (Boolean false))
      (λ rest below at. (word.I32 0 ∷ below, refl, refl)) (λ n st k p here fits. (refl, leaves_state s k p (a_value (Boolean false) ∷ k.stack) st fits))

  pub values_int : (i : ℕ) → signed 64 i ≡ pos i → Values s depth Where 3 (int i) (give (Int (pos i)))
  values_int i small = by_row s depth Where r.Int (I64Const (pos i) ∷ []) 1 [] (word.I64 i ∷ []) [] no_words one_value (give (Int (pos i)))
      (λ rest below at. (word.I64 i ∷ below, refl, refl)) (λ n st k p here fits. (
        refl,
        record {
          places = p;
          result = None;
          fits = fits;
          typed = refl;
          is = ap (λ z. done (host_of k p (a_value (Int z) ∷ k.stack) st)) small;
        },
      ))

  pub literal_read : (bytes : List ℕ) (p : ℕ) → s.place bytes ≡ Some p → (h : HostState) (go : List ℕ → Replied) →
      hosts.read_memory p (length bytes) s.memory h go ≡ go bytes
  literal_read bytes p at h go = let lies = s.literals bytes p at in rw (le-leb (p + length bytes) (length s.memory) lies.0, lies.1) refl

  pub values_text : (bytes : List ℕ) (p : ℕ) → s.place bytes ≡ Some p → Values s depth Where 4 (of_bytes p bytes r.Str) (give (Str bytes))
  values_text bytes p at = by_row s depth Where r.Str (number p ∷ number (length bytes) ∷ []) 2 [] (word.I32 p ∷ word.I32 (length bytes) ∷ []) []
      no_words one_value (give (Str bytes)) (λ rest below w. (word.I32 (length bytes) ∷ word.I32 p ∷ below, refl, refl))
      (λ n st k q here fits. (
        refl,
        record {
          places = q;
          result = None;
          fits = fits;
          typed = refl;
          is = literal_read bytes p at (host_of k q k.stack st) (λ bytes. done (push (Str bytes) (host_of k q k.stack st)));
        },
      ))

  pub acts_write : (bytes : List ℕ) (p : ℕ) → s.place bytes ≡ Some p → Acts s depth Where 4 (of_bytes p bytes r.Write) (print bytes)
  acts_write bytes p at = by_row s depth Where r.Write (number p ∷ number (length bytes) ∷ []) 2 [] (word.I32 p ∷ word.I32 (length bytes) ∷ []) []
      no_words no_items (print bytes) (λ rest below w. (word.I32 (length bytes) ∷ word.I32 p ∷ below, refl, refl))
      (λ n st k q here fits. (
        refl,
        record {
          places = q;
          result = None;
          fits = fits;
          typed = refl;
          is = literal_read bytes p at (host_of k q k.stack st) (λ bytes. done (hosts.print bytes (host_of k q k.stack st)));
        },
      ))

  -- ---- the top of the stack

  -- a value is left out
  pub drops : (v : Value) → Runs s depth Where [] (one_value v) no_words no_items 2 (call r.Drop ∷ []) nothing
  drops v = by_row s depth Where r.Drop [] 0 [] [] (one_value v) no_words no_items nothing (λ rest below at. (below, refl, refl))
      (λ n st k p here fits. (refl, leaves_state s k p k.stack st fits))

  pub duplicates : (v : Value) → Runs s depth Where [] (one_value v) no_words (λ (w : Value). a_value w ∷ a_value w ∷ []) 2 (call r.Dup ∷ []) (give v)
  duplicates v = by_row s depth Where r.Dup [] 0 [] [] (one_value v) no_words (λ (w : Value). a_value w ∷ a_value w ∷ []) (give v)
      (λ rest below at. (below, refl, refl)) (λ n st k p here fits. (refl, leaves_state s k p (a_value v ∷ a_value v ∷ k.stack) st fits))

  -- ---- operators

  -- the left operand lies below
  pub operates : (op : BinOp) (v w : Value) →
      Runs s depth Where [] (a_value w ∷ a_value v ∷ []) no_words one_value 3 (op2 op) (settle (binary_of op v w))
  operates op v w = by_row s depth Where r.Op2 (number (binary_code op) ∷ []) 1 [] (word.I32 (binary_code op) ∷ []) (a_value w ∷ a_value v ∷ [])
      no_words one_value (settle (binary_of op v w)) (λ rest below at. (word.I32 (binary_code op) ∷ below, refl, refl))
      (λ n st k p here fits.
      let h : HostState = host_of k p (a_value w ∷ a_value v ∷ k.stack) st in
      subst (λ o. Replies s k [] no_words one_value n (found o h (λ op. popped h (λ y h. popped h (λ x h. settled (binary_of op x y) h))))
      (settle (binary_of op v w) n st)) (sym (binary_inverse op)) (settles s k p n st (binary_of op v w) fits))

  pub operates_on : (op : UnOp) → After s depth Where 3 (op1 op) (λ v. settle (unary_of op v))
  operates_on op v = by_row s depth Where r.Op1 (number (unary_code op) ∷ []) 1 [] (word.I32 (unary_code op) ∷ []) (one_value v)
      no_words one_value (settle (unary_of op v)) (λ rest below at. (word.I32 (unary_code op) ∷ below, refl, refl))
      (λ n st k p here fits.
      let h : HostState = host_of k p (a_value v ∷ k.stack) st in
      subst (λ o. Replies s k [] no_words one_value n (found o h (λ op. popped h (λ x h. settled (unary_of op x) h)))
      (settle (unary_of op v) n st)) (sym (unary_inverse op)) (settles s k p n st (unary_of op v) fits))

  pub tests : (v : Value) → Runs s depth Where [] (one_value v) as_word no_items 2 (call r.Truth ∷ []) (give (to_bool v))
  tests v = by_row s depth Where r.Truth [] 0 [] [] (one_value v) as_word no_items (give (to_bool v)) (λ rest below at. (below, refl, refl))
      (λ n st k p here fits. (refl, record { places = p; result = Some (truth (to_bool v)); fits = fits; is = refl; typed = refl }))

  -- ---- output, constants and the end

  pub echoes : (v : Value) → Runs s depth Where [] (one_value v) no_words no_items 2 (call r.Echo ∷ []) (echoed v)
  echoes v = by_row s depth Where r.Echo [] 0 [] [] (one_value v) no_words no_items (echoed v) (λ rest below at. (below, refl, refl))
      (λ n st k p here fits. by n st k p (to_text v) fits)
    where
      by : (n : ℕ) (st : State) (k : Around) (p : Places) (t : Result (List ℕ) Fatal) → Fits s k.situation p st.frames st.globals st.core.heap →
          Replies s k [] no_words no_items n (on_ok t (host_of k p k.stack st) (λ text. done (hosts.print text (host_of k p k.stack st))))
          (bind (settle t) print n st)
      by n st k p (Ok text) fits = (refl, record { places = p; result = None; fits = fits; is = refl; typed = refl })
      by n st k p (Err kind) fits = refl

  pub gets_constant : (name : Name) → Runs s depth Where [] (one_value (Str name)) no_words one_value 2 (call r.ConstGet ∷ []) (constant_named name)
  gets_constant name = by_row s depth Where r.ConstGet [] 0 [] [] (one_value (Str name)) no_words one_value (constant_named name)
      (λ rest below at. (below, refl, refl)) (λ n st k p here fits. settles s k p n st (constant_in name st.core.heap) fits)

  pub exits : (v : Value) → Runs s depth Where [] (one_value v) no_words one_value 2 (call r.Exit ∷ []) (exit_with v)
  exits v = by_row s depth Where r.Exit [] 0 [] [] (one_value v) no_words one_value (exit_with v) (λ rest below at. (below, refl, refl))
      (λ n st k p here fits. by n st k p (exit_of v))
    where
      by : (n : ℕ) (st : State) (k : Around) (p : Places) (e : Result (List ℕ × ℤ) Fatal) →
          Replies s k [] no_words one_value n (on_ok e (host_of k p k.stack st) (λ e. stops (Exits e.1) (hosts.print e.0 (host_of k p k.stack st))))
          (bind (settle e) (λ e. first (print e.0) (end_with (Exits e.1))) n st)
      by n st k p (Ok e) = refl
      by n st k p (Err kind) = refl

  -- ---- elements

  pub empty_arrays : Runs s depth Where [] [] no_words array_item 2 (call r.Arr ∷ []) (give empty_array)
  empty_arrays = by_row s depth Where r.Arr [] 0 [] [] [] no_words array_item (give empty_array) (λ rest below at. (below, refl, refl))
      (λ n st k p here fits. (refl, leaves_state s k p (a_value (array_value empty_array) ∷ k.stack) st fits))

  -- an array that is made or a fatal error
  pub settles_array : (k : Around) (p : Places) (n : ℕ) (st : State) (a : Result (Array Value) Fatal) → Fits s k.situation p st.frames st.globals st.core.heap →
      Replies s k [] no_words array_item n (settled (map_ok array_value a) (host_of k p k.stack st)) (settle a n st)
  settles_array k p n st (Ok a) fits = (refl, leaves_state s k p (a_value (array_value a) ∷ k.stack) st fits)
  settles_array k p n st (Err kind) fits = refl

  -- the array that lies on the stack as a value
  same_array : (a : Array Value) → array_of (paired a.pairs) a.next_key ≡ a
  same_array a = ap (λ ps. record { pairs = ps; next_key = a.next_key }) (list_of_pairs a.pairs)

  pub adds_last : (v : Value) (a : Array Value) →
      Runs s depth Where [] (a_value v ∷ a_value (array_value a) ∷ []) no_words array_item 2 (call r.Elem ∷ []) (settle (append a v))
  adds_last v a = by_row s depth Where r.Elem [] 0 [] [] (a_value v ∷ a_value (array_value a) ∷ []) no_words array_item (settle (append a v))
      (λ rest below at. (below, refl, refl)) (λ n st k p here fits.
      subst (λ b. Replies s k [] no_words array_item n (settled (map_ok array_value (append b v)) (host_of k p k.stack st)) (settle (append a v) n st))
      (sym (same_array a)) (settles_array k p n st (append a v) fits))

  pub adds_keyed : (key v : Value) (a : Array Value) →
      Runs s depth Where [] (a_value v ∷ a_value key ∷ a_value (array_value a) ∷ []) no_words array_item 2 (call r.ElemKey ∷ []) (settle (with_key key v a))
  adds_keyed key v a = by_row s depth Where r.ElemKey [] 0 [] [] (a_value v ∷ a_value key ∷ a_value (array_value a) ∷ []) no_words array_item
      (settle (with_key key v a)) (λ rest below at. (below, refl, refl)) (λ n st k p here fits.
      subst (λ b. Replies s k [] no_words array_item n (settled (map_ok array_value (with_key key v b)) (host_of k p k.stack st)) (settle (with_key key v a) n st))
      (sym (same_array a)) (settles_array k p n st (with_key key v a) fits))
