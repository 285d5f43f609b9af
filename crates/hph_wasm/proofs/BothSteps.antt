-- An instruction that goes on by itself isn't stuck inside labels and frames, nor is one that traps by a rule.
use Rattle.std.proofs.Common.{◌≡◌, ◌∙◌, ℕ, zero, suc, ◌+◌, List, [], ◌∷◌, ◌++◌, length, reverse, refl, sym, ap, subst, Option, Some, None, Bool, true, false, cond}
use Rattle.std.specs.Prelude.{IfSome, nat_lt, slice_get}
use Rattle.std.proofs.lemmas.List.{reverse-reverse}
use mathlib.Core.List.{reverse_aux}
use Rattle.hph_wasm.specs.declared.instr.Instr.{Instr, Unreachable, Nop, Block', Loop', If', Br, BrIf, BrTable, Return, Call, CallIndirect, Drop, Select, LocalGet, LocalSet, LocalTee, GlobalGet, GlobalSet, Load, LoadNarrow, StoreNarrow, I32Const, I64Const, Eqz, Compare, Unary, Binary, Wrap, Extend}
use Rattle.hph_wasm.specs.declared.instr.Instr as instr
use Rattle.hph_wasm.specs.declared.instr.NarrowStore.TheVariants.{I32To8, I32To16, I64To8, I64To16, I64To32}
use Rattle.hph_wasm.specs.declared.types.ValType.{ValType}
use Rattle.hph_wasm.specs.declared.types.ValType.TheVariants.{I32, I64}
use Rattle.hph_wasm.specs.declared.types.FuncType.{FuncType}
use Rattle.hph_wasm.specs.declared.value.Value.{Value}
use Rattle.hph_wasm.specs.declared.value.Value.TheVariants as value
use Rattle.hph_wasm.specs.declared.module.Module.{Module}
use Rattle.hph_wasm.specs.Choice.{if_some, if_zero, popped, with_top}
use Rattle.hph_wasm.specs.Values.{width, types}
use Rattle.hph_wasm.specs.Integers.{binary}
use Rattle.hph_wasm.specs.Memory.{loaded, stored, byte_width, load_bytes, store_type, store_bytes}
use Rattle.hph_wasm.specs.Functions.{func_type}
use Rattle.hph_wasm.specs.Instantiation.{table_of}
use Rattle.hph_wasm.specs.Configuration.{Host, Label, Frame, Store, Setting, Configuration, Calling, Stuck}
use Rattle.hph_wasm.specs.Reduction.{Arguments, arguments_onto, arguments, same_func_type, instr_step}
use Rattle.hph_wasm.specs.PlainRules.{TrapRule, unreachable, undefined, load_outside, load_narrow_outside, store_outside, store_narrow_outside, no_entry, empty_entry, other_type}
use Rattle.hph_wasm.specs.Rewriting.{state_of}
use Rattle.hph_wasm.proofs.Choices.{if_some-there, cond-either}
use Rattle.hph_wasm.proofs.Typing.{same_func_type-same}
use Rattle.hph_wasm.proofs.PlainResults.{alone}

-- Two choices by the same option, test, number or stack.
if_some-both : {A B : Type 0} (P : B → B → Type 0) (o : Option A) (x y : B) (f g : A → B) → P x y → ((a : A) → P (f a) (g a)) →
    P (if_some o x f) (if_some o y g)
if_some-both P None x y f g without with_value = without
if_some-both P (Some a) x y f g without with_value = with_value a

cond-both : {B : Type 0} (P : B → B → Type 0) (b : Bool) (x x' y y' : B) → P x x' → P y y' → P (cond b x y) (cond b x' y')
cond-both P true x x' y y' on_true on_false = on_true
cond-both P false x x' y y' on_true on_false = on_false

if_zero-both : {B : Type 0} (P : B → B → Type 0) (n : ℕ) (x x' y y' : B) → P x x' → P y y' → P (if_zero n x y) (if_zero n x' y')
if_zero-both P zero x x' y y' on_zero on_other = on_zero
if_zero-both P (suc n) x x' y y' on_zero on_other = on_other

popped-both : {B : Type 0} (P : B → B → Type 0) (ty : ValType) (values : List Value) (x y : B) (f g : ℕ → List Value → B) → P x y →
    ((n : ℕ) (below : List Value) → P (f n below) (g n below)) → P (popped ty values x f) (popped ty values y g)
popped-both P I32 [] x y f g without on_value = without
popped-both P I64 [] x y f g without on_value = without
popped-both P I32 (value.I32 n ∷ below) x y f g without on_value = on_value n below
popped-both P I32 (value.I64 n ∷ below) x y f g without on_value = without
popped-both P I64 (value.I32 n ∷ below) x y f g without on_value = without
popped-both P I64 (value.I64 n ∷ below) x y f g without on_value = on_value n below

with_top-both : {B : Type 0} (P : B → B → Type 0) (values : List Value) (x y : B) (f g : Value → List Value → B) → P x y →
    ((v : Value) (below : List Value) → P (f v below) (g v below)) → P (with_top values x f) (with_top values y g)
with_top-both P [] x y f g without on_value = without
with_top-both P (v ∷ below) x y f g without on_value = on_value v below

-- A configuration that isn't stuck.
abbrev pub NotStuck : {H E : Type 0} → Configuration H E → Type 0
NotStuck (Stuck code at) = ⊥
NotStuck _ = Unit {0}

module _ {H E : Type 0} (host : Host H E) (m : Module) (rest : List Instr) (at : Setting H) (trap stuck : Configuration H E) where
  -- Where the first goes on, the second isn't stuck.
  abbrev Both : Configuration H E → Configuration H E → Type 0
  Both first second = IfSome (state_of first) (λ _. NotStuck second)

  -- The instruction alone, in no labels and frames.
  abbrev apart : Setting H
  apart = alone host m at.store at.locals

  abbrev none : Configuration H E
  none = Stuck [] apart

  -- Each instruction takes the same way alone.
  pub goes_as_alone : (i : Instr) (values : List Value) →
      Both (instr_step host m i [] values apart none none) (instr_step host m i rest values at trap stuck)
  goes_as_alone Unreachable values = tt
  goes_as_alone Nop values = tt
  goes_as_alone (Block' ty shape body) values = tt
  goes_as_alone (Loop' ty shape body) values = tt
  goes_as_alone (If' ty shape body other) values = popped-both Both I32 values _ _ _ _ tt (λ n below. if_zero-both Both n _ _ _ _ tt tt)
  goes_as_alone (Br zero) values = tt
  goes_as_alone (Br (suc k)) values = tt
  goes_as_alone (BrIf k) values = popped-both Both I32 values _ _ _ _ tt (λ n below. if_zero-both Both n _ _ _ _ tt tt)
  goes_as_alone (BrTable ks k) values = popped-both Both I32 values _ _ _ _ tt (λ n below. tt)
  goes_as_alone Return values = tt
  goes_as_alone (Call f) values = tt
  goes_as_alone (CallIndirect number) values = popped-both Both I32 values _ _ _ _ tt (λ n below.
      if_some-both Both (slice_get (table_of m) n) _ _ _ _ tt (λ function. if_some-both Both function _ _ _ _ tt (λ f.
      if_some-both Both (func_type m f) _ _ _ _ tt (λ ty. if_some-both Both (slice_get m.types number) _ _ _ _ tt (λ wanted.
      cond-both Both (same_func_type ty wanted) _ _ _ _ tt tt)))))
  goes_as_alone Drop values = with_top-both Both values _ _ _ _ tt (λ v below. tt)
  goes_as_alone Select values = popped-both Both I32 values _ _ _ _ tt (λ n below.
      with_top-both Both below _ _ _ _ tt (λ upper below. with_top-both Both below _ _ _ _ tt (λ lower below. tt)))
  goes_as_alone (LocalGet x) values = if_some-both Both (slice_get at.locals x) _ _ _ _ tt (λ v. tt)
  goes_as_alone (LocalSet x) values = with_top-both Both values _ _ _ _ tt (λ v below. cond-both Both (nat_lt x (length at.locals)) _ _ _ _ tt tt)
  goes_as_alone (LocalTee x) values = with_top-both Both values _ _ _ _ tt (λ v below. cond-both Both (nat_lt x (length at.locals)) _ _ _ _ tt tt)
  goes_as_alone (GlobalGet x) values = if_some-both Both (slice_get at.store.globals x) _ _ _ _ tt (λ v. tt)
  goes_as_alone (GlobalSet x) values =
      with_top-both Both values _ _ _ _ tt (λ v below. cond-both Both (nat_lt x (length at.store.globals)) _ _ _ _ tt tt)
  goes_as_alone (Load ty arg) values = popped-both Both I32 values _ _ _ _ tt (λ address below.
      if_some-both Both (loaded (address + arg.offset) (byte_width ty) at.store.memory) _ _ _ _ tt (λ n. tt))
  goes_as_alone (LoadNarrow load arg) values = popped-both Both I32 values _ _ _ _ tt (λ address below.
      if_some-both Both (loaded (address + arg.offset) (load_bytes load) at.store.memory) _ _ _ _ tt (λ n. tt))
  goes_as_alone (instr.Store ty arg) values = popped-both Both ty values _ _ _ _ tt (λ n below. popped-both Both I32 below _ _ _ _ tt (λ address below.
      if_some-both Both (stored (address + arg.offset) (byte_width ty) n at.store.memory) _ _ _ _ tt (λ memory. tt)))
  goes_as_alone (StoreNarrow store arg) values = popped-both Both (store_type store) values _ _ _ _ tt (λ n below.
      popped-both Both I32 below _ _ _ _ tt (λ address below.
      if_some-both Both (stored (address + arg.offset) (store_bytes store) n at.store.memory) _ _ _ _ tt (λ memory. tt)))
  goes_as_alone (I32Const z) values = tt
  goes_as_alone (I64Const z) values = tt
  goes_as_alone (Eqz ty) values = popped-both Both ty values _ _ _ _ tt (λ n below. tt)
  goes_as_alone (Compare ty o) values = popped-both Both ty values _ _ _ _ tt (λ j below. popped-both Both ty below _ _ _ _ tt (λ i below. tt))
  goes_as_alone (Unary ty o) values = popped-both Both ty values _ _ _ _ tt (λ n below. tt)
  goes_as_alone (Binary ty o) values = popped-both Both ty values _ _ _ _ tt (λ j below. popped-both Both ty below _ _ _ _ tt (λ i below.
      if_some-both Both (binary o (width ty) i j) _ _ _ _ tt (λ n. tt)))
  goes_as_alone Wrap values = popped-both Both I64 values _ _ _ _ tt (λ n below. tt)
  goes_as_alone (Extend sign) values = popped-both Both I32 values _ _ _ _ tt (λ n below. tt)

module _ {H E : Type 0} (host : Host H E) (m : Module) (rest : List Instr) (locals : List Value) (labels : List Label) (frames : List Frame)
    (trap stuck : Configuration H E) (traps : NotStuck trap) where
  -- Where an instruction runs, with a store.
  abbrev with_store : Store H → Setting H
  with_store s = record { locals = locals; labels = labels; frames = frames; store = s }

  -- What traps by a rule isn't stuck.
  pub trap_not_stuck : (i : Instr) (s : Store H) (taken below : List Value) → TrapRule m i s taken →
      NotStuck (instr_step host m i rest (taken ++ below) (with_store s) trap stuck)
  trap_not_stuck _ _ _ below (unreachable s) = traps
  trap_not_stuck _ _ _ below (undefined s I32 o i j is) = rw is traps
  trap_not_stuck _ _ _ below (undefined s I64 o i j is) = rw is traps
  trap_not_stuck _ _ _ below (load_outside s ty arg address is) = rw is traps
  trap_not_stuck _ _ _ below (load_narrow_outside s o arg address is) = rw is traps
  trap_not_stuck _ _ _ below (store_outside s I32 arg address n is) = rw is traps
  trap_not_stuck _ _ _ below (store_outside s I64 arg address n is) = rw is traps
  trap_not_stuck _ _ _ below (store_narrow_outside s I32To8 arg address n is) = rw is traps
  trap_not_stuck _ _ _ below (store_narrow_outside s I32To16 arg address n is) = rw is traps
  trap_not_stuck _ _ _ below (store_narrow_outside s I64To8 arg address n is) = rw is traps
  trap_not_stuck _ _ _ below (store_narrow_outside s I64To16 arg address n is) = rw is traps
  trap_not_stuck _ _ _ below (store_narrow_outside s I64To32 arg address n is) = rw is traps
  trap_not_stuck _ _ _ below (no_entry s number n is) = rw is traps
  trap_not_stuck _ _ _ below (empty_entry s number n is) = rw is traps
  trap_not_stuck _ _ _ below (other_type s number n f ty wanted there known typed differ) =
      if_some-there NotStuck (slice_get (table_of m) n) (Some f) trap _ there
      (if_some-there NotStuck (func_type m f) ty stuck _ known
      (if_some-there NotStuck (slice_get m.types number) wanted stuck _ typed
      (cond-either NotStuck (same_func_type ty wanted) (Calling f rest below (with_store s)) trap
      (λ same. absurd (differ (same_func_type-same ty wanted same))) (λ _. traps))))

-- A call with these arguments.
abbrev pub call_of : (passed below : List Value) → Arguments
call_of passed below = record { passed = passed; below = below }

-- The types of values in reverse.
types-reverse_aux : (values onto : List Value) → types (reverse_aux values onto) ≡ reverse_aux (types values) (types onto)
types-reverse_aux [] onto = refl
types-reverse_aux (v ∷ values) onto = types-reverse_aux values (v ∷ onto)

-- Values of the types that are asked are taken.
arguments_onto-given : (onto values below : List Value) →
    arguments_onto onto (types values) (values ++ below) ≡ Some (call_of (reverse_aux values onto) below)
arguments_onto-given onto [] below = refl
arguments_onto-given onto (value.I32 n ∷ values) below = arguments_onto-given (value.I32 n ∷ onto) values below
arguments_onto-given onto (value.I64 n ∷ values) below = arguments_onto-given (value.I64 n ∷ onto) values below

-- So the arguments of a call are those that are on top.
pub arguments_given : (ty : FuncType) (passed below values : List Value) → values ≡ reverse passed ++ below → types passed ≡ ty.params →
    arguments ty.params values ≡ Some (call_of passed below)
arguments_given ty passed below values split typed =
    subst (λ values. arguments ty.params values ≡ Some (call_of passed below)) (sym split)
    (subst (λ params. arguments_onto [] params (reverse passed ++ below) ≡ Some (call_of passed below))
    (types-reverse_aux passed [] ∙ ap reverse typed)
    (arguments_onto-given [] (reverse passed) below ∙ ap (λ passed. Some (call_of passed below)) (reverse-reverse passed)))
