-- What a rule does, by the instruction that is in front.
use Rattle.std.proofs.Common.{◌≡◌, ◌⊎◌, inl, inr, ℕ, suc, List, [], ◌∷◌, ◌++◌, length, reverse, refl, sym, ap, ◌∙◌, Option, Some}
use Rattle.std.proofs.lemmas.List.{reverse-reverse}
use Rattle.std.specs.Prelude.{slice_get}
use Rattle.hph_wasm.specs.declared.instr.Instr.{Instr, Br, BrIf, BrTable, Return, Call, CallIndirect}
use Rattle.hph_wasm.specs.declared.types.FuncType.{FuncType}
use Rattle.hph_wasm.specs.declared.value.Value.{Value}
use Rattle.hph_wasm.specs.declared.value.Value.TheVariants as value
use Rattle.hph_wasm.specs.declared.module.Module.{Module}
use Rattle.hph_wasm.specs.Values.{types, zero_values}
use Rattle.hph_wasm.specs.Functions.{Function, Imported, Defined, functions, type_number}
use Rattle.hph_wasm.specs.Configuration.{Goes, Host, Store}
use Rattle.hph_wasm.specs.Reduction.{results, reply_of, with_host}
use Rattle.hph_wasm.specs.Sequences.{Administrative, Plain, Constant, Invoke, Labelled, Framed, Sequence, Then, join, single, plain, constants, stack, on_stack, InLabels, is_block, is_loop, is_if}
use Rattle.hph_wasm.specs.Rewriting.{Rule, State, plainly, block, loop, if_then, if_else, branch, branch_out, branch_if, branch_table, return_out, call, call_indirect, label_end, invoke_function, invoke_import, frame_end}
use Rattle.hph_wasm.proofs.SequenceLaws.{join-empty, join-join, onto, on_top}
use Rattle.hph_wasm.proofs.Fronts.{IsFront, stack-constants}
use Rattle.hph_wasm.proofs.InstructionRewritings.{same_types-true}
use Rattle.hph_wasm.proofs.PlainResults.{result, made, plain_result}

-- A frame is left by a branch past all its labels, or by a return.
pub data Leaves : Instr → ℕ → Type 0 where
  by_branch : (k : ℕ) → Leaves (Br k) k
  by_return : (k : ℕ) → Leaves Return k

module _ {H E : Type 0} (host : Host H E) (m : Module) where
  -- A function of the module's own is entered, or one of the host's is called.
  abbrev pub Invoked : Function → FuncType → Store H → List Value → (passed below : List Value) → Sequence → Store H → List Value → Sequence → Type 0
  Invoked (Defined func) ty s locals passed below rest s' locals' becomes = (s' ≡ s) × (locals' ≡ locals) × (becomes ≡ join (stack below)
      (Then (Framed (length ty.results) (passed ++ zero_values func.locals) (plain func.body)) rest))
  Invoked (Imported import number) ty s locals passed below rest s' locals' becomes = (row : ℕ) × (h : H) × (given : Option ℕ) × (values : List Value) ×
      (host.row import.«module» import.name ty ≡ Some row) × (reply_of host row passed s ≡ Goes h given) × (results ty.results given ≡ Some values) ×
      (s' ≡ with_host h s) × (locals' ≡ locals) × (becomes ≡ join (stack below) (join (constants values) rest))

  -- What a rule makes of the instruction in front, the values before it, and what is behind.
  abbrev pub Acts : Store H → List Value → List Value → Administrative → Sequence → Store H → List Value → Sequence → Type 0
  Acts s locals values (Plain i) rest s' locals' becomes = (c : State H) × (result host m i s locals values ≡ Some c) × (s' ≡ c.store) ×
      (locals' ≡ c.locals) × (becomes ≡ join c.code rest)
  Acts s locals values (Constant v) rest s' locals' becomes = ⊥
  Acts s locals values (Invoke f) rest s' locals' becomes = (passed : List Value) × (below : List Value) × (values ≡ reverse passed ++ below) ×
      (function : Function) × (ty : FuncType) × (slice_get (functions m) f ≡ Some function) ×
      (slice_get m.types (type_number function) ≡ Some ty) × (types passed ≡ ty.params) ×
      Invoked function ty s locals passed below rest s' locals' becomes
  Acts s locals values (Labelled n continuation body) rest s' locals' becomes = (s' ≡ s) × (locals' ≡ locals) × (
      ((given : List Value) × (body ≡ stack given) × (becomes ≡ join (stack values) (join (stack given) rest))) ⊎
      ((k : ℕ) × (top : List Value) × (n ≡ length top) × InLabels (on_stack top (Plain (Br k))) k body ×
      (becomes ≡ join (stack values) (join (join (stack top) (plain continuation)) rest))))
  Acts s locals values (Framed n inner body) rest s' locals' becomes = (s' ≡ s) × (locals' ≡ locals) × (
      ((given : List Value) × (n ≡ length given) × (body ≡ stack given) × (becomes ≡ join (stack values) (join (stack given) rest))) ⊎
      ((i : Instr) × (k : ℕ) × (top : List Value) × Leaves i k × (n ≡ length top) × InLabels (on_stack top (Plain i)) k body ×
      (becomes ≡ join (stack values) (join (stack top) rest))))

  -- A rule at a front.
  pub record Seen (s : Store H) (locals : List Value) (code : Sequence) (s' : Store H) (locals' : List Value) (becomes : Sequence) : Type 0 where
    pub values : List Value
    pub first : Administrative
    pub rest : Sequence
    pub front : IsFront first
    pub split : code ≡ join (stack values) (Then first rest)
    pub acts : Acts s locals values first rest s' locals' becomes

  -- An instruction that takes values from the stack becomes what its step makes of it.
  taking : (i : Instr) (s s' : Store H) (locals locals' taken values : List Value) (b : Sequence) (rest : Sequence) →
      result host m i s locals (taken ++ values) ≡ Some (record { store = s'; locals = locals'; code = join (stack values) b }) →
      Seen s locals (join (stack values) (join (on_stack taken (Plain i)) rest)) s' locals' (join (stack values) (join b rest))
  taking i s s' locals locals' taken values b rest made_so = record {
    values = taken ++ values;
    first = Plain i;
    rest = rest;
    front = tt;
    split = on_top taken values (Plain i) rest;
    acts = (record { store = s'; locals = locals'; code = join (stack values) b }, made_so, refl, refl, sym (join-join (stack values) b rest));
  }

  -- The arguments of a call are on top of the stack.
  passing : (passed values : List Value) (f : ℕ) (rest : Sequence) →
      join (stack values) (join (join (constants passed) (single (Invoke f))) rest) ≡ join (stack (reverse passed ++ values)) (Then (Invoke f) rest)
  passing passed values f rest =
      ap (λ a. join (stack values) (join (join a (single (Invoke f))) rest))
      (ap constants (sym (reverse-reverse passed)) ∙ sym (stack-constants (reverse passed))) ∙
      on_top (reverse passed) values (Invoke f) rest

  -- Each rule.
  pub rule_seen : (s s' : Store H) (locals locals' : List Value) (a b : Sequence) (values : List Value) (rest : Sequence) →
      Rule host m s locals a s' locals' b → Seen s locals (join (stack values) (join a rest)) s' locals' (join (stack values) (join b rest))
  rule_seen _ _ _ _ _ _ values rest (plainly i s s' locals locals' taken given r) = record {
    values = taken ++ values;
    first = Plain i;
    rest = rest;
    front = tt;
    split = on_top taken values (Plain i) rest;
    acts = (
      made host m s' locals' (given ++ values),
      plain_result host m i s s' locals locals' taken given values r,
      refl,
      refl,
      onto given values rest ∙ ap (λ a. join a rest) (sym (join-empty (stack (given ++ values)))),
    );
  }
  rule_seen _ _ _ _ _ _ values rest (block s locals _ _ _ (is_block ty shape body)) = taking _ s s locals locals [] values _ rest refl
  rule_seen _ _ _ _ _ _ values rest (loop s locals _ _ (is_loop ty shape body)) = taking _ s s locals locals [] values _ rest refl
  rule_seen _ _ _ _ _ _ values rest (if_then s locals _ _ _ _ n (is_if ty shape body other)) =
      taking _ s s locals locals (value.I32 (suc n) ∷ []) values _ rest refl
  rule_seen _ _ _ _ _ _ values rest (if_else s locals _ _ _ _ (is_if ty shape body other)) =
      taking _ s s locals locals (value.I32 0 ∷ []) values _ rest refl
  rule_seen _ _ _ _ _ _ values rest (branch_if s locals k n) = taking (BrIf k) s s locals locals (value.I32 (suc n) ∷ []) values _ rest refl
  rule_seen _ _ _ _ _ _ values rest (branch_table s locals ks k n) =
      taking (BrTable ks k) s s locals locals (value.I32 n ∷ []) values _ rest refl
  rule_seen _ _ _ _ _ _ values rest (call s locals f) = taking (Call f) s s locals locals [] values _ rest refl
  rule_seen _ _ _ _ _ _ values rest (call_indirect s locals number n f ty there known typed) =
      taking (CallIndirect number) s s locals locals (value.I32 n ∷ []) values (single (Invoke f)) rest
      (rw there (rw known (rw typed (rw (same_types-true ty.params) (rw (same_types-true ty.results) refl)))))
  rule_seen _ _ _ _ _ _ values rest (branch s locals arity continuation body k top same stands) =
      record { values = values; first = _; rest = rest; front = tt; split = refl; acts = (refl, refl, inr (k, top, same, stands, refl)) }
  rule_seen _ _ _ _ _ _ values rest (label_end s locals arity continuation given) =
      record { values = values; first = _; rest = rest; front = tt; split = refl; acts = (refl, refl, inl (given, refl, refl)) }
  rule_seen _ _ _ _ _ _ values rest (branch_out s locals arity inner body k top same stands) =
      record { values = values; first = _; rest = rest; front = tt; split = refl; acts = (refl, refl, inr (Br k, k, top, by_branch k, same, stands, refl)) }
  rule_seen _ _ _ _ _ _ values rest (return_out s locals arity inner body k top same stands) =
      record { values = values; first = _; rest = rest; front = tt; split = refl; acts = (refl, refl, inr (Return, k, top, by_return k, same, stands, refl)) }
  rule_seen _ _ _ _ _ _ values rest (frame_end s locals arity inner given same) =
      record { values = values; first = _; rest = rest; front = tt; split = refl; acts = (refl, refl, inl (given, same, refl, refl)) }
  rule_seen _ _ _ _ _ _ values rest (invoke_function s locals f func ty passed there known long) = record {
    values = reverse passed ++ values;
    first = Invoke f;
    rest = rest;
    front = tt;
    split = passing passed values f rest;
    acts = (passed, values, refl, Defined func, ty, there, known, long, (refl, refl, refl));
  }
  rule_seen _ _ _ _ _ _ values rest (invoke_import s locals f import number ty row passed h given made_values there known long found replies is) = record {
    values = reverse passed ++ values;
    first = Invoke f;
    rest = rest;
    front = tt;
    split = passing passed values f rest;
    acts = (passed, values, refl, Imported import number, ty, there, known, long, (row, h, given, made_values, found, replies, is, refl, refl, refl));
  }
