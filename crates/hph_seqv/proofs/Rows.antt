-- A call of a row of the host, in two reductions, and what it answers.
use Rattle.std.proofs.Common.{◌≡◌, ℕ, ◌+◌, ◌≤◌, List, [], ◌∷◌, ◌++◌, map, refl, sym, ap, ◌∙◌, subst, arith, Some}
use Rattle.std.specs.Prelude.{slice_get}
use Rattle.hph_wasm.specs.declared.instr.Instr.{Instr, Call}
use Rattle.hph_wasm.specs.declared.value.Value.{Value as Word}
use Rattle.hph_wasm.specs.declared.types.FuncType.{FuncType}
use Rattle.hph_wasm.specs.declared.module.Import.{Import}
use Rattle.hph_wasm.specs.declared.module.Module.{Module}
use Rattle.hph_wasm.specs.Choice.{if_some}
use Rattle.hph_wasm.specs.Functions.{functions, Imported}
use Rattle.hph_wasm.specs.Values.{number_of}
use Rattle.hph_wasm.specs.Outcome.{Stopped}
use Rattle.hph_wasm.specs.Configuration.{Host, Setting, Running, Stuck, Ended}
use Rattle.hph_wasm.specs.Reduction.{Arguments, arguments, after_reply, reply_of, reduce}
use Rattle.hph_wasm.specs.Run.{outcome_of}
use Rattle.hph_php.specs.State.{State}
use Rattle.hph_php.specs.Answers.{Means, Answer, Gets, Ends, More}
use Rattle.hph_effects.specs.declared.row.Row.{Row}
use Rattle.hph_effects.specs.Rows.{row_number}
use Rattle.hph_effects.specs.Hosts.{Item, HostStatus, Halted}
use Rattle.hph_effects.specs.Effects.{php1, call_row}
use Rattle.hph_effect_laws.proofs.Tables.{calls_go_by_row}
use Rattle.hph_seqv.specs.Simulates.{Conf, Follows, Setup, type_of, call, Situation, Around, Places, Fits, host_of, setting, Stands, Runs}
use Rattle.hph_seqv.specs.Replies.{Replies}
use Rattle.hph_seqv.proofs.Steps.{reduce_on, got}

-- on any host
pub import_call : {H E : Type 0} (host : Host H E) (m : Module) (f type number : ℕ) (import : Import) (ty : FuncType)
    (passing : Arguments) (rest : List Instr) (values : List Word) (at : Setting H) →
    slice_get (functions m) f ≡ Some (Imported import type) → slice_get m.types type ≡ Some ty →
    host.row import.«module» import.name ty ≡ Some number → arguments ty.params values ≡ Some passing →
    reduce host m 2 (Running (Call f ∷ rest) values at)
    ≡ after_reply host m (reply_of host number passing.passed at.store) ty passing.below rest at (Stuck (Call f ∷ rest) at)
import_call host m f type number import ty passing rest values at p q r e = rw (p, q, e, r) refl

module _ (s : Setup) where
  abbrev pub numbers : List Word → List ℕ
  numbers words = map number_of words

  pub row_call : (row : Row) (passing : Arguments) (rest : List Instr) (values : List Word) (k : Around) (scratch : Word) (p : Places)
      (stack : List Item) (st : State) → arguments (type_of row).params values ≡ Some passing →
      reduce php1 s.m 2 (Running (call row ∷ rest) values (setting s k scratch p stack st))
      ≡ after_reply php1 s.m (call_row row (host_of k p stack st) (numbers passing.passed) s.memory) (type_of row) passing.below rest
      (setting s k scratch p stack st) (Stuck (call row ∷ rest) (setting s k scratch p stack st))
  row_call row passing rest values k scratch p stack st e =
      let r = s.rows row in
      let at : Setting HostStatus = setting s k scratch p stack st in
      import_call php1 s.m (row_number row) r.type (row_number row) r.import (type_of row) passing rest values at r.there r.typed r.numbered e
      ∙ ap (λ reply. after_reply php1 s.m reply (type_of row) passing.below rest at (Stuck (call row ∷ rest) at))
      (calls_go_by_row row (host_of k p stack st) (numbers passing.passed) s.memory)

  -- Where the module comes to a call of a row, it goes on to what the row replies.
  pub row_follows : {A : Type 0} (k : Around) (row : Row) (leaves : A → List Word) (gives : A → List Item) (passed values : List Word)
      (i b n : ℕ) (c : Conf) (scratch : Word) (p : Places) (stack : List Item) (st : State) (x : Answer A) → i + 2 ≤ b →
      reduce php1 s.m i c ≡ Running (call row ∷ k.rest) values (setting s k scratch p stack st) →
      arguments (type_of row).params values ≡ Some (record { passed = passed; below = k.values }) →
      Replies s k (type_of row).results leaves gives n (call_row row (host_of k p stack st) (numbers passed) s.memory) x →
      Follows s.m s.u (λ a st c. Stands s k [] (leaves a) (gives a ++ k.stack) st c) b n c x
  row_follows k row leaves gives passed values i b n c scratch p stack st (Gets a n' st') le e f r =
      let at : Setting HostStatus = setting s k scratch p stack st in
      let stuck : Conf = Stuck (call row ∷ k.rest) at in
      let g = r.1 in
      let c1 : Conf = Running k.rest (leaves a ++ k.values) (setting s k scratch g.places (gives a ++ k.stack) st') in
      let reached : reduce php1 s.m (i + 2) c ≡ c1 = reduce_on s.m i 2 c _ c1 e
      (row_call row (record { passed = passed; below = k.values }) k.rest values k scratch p stack st f
      ∙ ap (λ reply. after_reply php1 s.m reply (type_of row) k.values k.rest at stuck) g.is
      ∙ ap (λ o. if_some o stuck (λ words. Running k.rest (words ++ k.values) (setting s k scratch g.places (gives a ++ k.stack) st'))) g.typed) in
      subst (λ n'. Follows s.m s.u (λ a st c. Stands s k [] (leaves a) (gives a ++ k.stack) st c) b n c (Gets a n' st')) (sym r.0)
      (got s.m s.u (λ a st c. Stands s k [] (leaves a) (gives a ++ k.stack) st c) (i + 2) b n c c1 a st' le reached
      (record { places = g.places; scratch = scratch; fits = g.fits; is = refl }))
  row_follows k row leaves gives passed values i b n c scratch p stack st (Ends stop st') le e f r =
      let at : Setting HostStatus = setting s k scratch p stack st in
      let stuck : Conf = Stuck (call row ∷ k.rest) at in (
        i + 2,
        ap (outcome_of php1 s.m) (reduce_on s.m i 2 c _ (Ended (Stopped stop) (Halted st'.core.out stop)) e
            (row_call row (record { passed = passed; below = k.values }) k.rest values k scratch p stack st f
            ∙ ap (λ reply. after_reply php1 s.m reply (type_of row) k.values k.rest at stuck) r)),
        omega (arith, le),
      )
  row_follows k row leaves gives passed values i b n c scratch p stack st (More st') le e f r = absurd r

  module _ (depth : ℕ) (Where : Situation → Type 0) where
    -- The code of a row's call behind instructions that put its arguments on the stack, from what the row replies.
    pub by_row : {A : Type 0} (row : Row) (front : List Instr) (i : ℕ) (values passed : List Word) (items : List Item)
        (leaves : A → List Word) (gives : A → List Item) (mean : Means A) →
        ((rest : List Instr) (below : List Word) (at : Setting HostStatus) →
        (words : List Word) × (reduce php1 s.m i (Running ((front ++ call row ∷ []) ++ rest) (values ++ below) at) ≡ Running (call row ∷ rest) words at)
        × (arguments (type_of row).params words ≡ Some (record { passed = passed; below = below }))) →
        ((n : ℕ) (st : State) (k : Around) (p : Places) → Where k.situation → Fits s k.situation p st.frames st.globals st.core.heap →
        Replies s k (type_of row).results leaves gives n (call_row row (host_of k p (items ++ k.stack) st) (numbers passed) s.memory) (mean n st)) →
        Runs s depth Where values items leaves gives (i + 2) (front ++ call row ∷ []) mean
    by_row row front i values passed items leaves gives mean pushes replies = record {
      by = λ n le st k c w r.
          let at : Setting HostStatus = setting s k r.scratch r.places (items ++ k.stack) st in
          let pushed = pushes k.rest k.values at in
          row_follows k row leaves gives passed pushed.0 i (i + 2) n c r.scratch r.places (items ++ k.stack) st (mean n st) (omega arith)
          (ap (reduce php1 s.m i) r.is ∙ pushed.1) pushed.2 (replies n st k r.places w r.fits);
    }
