-- Reading the code section, part by part (Core Specification 1.0, 5.5.13).
use Rattle.std.proofs.Common.{◌≡◌, ◌∙◌, inl, inr, ℕ, ◌+◌, List, [], ◌++◌, length, refl, sym, ap, subst, arith, append_assoc}
use Rattle.std.specs.Prelude.{take}
use Rattle.std.specs.List.{AllByRecursion}
use Rattle.hph_wasm.specs.Leb128.{Unsigned}
use Rattle.hph_wasm.specs.Grammar.{◌⊳◌, Vector, Sized}
use Rattle.hph_wasm.specs.InstructionGrammar.{Expression}
use Rattle.hph_wasm.specs.ModuleGrammar.{Locals, Code}
use Rattle.hph_wasm.specs.OneWay.{OneForm, OneStop}
use Rattle.hph_wasm.specs.Unsupported.{Any, Read, Nowhere, Among, IsShallowExpression, AreFew, IsSmallCode, StopsLocals, StopsExpression, StopsCode}
use Rattle.hph_wasm.specs.declared.feature.Feature.{Feature}
use Rattle.hph_wasm.specs.declared.types.ValType.{ValType}
use Rattle.hph_wasm.specs.declared.instr.Instr.{Instr}
use Rattle.hph_wread.specs.Counted.{Counted}
use Rattle.hph_wread.specs.declared.fault.Fault.{Fault}
use Rattle.hph_wread.specs.declared.fault.Fault.TheVariants.{Malformed}
use Rattle.hph_wread.specs.Reading.{Took, Fails}
use Rattle.hph_wread.proofs.Combinators.{took_map, took_any, fails_map, fails_first, fails_second, behind_first, behind_second, OneEnd, one_end, pair_end}
use Rattle.hph_wread.proofs.Vectors.{took_alike, took_apart, each_end, vector_apart}
use Rattle.hph_wdec.specs.Locals.{LocalsAndBody, StopsLocalsAndBody}
use Rattle.hph_wdec.specs.Next.{CountedCode, StopsCounted, CodesFor, StopsCodesFor}
use Rattle.hph_wdec.specs.Sized.{moved_by}
use Rattle.hph_wdec.proofs.SizedParts.{sized_size, sized_inside, sized_unfilled, sized_any}

-- ---- a function's code

inside_parts : (front : List ℕ) → Any LocalsAndBody front → (Any Locals ⊳ Any Expression) front
inside_parts front p =
    let c = p.1 in record { front = c.front; rest = c.rest; split = c.split; first = (p.0.0, c.first, tt); second = (p.0.1, c.second, tt) }

few_locals : {bytes rest : List ℕ} (locals : List ValType) → AreFew locals → Took (Locals locals) bytes rest → Took (Read Locals AreFew) bytes rest
few_locals locals few p = record { front = p.front; split = p.split; spelled = (locals, p.spelled, few) }

pub inside_locals : {bytes : List ℕ} (e : Fault) → Fails (Any Locals) StopsLocals bytes e → Fails (Any LocalsAndBody) StopsLocalsAndBody bytes e
inside_locals e f = fails_map inside_parts (λ place feature t. t) (λ place feature t. t) e
    (fails_first (Read Locals AreFew) (Any Expression) StopsExpression (λ front q. (q.0, q.1, tt)) e f)

pub inside_body : {bytes mid : List ℕ} → OneForm Locals → OneStop Locals AreFew StopsLocals → (locals : List ValType) → AreFew locals →
    Took (Locals locals) bytes mid → (e : Fault) → Fails (Any Expression) StopsExpression mid e → Fails (Any LocalsAndBody) StopsLocalsAndBody bytes e
inside_body o stops locals few p e f = fails_map inside_parts (λ place feature t. t) (λ place feature t. t) e
    (fails_second StopsLocals (one_end o) (λ front q. (q.0, q.1, tt)) (took_apart stops locals p few) (few_locals locals few p) e f)

-- nothing stops in what was read
inside_apart : {bytes mid rest : List ℕ} → OneForm Locals → OneStop Locals AreFew StopsLocals → OneStop Expression IsShallowExpression StopsExpression →
    (locals : List ValType) → AreFew locals → Took (Locals locals) bytes mid → (body : List Instr) → IsShallowExpression body → Took (Expression body) mid rest →
    (place : ℕ) (feature : Feature) → ¬ StopsLocalsAndBody place feature bytes
inside_apart o stops expression locals few p body shallow q place feature (inl t) = took_apart stops locals p few place feature t
inside_apart o stops expression locals few p body shallow q place feature (inr b) =
    let same = took_alike o locals b.before.0 p (record { front = b.front; split = b.split; spelled = b.before.1 }) in
    took_apart expression body q shallow b.place feature (subst (StopsExpression b.place feature) (sym same.behind) b.stops)

inside_end : OneForm Locals → OneForm Expression → OneEnd (Any LocalsAndBody)
inside_end o expression = record {
  same = λ bytes r s p q. (pair_end (one_end o) (one_end expression)).same bytes r s (took_map inside_parts p) (took_map inside_parts q);
}

pub code_size : {bytes : List ℕ} (e : Fault) → Fails (Any (Unsigned 32)) Nowhere bytes e → Fails (Any Code) StopsCode bytes e
code_size e f = sized_any LocalsAndBody e (sized_size (Any LocalsAndBody) StopsLocalsAndBody e f)

module _ {bytes behind inside : List ℕ} (rest : List ℕ) (number : OneForm (Unsigned 32)) (size : ℕ) (p : Took (Unsigned 32 size) bytes behind)
    (counted : inside ≡ take size behind) (whole : behind ≡ inside ++ rest) where
  pub code_inside : (e : Fault) → Fails (Any LocalsAndBody) StopsLocalsAndBody inside e → Fails (Any Code) StopsCode bytes (moved_by (length rest) e)
  code_inside e f = sized_any LocalsAndBody (moved_by (length rest) e) (sized_inside rest number size p counted whole (Any LocalsAndBody) StopsLocalsAndBody e f)

  pub code_unfilled : {after : List ℕ} → OneForm Locals → OneForm Expression → OneStop Locals AreFew StopsLocals →
      OneStop Expression IsShallowExpression StopsExpression → (code : List ValType × List Instr) → IsSmallCode code →
      Took (LocalsAndBody code) inside after → ¬ ((after ≡ []) × (length inside ≡ size)) → Fails (Any Code) StopsCode bytes (Malformed (length after + length rest))
  code_unfilled {after} o expression stops stops' code small q differs =
      let c = q.spelled in
      let first : Took (Locals code.0) _ (c.rest ++ after) = record { front = c.front; split = q.split ∙ ap (λ l. l ++ after) c.split ∙ append_assoc c.front c.rest after; spelled = c.first } in
      let second : Took (Expression code.1) (c.rest ++ after) after = record { front = c.rest; split = refl; spelled = c.second } in
      sized_any LocalsAndBody (Malformed (length after + length rest))
      (sized_unfilled rest number size p counted whole (Any LocalsAndBody) StopsLocalsAndBody (inside_end o expression)
      (inside_apart o stops stops' code.0 small.0 first code.1 small.1 second) (took_any LocalsAndBody code q) differs)

-- ---- code for each of so many functions

codes_inside : (functions : ℕ) (front : List ℕ) → CodesFor functions front → Sized (CountedCode functions) front
codes_inside functions front p =
    let s = p.2 in
    let v = s.inside in
    record {
      size = s.size;
      body = s.body;
      split = s.split;
      counted = s.counted;
      inside = record {
        front = v.front;
        rest = v.rest;
        split = v.split;
        first = subst (λ n. Unsigned 32 n v.front) p.1 v.first;
        second = (p.0, p.1, v.second);
      };
    }

as_codes : (functions : ℕ) {bytes : List ℕ} (e : Fault) → Fails (Sized (CountedCode functions)) (StopsCodesFor functions) bytes e →
    Fails (CodesFor functions) (StopsCodesFor functions) bytes e
as_codes functions e f = fails_map (codes_inside functions) (λ place feature t. t) (λ place feature t. t) e f

-- this number ends in one place
number_end : OneForm (Unsigned 32) → (n : ℕ) → OneEnd (Unsigned 32 n)
number_end o n = record { same = λ bytes r s p q. (took_alike o n n p q).behind }

counted_end : OneForm Code → (n : ℕ) → OneEnd (Counted Code n)
counted_end o n = record {
  same = λ bytes r s p q.
      each_end o p.spelled.0 q.spelled.0 (p.spelled.1 ∙ sym q.spelled.1) (record { front = p.front; split = p.split; spelled = p.spelled.2 })
      (record { front = q.front; split = q.split; spelled = q.spelled.2 });
}

pub codes_size : (functions : ℕ) {bytes : List ℕ} (e : Fault) → Fails (Any (Unsigned 32)) Nowhere bytes e → Fails (CodesFor functions) (StopsCodesFor functions) bytes e
codes_size functions e f = as_codes functions e (sized_size (CountedCode functions) (StopsCounted functions) e f)

-- the number isn't there, or is another one
pub codes_count : (functions : ℕ) {bytes : List ℕ} (e : Fault) → Fails (Any (Unsigned 32)) Nowhere bytes e → Fails (CountedCode functions) (StopsCounted functions) bytes e
codes_count functions e f = behind_first (Counted Code functions) (Among functions Code IsSmallCode StopsCode) e
    (fails_map (λ front q. (functions, q, tt)) (λ place feature t. t) (λ place feature t. t) e f)

pub codes_other_count : (functions : ℕ) {bytes first : List ℕ} → OneForm (Unsigned 32) → (count : ℕ) → Took (Unsigned 32 count) bytes first → ¬ (count ≡ functions) →
    Fails (CountedCode functions) (StopsCounted functions) bytes (Malformed (length bytes))
codes_other_count functions {bytes} o count q differs =
    behind_first (Counted Code functions) (Among functions Code IsSmallCode StopsCode) (Malformed (length bytes)) (record {
      reason = (omega arith, record { none = λ rest r. differs (took_alike o count functions q r).thing; nowhere = λ place feature n. n });
    })

-- the code isn't there
pub codes_entries : (functions : ℕ) {bytes first : List ℕ} → OneForm (Unsigned 32) → (count : ℕ) → count ≡ functions → Took (Unsigned 32 count) bytes first → (e : Fault) →
    Fails (Counted Code count) (Among count Code IsSmallCode StopsCode) first e → Fails (CountedCode functions) (StopsCounted functions) bytes e
codes_entries functions {bytes} {first} o count is q e f =
    behind_second (number_end o functions) (subst (λ n. Took (Unsigned 32 n) bytes first) is q) e
    (subst (λ n. Fails (Counted Code n) (Among n Code IsSmallCode StopsCode) first e) is f)

-- so many are a vector
as_counted : (functions : ℕ) (codes : List (List ValType × List Instr)) → length codes ≡ functions → (front : List ℕ) → Vector Code codes front → CountedCode functions front
as_counted functions codes count front v = record {
  front = v.front;
  rest = v.rest;
  split = v.split;
  first = subst (λ n. Unsigned 32 n v.front) count v.first;
  second = (codes, count, v.second);
}

module _ {bytes behind inside : List ℕ} (rest : List ℕ) (functions : ℕ) (number : OneForm (Unsigned 32)) (size : ℕ) (p : Took (Unsigned 32 size) bytes behind)
    (counted : inside ≡ take size behind) (whole : behind ≡ inside ++ rest) where
  pub codes_missing : (e : Fault) → Fails (CountedCode functions) (StopsCounted functions) inside e →
      Fails (CodesFor functions) (StopsCodesFor functions) bytes (moved_by (length rest) e)
  codes_missing e f = as_codes functions (moved_by (length rest) e) (sized_inside rest number size p counted whole (CountedCode functions) (StopsCounted functions) e f)

  pub codes_unfilled : {after : List ℕ} → OneForm Code → OneStop Code IsSmallCode StopsCode → (codes : List (List ValType × List Instr)) → length codes ≡ functions →
      AllByRecursion IsSmallCode codes → Took (Vector Code codes) inside after → ¬ ((after ≡ []) × (length inside ≡ size)) →
      Fails (CodesFor functions) (StopsCodesFor functions) bytes (Malformed (length after + length rest))
  codes_unfilled {after} o stops codes count small q differs = as_codes functions (Malformed (length after + length rest))
      (sized_unfilled rest number size p counted whole (CountedCode functions) (StopsCounted functions) (pair_end (number_end number functions) (counted_end o functions))
      (λ place feature t. vector_apart number o stops codes small q place feature (functions, t)) (took_map (as_counted functions codes count) q) differs)
