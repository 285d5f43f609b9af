use Rattle.std.proofs.Common.{◌≡◌, ◌∙◌, ◌<◌, ◌^◌, Some, length, refl, sym, ap, subst, arith}
use Rattle.std.specs.Prelude.{slice_get, MatchOption}
use Rattle.std.proofs.lemmas.Option.{slice_get_read}
use Rattle.hph_wasm.specs.Validity.{IsFunc}
use Rattle.hph_wvalid.specs.Functions.{IsFaultOf}
use Rattle.hph_wasm.specs.declared.module.Func.{Func}
use Rattle.hph_wasm.specs.Rows.{list_size}
use Rattle.hph_wvalid.proofs.Spellings.{placed_all, functions_counted}
use Rattle.hph_wvalid.proofs.Places.{fault_at}
use Rattle.hph_wvalid.proofs.functions.first_invalid.Goals as goal

pub function_fault-requires-clause-short : goal.function_fault-requires-clause-short
function_fault-requires-clause-short c =
    let there : slice_get c.args.m.now.funcs c.loop-n.n ≡ Some c.index-funcs-n.result = ap (λ l. slice_get l c.loop-n.n) (sym c.as_slice-funcs.ensures) ∙
    slice_get_read c.as_slice-funcs.result.now (length c.as_slice-funcs.result.now) c.loop-n.n c.index-funcs-n.result refl (omega arith) c.index-funcs-n.is in
    placed_all (λ (func : Func). list_size func.body < 2 ^ 32) c.args.m.now.funcs c.loop-n.n c.index-funcs-n.result c.requires.short there

pub overflow_cast-result-in-Some : goal.overflow_cast-result-in-Some
overflow_cast-result-in-Some c =
    let m = c.args.m.now in
    let there : slice_get m.funcs c.loop-n.n ≡ Some c.index-funcs-n.result = ap (λ l. slice_get l c.loop-n.n) (sym c.as_slice-funcs.ensures) ∙
    slice_get_read c.as_slice-funcs.result.now (length c.as_slice-funcs.result.now) c.loop-n.n c.index-funcs-n.result refl (omega arith) c.index-funcs-n.is in
    let short = placed_all (λ (func : Func). list_size func.body < 2 ^ 32) m.funcs c.loop-n.n c.index-funcs-n.result c.requires.short there in
    let told : IsFaultOf m c.index-funcs-n.result c.in-Some.instr =
    subst (λ o. MatchOption o (IsFunc m c.index-funcs-n.result) (λ k. IsFaultOf m c.index-funcs-n.result k)) c.in-Some.is c.in_ok-function_fault.ensures in
    omega (arith, short, told.2.0)

pub returns-in-Some : goal.returns-in-Some
returns-in-Some c =
    let m = c.args.m.now in
    let there : slice_get m.funcs c.loop-n.n ≡ Some c.index-funcs-n.result = ap (λ l. slice_get l c.loop-n.n) (sym c.as_slice-funcs.ensures) ∙
    slice_get_read c.as_slice-funcs.result.now (length c.as_slice-funcs.result.now) c.loop-n.n c.index-funcs-n.result refl (omega arith) c.index-funcs-n.is in
    let told : IsFaultOf m c.index-funcs-n.result c.in-Some.instr =
    subst (λ o. MatchOption o (IsFunc m c.index-funcs-n.result) (λ k. IsFaultOf m c.index-funcs-n.result k)) c.in-Some.is c.in_ok-function_fault.ensures in
    let all = c.len.ensures ∙ ap (λ s. length s.functions) c.requires.numbered in
    let own = ap length c.as_slice-funcs.ensures in
    let counted = functions_counted m in
    fault_at m c.loop-n.n c.in-Some.instr _ c.index-funcs-n.result c.requires.outside there c.loop-n.invariant told (omega (arith, all, own, counted.0, counted.1))
