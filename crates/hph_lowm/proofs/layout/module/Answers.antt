use Rattle.std.proofs.Common.{sym, subst, arith}
use Rattle.std.proofs.lemmas.Result.{IfOk-weaker}
use Rattle.hph_wasm.specs.Spelling.{IsWritable}
use Rattle.hph_effects.specs.Hosts.{Serving, empty_host}
use Rattle.hph_effects.specs.Effects.{php1}
use Rattle.hph_lowm.specs.Layout.{module_of}
use Rattle.hph_lowm.specs.Compiles.{Compiles}
use Rattle.hph_lowm.specs.Program.{php, cost}
use Rattle.hph_lowm.proofs.LayoutIsWritable.{layout_is_writable}
use Rattle.hph_lowm.proofs.LayoutIsValid.{layout_is_valid, layout_is_linked, layout_fits}
use Rattle.hph_lowm.proofs.LayoutRuns.{layout_follows}
use Rattle.hph_lowm.proofs.layout.module.Goals as goal

pub returns-clause-writable : goal.returns-clause-writable
returns-clause-writable c = IfOk-weaker c.laid_out.result _ _ (λ m same. subst IsWritable (sym same) (layout_is_writable c.args.texts.now c.requires)) c.laid_out.ensures

pub returns-clause-compiles : goal.returns-clause-compiles
returns-clause-compiles c = λ nodes enough.
    let texts = c.args.texts.now in
    let compiles : Compiles texts nodes (module_of texts) = record {
      valid = layout_is_valid texts (omega (arith, c.requires));
      linked = layout_is_linked texts;
      fits = layout_fits texts;
      agrees = c.php1_both_directions.ensures (Serving empty_host) (module_of texts) (php texts) (cost nodes) (layout_follows (c.reductions_in_turn.ensures php1) texts nodes enough);
    } in
    IfOk-weaker c.laid_out.result _ _ (λ m same. subst (Compiles texts nodes) (sym same) compiles) c.laid_out.ensures
