use Rattle.std.proofs.Common.{leb, rules, ap, ◌∙◌}
use Rattle.std.specs.Option.{option_map}
use Rattle.std.proofs.lemmas.List.Sorted.{IsPartitionPoint-from_clause, IsPartitionedBy-leb}
use Rattle.hph_wasm.proofs.LocalLaws.{found_first, rising_by}
use Rattle.hph_wasm.proofs.locals.type_at.Goals as goal

pub returns-in-Some : goal.returns-in-Some
returns-in-Some c =
    let parted = IsPartitionedBy-leb (λ run. run.end) _ c.args.index (rising_by c.args.runs.now c.requires) in
    let point = IsPartitionPoint-from_clause (λ run. leb run.end c.args.index) _ _ c.partition_point-place.ensures.partitioned parted (λ a r q k. search rules) in
    ap (option_map (λ run. run.ty)) c.in-Some.ensures ∙ found_first c.args.runs.now c.args.index _ c.requires c.partition_point-place.ensures.bound point

pub returns-in-None : goal.returns-in-None
returns-in-None c =
    let parted = IsPartitionedBy-leb (λ run. run.end) _ c.args.index (rising_by c.args.runs.now c.requires) in
    let point = IsPartitionPoint-from_clause (λ run. leb run.end c.args.index) _ _ c.partition_point-place.ensures.partitioned parted (λ a r q k. search rules) in
    ap (option_map (λ run. run.ty)) c.in-None.ensures ∙ found_first c.args.runs.now c.args.index _ c.requires c.partition_point-place.ensures.bound point
