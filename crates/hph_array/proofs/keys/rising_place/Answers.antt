use Rattle.std.proofs.Common.{nat_lt, sym, ◌∙◌, rules}
use Rattle.std.proofs.lemmas.List.Sorted.{IsPartitionPoint-from_clause}
use Rattle.hph_array.specs.Key.{key_eq, number_after}
use Rattle.hph_array.proofs.Rising.{position-no_number, position-there, position-absent, stands, RiseFrom-parted, absent_past}
use Rattle.hph_array.proofs.keys.rising_place.Goals as goal

pub returns-then-past-eq0 : goal.returns-then-past-eq0
returns-then-past-eq0 c = position-no_number c.args.keys.now c.args.key.now c.requires (search rules)

pub returns-then-is_at : goal.returns-then-is_at
returns-then-is_at c =
    let found = stands (key_eq c.args.key.now) _ (sym c.is_at.ensures ∙ c.if-is_at.true) in
    position-there 0 c.args.keys.now _ c.args.key.now found.0 c.requires found.1 found.2

pub returns-then-is_at-2 : goal.returns-then-is_at-2
returns-then-is_at-2 c =
    let found = stands (key_eq c.args.key.now) _ (sym c.is_at-2.ensures ∙ c.if-is_at-2.true) in
    position-there 0 c.args.keys.now _ c.args.key.now found.0 c.requires found.1 found.2

pub returns-else-is_at-2 : goal.returns-else-is_at-2
returns-else-is_at-2 c =
    let parted = RiseFrom-parted 0 (number_after c.args.key.now) c.args.keys.now c.requires in
    let point =
    IsPartitionPoint-from_clause (λ x. nat_lt (number_after x) (number_after c.args.key.now)) _ _
    c.partition_point-place.ensures.partitioned parted (λ a r q k. search rules) in
    position-absent (key_eq c.args.key.now) c.args.keys.now
    (absent_past 0 c.args.keys.now c.args.key.now _ c.requires point.0 point.1 (sym c.is_at-2.ensures ∙ c.if-is_at-2.false))
