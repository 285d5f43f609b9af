-- What is told of the instance of a module (Core Specification 1.0, 4.5.4).
use Rattle.std.specs.Prelude.{◌≡◌, ℕ, map, Option, Some, None}
use Rattle.std.specs.List.{AllByRecursion}
use Rattle.hph_wasm.specs.declared.module.Module.{Module}
use Rattle.hph_wasm.specs.Instantiation.{globals_at_start, memory_at_start, table_of, IsWithin, element_placement, segment_placement, SegmentsFit, IsFirstMisfit}
use Rattle.hph_winstance.specs.declared.instance.Instance.{Instance}
use Rattle.hph_winstance.specs.declared.instance.InstanceFault.{InstanceFault}
use Rattle.hph_winstance.specs.declared.instance.InstanceFault.TheVariants.{Segment, NoMemory}

-- The data segments end within the memory.
abbrev pub DataFits : Module → Type 0
DataFits m = AllByRecursion IsWithin (map (segment_placement m) m.segments)

-- The element segments end within the table.
abbrev pub ElementsFit : Module → Type 0
ElementsFit m = AllByRecursion IsWithin (map (element_placement m) m.elements)

-- The first segment that doesn't fit is told, or that all do.
abbrev pub MisfitTold : Module → Option ℕ → Type 0
MisfitTold m (Some k) = IsFirstMisfit m k
MisfitTold m None = SegmentsFit m

-- The values of the globals, the memory and the table are those at the start of a run.
pub record IsInstance (m : Module) (instance : Instance) : Type 0 where
  pub globals : instance.globals ≡ globals_at_start m
  pub memory : instance.memory.items ≡ memory_at_start m
  pub table : instance.table ≡ table_of m

-- What keeps a module from having an instance is told.
abbrev pub IsFault : Module → InstanceFault → Type 0
IsFault m (Segment k) = IsFirstMisfit m k
IsFault m NoMemory = Unit {0}

-- This segment is told.
abbrev pub IsSegmentAt : ℕ → InstanceFault → Type 0
IsSegmentAt k (Segment j) = j ≡ k
IsSegmentAt k NoMemory = Unit {0}

abbrev pub IsNoMemory : InstanceFault → Type 0
IsNoMemory (Segment k) = ⊥
IsNoMemory NoMemory = Unit {0}
