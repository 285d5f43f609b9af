-- When a module does what a program does.
use Rattle.std.specs.Prelude.{ℕ, List}
use Rattle.hph_wasm.specs.declared.module.Module.{Module}
use Rattle.hph_wasm.specs.ModuleValidity.{IsValid}
use Rattle.hph_wasm.specs.Instantiation.{SegmentsFit}
use Rattle.hph_wasm.specs.Run.{wasm, IsLinked}
use Rattle.hph_wasm.specs.Agrees.{Agrees}
use Rattle.hph_effects.specs.Hosts.{Serving, empty_host}
use Rattle.hph_effects.specs.Effects.{php1}
use Rattle.hph_lowm.specs.Program.{php, cost}

-- The module is valid, the host has all that it imports at its type, its segments fit its memory,
-- and for all units and reductions its run is that of the program, which has so many nodes.
pub record Compiles (texts : List (List ℕ)) (nodes : ℕ) (m : Module) : Type 0 where
  pub valid : IsValid m
  pub linked : IsLinked php1 m
  pub fits : SegmentsFit m
  pub agrees : Agrees (php texts) (wasm php1 (Serving empty_host) m) (cost nodes)
