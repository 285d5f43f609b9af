-- The configuration that a machine stands for, with the host in a state.
use Rattle.hph_wasm.specs.Configuration.{Store, Setting, Configuration, Running}
use Rattle.hph_wstate.specs.Core.{Core}

-- What outlives calls, with the host in a state.
abbrev pub store_of : {H : Type 0} → Core → H → Store H
store_of core h = record { host = h; memory = core.memory; globals = core.globals }

abbrev pub setting : {H : Type 0} → Core → H → Setting H
setting core h = record { locals = core.locals; labels = core.labels; frames = core.frames; store = store_of core h }

-- The configuration itself.
abbrev pub running : {H E : Type 0} → Core → H → Configuration H E
running core h = Running core.code core.values (setting core h)
