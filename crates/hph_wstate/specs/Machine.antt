-- What a machine stands for.
use Rattle.hph_wstate.specs.declared.machine.Machine.{Machine}
use Rattle.hph_wstate.specs.Core.{Core, Held, core_of}

abbrev pub held : Machine → Held
held m = record { locals = m.locals; memory = m.memory.items; globals = m.globals }

abbrev pub core : Machine → Core
core m = core_of m.code.now m.values m.own m.entered m.own_entered (held m) m.callers
