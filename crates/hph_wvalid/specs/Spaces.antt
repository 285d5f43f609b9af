-- What the code keeps of a module and of what stands around an instruction, as the rules of validity name it.
use Rattle.std.specs.Prelude.{◌≡◌, ◌++◌, map, reverse}
use Rattle.hph_wasm.specs.declared.module.Module.{Module}
use Rattle.hph_wasm.specs.Functions.{functions, type_number, tables, memories, imported_globals, globals}
use Rattle.hph_wasm.specs.Validity.{Context}
use Rattle.hph_wvalid.specs.declared.scope.Scope.{Scope}
use Rattle.hph_wvalid.specs.declared.spaces.Spaces.{Spaces}

-- What a module has by number.
abbrev pub spaces_of : Module → Spaces
spaces_of m = record { functions = map type_number (functions m); tables = tables m; memories = memories m; globals = globals m; imported_globals = imported_globals m.imports }

-- What stands around an instruction. The rules number labels from the innermost outwards, and the code has that one last.
abbrev pub context_of : Scope → Context
context_of scope = record { locals = scope.ty.now.params ++ scope.func.now.locals; labels = reverse scope.labels; result = reverse scope.ty.now.results }

-- What the scope has by number is what its module has.
abbrev pub IsNumbered : Scope → Type 0
IsNumbered scope = scope.spaces.now ≡ spaces_of scope.«module».now
