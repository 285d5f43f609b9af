-- Parts of code that are written by themselves: sections 5.4.1 and 5.5.13 of the WebAssembly Core Specification 1.0.
use Rattle.std.specs.Prelude.{ℕ, List, [], ◌∷◌, ◌++◌, flat_map}
use Rattle.hph_wasm.specs.Codes.{else_code}
use Rattle.hph_wasm.specs.Spelling.{instr_bytes, locals_bytes, expression_bytes}
use Rattle.hph_wasm.specs.declared.instr.Instr.{Instr}
use Rattle.hph_wasm.specs.declared.module.Func.{Func}

-- the first branch of an `if`, and an `else`
abbrev pub first_branch_bytes : List Instr → List ℕ
first_branch_bytes body = flat_map instr_bytes body ++ else_code ∷ []

-- a function's code without its size: the locals, and the body
abbrev pub content_of : Func → List ℕ
content_of f = locals_bytes f.locals ++ expression_bytes f.body
