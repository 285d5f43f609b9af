-- What the definitions give on small modules.
use Rattle.std.proofs.Common.{◌≡◌, List, [], ◌∷◌, ◌++◌, reverse, refl, subst, arith}
use Rattle.std.specs.Prelude.{pos, negsuc, None, Some, codes}
use Rattle.hph_wasm.specs.declared.types.ValType.{ValType}
use Rattle.hph_wasm.specs.declared.types.ValType.TheVariants.{I32}
use Rattle.hph_wasm.specs.declared.types.FuncType.{FuncType}
use Rattle.hph_wasm.specs.declared.types.BlockType.{BlockType}
use Rattle.hph_wasm.specs.declared.instr.Instr.{Instr, Call, I32Const}
use Rattle.hph_wasm.specs.declared.instr.Instr.TheViews as view
use Rattle.hph_wasm.specs.declared.module.ImportDesc.TheVariants as import_desc
use Rattle.hph_wasm.specs.declared.module.ExportDesc.TheVariants as export_desc
use Rattle.hph_wasm.specs.declared.module.Func.{Func}
use Rattle.hph_wasm.specs.declared.module.Module.{Module}
use Rattle.hph_wasm.specs.Values.{i32_bits}
use Rattle.hph_wasm.specs.Validity.{IsFunc, IsInstr, IsSequence, Context, under_label, body_context}
use Rattle.hph_wasm.specs.ModuleValidity.{IsValid}
use Rattle.hph_wasm.specs.Instantiation.{zeros, SegmentsFit}
use Rattle.hph_wasm.specs.Outcome.{Done, More, Stopped, Trap}
use Rattle.hph_wasm.specs.Run.{wasm, invoked, IsLinked}
use Rattle.hph_wasm.proofs.Printer.{printer, Misuse}
use Rattle.hph_wasm.proofs.Rows.{listed, valid-block, size-block}

-- The 32 bits of the least number and of -1.
bits_of_least : i32_bits (negsuc 2147483647) ≡ 2147483648
bits_of_least = refl

bits_of_minus_one : i32_bits (negsuc 0) ≡ 4294967295
bits_of_minus_one = refl

-- The type of php1.write.
abbrev write_type : FuncType
write_type = record { params = I32 ∷ I32 ∷ []; results = [] }

-- The type of a function main.
abbrev no_type : FuncType
no_type = record { params = []; results = [] }

-- A function of no locals, with this body.
abbrev main : List Instr → Func
main body = record { ty = 1; locals = []; body = body }

-- The functions php1.write and main, with main's body, and a page of memory that begins with 3.
abbrev with_main : List Instr → Module
with_main body = record {
  types = write_type ∷ no_type ∷ [];
  imports = record { «module» = codes "php1"; name = codes "write"; desc = import_desc.Func 0 } ∷ [];
  funcs = main body ∷ [];
  tables = [];
  memories = record { min = 1; max = None } ∷ [];
  globals = [];
  exports = record { name = codes "main"; desc = export_desc.Func 1 } ∷ [];
  elements = [];
  segments = record { memory = 0; offset = I32Const (pos 0) ∷ []; bytes = codes "3" } ∷ [];
}

-- Prints the one byte.
abbrev write_three : List Instr
write_three = I32Const (pos 0) ∷ I32Const (pos 1) ∷ Call 0 ∷ []

abbrev no_result : BlockType
no_result = record { result = None }

-- The same inside a block.
abbrev in_block : List Instr → List Instr
in_block body = view.Block no_result body ∷ []

-- Before the second reduction of a call nothing has happened.
nothing_after_four : wasm printer [] (with_main write_three) 4 ≡ record { output = []; end = More }
nothing_after_four = refl

-- The call of the import is two reductions.
three_after_five : wasm printer [] (with_main write_three) 5 ≡ record { output = codes "3"; end = More }
unfolding zeros
three_after_five = refl

-- Leaving main is one more.
three_after_six : wasm printer [] (with_main write_three) 6 ≡ record { output = codes "3"; end = Done }
unfolding zeros
three_after_six = refl

-- Only main is a function of the module's own.
main_is_entered : invoked printer [] (with_main write_three) 6 ≡ 1 ∷ []
unfolding zeros
main_is_entered = refl

-- Entering a block is a reduction.
nested_after_seven : wasm printer [] (with_main (in_block write_three)) 7 ≡ record { output = codes "3"; end = More }
unfolding zeros
nested_after_seven = rw (listed write_three) refl

-- Leaving the block is one.
nested_after_eight : wasm printer [] (with_main (in_block write_three)) 8 ≡ record { output = codes "3"; end = Done }
unfolding zeros
nested_after_eight = rw (listed write_three) refl

-- A length of -1 is 2^32 - 1 bytes, more than the memory has.
misuse : wasm printer [] (with_main (I32Const (pos 0) ∷ I32Const (negsuc 0) ∷ Call 0 ∷ [])) 5 ≡ record { output = []; end = Stopped Misuse }
unfolding zeros
misuse = refl

-- A call with too few arguments shows a trap at its opcode.
too_few_arguments : wasm printer [] (with_main (I32Const (pos 0) ∷ Call 0 ∷ [])) 9 ≡ record { output = []; end = Trap 1 1 }
too_few_arguments = refl

-- Inside a block the opcodes outside count too.
too_few_in_block : wasm printer [] (with_main (I32Const (pos 0) ∷ in_block (Call 0 ∷ []))) 9 ≡ record { output = []; end = Trap 1 2 }
too_few_in_block = rw (listed (Call 0 ∷ []), size-block no_result (Call 0 ∷ [])) refl

-- The instructions take nothing and leave nothing, in each context.
writes_from_nothing : (body : List Instr) (c : Context) → IsSequence (with_main body) c write_three [] []
writes_from_nothing body c = (
  I32 ∷ [],
  ([], refl, refl),
  (
    I32 ∷ I32 ∷ [],
    (I32 ∷ [], refl, refl),
    ([], (write_type, refl, ([], refl, refl)), refl),
  ),
)

-- The module is valid where main is.
with_main_is_valid : (body : List Instr) → IsFunc (with_main body) (main body) → IsValid (with_main body)
with_main_is_valid body valid = record {
  outside = record {
    types = (omega arith, (omega arith, tt));
    imports = (omega arith, tt);
    func_types = (omega arith, tt);
    tables = tt;
    one_table = omega arith;
    memories = ((omega arith, tt), tt);
    one_memory = omega arith;
    globals = tt;
    exports = (omega arith, tt);
    named_once = λ i j d less small same. omega arith;
    elements = tt;
    segments = ((omega arith, ((I32 ∷ [], ([], refl, refl), refl), (tt, tt))), tt);
  };
  funcs = (valid, tt);
}

-- The module that prints 3 is valid.
three_is_valid : IsValid (with_main write_three)
three_is_valid = with_main_is_valid write_three (no_type, refl, writes_from_nothing write_three (body_context no_type (main write_three)))

-- The block takes nothing and leaves nothing.
nested_block : (body : List Instr) (c : Context) → IsInstr (with_main body) c (view.Block no_result write_three) [] []
nested_block body c = (valid-block (with_main body) c no_result write_three [] []).1 (writes_from_nothing body (under_label [] c), ([], refl, refl))

-- The module that prints 3 inside a block is valid.
nested_is_valid : IsValid (with_main (in_block write_three))
nested_is_valid = with_main_is_valid (in_block write_three) (no_type, refl, ([], nested_block _ _, refl))

-- A stack of one value isn't one of two and more.
one_is_not_two : (mid below rest : List ValType) (ty : FuncType) → [] ≡ below → mid ≡ I32 ∷ below → Some write_type ≡ Some ty →
    mid ≡ reverse ty.params ++ rest → ⊥
one_is_not_two mid below rest ty empty one is_write two =
    let same : ty ≡ write_type = cc in
    let two_values : mid ≡ I32 ∷ I32 ∷ rest = subst (λ (ty : FuncType). mid ≡ reverse ty.params ++ rest) same two in
    cc

-- A call with too few arguments isn't valid.
too_few_is_invalid : IsValid (with_main (I32Const (pos 0) ∷ Call 0 ∷ [])) → ⊥
too_few_is_invalid valid =
    let body = valid.funcs.0.2 in
    let call = body.2.1 in
    one_is_not_two body.0 body.1.0 call.2.0 call.0 body.1.1 body.1.2 call.1 call.2.1

-- The host has what the module imports.
three_is_linked : IsLinked printer (with_main write_three)
three_is_linked = record { imports = ((write_type, refl, 0, refl), tt); main = (1, refl, refl) }

-- The segment ends within the page.
three_fits : SegmentsFit (with_main write_three)
three_fits = (omega arith, tt)
