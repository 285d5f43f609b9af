-- The modules of specs/Modules can be written, and their numbers and names are in their ranges.
use Rattle.std.proofs.Common.{◌<◌, ◌^◌, ℕ, List, [], ◌∷◌, length, refl, rules, codes, lit<}
use Rattle.std.specs.Prelude.{All, IsUtf8}
use Rattle.std.specs.List.{AllByRecursion}
use Rattle.std.proofs.lemmas.Str.{IsUtf8-from_ascii}
use Rattle.std.proofs.lemmas.Str.Ascii.{IsAscii-from_all}
use Rattle.hph_wasm.specs.Leb128.{shortest_unsigned, shortest_signed}
use Rattle.hph_wasm.specs.Spelling.{spelling, IsWritable}
use Rattle.hph_wasm.specs.declared.types.ValType.{ValType}
use Rattle.hph_wasm.specs.declared.instr.Instr.{Instr}
use Rattle.hph_wasm.specs.declared.instr.Instr.TheBlock as block
use Rattle.hph_wenc.specs.Fits.{ModuleFits, ExpressionFits}
use Rattle.hph_writer_tests.specs.Modules.{empty, of_code, prints_three, imports_each_kind, exports_each_kind, joins_locals, branches, accesses, operations}
use Rattle.hph_writer_tests.specs.Spelled.{Spells}

-- text in ASCII
ascii : (text : List ℕ) → All (λ b. b < 2 ^ 7) text → IsUtf8 text
ascii text low = IsUtf8-from_ascii text (IsAscii-from_all text low)

-- a module of one function, whose body fits
code_fits : (locals : List ValType) (body : List Instr) → ExpressionFits body → ModuleFits (of_code locals body)
code_fits locals body fits = record {
  imports = tt;
  functions = (lit< tt, tt);
  tables = tt;
  memories = tt;
  globals = tt;
  exports = tt;
  elements = tt;
  codes = (fits, tt);
  segments = tt;
}

pub empty_spells : Spells (spelling empty) empty
unfolding spelling
empty_spells = record {
  writable = record { short = lit< tt; few_locals = tt };
  fits = record { imports = tt; functions = tt; tables = tt; memories = tt; globals = tt; exports = tt; elements = tt; codes = tt; segments = tt };
  spelled = refl;
}

pub prints_three_spells : Spells (spelling prints_three) prints_three
unfolding spelling shortest_unsigned shortest_signed
prints_three_spells = record {
  writable = record { short = lit< tt; few_locals = (lit< tt, tt) };
  fits = record {
    imports = ((ascii (codes "php1") (search rules), ascii (codes "write") (search rules), lit< tt), tt);
    functions = (lit< tt, tt);
    tables = tt;
    memories = ((lit< tt, tt), tt);
    globals = tt;
    exports = ((ascii (codes "main") (search rules), lit< tt), tt);
    elements = tt;
    codes = ((search rules, (search rules, (lit< tt, tt))), tt);
    segments = ((lit< tt, (search rules, tt)), tt);
  };
  spelled = refl;
}

pub imports_spell : Spells (spelling imports_each_kind) imports_each_kind
unfolding spelling shortest_unsigned
imports_spell = record {
  writable = record { short = lit< tt; few_locals = tt };
  fits = record {
    imports = ((ascii (codes "a") (search rules), ascii (codes "f") (search rules), lit< tt), ((ascii (codes "a") (search rules), ascii (codes "t") (search rules), (lit< tt, lit< tt)), ((ascii (codes "a") (search rules), ascii (codes "m") (search rules), (lit< tt, tt)), ((ascii (codes "a") (search rules), ascii (codes "g") (search rules), tt), tt))));
    functions = tt;
    tables = tt;
    memories = tt;
    globals = tt;
    exports = tt;
    elements = tt;
    codes = tt;
    segments = tt;
  };
  spelled = refl;
}

pub exports_spell : Spells (spelling exports_each_kind) exports_each_kind
unfolding spelling shortest_unsigned shortest_signed
exports_spell = record {
  writable = record { short = lit< tt; few_locals = (lit< tt, tt) };
  fits = record {
    imports = tt;
    functions = (lit< tt, tt);
    tables = ((lit< tt, lit< tt), tt);
    memories = ((lit< tt, tt), tt);
    globals = ((search rules, tt), tt);
    exports = ((ascii (codes "f") (search rules), lit< tt), ((ascii (codes "t") (search rules), lit< tt), ((ascii (codes "m") (search rules), lit< tt), ((ascii (codes "g") (search rules), lit< tt), tt))));
    elements = ((lit< tt, (search rules, tt), (lit< tt, (lit< tt, tt))), tt);
    codes = (tt, tt);
    segments = tt;
  };
  spelled = refl;
}

pub joined_spell : Spells (spelling joins_locals) joins_locals
unfolding spelling shortest_unsigned shortest_signed block.hidden-the_row-Instr-0 denote.Hole.Carrier.hidden
joined_spell = record {
  writable = record { short = lit< tt; few_locals = (lit< tt, tt) };
  fits = code_fits _ _ (((lit< tt, tt), (search rules, tt)), tt);
  spelled = refl;
}

pub branches_spell : Spells (spelling branches) branches
unfolding spelling shortest_unsigned shortest_signed block.hidden-the_row-Instr-0 denote.Hole.Carrier.hidden
branches_spell = record {
  writable = record { short = lit< tt; few_locals = (lit< tt, tt) };
  fits = code_fits _ _ ((search rules, tt), (((tt, tt), (tt, tt)), (((lit< tt, tt), tt), (((lit< tt, (lit< tt, (lit< tt, tt))), lit< tt), (lit< tt, tt)))));
  spelled = refl;
}

pub accesses_spell : Spells (spelling accesses) accesses
unfolding spelling shortest_unsigned
accesses_spell = record {
  writable = record { short = lit< tt; few_locals = (lit< tt, tt) };
  fits = code_fits _ _ (lit< tt, (lit< tt, (lit< tt, (lit< tt, (lit< tt, ((lit< tt, lit< tt), ((lit< tt, lit< tt), ((lit< tt, lit< tt), ((lit< tt, lit< tt), tt)))))))));
  spelled = refl;
}

pub operations_spell : Spells (spelling operations) operations
unfolding spelling shortest_unsigned
operations_spell = record {
  writable = record { short = lit< tt; few_locals = (lit< tt, tt) };
  fits = code_fits _ _ (tt, (tt, (tt, (tt, (tt, (tt, (tt, (tt, (tt, (tt, (tt, (tt, tt))))))))))));
  spelled = refl;
}
