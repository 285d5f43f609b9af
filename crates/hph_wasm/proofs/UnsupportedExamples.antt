-- Features that are left out, and where bytes meet them, made by hand from the Core Specification 1.0, 5; the first byte has offset 0.
use Rattle.std.proofs.Common.{◌≡◌, ◌<◌, inl, inr, ℕ, zero, suc, ◌+◌, ◌^◌, [], ◌∷◌, ◌++◌, refl, arith, None, true, cond, ap, length}
use Rattle.std.specs.Prelude.{Bool, ◌&&◌, not, is_some}
use Rattle.hph_case.specs.Opcodes.{opcodes}
use Rattle.hph_wasm.specs.ModuleGrammar.{Parts, header}
use Rattle.hph_wasm.specs.OpcodeTable.{tag_at}
use Rattle.hph_wasm.specs.Unsupported.{IsMalformed, Types, StopsExpression, StopsMemoryType, StopsImportedThing, StopsLocals, left_out, IsUnsupported}
use Rattle.hph_wasm.specs.declared.feature.Feature.TheVariants.{F32, F64, MemoryGrow, Start, InitialMemorySize}
use Rattle.hph_wasm.specs.declared.instr.Instr.{Nop}
use Rattle.hph_wasm.proofs.SectionsInTurn.{header_lacks, reading_lacks_code}
use Rattle.hph_wasm.proofs.FormatExamples.{then, one_byte}

-- a module with nothing in it yet
abbrev nothing_yet : Parts
nothing_yet = record {
  types = [];
  imports = [];
  functions = [];
  tables = [];
  memories = [];
  globals = [];
  exports = [];
  elements =
      [];
  codes = [];
  segments = [];
}

-- a type section with a parameter of f32 within its size, also where fewer bytes are left than the size counts
float_parameter : (more : ℕ) → suc (suc (suc (suc more))) < 2 ^ 7 →
    IsUnsupported (header ++ 0x01 ∷ suc (suc (suc (suc more))) ∷ 0x01 ∷ 0x60 ∷ 0x01 ∷ 0x7D ∷ []) 13 F32
float_parameter more small = record {
  p = nothing_yet;
  sections = [];
  named = tt;
  inside = (refl, (refl, (refl, (refl, (refl, (refl, (refl, (refl, (refl, (refl, refl))))))))));
  supported = record { imports = tt; tables = tt; memories = tt; globals = tt; elements = tt; codes = tt; segments = tt };
  stops = record {
    front = header;
    rest = _;
    split = refl;
    before = then header [] refl refl;
    place = 5;
    counted = refl;
    stops = inl (
      Types,
      tt,
      record {
        front = 0x01 ∷ [];
        rest = _;
        split = refl;
        before = refl;
        place = 4;
        counted = refl;
        stops = (
          suc (suc (suc (suc more))),
          record {
            front = suc (suc (suc (suc more))) ∷ [];
            rest = 0x01 ∷ 0x60 ∷ 0x01 ∷ 0x7D ∷ [];
            split = refl;
            before = one_byte (suc (suc (suc (suc more)))) small;
            place = 3;
            counted = refl;
            stops = (
              1,
              record {
                front = 0x01 ∷ [];
                rest = _;
                split = refl;
                before = one_byte 1 (omega arith);
                place = 2;
                counted = refl;
                stops = record {
                  done = [];
                  fewer = omega arith;
                  fit = tt;
                  stops =
                      record {
                        front = [];
                        rest = _;
                        split = refl;
                        before = refl;
                        place = 2;
                        counted = refl;
                        stops =
                            record {
                              front = 0x60 ∷ [];
                              rest = _;
                              split = refl;
                              before = refl;
                              place = 1;
                              counted = refl;
                              stops = inl (
                                1,
                                record {
                                  front = 0x01 ∷ [];
                                  rest = _;
                                  split = refl;
                                  before = one_byte 1 (omega arith);
                                  place = 0;
                                  counted = refl;
                                  stops = record {
                                    done = [];
                                    fewer = omega arith;
                                    fit = tt;
                                    stops =
                                        record {
                                          front = [];
                                          rest = _;
                                          split = refl;
                                          before = refl;
                                          place = 0;
                                          counted = refl;
                                          stops =
                                              (refl, refl);
                                        };
                                  };
                                },
                              );
                            };
                      };
                };
              },
            );
          },
        );
      },
    );
  };
}

-- a start section behind the header, at its first byte
start_section : IsUnsupported (header ++ 0x08 ∷ 0x01 ∷ 0x00 ∷ []) 8 Start
start_section = record {
  p = nothing_yet;
  sections = [];
  named = tt;
  inside = (refl, (refl, (refl, (refl, (refl, (refl, (refl, (refl, (refl, (refl, refl))))))))));
  supported = record { imports = tt; tables = tt; memories = tt; globals = tt; elements = tt; codes = tt; segments = tt };
  stops = record {
    front = header;
    rest = _;
    split = refl;
    before = then header [] refl refl;
    place = 0;
    counted = refl;
    stops =
        inr (tt, (refl, refl));
  };
}

-- 1025 pages, behind the byte that limits begin with, in a memory section and in an import
many_pages : StopsMemoryType 1 InitialMemorySize (0x00 ∷ 0x81 ∷ 0x08 ∷ [])
many_pages = record {
  front = 0x00 ∷ [];
  rest = 0x81 ∷ 0x08 ∷ [];
  split = refl;
  before = inl refl;
  place = 0;
  counted = refl;
  stops = record {
    here = refl;
    named = refl;
    front = 0x81 ∷ 0x08 ∷ [];
    rest = [];
    split = refl;
    number = (1025, (omega arith, omega arith, omega arith, 8, omega arith, (omega arith, omega arith, refl)), omega arith);
  };
}

imported_pages : StopsImportedThing 2 InitialMemorySize (0x02 ∷ 0x00 ∷ 0x81 ∷ 0x08 ∷ [])
imported_pages = inr (inl (record {
  front = 0x02 ∷ [];
  rest = _;
  split = refl;
  before = refl;
  place = 1;
  counted = refl;
  stops =
      many_pages;
}))

-- `nop f32.add`: the second opcode
float_addition : StopsExpression 1 F32 (0x01 ∷ 0x92 ∷ 0x0B ∷ [])
float_addition = (
  zero,
  record {
    front = 0x01 ∷ [];
    rest = 0x92 ∷ 0x0B ∷ [];
    split = refl;
    before = (Nop ∷ [], then (0x01 ∷ []) [] refl refl, (tt, tt));
    place = 0;
    counted = refl;
    stops = inl (refl, refl);
  },
)

-- `if nop else memory.grow`: inside the second branch
grow_in_else : StopsExpression 4 MemoryGrow (0x04 ∷ 0x40 ∷ 0x01 ∷ 0x05 ∷ 0x40 ∷ 0x00 ∷ [])
grow_in_else = (
  suc zero,
  record {
    front = [];
    rest = _;
    split = refl;
    before = ([], refl, tt);
    place = 4;
    counted = refl;
    stops =
        record {
          front = 0x04 ∷ 0x40 ∷ 0x01 ∷ 0x05 ∷ [];
          rest = 0x40 ∷ 0x00 ∷ [];
          split = refl;
          before = then (0x04 ∷ 0x40 ∷ 0x01 ∷ 0x05 ∷ []) []
              (inr (then (0x04 ∷ []) _ refl (then (0x40 ∷ []) _ (record { result = None }, refl, tt)
              (then (0x01 ∷ []) (0x05 ∷ []) (Nop ∷ [], then (0x01 ∷ []) [] refl refl, (tt, tt)) refl))))
              ([], refl, tt);
          place = 0;
          counted = refl;
          stops = inl (refl, refl);
        };
  },
)

-- a block that gives an f64: at its type
float_block : StopsExpression 1 F64 (0x02 ∷ 0x7C ∷ [])
float_block = (
  zero,
  record {
    front = [];
    rest = _;
    split = refl;
    before = ([], refl, tt);
    place = 1;
    counted = refl;
    stops =
        inr (record {
          front = 0x02 ∷ [];
          rest = 0x7C ∷ [];
          split = refl;
          before = inl refl;
          place = 0;
          counted = refl;
          stops =
              (refl, refl);
        });
  },
)

-- a run of f64s: at their type, behind their count
float_local : StopsLocals 2 F64 (0x01 ∷ 0x01 ∷ 0x7C ∷ [])
float_local = (
  1,
  record {
    front = 0x01 ∷ [];
    rest = _;
    split = refl;
    before = one_byte 1 (omega arith);
    place = 1;
    counted = refl;
    stops = record {
      done = [];
      fewer = omega arith;
      few = omega arith;
      stops = record {
        front = [];
        rest = _;
        split = refl;
        before = refl;
        place = 1;
        counted = refl;
        stops =
            inr (record {
              front = 0x01 ∷ [];
              rest = 0x7C ∷ [];
              split = refl;
              before = (1, one_byte 1 (omega arith), omega arith);
              place =
                  0;
              counted = refl;
              stops = (refl, refl);
            });
      };
    };
  },
)

-- five bytes of a header are malformed
cut_header : IsMalformed (0x00 ∷ 0x61 ∷ 0x73 ∷ 0x6D ∷ 0x01 ∷ [])
cut_header = header_lacks _ (λ rest e. let count : 5 ≡ length (header ++ rest) = ap length e in omega arith)

-- a function, and no code
function_alone : IsMalformed (header ++ 0x03 ∷ 0x02 ∷ 0x01 ∷ 0x00 ∷ [])
function_alone = reading_lacks_code _ (record nothing_yet { functions = 0 ∷ [] }) ((3, 0x01 ∷ 0x00 ∷ []) ∷ []) (record {
  front = header ++ 0x03 ∷ 0x02 ∷ 0x01 ∷ 0x00 ∷ [];
  split = refl;
  stand = then header _ refl (then (0x03 ∷ 0x02 ∷ 0x01 ∷ 0x00 ∷ []) []
      (then (0x03 ∷ []) _ refl (then (0x02 ∷ []) _ (one_byte 2 (omega arith)) refl)) refl);
  named = (λ custom. absurd (omega arith), tt);
  inside = (
    refl,
    (
      refl,
      (
        then (0x01 ∷ []) _ (one_byte 1 (omega arith)) (then (0x00 ∷ []) [] (one_byte 0 (omega arith)) refl),
        (refl, (refl, (refl, (refl, (refl, (refl, (refl, refl))))))),
      ),
    ),
  );
  supported = record { imports = tt; tables = tt; memories = tt; globals = tt; elements = tt; codes = tt; segments = tt };
}) (λ e. omega arith)

-- whether an opcode is in the table, and whether it is left out
abbrev is_in_table : ℕ → Bool
is_in_table code = is_some (tag_at opcodes code)

abbrev is_left_out : ℕ → Bool
is_left_out code = is_some (left_out code)

-- of so many opcodes from this one on, each is one or the other, and none is both
abbrev each_is_one : ℕ → ℕ → Bool
each_is_one code zero = true
each_is_one code (suc more) = cond (is_in_table code) (not (is_left_out code)) (is_left_out code) && each_is_one (code + 1) more

-- the opcodes of memory and numeric instructions (5.4.4, 5.4.5)
opcodes_from_loads : each_is_one 0x28 0x98 ≡ true
unfolding opcodes
opcodes_from_loads = refl
