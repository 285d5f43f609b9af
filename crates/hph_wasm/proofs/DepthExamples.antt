-- Blocks that are nested as deep as is read, and one deeper; made by hand from the Core Specification 1.0, 5.4.1.
use Rattle.std.proofs.Common.{◌≡◌, inl, inr, ℕ, zero, suc, ◌+◌, List, [], ◌∷◌, ◌++◌, refl, arith, None}
use Rattle.hph_wasm.specs.BlockDepth.{AreShallow}
use Rattle.hph_wasm.specs.Unsupported.{IsShallowExpression, StopsInstruction, StopsExpression}
use Rattle.hph_wasm.specs.declared.feature.Feature.TheVariants.{BlockDepth}
use Rattle.hph_wasm.specs.declared.types.BlockType.{BlockType}
use Rattle.hph_wasm.specs.declared.instr.Instr.{Instr, Block}
use Rattle.hph_wasm.proofs.ShallowRows.{AllShallow-row_of}
use Rattle.hph_wasm.proofs.FormatExamples.{then}

abbrev nothing : BlockType
nothing = record { result = None }

-- so many blocks, one inside the other
nested : ℕ → List Instr
nested zero = []
nested (suc depth) = Block nothing (nested depth) ∷ []

-- the opcodes and types of so many blocks that aren't closed
openers : ℕ → List ℕ
openers zero = []
openers (suc blocks) = 0x02 ∷ 0x40 ∷ openers blocks

-- so many blocks are read where so many may be open
as_deep : (room : ℕ) → AreShallow room (nested room)
unfolding nested
as_deep zero = tt
as_deep (suc room) = (AllShallow-row_of (nested room) room (as_deep room), tt)

deep_as_is_read : IsShallowExpression (nested 4096)
deep_as_is_read = as_deep 4096

-- one deeper is met at its opcode: it stands behind two bytes for each that is open
one_deeper : (room at : ℕ) (rest : List ℕ) → at ≡ room + room → StopsInstruction room room at BlockDepth (openers room ++ 0x02 ∷ rest)
unfolding openers
one_deeper zero at rest place =
    inr (record { here = place; named = refl; front = 0x02 ∷ []; rest = rest; split = refl; opens = inl refl })
one_deeper (suc room) at rest place = record {
  front = 0x02 ∷ 0x40 ∷ [];
  rest = openers room ++ 0x02 ∷ rest;
  split = refl;
  before = then (0x02 ∷ 0x40 ∷ []) [] (inl (then (0x02 ∷ []) (0x40 ∷ []) (inl refl) (nothing, refl, tt))) ([], refl, tt);
  place = room + room;
  counted = omega (arith, place);
  stops = one_deeper room (room + room) rest refl;
}

-- the 4097th open block, behind 8,192 bytes of an expression
too_deep : (rest : List ℕ) → StopsExpression 8192 BlockDepth (openers 4096 ++ 0x02 ∷ rest)
too_deep rest = (
  4096,
  record {
    front = [];
    rest = openers 4096 ++ 0x02 ∷ rest;
    split = refl;
    before = ([], refl, tt);
    place = 8192;
    counted = refl;
    stops = one_deeper 4096 8192 rest (omega arith);
  },
)
