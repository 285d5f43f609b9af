-- The opcodes of the instructions that are used (Core Specification 1.0, 5.4 and the index of instructions).
-- A code is the opcode's byte. A tag is how many immediates follow it: a memory argument is two, its alignment
-- and its offset, and call_indirect has its type and a byte 00.
use Rattle.std.specs.Prelude.{◌≡◌, List, [], ◌∷◌, length, true}
use Rattle.std.proofs.Common.{refl}
use Rattle.hph_case.specs.declared.cases.Row.{Row}
use Rattle.hph_case.specs.Table.{row, codes, are_distinct}

unfoldable pub opcodes : List Row
opcodes =
    row 0x00 0  -- unreachable
    ∷ row 0x01 0  -- nop
    ∷ row 0x02 1  -- block
    ∷ row 0x03 1  -- loop
    ∷ row 0x04 1  -- if
    ∷ row 0x05 0  -- else
    ∷ row 0x0b 0  -- end
    ∷ row 0x0c 1  -- br
    ∷ row 0x0d 1  -- br_if
    ∷ row 0x0e 2  -- br_table
    ∷ row 0x0f 0  -- return
    ∷ row 0x10 1  -- call
    ∷ row 0x11 2  -- call_indirect
    ∷ row 0x1a 0  -- drop
    ∷ row 0x1b 0  -- select
    ∷ row 0x20 1  -- local.get
    ∷ row 0x21 1  -- local.set
    ∷ row 0x22 1  -- local.tee
    ∷ row 0x23 1  -- global.get
    ∷ row 0x24 1  -- global.set
    ∷ row 0x28 2  -- i32.load
    ∷ row 0x29 2  -- i64.load
    ∷ row 0x2c 2  -- i32.load8_s
    ∷ row 0x2d 2  -- i32.load8_u
    ∷ row 0x2e 2  -- i32.load16_s
    ∷ row 0x2f 2  -- i32.load16_u
    ∷ row 0x30 2  -- i64.load8_s
    ∷ row 0x31 2  -- i64.load8_u
    ∷ row 0x32 2  -- i64.load16_s
    ∷ row 0x33 2  -- i64.load16_u
    ∷ row 0x34 2  -- i64.load32_s
    ∷ row 0x35 2  -- i64.load32_u
    ∷ row 0x36 2  -- i32.store
    ∷ row 0x37 2  -- i64.store
    ∷ row 0x3a 2  -- i32.store8
    ∷ row 0x3b 2  -- i32.store16
    ∷ row 0x3c 2  -- i64.store8
    ∷ row 0x3d 2  -- i64.store16
    ∷ row 0x3e 2  -- i64.store32
    ∷ row 0x41 1  -- i32.const
    ∷ row 0x42 1  -- i64.const
    ∷ row 0x45 0  -- i32.eqz
    ∷ row 0x46 0  -- i32.eq
    ∷ row 0x47 0  -- i32.ne
    ∷ row 0x48 0  -- i32.lt_s
    ∷ row 0x49 0  -- i32.lt_u
    ∷ row 0x4a 0  -- i32.gt_s
    ∷ row 0x4b 0  -- i32.gt_u
    ∷ row 0x4c 0  -- i32.le_s
    ∷ row 0x4d 0  -- i32.le_u
    ∷ row 0x4e 0  -- i32.ge_s
    ∷ row 0x4f 0  -- i32.ge_u
    ∷ row 0x50 0  -- i64.eqz
    ∷ row 0x51 0  -- i64.eq
    ∷ row 0x52 0  -- i64.ne
    ∷ row 0x53 0  -- i64.lt_s
    ∷ row 0x54 0  -- i64.lt_u
    ∷ row 0x55 0  -- i64.gt_s
    ∷ row 0x56 0  -- i64.gt_u
    ∷ row 0x57 0  -- i64.le_s
    ∷ row 0x58 0  -- i64.le_u
    ∷ row 0x59 0  -- i64.ge_s
    ∷ row 0x5a 0  -- i64.ge_u
    ∷ row 0x67 0  -- i32.clz
    ∷ row 0x68 0  -- i32.ctz
    ∷ row 0x69 0  -- i32.popcnt
    ∷ row 0x6a 0  -- i32.add
    ∷ row 0x6b 0  -- i32.sub
    ∷ row 0x6c 0  -- i32.mul
    ∷ row 0x6d 0  -- i32.div_s
    ∷ row 0x6e 0  -- i32.div_u
    ∷ row 0x6f 0  -- i32.rem_s
    ∷ row 0x70 0  -- i32.rem_u
    ∷ row 0x71 0  -- i32.and
    ∷ row 0x72 0  -- i32.or
    ∷ row 0x73 0  -- i32.xor
    ∷ row 0x74 0  -- i32.shl
    ∷ row 0x75 0  -- i32.shr_s
    ∷ row 0x76 0  -- i32.shr_u
    ∷ row 0x77 0  -- i32.rotl
    ∷ row 0x78 0  -- i32.rotr
    ∷ row 0x79 0  -- i64.clz
    ∷ row 0x7a 0  -- i64.ctz
    ∷ row 0x7b 0  -- i64.popcnt
    ∷ row 0x7c 0  -- i64.add
    ∷ row 0x7d 0  -- i64.sub
    ∷ row 0x7e 0  -- i64.mul
    ∷ row 0x7f 0  -- i64.div_s
    ∷ row 0x80 0  -- i64.div_u
    ∷ row 0x81 0  -- i64.rem_s
    ∷ row 0x82 0  -- i64.rem_u
    ∷ row 0x83 0  -- i64.and
    ∷ row 0x84 0  -- i64.or
    ∷ row 0x85 0  -- i64.xor
    ∷ row 0x86 0  -- i64.shl
    ∷ row 0x87 0  -- i64.shr_s
    ∷ row 0x88 0  -- i64.shr_u
    ∷ row 0x89 0  -- i64.rotl
    ∷ row 0x8a 0  -- i64.rotr
    ∷ row 0xa7 0  -- i32.wrap_i64
    ∷ row 0xac 0  -- i64.extend_i32_s
    ∷ row 0xad 0  -- i64.extend_i32_u
    ∷ []

-- no code stands twice
pub opcodes-distinct : are_distinct (codes opcodes) ≡ true
unfolding opcodes
opcodes-distinct = refl

-- how many rows it has
pub length-opcodes : length opcodes ≡ 102
unfolding opcodes
length-opcodes = refl
