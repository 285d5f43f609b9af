use Rattle.hph_wasm.specs.Leb128.{u32_bytes, i32_bytes, i64_bytes}
use Rattle.hph_leb.proofs.Bytewise.{unsigned_bytewise, signed_bytewise}
use Rattle.hph_leb.proofs.SpelledNumbers.{u32_spelled, i32_spelled, i64_spelled}
use Rattle.hph_leb.proofs.ReadBack.{written_is_read}
use Rattle.hph_leb.proofs.laws.written_numbers_are_read.Goals as goal

pub returns : goal.returns
returns c = record {
  u32 = λ n front rest reading fits. written_is_read unsigned_bytewise 32 n (u32_bytes n) front rest reading (u32_spelled n fits);
  i32 = λ z front rest reading fits. written_is_read signed_bytewise 32 z (i32_bytes z) front rest reading (i32_spelled z fits);
  i64 = λ z front rest reading fits. written_is_read signed_bytewise 64 z (i64_bytes z) front rest reading (i64_spelled z fits);
}
