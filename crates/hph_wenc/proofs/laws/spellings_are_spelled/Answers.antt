use Rattle.hph_wenc.proofs.NumberLaws.{NumbersAreSpelled}
use Rattle.hph_wenc.proofs.SpelledModule.{module_spelled}
use Rattle.hph_wenc.proofs.laws.spellings_are_spelled.Goals as goal

pub returns : goal.returns
returns c =
    let numbers : NumbersAreSpelled = record { u32 = c.u32_bytes_are_shortest.ensures.spelled; i32 = c.i32_bytes_are_shortest.ensures.spelled; i64 = c.i64_bytes_are_shortest.ensures.spelled } in
    λ m writable fits. module_spelled numbers m writable fits
