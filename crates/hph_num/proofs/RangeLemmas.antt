-- The range as a test and as std's fact, and results that are tested against it.
use Rattle.std.proofs.Common.{◌≡◌, refl, sym, ap, ◌∙◌, ℤ, pos, negsuc, ◌<◌, ◌^◌, Bool, true, false, arith, Option, Some, None, Ok, Err, ok_or, if◌then◌else◌}
use Rattle.std.proofs.lemmas.Bool.Decides.{nat_tests}
use Rattle.std.specs.Prelude.{SomeIff, FitsSigned}
use Rattle.std.specs.Int.{w64}
use Rattle.hph_num.specs.declared.fault.NumFault.TheVariants.{Overflow}
use Rattle.hph_num.specs.Range.{fits_i64, within_i64}

-- what passes the test fits std's signed type of 64 bits
pub fits : (z : ℤ) → fits_i64 z ≡ true → FitsSigned w64 z
fits (pos n) h = let k : n < 2 ^ 63 = grind (arith, nat_tests) in record { sfits = k }
fits (negsuc n) h = let k : n < 2 ^ 63 = grind (arith, nat_tests) in record { sfits = k }

-- what fits std's signed type passes the test
pub fits_i64-true : (z : ℤ) → FitsSigned w64 z → fits_i64 z ≡ true
fits_i64-true (pos n) h = let k : n < 2 ^ 63 = h.sfits in grind (arith, nat_tests)
fits_i64-true (negsuc n) h = let k : n < 2 ^ 63 = h.sfits in grind (arith, nat_tests)

-- a test that is not passed
when_failed : (z : ℤ) → (FitsSigned w64 z → ⊥) → (b : Bool) → fits_i64 z ≡ b → Err Overflow ≡ (if b then Ok z else Err Overflow)
when_failed z h true e = absurd (h (fits z e))
when_failed z h false e = refl

-- what a checked operation of std gives, as a result
pub kept : (o : Option ℤ) (z : ℤ) → SomeIff o (FitsSigned w64 z) z → ok_or o Overflow ≡ within_i64 z
kept None z h = when_failed z h (fits_i64 z) refl
kept (Some x) z h = ap Ok h.1 ∙ ap (λ b. if b then Ok z else Err Overflow) (sym (fits_i64-true z h.0))
