-- Contents of sinks after several puts.
use Rattle.std.proofs.Common.{◌≡◌, ℕ, zero, suc, List, ◌++◌, [], ◌∷◌, Option, Some, None, refl, ap, append_assoc}
use Rattle.hph_src.specs.Sink.{grown_by, GrowsByPrefix}

-- two pieces one after another are one piece
pub grown_by-grown_by : (content : Option (List ℕ)) (first second : List ℕ) →
    grown_by (grown_by content first) second ≡ grown_by content (first ++ second)
grown_by-grown_by None first second = refl
grown_by-grown_by (Some old) first second = ap Some (append_assoc old first second)

-- a content that skips the first byte of a piece has not grown by a prefix of it
skips_no_byte : GrowsByPrefix (Some []) (Some (2 ∷ [])) (1 ∷ 2 ∷ []) → ⊥
skips_no_byte (zero, is) = cc
skips_no_byte (suc count, is) = cc
