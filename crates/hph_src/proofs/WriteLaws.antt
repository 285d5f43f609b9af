-- What a writer of std holds after several writes of one piece.
use Rattle.std.proofs.Common.{◌≡◌, ◌∙◌, ℕ, ◌-◌, List, [], ◌++◌, Option, Some, None, ap, sym, subst, refl, length, take, drop, append-nil, append_assoc, take-append-drop}
use Rattle.std.proofs.lemmas.List.{take_at, take_rest}
use Rattle.std.specs.Io.KnownBytes.{Appends, Keeps}
use Rattle.std.proofs.KnownBytes.{Appends-trans}
use Rattle.hph_src.specs.StdSink.{WritesPrefix}

-- bytes that are kept have grown by none
pub Appends-Keeps : (old new : Option (List ℕ)) → Keeps old new → Appends old new []
Appends-Keeps None new kept = tt
Appends-Keeps (Some xs) None kept = absurd kept
Appends-Keeps (Some xs) (Some ys) kept = kept ∙ sym (append-nil xs)

-- one write more takes the front of what is left of the piece
pub split_further : (piece done rest : List ℕ) (count : ℕ) → piece ≡ done ++ rest →
    piece ≡ (done ++ take count rest) ++ take (length rest - count) (drop count rest)
split_further piece done rest count split =
    split ∙ ap (λ end. done ++ end) (sym (take-append-drop count rest)) ∙ sym (append_assoc done (take count rest) (drop count rest)) ∙ ap (λ end. (done ++ take count rest) ++ end) (sym (take_rest rest count))

-- where a write takes nothing, the writer has taken a prefix of the piece
pub prefix_written : (old mid new : Option (List ℕ)) (piece done rest : List ℕ) →
    piece ≡ done ++ rest → Appends old mid done → Appends mid new [] → WritesPrefix old new piece
prefix_written old mid new piece done rest split before nothing =
    let appended : Appends old new done = subst (Appends old new) (append-nil done) (Appends-trans old mid new done [] before nothing) in
    (length done, subst (Appends old new) (sym (ap (take (length done)) split ∙ take_at done rest (length done) refl)) appended)
