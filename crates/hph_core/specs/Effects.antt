-- What each event leaves: in the entry of the seat that acts, and in the words. Source: this project's own.
-- What becomes of an entry is computed from the entry, the word's old value and the numbers of the call alone.
use Rattle.std.specs.Prelude.{◌≡◌, ℕ, ◌+◌, ◌-◌, ◌*◌, ◌/◌, ◌%◌, ◌^◌, ◌==◌, Bool, true, false, not, if◌then◌else◌, List, [], ◌∷◌, ◌++◌, slice_set, Option, None, Some, bit_and, bit_or}
use Rattle.std.specs.Int.{bit_not}
use mir.Syntax.{w64}
use Rattle.hph_type.specs.Types.{PhpType}
use Rattle.hph_sys.specs.Typings.{at}
use Rattle.hph_core.specs.declared.view.View.{View}
use Rattle.hph_core.specs.declared.view.Known.{Known}
use Rattle.hph_core.specs.declared.view.Finding.{Finding}
use Rattle.hph_core.specs.declared.view.Finding.TheVariants.{Peeked, Took, Marked, PutBack, Got, Busy, Released, Seen, Raised, Added, Paid, Done, Pending}
use Rattle.hph_core.specs.State.{WorkerState, entry, holder, member, work_word, spent, fresh, without, elsewhere, others}

-- the bit of a scope in its word
abbrev pub mask : ℕ → ℕ
mask s = 1 * 2 ^ (s % 64) % 2 ^ 64

abbrev pub word_with : ℕ → ℕ → ℕ
word_with n s = bit_or n (mask s)

abbrev pub word_without : ℕ → ℕ → ℕ
word_without n s = bit_and n (bit_not w64 (mask s))

abbrev pub know : ℕ → ℕ → PhpType → Known
know cell owner type = record { cell = cell; owner = owner; ty = type }

-- an entry with one more finding
abbrev pub note : View → Finding → View
note v f = record v { findings = v.findings ++ f ∷ [] }

-- Entries after an event. A number `bit` is what the set had of the scope, `found` the word that was found.
abbrev pub after_peek : View → ℕ → ℕ → View
after_peek v j found = note v (Peeked j found)

abbrev pub after_take : View → ℕ → ℕ → View
after_take v s bit = if bit == 1 then record v { hand = Some s; findings = v.findings ++ Took s true ∷ [] } else note v (Took s false)

abbrev pub after_mark : View → ℕ → ℕ → View
after_mark v r bit = record v { marks = r ∷ v.marks; debt = if bit == 1 then v.debt else false; findings = v.findings ++ Marked r (not (bit == 1)) ∷ [] }

abbrev pub after_put_back : View → ℕ → ℕ → View
after_put_back v s bit = record v { hand = None; debt = (bit == 1); findings = v.findings ++ PutBack s (not (bit == 1)) ∷ [] }

abbrev pub after_try : View → ℕ → ℕ → View
after_try v d found =
    if found == 0 then record v { holds = d ∷ v.holds; findings = v.findings ++ Got d ∷ [] }
    else record v { findings = v.findings ++ Busy d (found - 1) ∷ [] }

abbrev pub after_release : View → ℕ → View
after_release v d = record v { holds = without d v.holds; marks = []; known = elsewhere d v.known; findings = v.findings ++ Released d ∷ [] }

abbrev pub after_read : View → ℕ → ℕ → PhpType → View
after_read v c o t = record v { known = know c o t ∷ v.known; findings = v.findings ++ Seen c t ∷ [] }

abbrev pub after_raise : View → ℕ → ℕ → PhpType → View
after_raise v c o t = record v { known = know c o t ∷ others c v.known; findings = v.findings ++ Raised c t ∷ [] }

abbrev pub after_add : View → View
after_add v = record v { debt = true; findings = v.findings ++ Added ∷ [] }

-- a drop that pays the debt
abbrev pub after_pay : View → View
after_pay v = record v { debt = false; findings = v.findings ++ Paid ∷ [] }

-- a drop that empties the hand
abbrev pub after_done : View → ℕ → View
after_done v s = record v { hand = None; findings = v.findings ++ Done s ∷ [] }

abbrev pub after_pending : View → ℕ → View
after_pending v found = note v (Pending found)

-- the seat that makes another, of the number above the greatest so far
abbrev pub after_split : View → View
after_split v = record v { top = v.top + 1 }

-- the seat into which another is joined
abbrev pub after_join : View → View → View
after_join v other = record v { findings = v.findings ++ other.findings; joined = v.joined ++ other.number ∷ other.joined }

-- what the word of a holder becomes at a try
abbrev pub held_word : View → ℕ → ℕ
held_word v found = if found == 0 then v.number + 1 else found

-- States with another entry, word of the set, holder, type of a cell, number pending.
abbrev pub acted : WorkerState → ℕ → View → WorkerState
acted st w v = record st { entries = slice_set st.entries w v }

abbrev pub worded : WorkerState → ℕ → ℕ → WorkerState
worded st s word = record st { work = slice_set st.work (s / 64) word }

abbrev pub held_as : WorkerState → ℕ → ℕ → WorkerState
held_as st d word = record st { holders = slice_set st.holders d word }

abbrev pub celled : WorkerState → ℕ → PhpType → WorkerState
celled st c t = record st { cells = slice_set st.cells c t }

abbrev pub owing : WorkerState → ℕ → WorkerState
owing st pending = record st { pending = pending }

-- States after an event of seat w.
abbrev pub peek : WorkerState → ℕ → ℕ → WorkerState
peek st w j = acted st w (after_peek (entry st w) j (work_word st j))

abbrev pub take : WorkerState → ℕ → ℕ → WorkerState
take st w s = worded (acted st w (after_take (entry st w) s (member st s))) s (word_without (work_word st (s / 64)) s)

abbrev pub mark : WorkerState → ℕ → ℕ → WorkerState
mark st w r = worded (acted st w (after_mark (entry st w) r (member st r))) r (word_with (work_word st (r / 64)) r)

abbrev pub put_back : WorkerState → ℕ → ℕ → WorkerState
put_back st w s = worded (acted st w (after_put_back (entry st w) s (member st s))) s (word_with (work_word st (s / 64)) s)

abbrev pub try_hold : WorkerState → ℕ → ℕ → WorkerState
try_hold st w d = held_as (acted st w (after_try (entry st w) d (holder st d))) d (held_word (entry st w) (holder st d))

abbrev pub release : WorkerState → ℕ → ℕ → WorkerState
release st w d = held_as (acted st w (after_release (entry st w) d)) d 0

-- `o` is the cell's owner
abbrev pub read : WorkerState → ℕ → ℕ → ℕ → WorkerState
read st w c o = acted st w (after_read (entry st w) c o (at st.cells c))

abbrev pub raise : WorkerState → ℕ → ℕ → ℕ → PhpType → WorkerState
raise st w c o t = celled (acted st w (after_raise (entry st w) c o t)) c t

abbrev pub add : WorkerState → ℕ → WorkerState
add st w = owing (acted st w (after_add (entry st w))) (st.pending + 1)

abbrev pub pay : WorkerState → ℕ → WorkerState
pay st w = owing (acted st w (after_pay (entry st w))) (st.pending - 1)

abbrev pub finish : WorkerState → ℕ → ℕ → WorkerState
finish st w s = owing (acted st w (after_done (entry st w) s)) (st.pending - 1)

abbrev pub read_pending : WorkerState → ℕ → WorkerState
read_pending st w = acted st w (after_pending (entry st w) st.pending)

-- the new seat alone changes
abbrev pub split : WorkerState → ℕ → WorkerState
split st v = record st { entries = slice_set st.entries v (fresh v) }

abbrev pub join_seats : WorkerState → ℕ → ℕ → WorkerState
join_seats st w v = record st { entries = slice_set (slice_set st.entries w (after_join (entry st w) (entry st v))) v spent }
