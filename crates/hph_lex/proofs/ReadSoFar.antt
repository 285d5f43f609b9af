-- A file that is read up to an offset: what its rest is read as, the whole of it is, behind the tokens so far.
use Rattle.std.proofs.Common.{◌≡◌, ℕ, suc, ◌+◌, ◌-◌, ◌*◌, ◌<◌, ◌≤◌, true, false, ◌||◌, List, [], ◌∷◌, ◌++◌, inl, inr, length, drop}
use Rattle.std.proofs.Common.{Result, Ok, Err, refl, ap, sym, subst, ◌∙◌, arith, length-drop, append_assoc}
use Rattle.std.proofs.lemmas.List.{append-nil, drop-drop}
use Rattle.std.proofs.Math.ListN.{drop_of_length-le}
use Rattle.hph_ast.specs.declared.token.Token.{Token}
use Rattle.hph_ast.specs.declared.lexical.Mode.{Mode}
use Rattle.hph_ast.specs.declared.lexical.Mode.TheVariants.{Inline, Code, Member, Interpolation}
use Rattle.hph_ast.specs.declared.lexical.Mode.TheVariants as modes
use Rattle.hph_ast.specs.declared.refusal.LexKind.TheVariants as l
use Rattle.hph_ast.specs.Lexical.{Fault, lex, construct, Turn, goes, enters, leaves, Next, Comes}
use Rattle.hph_ast.specs.Tokens as all
use Rattle.hph_ast.specs.Tokens.{State, turned, in_string, string_is_open, Reading, tokens_before, Lexes, beginning, SpellsTokens}
use Rattle.hph_ast.specs.Tokens.{FailsAt}
use Rattle.hph_lex.specs.Answers as code
use Rattle.std.specs.Prelude.{◌^◌, Vec, IfOk, IfErr, if◌then◌else◌}
use Rattle.std.specs.declared.alloc.Global.{Global}
use Rattle.hph_ast.specs.declared.refusal.LexKind.{LexKind}
use Rattle.hph_ast.specs.declared.refusal.Construct.{Construct}
use Rattle.hph_lex.specs.declared.fault.LexFault.{LexFault}
use Rattle.hph_lex.specs.declared.fault.LexFault.TheVariants as faults
use Rattle.hph_lex.specs.declared.found.Answer.{Answer}
use Rattle.hph_lex.specs.Readings.{state_of, Takes, IsFault, IsReading}
use Rattle.hph_lex.specs.declared.found.Next as declared
use Rattle.hph_lex.specs.declared.found.Answer.TheVariants as answers
use Rattle.hph_lex.specs.declared.reader.Reader.{Reader}
use Rattle.hph_lex.proofs.Steps.{Ready, Fine, PiecesEnd, comes_fine}

-- a turn that is made in no interpolation, by mode: a piece of no bytes moves from the first to the second
abbrev pub weight : Mode → ℕ
weight modes.Piece = 1
weight _ = 0

-- what stands behind open braces is never an interpolation
abbrev pub Backs : List Mode → Type 0
Backs [] = Unit {0}
Backs (Interpolation ∷ outer) = ⊥
Backs (_ ∷ outer) = Backs outer

pub record ReadyState (state : State) (rest : List ℕ) : Type 0 where
  pub ready : Ready (goes state.mode) rest
  pub backs : Backs state.outer

back_ready : (back : Mode) (outer : List Mode) (rest : List ℕ) → Backs (back ∷ outer) →
    ReadyState (record { mode = back; outer = outer }) rest
back_ready Inline outer rest backs = record { ready = tt; backs = backs }
back_ready Code outer rest backs = record { ready = tt; backs = backs }
back_ready Member outer rest backs = record { ready = tt; backs = backs }
back_ready Interpolation outer rest backs = absurd backs
back_ready modes.Piece outer rest backs = record { ready = tt; backs = backs }

enter_backs : (back : Mode) (outer : List Mode) (rest : List ℕ) → Ready (enters back) rest → Backs outer → Backs (back ∷ outer)
enter_backs Inline outer rest ready backs = backs
enter_backs Code outer rest ready backs = backs
enter_backs Member outer rest ready backs = backs
enter_backs Interpolation outer rest ready backs = absurd ready
enter_backs modes.Piece outer rest ready backs = backs

-- a turn leads to a state that can be read
pub turned_ready : (turn : Turn) (outer : List Mode) (rest : List ℕ) → Ready turn rest → Backs outer → ReadyState (turned turn outer) rest
turned_ready (goes mode) outer rest ready backs = record { ready = ready; backs = backs }
turned_ready (enters back) outer rest ready backs = record { ready = tt; backs = enter_backs back outer rest ready backs }
turned_ready leaves [] rest ready backs = record { ready = tt; backs = tt }
turned_ready leaves (back ∷ outer) rest ready backs = back_ready back outer rest backs

pub light : (mode : Mode) → weight mode ≤ 1
light Inline = omega arith
light Code = omega arith
light Member = omega arith
light Interpolation = omega arith
light modes.Piece = omega arith

-- each place makes the rest shorter, or its mode lighter
pub lighter : (mode : Mode) (outer : List Mode) (at : ℕ) (bs : List ℕ) (next : Next) → Fine mode at bs next → 0 < length bs →
    2 * (length bs - next.len) + weight (turned next.turn outer).mode < 2 * length bs + weight mode
lighter mode outer at bs next fine some =
    elim fine.moves [
      | inl moves ↦ let one = light (turned next.turn outer).mode in omega (arith, moves, one)
      | inr piece ↦
          let now : weight mode ≡ 1 = ap weight piece.0 in
          let behind : weight (turned next.turn outer).mode ≡ 0 = ap (λ turn. weight (turned turn outer).mode) piece.1 in
          omega (arith, now, behind)
    ]

-- what comes first, before a reading of the rest
pub place_first : (state : State) (at : ℕ) (bs : List ℕ) (next : Next) (reading : Reading) → 0 < length bs →
    Comes at state.mode bs (Ok next) →
    Lexes (turned next.turn state.outer) (at + next.len) (drop next.len bs) reading →
    Lexes state at bs (tokens_before next.tokens reading)
place_first state at [] next reading some comes rest = absurd (omega arith)
place_first state at (b ∷ bs) next reading some comes rest = all.place comes rest

pub fault_first : (state : State) (at : ℕ) (bs : List ℕ) (why : Fault) → 0 < length bs → Comes at state.mode bs (Err why) →
    Lexes state at bs (Err (why, at))
fault_first state at [] why some comes = absurd (omega arith)
fault_first state at (b ∷ bs) why some comes = all.fault comes

-- tokens before tokens before a reading
pub tokens_before-append : (ts us : List Token) (reading : Reading) →
    tokens_before ts (tokens_before us reading) ≡ tokens_before (ts ++ us) reading
tokens_before-append ts us (Ok more) = ap Ok (sym (append_assoc ts us more))
tokens_before-append ts us (Err fault) = refl

-- a reader has read so much of a file
pub record Reads (bytes : List ℕ) (reader : Reader) : Type 0 where
  pub onward : (reading : Reading) → Lexes (state_of reader) reader.at (drop reader.at bytes) reading →
      Lexes beginning 0 bytes (tokens_before reader.tokens.items reading)
  pub within : reader.at ≤ length bytes
  pub ready : ReadyState (state_of reader) (drop reader.at bytes)

pub reads_none : (bytes : List ℕ) (reader : Reader) → reader.tokens.items ≡ [] → reader.at ≡ 0 → reader.mode ≡ Inline →
    reader.outer ≡ [] → Reads bytes reader
reads_none bytes reader tokens at mode outer =
    let state : state_of reader ≡ beginning = ap (λ mode. record { mode = mode; outer = reader.outer }) mode
    ∙ ap (λ outer. record { mode = Inline; outer = outer }) outer in
    let rest : drop reader.at bytes ≡ bytes = ap (λ n. drop n bytes) at in
    record {
      onward = λ reading d.
          let there = subst (λ (state : State). Lexes state reader.at (drop reader.at bytes) reading) state d in
          let start = subst (λ at. Lexes beginning at (drop at bytes) reading) at there in
          subst (Lexes beginning 0 bytes) (before_none reading ∙ ap (λ ts. tokens_before ts reading) (sym tokens)) start;
      within = omega (arith, at);
      ready = subst (λ (state : State). ReadyState state (drop reader.at bytes)) (sym state) (record { ready = tt; backs = tt });
    }
  where
    before_none : (reading : Reading) → reading ≡ tokens_before [] reading
    before_none (Ok ts) = refl
    before_none (Err fault) = refl

-- what a place is to a reader before the end
pub here_fine : PiecesEnd → (bytes : List ℕ) (reader : Reader) (next : declared.Next) → Reads bytes reader →
    code.ComesAt reader.mode (drop reader.at bytes) (answers.Next next) →
    Fine reader.mode reader.at (drop reader.at bytes) (code.next reader.at next)
here_fine pieces_end bytes reader next reads comes = comes_fine pieces_end reader.mode reader.at (drop reader.at bytes) _
    (comes reader.at)

pub reads_more : PiecesEnd → (bytes : List ℕ) (old new : Reader) (next : declared.Next) → Reads bytes old → old.at < length bytes →
    code.ComesAt old.mode (drop old.at bytes) (answers.Next next) → Takes old next new → Reads bytes new
reads_more pieces_end bytes old new next reads before comes takes =
    let here : List ℕ = drop old.at bytes in
    let found : Next = code.next old.at next in
    let fine = here_fine pieces_end bytes old next reads comes in
    let some : 0 < length here = omega (arith, length-drop old.at bytes, before) in
    let rest : drop new.at bytes ≡ drop next.length here = ap (λ n. drop n bytes) takes.at ∙ sym (drop-drop next.length old.at bytes) in
    record {
      onward = λ reading d.
          let moved = subst (λ (state : State). Lexes state new.at (drop new.at bytes) reading) takes.state d in
          let placed = subst (λ at. Lexes (turned found.turn old.outer) at (drop new.at bytes) reading) takes.at moved in
          let there = subst (λ rest. Lexes (turned found.turn old.outer) (old.at + next.length) rest reading) rest placed in
          let all = reads.onward _ (place_first (state_of old) old.at here found reading some (comes old.at) there) in
          subst (Lexes beginning 0 bytes) (tokens_before-append old.tokens.items found.tokens reading
          ∙ ap (λ ts. tokens_before ts reading) (sym takes.tokens)) all;
      within = omega (arith, takes.at, fine.within, length-drop old.at bytes, reads.within);
      ready = subst (λ (state : State). ReadyState state (drop new.at bytes)) (sym takes.state)
          (subst (ReadyState (turned found.turn old.outer)) (sym rest) (turned_ready found.turn old.outer
          (drop next.length here) fine.ready reads.ready.backs));
    }

pub reads_fault : (bytes : List ℕ) (reader : Reader) (why : Fault) → Reads bytes reader → reader.at < length bytes → ((at : ℕ) →
    Comes at reader.mode (drop reader.at bytes) (Err why)) →
    FailsAt bytes why reader.at
reads_fault bytes reader why reads before comes =
    reads.onward (Err (why, reader.at)) (fault_first (state_of reader) reader.at (drop reader.at bytes) why (omega
    (arith, length-drop reader.at bytes, before)) (comes reader.at))

pub reads_all : (bytes : List ℕ) (reader : Reader) → Reads bytes reader → length bytes ≤ reader.at →
    string_is_open reader.mode reader.outer ≡ false →
    SpellsTokens bytes reader.tokens.items
reads_all bytes reader reads past closed =
    let none = drop_of_length-le bytes past in
    let end = subst (λ rest. Lexes (state_of reader) reader.at rest (Ok [])) (sym none) (all.end closed) in
    subst (λ ts. Lexes beginning 0 bytes (Ok ts)) (append-nil reader.tokens.items) (reads.onward (Ok []) end)

pub reads_open : (bytes : List ℕ) (reader : Reader) → Reads bytes reader → length bytes ≤ reader.at →
    string_is_open reader.mode reader.outer ≡ true →
    FailsAt bytes (lex l.UnclosedString) reader.at
reads_open bytes reader reads past open_string =
    let none = drop_of_length-le bytes past in
    let end = subst (λ rest. Lexes (state_of reader) reader.at rest (Err (lex l.UnclosedString, reader.at))) (sym none)
    (all.open_end open_string) in
    reads.onward (Err (lex l.UnclosedString, reader.at)) end

-- where a string is open, it is open whatever stands outside
pub open_here : (mode : Mode) (outer : List Mode) → in_string mode ≡ true → string_is_open mode outer ≡ true
open_here mode [] is = is
open_here mode (back ∷ outer) is = ap (λ t. t || string_is_open back outer) is

-- ---- what a turn of the reader asks for

EndBefore-more : (m n : ℕ) (ts : List Token) → m ≤ n → code.EndBefore m ts → code.EndBefore n ts
EndBefore-more m n [] more ends = tt
EndBefore-more m n (t ∷ ts) more ends = (omega (arith, ends.0), EndBefore-more m n ts more ends.1)

pub comes_here : (mode : Mode) (bytes rest : List ℕ) (at : ℕ) (found : Answer) (next : declared.Next) → code.ComesAt mode rest found →
    rest ≡ drop at bytes → found ≡ answers.Next next →
    code.ComesAt mode (drop at bytes) (answers.Next next)
comes_here mode bytes rest at found next comes rest_is found_is =
    subst (λ rest. code.ComesAt mode rest (answers.Next next)) rest_is (subst (code.ComesAt mode rest) found_is comes)

pub bad_here : (mode : Mode) (bytes rest : List ℕ) (at : ℕ) (found : Answer) (kind : LexKind) → code.ComesAt mode rest found →
    rest ≡ drop at bytes → found ≡ answers.Bad kind →
    (place : ℕ) → Comes place mode (drop at bytes) (Err (lex kind))
bad_here mode bytes rest at found kind comes rest_is found_is =
    subst (λ rest. code.ComesAt mode rest (answers.Bad kind)) rest_is (subst (code.ComesAt mode rest) found_is comes)

pub refused_here : (mode : Mode) (bytes rest : List ℕ) (at : ℕ) (found : Answer) (which : Construct) → code.ComesAt mode rest found →
    rest ≡ drop at bytes → found ≡ answers.Refused which →
    (place : ℕ) → Comes place mode (drop at bytes) (Err (construct which))
refused_here mode bytes rest at found which comes rest_is found_is =
    subst (λ rest. code.ComesAt mode rest (answers.Refused which)) rest_is (subst (code.ComesAt mode rest) found_is comes)

module _ (pieces_end : PiecesEnd) (bytes : List ℕ) (reader : Reader) (next : declared.Next) (short : length bytes < 2 ^ 32)
    (reads : Reads bytes reader)
    (comes : code.ComesAt reader.mode (drop reader.at bytes) (answers.Next next)) where
  pub take_within : reader.at + next.length < 2 ^ 32
  take_within =
      let fine = here_fine pieces_end bytes reader next reads comes in
      omega (arith, fine.within, length-drop reader.at bytes, reads.within, short)

  pub take_offsets : code.EndBefore (2 ^ 32) (code.found_tokens reader.at next.length next.found)
  take_offsets =
      let fine = here_fine pieces_end bytes reader next reads comes in
      EndBefore-more (suc (reader.at + next.length)) (2 ^ 32) (code.found_tokens reader.at next.length next.found) (omega
      (arith, take_within)) fine.ends

  pub smaller : (new : Reader) → reader.at < length bytes → Takes reader next new →
      2 * (length bytes - new.at) + weight new.mode < 2 * (length bytes - reader.at) + weight reader.mode
  smaller new before takes =
      let here : List ℕ = drop reader.at bytes in
      let found : Next = code.next reader.at next in
      let fine = here_fine pieces_end bytes reader next reads comes in
      let less = lighter reader.mode reader.outer reader.at here found fine (omega (arith, length-drop reader.at bytes, before)) in
      let mode : weight new.mode ≡ weight (turned found.turn reader.outer).mode = ap (λ (state : State). weight state.mode) takes.state in
      omega (arith, less, mode, takes.at, length-drop reader.at bytes)

-- what the end of a file gives
abbrev pub EndOf : Reader → Result (Vec Token Global) LexFault
EndOf reader = if string_is_open reader.mode reader.outer then Err (faults.Bad l.UnclosedString reader.at) else Ok reader.tokens

module _ (bytes : List ℕ) (reader : Reader) (result : Result (Vec Token Global) LexFault) (reads : Reads bytes reader)
    (past : length bytes ≤ reader.at) (is : result ≡ EndOf reader) where
  by_end : (P : Result (Vec Token Global) LexFault → Type 0) → (string_is_open reader.mode reader.outer ≡ true →
      P (Err (faults.Bad l.UnclosedString reader.at))) →
      (string_is_open reader.mode reader.outer ≡ false → P (Ok reader.tokens)) → P result
  by_end P f g = subst P (sym is) (
      elim (string_is_open reader.mode reader.outer) as (λ t. string_is_open reader.mode reader.outer ≡ t →
      P (if t then Err (faults.Bad l.UnclosedString reader.at) else Ok reader.tokens)) [
        | true ↦ f
        | false ↦ g
      ] refl)

  pub end_spelled : IfOk result (λ ts. SpellsTokens bytes ts.items)
  end_spelled = by_end (λ result. IfOk result (λ ts. SpellsTokens bytes ts.items)) (λ _. tt) (reads_all bytes reader reads past)

  pub end_fault : IfErr result (IsFault bytes)
  end_fault = by_end (λ result. IfErr result (IsFault bytes)) (reads_open bytes reader reads past) (λ _. tt)

-- an answer is the only reading
pub only_reading : ((state : State) (at : ℕ) (bs : List ℕ) (x y : Reading) → Lexes state at bs x → Lexes state at bs y → x ≡ y) →
    (bytes : List ℕ) (result : Result (Vec Token Global) LexFault) →
    IfOk result (λ ts. SpellsTokens bytes ts.items) → IfErr result (IsFault bytes) → (reading : Reading) →
    Lexes beginning 0 bytes reading → IsReading result reading
only_reading one bytes (Ok ts) spelled fault reading d = one beginning 0 bytes reading (Ok ts.items) d spelled
only_reading one bytes (Err (faults.Bad kind at)) spelled fault reading d = one beginning 0 bytes reading (Err (lex kind, at)) d fault
only_reading one bytes (Err (faults.Refused which at)) spelled fault reading d = one beginning 0 bytes reading (Err
    (construct which, at)) d fault
only_reading one bytes (Err faults.NoMemory) spelled fault reading d = tt
