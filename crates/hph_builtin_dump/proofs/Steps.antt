-- One line after another.
use Rattle.std.proofs.Common.{◌≡◌, ◌∙◌, ◌+◌, ◌++◌, ◌<◌, ℕ, suc, zero, Bool, true, false, List, [], ◌∷◌, length, drop}
use Rattle.std.proofs.Common.{Option, None, Some, option_to_list, refl, sym, ap, subst, append_assoc, arith, codes, Ok, Err}
use Rattle.std.specs.Prelude.{slice_get}
use Rattle.std.specs.Fmt.{decimal}
use Rattle.std.specs.List.{sum_by}
use Rattle.std.proofs.lemmas.List.Sums.{sum_by-append, fold-append}
use Rattle.hph_array.specs.declared.key.Key.{Key}
use Rattle.hph_array.specs.Array.{Array}
use Rattle.hph_php.specs.Values.{Value, Null, Boolean, Int, Str, Arr, Obj, listed}
use Rattle.hph_php.specs.VarDump.{Dump, followed_by, line, dump, dump_pairs, key_line}
use Rattle.hph_value.specs.declared.value.Value as code
use Rattle.hph_value.specs.declared.value.Elements.{Elements}
use Rattle.hph_value.specs.declared.value.Stop.{Stop}
use Rattle.hph_value.specs.declared.value.Stop.TheVariants.{Fatal as Fatally, NoMemory}
use Rattle.hph_value.specs.Shown.{value_of}
use Rattle.hph_value.proofs.Shown.{arr_shown}
use Rattle.hph_equal.specs.Frames.{pairs_shown, nodes, nodes_in, size_of}
use Rattle.hph_builtin_dump.specs.declared.frame.Frame.{Frame}
use Rattle.hph_builtin_dump.specs.Dumps.{nothing, an_object, first_line, left_of, left, after, size, work, Goes, GoesOn, Enters, Advances}

-- ---- dumps, one after the other

pub in_turn : (a b c : Dump) → followed_by (followed_by a b) c ≡ followed_by a (followed_by b c)
in_turn a b c = by a.meets_object b.meets_object a.text b.text
  where
    by : (s t : Bool) (x y : List ℕ)
        → followed_by (followed_by (record { text = x; meets_object = s }) (record { text = y; meets_object = t })) c
        ≡ followed_by (record { text = x; meets_object = s }) (followed_by (record { text = y; meets_object = t }) c)
    by true t x y = refl
    by false true x y = refl
    by false false x y = ap (λ (l : List ℕ). record { text = l; meets_object = c.meets_object }) (append_assoc x y c.text)

pub goes_further : (a b c : Dump) (x y z : List ℕ) → Goes a b x y → Goes b c y z → Goes a c x z
goes_further a b c x y z g h = record { text = g.text ∙ h.text; meets = g.meets ∙ h.meets }

pub with_rest : (a b rest : Dump) (x y : List ℕ) → Goes a b x y → Goes (followed_by a rest) (followed_by b rest) x y
with_rest a b rest x y g = by a.meets_object b.meets_object a.text b.text g.meets g.text
  where
    by : (s t : Bool) (l m : List ℕ) → s ≡ t → x ++ l ≡ y ++ m
        → Goes (followed_by (record { text = l; meets_object = s }) rest) (followed_by (record { text = m; meets_object = t }) rest) x y
    by true true l m e p = record { text = p; meets = refl }
    by false false l m e p = record {
      text = sym (append_assoc x l rest.text) ∙ (ap (λ k. k ++ rest.text) p ∙ append_assoc y m rest.text);
      meets = refl;
    }
    by true false l m e p = let no : ⊥ = cc in absurd no
    by false true l m e p = let no : ⊥ = cc in absurd no

-- a line that was put last
pub line_goes : (depth : ℕ) (bytes : List ℕ) (rest : Dump) (x y : List ℕ) → y ≡ x ++ (line depth bytes).text → Goes (followed_by (line depth bytes) rest) rest x y
line_goes depth bytes rest x y e = record {
  text = sym (append_assoc x (line depth bytes).text rest.text) ∙ ap (λ l. l ++ rest.text) (sym e);
  meets = refl;
}

nothing_behind : (text : List ℕ) → text ++ [] ≡ text
nothing_behind [] = refl
nothing_behind (b ∷ bs) = ap (λ l. b ∷ l) (nothing_behind bs)

-- ---- arrays

count_listed : (xs : List (Key × code.Value)) → length (listed (pairs_shown xs)) ≡ length xs
count_listed [] = refl
count_listed (x ∷ xs) = ap suc (count_listed xs)

pub array_said : (depth n : ℕ) (elements : Elements code.Value) (shown old new : List ℕ) → n ≡ length elements.map.pairs → shown ≡ decimal n
    → new ≡ old ++ (line depth (codes "array(" ++ shown ++ codes ") {")).text → Goes (first_line depth (value_of (code.Arr elements))) nothing old new
array_said depth n elements shown old new e d p = record {
  text =
      ap (λ v. old ++ (first_line depth v).text) (arr_shown elements)
      ∙ (ap (λ k. old ++ (line depth (codes "array(" ++ decimal k ++ codes ") {")).text) (count_listed elements.map.pairs ∙ sym e)
      ∙ (ap (λ l. old ++ (line depth (codes "array(" ++ l ++ codes ") {")).text) (sym d)
      ∙ (sym p ∙ sym (nothing_behind new))));
  meets = ap (λ v. (first_line depth v).meets_object) (arr_shown elements);
}

drop_at : {X : Type 0} (xs : List X) (i : ℕ) (x : X) → slice_get xs i ≡ Some x → drop i xs ≡ x ∷ drop (i + 1) xs
drop_at [] i x e = let no : ⊥ = cc in absurd no
drop_at (y ∷ xs) zero x e = let same : y ≡ x = cc in ap (λ z. z ∷ xs) same
drop_at (y ∷ xs) (suc i) x e =
    let more : suc i + 1 ≡ suc (i + 1) = omega arith in
    rw more (drop_at xs i x e)

drop_past : {X : Type 0} (xs : List X) (i : ℕ) → slice_get xs i ≡ None → drop i xs ≡ []
drop_past [] zero e = refl
drop_past [] (suc i) e = refl
drop_past (y ∷ xs) zero e = let no : ⊥ = cc in absurd no
drop_past (y ∷ xs) (suc i) e = drop_past xs i e

pub place_within : {X : Type 0} (xs : List X) (i : ℕ) (x : X) → slice_get xs i ≡ Some x → i < length xs
place_within [] i x e = let no : ⊥ = cc in absurd no
place_within (y ∷ xs) zero x e = omega arith
place_within (y ∷ xs) (suc i) x e = omega (arith, place_within xs i x e)

-- the end of an array
left_end : (x : Array code.Value) (depth at : ℕ) → slice_get x.pairs at ≡ None → left_of x depth at ≡ line depth (codes "}")
left_end x depth at e = ap (λ l. followed_by (dump_pairs (depth + 2) (pairs_shown l)) (line depth (codes "}"))) (drop_past x.pairs at e)

-- the next pair
left_next : (x : Array code.Value) (depth at : ℕ) (key : Key) (v : code.Value) → slice_get x.pairs at ≡ Some (key, v)
    → left_of x depth at ≡ followed_by (line (depth + 2) (key_line key)) (followed_by (dump (depth + 2) (value_of v)) (left_of x depth (at + 1)))
left_next x depth at key v e =
    let named : Dump = line (depth + 2) (key_line key) in
    let first : Dump = dump (depth + 2) (value_of v) in
    let rest : Dump = dump_pairs (depth + 2) (pairs_shown (drop (at + 1) x.pairs)) in
    let end : Dump = line depth (codes "}") in
    ap (λ l. followed_by (dump_pairs (depth + 2) (pairs_shown l)) end) (drop_at x.pairs at (key, v) e)
    ∙ (in_turn named (followed_by first rest) end ∙ ap (λ d. followed_by named d) (in_turn first rest end))

size_next : (x : Array code.Value) (at : ℕ) (p : Key × code.Value) → slice_get x.pairs at ≡ Some p → size_of x at ≡ nodes (value_of p.1) + size_of x (at + 1)
size_next x at p e = ap (λ l. nodes_in (pairs_shown l)) (drop_at x.pairs at p e)

some_nodes : (v : Value) → 0 < nodes v
some_nodes Null = omega arith
some_nodes (Boolean truth) = omega arith
some_nodes (Int z) = omega arith
some_nodes (Str bytes) = omega arith
some_nodes (Arr pairs next_key) = omega arith
some_nodes (Obj number) = omega arith

-- ---- the list of those that are entered

after_more : (frames : List Frame) (frame : Frame) → after (frames ++ frame ∷ []) ≡ followed_by (left frame) (after frames)
after_more frames frame = fold-append (λ rest f. followed_by (left f) rest) nothing frames (frame ∷ [])

work_more : (frames : List Frame) (frame : Frame) → work (frames ++ frame ∷ []) ≡ work frames + size frame
work_more frames frame =
    let one : sum_by size (frame ∷ []) ≡ size frame = omega arith in
    sum_by-append size frames (frame ∷ []) ∙ ap (λ n. work frames + n) one

no_more : (frames : List Frame) → frames ++ [] ≡ frames
no_more [] = refl
no_more (f ∷ fs) = ap (λ l. f ∷ l) (no_more fs)

-- an array ends
end_goes : (top : Frame) (rest : Dump) (x y : List ℕ) → slice_get top.pairs.now.pairs top.at ≡ None → y ≡ x ++ (line top.depth (codes "}")).text
    → Goes (followed_by (left top) rest) rest x y
end_goes top rest x y past e =
    rw (left_end top.pairs.now top.depth top.at past) (line_goes top.depth (codes "}") rest x y e)

one_ends : (top next : Frame) (before behind : List Frame) (x y : List ℕ) → slice_get top.pairs.now.pairs top.at ≡ None → y ≡ x ++ (line top.depth (codes "}")).text
    → before ≡ behind ++ next ∷ [] → GoesOn next top before behind x y
one_ends top next before behind x y past e p = record {
  goes =
      let here : Goes (followed_by (left top) (after before)) (after before) x y = end_goes top (after before) x y past e in
      let P : Dump → Type 0 = λ d. Goes (followed_by (left top) (after before)) d x y in
      subst P (ap after p ∙ after_more behind next) here;
  less =
      let all : work before ≡ work behind + size next = ap work p ∙ work_more behind next in
      omega arith;
}

empty_list : (frames : List Frame) → length frames ≡ 0 → frames ≡ []
empty_list [] e = refl
empty_list (f ∷ fs) e = absurd (omega (arith, e))

pub ends : (next : Option Frame) (top : Frame) (before behind : List Frame) (x y : List ℕ) → slice_get top.pairs.now.pairs top.at ≡ None
    → y ≡ x ++ (line top.depth (codes "}")).text → before ≡ behind ++ option_to_list next → (next ≡ None → length before ≡ 0)
    → Advances (Ok next) top before behind x y
ends None top before behind x y past e p none =
    let P : Dump → Type 0 = λ d. Goes (followed_by (left top) (after before)) d x y in
    subst P (ap after (empty_list before (none refl))) (end_goes top (after before) x y past e)
ends (Some next) top before behind x y past e p none = one_ends top next before behind x y past e p

-- ---- a pair

-- the pair that stands next, at the depth of its lines
pub record IsNext (top : Frame) (depth : ℕ) (key : Key) (v : code.Value) : Type 0 where
  pub there : slice_get top.pairs.now.pairs top.at ≡ Some (key, v)
  pub deeper : depth ≡ top.depth + 2

-- the same array at the next pair
pub record IsBehind (next top : Frame) : Type 0 where
  pub pairs : next.pairs.now ≡ top.pairs.now
  pub depth : next.depth ≡ top.depth
  pub at : next.at ≡ top.at + 1

others_left : (next top : Frame) → IsBehind next top → left next ≡ left_of top.pairs.now top.depth (top.at + 1)
others_left next top b = (λ i. left_of (b.pairs i) (b.depth i) (b.at i))

others_size : (next top : Frame) → IsBehind next top → size next ≡ suc (size_of top.pairs.now (top.at + 1))
others_size next top b = (λ i. suc (size_of (b.pairs i) (b.at i)))

-- A pair's key was put last, and its value was begun.
pair_goes : (top : Frame) (depth : ℕ) (key : Key) (v : code.Value) (begun rest : Dump) (x y z : List ℕ) → IsNext top depth key v
    → y ≡ x ++ (line depth (key_line key)).text → Goes (dump depth (value_of v)) begun y z
    → Goes (followed_by (left top) rest) (followed_by begun (followed_by (left_of top.pairs.now top.depth (top.at + 1)) rest)) x z
pair_goes top depth key v begun rest x y z n e g =
    let named : Dump = line depth (key_line key) in
    let first : Dump = dump depth (value_of v) in
    let others : Dump = left_of top.pairs.now top.depth (top.at + 1) in
    let whole : followed_by (left top) rest ≡ followed_by named (followed_by first (followed_by others rest)) =
    ap (λ d. followed_by d rest) (left_next top.pairs.now top.depth top.at key v n.there
    ∙ ap (λ m. followed_by (line m (key_line key)) (followed_by (dump m (value_of v)) others)) (sym n.deeper))
    ∙ (in_turn named (followed_by first others) rest ∙ ap (λ d. followed_by named d) (in_turn first others rest)) in
    let P : Dump → Type 0 = λ d. Goes d (followed_by begun (followed_by others rest)) x z in
    subst P (sym whole)
    (goes_further (followed_by named (followed_by first (followed_by others rest))) (followed_by first (followed_by others rest)) (followed_by begun (followed_by others rest)) x y z
    (line_goes depth (key_line key) (followed_by first (followed_by others rest)) x y e)
    (with_rest first begun (followed_by others rest) y z g))

pub value_stops : (stop : Stop) (top : Frame) (frames : List Frame) (depth : ℕ) (key : Key) (v : code.Value) (x y z : List ℕ) → IsNext top depth key v
    → y ≡ x ++ (line depth (key_line key)).text → Enters (Err stop) depth (value_of v) y z → Advances (Err stop) top frames frames x z
value_stops (Fatally kind) top frames depth key v x y z n e g = (pair_goes top depth key v an_object (after frames) x y z n e g.0, g.1)
value_stops NoMemory top frames depth key v x y z n e g = tt

pub value_passes : (next top : Frame) (frames : List Frame) (depth : ℕ) (key : Key) (v : code.Value) (x y z : List ℕ) → IsNext top depth key v
    → y ≡ x ++ (line depth (key_line key)).text → Enters (Ok None) depth (value_of v) y z → IsBehind next top → GoesOn next top frames frames x z
value_passes next top frames depth key v x y z n e g b = record {
  goes =
      let P : Dump → Type 0 = λ d. Goes (followed_by (left top) (after frames)) (followed_by d (after frames)) x z in
      subst P (sym (others_left next top b)) (pair_goes top depth key v nothing (after frames) x y z n e g);
  less =
      let now : size_of top.pairs.now top.at ≡ nodes (value_of v) + size_of top.pairs.now (top.at + 1) = size_next top.pairs.now top.at (key, v) n.there in
      let then : size next ≡ suc (size_of top.pairs.now (top.at + 1)) = others_size next top b in
      let some : 0 < nodes (value_of v) = some_nodes (value_of v) in
      omega arith;
}

pub value_enters : (inner next top : Frame) (frames more : List Frame) (depth : ℕ) (key : Key) (v : code.Value) (x y z : List ℕ) → IsNext top depth key v
    → y ≡ x ++ (line depth (key_line key)).text → Enters (Ok (Some inner)) depth (value_of v) y z → IsBehind next top → more ≡ frames ++ next ∷ []
    → GoesOn inner top frames more x z
value_enters inner next top frames more depth key v x y z n e g b m = record {
  goes =
      let P : Dump → Type 0 = λ d. Goes (followed_by (left top) (after frames)) (followed_by (left inner) d) x z in
      let listed : after more ≡ followed_by (left_of top.pairs.now top.depth (top.at + 1)) (after frames) =
      ap after m ∙ (after_more frames next ∙ ap (λ d. followed_by d (after frames)) (others_left next top b)) in
      subst P (sym listed) (pair_goes top depth key v (left inner) (after frames) x y z n e g.goes);
  less =
      let now : size_of top.pairs.now top.at ≡ nodes (value_of v) + size_of top.pairs.now (top.at + 1) = size_next top.pairs.now top.at (key, v) n.there in
      let then : size next ≡ suc (size_of top.pairs.now (top.at + 1)) = others_size next top b in
      let all : work more ≡ work frames + size next = ap work m ∙ work_more frames next in
      let smaller : size inner < nodes (value_of v) = g.smaller in
      omega arith;
}
