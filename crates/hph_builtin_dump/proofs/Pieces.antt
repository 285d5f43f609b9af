-- What was written, what waits and what is still to be printed, step by step.
use Rattle.std.proofs.Common.{◌≡◌, ◌∙◌, ◌+◌, ◌++◌, ◌<◌, ℕ, suc, zero, Bool, true, false, List, [], ◌∷◌, length, take, map, drop}
use Rattle.std.proofs.Common.{Option, None, Some, Ok, Err, Result, OnOk, refl, sym, ap, subst, append_assoc, arith, get_or}
use Rattle.std.proofs.lemmas.List.{drop_more}
use Rattle.hph_src.specs.Sink.{grown_by, GrowsByPrefix}
use Rattle.hph_php.specs.VarDump.{Dump, followed_by, dump, dump_all}
use Rattle.hph_value.specs.declared.value.Value as code
use Rattle.hph_value.specs.declared.value.Stop.{Stop}
use Rattle.hph_value.specs.declared.value.Stop.TheVariants as value
use Rattle.hph_builtin_dump.specs.declared.flush.HostStop.{HostStop}
use Rattle.hph_builtin_dump.specs.declared.flush.HostStop.TheVariants as Host
use Rattle.hph_builtin_dump.specs.declared.flush.HostStop.TheVariants.{NoMemory, WriteFault}
use Rattle.hph_php.specs.declared.fatal.Fatal.{Fatal}
use Rattle.hph_value.specs.Shown.{value_of}
use Rattle.hph_builtin_dump.specs.declared.frame.Frame.{Frame}
use Rattle.hph_builtin_dump.specs.Dumps.{nothing, an_object, left, after, Goes, Advances}
use Rattle.hph_builtin_dump.proofs.Steps.{with_rest}
use Rattle.hph_builtin_dump.specs.Prints.{host_stop, Passes, Flushes, Prints, Printed, Shows}

grown_twice : (c : Option (List ℕ)) (a b : List ℕ) → grown_by (grown_by c a) b ≡ grown_by c (a ++ b)
grown_twice None a b = refl
grown_twice (Some old) a b = ap (λ l. Some l) (append_assoc old a b)

nothing_behind : (text : List ℕ) → text ++ [] ≡ text
nothing_behind [] = refl
nothing_behind (b ∷ bs) = ap (λ l. b ∷ l) (nothing_behind bs)

grown_by_none : (c : Option (List ℕ)) → c ≡ grown_by c []
grown_by_none None = refl
grown_by_none (Some old) = ap (λ l. Some l) (sym (nothing_behind old))

take_behind : (a b : List ℕ) (n : ℕ) → a ++ take n b ≡ take (length a + n) (a ++ b)
take_behind [] b n = let same : n ≡ 0 + n = omega arith in ap (λ m. take m b) same
take_behind (x ∷ a) b n =
    let more : suc (length a + n) ≡ suc (length a) + n = omega arith in
    ap (λ l. x ∷ l) (take_behind a b n) ∙ ap (λ m. take m (x ∷ (a ++ b))) more

front_count : (n : ℕ) (y z : List ℕ) → (m : ℕ) × (take n y ≡ take m (y ++ z))
front_count zero y z = (0, refl)
front_count (suc n) [] z = (0, refl)
front_count (suc n) (b ∷ y) z = let rest = front_count n y z in (suc rest.0, ap (λ l. b ∷ l) rest.1)

-- nothing was printed yet
pub begins : (d : Dump) (c : Option (List ℕ)) (b : List ℕ) → Prints d d c c b b
begins d c b = record { flushed = []; content = grown_by_none c; text = refl; meets = refl }

-- some of a dump was put behind what waits
pub puts : (a b e : Dump) (c d : Option (List ℕ)) (x y z : List ℕ) → Prints a b c d x y → Goes b e y z → Prints a e c d x z
puts a b e c d x y z p g = record {
  flushed = p.flushed;
  content = p.content;
  text = p.text ∙ ap (λ l. p.flushed ++ l) g.text;
  meets = p.meets ∙ g.meets;
}

-- some of what waits was written
pub writes : (a b : Dump) (c d e : Option (List ℕ)) (x y z : List ℕ) → Prints a b c d x y → Passes d e y z → Prints a b c e x z
writes a b c d e x y z p f = record {
  flushed = p.flushed ++ f.flushed;
  content = f.content ∙ (ap (λ k. grown_by k f.flushed) p.content ∙ grown_twice c p.flushed f.flushed);
  text =
      p.text
      ∙ (ap (λ l. p.flushed ++ (l ++ b.text)) f.bytes
      ∙ (ap (λ l. p.flushed ++ l) (append_assoc f.flushed z b.text)
      ∙ sym (append_assoc p.flushed f.flushed (z ++ b.text))));
  meets = p.meets;
}

-- a prefix of what waits was written
pub breaks : (a b : Dump) (c d e : Option (List ℕ)) (x y : List ℕ) → Prints a b c d x y → GrowsByPrefix d e (y ++ b.text) → GrowsByPrefix c e (x ++ a.text)
breaks a b c d e x y p g = (
  length p.flushed + g.0,
  g.1
      ∙ (ap (λ k. grown_by k (take g.0 (y ++ b.text))) p.content
      ∙ (grown_twice c p.flushed (take g.0 (y ++ b.text))
      ∙ (ap (λ l. grown_by c l) (take_behind p.flushed (y ++ b.text) g.0)
      ∙ ap (λ l. grown_by c (take (length p.flushed + g.0) l)) (sym p.text)))),
)

-- a prefix of the front is one of the whole
pub prefix_of_front : (d e : Option (List ℕ)) (y z : List ℕ) → GrowsByPrefix d e y → GrowsByPrefix d e (y ++ z)
prefix_of_front d e y z g =
    let count = front_count g.0 y z in
    (count.0, g.1 ∙ ap (λ l. grown_by d l) count.1)

pub no_prefix : (d : Option (List ℕ)) (y : List ℕ) → GrowsByPrefix d d y
no_prefix d y = (0, grown_by_none d)

-- a dump in front of another was put
pub joins : (a v w rest : Dump) (c d e : Option (List ℕ)) (x y z : List ℕ) → Prints a (followed_by v rest) c d x y → Prints v w d e y z
    → Prints a (followed_by w rest) c e x z
joins a v w rest c d e x y z p q =
    let goes : Goes v w y (q.flushed ++ z) = record { text = q.text ∙ sym (append_assoc q.flushed z w.text); meets = q.meets } in
    writes a (followed_by w rest) c d e x (q.flushed ++ z) z
    (puts a (followed_by v rest) (followed_by w rest) c d x y (q.flushed ++ z) p (with_rest v w rest y (q.flushed ++ z) goes))
    (record { flushed = q.flushed; content = q.content; bytes = refl })

-- ---- stops

pub advance_stops : (stop : Stop) (a : Dump) (top : Frame) (frames more : List Frame) (c d : Option (List ℕ)) (x y z : List ℕ)
    → Prints a (followed_by (left top) (after frames)) c d x y → Advances (Err stop) top frames more y z → Printed (Err (host_stop stop)) a c d x z
advance_stops (value.Fatal kind) a top frames more c d x y z p g =
    (puts a (followed_by (left top) (after frames)) an_object c d x y z p g.0, g.1)
advance_stops value.NoMemory a top frames more c d x y z p g =
    let rest : Dump = followed_by (left top) (after frames) in
    breaks a rest c d d x y p (no_prefix d (y ++ rest.text))

pub flush_stops : (stop : HostStop) (a b : Dump) (c d e : Option (List ℕ)) (x y z : List ℕ) → Prints a b c d x y → Flushes (Err stop) d e y z
    → Printed (Err stop) a c e x z
flush_stops (Host.Fatal kind) a b c d e x y z p f = absurd f
flush_stops NoMemory a b c d e x y z p f = breaks a b c d e x y p (prefix_of_front d e y b.text f)
flush_stops WriteFault a b c d e x y z p f = breaks a b c d e x y p (prefix_of_front d e y b.text f)

-- a prefix of the first dump is one of both
first_breaks : (v rest : Dump) (d e : Option (List ℕ)) (y : List ℕ) → GrowsByPrefix d e (y ++ v.text) → GrowsByPrefix d e (y ++ (followed_by v rest).text)
first_breaks v rest d e y g = by v.meets_object v.text g
  where
    by : (t : Bool) (l : List ℕ) → GrowsByPrefix d e (y ++ l) → GrowsByPrefix d e (y ++ (followed_by (record { text = l; meets_object = t }) rest).text)
    by true l g = g
    by false l g =
        let P : List ℕ → Type 0 = λ k. GrowsByPrefix d e k in
        subst P (append_assoc y l rest.text) (prefix_of_front d e (y ++ l) rest.text g)

pub value_stops : (stop : HostStop) (a v rest : Dump) (c d e : Option (List ℕ)) (x y z : List ℕ) → Prints a (followed_by v rest) c d x y
    → Printed (Err stop) v d e y z → Printed (Err stop) a c e x z
value_stops (Host.Fatal kind) a v rest c d e x y z p q = (joins a v an_object rest c d e x y z p q.0, q.1)
value_stops NoMemory a v rest c d e x y z p q = breaks a (followed_by v rest) c d e x y p (first_breaks v rest d e y q)
value_stops WriteFault a v rest c d e x y z p q = breaks a (followed_by v rest) c d e x y p (first_breaks v rest d e y q)

-- ---- several values

pub next_value : (values : List code.Value) (i : ℕ) (v : code.Value) → i < length values → v ≡ get_or values i v
    → dump_all (map value_of (drop i values)) ≡ followed_by (dump 0 (value_of v)) (dump_all (map value_of (drop (i + 1) values)))
next_value values i v within is =
    ap (λ l. dump_all (map value_of l)) (drop_more values i v within)
    ∙ ap (λ w. followed_by (dump 0 (value_of w)) (dump_all (map value_of (drop (i + 1) values)))) (sym is)

-- ---- the end

-- All that waited is written, behind a dump of which nothing is left.
all_written : (a b : Dump) (c d e : Option (List ℕ)) (y z : List ℕ) → Prints a b c d [] y → b.text ≡ [] → Passes d e y z → z ≡ [] → e ≡ grown_by c a.text
all_written a b c d e y z p none f empty =
    let p2 : Prints a b c e [] z = writes a b c d e [] y z p f in
    let rest : z ++ b.text ≡ [] = ap (λ l. l ++ b.text) empty ∙ none in
    p2.content ∙ ap (λ l. grown_by c l) (sym (p2.text ∙ (ap (λ l. p2.flushed ++ l) rest ∙ nothing_behind p2.flushed)))

pub ends_well : (r : Result (Unit {0}) HostStop) (a : Dump) (c d e : Option (List ℕ)) (y z : List ℕ) → Prints a nothing c d [] y → Flushes r d e y z
    → OnOk r (z ≡ []) → Shows r a c e
ends_well (Ok u) a c d e y z p f empty = (all_written a nothing c d e y z p refl f empty, p.meets)
ends_well (Err (Host.Fatal kind)) a c d e y z p f empty = absurd f
ends_well (Err NoMemory) a c d e y z p f empty = breaks a nothing c d e [] y p (prefix_of_front d e y [] f)
ends_well (Err WriteFault) a c d e y z p f empty = breaks a nothing c d e [] y p (prefix_of_front d e y [] f)

pub ends_fatally : (kind : Fatal) (a : Dump) (c d e : Option (List ℕ)) (y z : List ℕ) → Printed (Err (Host.Fatal kind)) a c d [] y → Passes d e y z
    → z ≡ [] → Shows (Err (Host.Fatal kind)) a c e
ends_fatally kind a c d e y z p f empty = (all_written a an_object c d e y z p.0 refl f empty, (p.0.meets, p.1))

pub fatal_breaks : (stop : HostStop) (kind : Fatal) (a : Dump) (c d e : Option (List ℕ)) (y z : List ℕ) → Printed (Err (Host.Fatal kind)) a c d [] y
    → Flushes (Err stop) d e y z → Shows (Err stop) a c e
fatal_breaks (Host.Fatal other) kind a c d e y z p f = absurd f
fatal_breaks NoMemory kind a c d e y z p f = breaks a an_object c d e [] y p.0 (prefix_of_front d e y [] f)
fatal_breaks WriteFault kind a c d e y z p f = breaks a an_object c d e [] y p.0 (prefix_of_front d e y [] f)
