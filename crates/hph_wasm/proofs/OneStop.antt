-- Bytes stop a reader in at most one place, and not in what is read.
use Rattle.std.proofs.Common.{◌≡◌, ◌<◌, ◌∙◌, inl, inr, ℕ, ◌+◌, List, [], ◌∷◌, ◌++◌, length, refl, sym, ap, subst, arith, append_assoc, length-append}
use Rattle.std.specs.List.{AllByRecursion}
use Rattle.std.specs.Prelude.{Option, Some, take}
use Rattle.std.proofs.lemmas.List.{append-nil, take_all, take-append-le}
use Rattle.hph_wasm.specs.Leb128.{Unsigned}
use Rattle.hph_wasm.specs.Grammar.{Grammar, Byte, ◌⊳◌, Each, Vector, Sized}
pub use Rattle.hph_wasm.specs.OneWay.{Same, OneStop}
use Rattle.hph_wasm.specs.Unsupported.{Stop, Read, Either, Behind, AtByte, AtNumber, Among, InVector, InSized}
use Rattle.hph_wasm.specs.declared.feature.Feature.{Feature}
use Rattle.hph_wasm.proofs.OneForm.{OneForm, exactly_form}
use Rattle.hph_wasm.proofs.Leb128Laws.{unsigned_form}

-- what is read of the same bytes, whatever stands behind, is as long
pub record Fronts {X : Type 0} (P : X → List ℕ → Type 0) : Type 0 where
  pub same : (x y : X) (f g r s : List ℕ) → P x f → P y g → f ++ r ≡ g ++ s → (f ≡ g) × (r ≡ s)

-- things that are read in one way have one front
pub fronts_of : {X : Type 0} {P : X → Grammar} → OneForm P → Fronts P
fronts_of o = record { same = λ x y f g r s p q e. let a = o.alike x y f g r s p q e in (a.spelling, a.behind) }

-- and so have those that fit
pub read_fronts : {X : Type 0} {P : X → Grammar} (Fits : X → Type 0) → Fronts P → Fronts {X = Unit {0}} (λ _. Read P Fits)
read_fronts Fits o = record { same = λ _ _ f g r s p q e. o.same p.0 q.0 f g r s p.1 q.1 e }

-- behind what has one front stands at most one stop
pub behind_one : {X : Type 0} {P : X → Grammar} {S : Stop} (o : Fronts P) (x y : X) (at at' : ℕ) (feature feature' : Feature)
    (bytes : List ℕ) →
    ((place place' : ℕ) (rest : List ℕ) → S place feature rest → S place' feature' rest → Same place place' feature feature') →
    Behind (P x) S at feature bytes → Behind (P y) S at' feature' bytes → Same at at' feature feature'
behind_one {S = S} o x y at at' feature feature' bytes one p q =
    let a = o.same x y p.front q.front p.rest q.rest p.before q.before (sym p.split ∙ q.split) in
    let same = one p.place q.place q.rest (subst (S p.place feature) a.1 p.stops) q.stops in
    record { place = p.counted ∙ (λ i. length (a.0 i) + same.place i) ∙ sym q.counted; named = same.named }

-- and so for two stops
pub behinds_one : {X : Type 0} {P : Grammar} {S T : Stop} (o : Fronts {X = X} (λ _. P)) (x : X) (at at' : ℕ) (feature feature' : Feature)
    (bytes : List ℕ) →
    ((place place' : ℕ) (feature feature' : Feature) (rest : List ℕ) → S place feature rest → T place' feature' rest →
    Same place place' feature feature') →
    Behind P S at feature bytes → Behind P T at' feature' bytes → Same at at' feature feature'
behinds_one {S = S} o x at at' feature feature' bytes one p q =
    let a = o.same x x p.front q.front p.rest q.rest p.before q.before (sym p.split ∙ q.split) in
    let same = one p.place q.place feature feature' q.rest (subst (S p.place feature) a.1 p.stops) q.stops in
    record { place = p.counted ∙ (λ i. length (a.0 i) + same.place i) ∙ sym q.counted; named = same.named }

-- what is read is met behind what has one front, and so is what follows
pub behind_apart : {X : Type 0} {P : X → Grammar} {S : Stop} (o : Fronts P) (x y : X) (at : ℕ) (feature : Feature) (front rest : List ℕ) →
    P x front →
    ((place : ℕ) → S place feature rest → ⊥) → Behind (P y) S at feature (front ++ rest) → ⊥
behind_apart {S = S} o x y at feature front rest p none q =
    let a = o.same x y front q.front rest q.rest p q.before q.split in none q.place (subst (S q.place feature) (sym a.1) q.stops)

-- the first thing's bytes, the second's, and those behind them
pub split_front : {P Q : Grammar} (front rest : List ℕ) (p : (P ⊳ Q) front) → front ++ rest ≡ p.front ++ (p.rest ++ rest)
split_front front rest p = ap (λ l. l ++ rest) p.split ∙ append_assoc p.front p.rest rest

-- two things have one front if each has
pub pair_fronts : {X Y : Type 0} {P : X → Grammar} {Q : Y → Grammar} → Fronts P → Fronts Q →
    Fronts {X = X × Y} (λ pair. P pair.0 ⊳ Q pair.1)
pair_fronts o more = record {
  same = λ x y f g r s p q e.
      let a = o.same x.0 y.0 p.front q.front (p.rest ++ r) (q.rest ++ s) p.first q.first
      (sym (split_front f r p) ∙ e ∙ split_front g s q) in
      let b = more.same x.1 y.1 p.rest q.rest r s p.second q.second a.1 in
      (p.split ∙ (λ i. a.0 i ++ b.0 i) ∙ sym q.split, b.1);
}

-- what stops behind two things stops behind the first, behind the second
pub behind_both : {P Q : Grammar} {S : Stop} (at : ℕ) (feature : Feature) (bytes : List ℕ) → Behind (P ⊳ Q) S at feature bytes →
    Behind P (Behind Q S) at feature bytes
behind_both at feature bytes p =
    let two = p.before in
    record {
      front = two.front;
      rest = two.rest ++ p.rest;
      split = p.split ∙ split_front p.front p.rest two;
      before = two.first;
      place = length two.rest + p.place;
      counted = omega (arith, p.counted, ap length two.split, length-append two.front two.rest);
      stops = record {
        front = two.rest;
        rest = p.rest;
        split = refl;
        before = two.second;
        place = p.place;
        counted = refl;
        stops =
            p.stops;
      };
    }

-- nothing stops behind the first of two things
pub first_stops : {X Y : Type 0} {P : X → Grammar} (Q : Y → Grammar) {Fits : X → Type 0} {S : Stop} → OneStop P Fits S →
    OneStop {X = X × Y} (λ pair. P pair.0 ⊳ Q pair.1) (λ pair. Fits pair.0) S
first_stops Q {S = S} o = record {
  one = o.one;
  apart = λ x at feature front rest p fits stop. o.apart x.0 at feature p.front (p.rest ++ rest) p.first fits
      (subst (S at feature) (split_front front rest p) stop);
}

-- nothing stops in the first
pub second_stops : {X Y : Type 0} {P : X → Grammar} {Q : Y → Grammar} (Before : X → Type 0) {Fits : Y → Type 0} {S : Stop} → OneForm P →
    OneStop Q Fits S →
    OneStop {X = X × Y} (λ pair. P pair.0 ⊳ Q pair.1) (λ pair. Before pair.0 × Fits pair.1) (Behind (Read P Before) S)
second_stops {P = P} Before {S = S} form o = record {
  one = λ at at' feature feature' bytes p q. behind_one {S = S} (read_fronts Before (fronts_of form)) tt tt at at' feature feature' bytes
      (λ place place' rest. o.one place place' feature feature' rest) p q;
  apart = λ x at feature front rest p fits stop. behind_apart {S = S} (read_fronts Before (fronts_of form)) tt tt at feature p.front
      (p.rest ++ rest)
      (x.0, p.first, fits.0)
      (λ place. o.apart x.1 place feature p.rest rest p.second fits.1)
      (subst (Behind (Read P Before) S at feature) (split_front front rest p) stop);
}

-- either of two things may stop
pub either_stops : {X Y : Type 0} {P : X → Grammar} {Q : Y → Grammar} {First : X → Type 0} {Second : Y → Type 0} {S T : Stop} →
    OneForm P → OneStop P First S → OneStop Q Second T →
    OneStop {X = X × Y} (λ pair. P pair.0 ⊳ Q pair.1) (λ pair. First pair.0 × Second pair.1) (Either S (Behind (Read P First) T))
either_stops {X} {Y} {P} {Q} {First} {Second} {S} {T} form o more = record { one = one_of; apart = apart_of }
  where
    front_apart : (at at' : ℕ) (feature feature' : Feature) (bytes : List ℕ) → S at feature bytes →
        Behind (Read P First) T at' feature' bytes → ⊥
    front_apart at at' feature feature' bytes p q =
        o.apart q.before.0 at feature q.front q.rest q.before.1 q.before.2 (subst (S at feature) q.split p)

    one_of : (at at' : ℕ) (feature feature' : Feature) (bytes : List ℕ) → Either S (Behind (Read P First) T) at feature bytes →
        Either S (Behind (Read P First) T) at' feature' bytes → Same at at' feature feature'
    one_of at at' feature feature' bytes (inl p) (inl q) = o.one at at' feature feature' bytes p q
    one_of at at' feature feature' bytes (inl p) (inr q) = absurd (front_apart at at' feature feature' bytes p q)
    one_of at at' feature feature' bytes (inr p) (inl q) = absurd (front_apart at' at feature' feature bytes q p)
    one_of at at' feature feature' bytes (inr p) (inr q) = (second_stops First form more).one at at' feature feature' bytes p q

    apart_of : (x : X × Y) (at : ℕ) (feature : Feature) (front rest : List ℕ) → (P x.0 ⊳ Q x.1) front → First x.0 × Second x.1 →
        Either S (Behind (Read P First) T) at feature (front ++ rest) → ⊥
    apart_of x at feature front rest p fits (inl stop) = (first_stops Q o).apart x at feature front rest p fits.0 stop
    apart_of x at feature front rest p fits (inr stop) = (second_stops First form more).apart x at feature front rest p fits stop

-- a thing that is spelled as another is
pub along_stops : {X Y : Type 0} {P : X → Grammar} {Fits : X → Type 0} {S : Stop} (h : Y → X) → OneStop P Fits S →
    OneStop (λ y. P (h y)) (λ y. Fits (h y)) S
along_stops h o = record { one = o.one; apart = λ y. o.apart (h y) }

-- fewer things fit
pub narrow_stops : {X : Type 0} {P : X → Grammar} {Fits Few : X → Type 0} {S : Stop} → ((x : X) → Few x → Fits x) → OneStop P Fits S →
    OneStop P Few S
narrow_stops narrow o = record { one = o.one; apart = λ x at feature front rest p fits. o.apart x at feature front rest p (narrow x fits) }

-- a byte stands for one feature
pub byte_one : (feature_of : ℕ → Option Feature) (at at' : ℕ) (feature feature' : Feature) (bytes : List ℕ) →
    AtByte feature_of at feature bytes → AtByte feature_of at' feature' bytes →
    Same at at' feature feature'
byte_one feature_of at at' feature feature' [] p q = absurd p
byte_one feature_of at at' feature feature' (b ∷ bytes) p q =
    record { place = p.0 ∙ sym q.0; named = let same : Some feature ≡ Some feature' = sym p.1 ∙ q.1 in cc }

-- a number that is too great is one
pub number_one : (TooGreat : ℕ → Type 0) (name : Feature) (at at' : ℕ) (feature feature' : Feature) (bytes : List ℕ) →
    AtNumber TooGreat name at feature bytes →
    AtNumber TooGreat name at' feature' bytes → Same at at' feature feature'
number_one TooGreat name at at' feature feature' bytes p q = record { place = p.here ∙ sym q.here; named = p.named ∙ sym q.named }

-- a number that is read isn't too great
pub number_apart : (TooGreat : ℕ → Type 0) (name : Feature) (n at : ℕ) (feature : Feature) (front rest : List ℕ) → Unsigned 32 n front →
    (TooGreat n → ⊥) →
    AtNumber TooGreat name at feature (front ++ rest) → ⊥
number_apart TooGreat name n at feature front rest p fits stop =
    let a = (unsigned_form 32).alike stop.number.0 n stop.front front stop.rest rest stop.number.1 p (sym stop.split) in
    fits (subst TooGreat a.thing stop.number.2)

-- a number
pub number_stops : (TooGreat Fits : ℕ → Type 0) (name : Feature) → ((n : ℕ) → Fits n → TooGreat n → ⊥) →
    OneStop (Unsigned 32) Fits (AtNumber TooGreat name)
number_stops TooGreat Fits name apart = record {
  one = number_one TooGreat name;
  apart = λ n at feature front rest p fits. number_apart TooGreat name n at feature front rest p (apart n fits);
}

-- Things in a row, and a stop behind them: in the same bytes it is one, where two stops at the same place are one and neither is in what is read.
pub rows_one : {X : Type 0} {P : X → Grammar} {Fits : X → Type 0} {S T : Stop} → OneForm P →
    ((at at' : ℕ) (feature feature' : Feature) (bytes : List ℕ) → S at feature bytes → T at' feature' bytes →
    Same at at' feature feature') →
    ((x : X) (at : ℕ) (feature : Feature) (front rest : List ℕ) → P x front → Fits x → S at feature (front ++ rest) → ⊥) →
    ((x : X) (at : ℕ) (feature : Feature) (front rest : List ℕ) → P x front → Fits x → T at feature (front ++ rest) → ⊥) →
    (xs ys : List X) (at at' : ℕ) (feature feature' : Feature) (f g r s : List ℕ) → AllByRecursion Fits xs → AllByRecursion Fits ys →
    Each P xs f → Each P ys g →
    f ++ r ≡ g ++ s → S at feature r → T at' feature' s → Same (length f + at) (length g + at') feature feature'
rows_one {S = S} {T = T} form one apart apart' [] [] at at' feature feature' f g r s fit fit' p q e stop stop' =
    let here : r ≡ s = ap (λ l. l ++ r) (sym p) ∙ e ∙ ap (λ l. l ++ s) q in
    let same = one at at' feature feature' s (subst (S at feature) here stop) stop' in
    record { place = (λ i. length ((p ∙ sym q) i) + same.place i); named = same.named }
rows_one {S = S} {T = T} form one apart apart' [] (y ∷ ys) at at' feature feature' f g r s fit fit' p q e stop stop' =
    let here : r ≡ q.front ++ (q.rest ++ s) = ap (λ l. l ++ r) (sym p) ∙ e ∙ split_front g s q in
    absurd (apart y at feature q.front (q.rest ++ s) q.first fit'.0 (subst (S at feature) here stop))
rows_one {S = S} {T = T} form one apart apart' (x ∷ xs) [] at at' feature feature' f g r s fit fit' p q e stop stop' =
    let here : s ≡ p.front ++ (p.rest ++ r) = ap (λ l. l ++ s) (sym q) ∙ sym e ∙ split_front f r p in
    absurd (apart' x at' feature' p.front (p.rest ++ r) p.first fit.0 (subst (T at' feature') here stop'))
rows_one {S = S} {T = T} form one apart apart' (x ∷ xs) (y ∷ ys) at at' feature feature' f g r s fit fit' p q e stop stop' =
    let a = form.alike x y p.front q.front (p.rest ++ r) (q.rest ++ s) p.first q.first (sym (split_front f r p) ∙ e ∙ split_front g s q) in
    let same = rows_one {S = S} {T = T} form one apart apart' xs ys at at' feature feature' p.rest q.rest r s fit.1 fit'.1 p.second
    q.second a.behind stop stop' in
    let fronts : length p.front ≡ length q.front = ap length a.spelling in
    record {
      place = omega (
        arith,
        same.place,
        fronts,
        ap length p.split,
        ap length q.split,
        length-append p.front p.rest,
        length-append
            q.front q.rest,
      );
      named = same.named;
    }

module _ {X : Type 0} {P : X → Grammar} {Fits : X → Type 0} {S : Stop} (form : OneForm P) (o : OneStop P Fits S) where
  -- no more things are read than are stopped in
  each_apart : (xs ys : List X) (at : ℕ) (feature : Feature) (f g r s : List ℕ) → length xs < length ys → AllByRecursion Fits ys →
      Each P xs f → Each P ys g →
      f ++ r ≡ g ++ s → S at feature r → ⊥
  each_apart xs [] at feature f g r s fewer fit p q e stop = omega arith
  each_apart [] (y ∷ ys) at feature f g r s fewer fit p q e stop =
      let here : r ≡ q.front ++ (q.rest ++ s) = ap (λ l. l ++ r) (sym p) ∙ e ∙ split_front g s q in
      o.apart y at feature q.front (q.rest ++ s) q.first fit.0 (subst (S at feature) here stop)
  each_apart (x ∷ xs) (y ∷ ys) at feature f g r s fewer fit p q e stop =
      let a = form.alike x y p.front q.front (p.rest ++ r) (q.rest ++ s) p.first q.first
      (sym (split_front f r p) ∙ e ∙ split_front g s q) in
      each_apart xs ys at feature p.rest q.rest r s (omega arith) fit.1 p.second q.second a.behind stop

  -- among so many things there is at most one stop
  pub among_one : (count count' at at' : ℕ) (feature feature' : Feature) (bytes : List ℕ) → Among count P Fits S at feature bytes →
      Among count' P Fits S at' feature' bytes → Same at at' feature feature'
  among_one count count' at at' feature feature' bytes p q =
      let b = p.stops in
      let c = q.stops in
      let same = rows_one {Fits = Fits} {S = S} {T = S} form o.one o.apart o.apart p.done q.done b.place c.place feature feature' b.front
      c.front b.rest c.rest p.fit q.fit b.before c.before (sym b.split ∙ c.split) b.stops c.stops in
      record { place = b.counted ∙ same.place ∙ sym c.counted; named = same.named }

  -- and none where all are read
  pub among_apart : (xs : List X) (count at : ℕ) (feature : Feature) (front rest : List ℕ) → count ≡ length xs → Each P xs front →
      AllByRecursion Fits xs →
      Among count P Fits S at feature (front ++ rest) → ⊥
  among_apart xs count at feature front rest all p fit stop =
      let b = stop.stops in each_apart stop.done xs b.place feature b.front front b.rest rest (omega (arith, all, stop.fewer)) fit
      b.before p (sym b.split) b.stops

  -- a vector
  pub vector_stops : OneStop (Vector P) (AllByRecursion Fits) (InVector P Fits S)
  vector_stops = record {
    one = λ at at' feature feature' bytes p q.
        let a = (unsigned_form 32).alike p.0 q.0 p.1.front q.1.front p.1.rest q.1.rest p.1.before q.1.before (sym p.1.split ∙ q.1.split) in
        let same = among_one p.0 q.0 p.1.place q.1.place feature feature' q.1.rest
        (subst (Among p.0 P Fits S p.1.place feature) a.behind p.1.stops) q.1.stops in
        record { place = p.1.counted ∙ (λ i. length (a.spelling i) + same.place i) ∙ sym q.1.counted; named = same.named };
    apart = λ xs at feature front rest p fit stop.
        let b = stop.1 in
        let a = (unsigned_form 32).alike stop.0 (length xs) b.front p.front b.rest (p.rest ++ rest) b.before p.first
        (sym b.split ∙ split_front front rest p) in
        among_apart xs stop.0 b.place feature p.rest rest a.thing p.second fit
        (subst (Among stop.0 P Fits S b.place feature) a.behind b.stops);
  }

-- so many bytes of these and of those behind them are these
pub take_counted : (front rest : List ℕ) → take (length front) (front ++ rest) ≡ front
take_counted front rest = take-append-le (length front) front rest (omega arith) ∙ take_all (length front) front (omega arith)

-- what stops behind its size is one
pub sized_one : (S : Stop) (at at' : ℕ) (feature feature' : Feature) (bytes : List ℕ) →
    ((place place' : ℕ) (rest : List ℕ) → S place feature rest → S place' feature' rest → Same place place' feature feature') →
    InSized S at feature bytes → InSized S at' feature' bytes → Same at at' feature feature'
sized_one S at at' feature feature' bytes one (size, p) (size', q) =
    let a = (unsigned_form 32).alike size size' p.front q.front p.rest q.rest p.before q.before (sym p.split ∙ q.split) in
    let inside : take size p.rest ≡ take size' q.rest = (λ i. take (a.thing i) (a.behind i)) in
    let same = one p.place q.place (take size' q.rest) (subst (S p.place feature) inside p.stops) q.stops in
    record { place = p.counted ∙ (λ i. length (a.spelling i) + same.place i) ∙ sym q.counted; named = same.named }

-- and it isn't met where these bytes are counted, if it isn't in them
pub sized_apart : (S : Stop) (at : ℕ) (feature : Feature) (bytes size body rest : List ℕ) → bytes ≡ size ++ (body ++ rest) →
    Unsigned 32 (length body) size → ((place : ℕ) → S place feature body → ⊥) → InSized S at feature bytes → ⊥
sized_apart S at feature bytes size body rest split counted none (number, q) =
    let a = (unsigned_form 32).alike (length body) number size q.front (body ++ rest) q.rest counted q.before (sym split ∙ q.split) in
    let inside : take number q.rest ≡ body = (λ i. take (sym a.thing i) (sym a.behind i)) ∙ take_counted body rest in
    none q.place (subst (S q.place feature) inside q.stops)

-- a thing behind its size
pub sized_stops : {X : Type 0} {P : X → Grammar} {Fits : X → Type 0} {S : Stop} → OneStop P Fits S →
    OneStop (λ x. Sized (P x)) Fits (InSized S)
sized_stops {S = S} o = record {
  one = λ at at' feature feature' bytes p q. sized_one S at at' feature feature' bytes
      (λ place place' rest. o.one place place' feature feature' rest) p q;
  apart = λ x at feature front rest p fits stop. sized_apart S at feature (front ++ rest) p.size p.body rest
      (ap (λ l. l ++ rest) p.split ∙ append_assoc p.size p.body rest) p.counted
      (λ place here. o.apart x place feature p.body [] p.inside fits (subst (S place feature) (sym (append-nil p.body)) here))
      stop;
}

-- a byte has one front
pub byte_fronts : (b : ℕ) → Fronts {X = Unit {0}} (λ _. Byte b)
byte_fronts b = fronts_of (exactly_form (b ∷ []))

-- a thing behind a byte
pub coded_stops : {X : Type 0} {P : X → Grammar} {Fits : X → Type 0} {S : Stop} (b : ℕ) → OneStop P Fits S →
    OneStop (λ x. Byte b ⊳ P x) Fits (Behind (Byte b) S)
coded_stops {S = S} b o = record {
  one = λ at at' feature feature' bytes p q. behind_one {S = S} (byte_fronts b) tt tt at at' feature feature' bytes
      (λ place place' rest. o.one place place' feature feature' rest) p q;
  apart = λ x at feature front rest p fits stop. behind_apart {S = S} (byte_fronts b) tt tt at feature p.front (p.rest ++ rest) p.first
      (λ place. o.apart x place feature p.rest rest p.second fits)
      (subst (Behind (Byte b) S at feature) (split_front front rest p) stop);
}
