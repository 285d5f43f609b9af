-- What tokens tell of what they spell, whatever follows them: they are at least half as many as its nodes, and where their numbers are
-- ints of 64 bits, its nodes are as they should be.
use Rattle.std.specs.Prelude.{◌≡◌, ℕ, suc, ◌+◌, ◌*◌, ◌≤◌, Bool, true, false, ◌&&◌, List, ◌∷◌, length, All}
use Rattle.std.proofs.Common.{arith, refl}
use Rattle.std.proofs.lemmas.List.Elements.{All-head, All-tail}
use Rattle.hph_ast.specs.declared.token.Token.{Token}
use Rattle.hph_program.specs.WellFormed.{IsIntOfPrograms}

abbrev pub AreInts : List Token → Type 0
AreInts ts = All (λ (t : Token). IsIntOfPrograms t.kind) ts

pub record Chain (ts : List Token) (nodes : ℕ) (fits : Bool) (rest : List Token) : Type 0 where
  pub few : nodes + 2 * length rest ≤ 2 * length ts
  pub tells : AreInts ts → (fits ≡ true) × AreInts rest

pub nothing : {ts : List Token} → Chain ts 0 true ts
nothing = record { few = omega arith; tells = λ ints. (refl, ints) }

-- ---- a token before, which pays for two nodes, for one or for none

pub pays_two : {t : Token} {ts rest : List Token} {n : ℕ} {fits : Bool} → Chain ts n fits rest → Chain (t ∷ ts) (suc (suc n)) fits rest
pays_two {t} {ts} c = record { few = omega (arith, c.few); tells = λ ints. c.tells (All-tail (λ (t : Token). IsIntOfPrograms t.kind) t ts ints) }

pub pays_two_before : {t : Token} {ts rest : List Token} {n : ℕ} {fits : Bool} → Chain ts n fits rest → Chain (t ∷ ts) (suc (1 + n)) fits rest
pays_two_before {t} c = record { few = omega (arith, (pays_two {t = t} c).few); tells = (pays_two {t = t} c).tells }

pub pays_one : {t : Token} {ts rest : List Token} {n : ℕ} {fits : Bool} → Chain ts n fits rest → Chain (t ∷ ts) (suc n) fits rest
pays_one {t} {ts} c = record { few = omega (arith, c.few); tells = λ ints. c.tells (All-tail (λ (t : Token). IsIntOfPrograms t.kind) t ts ints) }

pub behind : {t : Token} {ts rest : List Token} {n : ℕ} {fits : Bool} → Chain ts n fits rest → Chain (t ∷ ts) n fits rest
behind {t} {ts} c = record { few = omega (arith, c.few); tells = λ ints. c.tells (All-tail (λ (t : Token). IsIntOfPrograms t.kind) t ts ints) }

-- one that tells something itself
pub token : {t : Token} {ts : List Token} {fits : Bool} → (IsIntOfPrograms t.kind → fits ≡ true) → Chain (t ∷ ts) 1 fits ts
token {t} {ts} known = record {
  few = omega arith;
  tells = λ ints. (known (All-head (λ (t : Token). IsIntOfPrograms t.kind) t ts ints), All-tail (λ (t : Token). IsIntOfPrograms t.kind) t ts ints);
}

-- ---- a token behind

pub then_two : {t : Token} {ts rest : List Token} {n : ℕ} {fits : Bool} → Chain ts n fits (t ∷ rest) → Chain ts (suc (suc n)) fits rest
then_two {t} {rest = rest} c = record {
  few = omega (arith, c.few);
  tells = λ ints. ((c.tells ints).0, All-tail (λ (t : Token). IsIntOfPrograms t.kind) t rest (c.tells ints).1);
}

pub then_one : {t : Token} {ts rest : List Token} {n : ℕ} {fits : Bool} → Chain ts n fits (t ∷ rest) → Chain ts (suc n) fits rest
then_one c = record { few = omega (arith, (then_two c).few); tells = (then_two c).tells }

pub then_none : {t : Token} {ts rest : List Token} {n : ℕ} {fits : Bool} → Chain ts n fits (t ∷ rest) → Chain ts n fits rest
then_none c = record { few = omega (arith, (then_two c).few); tells = (then_two c).tells }

-- ---- two parts

and_true : (a b : Bool) → a ≡ true → b ≡ true → (a && b) ≡ true
and_true true b p q = q
and_true false b p q = p

pub both : {ts mid rest : List Token} {m n : ℕ} {a b : Bool} → Chain ts m a mid → Chain mid n b rest → Chain ts (m + n) (a && b) rest
both c d = record {
  few = omega (arith, c.few, d.few);
  tells = λ ints. (and_true _ _ (c.tells ints).0 (d.tells (c.tells ints).1).0, (d.tells (c.tells ints).1).1);
}

-- with a node that the first pays for, and one that a token between pays for
pub node_both : {ts mid rest : List Token} {m n : ℕ} {a b : Bool} → Chain ts (suc m) a mid → Chain mid n b rest → Chain ts (suc (m + n)) (a && b) rest
node_both c d = record { few = omega (arith, (both c d).few); tells = (both c d).tells }

pub between : {t : Token} {ts mid rest : List Token} {m n : ℕ} {a b : Bool} → Chain ts m a (t ∷ mid) → Chain mid n b rest → Chain ts (suc (m + n)) (a && b) rest
between c d = node_both (then_one c) d

-- ---- lists of parts that pay for one node more each

pub record Listed (ts : List Token) (nodes extra : ℕ) (fits : Bool) (rest : List Token) : Type 0 where
  pub chain : Chain ts (nodes + extra) fits rest

pub none : {ts : List Token} → Listed ts 0 0 true ts
none = record { chain = nothing }

pub listed : {ts mid rest : List Token} {m n k : ℕ} {a b : Bool} → Chain ts (suc m) a mid → Listed mid n k b rest → Listed ts (m + n) (suc k) (a && b) rest
listed c d = record { chain = record { few = omega (arith, (both c d.chain).few); tells = (both c d.chain).tells } }

-- a part, and such a list that isn't empty
pub under : {ts mid rest : List Token} {m n k : ℕ} {a b : Bool} → Chain ts m a mid → Listed mid n (suc k) b rest → Chain ts (suc (m + n)) (a && b) rest
under c d = record { few = omega (arith, (both c d.chain).few); tells = (both c d.chain).tells }

-- a part alone, and such a list that is empty
pub more_of : {ts mid rest : List Token} {m : ℕ} {a : Bool} → Chain ts m a mid → Listed mid 0 0 true rest → Chain ts m a rest
more_of c d = record { few = omega (arith, c.few, d.chain.few); tells = λ ints. ((c.tells ints).0, (d.chain.tells (c.tells ints).1).1) }

-- ---- what is known beside the tokens

pub given : {ts rest : List Token} {n : ℕ} {a b : Bool} → a ≡ true → Chain ts n b rest → Chain ts n (a && b) rest
given known c = record { few = c.few; tells = λ ints. (and_true _ _ known (c.tells ints).0, (c.tells ints).1) }

-- ---- nodes that others pay for, and parts that tell nothing

pub count : {ts rest : List Token} {m n : ℕ} {fits : Bool} → n ≤ m → Chain ts m fits rest → Chain ts n fits rest
count fewer c = record { few = omega (arith, c.few, fewer); tells = c.tells }

pub one_less : {ts rest : List Token} {n : ℕ} {fits : Bool} → Chain ts (suc n) fits rest → Chain ts n fits rest
one_less c = count (omega arith) c

pub passing : {ts mid rest : List Token} {n : ℕ} {fits : Bool} → Chain ts 0 true mid → Chain mid n fits rest → Chain ts n fits rest
passing c d = record { few = omega (arith, c.few, d.few); tells = λ ints. d.tells (c.tells ints).1 }

pub unasked : {ts rest : List Token} {n : ℕ} {fits : Bool} → Chain ts n fits rest → Chain ts n true rest
unasked c = record { few = c.few; tells = λ ints. (refl, (c.tells ints).1) }
