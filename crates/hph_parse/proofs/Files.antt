-- The call answers the tree of the tokens, the first token with too many open brackets, or that they spell no tree.
use Rattle.std.specs.Prelude.{◌≡◌, ◌≢◌, ◌<◌, ◌≤◌, ℕ, ◌+◌, suc, Bool, true, false, List, [], ◌∷◌, length, take, Option, Some, None, if◌then◌else◌, nat_lt, nat_le, refl}
use Rattle.std.proofs.Common.{ap, sym, subst, ◌∙◌, arith}
use Rattle.std.proofs.lemmas.Bool.Decides.{nat_tests}
use Rattle.hph_ast.specs.declared.token.Token.{Token}
use Rattle.hph_ast.specs.declared.program.FileTree.{FileTree}
use Rattle.hph_ast.specs.RefusedTokens.{bracket_limit, open_behind, too_deep, too_deep_from}
use Rattle.hph_ast.specs.StatementNesting.{file_nesting, SpellsTree}
use Rattle.hph_fstmt.specs.Parser.{deepest, file}
use Rattle.hph_parse.specs.Public.{deep_from, IsFirstDeep}
use Rattle.hph_ast.specs.Statements.{IsFile}

some_inj : {A : Type 0} {a b : A} → Some a ≡ Some b → a ≡ b
some_inj h = cc

-- ---- brackets

not_deep_from : (count index : ℕ) (ts : List Token) → deep_from count index ts ≡ None → too_deep_from count ts ≡ None
not_deep_from count index [] h = refl
not_deep_from count index (t ∷ ts) h = go (nat_lt bracket_limit (open_behind count t.kind)) (not_deep_from (open_behind count t.kind) (suc index) ts) h
  where
    go : (b : Bool) → (deep_from (open_behind count t.kind) (suc index) ts ≡ None → too_deep_from (open_behind count t.kind) ts ≡ None) →
        if◌then◌else◌ {A = Option ℕ} b (Some index) (deep_from (open_behind count t.kind) (suc index) ts) ≡ None →
        if◌then◌else◌ {A = Option ℕ} b (Some t.start) (too_deep_from (open_behind count t.kind) ts) ≡ None
    go true behind h = absurd (cc)
    go false behind h = behind h

pub not_deep : (tokens : List Token) → deep_from 0 0 tokens ≡ None → too_deep tokens ≡ None
not_deep tokens h = not_deep_from 0 0 tokens h

-- so many tokens from a place on
record Deep (count index : ℕ) (ts : List Token) (at : ℕ) : Type 0 where
  k : ℕ
  place : at ≡ index + k
  within : k < length ts
  before : too_deep_from count (take k ts) ≡ None
  here : too_deep_from count (take (suc k) ts) ≢ None

deep_at : (count index : ℕ) (ts : List Token) (at : ℕ) → deep_from count index ts ≡ Some at → Deep count index ts at
deep_at count index [] at h = absurd (cc)
deep_at count index (t ∷ ts) at h = go (nat_lt bracket_limit (open_behind count t.kind)) refl
    (deep_at (open_behind count t.kind) (suc index) ts at) h
  where
    go : (b : Bool) → nat_lt bracket_limit (open_behind count t.kind) ≡ b →
        (deep_from (open_behind count t.kind) (suc index) ts ≡ Some at → Deep (open_behind count t.kind) (suc index) ts at) →
        if◌then◌else◌ {A = Option ℕ} b (Some index) (deep_from (open_behind count t.kind) (suc index) ts) ≡ Some at →
        Deep count index (t ∷ ts) at
    go true e behind h =
        let same : index ≡ at = some_inj h in
        record {
          k = 0;
          place = omega (arith, same);
          within = omega arith;
          before = refl;
          here = λ none. let all = sym (ap (λ b. if◌then◌else◌ {A = Option ℕ} b (Some t.start) None) e) ∙ none in absurd (cc);
        }
    go false e behind h =
        let d = behind h in
        let place = d.place in
        let within = d.within in
        record {
          k = suc d.k;
          place = omega (arith, place);
          within = omega (arith, within);
          before = ap (λ b. if◌then◌else◌ {A = Option ℕ} b (Some t.start) (too_deep_from (open_behind count t.kind) (take d.k ts))) e ∙ d.before;
          here = λ none. d.here (sym (ap (λ b. if◌then◌else◌ {A = Option ℕ} b (Some t.start) (too_deep_from (open_behind count t.kind) (take (suc d.k) ts))) e) ∙ none);
        }

pub first_deep : (tokens : List Token) (at : ℕ) → deep_from 0 0 tokens ≡ Some at → IsFirstDeep tokens at
first_deep tokens at h =
    let d = deep_at 0 0 tokens at h in
    let place = d.place in
    let same : d.k ≡ at = omega (arith, place) in
    subst (IsFirstDeep tokens) same (record { within = d.within; before = d.before; here = d.here })

-- ---- trees

-- what is read as a file is one
abbrev pub Sound : Type 0
Sound = (depth : ℕ) (tokens : List Token) (tree : FileTree) → file depth tokens ≡ Some tree → IsFile tokens tree

-- each file that is nested no deeper than is read
abbrev pub Complete : Type 0
Complete = (depth : ℕ) (tokens : List Token) (tree : FileTree) → IsFile tokens tree → file_nesting tree ≤ suc depth → file depth tokens ≡ Some tree

pub spelled : Sound → (tokens : List Token) (tree : FileTree) → file deepest tokens ≡ Some tree → nat_le (file_nesting tree) 512 ≡ true → SpellsTree tokens tree
spelled sound tokens tree h fits = record { is = sound deepest tokens tree h; nests = grind (arith, nat_tests, fits) }

pub read : Complete → (tokens : List Token) (tree : FileTree) → SpellsTree tokens tree → file deepest tokens ≡ Some tree
read complete tokens tree s = let nests = s.nests in complete deepest tokens tree s.is (omega (arith, nests))

pub not_spelled : Complete → (tokens : List Token) → file deepest tokens ≡ None → (tree : FileTree) → SpellsTree tokens tree → ⊥
not_spelled complete tokens h tree s = let e = read complete tokens tree s in absurd (cc)

pub too_nested : Complete → (tokens : List Token) (found : FileTree) → file deepest tokens ≡ Some found → nat_le (file_nesting found) 512 ≡ false →
    (tree : FileTree) → SpellsTree tokens tree → ⊥
too_nested complete tokens found h fits tree s =
    let same : found ≡ tree = some_inj (sym h ∙ read complete tokens tree s) in
    let deep : nat_le (file_nesting tree) 512 ≡ false = sym (ap (λ t. nat_le (file_nesting t) 512) same) ∙ fits in
    let nests = s.nests in
    let test : nat_le (file_nesting tree) 512 ≡ true = grind (arith, nat_tests, nests) in
    absurd (cc)

pub ruleset answers = (not_deep, first_deep, spelled, not_spelled, too_nested)
