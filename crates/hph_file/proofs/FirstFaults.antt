-- The offset of the first token at which too many brackets are open, and the first fault behind tokens.
use Rattle.std.specs.Prelude.{◌≡◌, ◌<◌, ℕ, zero, suc, Bool, true, false, List, [], ◌∷◌, length, take, Option, Some, None, Ok, Err, IfErr, IsErrAnd, Result, if◌then◌else◌, nat_lt, refl}
use Rattle.std.proofs.Common.{ap, sym, subst, ◌∙◌, arith}
use Rattle.hph_ast.specs.declared.token.Token.{Token}
use Rattle.hph_ast.specs.RefusedTokens.{bracket_limit, open_behind, too_deep, too_deep_from}
use Rattle.hph_ast.specs.declared.program.FileTree.{FileTree}
use Rattle.hph_ast.specs.declared.refusal.Construct.{Construct}
use Rattle.hph_ast.specs.Faults.{construct, FirstFault, refused_token, deep, no_tree, refused_tree}
use Rattle.hph_ast.specs.RefusedStatements.{tree_construct}
use Rattle.hph_ast.specs.RefusedTokens.{token_construct}
use Rattle.hph_ast.specs.StatementNesting.{SpellsTree}
use Rattle.hph_ast.specs.Tokens.{SpellsTokens}
use Rattle.hph_parse.specs.Public.{IsFirstDeep}
use Rattle.hph_file.specs.declared.fault.FileFault.{FileFault}
use Rattle.hph_file.specs.declared.fault.FileFault.TheVariants as fault
use Rattle.hph_file.specs.Answers.{IsFirst}
use Rattle.hph_file.specs.Trees.{offset_of, IsTree}

too_deep_here : (count index : ℕ) (ts : List Token) (end : ℕ) → index < length ts → too_deep_from count (take index ts) ≡ None →
    (too_deep_from count (take (suc index) ts) ≡ None → ⊥) → too_deep_from count ts ≡ Some (offset_of ts index end)
too_deep_here count index [] end within before here = absurd (omega arith)
too_deep_here count zero (t ∷ ts) end within before here = go (nat_lt bracket_limit (open_behind count t.kind)) here
  where
    go : (b : Bool) → (if◌then◌else◌ {A = Option ℕ} b (Some t.start) None ≡ None → ⊥) →
        if◌then◌else◌ {A = Option ℕ} b (Some t.start) (too_deep_from (open_behind count t.kind) ts) ≡ Some t.start
    go true h = refl
    go false h = absurd (h refl)
too_deep_here count (suc index) (t ∷ ts) end within before here =
    go (nat_lt bracket_limit (open_behind count t.kind)) before here (too_deep_here (open_behind count t.kind) index ts end (omega arith))
  where
    go : (b : Bool) → if◌then◌else◌ {A = Option ℕ} b (Some t.start) (too_deep_from (open_behind count t.kind) (take index ts)) ≡ None →
        (if◌then◌else◌ {A = Option ℕ} b (Some t.start) (too_deep_from (open_behind count t.kind) (take (suc index) ts)) ≡ None → ⊥) →
        (too_deep_from (open_behind count t.kind) (take index ts) ≡ None → (too_deep_from (open_behind count t.kind) (take (suc index) ts) ≡ None → ⊥) →
        too_deep_from (open_behind count t.kind) ts ≡ Some (offset_of ts index end)) →
        if◌then◌else◌ {A = Option ℕ} b (Some t.start) (too_deep_from (open_behind count t.kind) ts) ≡ Some (offset_of ts index end)
    go true b h later = absurd (cc)
    go false b h later = later b h

pub deep_offset : (tokens : List Token) (index end : ℕ) → IsFirstDeep tokens index → too_deep tokens ≡ Some (offset_of tokens index end)
deep_offset tokens index end first = too_deep_here 0 index tokens end first.within first.before first.here

-- ---- the first fault behind tokens

pub of_token : (bytes : List ℕ) (tokens : List Token) (which : Construct) (at : ℕ) → SpellsTokens bytes tokens → token_construct tokens ≡ Some (which, at) →
    FirstFault bytes (Some (construct which at))
of_token bytes tokens which at spells is = refused_token spells is

pub of_tokens : (bytes : List ℕ) (tokens : List Token) (f : FileFault) → SpellsTokens bytes tokens → token_construct tokens ≡ None → IsTree tokens (Err f) → IsFirst bytes f
of_tokens bytes tokens (fault.TooDeep offset) spells free is = deep spells free is
of_tokens bytes tokens (fault.Syntax offset) spells free is = no_tree (record { spells = spells; no_construct = free; not_deep = is.0 }) is.1
of_tokens bytes tokens fault.NoMemory spells free is = tt
of_tokens bytes tokens (fault.Lex kind offset) spells free never = absurd never
of_tokens bytes tokens (fault.Construct kind offset) spells free never = absurd never

pub of_tree : (bytes : List ℕ) (tokens : List Token) (tree : FileTree) (which : Construct) (at : ℕ) → SpellsTokens bytes tokens → token_construct tokens ≡ None →
    (too_deep tokens ≡ None) × SpellsTree tokens tree → tree_construct tree ≡ Some (which, at) → FirstFault bytes (Some (construct which at))
of_tree bytes tokens tree which at spells free is found = refused_tree (record { spells = spells; no_construct = free; not_deep = is.0 }) is.1 found

-- a fault that is handed on
pub handed_on : {A : Type 0} (P : FileFault → Type 0) (r : Result A FileFault) (e : FileFault) → IsErrAnd r (λ f. f ≡ e) → P e → IfErr r P
handed_on P (Ok a) e same holds = tt
handed_on P (Err f) e same holds = subst P (sym same) holds
