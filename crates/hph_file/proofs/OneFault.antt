-- A file has one tree or one first fault, and never both.
use Rattle.std.specs.Prelude.{◌≡◌, ℕ, List, Option, Some, None, refl}
use Rattle.std.proofs.Common.{ap, sym, subst, ◌∙◌}
use Rattle.hph_ast.specs.declared.token.Token.{Token}
use Rattle.hph_ast.specs.declared.program.FileTree.{FileTree}
use Rattle.hph_ast.specs.declared.refusal.Construct.{Construct}
use Rattle.hph_ast.specs.Lexical as lexical
use Rattle.hph_ast.specs.Tokens.{SpellsTokens, FailsAt}
use Rattle.hph_ast.specs.Faults.{FileFault, lex, construct, too_many_brackets, syntax_error, Reads, FirstFault, no_token, refused_text, refused_token, deep, no_tree, refused_tree}
use Rattle.hph_ast.specs.RefusedStatements.{tree_construct}
use Rattle.hph_ast.specs.RefusedTokens.{token_construct, too_deep}
use Rattle.hph_ast.specs.StatementNesting.{SpellsTree}
use Rattle.hph_file.specs.Answers.{IsRead, SameFault}

-- what is known of tokens and of trees
pub record Unique : Type 0 where
  pub tokens : (bytes : List ℕ) (ts us : List Token) → SpellsTokens bytes ts → SpellsTokens bytes us → ts ≡ us
  pub fault : (bytes : List ℕ) (why other : lexical.Fault) (at place : ℕ) → FailsAt bytes why at → FailsAt bytes other place → (why ≡ other) × (at ≡ place)
  pub never_both : (bytes : List ℕ) (ts : List Token) (why : lexical.Fault) (at : ℕ) → SpellsTokens bytes ts → FailsAt bytes why at → ⊥
  pub tree : (tokens : List Token) (x y : FileTree) → SpellsTree tokens x → SpellsTree tokens y → x ≡ y

-- the fault of a place at which no token begins
abbrev of_place : lexical.Fault → ℕ → FileFault
of_place (lexical.lex why) at = lex why at
of_place (lexical.construct which) at = construct which at

-- the first fault of tokens
data Later (tokens : List Token) : FileFault → Type 0 where
  of_token : {which : Construct} {at : ℕ} → token_construct tokens ≡ Some (which, at) → Later tokens (construct which at)
  of_brackets : {at : ℕ} → token_construct tokens ≡ None → too_deep tokens ≡ Some at → Later tokens (too_many_brackets at)
  of_syntax : {at : ℕ} → token_construct tokens ≡ None → too_deep tokens ≡ None → ((tree : FileTree) → SpellsTree tokens tree → ⊥) → Later tokens (syntax_error at)
  of_tree : {tree : FileTree} {which : Construct} {at : ℕ} → token_construct tokens ≡ None → too_deep tokens ≡ None → SpellsTree tokens tree →
      tree_construct tree ≡ Some (which, at) → Later tokens (construct which at)

-- a fault of the text, or one of its tokens
data View (bytes : List ℕ) : FileFault → Type 0 where
  early : {why : lexical.Fault} {at : ℕ} → FailsAt bytes why at → View bytes (of_place why at)
  late : {tokens : List Token} {fault : FileFault} → SpellsTokens bytes tokens → Later tokens fault → View bytes fault

view : {bytes : List ℕ} {fault : FileFault} → FirstFault bytes (Some fault) → View bytes fault
view (no_token fails) = early fails
view (refused_text fails) = early fails
view (refused_token spells is) = late spells (of_token is)
view (deep spells free is) = late spells (of_brackets free is)
view (no_tree reads none) = late reads.spells (of_syntax reads.no_construct reads.not_deep none)
view (refused_tree reads tree is) = late reads.spells (of_tree reads.no_construct reads.not_deep tree is)

-- where one fault is another
same_fault : (x y : FileFault) → x ≡ y → SameFault x y
same_fault (syntax_error at) (syntax_error other) e = tt
same_fault (syntax_error at) (lex why other) e = e
same_fault (syntax_error at) (construct which other) e = e
same_fault (syntax_error at) (too_many_brackets other) e = e
same_fault (lex why at) y e = e
same_fault (construct which at) y e = e
same_fault (too_many_brackets at) y e = e

some_inj : {A : Type 0} {a b : A} → Some a ≡ Some b → a ≡ b
some_inj e = cc

one_construct : {o : Option (Construct × ℕ)} {which other : Construct} {at place : ℕ} → o ≡ Some (which, at) → o ≡ Some (other, place) → construct which at ≡ construct other place
one_construct p q = ap (λ found. construct found.0 found.1) (some_inj (sym p ∙ q))

one_bracket : {o : Option ℕ} {at place : ℕ} → o ≡ Some at → o ≡ Some place → too_many_brackets at ≡ too_many_brackets place
one_bracket p q = ap too_many_brackets (some_inj (sym p ∙ q))

not_both : {A : Type 0} {o : Option A} {a : A} → o ≡ Some a → o ≡ None → ⊥
not_both p q = absurd (cc)

one_later : Unique → {tokens : List Token} {x y : FileFault} → Later tokens x → Later tokens y → SameFault x y
one_later u (of_token p) (of_token q) = one_construct p q
one_later u (of_token p) (of_brackets q _) = absurd (not_both p q)
one_later u (of_token p) (of_syntax q _ _) = absurd (not_both p q)
one_later u (of_token p) (of_tree q _ _ _) = absurd (not_both p q)
one_later u (of_brackets p _) (of_token q) = absurd (not_both q p)
one_later u (of_brackets _ p) (of_brackets _ q) = one_bracket p q
one_later u (of_brackets _ p) (of_syntax _ q _) = absurd (not_both p q)
one_later u (of_brackets _ p) (of_tree _ q _ _) = absurd (not_both p q)
one_later u (of_syntax p _ _) (of_token q) = absurd (not_both q p)
one_later u (of_syntax _ p _) (of_brackets _ q) = absurd (not_both q p)
one_later u (of_syntax _ _ _) (of_syntax _ _ _) = tt
one_later u (of_syntax _ _ none) (of_tree {tree = tree} _ _ is _) = absurd (none tree is)
one_later u (of_tree p _ _ _) (of_token q) = absurd (not_both q p)
one_later u (of_tree _ p _ _) (of_brackets _ q) = absurd (not_both q p)
one_later u (of_tree {tree = tree} _ _ is _) (of_syntax _ _ none) = absurd (none tree is)
one_later u {tokens = tokens} (of_tree {tree = x} _ _ p is) (of_tree {tree = y} _ _ q is_other) =
    one_construct (sym (ap tree_construct (u.tree tokens x y p q)) ∙ is) is_other

one_view : Unique → {bytes : List ℕ} {x y : FileFault} → View bytes x → View bytes y → SameFault x y
one_view u {bytes = bytes} (early {why = why} {at = at} p) (early {why = other} {at = place} q) =
    let same = u.fault bytes why other at place p q in
    same_fault (of_place why at) (of_place other place) (cc (same.0, same.1))
one_view u {bytes = bytes} (early {why = why} {at = at} p) (late {tokens = ts} spells _) = absurd (u.never_both bytes ts why at spells p)
one_view u {bytes = bytes} (late {tokens = ts} spells _) (early {why = why} {at = at} p) = absurd (u.never_both bytes ts why at spells p)
one_view u {bytes = bytes} {x = x} {y = y} (late {tokens = ts} spells p) (late {tokens = us} others q) =
    one_later u (subst (λ ts. Later ts x) (u.tokens bytes ts us spells others) p) q

pub one_fault : Unique → (bytes : List ℕ) (x y : FileFault) → FirstFault bytes (Some x) → FirstFault bytes (Some y) → SameFault x y
one_fault u bytes x y p q = one_view u (view p) (view q)

-- ---- trees

no_later : Unique → {tokens : List Token} {tree : FileTree} {fault : FileFault} → token_construct tokens ≡ None → too_deep tokens ≡ None → SpellsTree tokens tree →
    tree_construct tree ≡ None → Later tokens fault → ⊥
no_later u free shallow is none (of_token p) = not_both p free
no_later u free shallow is none (of_brackets _ p) = not_both p shallow
no_later u {tree = tree} free shallow is none (of_syntax _ _ never) = never tree is
no_later u {tokens = tokens} {tree = tree} free shallow is none (of_tree {tree = other} _ _ p q) =
    not_both q (sym (ap tree_construct (u.tree tokens tree other is p)) ∙ none)

pub no_fault : Unique → (bytes : List ℕ) (tree : FileTree) (fault : FileFault) → IsRead bytes tree → FirstFault bytes (Some fault) → ⊥
no_fault u bytes tree fault r first = go (view first)
  where
    go : {fault : FileFault} → View bytes fault → ⊥
    go (early {why = why} {at = at} p) = u.never_both bytes r.tokens why at r.reads.spells p
    go {fault = fault} (late {tokens = ts} spells p) =
        no_later u r.reads.no_construct r.reads.not_deep r.spells r.no_construct (subst (λ ts. Later ts fault) (u.tokens bytes ts r.tokens spells r.reads.spells) p)

pub one_tree : Unique → (bytes : List ℕ) (x y : FileTree) → IsRead bytes x → IsRead bytes y → x ≡ y
one_tree u bytes x y p q =
    u.tree q.tokens x y (subst (λ ts. SpellsTree ts x) (u.tokens bytes p.tokens q.tokens p.reads.spells q.reads.spells) p.spells) q.spells
