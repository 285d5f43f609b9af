-- What literals name.
use Rattle.std.specs.Prelude.{◌≡◌, ℕ, Bool, true, false, ◌&&◌, List, [], ◌∷◌, ◌++◌, map, filter_map, flat_map, length, Option, Some, None, Result, IfOk, refl, if◌then◌else◌, ◌==◌, String}
use Rattle.std.proofs.Common.{ap, sym, subst, ◌∙◌, take, get_or, ◌+◌, ◌<◌}
use Rattle.std.specs.Option.{option_map, option_to_list}
use Rattle.std.specs.List.{cons_option, list_all}
use Rattle.std.proofs.lemmas.List.Folds.{list_all_at, list_all-map}
use Rattle.hph_ast.specs.declared.program.FileTree.{FileTree}
use Rattle.hph_ast.specs.RefusedStatements.{first_found, top_level, tree_construct}
use Rattle.std.specs.String.{string_bytes}
use Rattle.std.specs.Borrow.{Bor}
use Rattle.std.specs.Str.{IsValidUpTo}
use Rattle.std.specs.Str.Lossy.{utf8_valid_len}
use Rattle.std.specs.declared.alloc.Global.{Global}
use Rattle.std.proofs.lemmas.List.{map-append, take_more}
use Rattle.std.proofs.lemmas.List.Elements.{filter_map-append}
use Rattle.hph_ast.specs.declared.token.At.{At}
use Rattle.hph_ast.specs.declared.operator.Binary.{Binary}
use Rattle.hph_ast.specs.declared.operator.Binary.TheVariants as b
use Rattle.hph_ast.specs.declared.expr.Expr.{Expr}
use Rattle.hph_ast.specs.declared.expr.Expr.TheVariants as e
use Rattle.hph_ast.specs.RefusedExpressions.{Found, Shape, a_variable, a_text, a_directory, a_directory_path, another, Part, part, joined, is_path_text, is_include_path}
use Rattle.hph_php.specs.Includes.{from_folder, normalised}
use Rattle.hph_php.specs.Targets.{another as another_form}
use Rattle.hph_accept.proofs.Starts.{part_shape, text_shape}
use Rattle.hph_accept.proofs.ExpressionParts.{shape-Run}
use Rattle.hph_accept.proofs.Paths.{utf8_err}
use Rattle.hph_lowerable.proofs.IncludePaths.{all_are_paths}
use Rattle.hph_program.specs.Sources.{includes_in, path_named}
use Rattle.hph_included.specs.Literals.{are_paths, directory_text, is_directory, joined_text, shapes, text_bytes}

-- ---- shapes

behind_shape : (s : Shape) → directory_text (joined a_directory ((b.Concat, record { start = 0; shape = s; refused = λ ctx. [] }) ∷ [])) ≡ text_bytes s
behind_shape (a_variable t) = refl
behind_shape (a_text bytes) = refl
behind_shape a_directory = refl
behind_shape (a_directory_path bytes) = refl
behind_shape another = refl

behind_part : (x : Part) → directory_text (joined a_directory ((b.Concat, x) ∷ [])) ≡ text_bytes x.shape
behind_part x = behind_shape x.shape

joined_parts : (s : Shape) (more : List (Binary × Expr)) → directory_text (joined s (map (λ (o : Binary × Expr). (o.0, part o.1)) more)) ≡ (if is_directory s then joined_text more else None)
joined_parts a_directory [] = refl
joined_parts a_directory ((b.Concat, x) ∷ []) = behind_part (part x)
joined_parts a_directory ((op, x) ∷ []) = refl
joined_parts a_directory ((op, x) ∷ (y ∷ more)) = refl
joined_parts s more = refl

pub run_text : (at : At) (x : Expr) (more : List (Binary × Expr)) → directory_text (part (e.Run at x more)).shape ≡ (if is_directory (part x).shape then joined_text more else None)
run_text at x more = ap directory_text (shape-Run at x more) ∙ joined_parts (part x).shape more

pub ruleset the_shapes = (part_shape, text_shape, run_text)

-- ---- paths

abbrev Named : {E : Type 0} → Result (Option (String Global)) E → Option (List ℕ) → Type 0
Named result path = IfOk result (λ p. option_map string_bytes p ≡ path)

pub named_text : {E : Type 0} (result : Result (Option (String Global)) E) (folder bytes : List ℕ) (shape : Shape) → Some bytes ≡ text_bytes shape →
    (is_path_text bytes ≡ true → Named result (Some (normalised (from_folder another_form folder bytes)))) →
    is_include_path shape ≡ true → Named result (path_named folder shape)
named_text result folder bytes (a_text given) e h is = let same : bytes ≡ given = cc in
    subst (λ (t : List ℕ). is_path_text t ≡ true → Named result (Some (normalised (from_folder another_form folder t)))) same h is
named_text result folder bytes (a_variable t) e h is = absurd (cc)
named_text result folder bytes a_directory e h is = absurd (cc)
named_text result folder bytes (a_directory_path t) e h is = absurd (cc)
named_text result folder bytes another e h is = absurd (cc)

pub named_behind : {E : Type 0} (result : Result (Option (String Global)) E) (folder bytes : List ℕ) (shape : Shape) → Some bytes ≡ directory_text shape →
    (is_path_text bytes ≡ true → Named result (Some (normalised (folder ++ bytes)))) →
    is_include_path shape ≡ true → Named result (path_named folder shape)
named_behind result folder bytes (a_directory_path given) e h is = let same : bytes ≡ given = cc in
    subst (λ (t : List ℕ). is_path_text t ≡ true → Named result (Some (normalised (folder ++ t)))) same h is
named_behind result folder bytes (a_variable t) e h is = absurd (cc)
named_behind result folder bytes a_directory e h is = absurd (cc)
named_behind result folder bytes (a_text t) e h is = absurd (cc)
named_behind result folder bytes another e h is = absurd (cc)

pub named_none : (folder : List ℕ) (shape : Shape) → None ≡ text_bytes shape → None ≡ directory_text shape → is_include_path shape ≡ true → None ≡ path_named folder shape
named_none folder (a_text t) e f is = absurd (cc)
named_none folder (a_directory_path t) e f is = absurd (cc)
named_none folder (a_variable t) e f is = refl
named_none folder a_directory e f is = refl
named_none folder another e f is = refl

-- ---- one literal more

passes_at : {A : Type 0} (p : A → Bool) (xs : List A) (i : ℕ) (d : A) → list_all p xs ≡ true → i < length xs → p (get_or xs i d) ≡ true
passes_at p xs i d all inside = either (p (get_or xs i d)) refl
  where
    either : (b : Bool) → p (get_or xs i d) ≡ b → b ≡ true
    either true e = refl
    either false e = let none : list_all p xs ≡ false = list_all_at p xs i d inside e in cc

pub path_at : (literals : List (Bor Expr)) (i : ℕ) (x : Bor Expr) → are_paths (shapes literals) ≡ true → i < length literals → x ≡ get_or literals i x → is_include_path (part x.now).shape ≡ true
path_at literals i x all inside at =
    ap (λ (y : Bor Expr). is_include_path (part y.now).shape) at
    ∙ passes_at (λ (y : Bor Expr). is_include_path (part y.now).shape) literals i x (sym (list_all-map is_include_path (λ (y : Bor Expr). (part y.now).shape) literals) ∙ all) inside

only_one : (path : Option (List ℕ)) → cons_option path [] ≡ option_to_list path
only_one None = refl
only_one (Some path) = refl

pub literal_more : (f : Shape → Option (List ℕ)) (literals : List (Bor Expr)) (i : ℕ) (x : Bor Expr) (before after : List (List ℕ)) → i < length literals → x ≡ get_or literals i x →
    before ≡ filter_map f (shapes (take i literals)) → after ≡ before ++ option_to_list (f (part x.now).shape) → after ≡ filter_map f (shapes (take (i + 1) literals))
literal_more f literals i x before after inside at h more =
    more ∙ ap (λ l. l ++ option_to_list (f (part x.now).shape)) h
    ∙ ap (λ l. filter_map f (shapes (take i literals)) ++ l) (sym (only_one (f (part x.now).shape)))
    ∙ sym (filter_map-append f (shapes (take i literals)) ((part x.now).shape ∷ []))
    ∙ ap (filter_map f) (sym (map-append (λ (y : Bor Expr). (part y.now).shape) (take i literals) (x ∷ [])))
    ∙ ap (λ l. filter_map f (shapes l)) (sym (take_more literals i x inside ∙ ap (λ y. take i literals ++ y ∷ []) (sym at)))

-- ---- whole trees

nothing_found : (xs : Found) → first_found xs ≡ None → xs ≡ []
nothing_found [] e = refl
nothing_found (x ∷ xs) e = absurd (cc)

pub tree_paths : (tree : FileTree) (literals : List (Bor Expr)) → tree_construct tree ≡ None → shapes literals ≡ flat_map includes_in tree.statements → are_paths (shapes literals) ≡ true
tree_paths tree literals none is = ap are_paths is ∙ all_are_paths tree.statements top_level (nothing_found _ none)

-- ---- text

pub no_text : (bytes : List ℕ) (n : ℕ) → IsValidUpTo bytes n → is_path_text bytes ≡ true → ⊥
no_text bytes n h is = never (utf8_valid_len bytes == length bytes) _ (utf8_err bytes n h) is
  where
    never : (b rest : Bool) → false ≡ b → (b && rest) ≡ true → ⊥
    never true rest e f = cc
    never false rest e f = cc
