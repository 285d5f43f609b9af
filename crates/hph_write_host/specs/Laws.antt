-- What holds of each call of the host's one function.
use Rattle.std.proofs.Common.{◌≡◌, ◌∙◌, ℕ, Bool, true, false, ◌&&◌, List, [], ◌∷◌, append-nil, length, Option, Some, None, refl, sym, subst, arith, cond, nat_eq, bytes_eq, codes}
use Rattle.hph_src.specs.Sink.{grown_by}
use Rattle.std.proofs.lemmas.Bool.Decides.{nat_tests}
use Rattle.hph_wasm.specs.declared.types.ValType.{ValType}
use Rattle.hph_wasm.specs.declared.types.ValType.TheVariants.{I32, I64}
use Rattle.hph_wasm.specs.declared.types.FuncType.{FuncType}
use Rattle.hph_wasm.specs.Outcome.{IsPrefix}
use Rattle.hph_wasm.specs.Choice.{if_some}
use Rattle.hph_wasm.specs.Configuration.{Goes, Stops}
use Rattle.hph_wasm.specs.HostAnswers.{ResultsFit, HaveOneType, FitsResult}
use Rattle.hph_wasm.specs.Run.{NeverTakesBack, KeepsOutput}
use Rattle.hph_write_host.specs.Writing.{Misuse, are_two_words, is_write_type, write_type, row_of, piece_of, effect_of, printed, writing}

itself : (out : List ℕ) → IsPrefix out out
itself out = ([], sym (append-nil out))

-- What is printed goes on from what was printed.
grown : (held : Option (List ℕ)) (piece : List ℕ) → IsPrefix (printed held) (printed (grown_by held piece))
grown None piece = itself []
grown (Some held) piece = (piece, refl)

keeps : (held : Option (List ℕ)) (piece : Option (List ℕ)) →
    KeepsOutput writing (printed held) (if_some piece (Stops held Misuse) (λ piece. Goes (grown_by held piece) None))
keeps held None = itself (printed held)
keeps held (Some piece) = grown held piece

pub never_takes_back : NeverTakesBack writing
never_takes_back row held arguments memory = keeps held (piece_of arguments memory)

two_words : (ts : List ValType) → are_two_words ts ≡ true → ts ≡ I32 ∷ I32 ∷ []
two_words (I32 ∷ I32 ∷ []) is = refl
two_words [] is = let none : ⊥ = cc in absurd none
two_words (I32 ∷ []) is = let none : ⊥ = cc in absurd none
two_words (I64 ∷ []) is = let none : ⊥ = cc in absurd none
two_words (I64 ∷ t ∷ ts) is = let none : ⊥ = cc in absurd none
two_words (I32 ∷ I64 ∷ ts) is = let none : ⊥ = cc in absurd none
two_words (I32 ∷ I32 ∷ t ∷ ts) is = let none : ⊥ = cc in absurd none

none_left : (ts : List ValType) → nat_eq (length ts) 0 ≡ true → ts ≡ []
none_left [] is = refl
none_left (t ∷ ts) is = absurd (grind (arith, nat_tests))

both : (a b : Bool) → (a && b) ≡ true → (a ≡ true) × (b ≡ true)
both true b is = (refl, is)
both false b is = let none : ⊥ = cc in absurd none

its_type : (ty : FuncType) → is_write_type ty ≡ true → ty ≡ write_type
its_type ty is =
    let (params, results) = both (are_two_words ty.params) (nat_eq (length ty.results) 0) is in
    let same_params = two_words ty.params params in
    let same_results = none_left ty.results results in
    λ i. record { params = same_params i; results = same_results i }

-- Where there is a row, the function has the type of `write`.
some_row : (b : Bool) (row : ℕ) → cond b (Some 0) None ≡ Some row → b ≡ true
some_row true row is = refl
some_row false row is = let none : ⊥ = cc in absurd none

pub of_write : (module_name name : List ℕ) (ty : FuncType) (row : ℕ) → row_of module_name name ty ≡ Some row → ty ≡ write_type
of_write module_name name ty row is =
    let a = bytes_eq module_name (codes "php1") in
    let b = bytes_eq name (codes "write") in
    its_type ty (both b (is_write_type ty) (both a (b && is_write_type ty) (some_row (a && (b && is_write_type ty)) row is)).1).1

gives_nothing : (held : Option (List ℕ)) (piece : Option (List ℕ)) →
    FitsResult [] (if_some piece (Stops held Misuse) (λ piece. Goes (grown_by held piece) None))
gives_nothing held None = tt
gives_nothing held (Some piece) = tt

pub results_fit : ResultsFit writing
results_fit module_name name ty row is held arguments memory =
    subst (λ (ty : FuncType). FitsResult ty.results (effect_of row held arguments memory)) (sym (of_write module_name name ty row is))
    (gives_nothing held (piece_of arguments memory))

pub have_one_type : HaveOneType writing
have_one_type module_name name other_module other_name ty other row is other_is =
    of_write module_name name ty row is ∙ sym (of_write other_module other_name other row other_is)
