-- Codes, least numbers of arguments and imports are those of the case tables.
use Rattle.std.proofs.Common.{◌≡◌, ◌+◌, ◌-◌, ◌<◌, ◌++◌, true, List, [], ◌∷◌, map, length, drop, nat_lt, if◌then◌else◌, Some, Err, arith}
use Rattle.std.proofs.Common.{refl, ap, sym, lt-ltb, true≢false}
use Rattle.hph_case.specs.declared.cases.Row.{Row}
use Rattle.hph_case.specs.Table.{codes}
use Rattle.hph_case.specs.Fatals as case
use Rattle.hph_case.specs.Operators as operator
use Rattle.hph_case.specs.Builtins as builtin
use Rattle.hph_case.specs.Imports as table
use Rattle.hph_php.specs.Codes.{fatal_code, all_fatals, binary_code, binary_operators, unary_code, unary_operators, builtin_code}
use Rattle.hph_php.specs.Codes.{all_builtins}
use Rattle.hph_php.specs.declared.fatal.Fatal.TheVariants.{TooFewArguments, BadArgument}
use Rattle.hph_php.specs.declared.builtin.Builtin.{Builtin}
use Rattle.hph_php.specs.declared.builtin.Builtin.TheVariants as f
use Rattle.hph_php.specs.Values.{Value}
use Rattle.hph_php.specs.Builtins.{Parameter, a_text, a_number, an_array, a_value, Function, applied, call, builtin_of, least_arguments}
use Rattle.hph_php.specs.Builtins.{takes_values}
use Rattle.hph_php.specs.Imports.{Import, imports, row_named}

pub fatal_codes : map fatal_code all_fatals ≡ codes case.fatals
unfolding all_fatals case.fatals
fatal_codes = refl

-- A unary operator's code is raised by 32 there.
pub operator_codes : map binary_code binary_operators ++ map (λ o. 32 + unary_code o) unary_operators ≡ codes operator.operators
unfolding binary_operators unary_operators operator.operators
operator_codes = refl

pub builtin_codes : map builtin_code all_builtins ≡ codes builtin.builtins
unfolding all_builtins builtin.builtins
builtin_codes = refl

pub import_parameters : map (λ (i : Import). length i.type.params) imports ≡ map (λ (r : Row). r.tag) table.imports
unfolding table.imports
import_parameters = refl

pub import_names : map (λ (i : Import). row_named i.name) imports ≡ map Some (codes table.imports)
unfolding table.imports
import_names = refl

-- ---- arguments

pub least_numbers : map least_arguments all_builtins ≡ map (λ (r : Row). r.tag) builtin.builtins
unfolding all_builtins builtin.builtins
least_numbers = refl

module _ (ps : List Parameter) (ds : List Value) (function : Function ps) (vs : List Value) where
  too_few : length vs + length ds < length ps → call ps ds function vs ≡ Err TooFewArguments
  too_few h =
      ap (λ b. if b then Err TooFewArguments else (if nat_lt (length ps) (length vs) then Err BadArgument
      else applied ps function (vs ++ drop (length vs + length ds - length ps) ds))) (lt-ltb _ _ h)

-- A call of fewer arguments is TooFewArguments.
pub too_few_arguments : (x : Builtin) (vs : List Value) → takes_values x ≡ true → length vs < least_arguments x
    → (builtin_of x vs).value ≡ Err TooFewArguments
too_few_arguments f.Strlen vs t h = too_few (a_text ∷ []) [] _ vs (omega (arith, h))
too_few_arguments f.Count vs t h = too_few (an_array ∷ []) [] _ vs (omega (arith, h))
too_few_arguments f.Intdiv vs t h = too_few (a_number ∷ a_number ∷ []) [] _ vs (omega (arith, h))
too_few_arguments f.Abs vs t h = too_few (a_number ∷ []) [] _ vs (omega (arith, h))
too_few_arguments f.Ord vs t h = too_few (a_text ∷ []) [] _ vs (omega (arith, h))
too_few_arguments f.Chr vs t h = too_few (a_number ∷ []) [] _ vs (omega (arith, h))
too_few_arguments f.Substr vs t h = too_few (a_text ∷ a_number ∷ a_value ∷ []) (_ ∷ []) _ vs (omega (arith, h))
too_few_arguments f.Strpos vs t h = too_few (a_text ∷ a_text ∷ a_number ∷ []) (_ ∷ []) _ vs (omega (arith, h))
too_few_arguments f.StrRepeat vs t h = too_few (a_text ∷ a_number ∷ []) [] _ vs (omega (arith, h))
too_few_arguments f.Strrev vs t h = too_few (a_text ∷ []) [] _ vs (omega (arith, h))
too_few_arguments f.Strtolower vs t h = too_few (a_text ∷ []) [] _ vs (omega (arith, h))
too_few_arguments f.Strtoupper vs t h = too_few (a_text ∷ []) [] _ vs (omega (arith, h))
too_few_arguments f.Trim vs t h = too_few (a_text ∷ []) [] _ vs (omega (arith, h))
too_few_arguments f.Implode vs t h = too_few (a_text ∷ an_array ∷ []) [] _ vs (omega (arith, h))
too_few_arguments f.Explode vs t h = too_few (a_text ∷ a_text ∷ []) [] _ vs (omega (arith, h))
too_few_arguments f.ArrayKeys vs t h = too_few (an_array ∷ []) [] _ vs (omega (arith, h))
too_few_arguments f.ArrayValues vs t h = too_few (an_array ∷ []) [] _ vs (omega (arith, h))
too_few_arguments f.ArrayPush vs t h = absurd (true≢false (sym t))
too_few_arguments f.ArrayPop vs t h = absurd (true≢false (sym t))
too_few_arguments f.InArray vs t h = too_few (a_value ∷ an_array ∷ a_value ∷ []) (_ ∷ []) _ vs (omega (arith, h))
too_few_arguments f.ArrayKeyExists vs t h = too_few (a_value ∷ an_array ∷ []) [] _ vs (omega (arith, h))
too_few_arguments f.IsInt vs t h = too_few (a_value ∷ []) [] _ vs (omega (arith, h))
too_few_arguments f.IsString vs t h = too_few (a_value ∷ []) [] _ vs (omega (arith, h))
too_few_arguments f.IsBool vs t h = too_few (a_value ∷ []) [] _ vs (omega (arith, h))
too_few_arguments f.IsArray vs t h = too_few (a_value ∷ []) [] _ vs (omega (arith, h))
too_few_arguments f.IsNull vs t h = too_few (a_value ∷ []) [] _ vs (omega (arith, h))
too_few_arguments f.IsObject vs t h = too_few (a_value ∷ []) [] _ vs (omega (arith, h))
too_few_arguments f.VarDump [] t h = refl
too_few_arguments f.VarDump (v ∷ vs) t h = absurd (omega (arith, h))
