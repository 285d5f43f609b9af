-- A small program with a class and what it prints, as PHP 8.2 does.
use Rattle.std.proofs.Common.{◌≡◌, ◌+◌, ℕ, List, [], ◌∷◌, refl, codes, ◌∙◌, false, Some, None, String, Global}
use Rattle.std.specs.Fmt.{digits}
use denote.Hole.Carrier.{out, roll, shown, hidden}
use Rattle.hph_ast.specs.declared.class.Member.TheBlock.{shown-the_row-Function-1, shown-the_row-Class-3}
use Rattle.hph_ast.specs.declared.token.At.{At}
use Rattle.hph_ast.specs.declared.token.Identifier.{Identifier}
use Rattle.hph_ast.specs.declared.expr.Expr.{Expr, roll-Expr}
use Rattle.hph_ast.specs.declared.expr.Step.{Step, roll-Step}
use Rattle.hph_ast.specs.declared.expr.MemberName.{MemberName, roll-MemberName}
use Rattle.hph_ast.specs.declared.expr.ClassReference.{ClassReference, roll-ClassReference}
use Rattle.hph_ast.specs.declared.expr.ClassReference.TheOpen.{ClassReference-F, Expr-F, MemberName-F, Step-F}
use Rattle.hph_ast.specs.declared.stmt.Statement.{Statement, roll-Statement, out-Statement}
use Rattle.hph_ast.specs.declared.stmt.Case.{Case}
use Rattle.hph_ast.specs.declared.stmt.ElseIf.{ElseIf}
use Rattle.hph_ast.specs.declared.function.Function.{Function, roll-Function}
use Rattle.hph_ast.specs.declared.class.Class.{Class, roll-Class}
use Rattle.hph_ast.specs.declared.class.Member.{Member, roll-Member, out-Member}
use Rattle.hph_ast.specs.declared.class.Modifiers.{Modifiers}
use Rattle.hph_ast.specs.declared.class.Access.TheVariants as access
use Rattle.hph_ast.specs.declared.class.Member.TheOpen.{Class-F, Statement-F, Member-F}
use Rattle.hph_php.specs.State.{Name}
use Rattle.hph_wasm.specs.Outcome as outcome
use Rattle.hph_wasm.specs.Outcome.{Done}
use Rattle.hph_php.specs.Answers.{Means, bind, give}
use Rattle.hph_php.specs.Values.{Value}
use Rattle.hph_php.specs.Paths.{by_property}
use Rattle.hph_php.specs.World.{World, Context}
use Rattle.hph_php.specs.Declarations.{Codes, a_body, initial_values, site_at, placed_at}
use Rattle.hph_php.specs.Targets.{Reading, valued}
use Rattle.hph_php.specs.Classes.{named_class, call_method, new_object}
use Rattle.hph_php.specs.Operations.{variable}
use Rattle.hph_php.specs.Expressions.{path}
use Rattle.hph_php.specs.Statements.{Way, goes_on, block}
use Rattle.hph_php.specs.Executions.{class_statement}
use Rattle.hph_php.specs.Files.{entering}
use Rattle.hph_php.specs.Run as run
use Rattle.hph_php.specs.Run.{Meanings, meanings_of, outcome_of, a_function, initials, in_body, in_class, result_of}
use Rattle.hph_php.proofs.Levels.{step_meaning, reading_rolled, class_rolled, member_rolled, step_rolled, statement_rolled, class_place_rolled}
use Rattle.hph_php.proofs.RunExamples.{at0, int, var, sets, does, shows, gives, Reads, Does, AllDone, int_reads, var_reads, sets_reads, does_does, shows_does, gives_does, none_done, and_done, file}

abbrev at_offset : ℕ → At
at_offset n = record { start = n; end = n + 1; site = 0 }

abbrev named_at : ℕ → Name → Identifier
named_at n name = record { start = n; end = n + 1; spelled = name }

-- `$this->p`
abbrev member_named : Name → MemberName
member_named name = roll-MemberName (MemberName-F.Named name)

abbrev step_p : Step
step_p = roll-Step (Step-F.Property at0 (member_named (codes "p")))

abbrev this_p : Expr
this_p = roll-Expr (Expr-F.Path at0 (var (codes "this")) (step_p ∷ []))

-- `function m() { return $this->p; }`
abbrev method_body : List Statement
method_body = gives this_p ∷ []

abbrev method_m : Function
method_m = roll-Function (record { at = at_offset 30; name = named_at 31 (codes "m"); params = []; result = None; body = method_body })

abbrev public : Modifiers
public = record { access = Some access.Public; is_static = false }

-- `class A { public $p = 5; public function m() { return $this->p; } }`
abbrev class_layer : Class-F Member Statement Class Function Case ElseIf
class_layer = record {
  at = at_offset 20;
  name = named_at 21 (codes "A");
  parent = None;
  members = roll-Member (Member-F.Properties at0 public None (record { name = named_at 25 (codes "p"); value = Some (int 5) } ∷ []))
      ∷ roll-Member (Member-F.Method at0 public method_m) ∷ [];
}

abbrev class_a : Class
class_a = roll-Class class_layer

-- `new A`, `$a->m()`
abbrev ref_a : ClassReference
ref_a = roll-ClassReference (ClassReference-F.ByName at0 (codes "A"))

abbrev new_a : Expr
new_a = roll-Expr (Expr-F.New at0 ref_a [])

abbrev call_m : Expr
call_m = roll-Expr (Expr-F.MethodCall at0 (var (codes "a")) (member_named (codes "m")) [])

-- ---- what they mean

step_means : (w : World) (c : Context) → step_meaning w c step_p ≡ give (by_property (codes "p"))
step_means w c = step_rolled w c (Step-F.Property at0 (member_named (codes "p")))
    ∙ (λ i. give (by_property (member_rolled w c (MemberName-F.Named (codes "p")) i)))

this_reads : Reads this_p
this_reads = record {
  as_ = λ w c. path w c (variable (codes "this")) (give (by_property (codes "p")) ∷ []);
  is = λ w c. reading_rolled w c (Expr-F.Path at0 (var (codes "this")) (step_p ∷ []))
      ∙ (λ i. path w c ((var_reads (codes "this")).is w c i) (step_means w c i ∷ []));
}

new_reads : Reads new_a
new_reads = record {
  as_ = λ w c. valued (new_object w c (named_class (codes "A")) []);
  is = λ w c. reading_rolled w c (Expr-F.New at0 ref_a [])
      ∙ (λ i. valued (new_object w c (class_rolled w c (ClassReference-F.ByName at0 (codes "A")) i) []));
}

call_reads : Reads call_m
call_reads = record {
  as_ = λ w c. valued (call_method w c (variable (codes "a")).value (codes "m") []);
  is = λ w c. reading_rolled w c (Expr-F.MethodCall at0 (var (codes "a")) (member_named (codes "m")) [])
      ∙ (λ i. valued (call_method w c ((var_reads (codes "a")).is w c i).value (member_rolled w c (MemberName-F.Named (codes "m")) i) []));
}

class_does : Does (roll-Statement (Statement-F.Class class_a))
class_does = record {
  as_ = λ w c. goes_on (class_statement w c 20);
  is = λ w c. statement_rolled w c (Statement-F.Class class_a) ∙ (λ i. goes_on (class_statement w c (class_place_rolled w c class_layer i)));
}

-- ---- the program

-- the class, and `$a = new A; echo $a->m();`
abbrev statements : List Statement
statements = roll-Statement (Statement-F.Class class_a) ∷ does (sets (codes "a") new_a) ∷ shows call_m ∷ []

statements_done : AllDone statements
statements_done = and_done class_does (and_done (does_does (sets_reads (codes "a") new_reads)) (and_done (shows_does call_reads) none_done))

method_done : AllDone method_body
method_done = and_done (gives_does this_reads) none_done

abbrev program : Codes
program = record {
  paths = codes "m.php" ∷ [];
  classes = record { site = site_at 0 20; class = class_a } ∷ [];
  codes = placed_at 0 30 (a_body method_m (Some 0) false) ∷ placed_at 0 20 (initial_values ((codes "p", Some (int 5)) ∷ []) 0) ∷ [];
  statics = [];
}

abbrev initial_p : (World → Context → Reading) → World → Means (List (Name × Value))
initial_p r w = bind (r w (in_class program 0 0)).value (λ v. bind (give []) (λ rest. give ((codes "p", v) ∷ rest)))

abbrev meaning : (World → Context → List (Means Way)) → (World → Context → List (Means Way)) → (World → Context → Reading) → Meanings
meaning m k r = record {
  files = (λ w. entering program 0 statements (λ c. m w c)) ∷ [];
  routines = a_function (λ w. []) (λ w. bind (block (k w (in_body program 0 (Some 0)))) (λ way. give (result_of way))) ∷ initials 0 (initial_p r) ∷ [];
}

module _ (path : String Global) where
  by_meaning : (n : ℕ) → outcome_of (run.run (meanings_of (file path statements ∷ []) program) n)
      ≡ outcome_of (run.run (meaning statements_done.as_ method_done.as_ (int_reads 5).as_) n)
  unfolding out roll
  by_meaning n = λ i. outcome_of (run.run (meaning (λ w c. statements_done.is w c i) (λ w c. method_done.is w c i) (λ w c. (int_reads 5).is w c i)) n)

  -- a unit for the file and one for the call
  prints_property : (outcome_of (run.run (meanings_of (file path statements ∷ []) program) 2) ≡ record { output = codes "5"; end = Done })
      × (outcome_of (run.run (meanings_of (file path statements ∷ []) program) 1) ≡ record { output = []; end = outcome.More })
  unfolding statements_done method_done this_reads new_reads call_reads class_does out-Statement roll-Statement out-Member roll-Member shown-the_row-Function-1 shown-the_row-Class-3 shown hidden out roll digits
  prints_property = (by_meaning 2 ∙ refl, by_meaning 1 ∙ refl)
