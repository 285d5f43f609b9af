-- What is taken off a host and then looked at.
use Rattle.std.proofs.Common.{◌≡◌, ◌∙◌, ℕ, List, Option, Result, Ok, Err, sym, ap, subst}
use Rattle.hph_php.specs.declared.fatal.Fatal.{Fatal}
use Rattle.hph_php.specs.declared.fatal.Fatal.TheVariants.{Misuse}
use Rattle.hph_php.specs.Answers.{Fails}
use Rattle.hph_wasm.specs.Configuration.{Stops}
use Rattle.hph_effects.specs.Hosts.{Item, HostState, Halted, Replied, popped_any, popped_as, found}
use Rattle.hph_value.specs.declared.value.Stop.{Stop}
use Rattle.hph_value.specs.declared.value.Stop.TheVariants as stop
use Rattle.hph_host_state.specs.declared.state.State.{State}
use Rattle.hph_host_state.specs.States.{seen, Ends, Tells, Takes, Finds}

ends_so : (kind : Fatal) (out : List ℕ) → kind ≡ Misuse → Ends (stop.Fatal kind) out (Stops (Halted out (Fails Misuse)) (Fails Misuse))
ends_so kind out e = ap (λ k. Stops (Halted out (Fails k)) (Fails k)) (sym e)

-- An item that is taken, and what is found in it.
pub finds_in : {A B : Type 0} (sort : Item → Option B) (f : A → B) (answer : Result A Stop) (item : Item) (old new : State)
    → ((out : List ℕ) (go : Item → HostState → Replied) → popped_any (seen out old) go ≡ go item (seen out new))
    → Finds f answer (sort item) → Takes (popped_as sort) f answer old new
finds_in sort f (Ok a) item old new took is = λ out go.
    took out (λ item below. found (sort item) (seen out old) (λ b. go b below)) ∙ ap (λ o. found o (seen out old) (λ b. go b (seen out new))) is
finds_in sort f (Err (stop.Fatal kind)) item old new took (none, is) = λ out go.
    took out (λ item below. found (sort item) (seen out old) (λ b. go b below)) ∙ ap (λ o. found o (seen out old) (λ b. go b (seen out new))) none ∙ ends_so kind out is
finds_in sort f (Err stop.NoMemory) item old new took is = λ out go. tt

-- What tells a reply tells the same one.
pub retold : (answer : Result (Option ℕ) Stop) (out : List ℕ) (reply other : Replied) (new : State) → reply ≡ other → Tells answer out other new → Tells answer out reply new
retold answer out reply other new e told = subst (λ r. Tells answer out r new) (sym e) told
