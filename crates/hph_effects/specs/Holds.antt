-- Rows of the hold stack: items that wait, and the iterators of foreach.
use Rattle.std.specs.Prelude.{List, [], ◌∷◌}
use Rattle.hph_php.specs.Conversions.{value_of_key}
use Rattle.hph_php.specs.Statements.{turns_of}
use Rattle.hph_effects.specs.Hosts.{Held, an_item, an_iterator, HostState, Replied, misuse, done, gives, with_holds, hold_on, push, push_item, on_ok, popped, popped_item}

abbrev pub hold : HostState → Replied
hold h = popped_item h (λ item h. done (hold_on (an_item item) h))

abbrev pub copied : List Held → HostState → Replied
copied (an_item item ∷ holds) h = done (push_item item h)
copied _ h = misuse h

abbrev pub held : HostState → Replied
held h = copied h.holds h

abbrev pub let_go : List Held → HostState → Replied
let_go [] h = misuse h
let_go (x ∷ holds) h = done (with_holds holds h)

abbrev pub unhold : HostState → Replied
unhold h = let_go h.holds h

abbrev pub iter : HostState → Replied
iter h = popped h (λ v h. on_ok (turns_of v) h (λ pairs. done (hold_on (an_iterator pairs) h)))

-- the next pair, if there is one
abbrev pub turned : List Held → HostState → Replied
turned (an_iterator [] ∷ holds) h = gives 0 h
turned (an_iterator (p ∷ ps) ∷ holds) h = gives 1 (push p.1 (push (value_of_key p.0) (with_holds (an_iterator ps ∷ holds) h)))
turned _ h = misuse h

abbrev pub next : HostState → Replied
next h = turned h.holds h
