-- Which variables are assigned, as flows from what is assigned before to what is assigned after, with the reads of variables that
-- aren't. This project's own.
use Rattle.std.specs.Prelude.{◌&&◌, ◌||◌, ℕ, Bool, not, List, [], ◌∷◌, ◌++◌, map, filter, bytes_eq, if◌then◌else◌}
use Rattle.std.specs.List.{list_any}
use Rattle.hph_ast.specs.RefusedExpressions.{is_this_name}
use Rattle.hph_php.specs.State.{Name}
use Rattle.hph_typing.specs.Cells.{Appearance}

-- ---- sets of variables

-- What is assigned: variables, and whether all others that there can be are too, as behind a return, break, continue or exit.
pub record Assigned : Type 0 where
  pub names : List Name
  pub others : Bool

abbrev pub has : Name → List Name → Bool
has name names = list_any (bytes_eq name) names

abbrev pub adding : Name → Assigned → Assigned
adding name s = record s { names = name ∷ s.names }

abbrev pub without : List Name → Assigned → Assigned
without gone s = record s { names = filter (λ n. not (has n gone)) s.names }

-- what both have
abbrev pub both : Assigned → Assigned → Assigned
both s r = record { names = filter (λ n. has n r.names) s.names; others = s.others && r.others }

-- ---- flows: from what is assigned before to what is assigned after, with the reads of variables that aren't

pub record Flowed : Type 0 where
  pub after : Assigned
  pub unsure : List Appearance

abbrev pub Flow : Type 0
Flow = Assigned → Flowed

abbrev pub pass : Flow
pass s = record { after = s; unsure = [] }

abbrev pub changes : (Assigned → Assigned) → Flow
changes f s = record { after = f s; unsure = [] }

-- one after the other
abbrev pub first : Flow → Flow → Flow
first f g s = onward (f s)
  where
    joined : List Appearance → Flowed → Flowed
    joined unsure y = record y { unsure = unsure ++ y.unsure }

    onward : Flowed → Flowed
    onward x = joined x.unsure (g x.after)

abbrev pub all : List Flow → Flow
all [] = pass
all (f ∷ fs) = first f (all fs)

-- what it adds is dropped
abbrev pub aside : Flow → Flow
aside f s = record { after = s; unsure = (f s).unsure }

abbrev pub all_aside : List Flow → Flow
all_aside fs = all (map aside fs)

abbrev pub either_of : Flowed → Flowed → Flowed
either_of x y = record { after = both x.after y.after; unsure = x.unsure ++ y.unsure }

-- one of two: what both have
abbrev pub either : Flow → Flow → Flow
either f g s = either_of (f s) (g s)

abbrev pub adds : Name → Flow
adds name = changes (adding name)

abbrev pub takes_away : List Name → Flow
takes_away names = changes (without names)

-- a read of a variable
abbrev pub reads : ℕ → Name → Flow
reads place name s = record {
  after = s;
  unsure = if is_this_name name || has name s.names then [] else record { place = place; name = name } ∷ [];
}
