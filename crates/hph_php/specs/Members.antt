-- Members of classes and who may use them (PHP manual, Object Inheritance, Visibility). A private member is seen in the class
-- that declares it, a protected one in that class, its ancestors and its descendants.
use Rattle.std.specs.Prelude.{◌==◌, ◌&&◌, ◌||◌, ℕ, Bool, true, false, not, List, [], ◌∷◌, Option, None, Some, bytes_eq, find, if◌then◌else◌}
use Rattle.std.specs.List.{list_any}
use Rattle.std.specs.Option.{option_map_or, ok_or}
use Rattle.hph_php.specs.declared.fatal.Fatal.{Fatal}
use Rattle.hph_php.specs.declared.fatal.Fatal.TheVariants.{Inaccessible, UndefinedMethod, UndefinedProperty, UndefinedConstant}
use Rattle.std.specs.Prelude.{Result, Ok, Err}
use Rattle.hph_php.specs.Conversions.{and_then}
use Rattle.hph_php.specs.State.{Heap, Class, Member, Name, folded, Visibility, Public, Protected, Private}

-- A class, its parent, the parent's parent and so on. A class is declared after its parent, so it stands before it here.
abbrev pub line_from : List Class → ℕ → List Class
line_from [] number = []
line_from (c ∷ cs) number = if c.number == number then c ∷ option_map_or (line_from cs) c.parent [] else line_from cs number

abbrev pub lineage : Heap → ℕ → List Class
lineage heap number = line_from heap.classes number

-- a class is another one or has it as an ancestor
abbrev pub is_kind_of : Heap → ℕ → ℕ → Bool
is_kind_of heap number other = list_any (λ (c : Class). c.number == other) (lineage heap number)

-- a member, and the number of the class that declares it
pub record Declared : Type 0 where
  pub class : ℕ
  pub member : Member

-- the member of the nearest class that has one
abbrev pub nearest : (Class → List Member) → (Member → Bool) → List Class → Option Declared
nearest members test [] = None
nearest members test (c ∷ cs) =
    option_map_or (λ m. Some (record { class = c.number; member = m })) (find test (members c)) (nearest members test cs)

abbrev pub method_of : Heap → ℕ → Name → Option Declared
method_of heap number name = nearest (λ c. c.methods) (λ m. bytes_eq (folded name) (folded m.name)) (lineage heap number)

abbrev pub constant_of : Heap → ℕ → Name → Option Declared
constant_of heap number name = nearest (λ c. c.constants) (λ m. bytes_eq name m.name) (lineage heap number)

abbrev pub property_of : Heap → ℕ → Name → Option Declared
property_of heap number name = nearest (λ c. c.properties) (λ m. not m.is_static && bytes_eq name m.name) (lineage heap number)

abbrev pub static_property_of : Heap → ℕ → Name → Option Declared
static_property_of heap number name = nearest (λ c. c.properties) (λ m. m.is_static && bytes_eq name m.name) (lineage heap number)

-- a member is seen in code of a class, or of none
abbrev pub is_seen_by : Heap → Visibility → ℕ → Option ℕ → Bool
is_seen_by heap Public declaring within = true
is_seen_by heap Protected declaring None = false
is_seen_by heap Protected declaring (Some c) = is_kind_of heap c declaring || is_kind_of heap declaring c
is_seen_by heap Private declaring None = false
is_seen_by heap Private declaring (Some c) = c == declaring

abbrev pub is_seen : Heap → Option ℕ → Declared → Bool
is_seen heap within d = is_seen_by heap d.member.visibility d.class within

-- a member that code of a class may use
abbrev pub seen : Heap → Option ℕ → Declared → Result Declared Fatal
seen heap within d = if is_seen heap within d then Ok d else Err Inaccessible

-- a member that is there and may be used
abbrev pub usable : Heap → Option ℕ → Fatal → Option Declared → Result Declared Fatal
usable heap within missing d = and_then (ok_or d missing) (seen heap within)

abbrev pub method_for : Option ℕ → ℕ → Name → Heap → Result Declared Fatal
method_for within class name heap = usable heap within UndefinedMethod (method_of heap class name)

abbrev pub static_property_for : Option ℕ → ℕ → Name → Heap → Result Declared Fatal
static_property_for within class name heap = usable heap within UndefinedProperty (static_property_of heap class name)

-- all code may use a constant
abbrev pub constant_for : ℕ → Name → Heap → Result Declared Fatal
constant_for class name heap = ok_or (constant_of heap class name) UndefinedConstant
