-- Rows that declare a class: its name and parent, its members one by one, and its end.
use Rattle.std.specs.Prelude.{ℕ, Bool, true, false, not, List, [], ◌∷◌, ◌++◌, slice_get, Option, None, Some, is_some, bytes_eq}
use Rattle.std.specs.List.{list_any}
use Rattle.hph_php.specs.Values.{Null, Str}
use Rattle.hph_php.specs.State.{Class, Member, Name, Visibility, Public, Protected, Private, folded, joined, with_class, class_numbered}
use Rattle.hph_php.specs.Executions.{begin_class}
use Rattle.hph_effects.specs.Hosts.{Item, a_value, HostState, Replied, done, with_heap, on_ok, found, only_if, popped_as, popped_text}

-- no class is being declared yet
abbrev pub opened_class : ℕ → Name → Option ℕ → HostState → HostState
opened_class k name parent h = record h {
  declaring = Some (record { name = folded name; number = k; parent = parent; constants = []; properties = []; methods = []; initial = 0 });
}

-- A declaration that was made isn't made again.
abbrev pub begun : ℕ → Name → Option Name → HostState → Replied
begun k name parent h = on_ok (begin_class name parent h.core.heap) h (λ number.
    only_if (not (is_some (class_numbered k h.core.heap))) h (done (opened_class k name number h)))

-- null for no parent, or a name
abbrev pub the_parent : Item → Option (Option Name)
the_parent (a_value Null) = Some None
the_parent (a_value (Str name)) = Some (Some name)
the_parent _ = None

abbrev pub class_begin : ℕ → HostState → Replied
class_begin k h = popped_as the_parent h (λ parent h. popped_text h (λ name h.
    only_if (not (is_some h.declaring)) h (begun k name parent h)))

-- ---- members

-- access 0 to 2, plus 4 for static
pub record Flags : Type 0 where
  pub visibility : Visibility
  pub is_static : Bool

abbrev pub flagged : Visibility → Bool → Option Flags
flagged visibility is_static = Some (record { visibility = visibility; is_static = is_static })

abbrev pub flags_with : ℕ → Option Flags
flags_with n = joined (slice_get
    (flagged Public false ∷ flagged Protected false ∷ flagged Private false ∷ None
    ∷ flagged Public true ∷ flagged Protected true ∷ flagged Private true ∷ []) n)

abbrev pub member_of : Name → ℕ → Flags → Member
member_of name code flags = record { name = name; visibility = flags.visibility; is_static = flags.is_static; code = code }

abbrev pub is_in : Name → List Member → Bool
is_in name members = list_any (λ (m : Member). bytes_eq name m.name) members

abbrev pub is_in_any_case : Name → List Member → Bool
is_in_any_case name members = list_any (λ (m : Member). bytes_eq (folded name) (folded m.name)) members

-- a class that is being declared gets a member that it hasn't yet
abbrev pub added : Bool → Class → HostState → Replied
added is_there class h = only_if (not is_there) h (done (record h { declaring = Some class }))

abbrev pub add_method : Member → Class → HostState → Replied
add_method m c h = added (is_in_any_case m.name c.methods) (record c { methods = c.methods ++ m ∷ [] }) h

abbrev pub add_property : Member → Class → HostState → Replied
add_property m c h = added (is_in m.name c.properties) (record c { properties = c.properties ++ m ∷ [] }) h

abbrev pub add_constant : Member → Class → HostState → Replied
add_constant m c h = added (is_in m.name c.constants) (record c { constants = c.constants ++ m ∷ [] }) h

abbrev pub member : (Member → Class → HostState → Replied) → ℕ → ℕ → HostState → Replied
member add code flags h = popped_text h (λ name h. found (flags_with flags) h (λ fs.
    found h.declaring h (λ c. add (member_of name code fs) c h)))

abbrev pub class_method : ℕ → ℕ → HostState → Replied
class_method code flags h = member add_method code flags h

abbrev pub class_prop : ℕ → ℕ → HostState → Replied
class_prop code flags h = member add_property code flags h

-- a class constant is public and static
abbrev pub class_const : ℕ → HostState → Replied
class_const code h = member add_constant code 4 h

abbrev pub declare : Class → ℕ → HostState → HostState
declare c code h = with_heap (with_class (record c { initial = code })) (record h { declaring = None })

abbrev pub class_end : ℕ → HostState → Replied
class_end code h = found h.declaring h (λ c. done (declare c code h))
