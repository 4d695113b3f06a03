-- What a request changes of a container (OpenStack Object Storage API v1, create container, and create, update or delete
-- container metadata; the limits are own).
use Rattle.std.specs.Prelude.{ℕ, Bool, ◌&&◌, ◌==◌, not, nat_eq, nat_le, List, [], ◌∷◌, drop, length, map, if◌then◌else◌, codes}
use Rattle.std.specs.BTreeMap.{insert_entry}
use Rattle.std.specs.Cmp.Lexicographic.{slice_cmp}
use Rattle.std.specs.List.{list_all, count_by, starts_with}
use Rattle.std.specs.Ordering.{nat_cmp}
use Rattle.http_model.specs.declared.field.Field.{Field}
use Rattle.http_model.specs.declared.head.Head.{Head}
use Rattle.http_model.specs.Framings.{value_of}
use Rattle.swift_requests.specs.Fields.{is_text_field}
use Rattle.swift_requests.specs.Metadata.{lower_name, are_texts, is_within, most_pairs}
use Rattle.task_container.specs.declared.request.ContainerChanges.{ContainerChanges}

-- ---- metadata

-- a field that sends a pair
abbrev pub meta_prefix : List ℕ
meta_prefix = codes "x-container-meta-"

-- a field that removes one
abbrev pub removal_prefix : List ℕ
removal_prefix = codes "x-remove-container-meta-"

-- the name of a field begins so; its case does not count
abbrev pub has_front : List ℕ → Field → Bool
has_front prefix field = starts_with nat_eq (lower_name field) prefix

-- what stands behind that, in lower case
abbrev pub name_behind : List ℕ → Field → List ℕ
name_behind prefix field = drop (length prefix) (lower_name field)

-- pairs, by rising name, with this one; it takes the place of one with its name
abbrev pub with_pair : List (List ℕ × List ℕ) → List ℕ → List ℕ → List (List ℕ × List ℕ)
with_pair pairs name value = insert_entry (slice_cmp nat_cmp) pairs name value

-- with what a further field says. A removal is an empty value, whatever the value of its field is
abbrev pub with_field : List (List ℕ × List ℕ) → Field → List (List ℕ × List ℕ)
with_field pairs field =
    if has_front meta_prefix field then with_pair pairs (name_behind meta_prefix field) field.value
    else if has_front removal_prefix field then with_pair pairs (name_behind removal_prefix field) []
    else pairs

-- with what further fields say
abbrev pub with_fields : List (List ℕ × List ℕ) → List Field → List (List ℕ × List ℕ)
with_fields pairs [] = pairs
with_fields pairs (field ∷ fields) = with_fields (with_field pairs field) fields

-- the metadata that fields set and remove, by rising name; of the fields for one name the last counts
unfoldable pub changes_of : List Field → List (List ℕ × List ℕ)
changes_of fields = with_fields [] fields

-- the value sets its name; an empty one removes it
abbrev pub is_set : List ℕ → Bool
is_set value = not (length value == 0)

-- how many names are set
abbrev pub set_count : List (List ℕ × List ℕ) → ℕ
set_count pairs = count_by is_set (map (λ (pair : List ℕ × List ℕ). pair.1) pairs)

-- at most 90 names are set, and every name and value has its size, also a name that is removed
abbrev pub are_within_limits : List (List ℕ × List ℕ) → Bool
are_within_limits pairs = nat_le (set_count pairs) most_pairs && list_all is_within pairs

-- ---- the whole change

-- what is to be text is text: the metadata, the read list and the write list
unfoldable pub has_change_texts : Head → Bool
has_change_texts head =
    are_texts (changes_of head.fields) && (is_text_field (codes "x-container-read") head && is_text_field (codes "x-container-write") head)

-- the metadata, and the lists that were sent
abbrev pub container_changes : Head → ContainerChanges
container_changes head = record {
  meta = changes_of head.fields;
  readers = value_of (codes "x-container-read") head.fields;
  writers = value_of (codes "x-container-write") head.fields;
}
