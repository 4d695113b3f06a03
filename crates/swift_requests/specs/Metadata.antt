-- The metadata that a request sends with an object (OpenStack Object Storage API v1, create or replace object; the limits are own).
use Rattle.std.specs.Prelude.{ℕ, Bool, ◌&&◌, nat_eq, nat_le, List, [], ◌∷◌, map, drop, length, if◌then◌else◌, codes}
use Rattle.std.specs.BTreeMap.{insert_entry}
use Rattle.std.specs.Cmp.Lexicographic.{slice_cmp}
use Rattle.std.specs.Char.{to_ascii_lowercase}
use Rattle.std.specs.List.{list_all, starts_with}
use Rattle.std.specs.Ordering.{nat_cmp}
use Rattle.std.specs.Str.{is_utf8}
use Rattle.http_model.specs.declared.field.Field.{Field}

-- ---- the pairs

abbrev pub meta_prefix : List ℕ
meta_prefix = codes "x-object-meta-"

-- the name of a field, whose case does not count
abbrev pub lower_name : Field → List ℕ
lower_name field = map to_ascii_lowercase field.name

-- the field sends a pair
abbrev pub is_meta : Field → Bool
is_meta field = starts_with nat_eq (lower_name field) meta_prefix

-- the name of that pair: what stands behind the prefix, in lower case
abbrev pub pair_name : Field → List ℕ
pair_name field = drop (length meta_prefix) (lower_name field)

-- pairs, by rising name, with that of a further field; it takes the place of one with its name
abbrev pub with_field : List (List ℕ × List ℕ) → Field → List (List ℕ × List ℕ)
with_field pairs field = if is_meta field then insert_entry (slice_cmp nat_cmp) pairs (pair_name field) field.value else pairs

-- pairs with those of further fields
abbrev pub with_fields : List (List ℕ × List ℕ) → List Field → List (List ℕ × List ℕ)
with_fields pairs [] = pairs
with_fields pairs (field ∷ fields) = with_fields (with_field pairs field) fields

-- the pairs that fields send, by rising name; of a repeated name the last value counts
unfoldable pub meta_of : List Field → List (List ℕ × List ℕ)
meta_of fields = with_fields [] fields

-- ---- what they may be

-- each value is text
abbrev pub are_texts : List (List ℕ × List ℕ) → Bool
are_texts pairs = list_all is_utf8 (map (λ (pair : List ℕ × List ℕ). pair.1) pairs)

-- the most pairs, and the most bytes of a name and of a value; a name has at least one
abbrev pub most_pairs : ℕ
most_pairs = 90

abbrev pub name_limit : ℕ
name_limit = 128

abbrev pub value_limit : ℕ
value_limit = 256

abbrev pub is_within : List ℕ × List ℕ → Bool
is_within pair = nat_le 1 (length pair.0) && (nat_le (length pair.0) name_limit && nat_le (length pair.1) value_limit)

abbrev pub are_within : List (List ℕ × List ℕ) → Bool
are_within pairs = nat_le (length pairs) most_pairs && list_all is_within pairs
