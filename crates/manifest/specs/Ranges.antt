-- The parts of an object (Ceph manual, Data Layout), and what a range of its bytes is in them. Part 0 is
-- the head, and part k the tail k.
use Rattle.std.specs.Prelude.{◌≡◌, ℕ, ◌+◌, ◌-◌, ◌*◌, ◌<◌, ◌≤◌, ◌==◌, min, Bool, not, List, [], map, filter, flat_map, length, take, drop, slice_index_or}
use Rattle.std.specs.List.{range_with_len}
use Rattle.rgw_types.specs.Stripes.{ManifestView, tails_of}
use Rattle.rgw_types.specs.declared.pool_key.TheConstants.{LAST_PART}
use Rattle.manifest.specs.declared.parts.Part.{Part}

-- how many bytes a part has: a whole stripe, or what the object has left
abbrev pub part_size : ManifestView → ℕ → ℕ
part_size m k = min m.stripe (m.size - k * m.stripe)

-- the numbers of the parts
abbrev pub part_numbers : ManifestView → List ℕ
part_numbers m = range_with_len 0 (tails_of m + 1)

-- what the bytes start to start + count of the object are in part k, whose own first byte is the object's
-- byte k * stripe; a part that has none of them gives a count of 0
abbrev pub piece_at : ManifestView → ℕ → ℕ → ℕ → Part
piece_at m start count k =
    let before = k * m.stripe in
    record { part = k; start = start - before; count = min (start + count - before) (part_size m k) - (start - before) }

-- all the bytes of part k
abbrev pub whole_part : ManifestView → ℕ → Part
whole_part m k = record { part = k; start = 0; count = part_size m k }

abbrev pub has_bytes : Part → Bool
has_bytes p = not (p.count == 0)

-- a range in the parts that have bytes of it, in order
abbrev pub parts_of : ManifestView → ℕ → ℕ → List Part
parts_of m start count = filter has_bytes (map (piece_at m start count) (part_numbers m))

-- a piece is not empty and lies in a part that the object has
pub record IsWithin (m : ManifestView) (p : Part) : Type 0 where
  pub is_part : p.part ≤ tails_of m
  pub is_numbered : p.part ≤ LAST_PART
  pub is_filled : 0 < p.count
  pub is_inside : p.start + p.count ≤ part_size m p.part

-- each part's bytes, where they have as many as the manifest says
abbrev pub AreContents : ManifestView → List (List ℕ) → Type 0
AreContents m contents = map length contents ≡ map (part_size m) (part_numbers m)

-- the bytes of a piece
abbrev pub piece_bytes : List (List ℕ) → Part → List ℕ
piece_bytes contents p = take p.count (drop p.start (slice_index_or contents p.part []))

-- the bytes of the pieces, one after another
abbrev pub bytes_along : List (List ℕ) → List Part → List ℕ
bytes_along contents parts = flat_map (piece_bytes contents) parts
