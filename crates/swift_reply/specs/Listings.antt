-- The texts of listings (OpenStack Object Storage API v1, accounts and containers; JSON is RFC 8259's).
use Rattle.std.specs.Prelude.{ℕ, List, [], ◌∷◌, ◌++◌, map, flat_map, if◌then◌else◌, codes}
use Rattle.serde_json.specs.Data.{Data, number, string, array, object, no_members, put, unsigned}
use Rattle.serde_json.specs.View.{items_of}
use Rattle.serde_json.specs.Written.{compact_text}
use Rattle.hex.specs.Hex.{encode_lower}
use Rattle.list_words.specs.declared.row.ListedRow.{ListedRow}
use Rattle.list_words.specs.declared.row.ListedRow.TheVariants.{Thing, Subdir}
use Rattle.list_words.specs.declared.row.ListedThing.{ListedThing}
use Rattle.list_words.specs.Listings.{row_key}
use Rattle.list_words.specs.declared.row.AccountRow.{AccountRow}
use Rattle.swift_reply.specs.Moments.{moment_text}

-- ---- plain listings

-- a key with a line feed after it
abbrev pub key_line : List ℕ → List ℕ
key_line key = key ++ 10 ∷ []

abbrev pub plain_text : List ListedRow → List ℕ
plain_text rows = flat_map (λ row. key_line (row_key row)) rows

abbrev pub plain_account_text : List AccountRow → List ℕ
plain_account_text rows = flat_map (λ (row : AccountRow). key_line row.name) rows

-- ---- JSON listings: the compact text of one array, its members by rising name

-- the row of an object
abbrev pub thing_data : List ℕ → ListedThing → Data
thing_data name thing = object (
    put (codes "name") (string name)
    (put (codes "hash") (string (encode_lower thing.etag))
    (put (codes "bytes") (number (unsigned thing.size))
    (put (codes "content_type") (string thing.kind)
    (put (codes "last_modified") (string (moment_text thing.stamp.micros)) no_members)))))

-- the row of a front that names have in common
abbrev pub subdir_data : List ℕ → Data
subdir_data key = object (put (codes "subdir") (string key) no_members)

-- the row of a container
abbrev pub container_data : List ℕ → ℕ → ℕ → Data
container_data name count bytes = object (
    put (codes "name") (string name)
    (put (codes "count") (number (unsigned count))
    (put (codes "bytes") (number (unsigned bytes)) no_members)))

abbrev pub row_data : ListedRow → Data
row_data (Thing name thing) = thing_data name thing
row_data (Subdir key) = subdir_data key

abbrev pub account_row_data : AccountRow → Data
account_row_data row =
    if row.subdir then subdir_data row.name else container_data row.name row.count row.bytes

abbrev pub json_text : List ListedRow → List ℕ
json_text rows = compact_text (array (items_of (map row_data rows)))

abbrev pub json_account_text : List AccountRow → List ℕ
json_account_text rows = compact_text (array (items_of (map account_row_data rows)))
