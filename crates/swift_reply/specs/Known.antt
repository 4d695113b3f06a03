-- What the known replies are replies with.
use Rattle.std.specs.Prelude.{ℕ, true, false, List, [], ◌∷◌, Option, codes}
use Rattle.http_model.specs.declared.reply.ReplyForm.{ReplyForm}
use Rattle.rgw_types.specs.declared.stamp.Stamp.{Stamp}
use Rattle.swift_reply.specs.declared.reply.ContainerCounts.{ContainerCounts}
use Rattle.swift_reply.specs.declared.reply.ShownObject.{ShownObject}
use Rattle.list_words.specs.declared.row.AccountRow.{AccountRow}
use Rattle.list_words.specs.declared.row.ListedRow.{ListedRow}
use Rattle.list_words.specs.declared.row.ListedRow.TheVariants.{Thing}

-- the connection goes on
abbrev pub open_form : ReplyForm
open_form = record { bodiless = false; close = false }

-- the connection is closed
abbrev pub closing_form : ReplyForm
closing_form = record { bodiless = false; close = true }

-- to HEAD
abbrev pub bodiless_form : ReplyForm
bodiless_form = record { bodiless = true; close = false }

-- the 14th of November 2023 at 22:13:20, in zone 1
abbrev pub november : Stamp
november = record { micros = 1700000000000000; zone = 1 }

-- the MD5 digest of `hello`
abbrev pub hello_etag : List ℕ
hello_etag = 93 ∷ 65 ∷ 64 ∷ 42 ∷ 188 ∷ 75 ∷ 42 ∷ 118 ∷ 185 ∷ 113 ∷ 157 ∷ 145 ∷ 16 ∷ 23 ∷ 197 ∷ 146 ∷ []

-- the MD5 digest of no bytes
abbrev pub empty_etag : List ℕ
empty_etag = 212 ∷ 29 ∷ 140 ∷ 217 ∷ 143 ∷ 0 ∷ 178 ∷ 4 ∷ 233 ∷ 128 ∷ 9 ∷ 152 ∷ 236 ∷ 248 ∷ 66 ∷ 126 ∷ []

-- an object that was stored then
abbrev pub object_of : ℕ → List (List ℕ × List ℕ) → Option ℕ → ShownObject
object_of size meta expires = record {
  kind = codes "text/plain";
  meta = meta;
  etag = hello_etag;
  stamp = november;
  size = size;
  expires = expires;
}

-- the row of an object that was stored then
abbrev pub row_of : List ℕ → ℕ → List ℕ → ListedRow
row_of name size etag = Thing name (record {
  size = size;
  stamp = november;
  etag = etag;
  kind = codes "text/plain";
})

abbrev pub docs_row : AccountRow
docs_row = record { name = codes "docs"; count = 1; bytes = 5; subdir = false }

abbrev pub front_row : AccountRow
front_row = record { name = codes "a/"; count = 0; bytes = 0; subdir = true }

-- what is shown of a container with three objects, to its own users or to others
abbrev pub own_counts : ContainerCounts
own_counts = record {
  objects = 3;
  bytes = 12;
  meta = (codes "color", codes "red") ∷ [];
  readers = codes ".r:*,acme";
  writers = [];
  own = true;
}

abbrev pub foreign_counts : ContainerCounts
foreign_counts = record own_counts { own = false }

-- a quotation mark, a backslash, six control characters, DEL and one character of two bytes
abbrev pub odd_name : List ℕ
odd_name = 113 ∷ 34 ∷ 92 ∷ 1 ∷ 8 ∷ 9 ∷ 10 ∷ 12 ∷ 13 ∷ 31 ∷ 127 ∷ 195 ∷ 169 ∷ []
