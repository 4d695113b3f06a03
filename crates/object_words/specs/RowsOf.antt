-- What contracts see of a row.
use Rattle.object_words.specs.declared.entry.EntryRow.TheInside.{Inside}
use Rattle.object_words.specs.Rows.{RowView}

-- the fields of a row
abbrev pub row_view : Inside → RowView
row_view row = record { exists = row.exists; size = row.size; stamp = row.stamp; etag = row.etag; kind = row.kind }
