-- What each call does to a shard: why it is refused, and what it leaves, which is the shard as it was where it is refused
-- (developer documents of the bucket index: prepare, complete, suggest).
use Rattle.std.specs.Prelude.{ℕ, ◌==◌, ◌&&◌, not, nat_lt, nat_le, List, take, length, Option, Some, None, if◌then◌else◌}
use Rattle.std.specs.Ordering.{is_lt}
use Rattle.object_words.specs.declared.entry.Tag.{Tag}
use Rattle.object_words.specs.declared.entry.EntryPage.{EntryPage}
use Rattle.object_words.specs.declared.why.Why.{Why}
use Rattle.object_words.specs.declared.why.Why.TheVariants.{NoTag, Stale}
use Rattle.object_words.specs.declared.log.LogWhat.TheVariants.{Name}
use Rattle.object_words.specs.Names.{name_cmp, entries, where_name}
use Rattle.object_words.specs.Rows.{RowView}
use Rattle.object_words.specs.Tags.{has_tag, with_tag, without_tag, has_due, tags_due_taken}
use Rattle.object_words.specs.Entries.{EntryView, with_tags, stored_if_newer}
use Rattle.object_words.specs.Logs.{Log, logged}
use Rattle.object_words.specs.Shards.{Shard, new_shard, entry_at, with_entry}
use Rattle.object_words.specs.Refusals.{first_refusal, unless_refused, change_refusal}

-- ---- make

-- a shard that is there stays
abbrev pub made : Option Shard → Option Shard
made None = Some new_shard
made (Some s) = Some s

-- ---- prepare

-- the shard takes no change
abbrev pub prepare_refusal : Shard → Option Why
prepare_refusal s = change_refusal s

-- the entry has one tag more; a name that has no entry gets one
abbrev pub prepared : Shard → List ℕ → Tag → Shard
prepared s name tag =
    let e = entry_at s name in unless_refused (prepare_refusal s) s (with_entry s name (with_tags e (with_tag tag e.tags)))

-- ---- complete, cancel, suggest

-- a change with a greater version is logged
abbrev pub logged_if_newer : Log → ℕ → List ℕ → ℕ → Log
logged_if_newer log kept name version = if nat_lt kept version then logged log (Name name) else log

-- the entry has these tags, and the row where the version is greater
abbrev pub settled : Shard → List ℕ → List Tag → ℕ → RowView → Shard
settled s name tags version row =
    let e = entry_at s name in
    with_entry (record s { log = logged_if_newer s.log e.version name version }) name (stored_if_newer (with_tags e tags) version row)

-- the tag is not in the entry
abbrev pub tag_refusal : EntryView → ℕ → Option Why
tag_refusal e tag = if has_tag tag e.tags then None else Some NoTag

-- the shard takes no change; then the tag is not there
abbrev pub complete_refusal : Shard → List ℕ → ℕ → Option Why
complete_refusal s name tag = first_refusal (change_refusal s) (tag_refusal (entry_at s name) tag)

-- the tag is gone, and the row is stored where its version is greater
abbrev pub completed : Shard → List ℕ → ℕ → ℕ → RowView → Shard
completed s name tag version row =
    unless_refused (complete_refusal s name tag) s (settled s name (without_tag tag (entry_at s name).tags) version row)

-- the tag is gone, and nothing is stored
abbrev pub cancelled : Shard → List ℕ → ℕ → Shard
cancelled s name tag =
    let e = entry_at s name in
    unless_refused (complete_refusal s name tag) s (with_entry s name (with_tags e (without_tag tag e.tags)))

-- the entry changed since it was seen
abbrev pub stale_refusal : EntryView → ℕ → Option Why
stale_refusal e revision = if e.revision == revision then None else Some (Stale e.revision)

-- the shard takes no change; then the entry changed since it was seen
abbrev pub suggest_refusal : Shard → List ℕ → ℕ → Option Why
suggest_refusal s name revision = first_refusal (change_refusal s) (stale_refusal (entry_at s name) revision)

-- where a tag is due by the moment at which the entry was seen
abbrev pub suggested : Shard → List ℕ → ℕ → ℕ → ℕ → RowView → Shard
suggested s name revision seen version row =
    unless_refused (suggest_refusal s name revision) s (settled s name (tags_due_taken seen (entry_at s name).tags) version row)

-- an event that suggests is refused besides, and first, where the entry is as it was seen and has no tag that was due then
abbrev pub untimely_refusal : Shard → List ℕ → ℕ → ℕ → Option Why
untimely_refusal s name revision seen =
    let e = entry_at s name in if e.revision == revision && not (has_due seen e.tags) then Some (Stale e.revision) else None

-- ---- page

-- the entries above a name
abbrev pub entries_after : Shard → List ℕ → List (List ℕ × EntryView)
entries_after s after = entries (where_name (λ name. is_lt (name_cmp after name)) s.entries)

-- the first ones above a name, and whether they are all
abbrev pub page_of : Shard → List ℕ → ℕ → ℕ → EntryPage
page_of s after limit clock =
    let rows = entries_after s after in record { rows = take limit rows; end = nat_le (length rows) limit; clock = clock }
