-- What an actor may do next: tests of its phase and the operation alone.
use Rattle.std.specs.Prelude.{ℕ, ◌+◌, ◌==◌, ◌&&◌, ◌||◌, not, Bool, true, false, nat_lt, nat_le, List, bytes_eq, length, map, Option, Some, None, is_some, if◌then◌else◌}
use Rattle.std.specs.Cmp.Lexicographic.{pointwise}
use Rattle.std.specs.List.{list_any, list_all, range_with_len}
use Rattle.rgw_types.specs.declared.pool_key.Key.{Key}
use Rattle.rgw_types.specs.Stripes.{ManifestView, tails_of}
use Rattle.manifest.specs.Ranges.{part_size}
use Rattle.object_words.specs.declared.bucket.Bucket.{Bucket}
use Rattle.object_words.specs.declared.bucket.Busy.{Busy}
use Rattle.object_words.specs.declared.head.NewHead.{NewHead}
use Rattle.object_words.specs.declared.entry.Guard.{Guard}
use Rattle.object_words.specs.Keys.{is_key, shard_key, container_of, instance_of, number_of}
use Rattle.object_words.specs.Names.{Named, at, entries}
use Rattle.object_words.specs.Hashes.{shard_of}
use Rattle.object_words.specs.Rows.{RowView}
use Rattle.object_words.specs.Limits.{is_name, shard_limit}
use Rattle.object_words.specs.Roots.{is_same_pair, shares_all}
use Rattle.realm_model.specs.Tests.{same_flag, same_guard, same_row, same_numbers, is_so}
use Rattle.realm_model.specs.Phases.{RowRead, OwnChange, Stage, pending, tried, over, OwnTag, Sighting, Bundle, unused, opened, spent, SeenManifest, OwnWork, Phase}

-- ---- numbers

-- the number is one of these and those between them
abbrev pub is_between : ℕ → ℕ → ℕ → Bool
is_between low high n = nat_le low n && nat_le n high

-- the actor's first event has this number
abbrev pub is_first : Phase → ℕ → Bool
is_first p number = is_so p.first (λ first. first.number == number)

-- ---- names

-- the most bytes of the name of a container, and of an object
abbrev pub bucket_limit : ℕ
bucket_limit = 256

abbrev pub object_limit : ℕ
object_limit = 1024

-- ---- rows that were read

-- the row names the shard for the name
abbrev pub names_shard : Key → List ℕ → Bucket → Bool
names_shard key name row = is_key (shard_key row.id row.instance (shard_of name row.shards)) key

-- some container's last own read, by an event after this number, showed a row that passes the test
abbrev pub has_read : Named RowRead → ℕ → (Bucket → Bool) → Bool
has_read rows number test = list_any (λ e. nat_lt number (e.1).at && is_so (e.1).row test) (entries rows)

-- the last own read of this name showed a row that passes the test
abbrev pub read_showed : Named RowRead → List ℕ → (Bucket → Bool) → Bool
read_showed rows name test = is_so (at rows name) (λ read. is_so read.row test)

-- ---- own shards

-- the next shard of the own instance
abbrev pub is_next_shard : Phase → ℕ → Key → Bool
is_next_shard p zone key =
    let own = p.shards zone (container_of key) in
    is_so p.first (λ first. is_key (shard_key (container_of key) first.number own.made) key) && not own.filled

-- a shard of the own instance that is in no row
abbrev pub is_new_shard : Phase → ℕ → Key → Bool
is_new_shard p zone key =
    let own = p.shards zone (container_of key) in
    is_first p (instance_of key) && (nat_lt (number_of key) own.made && not own.placed)

-- ---- bucket swaps

-- the shared part is that of an own read in zone 1
abbrev pub takes_over : Phase → List ℕ → Bucket → Bool
takes_over p name new = read_showed (p.rows 1) name (λ row. shares_all row new && row.shared == new.shared)

-- makes the row of a container under a name within the bounds, from all own shards
abbrev pub is_make : Phase → ℕ → List ℕ → Bucket → Bool
is_make p zone name new =
    let own = p.shards zone new.id in
    is_first p new.instance
    && (new.shards == own.made
    && (is_between 1 shard_limit new.shards
    && (not own.placed
    && (not (is_some new.busy)
    && (new.number == 0
    && (is_name bucket_limit name
    && (if zone == 1 then is_first p new.id else takes_over p name new)))))))

-- both are none, or one number for one kind of work
abbrev pub same_busy : Option Busy → Option Busy → Bool
same_busy None None = true
same_busy (Some a) (Some b) = a.number == b.number && same_flag a.closing b.closing
same_busy a b = false

-- the same container, with the same index
abbrev pub same_index : Bucket → Bucket → Bool
same_index old new = old.id == new.id && (bytes_eq old.owner new.owner && (old.instance == new.instance && old.shards == new.shards))

-- the same metadata and lists; outside zone 1 also under the same number
abbrev pub same_shared : ℕ → Bucket → Bucket → Bool
same_shared zone old new =
    pointwise is_same_pair old.meta new.meta
    && (bytes_eq old.readers new.readers
    && (bytes_eq old.writers new.writers && (zone == 1 || old.shared == new.shared)))

-- changes metadata and lists alone; outside zone 1 to those of an own read in zone 1 that is later
abbrev pub is_change_of : Phase → ℕ → List ℕ → Bucket → Bucket → Bool
is_change_of p zone name old new =
    same_index old new
    && (old.number == new.number
    && (same_busy old.busy new.busy
    && (zone == 1 || (nat_lt old.shared new.shared && takes_over p name new))))

-- sets the next number, where none is set; a reshard is begun by who began nothing of the container before
abbrev pub is_begin : Phase → ℕ → Bucket → Bucket → Bool
is_begin p zone old new =
    same_index old new
    && (same_shared zone old new
    && (not (is_some old.busy)
    && (new.number == old.number + 1
    && is_so new.busy (λ busy. busy.number == new.number && (busy.closing || not (p.began zone old.id))))))

-- clears the number that is set
abbrev pub is_clear : ℕ → Bucket → Bucket → Bool
is_clear zone old new =
    same_index old new
    && (same_shared zone old new && (old.number == new.number && (is_some old.busy && not (is_some new.busy))))

-- every shard of an instance of so many was closed under the number
abbrev pub has_closed : OwnWork → ℕ → ℕ → Bool
has_closed w number shards =
    is_so (w.begun number) (λ own. own.closing && list_all own.closed (range_with_len 0 shards))

-- an own read in zone 1, after the shared part was last given, showed another container or none
abbrev pub saw_it_gone : Phase → List ℕ → Bucket → Bool
saw_it_gone p name old =
    is_so (at (p.rows 1) name) (λ read. nat_lt old.shared read.at && not (is_so read.row (λ row. row.id == old.id)))

-- takes the row away of which every shard was closed under the number that is set; outside zone 1 where it is gone there
abbrev pub is_removal : Phase → ℕ → List ℕ → Bucket → Bool
is_removal p zone name old =
    is_so old.busy (λ busy. has_closed (p.work zone old.id old.instance) busy.number old.shards)
    && (zone == 1 || saw_it_gone p name old)

-- the forms of a swap, by the row that was read and the new one
abbrev pub is_form : Phase → ℕ → List ℕ → Option Bucket → Option Bucket → Bool
is_form p zone name None (Some new) = is_make p zone name new
is_form p zone name (Some old) (Some new) = is_change_of p zone name old new || (is_begin p zone old new || is_clear zone old new)
is_form p zone name (Some old) None = is_removal p zone name old
is_form p zone name None None = false

-- ---- holds

-- the own work on the row that names the shard
abbrev pub work_at : Phase → ℕ → Key → OwnWork
work_at p zone key = p.work zone (container_of key) (instance_of key)

-- an own swap set the number for a closing
abbrev pub is_closing : Phase → ℕ → Key → ℕ → Bool
is_closing p zone key id = is_so ((work_at p zone key).begun id) (λ own. own.closing)

-- the row names the shard's instance, gave the number, and it is not in progress there
abbrev pub has_ended : Key → ℕ → Bucket → Bool
has_ended key id row =
    row.id == container_of key
    && (row.instance == instance_of key && (nat_le id row.number && not (is_so row.busy (λ busy. nat_le busy.number id))))

-- the number is no longer in progress: an own swap cleared it, or a row that was read last shows it
abbrev pub may_release : Phase → ℕ → Key → ℕ → Bool
may_release p zone key id = (work_at p zone key).cleared id || has_read (p.rows zone) 0 (has_ended key id)

-- an own swap took the row away that named the shard
abbrev pub is_removed : Phase → ℕ → Key → Bool
is_removed p zone key = is_so (work_at p zone key).removed (λ shards. nat_lt (number_of key) shards)

-- ---- the own tag

-- the tag is open
abbrev pub is_pending : Stage → Bool
is_pending pending = true
is_pending (tried moved) = false
is_pending over = false

-- the tag is over
abbrev pub is_over : Stage → Bool
is_over pending = false
is_over (tried moved) = false
is_over over = true

-- no tag stands in the way of a preparation
abbrev pub has_no_tag : Option OwnTag → Bool
has_no_tag None = true
has_no_tag (Some t) = not (is_pending t.stage)

-- the tag is that of the name in the zone
abbrev pub is_tag_of : OwnTag → ℕ → List ℕ → Bool
is_tag_of t zone name = t.zone == zone && bytes_eq t.name name

-- the change has this version and row
abbrev pub is_change : Option OwnChange → ℕ → RowView → Bool
is_change change version row = is_so change (λ c. c.version == version && same_row c.row row)

-- a shard of the tag's container that a read named after a completion was answered Moved
abbrev pub is_tried_again : OwnTag → Named RowRead → Key → List ℕ → Stage → Bool
is_tried_again t rows key name (tried moved) =
    is_so moved (λ number. container_of key == container_of t.key && has_read rows number (names_shard key name))
is_tried_again t rows key name pending = false
is_tried_again t rows key name over = false

-- the tag may be completed in this shard: its own, or after an answer Moved one that a later read named
abbrev pub is_shard_of_tag : OwnTag → Named RowRead → Key → List ℕ → Bool
is_shard_of_tag t rows key name = is_key t.key key || is_tried_again t rows key name t.stage

-- the tag is open, announced, and nothing was changed under it
abbrev pub may_change_head : Phase → ℕ → ℕ → List ℕ → Guard → Bool
may_change_head p zone container name guard =
    is_so p.tag (λ t.
    is_pending t.stage
    && (t.announced
    && (not (is_some t.change)
    && (is_tag_of t zone name && (container_of t.key == container && same_guard t.guard guard)))))

-- ---- stripes

-- the own first event, or an own read of a head in another zone
abbrev pub is_own_write : Phase → ℕ → ℕ → Bool
is_own_write p zone write = is_first p write || is_so (p.stripes.reads write) (λ peer. not (peer == zone))

-- the part comes next
abbrev pub is_next_part : Bundle → ℕ → Bool
is_next_part unused part = part == 1
is_next_part (opened sizes) part = part == length sizes + 1
is_next_part spent part = false

-- the sizes that the tails of a manifest have
abbrev pub tail_sizes : ManifestView → List ℕ
tail_sizes m = map (part_size m) (range_with_len 1 (tails_of m))

-- the tails that were made have these sizes
abbrev pub has_sizes : Bundle → List ℕ → Bool
has_sizes unused sizes = false
has_sizes (opened made) sizes = same_numbers made sizes
has_sizes spent sizes = false

-- tails that were made are neither named nor queued
abbrev pub is_open : Bundle → Bool
is_open unused = false
is_open (opened made) = true
is_open spent = false

-- until copies share stripes, a write holds its own tails
abbrev pub holder_of : ManifestView → ℕ
holder_of m = m.write

-- the tails of new content are all that the actor made of one write: none is open where it has no tails; and each part has
-- the bytes that the manifest gives it
abbrev pub has_parts : Phase → ℕ → NewHead → Bool
has_parts p zone new =
    let m = new.manifest in
    let own = p.stripes.own zone m.write (holder_of m) in
    length new.first == part_size m 0
    && (if tails_of m == 0 then not (is_open own) else has_sizes own (tail_sizes m))

-- the range lies in a tail of a manifest that was seen
abbrev pub is_seen_range : List SeenManifest → ℕ → ℕ → ℕ → ℕ → ℕ → Bool
is_seen_range seen zone write part start count =
    nat_le 1 count
    && list_any (λ s.
    s.zone == zone
    && (s.manifest.write == write
    && (is_between 1 (tails_of s.manifest) part && nat_le (start + count) (part_size s.manifest part)))) seen

-- ---- suggestions

-- an entry was seen with this revision at this moment, and its head afterwards with this version and row
abbrev pub is_suggestion : Option Sighting → ℕ → ℕ → ℕ → RowView → Bool
is_suggestion sighting revision seen version row =
    is_so sighting (λ s. s.entry.revision == revision && (s.moment == seen && is_change s.head version row))
