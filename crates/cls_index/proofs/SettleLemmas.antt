-- A shard after tags were taken from an entry, and its row was kept or stored.
use Rattle.std.proofs.Common.{refl, nat_lt, ◌≡◌, ℕ, ◌+◌, ◌-◌, ◌≤◌, ◌<◌, ◌^◌, Bool, true, false, cond, List, Some, sym, ap, ◌∙◌, subst, arith}
use Rattle.omap_pages.specs.Contents.{Contents, KeepsOtherRooms, KeepsRooms}
use Rattle.omap_pages.specs.Rows.{value_at}
use Rattle.omap_pages.specs.Rows as rows
use Rattle.object_pool.specs.Objects.{Object}
use Rattle.object_words.specs.declared.entry.Tag.{Tag}
use Rattle.object_words.specs.declared.log.LogWhat.TheVariants.{Name}
use Rattle.object_words.specs.Rows.{RowView}
use Rattle.object_words.specs.Entries.{EntryView, with_tags}
use Rattle.object_words.specs.Logs.{logged}
use Rattle.object_words.specs.Names.{with_name}
use Rattle.object_words.specs.Numbers.{next}
use Rattle.object_words.specs.ShardCalls.{settled}
use Rattle.object_words.specs.Shards.{Shard, byte_count, entry_at, object_count, sum_over, tag_count, with_entry}
use Rattle.index_entry.specs.declared.entry.EntryFront.{EntryFront}
use Rattle.index_entry.specs.declared.header.ShardHeader.{ShardHeader}
use Rattle.index_entry.specs.Headers.{header_bytes}
use Rattle.index_entry.specs.LogRows.{log_key, what_bytes}
use Rattle.index_entry.proofs.HeaderLemmas.{same_header}
use Rattle.class_words.specs.Shards.{HasEntry, HasRows, IsShard, header_of}
use Rattle.class_words.proofs.LogLemmas.{next_plain}
use Rattle.cls_index.specs.Rows.{IsLeft, entry_left, kept_or_none}
use Rattle.cls_index.proofs.CountLemmas.{bytes_moved, objects_moved, one_object, one_size, tags_moved}
use Rattle.cls_index.proofs.ShardLemmas.{changed_rows, changed_twice, left_named, logged_rows}

-- the rows once the entry was changed again
pub left_rows : (o : Object) (d : Contents) (s : Shard) (name : List ℕ) (tags : List Tag) (h : ShardHeader) (f : EntryFront) (taken : ℕ) (e : EntryView) → IsLeft o s name tags h f taken → HasEntry d name (kept_or_none e)
    → rows.KeepsOthers o.rows.rows d.rows name → KeepsOtherRooms o.rows d name → HasRows d (with_entry s name e)
left_rows o d s name tags h f taken e is here others rooms =
    let left = entry_left s name tags in
    subst (HasRows d) (changed_twice s name left e)
    (changed_rows o.rows d (record s { entries = with_name s.entries name left }) name e is.rows (left_named o s name tags h f taken is) here others rooms)

pub kept_shard : (o d : Object) (s : Shard) (name : List ℕ) (tags : List Tag) (h g : ShardHeader) (f : EntryFront) (taken : ℕ) → IsLeft o s name tags h f taken
    → d.bytes ≡ o.bytes → d.attrs ≡ header_bytes g → g ≡ record h { tags = h.tags - taken } → HasEntry d.rows name (kept_or_none (with_tags (entry_at s name) tags))
    → rows.KeepsOthers o.rows.rows d.rows.rows name → KeepsOtherRooms o.rows d.rows name → d.rows.spare ≡ o.rows.spare → IsShard d (with_entry s name (with_tags (entry_at s name) tags))
kept_shard o d s name tags h g f taken is bytes attrs header here others rooms spare =
    let e = with_tags (entry_at s name) tags in
    let s' = with_entry s name e in
    let read = header ∙ ap (λ (x : ShardHeader). record x { tags = x.tags - taken }) is.header_read in
    let objects : sum_over object_count s ≡ sum_over object_count s' = let moved = objects_moved s name e in omega (arith, moved) in
    let sizes : sum_over byte_count s ≡ sum_over byte_count s' = let moved = bytes_moved s name e in omega (arith, moved) in
    let less : sum_over tag_count s' + taken ≡ sum_over tag_count s = let moved = tags_moved s name e in omega (arith, moved, is.count) in
    let counts : sum_over tag_count s - taken ≡ sum_over tag_count s' = omega (arith, less) in
    let told : g ≡ header_of s' = read ∙ (λ i. record (header_of s) { objects = objects i; bytes = sizes i; tags = counts i }) in
    record {
      bytes = bytes ∙ is.bytes;
      attrs = attrs ∙ ap header_bytes told;
      header = record {
        objects_fit = omega (arith, objects, is.fits.objects_fit);
        bytes_fit = omega (arith, sizes, is.fits.bytes_fit);
        tags_fit = omega (arith, less, is.fits.tags_fit);
        last_fits = is.fits.last_fits;
        fence_fits = is.fits.fence_fits;
        hold_fits = is.fits.hold_fits;
        fate_fits = is.fits.fate_fits;
      };
      rows = left_rows o d.rows s name tags h f taken e is here others rooms;
      spare = omega (arith, less, is.spare, spare);
    }

-- what a stored row leaves in the header
pub record IsCounted (s : Shard) (name : List ℕ) (row : RowView) (g : ShardHeader) (taken : ℕ) : Type 0 where
  pub objects : g.objects ≡ sum_over object_count s - object_count (entry_at s name) + cond row.exists 1 0
  pub sizes : g.bytes ≡ sum_over byte_count s - byte_count (entry_at s name) + cond row.exists row.size 0
  pub tags : g.tags ≡ sum_over tag_count s - taken
  pub last : g.last ≡ s.log.last + 1
  pub hold : g.hold ≡ s.hold
  pub fate : g.fate ≡ s.fate
  pub fence : g.fence ≡ s.fence

-- what of the rows is stored with it
pub record IsStored (m d : Contents) (s : Shard) (name : List ℕ) : Type 0 where
  pub row : value_at d.rows (log_key (s.log.last + 1)) ≡ Some (what_bytes (Name name))
  pub others : rows.KeepsOthers m.rows d.rows (log_key (s.log.last + 1))
  pub rooms : KeepsRooms m d
  pub spare : d.spare + 1 ≡ m.spare

one_if_fits : (b : Bool) → cond b 1 0 ≤ 1
one_if_fits true = omega arith
one_if_fits false = omega arith

size_if_fits : (b : Bool) (n : ℕ) → n < 2 ^ 64 → cond b n 0 < 2 ^ 64
size_if_fits true n fits = fits
size_if_fits false n fits = omega arith

pub stored_shard : (o d : Object) (m : Contents) (s : Shard) (name : List ℕ) (tags : List Tag) (h g : ShardHeader) (f : EntryFront) (taken version : ℕ) (row : RowView) → IsLeft o s name tags h f taken → row.size < 2 ^ 64
    → d.bytes ≡ o.bytes → d.attrs ≡ header_bytes g → IsCounted s name row g taken → HasEntry m name (kept_or_none (record (with_tags (entry_at s name) tags) { version = version; row = row }))
    → rows.KeepsOthers o.rows.rows m.rows name → KeepsOtherRooms o.rows m name → m.spare ≡ o.rows.spare → IsStored m d.rows s name
    → IsShard d (with_entry (record s { log = logged s.log (Name name) }) name (record (with_tags (entry_at s name) tags) { version = version; row = row }))
stored_shard o d m s name tags h g f taken version row is fits bytes attrs counted here others rooms spare stored =
    let e : EntryView = record (with_tags (entry_at s name) tags) { version = version; row = row } in
    let s' = with_entry s name e in
    let plain = next_plain s.log.last (omega (arith, is.small.last)) in
    let a = objects_moved s name e in
    let b = bytes_moved s name e in
    let t = tags_moved s name e in
    let one = one_if_fits row.exists in
    let size = size_if_fits row.exists row.size fits in
    let few : object_count (entry_at s name) ≤ sum_over object_count s = one_object s name in
    let small : byte_count (entry_at s name) ≤ sum_over byte_count s = one_size s name in
    let less : sum_over tag_count s' + taken ≡ sum_over tag_count s = omega (arith, t, is.count) in
    let objects : g.objects ≡ sum_over object_count s' = omega (arith, a, counted.objects, few) in
    let sizes : g.bytes ≡ sum_over byte_count s' = omega (arith, b, counted.sizes, small) in
    let counts : g.tags ≡ sum_over tag_count s' = omega (arith, less, counted.tags) in
    let last : g.last ≡ next s.log.last = counted.last ∙ sym plain in
    let told : g ≡ header_of (record s' { log = logged s.log (Name name) }) = same_header g _ objects sizes counts last counted.hold counted.fate counted.fence in
    record {
      bytes = bytes ∙ is.bytes;
      attrs = attrs ∙ ap header_bytes told;
      header = record {
        objects_fit = omega (arith, a, one, is.small.objects);
        bytes_fit = omega (arith, b, size, is.small.bytes);
        tags_fit = omega (arith, less, is.fits.tags_fit);
        last_fits = omega (arith, plain, is.small.last);
        fence_fits = is.fits.fence_fits;
        hold_fits = is.fits.hold_fits;
        fate_fits = is.fits.fate_fits;
      };
      rows = logged_rows m d.rows s' name (left_rows o m s name tags h f taken e is here others rooms) (left_named o s name tags h f taken is) (omega (arith, is.small.last)) stored.row stored.others stored.rooms;
      spare = omega (arith, less, is.spare, is.some, spare, stored.spare);
    }

-- a row of a greater version is stored and logged
pub newer_settled : (s : Shard) (name : List ℕ) (tags : List Tag) (version : ℕ) (row : RowView) → nat_lt (entry_at s name).version version ≡ true
    → with_entry (record s { log = logged s.log (Name name) }) name (record (with_tags (entry_at s name) tags) { version = version; row = row }) ≡ settled s name tags version row
newer_settled s name tags version row newer = rw newer refl
