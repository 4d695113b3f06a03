use Rattle.std.proofs.Common.{rules, tests, nat_lt, ◌≡◌, ◌-◌, ◌+◌, cond, Some, None, sym, ap, ◌∙◌, subst, arith}
use Rattle.omap_pages.specs.Contents.{KeepsRooms}
use Rattle.omap_pages.specs.Rows.{value_at}
use Rattle.omap_pages.specs.Rows as rows
use Rattle.object_pool.specs.Places.{object_of, rows_of}
use Rattle.object_words.specs.declared.log.LogWhat.TheVariants.{Name}
use Rattle.object_words.specs.Rows.{RowView}
use Rattle.object_words.specs.Numbers.{next}
use Rattle.object_words.specs.Names.{with_name}
use Rattle.object_words.specs.Entries.{EntryView}
use Rattle.object_words.specs.Shards.{Shard, byte_count, entry_at, object_count}
use Rattle.index_entry.specs.declared.entry.EntryFront.{EntryFront}
use Rattle.index_entry.specs.declared.header.ShardHeader.{ShardHeader}
use Rattle.index_entry.specs.LogRows.{log_key, what_bytes}
use Rattle.index_entry.proofs.HeaderLemmas.{header_long}
use Rattle.class_words.specs.Shards.{HasEntry, IsShard, header_of}
use Rattle.class_words.proofs.WorksLemmas.{works_then}
use Rattle.class_words.proofs.LogLemmas.{not_log_key}
use Rattle.cls_index.specs.Rows.{IsLeft, KeepsToName, entry_left, kept_or_none}
use Rattle.cls_index.proofs.RowLemmas.{keeps_then, tags_in}
use Rattle.cls_index.proofs.ShardLemmas.{absent_next, left_entry}
use Rattle.cls_index.proofs.CountLemmas.{byte_if, counted_size, one_if, few_tags, one_object, one_size}
use Rattle.cls_index.proofs.SettleLemmas.{IsCounted, IsStored, newer_settled, stored_shard}
use Rattle.cls_index.proofs.settling.settle.Goals as goal

pub put_front-requires : goal.put_front-requires
put_front-requires c =
    let r = c.requires in
    let name = c.args.name.now in
    let text = c.bytes_of-text.result.now in
    let left = entry_left r.0 name r.1 in
    (left, subst (λ n. HasEntry (rows_of c.args.shard.now) n (Some left)) (sym c.bytes_of-text.ensures.text) (left_entry _ r.0 name r.1 _ _ _ r.2), r.2.front_read)

pub drop_if_empty-requires : goal.drop_if_empty-requires
drop_if_empty-requires c =
    let r = c.requires in
    let name = c.args.name.now in
    let left = entry_left r.0 name r.1 in
    let has = subst (λ n. HasEntry (rows_of c.args.shard.now) n (Some left)) (sym c.bytes_of-text.ensures.text) (left_entry _ r.0 name r.1 _ _ _ r.2) in
    (_, c.put_front.ensures.entry left has r.2.front_read, ap (λ (x : RowView). x.exists) c.row.view_is, tags_in _ left r.2.front_read)

pub log_change-requires-clause-spare : goal.log_change-requires-clause-spare
log_change-requires-clause-spare c =
    let is = c.requires.2 in
    omega (arith, c.put_front.ensures.only.spare, c.drop_if_empty.ensures.only.spare, is.spare, is.count, is.some, few_tags c.requires.0 c.args.name.now)

pub log_change-requires-clause-absent : goal.log_change-requires-clause-absent
log_change-requires-clause-absent c =
    let s = c.requires.0 in
    let is = c.requires.2 in
    let name = c.args.name.now in
    let key = log_key (s.log.last + 1) in
    let t : Shard = record s { entries = with_name s.entries name (entry_left s name c.requires.1) } in
    let only = subst (KeepsToName c.args.shard.now c.drop_if_empty.new.shard) c.bytes_of-text.ensures.text (keeps_then _ _ _ _ c.put_front.ensures.only c.drop_if_empty.ensures.only) in
    let none = absent_next (rows_of c.args.shard.now) t is.rows (omega (arith, is.small.last)) in
    let there = only.others key (λ same. not_log_key name (s.log.last + 1) c.bytes_of-text.ensures.named (sym same)) ∙ none in
    subst (λ n. value_at (rows_of c.drop_if_empty.new.shard).rows (log_key (n + 1)) ≡ None) (sym (ap (λ (h : ShardHeader). h.last) is.header_read)) there

pub overflow_sub-counted : goal.overflow_sub-counted
overflow_sub-counted c =
    let s = c.requires.0 in
    let tags = c.requires.1 in
    let is = c.requires.2 in
    let name = c.args.name.now in
    let objects = ap (λ (h : ShardHeader). h.objects) is.header_read in
    let x : c.from.result ≡ object_count (entry_at s name) = c.from.ensures ∙ byte_if c.args.front.now.exists ∙ ap one_if (ap (λ (f : EntryFront). f.exists) is.front_read) in
    let one = one_object s name in
    omega (arith, objects, x, one)

pub overflow_sub-counted-then-version-front : goal.overflow_sub-counted-then-version-front
overflow_sub-counted-then-version-front c =
    let s = c.requires.0 in
    let tags = c.requires.1 in
    let is = c.requires.2 in
    let name = c.args.name.now in
    let sizes = ap (λ (h : ShardHeader). h.bytes) is.header_read in
    let fits = (left_entry (object_of c.args.shard.now) s name tags _ _ _ is).entry.row_fits in
    let z : c.from-then-version-front-2.result ≡ byte_count (entry_at s name) = c.from-then-version-front-2.ensures ∙ ap (λ (f : EntryFront). f.size) is.front_read ∙ sym (counted_size (entry_at s name).row fits) in
    let one = one_size s name in
    omega (arith, sizes, z, one)

pub overflow_add-counted-then-version-front : goal.overflow_add-counted-then-version-front
overflow_add-counted-then-version-front c =
    let s = c.requires.0 in
    let tags = c.requires.1 in
    let is = c.requires.2 in
    let name = c.args.name.now in
    let sizes = ap (λ (h : ShardHeader). h.bytes) is.header_read in
    let size : c.from-then-version-front-3.result ≡ c.args.row.now.size = c.from-then-version-front-3.ensures ∙ ap (λ (r : RowView). r.size) c.row.view_is in
    omega (arith, sizes, size, c.put_front.ensures.bounds.size_fits, is.small.bytes)

pub overflow_sub-counted-then-version-front-2 : goal.overflow_sub-counted-then-version-front-2
overflow_sub-counted-then-version-front-2 c =
    let is = c.requires.2 in
    let tags = ap (λ (h : ShardHeader). h.tags) is.header_read in
    omega (arith, tags, is.count, few_tags c.requires.0 c.args.name.now)

pub put_header-requires : goal.put_header-requires
put_header-requires c =
    header_long _ (header_of c.requires.0) (c.log_change.ensures.works.attrs ∙ c.drop_if_empty.ensures.only.works.attrs ∙ c.put_front.ensures.only.works.attrs ∙ c.requires.2.attrs)

pub returns-then-version-front-clause-works : goal.returns-then-version-front-clause-works
returns-then-version-front-clause-works c =
    works_then _ _ _ c.put_front.ensures.only.works.works (works_then _ _ _ c.drop_if_empty.ensures.only.works.works (works_then _ _ _ c.log_change.ensures.works.works c.put_header.ensures.works))

pub returns-then-version-front-clause-shard : goal.returns-then-version-front-clause-shard
returns-then-version-front-clause-shard c s tags is =
    let o = object_of c.args.shard.now in
    let d = object_of c.put_header.new.shard in
    let m = rows_of c.drop_if_empty.new.shard in
    let name = c.args.name.now in
    let text = c.bytes_of-text.result.now in
    let same = c.bytes_of-text.ensures.text in
    let row = c.args.row.now in
    let objects = ap (λ (h : ShardHeader). h.objects) is.header_read in
    let x : c.from.result ≡ object_count (entry_at s name) = c.from.ensures ∙ byte_if c.args.front.now.exists ∙ ap one_if (ap (λ (f : EntryFront). f.exists) is.front_read) in
    let sizes = ap (λ (h : ShardHeader). h.bytes) is.header_read in
    let fits = (left_entry (object_of c.args.shard.now) s name tags _ _ _ is).entry.row_fits in
    let z : c.from-then-version-front-2.result ≡ byte_count (entry_at s name) = c.from-then-version-front-2.ensures ∙ ap (λ (f : EntryFront). f.size) is.front_read ∙ sym (counted_size (entry_at s name).row fits) in
    let y : c.from-then-version-front.result ≡ cond row.exists 1 0 = c.from-then-version-front.ensures ∙ byte_if c.row.inside.exists ∙ ap one_if (ap (λ (r : RowView). r.exists) c.row.view_is) in
    let u : c.from-then-version-front-3.result ≡ cond row.exists row.size 0 = c.from-then-version-front-3.ensures ∙ ap (λ (r : RowView). r.size) c.row.view_is ∙ sym (counted_size row c.put_front.ensures.bounds) in
    let counts = ap (λ (h : ShardHeader). h.tags) is.header_read in
    let last = ap (λ (h : ShardHeader). h.last) is.header_read in
    let counted : IsCounted s name row _ c.args.taken = record {
      objects = λ i. objects i - x i + y i;
      sizes = λ i. sizes i - z i + u i;
      tags = λ i. counts i - c.args.taken;
      last = λ i. last i + 1;
      hold = ap (λ (h : ShardHeader). h.hold) is.header_read;
      fate = ap (λ (h : ShardHeader). h.fate) is.header_read;
      fence = ap (λ (h : ShardHeader). h.fence) is.header_read;
    } in
    let left = entry_left s name tags in
    let has = subst (λ n. HasEntry (rows_of c.args.shard.now) n (Some left)) (sym same) (left_entry o s name tags _ _ _ is) in
    let e : EntryView = record left { version = c.args.version; revision = c.saturating_add-revision.result; row = row } in
    let there = c.drop_if_empty.ensures.entry e (c.put_front.ensures.entry left has is.front_read) (ap (λ (r : RowView). r.exists) c.row.view_is) (tags_in _ left is.front_read) in
    let revision : c.saturating_add-revision.result ≡ next left.revision = c.saturating_add-revision.ensures ∙ ap (λ (f : EntryFront). next f.revision) is.front_read in
    let revised = subst (λ n. HasEntry m text (kept_or_none (record left { version = c.args.version; revision = n; row = row }))) revision there in
    let here = subst (λ n. HasEntry m n (kept_or_none (record left { version = c.args.version; revision = next left.revision; row = row }))) same revised in
    let only = subst (KeepsToName c.args.shard.now c.drop_if_empty.new.shard) same (keeps_then _ _ _ text c.put_front.ensures.only c.drop_if_empty.ensures.only) in
    let log = c.log_change.ensures in
    let l = rows_of c.log_change.new.shard in
    let rest = sym c.put_header.ensures.rows in
    let key = log_key (s.log.last + 1) in
    let stored : IsStored m d.rows s name = record {
      row = subst (λ r. value_at r.rows key ≡ Some (what_bytes (Name name))) rest (subst (λ n. value_at l.rows (log_key (n + 1)) ≡ Some (what_bytes (Name name))) last log.row);
      others = subst (λ r. rows.KeepsOthers m.rows r.rows key) rest (subst (λ n. rows.KeepsOthers m.rows l.rows (log_key (n + 1))) last log.others);
      rooms = subst (KeepsRooms m) rest log.rooms;
      spare = subst (λ r. r.spare + 1 ≡ m.spare) rest log.spare;
    } in
    subst (IsShard d) (newer_settled s name tags c.args.version row (ap (λ (f : EntryFront). nat_lt f.version c.args.version) (sym is.front_read) ∙ search (rules, tests)))
    (stored_shard o d m s name tags c.args.header.now _ c.args.front.now c.args.taken c.args.version row is c.put_front.ensures.bounds.size_fits
    (c.put_header.ensures.bytes ∙ log.works.bytes ∙ only.works.bytes) c.put_header.ensures.attrs counted here only.others only.rooms only.spare stored)

pub keep_row-requires : goal.keep_row-requires
keep_row-requires c = let r = c.requires in (r.0, r.1, subst (λ n. IsLeft (object_of c.args.shard.now) r.0 n r.1 c.args.header.now c.args.front.now c.args.taken) (sym c.bytes_of-text.ensures.text) r.2)
