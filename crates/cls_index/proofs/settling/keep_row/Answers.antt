use Rattle.std.proofs.Common.{◌≡◌, refl, sym, ap, ◌∙◌, subst, arith}
use Rattle.omap_pages.specs.Contents.{KeepsOtherRooms, room_at}
use Rattle.omap_pages.specs.Rows as rows
use Rattle.object_pool.specs.Places.{object_of, rows_of}
use Rattle.object_words.specs.Numbers.{next}
use Rattle.object_words.specs.Entries.{EntryView}
use Rattle.index_entry.specs.declared.entry.EntryFront.{EntryFront}
use Rattle.index_entry.specs.declared.header.ShardHeader.{ShardHeader}
use Rattle.index_entry.proofs.HeaderLemmas.{header_long}
use Rattle.class_words.specs.Shards.{HasEntry, header_of}
use Rattle.class_words.proofs.WorksLemmas.{works_then}
use Rattle.cls_index.specs.Rows.{KeepsToName, entry_left, kept_or_none}
use Rattle.cls_index.proofs.RowLemmas.{keeps_then, tags_in}
use Rattle.cls_index.proofs.ShardLemmas.{left_entry}
use Rattle.cls_index.proofs.CountLemmas.{few_tags}
use Rattle.cls_index.proofs.SettleLemmas.{kept_shard}
use Rattle.cls_index.proofs.settling.keep_row.Goals as goal

pub put_revision-requires : goal.put_revision-requires
put_revision-requires c = let r = c.requires in (entry_left r.0 c.args.name.now r.1, left_entry _ r.0 c.args.name.now r.1 _ _ _ r.2)

pub drop_if_empty-requires : goal.drop_if_empty-requires
drop_if_empty-requires c =
    let r = c.requires in
    let left = entry_left r.0 c.args.name.now r.1 in
    let has = left_entry _ r.0 c.args.name.now r.1 _ _ _ r.2 in
    (_, c.put_revision.ensures.entry left has, ap (λ (f : EntryFront). f.exists) r.2.front_read, tags_in _ left r.2.front_read)

pub overflow_sub-counted : goal.overflow_sub-counted
overflow_sub-counted c =
    let is = c.requires.2 in
    let tags = ap (λ (h : ShardHeader). h.tags) is.header_read in
    omega (arith, tags, is.count, few_tags c.requires.0 c.args.name.now)

pub put_header-requires : goal.put_header-requires
put_header-requires c =
    header_long _ (header_of c.requires.0) (c.drop_if_empty.ensures.only.works.attrs ∙ c.put_revision.ensures.only.works.attrs ∙ c.requires.2.attrs)

pub returns-clause-works : goal.returns-clause-works
returns-clause-works c = works_then _ _ _ c.put_revision.ensures.only.works.works (works_then _ _ _ c.drop_if_empty.ensures.only.works.works c.put_header.ensures.works)

pub returns-clause-shard : goal.returns-clause-shard
returns-clause-shard c s tags is =
    let o = object_of c.args.shard.now in
    let d = object_of c.put_header.new.shard in
    let name = c.args.name.now in
    let left = entry_left s name tags in
    let has = left_entry o s name tags _ _ _ is in
    let e : EntryView = record left { revision = c.saturating_add.result } in
    let row = c.drop_if_empty.ensures.entry e (c.put_revision.ensures.entry left has) (ap (λ (f : EntryFront). f.exists) is.front_read) (tags_in _ left is.front_read) in
    let revision : c.saturating_add.result ≡ next left.revision = c.saturating_add.ensures ∙ ap (λ (f : EntryFront). next f.revision) is.front_read in
    let there = subst (λ n. HasEntry (rows_of c.drop_if_empty.new.shard) name (kept_or_none (record left { revision = n }))) revision row in
    let here = subst (λ r. HasEntry r name (kept_or_none (record left { revision = next left.revision }))) (sym c.put_header.ensures.rows) there in
    let only : KeepsToName c.args.shard.now c.drop_if_empty.new.shard name = keeps_then _ _ _ name c.put_revision.ensures.only c.drop_if_empty.ensures.only in
    let others : rows.KeepsOthers o.rows.rows d.rows.rows name = λ q differs. ap (λ r. rows.value_at r.rows q) c.put_header.ensures.rows ∙ only.others q differs in
    let rooms : KeepsOtherRooms o.rows d.rows name = λ q differs. let same = ap (λ r. room_at r.rooms q) c.put_header.ensures.rows in omega (arith, same, only.rooms q differs) in
    let spare : d.rows.spare ≡ o.rows.spare = ap (λ r. r.spare) c.put_header.ensures.rows ∙ only.spare in
    kept_shard o d s name tags c.args.header.now _ c.args.front.now c.args.taken is (c.put_header.ensures.bytes ∙ only.works.bytes) c.put_header.ensures.attrs refl here others rooms spare
