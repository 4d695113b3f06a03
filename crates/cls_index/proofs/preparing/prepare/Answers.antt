use Rattle.std.proofs.Common.{◌+◌, ◌≤◌, Some, sym, ap, ◌∙◌, subst, arith}
use Rattle.omap_pages.specs.Contents.{KeepsOtherRooms, room_at}
use Rattle.omap_pages.specs.Rows as rows
use Rattle.object_pool.specs.Places.{object_of, rows_of}
use Rattle.object_words.specs.declared.entry.Tag.{Tag}
use Rattle.object_words.specs.Names.{at}
use Rattle.object_words.specs.Tags.{tag_of, with_tag}
use Rattle.object_words.specs.Entries.{with_tags}
use Rattle.object_words.specs.Shards.{entry_at, sum_over, tag_count}
use Rattle.index_entry.specs.declared.header.ShardHeader.{ShardHeader}
use Rattle.index_entry.proofs.HeaderLemmas.{header_long}
use Rattle.class_words.specs.Shards.{HasEntry, IsShard, header_of}
use Rattle.class_words.proofs.WorksLemmas.{works, works_then}
use Rattle.cls_index.specs.Rows.{KeepsToName}
use Rattle.cls_index.proofs.RowLemmas.{roomier}
use Rattle.cls_index.proofs.StartLemmas.{entry_under, tags_below, not_refused, open_shard, prepared_shard}
use Rattle.cls_index.proofs.preparing.prepare.Goals as goal

pub add_tag-requires : goal.add_tag-requires
add_tag-requires c =
    let r = c.requires in
    let s = r.0 in
    let name = c.args.name.now in
    let text = c.bytes_of.result.now in
    let has = entry_under c.args.shard.now s name text c.bytes_of.ensures.text r.1 c.bytes_of.ensures.named in
    let tagged = roomier (rows_of c.args.shard.now) (rows_of c.reserve_rows.new.self) text (at s.entries name) c.reserve_rows.ensures.readied.kept.rows c.reserve_rows.ensures.readied.kept.rooms has in
    (at s.entries name, tagged, tags_below c.args.number s name _ (ap (λ (t : Tag). t.tag) c.prepared-tag.ensures) r.3)

pub put_header-requires : goal.put_header-requires
put_header-requires c =
    header_long _ (header_of c.requires.0) (c.add_tag.ensures.only.works.attrs ∙ ap (λ o. o.attrs) c.reserve_rows.ensures.readied.change.object ∙ c.requires.1.attrs)

pub returns-clause-works : goal.returns-clause-works
returns-clause-works c = works_then _ _ _ (works _ _ _ c.reserve_rows.ensures.readied.change) (works_then _ _ _ c.add_tag.ensures.only.works.works c.put_header.ensures.works)

pub returns-clause-answers : goal.returns-clause-answers
returns-clause-answers c s is small below =
    let o = object_of c.args.shard.now in
    let d = object_of c.put_header.new.shard in
    let name = c.args.name.now in
    let text = c.bytes_of.result.now in
    let same = c.bytes_of.ensures.text in
    let e = entry_at s name in
    let t = tag_of c.args.number c.args.clock c.args.life in
    let has = entry_under c.args.shard.now s name text same is c.bytes_of.ensures.named in
    let before = roomier (rows_of c.args.shard.now) (rows_of c.reserve_rows.new.self) text (at s.entries name) c.reserve_rows.ensures.readied.kept.rows c.reserve_rows.ensures.readied.kept.rooms has in
    let pushed = c.in-Ok-add_tag.ensures.ok (at s.entries name) before (tags_below c.args.number s name _ (ap (λ (t : Tag). t.tag) c.prepared-tag.ensures) below) in
    let plain = subst (λ u. HasEntry (rows_of c.add_tag.new.shard) text (Some (with_tags e (with_tag u e.tags)))) c.prepared-tag.ensures pushed in
    let here = subst (λ r. HasEntry r name (Some (with_tags e (with_tag t e.tags)))) (sym c.put_header.ensures.rows) (subst (λ n. HasEntry (rows_of c.add_tag.new.shard) n (Some (with_tags e (with_tag t e.tags)))) same plain) in
    let only = subst (KeepsToName c.reserve_rows.new.self c.add_tag.new.shard) same c.add_tag.ensures.only in
    let others : rows.KeepsOthers o.rows.rows d.rows.rows name = λ q differs. ap (λ r. rows.value_at r.rows q) c.put_header.ensures.rows ∙ only.others q differs ∙ ap (λ r. rows.value_at r q) c.reserve_rows.ensures.readied.kept.rows in
    let rooms : KeepsOtherRooms o.rows d.rows name = λ q differs. let k = ap (λ r. room_at r.rooms q) c.put_header.ensures.rows in omega (arith, k, only.rooms q differs, c.reserve_rows.ensures.readied.kept.rooms q) in
    let read = c.header_at-header.ensures s is in
    let tags = ap (λ (h : ShardHeader). h.tags) read in
    let spare : sum_over tag_count s + 1 ≤ d.rows.spare = let k = ap (λ r. r.spare) c.put_header.ensures.rows in omega (arith, k, tags, only.spare, c.in-Ok.ensures.ok) in
    let free = open_shard s c.header_at-header.result read c.in_default.ensures.ok in
    let whole = prepared_shard o d s name t _ is small c.bytes_of.ensures.named
    (c.put_header.ensures.bytes ∙ only.works.bytes ∙ ap (λ o. o.bytes) c.reserve_rows.ensures.readied.change.object)
    c.put_header.ensures.attrs (λ i. record (read i) { tags = tags i + 1 }) here others rooms spare in
    (free, λ i. record { tag = (c.prepared-tag.ensures i).tag; deadline = (c.prepared-tag.ensures i).deadline }, not_refused (IsShard d) _ s _ free whole)
