use Rattle.std.proofs.Common.{◌-◌, Some, sym, ap, ◌∙◌, subst, arith}
use Rattle.object_pool.specs.Places.{object_of, rows_of}
use Rattle.object_words.specs.Names.{at}
use Rattle.object_words.specs.Refusals.{unless_refused}
use Rattle.object_words.specs.Tags.{tags_due_taken}
use Rattle.object_words.specs.Shards.{entry_at}
use Rattle.object_words.specs.ShardCalls.{settled}
use Rattle.index_entry.specs.declared.entry.EntryFront.{EntryFront}
use Rattle.class_words.specs.Shards.{HasEntry, IsShard}
use Rattle.cls_index.specs.Rows.{KeepsToName}
use Rattle.cls_index.proofs.RowLemmas.{front_found, tags_in}
use Rattle.cls_index.proofs.StartLemmas.{entry_under, left_of, not_refused, open_shard}
use Rattle.cls_index.proofs.DueLemmas.{fewer_left, some_due}
use Rattle.cls_index.proofs.StartLemmas.{not_stale, stale}
use Rattle.cls_index.proofs.suggesting.suggest.Goals as goal

pub front_at-requires : goal.front_at-requires
front_at-requires c =
    let s = c.requires.0 in
    let is = c.requires.1 in
    let name = c.args.name.now in
    let text = c.bytes_of-text.result.now in
    let has = entry_under c.args.shard.now s name text c.bytes_of-text.ensures.text is c.bytes_of-text.ensures.named in
    (at s.entries name, has)

pub returns-then-front-revision-clause-answers : goal.returns-then-front-revision-clause-answers
returns-then-front-revision-clause-answers c s is small due =
    let name = c.args.name.now in
    let text = c.bytes_of-text.result.now in
    let has = entry_under c.args.shard.now s name text c.bytes_of-text.ensures.text is c.bytes_of-text.ensures.named in
    let e = entry_at s name in
    let t = front_found (at s.entries name) c.in-Some.front (c.in-Some.ensures.front (at s.entries name) has) in
    let there = subst (HasEntry (rows_of c.args.shard.now) text) t.0 has in
    let free = open_shard s c.header_at-header.result (c.header_at-header.ensures s is) c.in_ok-check_changes.ensures.ok in
    let late = stale s name c.args.revision c.in-Some.front.revision free (ap (λ (f : EntryFront). f.revision) t.1) c.if-front-revision.true in
    (late, subst (λ r. IsShard (object_of c.args.shard.now) (unless_refused r s (settled s name (tags_due_taken c.args.seen e.tags) c.args.version c.args.row.now))) (sym late) is)

pub take_due-tags-requires-clause-there : goal.take_due-tags-requires-clause-there
take_due-tags-requires-clause-there c =
    let s = c.requires.0 in
    let is = c.requires.1 in
    let name = c.args.name.now in
    let text = c.bytes_of-text.result.now in
    let has = entry_under c.args.shard.now s name text c.bytes_of-text.ensures.text is c.bytes_of-text.ensures.named in
    let e = entry_at s name in
    let t = front_found (at s.entries name) c.in-Some.front (c.in-Some.ensures.front (at s.entries name) has) in
    let there = subst (HasEntry (rows_of c.args.shard.now) text) t.0 has in
    (e, there, t.1)

pub overflow_sub-front : goal.overflow_sub-front
overflow_sub-front c =
    let s = c.requires.0 in
    let is = c.requires.1 in
    let name = c.args.name.now in
    let text = c.bytes_of-text.result.now in
    let has = entry_under c.args.shard.now s name text c.bytes_of-text.ensures.text is c.bytes_of-text.ensures.named in
    let e = entry_at s name in
    let t = front_found (at s.entries name) c.in-Some.front (c.in-Some.ensures.front (at s.entries name) has) in
    let there = subst (HasEntry (rows_of c.args.shard.now) text) t.0 has in
    omega (arith, tags_in c.in-Some.front e t.1, (c.take_due-tags.ensures.entry e there t.1).1, fewer_left c.args.seen e.tags)

pub settle-requires : goal.settle-requires
settle-requires c =
    let s = c.requires.0 in
    let is = c.requires.1 in
    let name = c.args.name.now in
    let text = c.bytes_of-text.result.now in
    let has = entry_under c.args.shard.now s name text c.bytes_of-text.ensures.text is c.bytes_of-text.ensures.named in
    let small = c.requires.2 in
    let due = c.requires.3 in
    let e = entry_at s name in
    let t = front_found (at s.entries name) c.in-Some.front (c.in-Some.ensures.front (at s.entries name) has) in
    let there = subst (HasEntry (rows_of c.args.shard.now) text) t.0 has in
    let same = c.bytes_of-text.ensures.text in
    let tags = tags_due_taken c.args.seen e.tags in
    let taken = c.take_due-tags.ensures.entry e there t.1 in
    let n = tags_in c.in-Some.front e t.1 in
    let revision = sym (ap (λ (f : EntryFront). f.revision) t.1) ∙ c.if-front-revision.false in
    let here = subst (λ m. HasEntry (rows_of c.take_due-tags.new.shard) m (Some (record e { tags = tags }))) same taken.0 in
    let only = subst (KeepsToName c.args.shard.now c.take_due-tags.new.shard) same c.take_due-tags.ensures.only in
    let left = left_of c.args.shard.now c.take_due-tags.new.shard s name tags c.header_at-header.result (record c.in-Some.front { tags = c.take_due-tags.result }) (c.in-Some.front.tags - c.take_due-tags.result)
    is small c.bytes_of-text.ensures.named only here (c.header_at-header.ensures s is) (λ i. record (t.1 i) { tags = taken.1 i }) (omega (arith, n, taken.1, fewer_left c.args.seen e.tags))
    (omega (arith, n, taken.1, some_due c.args.seen e.tags (due revision))) in
    (s, tags, left)

pub returns-clause-answers : goal.returns-clause-answers
returns-clause-answers c s is small due =
    let name = c.args.name.now in
    let text = c.bytes_of-text.result.now in
    let has = entry_under c.args.shard.now s name text c.bytes_of-text.ensures.text is c.bytes_of-text.ensures.named in
    let e = entry_at s name in
    let t = front_found (at s.entries name) c.in-Some.front (c.in-Some.ensures.front (at s.entries name) has) in
    let there = subst (HasEntry (rows_of c.args.shard.now) text) t.0 has in
    let same = c.bytes_of-text.ensures.text in
    let tags = tags_due_taken c.args.seen e.tags in
    let taken = c.take_due-tags.ensures.entry e there t.1 in
    let n = tags_in c.in-Some.front e t.1 in
    let revision = sym (ap (λ (f : EntryFront). f.revision) t.1) ∙ c.if-front-revision.false in
    let here = subst (λ m. HasEntry (rows_of c.take_due-tags.new.shard) m (Some (record e { tags = tags }))) same taken.0 in
    let only = subst (KeepsToName c.args.shard.now c.take_due-tags.new.shard) same c.take_due-tags.ensures.only in
    let left = left_of c.args.shard.now c.take_due-tags.new.shard s name tags c.header_at-header.result (record c.in-Some.front { tags = c.take_due-tags.result }) (c.in-Some.front.tags - c.take_due-tags.result)
    is small c.bytes_of-text.ensures.named only here (c.header_at-header.ensures s is) (λ i. record (t.1 i) { tags = taken.1 i }) (omega (arith, n, taken.1, fewer_left c.args.seen e.tags))
    (omega (arith, n, taken.1, some_due c.args.seen e.tags (due revision))) in
    let free = open_shard s c.header_at-header.result (c.header_at-header.ensures s is) c.in_ok-check_changes.ensures.ok in
    let fresh = not_stale s name c.args.revision free revision in
    (fresh, tt, not_refused (IsShard (object_of c.settle.new.shard)) _ s _ fresh (c.settle.ensures.shard s tags left))
