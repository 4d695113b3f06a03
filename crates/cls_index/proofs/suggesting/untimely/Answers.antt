use Rattle.std.proofs.Common.{sym, ap, ◌∙◌, subst}
use Rattle.object_pool.specs.Places.{rows_of}
use Rattle.object_words.specs.Names.{at}
use Rattle.object_words.specs.Shards.{entry_at}
use Rattle.index_entry.specs.declared.entry.EntryFront.{EntryFront}
use Rattle.class_words.specs.Shards.{HasEntry}
use Rattle.cls_index.proofs.RowLemmas.{front_found, tags_in}
use Rattle.cls_index.proofs.StartLemmas.{changed_since, entry_under, too_early, was_due}
use Rattle.cls_index.proofs.suggesting.untimely.Goals.{then-front-revision-via-then-front-revision, then-front-revision-via-else-front-revision+then-has_due}
use Rattle.cls_index.proofs.suggesting.untimely.Goals as goal

pub front_at-requires : goal.front_at-requires
front_at-requires c =
    let s = c.requires.0 in
    let name = c.args.name.now in
    let text = c.bytes_of-text.result.now in
    (at s.entries name, entry_under c.args.shard.now s name text c.bytes_of-text.ensures.text c.requires.1 c.bytes_of-text.ensures.named)

pub has_due-requires : goal.has_due-requires
has_due-requires c =
    let s = c.requires.0 in
    let name = c.args.name.now in
    let text = c.bytes_of-text.result.now in
    let has = entry_under c.args.shard.now s name text c.bytes_of-text.ensures.text c.requires.1 c.bytes_of-text.ensures.named in
    let t = front_found (at s.entries name) c.in-Some.front (c.in-Some.ensures.front (at s.entries name) has) in
    (entry_at s name, subst (HasEntry (rows_of c.args.shard.now) text) t.0 has, tags_in c.in-Some.front (entry_at s name) t.1)

pub returns-then-front-revision : goal.returns-then-front-revision
returns-then-front-revision c s is =
    let name = c.args.name.now in
    let text = c.bytes_of-text.result.now in
    let has = entry_under c.args.shard.now s name text c.bytes_of-text.ensures.text is c.bytes_of-text.ensures.named in
    let t = front_found (at s.entries name) c.in-Some.front (c.in-Some.ensures.front (at s.entries name) has) in
    elim c.then-front-revision.branch [
      | then-front-revision-via-then-front-revision w ↦
          sym (changed_since s name c.args.revision c.args.seen c.in-Some.front.revision (ap (λ (f : EntryFront). f.revision) t.1) w.if-front-revision.true)
      | then-front-revision-via-else-front-revision+then-has_due w ↦
          let there = subst (HasEntry (rows_of c.args.shard.now) text) t.0 has in
          sym (was_due s name c.args.revision c.args.seen (sym (w.has_due.ensures (entry_at s name) there (tags_in c.in-Some.front (entry_at s name) t.1)) ∙ w.if-has_due.true))
    ]

pub returns : goal.returns
returns c s is =
    let name = c.args.name.now in
    let text = c.bytes_of-text.result.now in
    let has = entry_under c.args.shard.now s name text c.bytes_of-text.ensures.text is c.bytes_of-text.ensures.named in
    let t = front_found (at s.entries name) c.in-Some.front (c.in-Some.ensures.front (at s.entries name) has) in
    let there = subst (HasEntry (rows_of c.args.shard.now) text) t.0 has in
    sym (too_early s name c.args.revision c.args.seen c.in-Some.front.revision (ap (λ (f : EntryFront). f.revision) t.1) c.if-front-revision.false
    (sym (c.has_due.ensures (entry_at s name) there (tags_in c.in-Some.front (entry_at s name) t.1)) ∙ c.if-has_due.false))
