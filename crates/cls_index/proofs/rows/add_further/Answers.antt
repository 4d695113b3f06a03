use Rattle.std.proofs.Common.{◌≡◌, ◌∙◌, ap, subst, Some}
use Rattle.object_pool.specs.Places.{rows_of}
use Rattle.object_words.specs.Numbers.{next}
use Rattle.object_words.specs.Tags.{with_tag}
use Rattle.index_entry.specs.declared.entry.EntryFront.{EntryFront}
use Rattle.class_words.specs.Shards.{HasEntry}
use Rattle.cls_index.proofs.rows.add_further.Goals as goal

pub put_revision-requires : goal.put_revision-requires
put_revision-requires c =
    let r = c.requires.there in
    (_, c.in_ok-push_tag.ensures.ok r.0 r.1 r.2 r.3)

pub returns-clause-ok : goal.returns-clause-ok
returns-clause-ok c e has is below =
    let pushed = c.in_ok-push_tag.ensures.ok e has is below in
    let revised = c.put_revision.ensures.entry (record e { tags = with_tag c.args.tag.now e.tags }) pushed in
    let revision : c.saturating_add.result ≡ next e.revision = c.saturating_add.ensures ∙ ap (λ (f : EntryFront). next f.revision) is in
    subst (λ n. HasEntry (rows_of c.put_revision.new.shard) c.args.name.now (Some (record e { revision = n; tags = with_tag c.args.tag.now e.tags }))) revision revised
