use Rattle.std.proofs.Common.{sym, subst}
use Rattle.object_pool.specs.Places.{object_of}
use Rattle.object_words.specs.Entries.{with_tags}
use Rattle.object_words.specs.Tags.{without_tag}
use Rattle.object_words.specs.Shards.{entry_at, with_entry}
use Rattle.class_words.specs.Shards.{IsShard}
use Rattle.cls_index.specs.Rows.{IsLeft}
use Rattle.cls_index.proofs.StartLemmas.{not_refused}
use Rattle.cls_index.proofs.cancelling.cancel.Goals as goal

pub keep_row-requires : goal.keep_row-requires
keep_row-requires c =
    let s = c.requires.0 in
    let tags = without_tag c.args.tag (entry_at s c.args.name.now).tags in
    let taken = c.in_ok-header.ensures.left s c.requires.1 c.requires.2 in
    (s, tags, subst (λ n. IsLeft (object_of c.take_change.new.shard) s n tags c.in_ok-header.header c.in_ok-header.left 1) (sym c.bytes_of.ensures.text) taken.1)

pub returns-clause-answers : goal.returns-clause-answers
returns-clause-answers c s is small =
    let tags = without_tag c.args.tag (entry_at s c.args.name.now).tags in
    let taken = c.in_ok-header.ensures.left s is small in
    let same = c.bytes_of.ensures.text in
    let here = subst (λ n. IsLeft (object_of c.take_change.new.shard) s n tags c.in_ok-header.header c.in_ok-header.left 1) (sym same) taken.1 in
    let done = subst (λ n. IsShard (object_of c.keep_row.new.shard) (with_entry s n (with_tags (entry_at s n) tags))) same (c.keep_row.ensures.shard s tags here) in
    (taken.0, tt, not_refused (IsShard (object_of c.keep_row.new.shard)) _ s _ taken.0 done)
