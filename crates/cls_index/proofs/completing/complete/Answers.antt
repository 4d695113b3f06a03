use Rattle.object_pool.specs.Places.{object_of}
use Rattle.object_words.specs.Tags.{without_tag}
use Rattle.object_words.specs.Shards.{entry_at}
use Rattle.class_words.specs.Shards.{IsShard}
use Rattle.cls_index.proofs.StartLemmas.{not_refused}
use Rattle.cls_index.proofs.completing.complete.Goals as goal

pub settle-requires : goal.settle-requires
settle-requires c =
    let s = c.requires.0 in
    let taken = c.in_ok-header.ensures.left s c.requires.1 c.requires.2 in
    (s, without_tag c.args.tag (entry_at s c.args.name.now).tags, taken.1)

pub returns-clause-answers : goal.returns-clause-answers
returns-clause-answers c s is small =
    let taken = c.in_ok-header.ensures.left s is small in
    let tags = without_tag c.args.tag (entry_at s c.args.name.now).tags in
    (taken.0, tt, not_refused (IsShard (object_of c.settle.new.shard)) _ s _ taken.0 (c.settle.ensures.shard s tags taken.1))
