use Rattle.std.proofs.Common.{◌≡◌, None, sym, subst, arith}
use Rattle.object_pool.specs.Places.{rows_of}
use Rattle.object_words.specs.Names.{at}
use Rattle.object_words.specs.Shards.{entry_at}
use Rattle.object_words.specs.ShardCalls.{complete_refusal}
use Rattle.class_words.specs.Shards.{HasEntry}
use Rattle.cls_index.proofs.RowLemmas.{tags_in}
use Rattle.cls_index.proofs.StartLemmas.{entry_under, no_refusal, open_shard, tag_there, taken_one}
use Rattle.cls_index.proofs.taking.take_change.Goals as goal

pub find_tag-requires : goal.find_tag-requires
find_tag-requires c =
    let s = c.requires.0 in
    let is = c.requires.1 in
    let name = c.args.name.now in
    let text = c.bytes_of-text.result.now in
    let has = entry_under c.args.shard.now s name text c.bytes_of-text.ensures.text is c.bytes_of-text.ensures.named in
    (at s.entries name, has)

pub take_tag-requires-clause-there : goal.take_tag-requires-clause-there
take_tag-requires-clause-there c =
    let s = c.requires.0 in
    let is = c.requires.1 in
    let name = c.args.name.now in
    let text = c.bytes_of-text.result.now in
    let has = entry_under c.args.shard.now s name text c.bytes_of-text.ensures.text is c.bytes_of-text.ensures.named in
    let t = c.in-Some.ensures.there (at s.entries name) has in
    (entry_at s name, subst (HasEntry (rows_of c.args.shard.now) text) t.0 has, t.1, t.2)

pub overflow_sub-left : goal.overflow_sub-left
overflow_sub-left c =
    let s = c.requires.0 in
    let is = c.requires.1 in
    let name = c.args.name.now in
    let text = c.bytes_of-text.result.now in
    let has = entry_under c.args.shard.now s name text c.bytes_of-text.ensures.text is c.bytes_of-text.ensures.named in
    let t = c.in-Some.ensures.there (at s.entries name) has in
    omega (arith, tags_in _ (entry_at s name) t.1, t.2)

pub returns-clause-left : goal.returns-clause-left
returns-clause-left c s is small =
    let name = c.args.name.now in
    let text = c.bytes_of-text.result.now in
    let has = entry_under c.args.shard.now s name text c.bytes_of-text.ensures.text is c.bytes_of-text.ensures.named in
    let t = c.in-Some.ensures.there (at s.entries name) has in
    let e = entry_at s name in
    let left = c.take_tag.ensures.entry e (subst (HasEntry (rows_of c.args.shard.now) text) t.0 has) t.1 t.2 in
    let here = taken_one c.args.shard.now c.take_tag.new.shard s name text c.args.tag c.in-Some.place c.header_at-header.result c.in-Some.front c.bytes_of-text.ensures.text is small c.bytes_of-text.ensures.named
    (c.header_at-header.ensures s is) t.1 t.2 t.3 c.take_tag.ensures.only left in
    let free = open_shard s c.header_at-header.result (c.header_at-header.ensures s is) c.in_ok-check_changes.ensures.ok in
    let refusal : complete_refusal s name c.args.tag ≡ None = no_refusal _ _ free (tag_there e c.args.tag (sym (c.in-Some.ensures.found (at s.entries name) has))) in
    (refusal, here)
