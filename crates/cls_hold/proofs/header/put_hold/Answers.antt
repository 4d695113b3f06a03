use Rattle.object_pool.specs.Places.{object_of}
use Rattle.index_entry.proofs.HeaderLemmas.{header_long}
use Rattle.class_words.specs.Shards.{header_of}
use Rattle.cls_hold.proofs.HoldLemmas.{held_shard}
use Rattle.cls_hold.proofs.header.put_hold.Goals as goal

pub put_header-requires : goal.put_header-requires
put_header-requires c = header_long _ (header_of c.requires.0) c.requires.1.attrs

pub returns-clause-shard : goal.returns-clause-shard
returns-clause-shard c s is read =
    held_shard (object_of c.args.shard.now) (object_of c.put_header.new.shard) s _ c.args.hold c.args.fence is (λ i. record (read i) { hold = c.args.hold; fence = c.args.fence }) c.put_header.ensures.fits
    c.put_header.ensures.bytes c.put_header.ensures.attrs c.put_header.ensures.rows
