use Rattle.std.proofs.Common.{◌∙◌, ap}
use Rattle.object_pool.specs.Objects.{Object}
use Rattle.object_pool.specs.Places.{object_of, rows_of}
use Rattle.index_entry.proofs.HeaderLemmas.{header_long}
use Rattle.class_words.specs.Shards.{header_of}
use Rattle.cls_hold.proofs.ShutLemmas.{shut_header, shut_shard}
use Rattle.cls_hold.proofs.shutting.shut.Goals as goal

pub put_header-requires : goal.put_header-requires
put_header-requires c = header_long _ (header_of c.requires.0) (ap (λ (o : Object). o.attrs) c.take_rows.ensures.change.object ∙ c.requires.1.attrs)

pub returns-clause-shard : goal.returns-clause-shard
returns-clause-shard c s is =
    shut_shard (object_of c.args.shard.now) (object_of c.put_header.new.shard) (rows_of c.take_rows.new.self) s _ is (shut_header s _ (c.header_at-header.ensures s is)) c.put_header.ensures.fits
    (c.put_header.ensures.bytes ∙ ap (λ (o : Object). o.bytes) c.take_rows.ensures.change.object) c.put_header.ensures.attrs c.put_header.ensures.rows
    c.take_rows.ensures.within c.take_rows.ensures.outside
