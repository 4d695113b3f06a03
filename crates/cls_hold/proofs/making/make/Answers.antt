use Rattle.std.proofs.Common.{◌∙◌, sym}
use Rattle.object_pool.specs.Places.{object_of}
use Rattle.class_words.proofs.FreshLemmas.{is_made, stays_made}
use Rattle.cls_hold.proofs.making.make.Goals as goal

pub returns-then-exists-clause-ok : goal.returns-then-exists-clause-ok
returns-then-exists-clause-ok c s is = stays_made (object_of c.args.shard.now) s (sym c.exists.ensures ∙ c.if-exists.true) is

pub returns-clause-ok : goal.returns-clause-ok
returns-clause-ok c s is =
    is_made (object_of c.args.shard.now) _ _ s (sym c.exists.ensures ∙ c.if-exists.false) is (c.in_ok-attrs.ensures ∙ c.encode_header.ensures.form) c.set_attrs.ensures.object
