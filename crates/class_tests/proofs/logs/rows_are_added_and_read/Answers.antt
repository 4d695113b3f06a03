use Rattle.std.proofs.Common.{◌≡◌, [], sym, ap, ◌∙◌, subst, arith}
use Rattle.rgw_types.specs.declared.pool_key.Key.TheVariants.{Changes}
use Rattle.object_pool.specs.declared.place.Place.{Place}
use Rattle.object_pool.specs.Objects.{PoolView, object_at, nothing}
use Rattle.object_pool.specs.Places.{IsPlaceIn, object_of}
use Rattle.object_words.specs.Logs.{logged, no_log}
use Rattle.cls_log.specs.LogObjects.{IsLogObject}
use Rattle.cls_log.proofs.RowLemmas.{empty_log}
use Rattle.class_tests.proofs.logs.rows_are_added_and_read.Goals as goal

-- the place of the log in a new pool
new_log : (pool : PoolView) (place : Place) → pool.slots ≡ [] → IsPlaceIn pool Changes (object_at pool Changes) place → IsLogObject (object_of place) no_log
new_log pool place none is =
    let settled : object_at pool Changes ≡ nothing = ap (λ slots. object_at (record pool { slots = slots }) Changes) none in
    subst (λ o. IsLogObject o no_log) (sym (is.object ∙ settled)) empty_log

pub add-requires : goal.add-requires
add-requires g c = (no_log, new_log c.in_ok-pool.pool c.in_ok-log.log (ap (λ (p : PoolView). p.slots) c.in_ok-pool.ensures) c.in_ok-log.ensures.ok, omega arith)

pub add-requires-2 : goal.add-requires-2
add-requires-2 g c =
    let a = new_log c.in_ok-pool.pool c.in_ok-log.log (ap (λ (p : PoolView). p.slots) c.in_ok-pool.ensures) c.in_ok-log.ensures.ok in
    let b = c.in_ok-add.ensures.answers no_log a (omega arith) in (logged no_log c.in_ok-shard.field-0, b.1, omega arith)

pub add-requires-3 : goal.add-requires-3
add-requires-3 g c =
    let a = new_log c.in_ok-pool.pool c.in_ok-log.log (ap (λ (p : PoolView). p.slots) c.in_ok-pool.ensures) c.in_ok-log.ensures.ok in
    let b = c.in_ok-add.ensures.answers no_log a (omega arith) in
    let d = c.in_ok-add-2.ensures.answers (logged no_log c.in_ok-shard.field-0) b.1 (omega arith) in (logged (logged no_log c.in_ok-shard.field-0) c.in_ok-shard-2.field-0, d.1, omega arith)

pub has_pages-requires : goal.has_pages-requires
has_pages-requires g c =
    let a = new_log c.in_ok-pool.pool c.in_ok-log.log (ap (λ (p : PoolView). p.slots) c.in_ok-pool.ensures) c.in_ok-log.ensures.ok in
    let b = c.in_ok-add.ensures.answers no_log a (omega arith) in
    let two = logged (logged no_log c.in_ok-shard.field-0) c.in_ok-shard-2.field-0 in
    let d = c.in_ok-add-2.ensures.answers (logged no_log c.in_ok-shard.field-0) b.1 (omega arith) in
    let e = c.in_ok-add-3.ensures.answers two d.1 (omega arith) in (logged two c.in_ok-shard-3.field-0, e.1)
