use Rattle.std.proofs.Common.{subst}
use Rattle.realm_model.specs.Ops.{zone_of}
use Rattle.zone_core.specs.Bounds.{IsReady}
use Rattle.zone_core.proofs.performing.perform.Goals as goal

pub bucket_swap-requires : goal.bucket_swap-requires
bucket_swap-requires c =
    let given = c.requires.ready in
    record { ready = (c.args.settings.now, given.0, subst (λ op. IsReady c.args.settings.now (zone_of op) c.args.pool.now given.0) c.in-BucketSwap.is given.1) }

pub head_write-requires-clause-ready : goal.head_write-requires-clause-ready
head_write-requires-clause-ready c =
    let given = c.requires.ready in
    (c.args.settings.now, given.0, subst (λ op. IsReady c.args.settings.now (zone_of op) c.args.pool.now given.0) c.in-HeadWrite.is given.1)
