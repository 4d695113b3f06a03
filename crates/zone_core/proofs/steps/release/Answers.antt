use Rattle.std.proofs.Common.{Ok, refl, subst}
use Rattle.realm_model.specs.declared.event.Reply.TheVariants.{Done}
use Rattle.realm_model.specs.declared.op.Op.TheVariants.{Release}
use Rattle.zone_core.specs.Calls.{Performs}
use Rattle.zone_core.proofs.steps.release.Goals as goal

pub returns : goal.returns
returns c settings zone st ready =
    subst (λ k. Performs settings zone st (Release zone k c.args.id) (Ok Done) c.release_at.new.pool) c.to_key-key.ensures.key
    (refl, c.release_at.ensures settings zone st ready.stands)
