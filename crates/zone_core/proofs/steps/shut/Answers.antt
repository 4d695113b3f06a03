use Rattle.std.proofs.Common.{Ok, refl, subst}
use Rattle.realm_model.specs.declared.event.Reply.TheVariants.{Done}
use Rattle.realm_model.specs.declared.op.Op.TheVariants.{Shut}
use Rattle.zone_core.specs.Calls.{Performs}
use Rattle.zone_core.proofs.steps.shut.Goals as goal

pub returns : goal.returns
returns c settings zone st ready =
    subst (λ k. Performs settings zone st (Shut zone k) (Ok Done) c.shut_at.new.pool) c.to_key-key.ensures.key
    (refl, c.shut_at.ensures settings zone st ready.stands)
