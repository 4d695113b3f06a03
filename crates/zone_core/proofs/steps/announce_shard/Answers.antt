use Rattle.std.proofs.Common.{ap, subst, arith}
use Rattle.object_words.specs.declared.log.LogWhat.TheVariants.{Shard as shard_row}
use Rattle.object_words.specs.Logs.{logged}
use Rattle.realm_model.specs.States.{at_changes, touched}
use Rattle.realm_model.specs.declared.event.Reply.TheVariants.{Position}
use Rattle.zone_core.specs.Stands.{Stands}
use Rattle.zone_core.proofs.steps.announce_shard.Goals as goal

pub announce-requires : goal.announce-requires
announce-requires c =
    let given = c.requires.ready in
    record { stands = (given.0, given.1, given.2, given.3.stands, omega (arith, given.3.small.changes, given.3.few)) }

pub returns-in-Ok : goal.returns-in-Ok
returns-in-Ok c settings zone st ready =
    let told = c.in-Ok.ensures settings zone st ready.stands (omega (arith, ready.small.changes, ready.few)) in (
      ap Position told.0,
      subst (λ bucket. Stands settings zone c.announce.new.pool (touched settings st (at_changes zone (logged (st.changes zone) (shard_row c.args.container c.args.instance c.args.shard bucket))))) c.in_ok-bucket.ensures.cases told.1,
    )

pub returns : goal.returns
returns c settings zone st ready = c.in-Err.ensures settings zone st ready.stands (omega (arith, ready.small.changes, ready.few))
