use Rattle.std.proofs.Common.{rules, ◌∙◌}
use Rattle.std.proofs.lemmas.Result.{err_from_is_err_and}
use Rattle.rgw_script.proofs.Containers.{made_so, made_below, made_open, unmade_below, unmade_open, unmade_so}
use Rattle.rgw_script.proofs.making.make_container.Goals as goal

pub returns-in_err-preset_bucket-clause-stopped : goal.returns-in_err-preset_bucket-clause-stopped
returns-in_err-preset_bucket-clause-stopped c =
    let p = err_from_is_err_and c.from_residual.result c.from_residual.ensures.1 in
    rw (p.1, p.2) (unmade_so c.args.settings.now c.args.realm.now c.new-door.result.realm.now c.preset_bucket.new.door.realm.now c.new-door.result.actor.now c.preset_bucket.new.door.actor.now c.args.bucket.now c.args.moment
    c.new-door.ensures.realm.0 c.requires (c.new-door.ensures.actor.0 ∙ c.new-actor.ensures) c.in_err-preset_bucket.field-0.0 (c.in_err-preset_bucket.ensures.stopped tt) (c.in_err-preset_bucket.ensures.worn tt) _ (search rules))

pub returns-in_err-preset_bucket-clause-below : goal.returns-in_err-preset_bucket-clause-below
returns-in_err-preset_bucket-clause-below c =
    unmade_below c.args.settings.now c.args.realm.now c.new-door.result.realm.now c.preset_bucket.new.door.realm.now c.new-door.result.actor.now c.preset_bucket.new.door.actor.now c.args.bucket.now c.args.moment
    c.new-door.ensures.realm.0 c.requires (c.new-door.ensures.actor.0 ∙ c.new-actor.ensures) (c.in_err-preset_bucket.ensures.stopped tt) _ (search rules)

pub returns-in_err-preset_bucket-clause-open : goal.returns-in_err-preset_bucket-clause-open
returns-in_err-preset_bucket-clause-open c =
    unmade_open c.args.settings.now c.args.realm.now c.new-door.result.realm.now c.preset_bucket.new.door.realm.now c.new-door.result.actor.now c.preset_bucket.new.door.actor.now c.args.bucket.now c.args.moment
    c.new-door.ensures.realm.0 c.requires (c.new-door.ensures.actor.0 ∙ c.new-actor.ensures) (c.in_err-preset_bucket.ensures.stopped tt) _ (search rules) c.in_err-preset_bucket.ensures.settings (c.in_err-preset_bucket.ensures.legal tt)

pub returns-clause-made : goal.returns-clause-made
returns-clause-made c = made_so c.args.settings.now c.args.realm.now c.new-door.result.realm.now c.preset_bucket.new.door.realm.now c.new-door.result.actor.now c.preset_bucket.new.door.actor.now c.args.bucket.now c.args.moment
    c.new-door.ensures.realm.0 c.requires (c.new-door.ensures.actor.0 ∙ c.new-actor.ensures) c.args.user.now _ c.account.ensures (c.in_ok-preset_bucket.ensures.events tt tt) _ (search rules)

pub returns-clause-below : goal.returns-clause-below
returns-clause-below c = made_below c.args.settings.now c.args.realm.now c.new-door.result.realm.now c.preset_bucket.new.door.realm.now c.new-door.result.actor.now c.preset_bucket.new.door.actor.now c.args.bucket.now c.args.moment
    c.new-door.ensures.realm.0 c.requires (c.new-door.ensures.actor.0 ∙ c.new-actor.ensures) c.args.user.now _ (returns-clause-made c)

pub returns-clause-open : goal.returns-clause-open
returns-clause-open c = made_open c.args.settings.now c.args.realm.now c.new-door.result.realm.now c.preset_bucket.new.door.realm.now c.new-door.result.actor.now c.preset_bucket.new.door.actor.now c.args.bucket.now c.args.moment
    c.new-door.ensures.realm.0 c.requires (c.new-door.ensures.actor.0 ∙ c.new-actor.ensures) c.args.user.now _ (search rules) (returns-clause-made c) c.in_ok-preset_bucket.ensures.settings (c.in_ok-preset_bucket.ensures.legal tt)
