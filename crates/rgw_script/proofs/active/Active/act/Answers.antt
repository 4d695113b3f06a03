use Rattle.std.proofs.Common.{rules}
use Rattle.rgw_script.proofs.Acting.{went, act_open, act_others, act_broken, act_stands}
use Rattle.rgw_script.proofs.Playing.{any_err}
use Rattle.rgw_script.proofs.active.Active.act.Goals as goal

pub returns-in_err-gone-clause-open : goal.returns-in_err-gone-clause-open
returns-in_err-gone-clause-open c = act_open c.args.self.now c.args.realm.now c.new-door.result.realm.now _ c.new-door.result.actor.now _ c.args.moment c.args.most
    c.new-door.ensures.realm.0 c.new-door.ensures.actor.0 c.in_err-gone.ensures.settings (c.in_err-gone.ensures.stopped tt) _ (search rules) c.requires.open

pub returns-in_err-gone-clause-broken : goal.returns-in_err-gone-clause-broken
returns-in_err-gone-clause-broken c = any_err _ _ (act_broken c.args.self.now c.args.realm.now c.new-door.result.realm.now _ c.new-door.result.actor.now _ c.args.moment c.args.most
    c.new-door.ensures.realm.0 c.new-door.ensures.actor.0 c.in_err-gone.ensures.settings (c.in_err-gone.ensures.stopped tt) _ (search rules) (c.in_err-gone.ensures.left tt) c.requires.stands.used)

pub returns-in_err-gone-clause-others : goal.returns-in_err-gone-clause-others
returns-in_err-gone-clause-others c = act_others c.args.self.now c.args.realm.now c.new-door.result.realm.now _ c.new-door.result.actor.now _ c.args.moment c.args.most
    c.new-door.ensures.realm.0 c.new-door.ensures.actor.0 c.in_err-gone.ensures.settings (c.in_err-gone.ensures.stopped tt) _ (search rules) c.others_keep_a_player.ensures

pub returns-clause-stands : goal.returns-clause-stands
returns-clause-stands c = act_stands c.args.self.now c.args.realm.now c.new-door.result.realm.now _ c.new-door.result.actor.now _ c.args.moment c.args.most
    c.new-door.ensures.realm.0 c.new-door.ensures.actor.0 c.in_ok-gone.ensures.settings (went c.in_ok-gone.gone _ _ _ _ _ (c.in_ok-gone.ensures.gone tt)) _ (search rules)
    c.in_ok-gone.gone c.go.new.self (c.in_ok-gone.ensures.fits tt) c.in_ok-gone.ensures.stands c.requires.stands.used

pub returns-clause-open : goal.returns-clause-open
returns-clause-open c = act_open c.args.self.now c.args.realm.now c.new-door.result.realm.now _ c.new-door.result.actor.now _ c.args.moment c.args.most
    c.new-door.ensures.realm.0 c.new-door.ensures.actor.0 c.in_ok-gone.ensures.settings (went c.in_ok-gone.gone _ _ _ _ _ (c.in_ok-gone.ensures.gone tt)) _ (search rules) c.requires.open

pub returns-clause-others : goal.returns-clause-others
returns-clause-others c = act_others c.args.self.now c.args.realm.now c.new-door.result.realm.now _ c.new-door.result.actor.now _ c.args.moment c.args.most
    c.new-door.ensures.realm.0 c.new-door.ensures.actor.0 c.in_ok-gone.ensures.settings (went c.in_ok-gone.gone _ _ _ _ _ (c.in_ok-gone.ensures.gone tt)) _ (search rules) c.others_keep_a_player.ensures
