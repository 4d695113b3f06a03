use Rattle.rgw_script.proofs.Acting.{new_stands}
use Rattle.rgw_script.proofs.active.Active.new.Goals as goal

pub returns-clause-stands : goal.returns-clause-stands
returns-clause-stands c = λ realm is_open below. new_stands c.args.settings.now c.args.pass c.in_ok-new.field-0 realm
    (λ d is_new. c.in_ok-new.ensures.fits d c.requires.low c.requires.high is_new) c.in_ok-new.ensures.playing is_open below
