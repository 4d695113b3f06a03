use Rattle.std.proofs.Common.{rules, subst}
use Rattle.script_player.specs.Going.{GoesUpTo}
use Rattle.script_player.specs.Plays.{asked, ComesSoFar}
use Rattle.script_player.proofs.Going.{up_to_still, steps_up_to}
use Rattle.script_player.proofs.Leaving.{comes_as_before, comes_unkept}
use Rattle.script_player.proofs.player.Player.go_once.Goals as goal

pub returns-in_err-act-clause-stopped : goal.returns-in_err-act-clause-stopped
returns-in_err-act-clause-stopped g c =
    let settings = g.D.Door.settings c.args.door.now in
    let d = g.D.Door.told c.args.door.now in
    let e = g.D.Door.told c.act.new.door in
    let stopped : g.D.Door.tells → GoesUpTo g.D.Door.alone settings c.args.moment 1 d e =
    λ tells. up_to_still g.D.Door.alone settings c.args.moment 1 d e (c.requires.legal tells) (c.in_err-act.ensures.stays tells) in
    search (rules, stopped)

pub returns-in_err-act-clause-left : goal.returns-in_err-act-clause-left
returns-in_err-act-clause-left g c =
    let settings = g.D.Door.settings c.args.door.now in
    let d = g.D.Door.told c.args.door.now in
    let e = g.D.Door.told c.act.new.door in
    let left : g.D.Door.tells → ComesSoFar (asked c.args.self.now) settings e =
    λ tells. comes_as_before c.args.self.now settings d e c.requires.playing.stands (c.requires.fits tells) (c.in_err-act.ensures.stays tells) in
    search (rules, left)

pub returns-in-Err-clause-stopped : goal.returns-in-Err-clause-stopped
returns-in-Err-clause-stopped g c = λ tells.
    steps_up_to g.D.Door.alone (g.D.Door.settings c.args.door.now) c.args.moment _ (g.D.Door.told c.args.door.now) (g.D.Door.told c.act.new.door) (c.in_ok-act.ensures.steps tells)

pub returns-in-Err-clause-left : goal.returns-in-Err-clause-left
returns-in-Err-clause-left g c = λ tells.
    let settings = g.D.Door.settings c.args.door.now in
    let e = g.D.Door.told c.act.new.door in
    subst (λ w. ComesSoFar w settings e) c.act.ensures.asked (comes_unkept c.act.new.self.acting settings e c.in_ok-act.ensures.stands (c.in_ok-act.ensures.brings tells))
