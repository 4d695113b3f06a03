use Rattle.std.proofs.Common.{rules, ◌+◌, ◌≤◌, ◌∙◌, subst, arith}
use Rattle.script_player.specs.Going.{Steps, GoesUpTo}
use Rattle.script_player.specs.Plays.{asked, IsEnded, fits, ComesSoFar}
use Rattle.script_player.proofs.Going.{goes_both, steps_up_to, steps_on, up_to_more}
use Rattle.script_player.proofs.player.Player.go.Goals as goal

pub returns-in_err-go_once-clause-stopped : goal.returns-in_err-go_once-clause-stopped
returns-in_err-go_once-clause-stopped g c =
    let i = c.events.invariant in
    let settings = g.D.Door.settings c.args.door.now in
    let d = g.D.Door.told c.args.door.now in
    let x = g.D.Door.told c.events.door in
    let e = g.D.Door.told c.go_once.new.door in
    let few : c.events.made + 1 ≤ c.args.most = omega (arith, c.events-test.true) in
    let stopped : g.D.Door.tells → GoesUpTo g.D.Door.alone settings c.args.moment c.args.most d e =
    λ tells. up_to_more g.D.Door.alone settings c.args.moment c.events.made c.args.most d x e few (i.goes tells)
    (subst (λ s. GoesUpTo g.D.Door.alone s c.args.moment 1 x e) i.settings (c.in_err-go_once.ensures.stopped tells)) in
    search (rules, stopped)

pub returns-in_err-go_once-clause-left : goal.returns-in_err-go_once-clause-left
returns-in_err-go_once-clause-left g c =
    let i = c.events.invariant in
    let settings = g.D.Door.settings c.args.door.now in
    let e = g.D.Door.told c.go_once.new.door in
    let left : g.D.Door.tells → ComesSoFar (asked c.args.self.now) settings e =
    λ tells. subst (λ w. ComesSoFar w settings e) i.asked (subst (λ s. ComesSoFar (asked c.events.self) s e) i.settings (c.in_err-go_once.ensures.left tells)) in
    search (rules, left)

pub returns-then-is_some-clause-gone : goal.returns-then-is_some-clause-gone
returns-then-is_some-clause-gone g c = λ tells.
    let i = c.events.invariant in
    let settings = g.D.Door.settings c.args.door.now in
    let d = g.D.Door.told c.args.door.now in
    let x = g.D.Door.told c.events.door in
    let e = g.D.Door.told c.go_once.new.door in
    let few : c.events.made + 1 ≤ c.args.most = omega (arith, c.events-test.true) in
    let steps : Steps g.D.Door.alone settings c.args.moment (IsEnded c.go_once.new.self) x e =
    subst (λ s. Steps g.D.Door.alone s c.args.moment (IsEnded c.go_once.new.self) x e) i.settings (c.in_ok-go_once.ensures.steps tells) in
    up_to_more g.D.Door.alone settings c.args.moment c.events.made c.args.most d x e few (i.goes tells)
    (steps_up_to g.D.Door.alone settings c.args.moment (IsEnded c.go_once.new.self) x e steps)

pub events-preserved : goal.events-preserved
events-preserved g c =
    let i = c.events.invariant in
    let settings = g.D.Door.settings c.args.door.now in
    let d = g.D.Door.told c.args.door.now in
    let x = g.D.Door.told c.events.door in
    let e = g.D.Door.told c.go_once.new.door in
    let going : IsEnded c.go_once.new.self → ⊥ = search rules in
    record {
      few = omega (arith, c.events-test.true);
      playing = record { stands = c.in_ok-go_once.ensures.stands; going = going };
      fits = λ tells. subst (λ s. fits c.go_once.new.self s e) i.settings (c.in_ok-go_once.ensures.fits tells);
      goes = λ tells. goes_both g.D.Door.alone settings c.args.moment c.events.made 1 d x e (i.goes tells)
          (steps_on g.D.Door.alone settings c.args.moment (IsEnded c.go_once.new.self) x e going
          (subst (λ s. Steps g.D.Door.alone s c.args.moment (IsEnded c.go_once.new.self) x e) i.settings (c.in_ok-go_once.ensures.steps tells)));
      asked = c.go_once.ensures.asked ∙ i.asked;
      settings = c.go_once.ensures.settings ∙ i.settings;
      home = c.go_once.ensures.home ∙ i.home;
    }
