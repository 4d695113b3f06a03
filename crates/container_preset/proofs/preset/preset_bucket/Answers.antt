use Rattle.std.proofs.Common.{subst}
use Rattle.container_preset.specs.Presets.{Finds, Stops}
use Rattle.container_preset.proofs.Steps.{preset_grows, preset_stops, where_err}
use Rattle.container_preset.proofs.preset.preset_bucket.Goals as goal

pub returns-in_err-make_container-in-Some-clause-stopped : goal.returns-in_err-make_container-in-Some-clause-stopped
returns-in_err-make_container-in-Some-clause-stopped g c =
    let settings = c.args.settings.now in
    let d = g.D.Door.told c.args.door.now in
    let e = g.D.Door.told c.find_row.new.door in
    let f = g.D.Door.told c.make_container.new.door in
    where_err c.from_residual-in_err-make_container-in-Some.result (g.D.Door.tells → Stops settings g.D.Door.alone d f c.args.bucket.now c.args.moment)
    (λ tells. preset_stops settings g.D.Door.alone d e f c.args.bucket.now c.in-Some.id c.args.moment (subst (λ o. Finds settings g.D.Door.alone d e c.args.bucket.now c.args.moment o) c.in-Some.is (c.in_ok-find_row.ensures.finds tells)) (c.in_err-make_container-in-Some.ensures.stopped tells))

pub returns-in_ok-make_container-in-Some-clause-grows : goal.returns-in_ok-make_container-in-Some-clause-grows
returns-in_ok-make_container-in-Some-clause-grows g c tells =
    let settings = c.args.settings.now in
    let d = g.D.Door.told c.args.door.now in
    let e = g.D.Door.told c.find_row.new.door in
    let f = g.D.Door.told c.make_container.new.door in
    preset_grows settings g.D.Door.alone d e f c.args.bucket.now c.in-Some.id c.args.moment (subst (λ o. Finds settings g.D.Door.alone d e c.args.bucket.now c.args.moment o) c.in-Some.is (c.in_ok-find_row.ensures.finds tells)) (c.make_container.ensures.grows tells)
