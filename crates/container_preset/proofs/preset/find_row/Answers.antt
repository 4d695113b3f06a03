use Rattle.std.proofs.Common.{◌≡◌, [], ◌∷◌, ◌++◌, refl, sym, subst}
use Rattle.container_preset.specs.Presets.{Finds, event_by}
use Rattle.container_preset.proofs.Steps.{finds}
use Rattle.realm_door.specs.Steps.{Extends}
use Rattle.realm_model.specs.Doors.{actor_at}
use Rattle.realm_model.specs.Suits.{Suits}
use Rattle.realm_model.specs.declared.op.Op.TheVariants.{BucketRead}
use Rattle.container_preset.proofs.preset.find_row.Goals as goal

pub returns-in-Ok-step-clause-finds : goal.returns-in-Ok-step-clause-finds
returns-in-Ok-step-clause-finds g c tells =
    let a = c.in-Ok-step.answered in
    let h = c.in-Ok-step.ensures in
    let d = g.D.Door.told c.args.door.now in
    let e = g.D.Door.told c.step.new.self in
    let name = c.in-Ok.ensures.cases in
    let x = subst (λ s. Extends s d (BucketRead 1 c.args.bucket.now) c.args.moment a e) c.requires.settings
    (subst (λ n. Extends (g.D.Door.settings c.args.door.now) d (BucketRead 1 n) c.args.moment a e) name (h.made tells)) in
    let only : g.D.Door.alone → e.seen ≡ d.seen ++ event_by (actor_at d) (BucketRead 1 c.args.bucket.now) c.args.moment a.reply ∷ [] = λ al. subst (λ n. e.seen ≡ d.seen ++ event_by (actor_at d) (BucketRead 1 n) c.args.moment a.reply ∷ []) name (h.alone tells al) in
    let suits = subst (λ n. Suits (BucketRead 1 n) a.reply) name h.suits in
    subst (λ o. Finds c.args.settings.now g.D.Door.alone d e c.args.bucket.now c.args.moment o) (sym c.number_if_absent-id.ensures)
    (finds c.args.settings.now g.D.Door.alone d e c.args.bucket.now c.args.moment a (c.requires.fresh tells) x only a.reply refl suits)
