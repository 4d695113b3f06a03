use Rattle.std.proofs.Common.{refl, ◌∙◌, subst, arith}
use Rattle.container_preset.specs.Presets.{MakesOne, shard_op}
use Rattle.container_preset.proofs.Steps.{made_after}
use Rattle.container_preset.proofs.preset.make_shards.Goals as goal

pub loop-shard-preserved : goal.loop-shard-preserved
loop-shard-preserved g c =
    let i = c.loop-shard.invariant in
    let settings = c.args.settings.now in
    let d = g.D.Door.told c.args.door.now in
    let e = g.D.Door.told c.loop-shard.door in
    let f = g.D.Door.told c.make_event.new.door in
    let h = c.in_ok-make_event.ensures in (
      λ tells. made_after settings g.D.Door.alone d e f c.args.bucket.now c.args.id c.args.moment c.loop-shard.shard (i.0 tells)
          (subst (λ s. MakesOne s g.D.Door.alone e f (shard_op c.args.id c.loop-shard.shard) c.args.moment) (i.1 ∙ c.requires.settings) (h.made tells)),
      h.settings ∙ i.1,
      h.home ∙ i.2,
      refl,
      refl,
      refl,
      refl,
      i.7,
      (let below = c.loop-shard-test.true in omega (arith, below)),
    )
