use Rattle.std.proofs.Common.{◌∙◌}
use Rattle.container_preset.proofs.Steps.{grown, leaves_row, made_events, stands_then, swap_made}
use Rattle.container_preset.proofs.preset.make_container.Goals as goal

pub returns-clause-stands : goal.returns-clause-stands
returns-clause-stands g c tells =
    let settings = c.args.settings.now in
    let d = g.D.Door.told c.args.door.now in
    let e = g.D.Door.told c.make_shards.new.door in
    let f = g.D.Door.told c.make_event.new.door in
    let has = c.in_ok-make_shards.ensures.made tells in
    let swap = swap_made settings (g.D.Door.settings c.make_shards.new.door) g.D.Door.alone e f c.args.bucket.now c.in-Ok.name c.args.owner.now c.in-Ok-new_row.row c.args.id c.args.moment
    (c.in_ok-make_shards.ensures.settings ∙ c.requires.settings) c.in-Ok.ensures.cases c.in-Ok-new_row.ensures (c.in_ok-make_event.ensures.made tells) in
    stands_then settings g.D.Door.alone d e f c.args.bucket.now c.args.owner.now c.args.id c.args.moment has swap

pub returns-clause-events : goal.returns-clause-events
returns-clause-events g c tells al none =
    let settings = c.args.settings.now in
    let d = g.D.Door.told c.args.door.now in
    let e = g.D.Door.told c.make_shards.new.door in
    let f = g.D.Door.told c.make_event.new.door in
    let has = c.in_ok-make_shards.ensures.made tells in
    let swap = swap_made settings (g.D.Door.settings c.make_shards.new.door) g.D.Door.alone e f c.args.bucket.now c.in-Ok.name c.args.owner.now c.in-Ok-new_row.row c.args.id c.args.moment
    (c.in_ok-make_shards.ensures.settings ∙ c.requires.settings) c.in-Ok.ensures.cases c.in-Ok-new_row.ensures (c.in_ok-make_event.ensures.made tells) in
    made_events settings g.D.Door.alone d e f c.args.bucket.now c.args.owner.now c.args.id c.args.moment has swap al none

pub returns-clause-row : goal.returns-clause-row
returns-clause-row g c tells al none =
    let settings = c.args.settings.now in
    let d = g.D.Door.told c.args.door.now in
    let e = g.D.Door.told c.make_shards.new.door in
    let f = g.D.Door.told c.make_event.new.door in
    let has = c.in_ok-make_shards.ensures.made tells in
    let swap = swap_made settings (g.D.Door.settings c.make_shards.new.door) g.D.Door.alone e f c.args.bucket.now c.in-Ok.name c.args.owner.now c.in-Ok-new_row.row c.args.id c.args.moment
    (c.in_ok-make_shards.ensures.settings ∙ c.requires.settings) c.in-Ok.ensures.cases c.in-Ok-new_row.ensures (c.in_ok-make_event.ensures.made tells) in
    leaves_row settings g.D.Door.alone d e f c.args.bucket.now c.args.owner.now c.args.id c.args.moment has swap al none

pub returns-clause-grows : goal.returns-clause-grows
returns-clause-grows g c tells =
    let settings = c.args.settings.now in
    let d = g.D.Door.told c.args.door.now in
    let e = g.D.Door.told c.make_shards.new.door in
    let f = g.D.Door.told c.make_event.new.door in
    let has = c.in_ok-make_shards.ensures.made tells in
    let swap = swap_made settings (g.D.Door.settings c.make_shards.new.door) g.D.Door.alone e f c.args.bucket.now c.in-Ok.name c.args.owner.now c.in-Ok-new_row.row c.args.id c.args.moment
    (c.in_ok-make_shards.ensures.settings ∙ c.requires.settings) c.in-Ok.ensures.cases c.in-Ok-new_row.ensures (c.in_ok-make_event.ensures.made tells) in
    grown settings g.D.Door.alone d e f c.args.bucket.now c.args.owner.now c.args.id c.args.moment has swap
