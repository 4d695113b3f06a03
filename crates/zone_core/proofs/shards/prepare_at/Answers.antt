use Rattle.std.proofs.Common.{rules, ◌≡◌, sym, subst, refl}
use Rattle.object_words.specs.ShardCalls.{prepare_refusal, prepared}
use Rattle.object_words.specs.Tags.{guard_of, tag_of}
use Rattle.class_words.specs.Shards.{IsShard}
use Rattle.zone_core.proofs.ShardCallLemmas.{class_answers, has_tags_below, room_here, shard_here, small_here}
use Rattle.zone_core.proofs.shards.prepare_at.Goals as goal

pub prepare-requires : goal.prepare-requires
prepare-requires c =
    let given = c.requires.ready in
    let key = c.args.key.now in
    let here = shard_here given.0 given.1 c.args.pool.now c.args.pool.now given.2 key c.requires.shard given.3.stands (c.in-Some.ensures.found.0 refl) in
    let s = here.0 in (
      s,
      subst (λ o. IsShard o s) (sym c.in-Some.ensures.some.object) here.2,
      room_here given.0 given.1 c.args.pool.now given.2 key given.3 s here.1,
      has_tags_below given.2.count c.args.number s (small_here given.0 given.1 c.args.pool.now given.2 key given.3 s here.1) given.4,
    )

pub returns : goal.returns
returns c settings zone st ready number =
    let p = c.args.pool.now in
    let key = c.args.key.now in
    let tag = tag_of c.args.number c.args.clock c.args.life in
    let told = class_answers settings zone p _ st key c.requires.shard ready.stands c.in-Some.shard c.prepare.new.shard (c.in-Some.ensures.found.0 refl) c.in-Some.ensures.some c.prepare.ensures.works (search rules) c.prepare.result
    prepare_refusal (λ s guard. guard ≡ guard_of tag) (λ s. prepared s c.args.name.now tag)
    (λ s found is. c.prepare.ensures.answers s is (room_here settings zone p st key ready s found) (has_tags_below st.count c.args.number s (small_here settings zone p st key ready s found) number)) in
    told.2
