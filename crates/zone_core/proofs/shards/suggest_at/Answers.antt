use Rattle.std.proofs.Common.{rules, sym, subst, refl, ◌∙◌}
use Rattle.object_words.specs.Refusals.{unless_refused}
use Rattle.object_words.specs.Shards.{entry_at}
use Rattle.object_words.specs.ShardCalls.{settled, suggest_refusal, suggested, untimely_refusal}
use Rattle.object_words.specs.Tags.{tags_due_taken}
use Rattle.object_pool.specs.Places.{object_of}
use Rattle.class_words.specs.Shards.{IsShard}
use Rattle.realm_model.specs.Steps.{suggest_event_refusal}
use Rattle.zone_core.proofs.ShardCallLemmas.{class_replies, had_due, in_time, room_here, shard_here}
use Rattle.zone_core.proofs.shards.suggest_at.Goals as goal

pub untimely-requires : goal.untimely-requires
untimely-requires c =
    let given = c.requires.1 in
    let here = shard_here given.0 given.1 c.args.pool.now c.args.pool.now given.2 c.args.key.now c.requires.0 given.3.stands (c.in-Some.ensures.found.0 refl) in
    (here.0, subst (λ o. IsShard o here.0) (sym c.in-Some.ensures.some.object) here.2)

pub suggest-requires : goal.suggest-requires
suggest-requires c =
    let given = c.requires.1 in
    let key = c.args.key.now in
    let here = shard_here given.0 given.1 c.args.pool.now c.args.pool.now given.2 key c.requires.0 given.3.stands (c.in-Some.ensures.found.0 refl) in
    let s = here.0 in
    let is = subst (λ o. IsShard o s) (sym c.in-Some.ensures.some.object) here.2 in (
      s,
      is,
      room_here given.0 given.1 c.args.pool.now given.2 key given.3 s here.1,
      had_due s c.args.name.now c.args.revision c.args.seen (sym (c.untimely.ensures s is) ∙ c.in_default-untimely.is),
    )

pub returns : goal.returns
returns c settings zone st ready =
    let p = c.args.pool.now in
    let key = c.args.key.now in
    let name = c.args.name.now in
    let told = class_replies settings zone p _ st key c.requires.0 ready.stands c.in-Some.shard c.suggest.new.shard (c.in-Some.ensures.found.0 refl) c.in-Some.ensures.some c.suggest.ensures.works (search rules) c.suggest.result
    (λ s. suggest_event_refusal s name c.args.revision c.args.seen) (λ s done. Unit {0})
    (λ s. unless_refused (suggest_event_refusal s name c.args.revision c.args.seen) s (suggested s name c.args.revision c.args.seen c.args.version c.args.row.now))
    (λ s found is.
    let none = sym (c.untimely.ensures s is) ∙ c.in_default-untimely.is in
    in_time c.suggest.result (untimely_refusal s name c.args.revision c.args.seen) (suggest_refusal s name c.args.revision) (λ done. Unit {0}) (IsShard (object_of c.suggest.new.shard)) s
    (settled s name (tags_due_taken c.args.seen (entry_at s name).tags) c.args.version c.args.row.now) none
    (c.suggest.ensures.answers s is (room_here settings zone p st key ready s found) (had_due s name c.args.revision c.args.seen none))) in
    told.2
