use Rattle.std.proofs.Common.{◌≡◌, ℕ, List, ◌+◌, ◌<◌, ◌^◌, length, ◌∙◌, ap, sym, subst}
use Rattle.realm_model.specs.Histories.{state_of}
use Rattle.realm_model.specs.States.{at_moment, clock_at}
use Rattle.realm_model.specs.declared.event.Event.{Event}
use Rattle.realm_core.specs.Answers.{event_of, reply_after}
use Rattle.realm_core.specs.Realms.{HasHistory, RealmView}
use Rattle.realm_core.proofs.Histories.{count_is, has_next, has_still, ready_at}
use Rattle.realm_core.proofs.realm.Realm.change.Goals as goal

pub perform_in-requires : goal.perform_in-requires
perform_in-requires c =
    let settings = c.self.inside.settings in
    let history = c.self.inside.scroll in
    let room : length history < 2 ^ 62 = subst (λ (r : RealmView). length r.history < 2 ^ 62) (sym c.self.view_is) c.requires in
    record {
      ready = (
        at_moment (state_of settings history) c.args.moment,
        ready_at settings c.self.inside.zones.items history c.self.inside.clock c.args.moment c.self.invariant room,
        ap (λ n. n + 1) (c.len-number.ensures ∙ sym (count_is settings history)),
      );
    }

pub invariant_of-self : goal.invariant_of-self
invariant_of-self c =
    let settings = c.self.inside.settings in
    let history = c.self.inside.scroll in
    let moment = c.args.moment in
    let has = c.self.invariant in
    let room : length history < 2 ^ 62 = subst (λ (r : RealmView). length r.history < 2 ^ 62) (sym c.self.view_is) c.requires in
    let ready = ready_at settings c.self.inside.zones.items history c.self.inside.clock moment has room in
    let left = c.in_err-reply.ensures.changes (at_moment (state_of settings history) moment) ready (ap (λ n. n + 1) (c.len-number.ensures ∙ sym (count_is settings history)))
    (c.clock_at-clock.ensures ∙ ap (λ n. clock_at n moment) has.clock) in
    has_still settings c.self.inside.zones.items c.perform_in.new.zones.items history c.self.inside.clock moment has c.perform_in.ensures.length left

pub invariant_of-self-2 : goal.invariant_of-self-2
invariant_of-self-2 c =
    let settings = c.self.inside.settings in
    let history = c.self.inside.scroll in
    let moment = c.args.moment in
    let has = c.self.invariant in
    let room : length history < 2 ^ 62 = subst (λ (r : RealmView). length r.history < 2 ^ 62) (sym c.self.view_is) c.requires in
    let ready = ready_at settings c.self.inside.zones.items history c.self.inside.clock moment has room in
    let left = c.in_ok-reply.ensures.changes (at_moment (state_of settings history) moment) ready (ap (λ n. n + 1) (c.len-number.ensures ∙ sym (count_is settings history)))
    (c.clock_at-clock.ensures ∙ ap (λ n. clock_at n moment) has.clock) in
    let e : Event = event_of c.args.actor.now c.args.op.now moment c.in_ok-reply.reply in
    subst (λ (n : ℕ). HasHistory settings c.perform_in.new.zones.items c.note.new.scroll n) (sym c.clock_at-clock.ensures)
    (subst (λ (h : List Event). HasHistory settings c.perform_in.new.zones.items h (clock_at c.self.inside.clock moment)) (sym c.note.ensures)
    (has_next settings c.self.inside.zones.items c.perform_in.new.zones.items history c.self.inside.clock e has room c.sizes_fit.ensures c.perform_in.ensures.length left.1))

pub returns-clause-reply : goal.returns-clause-reply
returns-clause-reply c =
    let settings = c.self.inside.settings in
    let history = c.self.inside.scroll in
    let moment = c.args.moment in
    let has = c.self.invariant in
    let room : length history < 2 ^ 62 = subst (λ (r : RealmView). length r.history < 2 ^ 62) (sym c.self.view_is) c.requires in
    let ready = ready_at settings c.self.inside.zones.items history c.self.inside.clock moment has room in
    let left = c.in_ok-reply.ensures.changes (at_moment (state_of settings history) moment) ready (ap (λ n. n + 1) (c.len-number.ensures ∙ sym (count_is settings history)))
    (c.clock_at-clock.ensures ∙ ap (λ n. clock_at n moment) has.clock) in
    subst (λ (r : RealmView). c.in_ok-reply.reply ≡ reply_after r.settings r.history c.args.op.now moment) c.self.view_is left.0
