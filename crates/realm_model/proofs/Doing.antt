-- An event adds itself to its actor's doings.
use Rattle.std.proofs.Common.{◌≡◌, List, [], ◌∷◌, ◌++◌, ◌∙◌, ap}
use Rattle.realm_model.specs.Settings.{SettingsView}
use Rattle.realm_model.specs.States.{number_next, clock_at}
use Rattle.realm_model.specs.Maps.{heads}
use Rattle.realm_model.specs.Learnt.{learnt}
use Rattle.realm_model.specs.Accounts.{accounted}
use Rattle.realm_model.specs.Worlds.{World, start, actor_of, happens}
use Rattle.realm_model.specs.Histories.{Doings, done, doings_of, world_of, state_of}
use Rattle.realm_model.specs.declared.event.Event.{Event}
use Rattle.realm_model.proofs.Runs.{run-append}
use Rattle.realm_model.proofs.ObjectLemmas.{put_actor_here}
use Rattle.realm_model.proofs.Agreeing.{maps-run}

pub doings-next : (settings : SettingsView) (history : List Event) (e : Event) → doings_of settings (history ++ e ∷ []) (actor_of e) ≡ done (doings_of settings history (actor_of e)) (heads history) (world_of settings history).stripes.made e.op e.reply (number_next (state_of settings history)) (clock_at (state_of settings history).clock e.moment)
doings-next settings history e =
    let w = world_of settings history in
    let actor = actor_of e in
    let doings : World → Doings = λ x. record { phase = x.phases actor; account = x.accounts actor } in
    let number = number_next w.state in
    let clock = clock_at w.state.clock e.moment in
    let phase = put_actor_here w.phases actor (learnt (w.phases actor) e.op e.reply number clock) in
    let account = put_actor_here w.accounts actor (accounted (w.accounts actor) w.maps w.stripes.made e.op e.reply number clock) in
    let one : doings (happens settings w e) ≡ done (doings w) w.maps w.stripes.made e.op e.reply number clock =
    λ i. record { phase = phase i; account = account i } in
    ap doings (run-append settings (start settings) history (e ∷ [])) ∙ one
    ∙ ap (λ maps. done (doings w) maps w.stripes.made e.op e.reply number clock) (maps-run settings (start settings) history)
