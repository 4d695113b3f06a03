-- The rows of a listing of a container that rests are those of its map.
use Rattle.std.proofs.Common.{◌≡◌, ℕ, true, List, ◌++◌, length, sym, ◌∙◌, ap, subst}
use Rattle.std.specs.List.{Contains}
use Rattle.object_words.specs.declared.bucket.Bucket.{Bucket}
use Rattle.realm_model.specs.Maps.{slot_at, heads}
use Rattle.realm_model.specs.Settings.{SettingsView, IsSettings}
use Rattle.realm_model.specs.Phases.{ActorId}
use Rattle.realm_model.specs.Histories.{world_of, state_of, account_of, Legal}
use Rattle.realm_model.specs.Containers.{is_standing}
use Rattle.realm_model.specs.Owns.{OwnEvent, own_events, NoneBy}
use Rattle.realm_model.specs.declared.event.Event.{Event}
use Rattle.list_words.specs.declared.row.ListedRow.{ListedRow}
use Rattle.list_words.specs.Listings.{rows_of}
use Rattle.task_list.specs.declared.request.ListRequest.{ListRequest}
use Rattle.task_list.specs.Listed.{ListedBy}
use Rattle.list_law.specs.Maps.{live_names, slot_after}
use Rattle.list_law.proofs.Joining.{listed_of_calm_map}
use Rattle.settled_law.specs.Resting.{Rests, IsLeftAtRest}
use Rattle.settled_law.proofs.Meanwhile.{AmidFrom, all_contains, amid, map_with}
use Rattle.settled_law.proofs.Looks.{same_some, last_look}

pub listed_at_rest : (settings : SettingsView) (before during : List Event) (actor : ActorId) (r : ListRequest) (row : Bucket) (rows : List ListedRow) → IsSettings settings → Legal settings (before ++ during) → NoneBy actor before
    → Rests settings before r.zone (r.command).container row → IsLeftAtRest settings before during r.zone (r.command).container row → ListedBy r rows (account_of settings (before ++ during) actor) (own_events (before ++ during) actor)
    → rows ≡ rows_of r.command (live_names (heads (before ++ during) r.zone row.id))
listed_at_rest settings before during actor r row rows good legal none rests calm l =
    let history = before ++ during in
    let look = last_look settings actor r.zone (r.command).container row before during legal rests calm.swaps none l.look l.is_last l.in_zone l.under_name in
    let same : l.row ≡ row = same_some (sym l.showed ∙ look) in
    let id : (l.row).id ≡ row.id = ap (λ (b : Bucket). b.id) same in
    let stands = subst (λ c. is_standing (world_of settings history).rows (state_of settings history) c ≡ true) (sym id) calm.stands in
    let events = amid before during actor none in
    let still : (own : OwnEvent) (name : List ℕ) → Contains (own_events history actor) own → slot_after history own.number r.zone (l.row).id name ≡ slot_at (heads history r.zone (l.row).id) name =
    λ own name there.
    subst (λ c. slot_after history own.number r.zone c name ≡ slot_at (heads history r.zone c) name) (sym id)
    (ap (λ m. slot_at m name) (map_with settings before during r.zone (r.command).container row good legal rests calm own (all_contains (AmidFrom (length before) during) (own_events history actor) own events there))) in
    listed_of_calm_map settings history actor r rows good legal l stands still ∙ ap (λ c. rows_of r.command (live_names (heads history r.zone c))) id
