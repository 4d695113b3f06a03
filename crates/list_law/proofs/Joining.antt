-- The rows of a listing are those of a map that has under each name what an own event showed of it.
use Rattle.std.proofs.Common.{◌≡◌, ⊎_elim, ℕ, Bool, true, false, List, take, drop, None, refl, sym, ◌∙◌, ap, subst}
use Rattle.std.specs.List.{Contains}
use Rattle.std.specs.Prelude.{unwrap_or}
use Rattle.std.specs.FinMap.Entries.{find}
use Rattle.std.proofs.lemmas.Bool.{both_ways}
use Rattle.std.proofs.lemmas.List.{take-append-drop}
use Rattle.object_words.specs.declared.head.SeenSlot.{SeenSlot}
use Rattle.object_words.specs.declared.head.SeenSlot.TheVariants.{Nothing}
use Rattle.object_words.specs.Names.{name_cmp, Named, at}
use Rattle.realm_model.specs.Containers.{is_standing}
use Rattle.realm_model.specs.Settings.{SettingsView, IsSettings}
use Rattle.realm_model.specs.Phases.{ActorId}
use Rattle.realm_model.specs.Maps.{slot_at, no_maps, heads}
use Rattle.realm_model.specs.Histories.{world_of, state_of, account_of, Legal}
use Rattle.realm_model.specs.Owns.{OwnEvent, own_events}
use Rattle.realm_model.specs.declared.event.Event.{Event}
use Rattle.list_words.specs.declared.command.ListCommand.{ListCommand}
use Rattle.list_words.specs.declared.row.ListedRow.{ListedRow}
use Rattle.list_words.specs.Listings.{in_scope, rows_of}
use Rattle.task_list.specs.declared.request.ListRequest.{ListRequest}
use Rattle.task_list.specs.Listed.{slot_row, IsFolded, IsShown, is_within, IsEnough, AreShown, ListedBy}
use Rattle.task_list.proofs.Names.{truth}
use Rattle.index_law.specs.Tables.{StandsIn}
use Rattle.index_law.proofs.Consequences.{stands_of}
use Rattle.list_law.specs.Maps.{live_names, slot_after, HadAt, AreOfMap}
use Rattle.list_law.proofs.Kept.{listed_alike}
use Rattle.list_law.proofs.Turned.{live_rises, live_at, same_live, turned_map, turned_at, lacked_from, mapped_by-append}
use Rattle.list_law.proofs.Places.{some_event}
use Rattle.list_law.proofs.Seeing.{ShownAt, by_page, by_head}

module _ (settings : SettingsView) (history : List Event) (good : IsSettings settings) (legal : Legal settings history) (actor : ActorId) (zone : ℕ) (c : ListCommand) (container : ℕ) (stood : StandsIn (world_of settings history) container) (rows : List ListedRow)
    (any : OwnEvent) (any_made : Contains (own_events history actor) any) (a : AreShown zone c container rows (own_events history actor)) where
  abbrev events : List OwnEvent
  events = own_events history actor

  -- what the map is to have under a name, and whether the listing looked at the name itself
  record Told (name : List ℕ) : Type 0 where
    slot : SeenSlot
    had : HadAt history zone container name slot events
    looked : Bool
    alike : looked ≡ true → (find name_cmp name a.live ≡ slot_row slot) × ((in_scope c name ≡ true) × (is_within a.bound name ≡ true))
    folded : looked ≡ false → in_scope c name ≡ true → is_within a.bound name ≡ true → IsFolded c a.live name

  -- a name at which the listing did not look has what it had at any own event
  unlooked : (name : List ℕ) → (in_scope c name ≡ true → is_within a.bound name ≡ true → IsFolded c a.live name) → Told name
  unlooked name folded = record {
    slot = slot_after history any.number zone container name;
    had = record { own = any; made = any_made; slot_is = refl };
    looked = false;
    alike = λ is. cc;
    folded = λ no. folded;
  }

  looked_at : (name : List ℕ) → in_scope c name ≡ true → is_within a.bound name ≡ true → ShownAt settings history good legal actor zone c container name (find name_cmp name a.live) → Told name
  looked_at name scope within s = record {
    slot = slot_after history (s.own).number zone container name;
    had = record { own = s.own; made = s.made; slot_is = refl };
    looked = true;
    alike = λ is. (s.row_is, (scope, within));
    folded = λ no. cc;
  }

  by_shown : (name : List ℕ) → in_scope c name ≡ true → is_within a.bound name ≡ true → IsShown zone c container a.live name events → Told name
  by_shown name scope within shown =
      ⊎_elim (λ own.
      looked_at name scope within
      (⊎_elim (λ page. by_page settings history good legal actor zone c container name stood (find name_cmp name a.live) page)
      (λ head. by_head settings history good legal actor zone c container name (find name_cmp name a.live) head) own))
      (λ f. unlooked name (λ s w. f)) shown

  told : (name : List ℕ) → Told name
  told name =
      elim (in_scope c name) as (λ b. in_scope c name ≡ b → Told name) [
        | false ↦ λ no. unlooked name (λ scope within. absurd (both_ways _ no scope))
        | true ↦ λ scope.
            elim (is_within a.bound name) as (λ b. is_within a.bound name ≡ b → Told name) [
              | false ↦ λ no. unlooked name (λ s within. absurd (both_ways _ no within))
              | true ↦ λ within. by_shown name scope within (a.shown name scope within)
            ] refl
      ] refl

  slots : List ℕ → SeenSlot
  slots name = (told name).slot

  whole : Named SeenSlot
  whole = heads history zone container

  -- a name that the container never had has nothing
  never : (name : List ℕ) → at whole name ≡ None → slots name ≡ Nothing
  unfolding slots whole
  never name none =
      let h = (told name).had in
      let n = (h.own).number in
      let later = mapped_by-append no_maps (take n history) (drop n history) in
      let split = ap (λ l. heads l zone container) (sym (take-append-drop n history)) ∙ ap (λ ms. ms zone container) later in
      let lacks = lacked_from (heads (take n history)) (drop n history) zone container name (subst (λ m. at m name ≡ None) split none) in
      h.slot_is ∙ ap (λ o. unwrap_or o Nothing) lacks

  of_slots : Named SeenSlot
  of_slots = turned_map slots whole

  has_slot : (name : List ℕ) → slot_at of_slots name ≡ slots name
  unfolding of_slots
  has_slot name = turned_at slots whole name (never name)

  had : (name : List ℕ) → HadAt history zone container name (slot_at of_slots name) events
  unfolding slots
  had name =
      let h = (told name).had in record { own = h.own; made = h.made; slot_is = has_slot name ∙ h.slot_is }

  rows_are : rows ≡ rows_of c (live_names of_slots)
  unfolding slots
  rows_are =
      a.rows_are
      ∙ sym (listed_alike c a.bound a.live (live_names of_slots) (truth _ a.rise) (live_rises of_slots) a.asked (λ name. (told name).looked)
      (λ name is. let t = (told name).alike is in (t.0 ∙ ap slot_row (sym (has_slot name)) ∙ sym (live_at of_slots name), t.1))
      (λ name no scope within. (told name).folded no scope within)
      (subst (λ r. IsEnough c a.bound r) a.rows_are a.enough))

  of_map : AreOfMap history zone c container rows events
  of_map = record { slots = of_slots; had = had; rows_are = rows_are }

pub listed_of_map : (settings : SettingsView) (history : List Event) (actor : ActorId) (r : ListRequest) (rows : List ListedRow) → IsSettings settings → Legal settings history
    → (listed : ListedBy r rows (account_of settings history actor) (own_events history actor)) → is_standing (world_of settings history).rows (state_of settings history) (listed.row).id ≡ true → AreOfMap history r.zone r.command (listed.row).id rows (own_events history actor)
listed_of_map settings history actor r rows good legal l stands =
    let some = some_event settings history actor l.look l.is_last in
    of_map settings history good legal actor r.zone r.command (l.row).id (stands_of (world_of settings history) (l.row).id stands) rows some.0 some.1 l.shown

pub listed_of_calm_map : (settings : SettingsView) (history : List Event) (actor : ActorId) (r : ListRequest) (rows : List ListedRow) → IsSettings settings → Legal settings history
    → (listed : ListedBy r rows (account_of settings history actor) (own_events history actor)) → is_standing (world_of settings history).rows (state_of settings history) (listed.row).id ≡ true
    → ((own : OwnEvent) (name : List ℕ) → Contains (own_events history actor) own → slot_after history own.number r.zone (listed.row).id name ≡ slot_at (heads history r.zone (listed.row).id) name)
    → rows ≡ rows_of r.command (live_names (heads history r.zone (listed.row).id))
listed_of_calm_map settings history actor r rows good legal l stands calm =
    let m = listed_of_map settings history actor r rows good legal l stands in
    m.rows_are
    ∙ ap (rows_of r.command) (same_live m.slots (heads history r.zone (l.row).id) (λ name. let h = m.had name in h.slot_is ∙ calm h.own name h.made))
