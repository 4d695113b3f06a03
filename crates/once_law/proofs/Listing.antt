-- One listing: what its account bears out is what the rows and the slots say.
use Rattle.std.proofs.Common.{◌≡◌, inl, inr, ℕ, zero, suc, ◌+◌, ◌<◌, ◌≤◌, true, false, cond, List, [], ◌∷◌, ◌++◌, length, take, Some, None, Option, ⊎_elim, refl, sym, ◌∙◌, ap, subst, arith}
use Rattle.std.specs.List.{AllByRecursion, Contains}
use Rattle.std.specs.Cmp.Lexicographic.{nat_list_cmp_total}
use Rattle.std.specs.FinMap.{nat_cmp-IsAntisymmetric, slice_cmp-IsAntisymmetric}
use Rattle.std.specs.FinMap.Entries.{same_entries}
use Rattle.rgw_model.specs.declared.slot.Slot.{Slot}
use Rattle.object_words.specs.declared.bucket.Bucket.{Bucket}
use Rattle.object_words.specs.declared.head.SeenSlot.{SeenSlot}
use Rattle.object_words.specs.declared.head.SeenSlot.TheVariants.{Nothing, Live, Mark}
use Rattle.object_words.specs.Names.{name_cmp, at}
use Rattle.object_words.specs.Roots.{Root}
use Rattle.object_words.specs.Rows.{RowView}
use Rattle.realm_model.specs.Containers.{is_standing}
use Rattle.index_law.proofs.Keeping.{holds}
use Rattle.realm_model.specs.Accounts.{Account}
use Rattle.realm_model.specs.Histories.{world_of, state_of, account_of, Legal}
use Rattle.realm_model.specs.Maps.{Maps, no_maps, mapped, mapped_by, heads, slot_at, whole_slot}
use Rattle.realm_model.specs.Owns.{OwnEvent, clock_after, own_from, own_events, NoneBy}
use Rattle.realm_model.specs.Phases.{ActorId}
use Rattle.realm_model.specs.Settings.{SettingsView, IsSettings}
use Rattle.realm_model.specs.States.{clock_at}
use Rattle.realm_model.specs.Worlds.{same_actor, actor_of}
use Rattle.realm_model.specs.declared.event.Event.{Event}
use Rattle.realm_model.specs.declared.event.Reply.{Reply}
use Rattle.realm_model.specs.declared.op.Op.{Op}
use Rattle.realm_model.specs.declared.op.Op.TheVariants.{HeadWrite}
use Rattle.realm_model.proofs.Agreeing.{heads_agree}
use Rattle.realm_door.proofs.Others.{own-append, same_after_others}
use Rattle.swift_auth.specs.declared.policy.Deed.TheVariants.{ListContainer}
use Rattle.list_words.specs.declared.command.ListCommand.{ListCommand}
use Rattle.list_words.specs.declared.row.ListedRow.{ListedRow}
use Rattle.list_words.specs.Listings.{rows_of}
use Rattle.task_words.specs.declared.asker.Asker.{Asker}
use Rattle.task_words.specs.declared.outcome.Outcome.{Outcome}
use Rattle.task_words.specs.declared.outcome.Outcome.TheVariants.{Done, MovedOften}
use Rattle.task_words.specs.declared.reply.MapReply.{MapReply}
use Rattle.task_words.specs.declared.reply.MapReply.TheVariants.{Listed, Refused}
use Rattle.task_words.specs.declared.reply.Refusal.{Refusal}
use Rattle.task_words.specs.Outcomes.{LookedUp}
use Rattle.task_words.specs.Rows.{row_refusal}
use Rattle.task_list.specs.declared.request.ListRequest.{ListRequest}
use Rattle.task_list.specs.Listed.{is_of_listing, slot_row, ListedBy, IsListReply as IsListedReply, IsListOutcome}
use Rattle.task_list.proofs.Names.{from_truth}
use Rattle.task_list.proofs.Passing.{in_front}
use Rattle.list_law.specs.Maps.{live_names, slot_after}
use Rattle.list_law.proofs.Joining.{listed_of_calm_map}
use Rattle.list_law.proofs.Sorted.{nowhere}
use Rattle.list_law.proofs.Turned.{live_rises, live_at}
use Rattle.stripe_law.proofs.Storing.{object_size, object_slot}
use Rattle.once_law.specs.Maps.{Slots, rows_in, slots_in}
use Rattle.once_law.specs.Folds.{row_in, AreLive, AreListed, IsListReply, IsListSaid}
use Rattle.once_law.specs.Runs.{fixed_by}
use Rattle.once_law.proofs.Standing.{row_refuses, Standing}

-- ---- rows

-- an object shows by the row that its head gives
row_shown : (settings : SettingsView) (history : List Event) → Legal settings history → (zone container : ℕ) (name : List ℕ)
    → row_in (slots_in settings history zone container name) ≡ slot_row (slot_at (heads history zone container) name)
row_shown settings history legal zone container name = by_slot (slot_at (heads history zone container) name) refl
  where
    by_slot : (slot : SeenSlot) → slot_at (heads history zone container) name ≡ slot
        → row_in (whole_slot (world_of settings history).stripes.made zone (slot_at (heads history zone container) name)) ≡ slot_row (slot_at (heads history zone container) name)
    by_slot Nothing is = ap (λ s. row_in (whole_slot (world_of settings history).stripes.made zone s)) is ∙ sym (ap slot_row is)
    by_slot (Mark stamp) is = ap (λ s. row_in (whole_slot (world_of settings history).stripes.made zone s)) is ∙ sym (ap slot_row is)
    by_slot (Live new stamp) is =
        let head = sym (heads_agree settings history legal zone container name) ∙ is in
        ap row_in (object_slot settings history legal zone container name new stamp head)
        ∙ (λ i. Some (record { exists = true; size = object_size settings history legal zone container name new stamp head i; stamp = stamp; etag = new.etag; kind = new.kind }))
        ∙ sym (ap slot_row is)

-- lists of the same live names are the same
live_once : (slots : List ℕ → Slot) (one other : List (List ℕ × RowView)) → AreLive slots one → AreLive slots other → one ≡ other
live_once slots one other x y =
    same_entries name_cmp nat_list_cmp_total (slice_cmp-IsAntisymmetric nat_cmp-IsAntisymmetric) one other x.rise y.rise
    (λ name. x.rows name ∙ sym (y.rows name))

-- a listing is replied in one way
pub same_listed : (refusal : Option Refusal) (row : Option Bucket) (slots : Slots) (c : ListCommand) (reply again : MapReply) → IsListReply refusal row slots c reply → IsListReply refusal row slots c again → reply ≡ again
same_listed (Some refusal) row slots c reply again one other = one ∙ sym other
same_listed None (Some row) slots c (Listed rows) (Listed others) one other =
    ap Listed (one.rows_are ∙ ap (rows_of c) (live_once (slots row.id) one.live other.live one.are_live other.are_live) ∙ sym other.rows_are)
same_listed None (Some row) slots c (Listed rows) again one other = absurd other
same_listed None (Some row) slots c reply again one other = absurd one
same_listed None None slots c reply again one other = absurd one

-- ---- reads and suggestions leave the bucket maps

map_kept : (maps : Maps) (op : Op) (reply : Reply) → is_of_listing op ≡ true → mapped maps op reply ≡ maps
map_kept maps (HeadWrite zone container name guard new when) reply is = let e : false ≡ true = is in absurd (cc)
map_kept maps op reply is = refl

abbrev pub AreReads : List Event → Type 0
AreReads events = AllByRecursion (λ e. is_of_listing e.op ≡ true) events

maps_kept : (maps : Maps) (events : List Event) → AreReads events → mapped_by maps events ≡ maps
maps_kept maps [] are = refl
maps_kept maps (e ∷ es) are =
    ap (λ m. mapped_by m es) (map_kept maps e.op e.reply are.0) ∙ maps_kept maps es are.1

front_reads : (n : ℕ) (events : List Event) → AreReads events → AreReads (take n events)
front_reads zero events are = tt
front_reads (suc n) [] are = tt
front_reads (suc n) (e ∷ es) are = (are.0, front_reads n es are.1)

-- behind the first part, events of a listing leave the maps as they are at the end
maps_behind : (maps : Maps) (n : ℕ) (before first : List Event) → length before ≤ n → AreReads first → mapped_by maps (take n (before ++ first)) ≡ mapped_by maps (before ++ first)
maps_behind maps n [] first low are = maps_kept maps (take n first) (front_reads n first are) ∙ sym (maps_kept maps first are)
maps_behind maps zero (b ∷ bs) first low are = absurd (omega (arith, low))
maps_behind maps (suc n) (b ∷ bs) first low are = maps_behind (mapped maps b.op b.reply) n bs first (omega (arith, low)) are

-- own events come behind the count
own_later : (actor : ActorId) (count clock : ℕ) (events : List Event) (own : OwnEvent) → Contains (own_from count clock events actor) own → count < own.number
own_later actor count clock [] own there = absurd (nowhere own there)
own_later actor count clock (e ∷ es) own there =
    let now = clock_at clock e.moment in
    let first : OwnEvent = record { op = e.op; reply = e.reply; number = count + 1; clock = now } in
    let rest = own_from (count + 1) now es actor in
    elim (same_actor actor (actor_of e)) as (λ b. Contains (cond b (first ∷ rest) rest) own → count < own.number) [
      | true ↦ λ within. ⊎_elim (λ is. let number = ap (λ (o : OwnEvent). o.number) is in omega (arith, number)) (λ behind. let low = own_later actor (count + 1) now es own behind in omega (arith, low)) (in_front first rest own within)
      | false ↦ λ behind. let low = own_later actor (count + 1) now es own behind in omega (arith, low)
    ] there

-- ---- the listing

-- it ended as the rows and the slots say, and left the slots
pub record IsListDone (settings : SettingsView) (before history : List Event) (zone : ℕ) (asker : Asker) (clocks : ℕ → ℕ) (c : ListCommand) (outcome : Outcome) : Type 0 where
  pub is_said : IsListSaid (fixed_by settings before zone clocks) (slots_in settings before zone) asker c outcome
  pub left : slots_in settings before zone ≡ slots_in settings history zone

module _ (settings : SettingsView) (good : IsSettings settings) (before first : List Event) (legal : Legal settings (before ++ first)) (zone : ℕ) (asker : Asker) (clocks : ℕ → ℕ)
    (actor : ActorId) (unused : NoneBy actor before) (reads : AreReads first)
    (standing : Standing settings before (before ++ first) (account_of settings (before ++ first) actor)) where
  abbrev history : List Event
  history = before ++ first

  abbrev y : Account
  y = account_of settings (before ++ first) actor

  abbrev events : List OwnEvent
  events = own_events (before ++ first) actor

  calm : (own : OwnEvent) (container : ℕ) (name : List ℕ) → Contains events own → slot_after history own.number zone container name ≡ slot_at (heads history zone container) name
  calm own container name there =
      let none : own_events before actor ≡ [] = (same_after_others settings [] before actor unused).events in
      let joined = own-append 0 0 before first actor ∙ ap (λ (l : List OwnEvent). l ++ own_from (0 + length before) (clock_after 0 before) first actor) none in
      let low = own_later actor (0 + length before) (clock_after 0 before) first own (subst (λ l. Contains l own) joined there) in
      ap (λ (m : Maps). slot_at (m zone container) name) (maps_behind no_maps own.number before first (omega (arith, low)) reads)

  slots_stay : y.changes ≡ 0 → slots_in settings before zone ≡ slots_in settings history zone
  slots_stay none =
      elim standing.changes [
        | inl u ↦ λ i. sym (u.same) i zone
        | inr (inl c) ↦ let one = c.one in absurd (omega (arith, none, one))
        | inr (inr many) ↦ absurd (omega (arith, none, many))
      ]

  abbrev request : ListCommand → ListRequest
  request c = record { zone = zone; asker = asker; command = c }

  -- the row that the listing read is that before it
  row_read : (c : ListCommand) (rows : List ListedRow) (l : ListedBy (request c) rows y events) → rows_in settings before zone c.container ≡ Some l.row
  row_read c rows l = sym (standing.looked l.look l.is_last ∙ λ i. rows_in settings before (l.in_zone i) (l.under_name i)) ∙ l.showed

  stands : (c : ListCommand) (rows : List ListedRow) (l : ListedBy (request c) rows y events) → is_standing (world_of settings history).rows (state_of settings history) (l.row).id ≡ true
  stands c rows l =
      let kept : rows_in settings history zone c.container ≡ Some l.row = ap (λ (r : Root). at r.buckets c.container) (standing.roots zone) ∙ row_read c rows l in
      let n = ((holds settings history good legal).rows_stand.kept zone c.container l.row kept).named in
      standing.opened.stand (l.row).id n.home n.made

  listed : (c : ListCommand) (rows : List ListedRow) → y.changes ≡ 0 → (l : ListedBy (request c) rows y events) → AreListed (slots_in settings before zone) l.row c rows
  listed c rows none l = record {
    live = live_names (heads history zone (l.row).id);
    are_live = record {
      rise = from_truth _ (live_rises (heads history zone (l.row).id));
      rows = λ name.
          live_at (heads history zone (l.row).id) name
          ∙ sym (row_shown settings history legal zone (l.row).id name)
          ∙ λ i. row_in (sym (slots_stay none) i (l.row).id name);
    };
    rows_are = listed_of_calm_map settings history actor (request c) rows good legal l (stands c rows l) (λ own name there. calm own (l.row).id name there);
  }

  abbrev Says : ListCommand → MapReply → Type 0
  Says c reply =
      IsListReply (row_refusal asker (rows_in settings before zone c.container) ListContainer) (rows_in settings before zone c.container) (slots_in settings before zone) c reply

  listed_said : (c : ListCommand) (rows : List ListedRow) → y.changes ≡ 0 → ListedBy (request c) rows y events → Says c (Listed rows)
  listed_said c rows none l =
      let row_is = row_read c rows l in
      subst (λ found. IsListReply (row_refusal asker found ListContainer) found (slots_in settings before zone) c (Listed rows)) (sym row_is)
      (subst (λ refusal. IsListReply refusal (Some l.row) (slots_in settings before zone) c (Listed rows)) (sym l.granted) (listed c rows none l))

  refused_said : (c : ListCommand) (refusal : Refusal) → LookedUp zone asker c.container ListContainer (Some refusal) y.looked → Says c (Refused refusal)
  refused_said c refusal l =
      subst (λ found. IsListReply found (rows_in settings before zone c.container) (slots_in settings before zone) c (Refused refusal))
      (sym (row_refuses settings before y.looked standing.looked zone asker c.container ListContainer (Some refusal) l)) refl

  reply_said : (c : ListCommand) (reply : MapReply) → y.changes ≡ 0 → IsListedReply (request c) reply y events → Says c reply
  reply_said c (Listed rows) none by = listed_said c rows none by
  reply_said c (Refused refusal) none by = refused_said c refusal by.1
  reply_said c reply none by = absurd by

  pub list_done : (c : ListCommand) (outcome : Outcome) → IsListOutcome (request c) outcome y events → IsListDone settings before history zone asker clocks c outcome
  list_done c (Done reply) by = record { is_said = reply_said c reply (by.1).unchanged by.0; left = slots_stay (by.1).unchanged }
  list_done c MovedOften by = record { is_said = tt; left = slots_stay (by.2).unchanged }
  list_done c outcome by = absurd by
