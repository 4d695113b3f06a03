-- A repair waits.
use Rattle.std.proofs.Common.{◌≡◌, ℕ, ◌≤◌, List, [], length, sym, ap, ◌∙◌, subst, arith, length-append}
use Rattle.object_words.specs.Entries.{EntryView}
use Rattle.realm_model.specs.Doors.{DoorView, actor_at}
use Rattle.realm_model.specs.Histories.{Doings, account_of, phase_of}
use Rattle.realm_model.specs.Owns.{own_events}
use Rattle.realm_model.specs.Settings.{SettingsView}
use Rattle.realm_door.specs.Waiting.{Waited}
use Rattle.task_repair.specs.Repairs.{Saying, PageRead}
use Rattle.task_repair.specs.Sheets.{SheetView}
use Rattle.task_repair.specs.Tasks.{Known, known_at, Going, InPass, AtPage, AtEntry, AtOffer, FitsAt, fits}
use Rattle.task_repair.specs.declared.request.RepairRequest.{RepairRequest}
use Rattle.task_repair.specs.declared.stage.Pass.{Pass}
use Rattle.task_repair.specs.declared.stage.Shown.{Shown}
use Rattle.task_repair.specs.declared.stage.Stage.{Stage}
use Rattle.task_repair.specs.declared.stage.Stage.TheVariants.{Look, Page, Head, Suggest, Ended}
use Rattle.task_repair.specs.declared.task.RepairTask.{RepairTask}

module _ (r : RepairRequest) (k : Known) (later : ℕ) (longer : k.last ≤ later) where
  abbrev known_after : Known
  known_after = record { phase = k.phase; account = k.account; events = k.events; last = later }

  going_later : (applied : ℕ) → Going applied k → Going applied known_after
  going_later applied g = record {
    changes = g.changes;
    applied_is = g.applied_is;
    few = (let few = g.few in omega (arith, few, longer));
  }

  in_pass_later : (p : Pass) (pages : List PageRead) (place : ℕ × List ℕ) → InPass r p pages place k → InPass r p pages place known_after
  in_pass_later p pages place i = record { read = i.read; of_row = i.of_row; named = i.named }

  at_page_later : (p : Pass) (after : List ℕ) → AtPage r p after k → AtPage r p after known_after
  at_page_later p after a = record {
    pages = a.pages;
    in_pass = in_pass_later p a.pages (p.shard, after) a.in_pass;
    says = a.says;
    left_is = a.left_is;
  }

  at_entry_later : (p : Pass) (s : SheetView) (e : List ℕ × EntryView) (more : List Saying) → AtEntry r p s e more k → AtEntry r p s e more known_after
  at_entry_later p s e more a =
      let o = a.on_page in
      record {
        on_page = record {
          pages = o.pages;
          page = o.page;
          in_pass = in_pass_later p o.pages _ o.in_pass;
          of_shard = o.of_shard;
          says = o.says;
          end_is = o.end_is;
          clock_is = o.clock_is;
          visited = o.visited;
          offered = o.offered;
          last_is = o.last_is;
          sighted = o.sighted;
          left_is = o.left_is;
        };
        unsettled = a.unsettled;
      }

  at_offer_later : (p : Pass) (s : SheetView) (e : List ℕ × EntryView) (shown : Shown) → AtOffer r p s e shown k → AtOffer r p s e shown known_after
  at_offer_later p s e shown a = record {
    seen = a.seen;
    at = a.at;
    at_entry = at_entry_later p s e _ a.at_entry;
    due = a.due;
    stands = a.stands;
    version_is = a.version_is;
    row_is = a.row_is;
    sight = a.sight;
  }

  -- a longer history, in which the own events are the same
  fits_later : (stage : Stage) (applied : ℕ) → FitsAt r stage applied k → FitsAt r stage applied known_after
  fits_later Look applied f = (going_later applied f.0, f.1)
  fits_later (Page p after) applied f = (going_later applied f.0, at_page_later p after f.1)
  fits_later (Head p s e) applied f = (going_later applied f.0, at_entry_later p s e [] f.1)
  fits_later (Suggest p s e shown) applied f = (going_later applied f.0, at_offer_later p s e shown f.1)
  fits_later (Ended outcome) applied f = f

pub waits : (t : RepairTask) (settings : SettingsView) (d e : DoorView) → Waited settings d e → fits t settings d → fits t settings e
waits t settings d e w f =
    let pass = w.pass in
    let count = w.count in
    let actor : actor_at e ≡ actor_at d = λ i. record { pass = pass i; count = count i } in
    let doings = w.same.doings in
    let phase : phase_of settings e.seen (actor_at e) ≡ phase_of settings d.seen (actor_at d) = ap (phase_of settings e.seen) actor ∙ ap (λ (o : Doings). o.phase) doings in
    let account : account_of settings e.seen (actor_at e) ≡ account_of settings d.seen (actor_at d) = ap (account_of settings e.seen) actor ∙ ap (λ (o : Doings). o.account) doings in
    let events : own_events e.seen (actor_at e) ≡ own_events d.seen (actor_at d) = ap (own_events e.seen) actor ∙ w.same.events in
    let long = ap length w.front.is_front ∙ length-append d.seen w.front.later in
    let longer : length d.seen ≤ length e.seen = omega (arith, long) in
    let known : known_at settings e ≡ known_after t.request (known_at settings d) (length e.seen) longer = λ i. record { phase = phase i; account = account i; events = events i; last = length e.seen } in (
      f.0,
      f.1,
      subst (FitsAt t.request t.stage t.applied) (sym known) (fits_later t.request (known_at settings d) (length e.seen) longer t.stage t.applied f.2),
    )
