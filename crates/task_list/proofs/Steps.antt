-- Each answer brings the task to a stage that its actor's own events come to.
use Rattle.std.proofs.Common.{◌≡◌, ℕ, ◌+◌, ◌<◌, ◌≤◌, ◌==◌, true, false, cond, nat_lt, List, [], ◌∷◌, ◌++◌, Option, Some, None, inl, inr, refl, sym, ◌∙◌, ap, subst, arith}
use Rattle.std.specs.List.{All}
use Rattle.std.proofs.lemmas.Bool.Decides.{nat_tests}
use Rattle.std.proofs.lemmas.List.Elements.{All-push, All-weaker, All-contains, Contains-push, Contains-push_cases}
use Rattle.object_words.specs.declared.bucket.Bucket.{Bucket}
use Rattle.object_words.specs.declared.entry.EntryPage.{EntryPage}
use Rattle.object_words.specs.declared.head.HeadSeen.{HeadSeen}
use Rattle.object_words.specs.declared.why.Why.{Why}
use Rattle.object_words.specs.declared.why.Why.TheVariants.{Absent, Moved, Closed}
use Rattle.object_words.specs.Keys.{shard_key}
use Rattle.object_words.specs.Refusals.{fate_refusal}
use Rattle.object_words.specs.Shards.{Shard}
use Rattle.object_words.specs.ShardCalls.{page_of}
use Rattle.object_words.proofs.KeyLemmas.{number_itself}
use Rattle.rgw_types.specs.declared.pool_key.Key.{Key}
use Rattle.realm_model.specs.Allowed.{page_limit}
use Rattle.realm_model.specs.Settings.{SettingsView}
use Rattle.realm_model.specs.Accounts.{Looked, MovedCount, Account, has_shard, looked_since, accounted}
use Rattle.realm_model.specs.Tests.{is_so}
use Rattle.realm_model.specs.Maps.{Maps, Made}
use Rattle.realm_model.specs.Ops.{zone_of}
use Rattle.realm_model.specs.Owns.{OwnEvent}
use Rattle.realm_model.specs.States.{State}
use Rattle.realm_model.specs.Steps.{reply_or, on_shard, reply_of}
use Rattle.realm_model.specs.Suits.{Suits}
use Rattle.realm_model.specs.declared.op.Op.{Op}
use Rattle.realm_model.specs.declared.op.Op.TheVariants.{Page as page_op}
use Rattle.realm_model.specs.declared.event.Reply.{Reply}
use Rattle.realm_model.specs.declared.event.Reply.TheVariants.{No, Row, Entries, Head as head_reply}
use Rattle.swift_auth.specs.declared.policy.Deed.TheVariants.{ListContainer}
use Rattle.swift_auth.specs.Policies.{found_under, verdict_of}
use Rattle.task_words.specs.declared.reply.Refusal.{Refusal}
use Rattle.task_words.specs.Outcomes.{most_moved}
use Rattle.task_words.specs.Rows.{row_refusal}
use Rattle.task_words.proofs.Refusals.{by_three}
use Rattle.list_words.specs.declared.command.ListCommand.{ListCommand}
use Rattle.task_words.specs.declared.outcome.Outcome.TheVariants.{Done, BodyFailed, Busy, MovedOften, RacedOften, LateTag, LateRead, NoSpace}
use Rattle.task_words.specs.declared.reply.MapReply.TheVariants.{Stored, Shown, Same, Counted, Listed, Refused}
use Rattle.task_list.specs.declared.merging.NextPage.{NextPage}
use Rattle.task_list.specs.declared.merging.Merging.{Merging}
use Rattle.task_list.specs.declared.request.ListRequest.{ListRequest}
use Rattle.task_list.specs.declared.stage.Known.{Known}
use Rattle.task_list.specs.declared.stage.Suggestion.{Suggestion}
use Rattle.task_list.specs.declared.stage.Stage.{Stage}
use Rattle.task_list.specs.declared.stage.Stage.TheVariants.{Look, Page, Head, Suggest, Broken, Ended}
use Rattle.task_list.specs.Progresses.{settled_of, rows_in}
use Rattle.task_list.specs.Listed.{asks_row, asks_page, asks_head, is_of_listing, AreOfListing, AreInZone, IsUnsettled, AreUnsettled, IsRefusal}
use Rattle.task_list.specs.Stages.{MergingFits, HeadFits, IsLater, IsPageAbove, IsPageEvent, IsHeadEvent}
use Rattle.task_list.specs.Sightings.{asks_suggestion}
use Rattle.task_list.specs.Tasks.{IsGoing, op_of, one_moved, after_left, KnownFits, WentOn, AfterRow, AfterSuggestion, Takes, Going, Heard, Looking, FitsAt}
use Rattle.task_list.proofs.Growing.{grow_settled, grow_merging, grow_unsettled}
use Rattle.task_list.proofs.Names.{page_is_above}

-- ---- pages as the step answers

entries_is : {one other : EntryPage} → Entries one ≡ Entries other → one ≡ other
entries_is same = cc

by_refusal : (refusal : Option Why) (s : Shard) (after : List ℕ) (clock : ℕ) (page : EntryPage) → Entries page ≡ reply_or (Entries (page_of s after page_limit clock)) refusal → IsPageAbove after page
by_refusal None s after clock page is = subst (IsPageAbove after) (sym (entries_is is)) (page_is_above s after clock)
by_refusal (Some why) s after clock page is = cc

by_shard : (found : Option Shard) (after : List ℕ) (clock : ℕ) (page : EntryPage) → Entries page ≡ on_shard found (λ s. reply_or (Entries (page_of s after page_limit clock)) (fate_refusal s.fate)) → IsPageAbove after page
by_shard None after clock page is = cc
by_shard (Some s) after clock page is = by_refusal (fate_refusal s.fate) s after clock page is

-- the entries of a page that the step answers are in order, above the name
pub page_answered : (settings : SettingsView) (st : State) (zone : ℕ) (key : Key) (after : List ℕ) (page : EntryPage) → Entries page ≡ reply_of settings st (page_op zone key after page_limit) → IsPageAbove after page
page_answered settings st zone key after page is = by_shard (st.shards zone key) after st.clock page is

-- the shard of a row that was read since
named_since : (looked : Option Looked) (k : Looked) (m zone n : ℕ) (row : Bucket) → looked ≡ Some k → k.zone ≡ zone → k.row ≡ Some row → m < k.number → n < row.shards → looked_since looked m zone (shard_key row.id row.instance n) ≡ true
named_since looked k m zone n row is in_zone showed later less =
    let a : nat_lt m k.number ≡ true = grind (arith, nat_tests, later) in
    let b : (k.zone == zone) ≡ true = subst (λ z. (k.zone == z) ≡ true) in_zone (number_itself k.zone) in
    let d : nat_lt n row.shards ≡ true = grind (arith, nat_tests, less) in
    let c : is_so k.row (has_shard (shard_key row.id row.instance n)) ≡ true = subst (λ o. is_so o (has_shard (shard_key row.id row.instance n)) ≡ true) (sym showed) (rw (number_itself row.id, number_itself row.instance) d) in
    subst (λ o. looked_since o m zone (shard_key row.id row.instance n) ≡ true) (sym is) (rw (a, b) c)

-- ---- one answer more

-- the listing goes on, or has its rows
went_on : (r : ListRequest) (row : Bucket) (stage : Stage) (moved : ℕ) (y : Account) (events : List OwnEvent) (last : ℕ) → WentOn r.zone r.command row stage events → Going r moved y events last → Looking r row y last → Heard r stage events → FitsAt r stage moved y events last
went_on r row (Page m next) moved y events last w going looking heard = (going, subst (λ b. Looking r b y last) (sym w.0) looking, w.1, w.2, heard)
went_on r row (Head m wanted) moved y events last w going looking heard = (going, subst (λ b. Looking r b y last) (sym w.0) looking, w.1, heard)
went_on r row (Suggest m s) moved y events last w going looking heard = (going, subst (λ b. Looking r b y last) (sym w.0) looking, w.1, heard)
went_on r row (Ended (Done (Listed rows))) moved y events last w going looking heard = (
  record { look = looking.look; is_last = looking.is_last; in_zone = looking.in_zone; under_name = looking.under_name; row = row; showed = looking.showed; granted = looking.granted; shown = w },
  record { untried = going.untried; unchanged = going.unchanged; heads = going.heads; reads = going.reads; inside = going.inside; repairs = heard.repairs },
)
went_on r row (Ended (Done (Refused refusal))) moved y events last w going looking heard = absurd w
went_on r row (Ended (Done (Stored etag stamp))) moved y events last w going looking heard = absurd w
went_on r row (Ended (Done (Shown kind meta etag stamp size start count))) moved y events last w going looking heard = absurd w
went_on r row (Ended (Done (Same etag stamp))) moved y events last w going looking heard = absurd w
went_on r row (Ended (Done (Counted counted objects bytes))) moved y events last w going looking heard = absurd w
went_on r row (Ended BodyFailed) moved y events last w going looking heard = absurd w
went_on r row (Ended (Busy id)) moved y events last w going looking heard = absurd w
went_on r row (Ended MovedOften) moved y events last w going looking heard = absurd w
went_on r row (Ended RacedOften) moved y events last w going looking heard = absurd w
went_on r row (Ended LateTag) moved y events last w going looking heard = absurd w
went_on r row (Ended (LateRead read_at clock)) moved y events last w going looking heard = absurd w
went_on r row (Ended (NoSpace free needed)) moved y events last w going looking heard = absurd w
went_on r row (Look known) moved y events last w going looking heard = absurd w
went_on r row Broken moved y events last w going looking heard = absurd w

grow_known : (zone : ℕ) (c : ListCommand) (events : List OwnEvent) (own : OwnEvent) (known : Option Known) → KnownFits zone c known events → KnownFits zone c known (events ++ own ∷ [])
grow_known zone c events own None fits = tt
grow_known zone c events own (Some k) fits = grow_settled zone c events own k.container (settled_of k.progress) (rows_in k.progress) fits

reads_push : (events : List OwnEvent) (own : OwnEvent) → AreOfListing events → is_of_listing own.op ≡ true → AreOfListing (events ++ own ∷ [])
reads_push [] own reads is = (is, tt)
reads_push (e ∷ es) own reads is = (reads.0, reads_push es own reads.1 is)

inside_push : (zone : ℕ) (events : List OwnEvent) (own : OwnEvent) → AreInZone zone events → zone_of own.op ≡ zone → AreInZone zone (events ++ own ∷ [])
inside_push zone [] own inside is = (is, tt)
inside_push zone (e ∷ es) own inside is = (inside.0, inside_push zone es own inside.1 is)

module _ (r : ListRequest) (moved : ℕ) (y : Account) (events : List OwnEvent) (last number clock : ℕ) (maps : Maps) (made : Made) (before : last < number) where
  abbrev after : Op → Reply → Account
  after op reply = accounted y maps made op reply number clock

  abbrev own : Op → Reply → OwnEvent
  own op reply = record { op = op; reply = reply; number = number; clock = clock }

  abbrev more : Op → Reply → List OwnEvent
  more op reply = events ++ own op reply ∷ []

  all_earlier : All (λ (e : OwnEvent). e.number ≤ last) events → IsLater number events
  all_earlier low = All-weaker (λ (e : OwnEvent). e.number ≤ last) (λ e. e.number < number) (λ e few. omega (arith, few, before)) events low

  numbered : (op : Op) (reply : Reply) → All (λ (e : OwnEvent). e.number ≤ last) events → All (λ (e : OwnEvent). e.number ≤ number) (more op reply)
  numbered op reply low =
      All-push (λ (e : OwnEvent). e.number ≤ number) events (own op reply) (All-weaker (λ (e : OwnEvent). e.number ≤ last) (λ e. e.number ≤ number) (λ e few. omega (arith, few, before)) events low) (omega arith)

  -- an event that reads no head
  no_head : (op : Op) (reply : Reply) → ((other container : ℕ) (name : List ℕ) → op ≡ asks_head other container name → ⊥) → AreUnsettled r.zone r.command events → AreUnsettled r.zone r.command (more op reply)
  no_head op reply other_op heads head other container name there asks =
      elim (Contains-push_cases events (own op reply) head there) [
        | inl old ↦
            let was = heads head other container name old asks in
            (was.0, grow_unsettled r.zone r.command events (own op reply) container name was.0 was.1, was.2)
        | inr new ↦ absurd (other_op other container name (ap (λ (e : OwnEvent). e.op) new ∙ asks))
      ]

  -- an event that changes no head and was answered neither Moved nor Closed
  going_on : (op : Op) (reply : Reply) → is_of_listing op ≡ true → zone_of op ≡ r.zone → Going r moved y events last → AreUnsettled r.zone r.command (more op reply) → (after op reply).target ≡ y.target → (after op reply).changes ≡ y.changes → (after op reply).moved ≡ y.moved → Going r moved (after op reply) (more op reply) number
  going_on op reply kind within going heads target changes same = record {
    untried = target ∙ going.untried;
    unchanged = changes ∙ going.unchanged;
    heads = heads;
    moved_is = ap (λ (m : MovedCount). m.count) same ∙ going.moved_is;
    few = going.few;
    moved_before = (let low = going.moved_before in let lasts = ap (λ (m : MovedCount). m.last) same in omega (arith, low, lasts, before));
    numbered = numbered op reply going.numbered;
    reads = reads_push events (own op reply) going.reads kind;
    inside = inside_push r.zone events (own op reply) going.inside within;
  }

  looking_on : (op : Op) (reply : Reply) (row : Bucket) → Looking r row y last → (after op reply).looked ≡ y.looked → (after op reply).moved ≡ y.moved → Looking r row (after op reply) number
  looking_on op reply row looking looked same = record {
    look = looking.look;
    is_last = looked ∙ looking.is_last;
    in_zone = looking.in_zone;
    under_name = looking.under_name;
    showed = looking.showed;
    later = subst (λ (m : MovedCount). m.last < (looking.look).number) (sym same) looking.later;
    before = (let low = looking.before in omega (arith, low, before));
    granted = looking.granted;
  }

  -- ---- the row

  abbrev row_op : Op
  row_op = asks_row r.zone r.command

  not_head : (other container : ℕ) (name : List ℕ) → row_op ≡ asks_head other container name → ⊥
  not_head other container name is = cc

  module _ (reply : Reply) (row : Option Bucket) (going : Going r moved (after row_op reply) (more row_op reply) number)
      (looked : (after row_op reply).looked ≡ Some (record { zone = r.zone; name = (r.command).container; row = row; number = number })) where
    refused : (refusal : Refusal) → row_refusal r.asker row ListContainer ≡ Some refusal → Heard r (Ended (Done (Refused refusal))) (more row_op reply) → FitsAt r (Ended (Done (Refused refusal))) moved (after row_op reply) (more row_op reply) number
    refused refusal is heard = (
      (
        by_three IsRefusal (verdict_of r.asker.user r.asker.account row ListContainer) (found_under r.asker.account row) refusal is tt (λ rule. tt) tt,
        record { look = record { zone = r.zone; name = (r.command).container; row = row; number = number }; is_last = looked; in_zone = refl; under_name = refl; refuses = is },
      ),
      record { untried = going.untried; unchanged = going.unchanged; heads = going.heads; reads = going.reads; inside = going.inside; repairs = heard.repairs },
    )

  some_row : (known : Option Known) (row : Bucket) (stage : Stage) → Going r moved y events last → KnownFits r.zone r.command known events → AfterRow r.command known (row_refusal r.asker (Some row) ListContainer) (Some row) stage → Heard r stage (more row_op (Row row)) → FitsAt r stage moved (after row_op (Row row)) (more row_op (Row row)) number
  some_row known row stage going fits came heard =
      let on = going_on row_op (Row row) refl refl going (no_head row_op (Row row) not_head going.heads) refl refl refl in
      elim (row_refusal r.asker (Some row) ListContainer) as (λ o. row_refusal r.asker (Some row) ListContainer ≡ o → AfterRow r.command known o (Some row) stage → FitsAt r stage moved (after row_op (Row row)) (more row_op (Row row)) number) [
        | Some refusal ↦ λ is at. subst (λ s. FitsAt r s moved (after row_op (Row row)) (more row_op (Row row)) number) (sym at) (refused (Row row) (Some row) on refl refusal is (subst (λ s. Heard r s (more row_op (Row row))) at heard))
        | None ↦ λ is at.
            went_on r row stage moved (after row_op (Row row)) (more row_op (Row row)) number
            (at r.zone (more row_op (Row row)) (grow_known r.zone r.command events (own row_op (Row row)) known fits)
            (record { look = own row_op (Row row); looked = Contains-push events (own row_op (Row row)); looks = refl; told = refl }))
            on
            (record { look = record { zone = r.zone; name = (r.command).container; row = Some row; number = number }; is_last = refl; in_zone = refl; under_name = refl; showed = refl; later = (let low = going.moved_before in omega (arith, low, before)); before = omega arith; granted = is })
            heard
      ] refl came

  no_row : (known : Option Known) (stage : Stage) → Going r moved y events last → AfterRow r.command known (row_refusal r.asker None ListContainer) None stage → Heard r stage (more row_op (No Absent)) → FitsAt r stage moved (after row_op (No Absent)) (more row_op (No Absent)) number
  no_row known stage going came heard =
      let on = going_on row_op (No Absent) refl refl going (no_head row_op (No Absent) not_head going.heads) refl refl refl in
      elim (row_refusal r.asker None ListContainer) as (λ o. row_refusal r.asker None ListContainer ≡ o → AfterRow r.command known o None stage → FitsAt r stage moved (after row_op (No Absent)) (more row_op (No Absent)) number) [
        | Some refusal ↦ λ is at. subst (λ s. FitsAt r s moved (after row_op (No Absent)) (more row_op (No Absent)) number) (sym at) (refused (No Absent) None on refl refusal is (subst (λ s. Heard r s (more row_op (No Absent))) at heard))
        | None ↦ λ is at. absurd at
      ] refl came

  -- ---- a page

  module _ (m : Merging) (next : NextPage) (going : Going r moved y events last) (looking : Looking r m.row y last) (fits : MergingFits r.zone r.command m (Some next) events) (none : m.used_up ≡ None) where
    abbrev asks : Op
    asks = asks_page r.zone m.row next.shard next.after

    no_head_asked : (other container : ℕ) (name : List ℕ) → asks ≡ asks_head other container name → ⊥
    no_head_asked other container name is = cc

    some_page : (page : EntryPage) (stage : Stage) → IsPageAbove next.after page
        → ((zone : ℕ) (es : List OwnEvent) (o : OwnEvent) → MergingFits zone r.command m (Some next) es → m.used_up ≡ None → IsPageEvent zone m.row next page es o → WentOn zone r.command m.row stage (es ++ o ∷ []))
        → Heard r stage (more asks (Entries page)) → FitsAt r stage moved (after asks (Entries page)) (more asks (Entries page)) number
    some_page page stage rows came heard =
        went_on r m.row stage moved (after asks (Entries page)) (more asks (Entries page)) number
        (came r.zone events (own asks (Entries page)) fits none (record { asks = refl; told = refl; later = all_earlier going.numbered; rows = rows }))
        (going_on asks (Entries page) refl refl going (no_head asks (Entries page) no_head_asked going.heads) refl refl refl)
        (looking_on asks (Entries page) m.row looking refl refl) heard

    left : (reply : Reply) → (after asks reply).moved ≡ record { count = cond (looked_since y.looked y.moved.last r.zone (shard_key (m.row).id (m.row).instance next.shard)) (y.moved.count + 1) y.moved.count; last = number }
        → (after asks reply).looked ≡ y.looked → (after asks reply).target ≡ y.target → (after asks reply).changes ≡ y.changes
        → Heard r (after_left m (one_moved moved)) (more asks reply)
        → FitsAt r (after_left m (one_moved moved)) (one_moved moved) (after asks reply) (more asks reply) number
    left reply moves looks target changes heard =
        let few = going.few in
        let was = going.moved_is in
        let since = named_since y.looked looking.look y.moved.last r.zone next.shard m.row looking.is_last looking.in_zone looking.showed looking.later (((fits.pages).used_up).named) in
        let count : (after asks reply).moved.count ≡ y.moved.count + 1 = ap (λ (k : MovedCount). k.count) moves ∙ ap (λ b. cond b (y.moved.count + 1) y.moved.count) since in
        let one : (after asks reply).moved.count ≡ one_moved moved = omega (arith, count, was, few) in
        let heads = no_head asks reply no_head_asked going.heads in
        elim (nat_lt (one_moved moved) most_moved) as (λ b. nat_lt (one_moved moved) most_moved ≡ b → Heard r (cond b (Look (Some (record { container = (m.row).id; progress = m.progress }))) (Ended MovedOften)) (more asks reply) → FitsAt r (cond b (Look (Some (record { container = (m.row).id; progress = m.progress }))) (Ended MovedOften)) (one_moved moved) (after asks reply) (more asks reply) number) [
          | true ↦ λ less heard'.
              let below : one_moved moved < most_moved = grind (arith, nat_tests, less) in
              let lasts = ap (λ (k : MovedCount). k.last) moves in (
                record { untried = target ∙ going.untried; unchanged = changes ∙ going.unchanged; heads = heads; moved_is = one; few = below; moved_before = omega (arith, lasts); numbered = numbered asks reply going.numbered; reads = reads_push events (own asks reply) going.reads refl; inside = inside_push r.zone events (own asks reply) going.inside refl },
                grow_settled r.zone r.command events (own asks reply) (m.row).id (settled_of m.progress) (rows_in m.progress) fits.settled,
                heard',
              )
          | false ↦ λ all heard'.
              let often : most_moved ≤ one_moved moved = grind (arith, nat_tests, all) in
              let granted = subst (λ o. row_refusal r.asker o ListContainer ≡ None) (sym looking.showed) looking.granted in (
                record { look = looking.look; is_last = looks ∙ looking.is_last; in_zone = looking.in_zone; under_name = looking.under_name; refuses = granted },
                omega (arith, one, often, few),
                record { untried = target ∙ going.untried; unchanged = changes ∙ going.unchanged; heads = heads; reads = reads_push events (own asks reply) going.reads refl; inside = inside_push r.zone events (own asks reply) going.inside refl; repairs = heard'.repairs },
              )
        ] refl heard

  -- ---- a head

  module _ (m : Merging) (name : List ℕ) (going : Going r moved y events last) (looking : Looking r m.row y last) (fits : HeadFits r.zone r.command m name events) where
    abbrev asks_it : Op
    asks_it = asks_head r.zone (m.row).id name

    one_head : (reply : Reply) → AreUnsettled r.zone r.command (more asks_it reply)
    one_head reply head other container of_name there asked =
        elim (Contains-push_cases events (own asks_it reply) head there) [
          | inl old ↦
              let was = going.heads head other container of_name old asked in
              (was.0, grow_unsettled r.zone r.command events (own asks_it reply) container of_name was.0 was.1, was.2)
          | inr new ↦
              let is : asks_it ≡ asks_head other container of_name = ap (λ (e : OwnEvent). e.op) new ∙ asked in
              let in_container : (m.row).id ≡ container = cc is in
              let named : name ≡ of_name = cc is in
              let paged = (fits.unsettled).paged in
              let low = All-contains (λ (e : OwnEvent). e.number ≤ last) events paged.page going.numbered paged.paged in
              let at = paged.number in
              let numbers : number ≡ head.number = ap (λ (e : OwnEvent). e.number) new in
              let grown = grow_unsettled r.zone r.command events (own asks_it reply) (m.row).id name fits.at fits.unsettled in
              (fits.at, subst (λ n. IsUnsettled r.zone r.command container n fits.at (more asks_it reply)) named (subst (λ k. IsUnsettled r.zone r.command k name fits.at (more asks_it reply)) in_container grown), omega (arith, low, at, numbers, before))
        ]

    some_head : (seen : HeadSeen) (shown_at : ℕ) (stage : Stage)
        → ((zone : ℕ) (es : List OwnEvent) (o : OwnEvent) → HeadFits zone r.command m name es → IsHeadEvent zone (m.row).id name seen.slot es o → WentOn zone r.command m.row stage (es ++ o ∷ []))
        → Heard r stage (more asks_it (head_reply seen shown_at)) → FitsAt r stage moved (after asks_it (head_reply seen shown_at)) (more asks_it (head_reply seen shown_at)) number
    some_head seen shown_at stage came heard =
        went_on r m.row stage moved (after asks_it (head_reply seen shown_at)) (more asks_it (head_reply seen shown_at)) number
        (came r.zone events (own asks_it (head_reply seen shown_at)) fits (record { asks = refl; seen = seen; clock = shown_at; told = refl; slot_is = refl; later = all_earlier going.numbered }))
        (going_on asks_it (head_reply seen shown_at) refl refl going (one_head (head_reply seen shown_at)) refl refl refl)
        (looking_on asks_it (head_reply seen shown_at) m.row looking refl refl) heard

  -- ---- a suggestion

  module _ (m : Merging) (s : Suggestion) (going : Going r moved y events last) (looking : Looking r m.row y last) (fits : MergingFits r.zone r.command m m.used_up events) where
    abbrev suggests : Op
    suggests = asks_suggestion r.zone m.row s

    no_head_read : (other container : ℕ) (name : List ℕ) → suggests ≡ asks_head other container name → ⊥
    no_head_read other container name is = cc

    -- whatever it was answered
    some_answer : (reply : Reply) (stage : Stage) → AfterSuggestion r.command m stage → Heard r stage (more suggests reply) → FitsAt r stage moved (after suggests reply) (more suggests reply) number
    some_answer reply stage came heard =
        went_on r m.row stage moved (after suggests reply) (more suggests reply) number
        (came r.zone (more suggests reply) (grow_merging r.zone r.command events (own suggests reply) m m.used_up fits))
        (going_on suggests reply refl refl going (no_head suggests reply no_head_read going.heads) refl refl refl)
        (looking_on suggests reply m.row looking refl refl) heard

  -- ---- all of it

  -- pages are as the step answers
  abbrev pub Answered : Op → Reply → Type 0
  Answered op reply = (zone : ℕ) (key : Key) (name : List ℕ) (page : EntryPage) → op ≡ page_op zone key name page_limit → reply ≡ Entries page → IsPageAbove name page

  pub one_step : (stage : Stage) (reply : Reply) (next : Stage) (now : ℕ) → IsGoing stage → Suits (op_of r stage) reply → Answered (op_of r stage) reply → FitsAt r stage moved y events last → Takes r stage moved reply next now → Heard r next (more (op_of r stage) reply) → FitsAt r next now (after (op_of r stage) reply) (more (op_of r stage) reply) number
  one_step Broken reply next now going suits answered fits takes heard = absurd going
  one_step (Ended outcome) reply next now going suits answered fits takes heard = absurd going
  one_step (Look known) (Row row) next now going suits answered fits takes heard =
      subst (λ n. FitsAt r next n (after row_op (Row row)) (more row_op (Row row)) number) (sym takes.1) (some_row known row next fits.0 fits.1 takes.0 heard)
  one_step (Look known) (No Absent) next now going suits answered fits takes heard =
      subst (λ n. FitsAt r next n (after row_op (No Absent)) (more row_op (No Absent)) number) (sym takes.1) (no_row known next fits.0 takes.0 heard)
  one_step (Look known) reply next now going suits answered fits takes heard = absurd suits
  one_step (Page m page_next) (Entries page) next now going suits answered fits takes heard =
      let op = asks_page r.zone m.row page_next.shard page_next.after in
      subst (λ n. FitsAt r next n (after op (Entries page)) (more op (Entries page)) number) (sym takes.1)
      (some_page m page_next fits.0 fits.1 fits.2 fits.3 page next (answered r.zone (shard_key (m.row).id (m.row).instance page_next.shard) page_next.after page refl refl) takes.0 heard)
  one_step (Page m page_next) (No (Moved instance)) next now going suits answered fits takes heard =
      let op = asks_page r.zone m.row page_next.shard page_next.after in
      subst (λ s. FitsAt r s now (after op (No (Moved instance))) (more op (No (Moved instance))) number) (sym takes.0)
      (subst (λ n. FitsAt r (after_left m (one_moved moved)) n (after op (No (Moved instance))) (more op (No (Moved instance))) number) (sym takes.1) (left m page_next fits.0 fits.1 fits.2 fits.3 (No (Moved instance)) refl refl refl refl (subst (λ s. Heard r s (more op (No (Moved instance)))) takes.0 heard)))
  one_step (Page m page_next) (No Closed) next now going suits answered fits takes heard =
      let op = asks_page r.zone m.row page_next.shard page_next.after in
      subst (λ s. FitsAt r s now (after op (No Closed)) (more op (No Closed)) number) (sym takes.0)
      (subst (λ n. FitsAt r (after_left m (one_moved moved)) n (after op (No Closed)) (more op (No Closed)) number) (sym takes.1) (left m page_next fits.0 fits.1 fits.2 fits.3 (No Closed) refl refl refl refl (subst (λ s. Heard r s (more op (No Closed))) takes.0 heard)))
  one_step (Page m page_next) reply next now going suits answered fits takes heard = absurd suits
  one_step (Head m wanted) (head_reply seen shown_at) next now going suits answered fits takes heard =
      let op = asks_head r.zone (m.row).id wanted.name in
      subst (λ n. FitsAt r next n (after op (head_reply seen shown_at)) (more op (head_reply seen shown_at)) number) (sym takes.1)
      (some_head m wanted.name fits.0 fits.1 fits.2 seen shown_at next takes.0 heard)
  one_step (Head m wanted) reply next now going suits answered fits takes heard = absurd suits
  one_step (Suggest m s) reply next now going suits answered fits takes heard =
      let op = asks_suggestion r.zone m.row s in
      subst (λ n. FitsAt r next n (after op reply) (more op reply) number) (sym takes.1) (some_answer m s fits.0 fits.1 fits.2 reply next takes.0 heard)
