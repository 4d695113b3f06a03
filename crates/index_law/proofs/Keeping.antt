-- Each event keeps all parts, and so does each legal history.
use Rattle.std.proofs.Common.{◌≡◌, ◌⊎◌, inl, inr, ℕ, ◌+◌, ◌==◌, ◌<◌, ◌≤◌, ◌&&◌, ◌||◌, not, Bool, true, false, cond, List, [], ◌∷◌, Option, Some, None, refl, sym, subst, ap, ◌∙◌, arith}
use Rattle.std.specs.Prelude.{nat_le, nat_lt}
use Rattle.std.specs.List.{AllByRecursion}
use Rattle.std.proofs.lemmas.Bool.{true≢false}
use Rattle.std.proofs.lemmas.Bool.Decides.{nat_tests}
use Rattle.rgw_types.specs.declared.pool_key.Key.{Key}
use Rattle.object_words.specs.declared.bucket.Bucket.{Bucket}
use Rattle.object_words.specs.declared.entry.Guard.{Guard}
use Rattle.object_words.specs.declared.head.Conditions.{Conditions}
use Rattle.object_words.specs.declared.head.NewHead.{NewHead}
use Rattle.object_words.specs.declared.head.SeenSlot.TheVariants.{Live}
use Rattle.object_words.specs.declared.log.LogWhat.TheVariants.{Bucket as bucket_row}
use Rattle.object_words.specs.declared.why.Why.{Why}
use Rattle.object_words.specs.declared.why.Why.TheVariants.{Moved, Closed, Raced, Expired}
use Rattle.object_words.specs.Keys.{put, head_key, shard_key, container_of, instance_of}
use Rattle.object_words.specs.declared.shard.Hold.TheVariants.{Closing}
use Rattle.object_words.specs.HoldCalls.{close_refusal, taken}
use Rattle.object_words.specs.Names.{none as no_names, at, entries as names_of}
use Rattle.object_words.specs.Rows.{RowView}
use Rattle.object_words.specs.Tags.{has_tag, has_due, guard_of, with_tag, without_tag, tags_due_taken}
use Rattle.object_words.specs.Entries.{with_tags, stored_if_newer}
use Rattle.object_words.specs.Heads.{Head}
use Rattle.object_words.specs.HeadCalls.{guard_refusal, condition_refusal, space_refusal, write_refusal, stamp_next, change_of}
use Rattle.object_words.specs.Heads.{frames_for}
use Rattle.object_words.specs.Logs.{logged}
use Rattle.object_words.specs.Refusals.{first_refusal, unless_refused, change_refusal}
use Rattle.object_words.specs.Roots.{Root, version_of, swap_refusal, shares_all, stored_or_none, with_bucket, is_logged}
use Rattle.object_words.specs.Shards.{Shard, entry_at, with_entry}
use Rattle.object_words.specs.ShardCalls.{prepare_refusal, complete_refusal, tag_refusal, settled, suggested, logged_if_newer}
use Rattle.object_words.proofs.KeyLemmas.{put_same, number_itself}
use Rattle.object_words.proofs.NameLemmas.{at-none}
use Rattle.realm_model.specs.Settings.{SettingsView, IsSettings}
use Rattle.realm_model.specs.Ops.{zone_of}
use Rattle.realm_model.specs.Containers.{entry_in}
use Rattle.realm_model.specs.Needs.{is_between, is_first, is_form, is_removal, has_closed, saw_it_gone, takes_over, may_change_head, has_parts}
use Rattle.realm_model.specs.Tests.{is_so}
use Rattle.realm_model.specs.Allowed.{meets_need}
use Rattle.realm_model.specs.Phases.{ActorId, FirstEvent, RowRead, Phase}
use Rattle.realm_model.specs.Learnt.{row_known, learnt}
use Rattle.realm_model.specs.States.{State, at_moment, clock_at, put_in}
use Rattle.realm_model.specs.Steps.{is_master, reply_or, new_tag, suggest_event_refusal, reply_of, touch_of, after}
use Rattle.realm_model.specs.Worlds.{World, start, put_actor, tags_after, last_after, homes_after, instances_after, actor_of, happens}
use Rattle.realm_model.specs.Histories.{run, world_of, IsNext, LegalFrom, Legal}
use Rattle.realm_model.specs.declared.op.Op.{Op}
use Rattle.realm_model.specs.declared.op.Op.TheVariants.{BucketRead, BucketSwap, AccountPage, BucketPage, ShardMake, Prepare, Complete, Cancel, Page, Suggest, Stats, CloseShard, Release, Shut, HeadRead, HeadWrite, TailMake, TailRead, Announce}
use Rattle.realm_model.specs.declared.event.Reply.{Reply}
use Rattle.realm_model.specs.declared.event.Reply.TheVariants.{Done, No, Prepared, Changed}
use Rattle.realm_model.specs.declared.event.Event.{Event}
use Rattle.realm_model.proofs.Computing.{left_of, right_of}
use Rattle.realm_model.proofs.ObjectLemmas.{number_same}
use Rattle.realm_model.proofs.Runs.{touched-count, touched-clock}
use Rattle.realm_model.proofs.TouchLemmas.{put_in_same}
use Rattle.index_law.specs.Tables.{Entries, entries_of, heads_of, rows_of, StandsIn}
use Rattle.index_law.specs.Invariants.{Index, IndexHolds}
use Rattle.index_law.proofs.Puts.{call_cases}
use Rattle.index_law.specs.Rows.{ReadHolds}
use Rattle.index_law.proofs.NameLists.{all_at}
use Rattle.index_law.proofs.Tests.{so, prepares, Completes, completes, cancels, writes, suggests}
use Rattle.index_law.proofs.Quiets.{After, made_entries, nothing_learnt, tag_over, tag_tried, tag_announced, tag_ended, bucket_read, head_shown, page_shown}
use Rattle.index_law.proofs.EntryFacts.{first_none, tag_there, timely, not_stale}
use Rattle.index_law.proofs.Ending.{cancel_done, complete_done}
use Rattle.index_law.proofs.Suggesting.{suggest_done}
use Rattle.index_law.proofs.Preparing.{prepare_done}
use Rattle.index_law.proofs.Writing.{write_done}
use Rattle.index_law.proofs.Forms.{either_of, Makes, Alters, Form, making, altering, removing, form_of}
use Rattle.index_law.proofs.RowLaws.{same_in}
use Rattle.index_law.proofs.Placing.{HomeFrom, swap_done}
use Rattle.index_law.proofs.Changing.{change_done}
use Rattle.index_law.proofs.Removing.{removal_done}
use Rattle.index_law.proofs.Closing.{closed_entries, released_entries, closed_done, shut_done}

-- ---- what a swap needs

no_row_kept : (o : Option Bucket) → version_of o ≡ 0 → ((row : Bucket) → o ≡ Some row → 1 ≤ row.version) → o ≡ None
no_row_kept None is kept = refl
no_row_kept (Some row) is kept = let version = kept row refl in absurd (omega (arith, version, is))

swap_version : (root : Root) (name : List ℕ) (expected : ℕ) → swap_refusal root name expected ≡ None → version_of (at root.buckets name) ≡ expected
swap_version root name expected is =
    elim (version_of (at root.buckets name) == expected) as (λ b. (version_of (at root.buckets name) == expected) ≡ b → cond b None (Some (Raced (version_of (at root.buckets name)))) ≡ None → version_of (at root.buckets name) ≡ expected) [
      | true ↦ λ same ok. number_same (version_of (at root.buckets name)) expected same
      | false ↦ λ other bad. absurd cc
    ] refl is

not_expired : (guard : Guard) (clock : ℕ) (rest : Option Why) → first_refusal (guard_refusal guard clock) rest ≡ None → clock < guard.deadline
not_expired guard clock rest is =
    elim (nat_le guard.deadline clock) as (λ b. nat_le guard.deadline clock ≡ b → first_refusal (cond b (Some (Expired guard.deadline clock)) None) rest ≡ None → clock < guard.deadline) [
      | true ↦ λ due bad. absurd cc
      | false ↦ λ late ok. grind (arith, nat_tests)
    ] refl is

-- a container whose row is taken away stood in zone 1, or was seen to be gone
pub gone_from : (w : World) (j : IndexHolds w) (me : ActorId) (zone : ℕ) (name : List ℕ) (old : Bucket) → rows_of w.state.root zone name ≡ Some old → (zone == 1 || saw_it_gone (w.phases me) name old) ≡ true → (zone ≡ 1) ⊎ (StandsIn w old.id → ⊥)
gone_from w j me zone name old kept may =
    elim (either_of (zone == 1) _ may) [
      | inl one ↦ inl (number_same zone 1 one)
      | inr saw ↦
          let p = w.phases me in
          let read = so (at (p.rows 1) name) _ saw in
          let late = left_of (nat_lt old.shared (read.x).at) (not (is_so (read.x).row (λ row. row.id == old.id))) read.passes in
          let other = right_of (nat_lt old.shared (read.x).at) (not (is_so (read.x).row (λ row. row.id == old.id))) read.passes in
          let n = (j.rows_stand.kept zone name old kept).named in
          let holds = all_at (ReadHolds w.state.count w.rows.homes w.rows.instances (rows_of w.state.root) 1) (p.rows 1) name read.x ((j.rows_stand.knows me).reads 1) read.is in
          let low = n.since in
          inr (holds.gone refl old.id n.home n.made n.name_is (grind (arith, nat_tests, late, low)) (λ row is id. not_shown (read.x).row row is id other))
    ] where
      not_shown : (o : Option Bucket) (row : Bucket) → o ≡ Some row → row.id ≡ old.id → not (is_so o (λ row. row.id == old.id)) ≡ true → ⊥
      not_shown None row is id shown = cc
      not_shown (Some r) row is id shown =
          let same : r ≡ row = same_in is in
          let at_id : (r.id == old.id) ≡ true = ap (λ n. n == old.id) (ap (λ (x : Bucket). x.id) same ∙ id) ∙ number_itself old.id in
          true≢false (sym shown ∙ ap not at_id)

-- ---- each kind of event

module _ (settings : SettingsView) (good : IsSettings settings) (w : World) (j : IndexHolds w) (me : ActorId) (moment : ℕ) where
  abbrev number : ℕ
  number = w.state.count + 1

  abbrev now : ℕ
  now = clock_at w.state.clock moment

  abbrev st : State
  st = at_moment w.state moment

  abbrev p : Phase
  p = w.phases me

  -- the parts where the shards and the answer are these
  abbrev Called : Op → (ℕ → Key → Option Shard) → Reply → Type 0
  Called op shards reply =
      Index number now (entries_of shards) (heads_of w.state.heads) (rows_of w.state.root) (tags_after w.index.tags me op reply) (last_after w.index.last op reply) (homes_after w.rows.homes op reply number) (instances_after w.rows.instances op reply)
      (put w.stripes.by number me) (put_actor w.phases me (learnt p op reply number now))

  as_before : (zone : ℕ) (key : Key) (s : Shard) → w.state.shards zone key ≡ Some s → (n : List ℕ) → entry_at s n ≡ entry_in (w.state.shards zone key) n
  as_before zone key s there n = ap (λ x. entry_in x n) (sym there)

  prepare_keeps : (zone : ℕ) (key : Key) (name : List ℕ) → meets_need settings p (Prepare zone key name) ≡ true → After settings w me moment (Prepare zone key name) (reply_of settings st (Prepare zone key name)) (after settings st (Prepare zone key name))
  prepare_keeps zone key name may =
      let op = Prepare zone key name in
      let t = new_tag settings st in
      let named = (prepares settings p zone key name may).read in
      call_cases (Called op) w.state.shards zone key prepare_refusal (λ s. with_entry s name (with_tags (entry_at s name) (with_tag t (entry_at s name).tags))) (λ s. Prepared (guard_of t))
      (λ why. tag_over w j me moment op (No why) refl refl refl refl)
      (λ s there ok.
      subst (λ x. Called op (put_in w.state.shards zone key (Some (with_entry s name (with_tags x (with_tag t x.tags))))) (Prepared (guard_of t))) (sym (as_before zone key s there name))
      (prepare_done settings good w j me moment zone key name s (as_before zone key s there) named))

  module _ (zone : ℕ) (key : Key) (name : List ℕ) (tag version : ℕ) (row : RowView) (may : meets_need settings p (Complete zone key name tag version row) ≡ true) where
    abbrev completing : Op
    completing = Complete zone key name tag version row

    owned : Completes p zone name tag version row
    owned = completes settings p zone key name tag version row may

    complete_refused : (why : Why) → Called completing w.state.shards (No why)
    complete_refused (Moved instance) = tag_tried w j me moment completing (No (Moved instance)) (Some (w.state.count + 1)) refl refl refl refl
    complete_refused Closed = tag_tried w j me moment completing (No Closed) None refl refl refl refl
    complete_refused why = tag_ended w j me moment completing (No why) zone name tag owned.owns refl refl refl refl

    complete_keeps : After settings w me moment completing (reply_of settings st completing) (after settings st completing)
    complete_keeps =
        call_cases (Called completing) w.state.shards zone key (λ s. complete_refusal s name tag) (λ s. settled s name (without_tag tag (entry_at s name).tags) version row) (λ s. Done) complete_refused
        (λ s there ok.
        subst (λ x. Called completing (put_in w.state.shards zone key (Some (with_entry (record s { log = logged_if_newer s.log (entry_at s name).version name version }) name (stored_if_newer (with_tags x (without_tag tag x.tags)) version row)))) Done) (sym (as_before zone key s there name))
        (complete_done w j me moment completing zone key name (record s { log = logged_if_newer s.log (entry_at s name).version name version }) (as_before zone key s there) tag owned.owns
        (subst (λ e. has_tag tag e.tags ≡ true) (as_before zone key s there name) (tag_there (entry_at s name) tag (first_none (change_refusal s) (tag_refusal (entry_at s name) tag) ok)))
        refl refl refl refl version row owned.change_is))

  cancel_keeps : (zone : ℕ) (key : Key) (name : List ℕ) (tag : ℕ) → meets_need settings p (Cancel zone key name tag) ≡ true → After settings w me moment (Cancel zone key name tag) (reply_of settings st (Cancel zone key name tag)) (after settings st (Cancel zone key name tag))
  cancel_keeps zone key name tag may =
      let op = Cancel zone key name tag in
      let c = cancels settings p zone key name tag may in
      call_cases (Called op) w.state.shards zone key (λ s. complete_refusal s name tag) (λ s. with_entry s name (with_tags (entry_at s name) (without_tag tag (entry_at s name).tags))) (λ s. Done)
      (λ why. tag_ended w j me moment op (No why) zone name tag c.owns refl refl refl refl)
      (λ s there ok.
      subst (λ x. Called op (put_in w.state.shards zone key (Some (with_entry s name (with_tags x (without_tag tag x.tags))))) Done) (sym (as_before zone key s there name))
      (cancel_done w j me moment op zone key name s (as_before zone key s there) tag c.owns
      (subst (λ e. has_tag tag e.tags ≡ true) (as_before zone key s there name) (tag_there (entry_at s name) tag (first_none (change_refusal s) (tag_refusal (entry_at s name) tag) ok)))
      refl refl refl refl c.change_is))

  suggest_keeps : (zone : ℕ) (key : Key) (name : List ℕ) (revision seen version : ℕ) (row : RowView) → meets_need settings p (Suggest zone key name revision seen version row) ≡ true
      → After settings w me moment (Suggest zone key name revision seen version row) (reply_of settings st (Suggest zone key name revision seen version row)) (after settings st (Suggest zone key name revision seen version row))
  suggest_keeps zone key name revision seen version row may =
      let op = Suggest zone key name revision seen version row in
      call_cases (Called op) w.state.shards zone key (λ s. suggest_event_refusal s name revision seen) (λ s. suggested s name revision seen version row) (λ s. Done)
      (λ why. nothing_learnt w j me moment op (No why) refl refl refl refl)
      (λ s there ok.
      subst (λ r. Called op (put_in w.state.shards zone key (Some (unless_refused r s (settled s name (tags_due_taken seen (entry_at s name).tags) version row)))) Done) (sym (not_stale s name revision seen ok))
      (subst (λ x. Called op (put_in w.state.shards zone key (Some (with_entry (record s { log = logged_if_newer s.log (entry_at s name).version name version }) name (stored_if_newer (with_tags x (tags_due_taken seen x.tags)) version row)))) Done) (sym (as_before zone key s there name))
      (suggest_done w j me moment op zone key name (record s { log = logged_if_newer s.log (entry_at s name).version name version }) (as_before zone key s there) revision seen version row (suggests (p.seen zone key name) revision seen version row may)
      (subst (λ e. has_due seen e.tags ≡ true) (as_before zone key s there name) (timely s name revision seen ok).due) refl refl refl refl)))

  module _ (zone container : ℕ) (name : List ℕ) (guard : Guard) (new : NewHead) (when : Conditions) where
    abbrev writing : Op
    writing = HeadWrite zone container name guard new when

    abbrev head : Head
    head = w.state.heads zone (head_key container name)

    abbrev free : ℕ
    free = w.state.free zone

    abbrev written_head : Head
    written_head = record { version = number; slot = Live new (stamp_next head zone now) }

    abbrev Wrote : Head → Reply → Type 0
    Wrote h reply =
        Index number now (entries_of w.state.shards) (heads_of (put_in w.state.heads zone (head_key container name) h)) (rows_of w.state.root) (tags_after w.index.tags me writing reply) (last_after w.index.last writing reply) (homes_after w.rows.homes writing reply number) (instances_after w.rows.instances writing reply)
        (put w.stripes.by number me) (put_actor w.phases me (learnt p writing reply number now))

    write_keeps : meets_need settings p writing ≡ true → After settings w me moment writing (reply_of settings st writing) (after settings st writing)
    write_keeps may =
        elim (write_refusal head guard new when now free settings.frame) as (λ r. write_refusal head guard new when now free settings.frame ≡ r → Wrote (unless_refused r head written_head) (reply_or (Changed (change_of head (unless_refused r head written_head))) r)) [
          | None ↦ λ ok.
              write_done w j me moment writing (Changed (change_of head written_head)) zone container name guard written_head.slot (writes p zone container name guard (left_of (may_change_head p zone container name guard) (has_parts p zone new) may))
              (not_expired guard now (first_refusal (condition_refusal when head.slot) (space_refusal free (frames_for settings.frame new.first))) ok) refl refl refl refl
          | Some why ↦ λ no. subst (λ hs. Index number now (entries_of w.state.shards) (heads_of hs) (rows_of w.state.root) w.index.tags w.index.last w.rows.homes w.rows.instances (put w.stripes.by number me) (put_actor w.phases me (learnt p writing (No why) number now))) (sym (put_in_same w.state.heads zone (head_key container name)))
              (nothing_learnt w j me moment writing (No why) refl refl refl refl)
        ] refl

  module _ (zone : ℕ) (name : List ℕ) where
    abbrev Swapped : ℕ → Option Bucket → Type 0
    Swapped expected new = After settings w me moment (BucketSwap zone name expected new) (reply_of settings st (BucketSwap zone name expected new)) (after settings st (BucketSwap zone name expected new))

    pub home_from : (b : Bucket) (f : FirstEvent) → p.first ≡ Some f → cond (zone == 1) (is_first p b.id) (takes_over p name b) ≡ true → HomeFrom w.rows.homes zone f.number name b
    home_from b f first_is may =
        elim (zone == 1) as (λ m. (zone == 1) ≡ m → cond m (is_first p b.id) (takes_over p name b) ≡ true → HomeFrom w.rows.homes zone f.number name b) [
          | true ↦ λ master own.
              let g = so p.first _ own in
              let firsts : Some f ≡ Some g.x = sym first_is ∙ g.is in
              let same : f ≡ g.x = cc in
              inl (master, ap (λ (x : FirstEvent). x.number) same ∙ number_same (g.x).number b.id g.passes)
          | false ↦ λ other taken.
              let read = so (at (p.rows 1) name) _ taken in
              let row = so (read.x).row _ read.passes in
              let shared = left_of (shares_all row.x b) _ row.passes in
              let same : (row.x).id ≡ b.id = number_same (row.x).id b.id (left_of ((row.x).id == b.id) _ shared) in
              let at_shared = number_same (row.x).shared b.shared (right_of (shares_all row.x b) ((row.x).shared == b.shared) row.passes) in
              let named = ((all_at (ReadHolds w.state.count w.rows.homes w.rows.instances (rows_of w.state.root) 1) (p.rows 1) name read.x ((j.rows_stand.knows me).reads 1) read.is).shown row.x row.is).named in
              let from = named.since in
              inr (other, (named.home, ap w.rows.homes (sym same) ∙ named.made, named.name_is, omega (arith, from, at_shared)))
        ] refl may

    module _ (expected : ℕ) (new : Option Bucket) where
      abbrev swapping : Op
      swapping = BucketSwap zone name expected new

      abbrev swapped_root : Root
      swapped_root = record {
        buckets = with_bucket (w.state.root zone).buckets name (stored_or_none (at (w.state.root zone).buckets name) new (is_master zone) number);
        log = cond (is_master zone && is_logged (at (w.state.root zone).buckets name) new) (logged (w.state.root zone).log (bucket_row name)) (w.state.root zone).log;
      }

      abbrev Rooted : Root → Reply → Type 0
      Rooted root reply =
          Index number now (entries_of w.state.shards) (heads_of w.state.heads) (rows_of (put w.state.root zone root)) w.index.tags w.index.last (homes_after w.rows.homes swapping reply number) (instances_after w.rows.instances swapping reply)
          (put w.stripes.by number me) (put_actor w.phases me (learnt p swapping reply number now))

      -- a swap that is refused leaves all as it was
      swapped_by : (swap_refusal (w.state.root zone) name expected ≡ None → Rooted swapped_root Done) → Swapped expected new
      swapped_by done =
          elim (swap_refusal (w.state.root zone) name expected) as (λ r. swap_refusal (w.state.root zone) name expected ≡ r → Rooted (unless_refused r (w.state.root zone) swapped_root) (reply_or Done r)) [
            | None ↦ done
            | Some why ↦ λ no. subst (λ rs. Index number now (entries_of w.state.shards) (heads_of w.state.heads) (rows_of rs) w.index.tags w.index.last w.rows.homes w.rows.instances (put w.stripes.by number me) (put_actor w.phases me (learnt p swapping (No why) number now))) (sym (put_same w.state.root zone))
                (nothing_learnt w j me moment swapping (No why) refl refl refl refl)
          ] refl

    abbrev pub Kept : Option Bucket
    Kept = at (w.state.root zone).buckets name

    -- a row that an actor read is kept where the swap is done
    module _ (read : RowRead) (shown : at (p.rows zone) name ≡ Some read) (row : Option Bucket) (row_is : read.row ≡ row) (ok : swap_refusal (w.state.root zone) name (version_of row) ≡ None) where
      pub known : row_known (p.rows zone) name ≡ row
      known = rw shown row_is

      version_same : version_of Kept ≡ version_of row
      version_same = swap_version (w.state.root zone) name (version_of row) ok

      pub kept_is : Kept ≡ row
      kept_is = by_row row row_is version_same where
        some_kept : (old : Bucket) → read.row ≡ Some old → (o : Option Bucket) → Kept ≡ o → version_of o ≡ old.version → o ≡ Some old
        some_kept old is None kept same =
            let s = (all_at (ReadHolds w.state.count w.rows.homes w.rows.instances (rows_of w.state.root) zone) (p.rows zone) name read ((j.rows_stand.knows me).reads zone) shown).shown old is in
            let positive = s.version in
            absurd (omega (arith, same, positive))
        some_kept old is (Some k) kept same =
            let s = (all_at (ReadHolds w.state.count w.rows.homes w.rows.instances (rows_of w.state.root) zone) (p.rows zone) name read ((j.rows_stand.knows me).reads zone) shown).shown old is in
            ap (λ x. Some x) (s.same k kept same)

        by_row : (row : Option Bucket) → read.row ≡ row → version_of Kept ≡ version_of row → Kept ≡ row
        by_row None is same = no_row_kept Kept same (λ r there. (j.rows_stand.kept zone name r there).version)
        by_row (Some old) is same = some_kept old is Kept refl same

    made_by : (read : RowRead) → at (p.rows zone) name ≡ Some read → read.row ≡ None → (b : Bucket) → Makes p zone name b → Swapped 0 (Some b)
    made_by read shown row_is b m =
        swapped_by 0 (Some b)
        (λ ok. swap_done w j me moment zone name b (swapped_root 0 (Some b)).log m.first m.first_is m.instance_is m.not_placed m.idle m.some (home_from b m.first m.first_is m.from) (kept_is read shown None row_is ok) (known read shown None row_is ok))

    altered_by : (read : RowRead) → at (p.rows zone) name ≡ Some read → (old : Bucket) → read.row ≡ Some old → (b : Bucket) → Alters p zone name old b → Swapped old.version (Some b)
    altered_by read shown old row_is b alt =
        let s = (all_at (ReadHolds w.state.count w.rows.homes w.rows.instances (rows_of w.state.root) zone) (p.rows zone) name read ((j.rows_stand.knows me).reads zone) shown).shown old row_is in
        let positive = s.version in
        let apart : (old.version == 0) ≡ false = grind (arith, nat_tests, positive) in
        swapped_by old.version (Some b)
        (λ ok.
        subst (λ homes. Index number now (entries_of w.state.shards) (heads_of w.state.heads) (rows_of (put w.state.root zone (swapped_root old.version (Some b)))) w.index.tags w.index.last homes (instances_after w.rows.instances (swapping old.version (Some b)) Done) (put w.stripes.by number me) (put_actor w.phases me (learnt p (swapping old.version (Some b)) Done number now)))
        (sym (not_made (is_master zone) (old.version == 0) apart))
        (change_done w j me moment zone name old.version old b (swapped_root old.version (Some b)).log (kept_is read shown (Some old) row_is ok) (known read shown (Some old) row_is ok) alt)) where
          not_made : (master none : Bool) → none ≡ false → cond (master && none) (put w.rows.homes b.id (Some (record { name = name; at = number }))) w.rows.homes ≡ w.rows.homes
          not_made true none is = rw is refl
          not_made false none is = refl

    removed_by : (read : RowRead) → at (p.rows zone) name ≡ Some read → (old : Bucket) → read.row ≡ Some old → is_removal p zone name old ≡ true → Swapped old.version None
    removed_by read shown old row_is removal =
        swapped_by old.version None
        (λ ok.
        let kept = kept_is read shown (Some old) row_is ok in
        removal_done w j me moment zone name old.version old (swapped_root old.version None).log kept (known read shown (Some old) row_is ok)
        (gone_from w j me zone name old kept (right_of (is_so old.busy (λ busy. has_closed (p.work zone old.id old.instance) busy.number old.shards)) (zone == 1 || saw_it_gone p name old) removal)))

    swap_keeps : (expected : ℕ) (new : Option Bucket) → meets_need settings p (BucketSwap zone name expected new) ≡ true → Swapped expected new
    swap_keeps expected new may =
        let r = so (at (p.rows zone) name) _ may in
        let read = r.x in
        let expected_is : version_of read.row ≡ expected = number_same (version_of read.row) expected (left_of (version_of read.row == expected) (is_form p zone name read.row new) r.passes) in
        subst (λ n. Swapped n new) expected_is (by_form read r.is read.row new refl (form_of p zone name read.row new (right_of (version_of read.row == expected) (is_form p zone name read.row new) r.passes))) where
          by_form : (read : RowRead) → at (p.rows zone) name ≡ Some read → (row new : Option Bucket) → read.row ≡ row → Form p zone name row new → Swapped (version_of row) new
          by_form read shown None None is form = elim form [ ]
          by_form read shown None (Some b) is (making m) = made_by read shown is b m
          by_form read shown (Some old) (Some b) is (altering alt) = altered_by read shown old is b alt
          by_form read shown (Some old) None is (removing removal) = removed_by read shown old is removal

  -- ---- holds

  close_keeps : (zone : ℕ) (key : Key) (id : ℕ) (force : Bool) → After settings w me moment (CloseShard zone key id force) (reply_of settings st (CloseShard zone key id force)) (after settings st (CloseShard zone key id force))
  close_keeps zone key id force =
      let op = CloseShard zone key id force in
      call_cases (Called op) w.state.shards zone key (λ s. close_refusal s id force) (λ s. taken s id (Closing id)) (λ s. Done)
      (λ why. nothing_learnt w j me moment op (No why) refl refl refl refl)
      (λ s there ok.
      subst (λ (es : Entries). Index number now es (heads_of w.state.heads) (rows_of w.state.root) w.index.tags w.index.last w.rows.homes w.rows.instances (put w.stripes.by number me) (put_actor w.phases me (learnt p op Done number now))) (sym (closed_entries w.state.shards zone key s id there))
      (closed_done w j me moment zone key id force))

  release_keeps : (zone : ℕ) (key : Key) (id : ℕ) → After settings w me moment (Release zone key id) Done (after settings st (Release zone key id))
  release_keeps zone key id =
      subst (λ (es : Entries). Index number now es (heads_of w.state.heads) (rows_of w.state.root) w.index.tags w.index.last w.rows.homes w.rows.instances (put w.stripes.by number me) (put_actor w.phases me (learnt p (Release zone key id) Done number now))) (sym (released_entries w.state.shards zone key id))
      (nothing_learnt w j me moment (Release zone key id) Done refl refl refl refl)

  shut_keeps : (zone : ℕ) (key : Key) → meets_need settings p (Shut zone key) ≡ true → After settings w me moment (Shut zone key) Done (after settings st (Shut zone key))
  shut_keeps zone key may =
      let r = so (p.work zone (container_of key) (instance_of key)).removed _ may in
      shut_done w j me moment zone key (((j.rows_stand.knows me).works.removed zone (container_of key) (instance_of key) r.x r.is).fallen)

  keeps_by : (op : Op) → meets_need settings p op ≡ true → After settings w me moment op (reply_of settings st op) (after settings st op)
  keeps_by (BucketRead zone name) may = bucket_read w j me moment zone name
  keeps_by (BucketSwap zone name expected new) may = swap_keeps zone name expected new may
  keeps_by (AccountPage zone account start limit) may = nothing_learnt w j me moment (AccountPage zone account start limit) (reply_of settings st (AccountPage zone account start limit)) refl refl refl refl
  keeps_by (BucketPage zone start limit) may = nothing_learnt w j me moment (BucketPage zone start limit) (reply_of settings st (BucketPage zone start limit)) refl refl refl refl
  keeps_by (CloseShard zone key id force) may = close_keeps zone key id force
  keeps_by (Release zone key id) may = release_keeps zone key id
  keeps_by (Shut zone key) may = shut_keeps zone key may
  keeps_by (ShardMake zone key) may =
      subst (λ (es : Entries). Index number now es (heads_of w.state.heads) (rows_of w.state.root) w.index.tags w.index.last w.rows.homes w.rows.instances (put w.stripes.by number me) (put_actor w.phases me (learnt p (ShardMake zone key) Done number now))) (sym (made_entries w.state.shards zone key))
      (nothing_learnt w j me moment (ShardMake zone key) Done refl refl refl refl)
  keeps_by (Prepare zone key name) may = prepare_keeps zone key name may
  keeps_by (Complete zone key name tag version row) may = complete_keeps zone key name tag version row may
  keeps_by (Cancel zone key name tag) may = cancel_keeps zone key name tag may
  keeps_by (Page zone key start limit) may = page_shown w j me moment zone key start limit
  keeps_by (Suggest zone key name revision seen version row) may = suggest_keeps zone key name revision seen version row may
  keeps_by (Stats zone key) may = nothing_learnt w j me moment (Stats zone key) (reply_of settings st (Stats zone key)) refl refl refl refl
  keeps_by (HeadRead zone container name) may = head_shown w j me moment zone container name
  keeps_by (HeadWrite zone container name guard new when) may = write_keeps zone container name guard new when may
  keeps_by (TailMake zone write part bytes) may = nothing_learnt w j me moment (TailMake zone write part bytes) (reply_of settings st (TailMake zone write part bytes)) refl refl refl refl
  keeps_by (TailRead zone write part start count) may = nothing_learnt w j me moment (TailRead zone write part start count) (reply_of settings st (TailRead zone write part start count)) refl refl refl refl
  keeps_by (Announce zone container instance shard bucket) may = tag_announced w j me moment (Announce zone container instance shard bucket) (reply_of settings st (Announce zone container instance shard bucket)) zone (shard_key container instance shard) refl refl refl refl

-- ---- histories

pub keeps : (settings : SettingsView) → IsSettings settings → (w : World) → IndexHolds w → (e : Event) → IsNext settings w e → IndexHolds (happens settings w e)
keeps settings good w j e next =
    let st = at_moment w.state e.moment in
    let me = actor_of e in
    let touch = touch_of settings st e.op in
    let s = after settings st e.op in
    let need = right_of (is_between 1 settings.zones (zone_of e.op)) (meets_need settings (w.phases me) e.op) next.may in
    let all = subst (λ r. After settings w me e.moment e.op r s) (sym next.answer) (keeps_by settings good w j me e.moment e.op need) in
    let count : w.state.count + 1 ≡ s.count = ap (λ n. n + 1) (sym (touched-count settings st touch)) in
    let clock : st.clock ≡ s.clock = sym (touched-clock settings st touch) in
    subst (λ n. Index n s.clock (entries_of s.shards) (heads_of s.heads) (rows_of s.root) (tags_after w.index.tags me e.op e.reply) (last_after w.index.last e.op e.reply) (homes_after w.rows.homes e.op e.reply (w.state.count + 1)) (instances_after w.rows.instances e.op e.reply) (put w.stripes.by (w.state.count + 1) me) (put_actor w.phases me (learnt (w.phases me) e.op e.reply (w.state.count + 1) st.clock))) count
    (subst (λ c. Index (w.state.count + 1) c (entries_of s.shards) (heads_of s.heads) (rows_of s.root) (tags_after w.index.tags me e.op e.reply) (last_after w.index.last e.op e.reply) (homes_after w.rows.homes e.op e.reply (w.state.count + 1)) (instances_after w.rows.instances e.op e.reply) (put w.stripes.by (w.state.count + 1) me) (put_actor w.phases me (learnt (w.phases me) e.op e.reply (w.state.count + 1) st.clock))) clock all)

pub no_pairs : {X : Type 0} (P : List ℕ × X → Type 0) → AllByRecursion P (names_of (no_names {X = X}))
unfolding no_names names_of
no_pairs P = tt

pub starts : (settings : SettingsView) → IndexHolds (start settings)
starts settings = record {
  numbers = record {
    early = omega arith;
    entries_below = λ zone key name. (omega arith, omega arith);
    heads_below = λ zone container name. omega arith;
    tags_below = λ tag note is. absurd cc;
    homes_below = λ container home is. absurd cc;
    instances_below = λ zone container number instance is. absurd cc;
    firsts_below = λ actor first is. absurd cc;
  };
  rows_stand = record {
    kept = λ zone name row is. absurd (let none = at-none {X = Bucket} name in cc);
    knows = λ actor. record {
      reads = λ zone. no_pairs _;
      works = record { begun = λ zone container number n own is. absurd cc; cleared = λ zone container number n is. absurd cc; removed = λ zone container number shards is. absurd cc };
    };
    in_row = λ zone container number instance is stands. absurd cc;
    homed = λ zone container number instance is. absurd cc;
    own_home = λ actor first home is has. absurd cc;
    own_instance = λ actor zone container first instance is has. absurd cc;
  };
  tags_of_prepare = record {
    in_entries = λ zone key name. tt;
    placed = λ tag note is. absurd cc;
    held = λ zone key name. inl refl;
    own = λ actor t is. absurd cc;
  };
  open_tags = λ tag note is stands still early. absurd cc;
  changes = record {
    below = λ tag note change is made. absurd cc;
    none = λ zone container name is. refl;
    last_is = λ zone container name tag is. absurd cc;
  };
  agreements = λ zone key name p stands. absurd (let is = p.placed in cc);
  sights = λ actor zone key name s is. absurd cc;
  reads = λ actor zone key name s is room due. absurd cc;
}

holds_from : (settings : SettingsView) → IsSettings settings → (w : World) (es : List Event) → LegalFrom settings w es → IndexHolds w → IndexHolds (run settings w es)
holds_from settings good w [] legal j = j
holds_from settings good w (e ∷ es) legal j = holds_from settings good (happens settings w e) es legal.1 (keeps settings good w j e legal.0)

pub holds : (settings : SettingsView) (history : List Event) → IsSettings settings → Legal settings history → IndexHolds (world_of settings history)
holds settings history good legal = holds_from settings good (start settings) history legal (starts settings)
