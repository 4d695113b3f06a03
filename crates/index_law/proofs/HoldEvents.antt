-- What holds shards, over each event and each legal history.
use Rattle.std.proofs.Common.{◌≡◌, ℕ, ◌+◌, ◌==◌, ◌&&◌, ◌||◌, true, cond, List, [], ◌∷◌, Option, Some, None, refl, sym, subst}
use Rattle.object_words.specs.declared.bucket.Bucket.{Bucket}
use Rattle.object_words.specs.declared.log.LogWhat.TheVariants.{Bucket as bucket_row}
use Rattle.object_words.specs.Keys.{put}
use Rattle.object_words.specs.Names.{at}
use Rattle.object_words.specs.Entries.{with_tags}
use Rattle.object_words.specs.Logs.{Log, logged}
use Rattle.object_words.specs.Refusals.{unless_refused, change_refusal}
use Rattle.object_words.specs.Roots.{Root, version_of, swap_refusal, stored_or_none, with_bucket, is_logged}
use Rattle.object_words.specs.Rows.{RowView}
use Rattle.object_words.specs.Shards.{Shard, entry_at, with_entry}
use Rattle.object_words.specs.ShardCalls.{prepare_refusal, complete_refusal, tag_refusal, untimely_refusal, stale_refusal, suggest_refusal, settled, suggested}
use Rattle.object_words.specs.Tags.{with_tag, without_tag, tags_due_taken, guard_of}
use Rattle.object_words.proofs.KeyLemmas.{put_same}
use Rattle.realm_model.specs.Settings.{SettingsView, IsSettings}
use Rattle.realm_model.specs.Ops.{zone_of}
use Rattle.realm_model.specs.Needs.{is_between, is_form, has_closed, saw_it_gone}
use Rattle.realm_model.specs.Allowed.{meets_need}
use Rattle.realm_model.specs.Phases.{ActorId, RowRead, Phase}
use Rattle.realm_model.specs.Learnt.{learnt}
use Rattle.realm_model.specs.States.{State, at_moment, clock_at}
use Rattle.realm_model.specs.Steps.{is_master, reply_or, new_tag, suggest_event_refusal, reply_of, after}
use Rattle.realm_model.specs.Tests.{is_so}
use Rattle.realm_model.specs.Worlds.{World, start, put_actor, instances_after, actor_of, happens}
use Rattle.realm_model.specs.Histories.{run, world_of, IsNext, LegalFrom, Legal}
use Rattle.realm_model.specs.declared.op.Op.{Op}
use Rattle.realm_model.specs.declared.op.Op.TheVariants.{BucketSwap, ShardMake, Prepare, Complete, Cancel, Suggest, CloseShard, Release, Shut}
use Rattle.realm_model.specs.declared.event.Event.{Event}
use Rattle.realm_model.specs.declared.event.Reply.{Reply}
use Rattle.realm_model.specs.declared.event.Reply.TheVariants.{Done, No, Prepared}
use Rattle.realm_model.proofs.Computing.{left_of, right_of}
use Rattle.realm_model.proofs.ObjectLemmas.{number_same}
use Rattle.index_law.specs.Tables.{rows_of}
use Rattle.index_law.specs.Holds.{HoldsStand, HoldsIn}
use Rattle.index_law.specs.Invariants.{IndexHolds}
use Rattle.index_law.proofs.Tests.{so}
use Rattle.index_law.proofs.Forms.{Form, making, altering, removing, form_of}
use Rattle.index_law.proofs.Keeping.{known, kept_is, home_from, gone_from, keeps, starts}
use Rattle.index_law.proofs.Holding.{KeepsHold, took_change, first_passes, second_passes, holds_same}
use Rattle.index_law.proofs.Taking.{called_holds, make_holds as shard_holds, close_holds, release_holds, shut_holds}
use Rattle.index_law.proofs.MakeHolds.{make_holds}
use Rattle.index_law.proofs.AlterHolds.{alter_holds}
use Rattle.index_law.proofs.RemoveHolds.{removes, remove_holds}

module _ (settings : SettingsView) (good : IsSettings settings) (w : World) (j : IndexHolds w) (h : HoldsIn w) (me : ActorId) (moment : ℕ) where
  abbrev number : ℕ
  number = w.state.count + 1

  abbrev now : ℕ
  now = clock_at w.state.clock moment

  abbrev st : State
  st = at_moment w.state moment

  abbrev p : Phase
  p = w.phases me

  -- what holds after an operation with its answer
  abbrev After : Op → Type 0
  After op =
      HoldsStand (instances_after w.rows.instances op (reply_of settings st op)) (rows_of (after settings st op).root) (after settings st op).shards (put_actor w.phases me (learnt p op (reply_of settings st op) number now))

  module _ (zone : ℕ) (name : List ℕ) (expected : ℕ) (new : Option Bucket) where
    abbrev swapping : Op
    swapping = BucketSwap zone name expected new

    abbrev log : Log
    log = cond (is_master zone && is_logged (at (w.state.root zone).buckets name) new) (logged (w.state.root zone).log (bucket_row name)) (w.state.root zone).log

    abbrev swapped_root : Root
    swapped_root = record { buckets = with_bucket (w.state.root zone).buckets name (stored_or_none (at (w.state.root zone).buckets name) new (is_master zone) number); log = log }

    abbrev Rooted : Root → Reply → Type 0
    Rooted root reply = HoldsStand (instances_after w.rows.instances swapping reply) (rows_of (put w.state.root zone root)) w.state.shards (put_actor w.phases me (learnt p swapping reply number now))

    swapped_by : (swap_refusal (w.state.root zone) name expected ≡ None → Rooted swapped_root Done) → After swapping
    swapped_by done =
        elim (swap_refusal (w.state.root zone) name expected) as (λ r. swap_refusal (w.state.root zone) name expected ≡ r → Rooted (unless_refused r (w.state.root zone) swapped_root) (reply_or Done r)) [
          | None ↦ done
          | Some why ↦ λ no. subst (λ rs. HoldsStand w.rows.instances (rows_of rs) w.state.shards (put_actor w.phases me (learnt p swapping (No why) number now))) (sym (put_same w.state.root zone)) (holds_same w j h me moment swapping (No why) refl)
        ] refl

  swap_holds : (zone : ℕ) (name : List ℕ) (expected : ℕ) (new : Option Bucket) → meets_need settings p (BucketSwap zone name expected new) ≡ true → After (BucketSwap zone name expected new)
  swap_holds zone name expected new may =
      let r = so (at (p.rows zone) name) _ may in
      let read = r.x in
      let expected_is : version_of read.row ≡ expected = number_same (version_of read.row) expected (left_of (version_of read.row == expected) (is_form p zone name read.row new) r.passes) in
      subst (λ n. After (BucketSwap zone name n new)) expected_is (by_form read r.is read.row new refl (form_of p zone name read.row new (right_of (version_of read.row == expected) (is_form p zone name read.row new) r.passes))) where
        by_form : (read : RowRead) → at (p.rows zone) name ≡ Some read → (row new : Option Bucket) → read.row ≡ row → Form p zone name row new → After (BucketSwap zone name (version_of row) new)
        by_form read shown None None is form = elim form [ ]
        by_form read shown None (Some b) is (making m) =
            swapped_by zone name 0 (Some b)
            (λ ok. make_holds w j h me moment zone name b (log zone name 0 (Some b)) m (home_from settings good w j me moment zone name b m.first m.first_is m.from) (kept_is settings good w j me moment zone name read shown None is ok) (known settings good w j me moment zone name read shown None is ok))
        by_form read shown (Some old) (Some b) is (altering alt) =
            swapped_by zone name old.version (Some b)
            (λ ok. alter_holds w j h me moment zone name old.version old b (log zone name old.version (Some b)) (kept_is settings good w j me moment zone name read shown (Some old) is ok) (known settings good w j me moment zone name read shown (Some old) is ok) alt)
        by_form read shown (Some old) None is (removing removal) =
            swapped_by zone name old.version None
            (λ ok.
            let kept = kept_is settings good w j me moment zone name read shown (Some old) is ok in
            remove_holds w j h me moment zone name old.version old (log zone name old.version None) kept (known settings good w j me moment zone name read shown (Some old) is ok)
            (gone_from w j me zone name old kept (right_of (is_so old.busy (λ busy. has_closed (p.work zone old.id old.instance) busy.number old.shards)) (zone == 1 || saw_it_gone p name old) removal)) (removes p zone name old removal))

  suggested_holds : (s : Shard) (name : List ℕ) (revision seen version : ℕ) (row : RowView) → change_refusal s ≡ None → KeepsHold s (suggested s name revision seen version row)
  suggested_holds s name revision seen version row ok =
      took_change s (suggested s name revision seen version row) ok (same (λ (x : Shard). x.hold) refl) (same (λ (x : Shard). x.fence) refl) (same (λ (x : Shard). x.fate) refl) where
        same : {A : Type 0} (field : Shard → A) → field (settled s name (tags_due_taken seen (entry_at s name).tags) version row) ≡ field s → field (suggested s name revision seen version row) ≡ field s
        same field is = elim (suggest_refusal s name revision) as (λ r. field (unless_refused r s (settled s name (tags_due_taken seen (entry_at s name).tags) version row)) ≡ field s) [ None ↦ is | Some why ↦ refl ]

  holds_by : (op : Op) → meets_need settings p op ≡ true → After op
  holds_by (BucketSwap zone name expected new) may = swap_holds zone name expected new may
  holds_by (ShardMake zone key) may = shard_holds w j h me moment zone key may
  holds_by (Prepare zone key name) may =
      let t = new_tag settings st in
      called_holds w j h me moment (Prepare zone key name) (λ r. refl) zone key prepare_refusal (λ s. with_entry s name (with_tags (entry_at s name) (with_tag t (entry_at s name).tags))) (λ s. Prepared (guard_of t)) (λ s ok. took_change s _ ok refl refl refl)
  holds_by (Complete zone key name tag version row) may =
      called_holds w j h me moment (Complete zone key name tag version row) (λ r. refl) zone key (λ s. complete_refusal s name tag) (λ s. settled s name (without_tag tag (entry_at s name).tags) version row) (λ s. Done)
      (λ s ok. took_change s _ (first_passes (change_refusal s) (tag_refusal (entry_at s name) tag) ok) refl refl refl)
  holds_by (Cancel zone key name tag) may =
      called_holds w j h me moment (Cancel zone key name tag) (λ r. refl) zone key (λ s. complete_refusal s name tag) (λ s. with_entry s name (with_tags (entry_at s name) (without_tag tag (entry_at s name).tags))) (λ s. Done)
      (λ s ok. took_change s _ (first_passes (change_refusal s) (tag_refusal (entry_at s name) tag) ok) refl refl refl)
  holds_by (Suggest zone key name revision seen version row) may =
      called_holds w j h me moment (Suggest zone key name revision seen version row) (λ r. refl) zone key (λ s. suggest_event_refusal s name revision seen) (λ s. suggested s name revision seen version row) (λ s. Done)
      (λ s ok. suggested_holds s name revision seen version row (first_passes (change_refusal s) (stale_refusal (entry_at s name) revision) (second_passes (untimely_refusal s name revision seen) (suggest_refusal s name revision) ok)))
  holds_by (CloseShard zone key id force) may = close_holds w j h me moment zone key id force may
  holds_by (Release zone key id) may = release_holds w j h me moment zone key id may
  holds_by (Shut zone key) may = shut_holds w j h me moment zone key may
  holds_by op may = holds_same w j h me moment op (reply_of settings st op) refl

-- ---- histories

pub holds_next : (settings : SettingsView) → IsSettings settings → (w : World) → IndexHolds w → HoldsIn w → (e : Event) → IsNext settings w e → HoldsIn (happens settings w e)
holds_next settings good w j h e next =
    let me = actor_of e in
    let st = at_moment w.state e.moment in
    let need = right_of (is_between 1 settings.zones (zone_of e.op)) (meets_need settings (w.phases me) e.op) next.may in
    subst (λ r. HoldsStand (instances_after w.rows.instances e.op r) (rows_of (after settings st e.op).root) (after settings st e.op).shards (put_actor w.phases me (learnt (w.phases me) e.op r (w.state.count + 1) st.clock))) (sym next.answer)
    (holds_by settings good w j h me e.moment e.op need)

pub holds_start : (settings : SettingsView) → HoldsIn (start settings)
holds_start settings = record {
  keyed = λ zone key s is. absurd cc;
  placed = λ zone key s i is there. absurd cc;
  new = λ zone key s is there. absurd cc;
  given = λ zone key s is. absurd cc;
  fates = λ zone key s is. absurd cc;
  taken = λ actor zone name row busy own number kept in_progress begun closing closed. absurd cc;
  left = λ zone container instance i number is unnamed less. absurd cc;
}

holds_from : (settings : SettingsView) → IsSettings settings → (w : World) (es : List Event) → LegalFrom settings w es → IndexHolds w → HoldsIn w → HoldsIn (run settings w es)
holds_from settings good w [] legal j h = h
holds_from settings good w (e ∷ es) legal j h = holds_from settings good (happens settings w e) es legal.1 (keeps settings good w j e legal.0) (holds_next settings good w j h e legal.0)

pub holds_in : (settings : SettingsView) (history : List Event) → IsSettings settings → Legal settings history → HoldsIn (world_of settings history)
holds_in settings history good legal = holds_from settings good (start settings) history legal (starts settings) (holds_start settings)
