-- An update after a read of the row.
use Rattle.std.proofs.Common.{◌≡◌, ℕ, ◌<◌, ◌≤◌, true, Option, Some, None, refl, arith, nat_le}
use Rattle.std.proofs.lemmas.Bool.Decides.{nat_tests}
use Rattle.object_words.specs.declared.bucket.Bucket.{Bucket}
use Rattle.object_words.specs.declared.why.Why.TheVariants.{Absent}
use Rattle.realm_model.specs.Settings.{SettingsView}
use Rattle.realm_model.specs.Allowed.{allowed, meets_need}
use Rattle.realm_model.specs.Maps.{Maps}
use Rattle.realm_model.specs.Needs.{is_between}
use Rattle.realm_model.specs.Ops.{zone_of}
use Rattle.realm_model.specs.Phases.{Phase}
use Rattle.realm_model.specs.declared.op.Op.{Op}
use Rattle.realm_model.specs.declared.op.Op.TheVariants.{BucketRead}
use Rattle.realm_model.specs.declared.event.Reply.{Reply}
use Rattle.realm_model.specs.declared.event.Reply.TheVariants.{No, Row}
use Rattle.swift_auth.specs.declared.policy.Deed.TheVariants.{ChangeThing}
use Rattle.swift_auth.specs.Policies.{verdict_of}
use Rattle.task_words.specs.declared.reply.Refusal.{Refusal}
use Rattle.task_words.specs.Rows.{row_refusal}
use Rattle.task_words.proofs.Refusals.{some_refusal}
use Rattle.index_update.specs.declared.head_change.HeadChange.{HeadChange}
use Rattle.index_update.specs.declared.stage.Tried.{Tried}
use Rattle.index_update.specs.declared.stage.Updated.TheVariants.{Refused}
use Rattle.index_update.specs.declared.stage.Stage.TheVariants.{Looking, Ended}
use Rattle.index_update.specs.Stages.{shard_for, place_by, place_of, by_place}
use Rattle.index_update.specs.Fits.{Asked, Known, known_next, Since, AtRow, FitsAt, IsKept}
use Rattle.index_update.proofs.Counting.{row_known_now}
use Rattle.index_update.proofs.Carrying.{trying_on, carries_on}

-- ---- what may come next

between : (low high n : ℕ) → low ≤ n → n ≤ high → is_between low high n ≡ true
between low high n above below =
    let a : nat_le low n ≡ true = grind (arith, nat_tests, above) in
    let b : nat_le n high ≡ true = grind (arith, nat_tests, below) in
    rw (a, b) refl

pub in_realm : (settings : SettingsView) (p : Phase) (op : Op) → 1 ≤ zone_of op → zone_of op ≤ settings.zones → meets_need settings p op ≡ true → allowed settings p op ≡ true
in_realm settings p op low high meets = let zone = between 1 settings.zones (zone_of op) low high in rw (zone, meets) refl

pub may_look : (settings : SettingsView) (r : Asked) (p : Phase) → 1 ≤ r.target.zone → r.target.zone ≤ settings.zones → allowed settings p (BucketRead r.target.zone r.target.container) ≡ true
may_look settings r p low high = in_realm settings p (BucketRead r.target.zone r.target.container) low high refl

-- ---- a read more

module _ (r : Asked) (x : Tried) (k : Known) (maps : Maps) (number clock : ℕ) (before : k.last < number) where
  abbrev look : Op
  look = BucketRead r.target.zone r.target.container

  abbrev now : Reply → Known
  now reply = known_next k maps look reply number clock

  row_now : (row : Bucket) → k.account.moved.last ≤ k.last → row_refusal r.target.asker (Some row) ChangeThing ≡ None → 0 < row.shards → AtRow r.target (shard_for row r.target.name) (now (Row row))
  row_now row low granted some = record {
    row = row;
    number = number;
    looked = refl;
    read = row_known_now k.phase.rows r.target.zone r.target.container (record { row = Some row; at = number });
    granted = granted;
    some = some;
    names = refl;
    later = omega (arith, low, before);
    before = omega arith;
  }

  refused_now : (reply : Reply) (row : Option Bucket) (refusal : Refusal) → (now reply).account.decided ≡ r.start.account.decided → (now reply).account.changes ≡ r.start.account.changes
      → (now reply).account.looked ≡ Some (record { zone = r.target.zone; name = r.target.container; row = row; number = number })
      → row_refusal r.target.asker row ChangeThing ≡ Some refusal → Since r (now reply) → FitsAt r x (Ended (Refused refusal)) (now reply)
  refused_now reply row refusal undecided unchanged looked is since = (
    record {
      by_row = record { look = record { zone = r.target.zone; name = r.target.container; row = row; number = number }; is_last = looked; in_zone = refl; under_name = refl; refuses = is };
      undecided = undecided;
      unchanged = unchanged;
    },
    since,
  )

  no_row_grants : row_refusal r.target.asker None ChangeThing ≡ None → ⊥
  no_row_grants is = some_refusal (verdict_of r.target.asker.user r.target.asker.account None ChangeThing) is

  -- ---- the row again
  again_row : (change : HeadChange) (row : Bucket) → 0 < row.shards → FitsAt r x (Looking change) k → FitsAt r x (by_place change (place_of r.target (Some row))) (now (Row row))
  again_row change row some f =
      let t = f.0 in
      let carries = carries_on k maps look (Row row) number clock before r change f.1 refl refl in
      elim (row_refusal r.target.asker (Some row) ChangeThing) as (λ o. row_refusal r.target.asker (Some row) ChangeThing ≡ o → FitsAt r x (by_place change (place_by o (Some row) r.target.name)) (now (Row row))) [
        | None ↦ λ is. (trying_on k maps look (Row row) number clock before r x t refl refl refl refl refl, row_now row t.moved_before is some, carries, f.2)
        | Some refusal ↦ λ is. refused_now (Row row) (Some row) refusal t.undecided t.unchanged refl is carries.since
      ] refl

  again_none : (change : HeadChange) → FitsAt r x (Looking change) k → FitsAt r x (by_place change (place_of r.target None)) (now (No Absent))
  again_none change f =
      let t = f.0 in
      let carries = carries_on k maps look (No Absent) number clock before r change f.1 refl refl in
      elim (row_refusal r.target.asker None ChangeThing) as (λ o. row_refusal r.target.asker None ChangeThing ≡ o → FitsAt r x (by_place change (place_by o None r.target.name)) (now (No Absent))) [
        | None ↦ λ is. absurd (no_row_grants is)
        | Some refusal ↦ λ is. refused_now (No Absent) None refusal t.undecided t.unchanged refl is carries.since
      ] refl

-- ---- by stage

pub looking_kept : (r : Asked) (x : Tried) (change : HeadChange) (k : Known) (reply : Reply) → FitsAt r x (Looking change) k → IsKept r x (Looking change) k reply
looking_kept r x change k (Row row) f maps number clock before suits answers = again_row r x k maps number clock before change row answers f
looking_kept r x change k (No Absent) f maps number clock before suits answers = again_none r x k maps number clock before change f
looking_kept r x change k reply f maps number clock before suits answers = absurd suits
