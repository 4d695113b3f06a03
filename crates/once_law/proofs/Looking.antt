-- A PUT reads the row of its container once, unless a change of a head decided, or a tag came to its end.
use Rattle.std.proofs.Common.{◌≡◌, ◌⊎◌, inl, inr, ℕ, ◌+◌, true, false, cond, List, Some, None, Option, refl, sym, ◌∙◌, subst, arith}
use Rattle.rgw_types.specs.declared.pool_key.Key.{Key}
use Rattle.object_words.specs.declared.bucket.Bucket.{Bucket}
use Rattle.object_words.specs.declared.entry.Guard.{Guard}
use Rattle.object_words.specs.declared.head.Changed.{Changed}
use Rattle.object_words.specs.declared.head.Conditions.{Conditions}
use Rattle.object_words.specs.declared.head.NewHead.{NewHead}
use Rattle.object_words.specs.declared.why.Why.{Why}
use Rattle.object_words.specs.declared.why.Why.TheVariants.{Moved, Expired}
use Rattle.realm_model.specs.Accounts.{Looked, ExpiredCount, Account, looked_after, tried_at, decided_after, late_at, expired_after, accounted}
use Rattle.realm_model.specs.Maps.{Maps, Made}
use Rattle.realm_model.specs.Steps.{reply_or}
use Rattle.realm_model.specs.declared.op.Op.{Op}
use Rattle.realm_model.specs.declared.op.Op.TheVariants.{BucketRead, Prepare, Complete, Cancel, HeadRead, HeadWrite, TailMake, Announce}
use Rattle.realm_model.specs.declared.event.Reply.{Reply}
use Rattle.realm_model.specs.declared.event.Reply.TheVariants.{Done, No, Prepared, Head as head_reply, Changed as changed_reply}
use Rattle.index_update.specs.Paths as update
use Rattle.index_update.specs.Paths.{turned, ready, prepared, announced, changed, refused, adrift}
use Rattle.task_put.specs.Orders.{Path, begun, feeding, updating, finished, astray, path_after, IsFinished}

-- ---- what was looked up, and what decided

-- what was looked up last shows this row
abbrev pub Looks : Option Bucket → Account → Type 0
Looks shown y = (l : Looked) → y.looked ≡ Some l → l.row ≡ shown

-- a change of a head decided, or was late
unfoldable pub Settled : Account → Type 0
Settled y = y.decided ≡ None → (y.expired).count ≡ 0 → ⊥

-- before such a change the row was read but once
abbrev pub Quiet : Option Bucket → Account → Type 0
Quiet shown y = Looks shown y ⊎ Settled y

-- nothing but an announcement came since the preparation
abbrev IsStraight : Account → Type 0
IsStraight y = (y.expired).straight ≡ true

-- where the update of a PUT stands
abbrev StandsIn : Option Bucket → update.Path → Account → Type 0
StandsIn shown turned y = Settled y
StandsIn shown ready y = Quiet shown y
StandsIn shown prepared y = Quiet shown y × IsStraight y
StandsIn shown announced y = Quiet shown y × IsStraight y
StandsIn shown changed y = Settled y
StandsIn shown refused y = Settled y
StandsIn shown adrift y = Settled y
StandsIn shown update.finished y = Quiet shown y
StandsIn shown update.astray y = Unit {0}

-- where a PUT stands, whose first event showed this row
abbrev pub Stands : Option Bucket → Path → Account → Type 0
Stands shown begun y = ⊥
Stands shown feeding y = Quiet shown y
Stands shown (updating path) y = StandsIn shown path y
Stands shown finished y = Quiet shown y
Stands shown astray y = Unit {0}

pub quiet_at_end : (shown : Option Bucket) (path : Path) (y : Account) → IsFinished path → Stands shown path y → Quiet shown y
quiet_at_end shown feeding y ends s = s
quiet_at_end shown (updating turned) y ends s = inr s
quiet_at_end shown (updating ready) y ends s = s
quiet_at_end shown (updating adrift) y ends s = inr s
quiet_at_end shown (updating update.finished) y ends s = s
quiet_at_end shown finished y ends s = s
quiet_at_end shown path y ends s = absurd ends

-- ---- an event more

module _ (y : Account) (maps : Maps) (made : Made) (number clock : ℕ) where
  abbrev w : Op → Reply → Account
  w op reply = accounted y maps made op reply number clock

  none_tried : (zone container : ℕ) (name : List ℕ) (new : NewHead) (reply : Reply) → tried_at y maps made zone container name new reply number clock y.decided ≡ None → y.decided ≡ None
  none_tried zone container name new (changed_reply change) is = cc
  none_tried zone container name new (No (Expired deadline late)) is = is
  none_tried zone container name new (No why) is = cc
  none_tried zone container name new reply is = is

  none_before : (op : Op) (reply : Reply) → decided_after y maps made op reply number clock ≡ None → y.decided ≡ None
  none_before (HeadRead zone container name) (head_reply head shown_at) is = cc
  none_before (HeadWrite zone container name guard new when) reply is = none_tried zone container name new reply is
  none_before op reply is = is

  none_late : (x : ExpiredCount) (reply : Reply) → (late_at x reply number).count ≡ 0 → x.count ≡ 0
  none_late x (No (Expired deadline late)) is =
      elim x.straight as (λ b. cond b (x.count + 1) x.count ≡ 0 → x.count ≡ 0) [
        | true ↦ λ more. omega (arith, more)
        | false ↦ λ same. same
      ] is
  none_late x reply is = is

  none_expired : (op : Op) (reply : Reply) → (expired_after y.expired op reply number).count ≡ 0 → (y.expired).count ≡ 0
  none_expired (HeadWrite zone container name guard new when) reply is = none_late y.expired reply is
  none_expired op reply is = is

  -- it stays settled
  settled_next : (op : Op) (reply : Reply) → Settled y → Settled (w op reply)
  unfolding Settled
  settled_next op reply s none few = s (none_before op reply none) (none_expired op reply few)

  -- a read of the row apart, it stays quiet
  quiet_next : (shown : Option Bucket) (op : Op) (reply : Reply) → looked_after y.looked op reply number ≡ y.looked → Quiet shown y → Quiet shown (w op reply)
  quiet_next shown op reply same (inl looks) = inl (λ l is. looks l (sym same ∙ is))
  quiet_next shown op reply same (inr s) = inr (settled_next op reply s)

  -- a change of a head settles it
  head_settles : (zone container : ℕ) (name : List ℕ) (guard : Guard) (new : NewHead) (when : Conditions) (reply : Reply) (after : Changed) (refusal : Option Why) → reply ≡ reply_or (changed_reply after) refusal → IsStraight y
      → Settled (w (HeadWrite zone container name guard new when) reply)
  unfolding Settled
  head_settles zone container name guard new when (changed_reply change) after refusal is straight none few = cc
  head_settles zone container name guard new when (No (Expired deadline late)) after refusal is straight none few =
      let more : cond true ((y.expired).count + 1) (y.expired).count ≡ 0 = subst (λ b. cond b ((y.expired).count + 1) (y.expired).count ≡ 0) straight few in
      omega (arith, more)
  head_settles zone container name guard new when (No why) after refusal is straight none few = cc
  head_settles zone container name guard new when reply after None is straight none few = cc
  head_settles zone container name guard new when reply after (Some why) is straight none few = cc

-- no preparation is refused, and a change of a head is answered by what it changed or by a refusal
pub record IsTold (op : Op) (reply : Reply) : Type 0 where
  pub prepares : (zone : ℕ) (key : Key) (name : List ℕ) → op ≡ Prepare zone key name → (guard : Guard) × (reply ≡ Prepared guard)
  pub changes : (zone container : ℕ) (name : List ℕ) (guard : Guard) (new : NewHead) (when_asked : Conditions) → op ≡ HeadWrite zone container name guard new when_asked
      → (change : Changed) × (refusal : Option Why) × (reply ≡ reply_or (changed_reply change) refusal)

module _ (shown : Option Bucket) (y : Account) (maps : Maps) (made : Made) (number clock : ℕ) where
  abbrev v : Op → Reply → Account
  v op reply = accounted y maps made op reply number clock

  stands_in : (path : update.Path) (op : Op) (reply : Reply) → IsTold op reply → StandsIn shown path y → StandsIn shown (update.path_after path op reply) (v op reply)
  stands_in turned (BucketRead zone name) reply told s = inr (settled_next y maps made number clock (BucketRead zone name) reply s)
  stands_in turned op reply told s = tt
  stands_in ready (Prepare zone key name) (Prepared guard) told s = (quiet_next y maps made number clock shown (Prepare zone key name) (Prepared guard) refl s, refl)
  stands_in ready (Prepare zone key name) reply told s = let p = told.prepares zone key name refl in absurd (cc)
  stands_in ready op reply told s = tt
  stands_in prepared (Announce zone container instance shard bucket) reply told s =
      (quiet_next y maps made number clock shown (Announce zone container instance shard bucket) reply refl s.0, s.1)
  stands_in prepared op reply told s = tt
  stands_in announced (HeadWrite zone container name guard new when) (changed_reply change) told s =
      let c = told.changes zone container name guard new when refl in
      head_settles y maps made number clock zone container name guard new when (changed_reply change) c.0 c.1 c.2 s.1
  stands_in announced (HeadWrite zone container name guard new when) reply told s =
      let c = told.changes zone container name guard new when refl in
      head_settles y maps made number clock zone container name guard new when reply c.0 c.1 c.2 s.1
  stands_in announced op reply told s = tt
  stands_in refused (Cancel zone key name tag) reply told s = settled_next y maps made number clock (Cancel zone key name tag) reply s
  stands_in refused op reply told s = tt
  stands_in changed (Complete zone key name tag version row) (No (Moved instance)) told s =
      settled_next y maps made number clock (Complete zone key name tag version row) (No (Moved instance)) s
  stands_in changed (Complete zone key name tag version row) reply told s =
      inr (settled_next y maps made number clock (Complete zone key name tag version row) reply s)
  stands_in changed op reply told s = tt
  stands_in adrift (BucketRead zone name) reply told s = settled_next y maps made number clock (BucketRead zone name) reply s
  stands_in adrift op reply told s = tt
  stands_in path op reply told s = tt

  pub stands_next : (path : Path) (op : Op) (reply : Reply) → IsTold op reply → Stands shown path y → Stands shown (path_after path op reply) (v op reply)
  stands_next begun op reply told s = absurd s
  stands_next feeding (TailMake zone write part bytes) Done told s = quiet_next y maps made number clock shown (TailMake zone write part bytes) Done refl s
  stands_next feeding (TailMake zone write part bytes) reply told s = quiet_next y maps made number clock shown (TailMake zone write part bytes) reply refl s
  stands_next feeding op reply told s = stands_in ready op reply told s
  stands_next (updating path) op reply told s = stands_in path op reply told s
  stands_next path op reply told s = tt
