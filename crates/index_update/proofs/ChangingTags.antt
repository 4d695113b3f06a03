-- The stages of a tag: it is prepared, its shard is announced, and it is cancelled.
use Rattle.std.proofs.Common.{◌≡◌, ℕ, ◌+◌, ◌<◌, ◌==◌, ◌&&◌, true, false, cond, Some, refl, ◌∙◌, ap, arith}
use Rattle.rgw_types.specs.declared.pool_key.Key.{Key}
use Rattle.object_words.specs.declared.entry.Guard.{Guard}
use Rattle.object_words.specs.declared.why.Why.TheVariants.{Held, Moved, Closed, NoTag}
use Rattle.object_words.specs.Keys.{container_of, instance_of, number_of, shard_key, is_key}
use Rattle.object_words.proofs.KeyLemmas.{key_itself, number_itself}
use Rattle.realm_model.specs.Accounts.{is_left}
use Rattle.realm_model.specs.Learnt.{announced}
use Rattle.realm_model.specs.Maps.{Maps}
use Rattle.realm_model.specs.declared.op.Op.{Op}
use Rattle.realm_model.specs.declared.event.Reply.{Reply}
use Rattle.realm_model.specs.declared.event.Reply.TheVariants.{Done, No, Prepared, Position}
use Rattle.index_update.specs.declared.stage.Updated.{Updated}
use Rattle.index_update.specs.declared.stage.Updated.TheVariants as ends
use Rattle.index_update.specs.Stages.{shard_for, op_of, one_more, look_again}
use Rattle.index_update.specs.Fits.{Asked, Known, known_next, IsTagFree, tag_for, Since, Granted, EndsSo, IsCancelled, FitsAt, IsKept}
use Rattle.index_update.specs.declared.head_change.HeadChange.{HeadChange}
use Rattle.index_update.specs.declared.stage.Tried.{Tried}
use Rattle.index_update.specs.declared.stage.After.{After}
use Rattle.index_update.specs.declared.stage.After.TheVariants.{Again, End}
use Rattle.index_update.specs.declared.stage.Stage.TheVariants.{Preparing, Announcing, Cancelling}
use Rattle.index_update.proofs.Carrying.{both, one_more_is, was_named, still_granted, tag_over, trying_on, trying_left, row_on, since_on, carries_on, looked_again}

-- ---- a tag is prepared

module _ (r : Asked) (x : Tried) (key : Key) (change : HeadChange) (k : Known) (fits : FitsAt r x (Preparing key change) k) where
  abbrev prepares : Op
  prepares = op_of r.target (Preparing key change)

  tag_given : (guard : Guard) → IsKept r x (Preparing key change) k (Prepared guard)
  tag_given guard maps number clock before suits answers = (
    trying_on k maps prepares (Prepared guard) number clock before r x fits.0 refl refl refl refl refl,
    row_on k maps prepares (Prepared guard) number clock before r key fits.1 refl refl refl,
    carries_on k maps prepares (Prepared guard) number clock before r change fits.2 refl refl,
    refl,
    refl,
  )

  tag_held : (id : ℕ) → IsKept r x (Preparing key change) k (No (Held id))
  tag_held id maps number clock before suits answers = (
    still_granted r key k (known_next k maps prepares (No (Held id)) number clock).account fits.1 refl (fits.0).unchanged,
    record { hold = record { number = number; id = id }; is_last = refl; is_named = refl },
    since_on k maps prepares (No (Held id)) number clock before r (fits.2).since refl refl,
  )

  -- the shard no longer serves
  tag_elsewhere : (reply : Reply) (maps : Maps) (number clock : ℕ) → k.last < number → is_left reply ≡ true
      → (known_next k maps prepares reply number clock).account.moved ≡ record { count = k.account.moved.count + 1; last = number }
      → IsTagFree (known_next k maps prepares reply number clock).phase.tag
      → FitsAt r (record { moved = one_more x.moved; expired = x.expired }) (look_again (record { moved = one_more x.moved; expired = x.expired }) change) (known_next k maps prepares reply number clock)
  tag_elsewhere reply maps number clock before leaves moved free =
      let y : Tried = record { moved = one_more x.moved; expired = x.expired } in
      let after : Known = known_next k maps prepares reply number clock in
      let few = (fits.0).few in
      let was = (fits.0).moved in
      let more : one_more x.moved ≡ x.moved + 1 = one_more_is x.moved few in
      let count : after.account.moved.count ≡ k.account.moved.count + 1 = ap (λ m. m.count) moved in
      let last : after.account.moved.last ≡ number = ap (λ m. m.last) moved in
      looked_again r y change after
      (carries_on k maps prepares reply number clock before r change fits.2 refl refl)
      free
      (still_granted r key k after.account fits.1 refl (fits.0).unchanged)
      (omega (arith, count, was, more))
      (omega (arith, more, few))
      (trying_left k maps prepares reply number clock before r x y fits.0 leaves more refl count last refl refl refl)

  pub prepare_kept : (reply : Reply) → IsKept r x (Preparing key change) k reply
  prepare_kept (Prepared guard) = tag_given guard
  prepare_kept (No (Held id)) = tag_held id
  prepare_kept (No (Moved instance)) = λ maps number clock before suits answers.
      let named = was_named r key k fits.1 in
      tag_elsewhere (No (Moved instance)) maps number clock before refl (ap (λ b. record { count = cond b (k.account.moved.count + 1) k.account.moved.count; last = number }) named) (tag_over k.phase.tag)
  prepare_kept (No Closed) = λ maps number clock before suits answers.
      let named = was_named r key k fits.1 in
      tag_elsewhere (No Closed) maps number clock before refl (ap (λ b. record { count = cond b (k.account.moved.count + 1) k.account.moved.count; last = number }) named) (tag_over k.phase.tag)
  prepare_kept reply = λ maps number clock before suits answers. absurd suits

-- ---- its shard is announced

module _ (r : Asked) (x : Tried) (key : Key) (guard : Guard) (change : HeadChange) (k : Known) (fits : FitsAt r x (Announcing key guard change) k) where
  abbrev announces : Op
  announces = op_of r.target (Announcing key guard change)

  shard_itself : (r.target.zone == r.target.zone && is_key key (shard_key (container_of key) (instance_of key) (number_of key))) ≡ true
  shard_itself =
      let row = (fits.1).row in
      let same : is_key key (shard_key (container_of key) (instance_of key) (number_of key)) ≡ true =
      ap (λ q. is_key q (shard_key (container_of q) (instance_of q) (number_of q))) (fits.1).names ∙ key_itself (shard_for row r.target.name) in
      both (r.target.zone == r.target.zone) (is_key key (shard_key (container_of key) (instance_of key) (number_of key))) (number_itself r.target.zone) same

  shard_told : (position : ℕ) → IsKept r x (Announcing key guard change) k (Position position)
  shard_told position maps number clock before suits answers = (
    trying_on k maps announces (Position position) number clock before r x fits.0 refl refl refl refl refl,
    row_on k maps announces (Position position) number clock before r key fits.1 refl refl refl,
    carries_on k maps announces (Position position) number clock before r change fits.2 refl refl,
    ap (λ t. announced t r.target.zone (shard_key (container_of key) (instance_of key) (number_of key))) fits.3 ∙ ap (λ b. Some (tag_for r key guard b)) shard_itself,
    fits.4,
  )

  pub announce_kept : (reply : Reply) → IsKept r x (Announcing key guard change) k reply
  announce_kept (Position position) = shard_told position
  announce_kept reply = λ maps number clock before suits answers. absurd suits

-- ---- it is cancelled

module _ (r : Asked) (x : Tried) (key : Key) (tag : ℕ) (change : HeadChange) (k : Known) (fits : FitsAt r x (Cancelling key tag (Again change)) k) where
  abbrev cancels : Op
  cancels = op_of r.target (Cancelling key tag (Again change))

  -- it is tried again
  tried_again : (reply : Reply) (maps : Maps) (number clock : ℕ) → k.last < number → is_left reply ≡ false
      → (known_next k maps cancels reply number clock).account.moved ≡ k.account.moved
      → FitsAt r x (look_again x change) (known_next k maps cancels reply number clock)
  tried_again reply maps number clock before stays moved =
      let after : Known = known_next k maps cancels reply number clock in
      let trying = fits.1.0 in
      let few = trying.few in
      let was = trying.moved in
      let count : after.account.moved.count ≡ k.account.moved.count = ap (λ m. m.count) moved in
      looked_again r x change after
      (carries_on k maps cancels reply number clock before r change fits.1.2 refl refl)
      (tag_over k.phase.tag)
      (still_granted r key k after.account fits.1.1 refl trying.unchanged)
      (omega (arith, count, was))
      (omega (arith, few))
      (λ few. trying_on k maps cancels reply number clock before r x trying stays moved refl refl refl)

  -- the shard no longer serves
  cancelled_elsewhere : (reply : Reply) (maps : Maps) (number clock : ℕ) → k.last < number → is_left reply ≡ true
      → (known_next k maps cancels reply number clock).account.moved ≡ record { count = k.account.moved.count + 1; last = number }
      → FitsAt r (record { moved = one_more x.moved; expired = x.expired }) (look_again (record { moved = one_more x.moved; expired = x.expired }) change) (known_next k maps cancels reply number clock)
  cancelled_elsewhere reply maps number clock before leaves moved =
      let y : Tried = record { moved = one_more x.moved; expired = x.expired } in
      let after : Known = known_next k maps cancels reply number clock in
      let trying = fits.1.0 in
      let few = trying.few in
      let was = trying.moved in
      let more : one_more x.moved ≡ x.moved + 1 = one_more_is x.moved few in
      let count : after.account.moved.count ≡ k.account.moved.count + 1 = ap (λ m. m.count) moved in
      let last : after.account.moved.last ≡ number = ap (λ m. m.last) moved in
      looked_again r y change after
      (carries_on k maps cancels reply number clock before r change fits.1.2 refl refl)
      (tag_over k.phase.tag)
      (still_granted r key k after.account fits.1.1 refl trying.unchanged)
      (omega (arith, count, was, more))
      (omega (arith, more, few))
      (trying_left k maps cancels reply number clock before r x y trying leaves more refl count last refl refl refl)

  again_kept : (reply : Reply) → IsKept r x (Cancelling key tag (Again change)) k reply
  again_kept Done = λ maps number clock before suits answers. tried_again Done maps number clock before refl refl
  again_kept (No NoTag) = λ maps number clock before suits answers. tried_again (No NoTag) maps number clock before refl refl
  again_kept (No (Held id)) = λ maps number clock before suits answers. tried_again (No (Held id)) maps number clock before refl refl
  again_kept (No (Moved instance)) = λ maps number clock before suits answers.
      let named = was_named r key k fits.1.1 in
      cancelled_elsewhere (No (Moved instance)) maps number clock before refl (ap (λ b. record { count = cond b (k.account.moved.count + 1) k.account.moved.count; last = number }) named)
  again_kept (No Closed) = λ maps number clock before suits answers.
      let named = was_named r key k fits.1.1 in
      cancelled_elsewhere (No Closed) maps number clock before refl (ap (λ b. record { count = cond b (k.account.moved.count + 1) k.account.moved.count; last = number }) named)
  again_kept reply = λ maps number clock before suits answers. absurd suits

module _ (r : Asked) (x : Tried) (key : Key) (tag : ℕ) (k : Known) (reply : Reply) (maps : Maps) (number clock : ℕ) (before : k.last < number) where
  abbrev ends_with : Op
  ends_with = op_of r.target (Cancelling key tag (End ends.LateTag))

  -- the row that granted the change is the last one still
  granted_on : Granted r k.account → Granted r (known_next k maps ends_with reply number clock).account
  granted_on was = record { by_row = was.by_row; unchanged = was.unchanged }

  since_then : Since r k → Since r (known_next k maps ends_with reply number clock)
  since_then s = since_on k maps ends_with reply number clock before r s refl refl

  -- an end stays what it was
  end_on : (end : Updated) → IsCancelled end → EndsSo r end k → EndsSo r end (known_next k maps ends_with reply number clock)
  end_on ends.NotMet is e = (e.0, e.1, since_then e.2)
  end_on ends.LateTag is e = (granted_on e.0, e.1, since_then e.2)
  end_on (ends.NoSpace free needed) is e = (granted_on e.0, e.1, since_then e.2)
  end_on end is e = absurd is

pub cancel_kept : (r : Asked) (x : Tried) (key : Key) (tag : ℕ) (k : Known) (after : After) (reply : Reply) → FitsAt r x (Cancelling key tag after) k → IsKept r x (Cancelling key tag after) k reply
cancel_kept r x key tag k (Again change) reply fits = again_kept r x key tag change k fits reply
cancel_kept r x key tag k (End end) reply fits = λ maps number clock before suits answers. end_on r x key tag k reply maps number clock before end fits.1.0 fits.1.1
