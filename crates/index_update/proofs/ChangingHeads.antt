-- The stage in which the head is changed, whatever the change.
use Rattle.std.proofs.Common.{◌≡◌, ℕ, ◌+◌, ◌<◌, ◌≤◌, inl, nat_lt, true, false, cond, Option, Some, None, refl, sym, ◌∙◌, ap, subst, arith}
use Rattle.std.proofs.lemmas.Bool.Decides.{nat_tests}
use Rattle.rgw_types.specs.declared.pool_key.Key.{Key}
use Rattle.rgw_types.specs.declared.stamp.Stamp.{Stamp}
use Rattle.object_words.specs.declared.entry.Guard.{Guard}
use Rattle.object_words.specs.declared.head.Changed.{Changed as ChangedOf}
use Rattle.object_words.specs.declared.why.Why.{Why}
use Rattle.object_words.specs.declared.why.Why.TheVariants.{Expired, NotMet, NoSpace}
use Rattle.object_words.specs.Keys.{container_of}
use Rattle.realm_model.specs.Accounts.{decided_at}
use Rattle.realm_model.specs.Maps.{Maps, slot_at, whole_slot}
use Rattle.realm_model.specs.Learnt.{changed}
use Rattle.realm_model.specs.Phases.{OwnChange, pending}
use Rattle.realm_model.specs.Suits.{Suits}
use Rattle.realm_model.specs.declared.op.Op.{Op}
use Rattle.realm_model.specs.declared.event.Reply.{Reply}
use Rattle.realm_model.specs.declared.event.Reply.TheVariants.{No, Changed}
use Rattle.task_words.specs.Outcomes.{most_expired, left_count}
use Rattle.index_update.specs.Changes.{head_op, change_back, HeadAnswer}
use Rattle.index_update.specs.Stages.{one_more, by_lateness}
use Rattle.index_update.specs.Fits.{Asked, Known, known_next, Trying, ByHead, Since, Granted, IsAfter, FitsAt, IsKept}
use Rattle.index_update.specs.declared.head_change.HeadChange.{HeadChange}
use Rattle.index_update.specs.declared.head_change.HeadChange.TheVariants as changes
use Rattle.index_update.specs.declared.stage.Tried.{Tried}
use Rattle.index_update.specs.declared.stage.Updated.TheVariants as ends
use Rattle.index_update.specs.declared.stage.After.TheVariants.{Again, End}
use Rattle.index_update.specs.declared.stage.Stage.TheVariants.{Writing}
use Rattle.index_update.proofs.Counting.{left_same}
use Rattle.index_update.proofs.Carrying.{still_granted, row_on, since_on, carries_on}
use Rattle.index_update.proofs.Effects.{comes_back, same_looked, same_moved, same_rows, same_made, no_change, same_tag, same_own, late_undecided, late_counted, space_wanted, one_change, tag_changed, old_kept, Decides, change_decides, refusal_decides}

-- one more, where it is not too many
one_late : (n : ℕ) → n < most_expired → one_more n ≡ n + 1
one_late n few = omega (arith, few)

-- what a change may be answered
data Answer : Reply → Type 0 where
  made_it : (made : ChangedOf) → Answer (Changed made)
  too_late : (deadline clock : ℕ) → Answer (No (Expired deadline clock))
  not_met : (stamp : Option Stamp) → Answer (No (NotMet stamp))
  no_space : (free needed : ℕ) → Answer (No (NoSpace free needed))

by_suits : (zone container : ℕ) (name : _) (guard : Guard) (change : HeadChange) (reply : Reply) → Suits (head_op zone container name guard change) reply → Answer reply
by_suits zone container name guard (changes.Write new when) (Changed made) suits = made_it made
by_suits zone container name guard (changes.Write new when) (No (Expired deadline clock)) suits = too_late deadline clock
by_suits zone container name guard (changes.Write new when) (No (NotMet stamp)) suits = not_met stamp
by_suits zone container name guard (changes.Write new when) (No (NoSpace free needed)) suits = no_space free needed
by_suits zone container name guard (changes.Write new when) reply suits = absurd suits

module _ (r : Asked) (x : Tried) (key : Key) (guard : Guard) (change : HeadChange) (k : Known) (fits : FitsAt r x (Writing key guard change) k) where
  abbrev writes : Op
  writes = head_op r.target.zone (container_of key) r.target.name guard change

  module _ (maps : Maps) (number clock : ℕ) (before : k.last < number) where
    abbrev next : Reply → Known
    next reply = known_next k maps writes reply number clock

    looked_on : (reply : Reply) → (next reply).account.looked ≡ k.account.looked
    looked_on reply = same_looked k maps r.target.zone (container_of key) r.target.name guard number clock change reply

    moved_on : (reply : Reply) → (next reply).account.moved ≡ k.account.moved
    moved_on reply = same_moved k maps r.target.zone (container_of key) r.target.name guard number clock change reply

    rows_on : (reply : Reply) → (next reply).phase.rows ≡ k.phase.rows
    rows_on reply = same_rows k maps r.target.zone (container_of key) r.target.name guard number clock change reply

    made_on : (reply : Reply) → (next reply).made ≡ k.made
    made_on reply = same_made k maps r.target.zone (container_of key) r.target.name guard number clock change reply

    changes_on : (why : Why) → (next (No why)).account.changes ≡ k.account.changes
    changes_on why = no_change k maps r.target.zone (container_of key) r.target.name guard number clock change why

    tag_on : (why : Why) → (next (No why)).phase.tag ≡ k.phase.tag
    tag_on why = same_tag k maps r.target.zone (container_of key) r.target.name guard number clock change why

    own_on : (why : Why) → (next (No why)).phase.stripes.own ≡ k.phase.stripes.own
    own_on why = same_own k maps r.target.zone (container_of key) r.target.name guard number clock change why

    since_no : (why : Why) → Since r (next (No why))
    since_no why = since_on k maps writes (No why) number clock before r (fits.2).since (own_on why) (made_on (No why))

    granted_no : (why : Why) → Granted r (next (No why)).account
    granted_no why = still_granted r key k (next (No why)).account fits.1 (looked_on (No why)) (changes_on why ∙ (fits.0).unchanged)

    -- the change is that of the bucket map
    by_head : (reply : Reply) (stamp : Option Stamp) → Decides k maps r.target.zone (container_of key) r.target.name guard number clock change reply stamp → ByHead r stamp (next reply).account.decided
    by_head reply stamp d = record {
      event = decided_at k.account number clock r.target.zone (container_of key) r.target.name (whole_slot k.made r.target.zone (slot_at (maps r.target.zone (container_of key)) r.target.name)) d.left;
      is_last = d.decided;
      in_zone = refl;
      of_name = refl;
      look = record { zone = r.target.zone; name = r.target.container; row = Some (fits.1).row; number = (fits.1).number };
      looked = (fits.1).looked;
      look_in_zone = refl;
      look_of_name = refl;
      row = (fits.1).row;
      showed = refl;
      granted = (fits.1).granted;
      in_container = ap container_of (fits.1).names;
      made = k.made;
      stands = (fits.2).since.made;
      seen = slot_at (maps r.target.zone (container_of key)) r.target.name;
      before = refl;
      answers = subst (λ c. HeadAnswer c k.made r.target.zone clock (slot_at (maps r.target.zone (container_of key)) r.target.name) stamp d.left) (fits.2).same d.answers;
    }

  head_changed : (made : ChangedOf) → IsKept r x (Writing key guard change) k (Changed made)
  head_changed made maps number clock before suits answers =
      let own : OwnChange = record { version = made.version; row = made.row } in (
        pending,
        record {
          by_head = by_head maps number clock before (Changed made) (Some made.stamp) (change_decides k maps r.target.zone (container_of key) r.target.name guard number clock change made answers);
          once = one_change k maps r.target.zone (container_of key) r.target.name guard number clock change made ∙ ap (λ n. n + 1) (fits.0).unchanged;
          replaced = old_kept k maps r.target.zone (container_of key) r.target.name guard number clock change made;
          left = left_same k.events (record { op = writes; reply = Changed made; number = number; clock = clock }) (left_count r.start.events + x.moved) (fits.0).left refl;
          few = (fits.0).few;
          guard = guard;
          numbered = refl;
          tag = tag_changed k maps r.target.zone (container_of key) r.target.name guard number clock change made ∙ ap (λ t. changed t own) fits.3;
          waits = refl;
          tried_by = tt;
        },
        inl refl,
      )

  not_met_kept : (stamp : Option Stamp) → IsKept r x (Writing key guard change) k (No (NotMet stamp))
  not_met_kept stamp maps number clock before suits answers = (
    record { guard = guard; numbered = refl; tag = tag_on maps number clock before (NotMet stamp) ∙ fits.3 },
    (
      tt,
      (
        by_head maps number clock before (No (NotMet stamp)) None (refusal_decides k maps r.target.zone (container_of key) r.target.name guard number clock change stamp answers),
        changes_on maps number clock before (NotMet stamp) ∙ (fits.0).unchanged,
        since_no maps number clock before (NotMet stamp),
      ),
    ),
  )

  no_space_kept : (free needed : ℕ) → IsKept r x (Writing key guard change) k (No (NoSpace free needed))
  no_space_kept free needed maps number clock before suits answers = (
    record { guard = guard; numbered = refl; tag = tag_on maps number clock before (NoSpace free needed) ∙ fits.3 },
    (
      tt,
      (
        granted_no maps number clock before (NoSpace free needed),
        record {
          want = record { number = number; free = free; needed = needed };
          is_last = space_wanted k maps r.target.zone (container_of key) r.target.name guard number clock change free needed;
          found = refl;
          wanted = refl;
        },
        since_no maps number clock before (NoSpace free needed),
      ),
    ),
  )

  module _ (deadline late : ℕ) (maps : Maps) (number clock : ℕ) (before : k.last < number) where
    abbrev after : Known
    after = known_next k maps writes (No (Expired deadline late)) number clock

    abbrev y : Tried
    y = record { moved = x.moved; expired = one_more x.expired }

    more : one_more x.expired ≡ x.expired + 1
    more = one_late x.expired (fits.0).few_expired

    counted : after.account.expired.count ≡ r.start.account.expired.count + one_more x.expired
    counted =
        let straight : after.account.expired.count ≡ k.account.expired.count + 1 = late_counted k maps r.target.zone (container_of key) r.target.name guard number clock change deadline late fits.4 in
        let was = (fits.0).expired in
        let one = more in
        omega (arith, straight, was, one)

    tried_later : one_more x.expired < most_expired → Trying r y after
    tried_later few =
        let moved = moved_on maps number clock before (No (Expired deadline late)) in
        record {
          moved = ap (λ m. m.count) moved ∙ (fits.0).moved;
          left = left_same k.events (record { op = writes; reply = No (Expired deadline late); number = number; clock = clock }) (left_count r.start.events + x.moved) (fits.0).left refl;
          few = (fits.0).few;
          moved_before = (let last = ap (λ m. m.last) moved in let low = (fits.0).moved_before in omega (arith, last, low, before));
          expired = counted;
          few_expired = few;
          undecided = late_undecided k maps r.target.zone (container_of key) r.target.name guard number clock change deadline late ∙ (fits.0).undecided;
          unchanged = changes_on maps number clock before (Expired deadline late) ∙ (fits.0).unchanged;
        }

    after_late_kept : IsAfter r y key (cond (nat_lt (one_more x.expired) most_expired) (Again change) (End ends.LateTag)) after
    after_late_kept =
        elim (nat_lt (one_more x.expired) most_expired) as (λ b. nat_lt (one_more x.expired) most_expired ≡ b → IsAfter r y key (cond b (Again change) (End ends.LateTag)) after) [
          | true ↦ λ less.
              let few : one_more x.expired < most_expired = grind (arith, nat_tests, less) in (
                tried_later few,
                row_on k maps writes (No (Expired deadline late)) number clock before r key fits.1 (looked_on maps number clock before (No (Expired deadline late))) (rows_on maps number clock before (No (Expired deadline late))) (moved_on maps number clock before (No (Expired deadline late))),
                carries_on k maps writes (No (Expired deadline late)) number clock before r change fits.2 (own_on maps number clock before (Expired deadline late)) (made_on maps number clock before (No (Expired deadline late))),
              )
          | false ↦ λ all.
              let often : most_expired ≤ one_more x.expired = grind (arith, nat_tests, all) in
              let few = (fits.0).few_expired in
              let one = more in
              let is = counted in
              let many : after.account.expired.count ≡ r.start.account.expired.count + most_expired = omega (arith, often, few, one, is) in
              (tt, (granted_no maps number clock before (Expired deadline late), many, since_no maps number clock before (Expired deadline late)))
        ] refl

    back_kept : IsAfter r y key (by_lateness y (change_back (Some writes))) after
    back_kept = subst (λ o. IsAfter r y key (by_lateness y o) after) (sym (comes_back r.target.zone (container_of key) r.target.name guard change)) after_late_kept

  late_kept : (deadline late : ℕ) → IsKept r x (Writing key guard change) k (No (Expired deadline late))
  late_kept deadline late maps number clock before suits answers = (
    record { guard = guard; numbered = refl; tag = tag_on maps number clock before (Expired deadline late) ∙ fits.3 },
    back_kept deadline late maps number clock before,
  )

  by_answer : {reply : Reply} → Answer reply → IsKept r x (Writing key guard change) k reply
  by_answer (made_it made) = head_changed made
  by_answer (too_late deadline clock) = late_kept deadline clock
  by_answer (not_met stamp) = not_met_kept stamp
  by_answer (no_space free needed) = no_space_kept free needed

  pub write_kept : (reply : Reply) → IsKept r x (Writing key guard change) k reply
  write_kept reply = λ maps number clock before suits answers.
      by_answer (by_suits r.target.zone (container_of key) r.target.name guard change reply suits) maps number clock before suits answers
