-- What an event that changes a head teaches its actor, whatever the change: one line for each kind.
use Rattle.std.proofs.Common.{◌≡◌, ℕ, ◌+◌, true, false, cond, List, Option, Some, None, refl, ap}
use Rattle.rgw_types.specs.declared.stamp.Stamp.{Stamp}
use Rattle.rgw_types.specs.Stripes.{ManifestView}
use Rattle.rgw_model.specs.declared.slot.Slot.{Slot}
use Rattle.object_words.specs.declared.entry.Guard.{Guard}
use Rattle.object_words.specs.declared.head.Changed.{Changed as ChangedOf}
use Rattle.object_words.specs.declared.head.SeenSlot.{SeenSlot}
use Rattle.object_words.specs.declared.head.SeenSlot.TheVariants.{Live}
use Rattle.object_words.specs.declared.why.Why.{Why}
use Rattle.object_words.specs.declared.why.Why.TheVariants.{Expired, NotMet, NoSpace}
use Rattle.object_words.proofs.KeyLemmas.{number_itself}
use Rattle.realm_model.specs.Settings.{SettingsView}
use Rattle.realm_model.specs.Accounts.{decided_at}
use Rattle.realm_model.specs.Allowed.{meets_need}
use Rattle.realm_model.specs.Learnt.{changed, put_bundle, with_old}
use Rattle.realm_model.specs.Maps.{Maps, slot_at, whole_slot}
use Rattle.realm_model.specs.Needs.{may_change_head, has_parts, holder_of}
use Rattle.realm_model.specs.Ops.{zone_of}
use Rattle.realm_model.specs.Phases.{Phase}
use Rattle.realm_model.specs.declared.event.Reply.{Reply}
use Rattle.realm_model.specs.declared.event.Reply.TheVariants.{No, Changed}
use Rattle.index_update.specs.Changes.{head_op, change_back, has_needs, HeadAnswer, IsOfUpdate}
use Rattle.index_update.specs.declared.stage.Target.{Target}
use Rattle.index_update.specs.Fits.{Known, known_next, IsAnswer, IsReplaced}
use Rattle.index_update.specs.declared.head_change.HeadChange.{HeadChange}
use Rattle.index_update.specs.declared.head_change.HeadChange.TheVariants.{Write}

-- ---- the operation

pub head_zone : (zone container : ℕ) (name : List ℕ) (guard : Guard) (change : HeadChange) → zone_of (head_op zone container name guard change) ≡ zone
head_zone zone container name guard (Write new when) = refl

pub head_meets : (settings : SettingsView) (p : Phase) (zone container : ℕ) (name : List ℕ) (guard : Guard) (change : HeadChange)
    → may_change_head p zone container name guard ≡ true → has_needs p zone change ≡ true → meets_need settings p (head_op zone container name guard change) ≡ true
head_meets settings p zone container name guard (Write new when) free needs = rw (free, needs) refl

-- it is one of an update with that change
pub head_own : (t : Target) (asked change : HeadChange) (container : ℕ) (guard : Guard) → change ≡ asked → IsOfUpdate t asked (head_op t.zone container t.name guard change)
head_own t asked (Write new when) container guard same = ap (λ c. head_op t.zone container t.name guard c) same

-- the needs read the own tails alone
pub needs_by : (zone : ℕ) (p q : Phase) (change : HeadChange) → p.stripes.own ≡ q.stripes.own → has_needs p zone change ≡ has_needs q zone change
needs_by zone p q (Write new when) same = ap (λ own. has_parts (record p { stripes = record p.stripes { own = own } }) zone new) same

-- a refused change comes back
pub comes_back : (zone container : ℕ) (name : List ℕ) (guard : Guard) (change : HeadChange) → change_back (Some (head_op zone container name guard change)) ≡ Some change
comes_back zone container name guard (Write new when) = refl

-- ---- what it teaches

bundle_here : {A : Type 0} (f : ℕ → ℕ → ℕ → A) (z w h : ℕ) (x : A) → put_bundle f z w h x z w h ≡ x
bundle_here f z w h x = rw (number_itself z, number_itself w, number_itself h) refl

old_is : (olds : ℕ → ℕ → ℕ → Option ManifestView) (zone : ℕ) (old : Option ManifestView) → IsReplaced zone old (with_old olds zone old)
old_is olds zone None = tt
old_is olds zone (Some old) = bundle_here olds zone old.write (holder_of old) (Some old)

module _ (k : Known) (maps : Maps) (zone container : ℕ) (name : List ℕ) (guard : Guard) (number clock : ℕ) where
  abbrev after : HeadChange → Reply → Known
  after change reply = known_next k maps (head_op zone container name guard change) reply number clock

  -- ---- whatever is answered

  pub same_looked : (change : HeadChange) (reply : Reply) → (after change reply).account.looked ≡ k.account.looked
  same_looked (Write new when) reply = refl

  pub same_moved : (change : HeadChange) (reply : Reply) → (after change reply).account.moved ≡ k.account.moved
  same_moved (Write new when) reply = refl

  pub same_rows : (change : HeadChange) (reply : Reply) → (after change reply).phase.rows ≡ k.phase.rows
  same_rows (Write new when) reply = refl

  pub same_made : (change : HeadChange) (reply : Reply) → (after change reply).made ≡ k.made
  same_made (Write new when) reply = refl

  -- ---- a refusal

  pub no_change : (change : HeadChange) (why : Why) → (after change (No why)).account.changes ≡ k.account.changes
  no_change (Write new when) why = refl

  pub same_tag : (change : HeadChange) (why : Why) → (after change (No why)).phase.tag ≡ k.phase.tag
  same_tag (Write new when) why = refl

  pub same_own : (change : HeadChange) (why : Why) → (after change (No why)).phase.stripes.own ≡ k.phase.stripes.own
  same_own (Write new when) why = refl

  pub late_undecided : (change : HeadChange) (deadline late : ℕ) → (after change (No (Expired deadline late))).account.decided ≡ k.account.decided
  late_undecided (Write new when) deadline late = refl

  pub late_counted : (change : HeadChange) (deadline late : ℕ) → k.account.expired.straight ≡ true → (after change (No (Expired deadline late))).account.expired.count ≡ k.account.expired.count + 1
  late_counted (Write new when) deadline late straight = ap (λ b. cond b (k.account.expired.count + 1) k.account.expired.count) straight

  pub space_wanted : (change : HeadChange) (free needed : ℕ) → (after change (No (NoSpace free needed))).account.wanted ≡ Some (record { number = number; free = free; needed = needed })
  space_wanted (Write new when) free needed = refl

  -- ---- the change

  pub one_change : (change : HeadChange) (made : ChangedOf) → (after change (Changed made)).account.changes ≡ k.account.changes + 1
  one_change (Write new when) made = refl

  pub tag_changed : (change : HeadChange) (made : ChangedOf) → (after change (Changed made)).phase.tag ≡ changed k.phase.tag (record { version = made.version; row = made.row })
  tag_changed (Write new when) made = refl

  pub old_kept : (change : HeadChange) (made : ChangedOf) → IsReplaced zone made.old (after change (Changed made)).phase.stripes.olds
  old_kept (Write new when) made = old_is k.phase.stripes.olds zone made.old

  -- ---- what decides

  abbrev seen : SeenSlot
  seen = slot_at (maps zone container) name

  -- the deciding event, and the slot after it
  pub record Decides (change : HeadChange) (reply : Reply) (stamp : Option Stamp) : Type 0 where
    pub left : Slot
    pub decided : (after change reply).account.decided ≡ Some (decided_at k.account number clock zone container name (whole_slot k.made zone seen) left)
    pub answers : HeadAnswer change k.made zone clock seen stamp left

  not_so : ◌≡◌ false true → ⊥
  not_so is = cc

  pub change_decides : (change : HeadChange) (made : ChangedOf) → IsAnswer maps clock (head_op zone container name guard change) (Changed made) → Decides change (Changed made) (Some made.stamp)
  change_decides (Write new when) made is = record { left = whole_slot k.made zone (Live new made.stamp); decided = refl; answers = (is.0, is.1, refl) }

  pub refusal_decides : (change : HeadChange) (stamp : Option Stamp) → IsAnswer maps clock (head_op zone container name guard change) (No (NotMet stamp)) → Decides change (No (NotMet stamp)) None
  refusal_decides (Write new when) stamp is = record { left = whole_slot k.made zone seen; decided = refl; answers = (is, refl) }
