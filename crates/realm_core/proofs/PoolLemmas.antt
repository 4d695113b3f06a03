-- The pools of all zones after one operation.
use Rattle.std.proofs.Common.{◌≡◌, ◌≢◌, ℕ, ◌+◌, ◌<◌, ◌≤◌, ◌⊎◌, ◌==◌, ◌&&◌, nat_le, Bool, true, false, cond, List, get_or, set, replicate, length, Result, Ok, Err, refl, sym, ap, ◌∙◌, subst, inl, inr, ⊎_elim, arith}
use Rattle.std.proofs.lemmas.Bool.Decides.{nat_tests}
use Rattle.std.proofs.lemmas.List.{get_or-set_other, get_or-set_same}
use lib.ListN.{get_or-replicate, length-replicate, length-set}
use native.Mathlib.Decide.{ℕ_discrete}
use Rattle.omap_pages.specs.declared.error.OutOfMemory.{OutOfMemory as OutOf}
use Rattle.object_pool.specs.Objects.{PoolView}
use Rattle.object_words.specs.declared.why.Why.TheVariants.{Absent}
use Rattle.realm_model.specs.Ops.{zone_of}
use Rattle.realm_model.specs.Settings.{SettingsView}
use Rattle.realm_model.specs.States.{State, opening, touched}
use Rattle.realm_model.specs.Steps.{reply_of, touch_of}
use Rattle.realm_model.specs.declared.event.Reply.{Reply}
use Rattle.realm_model.specs.declared.event.Reply.TheVariants.{No}
use Rattle.realm_model.specs.declared.op.Op.{Op}
use Rattle.std.proofs.lemmas.Option.{get_or_from_slice_get, slice_get_read}
use Rattle.zone_core.specs.Bounds.{IsReady}
use Rattle.zone_core.specs.Calls.{Performs}
use Rattle.zone_core.specs.Stands.{Stands, new_pool}
use Rattle.zone_core.proofs.Apart.{at_other_clock, other_zone}
use Rattle.zone_core.proofs.Opening.{new_stands}
use Rattle.realm_core.specs.Answers.{AreReady, Changes, is_zone, reply_in}
use Rattle.realm_core.specs.Realms.{HasZones}

pub new_have : (settings : SettingsView) (n : ℕ) → HasZones settings (replicate n (new_pool settings)) (opening settings)
new_have settings n index below =
    let within : index < n = omega (arith, below, length-replicate n (new_pool settings)) in
    subst (λ p. Stands settings (index + 1) p (opening settings)) (sym (get_or-replicate n index (new_pool settings) (new_pool settings) within)) (new_stands settings (index + 1))

-- the clock and the number of the events are no part of the zones
pub have_at : (settings : SettingsView) (pools : List PoolView) (st : State) (count clock : ℕ) → HasZones settings pools st → HasZones settings pools (record st { count = count; clock = clock })
have_at settings pools st count clock have index below = at_other_clock settings (index + 1) (get_or pools index (new_pool settings)) st count clock (have index below)

-- an operation on a zone that no pool has
others_have : (settings : SettingsView) (pools : List PoolView) (st : State) (op : Op) → ((index : ℕ) → index < length pools → zone_of op ≢ index + 1) → HasZones settings pools st → HasZones settings pools (touched settings st (touch_of settings st op))
others_have settings pools st op apart have index below = other_zone settings (index + 1) (get_or pools index (new_pool settings)) st op (apart index below) (have index below)

-- an operation on the zone of one pool
one_has : (settings : SettingsView) (pools : List PoolView) (st : State) (op : Op) (index : ℕ) (p : PoolView) → zone_of op ≡ index + 1 → index < length pools → HasZones settings pools st
    → Stands settings (zone_of op) p (touched settings st (touch_of settings st op)) → HasZones settings (set pools index p) (touched settings st (touch_of settings st op))
one_has settings pools st op index p zone within have here q below =
    let after : State = touched settings st (touch_of settings st op) in
    let below' : q < length pools = omega (arith, below, length-set pools index p) in
    elim (ℕ_discrete q index) [
      | yes same ↦
          subst (λ x. Stands settings (x + 1) (get_or (set pools index p) x (new_pool settings)) after) (sym same)
          (subst (λ x. Stands settings (index + 1) x after) (sym (get_or-set_same pools index p (new_pool settings) within)) (subst (λ z. Stands settings z p after) zone here))
      | no differs ↦
          let apart : zone_of op ≢ q + 1 = λ e. differs (omega (arith, e, zone)) in
          subst (λ x. Stands settings (q + 1) x after) (sym (get_or-set_other pools index q p (new_pool settings) differs))
          (other_zone settings (q + 1) (get_or pools q (new_pool settings)) st op apart (have q below'))
    ]

-- the pool of one zone is ready
pub one_ready : (settings : SettingsView) (pools : List PoolView) (st : State) (index zone : ℕ) (p : PoolView) → zone ≡ index + 1 → index < length pools → p ≡ get_or pools index p → AreReady settings pools st → IsReady settings zone p st
one_ready settings pools st index zone p is within value ready =
    let same : get_or pools index (new_pool settings) ≡ p = get_or_from_slice_get pools index p (new_pool settings) (slice_get_read pools (length pools) index p refl within value) in
    record {
      stands = subst (λ z. Stands settings z p st) (sym is) (subst (λ x. Stands settings (index + 1) x st) same (ready.stands index within));
      small = ready.small zone;
      few = ready.few;
    }

pub changes_there : (settings : SettingsView) (pools : List PoolView) (st : State) (op : Op) (index : ℕ) (p : PoolView) (result : Result Reply OutOf) → zone_of op ≡ index + 1 → index < length pools → length pools ≡ settings.zones
    → HasZones settings pools st → Performs settings (zone_of op) st op result p → Changes settings st op result (set pools index p)
changes_there settings pools st op index p (Ok reply) zone within zones have performs =
    let there : is_zone settings (zone_of op) ≡ true = grind (arith, nat_tests) in
    (performs.0 ∙ sym (ap (λ b. cond b (reply_of settings st op) (No Absent)) there), one_has settings pools st op index p zone within have performs.1)
changes_there settings pools st op index p (Err e) zone within zones have performs = λ q below.
    let below' : q < length pools = omega (arith, below, length-set pools index p) in
    elim (ℕ_discrete q index) [
      | yes same ↦
          subst (λ x. Stands settings (x + 1) (get_or (set pools index p) x (new_pool settings)) st) (sym same)
          (subst (λ x. Stands settings (index + 1) x st) (sym (get_or-set_same pools index p (new_pool settings) within)) (subst (λ z. Stands settings z p st) zone performs))
      | no differs ↦ subst (λ x. Stands settings (q + 1) x st) (sym (get_or-set_other pools index q p (new_pool settings) differs)) (have q below')
    ]

pub changes_nowhere : (settings : SettingsView) (pools : List PoolView) (st : State) (op : Op) → (zone_of op ≡ 0) ⊎ (length pools < zone_of op) → length pools ≡ settings.zones → HasZones settings pools st
    → Changes settings st op (Ok (No Absent)) pools
changes_nowhere settings pools st op nowhere zones have = (
  sym (ap (λ b. cond b (reply_of settings st op) (No Absent)) (not_there nowhere)),
  others_have settings pools st op (apart nowhere) have,
) where
  not_there : (zone_of op ≡ 0) ⊎ (length pools < zone_of op) → is_zone settings (zone_of op) ≡ false
  not_there (inl none) = grind (arith, nat_tests)
  not_there (inr above) = grind (arith, nat_tests)

  apart : (zone_of op ≡ 0) ⊎ (length pools < zone_of op) → (index : ℕ) → index < length pools → zone_of op ≢ index + 1
  apart (inl none) index below = λ e. absurd (omega (arith, none, e))
  apart (inr above) index below = λ e. absurd (omega (arith, above, e, below))
