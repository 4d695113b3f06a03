-- The answers of a realm to operations of its first zone.
use Rattle.std.proofs.Common.{◌≡◌, ℕ, ◌≤◌, nat_le, true, cond, List, refl, sym, subst, arith}
use Rattle.std.proofs.lemmas.Bool.Decides.{nat_tests}
use Rattle.object_words.specs.declared.why.Why.TheVariants.{Absent}
use Rattle.realm_core.specs.Answers.{is_zone, reply_after}
use Rattle.realm_model.specs.Histories.{state_of}
use Rattle.realm_model.specs.Needs.{is_between}
use Rattle.realm_model.specs.Ops.{zone_of}
use Rattle.realm_model.specs.Settings.{SettingsView}
use Rattle.realm_model.specs.States.{at_moment}
use Rattle.realm_model.specs.Steps.{reply_of}
use Rattle.realm_model.specs.Suits.{Suits}
use Rattle.realm_model.specs.declared.event.Event.{Event}
use Rattle.realm_model.specs.declared.event.Reply.TheVariants.{No}
use Rattle.realm_model.specs.declared.op.Op.{Op}
use Rattle.realm_model.proofs.SuitsLemmas.{reply_suits}

between : (low high n : ℕ) → low ≤ n → n ≤ high → is_between low high n ≡ true
between low high n above below =
    let a : nat_le low n ≡ true = grind (arith, nat_tests, above) in
    let b : nat_le n high ≡ true = grind (arith, nat_tests, below) in
    rw (a, b) refl

pub zone_suits : (settings : SettingsView) (history : List Event) (op : Op) (moment : ℕ) → 1 ≤ settings.zones → zone_of op ≡ 1 → Suits op (reply_after settings history op moment)
zone_suits settings history op moment zones is =
    let st = at_moment (state_of settings history) moment in
    let there : is_zone settings (zone_of op) ≡ true = between 1 settings.zones (zone_of op) (omega (arith, is)) (omega (arith, is, zones)) in
    subst (λ b. Suits op (cond b (reply_of settings st op) (No Absent))) (sym there) (reply_suits settings st op)
