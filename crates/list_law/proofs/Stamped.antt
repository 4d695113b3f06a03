-- What heads show may stand in an index.
use Rattle.std.proofs.Common.{◌≡◌, ℕ, ◌≤◌, nat_le, true, List, Some, refl, sym, ◌∙◌, ap, subst, arith}
use Rattle.std.specs.List.{Contains}
use Rattle.std.proofs.lemmas.Bool.Decides.{nat_tests}
use Rattle.rgw_types.specs.declared.stamp.Stamp.{Stamp}
use Rattle.object_words.specs.declared.head.HeadSeen.{HeadSeen}
use Rattle.object_words.specs.declared.head.SeenSlot.{SeenSlot}
use Rattle.object_words.specs.declared.head.SeenSlot.TheVariants.{Nothing, Live, Mark}
use Rattle.object_words.specs.Heads.{seen_stamp}
use Rattle.object_words.specs.HeadCalls.{seen}
use Rattle.object_words.specs.Keys.{head_key}
use Rattle.realm_model.specs.Settings.{SettingsView, IsSettings}
use Rattle.realm_model.specs.States.{at_moment, number_next}
use Rattle.realm_model.specs.Steps.{reply_of}
use Rattle.realm_model.specs.Needs.{is_between}
use Rattle.realm_model.specs.Allowed.{allowed}
use Rattle.realm_model.specs.Histories.{world_of, Legal}
use Rattle.realm_model.specs.Owns.{OwnEvent, own_events}
use Rattle.realm_model.specs.Phases.{ActorId}
use Rattle.realm_model.specs.Worlds.{actor_of}
use Rattle.realm_model.specs.declared.op.Op.TheVariants.{HeadRead}
use Rattle.realm_model.specs.declared.event.Reply.TheVariants.{Head as head_reply}
use Rattle.realm_model.specs.declared.event.Event.{Event}
use Rattle.realm_model.proofs.Computing.{left_of, right_of}
use Rattle.index_law.proofs.Stamping.{stamps_given}
use Rattle.task_list.specs.Repairs.{may_stand}
use Rattle.list_law.proofs.Places.{stands, legal_before, is_next}

-- a stamp of one of the realm's zones
stamped : (slot : SeenSlot) (zone : ℕ) → 1 ≤ zone → zone ≤ 8 → ((stamp : Stamp) → seen_stamp slot ≡ Some stamp → stamp.zone ≡ zone) → may_stand slot ≡ true
stamped Nothing zone low high own = refl
stamped (Mark stamp) zone low high own = refl
stamped (Live new stamp) zone low high own =
    let is = own stamp refl in
    let least : nat_le 1 stamp.zone ≡ true = grind (arith, nat_tests, low, is) in
    let most : nat_le stamp.zone 8 ≡ true = grind (arith, nat_tests, high, is) in
    rw (least, most) refl

seen_is : {one other : HeadSeen} {now then : ℕ} → head_reply one now ≡ head_reply other then → one ≡ other
seen_is same = cc

pub head_may_stand : (settings : SettingsView) (history : List Event) (actor : ActorId) (own : OwnEvent) (zone container : ℕ) (name : List ℕ) (head : HeadSeen) (clock : ℕ) → IsSettings settings → Legal settings history → Contains (own_events history actor) own
    → own.op ≡ HeadRead zone container name → own.reply ≡ head_reply head clock → may_stand head.slot ≡ true
head_may_stand settings history actor own zone container name head clock good legal there asks told =
    let s = stands history actor own there in
    let w = world_of settings s.before in
    let st = at_moment w.state (s.e).moment in
    let next = is_next settings history own s legal in
    let op : (s.e).op ≡ HeadRead zone container name = s.op_is ∙ asks in
    let may : allowed settings (w.phases (actor_of s.e)) (HeadRead zone container name) ≡ true = subst (λ o. allowed settings (w.phases (actor_of s.e)) o ≡ true) op next.may in
    let within = left_of (is_between 1 settings.zones zone) true may in
    let least = left_of (nat_le 1 zone) (nat_le zone settings.zones) within in
    let most = right_of (nat_le 1 zone) (nat_le zone settings.zones) within in
    let bound = (good.zones).most in
    let low : 1 ≤ zone = grind (arith, nat_tests, least) in
    let high : zone ≤ 8 = grind (arith, nat_tests, most, bound) in
    let said : head_reply head clock ≡ head_reply (seen (st.heads zone (head_key container name)) (number_next st)) st.clock =
    sym told ∙ sym s.reply_is ∙ next.answer ∙ ap (reply_of settings st) op in
    let same : head ≡ seen (st.heads zone (head_key container name)) (number_next st) = seen_is said in
    let given = stamps_given settings s.before good (legal_before settings history own s legal) in
    subst (λ (h : HeadSeen). may_stand h.slot ≡ true) (sym same)
    (stamped (w.state.heads zone (head_key container name)).slot zone low high (λ stamp is. (given.own zone container name stamp is).zone_is))
