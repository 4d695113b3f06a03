-- An object that is stored is not the one that was there: its stamp is later.
use Rattle.std.proofs.Common.{◌≡◌, ℕ, ◌+◌, ◌<◌, ◌≤◌, ◌^◌, ◌-◌, true, false, cond, List, [], ◌∷◌, ◌++◌, length, Some, None, Option, refl, sym, ◌∙◌, ap, subst, arith}
use Rattle.std.specs.Prelude.{IfSome}
use Rattle.rgw_types.specs.declared.stamp.Stamp.{Stamp}
use Rattle.rgw_model.specs.declared.slot.Slot.{Slot}
use Rattle.rgw_model.specs.declared.slot.Slot.TheVariants as Slots
use Rattle.rgw_model.specs.Stamps.{stamp_of, next_stamp}
use Rattle.object_words.specs.declared.head.SeenSlot.{SeenSlot}
use Rattle.object_words.specs.declared.head.SeenSlot.TheVariants.{Nothing, Live, Mark}
use Rattle.object_words.specs.Conditions.{fails}
use Rattle.object_words.specs.Heads.{seen_stamp}
use Rattle.object_words.specs.Keys.{head_key}
use Rattle.realm_model.specs.Settings.{SettingsView}
use Rattle.realm_model.specs.Phases.{ActorId}
use Rattle.realm_model.specs.Maps.{Made, heads, slot_at, whole_slot}
use Rattle.realm_model.specs.Accounts.{Decided}
use Rattle.realm_model.specs.Worlds.{start}
use Rattle.realm_model.specs.Histories.{world_of, state_of, account_of, Legal}
use Rattle.realm_model.specs.declared.event.Event.{Event}
use Rattle.realm_model.proofs.Agreeing.{heads_agree}
use Rattle.realm_model.proofs.Deciding.{decided_stands}
use Rattle.realm_model.proofs.Rising.{bounded}
use Rattle.realm_model.proofs.Runs.{legal_front, count_from}
use Rattle.task_words.specs.declared.command.PutCommand.{PutCommand}
use Rattle.task_words.specs.declared.reply.MapReply.TheVariants.{Stored, Refused}
use Rattle.task_words.specs.declared.reply.Refusal.TheVariants.{NotMet}
use Rattle.task_words.specs.Answers.{etag_in, put_answer, stored, content_of, answered}

-- a later stamp can be given
abbrev pub HasLater : Slot → Type 0
HasLater slot = IfSome (stamp_of slot) (λ s. s.micros < 2 ^ 64 - 1)

stored_apart : (c : PutCommand) (bytes : List ℕ) (slot : Slot) (clock zone : ℕ) → HasLater slot → Slots.Live (content_of c bytes) (next_stamp slot clock zone) ≡ slot → ⊥
stored_apart c bytes Slots.Nothing clock zone early is = cc
stored_apart c bytes (Slots.Mark stamp) clock zone early is = cc
stored_apart c bytes (Slots.Live content stamp) clock zone early is =
    let same : next_stamp (Slots.Live content stamp) clock zone ≡ stamp = cc in
    let micros = ap (λ (s : Stamp). s.micros) same in
    omega (arith, micros, early)

pub moves : (c : PutCommand) (bytes : List ℕ) (slot : Slot) (zone clock : ℕ) (etag : List ℕ) (stamp : Stamp) → HasLater slot → Stored etag stamp ≡ (put_answer c bytes slot zone clock).reply → (put_answer c bytes slot zone clock).after ≡ slot → ⊥
moves c bytes slot zone clock etag stamp early reply =
    elim (fails c.when (etag_in slot)) as (λ b. Stored etag stamp ≡ (cond b (answered (Refused NotMet) slot) (stored c bytes (next_stamp slot clock zone))).reply → (cond b (answered (Refused NotMet) slot) (stored c bytes (next_stamp slot clock zone))).after ≡ slot → ⊥) [
      | true ↦ λ said is. absurd (cc)
      | false ↦ λ said is. stored_apart c bytes slot clock zone early is
    ] reply

-- ---- in a history

stamp_seen : (made : Made) (zone : ℕ) (slot : SeenSlot) → stamp_of (whole_slot made zone slot) ≡ seen_stamp slot
stamp_seen made zone Nothing = refl
stamp_seen made zone (Live new stamp) = refl
stamp_seen made zone (Mark stamp) = refl

early_stamp : (stamp : Option Stamp) (count : ℕ) → count ≤ 2 ^ 62 → IfSome stamp (λ s. s.micros ≤ 2 ^ 58 + count) → IfSome stamp (λ s. s.micros < 2 ^ 64 - 1)
early_stamp None count few early = tt
early_stamp (Some s) count few early = omega (arith, few, early)

-- the slot that an event found has no stamp that is the last one
pub found_early : (settings : SettingsView) (history : List Event) (actor : ActorId) (d : Decided) → Legal settings history → length history ≤ 2 ^ 62 → (account_of settings history actor).decided ≡ Some d → HasLater d.before
found_early settings history actor d legal few is =
    let s = decided_stands settings history actor d is in
    let there = s.stands in
    let made = (world_of settings s.earlier).stripes.made in
    let whole = there ∙ behind s.earlier s.event s.later in
    let front = legal_front settings (start settings) s.earlier (s.event ∷ s.later) (subst (Legal settings) whole legal) in
    let slot = slot_at (heads s.earlier d.zone d.container) d.name in
    let agree = heads_agree settings s.earlier front d.zone d.container d.name in
    let count : (state_of settings s.earlier).count ≡ 0 + length s.earlier = count_from settings (start settings) s.earlier in
    let long = subst (λ l. length s.earlier ≤ length l) (sym whole) (shorter s.earlier (s.event ∷ s.later)) in
    let fewer : (state_of settings s.earlier).count ≤ 2 ^ 62 = omega (arith, count, few, long) in
    let fits = ((bounded settings s.earlier).heads d.zone (head_key d.container d.name)).stamp in
    let at_slot = subst (λ (q : SeenSlot). IfSome (seen_stamp q) (λ t. t.micros ≤ 2 ^ 58 + (state_of settings s.earlier).count)) (sym agree) fits in
    let early = early_stamp (seen_stamp slot) (state_of settings s.earlier).count fewer at_slot in
    subst HasLater (sym s.before) (subst (λ o. IfSome o (λ t. t.micros < 2 ^ 64 - 1)) (sym (stamp_seen made d.zone slot)) early)
  where
    behind : (xs : List Event) (e : Event) (ys : List Event) → (xs ++ e ∷ []) ++ ys ≡ xs ++ e ∷ ys
    behind [] e ys = refl
    behind (x ∷ xs) e ys = ap (λ l. x ∷ l) (behind xs e ys)

    shorter : (xs ys : List Event) → length xs ≤ length (xs ++ ys)
    shorter [] ys = omega arith
    shorter (x ∷ xs) ys = let rest = shorter xs ys in omega (arith, rest)
