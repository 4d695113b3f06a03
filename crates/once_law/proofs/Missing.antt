-- No own event of a legal history was answered that a stripe is gone.
use Rattle.std.proofs.Common.{◌≡◌, ◌≢◌, ℕ, ◌+◌, true, false, cond, List, [], ◌∷◌, ◌++◌, refl, sym, ◌∙◌, subst}
use Rattle.std.proofs.lemmas.List.{append_assoc}
use Rattle.std.specs.List.{AllByRecursion}
use Rattle.object_words.specs.declared.why.Why.TheVariants.{Gone}
use Rattle.realm_model.specs.Histories.{world_of, Legal}
use Rattle.realm_model.specs.Owns.{OwnEvent, own_from}
use Rattle.realm_model.specs.Phases.{ActorId}
use Rattle.realm_model.specs.Settings.{SettingsView}
use Rattle.realm_model.specs.States.{clock_at, at_moment}
use Rattle.realm_model.specs.Suits.{Suits}
use Rattle.realm_model.specs.Worlds.{actor_of, same_actor, start}
use Rattle.realm_model.specs.declared.event.Event.{Event}
use Rattle.realm_model.specs.declared.event.Reply.TheVariants.{No}
use Rattle.realm_model.specs.declared.op.Op.{Op}
use Rattle.realm_model.specs.declared.op.Op.TheVariants.{TailRead}
use Rattle.realm_model.proofs.Runs.{legal_front, last_is_next}
use Rattle.realm_model.proofs.SuitsLemmas.{reply_suits}
use Rattle.stripe_law.proofs.Getting.{read_bytes}

-- an answer of another operation says no such thing
others_miss_none : (op : Op) (clock : ℕ) → Suits op (No (Gone clock)) → (zone write part start count : ℕ) × (op ≡ TailRead zone write part start count)
others_miss_none (TailRead zone write part start count) clock suits = (zone, write, part, start, count, refl)
others_miss_none op clock suits = absurd suits

last_misses_none : (settings : SettingsView) (before : List Event) (e : Event) (clock : ℕ) → Legal settings (before ++ e ∷ []) → e.reply ≡ No (Gone clock) → ⊥
last_misses_none settings before e clock legal gone =
    let next = last_is_next settings before e legal in
    let suits = subst (λ r. Suits e.op r) (sym next.answer ∙ gone) (reply_suits settings (at_moment (world_of settings before).state e.moment) e.op) in
    let read = others_miss_none e.op clock suits in
    let bytes = read_bytes settings before e legal read.0 read.1 read.2 read.3 read.4 read.5 in
    let clash = sym gone ∙ bytes in cc

own_miss_none : (settings : SettingsView) (before events : List Event) (actor : ActorId) (count now clock : ℕ) → Legal settings (before ++ events)
    → AllByRecursion (λ (o : OwnEvent). o.reply ≢ No (Gone clock)) (own_from count now events actor)
own_miss_none settings before [] actor count now clock legal = tt
own_miss_none settings before (e ∷ events) actor count now clock legal =
    let longer : Legal settings ((before ++ e ∷ []) ++ events) = subst (λ h. Legal settings h) (sym (append_assoc before (e ∷ []) events)) legal in
    let first = legal_front settings (start settings) (before ++ e ∷ []) events longer in
    let then = clock_at now e.moment in
    let rest = own_miss_none settings (before ++ e ∷ []) events actor (count + 1) then clock longer in
    let own : OwnEvent = record { op = e.op; reply = e.reply; number = count + 1; clock = then } in
    elim (same_actor actor (actor_of e)) as (λ b. AllByRecursion (λ (o : OwnEvent). o.reply ≢ No (Gone clock)) (cond b (own ∷ own_from (count + 1) then events actor) (own_from (count + 1) then events actor))) [
      | true ↦ (last_misses_none settings before e clock first, rest)
      | false ↦ rest
    ]

among : (front later : List OwnEvent) (own : OwnEvent) (clock : ℕ) → AllByRecursion (λ (o : OwnEvent). o.reply ≢ No (Gone clock)) (front ++ own ∷ later) → own.reply ≢ No (Gone clock)
among [] later own clock all = all.0
among (x ∷ front) later own clock all = among front later own clock all.1

pub misses_none : (settings : SettingsView) (history : List Event) (actor : ActorId) (front later : List OwnEvent) (own : OwnEvent) (clock : ℕ)
    → Legal settings history → own_from 0 0 history actor ≡ front ++ own ∷ later → own.reply ≡ No (Gone clock) → ⊥
misses_none settings history actor front later own clock legal stands =
    among front later own clock (subst (λ es. AllByRecursion (λ (o : OwnEvent). o.reply ≢ No (Gone clock)) es) stands (own_miss_none settings [] history actor 0 0 clock legal))
