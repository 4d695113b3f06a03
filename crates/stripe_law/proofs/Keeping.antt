-- What holds after every legal history.
use Rattle.std.proofs.Common.{◌≡◌, ℕ, ◌+◌, ◌≤◌, ◌==◌, inl, not, true, false, List, [], ◌∷◌, length, Option, Some, None, refl, sym, subst, arith}
use Rattle.std.specs.Prelude.{IfSome, is_some, unwrap_or}
use Rattle.std.proofs.lemmas.Bool.Decides.{nat_tests}
use Rattle.object_words.specs.Tails.{is_there}
use Rattle.realm_model.specs.Settings.{SettingsView}
use Rattle.realm_model.specs.States.{at_moment}
use Rattle.realm_model.specs.Steps.{touch_of}
use Rattle.realm_model.specs.Ops.{zone_of}
use Rattle.realm_model.specs.Needs.{is_between}
use Rattle.realm_model.specs.Allowed.{meets_need}
use Rattle.realm_model.specs.Worlds.{World, start, actor_of, happens}
use Rattle.realm_model.specs.Histories.{run, world_of, IsNext, LegalFrom, Legal}
use Rattle.realm_model.specs.declared.event.Event.{Event}
use Rattle.realm_model.proofs.Computing.{right_of}
use Rattle.realm_model.proofs.Runs.{touched-count}
use Rattle.realm_model.proofs.Framing.{frames_add_up}
use Rattle.stripe_law.specs.Tails.{Bytes, Holders}
use Rattle.stripe_law.specs.Invariant.{StripesHold, StripesHoldIn, Holds}
use Rattle.stripe_law.proofs.Next.{next_holds}
use Rattle.stripe_law.proofs.Tailing.{bytes_next}
use Rattle.stripe_law.proofs.Frames.{frames_next}

pub stripes_next : (settings : SettingsView) (w : World) (e : Event) → IsNext settings w e → StripesHoldIn w → StripesHoldIn (happens settings w e)
stripes_next settings w e next holds =
    let st = at_moment w.state e.moment in
    let actor = actor_of e in
    let need = right_of (is_between 1 settings.zones (zone_of e.op)) (meets_need settings (w.phases actor) e.op) next.may in
    subst (λ n. StripesHold (happens settings w e).state.heads (n + 1) (happens settings w e).phases (happens settings w e).stripes)
    (sym (touched-count settings st (touch_of settings st e.op)))
    (next_holds settings st w.phases w.stripes actor holds e.op e.reply need next.answer)

stripes_from : (settings : SettingsView) (w : World) (es : List Event) → LegalFrom settings w es → StripesHoldIn w → StripesHoldIn (run settings w es)
stripes_from settings w [] legal holds = holds
stripes_from settings w (e ∷ es) legal holds = stripes_from settings (happens settings w e) es legal.1 (stripes_next settings w e legal.0 holds)

stripes_start : (settings : SettingsView) → StripesHoldIn (start settings)
stripes_start settings = record {
  ids = λ a. record { first_is = tt; reads_are = λ n. tt; holders_are = λ z w h. inl refl };
  makers = λ z w h none. refl;
  open_bundles = λ a z w h sizes is. cc;
  open_sizes = λ a z w h sizes is i low. cc;
  made_once = λ z w p. tt;
  made_all = λ z w p low high. absurd (omega (arith, low, high));
  head_sizes = λ z k. tt;
  named = λ z c n. tt;
  olds = λ a z w h. tt;
  seen_sizes = λ a. tt;
}

pub stripes_hold : (settings : SettingsView) (history : List Event) → Legal settings history → StripesHoldIn (world_of settings history)
stripes_hold settings history legal = stripes_from settings (start settings) history legal (stripes_start settings)

-- ---- tails that exist

there_is : (bytes : List ℕ) → is_there (record { bytes = bytes }) ≡ true → 1 ≤ length bytes
there_is bytes there =
    elim (length bytes == 0) as (λ b. (length bytes == 0) ≡ b → not b ≡ true → 1 ≤ length bytes) [
      | true ↦ λ none bad. cc
      | false ↦ λ some is. grind (arith, nat_tests)
    ] refl there

pub is_there_of : (bytes : List ℕ) → 1 ≤ length bytes → is_there (record { bytes = bytes }) ≡ true
is_there_of bytes some = grind (arith, nat_tests)

kept_where : (made : Option (List ℕ)) (part count : ℕ) → IfSome made (λ b. (1 ≤ part) × ((part ≤ count) × (1 ≤ length b))) → is_there (record { bytes = unwrap_or made [] }) ≡ true → (1 ≤ part) × (part ≤ count)
kept_where None part count is there = let bad = there_is [] there in absurd (omega (arith, bad))
kept_where (Some b) part count is there = (is.0, is.1.0)

pub there_where : (made : Option (List ℕ)) (part count : ℕ) → IfSome made (λ b. (1 ≤ part) × ((part ≤ count) × (1 ≤ length b))) → is_some made ≡ true → is_there (record { bytes = unwrap_or made [] }) ≡ true
there_where None part count is some = cc
there_where (Some b) part count is some = is_there_of b is.1.1

-- the tails that are there are those that are kept
holders_of : (w : World) → StripesHoldIn w → Bytes w.state.tails w.stripes.made → Holders w.state.tails w.stripes.ledger
holders_of w stripes bytes z t p = (
  (λ there. kept_where (w.stripes.made z t p) p (w.stripes.ledger z t t).count (stripes.made_once z t p) (subst (λ b. is_there (record { bytes = b }) ≡ true) (bytes z t p) there)),
  (λ kept. subst (λ b. is_there (record { bytes = b }) ≡ true) (sym (bytes z t p)) (there_where (w.stripes.made z t p) p (w.stripes.ledger z t t).count (stripes.made_once z t p) (stripes.made_all z t p kept.0 kept.1))),
)

-- ---- every part

pub holds_start : (settings : SettingsView) → Holds settings (start settings)
holds_start settings =
    let stripes = stripes_start settings in
    let bytes : Bytes (start settings).state.tails (start settings).stripes.made = λ z w p. refl in
    record { stripes = stripes; bytes = bytes; holders = holders_of (start settings) stripes bytes; frames = frames_add_up settings [] }

pub holds_next : (settings : SettingsView) (w : World) (e : Event) → IsNext settings w e → Holds settings w → Holds settings (happens settings w e)
holds_next settings w e next holds =
    let st = at_moment w.state e.moment in
    let stripes = stripes_next settings w e next holds.stripes in
    let bytes : Bytes (happens settings w e).state.tails (happens settings w e).stripes.made = bytes_next settings st w.stripes.made e.op e.reply next.answer holds.bytes in
    record { stripes = stripes; bytes = bytes; holders = holders_of (happens settings w e) stripes bytes; frames = frames_next settings st e.op holds.frames }

holds_from : (settings : SettingsView) (w : World) (es : List Event) → LegalFrom settings w es → Holds settings w → Holds settings (run settings w es)
holds_from settings w [] legal holds = holds
holds_from settings w (e ∷ es) legal holds = holds_from settings (happens settings w e) es legal.1 (holds_next settings w e legal.0 holds)

pub holds_after : (settings : SettingsView) (history : List Event) → Legal settings history → Holds settings (world_of settings history)
holds_after settings history legal = holds_from settings (start settings) history legal (holds_start settings)

pub next_holds_after : (settings : SettingsView) (history : List Event) (e : Event) → Legal settings history → IsNext settings (world_of settings history) e → Holds settings (happens settings (world_of settings history) e)
next_holds_after settings history e legal next = holds_next settings (world_of settings history) e next (holds_after settings history legal)
