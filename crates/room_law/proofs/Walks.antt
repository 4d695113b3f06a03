-- What the events of one actor leave of the free frames.
use Rattle.std.proofs.Common.{◌≡◌, ℕ, ◌+◌, ◌<◌, ◌≤◌, Bool, true, cond, List, [], ◌∷◌, None, refl, sym, ◌∙◌, ap, subst, arith}
use Rattle.std.specs.List.{AllByRecursion}
use Rattle.realm_model.specs.Settings.{SettingsView}
use Rattle.realm_model.specs.Phases.{ActorId}
use Rattle.realm_model.specs.States.{State, clock_at, at_moment, number_next}
use Rattle.realm_model.specs.Steps.{after}
use Rattle.realm_model.specs.Accounts.{Account, accounted}
use Rattle.realm_model.specs.Worlds.{World, same_actor, actor_of, happens}
use Rattle.realm_model.specs.Histories.{run, LegalFrom}
use Rattle.realm_model.specs.Owns.{OwnEvent, own_from}
use Rattle.realm_model.specs.declared.op.Op.{Op}
use Rattle.realm_model.specs.declared.op.Op.TheVariants.{BucketRead, HeadRead, TailRead, Page, Suggest}
use Rattle.realm_model.specs.declared.event.Event.{Event}
use Rattle.realm_model.proofs.ObjectLemmas.{actor_itself}
use Rattle.task_words.specs.Cuts.{tails_after, is_changed_after, AreCutFrom}
use Rattle.task_list.specs.Listed.{is_of_listing}
use Rattle.call_words.specs.Events.{is_of_get}
use Rattle.room_law.proofs.Steps.{left_of, step_kept}

module _ (settings : SettingsView) (actor : ActorId) where
  abbrev AreByIt : List Event → Type 0
  AreByIt es = AllByRecursion (λ e. actor_of e ≡ actor) es

  by_itself : (e : Event) → actor_of e ≡ actor → same_actor actor (actor_of e) ≡ true
  by_itself e by = subst (λ a. same_actor actor a ≡ true) (sym by) (actor_itself actor)

  -- ---- a PUT

  module _ (zone : ℕ) (bytes : List ℕ) (some : 0 < settings.stripe) where
    abbrev left : ℕ → Bool → ℕ
    left = left_of settings.frame settings.stripe bytes

    -- the events took no more than what was left of the body, and wanted no frames
    pub record Walked (w : World) (es : List Event) (tails : ℕ) (was : Bool) : Type 0 where
      pub takes : w.state.free zone ≤ (run settings w es).state.free zone + left tails was
      pub unwanted : ((run settings w es).accounts actor).wanted ≡ None

    pub walk : (w : World) (es : List Event) (count clock tails : ℕ) (was : Bool) → LegalFrom settings w es → AreByIt es → AreCutFrom zone settings.stripe bytes tails was (own_from count clock es actor)
        → left tails was ≤ w.state.free zone → (w.accounts actor).wanted ≡ None → Walked w es tails was
    walk w [] count clock tails was legal by cut fits none = record { takes = omega arith; unwanted = none }
    walk w (e ∷ es) count clock tails was legal by cut fits none =
        let now = clock_at clock e.moment in
        let rest = own_from (count + 1) now es actor in
        let own : OwnEvent = record { op = e.op; reply = e.reply; number = count + 1; clock = now } in
        let itself = by_itself e by.0 in
        let both = subst (λ b. AreCutFrom zone settings.stripe bytes tails was (cond b (own ∷ rest) rest)) itself cut in
        let st = at_moment w.state e.moment in
        let k = step_kept settings zone bytes some tails was st (w.accounts (actor_of e)).wanted (number_next w.state) e.op e.reply legal.0.answer both.0 fits in
        let next : Account = accounted (w.accounts (actor_of e)) w.maps w.stripes.made e.op e.reply (number_next w.state) st.clock in
        let account : ((happens settings w e).accounts actor).wanted ≡ None =
        ap (λ b. (cond b next (w.accounts actor)).wanted) itself ∙ k.unwanted ∙ ap (λ a. (w.accounts a).wanted) by.0 ∙ none in
        let later = walk (happens settings w e) es (count + 1) now (tails_after tails e.op e.reply) (is_changed_after was e.op e.reply) legal.1 by.1 both.1 k.room account in
        let one = k.takes in
        let others = later.takes in
        record { takes = omega (arith, one, others); unwanted = later.unwanted }

  -- ---- events that change no frames

  get_free : (st : State) (op : Op) → is_of_get op ≡ true → (after settings st op).free ≡ st.free
  get_free st (BucketRead zone name) is = refl
  get_free st (HeadRead zone container name) is = refl
  get_free st (TailRead zone write part start count) is = refl
  get_free st op is = cc

  list_free : (st : State) (op : Op) → is_of_listing op ≡ true → (after settings st op).free ≡ st.free
  list_free st (BucketRead zone name) is = refl
  list_free st (Page zone key after limit) is = refl
  list_free st (Suggest zone key name revision seen version row) is = refl
  list_free st (HeadRead zone container name) is = refl
  list_free st op is = cc

  -- so all of them leave the free frames
  pub stays_free : (is_kind : Op → Bool) → ((st : State) (op : Op) → is_kind op ≡ true → (after settings st op).free ≡ st.free) → (w : World) (es : List Event) (count clock : ℕ) → AreByIt es
      → AllByRecursion (λ (e : OwnEvent). is_kind e.op ≡ true) (own_from count clock es actor) → (run settings w es).state.free ≡ w.state.free
  stays_free is_kind kept w [] count clock by are = refl
  stays_free is_kind kept w (e ∷ es) count clock by are =
      let now = clock_at clock e.moment in
      let rest = own_from (count + 1) now es actor in
      let own : OwnEvent = record { op = e.op; reply = e.reply; number = count + 1; clock = now } in
      let both = subst (λ b. AllByRecursion (λ (x : OwnEvent). is_kind x.op ≡ true) (cond b (own ∷ rest) rest)) (by_itself e by.0) are in
      stays_free is_kind kept (happens settings w e) es (count + 1) now by.1 both.1 ∙ kept (at_moment w.state e.moment) e.op both.0

  pub gets_free : (w : World) (es : List Event) (count clock : ℕ) → AreByIt es → AllByRecursion (λ (e : OwnEvent). is_of_get e.op ≡ true) (own_from count clock es actor) → (run settings w es).state.free ≡ w.state.free
  gets_free = stays_free is_of_get get_free

  pub lists_free : (w : World) (es : List Event) (count clock : ℕ) → AreByIt es → AllByRecursion (λ (e : OwnEvent). is_of_listing e.op ≡ true) (own_from count clock es actor) → (run settings w es).state.free ≡ w.state.free
  lists_free = stays_free is_of_listing list_free
