-- No event lowers a stamp, a version or a revision.
use Rattle.std.proofs.Common.{◌≡◌, ℕ, ◌+◌, ◌==◌, ◌<◌, ◌≤◌, ◌^◌, Bool, true, false, cond, List, [], ◌∷◌, ◌++◌, length, Some, refl, sym, subst, arith}
use Rattle.std.specs.Prelude.{max}
use Rattle.rgw_types.specs.declared.pool_key.Key.{Key}
use Rattle.object_words.specs.Keys.{head_key}
use Rattle.object_words.specs.Names.{at}
use Rattle.object_words.specs.Tags.{with_tag, without_tag, tags_due_taken}
use Rattle.object_words.specs.Shards.{Shard, entry_at}
use Rattle.object_words.specs.ShardCalls.{prepare_refusal, complete_refusal, suggest_refusal, settled}
use Rattle.object_words.specs.HoldCalls.{hold_number, close_refusal, taken, released}
use Rattle.object_words.specs.declared.shard.Hold.TheVariants.{Closing}
use Rattle.object_words.proofs.NameLemmas.{at-none}
use Rattle.realm_model.specs.Settings.{SettingsView}
use Rattle.realm_model.specs.States.{State, opening, at_moment, Touch, nothing, at_root, at_shard, at_head, at_tail, at_changes, touched}
use Rattle.realm_model.specs.Steps.{new_tag, suggest_event_refusal, is_master, touch_of, after}
use Rattle.realm_model.specs.Worlds.{World, start, happens}
use Rattle.realm_model.specs.Histories.{run, state_of}
use Rattle.realm_model.specs.Rises.{Rises}
use Rattle.realm_model.specs.declared.op.Op.{Op}
use Rattle.realm_model.specs.declared.op.Op.TheVariants.{BucketSwap, ShardMake, Prepare, Complete, Cancel, Suggest, CloseShard, Release, Shut, HeadWrite}
use Rattle.realm_model.specs.declared.event.Event.{Event}
use Rattle.realm_model.proofs.Runs.{count_from, state-next, touched-count, touched-clock}
use Rattle.realm_model.proofs.ObjectLemmas.{put_cases, put_in_cases}
use Rattle.realm_model.proofs.Bounds.{late, counted_early, HeadFits, RowFits, ShardFits, ShardSteps, HeadSteps, RootSteps, head_stays, written_steps, root_stays, swapped_steps, shard_stays, changed_steps, made_steps, held_steps, shut_steps, tags_step, settled_steps, unless}

-- the numbers that a state keeps are below the next ones
pub record Bounded (st : State) : Type 0 where
  pub clock : st.clock ≤ late
  pub heads : (zone : ℕ) (key : Key) → HeadFits st.count (st.heads zone key)
  pub rows : (zone : ℕ) (name : List ℕ) → RowFits st.count (at (st.root zone).buckets name)
  pub entries : (zone : ℕ) (key : Key) → ShardFits (st.shards zone key)

pub opening_bounded : (settings : SettingsView) → Bounded (opening settings)
opening_bounded settings = record {
  clock = omega arith;
  heads = λ zone key. record { version = omega arith; stamp = tt };
  rows = λ zone name. rw at-none tt;
  entries = λ zone key name. tt;
}

moment_bounded : (st : State) (moment : ℕ) → Bounded st → Bounded (at_moment st moment)
moment_bounded st moment b =
    let old = b.clock in
    let new = counted_early moment in
    record { clock = omega (arith, new); heads = b.heads; rows = b.rows; entries = b.entries }

-- what becomes of the object that is touched
TouchSteps : State → Touch → Type 0
TouchSteps st nothing = Unit {0}
TouchSteps st (at_root zone root) = RootSteps st.count (st.root zone) root
TouchSteps st (at_shard zone key shard) = ShardSteps (st.shards zone key) shard
TouchSteps st (at_head zone key head) = HeadSteps st.count (st.heads zone key) head
TouchSteps st (at_tail zone key tail) = Unit {0}
TouchSteps st (at_changes zone log) = Unit {0}

-- the hold of a shard is taken, or is held already
taken_entries : (s : Shard) (id : ℕ) (test : Bool) → (cond test s (record s { hold = Closing id; fence = max s.fence (hold_number s.hold) })).entries ≡ s.entries
taken_entries s id true = refl
taken_entries s id false = refl

unless_taken : (s : Shard) (id : ℕ) → ShardFits (Some s) → ShardSteps (Some s) (Some (taken s id (Closing id)))
unless_taken s id fits =
    held_steps (Some s) (λ x. taken x id (Closing id)) (λ x. taken_entries x id (hold_number x.hold == id)) fits

touch_steps : (settings : SettingsView) (st : State) (op : Op) → Bounded st → TouchSteps st (touch_of settings st op)
unfolding TouchSteps
touch_steps settings st (BucketSwap zone name expected new) b =
    swapped_steps (st.root zone) name expected new (is_master zone) st.count (b.rows zone)
touch_steps settings st (ShardMake zone key) b = made_steps (st.shards zone key) (b.entries zone key)
touch_steps settings st (Prepare zone key name) b =
    changed_steps (st.shards zone key) prepare_refusal _
    (λ s fits. tags_step s name (with_tag (new_tag settings st) (entry_at s name).tags) fits) (b.entries zone key)
touch_steps settings st (Complete zone key name tag version row) b =
    changed_steps (st.shards zone key) (λ s. complete_refusal s name tag) _
    (λ s fits. settled_steps s name (without_tag tag (entry_at s name).tags) version row fits) (b.entries zone key)
touch_steps settings st (Cancel zone key name tag) b =
    changed_steps (st.shards zone key) (λ s. complete_refusal s name tag) _
    (λ s fits. tags_step s name (without_tag tag (entry_at s name).tags) fits) (b.entries zone key)
touch_steps settings st (Suggest zone key name revision moment version row) b =
    changed_steps (st.shards zone key) (λ s. suggest_event_refusal s name revision moment) _
    (λ s fits.
    unless (λ x. ShardSteps (Some s) (Some x)) (suggest_refusal s name revision) s
    (settled s name (tags_due_taken moment (entry_at s name).tags) version row) (shard_stays (Some s) fits)
    (settled_steps s name (tags_due_taken moment (entry_at s name).tags) version row fits))
    (b.entries zone key)
touch_steps settings st (CloseShard zone key id force) b =
    changed_steps (st.shards zone key) (λ s. close_refusal s id force) _
    (λ s fits. unless_taken s id fits) (b.entries zone key)
touch_steps settings st (Release zone key id) b =
    held_steps (st.shards zone key) (λ s. released s id) (λ s. refl) (b.entries zone key)
touch_steps settings st (Shut zone key) b = shut_steps (st.shards zone key) (b.entries zone key)
touch_steps settings st (HeadWrite zone container name guard new when) b =
    written_steps (st.heads zone (head_key container name)) guard new when zone st.count st.clock (st.free zone) settings.frame
    b.clock (b.heads zone (head_key container name))
touch_steps settings st op b = tt

-- every object steps, the touched one and those that stay
record AllStep (old new : State) : Type 0 where
  heads : (zone : ℕ) (key : Key) → HeadSteps old.count (old.heads zone key) (new.heads zone key)
  entries : (zone : ℕ) (key : Key) → ShardSteps (old.shards zone key) (new.shards zone key)
  rows : (zone : ℕ) → RootSteps old.count (old.root zone) (new.root zone)

module _ (st : State) (b : Bounded st) where
  heads_stay : (zone : ℕ) (key : Key) → HeadSteps st.count (st.heads zone key) (st.heads zone key)
  heads_stay zone key = head_stays st.count (st.heads zone key) (b.heads zone key)

  entries_stay : (zone : ℕ) (key : Key) → ShardSteps (st.shards zone key) (st.shards zone key)
  entries_stay zone key = shard_stays (st.shards zone key) (b.entries zone key)

  rows_stay : (zone : ℕ) → RootSteps st.count (st.root zone) (st.root zone)
  rows_stay zone = root_stays st.count (st.root zone) (b.rows zone)

  all_step : (settings : SettingsView) (touch : Touch) → TouchSteps st touch → AllStep st (touched settings st touch)
  unfolding TouchSteps
  all_step settings nothing step = record { heads = heads_stay; entries = entries_stay; rows = rows_stay }
  all_step settings (at_root zone root) step = record {
    heads = heads_stay;
    entries = entries_stay;
    rows = put_cases (λ z r. RootSteps st.count (st.root z) r) st.root zone root step rows_stay;
  }
  all_step settings (at_shard zone key shard) step = record {
    heads = heads_stay;
    entries = put_in_cases (λ z k s. ShardSteps (st.shards z k) s) st.shards zone key shard step entries_stay;
    rows = rows_stay;
  }
  all_step settings (at_head zone key head) step = record {
    heads = put_in_cases (λ z k h. HeadSteps st.count (st.heads z k) h) st.heads zone key head step heads_stay;
    entries = entries_stay;
    rows = rows_stay;
  }
  all_step settings (at_tail zone key tail) step = record { heads = heads_stay; entries = entries_stay; rows = rows_stay }
  all_step settings (at_changes zone log) step = record { heads = heads_stay; entries = entries_stay; rows = rows_stay }

module _ (settings : SettingsView) (st : State) (moment : ℕ) (op : Op) (b : Bounded st) where
  steps : AllStep (at_moment st moment) (touched settings (at_moment st moment) (touch_of settings (at_moment st moment) op))
  steps =
      let now = at_moment st moment in
      let bounded = moment_bounded st moment b in
      all_step now bounded settings (touch_of settings now op) (touch_steps settings now op bounded)

  next_bounded : Bounded (after settings (at_moment st moment) op)
  next_bounded =
      let now = at_moment st moment in
      let touch = touch_of settings now op in
      let count = touched-count settings now touch in
      let clock = touched-clock settings now touch in
      let early = (moment_bounded st moment b).clock in
      record {
        clock = omega (arith, clock, early);
        heads = λ z k. subst (λ n. HeadFits (n + 1) ((touched settings now touch).heads z k)) (sym count) (steps.heads z k).fits;
        rows = λ z name. subst (λ n. RowFits (n + 1) (at ((touched settings now touch).root z).buckets name)) (sym count) (steps.rows z name).1;
        entries = λ z k name. (steps.entries z k name).1;
      }

  pub next_rises : st.count < 2 ^ 62 → Rises st (after settings (at_moment st moment) op)
  next_rises room = record {
    heads = λ z k. (steps.heads z k).rises room;
    entries = λ z k name. (steps.entries z k name).0;
    rows = λ z name. (steps.rows z name).0;
  }

bounded_from : (settings : SettingsView) (w : World) (es : List Event) → Bounded w.state → Bounded (run settings w es).state
bounded_from settings w [] b = b
bounded_from settings w (e ∷ es) b = bounded_from settings (happens settings w e) es (next_bounded settings w.state e.moment e.op b)

pub bounded : (settings : SettingsView) (history : List Event) → Bounded (state_of settings history)
bounded settings history = bounded_from settings (start settings) history (opening_bounded settings)

pub rising : (settings : SettingsView) (history : List Event) (e : Event) → length history < 2 ^ 62 → Rises (state_of settings history) (state_of settings (history ++ e ∷ []))
rising settings history e room =
    let st = state_of settings history in
    let count = count_from settings (start settings) history in
    let step = next_rises settings st e.moment e.op (bounded settings history) (omega (arith, count, room)) in
    rw (state-next settings history e) step
