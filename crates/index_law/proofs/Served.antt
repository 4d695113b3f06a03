-- What holds of the shards of rows in every legal history.
use Rattle.std.proofs.Common.{◌≡◌, ◌⊎◌, inl, inr, ℕ, ◌+◌, ◌<◌, ◌≤◌, true, false, cond, List, [], ◌∷◌, Option, Some, None, refl, sym, subst, ap}
use Rattle.std.specs.Prelude.{IsSomeAnd, is_some, nat_le}
use Rattle.std.proofs.lemmas.Bool.{true≢false}
use Rattle.rgw_types.specs.declared.pool_key.Key.{Key}
use Rattle.object_words.specs.declared.bucket.Bucket.{Bucket}
use Rattle.object_words.specs.declared.shard.Fate.{Fate}
use Rattle.object_words.specs.declared.shard.Fate.TheVariants.{Serving, Moved, Closed}
use Rattle.object_words.specs.declared.shard.Hold.{Hold}
use Rattle.object_words.specs.declared.shard.Hold.TheVariants.{Free, Closing}
use Rattle.object_words.specs.declared.why.Why.{Why}
use Rattle.object_words.specs.Entries.{with_tags}
use Rattle.object_words.specs.HoldCalls.{hold_number, released}
use Rattle.object_words.specs.Keys.{shard_key}
use Rattle.object_words.specs.Refusals.{first_refusal, unless_refused, fate_refusal, hold_refusal, change_refusal}
use Rattle.object_words.specs.Shards.{Shard, new_shard, entry_at, with_entry}
use Rattle.object_words.specs.ShardCalls.{made, prepare_refusal, complete_refusal, suggest_refusal, settled, suggested}
use Rattle.object_words.specs.Tags.{with_tag, without_tag, tags_due_taken}
use Rattle.realm_model.specs.Containers.{row_in}
use Rattle.realm_model.specs.Facts.{Instance}
use Rattle.realm_model.specs.Histories.{run, world_of, state_of, Legal}
use Rattle.realm_model.specs.Settings.{SettingsView, IsSettings}
use Rattle.realm_model.specs.States.{State, at_moment, put_in}
use Rattle.realm_model.specs.Steps.{change_at, new_tag, suggest_event_refusal, after}
use Rattle.realm_model.specs.Worlds.{World, start, happens}
use Rattle.realm_model.specs.declared.event.Event.{Event}
use Rattle.realm_model.specs.declared.op.Op.{Op}
use Rattle.realm_model.specs.declared.op.Op.TheVariants.{ShardMake, Prepare, Complete, Cancel, Suggest, CloseShard, Release, Shut}
use Rattle.realm_model.proofs.ObjectLemmas.{put_in_cases}
use Rattle.index_law.specs.Tables.{rows_of}
use Rattle.index_law.specs.Holds.{IsLeft}
use Rattle.index_law.specs.Works.{IsUnnamed}
use Rattle.index_law.specs.Serving.{IsServing, IsMade, closes, NoneCloses}
use Rattle.index_law.proofs.Shards.{shards_serve}
use Rattle.index_law.proofs.HoldEvents.{holds_in}
use Rattle.index_law.proofs.Consequences.{row_is_of}

-- ---- the shards of a row

-- a shard of a row is there
pub row_shard_made : (settings : SettingsView) (history : List Event) (zone container shard : ℕ) (row : Bucket) → Legal settings history → row_in (world_of settings history).rows (state_of settings history) zone container ≡ Some row → shard < row.shards
    → IsMade (state_of settings history).shards zone (shard_key container row.instance shard)
row_shard_made settings history zone container shard row legal is less =
    let w = world_of settings history in
    let r = row_is_of w zone container row is in
    subst (λ c. IsMade w.state.shards zone (shard_key c row.instance shard)) r.id_is ((shards_serve settings history legal).of_rows zone (r.home).name row r.kept shard less)

-- it serves, and what holds it is a number that the row gave
pub row_shard_held : (settings : SettingsView) (history : List Event) (zone container shard : ℕ) (row : Bucket) → IsSettings settings → Legal settings history → row_in (world_of settings history).rows (state_of settings history) zone container ≡ Some row → shard < row.shards
    → IsSomeAnd ((state_of settings history).shards zone (shard_key container row.instance shard)) (λ s. (s.fate ≡ Serving) × (hold_number s.hold ≤ row.number))
row_shard_held settings history zone container shard row good legal is less =
    let w = world_of settings history in
    let h = holds_in settings history good legal in
    let r = row_is_of w zone container row is in
    let m = row_shard_made settings history zone container shard row legal is less in
    let key = shard_key container row.instance shard in
    let serving : (m.shard).fate ≡ Serving =
    elim (h.fates zone key m.shard m.there) [
      | inl serves ↦ serves
      | inr shut ↦ absurd (shut.unnamed (r.home).name row r.kept r.id_is refl)
    ] in
    subst (λ o. IsSomeAnd o (λ s. (s.fate ≡ Serving) × (hold_number s.hold ≤ row.number))) (sym m.there) (serving, h.given zone key m.shard m.there (r.home).name row r.kept r.id_is refl)

-- an event that closes no shard leaves one that serves and is free so
pub serves_here : (settings : SettingsView) (st : State) (op : Op) (z : ℕ) (q : Key) → closes op ≡ false → ((s : Shard) → st.shards z q ≡ Some s → IsServing s) → (s : Shard) → (after settings st op).shards z q ≡ Some s → IsServing s
serves_here settings st op z q still was = by op still where
  at_key : (zone : ℕ) (key : Key) (o : Option Shard) → (((s : Shard) → st.shards zone key ≡ Some s → IsServing s) → (s : Shard) → o ≡ Some s → IsServing s) → (s : Shard) → put_in st.shards zone key o z q ≡ Some s → IsServing s
  at_key zone key o here = put_in_cases (λ y k x. ((s : Shard) → st.shards y k ≡ Some s → IsServing s) → (s : Shard) → x ≡ Some s → IsServing s) st.shards zone key o here (λ y k old. old) z q was

  changed : (change : Shard → Shard) → ((s : Shard) → IsServing s → IsServing (change s)) → (o : Option Shard) → ((s : Shard) → o ≡ Some s → IsServing s) → (s : Shard) → change_at o change ≡ Some s → IsServing s
  changed change keeps None old s is = absurd cc
  changed change keeps (Some x) old s is = let same : change x ≡ s = cc in subst IsServing same (keeps x (old x refl))

  unless : (refusal : Option Why) (s t : Shard) → IsServing s → IsServing t → IsServing (unless_refused refusal s t)
  unless None s t old new = new
  unless (Some why) s t old new = old

  made_serves : (o : Option Shard) → ((s : Shard) → o ≡ Some s → IsServing s) → (s : Shard) → made o ≡ Some s → IsServing s
  made_serves None old s is = let same : new_shard ≡ s = cc in subst IsServing same (record { fate = refl; hold = refl })
  made_serves (Some x) old s is = old s is

  freed : (s : Shard) (id : ℕ) → IsServing s → IsServing (released s id)
  freed s id is = record { fate = is.fate; hold = elim (nat_le (hold_number s.hold) id) as (λ b. cond b Free s.hold ≡ Free) [ true ↦ refl | false ↦ is.hold ] }

  by : (op : Op) → closes op ≡ false → (s : Shard) → (after settings st op).shards z q ≡ Some s → IsServing s
  by (ShardMake zone key) still = at_key zone key (made (st.shards zone key)) (made_serves (st.shards zone key))
  by (Prepare zone key name) still =
      at_key zone key _ (changed (λ s. unless_refused (prepare_refusal s) s (with_entry s name (with_tags (entry_at s name) (with_tag (new_tag settings st) (entry_at s name).tags)))) (λ s is. unless (prepare_refusal s) s _ is (record { fate = is.fate; hold = is.hold })) (st.shards zone key))
  by (Complete zone key name tag version row) still =
      at_key zone key _ (changed (λ s. unless_refused (complete_refusal s name tag) s (settled s name (without_tag tag (entry_at s name).tags) version row)) (λ s is. unless (complete_refusal s name tag) s _ is (record { fate = is.fate; hold = is.hold })) (st.shards zone key))
  by (Cancel zone key name tag) still =
      at_key zone key _ (changed (λ s. unless_refused (complete_refusal s name tag) s (with_entry s name (with_tags (entry_at s name) (without_tag tag (entry_at s name).tags)))) (λ s is. unless (complete_refusal s name tag) s _ is (record { fate = is.fate; hold = is.hold })) (st.shards zone key))
  by (Suggest zone key name revision moment version row) still =
      at_key zone key _
      (changed (λ s. unless_refused (suggest_event_refusal s name revision moment) s (suggested s name revision moment version row))
      (λ s is.
      unless (suggest_event_refusal s name revision moment) s _ is
      (unless (suggest_refusal s name revision) s (settled s name (tags_due_taken moment (entry_at s name).tags) version row) is (record { fate = is.fate; hold = is.hold }))) (st.shards zone key))
  by (Release zone key id) still = at_key zone key _ (changed (λ s. released s id) (λ s is. freed s id is) (st.shards zone key))
  by (CloseShard zone key id force) still = absurd (true≢false still)
  by (Shut zone key) still = absurd (true≢false still)
  by op still = was

-- where no event closed a shard, all serve and are free
AllServe : (ℕ → Key → Option Shard) → Type 0
AllServe shards = (zone : ℕ) (key : Key) (s : Shard) → shards zone key ≡ Some s → IsServing s

serves_from : (settings : SettingsView) (w : World) (es : List Event) → NoneCloses es → AllServe w.state.shards → AllServe (run settings w es).state.shards
unfolding AllServe
serves_from settings w [] none all = all
serves_from settings w (e ∷ es) none all = serves_from settings (happens settings w e) es none.1 (λ zone key. serves_here settings (at_moment w.state e.moment) e.op zone key none.0 (all zone key))

pub open_shards_serve : (settings : SettingsView) (history : List Event) → NoneCloses history → (zone : ℕ) (key : Key) (s : Shard) → (state_of settings history).shards zone key ≡ Some s → IsServing s
unfolding AllServe
open_shards_serve settings history none = serves_from settings (start settings) history none (λ zone key s is. absurd cc)

-- ---- a row that is taken away

at_fate : (fate : Fate) (hold : Hold) → (fate ≡ Closed) ⊎ ((n : ℕ) × (hold ≡ Closing n)) → is_some (first_refusal (fate_refusal fate) (hold_refusal hold)) ≡ true
at_fate fate hold (inl is) = ap (λ f. is_some (first_refusal (fate_refusal f) (hold_refusal hold))) is
at_fate Serving hold (inr is) = ap (λ x. is_some (hold_refusal x)) is.1
at_fate (Moved n) hold (inr is) = refl
at_fate Closed hold (inr is) = refl

refuses : (s : Shard) (over : ℕ) → (s.fate ≡ Closed) ⊎ (s.hold ≡ Closing (over + 1)) → is_some (change_refusal s) ≡ true
refuses s over (inl is) = at_fate s.fate s.hold (inl is)
refuses s over (inr is) = at_fate s.fate s.hold (inr (over + 1, is))

pub left_refuses : (o : Option Shard) (over : ℕ) → IsLeft o over → IsSomeAnd o (λ s. is_some (change_refusal s) ≡ true)
left_refuses o over l = subst (λ o. IsSomeAnd o (λ s. is_some (change_refusal s) ≡ true)) (sym l.there) (refuses l.shard over l.closed)

-- a shard that a row named and none names any more takes no change
pub left_shard_refuses : (settings : SettingsView) (history : List Event) (zone container number : ℕ) (instance : Instance) (shard : ℕ) → IsSettings settings → Legal settings history
    → (world_of settings history).rows.instances zone container number ≡ Some instance → IsUnnamed (rows_of (state_of settings history).root) zone container number → shard < instance.shards
    → IsSomeAnd ((state_of settings history).shards zone (shard_key container number shard)) (λ s. is_some (change_refusal s) ≡ true)
left_shard_refuses settings history zone container number instance shard good legal placed unnamed less =
    left_refuses ((state_of settings history).shards zone (shard_key container number shard)) instance.over
    ((holds_in settings history good legal).left zone container number instance shard placed unnamed less)
