-- An operation that is refused leaves its object as it was.
use Rattle.std.proofs.Common.{◌≡◌, ℕ, List, Option, Some, None, refl, ap, ◌∙◌, arith}
use Rattle.rgw_types.specs.declared.pool_key.Key.{Key}
use Rattle.object_words.specs.declared.why.Why.{Why}
use Rattle.object_words.specs.Keys.{put, head_key, tail_key}
use Rattle.object_words.specs.Refusals.{unless_refused}
use Rattle.object_words.specs.Shards.{Shard}
use Rattle.object_words.specs.Heads.{Head, first_bytes}
use Rattle.object_words.specs.Roots.{Root, swap_refusal}
use Rattle.object_words.specs.Tails.{Tail, tail_refusal}
use Rattle.object_words.specs.ShardCalls.{prepare_refusal, complete_refusal}
use Rattle.object_words.specs.HeadCalls.{write_refusal}
use Rattle.object_words.specs.HoldCalls.{close_refusal}
use Rattle.object_words.proofs.KeyLemmas.{put_same, put_key_same}
use Rattle.realm_model.specs.Settings.{SettingsView}
use Rattle.realm_model.specs.States.{State, put_in, free_after, at_root, at_shard, at_head, at_tail, touched}
use Rattle.realm_model.specs.Steps.{reply_or, on_shard, change_at, suggest_event_refusal, reply_of, touch_of}
use Rattle.realm_model.specs.declared.op.Op.{Op}
use Rattle.realm_model.specs.declared.op.Op.TheVariants.{BucketSwap, ShardMake, Prepare, Complete, Cancel, Suggest, CloseShard, Release, Shut, HeadWrite, TailMake, Announce}
use Rattle.realm_model.specs.declared.event.Reply.{Reply}
use Rattle.realm_model.specs.declared.event.Reply.TheVariants.{Done, No}

pub put_in_same : {A : Type 0} (f : ℕ → Key → A) (zone : ℕ) (key : Key) → put_in f zone key (f zone key) ≡ f
put_in_same f zone key = ap (λ g. put f zone g) (put_key_same (f zone) key) ∙ put_same f zone

-- frames that are taken and given back
free_same : (frame free : ℕ) (bytes : List ℕ) → free_after frame free bytes bytes ≡ free
free_same frame free bytes = omega arith

free_stays : (frame : ℕ) (free : ℕ → ℕ) (zone : ℕ) (bytes : List ℕ) → put free zone (free_after frame (free zone) bytes bytes) ≡ free
free_stays frame free zone bytes = ap (λ n. put free zone n) (free_same frame (free zone) bytes) ∙ put_same free zone

module _ (settings : SettingsView) (st : State) (zone : ℕ) where
  root_same : (root : Root) → root ≡ st.root zone → touched settings st (at_root zone root) ≡ st
  root_same root same =
      ap (λ r. touched settings st (at_root zone r)) same ∙ ap (λ r. record st { root = r }) (put_same st.root zone)

  module _ (key : Key) where
    shard_same : (shard : Option Shard) → shard ≡ st.shards zone key → touched settings st (at_shard zone key shard) ≡ st
    shard_same shard same =
        ap (λ s. touched settings st (at_shard zone key s)) same
        ∙ ap (λ shards. record st { shards = shards }) (put_in_same st.shards zone key)

    pub head_same : (head : Head) → head ≡ st.heads zone key → touched settings st (at_head zone key head) ≡ st
    head_same head same =
        let heads = put_in_same st.heads zone key in
        let free = free_stays settings.frame st.free zone (first_bytes (st.heads zone key).slot) in
        ap (λ h. touched settings st (at_head zone key h)) same ∙ (λ i. record st { heads = heads i; free = free i })

    pub tail_same : (tail : Tail) → tail ≡ st.tails zone key → touched settings st (at_tail zone key tail) ≡ st
    tail_same tail same =
        let tails = put_in_same st.tails zone key in
        let free = free_stays settings.frame st.free zone (st.tails zone key).bytes in
        ap (λ t. touched settings st (at_tail zone key t)) same ∙ (λ i. record st { tails = tails i; free = free i })

-- a call that is refused leaves its object
kept : {X : Type 0} (refusal : Option Why) (reply : Reply) (old new : X) (why : Why) → ¬ (reply ≡ No why) → reply_or reply refusal ≡ No why → unless_refused refusal old new ≡ old
kept None reply old new why other refused = absurd (other refused)
kept (Some w) reply old new why other refused = refl

-- and so at a shard that may never have been made
kept_at : (shard : Option Shard) (refusal : Shard → Option Why) (reply : Shard → Reply) (new : Shard → Shard) (why : Why) → ((s : Shard) → ¬ (reply s ≡ No why)) → on_shard shard (λ s. reply_or (reply s) (refusal s)) ≡ No why → change_at shard (λ s. unless_refused (refusal s) s (new s)) ≡ shard
kept_at None refusal reply new why other refused = refl
kept_at (Some s) refusal reply new why other refused = ap (λ x. Some x) (kept (refusal s) (reply s) s (new s) why (other s) refused)

pub refused_stays : (settings : SettingsView) (st : State) (op : Op) (why : Why) → reply_of settings st op ≡ No why → touched settings st (touch_of settings st op) ≡ st
refused_stays settings st (BucketSwap zone name expected new) why refused =
    root_same settings st zone _ (kept (swap_refusal (st.root zone) name expected) Done _ _ why (λ is. cc) refused)
refused_stays settings st (ShardMake zone key) why refused = cc
refused_stays settings st (Prepare zone key name) why refused =
    shard_same settings st zone key _ (kept_at (st.shards zone key) prepare_refusal _ _ why (λ s is. cc) refused)
refused_stays settings st (Complete zone key name tag version row) why refused =
    shard_same settings st zone key _
    (kept_at (st.shards zone key) (λ s. complete_refusal s name tag) _ _ why (λ s is. cc) refused)
refused_stays settings st (Cancel zone key name tag) why refused =
    shard_same settings st zone key _
    (kept_at (st.shards zone key) (λ s. complete_refusal s name tag) _ _ why (λ s is. cc) refused)
refused_stays settings st (Suggest zone key name revision moment version row) why refused =
    shard_same settings st zone key _
    (kept_at (st.shards zone key) (λ s. suggest_event_refusal s name revision moment) _ _ why (λ s is. cc) refused)
refused_stays settings st (CloseShard zone key id force) why refused =
    shard_same settings st zone key _
    (kept_at (st.shards zone key) (λ s. close_refusal s id force) _ _ why (λ s is. cc) refused)
refused_stays settings st (Release zone key id) why refused = cc
refused_stays settings st (Shut zone key) why refused = cc
refused_stays settings st (HeadWrite zone container name guard new when) why refused =
    let head = st.heads zone (head_key container name) in
    head_same settings st zone (head_key container name) _
    (kept (write_refusal head guard new when st.clock (st.free zone) settings.frame) _ _ _ why (λ is. cc) refused)
refused_stays settings st (TailMake zone write part bytes) why refused =
    tail_same settings st zone (tail_key write part) _
    (kept (tail_refusal bytes (st.free zone) settings.frame) Done _ _ why (λ is. cc) refused)
refused_stays settings st (Announce zone container instance shard bucket) why refused = cc
refused_stays settings st op why refused = refl
