-- What one event leaves of a container: of its row, and of the changes under way in its shards.
use Rattle.std.proofs.Common.{◌≡◌, ℕ, ◌≤◌, ◌<◌, ◌==◌, ◌&&◌, not, Bool, true, false, cond, List, Option, Some, None, refl, sym, ◌∙◌, ap, subst, arith}
use Rattle.std.specs.Prelude.{nat_lt, bytes_eq}
use Rattle.std.specs.List.{AllByRecursion}
use Rattle.std.proofs.lemmas.Bool.{both_ways, false_from_ne_true, not-true}
use Rattle.std.proofs.lemmas.Bool.Decides.{nat_tests}
use Rattle.std.proofs.lemmas.Slice.Eq.{bytes_eq-Decides}
use Rattle.rgw_types.specs.declared.pool_key.Key.{Key}
use Rattle.object_words.specs.declared.bucket.Bucket.{Bucket}
use Rattle.object_words.specs.declared.entry.Tag.{Tag}
use Rattle.object_words.specs.declared.why.Why.{Why}
use Rattle.object_words.specs.Entries.{EntryView, entry_of, with_tags, stored_if_newer}
use Rattle.object_words.specs.Keys.{is_key, put_key, shard_key}
use Rattle.object_words.specs.declared.shard.Hold.TheVariants.{Closing}
use Rattle.object_words.specs.HoldCalls.{close_refusal, closed, taken, released, shut_down}
use Rattle.object_words.specs.Names.{at}
use Rattle.object_words.specs.Refusals.{unless_refused}
use Rattle.object_words.specs.Logs.{logged}
use Rattle.object_words.specs.declared.log.LogWhat.TheVariants.{Bucket as bucket_row}
use Rattle.object_words.specs.Roots.{Root, is_logged, swap_refusal, swapped, stored_or_none, with_bucket}
use Rattle.object_words.specs.Rows.{RowView}
use Rattle.object_words.specs.Shards.{Shard, entry_at, with_entry}
use Rattle.object_words.specs.ShardCalls.{made, prepared, complete_refusal, completed, cancelled, settled, suggest_refusal, suggested}
use Rattle.object_words.specs.Tags.{without_tag, tags_due_taken}
use Rattle.object_words.proofs.KeyLemmas.{same_key, number_itself, same_text}
use Rattle.object_words.proofs.NameLemmas.{is_name_of, at-none, at-with_name, at-without_name}
use Rattle.realm_model.specs.Accounts.{has_shard}
use Rattle.realm_model.specs.Containers.{entry_in}
use Rattle.realm_model.specs.Settings.{SettingsView}
use Rattle.realm_model.specs.States.{State, at_moment, number_next, put_in}
use Rattle.realm_model.specs.Steps.{is_master, change_at, new_tag, suggest_event_refusal, touch_of, after}
use Rattle.realm_model.specs.declared.op.Op.{Op}
use Rattle.realm_model.specs.declared.op.Op.TheVariants.{BucketSwap, ShardMake, Prepare, Complete, Cancel, Suggest, CloseShard, Release, Shut}
use Rattle.realm_model.proofs.EntryLemmas.{kept_or_none, at-with_entry}
use Rattle.realm_model.proofs.ObjectLemmas.{number_same, put_in_cases}
use Rattle.realm_model.proofs.Runs.{touched-clock}
use Rattle.index_law.specs.Serving.{IsServing}
use Rattle.index_law.proofs.Closing.{taken_entries}
use Rattle.index_law.proofs.Served.{serves_here}
use Rattle.index_law.proofs.EntryLaws.{kept_all}
use Rattle.index_law.proofs.TagLists.{all_without, all_taken}
use Rattle.repair_law.specs.Repaired.{tags_in, may_change}
use Rattle.repair_law.specs.Settled.{prepares, swaps}

-- the operation leaves the row under the name, and neither prepares a change in the shards that it names nor closes one
abbrev pub is_mild : ℕ → List ℕ → Bucket → Op → Bool
is_mild zone bucket row (BucketSwap z name expected new) = not (z == zone && bytes_eq name bucket)
is_mild zone bucket row (Prepare z key name) = not (z == zone && has_shard key row)
is_mild zone bucket row (CloseShard z key id force) = not (z == zone && has_shard key row)
is_mild zone bucket row (Shut z key) = not (z == zone && has_shard key row)
is_mild zone bucket row op = true

pub mild_from : (zone : ℕ) (bucket : List ℕ) (row : Bucket) (op : Op) → may_change zone bucket row op ≡ false → is_mild zone bucket row op ≡ true
mild_from zone bucket row (BucketSwap z name expected new) other = ap not other
mild_from zone bucket row (Prepare z key name) other = ap not other
mild_from zone bucket row (CloseShard z key id force) other = ap not other
mild_from zone bucket row (Shut z key) other = ap not other
mild_from zone bucket row op other = refl

pub mild_prepares : (zone : ℕ) (bucket : List ℕ) (row : Bucket) (op : Op) → is_mild zone bucket row op ≡ true → prepares zone row op ≡ false
mild_prepares zone bucket row (Prepare z key name) mild = not-true _ mild
mild_prepares zone bucket row op mild = refl

-- ---- objects elsewhere

pub put_in_else : {A : Type 0} (f : ℕ → Key → A) (z : ℕ) (k : Key) (x : A) (zone : ℕ) (key : Key) → (z == zone && is_key k key) ≡ false → put_in f z k x zone key ≡ f zone key
put_in_else f z k x zone key other =
    elim (z == zone) as (λ b. (z == zone) ≡ b → (b && is_key k key) ≡ false → cond b (put_key (f z) k x) (f zone) key ≡ f zone key) [
      | true ↦ λ same apart. ap (λ b. cond b x (f z key)) apart ∙ ap (λ y. f y key) (number_same z zone same)
      | false ↦ λ apart no. refl
    ] refl other

module _ (zone : ℕ) (bucket : List ℕ) (row : Bucket) where
  abbrev pub key_at : ℕ → Key
  key_at number = shard_key row.id row.instance number

  named_here : (number : ℕ) → number < row.shards → has_shard (key_at number) row ≡ true
  named_here number less =
      let within : nat_lt number row.shards ≡ true = grind (arith, nat_tests, less) in
      rw (number_itself row.id, number_itself row.instance) within

  -- a shard that the row does not name is none of those that it names
  apart : (z : ℕ) (k : Key) (number : ℕ) → number < row.shards → (z == zone && has_shard k row) ≡ false → (z == zone && is_key k (key_at number)) ≡ false
  apart z k number less other =
      elim (is_key k (key_at number)) as (λ b. is_key k (key_at number) ≡ b → (z == zone && b) ≡ false) [
        | true ↦ λ same. subst (λ h. (z == zone && h) ≡ false) (ap (λ q. has_shard q row) (same_key k (key_at number) same) ∙ named_here number less) other
        | false ↦ λ no. never (z == zone)
      ] refl
    where
      never : (b : Bool) → (b && false) ≡ false
      never true = refl
      never false = refl

  -- ---- the shards of the row stay where the operation may not change them

  pub shard_stays : (settings : SettingsView) (st : State) (op : Op) → may_change zone bucket row op ≡ false → (number : ℕ) → number < row.shards → (after settings st op).shards zone (key_at number) ≡ st.shards zone (key_at number)
  shard_stays settings st (ShardMake z k) other number less = put_in_else st.shards z k (made (st.shards z k)) zone (key_at number) (apart z k number less other)
  shard_stays settings st (Prepare z k name) other number less =
      put_in_else st.shards z k (change_at (st.shards z k) (λ s. prepared s name (new_tag settings st))) zone (key_at number) (apart z k number less other)
  shard_stays settings st (Complete z k name tag version shown) other number less =
      put_in_else st.shards z k (change_at (st.shards z k) (λ s. completed s name tag version shown)) zone (key_at number) (apart z k number less other)
  shard_stays settings st (Cancel z k name tag) other number less =
      put_in_else st.shards z k (change_at (st.shards z k) (λ s. cancelled s name tag)) zone (key_at number) (apart z k number less other)
  shard_stays settings st (Suggest z k name revision seen version shown) other number less =
      put_in_else st.shards z k (change_at (st.shards z k) (λ s. unless_refused (suggest_event_refusal s name revision seen) s (suggested s name revision seen version shown))) zone (key_at number) (apart z k number less other)
  shard_stays settings st (CloseShard z k id force) other number less =
      put_in_else st.shards z k (change_at (st.shards z k) (λ s. closed s id force)) zone (key_at number) (apart z k number less other)
  shard_stays settings st (Release z k id) other number less =
      put_in_else st.shards z k (change_at (st.shards z k) (λ s. released s id)) zone (key_at number) (apart z k number less other)
  shard_stays settings st (Shut z k) other number less = put_in_else st.shards z k (change_at (st.shards z k) shut_down) zone (key_at number) (apart z k number less other)
  shard_stays settings st op other number less = refl

  -- and serve where it closes none of them
  pub serving_stays : (settings : SettingsView) (st : State) (op : Op) → is_mild zone bucket row op ≡ true → (number : ℕ) → number < row.shards → ((s : Shard) → st.shards zone (key_at number) ≡ Some s → IsServing s) → (s : Shard) → (after settings st op).shards zone (key_at number) ≡ Some s → IsServing s
  serving_stays settings st (CloseShard z k id force) mild number less was s there =
      was s (sym (put_in_else st.shards z k (change_at (st.shards z k) (λ s. closed s id force)) zone (key_at number) (apart z k number less (not-true _ mild))) ∙ there)
  serving_stays settings st (Shut z k) mild number less was s there =
      was s (sym (put_in_else st.shards z k (change_at (st.shards z k) shut_down) zone (key_at number) (apart z k number less (not-true _ mild))) ∙ there)
  serving_stays settings st op mild number less was s there = serves_here settings st op zone (key_at number) refl was s there

  -- ---- the row stays

  with_bucket_else : (root : Root) (name : List ℕ) (new : Option Bucket) → is_name_of bucket name ≡ false → at (with_bucket root.buckets name new) bucket ≡ at root.buckets bucket
  with_bucket_else root name (Some b) other = at-with_name root.buckets name b bucket ∙ ap (λ c. cond c (Some b) (at root.buckets bucket)) other
  with_bucket_else root name None other = at-without_name root.buckets name bucket ∙ ap (λ c. cond c None (at root.buckets bucket)) other

  pub swapped_else : (root : Root) (name : List ℕ) (expected : ℕ) (new : Option Bucket) (master : Bool) (number : ℕ) → is_name_of bucket name ≡ false → at (swapped root name expected new master number).buckets bucket ≡ at root.buckets bucket
  swapped_else root name expected new master number other =
      elim (swap_refusal root name expected) as (λ r. at (unless_refused r root changed).buckets bucket ≡ at root.buckets bucket) [
        | None ↦ with_bucket_else root name (stored_or_none (at root.buckets name) new master number) other
        | Some why ↦ refl
      ]
    where
      changed : Root
      changed = record {
        buckets = with_bucket root.buckets name (stored_or_none (at root.buckets name) new master number);
        log = cond (master && is_logged (at root.buckets name) new) (logged root.log (bucket_row name)) root.log;
      }

  other_name : (name : List ℕ) → bytes_eq name bucket ≡ false → is_name_of bucket name ≡ false
  other_name name other =
      false_from_ne_true _ (λ tied. both_ways _ other ((bytes_eq-Decides name bucket).1 (sym (same_text bucket name tied))))

  pub row_left : (settings : SettingsView) (st : State) (op : Op) → swaps zone bucket op ≡ false → at ((after settings st op).root zone).buckets bucket ≡ at (st.root zone).buckets bucket
  row_left settings st (BucketSwap z name expected new) none =
      elim (z == zone) as (λ b. (z == zone) ≡ b → (b && bytes_eq name bucket) ≡ false → at (cond b (swapped (st.root z) name expected new (is_master z) (number_next st)) (st.root zone)).buckets bucket ≡ at (st.root zone).buckets bucket) [
        | true ↦ λ same apart. swapped_else (st.root z) name expected new (is_master z) (number_next st) (other_name name apart) ∙ ap (λ y. at (st.root y).buckets bucket) (number_same z zone same)
        | false ↦ λ other apart. refl
      ] refl none
  row_left settings st op none = refl

  pub row_stays : (settings : SettingsView) (st : State) (op : Op) → is_mild zone bucket row op ≡ true → at ((after settings st op).root zone).buckets bucket ≡ at (st.root zone).buckets bucket
  row_stays settings st op mild = row_left settings st op (mild_swaps op mild) where
    mild_swaps : (op : Op) → is_mild zone bucket row op ≡ true → swaps zone bucket op ≡ false
    mild_swaps (BucketSwap z name expected new) mild = not-true _ mild
    mild_swaps op mild = refl

  -- ---- no operation but a preparation adds a change under way

  module _ (P : Tag → Type 0) where
    entry_less : (s : Shard) (n : List ℕ) (e : EntryView) (m : List ℕ) → (AllByRecursion P (entry_at s n).tags → AllByRecursion P e.tags) → AllByRecursion P (entry_at s m).tags → AllByRecursion P (entry_at (with_entry s n e) m).tags
    entry_less s n e m fewer all =
        rw (at-with_entry s n e m) (
        elim (is_name_of m n) as (λ b. is_name_of m n ≡ b → AllByRecursion P (entry_of (cond b (kept_or_none e) (at s.entries m))).tags) [
          | true ↦ λ is. kept_all P e (fewer (subst (λ q. AllByRecursion P (entry_at s q).tags) (same_text m n is) all))
          | false ↦ λ other. all
        ] refl)

    settled_less : (s : Shard) (n : List ℕ) (tags : List Tag) (version : ℕ) (shown : RowView) (m : List ℕ) → (AllByRecursion P (entry_at s n).tags → AllByRecursion P tags) → AllByRecursion P (entry_at s m).tags → AllByRecursion P (entry_at (settled s n tags version shown) m).tags
    settled_less s n tags version shown m fewer all =
        entry_less (record s { log = (settled s n tags version shown).log }) n (stored_if_newer (with_tags (entry_at s n) tags) version shown) m fewer all

    unless_less : (refusal : Option Why) (s new : Shard) (m : List ℕ) → (AllByRecursion P (entry_at s m).tags → AllByRecursion P (entry_at new m).tags) → AllByRecursion P (entry_at s m).tags → AllByRecursion P (entry_at (unless_refused refusal s new) m).tags
    unless_less None s new m fewer all = fewer all
    unless_less (Some why) s new m fewer all = all

    change_less : (o : Option Shard) (change : Shard → Shard) (m : List ℕ) → ((s : Shard) → AllByRecursion P (entry_at s m).tags → AllByRecursion P (entry_at (change s) m).tags) → AllByRecursion P (entry_in o m).tags → AllByRecursion P (entry_in (change_at o change) m).tags
    change_less None change m fewer all = all
    change_less (Some s) change m fewer all = fewer s all

    made_less : (o : Option Shard) (m : List ℕ) → AllByRecursion P (entry_in o m).tags → AllByRecursion P (entry_in (made o) m).tags
    made_less None m all = rw (at-none {X = EntryView} m) tt
    made_less (Some s) m all = all

    at_one : (st : State) (z : ℕ) (k : Key) (new : Option Shard) (m : List ℕ) → (AllByRecursion P (entry_in (st.shards z k) m).tags → AllByRecursion P (entry_in new m).tags)
        → (number : ℕ) → AllByRecursion P (tags_in st zone row number m) → AllByRecursion P (entry_in (put_in st.shards z k new zone (key_at number)) m).tags
    at_one st z k new m fewer number =
        put_in_cases (λ y q o. AllByRecursion P (entry_in (st.shards y q) m).tags → AllByRecursion P (entry_in o m).tags) st.shards z k new fewer (λ y q all. all) zone (key_at number)

    pub fewer_tags : (settings : SettingsView) (st : State) (op : Op) → prepares zone row op ≡ false → (number : ℕ) (m : List ℕ) → number < row.shards → AllByRecursion P (tags_in st zone row number m) → AllByRecursion P (tags_in (after settings st op) zone row number m)
    fewer_tags settings st (ShardMake z k) none number m less all = at_one st z k (made (st.shards z k)) m (made_less (st.shards z k) m) number all
    fewer_tags settings st (Prepare z k name) none number m less all =
        subst (λ o. AllByRecursion P (entry_in o m).tags) (sym (shard_stays settings st (Prepare z k name) none number less)) all
    fewer_tags settings st (Complete z k name tag version shown) none number m less all =
        at_one st z k (change_at (st.shards z k) (λ s. completed s name tag version shown)) m
        (change_less (st.shards z k) (λ s. completed s name tag version shown) m
        (λ s. unless_less (complete_refusal s name tag) s (settled s name (without_tag tag (entry_at s name).tags) version shown) m
        (settled_less s name (without_tag tag (entry_at s name).tags) version shown m (all_without P tag (entry_at s name).tags)))) number all
    fewer_tags settings st (Cancel z k name tag) none number m less all =
        at_one st z k (change_at (st.shards z k) (λ s. cancelled s name tag)) m
        (change_less (st.shards z k) (λ s. cancelled s name tag) m
        (λ s. unless_less (complete_refusal s name tag) s (with_entry s name (with_tags (entry_at s name) (without_tag tag (entry_at s name).tags))) m
        (entry_less s name (with_tags (entry_at s name) (without_tag tag (entry_at s name).tags)) m (all_without P tag (entry_at s name).tags)))) number all
    fewer_tags settings st (Suggest z k name revision seen version shown) none number m less all =
        at_one st z k (change_at (st.shards z k) (λ s. unless_refused (suggest_event_refusal s name revision seen) s (suggested s name revision seen version shown))) m
        (change_less (st.shards z k) (λ s. unless_refused (suggest_event_refusal s name revision seen) s (suggested s name revision seen version shown)) m
        (λ s. unless_less (suggest_event_refusal s name revision seen) s (suggested s name revision seen version shown) m
        (unless_less (suggest_refusal s name revision) s (settled s name (tags_due_taken seen (entry_at s name).tags) version shown) m
        (settled_less s name (tags_due_taken seen (entry_at s name).tags) version shown m (all_taken P seen (entry_at s name).tags))))) number all
    fewer_tags settings st (CloseShard z k id force) none number m less all =
        at_one st z k (change_at (st.shards z k) (λ s. closed s id force)) m
        (change_less (st.shards z k) (λ s. closed s id force) m
        (λ s. unless_less (close_refusal s id force) s (taken s id (Closing id)) m
        (subst (λ es. AllByRecursion P (entry_of (at es m)).tags) (sym (taken_entries s id))))) number all
    fewer_tags settings st (Release z k id) none number m less all =
        at_one st z k (change_at (st.shards z k) (λ s. released s id)) m (change_less (st.shards z k) (λ s. released s id) m (λ s had. had)) number all
    fewer_tags settings st (Shut z k) none number m less all =
        at_one st z k (change_at (st.shards z k) shut_down) m (change_less (st.shards z k) shut_down m (λ s had. rw (at-none {X = EntryView} m) tt)) number all
    fewer_tags settings st op none number m less all = all

-- the clock does not fall
pub clock_rises : (settings : SettingsView) (st : State) (moment : ℕ) (op : Op) → st.clock ≤ (after settings (at_moment st moment) op).clock
clock_rises settings st moment op =
    let now = at_moment st moment in
    let same = touched-clock settings now (touch_of settings now op) in
    let most : st.clock ≤ now.clock = omega arith in
    omega (arith, same, most)
