-- At one moment no shard is held or left, and no tag comes to its end.
use Rattle.std.proofs.Common.{◌≡◌, ◌⊎◌, inl, inr, ℕ, ◌+◌, ◌<◌, ◌==◌, ◌&&◌, ◌||◌, not, Bool, true, false, cond, List, [], ◌∷◌, Some, None, Option, refl, sym, ◌∙◌, ap, subst, arith, nat_lt}
use Rattle.std.specs.List.{AllByRecursion}
use Rattle.std.specs.Prelude.{is_some}
use Rattle.std.proofs.lemmas.Bool.Decides.{nat_tests}
use Rattle.rgw_types.specs.declared.pool_key.Key.{Key}
use Rattle.rgw_types.specs.declared.pool_key.Key.TheVariants.{Shard as KeyOfShard}
use Rattle.object_words.specs.declared.bucket.Bucket.{Bucket}
use Rattle.object_words.specs.declared.why.Why.{Why}
use Rattle.object_words.specs.declared.why.Why.TheVariants.{Held, NoTag}
use Rattle.object_words.specs.Hashes.{shard_of}
use Rattle.object_words.specs.Keys.{is_key, is_shard_key, shard_key, container_of, instance_of, number_of}
use Rattle.object_words.specs.Names.{Named, at, entries}
use Rattle.object_words.specs.Refusals.{first_refusal, fate_refusal, hold_refusal, change_refusal}
use Rattle.object_words.specs.ShardCalls.{prepare_refusal, tag_refusal, complete_refusal, page_of}
use Rattle.object_words.specs.Shards.{Shard, entry_at}
use Rattle.object_words.specs.Tags.{has_tag, guard_of}
use Rattle.object_words.proofs.KeyLemmas.{same_key}
use Rattle.realm_model.specs.Settings.{SettingsView}
use Rattle.realm_model.specs.Tests.{is_so}
use Rattle.realm_model.specs.States.{State}
use Rattle.realm_model.specs.Steps.{reply_or, on_shard, new_tag, reply_of}
use Rattle.realm_model.specs.Phases.{ActorId, RowRead, Stage, pending, tried, over, OwnTag, Phase}
use Rattle.realm_model.specs.Needs.{is_pending, is_over, has_read, names_shard, is_tag_of, is_change, is_tried_again}
use Rattle.realm_model.specs.Allowed.{meets_need}
use Rattle.realm_model.specs.Accounts.{Looked, MovedCount, has_shard, looked_since, is_left, moved_at}
use Rattle.realm_model.specs.Histories.{world_of, state_of, phase_of}
use Rattle.realm_model.specs.declared.op.Op.{Op}
use Rattle.realm_model.specs.declared.op.Op.TheVariants.{BucketRead, Page, Suggest, Prepare, Complete, Cancel, HeadRead, HeadWrite, TailMake, TailRead, Announce, BucketSwap, CloseShard, Shut}
use Rattle.realm_model.specs.declared.event.Reply.{Reply}
use Rattle.realm_model.specs.declared.event.Reply.TheVariants.{Done, No, Prepared, Entries}
use Rattle.realm_model.specs.declared.event.Event.{Event}
use Rattle.realm_model.proofs.Computing.{left_of, right_of}
use Rattle.realm_model.proofs.ObjectLemmas.{number_same}
use Rattle.index_law.specs.Invariants.{IndexHolds}
use Rattle.index_law.specs.Serving.{IsServing, IsMade}
use Rattle.index_law.specs.Tables.{rows_of}
use Rattle.index_law.proofs.Tests.{so, prepares}
use Rattle.index_law.proofs.TagLists.{find_any}
use Rattle.once_law.proofs.Open.{keeps_open}
use Rattle.once_law.proofs.Standing.{OfRow}

-- ---- operations

-- the operations of the tasks of calls; a page is one of a shard
abbrev pub is_of_task : Op → Bool
is_of_task (BucketRead zone name) = true
is_of_task (Prepare zone key name) = true
is_of_task (Complete zone key name tag version row) = true
is_of_task (Cancel zone key name tag) = true
is_of_task (HeadRead zone container name) = true
is_of_task (HeadWrite zone container name guard new when) = true
is_of_task (TailMake zone write part bytes) = true
is_of_task (TailRead zone write part begin count) = true
is_of_task (Announce zone container instance shard bucket) = true
is_of_task (Page zone key after limit) = is_shard_key key
is_of_task (Suggest zone key name revision seen version row) = true
is_of_task op = false

pub task_keeps : (op : Op) → is_of_task op ≡ true → keeps_open op ≡ true
task_keeps (BucketSwap zone name expected new) is = let e : false ≡ true = is in absurd (cc)
task_keeps (CloseShard zone key id force) is = let e : false ≡ true = is in absurd (cc)
task_keeps (Shut zone key) is = let e : false ≡ true = is in absurd (cc)
task_keeps op is = refl

-- ---- a key of a shard

pub record IsShardKey (key : Key) : Type 0 where
  pub container : ℕ
  pub instance : ℕ
  pub number : ℕ
  pub is : key ≡ shard_key container instance number

pub shard_shape : (key : Key) → is_shard_key key ≡ true → IsShardKey key
shard_shape (KeyOfShard c i n) is = record { container = c; instance = i; number = n; is = refl }
shard_shape key is = let e : false ≡ true = is in absurd (cc)

any_row : (xs : List (List ℕ × RowRead)) → AllByRecursion (λ e. Unit {0}) xs
any_row [] = tt
any_row (x ∷ xs) = (tt, any_row xs)

-- a row that was read named it
named_key : (rows : Named RowRead) (number : ℕ) (key : Key) (name : List ℕ) → has_read rows number (names_shard key name) ≡ true → IsShardKey key
named_key rows number key name may =
    let f = find_any (λ e. nat_lt number (e.1).at && is_so (e.1).row (names_shard key name)) (λ e. Unit {0}) (entries rows) may (any_row (entries rows)) in
    let r = so ((f.x).1).row (names_shard key name) (right_of (nat_lt number ((f.x).1).at) (is_so ((f.x).1).row (names_shard key name)) f.passes) in
    let row : Bucket = r.x in
    record { container = row.id; instance = row.instance; number = shard_of name row.shards; is = sym (same_key (shard_key row.id row.instance (shard_of name row.shards)) key r.passes) }

tried_key : (t : OwnTag) (rows : Named RowRead) (key : Key) (name : List ℕ) (stage : Stage) → is_tried_again t rows key name stage ≡ true → IsShardKey key
tried_key t rows key name (tried (Some number)) may = named_key rows number key name (right_of (container_of key == container_of t.key) _ may)
tried_key t rows key name (tried None) may = let e : false ≡ true = may in absurd (cc)
tried_key t rows key name pending may = let e : false ≡ true = may in absurd (cc)
tried_key t rows key name over may = let e : false ≡ true = may in absurd (cc)

either : (a b : Bool) → (a || b) ≡ true → (a ≡ true) ⊎ (b ≡ true)
either true b is = inl refl
either false b is = inr is

same_shard : (a b : Key) → is_key a b ≡ true → IsShardKey a → IsShardKey b
same_shard a b same x = record { container = x.container; instance = x.instance; number = x.number; is = sym (same_key a b same) ∙ x.is }

-- the own tag was prepared in a shard
pub own_key : (settings : SettingsView) (history : List Event) (actor : ActorId) → IndexHolds (world_of settings history) → (t : OwnTag) → (phase_of settings history actor).tag ≡ Some t → IsShardKey t.key
own_key settings history actor j t is =
    let o = (j.tags_of_prepare).own actor t is in
    let placed = (j.tags_of_prepare).placed t.guard.tag o.note o.there in
    record {
      container = container_of o.note.key;
      instance = instance_of o.note.key;
      number = shard_of o.note.name placed.instance.shards;
      is = sym o.key_is ∙ placed.key_is;
    }

-- the shard's key, in each operation on an entry that a task makes
module _ (settings : SettingsView) (p : Phase) (own : (t : OwnTag) → p.tag ≡ Some t → IsShardKey t.key) (zone : ℕ) (key : Key) (name : List ℕ) where
  pub prepare_key : meets_need settings p (Prepare zone key name) ≡ true → IsShardKey key
  prepare_key may = named_key (p.rows zone) 0 key name (prepares settings p zone key name may).read

  pub complete_key : (tag version : ℕ) (row : _) → meets_need settings p (Complete zone key name tag version row) ≡ true → IsShardKey key
  complete_key tag version row may =
      let o = so p.tag _ may in
      let t = o.x in
      let rest = right_of (not (is_over t.stage)) _ o.passes in
      let more = right_of (is_tag_of t zone name) _ rest in
      let last = right_of (t.guard.tag == tag) _ more in
      let shard = right_of (is_change t.change version row) _ last in
      elim (either (is_key t.key key) (is_tried_again t (p.rows zone) key name t.stage) shard) [
        | inl same ↦ same_shard t.key key same (own t o.is)
        | inr again ↦ tried_key t (p.rows zone) key name t.stage again
      ]

  pub cancel_key : (tag : ℕ) → meets_need settings p (Cancel zone key name tag) ≡ true → IsShardKey key
  cancel_key tag may =
      let o = so p.tag _ may in
      let t = o.x in
      let rest = right_of (is_pending t.stage) _ o.passes in
      let more = right_of (not (is_some t.change)) _ rest in
      let last = right_of (is_tag_of t zone name) _ more in
      let same = right_of (t.guard.tag == tag) (is_key t.key key) last in
      same_shard t.key key same (own t o.is)

-- ---- a shard that serves

pub serves_change : (s : Shard) → IsServing s → change_refusal s ≡ None
serves_change s x = λ i. first_refusal (fate_refusal (x.fate i)) (hold_refusal (x.hold i))

tag_left : (f : Option Why → Reply) (e : _) (tag : ℕ) → (is_left (f None) ≡ false) → (is_left (f (Some NoTag)) ≡ false) → is_left (f (tag_refusal e tag)) ≡ false
tag_left f e tag none some =
    elim (has_tag tag e.tags) as (λ b. is_left (f (cond b None (Some NoTag))) ≡ false) [
      | true ↦ none
      | false ↦ some
    ]

-- where the shard was made, a preparation, a completion and a cancel find it
module _ (settings : SettingsView) (st : State) (zone : ℕ) (key : Key) (name : List ℕ) (s : Shard) (there : st.shards zone key ≡ Some s) (serving : IsServing s) where
  pub prepare_stays : is_left (reply_of settings st (Prepare zone key name)) ≡ false
  prepare_stays =
      ap (λ o. is_left (on_shard o (λ s. reply_or (Prepared (guard_of (new_tag settings st))) (prepare_refusal s)))) there
      ∙ ap (λ r. is_left (reply_or (Prepared (guard_of (new_tag settings st))) r)) (serves_change s serving)

  pub ends_stay : (tag : ℕ) → is_left (on_shard (st.shards zone key) (λ s. reply_or Done (complete_refusal s name tag))) ≡ false
  ends_stay tag =
      ap (λ o. is_left (on_shard o (λ s. reply_or Done (complete_refusal s name tag)))) there
      ∙ ap (λ r. is_left (reply_or Done (first_refusal r (tag_refusal (entry_at s name) tag)))) (serves_change s serving)
      ∙ tag_left (λ r. reply_or Done r) (entry_at s name) tag refl refl

  pub page_stays : (after : List ℕ) (limit : ℕ) → is_left (reply_of settings st (Page zone key after limit)) ≡ false
  page_stays after limit =
      ap (λ o. is_left (on_shard o (λ s. reply_or (Entries (page_of s after limit st.clock)) (fate_refusal s.fate)))) there
      ∙ ap (λ f. is_left (reply_or (Entries (page_of s after limit st.clock)) (fate_refusal f))) serving.fate

-- a preparation meets no hold
pub holds_none : (settings : SettingsView) (st : State) (zone : ℕ) (key : Key) (name : List ℕ) (id : ℕ) → ((s : Shard) → st.shards zone key ≡ Some s → IsServing s) → No (Held id) ≡ reply_of settings st (Prepare zone key name) → ⊥
holds_none settings st zone key name id serving =
    elim (st.shards zone key) as (λ o. ((s : Shard) → o ≡ Some s → IsServing s) → No (Held id) ≡ on_shard o (λ s. reply_or (Prepared (guard_of (new_tag settings st))) (prepare_refusal s)) → ⊥) [
      | None ↦ λ f said. absurd (cc)
      | Some s ↦ λ f said.
          let e : No (Held id) ≡ Prepared (guard_of (new_tag settings st)) =
          said ∙ ap (λ r. reply_or (Prepared (guard_of (new_tag settings st))) r) (serves_change s (f s refl)) in
          absurd (cc)
    ] serving

-- ---- counts

pub left_count : (m : MovedCount) (looked : Option Looked) (zone : ℕ) (key : Key) (reply : Reply) (number : ℕ) → m.count ≡ 0 → (is_left reply ≡ true → looked_since looked m.last zone key ≡ true → ⊥) → (moved_at m looked zone key reply number).count ≡ 0
left_count m looked zone key reply number none apart =
    elim (is_left reply) as (λ b. is_left reply ≡ b → (cond b (record { count = cond (looked_since looked m.last zone key) (m.count + 1) m.count; last = number }) m).count ≡ 0) [
      | false ↦ λ is. none
      | true ↦ λ is.
          elim (looked_since looked m.last zone key) as (λ b. looked_since looked m.last zone key ≡ b → cond b (m.count + 1) m.count ≡ 0) [
            | false ↦ λ other. none
            | true ↦ λ named. absurd (apart is named)
          ] refl
    ] refl

-- the last look named the shard
module _ (settings : SettingsView) (base : List Event) (st : State) (roots : (zone : ℕ) → st.root zone ≡ (state_of settings base).root zone)
    (made : (zone : ℕ) (name : List ℕ) (row : Bucket) → rows_of st.root zone name ≡ Some row → (number : ℕ) → number < row.shards → IsMade st.shards zone (shard_key row.id row.instance number))
    (looked : Option Looked) (of_row : OfRow settings base looked) (zone : ℕ) (key : Key) (shape : IsShardKey key) where
  pub made_by_look : (last : ℕ) → looked_since looked last zone key ≡ true → IsMade st.shards zone key
  made_by_look last named =
      let l = so looked _ named in
      let both = right_of (nat_lt last l.x.number) _ l.passes in
      let in_zone = number_same l.x.zone zone (left_of (l.x.zone == zone) _ both) in
      let r = so l.x.row (has_shard key) (right_of (l.x.zone == zone) _ both) in
      let row : Bucket = r.x in
      let id = number_same row.id (container_of key) (left_of (row.id == container_of key) _ r.passes) in
      let rest = right_of (row.id == container_of key) _ r.passes in
      let instance = number_same row.instance (instance_of key) (left_of (row.instance == instance_of key) _ rest) in
      let low : number_of key < row.shards = let t = right_of (row.instance == instance_of key) (nat_lt (number_of key) row.shards) rest in grind (arith, nat_tests) in
      let there : rows_of st.root l.x.zone l.x.name ≡ Some row = ap (λ root. at root.buckets l.x.name) (roots l.x.zone) ∙ sym (of_row l.x l.is) ∙ r.is in
      let m = made l.x.zone l.x.name row there (number_of key) low in
      let same : shard_key row.id row.instance (number_of key) ≡ key =
      (λ i. shard_key (id i) (instance i) (number_of key)) ∙ whole key shape in
      subst (λ z. IsMade st.shards z key) in_zone (subst (IsMade st.shards l.x.zone) same m)
    where
      whole : (key : Key) → IsShardKey key → shard_key (container_of key) (instance_of key) (number_of key) ≡ key
      whole key x = subst (λ k. shard_key (container_of k) (instance_of k) (number_of k) ≡ k) (sym x.is) refl
