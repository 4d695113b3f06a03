-- A suggestion from an entry that stands as it was seen is done, and takes all its changes away.
use Rattle.std.proofs.Common.{◌≡◌, ℕ, ◌≤◌, ◌<◌, ◌==◌, ◌&&◌, not, Bool, true, false, cond, List, [], ◌∷◌, length, Some, None, refl, sym, ◌∙◌, ap, subst, arith}
use Rattle.std.specs.List.{AllByRecursion}
use Rattle.std.proofs.lemmas.Bool.Decides.{nat_tests}
use Rattle.rgw_types.specs.declared.pool_key.Key.{Key}
use Rattle.rgw_types.specs.declared.stamp.Stamp.{Stamp}
use Rattle.object_words.specs.declared.bucket.Bucket.{Bucket}
use Rattle.object_words.specs.declared.entry.Tag.{Tag}
use Rattle.object_words.specs.declared.head.HeadSeen.{HeadSeen}
use Rattle.object_words.specs.declared.head.SeenSlot.{SeenSlot}
use Rattle.object_words.specs.declared.head.SeenSlot.TheVariants.{Nothing, Live, Mark}
use Rattle.object_words.specs.Entries.{EntryView, entry_of, with_tags, stored_if_newer, is_kept}
use Rattle.object_words.specs.Heads.{seen_stamp, row_of}
use Rattle.object_words.specs.HeadCalls.{seen}
use Rattle.object_words.specs.Keys.{is_key, head_key, shard_key, number_of}
use Rattle.object_words.specs.Names.{at}
use Rattle.object_words.specs.Refusals.{unless_refused}
use Rattle.object_words.specs.Rows.{RowView}
use Rattle.object_words.specs.Shards.{Shard, entry_at}
use Rattle.object_words.specs.ShardCalls.{settled, suggested}
use Rattle.object_words.specs.Tags.{is_due, has_due, tags_due_taken}
use Rattle.object_words.proofs.KeyLemmas.{same_key, key_itself, number_itself, same_text}
use Rattle.object_words.proofs.NameLemmas.{is_name_of, name_itself}
use Rattle.realm_model.specs.Containers.{entry_in}
use Rattle.realm_model.specs.Needs.{is_between}
use Rattle.realm_model.specs.Ops.{zone_of}
use Rattle.realm_model.specs.Allowed.{meets_need}
use Rattle.realm_model.specs.Settings.{SettingsView, IsSettings}
use Rattle.realm_model.specs.States.{State, at_moment, number_next, put_in}
use Rattle.realm_model.specs.Steps.{reply_or, on_shard, change_at, suggest_event_refusal, reply_of, after}
use Rattle.realm_model.specs.Worlds.{World, actor_of}
use Rattle.realm_model.specs.declared.op.Op.{Op}
use Rattle.realm_model.specs.declared.op.Op.TheVariants.{Suggest, HeadRead}
use Rattle.realm_model.specs.declared.event.Reply.{Reply}
use Rattle.realm_model.specs.declared.event.Reply.TheVariants.{Done, Head as head_reply}
use Rattle.realm_model.proofs.Computing.{left_of}
use Rattle.realm_model.proofs.EntryLemmas.{kept_or_none, at-with_entry}
use Rattle.index_law.specs.Serving.{IsServing}
use Rattle.index_law.proofs.EntryFacts.{not_stale}
use Rattle.task_repair.specs.Repairs.{Saying, asks_suggest, may_stand}
use Rattle.repair_law.specs.Repaired.{IsOverdue}
use Rattle.repair_law.proofs.Calm.{put_in_else}
use Rattle.repair_law.proofs.Sayings.{Told, Kept, told_before, waits_same}

-- ---- changes that are overdue

module _ (clock moment : ℕ) (late : clock ≤ moment) where
  due_now : (t : Tag) → IsOverdue clock t → is_due moment t ≡ true
  due_now t due = grind (arith, nat_tests, due, late)

  pub some_due : (tags : List Tag) → AllByRecursion (IsOverdue clock) tags → not (length tags == 0) ≡ true → has_due moment tags ≡ true
  some_due [] over some = cc
  some_due (t ∷ ts) over some = rw (due_now t over.0) refl

  pub all_taken_away : (tags : List Tag) → AllByRecursion (IsOverdue clock) tags → tags_due_taken moment tags ≡ []
  all_taken_away [] over = refl
  all_taken_away (t ∷ ts) over =
      ap (λ b. cond (not b) (t ∷ tags_due_taken moment ts) (tags_due_taken moment ts)) (due_now t over.0) ∙ all_taken_away ts over.1

-- ---- one shard

pub not_refused : (s : Shard) (name : List ℕ) (moment : ℕ) → IsServing s → has_due moment (entry_at s name).tags ≡ true → suggest_event_refusal s name (entry_at s name).revision moment ≡ None
not_refused s name moment serving due = rw (due, number_itself (entry_at s name).revision) (rw (serving.fate, serving.hold) refl)

settled_here : (s : Shard) (name : List ℕ) (tags : List Tag) (version : ℕ) (shown : RowView) → tags ≡ [] → (entry_at (settled s name tags version shown) name).tags ≡ []
settled_here s name tags version shown none =
    let e = stored_if_newer (with_tags (entry_at s name) tags) version shown in
    ap (λ o. (entry_of o).tags) (at-with_entry (record s { log = (settled s name tags version shown).log }) name e name ∙ ap (λ b. cond b (kept_or_none e) (at s.entries name)) (name_itself name))
    ∙ elim (is_kept e) as (λ b. (entry_of (cond b (Some e) None)).tags ≡ []) [
      | true ↦ none
      | false ↦ refl
    ]

settled_else : (s : Shard) (name : List ℕ) (tags : List Tag) (version : ℕ) (shown : RowView) (m : List ℕ) → is_name_of m name ≡ false → entry_at (settled s name tags version shown) m ≡ entry_at s m
settled_else s name tags version shown m other =
    let e = stored_if_newer (with_tags (entry_at s name) tags) version shown in
    ap entry_of (at-with_entry (record s { log = (settled s name tags version shown).log }) name e m ∙ ap (λ b. cond b (kept_or_none e) (at s.entries m)) other)

put_in_here : {A : Type 0} (f : ℕ → Key → A) (z : ℕ) (k : Key) (x : A) → put_in f z k x z k ≡ x
put_in_here f z k x = rw (number_itself z, key_itself k) refl

-- ---- in a world

module _ (settings : SettingsView) (good : IsSettings settings) (zone : ℕ) (bucket : List ℕ) (row : Bucket) (clock : ℕ) where
  abbrev pub KeptAt : World → Type 0
  KeptAt = Kept settings good zone bucket row clock

  abbrev key_at : ℕ → Key
  key_at number = shard_key row.id row.instance number

  -- what the shard of this number has of a name
  abbrev pub entry_there : World → ℕ → List ℕ → EntryView
  entry_there w number name = entry_in (w.state.shards zone (key_at number)) name

  -- a shard of the row is there and serves
  pub record ShardAt (w : World) (number : ℕ) : Type 0 where
    pub shard : Shard
    pub there : w.state.shards zone (key_at number) ≡ Some shard
    pub serving : IsServing shard

  pub shard_at : (w : World) (number : ℕ) → KeptAt w → number < row.shards → ShardAt w number
  shard_at w number k less =
      let m = k.serve.of_rows zone bucket row k.row_is number less in
      record { shard = m.shard; there = m.there; serving = k.free number less m.shard m.there }

  -- what was told is the answer of the step
  pub answered : (s : Saying) (w v : World) (t : Told settings zone bucket row clock s w v) → s.1 ≡ reply_of settings (at_moment (t.before).state (t.e).moment) s.0
  answered s w v t =
      sym t.reply_is ∙ (t.next).answer ∙ ap (λ op. reply_of settings (at_moment (t.before).state (t.e).moment) op) t.op_is

  -- ---- a head's row may stand in an index

  stands : (slot : SeenSlot) → ((stamp : Stamp) → seen_stamp slot ≡ Some stamp → stamp.zone ≡ zone) → is_between 1 8 zone ≡ true → may_stand slot ≡ true
  stands Nothing own within = refl
  stands (Live new stamp) own within = ap (is_between 1 8) (own stamp refl) ∙ within
  stands (Mark stamp) own within = refl

  seen_is : {one other : HeadSeen} {c d : ℕ} → head_reply one c ≡ head_reply other d → one ≡ other
  seen_is same = cc

  within_realm : (high n : ℕ) → high ≤ 8 → is_between 1 high n ≡ true → is_between 1 8 n ≡ true
  within_realm high n few is = grind (arith, nat_tests, few, is)

  pub head_stands : (name : List ℕ) (head : HeadSeen) (at_clock : ℕ) (w v : World) → Told settings zone bucket row clock (HeadRead zone row.id name, head_reply head at_clock) w v → KeptAt w → may_stand head.slot ≡ true
  head_stands name head at_clock w v t k =
      let before = t.before in
      let b = told_before settings good zone bucket row clock (HeadRead zone row.id name, head_reply head at_clock) w v t k in
      let is : head ≡ seen (before.state.heads zone (head_key row.id name)) (number_next before.state) = seen_is (answered (HeadRead zone row.id name, head_reply head at_clock) w v t) in
      let may = left_of (is_between 1 settings.zones (zone_of (t.e).op)) (meets_need settings (before.phases (actor_of t.e)) (t.e).op) (t.next).may in
      let zones = subst (λ op. is_between 1 settings.zones (zone_of op) ≡ true) t.op_is may in
      ap (λ (h : HeadSeen). may_stand h.slot) is
      ∙ stands (before.state.heads zone (head_key row.id name)).slot
      (λ stamp has. (b.stamps.own zone row.id name stamp has).zone_is) (within_realm settings.zones zone (good.zones).most zones)

  -- ---- a suggestion

  -- the name has no change under way any more, and all other entries are as before
  pub record Cleared (w v : World) (shard : ℕ) (name : List ℕ) : Type 0 where
    pub none : (entry_there v shard name).tags ≡ []
    pub others : (number : ℕ) (m : List ℕ) → number < row.shards → (number ≡ shard → m ≡ name → ⊥) → entry_there v number m ≡ entry_there w number m

  module _ (st : State) (shard : ℕ) (s : Shard) (there : st.shards zone (key_at shard) ≡ Some s) (name : List ℕ) (revision moment version : ℕ) (shown : RowView)
      (done : suggest_event_refusal s name revision moment ≡ None) where
    abbrev op : Op
    op = Suggest zone (key_at shard) name revision moment version shown

    abbrev left : Shard
    left = settled s name (tags_due_taken moment (entry_at s name).tags) version shown

    abbrev change : Shard → Shard
    change x = unless_refused (suggest_event_refusal x name revision moment) x (suggested x name revision moment version shown)

    changed : change s ≡ left
    changed =
        ap (λ r. unless_refused r s (suggested s name revision moment version shown)) done
        ∙ ap (λ r. unless_refused r s left) (not_stale s name revision moment done)

    here : (after settings st op).shards zone (key_at shard) ≡ Some left
    here =
        put_in_here st.shards zone (key_at shard) (change_at (st.shards zone (key_at shard)) change)
        ∙ ap (λ o. change_at o change) there
        ∙ ap (λ x. Some x) changed

    elsewhere : (number : ℕ) → is_key (key_at shard) (key_at number) ≡ false → (after settings st op).shards zone (key_at number) ≡ st.shards zone (key_at number)
    elsewhere number other =
        put_in_else st.shards zone (key_at shard) (change_at (st.shards zone (key_at shard)) change) zone (key_at number)
        (ap (λ b. (zone == zone) && b) other ∙ never (zone == zone))
      where
        never : (b : Bool) → (b && false) ≡ false
        never true = refl
        never false = refl

    pub done_here : tags_due_taken moment (entry_at s name).tags ≡ [] → (entry_in ((after settings st op).shards zone (key_at shard)) name).tags ≡ []
    done_here none = ap (λ o. (entry_in o name).tags) here ∙ settled_here s name (tags_due_taken moment (entry_at s name).tags) version shown none

    same_shard : (number : ℕ) (m : List ℕ) → is_key (key_at shard) (key_at number) ≡ true → shard ≡ number
    same_shard number m is = ap number_of (same_key (key_at shard) (key_at number) is)

    pub done_else : (number : ℕ) (m : List ℕ) → (number ≡ shard → m ≡ name → ⊥) → entry_in ((after settings st op).shards zone (key_at number)) m ≡ entry_in (st.shards zone (key_at number)) m
    done_else number m other =
        elim (is_key (key_at shard) (key_at number)) as (λ b. is_key (key_at shard) (key_at number) ≡ b → entry_in ((after settings st op).shards zone (key_at number)) m ≡ entry_in (st.shards zone (key_at number)) m) [
          | false ↦ λ apart. ap (λ o. entry_in o m) (elsewhere number apart)
          | true ↦ λ is.
              let one = same_shard number m is in
              subst (λ n. entry_in ((after settings st op).shards zone (key_at n)) m ≡ entry_in (st.shards zone (key_at n)) m) one
              (elim (is_name_of m name) as (λ b. is_name_of m name ≡ b → entry_in ((after settings st op).shards zone (key_at shard)) m ≡ entry_in (st.shards zone (key_at shard)) m) [
                | true ↦ λ tied. absurd (other (sym one) (same_text m name tied))
                | false ↦ λ apart.
                    ap (λ o. entry_in o m) here
                    ∙ settled_else s name (tags_due_taken moment (entry_at s name).tags) version shown m apart
                    ∙ sym (ap (λ o. entry_in o m) there)
              ] refl)
        ] refl

  -- the suggestion of an entry that stands as it was seen, at a moment at which all its changes were overdue
  pub suggest_done : (shard moment : ℕ) (e : List ℕ × EntryView) (head : HeadSeen) (reply : Reply) (w v : World) → Told settings zone bucket row clock (asks_suggest zone row shard moment e head, reply) w v → KeptAt w
      → shard < row.shards → clock ≤ moment → entry_there w shard e.0 ≡ e.1 → not (length (e.1).tags == 0) ≡ true → (reply ≡ Done) × Cleared w v shard e.0
  suggest_done shard moment e head reply w v t k less late is some =
      let u = t.before in
      let st = at_moment u.state (t.e).moment in
      let b = told_before settings good zone bucket row clock (asks_suggest zone row shard moment e head, reply) w v t k in
      let same = waits_same settings good zone bucket row clock w u t.waits in
      let x = shard_at u shard b less in
      let at_u : entry_at x.shard e.0 ≡ e.1 = ap (λ o. entry_in o e.0) (sym x.there ∙ same shard less) ∙ is in
      let over = subst (λ (y : EntryView). AllByRecursion (IsOverdue clock) y.tags) is (k.overdue shard e.0 less) in
      let due = some_due clock moment late (e.1).tags over some in
      let done : suggest_event_refusal x.shard e.0 (e.1).revision moment ≡ None =
      subst (λ (y : EntryView). suggest_event_refusal x.shard e.0 y.revision moment ≡ None) at_u
      (not_refused x.shard e.0 moment x.serving (subst (λ (y : EntryView). has_due moment y.tags ≡ true) (sym at_u) due)) in
      let taken = ap (λ (y : EntryView). tags_due_taken moment y.tags) at_u ∙ all_taken_away clock moment late (e.1).tags over in
      let op = asks_suggest zone row shard moment e head in
      let state : v.state ≡ after settings st op = ap (λ (y : World). y.state) (sym t.there) ∙ ap (λ o. after settings st o) t.op_is in
      let told : reply ≡ reply_of settings st op = answered (op, reply) w v t in (
        told
            ∙ ap (λ o. on_shard o (λ y. reply_or Done (suggest_event_refusal y e.0 (e.1).revision moment))) x.there
            ∙ ap (λ r. reply_or Done r) done,
        record {
          none =
              ap (λ (y : State). (entry_in (y.shards zone (key_at shard)) e.0).tags) state
              ∙ done_here st shard x.shard x.there e.0 (e.1).revision moment head.version (row_of head.slot) done taken;
          others = λ number m within other.
              ap (λ (y : State). entry_in (y.shards zone (key_at number)) m) state
              ∙ done_else st shard x.shard x.there e.0 (e.1).revision moment head.version (row_of head.slot) done number m other
              ∙ ap (λ o. entry_in o m) (same number within);
        },
      )
