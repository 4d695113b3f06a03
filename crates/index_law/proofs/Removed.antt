-- A container whose row is taken away in zone 1 has no live name there, then and ever after.
use Rattle.std.proofs.Common.{◌≡◌, ⊎_elim, ℕ, ◌==◌, ◌&&◌, ◌≤◌, ◌<◌, ◌%◌, ◌^◌, Bool, true, false, cond, List, [], ◌∷◌, ◌++◌, Option, Some, None, refl, sym, subst, ap, ◌∙◌, arith, mod-lt, append_assoc}
use Rattle.object_words.specs.declared.bucket.Bucket.{Bucket}
use Rattle.object_words.specs.declared.head.SeenSlot.{SeenSlot}
use Rattle.object_words.specs.declared.head.SeenSlot.TheVariants.{Nothing, Live, Mark}
use Rattle.object_words.specs.declared.why.Why.{Why}
use Rattle.object_words.specs.Hashes.{shard_of, mixed, hash_of}
use Rattle.object_words.specs.Keys.{head_key, shard_key}
use Rattle.object_words.specs.Names.{at}
use Rattle.object_words.specs.Entries.{EntryView, no_entry, entry_of}
use Rattle.object_words.specs.Heads.{row_of, is_live}
use Rattle.object_words.specs.Roots.{Root, version_of, swap_refusal, swapped, stored_or_none, with_bucket, is_logged}
use Rattle.object_words.specs.declared.log.LogWhat.TheVariants.{Bucket as bucket_row}
use Rattle.object_words.specs.Logs.{logged}
use Rattle.object_words.specs.Refusals.{unless_refused}
use Rattle.object_words.proofs.NameLemmas.{name_itself, at-without_name}
use Rattle.object_words.specs.declared.entry.Tag.{Tag}
use Rattle.object_words.specs.Tags.{has_tag}
use Rattle.object_words.specs.Rows.{RowView}
use Rattle.realm_model.specs.Containers.{key_of_name, entry_in}
use Rattle.realm_model.specs.Histories.{world_of, state_of, LegalFrom, Legal}
use Rattle.realm_model.specs.Maps.{Maps, no_maps, mapped, slot_at, heads}
use Rattle.realm_model.specs.Facts.{Home}
use Rattle.realm_model.specs.Needs.{is_between, is_form}
use Rattle.realm_model.specs.Allowed.{meets_need}
use Rattle.realm_model.specs.Ops.{zone_of}
use Rattle.realm_model.specs.Phases.{RowRead, Phase}
use Rattle.realm_model.specs.Settings.{SettingsView, IsSettings}
use Rattle.realm_model.specs.States.{State, at_moment, number_next}
use Rattle.realm_model.specs.Steps.{reply_or, reply_of, after}
use Rattle.realm_model.specs.Worlds.{World, start, tags_after, actor_of, happens}
use Rattle.realm_model.specs.declared.event.Event.{Event}
use Rattle.realm_model.specs.declared.event.Reply.TheVariants.{Done}
use Rattle.realm_model.specs.declared.op.Op.TheVariants.{BucketSwap}
use Rattle.realm_model.proofs.Agreeing.{heads_agree}
use Rattle.realm_model.proofs.Computing.{left_of, right_of}
use Rattle.realm_model.proofs.ObjectLemmas.{number_same}
use Rattle.realm_model.proofs.Runs.{last_is_next, legal_front, legal_back}
use Rattle.index_law.specs.Tables.{entries_of, rows_of, IsPlaced, StandsIn}
use Rattle.index_law.specs.Rows.{IsNamed}
use Rattle.index_law.specs.Holds.{HoldsIn}
use Rattle.index_law.specs.Invariants.{IndexHolds}
use Rattle.index_law.proofs.Tests.{so}
use Rattle.index_law.proofs.Forms.{Form, removing, form_of}
use Rattle.index_law.proofs.Keeping.{kept_is, keeps, holds}
use Rattle.index_law.proofs.Moves.{rows_move}
use Rattle.index_law.proofs.MapStays.{mapped_by-append}
use Rattle.index_law.proofs.Fallen.{AreSpent, clock_moves, spent_when_closed, map_fallen}
use Rattle.index_law.proofs.HoldEvents.{holds_next, holds_in}
use Rattle.index_law.proofs.RemoveHolds.{Removes, removes}

done_passes : (r : Option Why) → Done ≡ reply_or Done r → r ≡ None
done_passes None told = refl
done_passes (Some why) told = absurd cc

-- the row that a removal takes away, and that each of its shards was closed
record Removal (w : World) (me : Phase) (zone : ℕ) (name : List ℕ) : Type 0 where
  old : Bucket
  kept : rows_of w.state.root zone name ≡ Some old
  closed : Removes me zone old

removal_of : (settings : SettingsView) (good : IsSettings settings) (w : World) (j : IndexHolds w) (e : Event) (zone : ℕ) (name : List ℕ) (expected : ℕ) → meets_need settings (w.phases (actor_of e)) (BucketSwap zone name expected None) ≡ true
    → swap_refusal (w.state.root zone) name expected ≡ None → Removal w (w.phases (actor_of e)) zone name
removal_of settings good w j e zone name expected may ok =
    let p = w.phases (actor_of e) in
    let r = so (at (p.rows zone) name) _ may in
    let version = number_same (version_of (r.x).row) expected (left_of (version_of (r.x).row == expected) (is_form p zone name (r.x).row None) r.passes) in
    by_row r.x r.is (r.x).row refl (ap (swap_refusal (w.state.root zone) name) version ∙ ok) (form_of p zone name (r.x).row None (right_of (version_of (r.x).row == expected) (is_form p zone name (r.x).row None) r.passes)) where
      by_row : (read : RowRead) → at ((w.phases (actor_of e)).rows zone) name ≡ Some read → (row : Option Bucket) → read.row ≡ row → swap_refusal (w.state.root zone) name (version_of row) ≡ None → Form (w.phases (actor_of e)) zone name row None → Removal w (w.phases (actor_of e)) zone name
      by_row read shown None is ok form = elim form [ ]
      by_row read shown (Some old) is ok (removing removal) = record {
        old = old;
        kept = kept_is settings good w j (actor_of e) e.moment zone name read shown (Some old) is ok;
        closed = removes (w.phases (actor_of e)) zone name old removal;
      }

dead : (slot : SeenSlot) → no_entry.row ≡ row_of slot → is_live slot ≡ false
dead Nothing is = refl
dead (Live new stamp) is = absurd (let bad = ap (λ (r : RowView). r.exists) is in cc)
dead (Mark stamp) is = refl

no_tag : (tag : ℕ) (tags : List Tag) → tags ≡ [] → has_tag tag tags ≡ true → ⊥
no_tag tag [] is has = cc
no_tag tag (t ∷ ts) is has = cc

pub removed_empty : (settings : SettingsView) (history : List Event) (e : Event) (name : List ℕ) (expected : ℕ) (row : Bucket) (n : List ℕ) → IsSettings settings → Legal settings (history ++ e ∷ []) → e.op ≡ BucketSwap 1 name expected None → e.reply ≡ Done
    → at ((state_of settings history).root 1).buckets name ≡ Some row → is_live (slot_at (heads history 1 row.id) n) ≡ false
removed_empty settings history e name expected row n good legal op reply here =
    let w = world_of settings history in
    let front = legal_front settings (start settings) history (e ∷ []) legal in
    let j = holds settings history good front in
    let h = holds_in settings history good front in
    let next = last_is_next settings history e legal in
    let p = w.phases (actor_of e) in
    let st = at_moment w.state e.moment in
    let may = subst (λ o. meets_need settings p o ≡ true) op (right_of (is_between 1 settings.zones (zone_of e.op)) (meets_need settings p e.op) next.may) in
    let answer : Done ≡ reply_of settings st (BucketSwap 1 name expected None) = sym reply ∙ next.answer ∙ ap (reply_of settings st) op in
    let x = removal_of settings good w j e 1 name expected may (done_passes (swap_refusal (w.state.root 1) name expected) answer) in
    let one : x.old ≡ row = same_in (sym x.kept ∙ here) in
    subst (λ (b : Bucket). is_live (slot_at (heads history 1 b.id) n) ≡ false) one (of_old j h front x.old x.kept x.closed) where
      same_in : {A : Type 0} {x y : A} → Some x ≡ Some y → x ≡ y
      same_in same = cc

      within : (row : Bucket) → 1 ≤ row.shards → shard_of n row.shards < row.shards
      within row some = mod-lt (mixed (hash_of n % 2 ^ 32) % 7877) (omega (arith, some))

      of_old : IndexHolds (world_of settings history) → HoldsIn (world_of settings history) → Legal settings history → (old : Bucket) → rows_of (world_of settings history).state.root 1 name ≡ Some old → Removes ((world_of settings history).phases (actor_of e)) 1 old
          → is_live (slot_at (heads history 1 old.id) n) ≡ false
      of_old j h front old kept r =
          let w = world_of settings history in
          let named = (j.rows_stand.kept 1 name old kept).named in
          let key = key_of_name old n in
          let taken = h.taken (actor_of e) 1 name old r.busy r.own (shard_of n old.shards) kept r.in_progress r.begun r.closing (r.closed (shard_of n old.shards) (within old named.some)) in
          let none : entries_of w.state.shards 1 key n ≡ no_entry = ap (λ o. entry_in o n) taken.there ∙ ap entry_of (taken.empty refl n) in
          let placed : IsPlaced w.rows.instances 1 key n = record { instance = named.instance; placed = named.placed; key_is = ap (λ count. shard_key old.id old.instance (shard_of n count)) (sym named.shards_are) } in
          let stands : StandsIn w old.id = record { home = named.home; made = named.made; row = old; kept = ap (rows_of w.state.root 1) named.name_is ∙ kept; id_is = refl } in
          let a = j.agreements 1 key n placed stands in
          let slot : slot_at (heads history 1 old.id) n ≡ (w.state.heads 1 (head_key old.id n)).slot = heads_agree settings history front 1 old.id n in
          ap is_live slot
          ∙ ⊎_elim (λ l. absurd (let has = ap (λ (v : EntryView). v.tags) none in no_tag l.tag (entries_of w.state.shards 1 key n).tags has l.there)) (λ s. dead (w.state.heads 1 (head_key old.id n)).slot (ap (λ (v : EntryView). v.row) (sym none) ∙ s.0)) a.agree

-- ---- and none ever after

swapped_out : (root : Root) (name : List ℕ) (expected : ℕ) (master : Bool) (number : ℕ) → swap_refusal root name expected ≡ None → at (swapped root name expected None master number).buckets name ≡ None
swapped_out root name expected master number ok =
    ap (λ r. at (unless_refused r root taken).buckets name) ok
    ∙ at-without_name root.buckets name name
    ∙ ap (λ b. cond b None (at root.buckets name)) (name_itself name)
  where
    taken : Root
    taken = record {
      buckets = with_bucket root.buckets name (stored_or_none (at root.buckets name) None master number);
      log = cond (master && is_logged (at root.buckets name) None) (logged root.log (bucket_row name)) root.log;
    }

module _ (settings : SettingsView) (good : IsSettings settings) (history : List Event) (e : Event) (later : List Event) (legal : Legal settings (history ++ e ∷ later)) (name : List ℕ) (expected : ℕ)
    (op : e.op ≡ BucketSwap 1 name expected None) (reply : e.reply ≡ Done) where
  abbrev w : World
  w = world_of settings history

  abbrev st : State
  st = at_moment w.state e.moment

  front : Legal settings history
  front = legal_front settings (start settings) history (e ∷ later) legal

  behind : LegalFrom settings w (e ∷ later)
  behind = legal_back settings (start settings) history (e ∷ later) legal

  j : IndexHolds w
  j = holds settings history good front

  h : HoldsIn w
  h = holds_in settings history good front

  ok : swap_refusal (w.state.root 1) name expected ≡ None
  ok = done_passes (swap_refusal (w.state.root 1) name expected) (sym reply ∙ behind.0.answer ∙ ap (reply_of settings st) op)

  x : Removal w (w.phases (actor_of e)) 1 name
  x =
      removal_of settings good w j e 1 name expected
      (subst (λ o. meets_need settings (w.phases (actor_of e)) o ≡ true) op (right_of (is_between 1 settings.zones (zone_of e.op)) (meets_need settings (w.phases (actor_of e)) e.op) behind.0.may)) ok

  named : IsNamed w.rows.homes w.rows.instances 1 name x.old
  named = (j.rows_stand.kept 1 name x.old x.kept).named

  grown : (happens settings w e).rows.homes (x.old).id ≡ Some named.home
  grown = (rows_move settings good w j e behind.0).homes_grow (x.old).id named.home named.made

  out : rows_of (happens settings w e).state.root 1 name ≡ None
  out = ap (λ o. at ((after settings st o).root 1).buckets name) op ∙ swapped_out (w.state.root 1) name expected true (number_next st) ok

  fallen : StandsIn (happens settings w e) (x.old).id → ⊥
  fallen s =
      let homes : Some s.home ≡ Some named.home = sym s.made ∙ grown in
      let home : s.home ≡ named.home = cc in
      let there : None ≡ Some s.row = sym out ∙ ap (rows_of (happens settings w e).state.root 1) (sym (ap (λ (q : Home). q.name) home ∙ named.name_is)) ∙ s.kept in
      absurd cc

  spent : AreSpent (x.old).id (happens settings w e)
  spent tag note is in_zone of_it still =
      let old : w.index.tags tag ≡ Some note = ap (λ o. tags_after w.index.tags (actor_of e) o e.reply tag) (sym op) ∙ is in
      let low = spent_when_closed w j h (actor_of e) name x.old x.kept x.closed tag note old in_zone of_it still in
      let clock = clock_moves settings w e in
      omega (arith, low, clock)

  map_is : heads (history ++ e ∷ later) 1 (x.old).id ≡ heads history 1 (x.old).id
  map_is =
      ap (λ (m : Maps). m 1 (x.old).id) (mapped_by-append no_maps history (e ∷ later))
      ∙ map_fallen settings good (x.old).id later (happens settings w e) (mapped (heads history) e.op e.reply) (keeps settings good w j e behind.0) (holds_next settings good w j h e behind.0) behind.1
      (record { home = named.home; made = grown }) fallen spent
      ∙ ap (λ o. mapped (heads history) o e.reply 1 (x.old).id) op

  pub kept_map : (row : Bucket) → at (w.state.root 1).buckets name ≡ Some row → heads (history ++ e ∷ later) 1 row.id ≡ heads history 1 row.id
  kept_map row here =
      let one : Some x.old ≡ Some row = sym x.kept ∙ here in
      let same : x.old ≡ row = cc in
      subst (λ (b : Bucket). heads (history ++ e ∷ later) 1 b.id ≡ heads history 1 b.id) same map_is

pub removed_for_good : (settings : SettingsView) (history : List Event) (e : Event) (later : List Event) (name : List ℕ) (expected : ℕ) (row : Bucket) (n : List ℕ) → IsSettings settings → Legal settings (history ++ e ∷ later) → e.op ≡ BucketSwap 1 name expected None → e.reply ≡ Done
    → at ((state_of settings history).root 1).buckets name ≡ Some row → is_live (slot_at (heads (history ++ e ∷ later) 1 row.id) n) ≡ false
removed_for_good settings history e later name expected row n good legal op reply here =
    ap (λ m. is_live (slot_at m n)) (kept_map settings good history e later legal name expected op reply row here)
    ∙ removed_empty settings history e name expected row n good
    (legal_front settings (start settings) (history ++ e ∷ []) later (subst (Legal settings) (sym (append_assoc history (e ∷ []) later)) legal)) op reply here
