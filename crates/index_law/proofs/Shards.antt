-- Shards are made once and stay, and those of a row were made by its maker.
use Rattle.std.proofs.Common.{◌≡◌, inl, inr, ℕ, ◌+◌, ◌==◌, ◌<◌, ◌&&◌, Bool, true, false, cond, List, [], ◌∷◌, Option, Some, None, refl, sym, subst, ap, ◌∙◌, arith, ◌≤◌}
use Rattle.std.specs.List.{AllByRecursion}
use Rattle.rgw_types.specs.declared.pool_key.Key.{Key}
use Rattle.object_words.specs.declared.bucket.Bucket.{Bucket}
use Rattle.object_words.specs.declared.why.Why.{Why}
use Rattle.object_words.specs.declared.why.Why.TheVariants.{Absent}
use Rattle.object_words.specs.Keys.{put, shard_key, container_of, is_key}
use Rattle.object_words.specs.Names.{at, entries as names_of}
use Rattle.object_words.specs.Refusals.{unless_refused, change_refusal}
use Rattle.object_words.specs.Limits.{is_name}
use Rattle.object_words.specs.declared.log.LogWhat.TheVariants.{Bucket as bucket_row}
use Rattle.object_words.specs.Logs.{Log, logged}
use Rattle.object_words.specs.Rows.{RowView}
use Rattle.std.proofs.lemmas.Bool.Decides.{nat_tests}
use Rattle.std.proofs.lemmas.Bool.{true≢false}
use Rattle.object_words.specs.Roots.{is_logged, version_of, swap_refusal, stored, stored_or_none, with_bucket}
use Rattle.object_words.specs.Shards.{Shard, new_shard, entry_at, with_entry}
use Rattle.object_words.specs.ShardCalls.{logged_if_newer, made, prepare_refusal, tag_refusal, complete_refusal, suggest_refusal, settled, suggested}
use Rattle.object_words.specs.declared.shard.Hold.TheVariants.{Closing}
use Rattle.object_words.specs.HoldCalls.{close_refusal, taken, released, shut_down}
use Rattle.object_words.specs.Tags.{has_tag, has_due, with_tag, without_tag, tags_due_taken, guard_of}
use Rattle.object_words.specs.Entries.{EntryView, entry_of, with_tags, stored_if_newer, is_kept}
use Rattle.object_words.proofs.KeyLemmas.{same_key, same_text, key_itself, number_itself, put_same}
use Rattle.object_words.proofs.NameLemmas.{is_name_of, at-none}
use Rattle.object_words.specs.declared.entry.Tag.{Tag}
use Rattle.object_words.specs.Numbers.{next}
use Rattle.realm_model.proofs.EntryLemmas.{kept_or_none, at-with_entry}
use Rattle.realm_model.specs.Settings.{SettingsView}
use Rattle.realm_model.specs.Tests.{is_so}
use Rattle.realm_model.specs.Ops.{zone_of}
use Rattle.realm_model.specs.Phases.{ActorId, FirstEvent, RowRead, OwnShards, Phase}
use Rattle.realm_model.specs.Needs.{is_between, object_limit, is_new_shard, is_form}
use Rattle.realm_model.specs.Allowed.{meets_need}
use Rattle.realm_model.specs.Learnt.{row_known, with_read, left_by_swap, with_shards, shards_after, first_after, learnt}
use Rattle.realm_model.specs.States.{State, at_moment, clock_at, put_in}
use Rattle.realm_model.specs.Steps.{is_master, change_at, on_shard, row_reply, new_tag, suggest_event_refusal, reply_or, reply_of, after}
use Rattle.realm_model.specs.Worlds.{World, start, put_actor, actor_of, happens}
use Rattle.realm_model.specs.Histories.{run, world_of, IsNext, LegalFrom, Legal}
use Rattle.realm_model.specs.declared.op.Op.{Op}
use Rattle.realm_model.specs.declared.op.Op.TheVariants.{BucketRead, BucketSwap, ShardMake, Prepare, Complete, Cancel, Suggest, CloseShard, Release, Shut, Announce}
use Rattle.realm_model.specs.declared.event.Event.{Event}
use Rattle.realm_model.specs.declared.event.Reply.{Reply}
use Rattle.realm_model.specs.declared.event.Reply.TheVariants.{Done, No, Row, Prepared, Position}
use Rattle.realm_model.proofs.Computing.{left_of, right_of}
use Rattle.realm_model.proofs.ObjectLemmas.{number_same, put_cases, put_in_cases, put_actor_cases}
use Rattle.index_law.specs.Tables.{Rows, rows_of}
use Rattle.index_law.specs.Serving.{IsHeld, HoldsEntries, IsMade, HasShards, ReadHasShards, ShardsServe}
use Rattle.index_law.proofs.Puts.{call_cases}
use Rattle.index_law.proofs.EntryFacts.{first_none, tag_there, timely}
use Rattle.index_law.proofs.Tests.{So, so, prepares}
use Rattle.index_law.proofs.Forms.{Makes, Alters, Form, making, altering, form_of}
use Rattle.index_law.proofs.Moving.{with_root, row_back}
use Rattle.index_law.proofs.Closing.{taken_entries}
use Rattle.index_law.proofs.NameLists.{all_with_name, all_at}
use Rattle.index_law.proofs.NoteLemmas.{all_map}
use Rattle.index_law.proofs.Keeping.{no_pairs}

abbrev Pool : Type 0
Pool = ℕ → Key → Option Shard

-- no shard is lost
abbrev Grows : Pool → Pool → Type 0
Grows shards shards' = (zone : ℕ) (key : Key) → IsMade shards zone key → IsMade shards' zone key

put_grows : (shards : Pool) (zone : ℕ) (key : Key) (s : Shard) → Grows shards (put_in shards zone key (Some s))
put_grows shards zone key s z k m =
    let x = put_in_cases (λ z k o. IsMade shards z k → (x : Shard) × (o ≡ Some x)) shards zone key (Some s) (λ m. (s, refl)) (λ z k m. (m.shard, m.there)) z k m in
    record { shard = x.0; there = x.1 }

-- how many own shards were made changes by a shard that is made alone
made_same : (shards : ℕ → ℕ → OwnShards) (p : Phase) (op : Op) (reply : Reply) → ((zone : ℕ) (key : Key) → op ≡ ShardMake zone key → ⊥) → (zone container : ℕ) → (shards_after shards p op reply zone container).made ≡ (shards zone container).made
made_same shards p op reply other zone container = same op reply other zone container where
  changed : (z c : ℕ) (change : OwnShards → OwnShards) → ((own : OwnShards) → (change own).made ≡ own.made) → (zone container : ℕ) → (with_shards shards z c change zone container).made ≡ (shards zone container).made
  changed z c change keeps =
      put_cases (λ y g. (d : ℕ) → (g d).made ≡ (shards y d).made) shards z (put (shards z) c (change (shards z c)))
      (put_cases (λ d own. own.made ≡ (shards z d).made) (shards z) c (change (shards z c)) (keeps (shards z c)) (λ d. refl)) (λ y d. refl)

  same : (op : Op) (reply : Reply) → ((zone : ℕ) (key : Key) → op ≡ ShardMake zone key → ⊥) → (zone container : ℕ) → (shards_after shards p op reply zone container).made ≡ (shards zone container).made
  same (ShardMake zone key) Done n z c = absurd (n zone key refl)
  same (BucketSwap zone name expected None) Done n z c = refl
  same (BucketSwap zone name expected (Some new)) Done n z c =
      elim (expected == 0) as (λ b. ((cond b (with_shards shards zone new.id (λ own. record own { placed = true })) shards) z c).made ≡ (shards z c).made) [
        | true ↦ changed zone new.id (λ own. record own { placed = true }) (λ own. refl) z c
        | false ↦ refl
      ]
  same (Announce zone container instance shard bucket) (Position position) n z c =
      elim (is_new_shard p zone (shard_key container instance shard)) as (λ b. ((cond b (with_shards shards zone container (λ own. record own { announced = put own.announced shard true })) shards) z c).made ≡ (shards z c).made) [
        | true ↦ changed zone container (λ own. record own { announced = put own.announced shard true }) (λ own. refl) z c
        | false ↦ refl
      ]
  same op reply n z c = refl

-- ---- one event more

module _ (w : World) (j : ShardsServe w.state.shards (rows_of w.state.root) w.phases) (me : ActorId) (moment : ℕ) (op : Op) (reply : Reply) where
  abbrev phase : Phase
  phase = learnt (w.phases me) op reply (w.state.count + 1) (clock_at w.state.clock moment)

  -- the shards of rows that were read stay made
  reads_more : (shards : Pool) → Grows w.state.shards shards → (a : ActorId) (zone : ℕ) → AllByRecursion (ReadHasShards shards zone) (names_of ((w.phases a).rows zone))
  reads_more shards grows a zone =
      all_map (ReadHasShards w.state.shards zone) (ReadHasShards shards zone) (λ e has row is number less. grows zone (shard_key row.id row.instance number) (has row is number less)) (names_of ((w.phases a).rows zone)) (j.of_reads a zone)

  -- from what the event leaves of shards, of rows and of its actor's own shards
  serves_after : (shards : Pool) (rows : Rows) → Grows w.state.shards shards → ((zone : ℕ) (key : Key) (s : Shard) → shards zone key ≡ Some s → HoldsEntries s)
      → ((zone container number : ℕ) (first : FirstEvent) → (w.phases me).first ≡ Some first → number < (phase.shards zone container).made → IsMade shards zone (shard_key container first.number number))
      → ((zone container : ℕ) → (w.phases me).first ≡ None → (phase.shards zone container).made ≡ 0)
      → ((zone : ℕ) (name : List ℕ) (row : Bucket) → rows zone name ≡ Some row → HasShards shards zone row)
      → ((zone : ℕ) → AllByRecursion (ReadHasShards shards zone) (names_of (phase.rows zone)))
      → ShardsServe shards rows (put_actor w.phases me phase)
  serves_after shards rows grows held own none of_rows of_reads = record {
    held = held;
    own_made = put_actor_cases (λ a p. (zone container number : ℕ) (first : FirstEvent) → p.first ≡ Some first → number < (p.shards zone container).made → IsMade shards zone (shard_key container first.number number)) w.phases me phase
        (λ z c n f is less. by_first z c n f (w.phases me).first refl is less)
        (λ a z c n f is less. grows z (shard_key c f.number n) (j.own_made a z c n f is less));
    none_made = put_actor_cases (λ a p. (zone container : ℕ) → p.first ≡ None → (p.shards zone container).made ≡ 0) w.phases me phase
        (λ z c is. absurd (never (w.phases me).first is)) j.none_made;
    of_rows = of_rows;
    of_reads = put_actor_cases (λ a p. (zone : ℕ) → AllByRecursion (ReadHasShards shards zone) (names_of (p.rows zone))) w.phases me phase of_reads (λ a. reads_more shards grows a);
  } where
    never : (first : Option FirstEvent) → first_after first (w.state.count + 1) (clock_at w.state.clock moment) ≡ None → ⊥
    never None is = cc
    never (Some f) is = cc

    by_first : (z c n : ℕ) (f : FirstEvent) (first : Option FirstEvent) → (w.phases me).first ≡ first → first_after first (w.state.count + 1) (clock_at w.state.clock moment) ≡ Some f → n < (phase.shards z c).made → IsMade shards z (shard_key c f.number n)
    by_first z c n f None was is less = let zero = none z c was in absurd (omega (arith, zero, less))
    by_first z c n f (Some g) was is less = let same : g ≡ f = cc in own z c n f (was ∙ ap (λ x. Some x) same) less

  -- an event that makes no shard and no row
  serves_same : ((zone : ℕ) (key : Key) → op ≡ ShardMake zone key → ⊥) → phase.rows ≡ (w.phases me).rows → (shards : Pool) → Grows w.state.shards shards → ((zone : ℕ) (key : Key) (s : Shard) → shards zone key ≡ Some s → HoldsEntries s)
      → ShardsServe shards (rows_of w.state.root) (put_actor w.phases me phase)
  serves_same other reads shards grows held =
      serves_after shards (rows_of w.state.root) grows held
      (λ z c n f is less. let same = made_same (w.phases me).shards (w.phases me) op reply other z c in grows z (shard_key c f.number n) (j.own_made me z c n f is (omega (arith, same, less))))
      (λ z c none. made_same (w.phases me).shards (w.phases me) op reply other z c ∙ j.none_made me z c none)
      (λ z n row is number less. grows z (shard_key row.id row.instance number) (j.of_rows z n row is number less))
      (subst (λ r. (zone : ℕ) → AllByRecursion (ReadHasShards shards zone) (names_of (r zone))) (sym reads) (reads_more shards grows me))

-- ---- one entry changed

next_positive : (n : ℕ) → 1 ≤ next n
next_positive n = omega arith

-- an entry with a tag is there, so its name is within the bounds
tagged_named : (s : Shard) (name : List ℕ) (test : List Tag → Bool) → test [] ≡ false → HoldsEntries s → test (entry_at s name).tags ≡ true → is_name object_limit name ≡ true
tagged_named s name test none is =
    elim (at s.entries name) as (λ o. at s.entries name ≡ o → test (entry_of o).tags ≡ true → is_name object_limit name ≡ true) [
      | None ↦ λ there has. absurd (true≢false (sym has ∙ none))
      | Some e ↦ λ there has. (is name e there).named
    ] refl

entry_serves : (s : Shard) (name : List ℕ) (e : EntryView) → is_name object_limit name ≡ true → 1 ≤ e.revision → HoldsEntries s → HoldsEntries (with_entry s name e)
entry_serves s name e named revision is = λ q x there. by_name q x (sym (at-with_entry s name e q) ∙ there) where
  by_kept : (x : EntryView) → kept_or_none e ≡ Some x → IsHeld name x
  by_kept x there =
      elim (is_kept e) as (λ b. is_kept e ≡ b → cond b (Some e) None ≡ Some x → IsHeld name x) [
        | true ↦ λ kept same. let one : e ≡ x = cc in subst (IsHeld name) one (record { named = named; revision = revision; kept = kept })
        | false ↦ λ gone none. absurd cc
      ] refl there

  by_name : (q : List ℕ) (x : EntryView) → cond (is_name_of q name) (kept_or_none e) (at s.entries q) ≡ Some x → IsHeld q x
  by_name q x there =
      elim (is_name_of q name) as (λ b. is_name_of q name ≡ b → cond b (kept_or_none e) (at s.entries q) ≡ Some x → IsHeld q x) [
        | true ↦ λ same here. subst (λ n. IsHeld n x) (sym (same_text q name same)) (by_kept x here)
        | false ↦ λ other old. is q x old
      ] refl there

tags_serve : (s : Shard) (name : List ℕ) (tags : List Tag) → is_name object_limit name ≡ true → HoldsEntries s → HoldsEntries (with_entry s name (with_tags (entry_at s name) tags))
tags_serve s name tags named is = entry_serves s name (with_tags (entry_at s name) tags) named (next_positive (entry_at s name).revision) is

settled_serves : (s : Shard) (name : List ℕ) (tags : List Tag) (version : ℕ) (row : RowView) → is_name object_limit name ≡ true → HoldsEntries s → HoldsEntries (settled s name tags version row)
settled_serves s name tags version row named is =
    entry_serves (record s { log = logged_if_newer s.log (entry_at s name).version name version }) name (stored_if_newer (with_tags (entry_at s name) tags) version row) named (next_positive (entry_at s name).revision)
    is

-- ---- each event

module _ (settings : SettingsView) (w : World) (j : ShardsServe w.state.shards (rows_of w.state.root) w.phases) (me : ActorId) (moment : ℕ) where
  abbrev st : State
  st = at_moment w.state moment

  abbrev p : Phase
  p = w.phases me

  abbrev Left : Op → Reply → Type 0
  Left op reply = ShardsServe (after settings st op).shards (rows_of (after settings st op).root) (put_actor w.phases me (learnt p op reply (w.state.count + 1) (clock_at w.state.clock moment)))

  unchanged : (op : Op) (reply : Reply) → ((zone : ℕ) (key : Key) → op ≡ ShardMake zone key → ⊥) → (learnt p op reply (w.state.count + 1) (clock_at w.state.clock moment)).rows ≡ p.rows → ShardsServe w.state.shards (rows_of w.state.root) (put_actor w.phases me (learnt p op reply (w.state.count + 1) (clock_at w.state.clock moment)))
  unchanged op reply other reads = serves_same w j me moment op reply other reads w.state.shards (λ z k m. m) j.held

  -- a call on a shard
  called : (op : Op) → ((zone : ℕ) (key : Key) → op ≡ ShardMake zone key → ⊥) → ((reply : Reply) → (learnt p op reply (w.state.count + 1) (clock_at w.state.clock moment)).rows ≡ p.rows) → (zone : ℕ) (key : Key) (refusal : Shard → Option Why) (new : Shard → Shard) (reply : Shard → Reply) → ((s : Shard) → refusal s ≡ None → HoldsEntries s → HoldsEntries (new s))
      → ShardsServe (put_in w.state.shards zone key (change_at (w.state.shards zone key) (λ s. unless_refused (refusal s) s (new s)))) (rows_of w.state.root)
      (put_actor w.phases me (learnt p op (on_shard (w.state.shards zone key) (λ s. reply_or (reply s) (refusal s))) (w.state.count + 1) (clock_at w.state.clock moment)))
  called op other reads zone key refusal new reply keeps =
      call_cases (λ shards said. ShardsServe shards (rows_of w.state.root) (put_actor w.phases me (learnt p op said (w.state.count + 1) (clock_at w.state.clock moment)))) w.state.shards zone key refusal new reply
      (λ why. unchanged op (No why) other (reads (No why)))
      (λ s there ok.
      serves_same w j me moment op (reply s) other (reads (reply s)) (put_in w.state.shards zone key (Some (new s))) (put_grows w.state.shards zone key (new s))
      (put_in_cases (λ z k o. (x : Shard) → o ≡ Some x → HoldsEntries x) w.state.shards zone key (Some (new s))
      (λ x is. let same : new s ≡ x = cc in subst HoldsEntries same (keeps s ok (j.held zone key s there))) j.held))

  -- a completion or a cancel that is not refused finds its tag, and a suggestion one that is due
  completed_named : (s : Shard) (name : List ℕ) (tag : ℕ) → complete_refusal s name tag ≡ None → HoldsEntries s → is_name object_limit name ≡ true
  completed_named s name tag ok is =
      tagged_named s name (has_tag tag) refl is (tag_there (entry_at s name) tag (first_none (change_refusal s) (tag_refusal (entry_at s name) tag) ok))

  suggested_serves : (s : Shard) (name : List ℕ) (revision seen version : ℕ) (row : RowView) → suggest_event_refusal s name revision seen ≡ None → HoldsEntries s → HoldsEntries (suggested s name revision seen version row)
  suggested_serves s name revision seen version row ok is =
      elim (suggest_refusal s name revision) as (λ r. HoldsEntries (unless_refused r s (settled s name (tags_due_taken seen (entry_at s name).tags) version row))) [
        | None ↦ settled_serves s name (tags_due_taken seen (entry_at s name).tags) version row (tagged_named s name (has_due seen) refl is (timely s name revision seen ok).due) is
        | Some why ↦ is
      ]

  -- a shard that is made serves
  make_serves : (zone : ℕ) (key : Key) → meets_need settings p (ShardMake zone key) ≡ true → Left (ShardMake zone key) Done
  make_serves zone key may =
      serves_after w j me moment (ShardMake zone key) Done shards (rows_of w.state.root) grows held own none
      (λ z n row is number less. grows z (shard_key row.id row.instance number) (j.of_rows z n row is number less))
      (reads_more w j me moment (ShardMake zone key) Done shards grows me) where
        shards : Pool
        shards = put_in w.state.shards zone key (made (w.state.shards zone key))

        first : So p.first (λ f. is_key (shard_key (container_of key) f.number (p.shards zone (container_of key)).made) key)
        first = so p.first _ (left_of (is_so p.first (λ f. is_key (shard_key (container_of key) f.number (p.shards zone (container_of key)).made) key)) _ may)

        there : (o : Option Shard) → (x : Shard) × (made o ≡ Some x)
        there None = (new_shard, refl)
        there (Some s) = (s, refl)

        grows : Grows w.state.shards shards
        grows z k m =
            let x = put_in_cases (λ z k o. IsMade w.state.shards z k → (x : Shard) × (o ≡ Some x)) w.state.shards zone key (made (w.state.shards zone key)) (λ n. there (w.state.shards zone key)) (λ z k n. (n.shard, n.there)) z k m in
            record { shard = x.0; there = x.1 }

        held_made : (o : Option Shard) → ((s : Shard) → o ≡ Some s → HoldsEntries s) → (x : Shard) → made o ≡ Some x → HoldsEntries x
        held_made None was x is = let same : new_shard ≡ x = cc in subst HoldsEntries same (λ name e there. absurd (let none = at-none {X = EntryView} name in cc))
        held_made (Some s) was x is = was x is

        held : (z : ℕ) (k : Key) (s : Shard) → shards z k ≡ Some s → HoldsEntries s
        held = put_in_cases (λ z k o. (x : Shard) → o ≡ Some x → HoldsEntries x) w.state.shards zone key (made (w.state.shards zone key)) (held_made (w.state.shards zone key) (j.held zone key)) j.held

        key_made : IsMade shards zone key
        key_made =
            let x = there (w.state.shards zone key) in
            record { shard = x.0; there = rw (number_itself zone, key_itself key) x.1 }

        own : (z c n : ℕ) (f : FirstEvent) → p.first ≡ Some f → n < (shards_after p.shards p (ShardMake zone key) Done z c).made → IsMade shards z (shard_key c f.number n)
        own z c n f is =
            put_cases (λ y g. (d : ℕ) → n < (g d).made → IsMade shards y (shard_key d f.number n)) p.shards zone _
            (put_cases (λ d own. n < own.made → IsMade shards zone (shard_key d f.number n)) (p.shards zone) (container_of key) _
            (λ less.
            elim (n == (p.shards zone (container_of key)).made) as (λ b. (n == (p.shards zone (container_of key)).made) ≡ b → IsMade shards zone (shard_key (container_of key) f.number n)) [
              | true ↦ λ at_next.
                  let firsts : Some first.x ≡ Some f = sym first.is ∙ is in
                  let same : first.x ≡ f = cc in
                  let key_is = same_key (shard_key (container_of key) (first.x).number (p.shards zone (container_of key)).made) key first.passes in
                  let here : shard_key (container_of key) f.number n ≡ key = (λ i. shard_key (container_of key) (sym same i).number (number_same n (p.shards zone (container_of key)).made at_next i)) ∙ key_is in
                  subst (λ k. IsMade shards zone k) (sym here) key_made
              | false ↦ λ other. grows zone (shard_key (container_of key) f.number n) (j.own_made me zone (container_of key) n f is (grind (arith, nat_tests)))
            ] refl)
            (λ d less. grows zone (shard_key d f.number n) (j.own_made me zone d n f is less))) (λ y d less. grows y (shard_key d f.number n) (j.own_made me y d n f is less)) z c

        none : (z c : ℕ) → p.first ≡ None → (shards_after p.shards p (ShardMake zone key) Done z c).made ≡ 0
        none z c is = absurd (let has = first.is in cc)

  module _ (zone : ℕ) (name : List ℕ) where
    -- rows that were read have their shards, with one read more
    reads_with : (row : Option Bucket) → ((r : Bucket) → row ≡ Some r → HasShards w.state.shards zone r) → (z : ℕ) → AllByRecursion (ReadHasShards w.state.shards z) (names_of (with_read p.rows zone name row (w.state.count + 1) z))
    reads_with row has =
        put_cases (λ z rows. AllByRecursion (ReadHasShards w.state.shards z) (names_of rows)) p.rows zone _
        (all_with_name (ReadHasShards w.state.shards zone) (p.rows zone) name (record { row = row; at = w.state.count + 1 }) has (j.of_reads me zone)) (j.of_reads me)

    -- an event that makes no shard and touches none
    with_rows : (op : Op) (reply : Reply) → ((zone : ℕ) (key : Key) → op ≡ ShardMake zone key → ⊥) → (rows : Rows) → ((zone : ℕ) (name : List ℕ) (row : Bucket) → rows zone name ≡ Some row → HasShards w.state.shards zone row)
        → ((z : ℕ) → AllByRecursion (ReadHasShards w.state.shards z) (names_of ((learnt p op reply (w.state.count + 1) (clock_at w.state.clock moment)).rows z)))
        → ShardsServe w.state.shards rows (put_actor w.phases me (learnt p op reply (w.state.count + 1) (clock_at w.state.clock moment)))
    with_rows op reply other rows of_rows of_reads =
        serves_after w j me moment op reply w.state.shards rows (λ z k m. m) j.held
        (λ z c n f is less. let same = made_same p.shards p op reply other z c in j.own_made me z c n f is (omega (arith, same, less)))
        (λ z c none. made_same p.shards p op reply other z c ∙ j.none_made me z c none) of_rows of_reads

    read_serves : Left (BucketRead zone name) (reply_of settings st (BucketRead zone name))
    read_serves =
        elim (at (w.state.root zone).buckets name) as (λ o. at (w.state.root zone).buckets name ≡ o → Left (BucketRead zone name) (row_reply o)) [
          | None ↦ λ is. with_rows (BucketRead zone name) (No Absent) (λ z k e. cc) (rows_of w.state.root) j.of_rows (reads_with None (λ r none. cc))
          | Some row ↦ λ is. with_rows (BucketRead zone name) (Row row) (λ z k e. cc) (rows_of w.state.root) j.of_rows
              (reads_with (Some row) (λ r same. let it : row ≡ r = cc in subst (HasShards w.state.shards zone) it (j.of_rows zone name row is)))
        ] refl

    -- the shards of a row with the same index are the same
    same_shards : (old new : Bucket) → Alters p zone name old new → HasShards w.state.shards zone old → HasShards w.state.shards zone new
    same_shards old new same has number less =
        let count = same.shards in
        subst (λ k. IsMade w.state.shards zone k) (λ i. shard_key (same.id i) (same.instance i) number) (has number (omega (arith, count, less)))

    -- a row that is made has the shards that its maker made
    made_shards : (b : Bucket) → Makes p zone name b → HasShards w.state.shards zone b
    made_shards b m number less =
        let count = m.shards_are in
        subst (λ i. IsMade w.state.shards zone (shard_key b.id i number)) m.instance_is (j.own_made me zone b.id number m.first m.first_is (omega (arith, less, count)))

    module _ (expected : ℕ) (new : Option Bucket) (has : (b : Bucket) → new ≡ Some b → HasShards w.state.shards zone b) where
      abbrev op : Op
      op = BucketSwap zone name expected new

      abbrev now : Option Bucket
      now = stored_or_none (at (w.state.root zone).buckets name) new (is_master zone) (w.state.count + 1)

      abbrev log : Log
      log = cond (is_master zone && is_logged (at (w.state.root zone).buckets name) new) (logged (w.state.root zone).log (bucket_row name)) (w.state.root zone).log

      -- what is stored has the shards of the new row
      stored_has : (kept : Option Bucket) (o : Option Bucket) → new ≡ o → (r : Bucket) → stored_or_none kept o (is_master zone) (w.state.count + 1) ≡ Some r → HasShards w.state.shards zone r
      stored_has kept None is r there = absurd cc
      stored_has kept (Some b) is r there = let it : stored kept b (is_master zone) (w.state.count + 1) ≡ r = cc in subst (HasShards w.state.shards zone) it (has b is)

      of_rows : (z : ℕ) (n : List ℕ) (r : Bucket) → rows_of (with_root w.state.root zone name now log) z n ≡ Some r → HasShards w.state.shards z r
      of_rows z n r is =
          elim (row_back w.state.root zone name now log z n (Some r) is) [
            | inl moved ↦ subst (λ y. HasShards w.state.shards y r) (sym moved.0) (stored_has (at (w.state.root zone).buckets name) new refl r moved.2)
            | inr there ↦ j.of_rows z n r there.0
          ]

      swap_done : Left op (reply_of settings st op)
      swap_done =
          elim (swap_refusal (w.state.root zone) name expected) as (λ r. ShardsServe w.state.shards (rows_of (put w.state.root zone (unless_refused r (w.state.root zone) (record { buckets = with_bucket (w.state.root zone).buckets name now; log = log })))) (put_actor w.phases me (learnt p op (reply_or Done r) (w.state.count + 1) (clock_at w.state.clock moment)))) [
            | None ↦ with_rows op Done (λ z k e. cc) (rows_of (with_root w.state.root zone name now log)) of_rows (reads_with (left_by_swap p.rows zone name new (w.state.count + 1)) (stored_has (row_known (p.rows zone) name) new refl))
            | Some why ↦ subst (λ root. ShardsServe w.state.shards (rows_of root) (put_actor w.phases me (learnt p op (No why) (w.state.count + 1) (clock_at w.state.clock moment)))) (sym (put_same w.state.root zone)) (unchanged op (No why) (λ z k e. cc) refl)
          ]

    swap_serves : (expected : ℕ) (new : Option Bucket) → meets_need settings p (BucketSwap zone name expected new) ≡ true → Left (BucketSwap zone name expected new) (reply_of settings st (BucketSwap zone name expected new))
    swap_serves expected new may =
        let read = so (at (p.rows zone) name) _ may in
        swap_done expected new (by_form read.x read.is (read.x).row new refl (form_of p zone name (read.x).row new (right_of (version_of (read.x).row == expected) (is_form p zone name (read.x).row new) read.passes))) where
          by_form : (read : RowRead) → at (p.rows zone) name ≡ Some read → (row new : Option Bucket) → read.row ≡ row → Form p zone name row new → (b : Bucket) → new ≡ Some b → HasShards w.state.shards zone b
          by_form read shown None None is form b new_is = elim form [ ]
          by_form read shown None (Some x) is (making m) b new_is = let same : x ≡ b = cc in subst (HasShards w.state.shards zone) same (made_shards x m)
          by_form read shown (Some old) (Some x) is (altering alt) b new_is =
              let same : x ≡ b = cc in
              let has = all_at (ReadHasShards w.state.shards zone) (p.rows zone) name read (j.of_reads me zone) shown old is in
              subst (HasShards w.state.shards zone) same (same_shards old x alt has)
          by_form read shown (Some old) None is form b new_is = absurd cc

  -- a call on the hold of a shard leaves its entries, and a shard that is shut has none
  one_shard : (op : Op) → ((zone : ℕ) (key : Key) → op ≡ ShardMake zone key → ⊥) → (learnt p op Done (w.state.count + 1) (clock_at w.state.clock moment)).rows ≡ p.rows → (zone : ℕ) (key : Key) (change : Shard → Shard) → ((s : Shard) → HoldsEntries s → HoldsEntries (change s))
      → ShardsServe (put_in w.state.shards zone key (change_at (w.state.shards zone key) change)) (rows_of w.state.root) (put_actor w.phases me (learnt p op Done (w.state.count + 1) (clock_at w.state.clock moment)))
  one_shard op other reads zone key change keeps =
      serves_same w j me moment op Done other reads (put_in w.state.shards zone key (change_at (w.state.shards zone key) change)) grows
      (put_in_cases (λ z k o. (x : Shard) → o ≡ Some x → HoldsEntries x) w.state.shards zone key (change_at (w.state.shards zone key) change) (held (w.state.shards zone key) (j.held zone key)) j.held) where
        held : (o : Option Shard) → ((s : Shard) → o ≡ Some s → HoldsEntries s) → (x : Shard) → change_at o change ≡ Some x → HoldsEntries x
        held None was x is = absurd cc
        held (Some s) was x is = let same : change s ≡ x = cc in subst HoldsEntries same (keeps s (was s refl))

        there : (o : Option Shard) (s : Shard) → o ≡ Some s → (x : Shard) × (change_at o change ≡ Some x)
        there None s is = absurd cc
        there (Some s) x is = (change s, refl)

        grows : Grows w.state.shards (put_in w.state.shards zone key (change_at (w.state.shards zone key) change))
        grows z k m =
            let x = put_in_cases (λ z k o. IsMade w.state.shards z k → (x : Shard) × (o ≡ Some x)) w.state.shards zone key (change_at (w.state.shards zone key) change) (λ n. there (w.state.shards zone key) n.shard n.there) (λ z k n. (n.shard, n.there)) z k m in
            record { shard = x.0; there = x.1 }

  taken_held : (s : Shard) (id : ℕ) → HoldsEntries s → HoldsEntries (taken s id (Closing id))
  taken_held s id is = subst (λ es. (name : List ℕ) (e : EntryView) → at es name ≡ Some e → IsHeld name e) (sym (taken_entries s id)) is

  serves_by : (op : Op) → meets_need settings p op ≡ true → Left op (reply_of settings st op)
  serves_by (BucketRead zone name) may = read_serves zone name
  serves_by (BucketSwap zone name expected new) may = swap_serves zone name expected new may
  serves_by (ShardMake zone key) may = make_serves zone key may
  serves_by (Prepare zone key name) may =
      let t = new_tag settings st in
      called (Prepare zone key name) (λ z k is. cc) (λ r. refl) zone key prepare_refusal (λ s. with_entry s name (with_tags (entry_at s name) (with_tag t (entry_at s name).tags))) (λ s. Prepared (guard_of t)) (λ s ok is. tags_serve s name (with_tag t (entry_at s name).tags) (prepares settings p zone key name may).named is)
  serves_by (Complete zone key name tag version row) may =
      called (Complete zone key name tag version row) (λ z k is. cc) (λ r. refl) zone key (λ s. complete_refusal s name tag) (λ s. settled s name (without_tag tag (entry_at s name).tags) version row) (λ s. Done) (λ s ok is. settled_serves s name (without_tag tag (entry_at s name).tags) version row (completed_named s name tag ok is) is)
  serves_by (Cancel zone key name tag) may =
      called (Cancel zone key name tag) (λ z k is. cc) (λ r. refl) zone key (λ s. complete_refusal s name tag) (λ s. with_entry s name (with_tags (entry_at s name) (without_tag tag (entry_at s name).tags))) (λ s. Done) (λ s ok is. tags_serve s name (without_tag tag (entry_at s name).tags) (completed_named s name tag ok is) is)
  serves_by (Suggest zone key name revision seen version row) may =
      called (Suggest zone key name revision seen version row) (λ z k is. cc) (λ r. refl) zone key (λ s. suggest_event_refusal s name revision seen) (λ s. suggested s name revision seen version row) (λ s. Done) (λ s ok is. suggested_serves s name revision seen version row ok is)
  serves_by (CloseShard zone key id force) may =
      called (CloseShard zone key id force) (λ z k is. cc) (λ r. refl) zone key (λ s. close_refusal s id force) (λ s. taken s id (Closing id)) (λ s. Done) (λ s ok is. taken_held s id is)
  serves_by (Release zone key id) may = one_shard (Release zone key id) (λ z k is. cc) refl zone key (λ s. released s id) (λ s is. is)
  serves_by (Shut zone key) may = one_shard (Shut zone key) (λ z k is. cc) refl zone key shut_down (λ s is name e there. absurd (let none = at-none {X = EntryView} name in cc))
  serves_by op may = unchanged op (reply_of settings st op) (λ z k is. cc) refl

pub serves_next : (settings : SettingsView) (w : World) (e : Event) → ShardsServe w.state.shards (rows_of w.state.root) w.phases → IsNext settings w e → ShardsServe (happens settings w e).state.shards (rows_of (happens settings w e).state.root) (happens settings w e).phases
serves_next settings w e j next =
    let me = actor_of e in
    let need = right_of (is_between 1 settings.zones (zone_of e.op)) (meets_need settings (w.phases me) e.op) next.may in
    subst (λ r. Left settings w j me e.moment e.op r) (sym next.answer) (serves_by settings w j me e.moment e.op need)

serves_from : (settings : SettingsView) (w : World) (es : List Event) → LegalFrom settings w es → ShardsServe w.state.shards (rows_of w.state.root) w.phases → ShardsServe (run settings w es).state.shards (rows_of (run settings w es).state.root) (run settings w es).phases
serves_from settings w [] legal j = j
serves_from settings w (e ∷ es) legal j = serves_from settings (happens settings w e) es legal.1 (serves_next settings w e j legal.0)

pub shards_serve : (settings : SettingsView) (history : List Event) → Legal settings history → ShardsServe (world_of settings history).state.shards (rows_of (world_of settings history).state.root) (world_of settings history).phases
shards_serve settings history legal =
    serves_from settings (start settings) history legal
    (record {
      held = λ zone key s is. absurd cc;
      own_made = λ actor zone container number first is less. absurd cc;
      none_made = λ actor zone container is. refl;
      of_rows = λ zone name row is. absurd (let none = at-none {X = Bucket} name in cc);
      of_reads = λ actor zone. no_pairs _;
    })
