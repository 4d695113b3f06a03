-- A container whose row was taken away in zone 1 has no tag there that is open and has a life left; so no head of it changes.
use Rattle.std.proofs.Common.{◌≡◌, inl, inr, ℕ, ◌&&◌, ◌≤◌, ◌<◌, ◌%◌, ◌^◌, true, false, List, [], ◌∷◌, Option, Some, None, refl, sym, subst, ap, ◌∙◌, arith, mod-lt}
use Rattle.std.specs.Prelude.{IsSomeAnd, is_some, nat_le, nat_lt}
use Rattle.std.proofs.lemmas.Bool.Decides.{nat_tests}
use Rattle.rgw_types.specs.declared.pool_key.Key.{Key}
use Rattle.object_words.specs.declared.bucket.Bucket.{Bucket}
use Rattle.object_words.specs.declared.entry.Guard.{Guard}
use Rattle.object_words.specs.declared.entry.Tag.{Tag}
use Rattle.object_words.specs.declared.why.Why.{Why}
use Rattle.object_words.specs.declared.why.Why.TheVariants.{Moved, Closed}
use Rattle.object_words.specs.Entries.{EntryView, no_entry, entry_of}
use Rattle.object_words.specs.Hashes.{shard_of, mixed, hash_of}
use Rattle.object_words.specs.Keys.{shard_key, container_of, instance_of}
use Rattle.object_words.specs.Names.{entries}
use Rattle.object_words.specs.Refusals.{change_refusal}
use Rattle.object_words.specs.Shards.{Shard}
use Rattle.object_words.specs.ShardCalls.{prepare_refusal}
use Rattle.object_words.specs.Tags.{has_tag, guard_of}
use Rattle.object_words.proofs.KeyLemmas.{same_key}
use Rattle.realm_model.specs.Containers.{entry_in}
use Rattle.realm_model.specs.Facts.{TagNote, Instance}
use Rattle.realm_model.specs.Maps.{Maps, mapped, mapped_by}
use Rattle.realm_model.specs.Needs.{is_between, has_read, names_shard, may_change_head, has_parts}
use Rattle.realm_model.specs.Allowed.{meets_need}
use Rattle.realm_model.specs.Ops.{zone_of}
use Rattle.realm_model.specs.Phases.{ActorId, OwnChange}
use Rattle.realm_model.specs.Settings.{SettingsView, IsSettings}
use Rattle.realm_model.specs.States.{State, at_moment, clock_at}
use Rattle.realm_model.specs.Steps.{reply_or, on_shard, new_tag, reply_of, touch_of}
use Rattle.realm_model.specs.Tests.{is_so}
use Rattle.realm_model.specs.Worlds.{World, changed_note, tags_after, actor_of, happens}
use Rattle.realm_model.specs.Histories.{IsNext, LegalFrom}
use Rattle.realm_model.specs.declared.op.Op.{Op}
use Rattle.realm_model.specs.declared.op.Op.TheVariants.{Prepare, Complete, Cancel, HeadWrite}
use Rattle.realm_model.specs.declared.event.Event.{Event}
use Rattle.realm_model.specs.declared.event.Reply.{Reply}
use Rattle.realm_model.specs.declared.event.Reply.TheVariants.{No, Prepared, Changed}
use Rattle.realm_model.proofs.Computing.{left_of, right_of}
use Rattle.realm_model.proofs.Runs.{touched-clock}
use Rattle.index_law.specs.Tables.{entries_of, rows_of, IsPlaced, IsMadeContainer, StandsIn}
use Rattle.index_law.specs.Rows.{IsNamed, ReadHolds}
use Rattle.index_law.specs.Works.{IsUnnamed}
use Rattle.index_law.specs.Holds.{HoldsIn}
use Rattle.index_law.specs.Invariants.{IndexHolds}
use Rattle.index_law.proofs.Tests.{so, prepares, writes}
use Rattle.index_law.proofs.TagLists.{find_any}
use Rattle.index_law.proofs.NoteLemmas.{CalmBack, calm_ended, changing, with_change, added_back, turned_back}
use Rattle.index_law.proofs.Keeping.{keeps}
use Rattle.index_law.proofs.HoldEvents.{holds_next}
use Rattle.index_law.proofs.Moves.{rows_move}
use Rattle.index_law.proofs.MapStays.{NoneWrites, map_stays}
use Rattle.index_law.proofs.RemoveHolds.{Removes}
use Rattle.index_law.proofs.Served.{left_refuses}

same_some : {X : Type 0} {x y : X} → Some x ≡ Some y → x ≡ y
same_some is = cc

no_tag_in : (tag : ℕ) (tags : List Tag) → tags ≡ [] → has_tag tag tags ≡ true → ⊥
no_tag_in tag [] is has = cc
no_tag_in tag (t ∷ ts) is has = cc

within : (name : List ℕ) (row : Bucket) → 1 ≤ row.shards → shard_of name row.shards < row.shards
within name row some = mod-lt (mixed (hash_of name % 2 ^ 32) % 7877) (omega (arith, some))

pub clock_moves : (settings : SettingsView) (w : World) (e : Event) → (happens settings w e).state.clock ≡ clock_at w.state.clock e.moment
clock_moves settings w e = touched-clock settings (at_moment w.state e.moment) (touch_of settings (at_moment w.state e.moment) e.op)

-- each tag of the container that was prepared in zone 1 and is open has come to its deadline
abbrev pub AreSpent : ℕ → World → Type 0
AreSpent container w = (tag : ℕ) (note : TagNote) → w.index.tags tag ≡ Some note → note.zone ≡ 1 → container_of note.key ≡ container → note.ended ≡ false → note.deadline ≤ w.state.clock

-- ---- before the removal

-- while its row is there and each of its shards was closed
pub spent_when_closed : (w : World) (j : IndexHolds w) (h : HoldsIn w) (me : ActorId) (name : List ℕ) (old : Bucket) → rows_of w.state.root 1 name ≡ Some old → Removes (w.phases me) 1 old → AreSpent old.id w
spent_when_closed w j h me name old kept r tag note is in_zone of_row still =
    elim (nat_le note.deadline w.state.clock) as (λ b. nat_le note.deadline w.state.clock ≡ b → note.deadline ≤ w.state.clock) [
      | true ↦ λ due. grind (arith, nat_tests, due)
      | false ↦ λ late. absurd (alive (grind (arith, nat_tests, late)))
    ] refl
  where
    named : IsNamed w.rows.homes w.rows.instances 1 name old
    named = (j.rows_stand.kept 1 name old kept).named

    stands : StandsIn w old.id
    stands = record { home = named.home; made = named.made; row = old; kept = ap (rows_of w.state.root 1) named.name_is ∙ kept; id_is = refl }

    -- its tag would be in an entry of the row
    key_is : note.key ≡ shard_key old.id old.instance (shard_of note.name old.shards)
    key_is =
        let p = subst (λ z. IsPlaced w.rows.instances z note.key note.name) in_zone (j.tags_of_prepare.placed tag note is) in
        let x = j.rows_stand.in_row 1 (container_of note.key) (instance_of note.key) p.instance p.placed (subst (StandsIn w) (sym of_row) stands) in
        let homes : Some x.home ≡ Some named.home = sym x.made ∙ ap w.rows.homes of_row ∙ named.made in
        let rows : Some x.row ≡ Some old = sym x.kept ∙ ap (λ q. rows_of w.state.root 1 q.name) (same_some homes) ∙ ap (rows_of w.state.root 1) named.name_is ∙ kept in
        let instance : instance_of note.key ≡ old.instance = sym x.instance_is ∙ ap (λ (b : Bucket). b.instance) (same_some rows) in
        let instances : Some p.instance ≡ Some named.instance = sym p.placed ∙ (λ i. w.rows.instances 1 (of_row i) (instance i)) ∙ named.placed in
        let shards : p.instance.shards ≡ old.shards = ap (λ (q : Instance). q.shards) (same_some instances) ∙ named.shards_are in
        p.key_is ∙ (λ i. shard_key (of_row i) (instance i) (shard_of note.name (shards i)))

    alive : w.state.clock < note.deadline → ⊥
    alive early =
        let there = j.open_tags tag note is (subst (StandsIn w) (sym of_row) stands) still early in
        let here = subst (λ k. has_tag tag (entries_of w.state.shards 1 k note.name).tags ≡ true) key_is (subst (λ z. has_tag tag (entries_of w.state.shards z note.key note.name).tags ≡ true) in_zone there) in
        let taken = h.taken me 1 name old r.busy r.own (shard_of note.name old.shards) kept r.in_progress r.begun r.closing (r.closed (shard_of note.name old.shards) (within note.name old named.some)) in
        let none : entry_in (w.state.shards 1 (shard_key old.id old.instance (shard_of note.name old.shards))) note.name ≡ no_entry = ap (λ o. entry_in o note.name) taken.there ∙ ap entry_of (taken.empty refl note.name) in
        no_tag_in tag _ (ap (λ (e : EntryView). e.tags) none) here

-- ---- behind it

-- a row of the zone that was read named the shard
record ReadRow (w : World) (zone : ℕ) (key : Key) (name : List ℕ) : Type 0 where
  bucket : List ℕ
  row : Bucket
  named : IsNamed w.rows.homes w.rows.instances zone bucket row
  key_is : shard_key row.id row.instance (shard_of name row.shards) ≡ key

read_row : (w : World) (j : IndexHolds w) (me : ActorId) (zone : ℕ) (key : Key) (name : List ℕ) → has_read ((w.phases me).rows zone) 0 (names_shard key name) ≡ true → ReadRow w zone key name
read_row w j me zone key name may =
    let f = find_any (λ e. nat_lt 0 (e.1).at && is_so (e.1).row (names_shard key name)) (ReadHolds w.state.count w.rows.homes w.rows.instances (rows_of w.state.root) zone) (entries ((w.phases me).rows zone)) may ((j.rows_stand.knows me).reads zone) in
    let r = so ((f.x).1).row (names_shard key name) (right_of (nat_lt 0 ((f.x).1).at) (is_so ((f.x).1).row (names_shard key name)) f.passes) in
    let row : Bucket = r.x in
    record { bucket = (f.x).0; row = row; named = (f.holds.shown r.x r.is).named; key_is = same_key (shard_key row.id row.instance (shard_of name row.shards)) key r.passes }

module _ (settings : SettingsView) (good : IsSettings settings) (container : ℕ) where
  module _ (w : World) (j : IndexHolds w) (h : HoldsIn w) (fallen : StandsIn w container → ⊥) where
    -- no shard of it takes a preparation
    none_prepared : (me : ActorId) (st : State) (key : Key) (name : List ℕ) (guard : Guard) → st.shards ≡ w.state.shards → meets_need settings (w.phases me) (Prepare 1 key name) ≡ true → container_of key ≡ container
        → Prepared guard ≡ reply_of settings st (Prepare 1 key name) → ⊥
    none_prepared me st key name guard same may of_it answer =
        let x = read_row w j me 1 key name (prepares settings (w.phases me) 1 key name may).read in
        let row : Bucket = x.row in
        let n = x.named in
        let id : row.id ≡ container = ap container_of x.key_is ∙ of_it in
        let left = h.left 1 row.id row.instance n.instance (shard_of name row.shards) n.placed (unnamed row id) (subst (λ c. shard_of name row.shards < c) (sym n.shards_are) (within name row n.some)) in
        let refused = left_refuses (w.state.shards 1 (shard_key row.id row.instance (shard_of name row.shards))) (n.instance).over left in
        refuses (st.shards 1 key) (subst (λ o. IsSomeAnd o (λ s. is_some (change_refusal s) ≡ true)) (ap (w.state.shards 1) x.key_is ∙ ap (λ (f : ℕ → Key → Option Shard). f 1 key) (sym same)) refused) answer
      where
        unnamed : (row : Bucket) → row.id ≡ container → IsUnnamed (rows_of w.state.root) 1 row.id row.instance
        unnamed row id q other kept same_id same_instance =
            let n = (j.rows_stand.kept 1 q other kept).named in
            fallen (record { home = n.home; made = ap w.rows.homes (sym (same_id ∙ id)) ∙ n.made; row = other; kept = ap (rows_of w.state.root 1) n.name_is ∙ kept; id_is = same_id ∙ id })

        by_refusal : (r : Option Why) → is_some r ≡ true → Prepared guard ≡ reply_or (Prepared (guard_of (new_tag settings st))) r → ⊥
        by_refusal None some told = absurd cc
        by_refusal (Some why) some told = absurd cc

        refuses : (o : Option Shard) → IsSomeAnd o (λ s. is_some (change_refusal s) ≡ true) → Prepared guard ≡ on_shard o (λ s. reply_or (Prepared (guard_of (new_tag settings st))) (prepare_refusal s)) → ⊥
        refuses None refused told = absurd refused
        refuses (Some s) refused told = by_refusal (change_refusal s) refused told

    abbrev Spends : (ℕ → Option TagNote) → Type 0
    Spends tags = (tag : ℕ) (note : TagNote) → tags tag ≡ Some note → note.zone ≡ 1 → container_of note.key ≡ container → note.ended ≡ false → note.deadline ≤ w.state.clock

    of_back : Spends w.index.tags → (tag : ℕ) (note : TagNote) → CalmBack w.index.tags tag note → note.zone ≡ 1 → container_of note.key ≡ container → note.ended ≡ false → note.deadline ≤ w.state.clock
    of_back spent tag note b in_zone of_it still =
        subst (λ d. d ≤ w.state.clock) (sym (b.same).deadline)
        (spent tag b.note b.there (sym (b.same).zone ∙ in_zone) (ap container_of (sym (b.same).key) ∙ of_it) (b.still_open still))

    by_op : (me : ActorId) (st : State) → st.shards ≡ w.state.shards → Spends w.index.tags → (op : Op) (reply : Reply) → meets_need settings (w.phases me) op ≡ true → reply ≡ reply_of settings st op → Spends (tags_after w.index.tags me op reply)
    by_op me st same spent (Prepare zone key name) (Prepared guard) may answer tag note is in_zone of_it still =
        elim (added_back w.index.tags guard.tag _ tag note is) [
          | inl here ↦
              let zone_is : zone ≡ 1 = ap (λ (n : TagNote). n.zone) here.1 ∙ in_zone in
              let key_is : container_of key ≡ container = ap (λ (n : TagNote). container_of n.key) here.1 ∙ of_it in
              absurd (none_prepared me st key name guard same (subst (λ z. meets_need settings (w.phases me) (Prepare z key name) ≡ true) zone_is may) key_is (subst (λ z. Prepared guard ≡ reply_of settings st (Prepare z key name)) zone_is answer))
          | inr there ↦ spent tag note there in_zone of_it still
        ]
    by_op me st same spent (HeadWrite zone c name guard new when) (Changed change) may answer tag note is in_zone of_it still =
        let x : OwnChange = record { version = change.version; row = change.row } in
        let b = turned_back (λ o. changed_note o x) (with_change x) (changing x) w.index.tags guard.tag tag note is in
        elim b.how [
          | inl apart ↦ let one = apart.1 in spent tag note (b.there ∙ ap (λ n. Some n) (sym one)) in_zone of_it still
          | inr here ↦
              let one = here.1 in
              subst (λ (n : TagNote). n.deadline ≤ w.state.clock) (sym one)
              (spent tag b.note b.there (ap (λ (n : TagNote). n.zone) (sym one) ∙ in_zone) (ap (λ (n : TagNote). container_of n.key) (sym one) ∙ of_it) (ap (λ (n : TagNote). n.ended) (sym one) ∙ still))
        ]
    by_op me st same spent (Complete zone key name t version row) (No (Moved instance)) may answer tag note is in_zone of_it still = spent tag note is in_zone of_it still
    by_op me st same spent (Complete zone key name t version row) (No Closed) may answer tag note is in_zone of_it still = spent tag note is in_zone of_it still
    by_op me st same spent (Complete zone key name t version row) reply may answer tag note is in_zone of_it still = of_back spent tag note ((calm_ended w.index.tags t).back tag note is) in_zone of_it still
    by_op me st same spent (Cancel zone key name t) reply may answer tag note is in_zone of_it still = of_back spent tag note ((calm_ended w.index.tags t).back tag note is) in_zone of_it still
    by_op me st same spent op reply may answer tag note is in_zone of_it still = spent tag note is in_zone of_it still

    -- so its tags stay spent
    spent_next : (e : Event) → IsNext settings w e → AreSpent container w → AreSpent container (happens settings w e)
    spent_next e next spent tag note is in_zone of_it still =
        let me = actor_of e in
        let need = right_of (is_between 1 settings.zones (zone_of e.op)) (meets_need settings (w.phases me) e.op) next.may in
        let clock = clock_moves settings w e in
        let low = by_op me (at_moment w.state e.moment) refl spent e.op e.reply need next.answer tag note is in_zone of_it still in
        omega (arith, low, clock)

    -- and none of its heads changes
    none_writes : (me : ActorId) (clock : ℕ) → w.state.clock ≤ clock → AreSpent container w → NoneWrites settings (w.phases me) 1 container clock
    none_writes me clock come spent name guard new when early may =
        let p = w.phases me in
        let own = writes p 1 container name guard (left_of (may_change_head p 1 container name guard) (has_parts p 1 new) may) in
        let t = (own.owns).t in
        let o = j.tags_of_prepare.own me t (own.owns).is in
        let deadline : (o.note).deadline ≡ guard.deadline = o.deadline_is ∙ own.deadline_is in
        let low = spent t.guard.tag o.note o.there (o.zone_is ∙ (own.owns).zone_is) (ap container_of o.key_is ∙ own.container_is) (o.not_ended own.pending) in
        omega (arith, come, early, deadline, low)

  -- ---- over events

  pub map_fallen : (es : List Event) (w : World) (maps : Maps) → IndexHolds w → HoldsIn w → LegalFrom settings w es → IsMadeContainer w.rows.homes container → (StandsIn w container → ⊥) → AreSpent container w → mapped_by maps es 1 container ≡ maps 1 container
  map_fallen [] w maps j h legal made fallen spent = refl
  map_fallen (e ∷ es) w maps j h legal made fallen spent =
      let m = rows_move settings good w j e legal.0 in
      let me = actor_of e in
      let st = at_moment w.state e.moment in
      let come : w.state.clock ≤ st.clock = omega arith in
      map_fallen es (happens settings w e) (mapped maps e.op e.reply) (keeps settings good w j e legal.0) (holds_next settings good w j h e legal.0) legal.1 (record { home = made.home; made = m.homes_grow container made.home made.made })
      (λ stands. fallen (m.stands_back container made stands)) (spent_next w j h fallen e legal.0 spent)
      ∙ map_stays settings (w.phases me) 1 container st maps e.op e.reply (none_writes w j h fallen me st.clock come spent)
      (right_of (is_between 1 settings.zones (zone_of e.op)) (meets_need settings (w.phases me) e.op) (legal.0).may) (legal.0).answer
