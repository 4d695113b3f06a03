-- A change of a head that is done: the head and the last tag of its name are others, and the tag has its change.
use Rattle.std.proofs.Common.{◌≡◌, inl, inr, ⊎_elim, ℕ, ◌+◌, ◌==◌, ◌<◌, ◌≤◌, ◌^◌, true, false, List, Option, Some, None, refl, sym, subst, ap, ◌∙◌, arith}
use Rattle.rgw_types.specs.declared.pool_key.Key.{Key}
use Rattle.object_words.specs.declared.bucket.Bucket.{Bucket}
use Rattle.object_words.specs.declared.entry.Guard.{Guard}
use Rattle.object_words.specs.declared.head.SeenSlot.{SeenSlot}
use Rattle.object_words.specs.Hashes.{shard_of}
use Rattle.object_words.specs.Keys.{put, container_of, instance_of, shard_key, head_key}
use Rattle.object_words.specs.Tags.{has_tag, has_due}
use Rattle.object_words.specs.Heads.{Head, no_head, row_of}
use Rattle.realm_model.specs.Facts.{TagNote, Home}
use Rattle.realm_model.specs.Phases.{ActorId, OwnChange, OwnTag, Sighting, Phase}
use Rattle.realm_model.specs.Learnt.{changed, learnt}
use Rattle.realm_model.specs.States.{clock_at, put_in}
use Rattle.realm_model.specs.Worlds.{World, put_actor, put_name, changed_note}
use Rattle.realm_model.specs.declared.op.Op.{Op}
use Rattle.realm_model.specs.declared.event.Reply.{Reply}
use Rattle.realm_model.proofs.ObjectLemmas.{number_same, put_actor_cases}
use Rattle.index_law.specs.Tables.{entries_of, Heads, heads_of, rows_of, Notes, Lasts, changes_of, IsPlaced, StandsIn}
use Rattle.index_law.specs.Tags.{IsOwn}
use Rattle.index_law.specs.Changes.{IsBelow, IsLast, ChangesBelow}
use Rattle.index_law.specs.Agreements.{Agreement, Agreements}
use Rattle.index_law.specs.Sights.{IsSafe}
use Rattle.index_law.specs.Reads.{StaysTrue}
use Rattle.index_law.specs.Invariants.{Index, IndexHolds}
use Rattle.index_law.proofs.Puts.{head_here, Elsewhere, head_cases, phase_cases}
use Rattle.index_law.proofs.Tests.{Writes}
use Rattle.index_law.proofs.NoteLemmas.{NoteStays, Back, SamePlace, with_change, changing, keeps_turned, turned_back, turned_here, noted_more, all_map, at_place}
use Rattle.index_law.proofs.NumberLaws.{entries_more, heads_more, tags_more, homes_more, instances_more, numbers_after}
use Rattle.index_law.proofs.RowLaws.{knows_same, rows_stay}
use Rattle.index_law.proofs.EntryLaws.{safe_same}
use Rattle.index_law.proofs.Owns.{own_changed, own_other}
use Rattle.index_law.proofs.EntryFacts.{noted_at, due_placed}
use Rattle.index_law.proofs.Events.{clock_rises, count_rises}

-- a name belongs into one shard of its container in a zone
pub one_place : (w : World) (j : IndexHolds w) (zone : ℕ) (k q : Key) (name : List ℕ) → container_of k ≡ container_of q → StandsIn w (container_of k) → IsPlaced w.rows.instances zone k name → IsPlaced w.rows.instances zone q name → k ≡ q
one_place w j zone k q name same stands p o =
    let a = j.rows_stand.in_row zone (container_of k) (instance_of k) p.instance p.placed stands in
    let b = j.rows_stand.in_row zone (container_of q) (instance_of q) o.instance o.placed (subst (StandsIn w) same stands) in
    let homes : Some a.home ≡ Some b.home = sym a.made ∙ ap w.rows.homes same ∙ b.made in
    let home : a.home ≡ b.home = cc in
    let kept : Some a.row ≡ Some b.row = sym a.kept ∙ ap (λ (h : Home). rows_of w.state.root zone h.name) home ∙ b.kept in
    let row : a.row ≡ b.row = cc in
    let number : instance_of k ≡ instance_of q = sym a.instance_is ∙ ap (λ (r : Bucket). r.instance) row ∙ b.instance_is in
    let placed : Some p.instance ≡ Some o.instance = sym p.placed ∙ (λ i. w.rows.instances zone (same i) (number i)) ∙ o.placed in
    let instance : p.instance ≡ o.instance = cc in
    p.key_is ∙ (λ i. shard_key (same i) (number i) (shard_of name (instance i).shards)) ∙ sym o.key_is

module _ (w : World) (j : IndexHolds w) (me : ActorId) (moment : ℕ) (op : Op) (reply : Reply) (zone container : ℕ) (name : List ℕ) (guard : Guard) (slot : SeenSlot) (wrote : Writes (w.phases me) zone container name guard)
    (early : clock_at w.state.clock moment < guard.deadline)
    (same_rows : (learnt (w.phases me) op reply (w.state.count + 1) (clock_at w.state.clock moment)).rows ≡ (w.phases me).rows)
    (same_work : (learnt (w.phases me) op reply (w.state.count + 1) (clock_at w.state.clock moment)).work ≡ (w.phases me).work)
    (same_seen : (learnt (w.phases me) op reply (w.state.count + 1) (clock_at w.state.clock moment)).seen ≡ (w.phases me).seen)
    (has_change : (learnt (w.phases me) op reply (w.state.count + 1) (clock_at w.state.clock moment)).tag ≡ changed (w.phases me).tag (record { version = w.state.count + 1; row = row_of slot })) where
  abbrev number : ℕ
  number = w.state.count + 1

  abbrev now : ℕ
  now = clock_at w.state.clock moment

  abbrev phases : ActorId → Phase
  phases = put_actor w.phases me (learnt (w.phases me) op reply number now)

  abbrev change : OwnChange
  change = record { version = number; row = row_of slot }

  abbrev head : Head
  head = record { version = number; slot = slot }

  abbrev turn : Option TagNote → Option TagNote
  turn o = changed_note o change

  abbrev tags : Notes
  tags = put w.index.tags guard.tag (turn (w.index.tags guard.tag))

  abbrev last : Lasts
  last = put w.index.last zone (put (w.index.last zone) container (put_name (w.index.last zone container) name (Some guard.tag)))

  abbrev heads : Heads
  heads = heads_of (put_in w.state.heads zone (head_key container name) head)

  abbrev own : OwnTag
  own = wrote.owns.t

  own_note : IsOwn w.index.tags me own
  own_note = j.tags_of_prepare.own me own wrote.owns.is

  abbrev note : TagNote
  note = own_note.note

  note_there : w.index.tags guard.tag ≡ Some note
  note_there = ap w.index.tags (sym wrote.owns.tag_is) ∙ own_note.there

  zone_is : note.zone ≡ zone
  zone_is = own_note.zone_is ∙ wrote.owns.zone_is

  name_is : note.name ≡ name
  name_is = own_note.name_is ∙ wrote.owns.name_is

  container_is : container_of note.key ≡ container
  container_is = ap container_of own_note.key_is ∙ wrote.container_is

  no_change : note.change ≡ None
  no_change = own_note.change_is ∙ wrote.change_is

  deadline_is : note.deadline ≡ guard.deadline
  deadline_is = own_note.deadline_is ∙ wrote.deadline_is

  keeps : (tag : ℕ) (old : TagNote) → w.index.tags tag ≡ Some old → NoteStays tags tag old
  keeps = keeps_turned turn (with_change change) (changing change) w.index.tags guard.tag

  back : (tag : ℕ) (new : TagNote) → tags tag ≡ Some new → Back turn (with_change change) (changing change) w.index.tags guard.tag tag new
  back = turned_back turn (with_change change) (changing change) w.index.tags guard.tag

  back_same : (tag : ℕ) (new : TagNote) (b : Back turn (with_change change) (changing change) w.index.tags guard.tag tag new) → SamePlace b.note new
  back_same tag new b =
      elim b.how [
        | inl apart ↦ subst (λ n. SamePlace b.note n) (sym apart.1) (record { actor = refl; zone = refl; key = refl; name = refl; deadline = refl })
        | inr here ↦ subst (λ n. SamePlace b.note n) (sym here.1) ((changing change).same b.note)
      ]

  back_open : (tag : ℕ) (new : TagNote) (b : Back turn (with_change change) (changing change) w.index.tags guard.tag tag new) → new.ended ≡ false → b.note.ended ≡ false
  back_open tag new b is =
      elim b.how [
        | inl apart ↦ ap (λ (n : TagNote). n.ended) (sym apart.1) ∙ is
        | inr here ↦ ap (λ (n : TagNote). n.ended) (sym here.1) ∙ is
      ]

  -- the tag is in the entry for which it was prepared, which is the name's
  in_entry : StandsIn w container → has_tag guard.tag (entries_of w.state.shards note.zone note.key note.name).tags ≡ true
  in_entry stands =
      let rises = clock_rises w j me moment op reply in
      let deadline = deadline_is in
      j.open_tags guard.tag note note_there (subst (StandsIn w) (sym container_is) stands) (own_note.not_ended wrote.pending) (omega (arith, rises, deadline, early))

  in_place : (k : Key) → container_of k ≡ container → StandsIn w container → IsPlaced w.rows.instances zone k name → has_tag guard.tag (entries_of w.state.shards zone k name).tags ≡ true
  in_place k at_container stands placed =
      let mine = subst (λ z. IsPlaced w.rows.instances z note.key name) zone_is (subst (λ n. IsPlaced w.rows.instances note.zone note.key n) name_is (j.tags_of_prepare.placed guard.tag note note_there)) in
      let key = one_place w j zone note.key k name (container_is ∙ sym at_container) (subst (StandsIn w) (sym container_is) stands) mine placed in
      let there = subst (λ z. has_tag guard.tag (entries_of w.state.shards z note.key name).tags ≡ true) zone_is (subst (λ n. has_tag guard.tag (entries_of w.state.shards note.zone note.key n).tags ≡ true) name_is (in_entry stands)) in
      subst (λ q. has_tag guard.tag (entries_of w.state.shards zone q name).tags ≡ true) key there

  -- ---- changes

  below_now : (tag : ℕ) (new : TagNote) (made : OwnChange) → tags tag ≡ Some new → new.change ≡ Some made → IsBelow (heads new.zone (container_of new.key) new.name) made
  below_now tag new made is has = by_how (back tag new is) where
    by_how : Back turn (with_change change) (changing change) w.index.tags guard.tag tag new → IsBelow (heads new.zone (container_of new.key) new.name) made
    by_how b =
        elim b.how [
          | inl apart ↦
              let was = j.changes.below tag b.note made b.there (ap (λ (n : TagNote). n.change) (sym apart.1) ∙ has) in
              let same = back_same tag new b in
              let old = at_place (λ z k n. IsBelow (heads_of w.state.heads z (container_of k) n) made) b.note new same was in
              let positive = old.positive in
              let not_above = old.not_above in
              let most = j.numbers.heads_below new.zone (container_of new.key) new.name in
              head_cases (λ z c n h l. new.zone ≡ z → container_of new.key ≡ c → new.name ≡ n → IsBelow h made) w.state.heads w.index.last zone container name head (Some guard.tag)
              (λ a c d. record { positive = positive; not_above = omega (arith, not_above, most); same_row = λ u. absurd (omega (arith, not_above, most, u)) })
              (λ z c n elsewhere a d e. subst (λ y. IsBelow (heads_of w.state.heads y c n) made) a (subst (λ y. IsBelow (heads_of w.state.heads new.zone y n) made) d (subst (λ y. IsBelow (heads_of w.state.heads new.zone (container_of new.key) y) made) e old)))
              new.zone (container_of new.key) new.name refl refl refl
          | inr here ↦
              let notes : Some b.note ≡ Some note = sym b.there ∙ ap w.index.tags (sym here.0) ∙ note_there in
              let one : b.note ≡ note = cc in
              let changes : Some change ≡ Some made = ap (λ (n : TagNote). n.change) (sym here.1) ∙ has in
              let is_change : change ≡ made = cc in
              let same = back_same tag new b in
              let at_zone : new.zone ≡ zone = same.zone ∙ ap (λ (n : TagNote). n.zone) one ∙ zone_is in
              let at_container : container_of new.key ≡ container = ap container_of same.key ∙ ap (λ (n : TagNote). container_of n.key) one ∙ container_is in
              let at_name : new.name ≡ name = same.name ∙ ap (λ (n : TagNote). n.name) one ∙ name_is in
              let at_head : heads new.zone (container_of new.key) new.name ≡ head = (λ i. heads (at_zone i) (at_container i) (at_name i)) ∙ head_here w.state.heads zone container name head in
              subst (λ c. IsBelow (heads new.zone (container_of new.key) new.name) c) is_change
              (subst (λ h. IsBelow h change) (sym at_head) (record { positive = omega arith; not_above = omega arith; same_row = λ u. refl }))
        ]

  changes_now : ChangesBelow tags heads last
  changes_now = record {
    below = below_now;
    none = head_cases (λ z c n h l. l ≡ None → h ≡ no_head) w.state.heads w.index.last zone container name head (Some guard.tag) (λ none. absurd cc) (λ z c n elsewhere is. j.changes.none z c n is);
    last_is = head_cases (λ z c n h l. (tag : ℕ) → l ≡ Some tag → IsLast tags h z c n tag) w.state.heads w.index.last zone container name head (Some guard.tag) last_now last_else;
  } where
    last_now : (tag : ℕ) → Some guard.tag ≡ Some tag → IsLast tags head zone container name tag
    last_now tag is =
        let same : guard.tag ≡ tag = cc in
        subst (λ t. IsLast tags head zone container name t) same
        (record {
          note = with_change change note;
          there = turned_here turn (with_change change) (changing change) w.index.tags guard.tag note note_there;
          zone_is = zone_is;
          container_is = container_is;
          name_is = name_is;
          change = change;
          made = refl;
          version_is = refl;
        })

    last_else : (z c : ℕ) (n : List ℕ) → Elsewhere zone container name z c n → (tag : ℕ) → w.index.last z c n ≡ Some tag → IsLast tags (heads_of w.state.heads z c n) z c n tag
    last_else z c n elsewhere tag is =
        let l = j.changes.last_is z c n tag is in
        elim (guard.tag == tag) as (λ b. (guard.tag == tag) ≡ b → IsLast tags (heads_of w.state.heads z c n) z c n tag) [
          | true ↦ λ same.
              let notes : Some note ≡ Some l.note = sym note_there ∙ ap w.index.tags (number_same guard.tag tag same) ∙ l.there in
              let one : note ≡ l.note = cc in
              let none = ap (λ (x : TagNote). x.change) (sym one) ∙ no_change in
              let made = l.made in
              absurd cc
          | false ↦ λ apart. record {
            note = l.note;
            there = rw apart l.there;
            zone_is = l.zone_is;
            container_is = l.container_is;
            name_is = l.name_is;
            change = l.change;
            made = l.made;
            version_is = l.version_is;
          }
        ] refl

  -- ---- agreement

  agreements_now : Agreements (StandsIn w) (changes_of tags) w.rows.instances (entries_of w.state.shards) heads last
  agreements_now z k n placed stands =
      head_cases (λ z c n h l. container_of k ≡ c → IsPlaced w.rows.instances z k n → Agreement (changes_of tags) h l (entries_of w.state.shards z k n)) w.state.heads w.index.last zone container name head (Some guard.tag)
      (λ at_container here.
      let under = (j.numbers.entries_below zone k name).0 in
      record {
        agree = inl (record { tag = guard.tag; last_is = refl; there = in_place k at_container (subst (StandsIn w) at_container stands) here });
        not_above = λ live. omega (arith, under);
        same_row = λ live same. absurd (omega (arith, under, same));
      })
      (λ z c n elsewhere at_container here.
      subst (λ d. Agreement (changes_of tags) (heads_of w.state.heads z d n) (w.index.last z d n) (entries_of w.state.shards z k n)) at_container
      (other z k n (subst (λ d. Elsewhere zone container name z d n) (sym at_container) elsewhere) (j.agreements z k n here stands)))
      z (container_of k) n refl placed where
        other : (z : ℕ) (k : Key) (n : List ℕ) → Elsewhere zone container name z (container_of k) n → Agreement (changes_of w.index.tags) (heads_of w.state.heads z (container_of k) n) (w.index.last z (container_of k) n) (entries_of w.state.shards z k n) → Agreement (changes_of tags) (heads_of w.state.heads z (container_of k) n) (w.index.last z (container_of k) n) (entries_of w.state.shards z k n)
        other z k n elsewhere a = record {
          agree = ⊎_elim (λ l. inl l) (λ s. inr (s.0, (λ u c has is. s.1 u c has (unchanged u c has is)))) a.agree;
          not_above = a.not_above;
          same_row = a.same_row;
        } where
          unchanged : (u : ℕ) (c : OwnChange) → has_tag u (entries_of w.state.shards z k n).tags ≡ true → changes_of tags u ≡ Some c → changes_of w.index.tags u ≡ Some c
          unchanged u c has is =
              elim (guard.tag == u) as (λ b. (guard.tag == u) ≡ b → changes_of w.index.tags u ≡ Some c) [
                | true ↦ λ same.
                    let at_u = number_same guard.tag u same in
                    let place = noted_at w j z k n u has note (ap w.index.tags (sym at_u) ∙ note_there) in
                    absurd (elsewhere (sym zone_is ∙ place.0) (sym container_is ∙ ap container_of place.1) (sym name_is ∙ place.2))
                | false ↦ λ apart. rw apart at is
              ] refl

  -- ---- sightings

  sights_now : (a : ActorId) (z : ℕ) (k : Key) (n : List ℕ) (x : Sighting) → (w.phases a).seen z k n ≡ Some x → IsSafe (StandsIn w (container_of k)) number now tags (heads z (container_of k) n) (last z (container_of k) n) (entries_of w.state.shards z k n) x
  sights_now a z k n x is =
      head_cases (λ z c n h l. container_of k ≡ c → (w.phases a).seen z k n ≡ Some x → IsSafe (StandsIn w (container_of k)) number now tags h l (entries_of w.state.shards z k n) x) w.state.heads w.index.last zone container name head (Some guard.tag)
      (λ at_container seen.
      let old = j.sights a zone k name x seen in
      let past = old.past in
      let rises = clock_rises w j me moment op reply in
      let deadline = deadline_is in
      record {
        past = omega (arith, past, rises);
        read_below = λ read has. let under = old.read_below read has in omega (arith, under);
        safe = λ stands due read has.
            let under = old.read_below read has in
            inr (record {
              above = omega (arith, under);
              tag = guard.tag;
              last_is = refl;
              note = with_change change note;
              there = turned_here turn (with_change change) (changing change) w.index.tags guard.tag note note_there;
              late = omega (arith, past, rises, deadline, early);
              stays = inl (in_place k at_container (subst (StandsIn w) at_container stands) (due_placed w j zone k name x.moment due));
            });
      })
      (λ z c n elsewhere at_container seen.
      subst (λ d. IsSafe (StandsIn w (container_of k)) number now tags (heads_of w.state.heads z d n) (w.index.last z d n) (entries_of w.state.shards z k n) x) at_container
      (safe_same (StandsIn w (container_of k)) w.state.count w.state.clock number now w.index.tags tags (heads_of w.state.heads z (container_of k) n) (w.index.last z (container_of k) n) (entries_of w.state.shards z k n) x (count_rises w j me moment op reply) (clock_rises w j me moment op reply) keeps (j.sights a z k n x seen)))
      z (container_of k) n refl is

  -- ---- all parts

  pub write_done : Index number now (entries_of w.state.shards) heads (rows_of w.state.root) tags last w.rows.homes w.rows.instances (put w.stripes.by number me) phases
  write_done = record {
    numbers = numbers_after w j moment me op reply (entries_of w.state.shards) heads tags w.rows.homes w.rows.instances (entries_more w j moment)
        (head_cases (λ z c n h l. h.version ≤ number) w.state.heads w.index.last zone container name head (Some guard.tag) (omega arith) (λ z c n elsewhere. heads_more w j moment z c n))
        (λ tag new is. let b = back tag new is in tags_more w j moment tag b.note b.there) (homes_more w j moment) (instances_more w j moment);
    rows_stand = rows_stay w j me moment op reply (knows_same w j me moment op reply same_rows same_work);
    tags_of_prepare = record {
      in_entries = λ z k n. all_map _ _ (λ x. noted_more w.index.tags tags keeps z k n x) _ (j.tags_of_prepare.in_entries z k n);
      placed = λ tag new is. let b = back tag new is in at_place (IsPlaced w.rows.instances) b.note new (back_same tag new b) (j.tags_of_prepare.placed tag b.note b.there);
      held = j.tags_of_prepare.held;
      own = phase_cases (λ a p. (x : OwnTag) → p.tag ≡ Some x → IsOwn tags a x) w.phases me _
          (λ x is. own_changed w.index.tags me (w.phases me) zone name guard.tag change wrote.owns own_note x (sym has_change ∙ is))
          (λ a apart x is. own_other turn w.index.tags me a guard.tag x note note_there own_note.actor_is apart (j.tags_of_prepare.own a x is));
    };
    open_tags = λ tag new is stands still late.
        let b = back tag new is in
        let same = back_same tag new b in
        let deadline = same.deadline in
        let rises = clock_rises w j me moment op reply in
        at_place (λ z k n. has_tag tag (entries_of w.state.shards z k n).tags ≡ true) b.note new same (j.open_tags tag b.note b.there (subst (λ k. StandsIn w (container_of k)) same.key stands) (back_open tag new b still) (omega (arith, late, deadline, rises)));
    changes = changes_now;
    agreements = agreements_now;
    sights = put_actor_cases (λ a p. (z : ℕ) (k : Key) (n : List ℕ) (x : Sighting) → p.seen z k n ≡ Some x → IsSafe (StandsIn w (container_of k)) number now tags (heads z (container_of k) n) (last z (container_of k) n) (entries_of w.state.shards z k n) x) w.phases me _
        (subst (λ f. (z : ℕ) (k : Key) (n : List ℕ) (x : Sighting) → f z k n ≡ Some x → IsSafe (StandsIn w (container_of k)) number now tags (heads z (container_of k) n) (last z (container_of k) n) (entries_of w.state.shards z k n) x) (sym same_seen) (sights_now me)) sights_now;
    reads = put_actor_cases (λ a p. (z : ℕ) (k : Key) (n : List ℕ) (x : Sighting) → p.seen z k n ≡ Some x → number < 2 ^ 62 → has_due x.moment (entries_of w.state.shards z k n).tags ≡ true → StaysTrue (entries_of w.state.shards z k n) x) w.phases me _
        (subst (λ f. (z : ℕ) (k : Key) (n : List ℕ) (x : Sighting) → f z k n ≡ Some x → number < 2 ^ 62 → has_due x.moment (entries_of w.state.shards z k n).tags ≡ true → StaysTrue (entries_of w.state.shards z k n) x) (sym same_seen)
        (λ z k n x is room due. j.reads me z k n x is (omega (arith, room)) due)) (λ a z k n x is room due. j.reads a z k n x is (omega (arith, room)) due);
  }
