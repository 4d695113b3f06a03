-- Events that change no entry, no head and no row: reads, refused events, and those on other objects.
use Rattle.std.proofs.Common.{◌≡◌, ◌⊎◌, inl, ℕ, ◌+◌, ◌==◌, ◌<◌, ◌≤◌, ◌&&◌, true, false, cond, List, Option, Some, None, refl, sym, subst, ap, ◌∙◌, arith}
use Rattle.std.specs.Prelude.{bytes_eq}
use Rattle.std.specs.Ordering.{is_lt}
use Rattle.std.specs.FinMap.Entries.{find}
use Rattle.rgw_types.specs.declared.pool_key.Key.{Key}
use Rattle.object_words.specs.declared.why.Why.TheVariants.{Absent, Closed}
use Rattle.object_words.specs.Keys.{put, container_of, head_key}
use Rattle.object_words.specs.Names.{name_cmp, at}
use Rattle.object_words.specs.Tags.{has_due}
use Rattle.object_words.specs.Entries.{EntryView, entry_of}
use Rattle.object_words.specs.Heads.{Head, row_of}
use Rattle.object_words.specs.HeadCalls.{seen, version_seen}
use Rattle.object_words.specs.Refusals.{fate_refusal}
use Rattle.object_words.specs.Shards.{Shard}
use Rattle.object_words.specs.ShardCalls.{page_of, made}
use Rattle.realm_model.specs.Settings.{SettingsView}
use Rattle.realm_model.specs.Containers.{entry_in}
use Rattle.realm_model.specs.Phases.{ActorId, OwnChange, over, OwnTag, Sighting, Phase}
use Rattle.realm_model.specs.Learnt.{at_stage, with_try, announced, is_named, sighted, with_head, learnt}
use Rattle.realm_model.specs.States.{State, clock_at, put_in}
use Rattle.realm_model.specs.Steps.{reply_or, on_shard, row_reply}
use Rattle.realm_model.specs.Worlds.{World, put_actor, tags_after, last_after, homes_after, instances_after, ended_note}
use Rattle.realm_model.specs.declared.op.Op.{Op}
use Rattle.realm_model.specs.declared.op.Op.TheVariants.{BucketRead, Page, HeadRead}
use Rattle.realm_model.specs.declared.event.Reply.{Reply}
use Rattle.realm_model.specs.declared.event.Reply.TheVariants.{No, Row, Entries, Head as head_reply}
use Rattle.realm_model.proofs.Computing.{left_of, right_of}
use Rattle.realm_model.proofs.ObjectLemmas.{number_same, put_cases, put_in_cases}
use Rattle.index_law.specs.Tables.{entries_of, heads_of, rows_of, Notes}
use Rattle.index_law.specs.Rows.{Knows}
use Rattle.index_law.specs.Sights.{Still as StillRead, Later}
use Rattle.index_law.specs.Tags.{IsOwn}
use Rattle.index_law.specs.Invariants.{Index, IndexHolds}
use Rattle.index_law.proofs.Puts.{made_cases}
use Rattle.index_law.proofs.NameLists.{page_shows}
use Rattle.index_law.proofs.NoteLemmas.{calm_same, calm_ended}
use Rattle.index_law.proofs.NumberLaws.{heads_more}
use Rattle.index_law.proofs.RowLaws.{knows_same, read_named}
use Rattle.index_law.proofs.Owns.{own_over, own_tried, own_announced, own_ended, own_other}
use Rattle.index_law.proofs.Tests.{same_text, OwnsTag}
use Rattle.index_law.proofs.Events.{Sees, sees_same, quiet}

-- the parts after an operation with its answer
abbrev pub After : SettingsView → World → ActorId → ℕ → Op → Reply → State → Type 0
After settings w me moment op reply st =
    Index (w.state.count + 1) (clock_at w.state.clock moment) (entries_of st.shards) (heads_of st.heads) (rows_of st.root)
    (tags_after w.index.tags me op reply) (last_after w.index.last op reply) (homes_after w.rows.homes op reply (w.state.count + 1)) (instances_after w.rows.instances op reply)
    (put w.stripes.by (w.state.count + 1) me) (put_actor w.phases me (learnt (w.phases me) op reply (w.state.count + 1) (clock_at w.state.clock moment)))

-- the tables as they are, but for notes and the phase of the actor
abbrev pub Still : World → ActorId → ℕ → Op → Reply → Notes → Type 0
Still w me moment op reply tags =
    Index (w.state.count + 1) (clock_at w.state.clock moment) (entries_of w.state.shards) (heads_of w.state.heads) (rows_of w.state.root) tags w.index.last w.rows.homes w.rows.instances
    (put w.stripes.by (w.state.count + 1) me) (put_actor w.phases me (learnt (w.phases me) op reply (w.state.count + 1) (clock_at w.state.clock moment)))

pub made_entries : (shards : ℕ → Key → Option Shard) (zone : ℕ) (key : Key) → entries_of (put_in shards zone key (made (shards zone key))) ≡ entries_of shards
made_entries shards zone key = λ i z k n. made_cases (λ z k n e. e ≡ entries_of shards z k n) shards zone key (λ z k n. refl) z k n i

module _ (w : World) (j : IndexHolds w) (me : ActorId) (moment : ℕ) where
  abbrev number : ℕ
  number = w.state.count + 1

  abbrev now : ℕ
  now = clock_at w.state.clock moment

  abbrev learns : Op → Reply → Phase
  learns op reply = learnt (w.phases me) op reply number now

  module _ (op : Op) (reply : Reply) where
    -- the tag alone is another
    tag_learnt : (learns op reply).rows ≡ (w.phases me).rows → (learns op reply).work ≡ (w.phases me).work → (learns op reply).seen ≡ (w.phases me).seen → ((t : OwnTag) → (learns op reply).tag ≡ Some t → IsOwn w.index.tags me t) → Still w me moment op reply w.index.tags
    tag_learnt rows work seen own =
        quiet w j me moment op reply w.index.tags (calm_same w.index.tags)
        (knows_same w j me moment op reply rows work) own
        (λ a t apart is. j.tags_of_prepare.own a t is)
        (λ zone key name s is. sees_same w j me moment op reply w.index.tags (calm_same w.index.tags).keeps me zone key name s (ap (λ f. f zone key name) (sym seen) ∙ is))

    pub nothing_learnt : (learns op reply).rows ≡ (w.phases me).rows → (learns op reply).work ≡ (w.phases me).work → (learns op reply).seen ≡ (w.phases me).seen → (learns op reply).tag ≡ (w.phases me).tag → Still w me moment op reply w.index.tags
    nothing_learnt rows work seen tag = tag_learnt rows work seen (λ t is. j.tags_of_prepare.own me t (sym tag ∙ is))

    -- the tag is over
    pub tag_over : (learns op reply).rows ≡ (w.phases me).rows → (learns op reply).work ≡ (w.phases me).work → (learns op reply).seen ≡ (w.phases me).seen → (learns op reply).tag ≡ at_stage (w.phases me).tag over → Still w me moment op reply w.index.tags
    tag_over rows work seen tag = tag_learnt rows work seen (λ t is. own_over w.index.tags me (w.phases me).tag (j.tags_of_prepare.own me) t (sym tag ∙ is))

    pub tag_tried : (moved : Option ℕ) → (learns op reply).rows ≡ (w.phases me).rows → (learns op reply).work ≡ (w.phases me).work → (learns op reply).seen ≡ (w.phases me).seen → (learns op reply).tag ≡ with_try (w.phases me).tag moved → Still w me moment op reply w.index.tags
    tag_tried moved rows work seen tag = tag_learnt rows work seen (λ t is. own_tried w.index.tags me (w.phases me).tag (j.tags_of_prepare.own me) moved t (sym tag ∙ is))

    pub tag_announced : (zone : ℕ) (key : Key) → (learns op reply).rows ≡ (w.phases me).rows → (learns op reply).work ≡ (w.phases me).work → (learns op reply).seen ≡ (w.phases me).seen → (learns op reply).tag ≡ announced (w.phases me).tag zone key → Still w me moment op reply w.index.tags
    tag_announced zone key rows work seen tag = tag_learnt rows work seen (λ t is. own_announced w.index.tags me (w.phases me).tag (j.tags_of_prepare.own me) zone key t (sym tag ∙ is))

    -- the tag ended, and nothing else
    pub tag_ended : (zone : ℕ) (name : List ℕ) (tag : ℕ) → OwnsTag (w.phases me) zone name tag → (learns op reply).rows ≡ (w.phases me).rows → (learns op reply).work ≡ (w.phases me).work → (learns op reply).seen ≡ (w.phases me).seen
        → (learns op reply).tag ≡ at_stage (w.phases me).tag over → Still w me moment op reply (put w.index.tags tag (ended_note (w.index.tags tag)))
    tag_ended zone name tag o rows work seen is_over =
        let n = j.tags_of_prepare.own me o.t o.is in
        quiet w j me moment op reply (put w.index.tags tag (ended_note (w.index.tags tag))) (calm_ended w.index.tags tag)
        (knows_same w j me moment op reply rows work)
        (λ t is. own_ended w.index.tags me (w.phases me) zone name tag o n t (sym is_over ∙ is))
        (λ a t apart is. own_other ended_note w.index.tags me a tag t n.note (ap w.index.tags (sym o.tag_is) ∙ n.there) n.actor_is apart (j.tags_of_prepare.own a t is))
        (λ z k m s is. sees_same w j me moment op reply (put w.index.tags tag (ended_note (w.index.tags tag))) (calm_ended w.index.tags tag).keeps me z k m s (ap (λ f. f z k m) (sym seen) ∙ is))

  -- ---- reads

  pub bucket_read : (zone : ℕ) (name : List ℕ) → Still w me moment (BucketRead zone name) (row_reply (at (w.state.root zone).buckets name)) w.index.tags
  bucket_read zone name =
      elim (at (w.state.root zone).buckets name) as (λ o. at (w.state.root zone).buckets name ≡ o → Still w me moment (BucketRead zone name) (row_reply o) w.index.tags) [
        | None ↦ λ is. shown (No Absent) (read_named w j me zone name moment (BucketRead zone name) (No Absent) None is refl refl)
        | Some row ↦ λ is. shown (Row row) (read_named w j me zone name moment (BucketRead zone name) (Row row) (Some row) is refl refl)
      ] refl where
        shown : (reply : Reply) → Knows number w.rows.homes w.rows.instances (rows_of w.state.root) (learns (BucketRead zone name) reply) → Still w me moment (BucketRead zone name) reply w.index.tags
        shown reply knows =
            quiet w j me moment (BucketRead zone name) reply w.index.tags (calm_same w.index.tags) knows (j.tags_of_prepare.own me) (λ a t apart is. j.tags_of_prepare.own a t is)
            (λ z k n s is. sees_same w j me moment (BucketRead zone name) reply w.index.tags (calm_same w.index.tags).keeps me z k n s is)

  module _ (zone container : ℕ) (name : List ℕ) where
    abbrev head : Head
    head = w.state.heads zone (head_key container name)

    abbrev reading : Op
    reading = HeadRead zone container name

    abbrev shown : OwnChange
    shown = record { version = version_seen head number; row = row_of head.slot }

    abbrev answer : Reply
    answer = head_reply (seen head number) now

    version_below : version_seen head number ≤ number
    version_below = let old = heads_more w j moment zone container name in elim (head.version == 0) as (λ b. cond b number head.version ≤ number) [ true ↦ omega arith | false ↦ old ]

    version_is : 0 < head.version → version_seen head number ≡ head.version
    version_is live =
        elim (head.version == 0) as (λ b. (head.version == 0) ≡ b → cond b number head.version ≡ head.version) [
          | true ↦ λ zero. let none = number_same head.version 0 zero in absurd (omega (arith, live, none))
          | false ↦ λ other. refl
        ] refl

    -- a sighting of the name has the head as it is
    sees_shown : (key : Key) (n : List ℕ) (s : Sighting) → container_of key ≡ container → n ≡ name → with_head shown ((w.phases me).seen zone key n) ≡ Some s → Sees w j me moment reading answer w.index.tags (entries_of w.state.shards) zone key n s
    sees_shown key n s at_container at_name is = by_old ((w.phases me).seen zone key n) refl is where
      by_old : (o : Option Sighting) → (w.phases me).seen zone key n ≡ o → with_head shown o ≡ Some s → Sees w j me moment reading answer w.index.tags (entries_of w.state.shards) zone key n s
      by_old None was none = absurd cc
      by_old (Some x) was some =
          let same : record x { head = Some shown } ≡ s = cc in
          let old = sees_same w j me moment reading answer w.index.tags (calm_same w.index.tags).keeps me zone key n x was in
          let here : heads_of w.state.heads zone (container_of key) n ≡ head = λ i. w.state.heads zone (head_key (at_container i) (at_name i)) in
          let bound = version_below in
          subst (λ y. Sees w j me moment reading answer w.index.tags (entries_of w.state.shards) zone key n y) same
          (record {
            safe = record {
              past = old.safe.past;
              read_below = λ read now_read. let it : shown ≡ read = cc in subst (λ r. r.version ≤ number) it bound;
              safe = λ stands due read now_read.
                  let it : shown ≡ read = cc in
                  subst (λ r. StillRead (heads_of w.state.heads zone (container_of key) n) r ⊎ Later w.index.tags (heads_of w.state.heads zone (container_of key) n) (w.index.last zone (container_of key) n) (entries_of w.state.shards zone key n) x.moment r.version) it
                  (subst (λ h. StillRead h shown ⊎ Later w.index.tags h (w.index.last zone (container_of key) n) (entries_of w.state.shards zone key n) x.moment shown.version) (sym here) (inl (record { row_is = refl; version_is = version_is })));
            };
            stays = λ room due. let o = old.stays room due in record { not_below = o.not_below; unchanged = o.unchanged };
          })

    pub head_shown : Still w me moment reading answer w.index.tags
    head_shown =
        quiet w j me moment reading answer w.index.tags (calm_same w.index.tags) (knows_same w j me moment reading answer refl refl) (j.tags_of_prepare.own me) (λ a t apart is. j.tags_of_prepare.own a t is)
        (put_cases (λ z f. (k : Key) (n : List ℕ) (s : Sighting) → f k n ≡ Some s → Sees w j me moment reading answer w.index.tags (entries_of w.state.shards) z k n s) (w.phases me).seen zone _
        (λ k n s.
        elim (container_of k == container && bytes_eq n name) as (λ b. (container_of k == container && bytes_eq n name) ≡ b → cond b (with_head shown ((w.phases me).seen zone k n)) ((w.phases me).seen zone k n) ≡ Some s → Sees w j me moment reading answer w.index.tags (entries_of w.state.shards) zone k n s) [
          | true ↦ λ of is. sees_shown k n s (number_same (container_of k) container (left_of (container_of k == container) (bytes_eq n name) of)) (same_text n name (right_of (container_of k == container) (bytes_eq n name) of)) is
          | false ↦ λ other is. sees_same w j me moment reading answer w.index.tags (calm_same w.index.tags).keeps me zone k n s is
        ] refl)
        (λ z k n s is. sees_same w j me moment reading answer w.index.tags (calm_same w.index.tags).keeps me z k n s is))

  module _ (zone : ℕ) (key : Key) (start : List ℕ) (limit : ℕ) where
    abbrev paging : Op
    paging = Page zone key start limit

    module _ (s : Shard) (there : w.state.shards zone key ≡ Some s) where
      abbrev entries_shown : Reply
      entries_shown = Entries (page_of s start limit now)

      -- an entry on the page is seen as it is
      sees_new : (n : List ℕ) (e : EntryView) → at s.entries n ≡ Some e → Sees w j me moment paging entries_shown w.index.tags (entries_of w.state.shards) zone key n (record { entry = e; moment = now; head = None })
      sees_new n e is =
          let here : entries_of w.state.shards zone key n ≡ e = ap (λ x. entry_in x n) there ∙ ap entry_of is in
          record {
            safe = record { past = omega arith; read_below = λ read none. absurd cc; safe = λ stands due read none. absurd cc };
            stays = λ room due. record { not_below = let revision = ap (λ (x : EntryView). x.revision) here in omega (arith, revision); unchanged = λ same. here };
          }

      sees_page : (n : List ℕ) (x : Sighting) → sighted now (find name_cmp n (page_of s start limit now).rows) ((w.phases me).seen zone key n) ≡ Some x → Sees w j me moment paging entries_shown w.index.tags (entries_of w.state.shards) zone key n x
      sees_page n x is = by_found (find name_cmp n (page_of s start limit now).rows) refl is where
        old : (w.phases me).seen zone key n ≡ Some x → Sees w j me moment paging entries_shown w.index.tags (entries_of w.state.shards) zone key n x
        old was = sees_same w j me moment paging entries_shown w.index.tags (calm_same w.index.tags).keeps me zone key n x was

        by_found : (o : Option EntryView) → find name_cmp n (page_of s start limit now).rows ≡ o → sighted now o ((w.phases me).seen zone key n) ≡ Some x → Sees w j me moment paging entries_shown w.index.tags (entries_of w.state.shards) zone key n x
        by_found None found was = old was
        by_found (Some e) found was =
            elim (has_due now e.tags) as (λ b. cond b (Some (record { entry = e; moment = now; head = None })) ((w.phases me).seen zone key n) ≡ Some x → Sees w j me moment paging entries_shown w.index.tags (entries_of w.state.shards) zone key n x) [
              | true ↦ λ new.
                  let same : record { entry = e; moment = now; head = None } ≡ x = cc in
                  subst (λ y. Sees w j me moment paging entries_shown w.index.tags (entries_of w.state.shards) zone key n y) same
                  (sees_new n e (page_shows (λ name. is_lt (name_cmp start name)) s.entries n limit e found))
              | false ↦ λ kept. old kept
            ] was

      page_learnt : Still w me moment paging entries_shown w.index.tags
      page_learnt =
          quiet w j me moment paging entries_shown w.index.tags (calm_same w.index.tags) (knows_same w j me moment paging entries_shown refl refl) (j.tags_of_prepare.own me) (λ a t apart is. j.tags_of_prepare.own a t is)
          (elim (is_named (w.phases me).named zone key) as (λ b. (z : ℕ) (k : Key) (n : List ℕ) (x : Sighting) → cond b (put_in (w.phases me).seen zone key (λ name. sighted now (find name_cmp name (page_of s start limit now).rows) ((w.phases me).seen zone key name))) (w.phases me).seen z k n ≡ Some x → Sees w j me moment paging entries_shown w.index.tags (entries_of w.state.shards) z k n x) [
            | true ↦ put_in_cases (λ z k f. (n : List ℕ) (x : Sighting) → f n ≡ Some x → Sees w j me moment paging entries_shown w.index.tags (entries_of w.state.shards) z k n x) (w.phases me).seen zone key _ sees_page
                (λ z k n x is. sees_same w j me moment paging entries_shown w.index.tags (calm_same w.index.tags).keeps me z k n x is)
            | false ↦ λ z k n x is. sees_same w j me moment paging entries_shown w.index.tags (calm_same w.index.tags).keeps me z k n x is
          ])

    pub page_shown : Still w me moment paging (on_shard (w.state.shards zone key) (λ s. reply_or (Entries (page_of s start limit now)) (fate_refusal s.fate))) w.index.tags
    page_shown =
        elim (w.state.shards zone key) as (λ o. w.state.shards zone key ≡ o → Still w me moment paging (on_shard o (λ s. reply_or (Entries (page_of s start limit now)) (fate_refusal s.fate))) w.index.tags) [
          | None ↦ λ is. nothing_learnt paging (No Closed) refl refl refl refl
          | Some s ↦ λ is.
              elim (fate_refusal s.fate) as (λ r. Still w me moment paging (reply_or (Entries (page_of s start limit now)) r) w.index.tags) [
                | None ↦ page_learnt s is
                | Some why ↦ nothing_learnt paging (No why) refl refl refl refl
              ]
        ] refl
