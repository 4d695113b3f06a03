-- A swap that is done takes a row away: its container does not stand any more.
use Rattle.std.proofs.Common.{◌≡◌, ◌⊎◌, inl, inr, ℕ, ◌+◌, true, List, Option, Some, None, refl, sym, subst, ap, ◌∙◌, arith}
use Rattle.object_words.specs.declared.bucket.Bucket.{Bucket}
use Rattle.object_words.specs.Keys.{put, container_of, instance_of}
use Rattle.object_words.specs.Logs.{Log}
use Rattle.object_words.specs.Roots.{Root}
use Rattle.realm_model.specs.Facts.{Home, Instance}
use Rattle.realm_model.specs.Phases.{ActorId, OwnNumber, OwnWork, Phase}
use Rattle.realm_model.specs.Learnt.{row_known, worked, learnt}
use Rattle.realm_model.specs.States.{clock_at}
use Rattle.realm_model.specs.Worlds.{World, put_actor}
use Rattle.realm_model.specs.declared.op.Op.{Op}
use Rattle.realm_model.specs.declared.op.Op.TheVariants.{BucketSwap}
use Rattle.realm_model.specs.declared.event.Reply.TheVariants.{Done}
use Rattle.realm_model.proofs.ObjectLemmas.{put_bundle_cases}
use Rattle.index_law.specs.Tables.{entries_of, heads_of, rows_of, changes_of, Stands, StandsIn}
use Rattle.index_law.specs.Rows.{IsNamed, IsInRow, IsKept}
use Rattle.index_law.specs.Works.{IsBegun, IsCleared, IsRemoved, WorkHolds}
use Rattle.index_law.specs.Agreements.{Agreements}
use Rattle.index_law.specs.Invariants.{Index, IndexHolds}
use Rattle.index_law.proofs.NumberLaws.{homes_more, instances_more}
use Rattle.index_law.proofs.RowLaws.{RowsMove, same_in, rise_same, begun_on, removed_on, kept_later, own_homes, own_instances}
use Rattle.index_law.proofs.Moving.{with_root, row_back, row_here, row_else, knows_now, moved}
use Rattle.index_law.proofs.Changing.{kept_old, alone}

module _ (w : World) (j : IndexHolds w) (me : ActorId) (moment : ℕ) (zone : ℕ) (name : List ℕ) (expected : ℕ) (old : Bucket) (log : Log) (kept : rows_of w.state.root zone name ≡ Some old)
    (known : row_known ((w.phases me).rows zone) name ≡ Some old) (gone : (zone ≡ 1) ⊎ (StandsIn w old.id → ⊥)) where
  abbrev number : ℕ
  number = w.state.count + 1

  abbrev now : ℕ
  now = clock_at w.state.clock moment

  abbrev op : Op
  op = BucketSwap zone name expected None

  abbrev phase : Phase
  phase = learnt (w.phases me) op Done number now

  abbrev root : ℕ → Root
  root = with_root w.state.root zone name None log

  named_old : IsNamed w.rows.homes w.rows.instances zone name old
  named_old = (kept_old w j zone name old kept).named

  pub none_some : {x : Bucket} → ◌≡◌ {A = Option Bucket} None (Some x) → ⊥
  none_some is = cc

  pub moves : RowsMove w.state.count w.rows.homes w.rows.homes w.rows.instances w.rows.instances (rows_of w.state.root) (rows_of root)
  moves = record {
    homes_grow = λ c x is. is;
    homes_back = λ c x is. inl is;
    rise = rise_same w.rows.instances;
    stands_back = λ c m stands.
        elim (row_back w.state.root zone name None log 1 (stands.home).name (Some stands.row) stands.kept) [
          | inl moved ↦ absurd (none_some moved.2)
          | inr there ↦ record { home = stands.home; made = stands.made; row = stands.row; kept = there.0; id_is = stands.id_is }
        ];
    kept_back = λ z n r is.
        elim (row_back w.state.root zone name None log z n (Some r) is) [
          | inl moved ↦ absurd (none_some moved.2)
          | inr there ↦ inl there.0
        ];
    named_back = λ z n r x is placed.
        elim (row_back w.state.root zone name None log z n (Some r) is) [
          | inl moved ↦ absurd (none_some moved.2)
          | inr there ↦ record { old = r; kept = there.0; id_is = refl; instance_is = refl; number = omega arith }
        ];
  }

  -- the container of the row does not stand afterwards
  fallen : Stands w.rows.homes (rows_of root) old.id → ⊥
  fallen stands =
      elim gone [
        | inl one ↦
            let same : named_old.home ≡ stands.home = same_in (sym named_old.made ∙ stands.made) in
            let at_name : (stands.home).name ≡ name = ap (λ (h : Home). h.name) (sym same) ∙ named_old.name_is in
            none_some (sym (row_here w.state.root zone name None log) ∙ (λ k. rows_of root (one k) (sym at_name k)) ∙ stands.kept)
        | inr other ↦ other (moves.stands_back old.id (record { home = named_old.home; made = named_old.made }) stands)
      ]

  kept_now : (z : ℕ) (n : List ℕ) (r : Bucket) → rows_of root z n ≡ Some r → IsKept number w.rows.homes w.rows.instances z n r
  kept_now z n r is =
      elim (row_back w.state.root zone name None log z n (Some r) is) [
        | inl moved ↦ absurd (none_some moved.2)
        | inr there ↦ kept_later w j me moment op Done z n r there.0
      ]

  in_row_now : (z c i : ℕ) (x : Instance) → w.rows.instances z c i ≡ Some x → Stands w.rows.homes (rows_of root) c → IsInRow w.rows.homes (rows_of root) z c i
  in_row_now z c i x is stands =
      let r = j.rows_stand.in_row z c i x is (moves.stands_back c (j.rows_stand.homed z c i x is) stands) in
      let apart : z ≡ zone → (r.home).name ≡ name → ⊥ =
      λ at_zone at_name.
      let one : old ≡ r.row = same_in (sym kept ∙ (λ k. rows_of w.state.root (sym at_zone k) (sym at_name k)) ∙ r.kept) in
      fallen (subst (Stands w.rows.homes (rows_of root)) (sym r.id_is ∙ ap (λ (y : Bucket). y.id) (sym one)) stands) in
      record { home = r.home; made = r.made; row = r.row; kept = row_else w.state.root zone name None log z (r.home).name apart ∙ r.kept; id_is = r.id_is; instance_is = r.instance_is }

  works_now : WorkHolds w.rows.homes w.rows.instances (rows_of root) phase.work
  works_now =
      let work = (w.phases me).work in
      let h = (j.rows_stand.knows me).works in
      let own = work zone old.id old.instance in
      let homed = j.rows_stand.homed in
      let begun : (z c i n : ℕ) (x : OwnNumber) → (work z c i).begun n ≡ Some x → IsBegun w.rows.instances (rows_of root) z c i n =
      λ z c i n x is. begun_on w.state.count w.rows.homes w.rows.homes w.rows.instances w.rows.instances (rows_of w.state.root) (rows_of root) moves homed z c i n (h.begun z c i n x is) in
      let cleared : (z c i n : ℕ) → (work z c i).cleared n ≡ true → IsCleared w.rows.instances z c i n = h.cleared in
      subst (WorkHolds w.rows.homes w.rows.instances (rows_of root)) (sym (ap (λ o. worked work zone o None) known))
      (record {
        begun = λ z c i. put_bundle_cases (λ z c i (v : OwnWork). (n : ℕ) (x : OwnNumber) → v.begun n ≡ Some x → IsBegun w.rows.instances (rows_of root) z c i n) work zone old.id old.instance (record own { removed = Some old.shards }) (begun zone old.id old.instance) begun z c i;
        cleared = λ z c i. put_bundle_cases (λ z c i (v : OwnWork). (n : ℕ) → v.cleared n ≡ true → IsCleared w.rows.instances z c i n) work zone old.id old.instance (record own { removed = Some old.shards }) (cleared zone old.id old.instance) cleared z c i;
        removed = λ z c i.
            put_bundle_cases (λ z c i (v : OwnWork). (shards : ℕ) → v.removed ≡ Some shards → IsRemoved w.rows.homes w.rows.instances (rows_of root) z c i) work zone old.id old.instance (record own { removed = Some old.shards })
            (λ shards is.
            record {
              instance = named_old.instance;
              placed = named_old.placed;
              unnamed = λ n r there id_is instance_is.
                  elim (row_back w.state.root zone name None log zone n (Some r) there) [
                    | inl moved ↦ none_some moved.2
                    | inr still ↦ still.1 refl (alone w j zone name old kept n r still.0 id_is)
                  ];
              fallen = fallen;
            })
            (λ z c i shards is. removed_on w.state.count w.rows.homes w.rows.homes w.rows.instances w.rows.instances (rows_of w.state.root) (rows_of root) moves homed z c i (h.removed z c i shards is)) z c i;
      })

  agreements_now : Agreements (Stands w.rows.homes (rows_of root)) (changes_of w.index.tags) w.rows.instances (entries_of w.state.shards) (heads_of w.state.heads) w.index.last
  agreements_now z k n p stands = j.agreements z k n p (moves.stands_back (container_of k) (j.rows_stand.homed z (container_of k) (instance_of k) p.instance p.placed) stands)

  pub removal_done : Index number now (entries_of w.state.shards) (heads_of w.state.heads) (rows_of root) w.index.tags w.index.last w.rows.homes w.rows.instances (put w.stripes.by number me) (put_actor w.phases me phase)
  removal_done =
      moved w j me moment zone name expected None None log w.rows.homes w.rows.instances moves kept_now
      (knows_now w j me moment zone name expected None None log w.rows.homes w.rows.instances moves refl (λ r is. absurd (none_some is)) works_now) in_row_now
      j.rows_stand.homed (own_homes w j me moment op Done) (own_instances w j me moment op Done) (homes_more w j moment) (instances_more w j moment) agreements_now
