-- What holds shards, over any swap of a row.
use Rattle.std.proofs.Common.{◌≡◌, ◌⊎◌, inl, inr, ℕ, ◌+◌, ◌<◌, ◌≤◌, List, Option, Some, None, refl, sym, ap, subst, ◌∙◌, arith}
use Rattle.rgw_types.specs.declared.pool_key.Key.{Key}
use Rattle.object_words.specs.declared.bucket.Bucket.{Bucket}
use Rattle.object_words.specs.declared.shard.Fate.TheVariants as Fates
use Rattle.object_words.specs.declared.shard.Hold.TheVariants.{Free}
use Rattle.object_words.specs.Keys.{shard_key, container_of, instance_of}
use Rattle.object_words.specs.HoldCalls.{hold_number}
use Rattle.object_words.specs.Shards.{Shard}
use Rattle.realm_model.specs.Facts.{Home, Instance}
use Rattle.realm_model.specs.Phases.{ActorId, Phase}
use Rattle.realm_model.specs.Worlds.{World, put_actor}
use Rattle.realm_model.proofs.ObjectLemmas.{put_actor_cases}
use Rattle.index_law.specs.Tables.{rows_of, Instances}
use Rattle.index_law.specs.Works.{IsUnnamed}
use Rattle.index_law.specs.Holds.{IsHeldUpTo, IsNew, IsGiven, IsShut, IsLeft, HoldsStand, HoldsIn, IsClosing}
use Rattle.index_law.specs.Invariants.{IndexHolds}
use Rattle.index_law.proofs.RowLaws.{same_in, RowsMove}
use Rattle.index_law.proofs.Holding.{TakenBy}

module _ (w : World) (j : IndexHolds w) (h : HoldsIn w) (homes : ℕ → Option Home) (instances : Instances) (rows : ℕ → List ℕ → Option Bucket) (m : RowsMove w.state.count w.rows.homes homes w.rows.instances instances (rows_of w.state.root) rows) where
  weaker : (s : Shard) (low high : ℕ) → low ≤ high → IsHeldUpTo low s → IsHeldUpTo high s
  weaker s low high rises is =
      let fence = is.fence in
      record { hold = by is.hold; fence = omega (arith, fence, rises) } where
        by : (s.hold ≡ Free) ⊎ IsClosing s.hold (low + 1) → (s.hold ≡ Free) ⊎ IsClosing s.hold (high + 1)
        by (inl free) = inl free
        by (inr c) = let most = c.high in inr (record { number = c.number; is = c.is; low = c.low; high = omega (arith, most, rises) })

  placed_now : (zone : ℕ) (key : Key) (s : Shard) (instance : Instance) → w.state.shards zone key ≡ Some s → instances zone (container_of key) (instance_of key) ≡ Some instance → IsHeldUpTo instance.over s
  placed_now zone key s instance there is = by (w.rows.instances zone (container_of key) (instance_of key)) refl where
    by : (o : Option Instance) → w.rows.instances zone (container_of key) (instance_of key) ≡ o → IsHeldUpTo instance.over s
    by None none = let n = h.new zone key s there none in let fence = n.fence in record { hold = inl n.hold; fence = omega (arith, fence) }
    by (Some x) some =
        let r = m.rise zone (container_of key) (instance_of key) x some in
        let one : r.instance ≡ instance = same_in (sym r.placed ∙ is) in
        let rises = subst (λ (y : Instance). x.over ≤ y.over) one r.over in
        weaker s x.over instance.over rises (h.placed zone key s x there some)

  new_now : (zone : ℕ) (key : Key) (s : Shard) → w.state.shards zone key ≡ Some s → instances zone (container_of key) (instance_of key) ≡ None → IsNew s
  new_now zone key s there none = by (w.rows.instances zone (container_of key) (instance_of key)) refl where
    by : (o : Option Instance) → w.rows.instances zone (container_of key) (instance_of key) ≡ o → IsNew s
    by None was = h.new zone key s there was
    by (Some x) some = let r = m.rise zone (container_of key) (instance_of key) x some in let there_now = r.placed in absurd cc

  unnamed_on : (zone container number : ℕ) (x : Instance) → w.rows.instances zone container number ≡ Some x → IsUnnamed (rows_of w.state.root) zone container number → IsUnnamed rows zone container number
  unnamed_on zone container number x placed unnamed name row is id_is instance_is =
      let was = m.named_back zone name row x is ((λ i. w.rows.instances zone (id_is i) (instance_is i)) ∙ placed) in
      unnamed name was.old was.kept (was.id_is ∙ id_is) (was.instance_is ∙ instance_is)

  given_now : (zone : ℕ) (key : Key) (s : Shard) → w.state.shards zone key ≡ Some s → IsGiven rows zone key s
  given_now zone key s there name row is id_is instance_is = by (w.rows.instances zone (container_of key) (instance_of key)) refl where
    by : (o : Option Instance) → w.rows.instances zone (container_of key) (instance_of key) ≡ o → hold_number s.hold ≤ row.number
    by None none = let free : hold_number s.hold ≡ 0 = ap hold_number (h.new zone key s there none).hold in omega (arith, free)
    by (Some x) some =
        let was = m.named_back zone name row x is ((λ i. w.rows.instances zone (id_is i) (instance_is i)) ∙ some) in
        let old = h.given zone key s there name was.old was.kept (was.id_is ∙ id_is) (was.instance_is ∙ instance_is) in
        let rises = was.number in
        omega (arith, old, rises)

  fates_now : (zone : ℕ) (key : Key) (s : Shard) → w.state.shards zone key ≡ Some s → (s.fate ≡ Fates.Serving) ⊎ IsShut instances rows zone key s
  fates_now zone key s there =
      elim (h.fates zone key s there) [
        | inl serving ↦ inl serving
        | inr shut ↦
            let r = m.rise zone (container_of key) (instance_of key) shut.instance shut.placed in
            inr (record { fate = shut.fate; instance = r.instance; placed = r.placed; unnamed = unnamed_on zone (container_of key) (instance_of key) shut.instance shut.placed shut.unnamed })
      ]

  pub swapped_holds : (me : ActorId) (phase : Phase) → TakenBy rows w.state.shards phase.work → ((a : ActorId) → TakenBy rows w.state.shards (w.phases a).work)
      → ((zone container number : ℕ) (i : Instance) (n : ℕ) → instances zone container number ≡ Some i → IsUnnamed rows zone container number → n < i.shards → IsLeft (w.state.shards zone (shard_key container number n)) i.over)
      → HoldsStand instances rows w.state.shards (put_actor w.phases me phase)
  swapped_holds me phase mine others left = record {
    keyed = h.keyed;
    placed = placed_now;
    new = new_now;
    given = given_now;
    fates = fates_now;
    taken = put_actor_cases (λ a p. TakenBy rows w.state.shards p.work) w.phases me phase mine others;
    left = left;
  }
