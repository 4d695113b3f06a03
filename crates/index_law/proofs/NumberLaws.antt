-- Numbers stay below the next.
use Rattle.std.proofs.Common.{◌≡◌, ℕ, ◌+◌, ◌≤◌, ◌^◌, true, false, cond, List, Option, Some, None, refl, subst, ◌∙◌, arith}
use Rattle.std.specs.Prelude.{nat_lt}
use Rattle.rgw_types.specs.declared.pool_key.Key.{Key}
use Rattle.object_words.specs.declared.entry.Tag.{Tag}
use Rattle.object_words.specs.Keys.{put}
use Rattle.object_words.specs.Rows.{RowView}
use Rattle.object_words.specs.Entries.{EntryView, entry_of, with_tags, stored_if_newer, is_kept}
use Rattle.realm_model.specs.Facts.{TagNote, Home, Instance}
use Rattle.realm_model.specs.Phases.{ActorId, FirstEvent}
use Rattle.realm_model.specs.Learnt.{first_after, learnt}
use Rattle.realm_model.specs.States.{clock_at}
use Rattle.realm_model.specs.Worlds.{World, put_actor}
use Rattle.realm_model.specs.declared.op.Op.{Op}
use Rattle.realm_model.specs.declared.event.Reply.{Reply}
use Rattle.realm_model.proofs.Bounds.{counted_early}
use Rattle.realm_model.proofs.Makers.{by_before, by_now}
use Rattle.realm_model.proofs.ObjectLemmas.{put_actor_cases}
use Rattle.index_law.specs.Tables.{Entries, entries_of, Heads, heads_of, Notes, Instances}
use Rattle.index_law.specs.Numbers.{IsNumbered, Numbers}
use Rattle.index_law.specs.Invariants.{IndexHolds}
use Rattle.index_law.proofs.Puts.{kept_entry}

-- ---- entries

pub numbered_more : (count : ℕ) (e : EntryView) → IsNumbered count e → IsNumbered (count + 1) e
numbered_more count e is = (omega (arith, is.0), omega (arith, is.1))

kept_numbered : (count : ℕ) (e : EntryView) → IsNumbered count e → IsNumbered count (kept_entry e)
kept_numbered count e is = elim (is_kept e) as (λ b. IsNumbered count (entry_of (cond b (Some e) None))) [ true ↦ is | false ↦ (omega arith, omega arith) ]

pub tags_numbered : (count : ℕ) (e : EntryView) (tags : List Tag) → IsNumbered count e → IsNumbered (count + 1) (kept_entry (with_tags e tags))
tags_numbered count e tags is = kept_numbered (count + 1) (with_tags e tags) (omega (arith, is.0), omega (arith, is.1))

pub stored_numbered : (count : ℕ) (e : EntryView) (tags : List Tag) (version : ℕ) (row : RowView) → version ≤ count → IsNumbered count e → IsNumbered (count + 1) (kept_entry (stored_if_newer (with_tags e tags) version row))
stored_numbered count e tags version row below is =
    kept_numbered (count + 1) (stored_if_newer (with_tags e tags) version row)
    (elim (nat_lt e.version version) as (λ b. cond b version e.version ≤ count + 1) [ true ↦ omega (arith, below) | false ↦ omega (arith, is.0) ], omega (arith, is.1))

-- ---- one event more

module _ (w : World) (j : IndexHolds w) (moment : ℕ) where
  pub clock_early : clock_at w.state.clock moment ≤ 2 ^ 58
  clock_early = let old = j.numbers.early in let new = counted_early moment in omega (arith, old, new)

  pub entries_more : (zone : ℕ) (key : Key) (name : List ℕ) → IsNumbered (w.state.count + 1) (entries_of w.state.shards zone key name)
  entries_more zone key name = numbered_more w.state.count (entries_of w.state.shards zone key name) (j.numbers.entries_below zone key name)

  pub heads_more : (zone container : ℕ) (name : List ℕ) → (heads_of w.state.heads zone container name).version ≤ w.state.count + 1
  heads_more zone container name = let old = j.numbers.heads_below zone container name in omega (arith, old)

  pub tags_more : (tag : ℕ) (note : TagNote) → w.index.tags tag ≡ Some note → tag ≤ w.state.count + 1
  tags_more tag note is = let old = j.numbers.tags_below tag note is in omega (arith, old)

  pub homes_more : (container : ℕ) (home : Home) → w.rows.homes container ≡ Some home → (container ≤ w.state.count + 1) × (home.at ≤ w.state.count + 1)
  homes_more container home is = let old = j.numbers.homes_below container home is in (omega (arith, old.0), omega (arith, old.1))

  pub instances_more : (zone container number : ℕ) (instance : Instance) → w.rows.instances zone container number ≡ Some instance → number ≤ w.state.count + 1
  instances_more zone container number instance is = let old = j.numbers.instances_below zone container number instance is in omega (arith, old)

  -- the number of an event that comes next is no tag's
  pub new_tag_number : (note : TagNote) → w.index.tags (w.state.count + 1) ≡ Some note → ⊥
  new_tag_number note is = let old = j.numbers.tags_below (w.state.count + 1) note is in omega (arith, old)

  module _ (me : ActorId) (op : Op) (reply : Reply) where
    first_by : (first : Option FirstEvent) → ((f : FirstEvent) → first ≡ Some f → (f.number ≤ w.state.count) × (w.stripes.by f.number ≡ me)) → (f : FirstEvent) → first_after first (w.state.count + 1) (clock_at w.state.clock moment) ≡ Some f
        → (f.number ≤ w.state.count + 1) × (put w.stripes.by (w.state.count + 1) me f.number ≡ me)
    first_by None old f is =
        let number : w.state.count + 1 ≡ f.number = cc in
        (omega (arith, number), subst (λ n. put w.stripes.by (w.state.count + 1) me n ≡ me) number (by_now w.stripes.by (w.state.count + 1) me))
    first_by (Some g) old f is =
        let same : g ≡ f = cc in
        let was = subst (λ x. (x.number ≤ w.state.count) × (w.stripes.by x.number ≡ me)) same (old g refl) in
        (omega (arith, was.0), by_before w.stripes.by w.state.count f.number me was.0 ∙ was.1)

    firsts_after : (a : ActorId) (f : FirstEvent) → (put_actor w.phases me (learnt (w.phases me) op reply (w.state.count + 1) (clock_at w.state.clock moment)) a).first ≡ Some f
        → (f.number ≤ w.state.count + 1) × (put w.stripes.by (w.state.count + 1) me f.number ≡ a)
    firsts_after =
        put_actor_cases (λ a p. (f : FirstEvent) → p.first ≡ Some f → (f.number ≤ w.state.count + 1) × (put w.stripes.by (w.state.count + 1) me f.number ≡ a)) w.phases me _
        (first_by (w.phases me).first (j.numbers.firsts_below me))
        (λ a f is. let was = j.numbers.firsts_below a f is in (omega (arith, was.0), by_before w.stripes.by w.state.count f.number me was.0 ∙ was.1))

    -- the tables after the event, with numbers that are not above it
    pub numbers_after : (entries : Entries) (heads : Heads) (tags : Notes) (homes : ℕ → Option Home) (instances : Instances)
        → ((zone : ℕ) (key : Key) (name : List ℕ) → IsNumbered (w.state.count + 1) (entries zone key name))
        → ((zone container : ℕ) (name : List ℕ) → (heads zone container name).version ≤ w.state.count + 1)
        → ((tag : ℕ) (note : TagNote) → tags tag ≡ Some note → tag ≤ w.state.count + 1)
        → ((container : ℕ) (home : Home) → homes container ≡ Some home → (container ≤ w.state.count + 1) × (home.at ≤ w.state.count + 1))
        → ((zone container number : ℕ) (instance : Instance) → instances zone container number ≡ Some instance → number ≤ w.state.count + 1)
        → Numbers (w.state.count + 1) (clock_at w.state.clock moment) entries heads tags homes instances (put w.stripes.by (w.state.count + 1) me) (put_actor w.phases me (learnt (w.phases me) op reply (w.state.count + 1) (clock_at w.state.clock moment)))
    numbers_after entries heads tags homes instances e h t o i = record {
      early = clock_early;
      entries_below = e;
      heads_below = h;
      tags_below = t;
      homes_below = o;
      instances_below = i;
      firsts_below = firsts_after;
    }
