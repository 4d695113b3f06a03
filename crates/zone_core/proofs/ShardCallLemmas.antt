-- A call of a class on a shard, as the state sees it.
use Rattle.std.proofs.Common.{◌≡◌, ℕ, ◌&&◌, ◌==◌, not, Bool, true, false, cond, ◌+◌, ◌<◌, ◌≤◌, ◌^◌, List, [], ◌∷◌, length, Option, Some, None, IfSome, Result, Ok, Err, refl, sym, ap, ◌∙◌, subst, arith}
use Rattle.std.specs.Prelude.{OnErr, OnOk}
use Rattle.std.specs.List.{AllByRecursion}
use Rattle.std.proofs.lemmas.Bool.{true≢false}
use Rattle.std.proofs.lemmas.Bool.Decides.{nat_tests}
use Rattle.rgw_types.specs.declared.pool_key.Key.{Key}
use Rattle.object_pool.specs.declared.place.Place.{Place}
use Rattle.object_pool.specs.Objects.{Object, PoolView, exists, nothing, object_at, settled}
use Rattle.object_pool.specs.Places.{IsPlaceIn, object_of, pool_of}
use Rattle.object_words.specs.declared.why.Why.{Why}
use Rattle.object_words.specs.declared.why.ClassFault.{ClassFault}
use Rattle.object_words.specs.declared.why.ClassFault.TheVariants.{OutOfMemory, No}
use Rattle.object_words.specs.declared.why.Why.TheVariants.{Stale}
use Rattle.object_words.specs.declared.entry.Tag.{Tag}
use Rattle.object_words.specs.Answers.{Answers, Replies}
use Rattle.object_words.specs.Keys.{is_shard_key}
use Rattle.object_words.specs.Names.{at}
use Rattle.object_words.specs.Refusals.{first_refusal, unless_refused}
use Rattle.object_words.specs.Shards.{Shard, entry_at, new_shard}
use Rattle.object_words.specs.ShardCalls.{made, untimely_refusal}
use Rattle.object_words.specs.Tags.{has_due}
use Rattle.index_entry.proofs.HeaderLemmas.{header_long}
use Rattle.class_words.specs.Shards.{HasTagsBelow, IsShard, IsShardOr, IsSmall, header_of}
use Rattle.class_words.specs.Works.{Works}
use Rattle.class_words.proofs.WorksLemmas.{works_with}
use Rattle.realm_model.specs.Settings.{SettingsView}
use Rattle.realm_model.specs.States.{State, at_shard, touched}
use Rattle.realm_model.specs.Steps.{change_at}
use Rattle.realm_model.proofs.TouchLemmas.{put_in_same}
use Rattle.zone_core.specs.Bounds.{IsReady, IsSmallBy}
use Rattle.zone_core.specs.Calls.{refusal_at}
use Rattle.zone_core.specs.Stands.{Stands}
use Rattle.zone_core.proofs.BoundLemmas.{if_some}
use Rattle.zone_core.proofs.Given.{Gave, gave}
use Rattle.zone_core.proofs.StandLemmas.{stands_shard}

-- ---- a shard is there or not

not_all : (a b c : Bool) → b ≡ false → not (a && (b && c)) ≡ true
not_all true b c e = rw e refl
not_all false b c e = refl

some_attrs : (n : ℕ) → n ≡ 68 → (n == 0) ≡ false
some_attrs n e = grind (arith, nat_tests)

pub shard_exists : (o : Object) (s : Shard) → IsShard o s → exists o ≡ true
shard_exists o s is = not_all (length o.bytes == 0) (length o.attrs == 0) (length o.rows.rows == 0) (some_attrs (length o.attrs) (header_long o.attrs (header_of s) is.attrs))

pub not_made : (o : Object) (found : Option Shard) → IsShardOr o found → exists o ≡ false → found ≡ None
not_made o None is gone = refl
not_made o (Some s) is gone = absurd (true≢false (sym (shard_exists o s is) ∙ gone))

pub was_made : (o : Object) (found : Option Shard) → IsShardOr o found → exists o ≡ true → (s : Shard) × (found ≡ Some s) × IsShard o s
was_made o None is there = absurd (true≢false (sym there ∙ ap exists is))
was_made o (Some s) is there = (s, refl, is)

settled_shard : (o : Object) (s : Shard) → IsShard o s → IsShard (settled o) s
settled_shard o s is = subst (λ b. IsShard (cond b o nothing) s) (sym (shard_exists o s is)) is

-- ---- the answers of a call in other words

pub answers_as : {V S S' : Type 0} (result : Result V ClassFault) (refusal refusal' : Option Why) (IsValue : V → Type 0) (Is : S → Type 0) (Is' : S' → Type 0) (before after : S) (before' after' : S')
    → refusal' ≡ refusal → (Is before → Is' before') → (Is after → Is' after') → Answers result refusal IsValue Is before after → Answers result refusal' IsValue Is' before' after'
answers_as (Ok value) refusal refusal' IsValue Is Is' before after before' after' same b a answers = (same ∙ answers.0, answers.1, a answers.2)
answers_as (Err (No why)) refusal refusal' IsValue Is Is' before after before' after' same b a answers = (same ∙ answers.0, a answers.1)
answers_as (Err OutOfMemory) refusal refusal' IsValue Is Is' before after before' after' same b a answers = b answers

pub replies_as : {V S S' : Type 0} (result : Result V Why) (refusal refusal' : Option Why) (IsValue : V → Type 0) (Is : S → Type 0) (Is' : S' → Type 0) (after : S) (after' : S')
    → refusal' ≡ refusal → (Is after → Is' after') → Replies result refusal IsValue Is after → Replies result refusal' IsValue Is' after'
replies_as (Ok value) refusal refusal' IsValue Is Is' after after' same a replies = (same ∙ replies.0, replies.1, a replies.2)
replies_as (Err why) refusal refusal' IsValue Is Is' after after' same a replies = (same ∙ replies.0, a replies.1)

-- ---- a call on a shard

module _ (settings : SettingsView) (zone : ℕ) (p f : PoolView) (st : State) (key : Key) (kind : is_shard_key key ≡ true) (stands : Stands settings zone p st) where
  -- the shard of the key, where the object exists
  pub shard_here : exists (object_at p key) ≡ true → (s : Shard) × (st.shards zone key ≡ Some s) × IsShard (object_at p key) s
  shard_here there = was_made (object_at p key) (st.shards zone key) (stands.shards key kind) there

  pub never_made : exists (object_at p key) ≡ false → st.shards zone key ≡ None
  never_made gone = not_made (object_at p key) (st.shards zone key) (stands.shards key kind) gone

  -- where the object doesn't exist nothing changes
  pub none_changes : (change : Shard → Shard) → exists (object_at p key) ≡ false → f ≡ p → Stands settings zone f (touched settings st (at_shard zone key (change_at (st.shards zone key) change)))
  none_changes change gone same =
      let none = never_made gone in
      subst (λ q. Stands settings zone q (touched settings st (at_shard zone key (change_at (st.shards zone key) change)))) (sym same)
      (stands_shard settings zone p p st stands key (change_at (st.shards zone key) change) kind (λ q differs. refl) refl refl
      (subst (IsShardOr (object_at p key)) (none ∙ sym (ap (λ o. change_at o change) none)) (stands.shards key kind)))

  module _ (place place' : Place) (there : exists (object_at p key) ≡ true) (at : IsPlaceIn p key (object_at p key) place) (works : Works place place') (ends : f ≡ pool_of place') where
    gives : Gave p f key (object_of place') (pool_of place).free
    gives = gave p f key (object_at p key) place place' _ at (works_with place place' works) ends

    stands_with : (s : Option Shard) → IsShardOr (settled (object_of place')) s → Stands settings zone f (touched settings st (at_shard zone key s))
    stands_with s is =
        let given = gives in
        stands_shard settings zone p f st stands key s kind given.others given.frame (given.free ∙ at.counts.free) (subst (λ o. IsShardOr o s) (sym given.object) is)

    becomes : (s : Shard) (change : Shard → Shard) → st.shards zone key ≡ Some s → IsShard (object_of place') (change s)
        → Stands settings zone f (touched settings st (at_shard zone key (change_at (st.shards zone key) change)))
    becomes s change found is =
        subst (λ o. Stands settings zone f (touched settings st (at_shard zone key (change_at o change)))) (sym found)
        (stands_with (Some (change s)) (settled_shard (object_of place') (change s) is))

    same_shard : (s : Shard) → st.shards zone key ≡ Some s → IsShard (object_of place') s → Stands settings zone f st
    same_shard s found is =
        let shown = subst (IsShardOr (settled (object_of place'))) (sym found) (settled_shard (object_of place') s is) in
        let same : touched settings st (at_shard zone key (st.shards zone key)) ≡ st = ap (λ shards. record st { shards = shards }) (put_in_same st.shards zone key) in
        subst (Stands settings zone f) same (stands_with (st.shards zone key) shown)

    -- a class call that may want memory
    pub class_answers : {V : Type 0} (result : Result V ClassFault) (refusal : Shard → Option Why) (IsValue : Shard → V → Type 0) (change : Shard → Shard)
        → ((s : Shard) → st.shards zone key ≡ Some s → IsShard (object_of place) s → Answers result (refusal s) (IsValue s) (IsShard (object_of place')) s (change s))
        → (s : Shard) × (st.shards zone key ≡ Some s)
        × Answers result (refusal_at (st.shards zone key) refusal) (IsValue s) (Stands settings zone f) st (touched settings st (at_shard zone key (change_at (st.shards zone key) change)))
    class_answers result refusal IsValue change answers =
        let here = shard_here there in
        let s = here.0 in (
          s,
          here.1,
          answers_as result (refusal s) (refusal_at (st.shards zone key) refusal) (IsValue s) (IsShard (object_of place')) (Stands settings zone f) s (change s) st
              (touched settings st (at_shard zone key (change_at (st.shards zone key) change))) (ap (λ o. refusal_at o refusal) here.1) (same_shard s here.1) (becomes s change here.1)
              (answers s here.1 (subst (λ o. IsShard o s) (sym at.object) here.2)),
        )

    -- a class call that takes no memory
    pub class_replies : {V : Type 0} (result : Result V Why) (refusal : Shard → Option Why) (IsValue : Shard → V → Type 0) (change : Shard → Shard)
        → ((s : Shard) → st.shards zone key ≡ Some s → IsShard (object_of place) s → Replies result (refusal s) (IsValue s) (IsShard (object_of place')) (change s))
        → (s : Shard) × (st.shards zone key ≡ Some s)
        × Replies result (refusal_at (st.shards zone key) refusal) (IsValue s) (Stands settings zone f) (touched settings st (at_shard zone key (change_at (st.shards zone key) change)))
    class_replies result refusal IsValue change replies =
        let here = shard_here there in
        let s = here.0 in (
          s,
          here.1,
          replies_as result (refusal s) (refusal_at (st.shards zone key) refusal) (IsValue s) (IsShard (object_of place')) (Stands settings zone f) (change s)
              (touched settings st (at_shard zone key (change_at (st.shards zone key) change))) (ap (λ o. refusal_at o refusal) here.1) (becomes s change here.1)
              (replies s here.1 (subst (λ o. IsShard o s) (sym at.object) here.2)),
        )

    -- a class call that is never refused
    pub class_changes : (change : Shard → Shard) → ((s : Shard) → IsShard (object_of place) s → IsShard (object_of place') (change s))
        → Stands settings zone f (touched settings st (at_shard zone key (change_at (st.shards zone key) change)))
    class_changes change step =
        let here = shard_here there in
        let s = here.0 in
        becomes s change here.1 (step s (subst (λ o. IsShard o s) (sym at.object) here.2))

-- ---- a shard that is made

pub settled_made : (o : Object) (found : Option Shard) → IsShardOr o (made found) → IsShardOr (settled o) (made found)
settled_made o None is = settled_shard o new_shard is
settled_made o (Some s) is = settled_shard o s is

-- a shard that is there, or was made
pub stands_made : (settings : SettingsView) (zone : ℕ) (p f : PoolView) (st : State) (key : Key) → is_shard_key key ≡ true → Stands settings zone p st
    → (place place' : Place) → IsPlaceIn p key (object_at p key) place → Works place place' → f ≡ pool_of place' → IsShardOr (object_of place') (made (st.shards zone key))
    → Stands settings zone f (touched settings st (at_shard zone key (made (st.shards zone key))))
stands_made settings zone p f st key kind stands place place' at works ends is =
    let given = gave p f key (object_at p key) place place' _ at (works_with place place' works) ends in
    stands_shard settings zone p f st stands key (made (st.shards zone key)) kind given.others given.frame (given.free ∙ at.counts.free)
    (subst (λ o. IsShardOr o (made (st.shards zone key))) (sym given.object) (settled_made (object_of place') (st.shards zone key) is))

-- ---- a shard that leaves room for one event more

pub is_small : (count : ℕ) (s : Shard) → IsSmallBy count s → count < 2 ^ 62 → IsSmall s
is_small count s small few = record {
  objects = omega (arith, small.objects);
  bytes = omega (arith, small.bytes);
  tags = omega (arith, small.tags);
  last = omega (arith, small.last);
}

all_below : (count number : ℕ) (tags : List Tag) → count < number → AllByRecursion (λ t. t.tag ≤ count) tags → AllByRecursion (λ t. t.tag < number) tags
all_below count number [] more all = tt
all_below count number (t ∷ tags) more all = (omega (arith, all.0), all_below count number tags more all.1)

pub has_tags_below : (count number : ℕ) (s : Shard) → IsSmallBy count s → number ≡ count + 1 → HasTagsBelow number s
has_tags_below count number s small next name = if_some (at s.entries name) _ _ (λ e all. all_below count number e.tags (omega (arith, next)) all) (small.below name)

module _ (settings : SettingsView) (zone : ℕ) (p : PoolView) (st : State) (key : Key) (ready : IsReady settings zone p st) where
  pub small_here : (s : Shard) → st.shards zone key ≡ Some s → IsSmallBy st.count s
  small_here s found = subst (λ o. IfSome o (IsSmallBy st.count)) found (ready.small.shards key)

  pub room_here : (s : Shard) → st.shards zone key ≡ Some s → IsSmall s
  room_here s found = is_small st.count s (small_here s found) ready.few

-- ---- a suggestion in time

pub had_due : (s : Shard) (name : List ℕ) (revision seen : ℕ) → untimely_refusal s name revision seen ≡ None → (entry_at s name).revision ≡ revision → has_due seen (entry_at s name).tags ≡ true
had_due s name revision seen none same =
    let equal : ((entry_at s name).revision == revision) ≡ true = grind (arith, nat_tests) in
    some_due (has_due seen (entry_at s name).tags) (rw equal at none) where
      some_due : (b : Bool) → cond (not b) (Some (Stale (entry_at s name).revision)) None ≡ None → b ≡ true
      some_due true none = refl
      some_due false none = cc

-- what a suggestion in time leaves
pub in_time : {V : Type 0} (result : Result V Why) (untimely refusal : Option Why) (IsValue : V → Type 0) (Is : Shard → Type 0) (s new : Shard) → untimely ≡ None → Replies result refusal IsValue Is (unless_refused refusal s new)
    → Replies result (first_refusal untimely refusal) IsValue Is (unless_refused (first_refusal untimely refusal) s (unless_refused refusal s new))
in_time result None None IsValue Is s new none replies = replies
in_time result None (Some why) IsValue Is s new none replies = replies
in_time result (Some why) refusal IsValue Is s new none replies = absurd cc

-- ---- what holds where a call ends well, or fails

pub on_ok : {V E A B : Type 0} (result : Result V E) → (A → B) → OnOk result A → OnOk result B
on_ok (Ok value) step is = step is
on_ok (Err fault) step is = tt

pub on_err : {V E A B : Type 0} (result : Result V E) → (A → B) → OnErr result A → OnErr result B
on_err (Ok value) step is = tt
on_err (Err fault) step is = step is
