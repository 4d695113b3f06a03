-- One event more keeps what holds of stripes, kind by kind.
use Rattle.std.proofs.Common.{◌≡◌, ℕ, ◌+◌, ◌≤◌, ◌==◌, ◌&&◌, ◌⊎◌, not, inr, nat_le, true, false, cond, List, [], ◌∷◌, length, Some, None, refl, sym, ◌∙◌, ap, subst, arith}
use Rattle.std.specs.Prelude.{IfSome}
use Rattle.std.proofs.lemmas.Bool.Decides.{nat_tests}
use Rattle.rgw_types.specs.declared.pool_key.Key.{Key}
use Rattle.rgw_types.specs.Stripes.{ManifestView, tails_of}
use Rattle.manifest.specs.Ranges.{part_size}
use Rattle.object_words.specs.declared.entry.Guard.{Guard}
use Rattle.object_words.specs.declared.head.NewHead.{NewHead}
use Rattle.object_words.specs.declared.head.Conditions.{Conditions}
use Rattle.object_words.specs.declared.head.SeenSlot.{SeenSlot}
use Rattle.object_words.specs.declared.head.SeenSlot.TheVariants.{Nothing, Live, Mark}
use Rattle.object_words.specs.Keys.{head_key, put}
use Rattle.object_words.specs.Heads.{Head, manifest_of, with_tails}
use Rattle.object_words.specs.HeadCalls.{seen, write_refusal, stamp_next, change_of}
use Rattle.object_words.specs.Refusals.{unless_refused}
use Rattle.object_words.specs.Tails.{tail_refusal}
use Rattle.realm_model.specs.Settings.{SettingsView}
use Rattle.realm_model.specs.States.{State, number_next, put_in, touched}
use Rattle.realm_model.specs.Steps.{reply_or, reply_of, touch_of}
use Rattle.realm_model.specs.Phases.{ActorId, Bundle, unused, SeenManifest, Phase}
use Rattle.realm_model.specs.Needs.{is_between, is_own_write, is_next_part, tail_sizes, has_sizes, is_open, holder_of, has_parts, may_change_head}
use Rattle.realm_model.specs.Allowed.{meets_need}
use Rattle.realm_model.specs.Learnt.{put_bundle, with_part, with_manifest, learnt}
use Rattle.realm_model.specs.Facts.{in_head, making, Ledger, StripeFacts}
use Rattle.realm_model.specs.Maps.{Made}
use Rattle.realm_model.specs.Worlds.{put_actor, counted_part, tailed, stripes_after}
use Rattle.realm_model.specs.declared.op.Op.{Op}
use Rattle.realm_model.specs.declared.op.Op.TheVariants.{BucketRead, BucketSwap, ShardMake, Prepare, Complete, Cancel, Page, Suggest, Stats, HeadRead, HeadWrite, TailMake, TailRead, Announce}
use Rattle.realm_model.specs.declared.event.Reply.{Reply}
use Rattle.realm_model.specs.declared.event.Reply.TheVariants.{Done, No, Changed}
use Rattle.realm_model.proofs.Computing.{left_of, right_of}
use Rattle.realm_model.proofs.ObjectLemmas.{number_same, put_bundle_cases, put_actor_cases, put_actor_here}
use Rattle.realm_model.proofs.TouchLemmas.{put_in_same}
use Rattle.realm_model.proofs.Makers.{by_before}
use Rattle.stripe_law.specs.Sizes.{IsSized, IfLive}
use Rattle.stripe_law.specs.Ids.{IsBy, OwnHolders, KnowsIds}
use Rattle.stripe_law.specs.Makers.{no_ledger}
use Rattle.stripe_law.specs.OpenBundles.{OpenAt, SizesAt}
use Rattle.stripe_law.specs.Olds.{OldsAt}
use Rattle.stripe_law.specs.Seen.{SizedAll}
use Rattle.stripe_law.specs.Invariant.{StripesHold}
use Rattle.stripe_law.proofs.Puts.{put_actor_apart, put_bundle_here}
use Rattle.stripe_law.proofs.Knowing.{at_least, if_some_more, ids_next, own_knows, read_knows, makers_before, write_own}
use Rattle.stripe_law.proofs.Making as making_lemmas
use Rattle.stripe_law.proofs.Making.{IsFresh, fresh_part}
use Rattle.stripe_law.proofs.Writing as writing_lemmas
use Rattle.stripe_law.proofs.Writing.{if_live_more, spends, own_spends, tailed_is, fewer_unused, sizes_stay, holders_stay, all_made, all_sized, holder_own, IsAllAt, head_sizes_next}

-- ---- manifests that were seen

sized_more : (count count' : ℕ) (made made' : Made) → count ≤ count' → ((z : ℕ) (m : ManifestView) → IsSized made z m → IsSized made' z m) → (seen : List SeenManifest) → SizedAll count made seen → SizedAll count' made' seen
sized_more count count' made made' rises more [] are = tt
sized_more count count' made made' rises more (s ∷ ss) are =
    let low = are.0.0 in
    ((omega (arith, low, rises), more s.zone s.manifest are.0.1), sized_more count count' made made' rises more ss are.1)

-- ---- an event that changes no stripe

module _ (heads : ℕ → Key → Head) (count clock : ℕ) (phases : ActorId → Phase) (x : StripeFacts) (actor : ActorId) (p : Phase) (holds : StripesHold heads count phases x) where
  -- it may show a manifest, with tails of its sizes, and add a read
  pub unchanged : KnowsIds (put x.by (count + 1) actor) (count + 1) actor p.first p.stripes.reads p.stripes.own
      → p.stripes.own ≡ (phases actor).stripes.own → p.stripes.olds ≡ (phases actor).stripes.olds
      → SizedAll (count + 1) x.made p.stripes.seen
      → StripesHold heads (count + 1) (put_actor phases actor p) (record x { by = put x.by (count + 1) actor })
  unchanged knows own olds seen = record {
    ids = ids_next x.by count actor phases p holds.ids knows;
    makers = makers_before x.by count actor phases (put_actor phases actor p) x.ledger holds.ids holds.makers
        (put_actor_cases (λ a q. (z w h : ℕ) → q.stripes.own z w h ≡ unused → (phases a).stripes.own z w h ≡ unused) phases actor p
        (λ z w h none. subst (λ o. o z w h ≡ unused) own none) (λ a z w h none. none));
    open_bundles = put_actor_cases (λ a q. OpenAt a q.stripes.own x.ledger) phases actor p
        (subst (λ o. OpenAt actor o x.ledger) (sym own) (holds.open_bundles actor)) holds.open_bundles;
    open_sizes = put_actor_cases (λ a q. SizesAt q.stripes.own x.made) phases actor p
        (subst (λ o. SizesAt o x.made) (sym own) (holds.open_sizes actor)) holds.open_sizes;
    made_once = holds.made_once;
    made_all = holds.made_all;
    head_sizes = holds.head_sizes;
    named = holds.named;
    olds = put_actor_cases (λ a q. OldsAt a q.stripes.olds x.ledger) phases actor p
        (subst (λ o. OldsAt actor o x.ledger) (sym olds) (holds.olds actor)) holds.olds;
    seen_sizes = put_actor_cases (λ a q. SizedAll (count + 1) x.made q.stripes.seen) phases actor p seen
        (λ a. sized_more count (count + 1) x.made x.made (omega arith) (λ z m is. is) (phases a).stripes.seen (holds.seen_sizes a));
  }

-- ---- a tail is made

module _ (heads : ℕ → Key → Head) (count clock : ℕ) (phases : ActorId → Phase) (x : StripeFacts) (actor : ActorId) (holds : StripesHold heads count phases x)
    (zone write part : ℕ) (bytes : List ℕ) (stripe : ℕ) where
  pub may_make : is_own_write (phases actor) zone write ≡ true → is_next_part ((phases actor).stripes.own zone write write) part ≡ true → IsFresh ((phases actor).stripes.own zone write write) (x.ledger zone write write) actor part
  may_make mine next =
      let by_me = write_own x.by count actor (phases actor) zone write (holds.ids actor) mine in
      fresh_part ((phases actor).stripes.own zone write write) (x.ledger zone write write) actor part next
      (λ none. holds.makers zone write write (subst (λ a. (phases a).stripes.own zone write write ≡ unused) (sym by_me.1) none))
      (λ sizes is. holds.open_bundles actor zone write write sizes is)

  pub tail_made_holds : is_own_write (phases actor) zone write ≡ true → is_next_part ((phases actor).stripes.own zone write write) part ≡ true → is_between 1 stripe (length bytes) ≡ true
      → StripesHold heads (count + 1) (put_actor phases actor (learnt (phases actor) (TailMake zone write part bytes) Done (count + 1) clock)) (stripes_after x actor (TailMake zone write part bytes) Done (count + 1))
  tail_made_holds mine next full =
      let p = phases actor in
      let own = p.stripes.own in
      let q = learnt p (TailMake zone write part bytes) Done (count + 1) clock in
      let by_me = write_own x.by count actor p zone write (holds.ids actor) mine in
      let fresh = may_make mine next in
      let used : with_part (own zone write write) (length bytes) ≡ unused → ⊥ = λ none.
      (let bad = sym (fresh.grown (length bytes)) ∙ none in cc) in
      let unmade = making_lemmas.unmade x.ledger x.made own actor zone write part bytes fresh holds.made_once in
      let stays = making_lemmas.sizes_stay x.ledger x.made own actor zone write part bytes fresh unmade in
      let place = making_lemmas.kept_place x.ledger x.made own actor zone write part bytes fresh in
      let made' = put_bundle x.made zone write part (Some bytes) in
      let ledger' = put_bundle x.ledger zone write write (counted_part (x.ledger zone write write) actor part) in
      let own' = put_bundle own zone write write (with_part (own zone write write) (length bytes)) in
      let sized : (z : ℕ) (m : ManifestView) → IsSized x.made z m → IsSized made' z m = λ z m is k low high. stays z m.write k (part_size m k) (is k low high) in
      record {
        ids = ids_next x.by count actor phases q holds.ids
            (own_knows x.by count actor clock p.first p.stripes.reads own own' (holds.ids actor)
            (put_bundle_cases (λ z w h b. (b ≡ unused) ⊎ IsBy x.by count actor h) own zone write write (with_part (own zone write write) (length bytes)) (inr by_me) (holds.ids actor).holders_are));
        makers = λ z w h none.
            put_bundle_cases (λ z w h l. (put_actor phases actor q (put x.by (count + 1) actor h)).stripes.own z w h ≡ unused → l ≡ no_ledger) x.ledger zone write write (counted_part (x.ledger zone write write) actor part)
            (λ none.
            let at : (put_actor phases actor q (put x.by (count + 1) actor write)).stripes.own zone write write ≡ with_part (own zone write write) (length bytes) =
            ap (λ a. (put_actor phases actor q a).stripes.own zone write write) (by_before x.by count write actor by_me.0 ∙ by_me.1)
            ∙ ap (λ (r : Phase). r.stripes.own zone write write) (put_actor_here phases actor q)
            ∙ put_bundle_here own zone write write (with_part (own zone write write) (length bytes)) in
            absurd (used (sym at ∙ none)))
            (makers_before x.by count actor phases (put_actor phases actor q) x.ledger holds.ids holds.makers
            (put_actor_cases (λ a q. (z w h : ℕ) → q.stripes.own z w h ≡ unused → (phases a).stripes.own z w h ≡ unused) phases actor q
            (put_bundle_cases (λ z w h b. b ≡ unused → own z w h ≡ unused) own zone write write (with_part (own zone write write) (length bytes)) (λ none. absurd (used none)) (λ z w h is. is)) (λ a z w h is. is)))
            z w h none;
        open_bundles = put_actor_apart (λ a q. OpenAt a q.stripes.own ledger') phases actor q
            (making_lemmas.open_own x.ledger x.made own actor zone write part bytes fresh (holds.open_bundles actor))
            (λ a other. making_lemmas.open_other x.ledger x.made own actor zone write part bytes fresh a (phases a).stripes.own other (holds.open_bundles a));
        open_sizes = put_actor_cases (λ a q. SizesAt q.stripes.own made') phases actor q
            (making_lemmas.sizes_own x.ledger x.made own actor zone write part bytes fresh unmade (holds.open_sizes actor))
            (λ a. making_lemmas.sizes_other x.ledger x.made own actor zone write part bytes fresh unmade (phases a).stripes.own (holds.open_sizes a));
        made_once = making_lemmas.made_once_next x.ledger x.made own actor zone write part bytes fresh (at_least 1 (length bytes) (left_of (nat_le 1 (length bytes)) (nat_le (length bytes) stripe) full)) holds.made_once;
        made_all = making_lemmas.made_all_next x.ledger x.made own actor zone write part bytes fresh holds.made_all;
        head_sizes = λ z k. if_live_more (λ new. (length new.first ≡ part_size new.manifest 0) × IsSized x.made z new.manifest) (λ new. (length new.first ≡ part_size new.manifest 0) × IsSized made' z new.manifest) (heads z k).slot (λ new is. (is.0, sized z new.manifest is.1)) (holds.head_sizes z k);
        named = λ z c n. if_live_more (λ new. 1 ≤ tails_of new.manifest → x.ledger z new.manifest.write (holder_of new.manifest) ≡ record { count = tails_of new.manifest; place = in_head c n }) (λ new. 1 ≤ tails_of new.manifest → ledger' z new.manifest.write (holder_of new.manifest) ≡ record { count = tails_of new.manifest; place = in_head c n }) (heads z (head_key c n)).slot
            (λ new is some. place (record { count = tails_of new.manifest; place = in_head c n }) (λ none. cc) (λ mine. cc) z new.manifest.write (holder_of new.manifest) (is some)) (holds.named z c n);
        olds = put_actor_cases (λ a q. OldsAt a q.stripes.olds ledger') phases actor q
            (making_lemmas.olds_kept x.ledger x.made own actor zone write part bytes fresh actor p.stripes.olds (holds.olds actor))
            (λ a. making_lemmas.olds_kept x.ledger x.made own actor zone write part bytes fresh a (phases a).stripes.olds (holds.olds a));
        seen_sizes = put_actor_cases (λ a q. SizedAll (count + 1) made' q.stripes.seen) phases actor q
            (sized_more count (count + 1) x.made made' (omega arith) sized p.stripes.seen (holds.seen_sizes actor))
            (λ a. sized_more count (count + 1) x.made made' (omega arith) sized (phases a).stripes.seen (holds.seen_sizes a));
      }

-- ---- a head changes

old_was : (ledger : ℕ → ℕ → ℕ → Ledger) (zone container : ℕ) (name : List ℕ) (slot : SeenSlot) → IfLive slot (λ new. 1 ≤ tails_of new.manifest → IsAllAt ledger zone (in_head container name) new.manifest)
    → IfSome (with_tails (manifest_of slot)) (λ m. (1 ≤ tails_of m) × IsAllAt ledger zone (in_head container name) m)
old_was ledger zone container name Nothing is = tt
old_was ledger zone container name (Mark stamp) is = tt
old_was ledger zone container name (Live new stamp) is =
    let m = new.manifest in
    elim (tails_of m == 0) as (λ b. (tails_of m == 0) ≡ b → IfSome (cond b None (Some m)) (λ m. (1 ≤ tails_of m) × IsAllAt ledger zone (in_head container name) m)) [
      | true ↦ λ none. tt
      | false ↦ λ apart. let some : 1 ≤ tails_of m = grind (arith, nat_tests) in (some, is some)
    ] refl

HasSizes : (ℕ → ℕ → ℕ → Bundle) → ℕ → ManifestView → Type 0
HasSizes own zone m = has_sizes (own zone m.write (holder_of m)) (tail_sizes m) ≡ true

new_has : (own : ℕ → ℕ → ℕ → Bundle) (zone : ℕ) (m : ManifestView) → cond (tails_of m == 0) (not (is_open (own zone m.write (holder_of m)))) (has_sizes (own zone m.write (holder_of m)) (tail_sizes m)) ≡ true → IfSome (tailed m) (HasSizes own zone)
unfolding HasSizes
new_has own zone m =
    elim (tails_of m == 0) as (λ b. cond b (not (is_open (own zone m.write (holder_of m)))) (has_sizes (own zone m.write (holder_of m)) (tail_sizes m)) ≡ true → IfSome (cond b None (Some m)) (HasSizes own zone)) [
      | true ↦ λ is. tt
      | false ↦ λ is. is
    ]

module _ (heads : ℕ → Key → Head) (count clock : ℕ) (phases : ActorId → Phase) (x : StripeFacts) (actor : ActorId) (holds : StripesHold heads count phases x)
    (zone container : ℕ) (name : List ℕ) (guard : Guard) (new : NewHead) (when : Conditions) where
  abbrev head : Head
  head = heads zone (head_key container name)

  abbrev stored : Head
  stored = record { version = count + 1; slot = Live new (stamp_next head zone clock) }

  pub head_written_holds : has_parts (phases actor) zone new ≡ true
      → StripesHold (put_in heads zone (head_key container name) stored) (count + 1) (put_actor phases actor (learnt (phases actor) (HeadWrite zone container name guard new when) (Changed (change_of head stored)) (count + 1) clock)) (stripes_after x actor (HeadWrite zone container name guard new when) (Changed (change_of head stored)) (count + 1))
  unfolding HasSizes
  head_written_holds parts =
      let p = phases actor in
      let own = p.stripes.own in
      let m = new.manifest in
      let q = learnt p (HeadWrite zone container name guard new when) (Changed (change_of head stored)) (count + 1) clock in
      let first = number_same (length new.first) (part_size m 0) (left_of (length new.first == part_size m 0) _ parts) in
      let old = with_tails (manifest_of head.slot) in
      let was = old_was x.ledger zone container name head.slot (holds.named zone container name) in
      let has = new_has own zone m (right_of (length new.first == part_size m 0) _ parts) in
      let mine = if_some_more (HasSizes own zone) (IsAllAt x.ledger zone (making actor)) (tailed m) (λ m has. all_made own zone m has x.ledger actor (holds.open_bundles actor)) has in
      let held = if_some_more (HasSizes own zone) (λ m. IsBy x.by count actor (holder_of m)) (tailed m) (λ m has. holder_own own zone m has x.by count actor (holds.ids actor).holders_are) has in
      let sized : IsSized x.made zone m = λ part low high.
      all_sized own zone m (subst (λ o. IfSome o (HasSizes own zone)) (tailed_is m (omega (arith, low, high))) has) x.made (holds.open_sizes actor) part low high in
      let after = writing_lemmas.after x.ledger actor zone container name old (tailed m) was mine in
      let same = own_spends own zone m in
      let counts = writing_lemmas.counts_same x.ledger actor zone container name old (tailed m) was mine in
      record {
        ids = ids_next x.by count actor phases q holds.ids
            (own_knows x.by count actor clock p.first p.stripes.reads own q.stripes.own (holds.ids actor)
            (subst (λ o. OwnHolders x.by count actor o) same (holders_stay x.by count actor own zone (tailed m) held (holds.ids actor).holders_are)));
        makers = λ z w h none. writing_lemmas.makers_kept x.ledger actor zone container name old (tailed m) was mine z w h
            (makers_before x.by count actor phases (put_actor phases actor q) x.ledger holds.ids holds.makers
            (put_actor_cases (λ a q. (z w h : ℕ) → q.stripes.own z w h ≡ unused → (phases a).stripes.own z w h ≡ unused) phases actor q
            (λ z w h none. fewer_unused own zone (tailed m) z w h (subst (λ o. o z w h ≡ unused) (sym same) none)) (λ a z w h is. is)) z w h none);
        open_bundles = put_actor_apart (λ a q. OpenAt a q.stripes.own after) phases actor q
            (subst (λ o. OpenAt actor o after) same (writing_lemmas.open_own x.ledger actor zone container name old (tailed m) was mine own (holds.open_bundles actor)))
            (λ a other. writing_lemmas.open_other x.ledger actor zone container name old (tailed m) was mine a (phases a).stripes.own other (holds.open_bundles a));
        open_sizes = put_actor_cases (λ a q. SizesAt q.stripes.own x.made) phases actor q
            (subst (λ o. SizesAt o x.made) same (sizes_stay own x.made zone (tailed m) (holds.open_sizes actor))) holds.open_sizes;
        made_once = λ z w p. subst (λ n. IfSome (x.made z w p) (λ bytes. (1 ≤ p) × ((p ≤ n) × (1 ≤ length bytes)))) (sym (counts z w w)) (holds.made_once z w p);
        made_all = λ z w p low high. holds.made_all z w p low (subst (λ n. p ≤ n) (counts z w w) high);
        head_sizes = head_sizes_next heads x.made zone (head_key container name) (count + 1) new (stamp_next head zone clock) first sized holds.head_sizes;
        named = writing_lemmas.named_next x.ledger actor zone container name old (tailed m) was mine heads (count + 1) new (stamp_next head zone clock) refl holds.named;
        olds = put_actor_cases (λ a q. OldsAt a q.stripes.olds after) phases actor q
            (writing_lemmas.olds_own x.ledger actor zone container name old (tailed m) was mine p.stripes.olds (holds.olds actor))
            (λ a. writing_lemmas.olds_other x.ledger actor zone container name old (tailed m) was mine a (phases a).stripes.olds (holds.olds a));
        seen_sizes = put_actor_cases (λ a q. SizedAll (count + 1) x.made q.stripes.seen) phases actor q
            (sized_more count (count + 1) x.made x.made (omega arith) (λ z m is. is) p.stripes.seen (holds.seen_sizes actor))
            (λ a. sized_more count (count + 1) x.made x.made (omega arith) (λ z m is. is) (phases a).stripes.seen (holds.seen_sizes a));
      }

-- ---- a head is read

seen_sized : (count clock zone : ℕ) (made : Made) (seen : List SeenManifest) (slot : SeenSlot) → IfLive slot (λ new. (length new.first ≡ part_size new.manifest 0) × IsSized made zone new.manifest) → SizedAll (count + 1) made seen → SizedAll (count + 1) made (with_manifest seen zone slot (count + 1) clock)
seen_sized count clock zone made seen Nothing is are = are
seen_sized count clock zone made seen (Mark stamp) is are = are
seen_sized count clock zone made seen (Live new stamp) is are = ((omega arith, is.1), are)

-- ---- each event

module _ (settings : SettingsView) (st : State) (phases : ActorId → Phase) (x : StripeFacts) (actor : ActorId) (holds : StripesHold st.heads st.count phases x) where
  abbrev pub NextHolds : (ℕ → Key → Head) → Op → Reply → Type 0
  NextHolds heads op reply = StripesHold heads (st.count + 1) (put_actor phases actor (learnt (phases actor) op reply (number_next st) st.clock)) (stripes_after x actor op reply (number_next st))

  -- what an actor saw before
  seen_still : SizedAll (st.count + 1) x.made (phases actor).stripes.seen
  seen_still = sized_more st.count (st.count + 1) x.made x.made (omega arith) (λ z m is. is) (phases actor).stripes.seen (holds.seen_sizes actor)

  -- an event that teaches nothing of stripes
  plain : (p : Phase) → p.first ≡ (learnt (phases actor) (BucketRead 0 []) Done (number_next st) st.clock).first → p.stripes ≡ (phases actor).stripes → StripesHold st.heads (st.count + 1) (put_actor phases actor p) (record x { by = put x.by (st.count + 1) actor })
  plain p first same =
      let old = phases actor in
      unchanged st.heads st.count st.clock phases x actor p holds
      (let knows = own_knows x.by st.count actor st.clock old.first old.stripes.reads old.stripes.own old.stripes.own (holds.ids actor) (holds.ids actor).holders_are in
      subst (λ f. KnowsIds (put x.by (st.count + 1) actor) (st.count + 1) actor f p.stripes.reads p.stripes.own) (sym first)
      (subst (λ s. KnowsIds (put x.by (st.count + 1) actor) (st.count + 1) actor (learnt old (BucketRead 0 []) Done (number_next st) st.clock).first s.reads s.own) (sym same) knows))
      (ap (λ s. s.own) same) (ap (λ s. s.olds) same) (subst (λ s. SizedAll (st.count + 1) x.made s.seen) (sym same) seen_still)

  pub next_holds : (op : Op) (reply : Reply) → meets_need settings (phases actor) op ≡ true → reply ≡ reply_of settings st op → NextHolds (touched settings st (touch_of settings st op)).heads op reply
  next_holds (HeadRead zone container name) reply may is =
      let old = phases actor in
      let slot = (st.heads zone (head_key container name)).slot in
      subst (λ r. NextHolds st.heads (HeadRead zone container name) r) (sym is)
      (unchanged st.heads st.count st.clock phases x actor (learnt old (HeadRead zone container name) (reply_of settings st (HeadRead zone container name)) (number_next st) st.clock) holds
      (read_knows x.by st.count actor st.clock zone old.first old.stripes.reads old.stripes.own (holds.ids actor)) refl refl
      (seen_sized st.count st.clock zone x.made old.stripes.seen slot (holds.head_sizes zone (head_key container name)) seen_still))
  next_holds (HeadWrite zone container name guard new when) reply may is =
      let key = head_key container name in
      let old = st.heads zone key in
      let now : Head = record { version = number_next st; slot = Live new (stamp_next old zone st.clock) } in
      let op = HeadWrite zone container name guard new when in
      let parts = right_of (may_change_head (phases actor) zone container name guard) (has_parts (phases actor) zone new) may in
      subst (λ r. NextHolds (touched settings st (touch_of settings st op)).heads op r) (sym is)
      (elim (write_refusal old guard new when st.clock (st.free zone) settings.frame) as (λ r. NextHolds (put_in st.heads zone key (unless_refused r old now)) op (reply_or (Changed (change_of old (unless_refused r old now))) r)) [
        | None ↦ head_written_holds st.heads st.count st.clock phases x actor holds zone container name guard new when parts
        | Some why ↦ subst (λ h. NextHolds h op (No why)) (sym (put_in_same st.heads zone key)) (plain (learnt (phases actor) op (No why) (number_next st) st.clock) refl refl)
      ])
  next_holds (TailMake zone write part bytes) reply may is =
      let p = phases actor in
      let op = TailMake zone write part bytes in
      let rest = right_of (is_own_write p zone write) (is_next_part (p.stripes.own zone write write) part && is_between 1 settings.stripe (length bytes)) may in
      subst (λ r. NextHolds st.heads op r) (sym is)
      (elim (tail_refusal bytes (st.free zone) settings.frame) as (λ r. NextHolds st.heads op (reply_or Done r)) [
        | None ↦ tail_made_holds st.heads st.count st.clock phases x actor holds zone write part bytes settings.stripe
            (left_of (is_own_write p zone write) (is_next_part (p.stripes.own zone write write) part && is_between 1 settings.stripe (length bytes)) may)
            (left_of (is_next_part (p.stripes.own zone write write) part) (is_between 1 settings.stripe (length bytes)) rest)
            (right_of (is_next_part (p.stripes.own zone write write) part) (is_between 1 settings.stripe (length bytes)) rest)
        | Some why ↦ plain (learnt p op (No why) (number_next st) st.clock) refl refl
      ])
  next_holds op reply may is = plain _ refl refl
