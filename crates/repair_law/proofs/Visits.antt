-- The visits of a page's entries, one after another: each takes all changes of its entry away.
use Rattle.std.proofs.Common.{◌≡◌, ℕ, ◌≤◌, ◌<◌, true, false, List, [], ◌∷◌, ◌++◌, map, length, Option, Some, None, refl, sym, ◌∙◌, ap, subst, arith}
use Rattle.std.specs.Prelude.{is_some, sum_by}
use Rattle.std.specs.List.{AllByRecursion, flat_map}
use Rattle.std.proofs.lemmas.List.Sums.{sum_by-cons}
use Rattle.object_words.specs.declared.bucket.Bucket.{Bucket}
use Rattle.object_words.specs.declared.entry.Tag.{Tag}
use Rattle.object_words.specs.declared.head.HeadSeen.{HeadSeen}
use Rattle.object_words.specs.Entries.{EntryView}
use Rattle.object_words.specs.Keys.{shard_key}
use Rattle.realm_model.specs.Containers.{entry_in}
use Rattle.realm_model.specs.Settings.{SettingsView, IsSettings}
use Rattle.realm_model.specs.States.{at_moment}
use Rattle.realm_model.specs.Worlds.{World, happens}
use Rattle.realm_model.specs.Histories.{run}
use Rattle.realm_model.specs.declared.op.Op.TheVariants.{HeadRead}
use Rattle.realm_model.specs.declared.event.Event.{Event}
use Rattle.realm_model.specs.declared.event.Reply.{Reply}
use Rattle.realm_model.specs.declared.event.Reply.TheVariants.{Head as head_reply}
use Rattle.task_repair.specs.Repairs.{Saying, asks_suggest, is_unsettled, Visit, is_due_visit, offer_said, visit_said, tags_left}
use Rattle.repair_law.specs.Repaired.{tags_in, IsOverdue, may_change}
use Rattle.repair_law.specs.Settled.{prepares}
use Rattle.repair_law.proofs.Rising.{Rows, is_before, Rises, before_apart}
use Rattle.repair_law.proofs.Calm.{is_mild, mild_from, mild_prepares, fewer_tags}
use Rattle.repair_law.proofs.Sayings.{Waits, Told, Says, split_says, Same, same_next, waits_same, waits_kept, told_kept}
use Rattle.repair_law.proofs.Suggested.{KeptAt, entry_there, Cleared, head_stands, some_due, all_taken_away, suggest_done}

pub cons_head : {X : Type 0} {x y : X} {xs ys : List X} → x ∷ xs ≡ y ∷ ys → x ≡ y
cons_head same = cc

pub cons_tail : {X : Type 0} {x y : X} {xs ys : List X} → x ∷ xs ≡ y ∷ ys → xs ≡ ys
cons_tail same = cc

-- ---- names without changes under way stay so

none_all : (tags : List Tag) → tags ≡ [] → AllByRecursion (λ t. ⊥) tags
none_all tags none = subst (AllByRecursion (λ t. ⊥)) (sym none) tt

all_none : (tags : List Tag) → AllByRecursion (λ t. ⊥) tags → tags ≡ []
all_none [] all = refl
all_none (t ∷ ts) all = absurd all.0

module _ (settings : SettingsView) (zone : ℕ) (bucket : List ℕ) (row : Bucket) where
  -- the name has no change under way in the shard of this number
  abbrev pub Empty : World → ℕ → List ℕ → Type 0
  Empty w number m = tags_in w.state zone row number m ≡ []

  pub empty_next : (w : World) (e : Event) → prepares zone row e.op ≡ false → (number : ℕ) (m : List ℕ) → number < row.shards → Empty w number m → Empty (happens settings w e) number m
  empty_next w e calm number m less none =
      all_none _ (fewer_tags zone bucket row (λ t. ⊥) settings (at_moment w.state e.moment) e.op calm number m less (none_all _ none))

  empty_from : (es : List Event) (w : World) → AllByRecursion (λ e. may_change zone bucket row e.op ≡ false) es → (number : ℕ) (m : List ℕ) → number < row.shards → Empty w number m → Empty (run settings w es) number m
  empty_from [] w alone number m less none = none
  empty_from (e ∷ es) w alone number m less none =
      empty_from es (happens settings w e) alone.1 number m less (empty_next w e (mild_prepares zone bucket row e.op (mild_from zone bucket row e.op alone.0)) number m less none)

  abbrev pub Mild : List Saying → Type 0
  Mild sayings = AllByRecursion (λ s. is_mild zone bucket row s.0 ≡ true) sayings

  module _ (clock : ℕ) where
    empty_waits : (w v : World) → Waits settings zone bucket row clock w v → (number : ℕ) (m : List ℕ) → number < row.shards → Empty w number m → Empty v number m
    empty_waits w v waits number m less none = subst (λ x. Empty x number m) waits.there (empty_from waits.events w waits.alone number m less none)

    pub empty_says : (sayings : List Saying) (w v : World) → Mild sayings → Says settings zone bucket row clock sayings w v → (number : ℕ) (m : List ℕ) → number < row.shards → Empty w number m → Empty v number m
    empty_says [] w v mild says number m less none = empty_waits w v says number m less none
    empty_says (s ∷ ss) w v mild says number m less none =
        let t = says.1 in
        let before = empty_waits w t.before t.waits number m less none in
        let after = empty_next t.before t.e (mild_prepares zone bucket row (t.e).op (subst (λ op. is_mild zone bucket row op ≡ true) (sym t.op_is) mild.0)) number m less before in
        empty_says ss says.0 v mild.1 says.2 number m less (subst (λ x. Empty x number m) t.there after)

  -- ---- the sayings of a repair are mild

  pub mild_both : (front back : List Saying) → Mild front → Mild back → Mild (front ++ back)
  mild_both [] back one other = other
  mild_both (s ∷ ss) back one other = (one.0, mild_both ss back one.1 other)

  mild_offer : (shown : Bucket) (shard moment : ℕ) (e : List ℕ × EntryView) (head : HeadSeen) (offer : Option Reply) → Mild (offer_said zone shown shard moment e head offer)
  mild_offer shown shard moment e head None = tt
  mild_offer shown shard moment e head (Some reply) = (refl, tt)

  pub mild_visits : (shown : Bucket) (shard moment : ℕ) (xs : List Visit) → Mild (flat_map (visit_said zone shown shard moment) xs)
  mild_visits shown shard moment [] = tt
  mild_visits shown shard moment (x ∷ xs) =
      (refl, mild_both (offer_said zone shown shard moment x.entry x.head x.offer) (flat_map (visit_said zone shown shard moment) xs) (mild_offer shown shard moment x.entry x.head x.offer) (mild_visits shown shard moment xs))

module _ (settings : SettingsView) (good : IsSettings settings) (zone : ℕ) (bucket : List ℕ) (row : Bucket) (clock : ℕ) where
  abbrev KeptNow : World → Type 0
  KeptNow = KeptAt settings good zone bucket row clock

  abbrev entry_now : World → ℕ → List ℕ → EntryView
  entry_now = entry_there settings good zone bucket row clock

  abbrev Goes : World → World → ℕ → List ℕ → Type 0
  Goes = Cleared settings good zone bucket row clock

  abbrev SaysNow : List Saying → World → World → Type 0
  SaysNow = Says settings zone bucket row clock

  -- a saying that may not change the container leaves its shards
  pub told_same : (s : Saying) (w v : World) → Told settings zone bucket row clock s w v → may_change zone bucket row s.0 ≡ false → Same settings good zone bucket row clock w v
  told_same s w v t calm number less =
      ap (λ (y : World). y.state.shards zone (shard_key row.id row.instance number)) (sym t.there)
      ∙ same_next settings good zone bucket row clock t.before t.e (subst (λ op. may_change zone bucket row op ≡ false) (sym t.op_is) calm) number less
      ∙ waits_same settings good zone bucket row clock w t.before t.waits number less

  -- ---- one visit

  record Visited (shard moment : ℕ) (e : List ℕ × EntryView) (offer : Option Reply) (w v : World) : Type 0 where
    kept : KeptNow v
    goes : Goes w v shard e.0
    left : length (tags_left moment (e.1).tags offer) ≡ 0

  offered : (shard moment : ℕ) (e : List ℕ × EntryView) (head : HeadSeen) (offer : Option Reply) (w v : World) → shard < row.shards → clock ≤ moment → KeptNow w → entry_now w shard e.0 ≡ e.1 → is_unsettled e ≡ true → is_some offer ≡ true
      → SaysNow (offer_said zone row shard moment e head offer) w v → Visited shard moment e offer w v
  offered shard moment e head None w v less late k is some made says = absurd cc
  offered shard moment e head (Some reply) w v less late k is some made says =
      let u = says.0 in
      let done = suggest_done settings good zone bucket row clock shard moment e head reply w u says.1 k less late is some in
      let same = waits_same settings good zone bucket row clock u v says.2 in
      let over = subst (λ (y : EntryView). AllByRecursion (IsOverdue clock) y.tags) is (k.overdue shard e.0 less) in
      record {
        kept = waits_kept settings good zone bucket row clock u v says.2 (told_kept settings good zone bucket row clock (asks_suggest zone row shard moment e head, reply) w u says.1 refl k);
        goes = record {
          none = ap (λ o. (entry_in o e.0).tags) (same shard less) ∙ (done.1).none;
          others = λ number m within other. ap (λ o. entry_in o m) (same number within) ∙ (done.1).others number m within other;
        };
        left = ap (λ r. length (tags_left moment (e.1).tags (Some r))) done.0 ∙ ap length (all_taken_away clock moment late (e.1).tags over);
      }

  visit : (shard moment : ℕ) (x : Visit) (w v : World) → shard < row.shards → clock ≤ moment → KeptNow w → entry_now w shard x.entry.0 ≡ x.entry.1 → is_unsettled x.entry ≡ true → is_some x.offer ≡ is_due_visit moment x
      → SaysNow (visit_said zone row shard moment x) w v → Visited shard moment x.entry x.offer w v
  visit shard moment x w v less late k is some made says =
      let u = says.0 in
      let e = x.entry in
      let read : Saying = (HeadRead zone row.id e.0, head_reply x.head x.at) in
      let same = told_same read w u says.1 refl in
      let after = told_kept settings good zone bucket row clock read w u says.1 refl k in
      let over = subst (λ (y : EntryView). AllByRecursion (IsOverdue clock) y.tags) is (k.overdue shard e.0 less) in
      let due = some_due clock moment late (e.1).tags over some in
      let may = head_stands settings good zone bucket row clock e.0 x.head x.at w u says.1 k in
      let offer : is_some x.offer ≡ true = made ∙ rw (due, may) refl in
      let seen = offered shard moment e x.head x.offer u v less late after (ap (λ o. entry_in o e.0) (same shard less) ∙ is) some offer says.2 in
      record {
        kept = seen.kept;
        goes = record {
          none = (seen.goes).none;
          others = λ number m within other. (seen.goes).others number m within other ∙ ap (λ o. entry_in o m) (same number within);
        };
        left = seen.left;
      }

  -- ---- all visits of a page

  -- the shard has the entry as it was seen, and changes of it are under way
  abbrev pub Stands : World → ℕ → List ℕ × EntryView → Type 0
  Stands w shard e = (entry_now w shard e.0 ≡ e.1) × (is_unsettled e ≡ true)

  still : (shard : ℕ) (name : List ℕ) (es : Rows) (w v : World) → shard < row.shards → Goes w v shard name → AllByRecursion (λ e. is_before name e.0 ≡ true) es → AllByRecursion (Stands w shard) es → AllByRecursion (Stands v shard) es
  still shard name [] w v less goes above stand = tt
  still shard name (e ∷ es) w v less goes above stand =
      let same = goes.others shard e.0 less (λ here is. before_apart name e.0 above.0 (sym is)) in
      ((same ∙ (stand.0).0, (stand.0).1), still shard name es w v less goes above.1 stand.1)

  abbrev entries_of : List Visit → Rows
  entries_of xs = map (λ x. x.entry) xs

  pub record VisitedAll (shard moment : ℕ) (xs : List Visit) (v : World) : Type 0 where
    pub kept : KeptNow v
    pub none : AllByRecursion (λ e. Empty settings zone bucket row v shard e.0) (entries_of xs)
    pub left : sum_by (λ x. length (tags_left moment (x.entry.1).tags x.offer)) xs ≡ 0

  pub visits : (shard moment : ℕ) (xs : List Visit) (w v : World) → shard < row.shards → clock ≤ moment → KeptNow w → AllByRecursion (Stands w shard) (entries_of xs) → Rises (entries_of xs)
      → map (λ x. is_some x.offer) xs ≡ map (is_due_visit moment) xs → SaysNow (flat_map (visit_said zone row shard moment) xs) w v → VisitedAll shard moment xs v
  visits shard moment [] w v less late k stand rise made says = record {
    kept = waits_kept settings good zone bucket row clock w v says k;
    none = tt;
    left = refl;
  }
  visits shard moment (x ∷ xs) w v less late k stand rise made says =
      let later = flat_map (visit_said zone row shard moment) xs in
      let parts = split_says settings zone bucket row clock (visit_said zone row shard moment x) later w v says in
      let u = parts.0 in
      let one = visit shard moment x w u less late k (stand.0).0 (stand.0).1 (cons_head made) parts.1 in
      let rest = visits shard moment xs u v less late one.kept (still shard x.entry.0 (entries_of xs) w u less one.goes rise.0 stand.1) rise.1 (cons_tail made) parts.2 in
      let sum = sum_by-cons (λ (y : Visit). length (tags_left moment (y.entry.1).tags y.offer)) x xs in
      let here = one.left in
      let more = rest.left in
      record {
        kept = rest.kept;
        none = (empty_says settings zone bucket row clock later u v (mild_visits settings zone bucket row row shard moment xs) parts.2 shard x.entry.0 less (one.goes).none, rest.none);
        left = omega (arith, sum, here, more);
      }
