-- The pages of a pass, one behind another: behind each, no name up to its place has a change under way.
use Rattle.std.proofs.Common.{◌≡◌, ◌⊎◌, inl, inr, ℕ, ◌+◌, ◌≤◌, ◌<◌, ◌==◌, not, Bool, true, false, cond, List, [], ◌∷◌, ◌++◌, map, length, Option, Some, None, refl, sym, ◌∙◌, ap, subst, arith}
use Rattle.std.specs.Prelude.{sum_by}
use Rattle.std.specs.List.{AllByRecursion, filter, flat_map}
use Rattle.std.specs.FinMap.Entries.{find}
use Rattle.std.proofs.lemmas.Bool.Decides.{nat_tests}
use Rattle.std.proofs.lemmas.List.Sums.{sum_by-cons}
use Rattle.object_words.specs.declared.bucket.Bucket.{Bucket}
use Rattle.object_words.specs.declared.entry.EntryPage.{EntryPage}
use Rattle.object_words.specs.declared.entry.Tag.{Tag}
use Rattle.object_words.specs.Entries.{EntryView, entry_of}
use Rattle.object_words.specs.Keys.{shard_key}
use Rattle.object_words.specs.Names.{name_cmp, at}
use Rattle.object_words.specs.Refusals.{fate_refusal}
use Rattle.object_words.specs.Shards.{Shard}
use Rattle.object_words.specs.ShardCalls.{page_of}
use Rattle.object_words.specs.Limits.{is_name}
use Rattle.rgw_types.specs.declared.pool_key.Key.{Key}
use Rattle.realm_model.specs.Needs.{object_limit}
use Rattle.realm_model.specs.Allowed.{page_limit}
use Rattle.realm_model.specs.Containers.{entry_in}
use Rattle.realm_model.specs.Settings.{SettingsView, IsSettings}
use Rattle.realm_model.specs.States.{clock_at}
use Rattle.realm_model.specs.Steps.{reply_or, on_shard}
use Rattle.realm_model.specs.Worlds.{World}
use Rattle.realm_model.specs.declared.event.Reply.TheVariants.{Entries}
use Rattle.realm_model.proofs.ObjectLemmas.{number_same}
use Rattle.task_repair.specs.Repairs.{Saying, asks_page, is_unsettled, visit_said, PageRead, page_said, IsPageRead, left_on, last_name, place_of, place_behind}
use Rattle.repair_law.proofs.Rising.{is_before, Rises, rises_kept, found_passes, page_rises, page_shows, Reaches, page_finds}
use Rattle.repair_law.proofs.Sayings.{Told, Says, split_says, waits_kept, waits_same, told_before, told_kept}
use Rattle.repair_law.proofs.Suggested.{KeptAt, entry_there, shard_at, answered}
use Rattle.repair_law.proofs.Visits.{cons_head, cons_tail, Empty, empty_says, mild_visits, told_same, visits}

-- ---- lists

-- what holds of each holds of those that pass, and they pass
all_passing : {X : Type 0} (P : X → Type 0) (test : X → Bool) (xs : List X) → AllByRecursion P xs → AllByRecursion (λ x. P x × (test x ≡ true)) (filter test xs)
all_passing P test [] all = tt
all_passing P test (x ∷ xs) all =
    elim (test x) as (λ b. test x ≡ b → AllByRecursion (λ y. P y × (test y ≡ true)) (cond b (x ∷ filter test xs) (filter test xs))) [
      | true ↦ λ passes. ((all.0, passes), all_passing P test xs all.1)
      | false ↦ λ fails. all_passing P test xs all.1
    ] refl

all_so : {X : Type 0} (P Q : X → Type 0) (xs : List X) → ((x : X) → P x → Q x) → AllByRecursion P xs → AllByRecursion Q xs
all_so P Q [] so all = tt
all_so P Q (x ∷ xs) so all = (so x all.0, all_so P Q xs so all.1)

-- no name is below the empty one
pub empty_name : (m : List ℕ) → is_before [] m ≡ false → m ≡ []
empty_name [] upto = refl
empty_name (b ∷ bs) upto = absurd cc

no_tags : (tags : List Tag) → (length tags == 0) ≡ true → tags ≡ []
no_tags [] is = refl
no_tags (t ∷ ts) is = let zero = number_same (length (t ∷ ts)) 0 is in absurd (omega (arith, zero))

module _ (settings : SettingsView) (good : IsSettings settings) (zone : ℕ) (bucket : List ℕ) (row : Bucket) (clock : ℕ) where
  abbrev KeptNow : World → Type 0
  KeptNow = KeptAt settings good zone bucket row clock

  abbrev entry_now : World → ℕ → List ℕ → EntryView
  entry_now = entry_there settings good zone bucket row clock

  abbrev SaysNow : List Saying → World → World → Type 0
  SaysNow = Says settings zone bucket row clock

  abbrev pub EmptyNow : World → ℕ → List ℕ → Type 0
  EmptyNow = Empty settings zone bucket row

  -- no shard has an entry under the empty name
  pub nameless : (w : World) → KeptNow w → (number : ℕ) (m : List ℕ) → m ≡ [] → EmptyNow w number m
  nameless w k number m is = by_shard (w.state.shards zone key) refl where
    key : Key
    key = shard_key row.id row.instance number

    by_entry : (s : Shard) (o : Option EntryView) → w.state.shards zone key ≡ Some s → at s.entries m ≡ o → (entry_of o).tags ≡ []
    by_entry s None there here = refl
    by_entry s (Some e) there here =
        let named = ((k.serve).held zone key s there m e here).named in
        let bad : false ≡ true = ap (is_name object_limit) (sym is) ∙ named in
        absurd cc

    by_shard : (o : Option Shard) → w.state.shards zone key ≡ o → (entry_in o m).tags ≡ []
    by_shard None there = refl
    by_shard (Some s) there = by_entry s (at s.entries m) there refl

  -- the name in the shard of this number stands before the place
  abbrev pub IsPassed : ℕ × List ℕ → ℕ → List ℕ → Type 0
  IsPassed place number m = (number < place.0) ⊎ ((number ≡ place.0) × (is_before place.1 m ≡ false))

  -- no name before the place has a change under way
  abbrev pub Clear : ℕ × List ℕ → World → Type 0
  Clear place w = (number : ℕ) (m : List ℕ) → number < row.shards → IsPassed place number m → EmptyNow w number m

  -- ---- the answer of a page

  entries_is : {one other : EntryPage} → Entries one ≡ Entries other → one ≡ other
  entries_is same = cc

  -- a page that was read shows a shard that serves, as it is then and just after
  record Shown (shard : ℕ) (start : List ℕ) (page : EntryPage) (u : World) : Type 0 where
    s : Shard
    there : u.state.shards zone (shard_key row.id row.instance shard) ≡ Some s
    page_is : page ≡ page_of s start page_limit page.clock
    late : clock ≤ page.clock

  shown : (shard : ℕ) (start : List ℕ) (page : EntryPage) (w u : World) → shard < row.shards → KeptNow w → Told settings zone bucket row clock (asks_page zone row shard start, Entries page) w u → Shown shard start page u
  shown shard start page w u less k t =
      let saying : Saying = (asks_page zone row shard start, Entries page) in
      let b = t.before in
      let now = clock_at b.state.clock (t.e).moment in
      let kb = told_before settings good zone bucket row clock saying w u t k in
      let x = shard_at settings good zone bucket row clock b shard kb less in
      let told : Entries page ≡ Entries (page_of x.shard start page_limit now) =
      answered settings good zone bucket row clock saying w u t
      ∙ ap (λ o. on_shard o (λ s. reply_or (Entries (page_of s start page_limit now)) (fate_refusal s.fate))) x.there
      ∙ ap (λ f. reply_or (Entries (page_of x.shard start page_limit now)) (fate_refusal f)) (x.serving).fate in
      let is = entries_is told in
      let at_now : page.clock ≡ now = ap (λ (p : EntryPage). p.clock) is in
      let come = t.late in
      record {
        s = x.shard;
        there =
            told_same settings good zone bucket row clock saying w u t refl shard less
            ∙ sym (waits_same settings good zone bucket row clock w b t.waits shard less)
            ∙ x.there;
        page_is = is ∙ ap (λ c. page_of x.shard start page_limit c) (sym at_now);
        late = omega (arith, at_now, come);
      }

  -- ---- one page

  pub record Paged (p : PageRead) (v : World) : Type 0 where
    pub kept : KeptNow v
    pub clear : Clear (place_behind p) v
    pub left : left_on p ≡ 0

  -- from what the visits leave
  module _ (p : PageRead) (w u v : World) (less : p.shard < row.shards) (before : Clear (place_of p) w) (x : Shown p.shard p.after p.page u) (kept : KeptNow v)
      (stays_w : (number : ℕ) (m : List ℕ) → number < row.shards → EmptyNow w number m → EmptyNow v number m)
      (stays_u : (number : ℕ) (m : List ℕ) → number < row.shards → EmptyNow u number m → EmptyNow v number m)
      (none : AllByRecursion (λ e. EmptyNow v p.shard e.0) (filter is_unsettled (p.page).rows)) where
    found_empty : (m : List ℕ) (o : Option EntryView) → at (x.s).entries m ≡ o → find name_cmp m (p.page).rows ≡ o → EmptyNow v p.shard m
    found_empty m None kept_is found =
        stays_u p.shard m less (ap (λ o. (entry_in o m).tags) x.there ∙ ap (λ o. (entry_of o).tags) kept_is)
    found_empty m (Some e) kept_is found =
        elim (length e.tags == 0) as (λ b. (length e.tags == 0) ≡ b → EmptyNow v p.shard m) [
          | true ↦ λ is. stays_u p.shard m less (ap (λ o. (entry_in o m).tags) x.there ∙ ap (λ o. (entry_of o).tags) kept_is ∙ no_tags e.tags is)
          | false ↦ λ some. found_passes (λ f. EmptyNow v p.shard f.0) is_unsettled (p.page).rows m e none found (ap not some)
        ] refl

    reached : (m : List ℕ) → Reaches p.after (p.page).end (p.page).rows m → EmptyNow v p.shard m
    reached m reach =
        elim (is_before p.after m) as (λ b. is_before p.after m ≡ b → EmptyNow v p.shard m) [
          | false ↦ λ upto. stays_w p.shard m less (before p.shard m less (inr (refl, upto)))
          | true ↦ λ above.
              let now : Reaches p.after (page_of x.s p.after page_limit (p.page).clock).end (page_of x.s p.after page_limit (p.page).clock).rows m = subst (λ (q : EntryPage). Reaches p.after q.end q.rows m) x.page_is reach in
              let finds = ap (λ (q : EntryPage). find name_cmp m q.rows) x.page_is ∙ page_finds x.s p.after page_limit (p.page).clock m above now in
              found_empty m (at (x.s).entries m) refl finds
        ] refl

    lower : (number : ℕ) (m : List ℕ) → number < row.shards → number < p.shard → EmptyNow v number m
    lower number m within below = stays_w number m within (before number m within (inl below))

    behind_by : (end : Bool) → (p.page).end ≡ end → Clear (cond end (p.shard + 1, []) (p.shard, last_name p.after (p.page).rows)) v
    behind_by true end number m within (inl below) =
        elim (number == p.shard) as (λ b. (number == p.shard) ≡ b → EmptyNow v number m) [
          | true ↦ λ same. subst (λ n. EmptyNow v n m) (sym (number_same number p.shard same)) (reached m (inl end))
          | false ↦ λ other. lower number m within (grind (arith, nat_tests, other, below))
        ] refl
    behind_by true end number m within (inr next) =
        nameless v kept number m (empty_name m next.1)
    behind_by false more number m within (inl below) = lower number m within below
    behind_by false more number m within (inr here) = subst (λ n. EmptyNow v n m) (sym here.0) (reached m (inr here.1))

    behind : Clear (place_behind p) v
    behind = behind_by (p.page).end refl

  pub paged : (p : PageRead) (w v : World) → p.shard < row.shards → IsPageRead p → KeptNow w → Clear (place_of p) w → SaysNow (page_said zone row p) w v → Paged p v
  paged p w v less is k clear says =
      let u = says.0 in
      let saying : Saying = (asks_page zone row p.shard p.after, Entries p.page) in
      let x = shown p.shard p.after p.page w u less k says.1 in
      let rows = (p.page).rows in
      let shows : AllByRecursion (λ e. entry_now u p.shard e.0 ≡ e.1) rows =
      subst (λ (q : EntryPage). AllByRecursion (λ e. entry_now u p.shard e.0 ≡ e.1) q.rows) (sym x.page_is)
      (all_so (λ e. at (x.s).entries e.0 ≡ Some e.1) (λ e. entry_now u p.shard e.0 ≡ e.1) _ (λ e there. ap (λ o. entry_in o e.0) x.there ∙ ap entry_of there)
      (page_shows x.s p.after page_limit (p.page).clock)) in
      let stand : AllByRecursion (λ e. (entry_now u p.shard e.0 ≡ e.1) × (is_unsettled e ≡ true)) (filter is_unsettled rows) = all_passing (λ e. entry_now u p.shard e.0 ≡ e.1) is_unsettled rows shows in
      let rise : Rises (filter is_unsettled rows) = rises_kept is_unsettled rows (subst (λ (q : EntryPage). Rises q.rows) (sym x.page_is) (page_rises x.s p.after page_limit (p.page).clock)) in
      let ku = told_kept settings good zone bucket row clock saying w u says.1 refl k in
      let all =
      visits settings good zone bucket row clock p.shard (p.page).clock p.visits u v less x.late ku
      (subst (AllByRecursion (λ e. (entry_now u p.shard e.0 ≡ e.1) × (is_unsettled e ≡ true))) (sym is.visited) stand) (subst Rises (sym is.visited) rise) is.offered says.2 in
      let later = flat_map (visit_said zone row p.shard (p.page).clock) p.visits in
      let mild = mild_visits settings zone bucket row row p.shard (p.page).clock p.visits in
      record {
        kept = all.kept;
        clear =
            behind p w u v less clear x all.kept
            (λ number m within. empty_says settings zone bucket row clock (saying ∷ later) w v (refl, mild) says number m within)
            (λ number m within. empty_says settings zone bucket row clock later u v mild says.2 number m within)
            (subst (AllByRecursion (λ e. EmptyNow v p.shard e.0)) is.visited all.none);
        left = all.left;
      }

  -- ---- all pages

  pub record PagedAll (ps : List PageRead) (place : ℕ × List ℕ) (v : World) : Type 0 where
    pub kept : KeptNow v
    pub clear : Clear place v
    pub left : sum_by left_on ps ≡ 0

  pub pages : (ps : List PageRead) (from place : ℕ × List ℕ) (w v : World) → from ∷ map place_behind ps ≡ map place_of ps ++ place ∷ [] → AllByRecursion (λ p. p.shard < row.shards) ps → AllByRecursion IsPageRead ps → KeptNow w → Clear from w
      → SaysNow (flat_map (page_said zone row) ps) w v → PagedAll ps place v
  pages [] from place w v order less whole k clear says = record {
    kept = waits_kept settings good zone bucket row clock w v says k;
    clear = λ number m within passed. empty_says settings zone bucket row clock [] w v tt says number m within (clear number m within (subst (λ q. IsPassed q number m) (sym (cons_head order)) passed));
    left = refl;
  }
  pages (p ∷ ps) from place w v order less whole k clear says =
      let later = flat_map (page_said zone row) ps in
      let parts = split_says settings zone bucket row clock (page_said zone row p) later w v says in
      let one = paged p w parts.0 less.0 whole.0 k (subst (λ q. Clear q w) (cons_head order) clear) parts.1 in
      let rest = pages ps (place_behind p) place parts.0 v (cons_tail order) less.1 whole.1 one.kept one.clear parts.2 in
      let sum = sum_by-cons left_on p ps in
      let here = one.left in
      let more = rest.left in
      record { kept = rest.kept; clear = rest.clear; left = omega (arith, sum, here, more) }
