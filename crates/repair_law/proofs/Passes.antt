-- A repair that is left alone makes one pass, of the row that its zone has, and leaves no change under way.
use Rattle.std.proofs.Common.{◌≡◌, inl, inr, ℕ, suc, ◌<◌, List, [], ◌∷◌, ◌++◌, map, min, refl, ◌∙◌, ap, subst, arith}
use Rattle.std.specs.Prelude.{sum_by}
use Rattle.std.specs.List.{All, AllByRecursion, flat_map}
use Rattle.object_words.specs.declared.bucket.Bucket.{Bucket}
use Rattle.object_words.specs.declared.why.Why.{Why}
use Rattle.object_words.specs.Numbers.{greatest}
use Rattle.object_words.specs.Refusals.{fate_refusal}
use Rattle.object_words.specs.ShardCalls.{page_of}
use Rattle.realm_model.specs.Allowed.{page_limit}
use Rattle.realm_model.specs.Phases.{ActorId}
use Rattle.realm_model.specs.Settings.{SettingsView, IsSettings}
use Rattle.realm_model.specs.States.{clock_at}
use Rattle.realm_model.specs.Steps.{reply_or, on_shard, row_reply}
use Rattle.realm_model.specs.Worlds.{World}
use Rattle.realm_model.specs.Histories.{world_of, Legal}
use Rattle.realm_model.specs.Owns.{OwnEvent, own_events, NoneBy}
use Rattle.realm_model.specs.declared.op.Op.TheVariants.{BucketRead}
use Rattle.realm_model.specs.declared.event.Event.{Event}
use Rattle.realm_model.specs.declared.event.Reply.TheVariants.{No, Row, Entries}
use Rattle.task_repair.specs.Repairs.{Saying, said, asks_page, PageRead, IsPageRead, page_said, left_on, IsRead, pass_said, LeftPass, left_said, IsLeftPass, RepairedBy}
use Rattle.repair_law.specs.Repaired.{HasNoTags, IsDue, ComeFrom, IsLeftAlone}
use Rattle.repair_law.proofs.Sayings.{Told, Says, split_says, told_before, told_kept, says_kept, kept_at_start, says_from}
use Rattle.repair_law.proofs.Suggested.{KeptAt, shard_at, answered}
use Rattle.repair_law.proofs.Visits.{Mild, mild_both, mild_visits}
use Rattle.repair_law.proofs.Pages.{Clear, empty_name, nameless, PagedAll, pages}

all_by : {X : Type 0} (P : X → Type 0) (xs : List X) → All P xs → AllByRecursion P xs
all_by P [] all = tt
all_by P (x ∷ xs) all = (all 0 x (omega arith), all_by P xs (λ k d within. all (suc k) d (omega (arith, within))))

row_is : {one other : Bucket} → Row one ≡ Row other → one ≡ other
row_is same = cc

module _ (settings : SettingsView) (good : IsSettings settings) (zone : ℕ) (bucket : List ℕ) (row : Bucket) (clock : ℕ) where
  abbrev KeptNow : World → Type 0
  KeptNow = KeptAt settings good zone bucket row clock

  abbrev SaysNow : List Saying → World → World → Type 0
  SaysNow = Says settings zone bucket row clock

  mild_pages : (shown : Bucket) (ps : List PageRead) → Mild settings zone bucket row (flat_map (page_said zone shown) ps)
  mild_pages shown [] = tt
  mild_pages shown (p ∷ ps) =
      mild_both settings zone bucket row (page_said zone shown p) (flat_map (page_said zone shown) ps)
      (refl, mild_visits settings zone bucket row shown p.shard (p.page).clock p.visits) (mild_pages shown ps)

  -- ---- the row that is read

  shown_row : (shown : Bucket) (w v : World) → Told settings zone bucket row clock (BucketRead zone bucket, Row shown) w v → KeptNow w → shown ≡ row
  shown_row shown w v t k =
      let saying : Saying = (BucketRead zone bucket, Row shown) in
      let b = told_before settings good zone bucket row clock saying w v t k in
      row_is (answered settings good zone bucket row clock saying w v t ∙ ap row_reply b.row_is)

  -- ---- no page of its shards is refused

  page_given : (shard : ℕ) (start : List ℕ) (why : Why) (w v : World) → shard < row.shards → KeptNow w → Told settings zone bucket row clock (asks_page zone row shard start, No why) w v → ⊥
  page_given shard start why w v less k t =
      let saying : Saying = (asks_page zone row shard start, No why) in
      let b = t.before in
      let now = clock_at b.state.clock (t.e).moment in
      let x = shard_at settings good zone bucket row clock b shard (told_before settings good zone bucket row clock saying w v t k) less in
      let told : No why ≡ Entries (page_of x.shard start page_limit now) =
      answered settings good zone bucket row clock saying w v t
      ∙ ap (λ o. on_shard o (λ s. reply_or (Entries (page_of s start page_limit now)) (fate_refusal s.fate))) x.there
      ∙ ap (λ f. reply_or (Entries (page_of x.shard start page_limit now)) (fate_refusal f)) (x.serving).fate in
      cc

  never_left : (p : LeftPass) (w v : World) → IsLeftPass p → KeptNow w → SaysNow (left_said zone bucket p) w v → ⊥
  never_left p w v is k says =
      let first = pass_said zone bucket p.row p.pages in
      let parts = split_says settings zone bucket row clock first ((asks_page zone p.row p.place.0 p.place.1, No p.why) ∷ []) w v says in
      let u = parts.0 in
      let same = shown_row p.row w (parts.1).0 (parts.1).1 k in
      let ku = says_kept settings good zone bucket row clock first w u (refl, mild_pages p.row p.pages) parts.1 k in
      let refused = subst (λ (r : Bucket). Told settings zone bucket row clock (asks_page zone r p.place.0 p.place.1, No p.why) u (parts.2).0) same (parts.2).1 in
      page_given p.place.0 p.place.1 p.why u (parts.2).0 (subst (λ (r : Bucket). p.place.0 < r.shards) same is.of_row) ku refused

  none_earlier : (earlier : List LeftPass) (sayings : List Saying) (w v : World) → All IsLeftPass earlier → KeptNow w → SaysNow (flat_map (left_said zone bucket) earlier ++ sayings) w v → SaysNow sayings w v
  none_earlier [] sayings w v left k says = says
  none_earlier (p ∷ ps) sayings w v left k says =
      let all = split_says settings zone bucket row clock (left_said zone bucket p ++ flat_map (left_said zone bucket) ps) sayings w v says in
      let one = split_says settings zone bucket row clock (left_said zone bucket p) (flat_map (left_said zone bucket) ps) w all.0 all.1 in
      absurd (never_left p w one.0 (left 0 p (omega arith)) k one.1)

  -- ---- the pass

  -- before the first page no name has been passed but the empty one
  clear_at_start : (w : World) → KeptNow w → Clear settings good zone bucket row clock (0, []) w
  clear_at_start w k number m within (inl below) = absurd (omega (arith, below))
  clear_at_start w k number m within (inr first) = nameless settings good zone bucket row clock w k number m (empty_name m first.1)

  -- the row that was read, no change under way, and none on the pages that stays
  pub record Passed (shown : Bucket) (ps : List PageRead) (v : World) : Type 0 where
    pub row_is : shown ≡ row
    pub none : HasNoTags v.state zone row
    pub left : sum_by left_on ps ≡ 0

  passed_row : (ps : List PageRead) (u v : World) → IsRead row.shards ps (row.shards, []) → KeptNow u → SaysNow (flat_map (page_said zone row) ps) u v → PagedAll settings good zone bucket row clock ps (row.shards, []) v
  passed_row ps u v read k says =
      pages settings good zone bucket row clock ps (0, []) (row.shards, []) u v read.in_order (all_by (λ (p : PageRead). p.shard < row.shards) ps read.of_row) (all_by IsPageRead ps read.whole) k (clear_at_start u k) says

  passed : (shown : Bucket) (ps : List PageRead) (w v : World) → IsRead shown.shards ps (shown.shards, []) → KeptNow w → SaysNow (pass_said zone bucket shown ps) w v → Passed shown ps v
  passed shown ps w v read k says =
      let u = says.0 in
      let same = shown_row shown w u says.1 k in
      let ku = told_kept settings good zone bucket row clock (BucketRead zone bucket, Row shown) w u says.1 refl k in
      let all = passed_row ps u v (subst (λ (r : Bucket). IsRead r.shards ps (r.shards, [])) same read) ku (subst (λ (r : Bucket). SaysNow (flat_map (page_said zone r) ps) u v) same says.2) in
      record { row_is = same; none = λ number m within. all.clear number m within (inl within); left = all.left }

  pub repaired : (applied left : ℕ) (events : List OwnEvent) (r : RepairedBy zone bucket applied left events) (w v : World) → KeptNow w → SaysNow (map said events) w v → Passed r.row r.pages v
  repaired applied left events r w v k says =
      let sayings = pass_said zone bucket r.row r.pages in
      let all = subst (λ l. SaysNow l w v) (r.says).stands says in
      passed r.row r.pages w v r.read k (none_earlier (r.says).earlier sayings w v (r.says).left k all)

-- a repair of a container whose changes are all overdue, which is left alone
module _ (settings : SettingsView) (before during : List Event) (actor : ActorId) (zone : ℕ) (bucket : List ℕ) (row : Bucket) (clock applied left : ℕ) (good : IsSettings settings) (legal : Legal settings (before ++ during))
    (none : NoneBy actor before) (due : IsDue (world_of settings before).state clock zone bucket row) (come : ComeFrom clock (own_events (before ++ during) actor)) (alone : IsLeftAlone actor zone bucket row during) (r : RepairedBy zone bucket applied left (own_events (before ++ during) actor)) where
  pass : Passed settings good zone bucket row clock r.row r.pages (world_of settings (before ++ during))
  pass =
      repaired settings good zone bucket row clock applied left (own_events (before ++ during) actor) r (world_of settings before) (world_of settings (before ++ during))
      (kept_at_start settings good zone bucket row clock before during legal due) (says_from settings zone bucket row clock actor before during legal none alone come)

  pub row_read : r.row ≡ row
  row_read = pass.row_is

  pub no_tags_left : HasNoTags (world_of settings (before ++ during)).state zone row
  no_tags_left = pass.none

  pub nothing_left : left ≡ 0
  nothing_left = r.left_is ∙ ap (λ n. min n greatest) pass.left
