-- The counts of a container that rests are those of its map.
use Rattle.std.proofs.Common.{◌≡◌, ℕ, zero, suc, ◌+◌, ◌<◌, List, [], ◌∷◌, ◌++◌, map, length, Option, Some, None, refl, sym, ◌∙◌, ap, subst, arith}
use Rattle.std.specs.Prelude.{min, sum_by}
use Rattle.std.specs.List.{AllByRecursion, range_with_len}
use Rattle.std.proofs.lemmas.List.Sums.{sum_by-cons}
use Rattle.object_words.specs.declared.bucket.Bucket.{Bucket}
use Rattle.object_words.specs.declared.head.SeenSlot.{SeenSlot}
use Rattle.object_words.specs.declared.shard.ShardStats.{ShardStats}
use Rattle.object_words.specs.declared.why.Why.{Why}
use Rattle.object_words.specs.Entries.{EntryView, entry_of}
use Rattle.object_words.specs.Hashes.{shard_of}
use Rattle.object_words.specs.Keys.{shard_key}
use Rattle.object_words.specs.Names.{Named, none, at, entries}
use Rattle.object_words.specs.Numbers.{greatest}
use Rattle.object_words.specs.Refusals.{fate_refusal}
use Rattle.object_words.specs.Shards.{Shard, total, tag_count, stats_of}
use Rattle.object_words.proofs.NameLemmas.{at-none}
use Rattle.object_words.proofs.Sums.{count_of}
use Rattle.realm_model.specs.Containers.{entry_in}
use Rattle.realm_model.specs.Counts.{live_count, live_bytes, counts_of}
use Rattle.realm_model.specs.Maps.{heads}
use Rattle.realm_model.specs.Settings.{SettingsView, IsSettings}
use Rattle.realm_model.specs.States.{at_moment}
use Rattle.realm_model.specs.Steps.{reply_or, on_shard, row_reply, reply_of}
use Rattle.realm_model.specs.Phases.{ActorId}
use Rattle.realm_model.specs.Histories.{state_of, Legal}
use Rattle.realm_model.specs.Owns.{OwnEvent, own_events, NoneBy}
use Rattle.realm_model.specs.declared.event.Event.{Event}
use Rattle.realm_model.specs.declared.op.Op.TheVariants.{BucketRead}
use Rattle.realm_model.specs.declared.event.Reply.TheVariants.{Row, Stats}
use Rattle.realm_model.specs.Worlds.{start}
use Rattle.realm_model.proofs.Runs.{legal_front}
use Rattle.index_law.proofs.Keeping.{holds}
use Rattle.realm_law.specs.Totals.{names_of_shard}
use Rattle.realm_law.proofs.Counting.{shard_objects, shard_bytes}
use Rattle.realm_law.proofs.MapSums.{alike_totals, parts_of_map}
use Rattle.task_words.specs.declared.asker.Asker.{Asker}
use Rattle.task_container.specs.Counts.{asks_header, CountedBy}
use Rattle.repair_law.proofs.Staying.{within, row_in_here}
use Rattle.settled_law.specs.Resting.{Rests, IsLeftAtRest}
use Rattle.settled_law.proofs.Meanwhile.{AmidFrom, all_back, amid, upto, legal_upto, rests_upto, stands_upto, map_amid, answered}
use Rattle.settled_law.proofs.Looks.{row_is}

-- ---- a shard without changes under way

none_total : total tag_count (entries (none {X = EntryView})) ≡ 0
unfolding none entries
none_total = refl

tags_counted : (o : Option EntryView) → (entry_of o).tags ≡ [] → count_of tag_count o ≡ 0
tags_counted None is = refl
tags_counted (Some e) is = ap length is

no_tags_counted : (s : Shard) → ((name : List ℕ) → (entry_of (at s.entries name)).tags ≡ []) → (stats_of s).tags ≡ 0
no_tags_counted s empty =
    alike_totals tag_count tag_count s.entries none (λ q. tags_counted (at s.entries q) (empty q) ∙ sym (ap (count_of tag_count) (at-none q))) ∙ none_total

-- ---- numbers of shards

all_below : (a k : ℕ) → AllByRecursion (λ n. n < a + k) (range_with_len a k)
all_below a zero = tt
all_below a (suc k) = (omega arith, more (a + 1) (range_with_len (a + 1) k) (all_below (a + 1) k)) where
  more : (b : ℕ) (ns : List ℕ) → AllByRecursion (λ n. n < (a + 1) + k) ns → AllByRecursion (λ n. n < a + suc k) ns
  more b [] all = tt
  more b (n ∷ ns) all = (let low = all.0 in omega (arith, low), more b ns all.1)

sum_same : (F G : ℕ → ℕ) → ((n : ℕ) → F n ≡ G n) → (ns : List ℕ) → sum_by F ns ≡ sum_by G ns
sum_same F G same [] = refl
sum_same F G same (n ∷ ns) =
    let here = same n in
    let rest = sum_same F G same ns in
    let f = sum_by-cons F n ns in
    let g = sum_by-cons G n ns in
    omega (arith, here, rest, f, g)

capped : (most : ℕ) (F : ℕ → ℕ) (ns : List ℕ) → min (sum_by (λ n. min (F n) most) ns) most ≡ min (sum_by F ns) most
capped most F [] = refl
capped most F (n ∷ ns) =
    let rest = capped most F ns in
    let all = sum_by-cons F n ns in
    let cut = sum_by-cons (λ n. min (F n) most) n ns in
    omega (arith, rest, all, cut)

cons_head : {X : Type 0} {x y : X} {xs ys : List X} → x ∷ xs ≡ y ∷ ys → x ≡ y
cons_head same = cc

cons_tail : {X : Type 0} {x y : X} {xs ys : List X} → x ∷ xs ≡ y ∷ ys → xs ≡ ys
cons_tail same = cc

-- ---- the answer of a shard

-- the shard is there, and these are its statistics
record Told (o : Option Shard) (stats : ShardStats) : Type 0 where
  s : Shard
  there : o ≡ Some s
  stats_are : stats ≡ stats_of s

by_fate : (s : Shard) (stats : ShardStats) (refusal : Option Why) → Stats stats ≡ reply_or (Stats (stats_of s)) refusal → stats ≡ stats_of s
by_fate s stats None told = cc
by_fate s stats (Some why) told = absurd cc

told_by : (o : Option Shard) (stats : ShardStats) → Stats stats ≡ on_shard o (λ s. reply_or (Stats (stats_of s)) (fate_refusal s.fate)) → Told o stats
told_by None stats told = absurd cc
told_by (Some s) stats told = record { s = s; there = refl; stats_are = by_fate s stats (fate_refusal s.fate) told }

module _ (settings : SettingsView) (before during : List Event) (zone : ℕ) (bucket : List ℕ) (row : Bucket) (good : IsSettings settings) (legal : Legal settings (before ++ during)) (rests : Rests settings before zone bucket row) (calm : IsLeftAtRest settings before during zone bucket row) where
  abbrev slots : Named SeenSlot
  slots = heads (before ++ during) zone row.id

  abbrev Amid : OwnEvent → Type 0
  Amid = AmidFrom (length before) during

  -- a header counts the names of its shard
  record Header (n : ℕ) (stats : ShardStats) : Type 0 where
    objects : stats.objects ≡ (counts_of (names_of_shard row n slots)).objects
    bytes : stats.bytes ≡ min (counts_of (names_of_shard row n slots)).bytes greatest

  header : (own : OwnEvent) (s : Amid own) (n : ℕ) (stats : ShardStats) → n < row.shards → own.op ≡ asks_header zone row n → own.reply ≡ Stats stats → Header n stats
  header own s n stats less asks told =
      let front = upto settings before during zone bucket row good legal rests calm own s in
      let rest : during ≡ s.front ++ s.e ∷ s.later = s.split in
      let lawful = legal_upto settings before during zone bucket row good legal rests calm s.front (s.e ∷ s.later) rest in
      let now = rests_upto settings before during zone bucket row good legal rests calm s.front (s.e ∷ s.later) rest in
      let same = map_amid settings before during zone bucket row good legal rests calm s.front (s.e ∷ s.later) rest in
      let answer = sym told ∙ answered settings before during zone bucket row good legal rests calm own s ∙ ap (λ op. reply_of settings (at_moment (state_of settings front) (s.e).moment) op) asks in
      let x = told_by ((state_of settings front).shards zone (shard_key row.id row.instance n)) stats answer in
      let empty : (name : List ℕ) → (entry_of (at (x.s).entries name)).tags ≡ [] = λ name. sym (ap (λ o. (entry_in o name).tags) x.there) ∙ now.none n name less in
      let none = no_tags_counted x.s empty in
      let here = row_in_here settings front zone bucket row good lawful now.kept in
      let stands = stands_upto settings before during zone bucket row good legal rests calm s.front (s.e ∷ s.later) rest in
      record {
        objects =
            ap (λ (t : ShardStats). t.objects) x.stats_are
            ∙ shard_objects settings front zone row.id row good lawful here stands n x.s x.there none
            ∙ ap (λ m. (counts_of (names_of_shard row n m)).objects) same;
        bytes =
            ap (λ (t : ShardStats). t.bytes) x.stats_are
            ∙ shard_bytes settings front zone row.id row good lawful here stands n x.s x.there none
            ∙ ap (λ m. min (counts_of (names_of_shard row n m)).bytes greatest) same;
      }

  -- all headers
  record Headers (ns : List ℕ) (stats : List ShardStats) : Type 0 where
    objects : sum_by (λ t. t.objects) stats ≡ sum_by (λ n. (counts_of (names_of_shard row n slots)).objects) ns
    bytes : sum_by (λ t. t.bytes) stats ≡ sum_by (λ n. min (counts_of (names_of_shard row n slots)).bytes greatest) ns

  headers : (owns : List OwnEvent) (ns : List ℕ) (stats : List ShardStats) → AllByRecursion Amid owns → AllByRecursion (λ n. n < row.shards) ns → map (λ e. e.op) owns ≡ map (asks_header zone row) ns → map (λ e. e.reply) owns ≡ map (λ t. Stats t) stats → Headers ns stats
  headers [] [] [] all less asked told = record { objects = refl; bytes = refl }
  headers [] (n ∷ ns) stats all less asked told = absurd cc
  headers [] [] (t ∷ ts) all less asked told = absurd cc
  headers (own ∷ owns) [] stats all less asked told = absurd cc
  headers (own ∷ owns) (n ∷ ns) [] all less asked told = absurd cc
  headers (own ∷ owns) (n ∷ ns) (t ∷ ts) all less asked told =
      let one = header own all.0 n t less.0 (cons_head asked) (cons_head told) in
      let rest = headers owns ns ts all.1 less.1 (cons_tail asked) (cons_tail told) in
      let o1 = one.objects in
      let o2 = rest.objects in
      let b1 = one.bytes in
      let b2 = rest.bytes in
      let so = sum_by-cons (λ (x : ShardStats). x.objects) t ts in
      let sb = sum_by-cons (λ (x : ShardStats). x.bytes) t ts in
      let no = sum_by-cons (λ k. (counts_of (names_of_shard row k slots)).objects) n ns in
      let nb = sum_by-cons (λ k. min (counts_of (names_of_shard row k slots)).bytes greatest) n ns in
      record { objects = omega (arith, o1, o2, so, no); bytes = omega (arith, b1, b2, sb, nb) }

  shown_row : (own : OwnEvent) (s : Amid own) (shown : Bucket) → own.op ≡ BucketRead zone bucket → own.reply ≡ Row shown → shown ≡ row
  shown_row own s shown asks told =
      let front = upto settings before during zone bucket row good legal rests calm own s in
      let now = rests_upto settings before during zone bucket row good legal rests calm s.front (s.e ∷ s.later) s.split in
      row_is
      (sym told ∙ answered settings before during zone bucket row good legal rests calm own s ∙ ap (λ op. reply_of settings (at_moment (state_of settings front) (s.e).moment) op) asks
      ∙ ap row_reply now.kept)

  -- what the counts come to
  pub record Counts (objects bytes : ℕ) : Type 0 where
    pub objects_are : objects ≡ min (counts_of slots).objects greatest
    pub bytes_are : bytes ≡ min (counts_of slots).bytes greatest

  of_row : (objects bytes : ℕ) (owns : List OwnEvent) (stats : List ShardStats) → AllByRecursion Amid owns → map (λ e. e.op) owns ≡ map (asks_header zone row) (range_with_len 0 row.shards) → map (λ e. e.reply) owns ≡ map (λ t. Stats t) stats
      → objects ≡ min (sum_by (λ t. t.objects) stats) greatest → bytes ≡ min (sum_by (λ t. t.bytes) stats) greatest → Counts objects bytes
  of_row objects bytes owns stats all asked told objects_are bytes_are =
      let some = ((holds settings before good (legal_front settings (start settings) before during legal)).rows_stand.kept zone bucket row rests.kept).named.some in
      let from_zero : 0 + row.shards ≡ row.shards = omega arith in
      let below = subst (λ k. AllByRecursion (λ n. n < k) (range_with_len 0 row.shards)) from_zero (all_below 0 row.shards) in
      let h = headers owns (range_with_len 0 row.shards) stats all below asked told in
      let parts_o = parts_of_map live_count (λ q. shard_of q row.shards) row.shards (within row some) slots in
      let parts_b = parts_of_map live_bytes (λ q. shard_of q row.shards) row.shards (within row some) slots in
      record {
        objects_are = objects_are ∙ ap (λ n. min n greatest) (h.objects ∙ parts_o);
        bytes_are =
            bytes_are ∙ ap (λ n. min n greatest) h.bytes
            ∙ capped greatest (λ n. (counts_of (names_of_shard row n slots)).bytes) (range_with_len 0 row.shards)
            ∙ ap (λ n. min n greatest) parts_b;
      }

  pub counted_at_rest : (actor : ActorId) (asker : Asker) (shown : Bucket) (objects bytes : ℕ) → NoneBy actor before → CountedBy zone asker bucket shown shown.shards objects bytes (own_events (before ++ during) actor) → Counts objects bytes
  counted_at_rest actor asker shown objects bytes none c =
      let all = all_back Amid c.before (c.look ∷ c.counts) (subst (AllByRecursion Amid) c.stands (amid before during actor none)) in
      let same = shown_row c.look all.0 shown c.looks c.showed in
      let asked = subst (λ (b : Bucket). map (λ e. e.op) c.counts ≡ map (asks_header zone b) (range_with_len 0 b.shards)) same c.asked in
      of_row objects bytes c.counts c.headers all.1 asked c.told c.objects_are c.bytes_are
