-- What the actor of a listing knows of entries is what its own events told, so that it may suggest what is owed.
use Rattle.std.proofs.Common.{◌≡◌, ℕ, ◌<◌, ◌==◌, ◌&&◌, Bool, true, false, cond, nat_lt, List, [], ◌∷◌, Option, Some, None, refl, sym, ◌∙◌, ap, subst, arith}
use Rattle.std.specs.Prelude.{bytes_eq}
use Rattle.std.specs.FinMap.Entries.{find}
use Rattle.std.proofs.lemmas.Bool.Decides.{nat_tests}
use Rattle.std.proofs.lemmas.Slice.Eq.{bytes_eq-Decides}
use Rattle.rgw_types.specs.declared.pool_key.Key.{Key}
use Rattle.object_words.specs.declared.bucket.Bucket.{Bucket}
use Rattle.object_words.specs.declared.entry.EntryPage.{EntryPage}
use Rattle.object_words.specs.declared.head.HeadSeen.{HeadSeen}
use Rattle.object_words.specs.Entries.{EntryView}
use Rattle.object_words.specs.Hashes.{shard_of}
use Rattle.object_words.specs.Heads.{row_of}
use Rattle.object_words.specs.Keys.{is_key, put, put_key, container_of}
use Rattle.object_words.specs.Names.{name_cmp}
use Rattle.object_words.specs.Rows.{RowView}
use Rattle.object_words.specs.Tags.{has_due}
use Rattle.object_words.proofs.KeyLemmas.{key_itself, number_itself, same_key}
use Rattle.realm_model.specs.Settings.{SettingsView}
use Rattle.realm_model.specs.States.{put_in}
use Rattle.realm_model.specs.Allowed.{meets_need}
use Rattle.realm_model.specs.Learnt.{with_named, is_named, sighted, with_head, seen_after, learnt}
use Rattle.realm_model.specs.Needs.{is_suggestion}
use Rattle.realm_model.specs.Ops.{zone_of}
use Rattle.realm_model.specs.Owns.{OwnEvent, learnt_from}
use Rattle.realm_model.specs.Phases.{OwnChange, Sighting, Phase, fresh}
use Rattle.realm_model.specs.Tests.{is_so, same_flag, same_stamp, same_row}
use Rattle.realm_model.specs.declared.op.Op.{Op}
use Rattle.realm_model.specs.declared.op.Op.TheVariants.{BucketRead, Page, Suggest, HeadRead}
use Rattle.realm_model.specs.declared.event.Reply.{Reply}
use Rattle.realm_model.specs.declared.event.Reply.TheVariants.{Row, Entries, Head as head_reply}
use Rattle.task_list.specs.Listed.{is_of_listing, AreOfListing, AreInZone}
use Rattle.task_list.specs.Repairs.{EntrySeen, Told, told_row, untold, key_of, entry_seen, seen_on, told_after, told_by, may_stand, suggestion, owed_by, owed_after, IsRepairing}
use Rattle.task_list.proofs.Passing.{shard_within}

some_is : {X : Type 0} {x y : X} → Some x ≡ Some y → x ≡ y
some_is same = cc

-- ---- tests that pass

both : (a b : Bool) → a ≡ true → b ≡ true → (a && b) ≡ true
both a b x y = rw x y

text_itself : (a : List ℕ) → bytes_eq a a ≡ true
text_itself a = (bytes_eq-Decides a a).1 refl

flag_itself : (a : Bool) → same_flag a a ≡ true
flag_itself true = refl
flag_itself false = refl

row_itself : (a : RowView) → same_row a a ≡ true
row_itself a =
    both (same_flag a.exists a.exists) _ (flag_itself a.exists)
    (both (a.size == a.size) _ (number_itself a.size)
    (both (same_stamp a.stamp a.stamp) _ (both (a.stamp.micros == a.stamp.micros) _ (number_itself a.stamp.micros) (number_itself a.stamp.zone))
    (both (bytes_eq a.etag a.etag) _ (text_itself a.etag) (text_itself a.kind))))

put_here : {A : Type 0} (f : ℕ → A) (n : ℕ) (x : A) → put f n x n ≡ x
put_here f n x = ap (λ b. cond b x (f n)) (number_itself n)

put_in_here : {A : Type 0} (f : ℕ → Key → A) (zone : ℕ) (key : Key) (x : A) → put_in f zone key x zone key ≡ x
put_in_here f zone key x =
    ap (λ (g : Key → _). g key) (put_here f zone (put_key (f zone) key x)) ∙ ap (λ b. cond b x (f zone key)) (key_itself key)

put_in_other : {A : Type 0} (f : ℕ → Key → A) (zone : ℕ) (key other : Key) (x : A) → is_key key other ≡ false → put_in f zone key x zone other ≡ f zone other
put_in_other f zone key other x apart =
    ap (λ (g : Key → _). g other) (put_here f zone (put_key (f zone) key x)) ∙ ap (λ b. cond b x (f zone other)) apart

-- ---- sightings

-- the entry was seen then
pub record IsSighted (o : Option Sighting) (s : EntrySeen) : Type 0 where
  pub head : Option OwnChange
  pub is : o ≡ Some (record { entry = s.entry; moment = s.clock; head = head })

-- what the actor knows, and may do next
pub record Knows (settings : SettingsView) (zone : ℕ) (t : Told) (owed : Option Op) (p : Phase) : Type 0 where
  pub named : (row : Bucket) → t.row ≡ Some row → p.named zone row.id row.instance ≡ Some row.shards
  pub seen : (row : Bucket) (name : List ℕ) (s : EntrySeen) → t.row ≡ Some row → 0 < row.shards → t.seen name ≡ Some s → has_due s.clock s.entry.tags ≡ true
      → IsSighted (p.seen zone (key_of row name) name) s
  pub may : (row : Bucket) (op : Op) → t.row ≡ Some row → 0 < row.shards → owed ≡ Some op → meets_need settings p op ≡ true

pub knows_first : (settings : SettingsView) (zone : ℕ) → Knows settings zone untold None fresh
knows_first settings zone = record {
  named = λ row is. cc;
  seen = λ row name s is some seen due. cc;
  may = λ row op is some owed. cc;
}

module _ (settings : SettingsView) (zone : ℕ) (t : Told) (owed : Option Op) (p : Phase) (k : Knows settings zone t owed p) (number clock : ℕ) where
  -- ---- a row

  named_there : (row : Bucket) → with_named p.named zone (Some row) zone row.id row.instance ≡ Some row.shards
  named_there row =
      ap (λ (f : ℕ → ℕ → Option ℕ). f row.id row.instance) (put_here p.named zone (put (p.named zone) row.id (put (p.named zone row.id) row.instance (Some row.shards))))
      ∙ ap (λ (f : ℕ → Option ℕ). f row.instance) (put_here (p.named zone) row.id (put (p.named zone row.id) row.instance (Some row.shards)))
      ∙ put_here (p.named zone row.id) row.instance (Some row.shards)

  row_came : (name : List ℕ) (row : Bucket) → Knows settings zone (told_row (Some row)) None (learnt p (BucketRead zone name) (Row row) number clock)
  row_came name row = record {
    named = λ other is. subst (λ (b : Bucket). with_named p.named zone (Some row) zone b.id b.instance ≡ Some b.shards) (some_is is) (named_there row);
    seen = λ other n s is some seen due. (let no : None ≡ Some s = seen in cc);
    may = λ other op is some owed. (let no : None ≡ Some op = owed in cc);
  }

  -- ---- a page

  module _ (key : Key) (after : List ℕ) (limit : ℕ) (page : EntryPage) where
    abbrev seen_now : ℕ → Key → List ℕ → Option Sighting
    seen_now = seen_after p.seen p.named (Page zone key after limit) (Entries page)

    -- of the shard
    sighted_here : (row : Bucket) (name : List ℕ) → t.row ≡ Some row → 0 < row.shards → key ≡ key_of row name → seen_now zone (key_of row name) name ≡ sighted page.clock (find name_cmp name page.rows) (p.seen zone (key_of row name) name)
    sighted_here row name is some same =
        let low = shard_within name row.shards some in
        let less : nat_lt (shard_of name row.shards) row.shards ≡ true = grind (arith, nat_tests, low) in
        let named : is_named p.named zone (key_of row name) ≡ true = ap (λ o. is_so o (λ shards. nat_lt (shard_of name row.shards) shards)) (k.named row is) ∙ less in
        let put_there = put_in p.seen zone (key_of row name) (λ n. sighted page.clock (find name_cmp n page.rows) (p.seen zone (key_of row name) n)) in
        subst (λ q. seen_after p.seen p.named (Page zone q after limit) (Entries page) zone (key_of row name) name ≡ sighted page.clock (find name_cmp name page.rows) (p.seen zone (key_of row name) name)) (sym same)
        (ap (λ b. cond b put_there p.seen zone (key_of row name) name) named
        ∙ ap (λ (f : List ℕ → Option Sighting). f name) (put_in_here p.seen zone (key_of row name) (λ n. sighted page.clock (find name_cmp n page.rows) (p.seen zone (key_of row name) n))))

    -- of another shard
    sighted_other : (row : Bucket) (name : List ℕ) → is_key key (key_of row name) ≡ false → seen_now zone (key_of row name) name ≡ p.seen zone (key_of row name) name
    sighted_other row name apart =
        elim (is_named p.named zone key) as (λ b. cond b (put_in p.seen zone key (λ n. sighted page.clock (find name_cmp n page.rows) (p.seen zone key n))) p.seen zone (key_of row name) name ≡ p.seen zone (key_of row name) name) [
          | true ↦ ap (λ (f : List ℕ → Option Sighting). f name) (put_in_other p.seen zone key (key_of row name) (λ n. sighted page.clock (find name_cmp n page.rows) (p.seen zone key n)) apart)
          | false ↦ refl
        ]

    by_entry : (row : Bucket) (name : List ℕ) (s : EntrySeen) (found : Option EntryView) → t.row ≡ Some row → 0 < row.shards → entry_seen found page.clock (t.seen name) ≡ Some s → has_due s.clock s.entry.tags ≡ true → IsSighted (sighted page.clock found (p.seen zone (key_of row name) name)) s
    by_entry row name s None is some seen due = k.seen row name s is some seen due
    by_entry row name s (Some e) is some seen due =
        let same : record { entry = e; clock = page.clock } ≡ s = some_is seen in
        let due_then : has_due page.clock e.tags ≡ true = subst (λ (x : EntrySeen). has_due x.clock x.entry.tags ≡ true) (sym same) due in
        record {
          head = None;
          is = ap (λ b. cond b (Some (record { entry = e; moment = page.clock; head = None })) (p.seen zone (key_of row name) name)) due_then
              ∙ ap (λ (x : EntrySeen). Some (record { entry = x.entry; moment = x.clock; head = None })) same;
        }

    page_came : Knows settings zone (told_after t (Page zone key after limit) (Entries page)) None (learnt p (Page zone key after limit) (Entries page) number clock)
    page_came = record {
      named = k.named;
      seen = λ row name s is some seen due. at row name s is some (subst (λ o. seen_on o key (Some page) t.seen name ≡ Some s) is seen) due;
      may = λ row op is some owed. (let no : None ≡ Some op = owed in cc);
    }
      where
        at : (row : Bucket) (name : List ℕ) (s : EntrySeen) → t.row ≡ Some row → 0 < row.shards
            → cond (is_key key (key_of row name)) (entry_seen (find name_cmp name page.rows) page.clock (t.seen name)) (t.seen name) ≡ Some s
            → has_due s.clock s.entry.tags ≡ true → IsSighted (seen_now zone (key_of row name) name) s
        at row name s is some seen due =
            elim (is_key key (key_of row name)) as (λ b. is_key key (key_of row name) ≡ b → cond b (entry_seen (find name_cmp name page.rows) page.clock (t.seen name)) (t.seen name) ≡ Some s → IsSighted (seen_now zone (key_of row name) name) s) [
              | true ↦ λ same seen'.
                  subst (λ o. IsSighted o s) (sym (sighted_here row name is some (same_key key (key_of row name) same)))
                  (by_entry row name s (find name_cmp name page.rows) is some seen' due)
              | false ↦ λ apart seen'. subst (λ o. IsSighted o s) (sym (sighted_other row name apart)) (k.seen row name s is some seen' due)
            ] refl seen

  -- nothing new was told
  same_told : (p' : Phase) → p'.named ≡ p.named → p'.seen ≡ p.seen → Knows settings zone t None p'
  same_told p' named seen = record {
    named = λ row is. subst (λ (f : ℕ → ℕ → ℕ → Option ℕ). f zone row.id row.instance ≡ Some row.shards) (sym named) (k.named row is);
    seen = λ row name s is some was due. subst (λ (f : ℕ → Key → List ℕ → Option Sighting). IsSighted (f zone (key_of row name) name) s) (sym seen) (k.seen row name s is some was due);
    may = λ row op is some owed. (let no : None ≡ Some op = owed in cc);
  }

  no_page : (op : Op) (key : Key) (p' : Phase) → p'.named ≡ p.named → p'.seen ≡ p.seen → Knows settings zone (record { row = t.row; seen = seen_on t.row key None t.seen }) None p'
  no_page op key p' named seen = record {
    named = λ row is. subst (λ (f : ℕ → ℕ → ℕ → Option ℕ). f zone row.id row.instance ≡ Some row.shards) (sym named) (k.named row is);
    seen = λ row name s is some was due.
        subst (λ (f : ℕ → Key → List ℕ → Option Sighting). IsSighted (f zone (key_of row name) name) s) (sym seen)
        (k.seen row name s is some (subst (λ o. seen_on o key None t.seen name ≡ Some s) is was) due);
    may = λ row op' is some owed. (let no : None ≡ Some op' = owed in cc);
  }

  no_row : (p' : Phase) → Knows settings zone (told_row None) None p'
  no_row p' = record {
    named = λ row is. (let no : None ≡ Some row = is in cc);
    seen = λ row name s is some was due. (let no : None ≡ Some row = is in cc);
    may = λ row op is some owed. (let no : None ≡ Some op = owed in cc);
  }

  -- ---- a head

  module _ (container : ℕ) (name : List ℕ) (head : HeadSeen) (told_at : ℕ) where
    abbrev shown : OwnChange
    shown = record { version = head.version; row = row_of head.slot }

    abbrev headed : ℕ → Key → List ℕ → Option Sighting
    headed = seen_after p.seen p.named (HeadRead zone container name) (head_reply head told_at)

    headed_is : (key : Key) (n : List ℕ) → headed zone key n ≡ cond (container_of key == container && bytes_eq n name) (with_head shown (p.seen zone key n)) (p.seen zone key n)
    headed_is key n =
        ap (λ (f : Key → List ℕ → Option Sighting). f key n)
        (put_here p.seen zone (λ q m. cond (container_of q == container && bytes_eq m name) (with_head shown (p.seen zone q m)) (p.seen zone q m)))

    still : (o : Option Sighting) (s : EntrySeen) (b : Bool) → IsSighted o s → IsSighted (cond b (with_head shown o) o) s
    still o s true was = record { head = Some shown; is = ap (with_head shown) was.is }
    still o s false was = was

    abbrev knows_now : Phase
    knows_now = learnt p (HeadRead zone container name) (head_reply head told_at) number clock

    -- what is owed may be suggested
    may_suggest : (row : Bucket) (s : EntrySeen) → t.row ≡ Some row → 0 < row.shards → t.seen name ≡ Some s → has_due s.clock s.entry.tags ≡ true → (row.id == container) ≡ true
        → is_suggestion (headed zone (key_of row name) name) s.entry.revision s.clock head.version (row_of head.slot) ≡ true
    may_suggest row s is some seen due same =
        let was = k.seen row name s is some seen due in
        let found : headed zone (key_of row name) name ≡ Some (record { entry = s.entry; moment = s.clock; head = Some shown }) =
        headed_is (key_of row name) name ∙ (ap (λ b. cond b (with_head shown (p.seen zone (key_of row name) name)) (p.seen zone (key_of row name) name)) (both (row.id == container) (bytes_eq name name) same (text_itself name)) ∙ ap (with_head shown) was.is) in
        ap (λ o. is_suggestion o s.entry.revision s.clock head.version (row_of head.slot)) found
        ∙ both (s.entry.revision == s.entry.revision) _ (number_itself s.entry.revision)
        (both (s.clock == s.clock) _ (number_itself s.clock) (both (head.version == head.version) _ (number_itself head.version) (row_itself (row_of head.slot))))

    may_next : (row : Bucket) (op : Op) → t.row ≡ Some row → 0 < row.shards → owed_by (Some row) t.seen zone container name head ≡ Some op → meets_need settings knows_now op ≡ true
    may_next row op is some owed' =
        elim (row.id == container) as (λ b. (row.id == container) ≡ b → cond b (suggestion zone row name (t.seen name) head) None ≡ Some op → meets_need settings knows_now op ≡ true) [
          | true ↦ λ same owes.
              elim (t.seen name) as (λ o. t.seen name ≡ o → suggestion zone row name o head ≡ Some op → meets_need settings knows_now op ≡ true) [
                | None ↦ λ seen none. (let no : None ≡ Some op = none in cc)
                | Some s ↦ λ seen so. by_due s seen same so
              ] refl owes
          | false ↦ λ same none. (let no : None ≡ Some op = none in cc)
        ] refl owed'
      where
        by_due : (s : EntrySeen) → t.seen name ≡ Some s → (row.id == container) ≡ true → suggestion zone row name (Some s) head ≡ Some op → meets_need settings knows_now op ≡ true
        by_due s seen same so =
            elim (has_due s.clock s.entry.tags) as (λ b. has_due s.clock s.entry.tags ≡ b → cond (b && may_stand head.slot) (Some (Suggest zone (key_of row name) name s.entry.revision s.clock head.version (row_of head.slot))) None ≡ Some op → meets_need settings knows_now op ≡ true) [
              | true ↦ λ due so'.
                  elim (may_stand head.slot) as (λ b. cond b (Some (Suggest zone (key_of row name) name s.entry.revision s.clock head.version (row_of head.slot))) None ≡ Some op → meets_need settings knows_now op ≡ true) [
                    | true ↦ λ so''. subst (λ o. meets_need settings knows_now o ≡ true) (some_is so'') (may_suggest row s is some seen due same)
                    | false ↦ λ none. (let no : None ≡ Some op = none in cc)
                  ] so'
              | false ↦ λ due none. (let no : None ≡ Some op = none in cc)
            ] refl so

    head_came : Knows settings zone t (owed_by t.row t.seen zone container name head) knows_now
    head_came = record {
      named = k.named;
      seen = λ row n s is some was due. subst (λ o. IsSighted o s) (sym (headed_is (key_of row n) n)) (still (p.seen zone (key_of row n) n) s (row.id == container && bytes_eq n name) (k.seen row n s is some was due));
      may = λ row op is some owes. may_next row op is some (subst (λ o. owed_by o t.seen zone container name head ≡ Some op) is owes);
    }

  -- ---- all of them

  abbrev Next : Op → Reply → Type 0
  Next op reply = Knows settings zone (told_after t op reply) (owed_after t op reply) (learnt p op reply number clock)

  in_zone : (op : Op) (reply : Reply) → is_of_listing op ≡ true → zone_of op ≡ zone → Next op reply
  in_zone (BucketRead z name) (Row row) kind is = subst (λ n. Next (BucketRead n name) (Row row)) (sym is) (row_came name row)
  in_zone (BucketRead z name) reply kind is = no_row (learnt p (BucketRead z name) reply number clock)
  in_zone (Page z key after limit) (Entries page) kind is = subst (λ n. Next (Page n key after limit) (Entries page)) (sym is) (page_came key after limit page)
  in_zone (Page z key after limit) reply kind is = no_page (Page z key after limit) key (learnt p (Page z key after limit) reply number clock) refl refl
  in_zone (HeadRead z container name) (head_reply head told_at) kind is = subst (λ n. Next (HeadRead n container name) (head_reply head told_at)) (sym is) (head_came container name head told_at)
  in_zone (HeadRead z container name) reply kind is = same_told (learnt p (HeadRead z container name) reply number clock) refl refl
  in_zone (Suggest z key name revision seen version row) reply kind is = same_told (learnt p (Suggest z key name revision seen version row) reply number clock) refl refl
  in_zone op reply kind is = let e : false ≡ true = kind in absurd (cc)

-- what the actor knows after all its events
pub knows_all : (settings : SettingsView) (zone : ℕ) (t : Told) (owed last : Option Op) (p : Phase) (events : List OwnEvent) → AreOfListing events → AreInZone zone events → IsRepairing t owed events last → Knows settings zone t owed p
    → Knows settings zone (told_by t events) last (learnt_from p events)
knows_all settings zone t owed last p [] reads inside is k = subst (λ o. Knows settings zone t o p) is k
knows_all settings zone t owed last p (e ∷ es) reads inside is k =
    knows_all settings zone (told_after t e.op e.reply) (owed_after t e.op e.reply) last (learnt p e.op e.reply e.number e.clock) es reads.1 inside.1 is.1
    (in_zone settings zone t owed p k e.number e.clock e.op e.reply reads.0 inside.0)
