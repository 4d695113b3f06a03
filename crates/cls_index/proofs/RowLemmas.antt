-- The row of one name at one change.
use Rattle.std.proofs.Common.{◌≡◌, ℕ, ◌+◌, ◌*◌, ◌<◌, ◌≤◌, ◌^◌, List, [], ◌∷◌, ◌++◌, length, take, replicate, Option, Some, None, option_map, IsSome, IfSome, unwrap_or, refl, sym, ap, ◌∙◌, subst, arith, length-append}
use Rattle.std.specs.List.{AllByRecursion, remove, splice}
use Rattle.std.proofs.lemmas.List.{take_at}
use Rattle.std.proofs.lemmas.List.Edits.{length-remove}
use Rattle.omap_pages.specs.Contents.{Contents, KeepsRooms}
use Rattle.omap_pages.specs.Rows.{value_at}
use Rattle.object_pool.specs.declared.place.Place.{Place}
use Rattle.object_words.specs.declared.entry.Tag.{Tag}
use Rattle.object_words.specs.Rows.{RowView}
use Rattle.object_words.specs.Numbers.{next}
use Rattle.object_words.specs.Entries.{EntryView, entry_of, no_entry, with_tags}
use Rattle.object_words.specs.Tags.{with_tag}
use Rattle.index_entry.specs.declared.entry.EntryFront.{EntryFront}
use Rattle.index_entry.specs.Numbers.{number_bytes}
use Rattle.index_entry.specs.Layouts.{IsEntry, IsTag, IsWritten, entry_bytes, front_bytes, front_of, row_bytes, tag_bytes}
use Rattle.class_words.proofs.OptionLemmas.{some_same}
use Rattle.index_entry.proofs.EntryLemmas.{length-entry_bytes, no_row_written}
use Rattle.class_words.specs.Shards.{HasEntry}
use Rattle.class_words.proofs.WorksLemmas.{works_on_rows_then}
use Rattle.cls_index.specs.Rows.{KeepsToName}
use Rattle.cls_index.proofs.RawLemmas.{raw, raw_count, raw_front, raw_less, raw_less_first, raw_more, raw_revision}
use Rattle.cls_index.proofs.TagLemmas.{all_with, all_without, rise_less, rise_more}

-- what a splice of a row says
abbrev pub Splices : Contents → Contents → List ℕ → ℕ → ℕ → List ℕ → Type 0
Splices c d name start end bytes = (x : List ℕ) → value_at c.rows name ≡ Some x → value_at d.rows name ≡ Some (splice x start end bytes)

-- where the tags of an entry begin
pub tags_at : (f : EntryFront) (e : EntryView) → f ≡ front_of e → f.tags_start ≡ 27 + length (row_bytes e.row)
tags_at f e read = ap (λ (x : EntryFront). x.tags_start) read

pub tags_in : (f : EntryFront) (e : EntryView) → f ≡ front_of e → f.tags ≡ length e.tags
tags_in f e read = ap (λ (x : EntryFront). x.tags) read

pub less_row : (c d : Contents) (name : List ℕ) (e : EntryView) (p start end : ℕ) → HasEntry c name (Some e) → p < length e.tags → start ≡ 27 + length (row_bytes e.row) + 16 * p → end ≡ start + 16
    → Splices c d name start end [] → value_at d.rows name ≡ Some (raw e.version e.revision e.row (length e.tags) (remove e.tags p))
less_row c d name e p start end has some is ends splices =
    splices (entry_bytes e) has.row ∙ ap Some (raw_less e.version e.revision e.row (length e.tags) e.tags p start end some is ends)

pub more_row : (c d : Contents) (name : List ℕ) (e : EntryView) (t : Tag) (bytes : List ℕ) (start end : ℕ) → HasEntry c name (Some e) → bytes ≡ tag_bytes t → start ≡ 27 + length (row_bytes e.row) + 16 * length e.tags
    → end ≡ start → Splices c d name start end bytes → value_at d.rows name ≡ Some (raw e.version e.revision e.row (length e.tags) (with_tag t e.tags))
more_row c d name e t bytes start end has is at ends splices =
    splices (entry_bytes e) has.row ∙ ap (λ b. Some (splice (entry_bytes e) start end b)) is ∙ ap Some (raw_more e.version e.revision e.row (length e.tags) e.tags t start end at ends)

pub count_row : (c d : Contents) (name : List ℕ) (e : EntryView) (count next : ℕ) (ts : List Tag) (bytes : List ℕ) (start end : ℕ) → value_at c.rows name ≡ Some (raw e.version e.revision e.row count ts)
    → bytes ≡ number_bytes next → start ≡ 19 + length (row_bytes e.row) → end ≡ start + 8 → Splices c d name start end bytes → value_at d.rows name ≡ Some (raw e.version e.revision e.row next ts)
count_row c d name e count next ts bytes start end here is at ends splices =
    splices (raw e.version e.revision e.row count ts) here ∙ ap (λ b. Some (splice (raw e.version e.revision e.row count ts) start end b)) is
    ∙ ap Some (raw_count e.version e.revision e.row count next ts start end at ends)

pub first_row : (c d : Contents) (name : List ℕ) (e : EntryView) (next : ℕ) (bytes : List ℕ) (start end : ℕ) → HasEntry c name (Some e) → 0 < length e.tags → bytes ≡ number_bytes next
    → start ≡ 19 + length (row_bytes e.row) → end ≡ start + 24 → Splices c d name start end bytes → value_at d.rows name ≡ Some (raw e.version e.revision e.row next (remove e.tags 0))
first_row c d name e next bytes start end has some is at ends splices =
    splices (entry_bytes e) has.row ∙ ap (λ b. Some (splice (entry_bytes e) start end b)) is
    ∙ ap Some (raw_less_first e.version e.revision e.row (length e.tags) next e.tags start end some at ends)

pub revision_row : (c d : Contents) (name : List ℕ) (e : EntryView) (next : ℕ) (bytes : List ℕ) → HasEntry c name (Some e) → bytes ≡ number_bytes next → Splices c d name 11 19 bytes
    → value_at d.rows name ≡ Some (entry_bytes (record e { revision = next }))
revision_row c d name e next bytes has is splices =
    splices (entry_bytes e) has.row ∙ ap (λ b. Some (splice (entry_bytes e) 11 19 b)) is ∙ ap Some (raw_revision e.version e.revision next e.row (length e.tags) e.tags)

pub front_row : (c d : Contents) (name : List ℕ) (e : EntryView) (version revision count : ℕ) (row : RowView) (bytes : List ℕ) (end : ℕ) → HasEntry c name (Some e) → bytes ≡ front_bytes version revision row count
    → count ≡ length e.tags → end ≡ 27 + length (row_bytes e.row) → Splices c d name 0 end bytes → value_at d.rows name ≡ Some (entry_bytes (record e { version = version; revision = revision; row = row }))
front_row c d name e version revision count row bytes end has is counted at splices =
    splices (entry_bytes e) has.row ∙ ap (λ b. Some (splice (entry_bytes e) 0 end b)) is ∙ ap Some (raw_front e.version e.revision e.row (length e.tags) e.tags end (front_bytes version revision row count) at)
    ∙ ap (λ n. Some (raw version revision row n e.tags)) counted

-- ---- entries that can be written

pub fewer : (e : EntryView) (p : ℕ) → IsEntry e → p < length e.tags → IsEntry (record e { tags = remove e.tags p })
fewer e p is some = record {
  version_fits = is.version_fits;
  revision_fits = is.revision_fits;
  row_fits = is.row_fits;
  count_fits = omega (arith, is.count_fits, length-remove e.tags p some);
  tags_fit = all_without IsTag e.tags p is.tags_fit;
  rise = rise_less e.tags p is.rise;
}

pub length-with_tag : (ts : List Tag) (t : Tag) → length (with_tag t ts) ≡ length ts + 1
length-with_tag ts t = length-append ts (t ∷ [])

pub more : (e : EntryView) (t : Tag) → IsEntry e → IsTag t → length e.tags + 1 < 2 ^ 64 → AllByRecursion (λ u. u.tag < t.tag) e.tags → IsEntry (record e { tags = with_tag t e.tags })
more e t is fits few below = record {
  version_fits = is.version_fits;
  revision_fits = is.revision_fits;
  row_fits = is.row_fits;
  count_fits = omega (arith, few, length-with_tag e.tags t);
  tags_fit = all_with IsTag e.tags t is.tags_fit fits;
  rise = rise_more e.tags t is.rise below;
}

pub revised : (e : EntryView) (revision : ℕ) → IsEntry e → revision < 2 ^ 64 → IsEntry (record e { revision = revision })
revised e revision is fits = record { version_fits = is.version_fits; revision_fits = fits; row_fits = is.row_fits; count_fits = is.count_fits; tags_fit = is.tags_fit; rise = is.rise }

pub rewritten : (e : EntryView) (version revision : ℕ) (row : RowView) → IsEntry e → version < 2 ^ 64 → revision < 2 ^ 64 → IsWritten row → IsEntry (record e { version = version; revision = revision; row = row })
rewritten e version revision row is vf rf wf = record { version_fits = vf; revision_fits = rf; row_fits = wf; count_fits = is.count_fits; tags_fit = is.tags_fit; rise = is.rise }

-- where rooms alone change
pub roomier : (c d : Contents) (name : List ℕ) (found : Option EntryView) → d.rows ≡ c.rows → KeepsRooms c d → HasEntry c name found → HasEntry d name found
roomier c d name None same keeps has = record { row = ap (λ r. value_at r name) same ∙ has.row; entry = tt; room = tt }
roomier c d name (Some e) same keeps has = record { row = ap (λ r. value_at r name) same ∙ has.row; entry = has.entry; room = omega (arith, has.room, keeps name) }

-- one step, and then another
pub keeps_then : (a b c : Place) (name : List ℕ) → KeepsToName a b name → KeepsToName b c name → KeepsToName a c name
keeps_then a b c name x y = record {
  works = works_on_rows_then a b c x.works y.works;
  others = λ q differs. y.others q differs ∙ x.others q differs;
  rooms = λ q differs. omega (arith, x.rooms q differs, y.rooms q differs);
  spare = y.spare ∙ x.spare;
}

pub if_some : {X : Type 0} (o : Option X) (P Q : X → Type 0) → ((x : X) → P x → Q x) → IfSome o P → IfSome o Q
if_some None P Q step is = tt
if_some (Some x) P Q step is = step x is

-- an entry whose front was read is there
pub front_found : (found : Option EntryView) (f : EntryFront) → Some f ≡ option_map front_of found → (found ≡ Some (entry_of found)) × (f ≡ front_of (entry_of found))
front_found None f e = absurd cc
front_found (Some e) f read = (refl, some_same f (front_of e) read)

no_tags : (ts : List Tag) → length ts ≡ 0 → ts ≡ []
no_tags [] none = refl
no_tags (t ∷ ts) none = absurd (omega (arith, none))

-- the row of an entry without tags, and its front
pub record IsBare (row : List ℕ) (front : EntryFront) (found : Option EntryView) : Type 0 where
  pub fits : IsEntry (entry_of found)
  pub written : row ≡ entry_bytes (entry_of found)
  pub none : (entry_of found).tags ≡ []
  pub long : front.tags_start ≡ length row
  pub revision : next front.revision ≡ next (entry_of found).revision

pub bare : (c : Contents) (name row : List ℕ) (front : EntryFront) (found : Option EntryView) → HasEntry c name found → Some row ≡ value_at c.rows name
    → ((e : EntryView) → IsEntry e → row ≡ entry_bytes e → Some front ≡ Some (front_of e)) → front.tags ≤ 0 → IsBare row front found
bare c name row front None has is read none = absurd (let bad : Some row ≡ None = is ∙ has.row in cc)
bare c name row front (Some e) has is read none =
    let here : row ≡ entry_bytes e = some_same row (entry_bytes e) (is ∙ has.row) in
    let same = some_same front (front_of e) (read e has.entry here) in
    let few : length e.tags ≡ 0 = omega (arith, tags_in front e same, none) in
    record {
      fits = has.entry;
      written = here;
      none = no_tags e.tags few;
      long = omega (arith, tags_at front e same, few, ap length here, length-entry_bytes e);
      revision = ap (λ (f : EntryFront). next f.revision) same;
    }

-- bytes that stand before others
pub front_taken : (out x rest : List ℕ) (len : ℕ) → out ≡ x ++ rest → len ≡ length x → take len out ≡ x
front_taken out x rest len is long = ap (take len) is ∙ take_at x rest len (sym long)

pub front_within : (out x rest : List ℕ) (len : ℕ) → out ≡ x ++ rest → len ≡ length x → len ≤ length out
front_within out x rest len is long = omega (arith, ap length is, length-append x rest, long)

pub blank_fits : IsEntry no_entry
blank_fits = record { version_fits = omega arith; revision_fits = omega arith; row_fits = no_row_written; count_fits = omega arith; tags_fit = tt; rise = refl }

pub blank_bytes : entry_bytes no_entry ≡ 238 ∷ 1 ∷ 0 ∷ replicate 24 0
unfolding number_bytes
blank_bytes = refl

-- the bytes of the first entry of a name
abbrev pub first_bytes : Tag → List ℕ
first_bytes t = entry_bytes (with_tags no_entry (with_tag t []))

pub length-first : (t : Tag) → length (first_bytes t) ≡ 43
length-first t = length-entry_bytes (with_tags no_entry (with_tag t []))
