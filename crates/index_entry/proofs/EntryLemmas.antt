-- Entries in bytes.
use Rattle.std.proofs.Common.{◌≡◌, ℕ, zero, suc, ◌+◌, ◌^◌, ◌<◌, ◌≤◌, ◌*◌, ◌==◌, Bool, true, false, true≢false, List, replicate, Option, Some, None, is_some, unwrap_or, [], ◌∷◌, ◌++◌, length, take, drop, get_or, refl, sym, ap, ap₂, ◌∙◌, arith, append_assoc, append-nil, length-append}
use mir.Val.{bool_byte}
use Rattle.std.specs.Str.{IsUtf8}
use Rattle.std.specs.List.{AllByRecursion}
use Rattle.std.proofs.lemmas.List.{drop_more, length-drop, length-take, get_or-drop, take_at}
use Rattle.object_words.specs.declared.entry.Tag.{Tag}
use Rattle.object_words.specs.Rows.{RowView, no_row}
use Rattle.index_entry.specs.Numbers.{number_bytes, short_bytes}
use Rattle.object_words.specs.Entries.{EntryView}
use Rattle.index_entry.specs.declared.entry.EntryFront.{EntryFront}
use Rattle.index_entry.specs.Layouts.{IsEntry, IsTag, IsWritten, entry_bytes, front_bytes, live_bytes, row_bytes, tags_bytes, flag}
use Rattle.index_entry.proofs.TagLemmas.{length-tags_bytes}
use Rattle.std.specs.Int.{w16, from_be_bytes}
use Rattle.index_entry.proofs.PieceLemmas.{short_once, AreBytes, a_number, all_fit, begins, behind, taken, part_fits, length-number_bytes, length-short_bytes}

-- the bytes of a row of an object that exists, piece by piece
pub live_split : (row : RowView) (rest : List ℕ) → live_bytes row ++ rest
    ≡ number_bytes row.size ++ (number_bytes row.stamp.micros ++ (row.stamp.zone ∷ (row.etag ++ (short_bytes (length row.kind) ++ (row.kind ++ rest)))))
live_split row rest =
    append_assoc (number_bytes row.size) (number_bytes row.stamp.micros ++ (row.stamp.zone ∷ (row.etag ++ (short_bytes (length row.kind) ++ row.kind)))) rest
    ∙ ap (λ z. number_bytes row.size ++ z) (append_assoc (number_bytes row.stamp.micros) (row.stamp.zone ∷ (row.etag ++ (short_bytes (length row.kind) ++ row.kind))) rest
    ∙ ap (λ z. number_bytes row.stamp.micros ++ (row.stamp.zone ∷ z)) (append_assoc row.etag (short_bytes (length row.kind) ++ row.kind) rest
    ∙ ap (λ z. row.etag ++ z) (append_assoc (short_bytes (length row.kind)) row.kind rest)))

pub length-live_bytes : (row : RowView) → length row.etag ≡ 16 → length (live_bytes row) ≡ 35 + length row.kind
length-live_bytes row long =
    omega (
      arith,
      long,
      length-append (number_bytes row.size) (number_bytes row.stamp.micros ++ (row.stamp.zone ∷ (row.etag ++ (short_bytes (length row.kind) ++ row.kind)))),
      length-append (number_bytes row.stamp.micros) (row.stamp.zone ∷ (row.etag ++ (short_bytes (length row.kind) ++ row.kind))),
      length-append row.etag (short_bytes (length row.kind) ++ row.kind),
      length-append (short_bytes (length row.kind)) row.kind,
      length-number_bytes row.size,
      length-number_bytes row.stamp.micros,
      length-short_bytes (length row.kind),
    )

pub exists_bytes : (row : RowView) → row.exists ≡ true → row_bytes row ≡ live_bytes row
exists_bytes row is = rw is refl

-- what was read of a row of an object that exists
pub record IsLive (bs : List ℕ) (n : ℕ) : Type 0 where
  pub bytes : AreBytes bs
  pub long : 54 + n + 8 ≤ length bs
  pub few : n ≤ 256
  pub zone_low : 1 ≤ get_or bs 35 0
  pub zone_high : get_or bs 35 0 ≤ 8
  pub kind_len : drop 52 bs ≡ short_bytes n ++ drop 54 bs
  pub kind_text : IsUtf8 (take n (drop 54 bs))

abbrev pub LiveFound : List ℕ → ℕ → Type 0
LiveFound bs end = (row : RowView) × IsWritten row × (row.exists ≡ true) × (end ≡ 19 + length (row_bytes row))
    × (end + 8 ≤ length bs) × (drop 19 bs ≡ row_bytes row ++ drop end bs)

pub live_found : (bs : List ℕ) (n : ℕ) → IsLive bs n → LiveFound bs (54 + n)
live_found bs n is =
    let s = a_number bs 19 is.bytes (omega (arith, is.long)) in
    let m = a_number bs 27 is.bytes (omega (arith, is.long)) in
    let row : RowView = record { exists = true; size = s.number; stamp = record { micros = m.number; zone = get_or bs 35 0 }; etag = take 16 (drop 36 bs); kind = take n (drop 54 bs) } in
    let etag_long : length row.etag ≡ 16 = omega (arith, is.long, length-take 16 (drop 36 bs), length-drop 36 bs) in
    let kind_long : length row.kind ≡ n = omega (arith, is.long, length-take n (drop 54 bs), length-drop 54 bs) in
    let at_52 : drop 52 bs ≡ short_bytes (length row.kind) ++ (row.kind ++ drop (54 + n) bs) = is.kind_len ∙ ap₂ (λ k z. short_bytes k ++ z) (sym kind_long) (begins bs 54 n) in
    let at_36 : drop 36 bs ≡ row.etag ++ (short_bytes (length row.kind) ++ (row.kind ++ drop (54 + n) bs)) = begins bs 36 16 ∙ ap (λ z. row.etag ++ z) at_52 in
    let at_35 : drop 35 bs ≡ row.stamp.zone ∷ (row.etag ++ (short_bytes (length row.kind) ++ (row.kind ++ drop (54 + n) bs))) = drop_more bs 35 0 (omega (arith, is.long)) ∙ ap (λ z. row.stamp.zone ∷ z) at_36 in
    let at_19 = s.read ∙ ap (λ z. number_bytes s.number ++ z) (m.read ∙ ap (λ z. number_bytes m.number ++ z) at_35) in (
      row,
      record {
        bounds = record { kind_high = omega (arith, kind_long, is.few); zone_low = is.zone_low; zone_high = is.zone_high; blank = λ no. absurd (let bad : true ≡ false = no in cc) };
        size_fits = s.fits;
        micros_fits = m.fits;
        etag_long = etag_long;
        etag_fits = all_fit row.etag (part_fits bs 36 16 is.bytes);
        kind_text = is.kind_text;
      },
      refl,
      omega (arith, kind_long, length-live_bytes row etag_long),
      is.long,
      at_19 ∙ sym (live_split row (drop (54 + n) bs)),
    )

-- what is read of a row of an object that exists
pub record AreRead (bs : List ℕ) (row : RowView) (rest : List ℕ) : Type 0 where
  pub size_here : drop 19 bs ≡ number_bytes row.size ++ drop 27 bs
  pub zone_here : get_or bs 35 0 ≡ row.stamp.zone
  pub micros_here : drop 27 bs ≡ number_bytes row.stamp.micros ++ drop 35 bs
  pub etag_next : drop 36 bs ≡ row.etag ++ drop 52 bs
  pub len_here : drop 52 bs ≡ short_bytes (length row.kind) ++ (row.kind ++ rest)
  pub kind_here : take (length row.kind) (drop 54 bs) ≡ row.kind
  pub long : length bs ≡ 54 + length row.kind + length rest
  pub end : 54 + length row.kind ≡ 19 + length (row_bytes row)

pub are_read : (bs : List ℕ) (row : RowView) (rest : List ℕ) → length row.etag ≡ 16 → row.exists ≡ true → drop 19 bs ≡ row_bytes row ++ rest → AreRead bs row rest
are_read bs row rest etag_long exists here =
    let at_19 = here ∙ ap (λ z. z ++ rest) (exists_bytes row exists) ∙ live_split row rest in
    let at_27 = behind bs 19 8 27 _ _ at_19 (length-number_bytes row.size) refl in
    let at_35 = behind bs 27 8 35 _ _ at_27 (length-number_bytes row.stamp.micros) refl in
    let at_36 = behind bs 35 1 36 (row.stamp.zone ∷ []) _ at_35 refl refl in
    let at_52 = behind bs 36 16 52 _ _ at_36 etag_long refl in
    let at_54 = behind bs 52 2 54 _ _ at_52 (length-short_bytes (length row.kind)) refl in
    let live : length (row_bytes row) ≡ 35 + length row.kind = ap length (exists_bytes row exists) ∙ length-live_bytes row etag_long in
    let whole : length (drop 19 bs) ≡ length (row_bytes row) + length rest = ap length here ∙ length-append (row_bytes row) rest in
    record {
      size_here = at_19 ∙ ap (λ z. number_bytes row.size ++ z) (sym at_27);
      zone_here = sym (get_or-drop 35 bs 0 0) ∙ ap (λ z. get_or z 0 0) at_35;
      micros_here = at_27 ∙ ap (λ z. number_bytes row.stamp.micros ++ z) (sym at_35);
      etag_next = at_36 ∙ ap (λ z. row.etag ++ z) (sym at_52);
      len_here = at_52;
      kind_here = taken bs 54 (length row.kind) _ _ at_54 refl;
      long = omega (arith, whole, live, length-drop 19 bs);
      end = omega (arith, live);
    }

zeros_fit : (n : ℕ) → AllByRecursion (λ b. b < 256) (replicate n 0)
zeros_fit zero = tt
zeros_fit (suc n) = (omega arith, zeros_fit n)

pub no_row_written : IsWritten no_row
no_row_written = record {
  bounds = record { kind_high = omega arith; zone_low = omega arith; zone_high = omega arith; blank = λ no. refl };
  size_fits = omega arith;
  micros_fits = omega arith;
  etag_long = refl;
  etag_fits = zeros_fit 16;
  kind_text = ([], (refl, refl));
}

pub begins_so : (bs : List ℕ) (f : ℕ) → 27 ≤ length bs → get_or bs 0 0 ≡ 238 → get_or bs 1 0 ≡ 1 → get_or bs 2 0 ≡ f → bs ≡ 238 ∷ 1 ∷ f ∷ drop 3 bs
begins_so [] f long a b d = absurd (omega (arith, long))
begins_so (x ∷ []) f long a b d = absurd (omega (arith, long))
begins_so (x ∷ y ∷ []) f long a b d = absurd (omega (arith, long))
begins_so (x ∷ y ∷ z ∷ bs) f long a b d = λ i. a i ∷ b i ∷ d i ∷ bs

pub flag_read : (b : Bool) → (flag b == 1) ≡ b
flag_read true = refl
flag_read false = refl

pub flag_one : (b : Bool) → flag b ≡ 1 → b ≡ true
flag_one true is = refl
flag_one false is = absurd (omega (arith, is))

pub flag_other : (b : Bool) → (flag b ≡ 1 → ⊥) → b ≡ false
flag_other true not = absurd (not refl)
flag_other false not = refl

pub none_some : {A : Type 0} (x : A) → None ≡ Some x → ⊥
none_some x e = true≢false (sym (ap is_some e))

pub same_some : (x y : ℕ) → Some x ≡ Some y → x ≡ y
same_some x y e = ap (λ o. unwrap_or o 0) e

-- where the parts of an entry are, whose row ends there
pub record EntryRead (bs : List ℕ) (e : EntryView) (end : ℕ) : Type 0 where
  pub start : bs ≡ 238 ∷ 1 ∷ flag e.row.exists ∷ drop 3 bs
  pub at_3 : drop 3 bs ≡ number_bytes e.version ++ drop 11 bs
  pub at_11 : drop 11 bs ≡ number_bytes e.revision ++ drop 19 bs
  pub at_19 : drop 19 bs ≡ row_bytes e.row ++ drop end bs
  pub at_end : drop end bs ≡ number_bytes (length e.tags) ++ drop (end + 8) bs
  pub at_tags : drop (end + 8) bs ≡ tags_bytes e.tags

body_split : (a b r n t : List ℕ) → (a ++ (b ++ (r ++ n))) ++ t ≡ a ++ (b ++ (r ++ (n ++ t)))
body_split a b r n t = append_assoc a (b ++ (r ++ n)) t ∙ ap (λ z. a ++ z) (append_assoc b (r ++ n) t ∙ ap (λ z. b ++ z) (append_assoc r n t))

pub entry_split : (e : EntryView) → entry_bytes e
    ≡ 238 ∷ 1 ∷ flag e.row.exists ∷ (number_bytes e.version ++ (number_bytes e.revision ++ (row_bytes e.row ++ (number_bytes (length e.tags) ++ tags_bytes e.tags))))
entry_split e = ap (λ z. 238 ∷ 1 ∷ flag e.row.exists ∷ z) (body_split (number_bytes e.version) (number_bytes e.revision) (row_bytes e.row) (number_bytes (length e.tags)) (tags_bytes e.tags))

pub entry_read : (bs : List ℕ) (e : EntryView) (end : ℕ) → end ≡ 19 + length (row_bytes e.row) → bs ≡ entry_bytes e → EntryRead bs e end
entry_read bs e end is here =
    let whole = here ∙ entry_split e in
    let at_3 = ap (drop 3) whole in
    let at_11 = behind bs 3 8 11 _ _ at_3 (length-number_bytes e.version) refl in
    let at_19 = behind bs 11 8 19 _ _ at_11 (length-number_bytes e.revision) refl in
    let at_end = behind bs 19 (length (row_bytes e.row)) end _ _ at_19 refl is in
    let at_tags = behind bs end 8 (end + 8) _ _ at_end (length-number_bytes (length e.tags)) refl in
    record {
      start = whole ∙ ap (λ z. 238 ∷ 1 ∷ flag e.row.exists ∷ z) (sym at_3);
      at_3 = at_3 ∙ ap (λ z. number_bytes e.version ++ z) (sym at_11);
      at_11 = at_11 ∙ ap (λ z. number_bytes e.revision ++ z) (sym at_19);
      at_19 = at_19 ∙ ap (λ z. row_bytes e.row ++ z) (sym at_end);
      at_end = at_end ∙ ap (λ z. number_bytes (length e.tags) ++ z) (sym at_tags);
      at_tags = at_tags;
    }

pub entry_found : (bs : List ℕ) (e : EntryView) (end : ℕ) → EntryRead bs e end → bs ≡ entry_bytes e
entry_found bs e end r =
    let at_19 = r.at_19 ∙ ap (λ z. row_bytes e.row ++ z) (r.at_end ∙ ap (λ z. number_bytes (length e.tags) ++ z) r.at_tags) in
    let at_3 = r.at_3 ∙ ap (λ z. number_bytes e.version ++ z) (r.at_11 ∙ ap (λ z. number_bytes e.revision ++ z) at_19) in
    r.start ∙ ap (λ z. 238 ∷ 1 ∷ flag e.row.exists ∷ z) at_3 ∙ sym (entry_split e)

pub exists_read : (bs : List ℕ) (e : EntryView) (end : ℕ) → EntryRead bs e end → (get_or bs 2 0 == 1) ≡ e.row.exists
exists_read bs e end r = ap (λ z. get_or z 2 0 == 1) r.start ∙ flag_read e.row.exists

pub row_read : (bs : List ℕ) (version revision : ℕ) (row : RowView) (rest : List ℕ)
    → bs ≡ 238 ∷ 1 ∷ flag row.exists ∷ (number_bytes version ++ (number_bytes revision ++ (row_bytes row ++ rest))) → (get_or bs 2 0 ≡ flag row.exists) × (drop 19 bs ≡ row_bytes row ++ rest)
row_read bs version revision row rest here =
    let at_11 = behind bs 3 8 11 _ _ (ap (drop 3) here) (length-number_bytes version) refl in
    (ap (λ z. get_or z 2 0) here, behind bs 11 8 19 _ _ at_11 (length-number_bytes revision) refl)

pub same_front : (f g : EntryFront) → f.version ≡ g.version → f.revision ≡ g.revision → f.exists ≡ g.exists → f.size ≡ g.size → f.tags ≡ g.tags → f.tags_start ≡ g.tags_start → f ≡ g
same_front f g v r x s t n = λ i. record { version = v i; revision = r i; exists = x i; size = s i; tags = t i; tags_start = n i }

pub length-front_bytes : (version revision : ℕ) (row : RowView) (tags : ℕ) → length (front_bytes version revision row tags) ≡ 27 + length (row_bytes row)
length-front_bytes version revision row tags =
    omega (
      arith,
      length-append (number_bytes version) (number_bytes revision ++ (row_bytes row ++ number_bytes tags)),
      length-append (number_bytes revision) (row_bytes row ++ number_bytes tags),
      length-append (row_bytes row) (number_bytes tags),
      length-number_bytes version,
      length-number_bytes revision,
      length-number_bytes tags,
    )

pub length-entry_bytes : (e : EntryView) → length (entry_bytes e) ≡ 27 + length (row_bytes e.row) + 16 * length e.tags
length-entry_bytes e =
    omega (arith, length-append (front_bytes e.version e.revision e.row (length e.tags)) (tags_bytes e.tags), length-front_bytes e.version e.revision e.row (length e.tags), length-tags_bytes e.tags)

row_most_of : (b : Bool) (row : RowView) → row.exists ≡ b → IsWritten row → length (row_bytes row) ≤ 291
row_most_of true row exists is = omega (arith, ap length (exists_bytes row exists), length-live_bytes row is.etag_long, is.bounds.kind_high)
row_most_of false row exists is = rw exists (omega arith)

pub row_most : (row : RowView) → IsWritten row → length (row_bytes row) ≤ 291
row_most row is = row_most_of row.exists row refl is

pub length-begin : (bs : List ℕ) (version revision : ℕ) (row : RowView) (rest : List ℕ)
    → bs ≡ 238 ∷ 1 ∷ flag row.exists ∷ (number_bytes version ++ (number_bytes revision ++ (row_bytes row ++ rest))) → length bs ≡ 19 + length (row_bytes row) + length rest
length-begin bs version revision row rest here =
    ap length here ∙ omega (
      arith,
      length-append (number_bytes version) (number_bytes revision ++ (row_bytes row ++ rest)),
      length-append (number_bytes revision) (row_bytes row ++ rest),
      length-append (row_bytes row) rest,
      length-number_bytes version,
      length-number_bytes revision,
    )

pub length-entry : (bs : List ℕ) (e : EntryView) → bs ≡ entry_bytes e → length bs ≡ 27 + length (row_bytes e.row) + 16 * length e.tags
length-entry bs e here = ap length here ∙ length-entry_bytes e

-- where the row of an entry ends
pub end_known : (bs : List ℕ) (found : Option ℕ) (end : ℕ) → found ≡ Some end
    → ((version revision : ℕ) (row : RowView) (rest : List ℕ) → IsWritten row → 8 ≤ length rest
    → bs ≡ 238 ∷ 1 ∷ flag row.exists ∷ (number_bytes version ++ (number_bytes revision ++ (row_bytes row ++ rest))) → found ≡ Some (19 + length (row_bytes row)))
    → (e : EntryView) → IsEntry e → bs ≡ entry_bytes e → end ≡ 19 + length (row_bytes e.row)
end_known bs found end was exact e is here =
    let rest = number_bytes (length e.tags) ++ tags_bytes e.tags in
    same_some _ _ (sym was ∙ exact e.version e.revision e.row rest is.row_fits
    (omega (arith, length-append (number_bytes (length e.tags)) (tags_bytes e.tags), length-number_bytes (length e.tags))) (here ∙ entry_split e))

-- where the parts of an entry without tags are, which a tag and another revision leave as they are
pub record IsUntagged (bs : List ℕ) (e : EntryView) : Type 0 where
  pub long : length bs ≡ 27 + length (row_bytes e.row)
  pub first : take 11 bs ≡ 238 ∷ 1 ∷ flag e.row.exists ∷ number_bytes e.version
  pub row : take (length (row_bytes e.row)) (drop 19 bs) ≡ row_bytes e.row

pub untagged : (bs : List ℕ) (e : EntryView) → bs ≡ entry_bytes e → e.tags ≡ [] → IsUntagged bs e
untagged bs e here none =
    let end = 19 + length (row_bytes e.row) in
    let r = entry_read bs e end refl here in
    let begin = 238 ∷ 1 ∷ flag e.row.exists ∷ number_bytes e.version in
    let eleven : length begin ≡ 11 = omega (arith, length-number_bytes e.version) in
    record {
      long = omega (arith, length-entry bs e here, ap length none);
      first = ap (take 11) (r.start ∙ ap (λ z. 238 ∷ 1 ∷ flag e.row.exists ∷ z) r.at_3) ∙ take_at begin (drop 11 bs) 11 eleven;
      row = taken bs 19 (length (row_bytes e.row)) _ _ r.at_19 refl;
    }

pub tagged_flat : (a b r n t : List ℕ) (x y z : ℕ) → (((((x ∷ y ∷ z ∷ a) ++ b) ++ r) ++ n) ++ t) ≡ (x ∷ y ∷ z ∷ (a ++ (b ++ (r ++ n)))) ++ (t ++ [])
tagged_flat a b r n t x y z = simp (append_assoc, append-nil) refl

pub one_tag_entry : (e : EntryView) (revision : ℕ) (t : Tag) → IsEntry e → revision < 2 ^ 64 → IsTag t → IsEntry (record e { revision = revision; tags = t ∷ [] })
one_tag_entry e revision t is fits tag = record { version_fits = is.version_fits; revision_fits = fits; row_fits = is.row_fits; count_fits = omega arith; tags_fit = (tag, tt); rise = refl }

pub live_flat : (a b d e f : List ℕ) (z : ℕ) → (((((a ++ b) ++ (z ∷ [])) ++ d) ++ e) ++ f) ≡ a ++ (b ++ (z ∷ (d ++ (e ++ f))))
live_flat a b d e f z = simp append_assoc refl

pub front_flat : (a b r n : List ℕ) (x y z : ℕ) → (((((x ∷ y ∷ z ∷ []) ++ a) ++ b) ++ r) ++ n) ≡ x ∷ y ∷ z ∷ (a ++ (b ++ (r ++ n)))
front_flat a b r n x y z = simp append_assoc refl

pub flag_byte : (b : Bool) → bool_byte b ≡ flag b
flag_byte true = refl
flag_byte false = refl

-- an entry whose flag says that its object exists
pub record LiveParts (bs : List ℕ) (row : RowView) : Type 0 where
  pub exists : row.exists ≡ true
  pub rest : List ℕ
  pub at_19 : drop 19 bs ≡ row_bytes row ++ rest
  pub read : AreRead bs row rest

pub live_parts : (bs : List ℕ) (e : EntryView) → IsEntry e → bs ≡ entry_bytes e → get_or bs 2 0 ≡ 1 → LiveParts bs e.row
live_parts bs e is here one =
    let r = row_read bs e.version e.revision e.row (number_bytes (length e.tags) ++ tags_bytes e.tags) (here ∙ entry_split e) in
    let exists = flag_one e.row.exists (sym r.0 ∙ one) in
    record { exists = exists; rest = number_bytes (length e.tags) ++ tags_bytes e.tags; at_19 = r.1; read = are_read bs e.row (number_bytes (length e.tags) ++ tags_bytes e.tags) is.row_fits.etag_long exists r.1 }

-- one whose flag does not
pub blank_row : (bs : List ℕ) (e : EntryView) → IsEntry e → bs ≡ entry_bytes e → (get_or bs 2 0 ≡ 1 → ⊥) → no_row ≡ e.row
blank_row bs e is here other =
    sym (is.row_fits.bounds.blank (flag_other e.row.exists (λ one. other (ap (λ z. get_or z 2 0) here ∙ one))))

pub same_row : (a b : RowView) → a.exists ≡ b.exists → a.size ≡ b.size → a.stamp.micros ≡ b.stamp.micros → a.stamp.zone ≡ b.stamp.zone → a.etag ≡ b.etag → a.kind ≡ b.kind → a ≡ b
same_row a b x s m z e k = λ i. record { exists = x i; size = s i; stamp = record { micros = m i; zone = z i }; etag = e i; kind = k i }

pub same_entry : (a b : EntryView) → a.version ≡ b.version → a.revision ≡ b.revision → a.row ≡ b.row → a.tags ≡ b.tags → a ≡ b
same_entry a b v r w t = λ i. record { version = v i; revision = r i; row = w i; tags = t i }

pub same_front_found : (f g : EntryFront) → Some f ≡ Some g → f ≡ g
same_front_found f g e = ap (λ o. unwrap_or o f) e

pub tags_here : (bs : List ℕ) (e : EntryView) → bs ≡ entry_bytes e → (start : ℕ) → start ≡ 27 + length (row_bytes e.row) → drop start bs ≡ tags_bytes e.tags
tags_here bs e here start is =
    let r = entry_read bs e (19 + length (row_bytes e.row)) refl here in
    let at : start ≡ 19 + length (row_bytes e.row) + 8 = omega (arith, is) in
    ap (λ n. drop n bs) at ∙ r.at_tags

-- 64 bytes with a type of 3 are no entry
pub cut_short : (bs : List ℕ) (e : EntryView) → IsEntry e → bs ≡ entry_bytes e → get_or bs 2 0 ≡ 1 → 3 ≡ from_be_bytes w16 (take 2 (drop 52 bs)) → length bs ≡ 64 → ⊥
cut_short bs e is here one three long =
    let p = live_parts bs e is here one in
    let k = short_once bs 52 3 (length e.row.kind) _ three (omega (arith, is.row_fits.bounds.kind_high)) p.read.len_here in
    absurd (omega (arith, k, p.read.end, length-entry bs e here, long))
