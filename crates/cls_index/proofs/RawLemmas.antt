-- The bytes of an entry with one piece put in the place of another.
use Rattle.std.proofs.Common.{◌≡◌, ℕ, zero, suc, ◌+◌, ◌*◌, ◌<◌, List, [], ◌∷◌, ◌++◌, length, take, drop, refl, sym, ap, ap₂, ◌∙◌, arith, append_assoc, append-nil, length-append}
use Rattle.std.specs.List.{remove, splice}
use Rattle.std.proofs.lemmas.List.{take_at, drop_at, length-take}
use Rattle.object_words.specs.declared.entry.Tag.{Tag}
use Rattle.object_words.specs.Rows.{RowView}
use Rattle.index_entry.specs.Numbers.{number_bytes}
use Rattle.index_entry.specs.Layouts.{flag, front_bytes, row_bytes, tag_bytes, tags_bytes}
use Rattle.index_entry.proofs.PieceLemmas.{length-number_bytes}
use Rattle.index_entry.proofs.TagLemmas.{length-tag_bytes, length-tags_bytes, tags_bytes-append}
use Rattle.index_entry.proofs.EntryLemmas.{length-front_bytes}

-- one piece in the place of another
pub splice_piece : (p x q y : List ℕ) (start end : ℕ) → length p ≡ start → end ≡ start + length x → splice (p ++ (x ++ q)) start end y ≡ p ++ (y ++ q)
splice_piece p x q y start end long is =
    let before : take start (p ++ (x ++ q)) ≡ p = take_at p (x ++ q) start long in
    let both : length (p ++ x) ≡ end = omega (arith, length-append p x, long, is) in
    let behind : drop end (p ++ (x ++ q)) ≡ q = ap (drop end) (sym (append_assoc p x q)) ∙ drop_at (p ++ x) q end both in
    ap₂ (λ a b. a ++ (y ++ b)) before behind

-- a front, which may tell another number of tags than those that follow
abbrev pub raw : ℕ → ℕ → RowView → ℕ → List Tag → List ℕ
raw version revision row count ts = front_bytes version revision row count ++ tags_bytes ts

pub length-raw : (version revision : ℕ) (row : RowView) (count : ℕ) (ts : List Tag) → length (raw version revision row count ts) ≡ 27 + length (row_bytes row) + 16 * length ts
length-raw version revision row count ts =
    omega (arith, length-append (front_bytes version revision row count) (tags_bytes ts), length-front_bytes version revision row count, length-tags_bytes ts)

-- the bytes before the revision
abbrev head : ℕ → RowView → List ℕ
head version row = 238 ∷ 1 ∷ flag row.exists ∷ number_bytes version

-- the bytes before the number of tags
abbrev body : ℕ → ℕ → RowView → List ℕ
body version revision row = 238 ∷ 1 ∷ flag row.exists ∷ (number_bytes version ++ (number_bytes revision ++ row_bytes row))

at_revision : (version revision : ℕ) (row : RowView) (count : ℕ) (ts : List Tag)
    → raw version revision row count ts ≡ head version row ++ (number_bytes revision ++ (row_bytes row ++ (number_bytes count ++ tags_bytes ts)))
at_revision version revision row count ts = simp append_assoc refl

at_count : (version revision : ℕ) (row : RowView) (count : ℕ) (ts : List Tag) → raw version revision row count ts ≡ body version revision row ++ (number_bytes count ++ tags_bytes ts)
at_count version revision row count ts = simp append_assoc refl

long_head : (version : ℕ) (row : RowView) → length (head version row) ≡ 11
long_head version row = omega (arith, length-number_bytes version)

long_body : (version revision : ℕ) (row : RowView) → length (body version revision row) ≡ 19 + length (row_bytes row)
long_body version revision row =
    omega (
      arith,
      length-append (number_bytes version) (number_bytes revision ++ row_bytes row),
      length-append (number_bytes revision) (row_bytes row),
      length-number_bytes version,
      length-number_bytes revision,
    )

pub raw_revision : (version revision next : ℕ) (row : RowView) (count : ℕ) (ts : List Tag) → splice (raw version revision row count ts) 11 19 (number_bytes next) ≡ raw version next row count ts
raw_revision version revision next row count ts =
    ap (λ z. splice z 11 19 (number_bytes next)) (at_revision version revision row count ts)
    ∙ splice_piece (head version row) (number_bytes revision) (row_bytes row ++ (number_bytes count ++ tags_bytes ts)) (number_bytes next) 11 19 (long_head version row) (omega (arith, length-number_bytes revision))
    ∙ sym (at_revision version next row count ts)

pub raw_count : (version revision : ℕ) (row : RowView) (count next : ℕ) (ts : List Tag) (start end : ℕ) → start ≡ 19 + length (row_bytes row) → end ≡ start + 8
    → splice (raw version revision row count ts) start end (number_bytes next) ≡ raw version revision row next ts
raw_count version revision row count next ts start end is ends =
    ap (λ z. splice z start end (number_bytes next)) (at_count version revision row count ts)
    ∙ splice_piece (body version revision row) (number_bytes count) (tags_bytes ts) (number_bytes next) start end (long_body version revision row ∙ sym is) (omega (arith, ends, length-number_bytes count))
    ∙ sym (at_count version revision row next ts)

pub raw_front : (version revision : ℕ) (row : RowView) (count : ℕ) (ts : List Tag) (end : ℕ) (front : List ℕ) → end ≡ 27 + length (row_bytes row)
    → splice (raw version revision row count ts) 0 end front ≡ front ++ tags_bytes ts
raw_front version revision row count ts end front is =
    splice_piece [] (front_bytes version revision row count) (tags_bytes ts) front 0 end refl (omega (arith, is, length-front_bytes version revision row count))

split_at : (ts : List Tag) (p : ℕ) → p < length ts → (t : Tag) × (ts ≡ take p ts ++ (t ∷ drop (suc p) ts))
split_at [] p some = absurd (omega (arith, some))
split_at (t ∷ ts) zero some = (t, refl)
split_at (t ∷ ts) (suc p) some = let rest = split_at ts p (omega (arith, some)) in (rest.0, ap (λ l. t ∷ l) rest.1)

pub raw_less : (version revision : ℕ) (row : RowView) (count : ℕ) (ts : List Tag) (p start end : ℕ) → p < length ts → start ≡ 27 + length (row_bytes row) + 16 * p → end ≡ start + 16
    → splice (raw version revision row count ts) start end [] ≡ raw version revision row count (remove ts p)
raw_less version revision row count ts p start end some is ends =
    let s = split_at ts p some in
    let front = front_bytes version revision row count in
    let before = tags_bytes (take p ts) in
    let behind = tags_bytes (drop (suc p) ts) in
    let parts : raw version revision row count ts ≡ (front ++ before) ++ (tag_bytes s.0 ++ behind) =
    ap (λ l. front ++ tags_bytes l) s.1 ∙ ap (λ z. front ++ z) (tags_bytes-append (take p ts) (s.0 ∷ drop (suc p) ts)) ∙ sym (append_assoc front before (tag_bytes s.0 ++ behind)) in
    let few : length (take p ts) ≡ p = omega (arith, length-take p ts, some) in
    let long : length (front ++ before) ≡ start = omega (arith, length-append front before, length-front_bytes version revision row count, length-tags_bytes (take p ts), few, is) in
    ap (λ z. splice z start end []) parts ∙ splice_piece (front ++ before) (tag_bytes s.0) behind [] start end long (omega (arith, ends, length-tag_bytes s.0))
    ∙ append_assoc front before behind ∙ ap (λ z. front ++ z) (sym (tags_bytes-append (take p ts) (drop (suc p) ts)))

-- the number of tags and the first of them, which stand side by side, with another number in their place
pub raw_less_first : (version revision : ℕ) (row : RowView) (count next : ℕ) (ts : List Tag) (start end : ℕ) → 0 < length ts → start ≡ 19 + length (row_bytes row) → end ≡ start + 24
    → splice (raw version revision row count ts) start end (number_bytes next) ≡ raw version revision row next (remove ts 0)
raw_less_first version revision row count next [] start end some is ends = absurd (omega (arith, some))
raw_less_first version revision row count next (t ∷ ts) start end some is ends =
    let front = body version revision row in
    let gone = number_bytes count ++ tag_bytes t in
    let parts : raw version revision row count (t ∷ ts) ≡ front ++ (gone ++ tags_bytes ts) =
    at_count version revision row count (t ∷ ts) ∙ ap (λ z. front ++ z) (sym (append_assoc (number_bytes count) (tag_bytes t) (tags_bytes ts))) in
    ap (λ z. splice z start end (number_bytes next)) parts
    ∙ splice_piece front gone (tags_bytes ts) (number_bytes next) start end (long_body version revision row ∙ sym is) (omega (arith, ends, length-append (number_bytes count) (tag_bytes t), length-number_bytes count, length-tag_bytes t))
    ∙ sym (at_count version revision row next ts)

pub raw_more : (version revision : ℕ) (row : RowView) (count : ℕ) (ts : List Tag) (t : Tag) (start end : ℕ) → start ≡ 27 + length (row_bytes row) + 16 * length ts → end ≡ start
    → splice (raw version revision row count ts) start end (tag_bytes t) ≡ raw version revision row count (ts ++ t ∷ [])
raw_more version revision row count ts t start end is ends =
    let front = front_bytes version revision row count in
    let whole = raw version revision row count ts in
    let long : length whole ≡ start = length-raw version revision row count ts ∙ sym is in
    ap (λ z. splice z start end (tag_bytes t)) (sym (append-nil whole)) ∙ splice_piece whole [] [] (tag_bytes t) start end long (omega (arith, ends))
    ∙ append_assoc front (tags_bytes ts) (tag_bytes t ++ []) ∙ ap (λ z. front ++ z) (sym (tags_bytes-append ts (t ∷ [])))

-- a front in the place of all bytes
pub raw_first : (old front : List ℕ) (end : ℕ) → end ≡ length old → splice old 0 end front ≡ front ++ []
raw_first old front end is = ap (λ z. splice z 0 end front) (sym (append-nil old)) ∙ splice_piece [] old [] front 0 end refl (omega (arith, is))
