-- Bytes are the encoding of one entry at most, of one header, and of one row of a log.
use Rattle.std.proofs.Common.{◌≡◌, ℕ, ◌+◌, ◌*◌, ◌/◌, ◌%◌, ◌^◌, ◌<◌, ◌≤◌, Bool, true, false, ◌&&◌, List, [], ◌∷◌, ◌++◌, length, take, drop, get_or, nat_lt, nat_le, subst, true≢false, refl, sym, ap, ◌∙◌, arith, append_assoc, append-nil}
use Rattle.std.specs.Int.{w16, w32, w64, from_be_bytes}
use Rattle.std.specs.List.{AllByRecursion}
use Rattle.std.proofs.lemmas.Bool.{and_parts, leb-true}
use Rattle.object_words.specs.declared.entry.Tag.{Tag}
use Rattle.object_words.specs.Rows.{RowView}
use Rattle.object_words.specs.Entries.{EntryView}
use Rattle.object_words.specs.declared.shard.Hold.{Hold}
use Rattle.object_words.specs.declared.shard.Hold.TheVariants.{Free, Reshard, Closing}
use Rattle.object_words.specs.declared.shard.Fate.{Fate}
use Rattle.object_words.specs.declared.shard.Fate.TheVariants.{Serving, Moved, Closed}
use Rattle.object_words.specs.Limits.{is_name}
use Rattle.object_words.specs.declared.log.LogWhat.{LogWhat}
use Rattle.object_words.specs.declared.log.LogWhat.TheVariants.{Name, Shard, Bucket}
use Rattle.index_entry.specs.declared.header.ShardHeader.{ShardHeader}
use Rattle.index_entry.specs.Headers.{IsHeader, fate_kind, fate_number, header_bytes, hold_kind, hold_number}
use Rattle.index_entry.proofs.HeaderLemmas.{both_halves, fate_byte, header_read, hold_byte, last_number, same_header}
use Rattle.index_entry.specs.Numbers.{number_bytes, short_bytes, word_bytes}
use Rattle.index_entry.specs.Layouts.{IsEntry, IsTag, IsWritten, entry_bytes, row_bytes, tags_bytes}
use Rattle.index_entry.specs.LogRows.{IsWhat, log_key, shard_bytes, what_bytes}
use Rattle.index_entry.proofs.LogRowLemmas.{length-shard_bytes, same_shard, shard_read}
use Rattle.index_entry.proofs.PieceLemmas.{behind, taken, number_once, short_once, word_once, length-number_bytes}
use Rattle.index_entry.proofs.TagLemmas.{length-tags_bytes}
use Rattle.index_entry.proofs.EntryLemmas.{are_read, entry_read, exists_read, length-entry_bytes, row_most, same_entry, same_row, tags_here}

pub same_number : (bs : List ℕ) (k x y : ℕ) (r s : List ℕ) → x < 2 ^ 64 → y < 2 ^ 64 → drop k bs ≡ number_bytes x ++ r → drop k bs ≡ number_bytes y ++ s → x ≡ y
same_number bs k x y r s fx fy hx hy = sym (number_once bs k (from_be_bytes w64 (take 8 (drop k bs))) x r refl fx hx) ∙ number_once bs k (from_be_bytes w64 (take 8 (drop k bs))) y s refl fy hy

same_short : (bs : List ℕ) (k x y : ℕ) (r s : List ℕ) → x < 2 ^ 16 → y < 2 ^ 16 → drop k bs ≡ short_bytes x ++ r → drop k bs ≡ short_bytes y ++ s → x ≡ y
same_short bs k x y r s fx fy hx hy = sym (short_once bs k (from_be_bytes w16 (take 2 (drop k bs))) x r refl fx hx) ∙ short_once bs k (from_be_bytes w16 (take 2 (drop k bs))) y s refl fy hy

same_tags : (ts us : List Tag) → AllByRecursion IsTag ts → AllByRecursion IsTag us → tags_bytes ts ≡ tags_bytes us → ts ≡ us
same_tags [] [] ft fu e = refl
same_tags [] (u ∷ us) ft fu e = absurd (omega (arith, ap length e, length-tags_bytes (u ∷ us)))
same_tags (t ∷ ts) [] ft fu e = absurd (omega (arith, ap length e, length-tags_bytes (t ∷ ts)))
same_tags (t ∷ ts) (u ∷ us) ft fu e =
    let bs = tags_bytes (t ∷ ts) in
    let t0 : drop 0 bs ≡ number_bytes t.tag ++ (number_bytes t.deadline ++ tags_bytes ts) = append_assoc (number_bytes t.tag) (number_bytes t.deadline) (tags_bytes ts) in
    let u0 : drop 0 bs ≡ number_bytes u.tag ++ (number_bytes u.deadline ++ tags_bytes us) = e ∙ append_assoc (number_bytes u.tag) (number_bytes u.deadline) (tags_bytes us) in
    let t8 = behind bs 0 8 8 _ _ t0 (length-number_bytes t.tag) refl in
    let u8 = behind bs 0 8 8 _ _ u0 (length-number_bytes u.tag) refl in
    let n = same_number bs 0 t.tag u.tag _ _ ft.0.0 fu.0.0 t0 u0 in
    let d = same_number bs 8 t.deadline u.deadline _ _ ft.0.1 fu.0.1 t8 u8 in
    let rest = same_tags ts us ft.1 fu.1 (sym (behind bs 8 8 16 _ _ t8 (length-number_bytes t.deadline) refl) ∙ behind bs 8 8 16 _ _ u8 (length-number_bytes u.deadline) refl) in
    λ i. record { tag = n i; deadline = d i } ∷ rest i

-- rows that are written alike at the same place
same_rows : (x : Bool) (bs : List ℕ) (a b : RowView) (r s : List ℕ) → a.exists ≡ x → b.exists ≡ x → IsWritten a → IsWritten b
    → drop 19 bs ≡ row_bytes a ++ r → drop 19 bs ≡ row_bytes b ++ s → a ≡ b
same_rows false bs a b r s xa xb wa wb ha hb = wa.bounds.blank xa ∙ sym (wb.bounds.blank xb)
same_rows true bs a b r s xa xb wa wb ha hb =
    let p = are_read bs a r wa.etag_long xa ha in
    let q = are_read bs b s wb.etag_long xb hb in
    let k = same_short bs 52 (length a.kind) (length b.kind) _ _ (omega (arith, wa.bounds.kind_high)) (omega (arith, wb.bounds.kind_high)) p.len_here q.len_here in
    same_row a b (xa ∙ sym xb) (same_number bs 19 a.size b.size _ _ wa.size_fits wb.size_fits p.size_here q.size_here)
    (same_number bs 27 a.stamp.micros b.stamp.micros _ _ wa.micros_fits wb.micros_fits p.micros_here q.micros_here)
    (sym p.zone_here ∙ q.zone_here)
    (sym (taken bs 36 16 _ _ p.etag_next wa.etag_long) ∙ taken bs 36 16 _ _ q.etag_next wb.etag_long)
    (sym p.kind_here ∙ ap (λ n. take n (drop 54 bs)) k ∙ q.kind_here)

pub one_entry : (a b : EntryView) → IsEntry a → IsEntry b → entry_bytes a ≡ entry_bytes b → a ≡ b
one_entry a b p q e =
    let bs = entry_bytes a in
    let ra = entry_read bs a (19 + length (row_bytes a.row)) refl refl in
    let rb = entry_read bs b (19 + length (row_bytes b.row)) refl e in
    let exists : a.row.exists ≡ b.row.exists = sym (exists_read bs a _ ra) ∙ exists_read bs b _ rb in
    let row = same_rows b.row.exists bs a.row b.row _ _ exists refl p.row_fits q.row_fits ra.at_19 rb.at_19 in
    let start : 27 + length (row_bytes a.row) ≡ 27 + length (row_bytes b.row) = ap (λ r. 27 + length (row_bytes r)) row in
    let tags = same_tags a.tags b.tags p.tags_fit q.tags_fit (sym (tags_here bs a refl (27 + length (row_bytes a.row)) refl) ∙ tags_here bs b e (27 + length (row_bytes a.row)) start) in
    same_entry a b (same_number bs 3 a.version b.version _ _ p.version_fits q.version_fits ra.at_3 rb.at_3)
    (same_number bs 11 a.revision b.revision _ _ p.revision_fits q.revision_fits ra.at_11 rb.at_11) row tags

pub entry_most : (e : EntryView) → IsEntry e → length (entry_bytes e) ≤ 318 + 16 * length e.tags
entry_most e is = omega (arith, length-entry_bytes e, row_most e.row is.row_fits)

same_hold : (a b : Hold) → hold_kind a ≡ hold_kind b → hold_number a ≡ hold_number b → a ≡ b
same_hold Free Free k n = refl
same_hold Free (Reshard y) k n = absurd (omega (arith, k))
same_hold Free (Closing y) k n = absurd (omega (arith, k))
same_hold (Reshard x) Free k n = absurd (omega (arith, k))
same_hold (Reshard x) (Reshard y) k n = ap Reshard n
same_hold (Reshard x) (Closing y) k n = absurd (omega (arith, k))
same_hold (Closing x) Free k n = absurd (omega (arith, k))
same_hold (Closing x) (Reshard y) k n = absurd (omega (arith, k))
same_hold (Closing x) (Closing y) k n = ap Closing n

same_fate : (a b : Fate) → fate_kind a ≡ fate_kind b → fate_number a ≡ fate_number b → a ≡ b
same_fate Serving Serving k n = refl
same_fate Serving (Moved y) k n = absurd (omega (arith, k))
same_fate Serving Closed k n = absurd (omega (arith, k))
same_fate (Moved x) Serving k n = absurd (omega (arith, k))
same_fate (Moved x) (Moved y) k n = ap Moved n
same_fate (Moved x) Closed k n = absurd (omega (arith, k))
same_fate Closed Serving k n = absurd (omega (arith, k))
same_fate Closed (Moved y) k n = absurd (omega (arith, k))
same_fate Closed Closed k n = refl

pub one_header : (a b : ShardHeader) → IsHeader a → IsHeader b → header_bytes a ≡ header_bytes b → a ≡ b
one_header a b p q e =
    let bs = header_bytes a in
    let r = header_read bs a refl in
    let s = header_read bs b e in
    let high = same_number bs 10 (a.bytes / 2 ^ 64) (b.bytes / 2 ^ 64) _ _ (omega (arith, p.bytes_fit)) (omega (arith, q.bytes_fit)) r.at_10 s.at_10 in
    let low = same_number bs 18 (a.bytes % 2 ^ 64) (b.bytes % 2 ^ 64) _ _ (omega arith) (omega arith) r.at_18 s.at_18 in
    let sum : a.bytes ≡ b.bytes = sym (both_halves (a.bytes / 2 ^ 64) (a.bytes % 2 ^ 64) a.bytes refl refl) ∙ both_halves (a.bytes / 2 ^ 64) (a.bytes % 2 ^ 64) b.bytes high low in
    same_header a b (same_number bs 2 a.objects b.objects _ _ p.objects_fit q.objects_fit r.at_2 s.at_2) sum
    (same_number bs 26 a.tags b.tags _ _ p.tags_fit q.tags_fit r.at_26 s.at_26) (same_number bs 34 a.last b.last _ _ p.last_fits q.last_fits r.at_34 s.at_34)
    (same_hold a.hold b.hold (hold_byte bs a r ∙ sym (hold_byte bs b s)) (same_number bs 51 (hold_number a.hold) (hold_number b.hold) _ _ p.hold_fits q.hold_fits r.at_51 s.at_51))
    (same_fate a.fate b.fate (fate_byte bs a r ∙ sym (fate_byte bs b s))
    (same_number bs 60 (fate_number a.fate) (fate_number b.fate) _ _ p.fate_fits q.fate_fits (last_number bs a refl) (last_number bs b e)))
    (same_number bs 42 a.fence b.fence _ _ p.fence_fits q.fence_fits r.at_42 s.at_42)

same_word : (bs : List ℕ) (k x y : ℕ) (r s : List ℕ) → x < 2 ^ 32 → y < 2 ^ 32 → drop k bs ≡ word_bytes x ++ r → drop k bs ≡ word_bytes y ++ s → x ≡ y
same_word bs k x y r s fx fy hx hy = sym (word_once bs k (from_be_bytes w32 (take 4 (drop k bs))) x r refl fx hx) ∙ word_once bs k (from_be_bytes w32 (take 4 (drop k bs))) y s refl fy hy

pub one_what : (a b : LogWhat) → IsWhat a → IsWhat b → what_bytes a ≡ what_bytes b → a ≡ b
one_what (Name x) (Name y) p q e = ap (λ z. Name (drop 3 z)) e
one_what (Name x) (Shard d j t y) p q e = absurd (omega (arith, ap (λ z. get_or z 2 0) e))
one_what (Name x) (Bucket y) p q e = absurd (omega (arith, ap (λ z. get_or z 2 0) e))
one_what (Shard c i s x) (Name y) p q e = absurd (omega (arith, ap (λ z. get_or z 2 0) e))
one_what (Shard c i s x) (Shard d j t y) p q e =
    let bs = shard_bytes c i s x in
    let r = shard_read bs c i s x refl in
    let u = shard_read bs d j t y (ap (drop 3) e) in
    same_shard (same_number bs 0 c d _ _ p.0 q.0 r.at_0 u.at_0) (same_number bs 8 i j _ _ p.1 q.1 r.at_8 u.at_8) (same_word bs 16 s t _ _ p.2 q.2 r.at_16 u.at_16) (sym r.at_20 ∙ u.at_20)
one_what (Shard c i s x) (Bucket y) p q e = absurd (omega (arith, ap (λ z. get_or z 2 0) e))
one_what (Bucket x) (Name y) p q e = absurd (omega (arith, ap (λ z. get_or z 2 0) e))
one_what (Bucket x) (Shard d j t y) p q e = absurd (omega (arith, ap (λ z. get_or z 2 0) e))
one_what (Bucket x) (Bucket y) p q e = ap (λ z. Bucket (drop 3 z)) e

pub one_position : (p q : ℕ) → p < 2 ^ 64 → q < 2 ^ 64 → log_key p ≡ log_key q → p ≡ q
one_position p q fp fq e = same_number (number_bytes p) 0 p q [] [] fp fq (sym (append-nil (number_bytes p))) (ap (drop 1) e ∙ sym (append-nil (number_bytes q)))

name_most : (most : ℕ) (name : List ℕ) → is_name most name ≡ true → length name ≤ most
name_most most name is = leb-true (length name) most (and_parts _ _ (and_parts (nat_lt 0 (length name)) _ is).1).0

pub what_most : (what : LogWhat) → IsWhat what → length (what_bytes what) < 1040
what_most (Name name) is = omega (arith, name_most 1024 name is.0)
what_most (Shard c i s bucket) is = omega (arith, name_most 256 bucket is.3.0, length-shard_bytes c i s bucket)
what_most (Bucket name) is = omega (arith, name_most 256 name is.0)

pub no_name : (name : List ℕ) (position : ℕ) → is_name 1024 name ≡ true → name ≡ log_key position → ⊥
no_name name position is key =
    let first : is_name 1024 (log_key position) ≡ true = subst (λ n. is_name 1024 n ≡ true) key is in
    let rest = and_parts (nat_lt 0 (length (log_key position))) (nat_le (length (log_key position)) 1024 && false) first in
    true≢false (sym (and_parts (nat_le (length (log_key position)) 1024) false rest.1).1)
