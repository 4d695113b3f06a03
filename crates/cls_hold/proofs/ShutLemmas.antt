-- A shard without entries.
use Rattle.std.proofs.Common.{◌≡◌, ℕ, zero, suc, ◌<◌, ◌&&◌, Bool, true, false, true≢false, List, [], ◌∷◌, ◌++◌, get_or, length, Some, None, option_map, IfSome, refl, sym, ap, ◌∙◌, subst, arith}
use Rattle.std.proofs.Math.Utf8.{encode, encodes, scalar, scalars}
use Rattle.std.proofs.lemmas.Bool.Decides.{nat_tests}
use Rattle.omap_pages.specs.Contents.{Contents}
use Rattle.omap_pages.specs.Rows.{HasNoneWithin, KeepsOutside, is_within, value_at}
use Rattle.object_pool.specs.Objects.{Object}
use Rattle.object_words.specs.declared.shard.Fate.TheVariants.{Closed}
use Rattle.object_words.specs.Entries.{EntryView}
use Rattle.object_words.specs.HoldCalls.{shut_down}
use Rattle.object_words.specs.Names.{at, entries, none}
use Rattle.object_words.specs.Shards.{Shard, byte_count, object_count, sum_over, tag_count}
use Rattle.object_words.proofs.NameLemmas.{at-none}
use Rattle.index_entry.specs.declared.header.ShardHeader.{ShardHeader}
use Rattle.index_entry.specs.Headers.{IsHeader, header_bytes}
use Rattle.index_entry.specs.Layouts.{entry_bytes}
use Rattle.index_entry.specs.LogRows.{log_key}
use Rattle.class_words.specs.LogRows.{logged_at, or_logged}
use Rattle.class_words.specs.Shards.{HasRows, IsObjectName, IsShard, header_of}
use Rattle.class_words.proofs.FreshLemmas.{none_there}
use Rattle.class_words.proofs.LogLemmas.{no_zero}
use Rattle.cls_hold.proofs.FirstLemmas.{none_logged}

-- the keys that are taken
abbrev pub is_taken : List ℕ → Bool
is_taken key = is_within (1 ∷ []) (255 ∷ []) key

-- ---- names are taken

-- no text has a byte above 244 first
low_byte : (c : ℕ) (rest : List ℕ) → scalar c ≡ true → get_or (encode c ++ rest) 0 0 < 255
unfolding encode
low_byte c rest is = grind (arith, nat_tests)

taken_byte : (n : ℕ) (rest : List ℕ) → suc n < 255 → is_taken (suc n ∷ rest) ≡ true
taken_byte n rest low = grind (arith, nat_tests)

left_true : (a b : Bool) → (a && b) ≡ true → a ≡ true
left_true true b both = refl
left_true false b both = absurd (true≢false (sym both))

low_first : (cs : List ℕ) (n : ℕ) (rest : List ℕ) → scalars cs ≡ true → encodes cs ≡ n ∷ rest → n < 255
low_first [] n rest are is = absurd (omega (arith, ap length is))
low_first (c ∷ cs) n rest are is = omega (arith, low_byte c (encodes cs) (left_true (scalar c) (scalars cs) are), ap (λ l. get_or l 0 0) is)

name_taken : (name : List ℕ) → IsObjectName name → is_taken name ≡ true
name_taken [] is = absurd (true≢false (sym is.0))
name_taken (zero ∷ rest) is = absurd (true≢false (sym (no_zero (0 ∷ rest) is)))
name_taken (suc n ∷ rest) is = taken_byte n rest (low_first is.1.0 (suc n) rest is.1.1.0 is.1.1.1)

log_kept : (position : ℕ) → is_taken (log_key position) ≡ false
log_kept position = refl

-- ---- rows and header

-- a key has what the log has under it
log_alone : (c d : Contents) (s : Shard) (key : List ℕ) → HasRows c s → HasNoneWithin d.rows (1 ∷ []) (255 ∷ []) → KeepsOutside c.rows d.rows (1 ∷ []) (255 ∷ []) → value_at d.rows key ≡ logged_at s.log key
log_alone c d s key has within outside =
    elim (is_taken key) as (λ b. is_taken key ≡ b → value_at d.rows key ≡ logged_at s.log key) [
      | true ↦ λ t. within key t ∙ sym (none_logged is_taken log_kept s.log.rows key t)
      | false ↦ λ t. outside key t ∙ has.rows key ∙ elim (at s.entries key) as (λ o. IfSome o (λ _. IsObjectName key) → or_logged (option_map entry_bytes o) (logged_at s.log key) ≡ logged_at s.log key) [
        | Some e ↦ λ named. absurd (true≢false (sym (name_taken key named) ∙ t))
        | None ↦ λ named. refl
      ] (has.named key)
    ] refl

shut_rows : (c d : Contents) (s : Shard) → HasRows c s → HasNoneWithin d.rows (1 ∷ []) (255 ∷ []) → KeepsOutside c.rows d.rows (1 ∷ []) (255 ∷ []) → HasRows d (shut_down s)
shut_rows c d s has within outside = record {
  rows = λ key. log_alone c d s key has within outside ∙ sym (ap (λ e. or_logged (option_map entry_bytes e) (logged_at s.log key)) (at-none key));
  named = λ name. none_there _ name;
  entry = λ name. none_there _ name;
  room = λ name. none_there _ name;
  log = has.log;
}

nothing_left : (f : EntryView → ℕ) (s : Shard) → sum_over f (shut_down s) ≡ 0
unfolding entries none
nothing_left f s = refl

pub shut_header : (s : Shard) (h : ShardHeader) → h ≡ header_of s → record h { objects = 0; bytes = 0; tags = 0; fate = Closed } ≡ header_of (shut_down s)
shut_header s h read = λ i. record (read i) {
  objects = sym (nothing_left object_count s) i;
  bytes = sym (nothing_left byte_count s) i;
  tags = sym (nothing_left tag_count s) i;
  fate = Closed;
}

pub shut_shard : (o d : Object) (c : Contents) (s : Shard) (h : ShardHeader) → IsShard o s → h ≡ header_of (shut_down s) → IsHeader h → d.bytes ≡ o.bytes → d.attrs ≡ header_bytes h → d.rows ≡ c
    → HasNoneWithin c.rows (1 ∷ []) (255 ∷ []) → KeepsOutside o.rows.rows c.rows (1 ∷ []) (255 ∷ []) → IsShard d (shut_down s)
shut_shard o d c s h is told fits bytes attrs rows within outside = record {
  bytes = bytes ∙ is.bytes;
  attrs = attrs ∙ ap header_bytes told;
  header = subst IsHeader told fits;
  rows = subst (λ x. HasRows x (shut_down s)) (sym rows) (shut_rows o.rows c s is.rows within outside);
  spare = omega (arith, nothing_left tag_count s);
}
