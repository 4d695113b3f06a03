-- Heads in attributes.
use Rattle.std.proofs.Common.{◌≡◌, ℕ, ◌-◌, ◌<◌, ◌==◌, false, true≢false, List, [], ◌∷◌, ◌++◌, Option, Some, is_some, unwrap_or, length, take, drop, get_or, refl, sym, ap, ◌∙◌, arith, append_assoc}
use Rattle.std.proofs.lemmas.List.{take_all, take_at, drop_at, length-drop}
use Rattle.manifest.specs.Layouts.{encoding}
use Rattle.rgw_types.specs.Stripes.{ManifestView}
use Rattle.rgw_types.specs.declared.stamp.Stamp.{Stamp}
use Rattle.object_words.specs.declared.head.NewHead.{NewHead}
use Rattle.object_words.specs.declared.head.SeenSlot.{SeenSlot}
use Rattle.object_words.specs.declared.head.SeenSlot.TheVariants.{Nothing, Live, Mark}
use Rattle.object_words.specs.Heads.{etag_of, manifest_of, seen_stamp}
use Rattle.index_entry.specs.Numbers.{number_bytes}
use Rattle.cls_head.specs.Layouts.{IsContent, IsSlot, IsStamp, change_bytes, content_bytes, slot_bytes, texts_bytes}

-- what is left of a list from a place on
pub tail_from : (xs : List ℕ) (n : ℕ) → take (length xs - n) (drop n xs) ≡ drop n xs
tail_from xs n = take_all (length xs - n) (drop n xs) (omega (arith, length-drop n xs))

-- a head that was changed begins with its number and its stamp
pub record IsChanged (bs : List ℕ) (version : ℕ) (slot : SeenSlot) : Type 0 where
  pub kind : ℕ
  pub stamp : Stamp
  pub rest : List ℕ
  pub here : bs ≡ change_bytes kind version stamp rest
  pub seen : seen_stamp slot ≡ Some stamp
  pub version_fits : version < 18446744073709551616
  pub stamp_fits : IsStamp stamp

pub changed : (bs : List ℕ) (version : ℕ) (slot : SeenSlot) → IsSlot version slot → bs ≡ slot_bytes version slot → 0 < length bs → IsChanged bs version slot
changed bs version Nothing is here some = absurd (omega (arith, some, ap length here))
changed bs version (Live new stamp) is here some =
    record { kind = 1; stamp = stamp; rest = content_bytes new; here = here; seen = refl; version_fits = is.0; stamp_fits = is.1 }
changed bs version (Mark stamp) is here some =
    record { kind = 2; stamp = stamp; rest = []; here = here; seen = refl; version_fits = is.0; stamp_fits = is.1 }

-- behind the first three bytes
pub begun : (bs : List ℕ) (kind version : ℕ) (stamp : Stamp) (rest : List ℕ) → bs ≡ change_bytes kind version stamp rest
    → take (length bs - 3) (drop 3 bs) ≡ number_bytes version ++ (number_bytes stamp.micros ++ (stamp.zone ∷ rest))
begun bs kind version stamp rest here = tail_from bs 3 ∙ ap (drop 3) here

-- behind the first byte
pub behind_one : (bs : List ℕ) (x : ℕ) (rest : List ℕ) → bs ≡ x ∷ rest → take (length bs - 1) (drop 1 bs) ≡ rest
behind_one bs x rest here = tail_from bs 1 ∙ ap (drop 1) here

-- a live head
pub record IsLive (bs : List ℕ) (version : ℕ) (slot : SeenSlot) : Type 0 where
  pub new : NewHead
  pub stamp : Stamp
  pub slot_is : slot ≡ Live new stamp
  pub fits : IsContent new
  pub here : bs ≡ change_bytes 1 version stamp (content_bytes new)

pub live : (bs : List ℕ) (version : ℕ) (slot : SeenSlot) → IsSlot version slot → bs ≡ slot_bytes version slot → get_or bs 2 0 ≡ 1 → IsLive bs version slot
live bs version Nothing is here kind = absurd (omega (arith, kind, ap (λ z. get_or z 2 0) here))
live bs version (Live new stamp) is here kind = record { new = new; stamp = stamp; slot_is = refl; fits = is.2; here = here }
live bs version (Mark stamp) is here kind = absurd (omega (arith, kind, ap (λ z. get_or z 2 0) here))

pub some_bytes : (bs : List ℕ) → (length bs == 0) ≡ false → 0 < length bs
some_bytes [] is = absurd (true≢false is)
some_bytes (b ∷ bs) is = omega arith

pub length-encoding : (m : ManifestView) → length (encoding m) ≡ 21
length-encoding m = refl

-- the ETag, then the manifest, then the texts
pub etag_taken : (bs : List ℕ) (new : NewHead) → IsContent new → bs ≡ content_bytes new → take 16 bs ≡ new.etag
etag_taken bs new is here = ap (take 16) here ∙ take_at new.etag (encoding new.manifest ++ texts_bytes new) 16 is.etag_long

pub behind_etag : (bs : List ℕ) (new : NewHead) → IsContent new → bs ≡ content_bytes new → drop 16 bs ≡ encoding new.manifest ++ texts_bytes new
behind_etag bs new is here = ap (drop 16) here ∙ drop_at new.etag (encoding new.manifest ++ texts_bytes new) 16 is.etag_long

pub manifest_taken : (bs : List ℕ) (new : NewHead) → bs ≡ encoding new.manifest ++ texts_bytes new → take 21 bs ≡ encoding new.manifest
manifest_taken bs new here = ap (take 21) here ∙ take_at (encoding new.manifest) (texts_bytes new) 21 refl

pub behind_manifest : (bs : List ℕ) (new : NewHead) → bs ≡ encoding new.manifest ++ texts_bytes new → drop 21 bs ≡ texts_bytes new
behind_manifest bs new here = ap (drop 21) here ∙ drop_at (encoding new.manifest) (texts_bytes new) 21 refl

-- eight pieces, one after another
pub flat : (a b c d e f g h i : List ℕ) → (((((((a ++ b) ++ c) ++ d) ++ e) ++ f) ++ g) ++ h) ++ i ≡ a ++ (b ++ (c ++ (d ++ (e ++ (f ++ (g ++ (h ++ i)))))))
flat a b c d e f g h i = simp append_assoc refl

-- a slot that shows an ETag is live
pub record ShowsLive (slot : SeenSlot) (stamp : Stamp) (etag : List ℕ) (manifest : ManifestView) : Type 0 where
  pub new : NewHead
  pub slot_is : slot ≡ Live new stamp
  pub etag_is : etag ≡ new.etag
  pub manifest_is : manifest ≡ new.manifest

pub shows_live : (slot : SeenSlot) (stamp : Stamp) (etag : List ℕ) (manifest : ManifestView)
    → Some stamp ≡ seen_stamp slot → Some etag ≡ etag_of slot → Some manifest ≡ manifest_of slot → ShowsLive slot stamp etag manifest
shows_live Nothing stamp etag manifest s e m = absurd (true≢false (ap is_some e))
shows_live (Mark other) stamp etag manifest s e m = absurd (true≢false (ap is_some e))
shows_live (Live new other) stamp etag manifest s e m = record {
  new = new;
  slot_is = ap (λ (o : Option Stamp). Live new (unwrap_or o stamp)) (sym s);
  etag_is = ap (λ (o : Option (List ℕ)). unwrap_or o []) e;
  manifest_is = ap (λ (o : Option ManifestView). unwrap_or o manifest) m;
}
