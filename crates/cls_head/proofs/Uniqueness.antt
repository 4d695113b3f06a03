-- Attributes are those of one head at most.
use Rattle.std.proofs.Common.{◌≡◌, ℕ, ◌<◌, ◌^◌, List, [], ◌∷◌, ◌++◌, length, take, drop, get_or, refl, sym, ap, ap₂, ◌∙◌, arith, length-append}
use Rattle.std.specs.List.{AllByRecursion}
use Rattle.std.proofs.lemmas.List.{take_at, drop_at}
use Rattle.rgw_types.specs.declared.stamp.Stamp.{Stamp}
use Rattle.manifest.specs.Layouts.{encoding}
use Rattle.manifest.proofs.CodecLemmas.{one_manifest}
use Rattle.object_pool.specs.Objects.{Object}
use Rattle.object_words.specs.declared.head.NewHead.{NewHead}
use Rattle.object_words.specs.declared.head.SeenSlot.{SeenSlot}
use Rattle.object_words.specs.declared.head.SeenSlot.TheVariants.{Nothing, Live, Mark}
use Rattle.object_words.specs.Heads.{Head, first_bytes}
use Rattle.index_entry.specs.Numbers.{number_bytes}
use Rattle.index_entry.proofs.PieceLemmas.{behind, length-number_bytes}
use Rattle.index_entry.proofs.Uniqueness.{same_number}
use Rattle.cls_head.specs.Layouts.{IsContent, IsPair, IsSlot, IsStamp, change_bytes, content_bytes, pairs_bytes, slot_bytes, text_bytes, texts_bytes}
use Rattle.cls_head.specs.Heads.{IsHead}
use Rattle.cls_head.proofs.TextLemmas.{Pair, text_split}
use Rattle.cls_head.proofs.HeadLemmas.{behind_etag, behind_manifest, etag_taken, manifest_taken}

behind_number : (bs : List ℕ) (x : ℕ) (rest : List ℕ) → bs ≡ number_bytes x ++ rest → drop 8 bs ≡ rest
behind_number bs x rest here = behind bs 0 8 8 (number_bytes x) rest here (length-number_bytes x) refl

-- what follows two numbers that are written alike
same_behind : (x y : ℕ) (r s : List ℕ) → number_bytes x ++ r ≡ number_bytes y ++ s → r ≡ s
same_behind x y r s e = sym (behind_number (number_bytes x ++ r) x r refl) ∙ behind_number (number_bytes x ++ r) y s e

same_front : (x y : ℕ) (r s : List ℕ) → x < 2 ^ 64 → y < 2 ^ 64 → number_bytes x ++ r ≡ number_bytes y ++ s → x ≡ y
same_front x y r s fx fy e = same_number (number_bytes x ++ r) 0 x y r s fx fy refl e

-- two texts that are written alike, with what follows them
same_text : (t u r s : List ℕ) → length t < 2 ^ 64 → length u < 2 ^ 64 → text_bytes t ++ r ≡ text_bytes u ++ s → (t ≡ u) × (r ≡ s)
same_text t u r s ft fu e =
    let split = sym (text_split t r) ∙ e ∙ text_split u s in
    let long = same_front (length t) (length u) (t ++ r) (u ++ s) ft fu split in
    let rest = same_behind (length t) (length u) (t ++ r) (u ++ s) split in (
      sym (take_at t r (length t) refl) ∙ ap (take (length t)) rest ∙ take_at u s (length t) (sym long),
      sym (drop_at t r (length t) refl) ∙ ap (drop (length t)) rest ∙ drop_at u s (length t) (sym long),
    )

no_pairs_here : (p : Pair) (ps : List Pair) → [] ≡ pairs_bytes (p ∷ ps) → ⊥
no_pairs_here p ps e =
    let n = ap length e in
    let first = length-append (text_bytes p.0) (text_bytes p.1 ++ pairs_bytes ps) in
    let len = length-append (number_bytes (length p.0)) p.0 in
    omega (arith, n, first, len, length-number_bytes (length p.0))

same_pairs : (ps qs : List Pair) → AllByRecursion IsPair ps → AllByRecursion IsPair qs → pairs_bytes ps ≡ pairs_bytes qs → ps ≡ qs
same_pairs [] [] fp fq e = refl
same_pairs [] (q ∷ qs) fp fq e = absurd (no_pairs_here q qs e)
same_pairs (p ∷ ps) [] fp fq e = absurd (no_pairs_here p ps (sym e))
same_pairs (p ∷ ps) (q ∷ qs) fp fq e =
    let name = same_text p.0 q.0 (text_bytes p.1 ++ pairs_bytes ps) (text_bytes q.1 ++ pairs_bytes qs) fp.0.0.1 fq.0.0.1 e in
    let value = same_text p.1 q.1 (pairs_bytes ps) (pairs_bytes qs) fp.0.1.1 fq.0.1.1 name.1 in
    let rest = same_pairs ps qs fp.1 fq.1 value.1 in
    λ i. (name.0 i, value.0 i) ∷ rest i

-- two changes that are written alike
pub record SameChange (kind version : ℕ) (stamp : Stamp) (rest : List ℕ) (kind' version' : ℕ) (stamp' : Stamp) (rest' : List ℕ) : Type 0 where
  pub kind_is : kind ≡ kind'
  pub version_is : version ≡ version'
  pub stamp_is : stamp ≡ stamp'
  pub rest_is : rest ≡ rest'

same_change : (k v : ℕ) (s : Stamp) (r : List ℕ) (l w : ℕ) (t : Stamp) (q : List ℕ) → v < 2 ^ 64 → w < 2 ^ 64 → IsStamp s → IsStamp t
    → change_bytes k v s r ≡ change_bytes l w t q → SameChange k v s r l w t q
same_change k v s r l w t q fv fw fs ft e =
    let at3 : number_bytes v ++ (number_bytes s.micros ++ (s.zone ∷ r)) ≡ number_bytes w ++ (number_bytes t.micros ++ (t.zone ∷ q)) = ap (drop 3) e in
    let at11 = same_behind v w _ _ at3 in
    let at19 = same_behind s.micros t.micros (s.zone ∷ r) (t.zone ∷ q) at11 in
    let micros = same_front s.micros t.micros _ _ fs.0 ft.0 at11 in
    let zone : s.zone ≡ t.zone = ap (λ z. get_or z 0 0) at19 in
    record {
      kind_is = ap (λ z. get_or z 2 0) e;
      version_is = same_front v w _ _ fv fw at3;
      stamp_is = λ i. record { micros = micros i; zone = zone i };
      rest_is = ap (drop 1) at19;
    }

same_content : (a b : NewHead) → IsContent a → IsContent b → a.first ≡ b.first → content_bytes a ≡ content_bytes b → a ≡ b
same_content a b fa fb first e =
    let etag = sym (etag_taken (content_bytes a) a fa refl) ∙ etag_taken (content_bytes a) b fb e in
    let at16 = sym (behind_etag (content_bytes a) a fa refl) ∙ behind_etag (content_bytes a) b fb e in
    let bs = encoding a.manifest ++ texts_bytes a in
    let manifest = one_manifest a.manifest b.manifest fa.manifest fb.manifest (sym (manifest_taken bs a refl) ∙ manifest_taken bs b at16) in
    let at37 = sym (behind_manifest bs a refl) ∙ behind_manifest bs b at16 in
    let kind = same_text a.kind b.kind (number_bytes (length a.meta) ++ pairs_bytes a.meta) (number_bytes (length b.meta) ++ pairs_bytes b.meta)
    (omega (arith, fa.kind_high)) (omega (arith, fb.kind_high)) at37 in
    let meta = same_pairs a.meta b.meta fa.meta_texts fb.meta_texts (same_behind (length a.meta) (length b.meta) (pairs_bytes a.meta) (pairs_bytes b.meta) kind.1) in
    λ i. record { manifest = manifest i; first = first i; kind = kind.0 i; meta = meta i; etag = etag i }

not_empty : (k v : ℕ) (s : Stamp) (r : List ℕ) → [] ≡ change_bytes k v s r → ⊥
not_empty k v s r e = omega (arith, ap length e)

abbrev SameHead : ℕ → SeenSlot → ℕ → SeenSlot → Type 0
SameHead v a w b = (v ≡ w) × (a ≡ b)

same_slot : (v : ℕ) (a : SeenSlot) (w : ℕ) (b : SeenSlot) → IsSlot v a → IsSlot w b → first_bytes a ≡ first_bytes b → slot_bytes v a ≡ slot_bytes w b → SameHead v a w b
same_slot v Nothing w Nothing fa fb first e = (fa ∙ sym fb, refl)
same_slot v Nothing w (Live b t) fa fb first e = absurd (not_empty _ _ _ _ e)
same_slot v Nothing w (Mark t) fa fb first e = absurd (not_empty _ _ _ _ e)
same_slot v (Live a s) w Nothing fa fb first e = absurd (not_empty _ _ _ _ (sym e))
same_slot v (Mark s) w Nothing fa fb first e = absurd (not_empty _ _ _ _ (sym e))
same_slot v (Live a s) w (Mark t) fa fb first e = absurd (omega (arith, (same_change _ _ _ _ _ _ _ _ fa.0 fb.0 fa.1 fb.1 e).kind_is))
same_slot v (Mark s) w (Live b t) fa fb first e = absurd (omega (arith, (same_change _ _ _ _ _ _ _ _ fa.0 fb.0 fa.1 fb.1 e).kind_is))
same_slot v (Mark s) w (Mark t) fa fb first e =
    let c = same_change 2 v s [] 2 w t [] fa.0 fb.0 fa.1 fb.1 e in (c.version_is, ap Mark c.stamp_is)
same_slot v (Live a s) w (Live b t) fa fb first e =
    let c = same_change 1 v s (content_bytes a) 1 w t (content_bytes b) fa.0 fb.0 fa.1 fb.1 e in
    let new = same_content a b fa.2 fb.2 first c.rest_is in
    (c.version_is, ap₂ Live new c.stamp_is)

pub one_head : (o : Object) (g h : Head) → IsHead o g → IsHead o h → g ≡ h
one_head o g h a b =
    let s = same_slot g.version g.slot h.version h.slot a.bounds b.bounds (sym a.bytes ∙ b.bytes) (sym a.attrs ∙ b.attrs) in
    λ i. record { version = s.0 i; slot = s.1 i }
