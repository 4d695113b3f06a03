-- What stands at the front of bytes has one reading, a head or an end, and a later byte changes no head.
use Rattle.std.proofs.Common.{◌≡◌, ◌≢◌, ◌⊎◌, inl, inr, ℕ, ◌<◌, ◌≤◌, Bool, false, List, [], ◌++◌, length, take, drop, Some, None, refl, sym, ap, ◌∙◌, subst, append_assoc, arith}
use Rattle.std.proofs.Math.Seq.{take-append_seam}
use Rattle.std.proofs.lemmas.List.{length-append, length-take, take-append-drop, append_cancel_left, take_all, take-append-le}
use Rattle.httparse.specs.Grammar.{RequestHead}
use Rattle.httparse.proofs.GrammarLemmas.{request_unique}
use Rattle.http_model.specs.declared.head.Head.{Head}
use Rattle.http_model.specs.declared.reply.BadRequest.TheVariants as Word
use Rattle.http_model.specs.declared.reply.StreamEnd.{StreamEnd}
use Rattle.http_model.specs.declared.reply.StreamEnd.TheVariants as End
use Rattle.http_model.specs.Heads.{skip_breaks, EndsHead, HasNoHeadText, IsTree, framing_in, head_of, SaysHead, BeginsWithText, BeginsWith}
use Rattle.http_model.specs.declared.reading.TheConstants.{HEAD_LIMIT}
use Rattle.http_model.specs.Forms.{is_bodiless}
use Rattle.http_model.proofs.PlainLemmas.{begun_not_blank}
use Rattle.http_model.specs.Streams.{IsCutHead, IsCutBody, IsBlank, IsNoHead, IsUnframed, IsOversized, IsEnd}

-- ---- lists

-- two ways to cut one list at one place
cut_once : (a b c d : List ℕ) → a ++ b ≡ c ++ d → length a ≡ length c → (a ≡ c) × (b ≡ d)
cut_once a b c d e same =
    let fronts : a ≡ c = sym (take-append_seam a b) ∙ ap (λ l. take (length a) l) e ∙ ap (λ n. take n (c ++ d)) same ∙ take-append_seam c d in
    (fronts, append_cancel_left a b d (e ∙ ap (λ l. l ++ d) (sym fronts)))

-- the shorter of two fronts is a front of the longer
front_in_front : (a b c d : List ℕ) → a ++ b ≡ c ++ d → length a ≤ length c → take (length a) c ≡ a
front_in_front a b c d e le = sym (take-append-le (length a) c d le) ∙ ap (take (length a)) (sym e) ∙ take-append_seam a b

shorter : (n : ℕ) (bytes : List ℕ) → n ≤ HEAD_LIMIT → n ≤ length bytes → n ≤ length (take HEAD_LIMIT bytes)
shorter n bytes small inside = omega (arith, length-take HEAD_LIMIT bytes)

-- ---- texts of heads

-- the text of a head lies within the limit
front_kept : (bytes text rest : List ℕ) → BeginsWithText bytes text rest → take (length text) (take HEAD_LIMIT bytes) ≡ text
front_kept bytes text rest x =
    front_in_front text rest (take HEAD_LIMIT bytes) (drop HEAD_LIMIT bytes)
    (sym x.whole ∙ sym (take-append-drop HEAD_LIMIT bytes))
    (shorter (length text) bytes x.fits (omega (arith, ap length x.whole, length-append text rest)))

no_shorter : (bytes a b c d : List ℕ) → BeginsWithText bytes a b → BeginsWithText bytes c d → length a < length c → ⊥
no_shorter bytes a b c d x y lt =
    let front = front_in_front a b c d (sym x.whole ∙ y.whole) (omega arith) in
    y.is_text.first (length a) lt (subst EndsHead (sym front) x.is_text.ends)

pub one_text : (bytes a b c d : List ℕ) → BeginsWithText bytes a b → BeginsWithText bytes c d → (a ≡ c) × (b ≡ d)
one_text bytes a b c d x y =
    let below = no_shorter bytes a b c d x y in
    let above = no_shorter bytes c d a b y x in
    let same : length a ≡ length c = omega (arith, below, above) in
    cut_once a b c d (sym x.whole ∙ y.whole) same

-- what begins with the text of a head does not lack the end of one within the limit
pub no_gap : (bytes text rest : List ℕ) → BeginsWithText bytes text rest → HasNoHeadText (take HEAD_LIMIT bytes) → ⊥
no_gap bytes text rest x none =
    none (length text) (subst EndsHead (sym (front_kept bytes text rest x)) x.is_text.ends)

-- ---- heads

pub one_tree : (text : List ℕ) (s t : RequestHead) → IsTree text s → IsTree text t → s ≡ t
one_tree text s t x y = (request_unique text s t [] [] x.reads y.reads).0

says_once : (text : List ℕ) (h k : Head) → SaysHead text h → SaysHead text k → h ≡ k
says_once text h k x y =
    let trees = one_tree text x.tree y.tree x.is_tree y.is_tree in
    let framings : Some h.framing ≡ Some k.framing = sym x.framed ∙ ap framing_in trees ∙ y.framed in
    let same : h.framing ≡ k.framing = cc in
    x.head_is ∙ (λ i. head_of (trees i) (same i)) ∙ sym y.head_is

pub one_head : (bytes : List ℕ) (h k : Head) (r q : List ℕ) → BeginsWith bytes h r → BeginsWith bytes k q → (h ≡ k) × (r ≡ q)
one_head bytes h k r q x y =
    let texts = one_text bytes x.0 r y.0 q x.1 y.1 in
    (says_once x.0 h k x.2 (subst (λ t. SaysHead t k) (sym texts.0) y.2), texts.1)

-- bytes behind a head change nothing of it
pub more_text : (bytes text rest more : List ℕ) → BeginsWithText bytes text rest → BeginsWithText (bytes ++ more) text (rest ++ more)
more_text bytes text rest more x = record {
  is_text = x.is_text;
  fits = x.fits;
  whole = ap (λ l. l ++ more) x.whole ∙ append_assoc text rest more;
}

pub more_head : (bytes : List ℕ) (head : Head) (rest more : List ℕ) → BeginsWith bytes head rest → BeginsWith (bytes ++ more) head (rest ++ more)
more_head bytes head rest more x = (x.0, more_text bytes x.0 rest more x.1, x.2)

-- ---- ends

-- where a head's text stands, a request is a matter of the head alone
no_text_small : (bytes : List ℕ) → IsCutHead bytes → HasNoHeadText (take HEAD_LIMIT bytes)
no_text_small bytes x = subst HasNoHeadText (sym (take_all HEAD_LIMIT bytes x.0)) x.1

-- the same text, with what another fact says of it
moved_head : (bytes text rest : List ℕ) (head : Head) (after : List ℕ) → BeginsWithText bytes text rest → BeginsWith bytes head after → SaysHead text head
moved_head bytes text rest head after x y = subst (λ t. SaysHead t head) (sym (one_text bytes text rest y.0 after x y.1).0) y.2

-- a head is a tree with a framing, so neither fault stands where a head does
head_no_fault : (bytes : List ℕ) (head : Head) (after : List ℕ) → BeginsWith bytes head after → IsNoHead bytes → ⊥
head_no_fault bytes head after x (text, rest, is, none) = let says = moved_head bytes text rest head after is x in none says.tree says.is_tree

head_framed : (bytes : List ℕ) (head : Head) (after : List ℕ) → (bodiless : Bool) → BeginsWith bytes head after → IsUnframed bytes bodiless → ⊥
head_framed bytes head after bodiless x (text, rest, is, tree, is_tree, none, method) =
    let says = moved_head bytes text rest head after is x in
    let same = one_tree text says.tree tree says.is_tree is_tree in
    let clash : Some head.framing ≡ None = sym says.framed ∙ ap framing_in same ∙ none in
    absurd (cc)

fault_apart : (bytes : List ℕ) (bodiless : Bool) → IsNoHead bytes → IsUnframed bytes bodiless → ⊥
fault_apart bytes bodiless (text, rest, is, lacks) (text', rest', is', tree, is_tree, none, method) =
    lacks tree (subst (λ t. IsTree t tree) (sym (one_text bytes text rest text' rest' is is').0) is_tree)

-- the bytes begin with the text of a head, whatever it says
abbrev HasText : List ℕ → Type 0
HasText bytes = (text : List ℕ) × (rest : List ℕ) × BeginsWithText bytes text rest

text_of_head : (bytes : List ℕ) (head : Head) (after : List ℕ) → BeginsWith bytes head after → HasText bytes
text_of_head bytes head after x = (x.0, after, x.1)

blank_apart : (bytes : List ℕ) → IsBlank bytes → HasText bytes → ⊥
blank_apart bytes blank x = begun_not_blank bytes x.0 x.1 x.2 blank.1

cut_head_apart : (bytes : List ℕ) → IsCutHead bytes → HasText bytes → ⊥
cut_head_apart bytes cut x = no_gap bytes x.0 x.1 x.2 (no_text_small bytes cut)

oversized_apart : (bytes : List ℕ) → IsOversized bytes → HasText bytes → ⊥
oversized_apart bytes big x = no_gap bytes x.0 x.1 x.2 big.1

-- an end without the text of a head
data Bare (bytes : List ℕ) : StreamEnd → Type 0 where
  nothing : IsBlank bytes → Bare bytes End.Clean
  part : skip_breaks bytes ≢ [] → IsCutHead bytes → Bare bytes End.Cut
  oversized : IsOversized bytes → Bare bytes (End.Refused Word.Size false)

-- an end with one
data Texted (bytes : List ℕ) : StreamEnd → Type 0 where
  short : IsCutBody bytes → Texted bytes End.Cut
  no_head : IsNoHead bytes → Texted bytes (End.Refused Word.Head false)
  unframed : (b : Bool) → IsUnframed bytes b → Texted bytes (End.Refused Word.Framing b)

sort_of : (bytes : List ℕ) (e : StreamEnd) → IsEnd bytes e → Bare bytes e ⊎ Texted bytes e
sort_of bytes End.Clean x = inl (nothing x)
sort_of bytes End.Closed x = absurd x
sort_of bytes End.Cut (some, inl x) = inl (part some x)
sort_of bytes End.Cut (some, inr x) = inr (short x)
sort_of bytes (End.Refused Word.Head b) (x, e) = inr (subst (λ b. Texted bytes (End.Refused Word.Head b)) (sym e) (no_head x))
sort_of bytes (End.Refused Word.Size b) (x, e) = inl (subst (λ b. Bare bytes (End.Refused Word.Size b)) (sym e) (oversized x))
sort_of bytes (End.Refused Word.Framing b) x = inr (unframed b x)
sort_of bytes (End.Refused Word.Host b) x = absurd x
sort_of bytes (End.NotBuilt b) x = absurd x

text_of_end : (bytes : List ℕ) (e : StreamEnd) → Texted bytes e → HasText bytes
text_of_end bytes e (short (head, after, n, x, length_is, lt)) = text_of_head bytes head after x
text_of_end bytes e (no_head (text, rest, is, lacks)) = (text, rest, is)
text_of_end bytes e (unframed b (text, rest, is, tree, is_tree, none, method)) = (text, rest, is)

bare_apart : (bytes : List ℕ) (e : StreamEnd) → Bare bytes e → HasText bytes → ⊥
bare_apart bytes e (nothing blank) x = blank_apart bytes blank x
bare_apart bytes e (part some cut) x = cut_head_apart bytes cut x
bare_apart bytes e (oversized big) x = oversized_apart bytes big x

same_bare : (bytes : List ℕ) (e f : StreamEnd) → Bare bytes e → Bare bytes f → e ≡ f
same_bare bytes e f (nothing x) (nothing y) = refl
same_bare bytes e f (nothing x) (part some y) = absurd (some x.1)
same_bare bytes e f (nothing x) (oversized y) = absurd (omega (arith, x.0, y.0))
same_bare bytes e f (part some x) (nothing y) = absurd (some y.1)
same_bare bytes e f (part some x) (part other y) = refl
same_bare bytes e f (part some x) (oversized y) = absurd (omega (arith, x.0, y.0))
same_bare bytes e f (oversized x) (nothing y) = absurd (omega (arith, y.0, x.0))
same_bare bytes e f (oversized x) (part some y) = absurd (omega (arith, y.0, x.0))
same_bare bytes e f (oversized x) (oversized y) = refl

short_no_head : (bytes : List ℕ) → IsCutBody bytes → IsNoHead bytes → ⊥
short_no_head bytes (head, after, n, x, length_is, lt) y = head_no_fault bytes head after x y

short_unframed : (bytes : List ℕ) (b : Bool) → IsCutBody bytes → IsUnframed bytes b → ⊥
short_unframed bytes b (head, after, n, x, length_is, lt) y = head_framed bytes head after b x y

-- the method is told once
same_unframed : (bytes : List ℕ) (a b : Bool) → IsUnframed bytes a → IsUnframed bytes b → a ≡ b
same_unframed bytes a b (text, rest, is, tree, is_tree, none, method) (text', rest', is', tree', is_tree', none', method') =
    let here : IsTree text tree' = subst (λ t. IsTree t tree') (sym (one_text bytes text rest text' rest' is is').0) is_tree' in
    sym method ∙ ap (λ (t : RequestHead). is_bodiless t.method) (one_tree text tree tree' is_tree here) ∙ method'

same_texted : (bytes : List ℕ) (e f : StreamEnd) → Texted bytes e → Texted bytes f → e ≡ f
same_texted bytes e f (short x) (short y) = refl
same_texted bytes e f (short x) (no_head y) = absurd (short_no_head bytes x y)
same_texted bytes e f (short x) (unframed b y) = absurd (short_unframed bytes b x y)
same_texted bytes e f (no_head x) (short y) = absurd (short_no_head bytes y x)
same_texted bytes e f (no_head x) (no_head y) = refl
same_texted bytes e f (no_head x) (unframed b y) = absurd (fault_apart bytes b x y)
same_texted bytes e f (unframed a x) (short y) = absurd (short_unframed bytes a y x)
same_texted bytes e f (unframed a x) (no_head y) = absurd (fault_apart bytes a y x)
same_texted bytes e f (unframed a x) (unframed b y) = ap (End.Refused Word.Framing) (same_unframed bytes a b x y)

same_sort : (bytes : List ℕ) (e f : StreamEnd) → Bare bytes e ⊎ Texted bytes e → Bare bytes f ⊎ Texted bytes f → e ≡ f
same_sort bytes e f (inl x) (inl y) = same_bare bytes e f x y
same_sort bytes e f (inl x) (inr y) = absurd (bare_apart bytes e x (text_of_end bytes f y))
same_sort bytes e f (inr x) (inl y) = absurd (bare_apart bytes f y (text_of_end bytes e x))
same_sort bytes e f (inr x) (inr y) = same_texted bytes e f x y

-- bytes end in one way
pub one_end : (bytes : List ℕ) (e f : StreamEnd) → IsEnd bytes e → IsEnd bytes f → e ≡ f
one_end bytes e f x y = same_sort bytes e f (sort_of bytes e x) (sort_of bytes f y)
