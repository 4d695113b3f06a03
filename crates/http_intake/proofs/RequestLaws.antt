-- The bytes of a connection are one list of requests, whatever their framings, and a later byte changes none of them.
use Rattle.std.proofs.Common.{◌≡◌, inl, inr, ℕ, Bool, false, List, [], ◌∷◌, ◌++◌, length, take, drop, Option, Some, None, refl, sym, ap, ◌∙◌, subst, subst₂, append_assoc, length-append, arith}
use Rattle.std.proofs.lemmas.List.{take_all}
use Rattle.http_chunks.specs.declared.body.BodyEnd.{BodyEnd}
use Rattle.http_chunks.specs.declared.body.BodyEnd.TheVariants as Body
use Rattle.http_chunks.specs.Chunks.{content_of}
use Rattle.http_chunks.proofs.Bodies.{take_front, drop_front}
use Rattle.http_chunks.proofs.BodyLaws.{chunks_more}
use Rattle.http_chunks.proofs.Ends.{chunks_unique}
use Rattle.http_model.specs.declared.head.Framing.{Framing}
use Rattle.http_model.specs.declared.head.Framing.TheVariants.{Empty, Length, Chunked}
use Rattle.http_model.specs.declared.head.Head.{Head}
use Rattle.http_model.specs.declared.head.Request.{Request}
use Rattle.http_model.specs.declared.reading.TheConstants.{HEAD_LIMIT}
use Rattle.http_model.specs.declared.reply.BadRequest.TheVariants as Word
use Rattle.http_model.specs.declared.reply.StreamEnd.{StreamEnd}
use Rattle.http_model.specs.declared.reply.StreamEnd.TheVariants as End
use Rattle.http_model.specs.Heads.{HasNoHeadText, IsTree, framing_in, BeginsWith}
use Rattle.http_model.specs.Streams.{IsBlank, IsCutHead, IsNoHead, IsUnframed, IsOversized, IsEnd}
use Rattle.http_model.proofs.PlainLemmas.{begun_not_blank}
use Rattle.http_model.proofs.StreamLaws.{one_text, one_tree, one_head, no_gap, more_head, one_end}
use Rattle.http_intake.specs.declared.fault.IntakeFault.{IntakeFault}
use Rattle.http_intake.specs.declared.fault.IntakeFault.TheVariants as Fault
use Rattle.http_intake.specs.Grammar.{IsBodyOf, HasNoBody, TakesWhole, BeginsBroken, HasNoRequest, AreRequests}

-- ---- a body

pub same_body : (largest : ℕ) (framing : Framing) (after a b r q : List ℕ) → IsBodyOf largest framing after a r → IsBodyOf largest framing after b q → (a ≡ b) × (r ≡ q)
same_body largest Empty after a b r q x y = (x.0 ∙ sym y.0, x.1 ∙ sym y.1)
same_body largest (Length n) after a b r q x y =
    let whole : a ++ r ≡ b ++ q = sym x.0 ∙ y.0 in
    let size : length a ≡ length b = x.1 ∙ sym y.1 in (
      sym (take_front a r (length a) refl) ∙ ap (take (length a)) whole ∙ take_front b q (length a) size,
      sym (drop_front a r (length a) refl) ∙ ap (drop (length a)) whole ∙ drop_front b q (length a) size,
    )
same_body largest Chunked after a b r q x y =
    let same = chunks_unique x.0 y.0 false largest after Body.Whole Body.Whole r q x.1 y.1 in
    (x.2 ∙ ap content_of same.0 ∙ sym y.2, same.2)

pub not_broken : (largest : ℕ) (framing : Framing) (after body rest : List ℕ) (why : BodyEnd) → IsBodyOf largest framing after body rest → HasNoBody largest framing after why → ⊥
not_broken largest Empty after body rest why x y = y
not_broken largest (Length n) after body rest why x y = omega (arith, x.1, y.1, ap length x.0, length-append body rest)
not_broken largest Chunked after body rest why x y = y.0 (sym (chunks_unique x.0 y.1 false largest after Body.Whole why rest y.2 x.1 y.3).1)

pub same_why : (largest : ℕ) (framing : Framing) (after : List ℕ) (v w : BodyEnd) → HasNoBody largest framing after v → HasNoBody largest framing after w → v ≡ w
same_why largest Empty after v w x y = absurd x
same_why largest (Length n) after v w x y = x.0 ∙ sym y.0
same_why largest Chunked after v w x y = (chunks_unique x.1 y.1 false largest after v w x.2 y.2 x.3 y.3).1

pub body_more : (largest : ℕ) (framing : Framing) (after body rest more : List ℕ) → IsBodyOf largest framing after body rest
    → IsBodyOf largest framing (after ++ more) body (rest ++ more)
body_more largest Empty after body rest more x = (x.0, ap (λ l. l ++ more) x.1)
body_more largest (Length n) after body rest more x = (ap (λ l. l ++ more) x.0 ∙ append_assoc body rest more, x.1)
body_more largest Chunked after body rest more x = (x.0, chunks_more x.0 false largest after more rest x.1, x.2)

-- ---- a request

request_is : (m n : Request) → m.head ≡ n.head → m.body ≡ n.body → m ≡ n
request_is m n heads bodies = λ i. record { head = heads i; body = bodies i }

same_request : (largest : ℕ) (bytes : List ℕ) (m n : Request) (r q : List ℕ) → TakesWhole largest bytes m r → TakesWhole largest bytes n q → (m ≡ n) × (r ≡ q)
same_request largest bytes m n r q x y =
    let heads = one_head bytes m.head n.head x.after y.after x.head y.head in
    let body : IsBodyOf largest n.head.framing y.after m.body r =
    subst₂ (λ (h : Head) l. IsBodyOf largest h.framing l m.body r) heads.0 heads.1 x.body in
    let bodies = same_body largest n.head.framing y.after m.body n.body r q body y.body in
    (request_is m n heads.0 bodies.0, bodies.1)

request_more : (largest : ℕ) (bytes : List ℕ) (m : Request) (rest more : List ℕ) → TakesWhole largest bytes m rest → TakesWhole largest (bytes ++ more) m (rest ++ more)
request_more largest bytes m rest more x = record {
  after = x.after ++ more;
  head = more_head bytes m.head x.after more x.head;
  body = body_more largest m.head.framing x.after m.body rest more x.body;
}

-- ---- no request

abbrev pub HasNoHead : List ℕ → Type 0
HasNoHead bytes = (head : Head) (after : List ℕ) → ¬ (BeginsWith bytes head after)

-- which end of a stream in which no head begins
abbrev end_for : StreamEnd → Option IntakeFault
end_for End.Clean = None
end_for End.Closed = None
end_for End.Cut = Some Fault.Cut
end_for (End.Refused Word.Head b) = Some Fault.BadHead
end_for (End.Refused Word.Size b) = Some Fault.HeadTooLarge
end_for (End.Refused Word.Framing b) = Some (Fault.BadFraming b)
end_for (End.Refused Word.Host b) = None
end_for (End.NotBuilt b) = None

abbrev fault_for : BodyEnd → Option IntakeFault
fault_for Body.Whole = None
fault_for Body.Cut = Some Fault.Cut
fault_for Body.BadChunk = Some Fault.BadChunk
fault_for Body.TooLarge = Some Fault.BodyTooLarge

-- no head begins, or one does and its body is broken
data Ends (largest : ℕ) (bytes : List ℕ) (why : Option IntakeFault) : Type 0 where
  headless : (end : StreamEnd) → IsEnd bytes end → HasNoHead bytes → end_for end ≡ why → Ends largest bytes why
  broken : (end : BodyEnd) → BeginsBroken largest bytes end → fault_for end ≡ why → Ends largest bytes why

pub blank_headless : (bytes : List ℕ) → IsBlank bytes → HasNoHead bytes
blank_headless bytes blank head after x = begun_not_blank bytes x.0 after x.1 blank.1

pub cut_headless : (bytes : List ℕ) → IsCutHead bytes → HasNoHead bytes
cut_headless bytes cut head after x = no_gap bytes x.0 after x.1 (subst HasNoHeadText (sym (take_all HEAD_LIMIT bytes cut.0)) cut.1)

pub large_headless : (bytes : List ℕ) → IsOversized bytes → HasNoHead bytes
large_headless bytes large head after x = no_gap bytes x.0 after x.1 large.1

pub bad_headless : (bytes : List ℕ) → IsNoHead bytes → HasNoHead bytes
bad_headless bytes (text, rest, begins, none) head after x =
    none x.2.tree (subst (λ t. IsTree t x.2.tree) (one_text bytes x.0 after text rest x.1 begins).0 x.2.is_tree)

pub unframed_headless : (bytes : List ℕ) (b : Bool) → IsUnframed bytes b → HasNoHead bytes
unframed_headless bytes b (text, rest, begins, tree, is_tree, none, method) head after x =
    let here : IsTree text x.2.tree = subst (λ t. IsTree t x.2.tree) (one_text bytes x.0 after text rest x.1 begins).0 x.2.is_tree in
    let clash : Some head.framing ≡ None = sym x.2.framed ∙ ap framing_in (one_tree text x.2.tree tree here is_tree) ∙ none in
    cc

sort_of : (largest : ℕ) (bytes : List ℕ) (why : Option IntakeFault) → HasNoRequest largest bytes why → Ends largest bytes why
sort_of largest bytes None x = headless End.Clean x (blank_headless bytes x) refl
sort_of largest bytes (Some Fault.OutOfMemory) x = absurd x
sort_of largest bytes (Some Fault.ReadFault) x = absurd x
sort_of largest bytes (Some Fault.Cut) (inl (some, cut)) = headless End.Cut (some, inl cut) (cut_headless bytes cut) refl
sort_of largest bytes (Some Fault.Cut) (inr x) = broken Body.Cut x refl
sort_of largest bytes (Some Fault.BadHead) x = headless (End.Refused Word.Head false) (x, refl) (bad_headless bytes x) refl
sort_of largest bytes (Some Fault.HeadTooLarge) x = headless (End.Refused Word.Size false) (x, refl) (large_headless bytes x) refl
sort_of largest bytes (Some (Fault.BadFraming b)) x = headless (End.Refused Word.Framing b) x (unframed_headless bytes b x) refl
sort_of largest bytes (Some Fault.BadChunk) x = broken Body.BadChunk x refl
sort_of largest bytes (Some Fault.BodyTooLarge) x = broken Body.TooLarge x refl

same_broken : (largest : ℕ) (bytes : List ℕ) (v w : BodyEnd) → BeginsBroken largest bytes v → BeginsBroken largest bytes w → v ≡ w
same_broken largest bytes v w (head, after, begins, x) (other, behind, starts, y) =
    let heads = one_head bytes head other after behind begins starts in
    same_why largest other.framing behind v w (subst₂ (λ (h : Head) l. HasNoBody largest h.framing l v) heads.0 heads.1 x) y

same_end : (largest : ℕ) (bytes : List ℕ) (why other : Option IntakeFault) → Ends largest bytes why → Ends largest bytes other → why ≡ other
same_end largest bytes why other (headless e x none is) (headless f y nothing too) = sym is ∙ ap end_for (one_end bytes e f x y) ∙ too
same_end largest bytes why other (headless e x none is) (broken w y too) = absurd (none y.0 y.1 y.2)
same_end largest bytes why other (broken v x is) (headless f y nothing too) = absurd (nothing x.0 x.1 x.2)
same_end largest bytes why other (broken v x is) (broken w y too) = sym is ∙ ap fault_for (same_broken largest bytes v w x y) ∙ too

no_request : (largest : ℕ) (bytes : List ℕ) (why : Option IntakeFault) (m : Request) (rest : List ℕ) → Ends largest bytes why → TakesWhole largest bytes m rest → ⊥
no_request largest bytes why m rest (headless e x none is) y = none m.head y.after y.head
no_request largest bytes why m rest (broken end (head, after, begins, x) is) y =
    let heads = one_head bytes head m.head after y.after begins y.head in
    not_broken largest m.head.framing y.after m.body rest end y.body (subst₂ (λ (h : Head) l. HasNoBody largest h.framing l end) heads.0 heads.1 x)

-- ---- all of them

pub same_requests : (largest : ℕ) (bytes : List ℕ) (ms ns : List Request) (why other : Option IntakeFault) → AreRequests largest bytes ms why → AreRequests largest bytes ns other
    → (ms ≡ ns) × (why ≡ other)
same_requests largest bytes [] [] why other x y = (refl, same_end largest bytes why other (sort_of largest bytes why x) (sort_of largest bytes other y))
same_requests largest bytes [] (n ∷ ns) why other x y = absurd (no_request largest bytes why n y.0 (sort_of largest bytes why x) y.1)
same_requests largest bytes (m ∷ ms) [] why other x y = absurd (no_request largest bytes other m x.0 (sort_of largest bytes other y) x.1)
same_requests largest bytes (m ∷ ms) (n ∷ ns) why other (rest, takes, after) (left, too, behind) =
    let first = same_request largest bytes m n rest left takes too in
    let others = same_requests largest rest ms ns why other after (subst (λ l. AreRequests largest l ns other) (sym first.1) behind) in
    ((λ i. first.0 i ∷ others.0 i), others.1)

pub first_requests : (largest : ℕ) (bytes more : List ℕ) (ms ns : List Request) (why other : Option IntakeFault) → AreRequests largest bytes ms why
    → AreRequests largest (bytes ++ more) ns other → (later : List Request) × (ns ≡ ms ++ later)
first_requests largest bytes more [] ns why other x y = (ns, refl)
first_requests largest bytes more (m ∷ ms) [] why other x y =
    absurd (no_request largest (bytes ++ more) other m (x.0 ++ more) (sort_of largest (bytes ++ more) other y) (request_more largest bytes m x.0 more x.1))
first_requests largest bytes more (m ∷ ms) (n ∷ ns) why other (rest, takes, after) (left, too, behind) =
    let first = same_request largest (bytes ++ more) m n (rest ++ more) left (request_more largest bytes m rest more takes) too in
    let others = first_requests largest rest more ms ns why other after (subst (λ l. AreRequests largest l ns other) (sym first.1) behind) in
    (others.0, λ i. sym first.0 i ∷ others.1 i)
