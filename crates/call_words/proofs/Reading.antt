-- The bytes of a connection have one reading, once it is known which bodies are left.
use Rattle.std.proofs.Common.{◌≡◌, ◌⊎◌, inl, inr, ℕ, suc, Bool, true, false, List, [], ◌∷◌, refl, sym, ap, ◌∙◌, subst, subst₂}
use Rattle.std.specs.Prelude.{MatchBool}
use Rattle.http_chunks.specs.declared.body.BodyEnd.{BodyEnd}
use Rattle.http_chunks.specs.declared.body.BodyEnd.TheVariants as Body
use Rattle.http_intake.specs.Grammar.{HasNoBody}
use Rattle.http_intake.proofs.RequestLaws.{same_body, not_broken, same_why, HasNoHead, blank_headless, cut_headless, large_headless, bad_headless, unframed_headless}
use Rattle.http_intake.proofs.WrongBodies.{wrong_no_body, same_wrong}
use Rattle.http_model.specs.declared.head.Framing.{Framing}
use Rattle.http_model.specs.declared.head.Head.{Head}
use Rattle.http_model.specs.declared.reply.BadRequest.TheVariants as Word
use Rattle.http_model.specs.declared.reply.StreamEnd.{StreamEnd}
use Rattle.http_model.specs.declared.reply.StreamEnd.TheVariants as Ends
use Rattle.http_model.specs.Heads.{BeginsWith}
use Rattle.http_model.specs.Streams.{IsEnd as IsEndOf}
use Rattle.http_model.proofs.StreamLaws.{one_head, one_end}
use Rattle.swift_auth.specs.Users.{UserView}
use Rattle.swift_requests.specs.Bodies.{is_unread, is_awaited}
use Rattle.swift_requests.specs.declared.body.BodyUse.{BodyUse}
use Rattle.swift_requests.specs.declared.body.BodyUse.TheVariants.{Fed, Awaited, Dropped, Unread}
use Rattle.call_words.specs.Bodies.{Fate, read_whole, broken_off, unread, stays_unread, IsWrong, Suits, IsBehind}
use Rattle.call_words.specs.Streams.{use_of, form_of, CallsEnd, at_clean, at_close, at_cut, at_bad, Taken, TakesCall, IsCutBody, IsEnd, IsStreamFrom, AreLeft}

-- ---- fates

-- a body that is not read has no other fate, if the readings agree on whether it is left
only_unread : (plan : BodyUse) (fate : Fate) → (is_awaited plan ≡ true → stays_unread fate ≡ true) → Suits plan unread → Suits plan fate → fate ≡ unread
only_unread Fed fate agree first second = absurd first
only_unread Awaited read_whole agree first second = let clash : false ≡ true = agree refl in absurd (cc)
only_unread Awaited (broken_off why) agree first second = let clash : false ≡ true = agree refl in absurd (cc)
only_unread Awaited unread agree first second = refl
only_unread Dropped fate agree first second = absurd first
only_unread Unread read_whole agree first second = absurd second
only_unread Unread (broken_off why) agree first second = absurd second
only_unread Unread unread agree first second = refl

wrong_of : (plan : BodyUse) (why : BodyEnd) → Suits plan (broken_off why) → IsWrong why
wrong_of Fed why suits = suits
wrong_of Awaited why suits = suits
wrong_of Dropped why suits = suits
wrong_of Unread why suits = absurd suits

not_cut : (why : BodyEnd) → IsWrong why → why ≡ Body.Cut → ⊥
not_cut why wrong is = subst IsWrong is wrong

-- what stands behind a head has one fate
one_fate : (largest : ℕ) (framing : Framing) (plan : BodyUse) (after a b r q : List ℕ) (f g : Fate) → (is_awaited plan ≡ true → stays_unread f ≡ stays_unread g) → Suits plan f → Suits plan g
    → IsBehind largest framing after a f r → IsBehind largest framing after b g q → (f ≡ g) × (a ≡ b) × (r ≡ q)
one_fate largest framing plan after a b r q read_whole read_whole agree s t x y =
    let same = same_body largest framing after a b r q x y in (refl, same.0, same.1)
one_fate largest framing plan after a b r q read_whole (broken_off why) agree s t x y = absurd (not_broken largest framing after a r why x (wrong_no_body largest framing after why b y.0))
one_fate largest framing plan after a b r q read_whole unread agree s t x y = let clash : read_whole ≡ unread = only_unread plan read_whole agree t s in absurd (cc)
one_fate largest framing plan after a b r q (broken_off why) read_whole agree s t x y = absurd (not_broken largest framing after b q why y (wrong_no_body largest framing after why a x.0))
one_fate largest framing plan after a b r q (broken_off why) (broken_off other) agree s t x y =
    let same = same_wrong largest framing after why other a b x.0 y.0 in (ap broken_off same.0, same.1, x.1 ∙ sym y.1)
one_fate largest framing plan after a b r q (broken_off why) unread agree s t x y = let clash : broken_off why ≡ unread = only_unread plan (broken_off why) agree t s in absurd (cc)
one_fate largest framing plan after a b r q unread read_whole agree s t x y = let clash : read_whole ≡ unread = only_unread plan read_whole (λ e. sym (agree e)) s t in absurd (cc)
one_fate largest framing plan after a b r q unread (broken_off why) agree s t x y = let clash : broken_off why ≡ unread = only_unread plan (broken_off why) (λ e. sym (agree e)) s t in absurd (cc)
one_fate largest framing plan after a b r q unread unread agree s t x y = (refl, x.0 ∙ sym y.0, x.1 ∙ sym y.1)

-- ---- requests

taken_is : (m n : Taken) → m.request.head ≡ n.request.head → m.request.body ≡ n.request.body → m.fate ≡ n.fate → m ≡ n
taken_is m n heads bodies fates = λ i. record { request = record { head = heads i; body = bodies i }; fate = fates i }

-- the body of a request that waits is left, or not
abbrev pub Agrees : ℕ → List UserView → Bool → Taken → Type 0
Agrees largest users left m = is_awaited (use_of largest users m.request.head) ≡ true → stays_unread m.fate ≡ left

pub one_call : (largest : ℕ) (users : List UserView) (bytes : List ℕ) (left : Bool) (m n : Taken) (r q : List ℕ) → Agrees largest users left m → Agrees largest users left n → TakesCall largest users bytes m r → TakesCall largest users bytes n q → (m ≡ n) × (r ≡ q)
one_call largest users bytes left m n r q says also x y =
    let heads = one_head bytes m.request.head n.request.head x.after y.after x.head y.head in
    let suits : Suits (use_of largest users n.request.head) m.fate = subst (λ (h : Head). Suits (use_of largest users h) m.fate) heads.0 x.suits in
    let body : IsBehind largest n.request.head.framing y.after m.request.body m.fate r =
    subst₂ (λ (h : Head) l. IsBehind largest h.framing l m.request.body m.fate r) heads.0 heads.1 x.body in
    let moved : is_awaited (use_of largest users n.request.head) ≡ true → stays_unread m.fate ≡ left =
    subst (λ (h : Head). is_awaited (use_of largest users h) ≡ true → stays_unread m.fate ≡ left) heads.0 says in
    let agree : is_awaited (use_of largest users n.request.head) ≡ true → stays_unread m.fate ≡ stays_unread n.fate = λ e. moved e ∙ sym (also e) in
    let one = one_fate largest n.request.head.framing (use_of largest users n.request.head) y.after m.request.body n.request.body r q m.fate n.fate agree suits y.suits body y.body in
    (taken_is m n heads.0 one.1 one.0, one.2)

-- ---- ends

-- an end of a stream of any requests, as one of calls
abbrev as_end : StreamEnd → CallsEnd
as_end Ends.Clean = at_clean
as_end Ends.Closed = at_close
as_end Ends.Cut = at_cut false
as_end (Ends.Refused word bodiless) = at_bad word bodiless
as_end (Ends.NotBuilt bodiless) = at_close

-- no head stands there, and the end is one of any stream
record IsHeadless (bytes : List ℕ) (e : CallsEnd) : Type 0 where
  pub end : StreamEnd
  pub is_end : e ≡ as_end end
  pub stands : IsEndOf bytes end
  pub headless : HasNoHead bytes

-- a body is cut there
record IsCutThere (largest : ℕ) (users : List UserView) (bytes : List ℕ) (e : CallsEnd) : Type 0 where
  pub continued : Bool
  pub is_end : e ≡ at_cut continued
  pub cut : IsCutBody largest users bytes continued

sort_of : (largest : ℕ) (users : List UserView) (bytes : List ℕ) (e : CallsEnd) → IsEnd largest users bytes e → IsHeadless bytes e ⊎ IsCutThere largest users bytes e
sort_of largest users bytes at_clean x = inl (record { end = Ends.Clean; is_end = refl; stands = x; headless = blank_headless bytes x })
sort_of largest users bytes at_close x = absurd x
sort_of largest users bytes (at_cut false) (some, inl x) = inl (record { end = Ends.Cut; is_end = refl; stands = (some, inl x); headless = cut_headless bytes x })
sort_of largest users bytes (at_cut false) (some, inr x) = inr (record { continued = false; is_end = refl; cut = x })
sort_of largest users bytes (at_cut true) (some, x) = inr (record { continued = true; is_end = refl; cut = x })
sort_of largest users bytes (at_bad Word.Head bodiless) x = inl (record { end = Ends.Refused Word.Head bodiless; is_end = refl; stands = x; headless = bad_headless bytes x.0 })
sort_of largest users bytes (at_bad Word.Size bodiless) x = inl (record { end = Ends.Refused Word.Size bodiless; is_end = refl; stands = x; headless = large_headless bytes x.0 })
sort_of largest users bytes (at_bad Word.Framing bodiless) x = inl (record { end = Ends.Refused Word.Framing bodiless; is_end = refl; stands = x; headless = unframed_headless bytes bodiless x })
sort_of largest users bytes (at_bad Word.Host bodiless) x = absurd x

-- a body that is cut has no other fate, if it is not left
no_fate_cut : (largest : ℕ) (framing : Framing) (plan : BodyUse) (after body rest : List ℕ) (fate : Fate) → is_unread plan ≡ false → (is_awaited plan ≡ true → stays_unread fate ≡ false) → Suits plan fate
    → IsBehind largest framing after body fate rest → HasNoBody largest framing after Body.Cut → ⊥
no_fate_cut largest framing plan after body rest read_whole read begun suits x cut = not_broken largest framing after body rest Body.Cut x cut
no_fate_cut largest framing plan after body rest (broken_off why) read begun suits x cut = not_cut why (wrong_of plan why suits) (same_why largest framing after why Body.Cut (wrong_no_body largest framing after why body x.0) cut)
no_fate_cut largest framing Fed after body rest unread read begun suits x cut = suits
no_fate_cut largest framing Awaited after body rest unread read begun suits x cut = let clash : true ≡ false = begun refl in cc
no_fate_cut largest framing Dropped after body rest unread read begun suits x cut = suits
no_fate_cut largest framing Unread after body rest unread read begun suits x cut = absurd (cc)

no_call_cut : (largest : ℕ) (users : List UserView) (bytes : List ℕ) (continued left : Bool) (m : Taken) (rest : List ℕ) → Agrees largest users left m → (continued ≡ true → left ≡ false) → TakesCall largest users bytes m rest
    → IsCutBody largest users bytes continued → ⊥
no_call_cut largest users bytes continued left m rest says kept x (head, after, begins, read, awaits, cut) =
    let heads = one_head bytes m.request.head head x.after after x.head begins in
    let suits : Suits (use_of largest users head) m.fate = subst (λ (h : Head). Suits (use_of largest users h) m.fate) heads.0 x.suits in
    let moved : is_awaited (use_of largest users head) ≡ true → stays_unread m.fate ≡ left = subst (λ (h : Head). is_awaited (use_of largest users h) ≡ true → stays_unread m.fate ≡ left) heads.0 says in
    let begun : is_awaited (use_of largest users head) ≡ true → stays_unread m.fate ≡ false = λ e. moved e ∙ kept (sym awaits ∙ e) in
    let body : IsBehind largest head.framing after m.request.body m.fate rest =
    subst₂ (λ (h : Head) l. IsBehind largest h.framing l m.request.body m.fate rest) heads.0 heads.1 x.body in
    no_fate_cut largest head.framing (use_of largest users head) after m.request.body rest m.fate read begun suits body cut

-- a request and an end do not both stand there
no_call_at_end : (largest : ℕ) (users : List UserView) (bytes : List ℕ) (left : Bool) (e : CallsEnd) (m : Taken) (rest : List ℕ) → (e ≡ at_cut true → left ≡ false) → Agrees largest users left m → IsEnd largest users bytes e
    → TakesCall largest users bytes m rest → ⊥
no_call_at_end largest users bytes left e m rest kept says x y =
    elim (sort_of largest users bytes e x) [
      | inl plain ↦ plain.headless m.request.head y.after y.head
      | inr there ↦ no_call_cut largest users bytes there.continued left m rest says (λ is. kept (there.is_end ∙ ap at_cut is)) y there.cut
    ]

-- where a body is cut, its head says whether a 100 was written
one_cut : (largest : ℕ) (users : List UserView) (bytes : List ℕ) (a b : Bool) → IsCutBody largest users bytes a → IsCutBody largest users bytes b → a ≡ b
one_cut largest users bytes a b (head, after, begins, read, awaits, cut) (other, behind, starts, also, waits, broken) =
    let heads = one_head bytes head other after behind begins starts in
    sym awaits ∙ ap (λ (h : Head). is_awaited (use_of largest users h)) heads.0 ∙ waits

one_ending : (largest : ℕ) (users : List UserView) (bytes : List ℕ) (e f : CallsEnd) → IsEnd largest users bytes e → IsEnd largest users bytes f → e ≡ f
one_ending largest users bytes e f x y =
    elim (sort_of largest users bytes e x) [
      | inl plain ↦ elim (sort_of largest users bytes f y) [
        | inl other ↦ plain.is_end ∙ ap as_end (one_end bytes plain.end other.end plain.stands other.stands) ∙ sym other.is_end
        | inr there ↦ absurd (plain.headless there.cut.0 there.cut.1 there.cut.2)
      ]
      | inr there ↦ elim (sort_of largest users bytes f y) [
        | inl other ↦ absurd (other.headless there.cut.0 there.cut.1 there.cut.2)
        | inr also ↦ there.is_end ∙ ap at_cut (one_cut largest users bytes there.continued also.continued there.cut also.cut) ∙ sym also.is_end
      ]
    ]

-- ---- streams

-- what follows a request, by whether its reply closes the connection
abbrev Follows : ℕ → List UserView → ℕ → Bool → List ℕ → List Taken → CallsEnd → Type 0
Follows largest users k closed rest ms e = MatchBool closed ((ms ≡ []) × (e ≡ at_close)) (IsStreamFrom largest users (suc k) rest ms e)

same_after : (largest : ℕ) (users : List UserView) (k : ℕ) (closed : Bool) (rest : List ℕ) (ms ns : List Taken) (e f : CallsEnd)
    → (closed ≡ false → IsStreamFrom largest users (suc k) rest ms e → IsStreamFrom largest users (suc k) rest ns f → (ms ≡ ns) × (e ≡ f))
    → Follows largest users k closed rest ms e → Follows largest users k closed rest ns f → (ms ≡ ns) × (e ≡ f)
same_after largest users k true rest ms ns e f further x y = (x.0 ∙ sym y.0, x.1 ∙ sym y.1)
same_after largest users k false rest ms ns e f further x y = further refl x y

-- Each body that is waited for is left just where this says so of the place and the head of its request; and no 100 was written
-- for one that is cut there and of which it says so.
abbrev pub AreLeftAs : (ℕ → Head → Bool) → ℕ → List UserView → ℕ → List ℕ → List Taken → CallsEnd → Type 0
AreLeftAs says largest users k bytes [] end =
    (head : Head) (after : List ℕ) → BeginsWith bytes head after → end ≡ at_cut true → says k head ≡ false
AreLeftAs says largest users k bytes (first ∷ others) end =
    Agrees largest users (says k first.request.head) first
    × ((rest : List ℕ) → TakesCall largest users bytes first rest → (form_of k first.request.head first.fate).close ≡ false → AreLeftAs says largest users (suc k) rest others end)

-- of the request that ends the other reading
kept_there : (says : ℕ → Head → Bool) (largest : ℕ) (users : List UserView) (k : ℕ) (bytes : List ℕ) (m : Taken) (rest : List ℕ) (e : CallsEnd) → AreLeftAs says largest users k bytes [] e → TakesCall largest users bytes m rest
    → e ≡ at_cut true → says k m.request.head ≡ false
kept_there says largest users k bytes m rest e u x cut = u m.request.head x.after x.head cut

pub one_reading : (says : ℕ → Head → Bool) (largest : ℕ) (users : List UserView) (k : ℕ) (bytes : List ℕ) (ms ns : List Taken) (e f : CallsEnd) → IsStreamFrom largest users k bytes ms e → AreLeftAs says largest users k bytes ms e
    → IsStreamFrom largest users k bytes ns f → AreLeftAs says largest users k bytes ns f → (ms ≡ ns) × (e ≡ f)
one_reading says largest users k bytes [] [] e f x u y v = (refl, one_ending largest users bytes e f x y)
one_reading says largest users k bytes [] (n ∷ ns) e f x u y v =
    absurd (no_call_at_end largest users bytes (says k n.request.head) e n y.0 (kept_there says largest users k bytes n y.0 e u y.1) v.0 x y.1)
one_reading says largest users k bytes (m ∷ ms) [] e f x u y v =
    absurd (no_call_at_end largest users bytes (says k m.request.head) f m x.0 (kept_there says largest users k bytes m x.0 f v x.1) u.0 y x.1)
one_reading says largest users k bytes (m ∷ ms) (n ∷ ns) e f (rest, takes, after) u (rest', takes', after') v =
    let heads = one_head bytes m.request.head n.request.head takes.after takes'.after takes.head takes'.head in
    let also : Agrees largest users (says k m.request.head) n = subst (λ (h : Head). Agrees largest users (says k h) n) (sym heads.0) v.0 in
    let first = one_call largest users bytes (says k m.request.head) m n rest rest' u.0 also takes takes' in
    let there : TakesCall largest users bytes n rest = subst (λ l. TakesCall largest users bytes n l) (sym first.1) takes' in
    let closed : (form_of k m.request.head m.fate).close ≡ (form_of k n.request.head n.fate).close = ap (λ (r : Taken). (form_of k r.request.head r.fate).close) first.0 in
    let moved : Follows largest users k (form_of k m.request.head m.fate).close rest ns f =
    subst (λ c. Follows largest users k c rest ns f) (sym closed) (subst (λ l. Follows largest users k (form_of k n.request.head n.fate).close l ns f) (sym first.1) after') in
    let others = same_after largest users k (form_of k m.request.head m.fate).close rest ms ns e f (λ stays a b. one_reading says largest users (suc k) rest ms ns e f a (u.1 rest takes stays) b (v.1 rest there (sym closed ∙ stays))) after moved in
    ((λ i. first.0 i ∷ others.0 i), others.1)

-- where the place alone says it
left_as : (left : ℕ → Bool) (largest : ℕ) (users : List UserView) (k : ℕ) (bytes : List ℕ) (ms : List Taken) (e : CallsEnd) → AreLeft left largest users k ms e → AreLeftAs (λ k head. left k) largest users k bytes ms e
left_as left largest users k bytes [] e u = λ head after begins. u
left_as left largest users k bytes (m ∷ ms) e u = (u.0, λ rest takes stays. left_as left largest users (suc k) rest ms e u.1)

pub one_stream : (left : ℕ → Bool) (largest : ℕ) (users : List UserView) (k : ℕ) (bytes : List ℕ) (ms ns : List Taken) (e f : CallsEnd) → IsStreamFrom largest users k bytes ms e → AreLeft left largest users k ms e
    → IsStreamFrom largest users k bytes ns f → AreLeft left largest users k ns f → (ms ≡ ns) × (e ≡ f)
one_stream left largest users k bytes ms ns e f x u y v =
    one_reading (λ k head. left k) largest users k bytes ms ns e f x (left_as left largest users k bytes ms e u) y (left_as left largest users k bytes ns f v)
