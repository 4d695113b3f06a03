-- Tags in bytes.
use Rattle.std.proofs.Common.{◌≡◌, ℕ, zero, suc, ◌+◌, ◌-◌, ◌*◌, ◌<◌, ◌≤◌, ◌&&◌, true, false, nat_lt, List, [], ◌∷◌, ◌++◌, length, take, drop, get_or, refl, sym, ap, ap₂, ◌∙◌, arith, subst, append_assoc, length-append}
use Rattle.std.specs.List.{AllByRecursion}
use Rattle.std.proofs.lemmas.List.{drop-drop, drop_at, length-drop, get_or-drop, take_more, append-nil}
use Rattle.std.proofs.lemmas.Bool.Decides.{nat_tests}
use Rattle.object_words.specs.declared.entry.Tag.{Tag}
use Rattle.object_words.specs.Tags.{tags_rise}
use Rattle.index_entry.specs.Numbers.{number_bytes}
use Rattle.index_entry.specs.Layouts.{IsTag, tag_bytes, tags_bytes}
use Rattle.index_entry.proofs.PieceLemmas.{AreBytes, a_number, length-number_bytes}

pub length-tag_bytes : (t : Tag) → length (tag_bytes t) ≡ 16
length-tag_bytes t = omega (arith, length-append (number_bytes t.tag) (number_bytes t.deadline), length-number_bytes t.tag, length-number_bytes t.deadline)

pub length-tags_bytes : (ts : List Tag) → length (tags_bytes ts) ≡ 16 * length ts
length-tags_bytes [] = refl
length-tags_bytes (t ∷ ts) = let rest = length-tags_bytes ts in omega (arith, rest, length-append (tag_bytes t) (tags_bytes ts), length-tag_bytes t)

drop_none : (n : ℕ) → drop {A = ℕ} n [] ≡ []
drop_none zero = refl
drop_none (suc n) = refl

pub drop-tags_bytes : (i : ℕ) (ts : List Tag) → drop (16 * i) (tags_bytes ts) ≡ tags_bytes (drop i ts)
drop-tags_bytes zero ts = refl
drop-tags_bytes (suc i) [] = drop_none (16 * suc i)
drop-tags_bytes (suc i) (t ∷ ts) =
    let split : 16 * suc i ≡ 16 + 16 * i = omega arith in
    ap (λ z. drop z (tag_bytes t ++ tags_bytes ts)) split ∙ sym (drop-drop (16 * i) 16 (tag_bytes t ++ tags_bytes ts))
    ∙ ap (drop (16 * i)) (drop_at (tag_bytes t) (tags_bytes ts) 16 (length-tag_bytes t)) ∙ drop-tags_bytes i ts

rest_fit : (n : ℕ) (ts : List Tag) → AllByRecursion IsTag ts → AllByRecursion IsTag (drop n ts)
rest_fit zero ts fit = fit
rest_fit (suc n) [] fit = tt
rest_fit (suc n) (t ∷ ts) fit = rest_fit n ts fit.1

first_read : (bs : List ℕ) (at : ℕ) (ts : List Tag) (x d : Tag) → AllByRecursion IsTag ts → 0 < length ts → drop at bs ≡ tags_bytes ts
    → ((t : Tag) (rest : List ℕ) → IsTag t → drop at bs ≡ tag_bytes t ++ rest → x ≡ t) → x ≡ get_or ts 0 d
first_read bs at [] x d fit some here read = absurd (omega (arith, some))
first_read bs at (t ∷ ts) x d fit some here read = read t (tags_bytes ts) fit.0 here

get_or-first : (ts : List Tag) (place : ℕ) (d : Tag) → get_or (drop place ts) 0 d ≡ get_or ts place d
get_or-first ts zero d = refl
get_or-first [] (suc place) d = refl
get_or-first (t ∷ ts) (suc place) d = get_or-first ts place d

-- the tag that is read at a place of tags
pub tag_read : (bs : List ℕ) (start at place : ℕ) (ts : List Tag) (x d : Tag) → AllByRecursion IsTag ts → place < length ts → drop start bs ≡ tags_bytes ts → at ≡ start + 16 * place
    → ((t : Tag) (rest : List ℕ) → IsTag t → drop at bs ≡ tag_bytes t ++ rest → x ≡ t) → x ≡ get_or ts place d
tag_read bs start at place ts x d fit some here there read =
    let e : drop at bs ≡ tags_bytes (drop place ts) = ap (λ z. drop z bs) there ∙ sym (drop-drop (16 * place) start bs) ∙ ap (drop (16 * place)) here ∙ drop-tags_bytes place ts in
    first_read bs at (drop place ts) x d (rest_fit place ts fit) (omega (arith, length-drop place ts)) e read ∙ get_or-first ts place d

-- one comparison
pub rise_step : (ts : List Tag) (p : ℕ) (d : Tag) → p + 1 < length ts → tags_rise (drop p ts) ≡ (nat_lt (get_or ts p d).tag (get_or ts (p + 1) d).tag && tags_rise (drop (p + 1) ts))
rise_step [] p d some = absurd (omega (arith, some))
rise_step (t ∷ []) p d some = absurd (omega (arith, some))
rise_step (t ∷ u ∷ ts) zero d some = refl
rise_step (t ∷ u ∷ ts) (suc p) d some = let e : suc p + 1 ≡ suc (p + 1) = omega arith in rw e (rise_step (u ∷ ts) p d (omega (arith, some)))

pub rise_last : (ts : List Tag) (p : ℕ) → length ts ≤ p + 1 → tags_rise (drop p ts) ≡ true
rise_last [] zero few = refl
rise_last [] (suc p) few = refl
rise_last (t ∷ []) zero few = refl
rise_last (t ∷ u ∷ ts) zero few = absurd (omega (arith, few))
rise_last (t ∷ ts) (suc p) few = rise_last ts p (omega (arith, few))

-- bytes of whole tags are tags
pub record AreTags (bs : List ℕ) (n : ℕ) : Type 0 where
  pub tags : List Tag
  pub fit : AllByRecursion IsTag tags
  pub count : length tags ≡ n
  pub here : bs ≡ tags_bytes tags

pub some_tags : (n : ℕ) (bs : List ℕ) → AreBytes bs → length bs ≡ 16 * n → AreTags bs n
some_tags zero [] fit long = record { tags = []; fit = tt; count = refl; here = refl }
some_tags zero (b ∷ bs) fit long = absurd (omega (arith, long))
some_tags (suc n) bs fit long =
    let a = a_number bs 0 fit (omega (arith, long)) in
    let b = a_number bs 8 fit (omega (arith, long)) in
    let more = some_tags n (drop 16 bs) (λ i. omega (arith, fit (16 + i), get_or-drop 16 bs i 0)) (omega (arith, long, length-drop 16 bs)) in
    record {
      tags = record { tag = a.number; deadline = b.number } ∷ more.tags;
      fit = ((a.fits, b.fits), more.fit);
      count = omega (arith, more.count);
      here = a.read ∙ ap (λ z. number_bytes a.number ++ z) (b.read ∙ ap (λ z. number_bytes b.number ++ z) more.here) ∙ sym (append_assoc (number_bytes a.number) (number_bytes b.number) (tags_bytes more.tags));
    }

below : (a b : ℕ) → a < b → nat_lt a b ≡ true
below a b h = grind (arith, nat_tests)

not_below : (a b : ℕ) → b ≤ a → nat_lt a b ≡ false
not_below a b h = grind (arith, nat_tests)

rise_at : (ts : List Tag) (place : ℕ) (x y d : Tag) → 1 ≤ place → place < length ts → x ≡ get_or ts (place - 1) d → y ≡ get_or ts place d
    → tags_rise (drop (place - 1) ts) ≡ (nat_lt x.tag y.tag && tags_rise (drop place ts))
rise_at ts place x y d some less ex ey =
    let e : place - 1 + 1 ≡ place = omega arith in
    rise_step ts (place - 1) d (omega arith) ∙ ap (λ k. nat_lt (get_or ts (place - 1) d).tag (get_or ts k d).tag && tags_rise (drop k ts)) e
    ∙ ap₂ (λ (u v : Tag). nat_lt u.tag v.tag && tags_rise (drop place ts)) (sym ex) (sym ey)

-- a comparison that holds is passed
pub rise_kept : (ts : List Tag) (place : ℕ) (x y d : Tag) → 1 ≤ place → place < length ts → x ≡ get_or ts (place - 1) d → y ≡ get_or ts place d
    → x.tag < y.tag → tags_rise (drop (place - 1) ts) ≡ tags_rise (drop place ts)
rise_kept ts place x y d some less ex ey h = rise_at ts place x y d some less ex ey ∙ ap (λ b. b && tags_rise (drop place ts)) (below x.tag y.tag h)

-- a comparison that does not hold settles it
pub rise_lost : (ts : List Tag) (place : ℕ) (x y d : Tag) → 1 ≤ place → place < length ts → x ≡ get_or ts (place - 1) d → y ≡ get_or ts place d
    → y.tag ≤ x.tag → tags_rise (drop (place - 1) ts) ≡ false
rise_lost ts place x y d some less ex ey h = rise_at ts place x y d some less ex ey ∙ ap (λ b. b && tags_rise (drop place ts)) (not_below x.tag y.tag h)

pub tags_bytes-append : (ts us : List Tag) → tags_bytes (ts ++ us) ≡ tags_bytes ts ++ tags_bytes us
tags_bytes-append [] us = refl
tags_bytes-append (t ∷ ts) us = ap (λ z. tag_bytes t ++ z) (tags_bytes-append ts us) ∙ sym (append_assoc (tag_bytes t) (tags_bytes ts) (tags_bytes us))

-- one tag more behind a front
pub one_tag_more : (front bytes : List ℕ) (ts : List Tag) (place : ℕ) (d : Tag) → place < length ts
    → bytes ≡ front ++ tags_bytes (take place ts) → bytes ++ tag_bytes (get_or ts place d) ≡ front ++ tags_bytes (take (place + 1) ts)
one_tag_more front bytes ts place d some here =
    let t = get_or ts place d in
    let more : tags_bytes (take (place + 1) ts) ≡ tags_bytes (take place ts) ++ tag_bytes t =
    ap tags_bytes (take_more ts place d some) ∙ tags_bytes-append (take place ts) (t ∷ []) ∙ ap (λ z. tags_bytes (take place ts) ++ z) (append-nil (tag_bytes t)) in
    ap (λ z. z ++ tag_bytes t) here ∙ append_assoc front (tags_bytes (take place ts)) (tag_bytes t) ∙ ap (λ z. front ++ z) (sym more)

AllByRecursion-push : (ts : List Tag) (t : Tag) → AllByRecursion IsTag ts → IsTag t → AllByRecursion IsTag (ts ++ t ∷ [])
AllByRecursion-push [] t all fits = (fits, tt)
AllByRecursion-push (u ∷ us) t all fits = (all.0, AllByRecursion-push us t all.1 fits)

pub one_tag_fits : (ts : List Tag) (place : ℕ) (d : Tag) → place < length ts → AllByRecursion IsTag (take place ts) → IsTag (get_or ts place d) → AllByRecursion IsTag (take (place + 1) ts)
one_tag_fits ts place d some all fits =
    subst (AllByRecursion IsTag) (sym (take_more ts place d some)) (AllByRecursion-push (take place ts) (get_or ts place d) all fits)
