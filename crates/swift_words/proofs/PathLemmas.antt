-- One part more of a path, and one word more.
use Rattle.std.proofs.Common.{◌≡◌, ℕ, zero, suc, ◌+◌, ◌-◌, ◌<◌, ◌≤◌, true, false, List, [], ◌∷◌, ◌++◌, length, map, get_or, drop, Option, Some, None, refl, sym, ap, ◌∙◌, arith, append_assoc}
use Rattle.std.specs.Borrow.{Bor}
use Rattle.std.specs.List.{remove}
use Rattle.std.proofs.lemmas.List.{drop_more, drop_all, length_push, map-append, append-nil}
use Rattle.std.proofs.lemmas.List.Edits.{get_or-remove_below}
use Rattle.percent_encoding.specs.Percent.{percent_decode}
use Rattle.swift_words.specs.declared.fault.WordFault.{WordFault}
use Rattle.swift_words.specs.declared.target.Target.TheVariants.{Auth, Account, Container, Thing, Unknown}
use Rattle.swift_words.specs.Parts.{Tells, has_mark, before_mark, after_mark}
use Rattle.swift_words.specs.Targets.{last_part, parts_within, account_of, below_account, is_auth, named_by, limit_after, part_fault, parts_fault}

-- ---- parts

pub part_more : (left n : ℕ) (path : List ℕ) → left ≡ suc n → has_mark 47 path ≡ true
    → parts_within left path ≡ before_mark 47 path ∷ parts_within n (after_mark 47 path)
unfolding parts_within
part_more left n path is mark = rw (is, mark) refl

pub parts_end : (left : ℕ) (path : List ℕ) → has_mark 47 path ≡ false → parts_within left path ≡ last_part path
unfolding parts_within
parts_end zero path none = refl
parts_end (suc n) path none = rw none refl

pub parts_over : (left : ℕ) (path : List ℕ) → left ≡ 0 → parts_within left path ≡ last_part path
unfolding parts_within
parts_over left path is = rw is refl

-- ---- words

pub few_words : (words : List (List ℕ)) → length words < 3 → account_of words ≡ None
few_words [] few = refl
few_words (a ∷ []) few = refl
few_words (a ∷ b ∷ []) few = refl
few_words (a ∷ b ∷ c ∷ words) few = absurd (omega arith)

pub word_fault_here : (words : List (List ℕ)) (part : List ℕ) (left : List (List ℕ)) (fault : WordFault)
    → Tells (part_fault (limit_after words) part) fault → Tells (parts_fault words (part ∷ left)) fault
unfolding parts_fault
word_fault_here words part left fault told other = rw (told other) refl

pub word_fault_later : (words : List (List ℕ)) (part : List ℕ) (left : List (List ℕ)) → part_fault (limit_after words) part ≡ None
    → parts_fault words (part ∷ left) ≡ parts_fault (words ++ percent_decode part ∷ []) left
unfolding parts_fault
word_fault_later words part left none = rw none refl

-- ---- what the words name

pub named_auth : (words : List (List ℕ)) → account_of words ≡ None → is_auth words ≡ true → named_by words ≡ Auth
unfolding named_by
named_auth words none auth = rw (none, auth) refl

pub named_unknown : (words : List (List ℕ)) → account_of words ≡ None → is_auth words ≡ false → named_by words ≡ Unknown
unfolding named_by
named_unknown words none other = rw (none, other) refl

pub named_account : (words : List (List ℕ)) (account : List ℕ) → account_of words ≡ Some account → length words ≡ 3
    → named_by words ≡ Account account
unfolding named_by
named_account words account is three =
    rw is (ap (below_account account) (drop_all 3 words (omega arith)))

pub named_container : (words : List (List ℕ)) (account container : List ℕ) → account_of words ≡ Some account → length words ≡ 4
    → container ≡ get_or words 3 container → named_by words ≡ Container account container
unfolding named_by
named_container words account container is four at =
    rw is (ap (below_account account) (drop_more words 3 container (omega arith))
    ∙ ap (λ rest. below_account account (get_or words 3 container ∷ rest)) (drop_all 4 words (omega arith))
    ∙ ap (Container account) (sym at))

pub named_thing : (words : List (List ℕ)) (account container object : List ℕ) → account_of words ≡ Some account → 5 ≤ length words
    → container ≡ get_or (remove words 4) 3 container → object ≡ get_or words 4 object
    → named_by words ≡ Thing account container object
unfolding named_by
named_thing words account container object is five at_container at_object =
    let kept = get_or-remove_below words 4 container 3 (omega arith) (omega arith) in
    rw is (ap (below_account account) (drop_more words 3 container (omega arith))
    ∙ ap (λ rest. below_account account (get_or words 3 container ∷ rest)) (drop_more words 4 object (omega arith))
    ∙ ap (λ c. Thing account c (get_or words 4 object)) (sym (at_container ∙ kept))
    ∙ ap (Thing account container) (sym at_object))

-- ---- a loop over the parts

pub word_more : (words : List (List ℕ)) (part : List ℕ) (left : List (List ℕ))
    → (words ++ percent_decode part ∷ []) ++ map percent_decode left ≡ words ++ map percent_decode (part ∷ left)
word_more words part left = append_assoc words (percent_decode part ∷ []) (map percent_decode left)

pub account_words : (words : List (List ℕ)) (account : List ℕ) → account_of words ≡ Some account → 3 ≤ length words
account_words [] account is = cc
account_words (a ∷ []) account is = cc
account_words (a ∷ b ∷ []) account is = cc
account_words (a ∷ b ∷ c ∷ words) account is = omega arith

-- a part is put at the end, and the rest goes on behind its slash
pub parts_step : (parts new : List (Bor (List ℕ))) (part : Bor (List ℕ)) (rest after : List ℕ) (all : List (List ℕ))
    → length parts < 4 → new ≡ parts ++ part ∷ [] → has_mark 47 rest ≡ true → part.now ≡ before_mark 47 rest
    → after ≡ after_mark 47 rest → map (λ p. p.now) parts ++ parts_within (4 - length parts) rest ≡ all
    → map (λ p. p.now) new ++ parts_within (4 - length new) after ≡ all
parts_step parts new part rest after all few put mark at_part at_after before =
    let fewer : 4 - length parts ≡ suc (4 - (length parts + 1)) = omega arith in
    let parted = part_more (4 - length parts) (4 - (length parts + 1)) rest fewer mark in
    rw (put, map-append, length_push, at_after)
    (append_assoc (map (λ p. p.now) parts) (part.now ∷ []) (parts_within (4 - (length parts + 1)) (after_mark 47 rest))
    ∙ ap (λ p. map (λ p. p.now) parts ++ p ∷ parts_within (4 - (length parts + 1)) (after_mark 47 rest)) at_part
    ∙ ap (λ p. map (λ p. p.now) parts ++ p) (sym parted)
    ∙ before)

pub parts_cut : (parts : List (Bor (List ℕ))) (rest : List ℕ) (all : List (List ℕ)) → has_mark 47 rest ≡ false
    → map (λ p. p.now) parts ++ parts_within (4 - length parts) rest ≡ all → map (λ p. p.now) parts ++ last_part rest ≡ all
parts_cut parts rest all none before =
    ap (λ p. map (λ p. p.now) parts ++ p) (sym (parts_end (4 - length parts) rest none)) ∙ before

pub parts_full : (parts : List (Bor (List ℕ))) (rest : List ℕ) (all : List (List ℕ)) → 4 ≤ length parts
    → map (λ p. p.now) parts ++ parts_within (4 - length parts) rest ≡ all → map (λ p. p.now) parts ++ last_part rest ≡ all
parts_full parts rest all many before =
    ap (λ p. map (λ p. p.now) parts ++ p) (sym (parts_over (4 - length parts) rest (omega arith))) ∙ before

-- the word of the next part
pub next_part : (parts : List (Bor (List ℕ))) (i : ℕ) (d : Bor (List ℕ)) → i < length parts
    → map (λ p. p.now) (drop i parts) ≡ (get_or parts i d).now ∷ map (λ p. p.now) (drop (i + 1) parts)
next_part parts i d lt = ap (map (λ p. p.now)) (drop_more parts i d lt)

pub fault_step : (words new left rest : List (List ℕ)) (limit : Option ℕ) (part word : List ℕ) (all : Option WordFault)
    → left ≡ part ∷ rest → limit ≡ limit_after words → part_fault limit part ≡ None → word ≡ percent_decode part
    → new ≡ words ++ word ∷ [] → parts_fault words left ≡ all → parts_fault new rest ≡ all
fault_step words new left rest limit part word all turn bound none is put before =
    rw (put, is)
    (sym (word_fault_later words part rest (rw bound at none)) ∙ sym (ap (parts_fault words) turn) ∙ before)

pub words_step : (words new left rest : List (List ℕ)) (part word : List ℕ) (all : List (List ℕ))
    → left ≡ part ∷ rest → word ≡ percent_decode part → new ≡ words ++ word ∷ []
    → words ++ map percent_decode left ≡ all → new ++ map percent_decode rest ≡ all
words_step words new left rest part word all turn is put before =
    rw (put, is) (word_more words part rest ∙ sym (ap (λ parts. words ++ map percent_decode parts) turn) ∙ before)

pub fault_turn : (words left rest : List (List ℕ)) (limit : Option ℕ) (part : List ℕ) (fault : WordFault) (all : Option WordFault)
    → left ≡ part ∷ rest → limit ≡ limit_after words → Tells (part_fault limit part) fault → parts_fault words left ≡ all
    → Tells all fault
fault_turn words left rest limit part fault all turn bound told before other =
    sym before ∙ ap (parts_fault words) turn ∙ word_fault_here words part rest fault (λ o. rw bound at (told o)) other

pub fault_end : (words left : List (List ℕ)) (all : Option WordFault) → left ≡ [] → parts_fault words left ≡ all → all ≡ None
unfolding parts_fault
fault_end words left all none before = sym before ∙ ap (parts_fault words) none

pub words_end : (words left all : List (List ℕ)) → left ≡ [] → words ++ map percent_decode left ≡ all → words ≡ all
words_end words left all none before =
    sym (append-nil words) ∙ ap (λ parts. words ++ map percent_decode parts) (sym none) ∙ before
