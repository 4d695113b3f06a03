-- The words of a line are no longer than the line.
use Rattle.std.proofs.Common.{⊎_elim, ℕ, ◌+◌, ◌≤◌, Bool, true, false, cond, List, [], ◌∷◌, length, codes, sym, ap, subst, arith}
use Rattle.std.proofs.lemmas.List.{length-replicate}
use Rattle.std.specs.List.{AllByRecursion, slice_split, onto_first}
use Rattle.task_put.specs.Bodies.{most_bytes}
use Rattle.script_words.specs.Bodies.{body_bytes, filler}
use Rattle.script_words.specs.Lines.{is_blank, words_of, IsBody, IsVerb, IsLine}
use Rattle.script_words.specs.declared.line.Line.TheVariants.{Start, Do}
use Rattle.script_words.specs.declared.line.ScriptBody.{ScriptBody}
use Rattle.script_words.specs.declared.line.ScriptBody.TheVariants.{Word, Times}
use Rattle.script_words.specs.declared.line.Verb.{Verb}
use Rattle.script_words.specs.declared.line.Verb.TheVariants.{Put}
use Rattle.script_player.specs.Requests.{HasFewBytes}

abbrev AreUpTo : ℕ → List (List ℕ) → Type 0
AreUpTo most words = AllByRecursion (λ w. length w ≤ most) words

longer : (most n : ℕ) (words : List (List ℕ)) → most ≤ n → AreUpTo most words → AreUpTo n words
longer most n [] more all = tt
longer most n (w ∷ ws) more all = (omega (arith, more, all.0), longer most n ws more all.1)

first_longer : (most n x : ℕ) (words : List (List ℕ)) → most + 1 ≤ n → AreUpTo most words → AreUpTo n (onto_first x words)
first_longer most n x [] more all = (omega (arith, more), tt)
first_longer most n x (w ∷ ws) more all = (omega (arith, more, all.0), longer most n ws (omega (arith, more)) all.1)

parts_up_to : (p : ℕ → Bool) (line : List ℕ) → AreUpTo (length line) (slice_split p line)
parts_up_to p [] = (omega arith, tt)
parts_up_to p (x ∷ xs) =
    let rest = parts_up_to p xs in
    elim (p x) as (λ b. AreUpTo (length (x ∷ xs)) (cond b ([] ∷ slice_split p xs) (onto_first x (slice_split p xs)))) [
      | true ↦ (omega arith, longer (length xs) (length (x ∷ xs)) (slice_split p xs) (omega arith) rest)
      | false ↦ first_longer (length xs) (length (x ∷ xs)) x (slice_split p xs) (omega arith) rest
    ]

body_few : (word : List ℕ) (body : ScriptBody) → length word ≤ most_bytes → IsBody word body → length (body_bytes body) ≤ most_bytes
body_few word (Word bytes) few is =
    ⊎_elim
    (λ none. let long = ap length none.1 in omega (arith, long))
    (λ plain. subst (λ l. length l ≤ most_bytes) (sym plain.1) few)
    is
body_few word (Times n) few is =
    let most = is.3 in
    let long = length-replicate {A = ℕ} n filler in
    omega (arith, most, long)

third : (a b c : List ℕ) → AreUpTo most_bytes (a ∷ b ∷ c ∷ []) → length c ≤ most_bytes
third a b c all = all.1.1.0

behind : (a : List ℕ) (words : List (List ℕ)) → AreUpTo most_bytes (a ∷ words) → AreUpTo most_bytes words
behind a words all = all.1

verb_few : (words : List (List ℕ)) (verb : Verb) → AreUpTo most_bytes words → IsVerb words verb → HasFewBytes verb
verb_few words (Put container name body) all is =
    body_few is.1 body (third (codes "put") is.0 is.1 (subst (AreUpTo most_bytes) is.2 all)) is.4
verb_few words verb all is = tt

pub start_few : (zones : ℕ) (bytes actor : List ℕ) (zone : ℕ) (verb : Verb) → length bytes ≤ most_bytes → IsLine zones bytes (Start actor zone verb) → HasFewBytes verb
start_few zones bytes actor zone verb few is =
    let all = longer (length bytes) most_bytes (words_of bytes) few (parts_up_to is_blank bytes) in
    verb_few is.1 verb
    (behind is.0 is.1 (behind actor (is.0 ∷ is.1) (behind (codes "start") (actor ∷ is.0 ∷ is.1) (subst (AreUpTo most_bytes) is.2 all)))) is.5

pub do_few : (zones : ℕ) (bytes : List ℕ) (zone : ℕ) (verb : Verb) → length bytes ≤ most_bytes → IsLine zones bytes (Do zone verb) → HasFewBytes verb
do_few zones bytes zone verb few is =
    let all = longer (length bytes) most_bytes (words_of bytes) few (parts_up_to is_blank bytes) in
    verb_few is.1 verb
    (behind is.0 is.1 (behind (codes "do") (is.0 ∷ is.1) (subst (AreUpTo most_bytes) is.2 all))) is.4
