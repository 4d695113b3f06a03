-- Tags of which those that are due go, from the last one on.
use Rattle.std.proofs.Common.{◌≡◌, ℕ, zero, suc, ◌+◌, ◌-◌, ◌<◌, ◌≤◌, not, ◌||◌, true, false, cond, true≢false, List, [], ◌∷◌, ◌++◌, length, take, drop, get_or, Some, refl, sym, ap, ◌∙◌, subst, arith}
use Rattle.std.specs.List.{remove}
use Rattle.std.proofs.lemmas.List.Edits.{length-remove}
use Rattle.std.proofs.lemmas.Bool.Decides.{nat_tests}
use Rattle.object_words.specs.declared.entry.Tag.{Tag}
use Rattle.omap_pages.specs.Contents.{Contents}
use Rattle.object_words.specs.Entries.{EntryView}
use Rattle.index_entry.specs.declared.entry.EntryFront.{EntryFront}
use Rattle.index_entry.specs.Layouts.{front_of}
use Rattle.class_words.specs.Shards.{HasEntry}
use Rattle.object_words.specs.Tags.{has_due, is_due, tags_due_taken}

-- the first tags, and those of the others that are not due
abbrev pub tags_left : ℕ → ℕ → List Tag → List Tag
tags_left moment place ts = take place ts ++ tags_due_taken moment (drop place ts)

pub due : (moment : ℕ) (t : Tag) → t.deadline ≤ moment → is_due moment t ≡ true
due moment t h = grind (arith, nat_tests)

pub not_due : (moment : ℕ) (t : Tag) → moment < t.deadline → is_due moment t ≡ false
not_due moment t h = grind (arith, nat_tests)

pub left_all : (moment : ℕ) (ts : List Tag) → tags_left moment (length ts) ts ≡ ts
left_all moment [] = refl
left_all moment (t ∷ ts) = ap (λ l. t ∷ l) (left_all moment ts)

pub left_kept : (moment place : ℕ) (ts : List Tag) (d : Tag) → place < length ts → is_due moment (get_or ts place d) ≡ false → tags_left moment (suc place) ts ≡ tags_left moment place ts
left_kept moment place [] d some kept = absurd (omega (arith, some))
left_kept moment zero (t ∷ ts) d some kept = rw kept refl
left_kept moment (suc place) (t ∷ ts) d some kept = ap (λ l. t ∷ l) (left_kept moment place ts d (omega (arith, some)) kept)

pub left_gone : (moment place : ℕ) (ts : List Tag) (d : Tag) → place < length ts → is_due moment (get_or ts place d) ≡ true → remove (tags_left moment (suc place) ts) place ≡ tags_left moment place ts
left_gone moment place [] d some gone = absurd (omega (arith, some))
left_gone moment zero (t ∷ ts) d some gone = rw gone refl
left_gone moment (suc place) (t ∷ ts) d some gone = ap (λ l. t ∷ l) (left_gone moment place ts d (omega (arith, some)) gone)

pub left_at : (moment place : ℕ) (ts : List Tag) (d : Tag) → place < length ts → get_or (tags_left moment (suc place) ts) place d ≡ get_or ts place d
left_at moment place [] d some = absurd (omega (arith, some))
left_at moment zero (t ∷ ts) d some = refl
left_at moment (suc place) (t ∷ ts) d some = left_at moment place ts d (omega (arith, some))

pub left_long : (moment place : ℕ) (ts : List Tag) → place < length ts → place < length (tags_left moment (suc place) ts)
left_long moment place [] some = absurd (omega (arith, some))
left_long moment zero (t ∷ ts) some = omega arith
left_long moment (suc place) (t ∷ ts) some = let rest = left_long moment place ts (omega (arith, some)) in omega (arith, rest)

-- where some tag is due, fewer are left
pub fewer_left : (moment : ℕ) (ts : List Tag) → length (tags_due_taken moment ts) ≤ length ts
fewer_left moment [] = omega arith
fewer_left moment (t ∷ ts) =
    let rest = fewer_left moment ts in
    elim (is_due moment t) as (λ b. length (cond (not b) (t ∷ tags_due_taken moment ts) (tags_due_taken moment ts)) ≤ suc (length ts)) [
      | true ↦ omega (arith, rest)
      | false ↦ omega (arith, rest)
    ]

pub some_due : (moment : ℕ) (ts : List Tag) → has_due moment ts ≡ true → length (tags_due_taken moment ts) < length ts
some_due moment [] here = absurd (true≢false (sym here))
some_due moment (t ∷ ts) here =
    let rest = fewer_left moment ts in
    elim (is_due moment t) as (λ b. (b || has_due moment ts) ≡ true → length (cond (not b) (t ∷ tags_due_taken moment ts) (tags_due_taken moment ts)) < suc (length ts)) [
      | true ↦ λ h. omega (arith, rest)
      | false ↦ λ h. let more = some_due moment ts h in omega (arith, more)
    ] here

-- a step at which a tag is due, and one at which it is not
pub step_gone : (c : Contents) (name : List ℕ) (e : EntryView) (moment taken place : ℕ) (l : EntryFront) (d : Tag) → place < length e.tags → length e.tags - taken ≡ suc place → length e.tags - (taken + 1) ≡ place
    → l ≡ front_of (record e { tags = tags_left moment (length e.tags - taken) e.tags }) → is_due moment (get_or e.tags place d) ≡ true → HasEntry c name (Some (record e { tags = remove (tags_left moment (suc place) e.tags) place }))
    → HasEntry c name (Some (record e { tags = tags_left moment (length e.tags - (taken + 1)) e.tags })) × (record l { tags = l.tags - 1 } ≡ front_of (record e { tags = tags_left moment (length e.tags - (taken + 1)) e.tags }))
step_gone c name e moment taken place l d some before after read gone has =
    let left = left_gone moment place e.tags d some gone ∙ ap (λ n. tags_left moment n e.tags) (sym after) in
    let long : place < length (tags_left moment (suc place) e.tags) = left_long moment place e.tags some in
    let less = length-remove (tags_left moment (suc place) e.tags) place long in
    let read' : l ≡ front_of (record e { tags = tags_left moment (suc place) e.tags }) = read ∙ ap (λ n. front_of (record e { tags = tags_left moment n e.tags })) before in
    let n : length (remove (tags_left moment (suc place) e.tags) place) ≡ length (tags_left moment (length e.tags - (taken + 1)) e.tags) = ap length left in
    let count : l.tags - 1 ≡ length (tags_left moment (length e.tags - (taken + 1)) e.tags) = let m = ap (λ (f : EntryFront). f.tags) read' in omega (arith, m, n, less) in
    (subst (λ ts. HasEntry c name (Some (record e { tags = ts }))) left has, λ i. record (read' i) { tags = count i })

pub step_kept : (c : Contents) (name : List ℕ) (e : EntryView) (moment taken place : ℕ) (l : EntryFront) (d : Tag) → place < length e.tags → length e.tags - taken ≡ suc place → length e.tags - (taken + 1) ≡ place
    → l ≡ front_of (record e { tags = tags_left moment (length e.tags - taken) e.tags }) → is_due moment (get_or e.tags place d) ≡ false → HasEntry c name (Some (record e { tags = tags_left moment (length e.tags - taken) e.tags }))
    → HasEntry c name (Some (record e { tags = tags_left moment (length e.tags - (taken + 1)) e.tags })) × (l ≡ front_of (record e { tags = tags_left moment (length e.tags - (taken + 1)) e.tags }))
step_kept c name e moment taken place l d some before after read kept has =
    let same = ap (λ n. tags_left moment n e.tags) before ∙ left_kept moment place e.tags d some kept ∙ ap (λ n. tags_left moment n e.tags) (sym after) in
    (subst (λ ts. HasEntry c name (Some (record e { tags = ts }))) same has, read ∙ ap (λ ts. front_of (record e { tags = ts })) same)
