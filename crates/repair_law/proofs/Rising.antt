-- Entries by rising name: what is found in them, and on a page of them.
use Rattle.std.proofs.Common.{◌≡◌, ◌⊎◌, ⊎_elim, ℕ, zero, suc, Bool, true, false, cond, T, List, [], ◌∷◌, take, Some, None, refl, sym, ◌∙◌, ap, subst, arith}
use Rattle.std.specs.List.{AllByRecursion, filter}
use Rattle.std.specs.Ordering.{is_lt, is_eq, eq_by_cmp}
use Rattle.std.specs.declared.cmp.Ordering.{Ordering}
use Rattle.std.specs.declared.cmp.Ordering.TheVariants.{Less, Equal, Greater}
use Rattle.std.specs.FinMap.{nat_cmp-IsAntisymmetric, slice_cmp-IsAntisymmetric}
use Rattle.std.specs.FinMap.Entries.{find, where_key, below_all, is_sorted, find-where_key, is_sorted-where_key}
use Rattle.std.proofs.lemmas.Bool.{and_parts, and_from, both_ways}
use Rattle.std.proofs.lemmas.Bool.Decides.{nat_tests}
use Rattle.std.proofs.lemmas.List.{take_all}
use Rattle.object_words.specs.Entries.{EntryView}
use Rattle.object_words.specs.Names.{name_cmp, at, entries, where_name}
use Rattle.object_words.specs.Shards.{Shard}
use Rattle.object_words.specs.ShardCalls.{page_of}
use Rattle.object_words.proofs.KeyLemmas.{same_text}
use Rattle.object_words.proofs.NameLemmas.{name_itself}
use Rattle.task_repair.specs.Repairs.{last_name}

abbrev pub Rows : Type 0
Rows = List (List ℕ × EntryView)

-- the first name is the lower one
abbrev pub is_before : List ℕ → List ℕ → Bool
is_before n m = is_lt (name_cmp n m)

truth : (b : Bool) → T b → b ≡ true
truth true p = refl
truth false p = absurd p

-- ---- lists whose names rise

-- each name is below those behind it
abbrev pub Rises : Rows → Type 0
Rises [] = Unit {0}
Rises (e ∷ es) = AllByRecursion (λ f. is_before e.0 f.0 ≡ true) es × Rises es

above_all : (n : List ℕ) (es : Rows) → below_all name_cmp n es ≡ true → AllByRecursion (λ e. is_before n e.0 ≡ true) es
above_all n [] below = tt
above_all n (e ∷ es) below =
    let parts = and_parts (is_before n e.0) (below_all name_cmp n es) below in (parts.0, above_all n es parts.1)

rises : (es : Rows) → is_sorted name_cmp es ≡ true → Rises es
rises [] rise = tt
rises (e ∷ es) rise =
    let parts = and_parts (below_all name_cmp e.0 es) (is_sorted name_cmp es) rise in (above_all e.0 es parts.0, rises es parts.1)

module _ {X : Type 0} (P : X → Type 0) where
  pub all_kept : (test : X → Bool) (xs : List X) → AllByRecursion P xs → AllByRecursion P (filter test xs)
  all_kept test [] all = tt
  all_kept test (x ∷ xs) all =
      elim (test x) as (λ b. AllByRecursion P (cond b (x ∷ filter test xs) (filter test xs))) [
        | true ↦ (all.0, all_kept test xs all.1)
        | false ↦ all_kept test xs all.1
      ]

  pub all_first : (k : ℕ) (xs : List X) → AllByRecursion P xs → AllByRecursion P (take k xs)
  all_first zero xs all = tt
  all_first (suc k) [] all = tt
  all_first (suc k) (x ∷ xs) all = (all.0, all_first k xs all.1)

pub rises_kept : (test : List ℕ × EntryView → Bool) (es : Rows) → Rises es → Rises (filter test es)
rises_kept test [] rise = tt
rises_kept test (e ∷ es) rise =
    elim (test e) as (λ b. Rises (cond b (e ∷ filter test es) (filter test es))) [
      | true ↦ (all_kept (λ f. is_before e.0 f.0 ≡ true) test es rise.0, rises_kept test es rise.1)
      | false ↦ rises_kept test es rise.1
    ]

rises_first : (k : ℕ) (es : Rows) → Rises es → Rises (take k es)
rises_first zero es rise = tt
rises_first (suc k) [] rise = tt
rises_first (suc k) (e ∷ es) rise = (all_first (λ f. is_before e.0 f.0 ≡ true) k es rise.0, rises_first k es rise.1)

-- a name is not below itself
pub before_apart : (n m : List ℕ) → is_before n m ≡ true → n ≡ m → ⊥
before_apart n m before same =
    let tied = subst (λ t. eq_by_cmp name_cmp n t ≡ true) same (name_itself n) in
    by_order (name_cmp n m) before tied
  where
    by_order : (o : Ordering) → is_lt o ≡ true → is_eq o ≡ true → ⊥
    by_order Less lt eq = cc
    by_order Equal lt eq = cc
    by_order Greater lt eq = cc

-- ---- what is found

absent : (n q : List ℕ) (es : Rows) → below_all name_cmp n es ≡ true → is_before n q ≡ false → find name_cmp q es ≡ None
absent n q [] below upto = refl
absent n q (e ∷ es) below upto =
    let parts = and_parts (is_before n e.0) (below_all name_cmp n es) below in
    elim (eq_by_cmp name_cmp q e.0) as (λ b. eq_by_cmp name_cmp q e.0 ≡ b → cond b (Some e.1) (find name_cmp q es) ≡ None) [
      | true ↦ λ tied. absurd (both_ways _ upto (subst (λ m. is_before n m ≡ true) (sym (same_text q e.0 tied)) parts.0))
      | false ↦ λ apart. absent n q es parts.1 upto
    ] refl

-- what is not above the last of the first ones is found among them
found_first : (a : List ℕ) (k : ℕ) (es : Rows) (n : List ℕ) → below_all name_cmp a es ≡ true → is_sorted name_cmp es ≡ true → is_before (last_name a (take k es)) n ≡ false → find name_cmp n (take k es) ≡ find name_cmp n es
found_first a zero es n below rise upto = sym (absent a n es below upto)
found_first a (suc k) [] n below rise upto = refl
found_first a (suc k) (e ∷ es) n below rise upto =
    let parts = and_parts (below_all name_cmp e.0 es) (is_sorted name_cmp es) rise in
    ap (cond (eq_by_cmp name_cmp n e.0) (Some e.1)) (found_first e.0 k es n parts.0 parts.1 upto)

below_kept : (a : List ℕ) (es : Rows) → below_all name_cmp a (where_key name_cmp (λ n. is_before a n) es) ≡ true
below_kept a [] = refl
below_kept a (e ∷ es) =
    elim (is_before a e.0) as (λ b. is_before a e.0 ≡ b → below_all name_cmp a (cond b (e ∷ where_key name_cmp (λ n. is_before a n) es) (where_key name_cmp (λ n. is_before a n) es)) ≡ true) [
      | true ↦ λ is. and_from _ _ is (below_kept a es)
      | false ↦ λ no. below_kept a es
    ] refl

-- each entry is found under its name
found_later : (e : List ℕ × EntryView) (es xs : Rows) → AllByRecursion (λ x. is_before e.0 x.0 ≡ true) xs → AllByRecursion (λ x. find name_cmp x.0 es ≡ Some x.1) xs → AllByRecursion (λ x. find name_cmp x.0 (e ∷ es) ≡ Some x.1) xs
found_later e es [] above there = tt
found_later e es (x ∷ xs) above there =
    let here : cond (eq_by_cmp name_cmp x.0 e.0) (Some e.1) (find name_cmp x.0 es) ≡ Some x.1 =
    elim (eq_by_cmp name_cmp x.0 e.0) as (λ b. eq_by_cmp name_cmp x.0 e.0 ≡ b → cond b (Some e.1) (find name_cmp x.0 es) ≡ Some x.1) [
      | true ↦ λ tied. absurd (before_apart e.0 x.0 above.0 (sym (same_text x.0 e.0 tied)))
      | false ↦ λ apart. there.0
    ] refl in
    (here, found_later e es xs above.1 there.1)

found_all : (es : Rows) → Rises es → AllByRecursion (λ e. find name_cmp e.0 es ≡ Some e.1) es
found_all [] rise = tt
found_all (e ∷ es) rise = (ap (λ b. cond b (Some e.1) (find name_cmp e.0 es)) (name_itself e.0), found_later e es es rise.0 (found_all es rise.1))

-- what holds of the entries that pass a test holds of one that is found
pub found_passes : (P : List ℕ × EntryView → Type 0) (test : List ℕ × EntryView → Bool) (es : Rows) (n : List ℕ) (x : EntryView) → AllByRecursion P (filter test es) → find name_cmp n es ≡ Some x → test (n, x) ≡ true → P (n, x)
found_passes P test [] n x all found passes = cc
found_passes P test (e ∷ es) n x all found passes =
    elim (eq_by_cmp name_cmp n e.0) as (λ b. eq_by_cmp name_cmp n e.0 ≡ b → cond b (Some e.1) (find name_cmp n es) ≡ Some x → P (n, x)) [
      | true ↦ λ tied here.
          let name = sym (same_text n e.0 tied) in
          let value : e.1 ≡ x = cc in
          let same : e ≡ (n, x) = λ i. (name i, value i) in
          let kept : AllByRecursion P (cond true (e ∷ filter test es) (filter test es)) = subst (λ b. AllByRecursion P (cond b (e ∷ filter test es) (filter test es))) (ap test same ∙ passes) all in
          subst P same kept.0
      | false ↦ λ apart later. found_passes P test es n x (rest (test e) all) later passes
    ] refl found
  where
    rest : (b : Bool) → AllByRecursion P (cond b (e ∷ filter test es) (filter test es)) → AllByRecursion P (filter test es)
    rest true all = all.1
    rest false all = all

-- ---- pages

-- the entries of a page are those that the shard has, and their names rise
pub page_rises : (s : Shard) (after : List ℕ) (limit clock : ℕ) → Rises (page_of s after limit clock).rows
unfolding entries where_name
page_rises s after limit clock =
    let test : List ℕ → Bool = λ n. is_before after n in
    rises_first limit _ (rises _ (truth _ (is_sorted-where_key name_cmp test (s.entries).list (s.entries).sorted)))

pub page_shows : (s : Shard) (after : List ℕ) (limit clock : ℕ) → AllByRecursion (λ e. at s.entries e.0 ≡ Some e.1) (page_of s after limit clock).rows
unfolding entries where_name at
page_shows s after limit clock =
    let list = (s.entries).list in
    let P : List ℕ × EntryView → Type 0 = λ e. find name_cmp e.0 list ≡ Some e.1 in
    all_first P limit _ (all_kept P (λ e. is_before after e.0) list (found_all list (rises list (truth _ (s.entries).sorted))))

-- a page reaches all names where nothing is behind it, and else those up to its last one
abbrev pub Reaches : List ℕ → Bool → Rows → List ℕ → Type 0
Reaches after end rows n = (end ≡ true) ⊎ (is_before (last_name after rows) n ≡ false)

-- and shows what the shard has of them
pub page_finds : (s : Shard) (after : List ℕ) (limit clock : ℕ) (n : List ℕ) → is_before after n ≡ true → Reaches after (page_of s after limit clock).end (page_of s after limit clock).rows n
    → find name_cmp n (page_of s after limit clock).rows ≡ at s.entries n
unfolding entries where_name at
page_finds s after limit clock n above reached =
    let list = (s.entries).list in
    let test : List ℕ → Bool = λ m. is_before after m in
    let behind = where_key name_cmp test list in
    let rise = truth _ (is_sorted-where_key name_cmp test list (s.entries).sorted) in
    let first : find name_cmp n (take limit behind) ≡ find name_cmp n behind =
    ⊎_elim (λ end. ap (find name_cmp n) (take_all limit behind (grind (arith, nat_tests, end))))
    (λ upto. found_first after limit behind n (below_kept after list) rise upto) reached in
    first
    ∙ find-where_key name_cmp test n (λ m tied. ap test (sym (slice_cmp-IsAntisymmetric nat_cmp-IsAntisymmetric n m tied))) list
    ∙ ap (λ b. cond b (find name_cmp n list) None) above
