-- Further names of a subdir change no listing, wherever they stand: lists of live names that differ by such names alone
-- are listed alike.
use Rattle.std.proofs.Common.{◌≡◌, ◌⊎◌, inl, inr, ⊎_elim, ℕ, Bool, true, false, not, cond, List, [], ◌∷◌, ◌++◌, length, Option, Some, None, refl, sym, ◌∙◌, ap, subst}
use Rattle.std.specs.List.{All, Contains}
use Rattle.std.specs.declared.cmp.Ordering.TheVariants.{Equal}
use Rattle.std.specs.Cmp.Lexicographic.{nat_list_cmp_total}
use Rattle.std.specs.FinMap.{nat_cmp-IsAntisymmetric, slice_cmp-IsAntisymmetric}
use Rattle.std.specs.FinMap.Entries.{find, where_key, is_sorted, is_sorted-where_key, find-where_key, same_entries}
use Rattle.std.proofs.lemmas.Bool.{both_ways, false_from_ne_true, not-true}
use Rattle.std.proofs.lemmas.List.{append_assoc, append-nil}
use Rattle.std.proofs.lemmas.List.Elements.{All-contains, All-filter, filter_passes, filter-append, Contains-get_or, Contains-append_left, Contains-push, Contains-push_cases}
use Rattle.object_words.specs.Names.{name_cmp}
use Rattle.object_words.specs.Rows.{RowView}
use Rattle.list_words.specs.declared.command.ListCommand.{ListCommand}
use Rattle.list_words.specs.Listings.{is_before, in_scope, subdir_of, rows_of}
use Rattle.list_words.proofs.Texts.{before_itself, before_trans, upto_before, not_after}
use Rattle.list_words.proofs.Keys.{scope_parts, together}
use Rattle.list_words.proofs.Rows.{outside, folded, behind}
use Rattle.task_list.specs.Listed.{IsFolded, is_within, IsEnough}
use Rattle.task_list.proofs.Names.{truth, from_truth}
use Rattle.task_list.proofs.Passing.{at_front, behind_front}
use Rattle.list_law.proofs.Sorted.{nowhere, in_order, sorted-front, stands_before, found_there, there_found, kept_there, has_last, upto_last, in_two, none_higher}

abbrev pub Pair : Type 0
Pair = List ℕ × RowView

some_is : {X : Type 0} {x y : X} → Some x ≡ Some y → x ≡ y
some_is same = cc

same_name : (n m : List ℕ) → name_cmp n m ≡ Equal → n ≡ m
same_name = slice_cmp-IsAntisymmetric nat_cmp-IsAntisymmetric

-- what stands under a name that a test keeps
find-kept : (test : List ℕ → Bool) (n : List ℕ) (es : List Pair) → find name_cmp n (where_key name_cmp test es) ≡ cond (test n) (find name_cmp n es) None
find-kept test n es = find-where_key name_cmp test n (λ m tied. ap test (sym (same_name n m tied))) es

sorted-kept : (test : List ℕ → Bool) (es : List Pair) → is_sorted name_cmp es ≡ true → is_sorted name_cmp (where_key name_cmp test es) ≡ true
sorted-kept test es rise = truth _ (is_sorted-where_key name_cmp test es (from_truth _ rise))

-- ---- without further names of subdirs

module _ (c : ListCommand) (keep : List ℕ → Bool) (kept_scope : (n : List ℕ) → keep n ≡ true → in_scope c n ≡ true) where
  -- a lower name of the subdir is in the list, and kept
  pub record HasBase (live : List Pair) (n : List ℕ) : Type 0 where
    pub base : Pair
    pub there : Contains live base
    pub kept : keep base.0 ≡ true
    pub below : is_before base.0 n ≡ true
    pub subdir : List ℕ
    pub of_base : subdir_of c base.0 ≡ Some subdir
    pub of_name : subdir_of c n ≡ Some subdir

  abbrev pub kept_of : List Pair → List Pair
  kept_of = where_key name_cmp keep

  -- the name follows one of its subdir, since the names of a subdir follow one another
  module _ (xs ys : List Pair) (e : Pair) (rise : is_sorted name_cmp (xs ++ e ∷ ys) ≡ true) (scope : in_scope c e.0 ≡ true) (b : HasBase (xs ++ e ∷ ys) e.0) where
    abbrev front : List Pair
    front = kept_of xs

    base_there : Contains front b.base
    base_there = kept_there keep xs b.base (stands_before xs ys e b.base rise b.there b.below) b.kept

    follows : rows_of c (front ++ e ∷ ys) ≡ rows_of c (front ++ ys)
    follows =
        let l = has_last front b.base base_there in
        let rise_front : is_sorted name_cmp front ≡ true = sorted-kept keep xs (sorted-front xs (e ∷ ys) rise) in
        let last_there : Contains front l.last = subst (λ z. Contains z l.last) (sym l.split) (Contains-push l.front l.last) in
        let kept : keep (l.last).0 ≡ true = All-contains (λ x. keep x.0 ≡ true) front l.last (filter_passes (λ x. keep x.0) xs) last_there in
        let before : All (λ x. is_before x.0 e.0 ≡ true) front =
        All-filter (λ x. keep x.0) (λ x. is_before x.0 e.0 ≡ true) xs (λ k d within. in_order xs (e ∷ ys) _ e rise (Contains-get_or xs k d within) (at_front e ys)) in
        let below : is_before (l.last).0 e.0 ≡ true = All-contains (λ x. is_before x.0 e.0 ≡ true) front l.last before last_there in
        let upto = upto_last front l.front l.last b.base l.split rise_front base_there in
        let begins_base = (scope_parts c (b.base).0 (kept_scope (b.base).0 b.kept)).begins in
        let begins = (scope_parts c e.0 scope).begins in
        let of_last : subdir_of c (l.last).0 ≡ Some b.subdir =
        together c (b.base).0 (l.last).0 e.0 b.subdir begins_base begins b.of_base b.of_name upto (not_after (l.last).0 e.0 below) in
        ap (λ z. rows_of c (z ++ e ∷ ys)) l.split
        ∙ ap (rows_of c) (append_assoc l.front (l.last ∷ []) (e ∷ ys))
        ∙ folded c l.front ys l.last e b.subdir (kept_scope (l.last).0 kept) of_last b.of_name
        ∙ ap (rows_of c) (sym (append_assoc l.front (l.last ∷ []) ys))
        ∙ ap (λ z. rows_of c (z ++ ys)) (sym l.split)

  kept_from : (xs ys : List Pair) → is_sorted name_cmp (xs ++ ys) ≡ true → ((e : Pair) → Contains ys e → keep e.0 ≡ false → in_scope c e.0 ≡ true → HasBase (xs ++ ys) e.0)
      → rows_of c (kept_of xs ++ ys) ≡ rows_of c (kept_of (xs ++ ys))
  kept_from xs [] rise based = ap (rows_of c) (append-nil (kept_of xs) ∙ sym (ap kept_of (append-nil xs)))
  kept_from xs (e ∷ ys) rise based =
      let moved : (xs ++ e ∷ []) ++ ys ≡ xs ++ e ∷ ys = append_assoc xs (e ∷ []) ys in
      let rest =
      kept_from (xs ++ e ∷ []) ys (subst (λ z. is_sorted name_cmp z ≡ true) (sym moved) rise)
      (λ f there drops scope. subst (λ z. HasBase z f.0) (sym moved) (based f (behind_front e ys f there) drops scope))
      ∙ ap (λ z. rows_of c (kept_of z)) moved in
      let parts : kept_of (xs ++ e ∷ []) ≡ kept_of xs ++ kept_of (e ∷ []) = filter-append (λ x. keep x.0) xs (e ∷ []) in
      elim (keep e.0) as (λ b. keep e.0 ≡ b → rows_of c (kept_of xs ++ e ∷ ys) ≡ rows_of c (kept_of (xs ++ e ∷ ys))) [
        | true ↦ λ is.
            let one : kept_of (e ∷ []) ≡ e ∷ [] = ap (λ b. cond b (e ∷ []) []) is in
            ap (rows_of c) (sym (append_assoc (kept_of xs) (e ∷ []) ys) ∙ ap (λ z. z ++ ys) (sym (parts ∙ ap (λ z. kept_of xs ++ z) one))) ∙ rest
        | false ↦ λ drops.
            let none : kept_of (e ∷ []) ≡ [] = ap (λ b. cond b (e ∷ []) []) drops in
            let same : kept_of (xs ++ e ∷ []) ≡ kept_of xs = parts ∙ ap (λ z. kept_of xs ++ z) none ∙ append-nil (kept_of xs) in
            skipped drops ∙ ap (λ z. rows_of c (z ++ ys)) (sym same) ∙ rest
      ] refl
    where
      skipped : keep e.0 ≡ false → rows_of c (kept_of xs ++ e ∷ ys) ≡ rows_of c (kept_of xs ++ ys)
      skipped drops =
          elim (in_scope c e.0) as (λ b. in_scope c e.0 ≡ b → rows_of c (kept_of xs ++ e ∷ ys) ≡ rows_of c (kept_of xs ++ ys)) [
            | true ↦ λ scope. follows xs ys e rise scope (based e (at_front e ys) drops scope)
            | false ↦ λ no. outside c (kept_of xs) ys e no
          ] refl

  -- names in scope that are not kept follow one of their subdir, and so the listing is that of the names that are kept
  pub kept_alone : (live : List Pair) → is_sorted name_cmp live ≡ true → ((e : Pair) → Contains live e → keep e.0 ≡ false → in_scope c e.0 ≡ true → HasBase live e.0)
      → rows_of c live ≡ rows_of c (kept_of live)
  kept_alone live rise based = kept_from [] live rise based

  -- ---- each folded name has a base

  module _ (live : List Pair) (rise : is_sorted name_cmp live ≡ true) (kinds : (e : Pair) → Contains live e → (keep e.0 ≡ true) ⊎ IsFolded c live e.0) where
    -- a name of the subdir that is kept, and not above this one
    record HasFirst (n subdir : List ℕ) : Type 0 where
      base : Pair
      there : Contains live base
      kept : keep base.0 ≡ true
      upto : is_before n base.0 ≡ false
      of_base : subdir_of c base.0 ≡ Some subdir

    abbrev Based : List Pair → Type 0
    Based done = (x : Pair) (subdir : List ℕ) → Contains done x → subdir_of c x.0 ≡ Some subdir → HasFirst x.0 subdir

    based_more : (done rest : List Pair) (e : Pair) → live ≡ done ++ e ∷ rest → Based done → Based (done ++ e ∷ [])
    based_more done rest e split based x subdir there of_x =
        ⊎_elim (λ before. based x subdir before of_x)
        (λ is. subst (λ g. subdir_of c g.0 ≡ Some subdir → HasFirst g.0 subdir) is here of_x)
        (Contains-push_cases done e x there)
      where
        rises : is_sorted name_cmp (done ++ e ∷ rest) ≡ true
        rises = subst (λ z. is_sorted name_cmp z ≡ true) split rise

        e_there : Contains live e
        e_there = subst (λ z. Contains z e) (append_assoc done (e ∷ []) rest ∙ sym split) (Contains-append_left (done ++ e ∷ []) rest e (Contains-push done e))

        by_lower : (f : IsFolded c live e.0) → subdir_of c e.0 ≡ Some subdir → HasFirst e.0 subdir
        by_lower f of_e =
            let s : f.subdir ≡ subdir = some_is (sym f.of_name ∙ of_e) in
            let before = stands_before done rest e (f.lower, f.row) rises (subst (λ z. Contains z (f.lower, f.row)) split f.there) f.below in
            let u = based (f.lower, f.row) f.subdir before f.of_lower in
            record {
              base = u.base;
              there = u.there;
              kept = u.kept;
              upto = not_after (u.base).0 e.0 (upto_before (u.base).0 f.lower e.0 u.upto f.below);
              of_base = u.of_base ∙ ap (λ t. Some t) s;
            }

        here : subdir_of c e.0 ≡ Some subdir → HasFirst e.0 subdir
        here of_e =
            ⊎_elim (λ kept. record { base = e; there = e_there; kept = kept; upto = before_itself e.0; of_base = of_e })
            (λ f. by_lower f of_e) (kinds e e_there)

    based_from : (done rest : List Pair) → live ≡ done ++ rest → Based done → Based live
    based_from done [] split based = subst Based (sym (split ∙ append-nil done)) based
    based_from done (e ∷ rest) split based = based_from (done ++ e ∷ []) rest (split ∙ sym (append_assoc done (e ∷ []) rest)) (based_more done rest e split based)

    pub has_base : (n : List ℕ) → IsFolded c live n → HasBase live n
    has_base n f =
        let u = based_from [] live refl (λ x subdir there of_x. absurd (nowhere x there)) (f.lower, f.row) f.subdir f.there f.of_lower in
        record {
          base = u.base;
          there = u.there;
          kept = u.kept;
          below = upto_before (u.base).0 f.lower n u.upto f.below;
          subdir = f.subdir;
          of_base = u.of_base;
          of_name = f.of_name;
        }

-- ---- two lists

-- names that are kept stand alike in both lists; others in scope, up to the bound, are folded
module _ (c : ListCommand) (bound : Option (List ℕ)) (live other : List Pair) (rise_live : is_sorted name_cmp live ≡ true) (rise_other : is_sorted name_cmp other ≡ true)
    (asked : All (λ e. (in_scope c e.0 ≡ true) × (is_within bound e.0 ≡ true)) live) (keep : List ℕ → Bool)
    (alike : (n : List ℕ) → keep n ≡ true → (find name_cmp n live ≡ find name_cmp n other) × ((in_scope c n ≡ true) × (is_within bound n ≡ true)))
    (dropped : (n : List ℕ) → keep n ≡ false → in_scope c n ≡ true → is_within bound n ≡ true → IsFolded c live n) where
  kept_scope : (n : List ℕ) → keep n ≡ true → in_scope c n ≡ true
  kept_scope n is = (alike n is).1.0

  abbrev kept : List Pair → List Pair
  kept = where_key name_cmp keep

  -- those up to the bound
  abbrev part : List Pair
  part = where_key name_cmp (is_within bound) other

  rise_part : is_sorted name_cmp part ≡ true
  rise_part = sorted-kept (is_within bound) other rise_other

  within : (b : Option (List ℕ)) (x y : List ℕ) → is_before x y ≡ true → is_within b y ≡ true → is_within b x ≡ true
  within None x y before is = refl
  within (Some bound) x y before is =
      ap not (false_from_ne_true (is_before bound x) (λ above. both_ways _ (not-true _ is) (before_trans bound x y above before)))

  base_of : (n : List ℕ) → IsFolded c live n → HasBase c keep kept_scope live n
  base_of n f =
      has_base c keep kept_scope live rise_live
      (λ e there.
      elim (keep e.0) as (λ b. keep e.0 ≡ b → (keep e.0 ≡ true) ⊎ IsFolded c live e.0) [
        | true ↦ λ is. inl is
        | false ↦ λ no. inr (let of = All-contains (λ e. (in_scope c e.0 ≡ true) × (is_within bound e.0 ≡ true)) live e asked there in dropped e.0 no of.0 of.1)
      ] refl) n f

  live_kept : rows_of c live ≡ rows_of c (kept live)
  live_kept =
      kept_alone c keep kept_scope live rise_live
      (λ e there no scope. let of = All-contains (λ e. (in_scope c e.0 ≡ true) × (is_within bound e.0 ≡ true)) live e asked there in base_of e.0 (dropped e.0 no of.0 of.1))

  -- a base in one list is one in the other
  base_in_part : (n : List ℕ) → HasBase c keep kept_scope live n → HasBase c keep kept_scope part n
  base_in_part n b =
      let a = alike (b.base).0 b.kept in
      let found = sym a.0 ∙ found_there live b.base rise_live b.there in
      record {
        base = b.base;
        there = kept_there (is_within bound) other b.base (there_found other (b.base).0 (b.base).1 found) a.1.1;
        kept = b.kept;
        below = b.below;
        subdir = b.subdir;
        of_base = b.of_base;
        of_name = b.of_name;
      }

  part_kept : rows_of c part ≡ rows_of c (kept part)
  part_kept =
      kept_alone c keep kept_scope part rise_part
      (λ e there no scope.
      let low = All-contains (λ x. is_within bound x.0 ≡ true) part e (filter_passes (λ x. is_within bound x.0) other) there in
      base_in_part e.0 (base_of e.0 (dropped e.0 no scope low)))

  same_kept : kept part ≡ kept live
  same_kept =
      same_entries name_cmp nat_list_cmp_total same_name (kept part) (kept live) (from_truth _ (sorted-kept keep part rise_part)) (from_truth _ (sorted-kept keep live rise_live))
      (λ n. find-kept keep n part ∙ found n ∙ sym (find-kept keep n live))
    where
      found : (n : List ℕ) → cond (keep n) (find name_cmp n part) None ≡ cond (keep n) (find name_cmp n live) None
      found n =
          elim (keep n) as (λ b. keep n ≡ b → cond b (find name_cmp n part) None ≡ cond b (find name_cmp n live) None) [
            | true ↦ λ is. let a = alike n is in find-kept (is_within bound) n other ∙ ap (λ b. cond b (find name_cmp n other) None) a.1.1 ∙ sym a.0
            | false ↦ λ no. refl
          ] refl

  part_alike : rows_of c part ≡ rows_of c live
  part_alike = part_kept ∙ ap (rows_of c) same_kept ∙ sym live_kept

  -- and so both are listed alike, where names above the bound are not looked at
  pub listed_alike : IsEnough c bound (rows_of c live) → rows_of c other ≡ rows_of c live
  listed_alike enough = ap (rows_of c) (in_two (is_within bound) (within bound) other rise_other) ∙ whole bound refl enough where
    whole : (b : Option (List ℕ)) → bound ≡ b → IsEnough c b (rows_of c live) → rows_of c (part ++ where_key name_cmp (λ n. not (is_within bound n)) other) ≡ rows_of c live
    whole None is all =
        ap (λ z. rows_of c (part ++ z)) (none_higher (is_within bound) (λ n. ap (λ b. is_within b n) is) other) ∙ ap (rows_of c) (append-nil part) ∙ part_alike
    whole (Some name) is full =
        behind c part (where_key name_cmp (λ n. not (is_within bound n)) other) (ap length part_alike ∙ full) ∙ part_alike
