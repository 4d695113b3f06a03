-- The live names of a map, and a map that has something else under each of its names.
use Rattle.std.proofs.Common.{◌≡◌, ℕ, ◌&&◌, true, false, cond, T, List, [], ◌∷◌, ◌++◌, map, filter, Some, None, refl, sym, ◌∙◌, ap, subst}
use Rattle.std.specs.Prelude.{is_some, unwrap_or}
use Rattle.std.specs.Ordering.{eq_by_cmp}
use Rattle.std.specs.Cmp.Lexicographic.{nat_list_cmp_total}
use Rattle.std.specs.FinMap.{nat_cmp-IsAntisymmetric, slice_cmp-IsAntisymmetric}
use Rattle.std.specs.FinMap.Entries.{find, below_all, is_sorted, same_entries}
use Rattle.std.proofs.lemmas.Bool.{and_parts, and_from}
use Rattle.object_words.specs.declared.head.SeenSlot.{SeenSlot}
use Rattle.object_words.specs.declared.head.SeenSlot.TheVariants.{Nothing, Live}
use Rattle.object_words.specs.Heads.{is_live, row_of}
use Rattle.object_words.specs.Keys.{put}
use Rattle.object_words.specs.Names.{name_cmp, Named, at, with_name, entries}
use Rattle.object_words.specs.Rows.{RowView}
use Rattle.object_words.proofs.KeyLemmas.{same_text}
use Rattle.object_words.proofs.NameLemmas.{is_name_of, at-with_name}
use Rattle.realm_model.specs.Maps.{Maps, slot_at, mapped, mapped_by}
use Rattle.realm_model.specs.declared.op.Op.{Op}
use Rattle.realm_model.specs.declared.op.Op.TheVariants.{HeadWrite}
use Rattle.realm_model.specs.declared.event.Reply.{Reply}
use Rattle.realm_model.specs.declared.event.Reply.TheVariants.{Changed}
use Rattle.realm_model.specs.declared.event.Event.{Event}
use Rattle.realm_model.proofs.ObjectLemmas.{put_cases}
use Rattle.list_words.specs.Listings.{is_before}
use Rattle.task_list.specs.Listed.{slot_row}
use Rattle.task_list.proofs.Names.{truth, from_truth}
use Rattle.list_law.specs.Maps.{live_of, live_names}
use Rattle.list_law.proofs.Sorted.{find-below_all}

abbrev Slots : Type 0
Slots = List (List ℕ × SeenSlot)

abbrev shows : List ℕ × SeenSlot → List ℕ × RowView
shows e = (e.0, row_of e.1)

abbrev lives : Slots → Slots
lives es = filter (λ e. is_live e.1) es

-- ---- live names

below_live : (n : List ℕ) (es : Slots) → below_all name_cmp n es ≡ true → below_all name_cmp n (live_of es) ≡ true
below_live n [] below = refl
below_live n (e ∷ es) below =
    let parts = and_parts (is_before n e.0) (below_all name_cmp n es) below in
    let rest = below_live n es parts.1 in
    elim (is_live e.1) as (λ b. below_all name_cmp n (map shows (cond b (e ∷ lives es) (lives es))) ≡ true) [
      | true ↦ and_from _ _ parts.0 rest
      | false ↦ rest
    ]

sorted_live : (es : Slots) → is_sorted name_cmp es ≡ true → is_sorted name_cmp (live_of es) ≡ true
sorted_live [] rise = refl
sorted_live (e ∷ es) rise =
    let parts = and_parts (below_all name_cmp e.0 es) (is_sorted name_cmp es) rise in
    let rest = sorted_live es parts.1 in
    elim (is_live e.1) as (λ b. is_sorted name_cmp (map shows (cond b (e ∷ lives es) (lives es))) ≡ true) [
      | true ↦ and_from _ _ (below_live e.0 es parts.0) rest
      | false ↦ rest
    ]

find_live : (n : List ℕ) (es : Slots) → is_sorted name_cmp es ≡ true → find name_cmp n (live_of es) ≡ slot_row (unwrap_or (find name_cmp n es) Nothing)
find_live n [] rise = refl
find_live n (e ∷ es) rise =
    let parts = and_parts (below_all name_cmp e.0 es) (is_sorted name_cmp es) rise in
    let rest = find_live n es parts.1 in
    elim (eq_by_cmp name_cmp n e.0) as (λ t. eq_by_cmp name_cmp n e.0 ≡ t → find name_cmp n (map shows (cond (is_live e.1) (e ∷ lives es) (lives es))) ≡ slot_row (unwrap_or (cond t (Some e.1) (find name_cmp n es)) Nothing)) [
      | true ↦ λ tied.
          let below = subst (λ m. below_all name_cmp m es ≡ true) (sym (same_text n e.0 tied)) parts.0 in
          let none = rest ∙ ap (λ o. slot_row (unwrap_or o Nothing)) (find-below_all n es below) in
          elim (is_live e.1) as (λ b. find name_cmp n (map shows (cond b (e ∷ lives es) (lives es))) ≡ cond b (Some (row_of e.1)) None) [
            | true ↦ ap (λ b. cond b (Some (row_of e.1)) (find name_cmp n (map shows (lives es)))) tied
            | false ↦ none
          ]
      | false ↦ λ apart.
          elim (is_live e.1) as (λ b. find name_cmp n (map shows (cond b (e ∷ lives es) (lives es))) ≡ slot_row (unwrap_or (find name_cmp n es) Nothing)) [
            | true ↦ ap (λ b. cond b (Some (row_of e.1)) (find name_cmp n (map shows (lives es)))) apart ∙ rest
            | false ↦ rest
          ]
    ] refl

pub live_rises : (slots : Named SeenSlot) → is_sorted name_cmp (live_names slots) ≡ true
unfolding entries
live_rises slots = sorted_live slots.list (truth _ slots.sorted)

-- under a name stands what the index shows of the slot
pub live_at : (slots : Named SeenSlot) (n : List ℕ) → find name_cmp n (live_names slots) ≡ slot_row (slot_at slots n)
unfolding entries at
live_at slots n = find_live n slots.list (truth _ slots.sorted)

-- maps that have the same under each name have the same live names
pub same_live : (one other : Named SeenSlot) → ((n : List ℕ) → slot_at one n ≡ slot_at other n) → live_names one ≡ live_names other
same_live one other same =
    same_entries name_cmp nat_list_cmp_total (slice_cmp-IsAntisymmetric nat_cmp-IsAntisymmetric) (live_names one) (live_names other)
    (from_truth _ (live_rises one)) (from_truth _ (live_rises other))
    (λ n. live_at one n ∙ ap slot_row (same n) ∙ sym (live_at other n))

-- ---- something else under each name

module _ (slots : List ℕ → SeenSlot) where
  abbrev turned : Slots → Slots
  turned es = map (λ e. (e.0, slots e.0)) es

  same_below : (n : List ℕ) (es : Slots) → below_all name_cmp n (turned es) ≡ below_all name_cmp n es
  same_below n [] = refl
  same_below n (e ∷ es) = ap (λ b. is_before n e.0 && b) (same_below n es)

  pub same_order : (es : Slots) → is_sorted name_cmp (turned es) ≡ is_sorted name_cmp es
  same_order [] = refl
  same_order (e ∷ es) = λ i. same_below e.0 es i && same_order es i

  abbrev pub turned_map : Named SeenSlot → Named SeenSlot
  turned_map m = record { list = turned m.list; sorted = subst T (sym (same_order m.list)) m.sorted }

  found_turned : (n : List ℕ) (es : Slots) → find name_cmp n (turned es) ≡ cond (is_some (find name_cmp n es)) (Some (slots n)) None
  found_turned n [] = refl
  found_turned n (e ∷ es) =
      elim (eq_by_cmp name_cmp n e.0) as (λ t. eq_by_cmp name_cmp n e.0 ≡ t → cond t (Some (slots e.0)) (find name_cmp n (turned es)) ≡ cond (is_some (cond t (Some e.1) (find name_cmp n es))) (Some (slots n)) None) [
        | true ↦ λ tied. ap (λ m. Some (slots m)) (sym (same_text n e.0 tied))
        | false ↦ λ apart. found_turned n es
      ] refl

  -- where names that the map lacks have nothing
  pub turned_at : (m : Named SeenSlot) (n : List ℕ) → (at m n ≡ None → slots n ≡ Nothing) → slot_at (turned_map m) n ≡ slots n
  unfolding at
  turned_at m n lacks =
      ap (λ o. unwrap_or o Nothing) (found_turned n m.list)
      ∙ elim (find name_cmp n m.list) as (λ o. find name_cmp n m.list ≡ o → unwrap_or (cond (is_some o) (Some (slots n)) None) Nothing ≡ slots n) [
        | None ↦ λ none. sym (lacks none)
        | Some x ↦ λ is. refl
      ] refl

-- ---- names never leave the bucket maps

lacked : (m : Named SeenSlot) (name : List ℕ) (slot : SeenSlot) (n : List ℕ) → at (with_name m name slot) n ≡ None → at m n ≡ None
lacked m name slot n none =
    elim (is_name_of n name) as (λ b. cond b (Some slot) (at m n) ≡ None → at m n ≡ None) [
      | true ↦ λ is. cc
      | false ↦ λ is. is
    ] (sym (at-with_name m name slot n) ∙ none)

lacked_before : (maps : Maps) (op : Op) (reply : Reply) (zone container : ℕ) (n : List ℕ) → at (mapped maps op reply zone container) n ≡ None → at (maps zone container) n ≡ None
lacked_before maps (HeadWrite z c name guard new when) (Changed change) zone container n =
    put_cases (λ y ms. (d : ℕ) → at (ms d) n ≡ None → at (maps y d) n ≡ None) maps z (put (maps z) c (with_name (maps z c) name (Live new change.stamp)))
    (put_cases (λ d m. at m n ≡ None → at (maps z d) n ≡ None) (maps z) c (with_name (maps z c) name (Live new change.stamp))
    (lacked (maps z c) name (Live new change.stamp) n) (λ d is. is))
    (λ y d is. is) zone container
lacked_before maps op reply zone container n = λ is. is

pub lacked_from : (maps : Maps) (es : List Event) (zone container : ℕ) (n : List ℕ) → at (mapped_by maps es zone container) n ≡ None → at (maps zone container) n ≡ None
lacked_from maps [] zone container n none = none
lacked_from maps (e ∷ es) zone container n none =
    lacked_before maps e.op e.reply zone container n (lacked_from (mapped maps e.op e.reply) es zone container n none)

pub mapped_by-append : (maps : Maps) (xs ys : List Event) → mapped_by maps (xs ++ ys) ≡ mapped_by (mapped_by maps xs) ys
mapped_by-append maps [] ys = refl
mapped_by-append maps (x ∷ xs) ys = mapped_by-append (mapped maps x.op x.reply) xs ys
