-- One entry and its head: what each event on the entry keeps.
use Rattle.std.proofs.Common.{◌≡◌, ◌≢◌, ◌⊎◌, inl, inr, ⊎_elim, ℕ, ◌+◌, ◌<◌, ◌≤◌, ◌^◌, ◌==◌, ◌||◌, not, Bool, true, false, cond, List, [], ◌∷◌, length, Option, Some, None, refl, sym, subst, ap, ◌∙◌, arith}
use Rattle.std.specs.Prelude.{nat_lt}
use Rattle.std.specs.List.{AllByRecursion}
use Rattle.std.proofs.Math.Decide.{dec_lt}
use Rattle.std.proofs.lemmas.Bool.Decides.{nat_tests}
use native.Mathlib.Decide.{ℕ_discrete}
use Rattle.object_words.specs.declared.entry.Tag.{Tag}
use Rattle.object_words.specs.declared.head.SeenSlot.{SeenSlot}
use Rattle.object_words.specs.declared.head.SeenSlot.TheVariants.{Nothing, Live, Mark}
use Rattle.object_words.specs.Rows.{RowView, no_row}
use Rattle.object_words.specs.Tags.{has_tag, has_due, with_tag, without_tag, tags_due_taken}
use Rattle.object_words.specs.Entries.{EntryView, entry_of, with_tags, stored_if_newer, is_kept}
use Rattle.object_words.specs.Heads.{Head, row_of}
use Rattle.realm_model.specs.Facts.{TagNote}
use Rattle.realm_model.specs.Phases.{OwnChange, Sighting}
use Rattle.realm_model.proofs.ObjectLemmas.{number_same}
use Rattle.index_law.specs.Tables.{Notes}
use Rattle.index_law.specs.Agreements.{Told, HasLast, Agreement}
use Rattle.index_law.specs.Sights.{Still, Later, IsSafe}
use Rattle.index_law.specs.Reads.{StaysTrue}
use Rattle.index_law.proofs.Puts.{kept_entry}
use Rattle.index_law.proofs.TagLists.{any_without, has_without, has_with, with_has, any_taken}
use Rattle.index_law.proofs.NoteLemmas.{Keeps}

-- ---- an entry of which nothing is left

not_live : (slot : SeenSlot) → (row_of slot).exists ≡ false → row_of slot ≡ no_row
not_live Nothing is = refl
not_live (Live new stamp) is = cc
not_live (Mark stamp) is = refl

no_tags : (tags : List Tag) (exists : Bool) → (exists || not (length tags == 0)) ≡ false → (exists ≡ false) × (tags ≡ [])
no_tags [] true is = absurd cc
no_tags [] false is = (refl, refl)
no_tags (t ∷ ts) true is = absurd cc
no_tags (t ∷ ts) false is =
    elim (length (t ∷ ts) == 0) as (λ b. (length (t ∷ ts) == 0) ≡ b → not b ≡ false → (false ≡ false) × ((t ∷ ts) ≡ [])) [
      | true ↦ λ zero none. let empty = number_same (length (t ∷ ts)) 0 zero in absurd (omega (arith, empty))
      | false ↦ λ some none. absurd cc
    ] refl is

-- an entry with a tag stays
pub kept_has : (e : EntryView) (tag : ℕ) → has_tag tag e.tags ≡ true → has_tag tag (kept_entry e).tags ≡ true
kept_has e tag has =
    elim (is_kept e) as (λ b. is_kept e ≡ b → has_tag tag (entry_of (cond b (Some e) None)).tags ≡ true) [
      | true ↦ λ is. has
      | false ↦ λ is. let none = (no_tags e.tags e.row.exists is).1 in absurd (let bad : has_tag tag [] ≡ true = subst (λ ts. has_tag tag ts ≡ true) none has in cc)
    ] refl

pub kept_due : (e : EntryView) (moment : ℕ) → has_due moment (kept_entry e).tags ≡ true → kept_entry e ≡ e
kept_due e moment due =
    elim (is_kept e) as (λ b. has_due moment (entry_of (cond b (Some e) None)).tags ≡ true → entry_of (cond b (Some e) None) ≡ e) [
      | true ↦ λ is. refl
      | false ↦ λ is. cc
    ] due

pub kept_all : (P : Tag → Type 0) (e : EntryView) → AllByRecursion P e.tags → AllByRecursion P (kept_entry e).tags
kept_all P e all = elim (is_kept e) as (λ b. AllByRecursion P (entry_of (cond b (Some e) None)).tags) [ true ↦ all | false ↦ tt ]

pub kept_agrees : (changes : ℕ → Option OwnChange) (h : Head) (last : Option ℕ) (e : EntryView) → Agreement changes h last e → Agreement changes h last (kept_entry e)
kept_agrees changes h last e a =
    elim (is_kept e) as (λ b. is_kept e ≡ b → Agreement changes h last (entry_of (cond b (Some e) None))) [
      | true ↦ λ is. a
      | false ↦ λ is.
          let none = no_tags e.tags e.row.exists is in
          record {
            agree = ⊎_elim
                (λ l. absurd (let bad : has_tag l.tag [] ≡ true = subst (λ ts. has_tag l.tag ts ≡ true) none.1 l.there in cc))
                (λ s. inr (sym (not_live h.slot (ap (λ (r : RowView). r.exists) (sym s.0) ∙ none.0)), (λ t c has is. cc))) a.agree;
            not_above = λ z. omega arith;
            same_row = λ z u. absurd (omega (arith, z, u));
          }
    ] refl

-- ---- a preparation

pub prepare_agrees : (changes : ℕ → Option OwnChange) (h : Head) (last : Option ℕ) (e : EntryView) (t : Tag) → changes t.tag ≡ None → Agreement changes h last e → Agreement changes h last (with_tags e (with_tag t e.tags))
prepare_agrees changes h last e t fresh a = record {
  agree = ⊎_elim
      (λ l. inl (record { tag = l.tag; last_is = l.last_is; there = has_with t l.tag e.tags l.there }))
      (λ s. inr (s.0, (λ u c has is. let other : u ≢ t.tag = λ same. absurd (let none = ap changes same ∙ fresh in cc) in s.1 u c (with_has t u e.tags other has) is))) a.agree;
  not_above = a.not_above;
  same_row = a.same_row;
}

-- ---- a cancel: its tag has no change, so it is not the last

pub cancel_agrees : (changes : ℕ → Option OwnChange) (h : Head) (last : Option ℕ) (e : EntryView) (tag : ℕ) → ((l : ℕ) → last ≡ Some l → l ≢ tag) → Agreement changes h last e → Agreement changes h last (with_tags e (without_tag tag e.tags))
cancel_agrees changes h last e tag other a = record {
  agree = ⊎_elim
      (λ l. inl (record { tag = l.tag; last_is = l.last_is; there = has_without tag l.tag e.tags (other l.tag l.last_is) l.there }))
      (λ s. inr (s.0, (λ u c has is. s.1 u c (any_without _ tag e.tags has) is))) a.agree;
  not_above = a.not_above;
  same_row = a.same_row;
}

-- ---- a completion: of the last change's tag, or of another

module _ (changes : ℕ → Option OwnChange) (h : Head) (last : Option ℕ) (e : EntryView) (tag version : ℕ) (row : RowView) (there : has_tag tag e.tags ≡ true)
    (own : changes tag ≡ Some (record { version = version; row = row })) (positive : 0 < version) (not_above : version ≤ h.version) (same_row : version ≡ h.version → row ≡ row_of h.slot)
    (below : Told changes h.version e.tags) (mine : last ≡ Some tag → version ≡ h.version) where
  completed_by : (b : Bool) → nat_lt e.version version ≡ b → (d : (last ≡ Some tag) ⊎ ((l : ℕ) → last ≡ Some l → l ≢ tag)) → Agreement changes h last e → Agreement changes h last (stored_if_newer (with_tags e (without_tag tag e.tags)) version row)
  completed_by true lt (inl s) a = rw lt (record {
    agree = inr (same_row (mine s), (λ u c has is. let under = below u c (any_without _ tag e.tags has) is in let at_head = mine s in omega (arith, under, at_head)));
    not_above = λ z. not_above;
    same_row = λ z u. same_row u;
  })
  completed_by false lt (inl s) a =
      let at_head = mine s in
      let not_less : version ≤ e.version = grind (arith, nat_tests) in
      let live : 0 < h.version = omega (arith, positive, not_above) in
      let under = a.not_above live in
      let v : e.version ≡ h.version = omega (arith, not_less, under, at_head) in
      rw lt (record {
        agree = inr (a.same_row live v, (λ u c has is. let most = below u c (any_without _ tag e.tags has) is in omega (arith, most, v)));
        not_above = a.not_above;
        same_row = a.same_row;
      })
  completed_by true lt (inr n) a =
      let less : e.version < version = grind (arith, nat_tests) in
      rw lt (record {
        agree = ⊎_elim
            (λ l. inl (record { tag = l.tag; last_is = l.last_is; there = has_without tag l.tag e.tags (n l.tag l.last_is) l.there }))
            (λ s. let told = s.1 tag (record { version = version; row = row }) there own in absurd (omega (arith, told, less))) a.agree;
        not_above = λ z. not_above;
        same_row = λ z u. same_row u;
      })
  completed_by false lt (inr n) a = rw lt (record {
    agree = ⊎_elim
        (λ l. inl (record { tag = l.tag; last_is = l.last_is; there = has_without tag l.tag e.tags (n l.tag l.last_is) l.there }))
        (λ s. inr (s.0, (λ u c has is. s.1 u c (any_without _ tag e.tags has) is))) a.agree;
    not_above = a.not_above;
    same_row = a.same_row;
  })

  pub last_or_other : (l : Option ℕ) → (l ≡ Some tag) ⊎ ((k : ℕ) → l ≡ Some k → k ≢ tag)
  last_or_other None = inr (λ k is. absurd cc)
  last_or_other (Some l) =
      elim (ℕ_discrete l tag) [
        | yes same ↦ inl (ap (λ n. Some n) same)
        | no other ↦ inr (λ k is same. let e : l ≡ k = cc in other (e ∙ same))
      ]

  pub complete_agrees : Agreement changes h last e → Agreement changes h last (stored_if_newer (with_tags e (without_tag tag e.tags)) version row)
  complete_agrees = completed_by (nat_lt e.version version) refl (last_or_other last)

-- ---- a suggestion

module _ (changes : ℕ → Option OwnChange) (h : Head) (last : Option ℕ) (e : EntryView) (moment version : ℕ) (row : RowView)
    (below : Told changes h.version e.tags) (exists : HasLast last e.tags → 0 < h.version) where
  still_by : Still h (record { version = version; row = row }) → Dec (0 < h.version) → (b : Bool) → nat_lt e.version version ≡ b → Agreement changes h last e → Agreement changes h last (stored_if_newer (with_tags e (tags_due_taken moment e.tags)) version row)
  still_by still (yes live) true lt a =
      let v = still.version_is live in
      rw lt (record {
        agree = inr (still.row_is, (λ u c has is. let under = below u c (any_taken _ moment e.tags has) is in omega (arith, under, v)));
        not_above = λ z. omega (arith, v);
        same_row = λ z u. still.row_is;
      })
  still_by still (yes live) false lt a =
      let v = still.version_is live in
      let not_less : version ≤ e.version = grind (arith, nat_tests) in
      let under = a.not_above live in
      let at_head : e.version ≡ h.version = omega (arith, not_less, under, v) in
      rw lt (record {
        agree = inr (a.same_row live at_head, (λ u c has is. let most = below u c (any_taken _ moment e.tags has) is in omega (arith, most, at_head)));
        not_above = a.not_above;
        same_row = a.same_row;
      })
  still_by still (no none) true lt a = rw lt (record {
    agree = inr (still.row_is, (λ u c has is. let under = below u c (any_taken _ moment e.tags has) is in omega (arith, under, none)));
    not_above = λ z. absurd (none z);
    same_row = λ z. absurd (none z);
  })
  still_by still (no none) false lt a = rw lt (record {
    agree = inr (⊎_elim (λ l. absurd (none (exists l))) (λ s. (s.0, (λ u c has is. s.1 u c (any_taken _ moment e.tags has) is))) a.agree);
    not_above = λ z. absurd (none z);
    same_row = λ z. absurd (none z);
  })

  -- the head changed since, under a tag that is not taken
  later_by : version < h.version → (tag : ℕ) → last ≡ Some tag → (has_tag tag e.tags ≡ true → has_tag tag (tags_due_taken moment e.tags) ≡ true) → (has_tag tag e.tags ≡ true) ⊎ (version ≤ e.version)
      → (b : Bool) → nat_lt e.version version ≡ b → Agreement changes h last e → Agreement changes h last (stored_if_newer (with_tags e (tags_due_taken moment e.tags)) version row)
  later_by above tag last_is kept (inl has) true lt a = rw lt (record {
    agree = inl (record { tag = tag; last_is = last_is; there = kept has });
    not_above = λ z. omega (arith, above);
    same_row = λ z u. absurd (omega (arith, above, u));
  })
  later_by above tag last_is kept (inl has) false lt a = rw lt (record {
    agree = inl (record { tag = tag; last_is = last_is; there = kept has });
    not_above = a.not_above;
    same_row = a.same_row;
  })
  later_by above tag last_is kept (inr high) true lt a = let less : e.version < version = grind (arith, nat_tests) in absurd (omega (arith, high, less))
  later_by above tag last_is kept (inr high) false lt a = rw lt (record {
    agree = ⊎_elim
        (λ l. let same : tag ≡ l.tag = let x = last_is in let y = l.last_is in cc in inl (record { tag = tag; last_is = last_is; there = kept (subst (λ n. has_tag n e.tags ≡ true) (sym same) l.there) }))
        (λ s. inr (s.0, (λ u c has is. s.1 u c (any_taken _ moment e.tags has) is))) a.agree;
    not_above = a.not_above;
    same_row = a.same_row;
  })

  pub suggest_agrees : (tags : Notes) → ((tag : ℕ) (note : TagNote) → tags tag ≡ Some note → moment < note.deadline → has_tag tag e.tags ≡ true → has_tag tag (tags_due_taken moment e.tags) ≡ true)
      → Still h (record { version = version; row = row }) ⊎ Later tags h last e moment version → Agreement changes h last e → Agreement changes h last (stored_if_newer (with_tags e (tags_due_taken moment e.tags)) version row)
  suggest_agrees tags kept (inl still) a = still_by still (dec_lt 0 h.version) (nat_lt e.version version) refl a
  suggest_agrees tags kept (inr later) a = later_by later.above later.tag later.last_is (kept later.tag later.note later.there later.late) later.stays (nat_lt e.version version) refl a

-- ---- what was seen

-- what makes a suggestion safe stays so with more notes, and where the entry still has the tag or the version
safe_still : (tags tags' : Notes) (h : Head) (last : Option ℕ) (e e' : EntryView) (moment : ℕ) (read : OwnChange) → Keeps tags tags'
    → ((version tag : ℕ) (note : TagNote) → version < h.version → last ≡ Some tag → tags tag ≡ Some note → moment < note.deadline → (has_tag tag e.tags ≡ true) ⊎ (version ≤ e.version) → (has_tag tag e'.tags ≡ true) ⊎ (version ≤ e'.version))
    → Still h read ⊎ Later tags h last e moment read.version → Still h read ⊎ Later tags' h last e' moment read.version
safe_still tags tags' h last e e' moment read keeps stays (inl still) = inl still
safe_still tags tags' h last e e' moment read keeps stays (inr l) =
    let n = keeps l.tag l.note l.there in
    inr (record {
      above = l.above;
      tag = l.tag;
      last_is = l.last_is;
      note = n.note;
      there = n.there;
      late = subst (λ d. moment < d) (sym n.same.deadline) l.late;
      stays = stays read.version l.tag l.note l.above l.last_is l.there l.late l.stays;
    })

-- an entry that changed: no tag is due that was not, and what made a suggestion safe stays
pub safe_changed : (S : Type 0) (count clock count' clock' : ℕ) (tags tags' : Notes) (h : Head) (last : Option ℕ) (e e' : EntryView) (s : Sighting) → count ≤ count' → clock ≤ clock' → Keeps tags tags'
    → (has_due s.moment e'.tags ≡ true → has_due s.moment e.tags ≡ true)
    → (S → (version tag : ℕ) (note : TagNote) → version < h.version → last ≡ Some tag → tags tag ≡ Some note → s.moment < note.deadline → (has_tag tag e.tags ≡ true) ⊎ (version ≤ e.version) → (has_tag tag e'.tags ≡ true) ⊎ (version ≤ e'.version))
    → IsSafe S count clock tags h last e s → IsSafe S count' clock' tags' h last (kept_entry e') s
safe_changed S count clock count' clock' tags tags' h last e e' s more later keeps due stay is =
    let past = is.past in
    record {
      past = omega (arith, past, later);
      read_below = λ read there. let under = is.read_below read there in omega (arith, under, more);
      safe = λ stands was read there.
          let kept = kept_due e' s.moment was in
          let before = is.safe stands (due (subst (λ x. has_due s.moment x.tags ≡ true) kept was)) read there in
          subst (λ x. Still h read ⊎ Later tags' h last x s.moment read.version) (sym kept) (safe_still tags tags' h last e e' s.moment read keeps (stay stands) before);
    }

-- and an entry that did not
pub safe_same : (S : Type 0) (count clock count' clock' : ℕ) (tags tags' : Notes) (h : Head) (last : Option ℕ) (e : EntryView) (s : Sighting) → count ≤ count' → clock ≤ clock' → Keeps tags tags'
    → IsSafe S count clock tags h last e s → IsSafe S count' clock' tags' h last e s
safe_same S count clock count' clock' tags tags' h last e s more later keeps is =
    let past = is.past in
    record {
      past = omega (arith, past, later);
      read_below = λ read there. let under = is.read_below read there in omega (arith, under, more);
      safe = λ stands was read there. safe_still tags tags' h last e e s.moment read keeps (λ version tag note above last_is noted late stays. stays) (is.safe stands was read there);
    }

-- the revision of an entry that changed is above all that was seen of it
pub stays_changed : (count : ℕ) (e e' : EntryView) (s : Sighting) → count < 2 ^ 62 → e.revision ≤ count → e'.revision ≡ e.revision + 1 → (has_due s.moment e'.tags ≡ true → has_due s.moment e.tags ≡ true)
    → (has_due s.moment e.tags ≡ true → StaysTrue e s) → has_due s.moment (kept_entry e').tags ≡ true → StaysTrue (kept_entry e') s
stays_changed count e e' s room below next due was is =
    let same = kept_due e' s.moment is in
    let now = due (subst (λ x. has_due s.moment x.tags ≡ true) same is) in
    let old = (was now).not_below in
    subst (λ x. StaysTrue x s) (sym same) (record { not_below = omega (arith, old, next); unchanged = λ u. absurd (omega (arith, old, next, u)) })
