-- What is left of pages, and the order in which names come out of them.
use Rattle.std.specs.Prelude.{refl, ℕ, Bool, List, [], ◌∷◌, Option, Some, None}
use Rattle.std.specs.declared.cmp.Ordering.{Ordering}
use Rattle.std.specs.Ordering.{eq_by_cmp}
use Rattle.std.specs.Cmp.{IsTotalOrder, IsEquivalence, IsPartialEquivalence, IsPartialOrder, partial_equiv_from_equiv, eq_by_cmp_equiv, partial_order_from_agreeing_total, on_total, back_total}
use Rattle.std.specs.Cmp.Lexicographic.{nat_list_cmp_total}
use Rattle.std.specs.Vec.Iter.{into_iter_items}
use Rattle.object_words.specs.Names.{name_cmp}
use Rattle.object_words.specs.Entries.{EntryView}
use Rattle.task_list.specs.declared.cursor.Cursor.{Cursor}

-- the entries that are left
abbrev pub left_of : Cursor → List (List ℕ × EntryView)
left_of c = c.front ∷ into_iter_items c.rest

abbrev pub left_in : Option Cursor → List (List ℕ × EntryView)
left_in None = []
left_in (Some c) = left_of c

-- the name of the first entry
abbrev pub name_of : Cursor → List ℕ
name_of c = c.front.0

-- the cursor with the least name is the greatest
abbrev pub cursor_cmp : Cursor → Cursor → Ordering
cursor_cmp x y = name_cmp (name_of y) (name_of x)

abbrev pub cursor_eq : Cursor → Cursor → Bool
cursor_eq = eq_by_cmp cursor_cmp

pub cursor_total : IsTotalOrder cursor_cmp
cursor_total = back_total (on_total name_of nat_list_cmp_total)

pub cursor_eq_equiv : IsEquivalence cursor_eq
cursor_eq_equiv = eq_by_cmp_equiv cursor_total

pub cursor_eq_laws : IsPartialEquivalence cursor_eq
cursor_eq_laws = partial_equiv_from_equiv cursor_eq_equiv

pub cursor_po : IsPartialOrder cursor_eq (λ x y. Some (cursor_cmp x y))
cursor_po = partial_order_from_agreeing_total cursor_cmp cursor_total (λ x y. refl) (λ x y. refl)
