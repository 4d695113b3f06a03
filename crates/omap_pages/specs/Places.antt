-- Where a key is in a list of rows in order, or would go.
use Rattle.std.specs.Prelude.{◌≡◌, ℕ, ◌<◌, ◌≤◌, Bool, true, false, IsTrue, List, length, slice_index_or}
use Rattle.std.specs.FinMap.Entries.{is_sorted}
use Rattle.std.specs.declared.cmp.Ordering.TheVariants.{Less, Equal, Greater}
use Rattle.omap_pages.specs.declared.place.Place.{Place}
use Rattle.omap_pages.specs.Leaves.{flat, position, AreLeaves, IsPlace}
use Rattle.omap_pages.specs.Rows.{key_cmp}

-- the row at place i has the key
pub record IsAt {X : Type 0} (rows : List (List ℕ × X)) (key : List ℕ) (i : ℕ) : Type 0 where
  pub in_range : i < length rows
  pub before : (j : ℕ) (d : List ℕ × X) → j < i → key_cmp key (slice_index_or rows j d).0 ≡ Greater
  pub here : (d : List ℕ × X) → key_cmp key (slice_index_or rows i d).0 ≡ Equal
  pub after : (j : ℕ) (d : List ℕ × X) → i < j → j < length rows → key_cmp key (slice_index_or rows j d).0 ≡ Less

-- no row has the key, which would go at place i
pub record IsGapFor {X : Type 0} (rows : List (List ℕ × X)) (key : List ℕ) (i : ℕ) : Type 0 where
  pub in_range : i ≤ length rows
  pub before : (j : ℕ) (d : List ℕ × X) → j < i → key_cmp key (slice_index_or rows j d).0 ≡ Greater
  pub after : (j : ℕ) (d : List ℕ × X) → i ≤ j → j < length rows → key_cmp key (slice_index_or rows j d).0 ≡ Less

-- the keys before place i fail the test, and those from there on pass it
pub record IsPartedAt {X : Type 0} (test : List ℕ → Bool) (rows : List (List ℕ × X)) (i : ℕ) : Type 0 where
  pub in_range : i ≤ length rows
  pub before : (j : ℕ) (d : List ℕ × X) → j < i → test (slice_index_or rows j d).0 ≡ false
  pub after : (j : ℕ) (d : List ℕ × X) → i ≤ j → j < length rows → test (slice_index_or rows j d).0 ≡ true

-- leaves whose rows are in order of their keys
pub record AreOrdered {X : Type 0} (all : List (List (List ℕ × X))) : Type 0 where
  pub in_order : IsTrue (is_sorted key_cmp (flat all))
  pub leaves : AreLeaves all

-- the place parts the rows of the leaves: the keys before it fail the test, those from there on pass it
pub record Parts {X : Type 0} (test : List ℕ → Bool) (all : List (List (List ℕ × X))) (at : Place) : Type 0 where
  pub parted : IsPartedAt test (flat all) (position all at)
  pub place : IsPlace all at
  pub leaf : 0 < length all → at.leaf < length all
