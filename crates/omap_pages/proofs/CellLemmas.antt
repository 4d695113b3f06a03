-- What an edit of the cells at their keys makes of the rows and the rooms that are seen of them.
use Rattle.std.proofs.Common.{◌≡◌, ◌≢◌, ℕ, ◌≤◌, Bool, true, false, cond, ◌&&◌, List, [], ◌∷◌, length, map, Option, Some, None, option_map, unwrap_or, is_some, refl, sym, ap, ◌∙◌, ◌⊎◌, inl, inr, arith}
use Rattle.std.specs.Ordering.{is_lt, is_eq, eq_by_cmp}
use Rattle.std.specs.declared.cmp.Ordering.{Ordering}
use Rattle.std.specs.declared.cmp.Ordering.TheVariants.{Less, Equal, Greater}
use Rattle.std.specs.FinMap.{nat_cmp-IsAntisymmetric, slice_cmp-IsAntisymmetric}
use Rattle.std.specs.FinMap.Entries.{find, put, where_key, below_all, is_sorted, by_order, find-put, is_sorted-put, is_sorted-where_key, find-where_key, same_entries}
use Rattle.std.proofs.Math.Dec.{T}
use Rattle.std.proofs.lemmas.Float.{T_from_true}
use Rattle.std.proofs.lemmas.List.{length-map}
use Rattle.std.proofs.lemmas.Cmp.{nat_list_cmp_total, tied_itself}
use Rattle.omap_pages.specs.Cells.{Cell, Cells, values_of, rooms_of, contents_of}
use Rattle.omap_pages.specs.Contents.{Contents, Readies, room_at}
use Rattle.omap_pages.specs.Rows.{Rows, IsInOrder, key_cmp, value_at, with_row}

-- each entry with f of its value
abbrev pub over : {K X Y : Type 0} → (X → Y) → List (K × X) → List (K × Y)
over f es = map (λ e. (e.0, f e.1)) es

module _ {K X Y : Type 0} (R : K → K → Ordering) (f : X → Y) where
  find_cases : (b : Bool) (x : X) (o : Option X) → cond b (Some (f x)) (option_map f o) ≡ option_map f (cond b (Some x) o)
  find_cases true x o = refl
  find_cases false x o = refl

  pub find-over : (k : K) (es : List (K × X)) → find R k (over f es) ≡ option_map f (find R k es)
  find-over k [] = refl
  find-over k (e ∷ es) = ap (cond (eq_by_cmp R k e.0) (Some (f e.1))) (find-over k es) ∙ find_cases (eq_by_cmp R k e.0) e.1 (find R k es)

  put_cases : (o : Ordering) (xs ys zs : List (K × X)) → over f (by_order o xs ys zs) ≡ by_order o (over f xs) (over f ys) (over f zs)
  put_cases Less xs ys zs = refl
  put_cases Equal xs ys zs = refl
  put_cases Greater xs ys zs = refl

  pub over-put : (k : K) (x : X) (es : List (K × X)) → over f (put R k x es) ≡ put R k (f x) (over f es)
  over-put k x [] = refl
  over-put k x (e ∷ es) = put_cases (R k e.0) _ _ _ ∙ ap (λ z. by_order (R k e.0) ((k, f x) ∷ over f (e ∷ es)) ((e.0, f x) ∷ over f es) ((e.0, f e.1) ∷ z)) (over-put k x es)

  where_cases : (b : Bool) (xs ys : List (K × X)) → over f (cond b xs ys) ≡ cond b (over f xs) (over f ys)
  where_cases true xs ys = refl
  where_cases false xs ys = refl

  pub over-where_key : (p : K → Bool) (es : List (K × X)) → over f (where_key R p es) ≡ where_key R p (over f es)
  over-where_key p [] = refl
  over-where_key p (e ∷ es) = where_cases (p e.0) _ _ ∙ ap (λ z. cond (p e.0) ((e.0, f e.1) ∷ z) z) (over-where_key p es)

  below_all-over : (x : K) (es : List (K × X)) → below_all R x (over f es) ≡ below_all R x es
  below_all-over x [] = refl
  below_all-over x (e ∷ es) = ap (λ b. is_lt (R x e.0) && b) (below_all-over x es)

  pub is_sorted-over : (es : List (K × X)) → is_sorted R (over f es) ≡ is_sorted R es
  is_sorted-over [] = refl
  is_sorted-over (e ∷ es) = λ i. below_all-over e.0 es i && is_sorted-over es i

same_key : (q k : List ℕ) → key_cmp q k ≡ Equal → q ≡ k
same_key = slice_cmp-IsAntisymmetric nat_cmp-IsAntisymmetric

same_or_apart : (q k : List ℕ) → (q ≡ k) ⊎ (q ≢ k)
same_or_apart q k = elim (key_cmp q k) as (λ r. key_cmp q k ≡ r → (q ≡ k) ⊎ (q ≢ k)) [
  | Less ↦ λ e. inr (λ s. let both = sym (tied_itself nat_list_cmp_total q) ∙ ap (key_cmp q) s ∙ e in cc both)
  | Equal ↦ λ e. inl (same_key q k e)
  | Greater ↦ λ e. inr (λ s. let both = sym (tied_itself nat_list_cmp_total q) ∙ ap (key_cmp q) s ∙ e in cc both)
] refl

-- other keys don't tie
pub apart : (q k : List ℕ) → q ≢ k → eq_by_cmp key_cmp q k ≡ false
apart q k ne = elim (key_cmp q k) as (λ r. key_cmp q k ≡ r → is_eq r ≡ false) [
  | Less ↦ λ _. refl
  | Equal ↦ λ e. absurd (ne (same_key q k e))
  | Greater ↦ λ _. refl
] refl

pub tied : (k : List ℕ) → eq_by_cmp key_cmp k k ≡ true
tied k = ap is_eq (tied_itself nat_list_cmp_total k)

module _ {X : Type 0} (rows : List (List ℕ × X)) (key : List ℕ) (x : X) where
  find-put_same : find key_cmp key (put key_cmp key x rows) ≡ Some x
  find-put_same = find-put key_cmp nat_list_cmp_total key key x rows ∙ ap (λ b. cond b (Some x) (find key_cmp key rows)) (tied key)

  find-put_other : (q : List ℕ) → q ≢ key → find key_cmp q (put key_cmp key x rows) ≡ find key_cmp q rows
  find-put_other q ne = find-put key_cmp nat_list_cmp_total q key x rows ∙ ap (λ b. cond b (Some x) (find key_cmp q rows)) (apart q key ne)

is_some-option_map : {X Y : Type 0} (f : X → Y) (o : Option X) → is_some (option_map f o) ≡ is_some o
is_some-option_map f None = refl
is_some-option_map f (Some x) = refl

none_from_test : {X : Type 0} (o : Option X) → is_some o ≡ false → o ≡ None
none_from_test None e = refl
none_from_test (Some x) e = cc

true_from_T : (b : Bool) → T b → b ≡ true
true_from_T true t = refl
true_from_T false t = absurd t

module _ {X : Type 0} (rows new : List (List ℕ × X)) (sorted : is_sorted key_cmp rows ≡ true) where
  pub sorted_put : (key : List ℕ) (x : X) → new ≡ put key_cmp key x rows → is_sorted key_cmp new ≡ true
  sorted_put key x is = ap (is_sorted key_cmp) is ∙ true_from_T _ (is_sorted-put key_cmp nat_list_cmp_total key x rows (T_from_true _ sorted))

  pub sorted_where : (p : List ℕ → Bool) → new ≡ where_key key_cmp p rows → is_sorted key_cmp new ≡ true
  sorted_where p is = ap (is_sorted key_cmp) is ∙ true_from_T _ (is_sorted-where_key key_cmp p rows (T_from_true _ sorted))

-- what is seen after a cell was put at its key
pub record IsPut (old : Contents) (new : Cells) (key value : List ℕ) (size : ℕ) : Type 0 where
  pub rows : values_of new ≡ with_row old.rows key value
  pub at_key : value_at (values_of new) key ≡ Some value
  pub others : (q : List ℕ) → q ≢ key → value_at (values_of new) q ≡ value_at old.rows q
  pub room : room_at (rooms_of new) key ≡ size
  pub other_rooms : (q : List ℕ) → q ≢ key → room_at old.rooms q ≤ room_at (rooms_of new) q
  pub all_rooms : room_at old.rooms key ≤ size → (q : List ℕ) → room_at old.rooms q ≤ room_at (rooms_of new) q

-- what is seen after only the cells stay whose keys pass a test
pub record IsKept (test : List ℕ → Bool) (old : Contents) (new : Cells) : Type 0 where
  pub rows : values_of new ≡ where_key key_cmp test old.rows
  pub passing : (q : List ℕ) → test q ≡ true → value_at (values_of new) q ≡ value_at old.rows q
  pub failing : (q : List ℕ) → test q ≡ false → value_at (values_of new) q ≡ None
  pub rooms : (q : List ℕ) → test q ≡ true → room_at old.rooms q ≤ room_at (rooms_of new) q

module _ {X : Type 0} (rows : List (List ℕ × X)) (test : List ℕ → Bool) (q : List ℕ) where
  find_kept : find key_cmp q (where_key key_cmp test rows) ≡ cond (test q) (find key_cmp q rows) None
  find_kept = find-where_key key_cmp test q (λ x tie. ap test (sym (same_key q x tie))) rows

  find_passing : test q ≡ true → find key_cmp q (where_key key_cmp test rows) ≡ find key_cmp q rows
  find_passing pass = find_kept ∙ ap (λ b. cond b (find key_cmp q rows) None) pass

  find_failing : test q ≡ false → find key_cmp q (where_key key_cmp test rows) ≡ None
  find_failing fail = find_kept ∙ ap (λ b. cond b (find key_cmp q rows) None) fail

-- old is what is seen of the cells
module _ (cells : Cells) (spare : ℕ) (old : Contents) (view : contents_of cells spare ≡ old) where
  pub same_rows : values_of cells ≡ old.rows
  same_rows = ap (λ o. o.rows) view

  same_rooms : rooms_of cells ≡ old.rooms
  same_rooms = ap (λ o. o.rooms) view

  pub value_seen : (key : List ℕ) (o : Option Cell) → find key_cmp key cells ≡ o → value_at old.rows key ≡ option_map (λ c. c.value) o
  value_seen key o is = ap (find key_cmp key) (sym same_rows) ∙ find-over key_cmp (λ (c : Cell). c.value) key cells ∙ ap (option_map (λ (c : Cell). c.value)) is

  pub room_seen : (key : List ℕ) (o : Option Cell) → find key_cmp key cells ≡ o → room_at old.rooms key ≡ unwrap_or (option_map (λ c. c.room) o) 0
  room_seen key o is = ap (λ (o : Option ℕ). unwrap_or o 0) (ap (find key_cmp key) (sym same_rooms) ∙ find-over key_cmp (λ (c : Cell). c.room) key cells ∙ ap (option_map (λ (c : Cell). c.room)) is)

  pub order_seen : is_sorted key_cmp cells ≡ true → IsInOrder old.rows
  order_seen sorted = ap (is_sorted key_cmp) (sym same_rows) ∙ is_sorted-over key_cmp (λ (c : Cell). c.value) cells ∙ sorted

  -- the rows whose keys pass a test
  pub where_seen : (test : List ℕ → Bool) → values_of (where_key key_cmp test cells) ≡ where_key key_cmp test old.rows
  where_seen test = over-where_key key_cmp (λ (c : Cell). c.value) test cells ∙ ap (where_key key_cmp test) same_rows

  pub length-where_seen : (test : List ℕ → Bool) → length (where_key key_cmp test old.rows) ≡ length (where_key key_cmp test cells)
  length-where_seen test = ap length (sym (where_seen test)) ∙ length-map (where_key key_cmp test cells) (λ (e : List ℕ × Cell). (e.0, e.1.value))

  -- a key is found among the cells exactly where it is seen
  pub is_some_seen : (key : List ℕ) → is_some (value_at old.rows key) ≡ is_some (find key_cmp key cells)
  is_some_seen key = ap is_some (value_seen key _ refl) ∙ is_some-option_map (λ (c : Cell). c.value) (find key_cmp key cells)

  pub none_seen : (key : List ℕ) → value_at old.rows key ≡ None → find key_cmp key cells ≡ None
  none_seen key none = none_from_test (find key_cmp key cells) (sym (is_some_seen key) ∙ ap is_some none)

  -- the same cells, beside no fewer spare rows
  pub readied : (new : Cells) (more : ℕ) → new ≡ cells → spare ≤ more → is_sorted key_cmp cells ≡ true → Readies old (contents_of new more)
  readied new more same le sorted = record {
    rows = ap values_of same ∙ same_rows;
    rooms = λ q. let room = ap (λ r. room_at r q) (ap rooms_of same ∙ same_rooms) in omega (arith, room);
    spare = let was = ap (λ o. o.spare) view in omega (arith, was, le);
    in_order = ap (λ z. is_sorted key_cmp (values_of z)) same ∙ is_sorted-over key_cmp (λ (c : Cell). c.value) cells ∙ sorted;
  }

  pub is_put : (new : Cells) (key value : List ℕ) (cell : Cell) → cell.value ≡ value → new ≡ put key_cmp key cell cells → IsPut old new key value cell.room
  is_put new key value cell same_value is =
      let rows : values_of new ≡ with_row old.rows key value = ap values_of is ∙ over-put key_cmp (λ (c : Cell). c.value) key cell cells ∙ (λ i. put key_cmp key (same_value i) (same_rows i)) in
      let rooms : rooms_of new ≡ put key_cmp key cell.room old.rooms = ap rooms_of is ∙ over-put key_cmp (λ (c : Cell). c.room) key cell cells ∙ ap (put key_cmp key cell.room) same_rooms in
      let room : room_at (rooms_of new) key ≡ cell.room = ap (λ r. room_at r key) rooms ∙ ap (λ o. unwrap_or o 0) (find-put_same old.rooms key cell.room) in
      let other_rooms : (q : List ℕ) → q ≢ key → room_at (rooms_of new) q ≡ room_at old.rooms q = λ q ne. ap (λ r. room_at r q) rooms ∙ ap (λ o. unwrap_or o 0) (find-put_other old.rooms key cell.room q ne) in
      record {
        rows = rows;
        at_key = ap (find key_cmp key) rows ∙ find-put_same old.rows key value;
        others = λ q ne. ap (find key_cmp q) rows ∙ find-put_other old.rows key value q ne;
        room = room;
        other_rooms = λ q ne. omega (arith, other_rooms q ne);
        all_rooms = λ le q. elim (same_or_apart q key) [
          | inl same ↦ rw same (omega (arith, room))
          | inr ne ↦ omega (arith, other_rooms q ne)
        ];
      }

  pub is_kept : (new : Cells) (test : List ℕ → Bool) → new ≡ where_key key_cmp test cells → IsKept test old new
  is_kept new test is =
      let rows : values_of new ≡ where_key key_cmp test old.rows = ap values_of is ∙ where_seen test in
      let rooms : rooms_of new ≡ where_key key_cmp test old.rooms = ap rooms_of is ∙ over-where_key key_cmp (λ (c : Cell). c.room) test cells ∙ ap (where_key key_cmp test) same_rooms in
      record {
        rows = rows;
        passing = λ q pass. ap (find key_cmp q) rows ∙ find_passing old.rows test q pass;
        failing = λ q fail. ap (find key_cmp q) rows ∙ find_failing old.rows test q fail;
        rooms = λ q pass. let same = ap (λ r. room_at r q) rooms ∙ ap (λ o. unwrap_or o 0) (find_passing old.rooms test q pass) in omega (arith, same);
      }

-- to put what stands at a key changes nothing
pub put_same : (rows : Rows) (key value : List ℕ) → IsInOrder rows → value_at rows key ≡ Some value → with_row rows key value ≡ rows
put_same rows key value sorted is = same_entries key_cmp nat_list_cmp_total same_key _ _ (T_from_true _ (sorted_put rows _ sorted key value refl)) (T_from_true _ sorted) (λ q. elim (same_or_apart q key) [
  | inl same ↦ rw same (find-put_same rows key value ∙ sym is)
  | inr ne ↦ find-put_other rows key value q ne
])
