-- The pool of a zone once a place in it is given up.
use Rattle.std.proofs.Common.{◌≡◌, ℕ, ◌==◌, ◌&&◌, not, Bool, true, false, cond, List, [], ◌∷◌, length, refl, sym, ap, ◌∙◌, subst, arith}
use Rattle.std.proofs.lemmas.Bool.Decides.{nat_tests}
use Rattle.rgw_types.specs.declared.pool_key.Key.{Key}
use Rattle.omap_pages.specs.Rows.{value_at}
use Rattle.object_pool.specs.declared.place.Place.{Place}
use Rattle.object_pool.specs.Objects.{KeepsOthers, Object, PoolView, exists, nothing, object_at, settled}
use Rattle.object_pool.specs.Places.{IsPlaceIn, key_of, object_of, pool_of}
use Rattle.object_words.specs.Logs.{Log}
use Rattle.object_words.specs.Heads.{Head}
use Rattle.object_words.specs.Roots.{Root}
use Rattle.object_words.specs.Tails.{Tail}
use Rattle.class_words.specs.Works.{WorksWith}
use Rattle.cls_head.specs.Heads.{IsHead}
use Rattle.cls_head.specs.Tails.{IsTail}
use Rattle.cls_record.specs.RootObjects.{IsRoot, account_key}
use Rattle.cls_log.specs.LogObjects.{IsLogObject}

-- what a call on the place of a key left
pub record Gave (p f : PoolView) (key : Key) (is : Object) (left : ℕ) : Type 0 where
  pub object : object_at f key ≡ settled is
  pub others : KeepsOthers p f key
  pub frame : f.frame ≡ p.frame
  pub free : f.free ≡ left

pub gave : (p f : PoolView) (key : Key) (is : Object) (place place' : Place) (left : ℕ) → IsPlaceIn p key is place → WorksWith place place' left → f ≡ pool_of place'
    → Gave p f key (object_of place') left
gave p f key is place place' left at works ends =
    let moved : key_of place' ≡ key = works.key ∙ at.key in
    subst (λ f. Gave p f key (object_of place') left) (sym ends)
    (record {
      object = ap (λ k. object_at (pool_of place') k) (sym moved);
      others = λ q differs. works.others q (λ e. differs (e ∙ at.key)) ∙ at.all q;
      frame = works.frame ∙ at.counts.frame;
      free = works.free;
    })

-- ---- what doesn't exist is nothing

none : {X : Type 0} (xs : List X) → (length xs == 0) ≡ true → xs ≡ []
none [] here = refl
none (x ∷ xs) here = let zero : length (x ∷ xs) ≡ 0 = grind (arith, nat_tests) in absurd (omega (arith, zero))

left_true : (a b : Bool) → (a && b) ≡ true → a ≡ true
left_true true b both = refl
left_true false b both = cc

right_true : (a b : Bool) → (a && b) ≡ true → b ≡ true
right_true true b both = both
right_true false b both = cc

denied : (b : Bool) → not b ≡ false → b ≡ true
denied true here = refl
denied false here = cc

gone : (o : Object) → exists o ≡ false → (length o.bytes == 0 && (length o.attrs == 0 && length o.rows.rows == 0)) ≡ true
gone o here = denied _ here

no_bytes : (o : Object) → exists o ≡ false → o.bytes ≡ []
no_bytes o here = none o.bytes (left_true (length o.bytes == 0) _ (gone o here))

no_attrs : (o : Object) → exists o ≡ false → o.attrs ≡ []
no_attrs o here = none o.attrs (left_true (length o.attrs == 0) _ (right_true (length o.bytes == 0) _ (gone o here)))

pub no_rows_left : (o : Object) → exists o ≡ false → o.rows.rows ≡ []
no_rows_left o here = none o.rows.rows (right_true (length o.attrs == 0) _ (right_true (length o.bytes == 0) _ (gone o here)))

-- a property that holds of the object, and of nothing where the object doesn't exist
by_existence : (Is : Object → Type 0) (o : Object) → (exists o ≡ true → Is o) → (exists o ≡ false → Is nothing) → Is (settled o)
by_existence Is o there absent = elim (exists o) as (λ b. exists o ≡ b → Is (cond b o nothing)) [
  | true ↦ λ t. there t
  | false ↦ λ t. absent t
] refl

pub settled_head : (o : Object) (h : Head) → IsHead o h → IsHead (settled o) h
settled_head o h is = by_existence (λ x. IsHead x h) o (λ there. is) (λ absent. record {
  bytes = sym (no_bytes o absent) ∙ is.bytes;
  attrs = sym (no_attrs o absent) ∙ is.attrs;
  rows = refl;
  bounds = is.bounds;
})

pub settled_tail : (o : Object) (t : Tail) → IsTail o t → IsTail (settled o) t
settled_tail o t is = by_existence (λ x. IsTail x t) o (λ there. is) (λ absent. record {
  bytes = sym (no_bytes o absent) ∙ is.bytes;
  attrs = refl;
  rows = refl;
})

pub settled_root : (o : Object) (r : Root) → IsRoot o r → IsRoot (settled o) r
settled_root o r is = by_existence (λ x. IsRoot x r) o (λ there. is) (λ absent. record {
  bytes = refl;
  attrs = sym (no_attrs o absent) ∙ is.attrs;
  rows = λ key low. ap (λ rows. value_at rows key) (sym (no_rows_left o absent)) ∙ is.rows key low;
  accounts = λ account name fits. ap (λ rows. value_at rows (account_key account name)) (sym (no_rows_left o absent)) ∙ is.accounts account name fits;
  named = is.named;
  bucket = is.bucket;
  log = is.log;
})

pub settled_changes : (o : Object) (log : Log) → IsLogObject o log → IsLogObject (settled o) log
settled_changes o log is = by_existence (λ x. IsLogObject x log) o (λ there. is) (λ absent. record {
  bytes = refl;
  attrs = sym (no_attrs o absent) ∙ is.attrs;
  rows = sym (no_rows_left o absent) ∙ is.rows;
  is_log = is.is_log;
})
