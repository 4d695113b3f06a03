-- What one call on a place leaves, and one after another.
use Rattle.std.proofs.Common.{ℕ, refl, ap, ◌∙◌}
use Rattle.object_pool.specs.declared.place.Place.{Place}
use Rattle.object_pool.specs.Objects.{Object, object_at}
use Rattle.object_pool.specs.Places.{Becomes, Changes, ChangesRows, Stays, pool_of}
use Rattle.class_words.specs.Works.{Works, WorksOnRows, WorksWith}

pub works : (old new : Place) (is : Object) → Changes old new is → Works old new
works old new is change = record {
  same_borrow = change.same_borrow;
  key = change.key;
  others = change.others;
  counts = record { frame = ap (λ p. p.frame) change.after; frames = ap (λ p. p.frames) change.after; free = ap (λ p. p.free) change.after };
}

pub works_on_rows : (old new : Place) → ChangesRows old new → WorksOnRows old new
works_on_rows old new change = record { works = works old new _ change; bytes = ap (λ o. o.bytes) change.object; attrs = ap (λ o. o.attrs) change.object }

pub works_becomes : (old new : Place) (is : Object) (free : ℕ) → Becomes old new is free → WorksWith old new free
works_becomes old new is free change = record {
  same_borrow = change.same_borrow;
  key = change.key;
  others = change.others;
  frame = ap (λ p. p.frame) change.after;
  frames = ap (λ p. p.frames) change.after;
  free = ap (λ p. p.free) change.after;
}

pub works_with : (old new : Place) → Works old new → WorksWith old new (pool_of old).free
works_with old new done = record {
  same_borrow = done.same_borrow;
  key = done.key;
  others = done.others;
  frame = done.counts.frame;
  frames = done.counts.frames;
  free = done.counts.free;
}

pub works_stays : (old new : Place) → Stays old new → Works old new
works_stays old new stays = record {
  same_borrow = stays.same_borrow;
  key = stays.key;
  others = λ q apart. ap (λ p. object_at p q) stays.pool;
  counts = record { frame = ap (λ p. p.frame) stays.pool; frames = ap (λ p. p.frames) stays.pool; free = ap (λ p. p.free) stays.pool };
}

pub works_then : (a b c : Place) → Works a b → Works b c → Works a c
works_then a b c x y = record {
  same_borrow = y.same_borrow ∙ x.same_borrow;
  key = y.key ∙ x.key;
  others = λ q apart. y.others q (λ e. apart (e ∙ x.key)) ∙ x.others q apart;
  counts = record { frame = y.counts.frame ∙ x.counts.frame; frames = y.counts.frames ∙ x.counts.frames; free = y.counts.free ∙ x.counts.free };
}

pub works_on_rows_then : (a b c : Place) → WorksOnRows a b → WorksOnRows b c → WorksOnRows a c
works_on_rows_then a b c x y = record { works = works_then a b c x.works y.works; bytes = y.bytes ∙ x.bytes; attrs = y.attrs ∙ x.attrs }

pub works_with_then : (a b c : Place) (free : ℕ) → WorksWith a b free → Works b c → WorksWith a c free
works_with_then a b c free x y = record {
  same_borrow = y.same_borrow ∙ x.same_borrow;
  key = y.key ∙ x.key;
  others = λ q apart. y.others q (λ e. apart (e ∙ x.key)) ∙ x.others q apart;
  frame = y.counts.frame ∙ x.frame;
  frames = y.counts.frames ∙ x.frames;
  free = y.counts.free ∙ x.free;
}

-- nothing was done
pub works_not : (place : Place) → Works place place
works_not place = record { same_borrow = refl; key = refl; others = λ q apart. refl; counts = record { frame = refl; frames = refl; free = refl } }
