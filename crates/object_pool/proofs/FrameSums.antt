-- The frames of the objects are those that are not free.
use Rattle.std.proofs.Common.{◌≡◌, ℕ, ◌==◌, Bool, true, false, not, ◌&&◌, cond, [], ◌∷◌, length, sum_by, refl, sym, ◌∙◌, ap, arith}
use Rattle.std.specs.List.{filter}
use Rattle.std.specs.Int.{div_ceil}
use Rattle.std.proofs.Math.Nat.{zero-div, zero-mod}
use Rattle.std.proofs.lemmas.Bool.{eqb-true}
use Rattle.std.proofs.lemmas.List.{length-take-le}
use Rattle.std.proofs.lemmas.List.Sums.{sum_by-cons}
use Rattle.rgw_types.specs.declared.pool_key.Key.{Key}
use Rattle.frame_region.specs.Region.{RegionView, bytes_of}
use Rattle.object_pool.specs.declared.object.Stored.{Stored}
use Rattle.object_pool.specs.Objects.{Object, Slots, exists, frames_of, HasFrameSum, PoolView}
use Rattle.object_pool.specs.Stored.{Entries, object_in, slots_in, is_stored, IsHeld, AllHeld, IsSound}

pub first_of_both : (a b : Bool) → not (a && b) ≡ false → a ≡ true
first_of_both true b gone = refl
first_of_both false b gone = absurd (let bad : true ≡ false = gone in cc)

-- what does not exist has no frames
no_frames : (frame : ℕ) (o : Object) → exists o ≡ false → frames_of frame o ≡ 0
no_frames frame o gone =
    let none : length o.bytes ≡ 0 = eqb-true (length o.bytes) 0 (first_of_both (length o.bytes == 0) _ gone) in
    let quotient = zero-div frame in
    let rest = zero-mod frame in
    let at_none : div_ceil 0 frame ≡ 0 = omega (arith, quotient, rest) in
    ap (λ n. div_ceil n frame) none ∙ at_none

pub sum_existing : (frame : ℕ) (slots : Slots) → sum_by (λ e. frames_of frame e.1) (filter (λ e. exists e.1) slots) ≡ sum_by (λ e. frames_of frame e.1) slots
sum_existing frame [] = refl
sum_existing frame (e ∷ es) =
    let F : Key × Object → ℕ = λ e. frames_of frame e.1 in
    let E : Key × Object → Bool = λ e. exists e.1 in
    elim (exists e.1) as (λ b. exists e.1 ≡ b → sum_by F (cond b (e ∷ filter E es) (filter E es)) ≡ sum_by F (e ∷ es)) [
      | true ↦ λ _.
          let left = sum_by-cons F e (filter E es) in
          let right = sum_by-cons F e es in
          let more = sum_existing frame es in
          let t : sum_by F (e ∷ filter E es) ≡ sum_by F (e ∷ es) = omega (arith, left, right, more) in t
      | false ↦ λ gone.
          let right = sum_by-cons F e es in
          let none = no_frames frame e.1 gone in
          let more = sum_existing frame es in
          let t : sum_by F (filter E es) ≡ sum_by F (e ∷ es) = omega (arith, right, none, more) in t
    ] refl

-- the bytes of an object are as many as it says
pub size_is : (region : RegionView) (o : Stored) → IsHeld region o → length (object_in region o).bytes ≡ o.size
size_is region o held = length-take-le o.size (bytes_of region o.run) (omega (arith, held.fits, held.owned.sized))

pub frames_are : (region : RegionView) (o : Stored) → IsHeld region o → frames_of region.frame (object_in region o) ≡ o.run.count
frames_are region o held = ap (λ n. div_ceil n region.frame) (size_is region o held) ∙ sym held.count

sum_counts : (region : RegionView) (es : Entries) → AllHeld region es → sum_by (λ e. frames_of region.frame e.1) (slots_in region es) ≡ sum_by (λ e. e.1.run.count) es
sum_counts region [] held = refl
sum_counts region (e ∷ es) held =
    let F : Key × Object → ℕ = λ e. frames_of region.frame e.1 in
    let G : Key × Stored → ℕ = λ e. e.1.run.count in
    let left = sum_by-cons F (e.0, object_in region e.1) (slots_in region es) in
    let right = sum_by-cons G e es in
    let here = frames_are region e.1 held.0 in
    let more = sum_counts region es held.1 in
    let t : sum_by F ((e.0, object_in region e.1) ∷ slots_in region es) ≡ sum_by G (e ∷ es) = omega (arith, left, right, here, more) in t

abbrev pub view_of : RegionView → Entries → PoolView
view_of region es = record { frame = region.frame; frames = region.frames; free = region.free; slots = slots_in region es }

pub frame_sum : (region : RegionView) (frame : ℕ) (es : Entries) → IsSound region frame es → HasFrameSum (view_of region es)
frame_sum region frame es sound =
    omega (arith, sum_existing region.frame (slots_in region es), sum_counts region es sound.held, sound.sum)

pub exists_is : (region : RegionView) (o : Stored) → IsHeld region o → is_stored o ≡ exists (object_in region o)
exists_is region o held = ap (λ n. not (n == 0 && (length o.parts.attrs == 0 && length o.parts.rows.rows == 0))) (sym (size_is region o held))

pub same_pool : (p q : PoolView) → p.frame ≡ q.frame → p.frames ≡ q.frames → p.free ≡ q.free → p.slots ≡ q.slots → p ≡ q
same_pool p q frame frames free slots = λ i. record { frame = frame i; frames = frames i; free = free i; slots = slots i }

pub no_frames_of_none : (frame : ℕ) → div_ceil 0 frame ≡ 0
no_frames_of_none frame = let quotient = zero-div frame in let rest = zero-mod frame in omega (arith, quotient, rest)
