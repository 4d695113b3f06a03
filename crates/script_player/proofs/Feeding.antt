-- A body, piece by piece.
use Rattle.std.proofs.Common.{◌≡◌, ℕ, ◌+◌, ◌-◌, ◌<◌, ◌≤◌, min, List, ◌++◌, take, drop, length, replicate, sym, ap, ◌∙◌, append_assoc, length-append, length-take, length-drop, take-append-drop, arith, Result, Ok, Err, IfOk}
use Rattle.std.proofs.lemmas.List.{take_at, take-take, drop-replicate, take-replicate, length-take-le}
use Rattle.task_put.specs.Taking.{room_at}
use Rattle.task_put.specs.Tasks.{stage_of, fed}
use Rattle.task_put.specs.declared.task.PutTask.{PutTask}
use Rattle.script_player.specs.Plays.{TakesNext}

-- the next bytes behind the first
next_bytes : (bytes piece : List ℕ) (at c n : ℕ) → at ≤ length bytes → piece ≡ take c (drop at bytes) → n ≤ length piece → take at bytes ++ take n piece ≡ take (at + n) bytes
next_bytes bytes piece at c n inside is few =
    let sized : length piece ≡ min c (length bytes - at) = ap length is ∙ length-take c (drop at bytes) ∙ ap (min c) (length-drop at bytes) in
    let within : n ≤ c = omega (arith, sized, few) in
    let same : take n piece ≡ take n (drop at bytes) = ap (take n) is ∙ take-take n c (drop at bytes) within in
    let front = take at bytes ++ take n piece in
    let rest = drop n (drop at bytes) in
    let whole : front ++ rest ≡ bytes =
    append_assoc (take at bytes) (take n piece) rest
    ∙ ap (λ l. take at bytes ++ (l ++ rest)) same
    ∙ ap (λ l. take at bytes ++ l) (take-append-drop n (drop at bytes))
    ∙ take-append-drop at bytes in
    let long : length front ≡ at + n =
    length-append (take at bytes) (take n piece) ∙ ap (λ m. m + length (take n piece)) (length-take-le at bytes inside) ∙ ap (λ m. at + m) (length-take-le n piece few) in
    sym (take_at front rest (at + n) long) ∙ ap (take (at + n)) whole

takes_next : (bytes piece : List ℕ) (at c n : ℕ) (old new : PutTask) → at < length bytes → 1 ≤ c → piece ≡ take c (drop at bytes) → n ≡ min (length piece) (room_at (stage_of old)) → new ≡ fed old (take n piece) → TakesNext bytes at old new n
takes_next bytes piece at c n old new inside some is count task =
    let sized : length piece ≡ min c (length bytes - at) = ap length is ∙ length-take c (drop at bytes) ∙ ap (min c) (length-drop at bytes) in
    record {
      more = take n piece;
      task = task;
      next = next_bytes bytes piece at c n (omega (arith, inside)) is (omega (arith, count));
      inside = omega (arith, inside, sized, count);
      some = λ room. omega (arith, inside, sized, count, some, room);
    }

pub takes_if : {E : Type 0} (bytes piece : List ℕ) (at c : ℕ) (old new : PutTask) (result : Result ℕ E) → at < length bytes → 1 ≤ c → piece ≡ take c (drop at bytes)
    → IfOk result (λ n. n ≡ min (length piece) (room_at (stage_of old))) → IfOk result (λ n. new ≡ fed old (take n piece)) → IfOk result (TakesNext bytes at old new)
takes_if bytes piece at c old new (Ok n) inside some is count task = takes_next bytes piece at c n old new inside some is count task
takes_if bytes piece at c old new (Err e) inside some is count task = tt

-- so many letters are the next ones
pub next_letters : (x size total at c : ℕ) → c ≤ size → c ≤ total - at → take c (replicate size x) ≡ take c (drop at (replicate total x))
next_letters x size total at c here there =
    take-replicate c size x here ∙ sym (take-replicate c (total - at) x there) ∙ ap (take c) (sym (drop-replicate at total x))
