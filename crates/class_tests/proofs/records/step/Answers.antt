use Rattle.std.proofs.Common.{◌≡◌, ℕ, ◌+◌, ◌≤◌, ◌==◌, ◌&&◌, Bool, true, false, if◌then◌else◌, List, Option, Some, None, Result, Ok, Err, Bor, option_map, arith}
use Rattle.object_pool.specs.Objects.{Object}
use Rattle.object_pool.specs.Places.{object_of}
use Rattle.object_words.specs.declared.bucket.Bucket.{Bucket}
use Rattle.object_words.specs.declared.why.Why.{Why}
use Rattle.object_words.specs.declared.why.ClassFault.{ClassFault}
use Rattle.object_words.specs.declared.why.ClassFault.TheVariants.{OutOfMemory, No}
use Rattle.object_words.specs.declared.log.LogWhat.TheVariants.{Bucket as bucket_row}
use Rattle.object_words.specs.Answers.{Answers}
use Rattle.object_words.specs.Logs.{Log, logged}
use Rattle.object_words.specs.Names.{at}
use Rattle.object_words.specs.Refusals.{unless_refused}
use Rattle.object_words.specs.Roots.{Root, is_logged, stored_or_none, swap_refusal, swapped, with_bucket}
use Rattle.cls_record.specs.RootObjects.{IsRoot}
use Rattle.class_tests.proofs.records.step.Goals as goal

-- a root whose log has not many rows
abbrev HasFew : Object → ℕ → Type 0
HasFew o rows = (r : Root) × IsRoot o r × (r.log.last ≤ rows)

any_answer : (result : Result (Unit {0}) ClassFault) (refusal : Option Why) (o : Object) (rows : ℕ) (before after : Root) → before.log.last ≤ rows → after.log.last ≤ rows + 1
    → Answers result refusal (λ _. Unit {0}) (IsRoot o) before after → HasFew o (rows + 1)
any_answer (Ok x) refusal o rows before after few more is = (after, is.2, more)
any_answer (Err (No why)) refusal o rows before after few more is = (after, is.1, more)
any_answer (Err OutOfMemory) refusal o rows before after few more is = (before, is, omega (arith, few))

one_more : (b : Bool) (log : Log) (name : List ℕ) (rows : ℕ) → log.last ≤ rows → (if b then logged log (bucket_row name) else log).last ≤ rows + 1
one_more true log name rows few = omega (arith, few)
one_more false log name rows few = omega (arith, few)

refused_or_not : (refusal : Option Why) (before after : Root) (rows : ℕ) → before.log.last ≤ rows → after.log.last ≤ rows + 1 → (unless_refused refusal before after).log.last ≤ rows + 1
refused_or_not None before after rows few more = more
refused_or_not (Some why) before after rows few more = omega (arith, few)

grows_by_one : (r : Root) (name : List ℕ) (expected : ℕ) (new : Option Bucket) (master : Bool) (number rows : ℕ) → r.log.last ≤ rows
    → (swapped r name expected new master number).log.last ≤ rows + 1
grows_by_one r name expected new master number rows few =
    let kept = at r.buckets name in
    let after : Root = record { buckets = with_bucket r.buckets name (stored_or_none kept new master number); log = if master && is_logged kept new then logged r.log (bucket_row name) else r.log } in
    refused_or_not (swap_refusal r name expected) r after rows few (one_more (master && is_logged kept new) r.log name rows few)

pub returns : goal.returns
returns c =
    let r = c.requires.root.0 in
    let few = c.requires.root.2 in
    any_answer c.swap.result _ (object_of c.swap.new.root) c.args.rows r (swapped r c.args.name.now c.args.expected (option_map (λ (b : Bor Bucket). b.now) c.args.new) c.args.master c.args.number) few
    (grows_by_one r c.args.name.now c.args.expected (option_map (λ (b : Bor Bucket). b.now) c.args.new) c.args.master c.args.number c.args.rows few)
    (c.swap.ensures.answers r c.requires.root.1 (omega (arith, few, c.requires.rows)))

pub swap-requires : goal.swap-requires
swap-requires c = (c.requires.root.0, c.requires.root.1, omega (arith, c.requires.root.2, c.requires.rows))
