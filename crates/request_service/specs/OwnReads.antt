-- The own events of a GET read: the container's row, the head, and tails.
use Rattle.std.proofs.Common.{◌≡◌, ℕ, true, List, [], ◌∷◌, ◌++◌, map, Some, None, Option, refl, sym, subst}
use Rattle.std.specs.List.{AllByRecursion}
use Rattle.rgw_types.specs.Stripes.{ManifestView}
use Rattle.object_words.specs.declared.head.SeenSlot.{SeenSlot}
use Rattle.object_words.specs.declared.head.SeenSlot.TheVariants.{Nothing, Live, Mark}
use Rattle.realm_model.specs.Accounts.{Account}
use Rattle.realm_model.specs.Owns.{OwnEvent}
use Rattle.realm_model.specs.Phases.{Phase}
use Rattle.realm_model.specs.declared.op.Op.{Op}
use Rattle.task_words.specs.declared.command.GetCommand.{GetCommand}
use Rattle.task_words.specs.declared.outcome.Outcome.{Outcome}
use Rattle.task_words.specs.declared.outcome.Outcome.TheVariants.{Done, LateRead}
use Rattle.task_words.specs.declared.reply.MapReply.{MapReply}
use Rattle.task_words.specs.declared.reply.MapReply.TheVariants.{Refused}
use Rattle.task_words.specs.declared.reply.Refusal.TheVariants.{Unauthorized, Denied, NoContainer}
use Rattle.task_words.specs.declared.span.ByteRange.{ByteRange}
use Rattle.task_get.specs.declared.request.GetRequest.{GetRequest}
use Rattle.task_get.specs.declared.stage.Stage.{Stage}
use Rattle.task_get.specs.declared.stage.Stage.TheVariants.{Look, Open, Tails, Ended, Late}
use Rattle.task_get.specs.Gets.{ReadsHead, ReadsRow, ops_in, ReadsAll, EndsWith, Means, FitsStage}
use Rattle.task_get.specs.Pieces.{read_of, reads_of, tail_reads}
use Rattle.task_get.specs.Replies.{range_of}
use Rattle.call_words.specs.Events.{is_of_get, AreOfGet}

abbrev OpsOfGet : List Op → Type 0
OpsOfGet ops = AllByRecursion (λ op. is_of_get op ≡ true) ops

each_read : {A : Type 0} (f : A → Op) → ((x : A) → is_of_get (f x) ≡ true) → (xs : List A) → OpsOfGet (map f xs)
each_read f is [] = tt
each_read f is (x ∷ xs) = (is x, each_read f is xs)

range_reads : (zone : ℕ) (m : ManifestView) (range : Option ByteRange) → OpsOfGet (reads_of zone m range)
range_reads zone m None = tt
range_reads zone m (Some range) = each_read (read_of zone m) (λ p. refl) _

tails_read : (zone : ℕ) (c : GetCommand) (slot : SeenSlot) → OpsOfGet (tail_reads zone c slot)
tails_read zone c Nothing = tt
tails_read zone c (Live new stamp) = range_reads zone new.manifest (range_of c (Live new stamp))
tails_read zone c (Mark stamp) = tt

ops_read : (events : List OwnEvent) → OpsOfGet (ops_in events) → AreOfGet events
ops_read [] are = tt
ops_read (e ∷ es) are = (are.0, ops_read es are.1)

front_reads : (events : List OwnEvent) (rest : List Op) → OpsOfGet (ops_in events ++ rest) → AreOfGet events
front_reads [] rest are = tt
front_reads (e ∷ es) rest are = (are.0, front_reads es rest are.1)

one_more : (events : List OwnEvent) (last : OwnEvent) (rest : List Op) → OpsOfGet (ops_in events ++ last.op ∷ rest) → AreOfGet (events ++ last ∷ [])
one_more [] last rest are = (are.0, tt)
one_more (e ∷ es) last rest are = (are.0, one_more es last rest are.1)

row_reads : (r : GetRequest) (events : List OwnEvent) → ReadsRow r events → AreOfGet events
row_reads r events x = subst AreOfGet (sym x.stands) (subst (λ op. is_of_get op ≡ true) (sym x.op) refl, tt)

head_reads : (r : GetRequest) (slot : SeenSlot) (head : OwnEvent) (later events : List OwnEvent) → ReadsHead r slot head later events → AreOfGet later → AreOfGet events
head_reads r slot head later events x are =
    subst AreOfGet (sym x.stands) (
      subst (λ op. is_of_get op ≡ true) (sym x.granted.op) refl,
      (subst (λ op. is_of_get op ≡ true) (sym x.shown.op) refl, are),
    )

all_reads : (r : GetRequest) (events : List OwnEvent) → ReadsAll r events → AreOfGet events
all_reads r events x =
    head_reads r x.slot x.head x.tails events x.begins
    (ops_read x.tails (subst OpsOfGet (sym x.asked) (tails_read r.zone r.get x.slot)))

ends_reads : (r : GetRequest) (reply : MapReply) (y : Account) (events : List OwnEvent) → EndsWith r reply y events → AreOfGet events
ends_reads r (Refused Unauthorized) y events x = row_reads r events x
ends_reads r (Refused (Denied rule)) y events x = row_reads r events x
ends_reads r (Refused NoContainer) y events x = row_reads r events x
ends_reads r reply y events x = all_reads r events x.0

-- whatever a GET ended with
pub means_reads : (r : GetRequest) (outcome : Outcome) (y : Account) (events : List OwnEvent) → Means r outcome y events → AreOfGet events
means_reads r (Done reply) y events x = ends_reads r reply y events x.1
means_reads r (LateRead read_at clock) y events x =
    let m = x.1 in
    head_reads r m.slot m.head (m.tails ++ m.last ∷ []) events m.begins
    (one_more m.tails m.last m.rest (subst OpsOfGet m.asked (tails_read r.zone r.get m.slot)))
means_reads r outcome y events x = absurd x

-- wherever it stands
pub stage_reads : (r : GetRequest) (stage : Stage) (y : Account) (p : Phase) (events : List OwnEvent) → FitsStage r stage y p events → AreOfGet events
stage_reads r Look y p events x = subst AreOfGet (sym x.none) tt
stage_reads r (Open container) y p events x =
    subst AreOfGet (sym x.stands) (subst (λ op. is_of_get op ≡ true) (sym x.granted.op) refl, tt)
stage_reads r (Tails v) y p events x =
    head_reads r (Live x.new x.stamp) x.head x.tails events x.has_read.begins
    (front_reads x.tails _ (subst OpsOfGet x.asked (tails_read r.zone r.get (Live x.new x.stamp))))
stage_reads r (Ended outcome given) y p events x = means_reads r outcome y events x.0
stage_reads r (Late v outcome) y p events x = means_reads r outcome y events x.0
