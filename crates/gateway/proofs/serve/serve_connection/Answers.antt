use Rattle.std.proofs.Common.{length, refl, ap, arith}
use Rattle.call_service.specs.declared.fault.ServeFault.TheVariants as faults
use Rattle.gateway.specs.Calls.{place_of}
use Rattle.gateway.proofs.Connection.{nothing_served}
use Rattle.gateway.proofs.serve.serve_connection.Goals as goal

pub returns-in-Err-clause-served : goal.returns-in-Err-clause-served
returns-in-Err-clause-served g c =
    nothing_served g.D.Door.tells g.D.Door.alone (place_of c.args.settings.now c.args.zone c.args.users.now) (g.D.Door.found c.args.door.now) (g.D.Door.told c.args.door.now) _ faults.OutOfMemory c.requires.may refl

pub returns-in-Err-vec-clause-served : goal.returns-in-Err-vec-clause-served
returns-in-Err-vec-clause-served g c =
    nothing_served g.D.Door.tells g.D.Door.alone (place_of c.args.settings.now c.args.zone c.args.users.now) (g.D.Door.found c.args.door.now) (g.D.Door.told c.args.door.now) _ faults.OutOfMemory c.requires.may refl

pub serve_parts-requires-clause-goes : goal.serve_parts-requires-clause-goes
serve_parts-requires-clause-goes g c κs within =
    let long = ap length c.deref_mut.ensures.value in
    record {
      site = record { low = c.requires.low; high = c.requires.high; same = c.requires.same };
      room = omega (arith, long, c.deref_mut.ensures.len, c.in-Ok-vec.ensures.len);
      may = c.requires.may;
    }
