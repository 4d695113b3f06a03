use Rattle.std.proofs.Common.{rules, ◌∙◌, sym, ap, unwrap_or}
use Rattle.swift_auth.specs.Users.{standard_user, account_of}
use Rattle.realm_core.specs.Solo.{door_of}
use Rattle.rgw_run.proofs.InTime.{in_time}
use Rattle.rgw_run.proofs.Starting.{prepares_so, unbegun_so, leaves_so}
use Rattle.rgw_run.proofs.running.serve_in.Goals as goal

pub returns-in-Err-clause-leaves : goal.returns-in-Err-clause-leaves
returns-in-Err-clause-leaves g c =
    unbegun_so c.args.settings.now c.args.users.now _
    (λ i. door_of ((c.new-door.ensures.realm.0 ∙ c.requires.new) i) ((c.new-door.ensures.actor.0 ∙ c.new-actor.ensures) i))
    c.args.bucket.now _ c.in-Err.fault _ _ _ c.in-Err.ensures.stopped (search rules) (search rules) (c.in-Err.ensures.worn tt)

pub returns-clause-leaves : goal.returns-clause-leaves
returns-clause-leaves g c =
    let before = c.in_default.ensures in
    let p = prepares_so c.args.settings.now c.args.users.now _
    (λ i. door_of ((c.new-door.ensures.realm.0 ∙ c.requires.new) i) ((c.new-door.ensures.actor.0 ∙ c.new-actor.ensures) i))
    c.args.bucket.now _ _ _ _ (c.account-owner.ensures ∙ ap (λ o. account_of (unwrap_or o standard_user)) (sym c.first.ensures)) before.ready in
    leaves_so c.args.settings.now c.args.users.now c.args.bucket.now _ _ _ _ _ c.end_of.ensures (record {
      bounds = c.requires.bounds;
      moments = p.0;
      ready = _;
      prepares = p.1;
      middle = record {
        left = g.S.Source.left c.args.input.now;
        taken = g.K.Sink.taken c.args.output.now;
        told = g.C.Clock.told c.prepare.new.clock;
        plan = g.C.Clock.plan c.prepare.new.clock;
        read_faults = g.S.Source.faults c.args.input.now;
        write_faults = g.K.Sink.faults c.args.output.now;
      };
      tells = record {
        told = p.2;
        other = λ i. record {
          left = g.S.Source.left c.args.input.now;
          taken = g.K.Sink.taken c.args.output.now;
          told = g.C.Clock.told c.prepare.new.clock;
          plan = before.plan i;
          read_faults = g.S.Source.faults c.args.input.now;
          write_faults = g.K.Sink.faults c.args.output.now;
        };
      };
      door = door_of c.serve_connection-outcome.new.door.realm.now c.serve_connection-outcome.new.door.actor.now;
      left = search rules;
      serves = c.serve_connection-outcome.ensures.served;
    })

pub returns-clause-in_time : goal.returns-clause-in_time
returns-clause-in_time g c = in_time _ _ _ _ _ _ _ _ c.end_of.ensures c.serve_connection-outcome.ensures.served
