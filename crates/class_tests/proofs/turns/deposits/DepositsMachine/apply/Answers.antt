use Rattle.std.proofs.Common.{◌≡◌, ℕ, ◌+◌, ◌%◌, ◌^◌, [], ◌∷◌, ◌++◌, ap, sym, arith}
use Rattle.std.proofs.lemmas.Grind.{common_steps}
use Rattle.class_tests.proofs.Deposits.{balance_push, legal_push}
use Rattle.class_tests.proofs.turns.deposits.DepositsMachine.apply.Goals as goal

pub invariant_of-self-2 : goal.invariant_of-self-2
invariant_of-self-2 c =
    let pushed : c.push.new.self.items ≡ c.args.self.now.log.items ++ (c.args.actor.now, c.args.op.cents, (c.args.self.now.balance + c.args.op.cents) % 2 ^ 64) ∷ [] = grind (arith, common_steps) in
    record {
      balanced = rw pushed (sym (balance_push 0 c.args.self.now.log.items (c.args.actor.now, c.args.op.cents, (c.args.self.now.balance + c.args.op.cents) % 2 ^ 64)));
      few = grind (arith, common_steps);
    }

pub returns-clause-legal : goal.returns-clause-legal
returns-clause-legal c legal _ =
    let e : ℕ × ℕ × ℕ = (c.args.actor.now, c.args.op.cents, (c.args.self.now.balance + c.args.op.cents) % 2 ^ 64) in
    let pushed : c.push.new.self.items ≡ c.args.self.now.log.items ++ e ∷ [] = grind (arith, common_steps) in
    rw pushed (legal_push c.args.self.now.before c.args.self.now.log.items e (ap (λ (n : ℕ). (n + c.args.op.cents) % 2 ^ 64) c.args.self.now.balanced) legal)
