use Rattle.std.proofs.Common.{refl, arith}
use Rattle.worker_pool.proofs.Making.{begun_more}
use Rattle.worker_pool.proofs.team.make.enlist_with.Goals as goal

pub returns-clause-begun : goal.returns-clause-begun
returns-clause-begun g c = λ app keep fresh begun.
    let workers = c.in_ok-push.ensures.items in
    let packets = c.in_ok-push-2.ensures.items in
    rw (workers, packets) (begun_more g.L.Recorder app keep c.args.team.now.workers.items c.args.team.now.packets.items
    (record {
      number = c.len.result;
      lane = c.args.lane;
      packets = c.in_ok-packets_tx.packets;
      commands = c.in_ok-commands_tx.commands;
      answers = c.args.answers;
      used = c.args.used;
    }) c.in_ok-packets_tx.packets_tx
    begun
    (record {
      stands = fresh.stands;
      app_is = fresh.app_is;
      control = fresh.control;
      given = fresh.given;
      last = fresh.last;
      failed = fresh.failed;
      packets = c.in_ok-packets_tx.ensures.taken.0;
      commands = c.in_ok-commands_tx.ensures.taken.0;
    })
    fresh.keeps c.in_ok-packets_tx.ensures.ends c.in_ok-packets_tx.ensures.sent.0)

pub returns-clause-added : goal.returns-clause-added
returns-clause-added g c = record {
  worker = record {
    number = c.len.result;
    lane = c.args.lane;
    packets = c.in_ok-packets_tx.packets;
    commands = c.in_ok-commands_tx.commands;
    answers = c.args.answers;
    used = c.args.used;
  };
  answering = refl;
  giving_back = refl;
  number = omega (arith, c.len.ensures, c.args.team.now.workers.ok.0);
  behind = c.in_ok-push.ensures.items;
}
