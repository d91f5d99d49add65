use Rattle.std.proofs.Common.{length}
use Rattle.worker_pool.proofs.AllLanes.{all_came}
use Rattle.worker_pool.proofs.team.ends.lanes_have_come.Goals as goal

pub returns : goal.returns
returns g c =
    let script = c.args.script.now in
    let workers = c.args.workers.now in
    let laws = c.a_script_gives_floors_and_ceilings.ensures in
    record {
      came = λ keep app frames begins packets few team kept served.
          all_came g.L.Recorder keep app script frames begins workers packets
          (record { within = λ n. laws.within script n c.len-commands.ensures.order; rises = λ n m le. laws.rises script n m le; count = λ n. laws.count script n })
          few team kept served
          (λ sight some. c.packets_go_to_lanes.ensures.below (length workers) sight some)
          (λ frame. c.packets_go_to_lanes.ensures.frame (length workers) frame);
      floors = λ n. laws.within script n c.len-commands.ensures.order;
      ceilings = λ n m le. laws.rises script n m le;
    }
