use Rattle.std.proofs.Common.{refl, length-set, drop-set-lt}
use lib.Seq.{take-set-lt}
use Rattle.queue.proofs.queue.Queue.replace.Goals as goal

pub returns : goal.returns
returns g c =
    let xs = c.args.self.now.records.now in
    let n = c.args.self.now.count in
    record {
      queue = take-set-lt n xs c.args.i c.args.r c.requires;
      count = refl;
      beyond = drop-set-lt n xs c.args.i c.args.r c.requires;
      kept = record { room = length-set xs c.args.i c.args.r; lender = refl };
    }
