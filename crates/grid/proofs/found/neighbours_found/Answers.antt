use Rattle.std.proofs.Common.{refl}
use Rattle.grid.specs.Prices.{top_price}
use Rattle.grid.proofs.Searches.{Topped, above_finds, below_finds, fault_finds}
use Rattle.grid.proofs.found.neighbours_found.Goals as goal

pub returns : goal.returns
returns g c =
    let lawful = g.G.PriceGrid.lawful c.args.grid.now in
    let topped : Topped lawful top_price = λ p l. (g.met.G.PriceGrid.priced c.args.grid.now p l).1 in
    record {
      nought = refl;
      found = record {
        next_above_lem = above_finds lawful top_price topped;
        next_below_lem = below_finds lawful top_price topped;
        fault = fault_finds lawful top_price topped;
      };
    }
