-- Everything that is promised holds. Assumes nothing.
use Rattle.promises.specs.Demand3.{Demand3}
use Rattle.promises.specs.Demands.{Demands}
use Rattle.promises.proofs.Demand1.{demand-1}
use Rattle.promises.proofs.Demand2.{demand-2}
use Rattle.promises.proofs.Demand3.{handed_out_lem, one_by_one, damage-begins-nothing, only-frames, nothing-lost, as-soon-as, never-five}
use Rattle.promises.proofs.Slices.{in-slices}
use Rattle.promises.proofs.Turns.{turns-are-calls}
use Rattle.promises.proofs.FreshRows.{rows-among-calls}
use Rattle.promises.proofs.RowLaws.{rows-hold}
use Rattle.promises.proofs.LateJoiners.{late-joiners}
use Rattle.promises.proofs.WordsKept.{words-kept}
use Rattle.promises.proofs.SmallBeacon.{small-beacon}
use Rattle.promises.proofs.Season.{season-totals}
use Rattle.promises.proofs.Turned.{turned-is-same}
use Rattle.promises.proofs.Counters.{counters}
use Rattle.promises.proofs.EveryReader.{feed-all-is-feed}
use Rattle.promises.proofs.Whole.{text-is-whole}
use Rattle.promises.proofs.Progress.{nothing_left, piece-taken, reached, text-comes}
use Rattle.promises.proofs.XorLaw.{xor-law}
use Rattle.promises.proofs.Mending.{mending}
use Rattle.promises.proofs.Worked.{worked}

pub demand-3 : Demand3
demand-3 = record {
  out = handed_out_lem;
  each = one_by_one;
  slices = in-slices;
  turned = turned-is-same;
  damage = damage-begins-nothing;
  only = only-frames;
  nothing-lost = nothing-lost;
  soon = as-soon-as;
  never-5 = never-five;
  together = feed-all-is-feed;
}

pub demands : Demands
demands = record {
  first = demand-1;
  second = demand-2;
  third = demand-3;
  rows = record { turns = turns-are-calls; rows = rows-hold; among = rows-among-calls };
  counters = counters;
  late = late-joiners;
  words = words-kept;
  beacon = small-beacon;
  season = season-totals;
  text = text-is-whole;
  nothing_left = nothing_left;
  taken = piece-taken;
  reached = reached;
  comes = text-comes;
  xor = xor-law;
  mending = mending;
  values = worked;
}
