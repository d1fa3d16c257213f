-- Demand 1 holds. Assumes nothing.
use Rattle.promises.specs.Demand1.{Demand1}
use Rattle.promises.proofs.Answered.{settled-once}
use Rattle.promises.proofs.PartCalls.{part-calls}
use Rattle.promises.proofs.StreamCalls.{stream-calls}
use Rattle.promises.proofs.RecordCalls.{record-calls}
use Rattle.promises.proofs.GeneralCalls.{general-calls}
use Rattle.promises.proofs.JournalCalls.{journal-calls}
use Rattle.promises.proofs.MenderCalls.{mender-calls}
use Rattle.promises.proofs.SeasonCalls.{season-calls}
use Rattle.promises.proofs.CarriesItsNumber.{carries-its-number}
use Rattle.promises.proofs.ChangesNeither.{changes-neither, number-alone, only-its-bytes}
use Rattle.promises.proofs.EveryReader.{next-is-accepted, takes-only-frames}

pub demand-1 : Demand1
demand-1 = record {
  parts = part-calls;
  streams = stream-calls;
  records = record-calls;
  generals = general-calls;
  journals = journal-calls;
  menders = mender-calls;
  seasons = season-calls;
  once = settled-once;
  carries = carries-its-number;
  changes = changes-neither;
  alone = number-alone;
  own-bytes = only-its-bytes;
  accepted = next-is-accepted;
  taken = takes-only-frames;
}
