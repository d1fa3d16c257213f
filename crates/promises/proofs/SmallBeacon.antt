-- The profile's checker and sender keep what is said of them (profile/proofs). Assumes nothing.
use Rattle.profile.proofs.Exactly.{accepted, only-these}
use Rattle.profile.proofs.Back.{corrections-cut, cut-told}
use Rattle.promises.specs.SmallBeacon.{SmallBeacon}

pub small-beacon : SmallBeacon
small-beacon = record {
  accepted = accepted;
  only = only-these;
  cut = corrections-cut;
  cut-only = λ h es c d fs there e. cut-told h es c d there fs e;
}
