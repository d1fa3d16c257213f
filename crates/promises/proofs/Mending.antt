-- What is promised of the mender holds. Assumes nothing.
use Rattle.mender_words.proofs.Places as places
use Rattle.mender_words.proofs.Mending as words
use Rattle.mender_words.proofs.Turned as turned
use Rattle.mender.proofs.RunLaws as run
use Rattle.mender.proofs.PlaceLaws as kept
use Rattle.mender.proofs.LostLaws as lost
use Rattle.mender.proofs.FirstLaws as first
use Rattle.mender.proofs.WindowLaws as window
use Rattle.promises.specs.Mending.{Mending}

pub mending : Mending
mending = record {
  own = places.own-remainder;
  every = λ r h o. let p = places.every-place r h o in (p.low, p.is);
  mended = λ v u e. let m = words.mended-passes v u e in (m.sound, m.one);
  one = turned.one-back;
  two = turned.two-kept;
  two-turned = lost.two-turned;
  windowed = window.windowed-step;
  windowed-bytes = window.windowed-bytes;
  windowed-report = window.windowed-report;
  first-kept = λ rs rs' t. (first.first-kept rs rs' t).bytes;
  none-lost = λ rs rs' t. let b = first.first-kept rs rs' t in (b.lost, b.passed);
  lost-stays = lost.lost-stays;
  long = run.run_long;
  told = run.changes-told;
  whole-reads = kept.whole-reads;
}
