-- EVERYTHING PROMISED, in one record: the three demands, how words failed, late joiners, the small-beacon profile, seasons, the listing, the xor law,
-- the mender and the worked values. Assumes nothing.
use Rattle.std.specs.Prelude.{List, ℕ}
use Rattle.promises.specs.Demand1.{Demand1}
use Rattle.promises.specs.Demand2.{Demand2}
use Rattle.promises.specs.Demand3.{Demand3}
use Rattle.promises.specs.Turns.{ReadRows}
use Rattle.promises.specs.Counters.{Counters}
use Rattle.promises.specs.LateJoiners.{LateJoiners}
use Rattle.promises.specs.WordsKept.{WordsKept}
use Rattle.promises.specs.SmallBeacon.{SmallBeacon}
use Rattle.promises.specs.Season.{SeasonTotals}
use Rattle.promises.specs.Course.{Piece, TextIsWhole, NothingLeft, PieceTaken, Reached, TextComes}
use Rattle.promises.specs.XorLaw.{XorLaw}
use Rattle.promises.specs.Mending.{Mending}
use Rattle.promises.specs.Worked.{WorkedValues}

pub record Demands : Type 2 where
  pub first : Demand1
  pub second : Demand2
  pub third : Demand3
  -- reading rows is feeding and taking in turns
  pub rows : ReadRows
  -- how a word failed: told by the word test, and counted by the reader
  pub counters : Counters
  -- two readers of one line agree behind a common frame
  pub late : LateJoiners
  -- a journal that keeps the words
  pub words : WordsKept
  -- the small-beacon profile: its checker and its sender
  pub beacon : SmallBeacon
  -- reports of a season: their totals, split in two, and what they are never refused with
  pub season : SeasonTotals
  -- in whatever pieces a stream is listed, the text is that of the whole
  pub text : (bs : List ℕ) (ps : List Piece) (out : List ℕ) → TextIsWhole bs ps out
  -- a piece that writes nothing used all bytes lent; every piece with room for a line is taken; after enough of them nothing is left, and the whole
  -- text has come
  pub nothing_left : (bs : List ℕ) (ps : List Piece) → NothingLeft bs ps
  pub taken : (bs : List ℕ) (ps : List Piece) → PieceTaken bs ps
  pub reached : (bs : List ℕ) (ps : List Piece) → Reached bs ps
  pub comes : (bs : List ℕ) (ps : List Piece) (out : List ℕ) → TextComes bs ps out
  -- the remainder of an xor of windows
  pub xor : XorLaw
  -- a journal that keeps the words, mended
  pub mending : Mending
  pub values : WorkedValues
