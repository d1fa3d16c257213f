-- The bytes that a function made or kept a frame in begin with the frame's record: recalled, it gives the header's numbers and the frame back.
-- Assumes nothing.
use mathlib.Core.Path.{◌≡◌, refl, sym, ap, ap₂, subst, ◌∙◌}
use mathlib.Core.Bool.{Bool, true, false, cond}
use mathlib.Core.List.{List, ◌++◌}
use Prim.Native.Nat.{ℕ, ◌+◌, ◌*◌, ◌≤◌, ◌<◌}
use native.Mathlib.Omega.{arith}
use lib.Dec.{ltb}
use lib.ListN.{length, take, drop}
use lib.Seq.{take_at}
use borrow.Author.Tests.{ltb-false}
use Rattle.answer.specs.Order.{Says, refuses, answers, NoneApplies}
use Rattle.answer.proofs.OrderLaws.{order-answers, refuses-apart}
use Rattle.frame.specs.Header.{code_of}
use Rattle.frame.specs.Frames.{framed, after_pair, bare}
use Rattle.frame.specs.declared.Frame.{Frame}
use Rattle.frame.specs.declared.Header.{Header}
use Rattle.frame.proofs.StateLaws.{code-state}
use Rattle.frame.proofs.FrameLaws.{n_within, length-framed}
use Rattle.journal.specs.Journal.{record_of, keep_order, kept_by, held_by, says_kept, says_recalled}
use Rattle.journal.specs.declared.Kept.TheVariants as kept
use Rattle.journal.proofs.KeepLaws.{length-record}
use Rattle.journal.proofs.RoundTrip.{recall-record}
use Rattle.rtcm2.specs.Answer.{and_then}
use Rattle.rtcm2.specs.Header.{headed}
use Rattle.rtcm2.specs.Frames.{frame_said, kept_to, held_to, recall_said}
use Rattle.rtcm2.specs.Orders.{header_with}
use Rattle.rtcm2.proofs.MakeOrders.{headed-order}
use Rattle.promises.proofs.CarriesItsNumber.{carries-its-number, says-inj, none_told}
use Rattle.rtcm2_promises.specs.ReadsBack.{Back, GivesBack}

-- a frame that was said and kept
record Said (said : Says Frame) (lent : List ℕ) (size : ℕ) : Type 0 where
  frame : Frame
  is : said ≡ answers frame
  kept : says_kept (kept_by frame lent) ≡ answers size

said-kept : (said : Says Frame) (lent : List ℕ) (size : ℕ) → kept_to said lent ≡ answers size → Said said lent size
said-kept (answers f) lent size e = record { frame = f; is = refl; kept = e }
said-kept (refuses n) lent size e = absurd (refuses-apart n size e)

-- ---- a frame of a header and words, kept: its record is what the bytes begin with

module _ (h : Header) (ws : List ℕ) (f : Frame) (is : framed h ws ≡ f) (lent : List ℕ) (size : ℕ) (e : says_kept (kept_by f lent) ≡ answers size) where
  none : NoneApplies (keep_order f lent)
  none = none_told (carries-its-number.keep f lent) size e

  full : length f.words ≡ 31
  unfolding framed
  full = ap (λ (g : Frame). length g.words) (sym is) ∙ length-framed h ws (subst (λ (g : Frame). g.n ≤ 31) (sym is) (n_within f none.0))

  long : size ≡ 3 * f.n + 9
  long = says-inj (sym e ∙ ap says_kept (order-answers kept.Refused (kept.Done (3 * f.n + 9)) (keep_order f lent) none))

  front : take size (held_by f lent) ≡ record_of f
  front =
      ap (take size) (order-answers (λ n. lent) (record_of f ++ drop (3 * f.n + 9) lent) (keep_order f lent) none)
      ∙ take_at (record_of f) (drop (3 * f.n + 9) lent) size (length-record f none.0 full ∙ sym long)

  recalls : (rest : List ℕ) → recall_said (record_of f ++ rest) ≡ answers (size, f)
  recalls rest = ap says_recalled (recall-record f full none.0 rest) ∙ ap₂ (λ m g. answers (m, g)) (sym long) own
    where
      own : bare f ≡ f
      own = subst (λ g. bare g ≡ g) is (unfold framed after_pair in refl)

-- ---- made or kept of five numbers

module _ (kind station z sequence code : ℕ) (next : Header → Says Frame) where
  abbrev head : Header
  head = header_with kind station z sequence code

  abbrev said : Says Frame
  said = and_then (headed kind station z sequence code) next

  headed-told : (f : Frame) → said ≡ answers f → (code < 8) × (next head ≡ answers f)
  headed-told f e = go (ltb 7 code) refl (sym (headed-order kind station z sequence code next) ∙ e)
    where
      go : (t : Bool) → ltb 7 code ≡ t → cond t (refuses 5) (next head) ≡ answers f → (code < 8) × (next head ≡ answers f)
      go true x q = absurd (refuses-apart 5 f q)
      go false x q = (omega (arith, ltb-false 7 code x), q)

  -- `whole`: what is said is a frame of the header and words; `reads`: what is read of its record
  pub gives_back : (Reads : List ℕ → Type 0) → ((f : Frame) → next head ≡ answers f → (ws : List ℕ) × (framed head ws ≡ f))
      → ((f : Frame) (rest : List ℕ) → next head ≡ answers f → frame_said (record_of f ++ rest) ≡ answers f → Reads (record_of f ++ rest))
      → GivesBack kind station z sequence code said Reads
  unfolding framed
  gives_back Reads whole reads lent rest size e = subst (Back kind station z sequence code size Reads) (sym bytes) (record {
    n = f.n;
    long = long head ws f is lent size s.kept;
    numbers = ap (λ v. and_then v (λ r. answers (numbers r.1.header r.1.n r.0))) again
        ∙ ap (λ h. answers (numbers h f.n size)) (ap (λ (g : Frame). g.header) (sym is))
        ∙ ap (λ c. answers (kind, (station, (z, (sequence, (c, (f.n, size))))))) (code-state code t.0);
    reads = reads f rest t.1 (ap (λ v. and_then v (λ r. answers r.1)) again);
  })
    where
      s : Said said lent size
      s = said-kept said lent size e

      f : Frame
      f = s.frame

      t : (code < 8) × (next head ≡ answers f)
      t = headed-told f s.is

      ws : List ℕ
      ws = (whole f t.1).0

      is : framed head ws ≡ f
      is = (whole f t.1).1

      numbers : Header → ℕ → ℕ → ℕ × (ℕ × (ℕ × (ℕ × (ℕ × (ℕ × ℕ)))))
      numbers h n size = (h.kind, (h.station, (h.z, (h.sequence, (code_of h.state, (n, size))))))

      bytes : take size (held_to said lent) ++ rest ≡ record_of f ++ rest
      bytes = ap (λ v. take size (held_to v lent) ++ rest) s.is ∙ ap (λ l. l ++ rest) (front head ws f is lent size s.kept)

      again : recall_said (record_of f ++ rest) ≡ answers (size, f)
      again = recalls head ws f is lent size s.kept rest
