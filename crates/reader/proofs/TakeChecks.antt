-- The cases of `take`: 5, 4, and the frame that waits. Assumes nothing.
use Rattle.std.proofs.Common.{◌≡◌, ◌+◌, ◌-◌, ◌*◌, ◌≤◌, Bool, true, false, cond, not, ◌&&◌, length, Some, None, sym, refl, ap, ◌∙◌, arith}
use Rattle.std.proofs.lemmas.Option.{none-some, cond_some}
use Rattle.frame.specs.declared.Frame.{Frame}
use Rattle.stream.specs.Standing.{n_at, size, stands, frame_at}
use Rattle.stream.proofs.Words.{frame-n}
use Rattle.stream.proofs.Stand.{test-stands}
use Rattle.reader.specs.Hunting.{hunt_of}
use Rattle.reader.specs.Reading.{bits_of, past, frame_waits, moved_to, take_to, refused_taking, taken_by}
use Rattle.reader.specs.Taking.{there_in}
use Rattle.reader.specs.declared.hunt.Halt.{Halt}
use Rattle.reader.specs.declared.Candidate.{Candidate}
use Rattle.reader.specs.declared.Reader.{Reader}
use Rattle.reader.specs.declared.Taken.{Taken}
use Rattle.reader.specs.declared.Answer.TheVariants.{Done}

module _ (r : Reader) where
  unfoldable pub given : Taken
  given = record {
    answer = Done;
    at = r.candidate.at;
    frame = frame_at (bits_of r);
    reader = record { cells = r.cells; candidate = take_to r.cells r.candidate r.ended; ended = r.ended };
  }

  -- by its two checks
  pub by-checks : (p w : Bool) → past r ≡ p → frame_waits r ≡ w → taken_by r ≡ cond p (refused_taking r 5) (cond (not w) (refused_taking r 4) given)
  unfolding taken_by given
  by-checks p w ep ew =
      ap (λ x. cond x (refused_taking r 5) (cond (not (frame_waits r)) (refused_taking r 4) given)) ep
      ∙ ap (λ x. cond p (refused_taking r 5) (cond (not x) (refused_taking r 4) given)) ew

  pub take_past : past r ≡ true → (x : Taken) → x ≡ refused_taking r 5 → x ≡ taken_by r
  take_past p x e = e ∙ sym (by-checks true (frame_waits r) p refl)

  pub take-flag : past r ≡ false → r.candidate.waits ≡ false → (x : Taken) → x ≡ refused_taking r 4 → x ≡ taken_by r
  unfolding frame_waits
  take-flag p w x e = e ∙ sym (by-checks false false p (ap (λ t. t && stands (bits_of r)) w))

  module _ (p : past r ≡ false) (w : r.candidate.waits ≡ true) where
    waits-is : frame_waits r ≡ stands (bits_of r)
    unfolding frame_waits
    waits-is = ap (λ t. t && stands (bits_of r)) w

    pub take-nothing : None ≡ there_in (bits_of r) → (y : Taken) → y ≡ refused_taking r 4 → y ≡ taken_by r
    unfolding there_in
    take-nothing e y f = f ∙ sym (by-checks false false p (waits-is ∙ go (stands (bits_of r)) e))
      where
        go : (t : Bool) → None ≡ cond t (Some (frame_at (bits_of r))) None → t ≡ false
        go true q = absurd (none-some _ q)
        go false q = refl

    module _ (f : Frame) (e : Some f ≡ there_in (bits_of r)) where
      there : (stands (bits_of r) ≡ true) × (f ≡ frame_at (bits_of r))
      unfolding there_in
      there = let q = cond_some (stands (bits_of r)) (frame_at (bits_of r)) f (sym e) in (q.0, sym q.1)

      pub n-there : f.n ≡ n_at (bits_of r)
      n-there = ap (λ (g : Frame). g.n) there.1 ∙ frame-n (bits_of r)

      pub come-there : length (bits_of r) ≡ r.candidate.held → 30 * (f.n + 2) ≤ r.candidate.held
      come-there long = omega (arith, n-there, (test-stands (bits_of r) there.0).taken)

      pub take_done : (halt : Halt)
          → halt ≡ hunt_of r.cells r.candidate.end (r.candidate.held - 30 * (f.n + 2)) 0 r.ended r.candidate.tally
          → (c : Candidate) → c ≡ moved_to r.candidate.at r.candidate.end r.candidate.held halt
          → record { answer = Done; at = r.candidate.at; frame = f; reader = record { cells = r.cells; candidate = c; ended = r.ended } } ≡ taken_by r
      unfolding given take_to
      take_done halt es c ec = rw (there.1, ec, es, words) (sym (by-checks false true p (waits-is ∙ there.0)))
        where
          words : f.n + 2 ≡ size (bits_of r)
          words = omega (arith, n-there)
