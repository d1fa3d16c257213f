-- What holds of a reader that was started and called: its numbers fit its bytes, and a frame that it hands out is one that stood. Assumes nothing.
use mathlib.Core.Path.{◌≡◌, refl, sym, ap, subst, ◌∙◌}
use mathlib.Core.Bool.{Bool, true, false}
use mathlib.Core.List.Memᴰ
use mathlib.Core.List.{List, [], ◌∷◌, ◌++◌, Memᴰ}
use Prim.Native.Nat.{ℕ}
use Rattle.answer.specs.Order.{answers}
use Rattle.frame.specs.declared.Frame.{Frame}
use Rattle.stream.specs.Standing.{frame_at, Placed, placed}
use Rattle.stream.specs.Places.{StandsIn}
use Rattle.stream.proofs.Hunting.{MayCome}
use Rattle.stream.proofs.Scanning.{only}
use Rattle.reader.specs.Reading.{started, taken_by, says_taken}
use Rattle.reader.specs.declared.Reader.{Reader}
use Rattle.rtcm2_state.proofs.Storable.{StorableReader, storable-started, storable-fed, storable-fed-all, storable-ended, storable-taken}
use Rattle.promises.specs.Calls.{Call, feeds, feeds_all, ends, takes, took, reply_to, after, bits_given, frame_given, reported}
use Rattle.promises.proofs.Kept.{Kept, kept-started}
use Rattle.promises.proofs.Runs.{kept-call}

pub record Called (r : Reader) : Type 0 where
  pub storable : StorableReader r
  pub bits : List Bool
  pub out : List (ℕ × Frame)
  pub kept : Kept bits out r

pub called-started : Called started
called-started = record { storable = storable-started; bits = []; out = []; kept = kept-started }

storable-call : (r : Reader) → StorableReader r → (c : Call) → StorableReader (after r c)
unfolding after
storable-call r k (feeds b) = storable-fed r k b
storable-call r k (feeds_all bs) = storable-fed-all r k bs
storable-call r k ends = storable-ended r k
storable-call r k takes = storable-taken r k

pub called-call : (r : Reader) → Called r → (c : Call) → Called (after r c)
called-call r k c = record { storable = storable-call r k.storable c; bits = _; out = _; kept = kept-call k.bits k.out r c k.kept }

-- ---- what it hands out

nothing-comes : (ended : Bool) → MayCome ended []
nothing-comes true = refl
nothing-comes false = tt

pub handed-stood : (r : Reader) → Called r → (at : ℕ) (f : Frame) → says_taken (taken_by r) ≡ answers (at, f) → (d : List Bool) × (f ≡ frame_at d)
unfolding reported placed
handed-stood r k at f e = (_, sym (ap (λ (v : ℕ × Frame). v.1) there.2) ∙ ap (λ (h : Placed). h.frame) stood.is)
  where
    s : List Bool
    s = k.bits ++ bits_given takes (reply_to r takes)

    next : Kept s (k.out ++ frame_given (reply_to r takes)) (after r takes)
    next = kept-call k.bits k.out r takes k.kept

    given : frame_given (reply_to r takes) ≡ (at, f) ∷ []
    given = unfold reply_to frame_given in ap (λ x. frame_given (took x)) e

    -- it is one of the frames that were found
    there : (h : Placed) × Memᴰ h next.hits × (reported h ≡ (at, f))
    there =
        Memᴰ.of_map reported next.hits
        (subst (Memᴰ (at, f)) (ap (λ l. k.out ++ l) (sym given) ∙ next.given) (Memᴰ.append_right k.out (Memᴰ.head refl)))

    stood : StandsIn 2 (s ++ []) there.0
    stood =
        only 0 2 (s ++ []) there.0
        (subst (Memᴰ there.0) (sym (next.stage.scanned [] (nothing-comes (after r takes).ended))) (Memᴰ.append_left _ there.1))
