-- What a listing has told: its lines are those of the frames that its reader handed out, and its totals those of the bytes used. Assumes nothing.
use mathlib.Core.Path.{◌≡◌, refl, sym, ap, subst, subst₂, ◌∙◌}
use mathlib.Core.Bool.{Bool, true, false, cond}
use mathlib.Core.List.{List, [], ◌∷◌, ◌++◌, map, append-nil, append_assoc}
use Prim.Native.Nat.{ℕ, zero, suc, ◌+◌, ◌*◌, ◌%◌, ◌^◌, ◌≤◌}
use native.Mathlib.Omega.{arith}
use lib.ListN.{length, take, drop, length-append}
use lib.Seq.{take-add, append_snoc, length-take-le}
use Rattle.line.specs.Line.{is_data, six, line_bits, without}
use Rattle.frame.specs.declared.Frame.{Frame}
use Rattle.stream.specs.Standing.{Placed}
use Rattle.reader.specs.Reading.{fed_all_by, taken_by, says_answer, carrying, says_taken}
use Rattle.reader.specs.declared.Reader.{Reader}
use Rattle.reader.specs.declared.Taken.{Taken}
use Rattle.reader.specs.declared.Answer.{Answer}
use Rattle.reader.specs.declared.Answer.TheVariants.{Done, Refused}
use Rattle.promises.specs.Calls.{feeds_all, takes, took, reply_to, after, bits_given, frame_given, reported}
use Rattle.promises.proofs.Kept.{Kept, kept-started}
use Rattle.promises.proofs.Runs.{not_done, given, sound-taken, Sound, kept-sound, all-bits, kept-call}
use Rattle.promises.proofs.Serving.{take_ended, fewer}
use Rattle.promises.proofs.EveryReader.{fed-parts}
use Rattle.listing.specs.Text.{spaced, line_numbers, pair_last, frame_line, lines_in}
use Rattle.listing.specs.Listing.{begun, fed_on, handed_on, Lines, line_then, lines_of}
use Rattle.listing.specs.declared.Listing.{Listing}
use Rattle.listing.proofs.LinesLaws.{fed-used}

-- ---- lists of bytes, one after the other

pub bits-after : (a b : List ℕ) → line_bits (a ++ b) ≡ line_bits a ++ line_bits b
unfolding line_bits
bits-after [] b = refl
bits-after (x ∷ a) b = ap (λ l. cond (is_data x) (six x) [] ++ l) (bits-after a b) ∙ sym (append_assoc (cond (is_data x) (six x) []) (line_bits a) (line_bits b))

pub without-after : (a b : List ℕ) → without (a ++ b) ≡ without a + without b
unfolding without
without-after [] b = omega arith
without-after (x ∷ a) b = rest (cond (is_data x) 0 1) (without-after a b)
  where
    rest : (n : ℕ) → without (a ++ b) ≡ without a + without b → n + without (a ++ b) ≡ n + without a + without b
    rest n e = omega arith

-- ---- the lines of frames as they were handed out

unfoldable pub told : List (ℕ × Frame) → List ℕ
told [] = []
told (v ∷ vs) = frame_line v.0 v.1 ++ told vs

pub told-after : (a b : List (ℕ × Frame)) → told (a ++ b) ≡ told a ++ told b
unfolding told
told-after [] b = refl
told-after (v ∷ a) b = ap (λ l. frame_line v.0 v.1 ++ l) (told-after a b) ∙ sym (append_assoc (frame_line v.0 v.1) (told a) (told b))

pub told-reported : (hs : List Placed) → told (map reported hs) ≡ lines_in hs
unfolding told reported lines_in
told-reported [] = refl
told-reported (h ∷ hs) = ap (λ l. frame_line (h.at % 2 ^ 32) h.frame ++ l) (told-reported hs)

-- ---- a listing that has used these bytes and handed out these frames

pub record Told (used : List ℕ) (out : List (ℕ × Frame)) (l : Listing) : Type 0 where
  pub kept : Kept (line_bits used) out l.reader
  pub frames : l.frames ≡ length out % 2 ^ 64
  pub bytes : l.bytes ≡ length used % 2 ^ 64
  pub passed : l.passed ≡ without used % 2 ^ 64

pub told_none : Told [] [] begun
unfolding begun line_bits without
told_none = record { kept = kept-started; frames = refl; bytes = refl; passed = refl }

-- totals modulo 2^64
counted : (a b k : ℕ) → a ≡ b % 2 ^ 64 → (a + k) % 2 ^ 64 ≡ (b + k) % 2 ^ 64
counted a b k e = omega arith

module _ (used : List ℕ) (out : List (ℕ × Frame)) (l : Listing) (t : Told used out l) where
  -- bytes fed
  pub told-fed : (bs : List ℕ) → Told (used ++ take (fed_on l bs).used bs) out (fed_on l bs).listing
  unfolding fed_on
  told-fed bs = record {
    kept = subst₂ (λ s o. Kept s o (fed_all_by l.reader bs).reader) (sym (bits-after used (take u bs))) (append-nil out) fed;
    frames = t.frames;
    bytes = counted l.bytes (length used) u t.bytes ∙ ap (λ n. n % 2 ^ 64) more;
    passed = counted l.passed (without used) (fed_all_by l.reader bs).passed t.passed ∙ ap (λ n. n % 2 ^ 64) lost;
  }
    where
      u : ℕ
      u = (fed_all_by l.reader bs).used

      fed : Kept (line_bits used ++ line_bits (take (fed_all_by l.reader bs).used bs)) (out ++ []) (fed_all_by l.reader bs).reader
      fed =
          subst (λ b. Kept (line_bits used ++ b) (out ++ []) (fed_all_by l.reader bs).reader) (all-bits l.reader bs)
          (unfold after reply_to frame_given in kept-call (line_bits used) out l.reader (feeds_all bs) t.kept)

      more : length used + (fed_all_by l.reader bs).used ≡ length (used ++ take (fed_all_by l.reader bs).used bs)
      more =
          sym (length-append used (take (fed_all_by l.reader bs).used bs)
          ∙ ap (λ n. length used + n) (length-take-le (fed_all_by l.reader bs).used bs (fed-used l bs)))

      lost : without used + (fed_all_by l.reader bs).passed ≡ without (used ++ take (fed_all_by l.reader bs).used bs)
      lost =
          ap (λ n. without used + n) (fed-parts l.reader bs t.kept.len).passed
          ∙ sym (without-after used (take (fed_all_by l.reader bs).used bs))

  -- a frame taken
  pub told-taken : (taken_by l.reader).answer ≡ Done
      → Told used (out ++ (((taken_by l.reader).at, (taken_by l.reader).frame) ∷ [])) (handed_on l (taken_by l.reader).reader)
  unfolding handed_on
  told-taken e = record {
    kept = subst₂ (λ s o. Kept s o (taken_by l.reader).reader) (append-nil (line_bits used)) one taken;
    frames =
        counted l.frames (length out) 1 t.frames
        ∙ ap (λ n. n % 2 ^ 64) (sym (length-append out (((taken_by l.reader).at, (taken_by l.reader).frame) ∷ [])));
    bytes = t.bytes;
    passed = t.passed;
  }
    where
      one : out ++ frame_given (took (says_taken (taken_by l.reader))) ≡ out ++ (((taken_by l.reader).at, (taken_by l.reader).frame) ∷ [])
      one = unfold frame_given in ap (λ a. out ++ frame_given (took (carrying ((taken_by l.reader).at, (taken_by l.reader).frame) (says_answer a)))) e

      taken : Kept (line_bits used ++ []) (out ++ frame_given (took (says_taken (taken_by l.reader)))) (taken_by l.reader).reader
      taken = unfold after reply_to bits_given in kept-call (line_bits used) out l.reader takes t.kept

-- ---- lines

pub record Tells (used : List ℕ) (out : List (ℕ × Frame)) (bs : List ℕ) (x : Lines) : Type 0 where
  pub more : List (ℕ × Frame)
  pub text : x.text ≡ told more
  pub is : Told (used ++ take x.used bs) (out ++ more) x.listing

pub tells : (k : ℕ) (l : Listing) (bs used : List ℕ) (out : List (ℕ × Frame)) → Told used out l → Tells used out bs (lines_of k l bs)
unfolding lines_of
tells zero l bs used out t =
    record { more = []; text = (unfold told in refl); is = subst₂ (λ u o. Told u o l) (sym (append-nil used)) (sym (append-nil out)) t }
tells (suc k) l bs used out t =
    go (taken_by (fed_on l bs).listing.reader).answer refl
    (λ e. tells k _ (drop (fed_on l bs).used bs) _ _ (told-taken _ _ _ (told-fed used out l t bs) e))
  where
    h : ℕ × Frame
    h = ((taken_by (fed_on l bs).listing.reader).at, (taken_by (fed_on l bs).listing.reader).frame)

    line : List ℕ
    line = frame_line (taken_by (fed_on l bs).listing.reader).at (taken_by (fed_on l bs).listing.reader).frame

    rest : Lines
    rest = lines_of k (handed_on (fed_on l bs).listing (taken_by (fed_on l bs).listing.reader).reader) (drop (fed_on l bs).used bs)

    go : (a : Answer) → (taken_by (fed_on l bs).listing.reader).answer ≡ a
        → ((taken_by (fed_on l bs).listing.reader).answer ≡ Done
        → Tells (used ++ take (fed_on l bs).used bs)
        (out ++ (((taken_by (fed_on l bs).listing.reader).at, (taken_by (fed_on l bs).listing.reader).frame) ∷ [])) (drop (fed_on l bs).used bs)
        (lines_of k (handed_on (fed_on l bs).listing (taken_by (fed_on l bs).listing.reader).reader) (drop (fed_on l bs).used bs)))
        → Tells used out bs (line_then a (fed_on l bs) (frame_line (taken_by (fed_on l bs).listing.reader).at (taken_by (fed_on l bs).listing.reader).frame)
        (lines_of k (handed_on (fed_on l bs).listing (taken_by (fed_on l bs).listing.reader).reader) (drop (fed_on l bs).used bs)))
    go (Refused n) e later =
        record {
          more = [];
          text = (unfold told in refl);
          is = subst (λ o. Told (used ++ take (fed_on l bs).used bs) o (fed_on l bs).listing)
              (sym (append-nil out)) (told-fed used out l t bs);
        }
    go Done e later = record {
      more = h ∷ (later e).more;
      text =
          (unfold told in ap (λ r. frame_line (taken_by (fed_on l bs).listing.reader).at (taken_by (fed_on l bs).listing.reader).frame ++ r) (later e).text);
      is =
          (subst₂ (λ u o. Told u o
          (lines_of k (handed_on (fed_on l bs).listing (taken_by (fed_on l bs).listing.reader).reader) (drop (fed_on l bs).used bs)).listing)
          (append_assoc used (take (fed_on l bs).used bs) (take rest.used (drop (fed_on l bs).used bs))
          ∙ ap (λ r. used ++ r) (sym (take-add (fed_on l bs).used rest.used bs)))
          (append_snoc out h (later e).more) (later e).is);
    }

-- ---- how far lines go

-- a line is not empty
pub line-some : (at : ℕ) (f : Frame) → 1 ≤ length (frame_line at f)
line-some at f = omega (arith, length-append (spaced (line_numbers at f)) (pair_last f.carried))

-- where taking is refused none waits
pub none-there : (r : Reader) → Sound r → (n : ℕ) → (taken_by r).answer ≡ Refused n → r.candidate.waits ≡ false
none-there r p n e = go r.candidate.waits refl
  where
    go : (w : Bool) → r.candidate.waits ≡ w → w ≡ false
    go false ew = refl
    go true ew = unfold given in not_done n (sym e ∙ ap (λ (t : Taken). t.answer) (sound-taken r p true ew))

-- a frame taken was there
some-there : (r : Reader) → Sound r → (taken_by r).answer ≡ Done → r.candidate.waits ≡ true
some-there r p e = go r.candidate.waits refl
  where
    go : (w : Bool) → r.candidate.waits ≡ w → w ≡ true
    go true ew = refl
    go false ew = not_done 4 (sym (ap (λ (t : Taken). t.answer) (sound-taken r p false ew)) ∙ e)

module _ (used : List ℕ) (out : List (ℕ × Frame)) (l : Listing) (t : Told used out l) (bs : List ℕ) where
  fed-ended : (fed_on l bs).listing.reader.ended ≡ l.reader.ended
  unfolding fed_on
  fed-ended = (fed-parts l.reader bs t.kept.len).ended

  pub fed-held : (fed_on l bs).listing.reader.candidate.held ≤ l.reader.candidate.held + 6 * (fed_on l bs).used
  unfolding fed_on
  fed-held = (fed-parts l.reader bs t.kept.len).held

  pub taken-less : (taken_by (fed_on l bs).listing.reader).answer ≡ Done
      → (taken_by (fed_on l bs).listing.reader).reader.candidate.held + 60 ≤ (fed_on l bs).listing.reader.candidate.held
  unfolding after
  taken-less e = fewer _ _ (fed_on l bs).listing.reader k (some-there (fed_on l bs).listing.reader (kept-sound _ _ _ k) e)
    where
      k : Kept (line_bits (used ++ take (fed_on l bs).used bs)) out (fed_on l bs).listing.reader
      k = (told-fed used out l t bs).kept

-- the input goes on, and each byte used brings six bits at most
pub lines-go : (k : ℕ) (l : Listing) (bs used : List ℕ) (out : List (ℕ × Frame)) → Told used out l
    → ((lines_of k l bs).listing.reader.ended ≡ l.reader.ended)
    × ((lines_of k l bs).listing.reader.candidate.held ≤ l.reader.candidate.held + 6 * (lines_of k l bs).used)
unfolding lines_of
lines-go zero l bs used out t = (refl, omega arith)
lines-go (suc k) l bs used out t =
    go (taken_by (fed_on l bs).listing.reader).answer refl (λ e. lines-go k _ (drop (fed_on l bs).used bs) _ _ (told-taken _ _ _ (told-fed used out l t bs) e))
  where
    next : Listing
    next = handed_on (fed_on l bs).listing (taken_by (fed_on l bs).listing.reader).reader

    line : List ℕ
    line = frame_line (taken_by (fed_on l bs).listing.reader).at (taken_by (fed_on l bs).listing.reader).frame

    rest : Lines
    rest = lines_of k next (drop (fed_on l bs).used bs)

    go : (a : Answer) → (taken_by (fed_on l bs).listing.reader).answer ≡ a
        → ((taken_by (fed_on l bs).listing.reader).answer ≡ Done
        → (rest.listing.reader.ended ≡ next.reader.ended) × (rest.listing.reader.candidate.held ≤ next.reader.candidate.held + 6 * rest.used))
        → ((line_then a (fed_on l bs) line rest).listing.reader.ended ≡ l.reader.ended)
        × ((line_then a (fed_on l bs) line rest).listing.reader.candidate.held ≤ l.reader.candidate.held + 6 * (line_then a (fed_on l bs) line rest).used)
    go Done e later =
        unfold handed_on in (
          (later e).0 ∙ take_ended (fed_on l bs).listing.reader
              ∙ fed-ended used out l t bs,
          omega (arith, (later e).1, taken-less used out l t bs e, fed-held used out l t bs),
        )
    go (Refused n) e later = (fed-ended used out l t bs, fed-held used out l t bs)
