-- Records of frames one after the other: their length, and one record more. Assumes nothing.
use mathlib.Core.Path.{◌≡◌, refl, sym, ap, ap₂, subst, ◌∙◌}
use mathlib.Core.List.{List, [], ◌∷◌, ◌++◌, append_assoc, append-nil}
use Prim.Native.Nat.{ℕ, ◌+◌, ◌*◌, ◌-◌, ◌≤◌, ◌<◌}
use native.Mathlib.Numerals.{add-one}
use native.Mathlib.Omega.{arith}
use lib.ListN.{length, take, drop, get_or, length-append, length-take, length-drop, take-append-drop, drop_of_length-le}
use lib.Seq.{take-suc, take_all, take-take, take_at, drop_at, drop-drop, get_or-take}
use borrow.Author.Tests.{lt-ltb, le-ltb}
use Rattle.answer.specs.Order.{Says, refuses, answers}
use Rattle.answer.proofs.OrderLaws.{order-answers}
use Rattle.frame.specs.declared.Frame.{Frame}
use Rattle.frame.specs.declared.State.TheVariants.{Factor}
use Rattle.frame.proofs.FrameLaws.{n_within}
use Rattle.journal.specs.Journal.{record_of, keep_order, held_by}
use Rattle.journal.proofs.KeepLaws.{length-record}
use Rattle.record_fields.specs.Coding.{Each}
use Rattle.record_laws.proofs.ListTrips.{each_at}
use Rattle.rtcm2.specs.Answer.{number_of}
use Rattle.rtcm2.specs.Beacon.{records_of, Storable, kept_all, held_all, size_all}

records-append : (a b : List Frame) → records_of (a ++ b) ≡ records_of a ++ records_of b
records-append [] b = refl
records-append (f ∷ a) b = ap (λ r. record_of f ++ r) (records-append a b) ∙ sym (append_assoc (record_of f) (records_of a) (records_of b))

-- one frame more
records-next : (fs : List Frame) (i : ℕ) (d : Frame) → i < length fs → records_of (take (i + 1) fs) ≡ records_of (take i fs) ++ record_of (get_or fs i d)
records-next fs i d l =
    ap (λ j. records_of (take j fs)) (add-one i) ∙ ap records_of (take-suc fs i d l)
    ∙ records-append (take i fs) (get_or fs i d ∷ []) ∙ ap (λ r. records_of (take i fs) ++ r) (append-nil (record_of (get_or fs i d)))

-- the array's default, which is never read
abbrev pub unread : Frame
unread = record {
  header = record { kind = 0; station = 0; z = 0; sequence = 0; state = Factor 0 };
  carried = record { d29 = 0; d30 = 0 };
  n = 0;
  words = [];
}

-- fewer frames take no more bytes
records-le : (fs : List Frame) (i n : ℕ) → i ≤ n → length (records_of (take i fs)) ≤ length (records_of (take n fs))
records-le fs i n l =
    omega (
      arith,
      ap (λ x. length (records_of x)) (sym (take-append-drop i (take n fs)))
          ∙ ap length (records-append (take i (take n fs)) (drop i (take n fs)) ∙ ap (λ x. records_of x ++ records_of (drop i (take n fs))) (take-take i n fs l))
          ∙ length-append (records_of (take i fs)) (records_of (drop i (take n fs))),
    )

-- what is lent keeps its length
pub held-length : (fs : List Frame) (n i at : ℕ) (lent held : List ℕ) → i ≤ n → at ≡ length (records_of (take i fs))
    → held ≡ records_of (take i fs) ++ drop at lent
    → length (records_of (take n fs)) ≤ length lent → (length held ≡ length lent) × (at ≤ length held)
held-length fs n i at lent held l is has room = (same, omega (arith, same, few))
  where
    few : at ≤ length lent
    few = omega (arith, is, records-le fs i n l, room)

    same : length held ≡ length lent
    same = omega (arith, few, is, ap length has ∙ length-append (records_of (take i fs)) (drop at lent), length-drop at lent)

module _ (fs : List Frame) (n i : ℕ) (all : Each Storable (take n fs)) (l : i < n) (long : n ≤ length fs) where
  abbrev f : Frame
  f = get_or fs i unread

  storable : Storable f
  storable = subst Storable (get_or-take n fs i unread l) (each_at Storable (take n fs) i unread all (omega (arith, length-take n fs)))

  pub few_words : (get_or fs i unread).n ≤ 31
  few_words = n_within f storable.0

  size_is : length (record_of f) ≡ 3 * f.n + 9
  size_is = length-record f storable.0 storable.1

  pub size-next : length (records_of (take i fs)) + 3 * (get_or fs i unread).n + 9 ≡ length (records_of (take (i + 1) fs))
  size-next =
      omega (
        arith,
        ap length (records-next fs i unread (omega arith)) ∙ length-append (records_of (take i fs)) (record_of f),
        size_is,
      )

  -- what a turn leaves: the part from `at` on has the next record at its start
  module _ (lent held ys : List ℕ) (at : ℕ) (is : at ≡ length (records_of (take i fs))) (has : held ≡ records_of (take i fs) ++ drop at lent)
      (room : length (records_of (take n fs)) ≤ length lent) where
    fits : at + 3 * f.n + 9 ≤ length lent
    fits = omega (arith, is, size-next, records-le fs (i + 1) n (omega arith), room)

    same_length : length held ≡ length lent
    same_length = (held-length fs n i at lent held (omega arith) is has room).0

    behind : drop at held ≡ drop at lent
    behind = ap (drop at) has ∙ drop_at (records_of (take i fs)) (drop at lent) at (sym is)

    part-is : take (length held - at) (drop at held) ≡ drop at lent
    part-is = ap (take (length held - at)) behind ∙ take_all (length held - at) (drop at lent) (omega (arith, length-drop at lent, same_length))

    pub put_next : ys ≡ held_by f (take (length held - at) (drop at held))
        → take at held ++ (ys ++ drop (length held - at) (drop at held)) ≡ records_of (take (i + 1) fs) ++ drop (at + 3 * f.n + 9) lent
    put_next e =
        ap₂ (λ x y. x ++ (ys ++ y)) (ap (take at) has ∙ take_at (records_of (take i fs)) (drop at lent) at (sym is))
        (ap (drop (length held - at)) behind ∙ drop_of_length-le (drop at lent) {i = length held - at} (omega (arith, length-drop at lent, same_length)))
        ∙ ap (λ x. records_of (take i fs) ++ x) (append-nil ys ∙ e ∙ ap (held_by f) part-is ∙ put)
        ∙ sym (append_assoc (records_of (take i fs)) (record_of f) (drop (at + 3 * f.n + 9) lent))
        ∙ ap (λ x. x ++ drop (at + 3 * f.n + 9) lent) (sym (records-next fs i unread (omega arith)))
      where
        sum : at + (3 * f.n + 9) ≡ at + 3 * f.n + 9
        sum = omega arith

        put : held_by f (drop at lent) ≡ record_of f ++ drop (at + 3 * f.n + 9) lent
        put =
            order-answers (λ m. drop at lent) (record_of f ++ drop (3 * f.n + 9) (drop at lent)) (keep_order f (drop at lent))
            (storable.0, (le-ltb (length (drop at lent)) (3 * f.n + 9) (omega (arith, fits, length-drop at lent)), tt))
            ∙ ap (λ x. record_of f ++ x) (drop-drop (3 * f.n + 9) at lent ∙ ap (λ j. drop j lent) sum)

-- ---- 13, or all of them

module _ (lent : List ℕ) (size : ℕ) where
  -- the answer, the bytes and the length that are left
  abbrev pub Kept : ℕ → List ℕ → ℕ → Says (List Frame) → Type 0
  Kept answer held length said = (answer ≡ number_of (kept_all said lent)) × ((held ≡ held_all said lent) × (length ≡ size_all said lent size))

  -- a refusal leaves all as it was
  pub kept-refused : {number : ℕ} {said : Says (List Frame)} → refuses number ≡ said → Kept number lent size said
  kept-refused {number} e = subst (Kept number lent size) e (refl, (refl, refl))

  -- what is said in another way is kept the same
  pub kept-as : {answer : ℕ} {held : List ℕ} {length : ℕ} {said said' : Says (List Frame)} → said ≡ said'
      → Kept answer held length said → Kept answer held length said'
  kept-as {answer} {held} {length} e k = subst (Kept answer held length) e k

  module _ (fs : List Frame) where
    pub all_short : length lent < length (records_of fs) → Kept 13 lent size (answers fs)
    all_short l = rw (lt-ltb (length lent) (length (records_of fs)) l) (refl, (refl, refl))

    pub all-kept : length (records_of fs) ≤ length lent → (held : List ℕ) → held ≡ records_of fs ++ drop (length (records_of fs)) lent
        → Kept 0 held (length (records_of fs)) (answers fs)
    all-kept l held e = rw (le-ltb (length lent) (length (records_of fs)) l) (refl, (e, refl))
