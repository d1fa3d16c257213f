-- Entries and their rows of bytes, over the row: what one turn of the reading loop fills, and what putting leaves. Assumes nothing.
use mathlib.Core.Path.{◌≡◌, refl, sym, ap, ap₂, subst, ◌∙◌}
use mathlib.Core.Bool.{Bool, true, false, cond}
use mathlib.Core.List.{List, [], ◌∷◌, ◌++◌}
use Prim.Native.Nat.{ℕ, zero, suc, ◌+◌, ◌*◌, ◌/◌, ◌%◌, ◌≤◌, ◌<◌}
use native.Mathlib.Nat.{add_comm, zero-mul, suc-mul, div-mul-le_self}
use native.Mathlib.Numerals.{add-one}
use native.Mathlib.Omega.{arith}
use lib.Dec.{eqb}
use lib.ListN.{length, take, drop, get_or, set, drop_of_length-le}
use lib.Seq.{drop-cons, take-suc-set, get_or-take, get_or-drop, drop-drop, sets, sets-eq}
use denote.Param.Members.{Mut, Called}
use mir.Syntax.{w16}
use Rattle.std.specs.Int.{from_le_bytes}
use Rattle.std.specs.Array.{IsFromFnResultFrom, IsFromFnResult}
use borrow.Author.Tests.{eqb-true, eqb-false, lt-ltb, le-ltb, eq-eqb, ne_eqb}
use Rattle.record_fields.specs.Coding.{Coding}
use Rattle.rtcm2_rows.specs.declared.row.Put.{Put}
use Rattle.rtcm2_rows.specs.declared.row.Put.TheVariants.{Done, Refused}
use Rattle.rtcm2_rows.specs.Rows.{count_of, row_size, entry_of, entries_from, put_by, row_after}

-- ---- how many rows

module _ (s l : ℕ) where
  pub count-blank : s ≡ 0 → count_of s l ≡ 0
  unfolding count_of
  count-blank e = rw (eq-eqb s 0 e)

  module _ (some : s ≡ 0 → ⊥) where
    pub count-over : (l % s ≡ 0 → ⊥) → count_of s l ≡ 0
    unfolding count_of
    count-over h = rw (ne_eqb s 0 some, ne_eqb (l % s) 0 h)

    pub count-whole : l % s ≡ 0 → count_of s l ≡ l / s
    unfolding count_of
    count-whole h = rw (ne_eqb s 0 some, eq-eqb (l % s) 0 h)

-- as many rows as are counted are there
pub count_held : (s l : ℕ) → count_of s l * s ≤ l
unfolding count_of
count_held s l = go (eqb s 0) (eqb (l % s) 0)
  where
    go : (a b : Bool) → cond a 0 (cond b (l / s) 0) * s ≤ l
    go true b = omega (arith, zero-mul s)
    go false true = div-mul-le_self l s
    go false false = omega (arith, zero-mul s)

-- ---- arrays that a closure makes

-- what each call gives stands at its index
pub made_each : {F A : Type 0} (g : Mut F (ℕ × Unit {0}) A) (f : F) (es : List A) (n : ℕ) (want : ℕ → A)
    → ((i : ℕ) (e : A) (q : F) → Called g f (i, tt) e q → (e ≡ want i) × (q ≡ f)) → IsFromFnResult g f es n → (j : ℕ) (d : A) → j < n
    → get_or es j d ≡ want j
made_each {F} g f es n want call made j d h = go n 0 f refl made.each (omega arith) (omega arith)
  where
    go : (m i : ℕ) (p : F) → p ≡ f → IsFromFnResultFrom g p es i m → i ≤ j → j < i + m → get_or es j d ≡ want j
    go zero i p e r l u = absurd (omega arith)
    go (suc m) i p e r l u =
        let said = call i r.1 r.0 (subst (λ s. Called g s (i, tt) r.1 r.0) e r.3) in
        case (eqb i j) refl (λ apart. go m (i + 1) r.0 said.1 r.4 (omega (arith, apart)) (omega arith))
      where
        case : (t : Bool) → eqb i j ≡ t → ((i ≡ j → ⊥) → get_or es j d ≡ want j) → get_or es j d ≡ want j
        case true s rest =
            let same : i ≡ j = eqb-true i j s in
            ap (λ k. get_or es k d) (sym same) ∙ r.2.1 d ∙ (call i r.1 r.0 (subst (λ s. Called g s (i, tt) r.1 r.0) e r.3)).0 ∙ ap want same
        case false s rest = rest (eqb-false i j s)

-- ---- bytes of a row

-- byte j of the row that starts at `at`
pub byte-in : (n : ℕ) (bs : List ℕ) (at j : ℕ) → j < n → get_or (take n (drop at bs)) j 0 ≡ get_or bs (at + j) 0
byte-in n bs at j h = get_or-take n (drop at bs) j 0 h ∙ get_or-drop at bs j 0

-- two bytes of a row as a number
pub two_bytes : (r vs : List ℕ) (i j : ℕ) → get_or r i 0 ≡ get_or vs i 0 → get_or r j 0 ≡ get_or vs j 0
    → from_le_bytes w16 (get_or r i 0 ∷ get_or r j 0 ∷ []) ≡ get_or vs i 0 + 256 * get_or vs j 0
two_bytes r vs i j e h = omega arith

module _ {A : Type 0} (k : Coding A) where
  pub more : (n : ℕ) → suc n * row_size k ≡ row_size k + n * row_size k
  more n = suc-mul n (row_size k) ∙ add_comm (n * row_size k) (row_size k)

  -- ---- reading

  pub length-entries : (n : ℕ) (bs : List ℕ) → length (entries_from k n bs) ≡ n
  unfolding entries_from
  length-entries zero bs = refl
  length-entries (suc n) bs = ap suc (length-entries n (drop (row_size k) bs))

  -- one entry more
  entries-snoc : (n : ℕ) (bs : List ℕ) → entries_from k (suc n) bs ≡ entries_from k n bs ++ (entry_of k (drop (n * row_size k) bs) ∷ [])
  unfolding entries_from
  entries-snoc zero bs = rw (zero-mul (row_size k))
  entries-snoc (suc n) bs =
      ap (λ es. entry_of k bs ∷ es)
      (entries-snoc n (drop (row_size k) bs)
      ∙ ap (λ r. entries_from k n (drop (row_size k) bs) ++ (entry_of k r ∷ []))
      (drop-drop (n * row_size k) (row_size k) bs ∙ ap (λ j. drop j bs) (sym (more n))))

  -- entry number i of the n
  pub entry_at : (n : ℕ) (bs : List ℕ) (i : ℕ) (d : A) → i < n → get_or (entries_from k n bs) i d ≡ entry_of k (drop (i * row_size k) bs)
  unfolding entries_from
  entry_at zero bs i d h = absurd (omega arith)
  entry_at (suc n) bs zero d h = ap (λ j. entry_of k (drop j bs)) (sym (zero-mul (row_size k)))
  entry_at (suc n) bs (suc i) d h =
      entry_at n (drop (row_size k) bs) i d (omega arith)
      ∙ ap (entry_of k) (drop-drop (i * row_size k) (row_size k) bs ∙ ap (λ j. drop j bs) (sym (more i)))

  -- the next entry of an array whose first i are read
  pub entry_next : (i : ℕ) (bs : List ℕ) (es : List A) (e : A) → i < length es → take i es ≡ entries_from k i bs → e ≡ entry_of k (drop (i * row_size k) bs)
      → take (i + 1) (set es i e) ≡ entries_from k (i + 1) bs
  entry_next i bs es e h q r =
      ap (λ j. take j (set es i e)) (add-one i)
      ∙ take-suc-set es i e h
      ∙ ap₂ (λ l x. l ++ (x ∷ [])) q r
      ∙ sym (entries-snoc i bs)
      ∙ ap (λ j. entries_from k j bs) (sym (add-one i))

  -- entries that calls make one after the other are those that the bytes say
  pub made_entries : {F : Type 0} (g : Mut F (ℕ × Unit {0}) A) (f : F) (bs : List ℕ) (es : List A) (n : ℕ)
      → ((i : ℕ) (e : A) (q : F) → Called g f (i, tt) e q → (e ≡ entry_of k (drop (i * row_size k) bs)) × (q ≡ f)) → IsFromFnResult g f es n
      → es ≡ entries_from k n bs
  unfolding entries_from
  made_entries {F} g f bs es n call made = go n 0 f refl made.each (omega (arith, made.long)) ∙ ap (λ j. entries_from k n (drop j bs)) (zero-mul (row_size k))
    where
      go : (m i : ℕ) (p : F) → p ≡ f → IsFromFnResultFrom g p es i m → length es ≡ i + m → drop i es ≡ entries_from k m (drop (i * row_size k) bs)
      go zero i p e r l = drop_of_length-le es {i = i} (omega arith)
      go (suc m) i p e r l =
          let said = call i r.1 r.0 (subst (λ s. Called g s (i, tt) r.1 r.0) e r.3) in
          drop-cons es i r.1 (omega arith)
          ∙ ap₂ ◌∷◌ (r.2.1 r.1 ∙ said.0) (ap (λ j. drop j es) (sym (add-one i)) ∙ go m (i + 1) r.0 said.1 r.4 (omega arith)
          ∙ ap (entries_from k m) (ap (λ j. drop j bs) (ap (λ j. j * row_size k) (add-one i) ∙ suc-mul i (row_size k)) ∙ sym (drop-drop (row_size k) (i * row_size k) bs)))

  -- ---- putting

  -- the answer, and what the bytes hold
  abbrev pub Puts : A → List ℕ → Put → List ℕ → Type 0
  Puts e bs answer held = (answer ≡ put_by k bs) × (held ≡ row_after k e bs)

  pub put-short : (e : A) (bs : List ℕ) → length bs < row_size k → Puts e bs (Refused 13) bs
  put-short e bs h = let s = lt-ltb (length bs) (row_size k) h in (rw s, rw s)

  pub put_whole : (e : A) (bs held : List ℕ) → length (k.codes e) ≡ row_size k → row_size k ≤ length bs → held ≡ sets bs 0 (k.codes e)
      → Puts e bs Done held
  put_whole e bs held l h q =
      let s = le-ltb (length bs) (row_size k) h in
      (rw s, rw s (q ∙ sets-eq (k.codes e) bs 0 room ∙ ap (λ j. k.codes e ++ drop j bs) past))
    where
      past : 0 + length (k.codes e) ≡ row_size k
      past = omega (arith, l)

      room : 0 + length (k.codes e) ≤ length bs
      room = omega (arith, l)
