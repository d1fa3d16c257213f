-- Six bits pushed into the buffer: they follow the bits held, and near the end of the buffer the cells move down first. Assumes nothing.
use Rattle.std.proofs.Common.{◌≡◌, ℕ, suc, ◌+◌, ◌-◌, ◌*◌, ◌/◌, ◌%◌, ◌^◌, ◌<◌, ◌≤◌, Bool, true, false, cond, leb, List, [], ◌∷◌, ◌++◌, length, get_or, take, drop, set, sym, refl, ap, ◌∙◌, ap₂, append_assoc, add-zero, zero-add, add-one, arith, length-append, length-drop, length-set, take-append-drop, length-take, length-take-le, drop-cons, drop-drop, take_at, pow_pos, le-leb, leb-true}
use Rattle.std.specs.List.{copy_within}
use Rattle.std.proofs.lemmas.List.{take_rest}
use lib.Seq.{take-append-le, drop-append-le, set_at}
use borrow.Author.Tests.{lt-leb}
use Rattle.bits.specs.Bits.{bits}
use Rattle.bits.proofs.Numbers.{length-bits, bits-mod, bits-append, bits-take, bits-split}
use Rattle.reader.specs.Cells.{cell_bits, held_bits, put_pair, put_cells, down_cells, room_end, room_cells, pushed_cells}
use Rattle.reader.proofs.Buffer.{length-cells, cells-append, drop_cells, drop-take}

-- SIX BITS PUT IN
pub pair-bits : (c o x : ℕ) → o < 32 → x < 64
    → bits 32 (put_pair c o x / 2 ^ 32) ++ bits 32 (put_pair c o x % 2 ^ 32) ≡ (take o (bits 32 c) ++ bits 6 x) ++ bits (58 - o) 0
pair-bits c o x h l =
    ap (λ (t : List Bool). bits 32 (v % 2 ^ 64 / 2 ^ 32) ++ t) (bits-mod 32 (v % 2 ^ 64)) ∙ sym (bits-split 32 32 (v % 2 ^ 64)) ∙ bits-mod 64 v
    ∙ ap₂ bits wide_is (sym (add-zero v)) ∙ bits-append (o + 6) (58 - o) (k * 64 + x) 0 (pow_pos (58 - o))
    ∙ ap (λ (t : List Bool). t ++ bits (58 - o) 0) (bits-append o 6 k x l ∙ ap (λ (t : List Bool). t ++ bits 6 x) front)
  where
    k : ℕ
    k = c % 2 ^ 32 / 2 ^ (32 - o)

    v : ℕ
    v = (k * 64 + x) * 2 ^ (58 - o)

    wide_is : 32 + 32 ≡ o + 6 + (58 - o)
    wide_is = omega arith

    whole : o + (32 - o) ≡ 32
    whole = omega arith

    front : bits o k ≡ take o (bits 32 c)
    front = sym (bits-take o (32 - o) (c % 2 ^ 32)) ∙ ap (λ (m : ℕ). take o (bits m (c % 2 ^ 32))) whole ∙ ap (take o) (bits-mod 32 c)

-- the cells before a place, the two there, and those after
three : (cells : List ℕ) (j : ℕ) → j + 1 < length cells → cells ≡ take j cells ++ get_or cells j 0 ∷ get_or cells (j + 1) 0 ∷ drop (suc (j + 1)) cells
three cells j h =
    sym (take-append-drop j cells)
    ∙ ap (λ (t : List ℕ). take j cells ++ t)
    (drop-cons cells j 0 (omega arith) ∙ ap (λ (m : ℕ). get_or cells j 0 ∷ drop m cells) (sym (add-one j))
    ∙ ap (λ (t : List ℕ). get_or cells j 0 ∷ t) (drop-cons cells (j + 1) 0 h))

pub set-two : (p : List ℕ) (a b : ℕ) (t : List ℕ) (j u v : ℕ) → length p ≡ j → set (set (p ++ a ∷ b ∷ t) j u) (j + 1) v ≡ p ++ u ∷ v ∷ t
set-two p a b t j u v e =
    ap (λ (l : List ℕ). set l (j + 1) v) (set_at p a (b ∷ t) u j e)
    ∙ ap (λ (l : List ℕ). set l (j + 1) v) (sym (append_assoc p (u ∷ []) (b ∷ t)))
    ∙ set_at (p ++ (u ∷ [])) b t v (j + 1) (length-append p (u ∷ []) ∙ rw e)
    ∙ append_assoc p (u ∷ []) (v ∷ t)

pub take-puts : (cells : List ℕ) (end x : ℕ) → length cells ≡ 40 → x < 64 → end ≤ 1216
    → take (end + 6) (cell_bits (put_cells cells end x)) ≡ take end (cell_bits cells) ++ bits 6 x
unfolding put_cells cell_bits
take-puts cells end x l h room =
    ap (λ (t : List ℕ). take (end + 6) (cell_bits t))
    (ap (λ (t : List ℕ). set (set t j (v / 2 ^ 32)) (j + 1) (v % 2 ^ 32)) (three cells j (omega (arith, l)))
    ∙ set-two P c (get_or cells (j + 1) 0) T j (v / 2 ^ 32) (v % 2 ^ 32) long-p)
    ∙ ap (take (end + 6)) after
    ∙ take_at (cell_bits P ++ (take o (bits 32 c) ++ bits 6 x)) (bits (58 - o) 0 ++ cell_bits T) (end + 6) long-new
    ∙ sym (append_assoc (cell_bits P) (take o (bits 32 c)) (bits 6 x))
    ∙ ap (λ (t : List Bool). t ++ bits 6 x) (sym before)
  where
    j : ℕ
    j = end / 32

    o : ℕ
    o = end % 32

    c : ℕ
    c = get_or cells j 0

    v : ℕ
    v = put_pair c o x

    P : List ℕ
    P = take j cells

    T : List ℕ
    T = drop (suc (j + 1)) cells

    long-p : length P ≡ j
    long-p = length-take-le j cells (omega (arith, l))

    long-o : length (take o (bits 32 c)) ≡ o
    long-o = length-take-le o (bits 32 c) (omega (arith, length-bits 32 c))

    long-new : length (cell_bits P ++ (take o (bits 32 c) ++ bits 6 x)) ≡ end + 6
    long-new =
        omega (
          arith,
          length-append (cell_bits P) (take o (bits 32 c) ++ bits 6 x),
          length-append (take o (bits 32 c)) (bits 6 x),
          length-bits 6 x,
          long-o,
          length-cells P,
          long-p,
        )

    long-old : length (cell_bits P ++ take o (bits 32 c)) ≡ end
    long-old = omega (arith, length-append (cell_bits P) (take o (bits 32 c)), long-o, length-cells P, long-p)

    after : cell_bits (P ++ v / 2 ^ 32 ∷ v % 2 ^ 32 ∷ T) ≡ (cell_bits P ++ (take o (bits 32 c) ++ bits 6 x)) ++ (bits (58 - o) 0 ++ cell_bits T)
    after =
        cells-append P (v / 2 ^ 32 ∷ v % 2 ^ 32 ∷ T)
        ∙ ap (λ (t : List Bool). cell_bits P ++ t)
        (sym (append_assoc (bits 32 (v / 2 ^ 32)) (bits 32 (v % 2 ^ 32)) (cell_bits T))
        ∙ ap (λ (t : List Bool). t ++ cell_bits T) (pair-bits c o x (omega arith) h)
        ∙ append_assoc (take o (bits 32 c) ++ bits 6 x) (bits (58 - o) 0) (cell_bits T))
        ∙ sym (append_assoc (cell_bits P) (take o (bits 32 c) ++ bits 6 x) (bits (58 - o) 0 ++ cell_bits T))

    old : cell_bits cells ≡ (cell_bits P ++ take o (bits 32 c)) ++ (drop o (bits 32 c) ++ cell_bits (get_or cells (j + 1) 0 ∷ T))
    old =
        ap cell_bits (three cells j (omega (arith, l))) ∙ cells-append P (c ∷ get_or cells (j + 1) 0 ∷ T)
        ∙ ap (λ (t : List Bool). cell_bits P ++ (t ++ cell_bits (get_or cells (j + 1) 0 ∷ T))) (sym (take-append-drop o (bits 32 c)))
        ∙ ap (λ (t : List Bool). cell_bits P ++ t) (append_assoc (take o (bits 32 c)) (drop o (bits 32 c)) (cell_bits (get_or cells (j + 1) 0 ∷ T)))
        ∙ sym (append_assoc (cell_bits P) (take o (bits 32 c)) (drop o (bits 32 c) ++ cell_bits (get_or cells (j + 1) 0 ∷ T)))

    before : take end (cell_bits cells) ≡ cell_bits P ++ take o (bits 32 c)
    before = ap (take end) old ∙ take_at (cell_bits P ++ take o (bits 32 c)) (drop o (bits 32 c) ++ cell_bits (get_or cells (j + 1) 0 ∷ T)) end long-old

pub length-puts : (cells : List ℕ) (end x : ℕ) → length (put_cells cells end x) ≡ length cells
unfolding put_cells
length-puts cells end x = simp length-set

pub held-puts : (cells : List ℕ) (end n x : ℕ) → length cells ≡ 40 → x < 64 → end ≤ 1216 → n ≤ end
    → held_bits (put_cells cells end x) (end + 6) (n + 6) ≡ held_bits cells end n ++ bits 6 x
unfolding held_bits
held-puts cells end n x l h room low =
    ap (drop (end + 6 - (n + 6))) (take-puts cells end x l h room)
    ∙ ap (λ (m : ℕ). drop m (take end (cell_bits cells) ++ bits 6 x)) back
    ∙ drop-append-le (end - n) (take end (cell_bits cells)) (bits 6 x) (omega (arith, length-take end (cell_bits cells), length-cells cells))
  where
    back : end + 6 - (n + 6) ≡ end - n
    back = omega arith

-- THE CELLS MOVED DOWN
pub length-down : (cells : List ℕ) (k : ℕ) → length cells ≡ 40 → k ≤ 40 → length (down_cells cells k) ≡ 40
unfolding down_cells
length-down cells k l h = omega (arith, length-append (drop k cells) (drop (40 - k) cells), length-drop k cells, length-drop (40 - k) cells)

held_down : (cells : List ℕ) (end n k : ℕ) → length cells ≡ 40 → end ≤ 1280 → n + 32 * k ≤ end
    → held_bits (down_cells cells k) (end - 32 * k) n ≡ held_bits cells end n
unfolding held_bits down_cells
held_down cells end n k l t h =
    ap (λ (w : List Bool). drop (end - 32 * k - n) (take (end - 32 * k) w))
    (cells-append (drop k cells) (drop (40 - k) cells)
    ∙ ap (λ (w : List Bool). w ++ cell_bits (drop (40 - k) cells)) (sym (drop_cells k cells (omega (arith, l)))))
    ∙ ap (drop (end - 32 * k - n))
    (take-append-le (end - 32 * k) (drop (32 * k) (cell_bits cells)) (cell_bits (drop (40 - k) cells))
    (omega (arith, length-drop (32 * k) (cell_bits cells), length-cells cells)) ∙ sym (drop-take (32 * k) (end - 32 * k) (cell_bits cells)))
    ∙ drop-drop (end - 32 * k - n) (32 * k) (take (32 * k + (end - 32 * k)) (cell_bits cells))
    ∙ ap₂ (λ (a b : ℕ). drop a (take b (cell_bits cells))) first second
  where
    first : 32 * k + (end - 32 * k - n) ≡ end - n
    first = omega arith

    second : 32 * k + (end - 32 * k) ≡ end
    second = omega arith

-- SIX BITS PUSHED
module _ (cells : List ℕ) (end held : ℕ) (len : length cells ≡ 40) (top : end ≤ 1280) (low : held ≤ end) (some : held ≤ 991) where
  abbrev K : ℕ
  K = (end - held) / 32

  pub room-low : (room_end end held ≤ 1216) × (held ≤ room_end end held)
  unfolding room_end
  room-low = go (leb end 1216) refl
    where
      go : (t : Bool) → leb end 1216 ≡ t → (cond t end (end - 32 * K) ≤ 1216) × (held ≤ cond t end (end - 32 * K))
      go true e = (leb-true end 1216 e, low)
      go false e = (omega arith, omega arith)

  pub length-room : length (room_cells cells end held) ≡ 40
  unfolding room_cells
  length-room = go (leb end 1216)
    where
      go : (t : Bool) → length (cond t cells (down_cells cells K)) ≡ 40
      go true = len
      go false = length-down cells K len (omega arith)

  held-room : held_bits (room_cells cells end held) (room_end end held) held ≡ held_bits cells end held
  unfolding room_cells room_end
  held-room = go (leb end 1216)
    where
      go : (t : Bool) → held_bits (cond t cells (down_cells cells K)) (cond t end (end - 32 * K)) held ≡ held_bits cells end held
      go true = refl
      go false = held_down cells end held K len top (omega arith)

  pub length-pushed : (x : ℕ) → length (pushed_cells cells end held x) ≡ 40
  unfolding pushed_cells
  length-pushed x = length-puts (room_cells cells end held) (room_end end held) x ∙ length-room

  pub held-push : (x : ℕ) → x < 64 → held_bits (pushed_cells cells end held x) (room_end end held + 6) (held + 6) ≡ held_bits cells end held ++ bits 6 x
  unfolding pushed_cells
  held-push x h =
      held-puts (room_cells cells end held) (room_end end held) held x length-room h room-low.0 room-low.1
      ∙ ap (λ (t : List Bool). t ++ bits 6 x) held-room

-- the two cases of a push
module _ (cells : List ℕ) (end held x : ℕ) where
  pub push-in : end ≤ 1216 → (end + 6 ≡ room_end end held + 6) × (put_cells cells end x ≡ pushed_cells cells end held x)
  unfolding room_end room_cells pushed_cells
  push-in h = (rw (le-leb end 1216 h), rw (le-leb end 1216 h))

  pub push-over : 1216 < end
      → (end - 32 * ((end - held) / 32) + 6 ≡ room_end end held + 6)
      × (put_cells (down_cells cells ((end - held) / 32)) (end - 32 * ((end - held) / 32)) x ≡ pushed_cells cells end held x)
  unfolding room_end room_cells pushed_cells
  push-over h = (rw (lt-leb end 1216 h), rw (lt-leb end 1216 h))

-- all cells moved down by k, as the library says it
pub down-within : (cells : List ℕ) (k : ℕ) → length cells ≡ 40 → copy_within cells k (length cells) 0 ≡ down_cells cells k
unfolding down_cells
down-within cells k l = rw (take_rest cells k, zero-add (length cells - k), l)
