-- A row, its nine numbers and its 29 bytes: what the functions' proofs cite, and that a row comes back. Assumes nothing.
use mathlib.Core.Path.{◌≡◌, refl, sym, ap, ap₂, ◌∙◌}
use mathlib.Core.Bool.{true}
use mathlib.Core.List.{List, [], ◌∷◌, ◌++◌}
use Prim.Native.Nat.{ℕ, ◌+◌, ◌%◌, ◌^◌, ◌<◌}
use native.Mathlib.Nat.{mod-eq_of_lt}
use native.Mathlib.Omega.{arith}
use lib.IntN.{ℤ}
use lib.Signed.{mag}
use lib.ListN.{length, drop, get_or}
use lib.Seq.{sets}
use Rattle.bits.specs.Signed.{signed, code}
use Rattle.bits.proofs.SignedLaws.{signed-code, code_lt}
use Rattle.frame.specs.declared.System.{System}
use Rattle.frame.specs.declared.System.TheVariants.{Gps, Glonass}
use Rattle.rtcm2_rows.specs.Rows.{entry_of}
use Rattle.season_reports.specs.Rows.{system_number}
use Rattle.season_reports.specs.declared.Row.{Row}
use Rattle.season_reports.specs.declared.Extremes.{Extremes}
use Rattle.season_reports.specs.declared.Extremes.TheVariants.{Absent, Present}
use Rattle.rtcm2_rows.specs.Sizes.{sized_in, sized_bytes}
use Rattle.rtcm2_season.specs.Rows.{key_sizes, end_sizes, sizes, extremes_numbers, row_numbers, names_row, system_with, extremes_with, row_with, report_row}
use Rattle.rtcm2_season.specs.Rows.{EndsFit, RowFits}
use Rattle.rtcm2_rows.proofs.SizeLaws.{Within, sets-both, sized-both, length-sized, sized-back, sized-take}

-- ---- what the functions cite

-- three numbers, and those behind them
pub three-law : (e : Extremes) (ns rest : List ℕ) → ns ≡ extremes_numbers e → get_or ns 0 0 ∷ get_or ns 1 0 ∷ get_or ns 2 0 ∷ rest ≡ extremes_numbers e ++ rest
three-law Absent ns rest q = rw q
three-law (Present a b) ns rest q = rw q

pub numbers-law : (r : Row) (system sum : ℕ) (three : List ℕ) → system ≡ system_number r.key.system → three ≡ extremes_numbers r.extremes
    → sum ≡ code 63 r.sum
    → system ∷ r.key.station ∷ r.key.satellite ∷ r.usable ∷ r.stops ∷ get_or three 0 0 ∷ get_or three 1 0 ∷ get_or three 2 0 ∷ sum ∷ [] ≡ row_numbers r
unfolding row_numbers
numbers-law r system sum three es et eu =
    ap₂ (λ s rest. s ∷ r.key.station ∷ r.key.satellite ∷ r.usable ∷ r.stops ∷ rest) es
    (three-law r.extremes three (sum ∷ []) et ∙ ap (λ u. extremes_numbers r.extremes ++ (u ∷ [])) eu)

pub row-law : (ns : List ℕ) (system : System) (extremes : Extremes) (sum : ℤ) → system ≡ system_with (get_or ns 0 0)
    → extremes ≡ extremes_with (get_or ns 5 0) (get_or ns 6 0) (get_or ns 7 0) → sum ≡ signed 63 (get_or ns 8 0)
    → record {
      key = record { system = system; station = get_or ns 1 0 % 65536; satellite = get_or ns 2 0 % 256 };
      usable = get_or ns 3 0 % 4294967296;
      stops = get_or ns 4 0 % 4294967296;
      extremes = extremes;
      sum = sum;
    }
    ≡ row_with ns
unfolding row_with
row-law ns system extremes sum es ee eu = rw (es, ee, eu)

pub length-row : (r : Row) → length (report_row.codes r) ≡ 29
length-row r = length-sized sizes (row_numbers r)

-- a row put in two parts
pub put-parts : (r : Row) (ns l : List ℕ) (at : ℕ) {key all : List ℕ} → ns ≡ row_numbers r → key ≡ sets l at (sized_bytes key_sizes ns)
    → all ≡ sets key (at + 12) (sized_bytes end_sizes (drop 5 ns)) → all ≡ sets l at (report_row.codes r)
put-parts r ns l at en ek ea =
    ea ∙ ap (λ k. sets k (at + 12) (sized_bytes end_sizes (drop 5 ns))) ek
    ∙ ap (λ j. sets (sets l at (sized_bytes key_sizes ns)) j (sized_bytes end_sizes (drop 5 ns))) on
    ∙ sym (sets-both (sized_bytes key_sizes ns) (sized_bytes end_sizes (drop 5 ns)) l at)
    ∙ ap (sets l at) (sym (sized-both key_sizes end_sizes ns) ∙ ap (sized_bytes sizes) en)
  where
    on : at + 12 ≡ at + length (sized_bytes key_sizes ns)
    on = omega (arith, length-sized key_sizes ns)

-- the row at the start of some bytes
pub row_read_lem : (bs : List ℕ) → row_with (sized_in sizes bs) ≡ entry_of report_row bs
row_read_lem bs = sym (ap row_with (sized-take sizes 29 bs (omega arith)))

-- ---- a row comes back

module _ (r : Row) where
  pub names-back : names_row (row_numbers r) ≡ true
  unfolding names_row row_numbers
  names-back = go r.key.system r.extremes
    where
      go : (s : System) (e : Extremes) → names_row
          (system_number s ∷ r.key.station ∷ r.key.satellite ∷ r.usable ∷ r.stops ∷ (extremes_numbers e ++ (code 63 r.sum ∷ []))) ≡ true
      go Gps Absent = refl
      go Gps (Present a b) = refl
      go Glonass Absent = refl
      go Glonass (Present a b) = refl

  module _ (t : RowFits r) where
    within : Within sizes (row_numbers r)
    unfolding row_numbers
    within = (system r.key.system, (t.station, (t.satellite, (t.usable, (t.stops, ends r.extremes t.extremes)))))
      where
        system : (s : System) → system_number s < 256 ^ 1
        system Gps = omega arith
        system Glonass = omega arith

        ends : (e : Extremes) → EndsFit e → Within (1 ∷ 4 ∷ 4 ∷ 8 ∷ []) (extremes_numbers e ++ (code 63 r.sum ∷ []))
        ends Absent h = (omega arith, (omega arith, (omega arith, (code_lt 63 r.sum t.sum, tt))))
        ends (Present a b) h = (omega arith, (code_lt 31 a h.0, (code_lt 31 b h.1, (code_lt 63 r.sum t.sum, tt))))

    row_back : row_with (row_numbers r) ≡ r
    unfolding row_numbers
    row_back =
        sym (row-law (row_numbers r) r.key.system r.extremes r.sum (sym (system r.key.system)) (sym (ends r.extremes t.extremes))
        (sym (sums r.extremes)))
        ∙ rw (mod-eq_of_lt t.station, mod-eq_of_lt t.satellite, mod-eq_of_lt t.usable, mod-eq_of_lt t.stops)
      where
        system : (s : System) → system_with (system_number s) ≡ s
        system Gps = refl
        system Glonass = refl

        end : (z : ℤ) → mag z < 2 ^ 31 → signed 31 (code 31 z % 2 ^ 32) ≡ z
        end z h = ap (signed 31) (mod-eq_of_lt (code_lt 31 z h)) ∙ signed-code 31 z h

        all : Extremes → List ℕ
        all e = extremes_numbers e ++ (code 63 r.sum ∷ [])

        ends : (e : Extremes) → EndsFit e → extremes_with (get_or (all e) 0 0) (get_or (all e) 1 0) (get_or (all e) 2 0) ≡ e
        ends Absent h = refl
        ends (Present a b) h = ap₂ Present (end a h.0) (end b h.1)

        sums : (e : Extremes) → signed 63 (get_or (all e) 3 0) ≡ r.sum
        sums Absent = signed-code 63 r.sum t.sum
        sums (Present a b) = signed-code 63 r.sum t.sum

    -- bytes of a row, whatever follows
    pub bytes_back : (rest : List ℕ) → entry_of report_row (report_row.codes r ++ rest) ≡ r
    bytes_back rest = sym (row_read_lem (report_row.codes r ++ rest)) ∙ ap row_with (sized-back sizes (row_numbers r) rest within) ∙ row_back

    pub named_back : (rest : List ℕ) → names_row (sized_in sizes (report_row.codes r ++ rest)) ≡ true
    named_back rest = ap names_row (sized-back sizes (row_numbers r) rest within) ∙ names-back
