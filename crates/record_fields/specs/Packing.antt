-- The field that the code reads, and what the packer does, step by step: the definitions that the contracts cite.
-- What a packer holds is in proofs/Holds. Assumes nothing.
use Rattle.std.specs.Prelude.{◌||◌, cond, List, [], ◌∷◌, ℕ, ◌+◌, ◌*◌, ◌-◌, ◌/◌, ◌%◌, ◌^◌, set, replicate, ltb, leb, eqb}
use Rattle.bits.specs.Fields.{field_at}
use Rattle.bits.specs.Rows.{data_bits}
use Rattle.record_fields.specs.declared.Packer.{Packer}

-- a field of the 744 data bits of 31 words; 0 for a field that is wider than 32 bits or goes past them
unfoldable pub field_in : List ℕ → ℕ → ℕ → ℕ
field_in ws o w = cond (ltb 32 w || ltb 744 (o + w)) 0 (field_at o w (data_bits ws))

unfoldable pub empty_packer : Packer
empty_packer = record { words = replicate 31 0; whole = 0; held = 0; rest = 0 }

-- one whole word goes from the rest to the words
unfoldable pub flushed : Packer → Packer
flushed p =
    cond (ltb p.held 24 || leb 31 p.whole) p record {
      words = set p.words p.whole (p.rest / 2 ^ (p.held - 24) % 2 ^ 24);
      whole = p.whole + 1;
      held = p.held - 24;
      rest = p.rest % 2 ^ (p.held - 24);
    }

-- w bits after the rest
unfoldable pub joined : Packer → ℕ → ℕ → Packer
joined p w v = record { words = p.words; whole = p.whole; held = p.held % 24 + w; rest = p.rest % 2 ^ 24 * 2 ^ w + v % 2 ^ w }

-- one field
unfoldable pub pushed : Packer → ℕ → ℕ → Packer
pushed p w v = cond (ltb 32 w) p (flushed (flushed (joined p w v)))

-- the fields of a row, one after the other
abbrev pub pushed_all : List ℕ → List ℕ → Packer → Packer
pushed_all [] vs p = p
pushed_all (w ∷ ws) [] p = pushed_all ws [] (pushed p w 0)
pushed_all (w ∷ ws) (v ∷ vs) p = pushed_all ws vs (pushed p w v)

-- row after row
abbrev pub pushed_rows : List ℕ → List (List ℕ) → Packer → Packer
pushed_rows ws [] p = p
pushed_rows ws (r ∷ rs) p = pushed_rows ws rs (pushed_all ws r p)

-- the fill, up to the end of the word
unfoldable pub filled_up : ℕ → Packer → Packer
filled_up pattern p = cond (eqb (p.held % 24) 0) p (pushed p (24 - p.held % 24) (pattern / 2 ^ (p.held % 24)))
