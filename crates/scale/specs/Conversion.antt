-- What weight a converter makes of a code.
use Rattle.std.specs.Prelude.{ℕ, ◌*◌, Bool, false, ◌&&◌, ◌||◌, ℤ, pos, negsuc, ◌-ℤ◌, ◌*ℤ◌, neg_ℤ, ◌==◌, int_le, unsigned_abs}
use Rattle.weight.specs.Range.{cut, most}
use Rattle.weight.specs.Rounding.{rounding}
use Rattle.scale.specs.declared.settings.Settings.{Settings}

-- the codes of a converter lie from −8,388,607 to 8,388,607
abbrev pub last_code : ℕ
last_code = 8388607

-- the widest span
abbrev pub widest_span : ℕ
widest_span = 16777215

-- n lies from low to high
abbrev pub between : ℤ → ℤ → ℤ → Bool
between n low high = int_le low n && int_le n high

-- the divisions in which a weight may be shown
abbrev pub is_division : ℤ → Bool
is_division (pos e) = e == 1 || e == 2 || e == 5 || e == 10 || e == 20 || e == 50
is_division (negsuc e) = false

-- the codes of a converter: its zero and its span
abbrev pub codes_in_range : Settings → Bool
codes_in_range s = between s.zero (neg_ℤ (pos last_code)) (pos last_code) && between s.span (pos 1) (pos widest_span)

-- its weights: the capacity, the division and the width
abbrev pub weights_in_range : Settings → Bool
weights_in_range s = between s.capacity (pos 1) (pos most) && is_division s.division && between s.width (pos 0) (pos most)

-- each number of a converter is in its range
abbrev pub settings_in_range : Settings → Bool
settings_in_range s = codes_in_range s && weights_in_range s

-- span × e: as both are above 0, the product of their magnitudes
abbrev pub divisor : Settings → ℕ
divisor s = unsigned_abs s.span * unsigned_abs s.division

-- the gross weight of a code, which beyond the last codes counts as the nearer one:
-- e × rounded((code − zero) × capacity ÷ (span × e)), cut to the range of weights
unfoldable pub converted : Settings → ℤ → ℤ
converted s code = cut most (rounding ((cut last_code code -ℤ s.zero) *ℤ s.capacity) (divisor s) *ℤ s.division)
