-- What the kinds of scale show, and what a sample makes of them. Weights stand newest first.
use Rattle.std.specs.Prelude.{◌≡◌, ℕ, Bool, false, ◌&&◌, List, [], ◌∷◌, length, take, ℤ, pos, ◌==◌, int_le, nat_lt, slice_index_or}
use Rattle.weight.specs.Range.{cut, most}
use Rattle.weight.specs.Rounding.{rounding}
use Rattle.scale.specs.declared.reading.Reading.{Reading}
use Rattle.scale.specs.declared.reading.Sample.{Sample}
use Rattle.scale.specs.declared.settings.Settings.{Settings}
use Rattle.scale.specs.Conversion.{converted}
use Rattle.scale.specs.Figures.{total, spread}

-- before any sample
abbrev pub unsampled : Reading
unsampled = record { gross = pos 0; stable = false }

-- a new weight in front of the last ones, of which k are kept
abbrev pub newest : ℕ → ℤ → List ℤ → List ℤ
newest k w ws = take k (w ∷ ws)

-- a head shows the sample, cut to the range of weights, and its mark
abbrev pub head_shows : Sample → Reading
head_shows x = record { gross = cut most x.value; stable = x.steady }

-- over how many weights a converter is stable
abbrev pub settled_over : ℕ
settled_over = 8

-- eight weights have come, and they differ by at most r
abbrev pub settled : ℤ → List ℤ → Bool
settled r ws = length ws == settled_over && int_le (spread ws) r

-- a converter shows the newest of its last weights, and whether they have settled
abbrev pub converter_shows : Settings → List ℤ → Reading
converter_shows s ws = record { gross = slice_index_or ws 0 (pos 0); stable = settled s.width ws }

-- a sample puts its weight in front of the last eight, and the settings stay
pub record ConverterTakes (s : Settings) (ws : List ℤ) (x : Sample) (s' : Settings) (ws' : List ℤ) : Type 0 where
  pub settings : s' ≡ s
  pub weights : ws' ≡ newest settled_over (converted s x.value) ws

-- over how many weights a smoothing layer takes the mean
abbrev pub mean_over : ℕ
mean_over = 4

-- the rounded mean of some weights, or 0 of none
abbrev pub mean : List ℤ → ℤ
mean [] = pos 0
mean (w ∷ ws) = rounding (total (w ∷ ws)) (length (w ∷ ws))

-- a smoothing layer shows the mean of the last weights below it, and once one has come is stable when the scale below is
abbrev pub smoothing_shows : List ℤ → Reading → Reading
smoothing_shows ws below = record { gross = mean ws; stable = nat_lt 0 (length ws) && below.stable }

-- a sample that went down puts what is then shown below in front of the last four
abbrev pub SmoothingTakes : List ℤ → Reading → List ℤ → Type 0
SmoothingTakes ws below ws' = ws' ≡ newest mean_over below.gross ws
