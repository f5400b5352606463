-- Figures of a list of weights.
use Rattle.std.specs.Prelude.{List, ℤ, pos, ◌+ℤ◌, ◌-ℤ◌, fold, slice_index_or}
use Rattle.std.specs.Int.{int_max, int_min}

abbrev pub total : List ℤ → ℤ
total ws = fold ◌+ℤ◌ (pos 0) ws

-- the greatest and the least, or 0 of no weights
abbrev pub highest : List ℤ → ℤ
highest ws = fold int_max (slice_index_or ws 0 (pos 0)) ws

abbrev pub lowest : List ℤ → ℤ
lowest ws = fold int_min (slice_index_or ws 0 (pos 0)) ws

-- how far the weights lie apart
abbrev pub spread : List ℤ → ℤ
spread ws = highest ws -ℤ lowest ws
