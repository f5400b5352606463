-- The kinds of record.
use Rattle.std.specs.Prelude.{ℕ, ℤ}
use Rattle.store.specs.declared.record.Weight.{Weight}
use Rattle.store.specs.declared.record.Stamped.{Stamped}

-- a weight alone
abbrev pub weight_alone : ℤ → ℕ → Weight
weight_alone w tick = record { 0 = w }

abbrev pub weight_of : Weight → ℤ
weight_of r = r.0

-- a weight with the number of its tick
abbrev pub stamped : ℤ → ℕ → Stamped
stamped w tick = record { weight = w; tick = tick }

abbrev pub stamped_weight : Stamped → ℤ
stamped_weight r = r.weight
