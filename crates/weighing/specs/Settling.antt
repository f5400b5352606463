-- When weights have settled.
use Rattle.std.specs.Prelude.{◌≡◌, ℕ, ◌<◌, List, length, ℤ, pos, ◌-ℤ◌, ◌≤ℤ◌, Decides, slice_index_or}
use Rattle.scale.specs.Kinds.{settled, settled_over}

-- there are eight of them, and every two differ by at most r
pub record Alike (r : ℤ) (ws : List ℤ) : Type 0 where
  pub eight : length ws ≡ settled_over
  pub near : (i j : ℕ) → i < settled_over → j < settled_over → (slice_index_or ws i (pos 0) -ℤ slice_index_or ws j (pos 0)) ≤ℤ r

abbrev pub SettledWhenAlike : Type 0
SettledWhenAlike = (r : ℤ) (ws : List ℤ) → Decides (settled r ws) (Alike r ws)
