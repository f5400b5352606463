-- The spread of eight weights bounds the difference of every two of them, and two of them differ by it.
use Rattle.std.proofs.Common.{◌≡◌, ℕ, ◌<◌, true, List, length, get_or, ℤ, pos, ◌-ℤ◌, ◌≤ℤ◌, sym, refl, ⊎_elim, arith}
use lib.Signed.{le_z}
use Rattle.std.proofs.ByRecursion.{All-get_or, folded_max_z_bounds, folded_max_z_reached, folded_min_z_bounds, folded_min_z_reached}
use Rattle.std.proofs.lemmas.Int.{ints}
use Rattle.std.proofs.lemmas.Bool.Decides.{nat_tests}
use Rattle.scale.specs.Figures.{highest, lowest, spread}
use Rattle.scale.specs.Kinds.{settled}
use Rattle.weighing.specs.Settling.{Alike, SettledWhenAlike}

below_highest : (ws : List ℤ) (i : ℕ) → i < length ws → get_or ws i (pos 0) ≤ℤ highest ws
below_highest ws i h = All-get_or (λ x. x ≤ℤ highest ws) ws i (pos 0) h (folded_max_z_bounds (get_or ws 0 (pos 0)) ws (highest ws) refl).1

above_lowest : (ws : List ℤ) (i : ℕ) → i < length ws → lowest ws ≤ℤ get_or ws i (pos 0)
above_lowest ws i h = All-get_or (λ x. lowest ws ≤ℤ x) ws i (pos 0) h (folded_min_z_bounds (get_or ws 0 (pos 0)) ws (lowest ws) refl).1

-- a weight of the list
Of : List ℤ → ℤ → Type 0
Of ws w = (k : ℕ) × (k < length ws) × (w ≡ get_or ws k (pos 0))

highest_of : (ws : List ℤ) → 0 < length ws → Of ws (highest ws)
unfolding Of
highest_of ws some =
    ⊎_elim (λ e. (0, some, e)) (λ h. (h.0, h.1, sym (h.2 (pos 0)))) (folded_max_z_reached (get_or ws 0 (pos 0)) ws (highest ws) refl)

lowest_of : (ws : List ℤ) → 0 < length ws → Of ws (lowest ws)
unfolding Of
lowest_of ws some =
    ⊎_elim (λ e. (0, some, e)) (λ h. (h.0, h.1, sym (h.2 (pos 0)))) (folded_min_z_reached (get_or ws 0 (pos 0)) ws (lowest ws) refl)

apart : (a b h l r : ℤ) → a ≤ℤ h → l ≤ℤ b → le_z (h -ℤ l) r ≡ true → (a -ℤ b) ≤ℤ r
apart a b h l r p q s = grind (arith, ints)

pub settled_when_alike : SettledWhenAlike
unfolding Of
settled_when_alike r ws = (
  (λ (h : settled r ws ≡ true).
      let e : length ws ≡ 8 = grind (arith, nat_tests) in
      let s : le_z (spread ws) r ≡ true = grind (arith, nat_tests) in
      record {
        eight = e;
        near = λ i j p q. apart (get_or ws i (pos 0)) (get_or ws j (pos 0)) (highest ws) (lowest ws) r
            (below_highest ws i (omega arith)) (above_lowest ws j (omega arith)) s;
      }),
  (λ (a : Alike r ws).
      let e : length ws ≡ 8 = a.eight in
      let x = highest_of ws (omega arith) in
      let y = lowest_of ws (omega arith) in
      let d : (highest ws -ℤ lowest ws) ≤ℤ r = rw (x.2, y.2) (a.near x.0 y.0 (omega arith) (omega arith)) in
      grind (arith, ints, nat_tests)),
)
