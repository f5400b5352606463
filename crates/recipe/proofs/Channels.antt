-- A weight falls to a channel exactly when it lies between the channel's limits.
use Rattle.std.proofs.Common.{◌≡◌, ℕ, zero, suc, ◌+◌, ◌-◌, ◌<◌, ◌≤◌, true, not, List, [], ◌∷◌, length, get_or, ℤ, pos, ◌≤ℤ◌, ◌<ℤ◌, int_lt, Some, Option, refl, ⊎_elim, arith}
use Rattle.std.proofs.lemmas.Int.{ints}
use Rattle.std.proofs.lemmas.List.Sums.{prefix_len-le-length, prefix_len_passes, prefix_len_stops}
use Rattle.std.proofs.lemmas.Bool.{cases_order}
use Rattle.std.proofs.lemmas.Bool.Decides.{nat_tests}
use Rattle.recipe.specs.Items.{channel_from, channel_of, reached, channel_answer, lies_within, BetweenLimits, FoundChannel}
use Rattle.recipe.specs.Sorts.{SortValues, rising, sort_keeps}

-- the channel from k on is k and as many more as limits are reached
channel_past_from : (k : ℕ) (ps : List ℕ) (x : ℤ) → channel_from k ps x ≡ k + reached ps x
channel_past_from k [] x = omega arith
channel_past_from k (p ∷ ps) x = grind (arith, channel_past_from (k + 1) ps x)

pub channel_past : (ps : List ℕ) (x : ℤ) → channel_of ps x ≡ reached ps x + 1
channel_past ps x = omega (arith, channel_past_from 1 ps x)

-- the channel of x lies between its limits
module _ (ps : List ℕ) (x : ℤ) where
  reached_below : (k : ℕ) → k < reached ps x → pos (get_or ps k 0) ≤ℤ x
  reached_below k l = let t = prefix_len_passes (λ p. not (int_lt x (pos p))) ps k 0 l in grind (arith, ints, nat_tests)

  next_above : reached ps x < length ps → x <ℤ pos (get_or ps (reached ps x) 0)
  next_above l = let t = prefix_len_stops (λ p. not (int_lt x (pos p))) ps 0 l in grind (arith, ints, nat_tests)

  between : (k : ℕ) → channel_of ps x ≡ k → BetweenLimits ps k x
  between k e =
      let is : k ≡ reached ps x + 1 = omega (arith, e, channel_past ps x) in
      let few : reached ps x ≤ length ps = prefix_len-le-length _ ps in
      record {
        first = omega (arith, is);
        last = omega (arith, is);
        from = λ l. reached_below (k - 1 - 1) (omega (arith, is));
        below = λ l. grind (arith, next_above, is);
      }

-- no number of a rising chain lies below one that stands before it
ordered : (b : ℕ) (ps : List ℕ) → rising b ps ≡ true → (i k : ℕ) → i ≤ k → k ≤ length ps → get_or (b ∷ ps) i 0 ≤ get_or (b ∷ ps) k 0
ordered b ps h zero zero o l = omega arith
ordered b ps h (suc i) zero o l = absurd (omega arith)
ordered b [] h i (suc k) o l = absurd (omega arith)
ordered b (p ∷ ps) h zero (suc k) o l =
    let next = ordered p ps (grind (arith, nat_tests)) 0 k (omega arith) (omega arith) in
    grind (arith, nat_tests)
ordered b (p ∷ ps) h (suc i) (suc k) o l = grind (arith, nat_tests, ordered p ps)

-- so x lies between the limits of one channel alone
module _ (b : ℕ) (ps : List ℕ) (h : rising b ps ≡ true) (x : ℤ) where
  apart : (k n : ℕ) → BetweenLimits ps k x → BetweenLimits ps n x → k < n → ⊥
  apart k n p q l =
      let under : x <ℤ pos (get_or ps (k - 1) 0) = p.below (omega (arith, q.last)) in
      let over : pos (get_or ps (n - 1 - 1) 0) ≤ℤ x = q.from (omega (arith, p.first)) in
      let o : get_or ps (k - 1) 0 ≤ get_or ps (n - 1 - 1) 0 = ordered b ps h (suc (k - 1)) (suc (n - 1 - 1)) (omega (arith, p.first)) (omega (arith, p.first, q.last)) in
      omega (arith, ints)

  alone : (k n : ℕ) → BetweenLimits ps k x → BetweenLimits ps n x → k ≡ n
  alone k n p q =
      ⊎_elim (λ e. e) (⊎_elim (λ l. absurd (apart k n p q l)) (λ l. absurd (apart n k q p l))) (cases_order k n)

module _ (v : SortValues) (x : ℤ) where
  found_at : (k : ℕ) → lies_within v k x ≡ true → channel_answer v x ≡ Some k
  found_at k h = grind (arith, nat_tests)

  lies_at : (k : ℕ) → channel_answer v x ≡ Some k → lies_within v k x ≡ true
  lies_at k h = grind (arith, nat_tests)

  -- the channel that is found is the one within whose bounds the weight lies
  pub found_channel : (o : Option ℕ) → o ≡ channel_answer v x → sort_keeps v ≡ true → FoundChannel v x o
  found_channel o e h = rw e (record {
    within = λ k. (found_at k, lies_at k);
    bounds = λ k a. (grind (arith, nat_tests), between v.limits x k (grind (arith, nat_tests)));
    alone = λ k w.
        let is : channel_of v.limits x ≡ k = alone v.zone v.limits (grind (arith, nat_tests)) x (channel_of v.limits x) k (between v.limits x (channel_of v.limits x) refl) w.1 in
        let counts = w.0 in
        grind (arith, nat_tests);
  })
