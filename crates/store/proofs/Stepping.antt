-- The weights of a store, one position on.
use Rattle.std.proofs.Common.{◌≡◌, ℕ, zero, suc, ◌+◌, ◌<◌, List, [], ◌∷◌, length, drop, refl, suc-add, slice_get, MatchOption, arith}

pub stepped : {X : Type 0} (xs : List X) (i : ℕ) → i < length xs → MatchOption (slice_get xs i) ((drop i xs ≡ []) × (drop (i + 1) xs ≡ [])) (λ x. drop i xs ≡ x ∷ drop (i + 1) xs)
stepped [] i h = absurd (omega arith)
stepped (x ∷ xs) zero h = refl
stepped (x ∷ xs) (suc i) h = rw (suc-add i 1) (stepped xs i (omega arith))
