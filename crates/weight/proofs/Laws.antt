-- What callers use of the rounding, in place of its text.
use Rattle.std.proofs.Common.{◌≡◌, ℕ, zero, suc, ◌+◌, ◌*◌, ◌/◌, ◌%◌, ◌<◌, ◌≤◌, cond, ltb, ℤ, pos, negsuc, ◌-ℤ◌, ◌*ℤ◌, neg_ℤ, nat_abs, sym, refl, ap, ◌∙◌, ⊎_elim, add-mul, arith}
use Rattle.std.proofs.lemmas.Nat.{div-add-mod', mod_below, mul-le}
use Rattle.std.proofs.lemmas.Int.{ints}
use Rattle.std.proofs.lemmas.Bool.{cases_order}
use Rattle.std.proofs.lemmas.Bool.Decides.{nat_tests}
use Rattle.weight.specs.Rounding.{rounding, Nearest}

-- the same of naturals: a half goes up
abbrev nearest : ℕ → ℕ → ℕ
nearest n q = n / q + cond (ltb (2 * (n % q)) q) 0 1

size_neg : (k : ℕ) → nat_abs (neg_ℤ (pos k)) ≡ k
size_neg k = search arith

-- rounding goes by the magnitude, and keeps the sign
rounding-pos : (n q : ℕ) → rounding (pos n) q ≡ pos (nearest n q)
unfolding rounding
rounding-pos n q = grind (arith, ints, nat_tests)

rounding-neg : (n q : ℕ) → rounding (negsuc n) q ≡ neg_ℤ (pos (nearest (suc n) q))
unfolding rounding
rounding-neg n q = let e = size_neg (suc n % q) in grind (arith, ints, nat_tests)

rounding_size : (p : ℤ) (q : ℕ) → nat_abs (rounding p q) ≡ nearest (nat_abs p) q
rounding_size (pos n) q = ap nat_abs (rounding-pos n q)
rounding_size (negsuc n) q = ap nat_abs (rounding-neg n q) ∙ size_neg (nearest (suc n) q)

-- n ÷ q at most k: so is its rounding
nearest-le : (n q k : ℕ) → 0 < q → n ≤ k * q → nearest n q ≤ k
nearest-le n q k some h =
    let e : n / q * q + n % q ≡ n = div-add-mod' n q in
    let m : n % q < q = mod_below n q some in
    ⊎_elim
    (λ same. let f : n / q * q ≡ k * q = ap (λ x. x * q) same in grind (arith, nat_tests))
    (⊎_elim
    (λ less. grind (arith, nat_tests))
    (λ more. let f : (k + 1) * q ≤ n / q * q = mul-le (k + 1) q (n / q) q (omega arith) (omega arith) in
    absurd (omega (arith, add-mul k 1 q))))
    (cases_order (n / q) k)

-- where p ÷ q lies within k of zero, so does its rounding
pub rounding-le : (p : ℤ) (q k : ℕ) → 0 < q → nat_abs p ≤ k * q → nat_abs (rounding p q) ≤ k
rounding-le p q k some h = rw (rounding_size p q) (nearest-le (nat_abs p) q k some h)

pub rounding-le_self : (p : ℤ) (q : ℕ) → 0 < q → nat_abs (rounding p q) ≤ nat_abs p
rounding-le_self p q some =
    let h : nat_abs p * 1 ≤ nat_abs p * q = mul-le (nat_abs p) 1 (nat_abs p) q (omega arith) some in
    rounding-le p q (nat_abs p) some (omega arith)

-- a natural and the multiple of q at its rounding: they lie at most half of q apart, and at half the multiple is the larger
nearest_near : (n q : ℕ) → 0 < q → Nearest (pos n) q (pos (nearest n q))
nearest_near n q some =
    let e : n / q * q + n % q ≡ n = div-add-mod' n q in
    let m : n % q < q = mod_below n q some in
    let a : (n / q + 0) * q ≡ n / q * q = omega (arith, add-mul (n / q) 0 q) in
    let b : (n / q + 1) * q ≡ n / q * q + q = omega (arith, add-mul (n / q) 1 q) in
    record { near = grind (arith, ints, nat_tests); half = λ h. grind (arith, ints, nat_tests) }

times_neg : (k q : ℕ) → neg_ℤ (pos k) *ℤ pos q ≡ neg_ℤ (pos (k * q))
times_neg zero q = omega (arith, ints)
times_neg (suc k) q = refl

-- the distance below zero is the one above it
mirrored : (n k q : ℕ) → nat_abs (negsuc n -ℤ (neg_ℤ (pos k) *ℤ pos q)) ≡ nat_abs (pos (suc n) -ℤ (pos k *ℤ pos q))
mirrored n k q = rw (times_neg k q) (distance (k * q))
  where
    distance : (m : ℕ) → nat_abs (negsuc n -ℤ neg_ℤ (pos m)) ≡ nat_abs (pos (suc n) -ℤ pos m)
    distance m = grind (arith, ints)

-- the rounding is the nearest whole number
pub rounding-Nearest : (p : ℤ) (q : ℕ) → 0 < q → Nearest p q (rounding p q)
rounding-Nearest (pos n) q some = rw (rounding-pos n q) (nearest_near n q some)
rounding-Nearest (negsuc n) q some =
    let k = nearest (suc n) q in
    let w = nearest_near (suc n) q some in
    rw (rounding-neg n q) (record {
      near = rw (mirrored n k q) w.near;
      half = λ h. rw (size_neg k) (w.half (rw (sym (mirrored n k q)) h));
    })
