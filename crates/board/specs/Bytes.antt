-- The relays that are set from a byte make that byte again.
use Rattle.std.proofs.Common.{◌≡◌, ℕ, ◌*◌, ◌%◌, ◌<◌, cond, eqb, arith}
use Rattle.std.proofs.lemmas.Bool.Decides.{nat_tests}
use Rattle.board.specs.Relays.{bits, byte_of}

adds_bit : (v x : ℕ) → cond (eqb (x % 2) 1) v 0 ≡ v * (x % 2)
adds_bit v x = grind (arith, nat_tests)

pub byte_bits : (b : ℕ) → b < 256 → byte_of (bits b) ≡ b
byte_bits b h = simp adds_bit (omega arith)
