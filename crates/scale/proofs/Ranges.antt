-- What the test of a converter's numbers tells of each.
use Rattle.std.proofs.Common.{◌≡◌, ◌≤◌, true, nat_abs, arith}
use Rattle.std.proofs.lemmas.Int.{ints}
use Rattle.std.proofs.lemmas.Bool.Decides.{nat_tests}
use Rattle.weight.specs.Range.{most}
use Rattle.scale.specs.Conversion.{settings_in_range, last_code, widest_span}
use Rattle.scale.specs.declared.settings.Settings.{Settings}

pub record Ranges (s : Settings) : Type 0 where
  pub zero : nat_abs s.zero ≤ last_code
  pub span_some : 1 ≤ nat_abs s.span
  pub span : nat_abs s.span ≤ widest_span
  pub capacity : nat_abs s.capacity ≤ most
  pub division_some : 1 ≤ nat_abs s.division
  pub division : nat_abs s.division ≤ 50

pub ranges : (s : Settings) → settings_in_range s ≡ true → Ranges s
ranges s h = record {
  zero = grind (arith, ints, nat_tests);
  span_some = grind (arith, ints, nat_tests);
  span = grind (arith, ints, nat_tests);
  capacity = grind (arith, ints, nat_tests);
  division_some = grind (arith, ints, nat_tests);
  division = grind (arith, ints, nat_tests);
}
