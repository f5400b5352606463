use Rattle.std.proofs.Common.{◌≡◌, ◌*◌, ◌≤◌, true, ℤ, nat_abs, rules}
use Rattle.std.proofs.lemmas.Nat.{mul-le}
use Rattle.weight.specs.Range.{most}
use Rattle.scale.specs.declared.settings.Settings.{Settings}
use Rattle.scale.specs.Conversion.{converted, last_code, settings_in_range}
use Rattle.scale.proofs.Ranges.{ranges}
use Rattle.scale.proofs.converter.Converter.weight_of.Goals as goal

-- a code above zero times capacity
product_small : (s : Settings) → settings_in_range s ≡ true → (a : ℤ) → nat_abs a ≤ 2 * last_code → nat_abs a * nat_abs s.capacity ≤ 2 * last_code * most
product_small s h a l = mul-le (nat_abs a) (nat_abs s.capacity) (2 * last_code) most l (ranges s h).capacity

pub times-product-requires : goal.times-product-requires
times-product-requires c =
    let s = c.args.self.now.settings in
    let b = product_small s c.args.self.now.made c.above_zero.result c.above_zero.ensures.size in
    search rules

pub times-requires : goal.times-requires
times-requires c =
    let s = c.args.self.now.settings in
    let g = ranges s c.args.self.now.made in
    let b = product_small s c.args.self.now.made c.above_zero.result c.above_zero.ensures.size in
    let r : nat_abs c.rounded-divisions.result ≤ 2 * last_code * most = search rules in
    let d = mul-le (nat_abs c.rounded-divisions.result) (nat_abs s.division) (2 * last_code * most) 50 r g.division in
    search rules

pub returns : goal.returns
unfolding converted
returns c = record { value = search rules; range = search rules }
