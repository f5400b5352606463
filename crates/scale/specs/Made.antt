-- How a converter comes from its settings.
use Rattle.std.specs.Prelude.{◌≡◌, true, false, [], Ok, Err, Result}
use Rattle.weight.specs.declared.fault.Fault.{Fault}
use Rattle.weight.specs.declared.fault.Fault.TheVariants.{OutOfRange}
use Rattle.scale.specs.declared.converter.Converter.{Converter}
use Rattle.scale.specs.declared.settings.Settings.{Settings}
use Rattle.scale.specs.Conversion.{settings_in_range}
use Rattle.scale.specs.Kinds.{converter_shows, unsampled}
use Rattle.scale.specs.Windows.{last_weights}

-- A converter is made exactly where each of its numbers is in range. It keeps them, and no sample has come.
abbrev pub ConverterMade : Settings → Result Converter Fault → Type 0
ConverterMade s (Ok c) = (settings_in_range s ≡ true) × (c.settings ≡ s) × (last_weights c.window ≡ []) × (converter_shows c.settings (last_weights c.window) ≡ unsampled)
ConverterMade s (Err f) = (settings_in_range s ≡ false) × (f ≡ OutOfRange)
