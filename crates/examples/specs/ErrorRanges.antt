-- Where an error is in the text of the settings.
use Rattle.std.specs.Prelude.{ℕ}
use Rattle.std.specs.declared.ops.Range.{Range}
use Rattle.examples.specs.declared.errors.settings.SettingsError.{SettingsError}
use Rattle.examples.specs.declared.errors.settings.SettingsError.TheVariants.{NotANumber, SetTwice}
use Rattle.examples.specs.declared.errors.settings.SettingsError.TheVariants.{UnknownKey}

-- the bytes that are wrong: of a key that is set twice, the second time
abbrev pub error_range : SettingsError → Range ℕ
error_range (NotANumber key value) = value
error_range (SetTwice key first again) = again
error_range (UnknownKey key_range suggestion) = key_range
