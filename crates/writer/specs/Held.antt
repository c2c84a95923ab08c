-- Values whose numbers fit the fields of their records, as those of every book do. Assumes nothing: these are definitions.
use Rattle.std.specs.Prelude.{◌^◌, ◌<◌}
use Rattle.std.specs.Int.Signed.{mag}
use Rattle.book.specs.declared.record.Test.{Test}
use Rattle.book.specs.declared.record.Test.TheVariants.{Constant, Position, Gap}
use Rattle.book.specs.Limits.{All}
use Rattle.book.specs.Rules.{Rule}

abbrev pub Held : Test → Type 0
Held (Constant place relation number) = (place < 256) × (relation < 256) × (number < 2 ^ 32)
Held (Position place relation condition other) = (place < 256) × (relation < 256) × (condition < 256) × (other < 256)
Held (Gap place condition other low high) = (place < 256) × (condition < 256) × (other < 256) × (mag low < 2 ^ 63) × (mag high < 2 ^ 63)

abbrev pub RuleHeld : Rule → Type 0
RuleHeld rule = (rule.number < 2 ^ 16) × All (All Held) rule.conditions
