-- The records of a book from a place on, which the reader of rows goes over. No public contract cites this. Assumes nothing: these are definitions.
use Rattle.std.specs.Prelude.{ℕ, ◌-◌, List, length}
use Rattle.book.specs.declared.record.Record.{Record}
use Rattle.writer.specs.declared.read.Records.{Records}
use Rattle.writer.specs.Values.{records_from}

-- a record takes a byte at least
unfoldable pub records_at : List ℕ → ℕ → List Record
records_at book at = records_from (length book - at) book at

abbrev pub records_left : Records → List Record
records_left s = records_at s.book.now s.at
