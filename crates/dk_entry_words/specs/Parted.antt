-- The byte between two words.
use Rattle.std.specs.Prelude.{ℕ}
use Rattle.dk_entry_words.specs.declared.separator.Separator.{Separator}
pub use Rattle.dk_ledger.specs.Parted.{behind, parted}

abbrev pub byte_of : Separator → ℕ
byte_of Separator.Blank = 32
byte_of Separator.Comma = 44
