-- What contracts see of a file.
use Rattle.std.specs.Prelude.{ℕ, List}
use Rattle.dk_review.specs.declared.file.NamedFile.{NamedFile}

-- its name as given, and what it holds
pub record File : Type 0 where
  pub name : List ℕ
  pub bytes : List ℕ

abbrev pub file_of : NamedFile → File
file_of f = record { name = f.name.now; bytes = f.bytes.now }
