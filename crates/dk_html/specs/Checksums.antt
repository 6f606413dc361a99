-- The row of a file.
use Rattle.std.specs.Prelude.{ℕ, List, ◌++◌, length, codes, decimal}
use Rattle.hex.specs.Hex.{encode_lower}
use Rattle.sha2.specs.Sha256.{sha256}
use Rattle.dk_html.specs.Escaping.{escaped}

-- the SHA-256 of the bytes, as 64 digits
abbrev pub checksum : List ℕ → List ℕ
checksum bytes = encode_lower (sha256 bytes)

abbrev pub file_start : List ℕ → List ℕ
file_start what = codes "<tr><th scope=\"row\">" ++ (what ++ codes "</th><td><code>")

abbrev pub file_end : ℕ → List ℕ → List ℕ
file_end size digest = codes "</code></td><td class=\"number\">"
    ++ (decimal size ++ (codes "</td><td class=\"hash\"><code>" ++ (digest ++ codes "</code></td></tr>\n")))

-- what the file is, its name as given, its length and its checksum
unfoldable pub file_row : List ℕ → List ℕ → List ℕ → List ℕ
file_row what name bytes = file_start what ++ (escaped name ++ file_end (length bytes) (checksum bytes))
