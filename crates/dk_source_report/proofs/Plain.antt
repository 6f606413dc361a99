-- Printable bytes are a text.
use Rattle.std.proofs.Common.{◌≡◌, ◌<◌, ℕ, true, List, [], ◌∷◌, arith}
use Rattle.std.specs.List.{list_all}
use Rattle.std.specs.Str.{IsAscii, IsUtf8}
use Rattle.std.proofs.lemmas.Bool.Decides.{nat_tests}
use Rattle.std.proofs.lemmas.Str.{IsUtf8-from_ascii}
use Rattle.std.proofs.lemmas.Str.Ascii.{IsAscii-nil, IsAscii-cons}
use Rattle.dk_source_report.specs.Words.{is_plain, is_printable}

first_plain : (b : ℕ) (bs : List ℕ) → list_all is_plain (b ∷ bs) ≡ true → (b < 128) × (list_all is_plain bs ≡ true)
first_plain b bs h = (grind (arith, nat_tests), grind (arith, nat_tests))

plain_ascii : (text : List ℕ) → list_all is_plain text ≡ true → IsAscii text
plain_ascii [] h = IsAscii-nil
plain_ascii (b ∷ bs) h = IsAscii-cons b bs (first_plain b bs h).0 (plain_ascii bs (first_plain b bs h).1)

pub printable_text : (text : List ℕ) → is_printable text ≡ true → IsUtf8 text
printable_text text h = let plain : list_all is_plain text ≡ true = grind (arith, nat_tests) in IsUtf8-from_ascii text (plain_ascii text plain)
