-- Text that a browser shows as it is.
use Rattle.std.specs.Prelude.{ℕ, ◌≡◌, List, [], ◌∷◌, ◌==◌, if◌then◌else◌, flat_map, codes}

-- a byte of a text, by its name where it would be read as the beginning of something else
abbrev pub escaped_byte : ℕ → List ℕ
escaped_byte b =
    if b == 38 then codes "&amp;" else (
    if b == 60 then codes "&lt;" else (
    if b == 62 then codes "&gt;" else (
    if b == 34 then codes "&quot;" else (
    if b == 13 then codes "&#13;" else (b ∷ [])))))

abbrev pub escaped : List ℕ → List ℕ
escaped text = flat_map escaped_byte text

-- no two texts are shown by the same bytes
abbrev pub IsEscapedOnce : Type 0
IsEscapedOnce = (s t : List ℕ) → escaped s ≡ escaped t → s ≡ t
